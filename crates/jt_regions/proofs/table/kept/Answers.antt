use Rattle.std.proofs.Common.{arith}
use Rattle.std.specs.FinMap.{from_entries}
use Rattle.std.proofs.lemmas.Map.Entries.{entries_from_clone}
use Rattle.std.proofs.lemmas.List.Elements.{length_all_zip}
use Rattle.jt_regions.proofs.Filling.{kept_none, kept_copy}
use Rattle.jt_regions.proofs.table.kept.Goals as goal

pub returns-then-setting-eq0-clause-regions : goal.returns-then-setting-eq0-clause-regions
returns-then-setting-eq0-clause-regions g c = λ id. rw c.new.ensures.empty (kept_none c.args.setting (from_entries c.args.regions.now.entries) id c.if-setting-eq0.true)

pub returns-clause-regions : goal.returns-clause-regions
returns-clause-regions g c = λ id.
    kept_copy c.args.setting c.args.regions.now.entries c.in_ok-clone.field-0.entries id c.if-setting-eq0.false (entries_from_clone _ _ (λ x y same. same) g.met.T.Identified.copied _ _ c.in_ok-clone.ensures.cases)

pub returns-clause-len : goal.returns-clause-len
returns-clause-len g c = let same = length_all_zip _ _ _ c.in_ok-clone.ensures.cases in omega arith
