use Rattle.std.proofs.Common.{refl, arith}
use Rattle.std.proofs.lemmas.Grind.{common_steps}
use Rattle.jt_view.proofs.Counting.{brings}
use Rattle.jt_view.proofs.tally.Tally.judge.Goals as goal

pub returns-clause-checks : goal.returns-clause-checks
returns-clause-checks c =
    let taken = c.take_in_place-count in
    let judges = c.in_ok-judgement.ensures in
    rw (← c.self.view_is)
    (record {
      entry = judges.entry;
      brings = brings c.law_all_items.ensures.only _ _ _ _ judges.told.items judges.entry (taken.ensures.items judges.told.items judges.told.each) judges.told.entry_is (grind (arith, common_steps)) refl refl
          (c.count-refusal.ensures.counted judges.entry judges.judgement_is);
      refusal_is = c.count-refusal.ensures.refusal judges.entry judges.judgement_is;
    })
