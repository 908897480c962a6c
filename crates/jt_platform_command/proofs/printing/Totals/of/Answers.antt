use Rattle.std.proofs.Common.{◌++◌, [], ◌∷◌, take, ap, sym, ◌∙◌, arith}
use Rattle.std.proofs.lemmas.List.{take_more}
use Rattle.jt_platform.specs.declared.request.Entry.{Entry}
use Rattle.jt_platform_command.specs.Platform.{is_stored, is_repeat, is_renumbered}
use Rattle.jt_platform_command.proofs.Folds.{count_more, few_of}
use Rattle.jt_platform_command.proofs.printing.Totals.of.Goals as goal

pub with-totals-requires-clause-stored : goal.with-totals-requires-clause-stored
with-totals-requires-clause-stored c = let few = few_of is_stored c.args.history.now c.loop-entry.entry-index _ c.loop-entry.invariant.0 in omega (arith, few)

pub with-totals-requires-clause-repeat : goal.with-totals-requires-clause-repeat
with-totals-requires-clause-repeat c = let few = few_of is_repeat c.args.history.now c.loop-entry.entry-index _ c.loop-entry.invariant.1 in omega (arith, few)

pub with-totals-requires-clause-renumbered : goal.with-totals-requires-clause-renumbered
with-totals-requires-clause-renumbered c = let few = few_of is_renumbered c.args.history.now c.loop-entry.entry-index _ c.loop-entry.invariant.2 in omega (arith, few)

pub loop-entry-preserved : goal.loop-entry-preserved
loop-entry-preserved c =
    let xs = c.args.history.now in
    let i = c.loop-entry.entry-index in
    let x = c.entry-item.result in
    let more = take_more xs i x (omega (arith, c.loop-entry-test.true)) ∙ ap (λ (y : Entry). take i xs ++ y ∷ []) (sym c.entry-item.is) in (
      c.with-totals.ensures.stored ∙ count_more is_stored xs i _ x more c.loop-entry.invariant.0,
      c.with-totals.ensures.repeat ∙ count_more is_repeat xs i _ x more c.loop-entry.invariant.1,
      c.with-totals.ensures.renumbered ∙ count_more is_renumbered xs i _ x more c.loop-entry.invariant.2,
    )
