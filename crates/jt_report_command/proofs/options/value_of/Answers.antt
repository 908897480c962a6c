use Rattle.std.proofs.Common.{string_bytes, refl}
use Rattle.jt_report_command.proofs.Passing.{goes_on_from, within, too_many_from, none_left, some_at_end, have_at_end}
use Rattle.jt_report_command.proofs.options.value_of.Goals as goal

pub returns-in_err-now-clause-none : goal.returns-in_err-now-clause-none
returns-in_err-now-clause-none c = λ e.
    too_many_from string_bytes c.args.words.now c.loop-from.from c.args.name.now _ c.loop-from.invariant.1 (c.in_err-now.ensures.none refl)

pub loop-from-preserved : goal.loop-from-preserved
loop-from-preserved c =
    let s = c.in_ok-now.ensures.some in (
      within c.args.words.now c.loop-from.from c.in_ok-now.count c.loop-from.invariant.0 s.1,
      goes_on_from string_bytes c.args.words.now c.loop-from.from c.in_ok-now.count c.args.name.now _ _ c.loop-from.invariant.1 s.2,
    )

pub returns-clause-some : goal.returns-clause-some
returns-clause-some c =
    some_at_end c.args.name.now _ _ _ c.loop-from.invariant.1 (none_left string_bytes c.args.words.now c.loop-from.from c.loop-from-test.false)

pub returns-clause-value : goal.returns-clause-value
returns-clause-value c =
    have_at_end c.args.name.now _ _ _ c.loop-from.invariant.1 (none_left string_bytes c.args.words.now c.loop-from.from c.loop-from-test.false)
