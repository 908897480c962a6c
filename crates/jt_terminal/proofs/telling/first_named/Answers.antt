use Rattle.std.proofs.Common.{◌∙◌, sym}
use Rattle.jt_terminal.proofs.Naming.{named_none, named_here, named_later}
use Rattle.jt_terminal.proofs.telling.first_named.Goals as goal

pub returns-in_default : goal.returns-in_default
returns-in_default c = sym (c.loop-place.invariant ∙ named_none c.args.ack c.args.sent c.args.units.now c.loop-place.place (sym c.in_default.ensures.item))

pub returns-then-names : goal.returns-then-names
returns-then-names c =
    sym (c.loop-place.invariant ∙ named_here c.args.ack c.args.sent c.args.units.now c.loop-place.place c.in-Some.unit.now (sym c.in-Some.ensures.item) c.loop-place-test.true (sym c.names.ensures ∙ c.if-names.true))

pub loop-place-preserved : goal.loop-place-preserved
loop-place-preserved c =
    c.loop-place.invariant ∙ named_later c.args.ack c.args.sent c.args.units.now c.loop-place.place c.in-Some.unit.now (sym c.in-Some.ensures.item) c.loop-place-test.true (sym c.names.ensures ∙ c.if-names.false)
