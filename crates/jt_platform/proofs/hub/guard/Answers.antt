use Rattle.jt_value.specs.Sameness.{key_of}
use Rattle.std.proofs.Common.{sym, ◌∙◌}
use Rattle.jt_platform.specs.History.{newest}
use Rattle.jt_platform.proofs.Holding.{some_holder}
use Rattle.jt_platform.proofs.hub.guard.Goals as goal

pub unreachable-requires : goal.unreachable-requires
unreachable-requires g c =
    some_holder (key_of c.args.phone.now) (newest c.args.log.now.entries) c.args.session (sym c.is_live.ensures ∙ c.if-not-is_live.false) (sym c.holder.ensures ∙ c.in-None.is)
