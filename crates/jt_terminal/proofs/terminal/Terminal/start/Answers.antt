use Rattle.std.proofs.Common.{subst, All, ◌<◌, ◌^◌}
use Rattle.jt_position.specs.Fixes.{IsFix}
use Rattle.jt_terminal_rule.specs.declared.state.State.{State}
use Rattle.jt_terminal_rule.specs.Machines.{AreSerials}
use Rattle.jt_params.specs.Tables.{HasOctets}
use Rattle.jt_terminal_rule.proofs.Lasting.{passes_all_waits}
use Rattle.jt_terminal.proofs.Begins.{sound_started}
use Rattle.jt_terminal.proofs.terminal.Terminal.start.Goals as goal

pub invariant_of-result : goal.invariant_of-result
invariant_of-result g c =
    rw (c.in-Ok-load.ensures.answer.0, c.started-state.ensures.state)
    (sound_started (g.V.Vault.holds c.args.vault) c.args.settings c.in-Ok-load.loaded c.requires c.in-Ok-load.ensures.whole c.in-Ok-load.ensures.answer.1 c.in-Ok-load.ensures.order (subst AreSerials c.as_slice-in-Ok-load.ensures c.look_at_serials.ensures) (subst (All IsFix) c.as_slice.ensures c.look_at_fixes.ensures) (subst (λ (s : State). s.mark < 65536) c.started-state.ensures.state c.started-state.ensures.small.0) (subst (λ (s : State). s.next < 65536) c.started-state.ensures.state c.started-state.ensures.small.1) (subst (λ (s : State). s.recorded < 2 ^ 64) c.started-state.ensures.state c.started-state.ensures.small.2) (subst (λ (s : State). s.accepted < 2 ^ 64) c.started-state.ensures.state c.started-state.ensures.small.3) (subst HasOctets c.in-Ok.ensures.table c.in-Ok.ensures.octets), passes_all_waits.first c.args.settings c.in-Ok-load.loaded)
