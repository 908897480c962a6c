use Rattle.std.proofs.Common.{subst, All, ◌<◌, ◌^◌}
use Rattle.jt_position.specs.Fixes.{IsFix}
use Rattle.jt_terminal_rule.specs.declared.state.State.{State}
use Rattle.jt_terminal_rule.specs.Machines.{AreSerials}
use Rattle.jt_params.specs.Tables.{HasOctets}
use Rattle.jt_terminal_rule.proofs.Lasting.{passes_all_waits}
use Rattle.jt_terminal.proofs.Begins.{sound_started}
use Rattle.jt_terminal.proofs.terminal.Terminal.restart.Goals as goal

pub invariant_of-self-2 : goal.invariant_of-self-2
invariant_of-self-2 g c =
    let loaded = c.in_ok-loaded.loaded in
    let started = c.started.ensures in
    rw (c.in_ok-loaded.ensures.answer.0, started.state)
    (sound_started (g.V.Vault.holds c.self.inside.vault) c.args.settings loaded c.requires c.in_ok-loaded.ensures.whole c.in_ok-loaded.ensures.answer.1 c.in_ok-loaded.ensures.order (subst AreSerials c.as_slice-2.ensures c.look_at_serials.ensures) (subst (All IsFix) c.as_slice.ensures c.look_at_fixes.ensures) (subst (λ (s : State). s.mark < 65536) started.state started.small.0) (subst (λ (s : State). s.next < 65536) started.state started.small.1) (subst (λ (s : State). s.recorded < 2 ^ 64) started.state started.small.2) (subst (λ (s : State). s.accepted < 2 ^ 64) started.state started.small.3) (subst HasOctets c.in_ok-params.ensures.table c.in_ok-params.ensures.octets), passes_all_waits.first c.args.settings loaded)

pub returns-clause-sound : goal.returns-clause-sound
returns-clause-sound g c =
    let loaded = c.in_ok-loaded.loaded in
    let started = c.started.ensures in
    rw (c.in_ok-loaded.ensures.answer.0, started.state)
    (sound_started (g.V.Vault.holds c.self.inside.vault) c.args.settings loaded c.requires c.in_ok-loaded.ensures.whole c.in_ok-loaded.ensures.answer.1 c.in_ok-loaded.ensures.order (subst AreSerials c.as_slice-2.ensures c.look_at_serials.ensures) (subst (All IsFix) c.as_slice.ensures c.look_at_fixes.ensures) (subst (λ (s : State). s.mark < 65536) started.state started.small.0) (subst (λ (s : State). s.next < 65536) started.state started.small.1) (subst (λ (s : State). s.recorded < 2 ^ 64) started.state started.small.2) (subst (λ (s : State). s.accepted < 2 ^ 64) started.state started.small.3) (subst HasOctets c.in_ok-params.ensures.table c.in_ok-params.ensures.octets))
