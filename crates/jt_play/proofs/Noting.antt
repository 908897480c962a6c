-- A fix that is recorded.
use Rattle.std.proofs.Common.{ℕ, ◌≤◌, ◌≡◌, ◌⊎◌, inl, inr, List, Option, Some, None, refl, ap, sym, ◌∙◌, subst}
use Rattle.std.specs.Prelude.{Result, Ok, Err, OnOk, OnErr}
use Rattle.jt_position.specs.Fixes.{IsFix}
use Rattle.jt_store.specs.Memory.{KeeperState, Stock}
use Rattle.jt_store.specs.Vaults.{Held, Notes, Records, held_by}
use Rattle.jt_store.specs.declared.error.StoreError.{StoreError}
use Rattle.jt_store.specs.declared.error.StoreError.TheVariants.{Failed, Full, Memory}
use Rattle.jt_platform.specs.declared.request.Entry.{Entry}
use Rattle.jt_platform.specs.Hub.{HubValue}
use Rattle.jt_terminal_rule.specs.declared.state.State.{State}
use Rattle.jt_terminal_rule.specs.Rule.{with_fix}
use Rattle.jt_terminal_rule.specs.Steps as step
use Rattle.jt_terminal_steps.specs.Running.{IsSound, TerminalValue, time_after}
use Rattle.jt_terminal_rule.specs.declared.state.Event.{Event as TerminalEvent}
use Rattle.jt_terminal_rule.specs.declared.state.Event.TheVariants as event
use Rattle.jt_terminal_steps.proofs.Keeping.{sound_noted}
use Rattle.jt_octets.specs.Steps.{Does}
use Rattle.jt_octets.specs.Reaching.{Leads}
use Rattle.jt_play.specs.Holding.{IsClock, IsMoment, IsRunning, Numbered, play_of}
use Rattle.jt_play.specs.Playing.{Play}
use Rattle.jt_play.proofs.Acting.{some_held, still_running}
use Rattle.jt_play.proofs.Downward.{leads_none, leads_one}

pub moment_after : (s : State) (clock : ℕ) (e : TerminalEvent) → IsMoment clock e → s.time ≤ clock → time_after s e ≤ clock
moment_after s clock (event.Tick now) moment late = moment
moment_after s clock event.Opened moment late = late
moment_after s clock (event.Received h m) moment late = late
moment_after s clock event.Lost moment late = late
moment_after s clock event.Beat moment late = late

module _ (t now : TerminalValue Stock) (hub : HubValue KeeperState) (lines : List Numbered) (past : List Entry) (told : List ℕ) (clock : ℕ) (fix : List ℕ) (is_fix : IsFix fix) (running : IsRunning t hub lines) where
  abbrev Noted : Type 0
  Noted = (now.state ≡ with_fix t.state fix) × (now.vault.held ≡ held_by (Notes fix) t.vault.held)

  abbrev Same : Type 0
  Same = (now.state ≡ t.state) × (now.vault.held ≡ t.vault.held)

  which : {T : Type 0} (r : Result T StoreError) → OnOk r (now.state ≡ with_fix t.state fix) → OnErr r (now.state ≡ t.state) → Records t.vault.limit fix (Some t.vault.held) (Some now.vault.held) r → Noted ⊎ Same
  which (Ok x) ok err vault = inl (ok, some_held now.vault.held (held_by (Notes fix) t.vault.held) vault.0)
  which (Err Failed) ok err vault = inr (err, some_held now.vault.held t.vault.held vault)
  which (Err Memory) ok err vault = inr (err, some_held now.vault.held t.vault.held vault)
  which (Err (Full l)) ok err vault = inr (err, some_held now.vault.held t.vault.held vault.0)

  abbrev with : Held → State → Play
  with held s = play_of (record { vault = record now.vault { held = held }; state = s }) hub lines past told clock

  now_is : (held : Held) (s : State) → now.state ≡ s → now.vault.held ≡ held → with now.vault.held now.state ≡ with held s
  now_is held s a b = ap (λ (h : Held). with h now.state) b ∙ ap (λ (x : State). with held x) a

  abbrev w : Play
  w = play_of t hub lines past told clock

  leads_by : Noted ⊎ Same → Leads w.world (play_of now hub lines past told clock).world
  leads_by (inl n) = subst (λ (p : Play). Leads w.world p.world) (sym (now_is (held_by (Notes fix) t.vault.held) (with_fix t.state fix) n.0 n.1)) (leads_one w.world (Does (step.Records fix)) is_fix)
  leads_by (inr n) = subst (λ (p : Play). Leads w.world p.world) (sym (now_is t.vault.held t.state n.0 n.1)) (leads_none w.world)

  pub noted_leads : {T : Type 0} (r : Result T StoreError) → OnOk r (now.state ≡ with_fix t.state fix) → OnErr r (now.state ≡ t.state) → Records t.vault.limit fix (Some t.vault.held) (Some now.vault.held) r → Leads w.world (play_of now hub lines past told clock).world
  noted_leads r ok err vault = leads_by (which r ok err vault)

  sound_by : Noted ⊎ Same → IsSound (Some now.vault.held) now.state
  sound_by (inl n) = subst (λ (s : State). IsSound (Some now.vault.held) s) (sym n.0) (subst (λ (h : Held). IsSound (Some h) (with_fix t.state fix)) (sym n.1) (sound_noted (Some t.vault.held) t.state fix is_fix running.sound))
  sound_by (inr n) = subst (λ (s : State). IsSound (Some now.vault.held) s) (sym n.0) (subst (λ (h : Held). IsSound (Some h) t.state) (sym n.1) running.sound)

  settings_by : Noted ⊎ Same → now.state.settings ≡ t.state.settings
  settings_by (inl n) = ap (λ (s : State). s.settings) n.0
  settings_by (inr n) = ap (λ (s : State). s.settings) n.0

  time_by : Noted ⊎ Same → now.state.time ≡ t.state.time
  time_by (inl n) = ap (λ (s : State). s.time) n.0
  time_by (inr n) = ap (λ (s : State). s.time) n.0

  pub noted_running : {T : Type 0} (r : Result T StoreError) → OnOk r (now.state ≡ with_fix t.state fix) → OnErr r (now.state ≡ t.state) → Records t.vault.limit fix (Some t.vault.held) (Some now.vault.held) r → now.vault.limit ≡ t.vault.limit → IsRunning now hub lines
  noted_running r ok err vault limit =
      let n = which r ok err vault in
      still_running t hub lines past told clock running now (sound_by n) (settings_by n) limit

  pub noted_clock : {T : Type 0} (r : Result T StoreError) → OnOk r (now.state ≡ with_fix t.state fix) → OnErr r (now.state ≡ t.state) → Records t.vault.limit fix (Some t.vault.held) (Some now.vault.held) r → IsClock t clock → IsClock now clock
  noted_clock r ok err vault is = record { late = subst (λ (n : ℕ). n ≤ clock) (sym (time_by (which r ok err vault))) is.late; small = is.small }
