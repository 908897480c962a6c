-- A terminal that started, and recorded fixes, has no line.
use Rattle.std.proofs.Common.{◌≡◌, ℕ, List, [], ◌∷◌, Option, refl, ap, ◌∙◌}
use Rattle.jt_store.specs.Vaults.{Held}
use Rattle.jt_terminal_rule.specs.Rule.{with_fix}
use Rattle.jt_terminal_rule.specs.declared.settings.Settings.{Settings}
use Rattle.jt_terminal_rule.specs.declared.state.Phase.TheVariants.{Down}
use Rattle.jt_terminal_rule.specs.declared.state.State.{State}
use Rattle.jt_terminal_steps.specs.Running.{IsStarted}
use Rattle.jt_report_command.specs.Noting.{noted_all}

noted_phase : (s : State) (fixes : List (List ℕ)) → (noted_all s fixes).phase ≡ s.phase
noted_phase s [] = refl
noted_phase s (fix ∷ fixes) = noted_phase (with_fix s fix) fixes

pub started_down : (settings : Settings) (held : Option Held) (s : State) (fixes : List (List ℕ)) → IsStarted settings held s → (noted_all s fixes).phase ≡ Down
started_down settings held s fixes started = noted_phase s fixes ∙ ap (λ (s : State). s.phase) started.state
