-- Steps of the wrapped terminal, and what it writes: of the world of orders as of its base.
use Rattle.std.proofs.Common.{ℕ, ◌≡◌, List, [], ◌∷◌, set, get_or, Option, None, refl, ap, sym, ◌∙◌}
use Rattle.std.proofs.lemmas.List.{set-get_or}
use Rattle.jt_store.specs.Vaults.{Notes, Forms, Accepts, Sets}
use Rattle.jt_terminal_rule.specs.Rule.{Step, rule}
use Rattle.jt_terminal_rule.specs.Rule as rule_of
use Rattle.jt_terminal_rule.specs.Law.{changes_then_loss}
use Rattle.jt_terminal_rule.specs.Machines.{as_step, as_steps}
use Rattle.jt_terminal_rule.specs.Steps.{MayRun, TerminalStep}
use Rattle.jt_terminal_rule.specs.Steps as step
use Rattle.jt_octets.specs.World.{World}
use Rattle.jt_play.specs.Holding.{Numbered}
use Rattle.jt_play.specs.Holding as plain
use Rattle.jt_play.specs.Playing as played
use Rattle.jt_play.proofs.Opening.{NoneOpens}
use Rattle.jt_order_octets.specs.World.{OrderWorld}
use Rattle.jt_order_octets.specs.Reaching.{Leads}
use Rattle.jt_order_octets.specs.Steps.{Does, after}
use Rattle.jt_order_play.specs.Playing.{done}
use Rattle.jt_order_play.specs.Holding.{LineOfOrders, blank, last_of, plain_lines, sent_on, wrote_last, wrote_on}
use Rattle.jt_order_play.proofs.Naming.{AreFine}
use Rattle.jt_order_play.proofs.Standing.{leads_both, leads_none, leads_one, plain_at, plain_length, plain_set, sent_set, sent_there}

-- ---- steps one after another

pub done_leads : (w : OrderWorld) (steps : List TerminalStep) → MayRun w.base.terminal None steps → AreFine steps → Leads w (done w steps)
done_leads w [] may fine = leads_none w
done_leads w (s ∷ steps) may fine = leads_both w (after w (Does s)) (done (after w (Does s)) steps) (leads_one w (Does s) (may.0, fine.0)) (done_leads (after w (Does s)) steps may.1 fine.1)

-- steps of the rule that open none change the base alone
pub done_is : (w : OrderWorld) (steps : List Step) → NoneOpens steps → done w (as_steps w.base.terminal steps) ≡ record w { base = played.done w.base (as_steps w.base.terminal steps) }
done_is w [] none = refl
done_is w (rule_of.Opens ∷ steps) none = absurd none
done_is w (rule_of.Sends older unit ∷ steps) none = done_is (after w (Does (as_step w.base.terminal (rule_of.Sends older unit)))) steps none
done_is w (rule_of.Says h body ∷ steps) none = done_is (after w (Does (as_step w.base.terminal (rule_of.Says h body)))) steps none
done_is w (rule_of.Changes (Notes fix) ∷ steps) none = done_is (after w (Does (as_step w.base.terminal (rule_of.Changes (Notes fix))))) steps none
done_is w (rule_of.Changes (Forms unit) ∷ steps) none = done_is (after w (Does (as_step w.base.terminal (rule_of.Changes (Forms unit))))) steps none
done_is w (rule_of.Changes Accepts ∷ steps) none = done_is (after w (Does (as_step w.base.terminal (rule_of.Changes Accepts)))) steps none
done_is w (rule_of.Changes (Sets code) ∷ steps) none = done_is (after w (Does (as_step w.base.terminal (rule_of.Changes (Sets code))))) steps none
done_is w (rule_of.Loses ∷ steps) none = done_is (after w (Does (as_step w.base.terminal rule_of.Loses))) steps none

-- of messages in packets nothing is kept
abbrev pub bare : World → World
bare w = record w { partial = [] }

pub done_bare : (w : World) (steps : List TerminalStep) → played.done (bare w) steps ≡ bare (played.done w steps)
done_bare w [] = refl
done_bare w (step.Opens ∷ steps) = done_bare (played.done w (step.Opens ∷ [])) steps
done_bare w (step.Sends place ∷ steps) = done_bare (played.done w (step.Sends place ∷ [])) steps
done_bare w (step.Says h body ∷ steps) = done_bare (played.done w (step.Says h body ∷ [])) steps
done_bare w (step.Records fix ∷ steps) = done_bare (played.done w (step.Records fix ∷ [])) steps
done_bare w (step.Forms unit ∷ steps) = done_bare (played.done w (step.Forms unit ∷ [])) steps
done_bare w (step.Accepts ∷ steps) = done_bare (played.done w (step.Accepts ∷ [])) steps
done_bare w (step.Loses ∷ steps) = done_bare (played.done w (step.Loses ∷ [])) steps
done_bare w (step.Restarts phone ∷ steps) = done_bare (played.done w (step.Restarts phone ∷ [])) steps
done_bare w (step.Codes code ∷ steps) = done_bare (played.done w (step.Codes code ∷ [])) steps

pub quiet_opens : (steps : List Step) → NoneOpens (changes_then_loss steps)
quiet_opens [] = tt
quiet_opens (rule_of.Changes change ∷ steps) = quiet_opens steps
quiet_opens (rule_of.Sends older unit ∷ steps) = quiet_opens steps
quiet_opens (rule_of.Says h body ∷ steps) = quiet_opens steps
quiet_opens (rule_of.Opens ∷ steps) = quiet_opens steps
quiet_opens (rule_of.Loses ∷ steps) = quiet_opens steps

-- ---- what the terminal writes

last_is : (lines : List LineOfOrders) → last_of lines ≡ plain.last_of (plain_lines lines)
last_is [] = refl
last_is (l ∷ lines) = sym (plain_length lines)

pub plain_wrote : (lines : List LineOfOrders) (octets : List ℕ) → plain_lines (wrote_last lines octets) ≡ plain.wrote_last (plain_lines lines) octets
plain_wrote lines octets =
    plain_set lines (last_of lines) (wrote_on (get_or lines (last_of lines) blank) octets)
    ∙ (ap (λ (n : Numbered). set (plain_lines lines) (last_of lines) (plain.wrote_on n octets)) (sym (plain_at lines (last_of lines)))
    ∙ ap (λ (k : ℕ). set (plain_lines lines) k (plain.wrote_on (get_or (plain_lines lines) k plain.blank) octets)) (last_is lines))

pub sent_wrote : (lines : List LineOfOrders) (octets : List ℕ) → sent_on (wrote_last lines octets) ≡ sent_on lines
sent_wrote lines octets =
    sent_set lines (last_of lines) (wrote_on (get_or lines (last_of lines) blank) octets)
    ∙ (ap (λ (s : Option ℕ). set (sent_on lines) (last_of lines) s) (sym (sent_there lines (last_of lines))) ∙ set-get_or (sent_on lines) (last_of lines) None)
