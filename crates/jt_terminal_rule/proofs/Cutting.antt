-- Steps of the rule that are cut short: what the vault committed, and then the loss of the line.
use Rattle.std.proofs.Common.{ℕ, ◌≡◌, ◌+◌, List, [], ◌∷◌, ◌++◌, Option, Some, None, Bool, ap, sym, ◌∙◌, subst, arith}
use Rattle.jt_store.specs.declared.row.Row.{Row}
use Rattle.jt_store.specs.Vaults.{Held, Notes, Forms, Accepts, Sets, held_by}
use Rattle.jt_terminal_rule.specs.declared.state.Acknowledgement.{Acknowledgement}
use Rattle.jt_terminal_rule.specs.Steps.{Machine, TerminalStep, MayRun, machine_run, machine_after, hears}
use Rattle.jt_terminal_rule.specs.Steps as step
use Rattle.jt_terminal_rule.specs.declared.state.State.{State}
use Rattle.jt_terminal_rule.specs.Rule.{Step, Ruled, down}
use Rattle.jt_terminal_rule.specs.Rule as rule
use Rattle.jt_store.specs.Verdicts.{numbered}
use Rattle.jt_terminal_rule.specs.Machines.{machine_of, as_steps, held_after, row_after, last_number}
use Rattle.jt_terminal_rule.specs.Law.{changes_then_loss, AreCutSteps}
use Rattle.jt_terminal_rule.proofs.Numbering.{numbered-append}
use Rattle.jt_terminal_rule.proofs.Composing.{as_steps-append}

-- the same machine on another line
abbrev lined : Machine → Bool → List ℕ → Bool → ℕ → Machine
lined m using auths ready reach = record m { using = using; auths = auths; ready = ready; reach = reach }

may_front : (m : Machine) (just : Option Acknowledgement) (xs ys : List TerminalStep) → MayRun m just (xs ++ ys) → MayRun m just xs
may_front m just [] ys may = tt
may_front m just (x ∷ xs) ys may = (may.0, may_front (machine_after m x) None xs ys may.1)

-- the changes alone may be done, whatever the line is
changes_may : (m : Machine) (using : Bool) (auths : List ℕ) (ready : Bool) (reach : ℕ) (just : Option Acknowledgement) (steps : List Step) → MayRun m None (as_steps m steps)
    → MayRun (lined m using auths ready reach) just (as_steps (lined m using auths ready reach) (changes_then_loss steps))
changes_may m using auths ready reach just [] may = (tt, tt)
changes_may m using auths ready reach just (rule.Sends older unit ∷ steps) may = changes_may (machine_after m (step.Sends (m.accepted + older))) using auths ready reach just steps may.1
changes_may m using auths ready reach just (rule.Says h body ∷ steps) may = changes_may (machine_after m (step.Says h body)) using auths ready reach just steps may.1
changes_may m using auths ready reach just (rule.Opens ∷ steps) may = changes_may (machine_after m step.Opens) using auths ready reach just steps may.1
changes_may m using auths ready reach just (rule.Loses ∷ steps) may = changes_may (machine_after m step.Loses) using auths ready reach just steps may.1
changes_may m using auths ready reach just (rule.Changes (Notes fix) ∷ steps) may = (may.0, changes_may (machine_after m (step.Records fix)) using auths ready reach None steps may.1)
changes_may m using auths ready reach just (rule.Changes (Forms unit) ∷ steps) may =
    let row = row_after (last_number None m.units) unit in
    (may.0, changes_may (machine_after m (step.Forms row)) using auths ready reach None steps may.1)
changes_may m using auths ready reach just (rule.Changes Accepts ∷ steps) may = absurd may.0.2
changes_may m using auths ready reach just (rule.Changes (Sets code) ∷ steps) may = (tt, changes_may (machine_after m (step.Codes code)) using auths ready reach None steps may.1)

-- the same directly behind a response, where an acceptance may be the first step
cut_may : (m : Machine) (just : Option Acknowledgement) (steps : List Step) → MayRun m just (as_steps m steps) → MayRun m just (as_steps m (changes_then_loss steps))
cut_may m just [] may = (tt, tt)
cut_may m just (rule.Sends older unit ∷ steps) may = changes_may (machine_after m (step.Sends (m.accepted + older))) m.using m.auths m.ready m.reach just steps may.1
cut_may m just (rule.Says h body ∷ steps) may = changes_may (machine_after m (step.Says h body)) m.using m.auths m.ready m.reach just steps may.1
cut_may m just (rule.Opens ∷ steps) may = changes_may (machine_after m step.Opens) m.using m.auths m.ready m.reach just steps may.1
cut_may m just (rule.Loses ∷ steps) may = changes_may (machine_after m step.Loses) m.using m.auths m.ready m.reach just steps may.1
cut_may m just (rule.Changes (Notes fix) ∷ steps) may = (may.0, changes_may (machine_after m (step.Records fix)) m.using m.auths m.ready m.reach None steps may.1)
cut_may m just (rule.Changes (Forms unit) ∷ steps) may =
    let row = row_after (last_number None m.units) unit in
    (may.0, changes_may (machine_after m (step.Forms row)) m.using m.auths m.ready m.reach None steps may.1)
cut_may m just (rule.Changes Accepts ∷ steps) may = (may.0, changes_may (machine_after m step.Accepts) m.using m.auths m.ready m.reach None steps may.1)
cut_may m just (rule.Changes (Sets code) ∷ steps) may = (tt, changes_may (machine_after m (step.Codes code)) m.using m.auths m.ready m.reach None steps may.1)

no_more : (n : ℕ) → n ≡ n + 0
no_more n = omega arith

-- where the changes lead
changes_to : (h : Held) (s : State) (using : Bool) (auths : List ℕ) (ready : Bool) (reach : ℕ) (steps : List Step)
    → machine_run (lined (machine_of h s) using auths ready reach) (as_steps (lined (machine_of h s) using auths ready reach) (changes_then_loss steps)) ≡ machine_of (held_after steps h) (down s)
changes_to h s using auths ready reach [] = ap (λ (n : ℕ). record (machine_of h (down s)) { reach = n }) (no_more h.accepted)
changes_to h s using auths ready reach (rule.Sends older unit ∷ steps) = changes_to h s using auths ready reach steps
changes_to h s using auths ready reach (rule.Says header body ∷ steps) = changes_to h s using auths ready reach steps
changes_to h s using auths ready reach (rule.Opens ∷ steps) = changes_to h s using auths ready reach steps
changes_to h s using auths ready reach (rule.Loses ∷ steps) = changes_to h s using auths ready reach steps
changes_to h s using auths ready reach (rule.Changes (Notes fix) ∷ steps) = changes_to (held_by (Notes fix) h) s using auths ready reach steps
changes_to h s using auths ready reach (rule.Changes (Forms unit) ∷ steps) =
    let units : numbered None h.units ++ row_after (last_number None (numbered None h.units)) unit ∷ [] ≡ numbered None (h.units ++ unit ∷ []) = sym (numbered-append None h.units (unit ∷ [])) in
    ap (λ (rows : List Row). let n = record (lined (machine_of h s) using auths ready reach) { units = rows } in machine_run n (as_steps n (changes_then_loss steps))) units ∙ changes_to (held_by (Forms unit) h) s using auths ready reach steps
changes_to h s using auths ready reach (rule.Changes Accepts ∷ steps) = changes_to (held_by Accepts h) s using auths ready reach steps
changes_to h s using auths ready reach (rule.Changes (Sets code) ∷ steps) = changes_to (held_by (Sets code) h) s using auths ready reach steps

cut_to : (h : Held) (s : State) (just : Option Acknowledgement) (steps : List Step) → machine_run (hears (machine_of h s) just) (as_steps (hears (machine_of h s) just) (changes_then_loss steps)) ≡ machine_of (held_after steps h) (down s)
cut_to h s None steps = let m = machine_of h s in changes_to h s m.using m.auths m.ready m.reach steps
cut_to h s (Some ack) steps = let m = hears (machine_of h s) (Some ack) in changes_to h s m.using m.auths m.ready m.reach steps

pub cut_steps : (h : Held) (s : State) (just : Option Acknowledgement) (steps : List Step) → MayRun (hears (machine_of h s) just) just (as_steps (hears (machine_of h s) just) steps) → AreCutSteps h s just steps
cut_steps h s just steps may done left parts =
    let m = hears (machine_of h s) just in
    let whole = subst (λ (all : List Step). MayRun m just (as_steps m all)) parts may in
    let front = may_front m just (as_steps m done) (as_steps (machine_run m (as_steps m done)) left) (subst (MayRun m just) (as_steps-append m done left) whole) in
    (cut_may m just done front, cut_to h s just done)
