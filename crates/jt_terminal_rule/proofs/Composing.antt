-- Steps one after another.
use Rattle.std.proofs.Common.{ℕ, ◌≡◌, List, [], ◌∷◌, ◌++◌, Option, None, refl, ap, sym, ◌∙◌, subst}
use Rattle.jt_store.specs.Vaults.{Held, held_by, Notes, Forms, Accepts, Sets}
use Rattle.jt_terminal_rule.specs.declared.state.Acknowledgement.{Acknowledgement}
use Rattle.jt_terminal_rule.specs.Steps.{Machine, TerminalStep, MayStep, MayRun, machine_run, machine_after, writes}
use Rattle.jt_terminal_rule.specs.Steps as step
use Rattle.jt_terminal_rule.specs.declared.settings.Settings.{Settings}
use Rattle.jt_terminal_rule.specs.declared.state.State.{State}
use Rattle.jt_terminal_rule.specs.Messages.{header_of, frame_of}
use Rattle.jt_terminal_rule.specs.Rule.{Step, Ruled, and_then, sends}
use Rattle.jt_terminal_rule.specs.Rule as rule
use Rattle.jt_terminal_rule.specs.Machines.{machine_of, as_step, as_steps, frames_by, held_after, MayCommit, Agrees, IsInOrder}
use Rattle.jt_terminal_rule.specs.Law.{AreSteps}

pub as_steps-append : (m : Machine) (xs ys : List Step) → as_steps m (xs ++ ys) ≡ as_steps m xs ++ as_steps (machine_run m (as_steps m xs)) ys
as_steps-append m [] ys = refl
as_steps-append m (x ∷ xs) ys = ap (λ (steps : List TerminalStep). as_step m x ∷ steps) (as_steps-append (machine_after m (as_step m x)) xs ys)

pub machine_run-append : (m : Machine) (xs ys : List TerminalStep) → machine_run m (xs ++ ys) ≡ machine_run (machine_run m xs) ys
machine_run-append m [] ys = refl
machine_run-append m (x ∷ xs) ys = machine_run-append (machine_after m x) xs ys

pub held_after-append : (xs ys : List Step) (held : Held) → held_after (xs ++ ys) held ≡ held_after ys (held_after xs held)
held_after-append [] ys held = refl
held_after-append (rule.Sends older unit ∷ xs) ys held = held_after-append xs ys held
held_after-append (rule.Says h body ∷ xs) ys held = held_after-append xs ys held
held_after-append (rule.Changes change ∷ xs) ys held = held_after-append xs ys (held_by change held)
held_after-append (rule.Opens ∷ xs) ys held = held_after-append xs ys held
held_after-append (rule.Loses ∷ xs) ys held = held_after-append xs ys held

-- what may be done behind no response may be done behind one
loosen_step : (m : Machine) (just : Option Acknowledgement) (x : TerminalStep) → MayStep m None x → MayStep m just x
loosen_step m just (step.Records fix) may = may
loosen_step m just (step.Forms unit) may = may
loosen_step m just step.Opens may = may
loosen_step m just (step.Sends place) may = may
loosen_step m just (step.Says h body) may = may
loosen_step m just step.Accepts may = absurd may.2
loosen_step m just step.Loses may = may
loosen_step m just (step.Restarts phone) may = may
loosen_step m just (step.Codes code) may = may

pub loosen : (m : Machine) (just : Option Acknowledgement) (xs : List TerminalStep) → MayRun m None xs → MayRun m just xs
loosen m just [] may = may
loosen m just (x ∷ xs) may = (loosen_step m just x may.0, may.1)

pub may_append : (m : Machine) (just : Option Acknowledgement) (xs ys : List TerminalStep) → MayRun m just xs → MayRun (machine_run m xs) None ys → MayRun m just (xs ++ ys)
may_append m just [] ys may more = loosen m just ys more
may_append m just (x ∷ xs) ys may more = (may.0, may_append (machine_after m x) None xs ys may.1 more)

commit_append : (xs ys : List Step) (held : Held) → MayCommit held xs → MayCommit (held_after xs held) ys → MayCommit held (xs ++ ys)
commit_append [] ys held one two = two
commit_append (rule.Sends older unit ∷ xs) ys held one two = commit_append xs ys held one two
commit_append (rule.Says h body ∷ xs) ys held one two = commit_append xs ys held one two
commit_append (rule.Changes change ∷ xs) ys held one two = (one.0, commit_append xs ys (held_by change held) one.1 two)
commit_append (rule.Opens ∷ xs) ys held one two = commit_append xs ys held one two
commit_append (rule.Loses ∷ xs) ys held one two = commit_append xs ys held one two

-- what is sent

pub sends_append : (settings : Settings) (a b : List Step) → sends settings (a ++ b) ≡ sends settings a ++ sends settings b
sends_append settings [] b = refl
sends_append settings (rule.Sends older unit ∷ a) b = ap (λ (fs : List (List ℕ)). frame_of (header_of settings.phone unit.id unit.serial) unit.body ∷ fs) (sends_append settings a b)
sends_append settings (rule.Says h body ∷ a) b = ap (λ (fs : List (List ℕ)). frame_of h body ∷ fs) (sends_append settings a b)
sends_append settings (rule.Changes change ∷ a) b = sends_append settings a b
sends_append settings (rule.Opens ∷ a) b = sends_append settings a b
sends_append settings (rule.Loses ∷ a) b = sends_append settings a b

frames_append : (m : Machine) (xs ys : List TerminalStep) → frames_by m (xs ++ ys) ≡ frames_by m xs ++ frames_by (machine_run m xs) ys
frames_append m [] ys = refl
frames_append m (step.Sends place ∷ xs) ys = ap (λ (fs : List (List ℕ)). writes m (step.Sends place) ∷ fs) (frames_append (machine_after m (step.Sends place)) xs ys)
frames_append m (step.Says h body ∷ xs) ys = ap (λ (fs : List (List ℕ)). writes m (step.Says h body) ∷ fs) (frames_append (machine_after m (step.Says h body)) xs ys)
frames_append m (step.Records fix ∷ xs) ys = frames_append (machine_after m (step.Records fix)) xs ys
frames_append m (step.Forms unit ∷ xs) ys = frames_append (machine_after m (step.Forms unit)) xs ys
frames_append m (step.Opens ∷ xs) ys = frames_append (machine_after m step.Opens) xs ys
frames_append m (step.Accepts ∷ xs) ys = frames_append (machine_after m step.Accepts) xs ys
frames_append m (step.Loses ∷ xs) ys = frames_append (machine_after m step.Loses) xs ys
frames_append m (step.Restarts phone ∷ xs) ys = frames_append (machine_after m (step.Restarts phone)) xs ys
frames_append m (step.Codes code ∷ xs) ys = frames_append (machine_after m (step.Codes code)) xs ys

-- the rule's steps leave the phone
pub run_phone : (m : Machine) (steps : List Step) → (machine_run m (as_steps m steps)).phone ≡ m.phone
run_phone m [] = refl
run_phone m (rule.Sends older unit ∷ steps) = run_phone (machine_after m (as_step m (rule.Sends older unit))) steps
run_phone m (rule.Says h body ∷ steps) = run_phone (machine_after m (as_step m (rule.Says h body))) steps
run_phone m (rule.Changes (Notes fix) ∷ steps) = run_phone (machine_after m (as_step m (rule.Changes (Notes fix)))) steps
run_phone m (rule.Changes (Forms unit) ∷ steps) = run_phone (machine_after m (as_step m (rule.Changes (Forms unit)))) steps
run_phone m (rule.Changes Accepts ∷ steps) = run_phone (machine_after m (as_step m (rule.Changes Accepts))) steps
run_phone m (rule.Changes (Sets code) ∷ steps) = run_phone (machine_after m (as_step m (rule.Changes (Sets code)))) steps
run_phone m (rule.Opens ∷ steps) = run_phone (machine_after m (as_step m rule.Opens)) steps
run_phone m (rule.Loses ∷ steps) = run_phone (machine_after m (as_step m rule.Loses)) steps

pub and_then_steps : (m : Machine) (held : Held) (just : Option Acknowledgement) (r : Ruled) (more : State → Ruled) → AreSteps m held just r → AreSteps (machine_of (held_after r.steps held) r.state) (held_after r.steps held) None (more r.state) → AreSteps m held just (and_then r more)
and_then_steps m held just r more one two =
    let parts = as_steps-append m r.steps (more r.state).steps in
    let behind = held_after-append r.steps (more r.state).steps held in
    record {
      may = subst (λ (steps : List TerminalStep). MayRun m just steps) (sym parts)
          (may_append m just (as_steps m r.steps) (as_steps (machine_run m (as_steps m r.steps)) (more r.state).steps) one.may
          (subst (λ (n : Machine). MayRun n None (as_steps n (more r.state).steps)) (sym one.to) two.may));
      to = ap (machine_run m) parts
          ∙ (machine_run-append m (as_steps m r.steps) (as_steps (machine_run m (as_steps m r.steps)) (more r.state).steps)
          ∙ (ap (λ (n : Machine). machine_run n (as_steps n (more r.state).steps)) one.to
          ∙ (two.to ∙ ap (λ (h : Held). machine_of h (more r.state).state) (sym behind))));
      commits = commit_append r.steps (more r.state).steps held one.commits two.commits;
      sent = λ settings own.
          let then_own = own ∙ (sym (run_phone m r.steps) ∙ ap (λ (n : Machine). n.phone) one.to) in
          sends_append settings r.steps (more r.state).steps
          ∙ (ap (λ (fs : List (List ℕ)). fs ++ sends settings (more r.state).steps) (one.sent settings own)
          ∙ (ap (λ (fs : List (List ℕ)). frames_by m (as_steps m r.steps) ++ fs) (two.sent settings then_own
          ∙ ap (λ (n : Machine). frames_by n (as_steps n (more r.state).steps)) (sym one.to))
          ∙ (sym (frames_append m (as_steps m r.steps) (as_steps (machine_run m (as_steps m r.steps)) (more r.state).steps)) ∙ ap (frames_by m) (sym parts))));
      in_order = two.in_order;
      agrees = subst (λ (h : Held). Agrees h (more r.state).state) (sym behind) two.agrees;
    }

pub stays_steps : (held : Held) (s : State) (just : Option Acknowledgement) → IsInOrder s → Agrees held s → AreSteps (machine_of held s) held just (rule.stays s)
stays_steps held s just order agrees = record { may = tt; to = refl; commits = tt; sent = λ settings own. refl; in_order = order; agrees = agrees }

-- the same steps behind any response, from an equal machine
pub behind_any : (m n : Machine) (held : Held) (just : Option Acknowledgement) (r : Ruled) → n ≡ m → AreSteps m held None r → AreSteps n held just r
behind_any m n held just r same one = subst (λ (x : Machine). AreSteps x held just r) (sym same)
    (record { may = loosen m just (as_steps m r.steps) one.may; to = one.to; commits = one.commits; sent = one.sent; in_order = one.in_order; agrees = one.agrees })
