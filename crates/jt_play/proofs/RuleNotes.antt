-- The rule records no fix.
use Rattle.std.proofs.Common.{List, [], ◌∷◌, ◌++◌}
use Rattle.std.specs.List.{AllByRecursion}
use Rattle.jt_store.specs.Vaults.{Notes, Forms, Accepts, Sets}
use Rattle.jt_terminal_rule.specs.declared.state.State.{State}
use Rattle.jt_terminal_rule.specs.declared.state.Event.{Event}
use Rattle.jt_terminal_rule.specs.Rule.{Heard, Step, on_hearing, rule}
use Rattle.jt_terminal_rule.specs.Rule as rule_of
use Rattle.jt_terminal_rule.proofs.Induction.{Bears, ran_hearing, ran_rule}

abbrev pub NotesNone : List Step → Type 0
NotesNone [] = Unit {0}
NotesNone (rule_of.Changes (Notes fix) ∷ steps) = ⊥
NotesNone (s ∷ steps) = NotesNone steps

pub none_append : (a b : List Step) → NotesNone a → NotesNone b → NotesNone (a ++ b)
none_append [] b x y = y
none_append (rule_of.Changes (Notes fix) ∷ a) b x y = absurd x
none_append (rule_of.Changes (Forms unit) ∷ a) b x y = none_append a b x y
none_append (rule_of.Changes Accepts ∷ a) b x y = none_append a b x y
none_append (rule_of.Changes (Sets code) ∷ a) b x y = none_append a b x y
none_append (rule_of.Sends older unit ∷ a) b x y = none_append a b x y
none_append (rule_of.Says h body ∷ a) b x y = none_append a b x y
none_append (rule_of.Opens ∷ a) b x y = none_append a b x y
none_append (rule_of.Loses ∷ a) b x y = none_append a b x y

-- a step that records no fix
abbrev IsOther : Step → Type 0
IsOther (rule_of.Changes (Notes fix)) = ⊥
IsOther step = Unit {0}

none_of : (steps : List Step) → AllByRecursion IsOther steps → NotesNone steps
none_of [] others = tt
none_of (rule_of.Changes (Notes fix) ∷ steps) others = absurd others.0
none_of (rule_of.Changes (Forms unit) ∷ steps) others = none_of steps others.1
none_of (rule_of.Changes Accepts ∷ steps) others = none_of steps others.1
none_of (rule_of.Changes (Sets code) ∷ steps) others = none_of steps others.1
none_of (rule_of.Sends older unit ∷ steps) others = none_of steps others.1
none_of (rule_of.Says h body ∷ steps) others = none_of steps others.1
none_of (rule_of.Opens ∷ steps) others = none_of steps others.1
none_of (rule_of.Loses ∷ steps) others = none_of steps others.1

others_are : Bears IsOther
others_are = record { sends = λ _ _. tt; registers = λ _ _. tt; authenticates = λ _ _ _. tt; beats = λ _ _. tt; forms = λ _. tt; accepts = tt; sets = λ _. tt; loses = tt }

pub rule_keeps : (s : State) (e : Event) → NotesNone (rule s e).steps
rule_keeps s e = none_of (rule s e).steps (ran_rule IsOther others_are (λ _ _. tt) tt s e).steps

pub heard_keeps : (s : State) (x : Heard) → NotesNone (on_hearing s x).steps
heard_keeps s x = none_of (on_hearing s x).steps (ran_hearing IsOther others_are (λ _ _. tt) s x).steps
