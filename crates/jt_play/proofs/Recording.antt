-- What a call of the terminal leaves of what it recorded, also where it was cut short: no event of its rule records a fix.
use Rattle.std.proofs.Common.{◌≡◌, ℕ, List, [], ◌∷◌, ◌++◌, Option, None, Some, inl, inr, sym, ap, ◌∙◌, subst}
use Rattle.std.specs.Prelude.{◌⊎◌}
use Rattle.jt_position.specs.Fixes.{position_at}
use Rattle.jt_position.specs.Positions.{position}
use Rattle.jt_store.specs.Vaults.{Held, Notes, Forms, Accepts, Sets}
use Rattle.jt_stream.specs.Unplaced.{Unplaced}
use Rattle.jt_subpacket.specs.Partials.{Partial}
use Rattle.jt_terminal.specs.Line.{kept_by, new_items, of_item, partial_of, rule_at, rule_at_items, rule_at_octets, then_unless}
use Rattle.jt_terminal_rule.specs.declared.state.Event.{Event as TerminalEvent}
use Rattle.jt_terminal_rule.specs.declared.state.GiveUp.{GiveUp}
use Rattle.jt_terminal_rule.specs.declared.state.State.{State}
use Rattle.jt_terminal_rule.specs.Rule.{Ruled, Step, rule}
use Rattle.jt_terminal_rule.specs.Rule as rule_of
use Rattle.jt_terminal_steps.specs.Running.{CutShort, holds_after}
use Rattle.jt_script.specs.declared.world_event.WorldEvent.{WorldEvent}
use Rattle.jt_script.specs.declared.world_event.WorldEvent.TheVariants as line
use Rattle.jt_play.specs.Holding.{recorded_in}
use Rattle.jt_play.specs.Laws.{RecordsAtMost, recorded_by}
use Rattle.jt_play.specs.Playing.{Play, records}
use Rattle.jt_play.proofs.Acting.{held_is}
use Rattle.jt_play.proofs.Counts.{at_none, held_same}
use Rattle.jt_play.proofs.RuleNotes.{NotesNone, none_append, rule_keeps}

-- ---- steps that record nothing

first_none : (done left : List Step) → NotesNone (done ++ left) → NotesNone done
first_none [] left none = tt
first_none (rule_of.Changes (Notes fix) ∷ done) left none = absurd none
first_none (rule_of.Changes (Forms unit) ∷ done) left none = first_none done left none
first_none (rule_of.Changes Accepts ∷ done) left none = first_none done left none
first_none (rule_of.Changes (Sets code) ∷ done) left none = first_none done left none
first_none (rule_of.Sends older unit ∷ done) left none = first_none done left none
first_none (rule_of.Says h body ∷ done) left none = first_none done left none
first_none (rule_of.Opens ∷ done) left none = first_none done left none
first_none (rule_of.Loses ∷ done) left none = first_none done left none

unless_none : (end : Option GiveUp) (r : Ruled) (more : State → Ruled) → NotesNone r.steps → ((t : State) → NotesNone (more t).steps) → NotesNone (then_unless end r more).steps
unless_none None r more first next = none_append r.steps (more r.state).steps first (next r.state)
unless_none (Some cause) r more first next = first

items_none : (s : State) (partial : List Partial) (items : List Unplaced) → NotesNone (rule_at_items s partial items).steps
items_none s partial [] = tt
items_none s partial (item ∷ items) =
    let r = rule_at s (of_item partial item) in
    unless_none r.end r (λ t. rule_at_items t (kept_by partial item) items) (at_none s (of_item partial item)) (λ t. items_none t (kept_by partial item) items)

octets_none : (s : State) (seen octets : List ℕ) → NotesNone (rule_at_octets s seen octets).steps
octets_none s seen octets = items_none s (partial_of seen) (new_items seen octets)

-- ---- what the vault recorded behind them

all_kept : (steps : List Step) (old now : Held) → NotesNone steps → Some now ≡ holds_after steps (Some old) → now.recorded ≡ old.recorded
all_kept steps old now none is = ap (λ (h : Held). h.recorded) (held_is steps old now is) ∙ held_same steps old none

cut_kept : (steps : List Step) (old now : Held) → NotesNone steps → CutShort steps (Some old) (Some now) → now.recorded ≡ old.recorded
cut_kept steps old now none short = all_kept short.done old now (first_none short.done short.left (subst NotesNone short.parts none)) short.held

pub event_kept : (s : State) (e : TerminalEvent) (old now : Held) → Some now ≡ holds_after (rule s e).steps (Some old) → now.recorded ≡ old.recorded
event_kept s e old now is = all_kept (rule s e).steps old now (rule_keeps s e) is

pub event_cut : (s : State) (e : TerminalEvent) (old now : Held) → CutShort (rule s e).steps (Some old) (Some now) → now.recorded ≡ old.recorded
event_cut s e old now short = cut_kept (rule s e).steps old now (rule_keeps s e) short

pub octets_kept : (s : State) (seen octets : List ℕ) (old now : Held) → Some now ≡ holds_after (rule_at_octets s seen octets).steps (Some old) → now.recorded ≡ old.recorded
octets_kept s seen octets old now is = all_kept (rule_at_octets s seen octets).steps old now (octets_none s seen octets) is

pub octets_cut : (s : State) (seen octets : List ℕ) (old now : Held) → CutShort (rule_at_octets s seen octets).steps (Some old) (Some now) → now.recorded ≡ old.recorded
octets_cut s seen octets old now short = cut_kept (rule_at_octets s seen octets).steps old now (octets_none s seen octets) short

-- ---- a line of a script

pub stays_recorded : (e : WorldEvent) (p q : Play) → q ≡ p → RecordsAtMost e (recorded_in p) (recorded_in q)
stays_recorded e p q is = inl (ap recorded_in is)

pub raw_recorded : (e : WorldEvent) (fix : List ℕ) (p q : Play) → e ≡ line.Raw fix → q ≡ records p fix → RecordsAtMost e (recorded_in p) (recorded_in q)
raw_recorded e fix p q is done = inr (ap recorded_in done ∙ ap (λ (x : WorldEvent). recorded_in p ++ recorded_by x) (sym is))

pub fix_recorded : (e : WorldEvent) (latitude : ℕ) (fix : List ℕ) (p q : Play) → e ≡ line.Fix latitude → fix ≡ position.spell (position_at latitude) → q ≡ records p fix → RecordsAtMost e (recorded_in p) (recorded_in q)
fix_recorded e latitude fix p q is fix_is done =
    inr (ap recorded_in done ∙ (ap (λ (f : List ℕ). recorded_in p ++ f ∷ []) fix_is ∙ ap (λ (x : WorldEvent). recorded_in p ++ recorded_by x) (sym is)))
