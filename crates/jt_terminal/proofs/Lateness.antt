-- What is said of waits holds after each event, and where a line is given up all waits have passed.
use Rattle.std.proofs.Common.{◌≡◌, ℕ, List, [], ◌∷◌, Bool, true, false, Option, Some, None, sym, ap, ◌∙◌, subst}
use Rattle.jt_stream.specs.Unplaced.{Unplaced}
use Rattle.jt_subpacket.specs.Partials.{Partial}
use Rattle.jt_terminal_rule.specs.declared.state.State.{State}
use Rattle.jt_terminal_rule.specs.declared.state.Event.{Event}
use Rattle.jt_terminal_rule.specs.declared.state.Event.TheVariants.{Tick}
use Rattle.jt_terminal_rule.specs.declared.state.GiveUp.{GiveUp}
use Rattle.jt_terminal_rule.specs.declared.state.GiveUp.TheVariants.{TimedOut}
use Rattle.jt_terminal_rule.specs.declared.state.Phase.{Phase}
use Rattle.jt_terminal_rule.specs.declared.state.Phase.TheVariants.{Down}
use Rattle.jt_terminal_rule.specs.Rule.{Heard, Ruled, is_waiting, rule}
use Rattle.jt_terminal_rule.specs.Waits.{IsLate, IsTimed}
use Rattle.jt_terminal_rule.proofs.Lasting.{passes_all_waits}
use Rattle.jt_terminal.specs.Line.{rule_at_items, then_unless, rule_at, kept_by, of_item}

pub timed_after : (s now : State) (event : Event) → now ≡ (rule s event).state → IsTimed s → IsTimed now
timed_after s now event is timed = subst IsTimed (sym is) (passes_all_waits.kept s event timed)

never : {P : Type 0} (b : Bool) → b ≡ false → b ≡ true → P
never true e f = absurd cc
never false e f = absurd cc

-- without a line nothing is waited for
pub timed_without_line : (now : State) → now.phase ≡ Down → IsTimed now
timed_without_line now is =
    let quiet : is_waiting now.phase now.sent ≡ false = ap (λ (p : Phase). is_waiting p now.sent) is in
    record { some = λ waits. never (is_waiting now.phase now.sent) quiet waits; passed = λ waits. never (is_waiting now.phase now.sent) quiet waits }

pub late_of : (s : State) (event : Event) (end : Option GiveUp) (now since at : ℕ) → IsTimed s → event ≡ Tick now → end ≡ (rule s event).end → end ≡ Some (TimedOut since at) → IsLate s now since at
late_of s event end now since at timed tick is e = passes_all_waits.late s now since at timed (ap (λ (x : Event). (rule s x).end) (sym tick) ∙ (sym is ∙ e))

timed_hears : (s : State) (x : Option Heard) → IsTimed s → IsTimed (rule_at s x).state
timed_hears s None timed = timed
timed_hears s (Some x) timed = passes_all_waits.heard s x timed

pub timed_fed : (s : State) (partial : List Partial) (items : List Unplaced) → IsTimed s → IsTimed (rule_at_items s partial items).state
timed_fed s partial [] timed = timed
timed_fed s partial (item ∷ items) timed = by (rule_at s (of_item partial item)) (timed_hears s (of_item partial item) timed) (λ t on. timed_fed t (kept_by partial item) items on)
  where
    by_end : (r : Ruled) (e : Option GiveUp) → IsTimed r.state → ((t : State) → IsTimed t → IsTimed (rule_at_items t (kept_by partial item) items).state) → IsTimed (then_unless e r (λ t. rule_at_items t (kept_by partial item) items)).state
    by_end r None on rest = rest r.state on
    by_end r (Some cause) on rest = on

    by : (r : Ruled) → IsTimed r.state → ((t : State) → IsTimed t → IsTimed (rule_at_items t (kept_by partial item) items).state) → IsTimed (then_unless r.end r (λ t. rule_at_items t (kept_by partial item) items)).state
    by r on rest = by_end r r.end on rest
