-- A session on a line that was just opened, and that it is noted for each line what was sent last on it.
use Rattle.std.proofs.Common.{ℕ, ◌+◌, ◌<◌, ◌≤◌, ◌≡◌, List, [], ◌∷◌, ◌++◌, length, Option, Some, None, Bool, true, false, arith, refl, ap, sym, ◌∙◌, subst}
use Rattle.std.specs.Prelude.{if◌then◌else◌}
use Rattle.std.proofs.lemmas.List.{get_or_push, length-append, length-map, length-set}
use Rattle.jt_value.specs.Reaching.{after_all}
use Rattle.jt_stream.specs.Unplaced.{items}
use Rattle.jt_session.specs.Talk.{State}
use Rattle.jt_terminal_rule.specs.Steps.{TerminalStep}
use Rattle.jt_terminal_rule.specs.Steps as step
use Rattle.jt_order_turns.specs.Headers.{first_header}
use Rattle.jt_order_turns.specs.Heard.{Heard, Ordered, Other, Nothing}
use Rattle.jt_order_session.specs.Sessions.{StandsForOrders}
use Rattle.jt_octets.specs.World.{Line, line_at, new_line, newest_place, taken_of}
use Rattle.jt_octets.specs.Steps as plain
use Rattle.jt_order_octets.specs.World.{OrderWorld, empty}
use Rattle.jt_order_octets.specs.Steps.{Cut, Does, Down, Event, Issues, Offers, RestartPlatform, Up, after, after_read, heard_next}
use Rattle.jt_order_session_steps.specs.Steps.{EachLineIsNoted, NewSessionsStand}

-- ---- what was sent last is noted for each line

abbrev IsNoted : OrderWorld → Type 0
IsNoted w = length w.sent ≡ length w.base.lines

-- a step of the terminal adds both, or neither
does : (w : OrderWorld) (s : TerminalStep) → IsNoted w → IsNoted (after w (Does s))
does w step.Opens noted = length-append w.sent (None ∷ []) ∙ (ap (λ (n : ℕ). n + 1) noted ∙ sym (length-append w.base.lines (new_line ∷ [])))
does w (step.Sends place) noted = noted ∙ sym (length-set w.base.lines (newest_place w.base.lines) _)
does w (step.Says h body) noted = noted ∙ sym (length-set w.base.lines (newest_place w.base.lines) _)
does w (step.Records fix) noted = noted
does w (step.Forms unit) noted = noted
does w step.Accepts noted = noted
does w step.Loses noted = noted
does w (step.Restarts phone) noted = noted
does w (step.Codes code) noted = noted

reads : (w : OrderWorld) (heard : Heard) (takes responds : Bool) → IsNoted w → IsNoted (after_read w heard takes responds)
reads w (Ordered h octets m) takes true noted = noted ∙ (sym (length-set w.base.lines (newest_place w.base.lines) _) ∙ sym (length-set _ (newest_place _) _))
reads w (Ordered h octets m) takes false noted = noted ∙ sym (length-set w.base.lines (newest_place w.base.lines) _)
reads w (Other h m) takes responds noted = noted ∙ sym (length-set w.base.lines (newest_place w.base.lines) _)
reads w Nothing takes responds noted = noted ∙ sym (length-set w.base.lines (newest_place w.base.lines) _)

ups_noted : (w : OrderWorld) (place : ℕ) (o : Option State) (way : _) (item : _) → IsNoted w → length w.sent ≡ length (plain.after_take w.base place o item way).lines
ups_noted w place None way item noted = noted
ups_noted w place (Some s) way item noted = noted ∙ sym (length-set w.base.lines place _)

keeps : (w : OrderWorld) (event : Event) → IsNoted w → IsNoted (after w event)
keeps w (Issues order) noted = noted
keeps w (Does s) noted = does w s noted
keeps w (Up place way telling) noted = ups_noted w place (line_at w.base.lines place).session way _ noted
keeps w (Offers place) noted = length-set w.sent place _ ∙ (noted ∙ sym (length-set w.base.lines place _))
keeps w (Down takes responds) noted = reads w (heard_next w) takes responds noted
keeps w (Cut place) noted = noted ∙ sym (length-set w.base.lines place _)
keeps w RestartPlatform noted = noted ∙ sym (length-map w.base.lines plain.shut)

keeps_all : (w : OrderWorld) (events : List Event) → IsNoted w → IsNoted (after_all after w events)
keeps_all w [] noted = noted
keeps_all w (event ∷ events) noted = keeps_all (after w event) events (keeps w event noted)

pub lines_are_noted : EachLineIsNoted
lines_are_noted w r = subst IsNoted r.leads.to (keeps_all (empty r.phone r.setting) r.leads.events refl)

-- ---- a new session

one_more : {A : Type 0} (xs : List A) (x : A) (n : ℕ) → n ≡ length xs → n < length (xs ++ x ∷ [])
one_more xs x n e = omega (arith, e, length-append xs (x ∷ []))

pub new_sessions_stand : NewSessionsStand
new_sessions_stand w s o h book reached is_new number given sent opening history book_is = (
  record {
    within = one_more w.base.lines new_line (length w.base.lines) refl;
    noted = one_more w.sent None (length w.base.lines) (sym noted);
    number = number;
    most = subst (λ (l : Line). l.up.taken ≤ length l.up.octets) (sym there) (omega arith);
    keeps = ap (λ (l : Line). l.session) there ∙ sym (ap (λ (b : Bool). if b then None else Some s.session.state) is_new.over ∙ ap (λ (x : State). Some x) is_new.state);
    given = λ going. subst (λ (l : Line). StandsForOrders s (taken_of l.up)) (sym there) given;
    first = given.first ∙ ap (λ (l : Line). first_header (items (taken_of l.up))) (sym there);
    sent = sent ∙ sym (get_or_push w.sent None None (length w.base.lines) noted);
    opening = opening;
    history = history;
    book_is = book_is;
  },
  ap (λ (l : Line). l.is_open) there,
)
  where
    noted : IsNoted w
    noted = lines_are_noted w reached

    there : line_at (w.base.lines ++ new_line ∷ []) (length w.base.lines) ≡ new_line
    there = get_or_push w.base.lines new_line new_line (length w.base.lines) refl
