-- A session that is closed, as the step Cut.
use Rattle.std.proofs.Common.{ℕ, suc, length, ◌<◌, ◌≤◌, ◌≡◌, List, [], ◌∷◌, ◌++◌, Option, ap, sym, ◌∙◌, subst}
use Rattle.std.proofs.lemmas.List.{get_or-set_same, length-set, reverse-append}
use Rattle.jt_stream.specs.Unplaced.{items}
use Rattle.jt_platform.specs.Allowed.{Opening}
use Rattle.jt_platform.specs.History.{newest}
use Rattle.jt_platform.specs.declared.request.Entry.{Entry}
use Rattle.jt_order.specs.Books.{Book}
use Rattle.jt_order_turns.specs.Headers.{first_header}
use Rattle.jt_order_session.specs.Sessions.{OrderSeen, StandsForOrders}
use Rattle.jt_octets.specs.World.{Line, line_at, new_line, taken_of}
use Rattle.jt_octets.specs.Steps.{shut}
use Rattle.jt_order_octets.specs.World.{OrderWorld}
use Rattle.jt_order_octets.specs.Steps.{Cut, after}
use Rattle.jt_order_session_steps.specs.Steps.{ClosesAreSteps, SessionStandsIn, close_entry}

module _ (w : OrderWorld) (place : ℕ) (s : OrderSeen) (o : Opening) (history history_now : List Entry) (book : Option Book) (st : SessionStandsIn w place s o (newest history) book)
    (entry : history_now ≡ history ++ close_entry s.session.number ∷ []) where
  abbrev line : Line
  line = line_at w.base.lines place

  there : line_at (after w (Cut place)).base.lines place ≡ shut line
  there = get_or-set_same w.base.lines place (shut line) new_line st.within

  newest_now : newest history_now ≡ close_entry (suc place) ∷ w.base.history
  newest_now = ap newest entry ∙ (reverse-append history (close_entry s.session.number ∷ []) ∙ (ap (λ (n : ℕ). close_entry n ∷ newest history) st.number ∙ ap (λ (h : List Entry). close_entry (suc place) ∷ h) st.history))

  stands_cut : SessionStandsIn (after w (Cut place)) place s o (newest history_now) book
  stands_cut = record {
    within = subst (λ (n : ℕ). place < n) (sym (length-set w.base.lines place (shut line))) st.within;
    noted = st.noted;
    number = st.number;
    most = subst (λ (l : Line). l.up.taken ≤ length l.up.octets) (sym there) st.most;
    keeps = ap (λ (l : Line). l.session) there ∙ st.keeps;
    given = λ going. subst (λ (l : Line). StandsForOrders s (taken_of l.up)) (sym there) (st.given going);
    first = st.first ∙ ap (λ (l : Line). first_header (items (taken_of l.up))) (sym there);
    sent = st.sent;
    opening = st.opening;
    history = newest_now;
    book_is = st.book_is;
  }

pub closes_are_steps : ClosesAreSteps
closes_are_steps w place s o history history_now book st opened entry =
    record { may = record { opened = st.within; is_open = opened }; stands = stands_cut w place s o history history_now book st entry }
