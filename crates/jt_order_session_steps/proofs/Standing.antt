-- The world behind a call, and how the session stands in it.
use Rattle.std.proofs.Common.{ℕ, suc, ◌+◌, ◌<◌, ◌≤◌, ◌≡◌, List, ◌++◌, length, take, Option, Some, None, false, ap, sym, ◌∙◌, subst}
use Rattle.std.proofs.lemmas.List.{get_or-set_same, length-set}
use Rattle.jt_stream.specs.Unplaced.{items}
use Rattle.jt_platform.specs.Allowed.{Opening}
use Rattle.jt_platform.specs.declared.request.Entry.{Entry}
use Rattle.jt_platform.specs.declared.request.Request.{Request}
use Rattle.jt_platform.specs.declared.request.Reply.{Reply}
use Rattle.jt_session.specs.Sessions.{entries_on}
use Rattle.jt_order.specs.Books.{Book}
use Rattle.jt_order_turns.specs.Headers.{first_header}
use Rattle.jt_order_session.specs.Sessions.{OrderSeen, StandsForOrders}
use Rattle.jt_octets.specs.World.{Line, Wire, line_at, new_line, opening_of, taken_of, written}
use Rattle.jt_order_octets.specs.World.{OrderWorld}
use Rattle.jt_order_session_steps.specs.Steps.{IsOpen, SessionStandsIn, after_call, state_kept, with_taken}

module _ (w : OrderWorld) (place : ℕ) (now : OrderSeen) (count : ℕ) (octets : List ℕ) (pairs : List (Request × Reply)) (results : List ℕ) where
  abbrev up : Wire
  up = (line_at w.base.lines place).up

  abbrev line_now : Line
  line_now = record (line_at w.base.lines place) { up = with_taken up count; down = written (line_at w.base.lines place).down octets; session = state_kept now.session }

  abbrev world_now : OrderWorld
  world_now = after_call w place now count octets pairs results

  line_there : place < length w.base.lines → line_at world_now.base.lines place ≡ line_now
  line_there within = get_or-set_same w.base.lines place line_now new_line within

  -- the end is open there as before
  pub open_behind : place < length w.base.lines → IsOpen w place → IsOpen world_now place
  open_behind within opened = ap (λ (l : Line). l.is_open) (line_there within) ∙ opened

  pub stands_behind : (o : Opening) (h : List Entry) (book : Option Book) → place < length w.base.lines → place < length w.sent → now.session.number ≡ suc place → up.taken + count ≤ length up.octets
      → (now.session.over ≡ false → StandsForOrders now (take (up.taken + count) up.octets)) → now.first ≡ first_header (items (take (up.taken + count) up.octets)) → o ≡ opening_of w.base
      → h ≡ entries_on (suc place) pairs ++ w.base.history → book ≡ Some (record { issued = w.issued; results = results }) → SessionStandsIn world_now place now o h book
  stands_behind o h book within noted number most given first opening history book_is = record {
    within = subst (λ (n : ℕ). place < n) (sym (length-set w.base.lines place line_now)) within;
    noted = subst (λ (n : ℕ). place < n) (sym (length-set w.sent place now.sent)) noted;
    number = number;
    most = subst (λ (l : Line). l.up.taken ≤ length l.up.octets) (sym (line_there within)) most;
    keeps = ap (λ (l : Line). l.session) (line_there within);
    given = λ going. subst (λ (l : Line). StandsForOrders now (taken_of l.up)) (sym (line_there within)) (given going);
    first = first ∙ ap (λ (l : Line). first_header (items (taken_of l.up))) (sym (line_there within));
    sent = sym (get_or-set_same w.sent place now.sent None noted);
    opening = opening;
    history = history;
    book_is = book_is;
  }
