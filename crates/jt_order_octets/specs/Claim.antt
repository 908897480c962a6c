-- What is claimed of every world of orders that is reached (this project's own). To be believed.
use Rattle.std.specs.Prelude.{◌≡◌, ℕ, suc, ◌<◌, ◌≤◌, List, [], length, Some}
use Rattle.jt_value.specs.Sameness.{key_of}
use Rattle.jt_header.specs.Content.{IsHeader}
use Rattle.jt_stream.specs.Unplaced.{Unplaced, Message as Frame, Fault}
use Rattle.jt_platform.specs.Laws.{AreOf}
use Rattle.jt_order.specs.Orders.{IsOrder}
use Rattle.jt_obeying.specs.Orders.{order_at}
use Rattle.jt_obeying.specs.Performing.{terminal_performing}
use Rattle.jt_obeying.specs.Claim.{AreObeyed}
use Rattle.jt_octets.specs.World.{completed_item, line_at}
use Rattle.jt_order_octets.specs.World.{OrderWorld, sent_at}
use Rattle.jt_order_octets.specs.Reaching.{Reached}

-- The orders performed are the first that were issued, each once and in order; what was answered was performed, with the results of the log; and
-- the tables are those that the performed orders with result 0 leave.
abbrev pub Obeyed : OrderWorld → Type 0
Obeyed w = AreObeyed terminal_performing w.issued w.results w.log w.tables

abbrev pub EachReachedIsObeyed : Type 0
EachReachedIsObeyed = (w : OrderWorld) → Reached w → Obeyed w

-- no order is responded to with 1 for its serial alone
abbrev pub NoneIsRefused : Type 0
NoneIsRefused = (w : OrderWorld) → Reached w → w.refused ≡ []

-- what was issued are orders
abbrev pub EachIssuedIsOrder : Type 0
EachIssuedIsOrder = (w : OrderWorld) → Reached w → (place : ℕ) → place < length w.issued → IsOrder (order_at w.issued place)

-- each order that was sent last on a line was issued, and all before it are answered
abbrev pub EachIsSentInTurn : Type 0
EachIsSentInTurn = (w : OrderWorld) → Reached w → (place n : ℕ) → sent_at w place ≡ Some n → (n < length w.issued) × (n ≤ length w.results)

-- at most one order is performed and not yet answered: so each is performed, and then answered, before the next is performed
abbrev pub AtMostOneIsAhead : Type 0
AtMostOneIsAhead = (w : OrderWorld) → Reached w → length w.log ≤ suc (length w.results)

-- what the present hub was asked is of the terminal's phone: so its keeper has something for that phone alone
abbrev pub EachReachedIsOfThePhone : Type 0
EachReachedIsOfThePhone = (w : OrderWorld) → Reached w → AreOf (key_of w.base.terminal.phone) w.base.history

-- the item is a frame of the phone with this key
abbrev pub IsFrameOf : List ℕ → Unplaced → Type 0
IsFrameOf key (Frame h octets) = IsHeader h × (key_of h.phone ≡ key)
IsFrameOf key (Fault octet why) = ⊥

-- whatever a session's next octet completes is a frame of the terminal's phone
abbrev pub EachItemIsOfThePhone : Type 0
EachItemIsOfThePhone = (w : OrderWorld) → Reached w → (place : ℕ) → place < length w.base.lines → (line_at w.base.lines place).up.taken < length (line_at w.base.lines place).up.octets
    → (item : Unplaced) → completed_item (line_at w.base.lines place).up ≡ Some item → IsFrameOf (key_of w.base.terminal.phone) item
