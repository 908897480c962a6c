-- A world of orders as a script plays it: the terminal by its rule and the three rules, the platform by the one reply that its history allows, and
-- the book told of each answer (this project's own). To be believed.
use Rattle.std.specs.Prelude.{◌≡◌, ℕ, zero, suc, ◌≤◌, ◌+◌, ◌-◌, ◌^◌, min, nat_lt, nat_le, not, ◌&&◌, ◌||◌, Bool, true, false, if◌then◌else◌, List, [], ◌∷◌, length, Option, None, Some, is_none}
use Rattle.std.specs.Option.{option_and_then}
use Rattle.jt_header.specs.declared.header.Header.{Header}
use Rattle.jt_stream.specs.Unplaced.{Unplaced, Message as Frame}
use Rattle.jt_store.specs.Vaults.{Held}
use Rattle.jt_platform.specs.declared.request.Reply.TheVariants as say
use Rattle.jt_session.specs.Talk.{State as Session, Way, Goes}
use Rattle.jt_terminal_rule.specs.declared.settings.Settings.{Settings}
use Rattle.jt_terminal_rule.specs.declared.state.State.{State}
use Rattle.jt_terminal_rule.specs.declared.state.Event.{Event as TerminalEvent}
use Rattle.jt_terminal_rule.specs.declared.state.Event.TheVariants as event
use Rattle.jt_terminal_rule.specs.Rule.{Ruled, rule, start_state}
use Rattle.jt_terminal_rule.specs.Steps.{TerminalStep}
use Rattle.jt_terminal_rule.specs.Steps as step
use Rattle.jt_terminal_rule.specs.Machines.{as_steps, held_after}
use Rattle.jt_order.specs.Books.{Book}
use Rattle.jt_order.specs.Orders.{OrderOf}
use Rattle.jt_order.specs.declared.book.TheConstants.{ORDER_LIMIT}
use Rattle.jt_order_turns.specs.Heard.{Heard, Ordered, Other, Nothing}
use Rattle.jt_order_session.specs.Responses.{response_in}
use Rattle.jt_order_session.specs.Sessions.{holds_phone, is_due, names_oldest}
use Rattle.jt_octets.specs.World.{Line, completed_item, line_at, newest, newest_place}
use Rattle.jt_play.specs.Playing.{behind_first, has_left, loaded_of, octets_moving, place_of, takes_first, way_at}
use Rattle.jt_order_octets.specs.World.{OrderWorld, first_read, sent_at}
use Rattle.jt_order_octets.specs.Steps.{Cut, Does, Down, Issues, Offers, RestartPlatform, Telling, Tells, TellsNothing, Up, after, heard_next}
use Rattle.jt_order_play.specs.declared.event.OrderEvent.{OrderEvent}
use Rattle.jt_order_play.specs.declared.event.OrderEvent.TheVariants as line

-- the world, and beside it what the terminal's vault holds, what the wrapped terminal keeps, and the clock
pub record OrderPlay : Type 0 where
  pub world : OrderWorld
  pub held : Held
  pub state : State
  pub clock : ℕ

abbrev pub with_world : OrderPlay → OrderWorld → OrderPlay
with_world p w = record p { world = w }

-- ---- the terminal

-- the wrapped terminal takes these steps, one after another
abbrev pub done : OrderWorld → List TerminalStep → OrderWorld
done w [] = w
done w (s ∷ steps) = done (after w (Does s)) steps

-- it does what its rule says
abbrev pub acts : OrderPlay → Ruled → OrderPlay
acts p r = record p { world = done p.world (as_steps p.world.base.terminal r.steps); held = held_after r.steps p.held; state = r.state }

abbrev pub meets : OrderPlay → TerminalEvent → OrderPlay
meets p e = acts p (rule p.state e)

-- the line in use is lost, where there is one
abbrev pub loses : OrderPlay → OrderPlay
loses p = if p.world.base.terminal.using then meets p event.Lost else p

-- the terminal starts anew with these settings
abbrev pub begins : OrderPlay → Settings → OrderPlay
begins p settings = record p { world = after p.world (Does (step.Restarts settings.phone)); state = start_state settings (loaded_of p.held) }

-- and is told the moment
abbrev pub starts_again : OrderPlay → Settings → OrderPlay
starts_again p settings = meets (begins p settings) (event.Tick p.clock)

-- the clock goes up, to 2^63 at most, and the terminal is told
abbrev pub ticks : OrderPlay → ℕ → OrderPlay
ticks p by = let now = min (p.clock + by) (2 ^ 63) in meets (record p { clock = now }) (event.Tick now)

-- ---- octets down

-- The terminal reads one octet more, and the wrapped terminal does what its rule says of the message that this completes. An acceptance stands
-- directly behind the octet.
abbrev pub reads_by : OrderPlay → Ruled → OrderPlay
reads_by p r =
    let read = after p.world (Down (takes_first r.steps) true) in
    record p { world = done read (as_steps read.base.terminal (behind_first r.steps)); held = held_after r.steps p.held; state = r.state }

-- an order is performed by the three rules, and responded to
abbrev pub reads_heard : OrderPlay → Heard → OrderPlay
reads_heard p (Ordered h octets m) = with_world p (after p.world (Down false true))
reads_heard p (Other h m) = reads_by p (rule p.state (event.Received h m))
reads_heard p Nothing = with_world p (after p.world (Down false true))

abbrev pub reads_one : OrderPlay → OrderPlay
reads_one p = reads_heard p (heard_next p.world)

-- whether an octet is left to be read on the line in use
abbrev pub reads_more : OrderPlay → Bool
reads_more p = p.world.base.terminal.using && has_left (newest p.world.base).down

-- so many octets at most, while a line is in use
abbrev pub reads : ℕ → OrderPlay → OrderPlay
reads zero p = p
reads (suc n) p = if reads_more p then reads n (reads_one p) else p

-- ---- what the book is told

abbrev pub book_of : OrderWorld → Book
book_of w = record { issued = w.issued; results = w.results }

-- the result of a frame that is a response which names the oldest order that is not answered, where the order of this number was sent last
abbrev pub result_named : Option ℕ → Book → Header → List ℕ → Option ℕ
result_named sent book h octets = option_and_then (λ r. if names_oldest sent book r then Some r.result else None) (response_in h octets)

-- the result with which an accepted item answers that order, if it does
abbrev pub result_in : Option ℕ → Book → Option Unplaced → Way → Option ℕ
result_in sent book (Some (Frame h octets)) (Goes (Some say.Accepted)) = result_named sent book h octets
result_in sent book item way = None

-- the book is told of it
abbrev pub told_by : Option ℕ → Telling
told_by None = TellsNothing
told_by (Some result) = Tells result

-- the result with which the next octet of the line in this place answers that order, if it does
abbrev pub result_of_next : OrderWorld → ℕ → Way → Option ℕ
result_of_next w place way = result_in (sent_at w place) (book_of w) (completed_item (line_at w.base.lines place).up) way

-- ---- offers

-- A session whose end is open, which is live for the phone of its first frame and holds it, has an order to send: the oldest that is not answered,
-- if it did not send it last.
abbrev pub may_offer : OrderWorld → ℕ → Bool
may_offer w place = (line_at w.base.lines place).is_open && (holds_phone (suc place) (first_read w place) w.base.history && is_due (sent_at w place) (book_of w))

abbrev pub offers_at : ℕ → OrderWorld → OrderWorld
offers_at place w = if may_offer w place then after w (Offers place) else w

-- the sessions of the first so many lines offer, one after another
abbrev pub offers_upto : ℕ → OrderWorld → OrderWorld
offers_upto zero w = w
offers_upto (suc n) w = offers_at n (offers_upto n w)

abbrev pub offers_all : OrderWorld → OrderWorld
offers_all w = offers_upto (length w.base.lines) w

-- an order is issued, and each session offers
abbrev pub issues : OrderWorld → OrderOf → OrderWorld
issues w order = offers_all (after w (Issues order))

-- ---- octets up

-- a session that ended by itself closes its end
abbrev pub closes : ℕ → OrderWorld → OrderWorld
closes place w = if is_none (line_at w.base.lines place).session then after w (Cut place) else w

-- the session in this state takes one octet, if it goes on; the book is told; and the session offers
abbrev pub takes_octet : OrderWorld → ℕ → Option Session → OrderWorld
takes_octet w place None = w
takes_octet w place (Some s) =
    let way = way_at w.base place s (completed_item (line_at w.base.lines place).up) in
    offers_at place (after w (Up place way (told_by (result_of_next w place way))))

abbrev pub takes_one : OrderWorld → ℕ → OrderWorld
takes_one w place = closes place (takes_octet w place (line_at w.base.lines place).session)

-- whether the session takes an octet more: its end is open, it goes on, and an octet is left
abbrev pub goes_on : Line → Bool
goes_on line = (line.is_open && not (is_none line.session)) && has_left line.up

-- so many octets at most, while the session takes more
abbrev pub takes : ℕ → OrderWorld → ℕ → OrderWorld
takes zero w place = w
takes (suc n) w place = if goes_on (line_at w.base.lines place) then takes n (takes_one w place) place else w

-- ---- rounds

-- the terminal reads so many of the octets that are left, or all, while a line is in use
abbrev pub reads_down : OrderPlay → Option ℕ → OrderPlay
reads_down p count = reads (octets_moving count (newest p.world.base).down) p

-- the session of the line in this place takes so many of the octets that are left, or all
abbrev pub takes_up : OrderPlay → ℕ → Option ℕ → OrderPlay
takes_up p place count = with_world p (takes (octets_moving count (line_at p.world.base.lines place).up) p.world place)

-- whether an octet moves either way on the line in use
abbrev pub moves : OrderPlay → Bool
moves p = let line = newest p.world.base in p.world.base.terminal.using && ((line.is_open && has_left line.up) || has_left line.down)

-- all octets up
abbrev pub goes_up : OrderPlay → OrderPlay
goes_up p = takes_up p (newest_place p.world.base.lines) None

-- and then all down
abbrev pub round : OrderPlay → OrderPlay
round p = reads_down (goes_up p) None

-- so many rounds at most, while an octet moves
abbrev pub rounds : ℕ → OrderPlay → OrderPlay
rounds zero p = p
rounds (suc n) p = if moves p then rounds n (round p) else p

-- the terminal is told the moment, and then round after round, of 2^64 at most, comes to this, where no octet moves
pub record RunsTo (p now : OrderPlay) : Type 0 where
  pub count : ℕ
  pub few : count ≤ 2 ^ 64
  pub is : now ≡ rounds count (meets p (event.Tick p.clock))
  pub still : moves now ≡ false

-- ---- the world after a line of a script

-- the line in use is lost, and a new one is opened
abbrev pub opens : OrderPlay → OrderPlay
opens p = meets (loses p) event.Opened

-- the platform's end of the line in this place is closed, if it is open
abbrev pub cuts : OrderWorld → ℕ → OrderWorld
cuts w place = if (line_at w.base.lines place).is_open then after w (Cut place) else w

-- The terminal is told the moment, and round after round octets move, 2^64 times at most.
unfoldable pub runs : OrderPlay → OrderPlay
runs p = rounds (2 ^ 64) (meets p (event.Tick p.clock))

-- The world after a line of a script. `settings` are those with which the terminal starts anew.
abbrev pub play_after : Settings → OrderPlay → OrderEvent → OrderPlay
play_after settings p (line.Issue order) = with_world p (issues p.world order)
play_after settings p line.Open = opens p
play_after settings p (line.Up number count) = takes_up p (place_of number) count
play_after settings p (line.Down count) = reads_down p count
play_after settings p (line.Tick by) = ticks p by
play_after settings p line.Run = runs p
play_after settings p (line.Cut number) = with_world p (cuts p.world (place_of number))
play_after settings p line.Lost = loses p
play_after settings p line.RestartTerminal = starts_again p settings
play_after settings p line.RestartPlatform = with_world p (after p.world RestartPlatform)

-- A line of a script was done, and came to this: behind `run` no octet moves.
abbrev pub ComesTo : Settings → OrderPlay → OrderEvent → OrderPlay → Type 0
ComesTo settings p line.Run now = RunsTo p now
ComesTo settings p other now = now ≡ play_after settings p other

-- ---- when a step is refused

-- the line was opened
abbrev pub is_opened : OrderWorld → ℕ → Bool
is_opened w number = nat_lt 0 number && nat_le number (length w.base.lines)

-- a line is named that was never opened
abbrev pub names_no_line : OrderWorld → OrderEvent → Bool
names_no_line w (line.Up number count) = not (is_opened w number)
names_no_line w (line.Cut number) = not (is_opened w number)
names_no_line w other = false

-- as many orders as the limit were issued, and one is to be
abbrev pub finds_full : OrderWorld → OrderEvent → Bool
finds_full w (line.Issue order) = nat_le ORDER_LIMIT (length w.issued)
finds_full w other = false
