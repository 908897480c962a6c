-- A terminal that performs orders, a platform that issues them, and the lines between them, octet by octet: what there is (this project's
-- own). To be believed. Neither end sees more than the octets that it took: the two meet in the lines alone.
use Rattle.std.specs.Prelude.{ℕ, List, [], get_or, Option, None}
use Rattle.jt_value.specs.declared.phone.Phone.{Phone}
use Rattle.jt_header.specs.declared.header.Header.{Header}
use Rattle.jt_stream.specs.Unplaced.{items}
use Rattle.jt_delivery.specs.World.{Setting}
use Rattle.jt_terminal_answers.specs.Performing.{HeldTables}
use Rattle.jt_order.specs.Orders.{OrderOf}
use Rattle.jt_order.specs.declared.performed.Performed.{Performed}
use Rattle.jt_obeying.specs.Orders.{no_tables}
use Rattle.jt_order_turns.specs.Headers.{first_header}
use Rattle.jt_octets.specs.World.{World, line_at, taken_of}
use Rattle.jt_octets.specs.World as plain

pub record OrderWorld : Type 0 where
  -- the wrapped terminal, the platform and the lines, as without orders; but of messages in packets this terminal keeps nothing
  pub base : World
  -- the platform's book: the orders that were issued, and the results of those that were answered
  pub issued : List OrderOf
  pub results : List ℕ
  -- for each line, in the order in which they were opened: the place of the order that was sent last on it. Orders count from 0 as they were
  -- issued.
  pub sent : List (Option ℕ)
  -- the order terminal's log, and its tables
  pub log : List Performed
  pub tables : HeldTables
  -- for the record: the serials of the orders that the terminal responded to with 1 for their serial alone
  pub refused : List ℕ

-- the place of the order that was sent last on the line in a place
abbrev pub sent_at : OrderWorld → ℕ → Option ℕ
sent_at w place = get_or w.sent place None

-- the header of the first frame that the session of the line in a place read
abbrev pub first_read : OrderWorld → ℕ → Option Header
first_read w place = first_header (items (taken_of (line_at w.base.lines place).up))

-- the world before all steps
abbrev pub empty : Phone → Setting → OrderWorld
empty phone setting =
    record { base = plain.empty phone setting; issued = []; results = []; sent = []; log = []; tables = no_tables; refused = [] }
