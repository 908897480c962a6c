-- A platform with a book of orders, an order terminal with a log, and any number of lines between them, in whole messages: what there is
-- (this project's own). To be believed.
use Rattle.std.specs.Prelude.{ℕ, List, [], Bool, true, false, if◌then◌else◌, ◌==◌, Some}
use Rattle.jt_value.specs.declared.phone.Edition.{Edition}
use Rattle.jt_store.specs.Verdicts.{Shelf, alone}
use Rattle.jt_platform.specs.declared.request.Entry.{Entry}
use Rattle.jt_platform.specs.Allowed.{Opening}
use Rattle.jt_order.specs.Orders.{OrderOf}
use Rattle.jt_order.specs.declared.performed.Performed.{Performed}
use Rattle.jt_delivery.specs.World.{Setting}
use Rattle.jt_terminal_answers.specs.Performing.{HeldTables}
use Rattle.jt_obeying.specs.Orders.{Performing}

-- ---- messages. An order is named by its place: orders count from 0 as they were issued. Its message has the serial of that number.

-- what the terminal writes on a line
pub data Up : Type 0 where
  -- the 0x0001 with this result, in one piece, that names the serial and id of the order of a place
  Answer : (place result : ℕ) → Up
  -- any other message, but no 0x0003, and no 0x0001 in one piece that names an id of orders
  OtherMessage : Up

-- what the session writes on a line
pub data Down : Type 0 where
  -- the order of a place
  OrderMessage : (place : ℕ) → Down
  -- anything else
  OtherAnswer : Down

-- ---- lines

-- A line of communication. What one end reads is what the other wrote, in order. Of a line that the terminal gave up it reads no more;
-- the session may still take what waits.
pub record Line : Type 0 where
  -- what the session went through, newest first, and what the terminal wrote behind that, oldest first
  pub gone : List Up
  pub waiting : List Up
  -- what the terminal read, newest first, and what the session wrote behind that, oldest first
  pub read : List Down
  pub unread : List Down
  -- whether the platform's end is open
  pub is_open : Bool
  -- whether the session ended by itself
  pub ended : Bool
  -- the places of the orders that were sent on it, newest first
  pub sent : List ℕ

-- a line on which nothing was written
abbrev pub new_line : Line
new_line = record { gone = []; waiting = []; read = []; unread = []; is_open = true; ended = false; sent = [] }

-- this line in the place of the one of this number
abbrev pub put : (ℕ → Line) → ℕ → Line → ℕ → Line
put lines number line k = if k == number then line else lines k

-- ---- the world

-- all that is there, and what is only recorded of it
pub record OrderWorld : Type 0 where
  -- what every hub of the platform is started with, and the result that an order has at the terminal, and the tables it leaves
  pub setting : Setting
  pub performing : Performing
  -- the digits of the terminal's phone
  pub key : List ℕ
  -- the terminal's edition since it started last; so the one of all that goes over the line in use, orders too
  pub edition : Edition
  -- the platform's book: the orders that were issued, and the results of those that were answered
  pub issued : List OrderOf
  pub results : List ℕ
  -- the order terminal's log, and its tables
  pub log : List Performed
  pub tables : HeldTables
  -- whether the newest line is in use
  pub using : Bool
  -- how many lines were opened, and the lines by their numbers, from 1 on
  pub count : ℕ
  pub lines : ℕ → Line
  -- what the platform keeps for the phone, and what it kept when the present hub began
  pub keeper : Shelf
  pub began : Shelf
  -- the present hub's entries, newest first
  pub history : List Entry
  -- for the record: the places of the orders that the terminal responded to with 1 for their serial alone
  pub refused : List ℕ

-- what the present hub began with
abbrev pub opening : OrderWorld → Opening
opening w = record { tables = Some (alone w.key w.began); limit = w.setting.limit; fleet = w.setting.fleet; secret = w.setting.secret }
