-- What is claimed of every order world that is reached (this project's own). To be believed.
use Rattle.std.specs.Prelude.{◌≡◌, ℕ, ◌<◌, ◌≤◌, List, [], ◌∷◌, length, Contains, true, false, Some}
use Rattle.jt_value.specs.Sameness.{key_of}
use Rattle.jt_value.specs.declared.phone.Edition.{Edition}
use Rattle.jt_value.specs.declared.phone.Phone.{Phone}
use Rattle.jt_register.specs.declared.register.Register.{Register}
use Rattle.jt_platform.specs.History.{holder, registration}
use Rattle.jt_platform.specs.Allowed.{IsOfFleet}
use Rattle.jt_order.specs.Orders.{OrderOf, IsOrder}
use Rattle.jt_order.specs.declared.performed.Performed.{Performed}
use Rattle.jt_terminal_answers.specs.Performing.{HeldTables}
use Rattle.jt_delivery.specs.World.{Setting}
use mathlib.Core.List.{IsPrefix}
use Rattle.jt_obeying.specs.Orders.{Performing, order_at, orders_in, results_in, no_tables, tables_behind, tables_of, performed_over}
use Rattle.jt_obeying.specs.World.{Answer, OtherMessage, OrderMessage, OtherAnswer, OrderWorld}
use Rattle.jt_obeying.specs.Steps.{Event, May, after}
use Rattle.jt_obeying.specs.Reaching.{Reached, empty}
use Rattle.jt_obeying.specs.Record.{AreResults, IsOne, under_way, Stands}

-- these orders were obeyed: they were issued, those in the log were performed, and these results were answered
pub record AreObeyed (performing : Performing) (issued : List OrderOf) (results : List ℕ) (log : List Performed) (held : HeldTables) : Type 0 where
  -- the orders performed are the first that were issued, each once and in order
  pub performed : IsPrefix (orders_in log) issued
  -- each order that was answered was performed, and the answered results are those of the log
  pub answered : length results ≤ length log
  pub results_are : IsPrefix results (results_in log)
  -- each order in the log has a body that is not refused, and its result is the one over the tables behind those before it
  pub by_tables : AreResults performing no_tables log
  -- the tables are those that the performed orders with result 0 leave
  pub tables : held ≡ tables_of performing no_tables log

-- the orders of a world were obeyed
abbrev pub Obeyed : OrderWorld → Type 0
Obeyed w = AreObeyed w.performing w.issued w.results w.log w.tables

-- so they were in every world that is reached
abbrev pub EachReachedIsObeyed : Type 0
EachReachedIsObeyed = (w : OrderWorld) → Reached w → Obeyed w

-- what was issued are orders
abbrev pub EachIssuedIsOrder : Type 0
EachIssuedIsOrder = (w : OrderWorld) → Reached w → (place : ℕ) → place < length w.issued → IsOrder (order_at w.issued place)

-- no order is responded to with 1 for its serial alone
abbrev pub NoneIsRefused : Type 0
NoneIsRefused = (w : OrderWorld) → Reached w → w.refused ≡ []

-- each order that was sent on a line was issued, and all before it are answered; so it is answered too, or the oldest that is not
abbrev pub EachIsSentInTurn : Type 0
EachIsSentInTurn = (w : OrderWorld) → Reached w → (number place : ℕ) → Contains (w.lines number).sent place → (place < length w.issued) × (place ≤ length w.results)

-- on the line whose session holds the phone at most one order is under way, and that is the oldest that is not answered
abbrev pub OneIsUnderWay : Type 0
OneIsUnderWay = (w : OrderWorld) → Reached w → (number : ℕ) → (w.lines number).is_open ≡ true → holder w.key w.history ≡ Some number → IsOne (length w.results) (under_way (w.lines number))

-- ---- Orders are obeyed in some worlds that are reached: for each phone, each registration of the fleet, and each order that the terminal
-- reads.

-- the world is reached, of this phone, over this setting and this performing; and the phone is registered so
pub record IsReachedWith (phone : Phone) (register : Register) (setting : Setting) (performing : Performing) (w : OrderWorld) : Type 0 where
  pub reached : Reached w
  pub of_phone : w.key ≡ key_of phone
  pub of_setting : w.setting ≡ setting
  pub of_performing : w.performing ≡ performing
  pub registered : w.keeper.registered ≡ Some (registration register)

-- this order alone was issued, and performed over empty tables, and its result answered
pub record OrderIsObeyed (performing : Performing) (edition : Edition) (order : OrderOf) (w : OrderWorld) : Type 0 where
  pub issued : w.issued ≡ order ∷ []
  pub performed : w.log ≡ performed_over performing edition no_tables order ∷ []
  pub answered : w.results ≡ performing.result edition no_tables order ∷ []

-- on the first line
abbrev pub SomeOrderIsObeyed : Type 0
SomeOrderIsObeyed = (phone : Phone) (register : Register) (setting : Setting) (performing : Performing) (edition : Edition) (order : OrderOf)
    → IsOfFleet setting.fleet (registration register) → IsOrder order → performing.refuses edition order ≡ false
    → (w : OrderWorld) × IsReachedWith phone register setting performing w × OrderIsObeyed performing edition order w × (w.count ≡ 1)

-- the order was read on both of two lines; the first was cut while its answer waited there
pub record ComesTwice (result : ℕ) (w : OrderWorld) : Type 0 where
  pub two_lines : w.count ≡ 2
  pub first_read : Contains (w.lines 1).read (OrderMessage 0)
  pub first_cut : (w.lines 1).is_open ≡ false
  pub lost : (w.lines 1).waiting ≡ Answer 0 result ∷ []
  pub second_read : Contains (w.lines 2).read (OrderMessage 0)

-- So they are where the first answer is lost: the line is cut and the terminal starts again, in the same edition or the other one, and the
-- order comes a second time on a second line, and is performed once.
abbrev pub SomeOrderComesAgain : Type 0
SomeOrderComesAgain = (phone : Phone) (register : Register) (setting : Setting) (performing : Performing) (edition later : Edition) (order : OrderOf)
    → IsOfFleet setting.fleet (registration register) → IsOrder order → performing.refuses edition order ≡ false → performing.refuses later order ≡ false
    → (w : OrderWorld) × IsReachedWith phone register setting performing w × OrderIsObeyed performing edition order w × (w.edition ≡ later)
    × ComesTwice (performing.result edition no_tables order) w

-- the order was sent on both of two lines, and read on the second alone; and the platform started again over a keeper that had the phone
pub record IsSentTwice (register : Register) (w : OrderWorld) : Type 0 where
  pub two_lines : w.count ≡ 2
  pub first_sent : (w.lines 1).sent ≡ 0 ∷ []
  pub lost : (w.lines 1).read ≡ []
  pub restarted : w.began.registered ≡ Some (registration register)
  pub second_sent : (w.lines 2).sent ≡ 0 ∷ []
  pub second_read : Contains (w.lines 2).read (OrderMessage 0)

-- So they are where the order itself is lost: the terminal reads nothing of the first line and gives it up, the platform starts again, and the
-- order comes a second time on a second line.
abbrev pub SomeOrderIsSentAgain : Type 0
SomeOrderIsSentAgain = (phone : Phone) (register : Register) (setting : Setting) (performing : Performing) (edition : Edition) (order : OrderOf)
    → IsOfFleet setting.fleet (registration register) → IsOrder order → performing.refuses edition order ≡ false
    → (w : OrderWorld) × IsReachedWith phone register setting performing w × OrderIsObeyed performing edition order w × IsSentTwice register w

-- the order was read on a first line, on which the terminal wrote nothing behind its registration and authentication; and sent on a second one
pub record OutlastsAFault (w : OrderWorld) : Type 0 where
  pub two_lines : w.count ≡ 2
  pub read : (w.lines 1).read ≡ OrderMessage 0 ∷ OtherAnswer ∷ OtherAnswer ∷ []
  pub gone : (w.lines 1).gone ≡ OtherMessage ∷ OtherMessage ∷ []
  pub waiting : (w.lines 1).waiting ≡ []
  pub second_sent : (w.lines 2).sent ≡ 0 ∷ []

-- So they are where the order is performed and not responded to, since memory or a store failed behind that: the order comes a second time
-- on a second line, and is responded to with the result in the log.
abbrev pub SomeOrderOutlastsAFault : Type 0
SomeOrderOutlastsAFault = (phone : Phone) (register : Register) (setting : Setting) (performing : Performing) (edition : Edition) (order : OrderOf)
    → IsOfFleet setting.fleet (registration register) → IsOrder order → performing.refuses edition order ≡ false
    → (w : OrderWorld) × IsReachedWith phone register setting performing w × OrderIsObeyed performing edition order w × OutlastsAFault w

-- So are two orders, one after the other on one line; the second over the tables that the first left.
abbrev pub TwoOrdersAreObeyed : Type 0
TwoOrdersAreObeyed = (phone : Phone) (register : Register) (setting : Setting) (performing : Performing) (edition : Edition) (first second : OrderOf)
    → IsOfFleet setting.fleet (registration register) → IsOrder first → IsOrder second → performing.refuses edition first ≡ false → performing.refuses edition second ≡ false
    → let p = performed_over performing edition no_tables first in let q = performed_over performing edition (tables_behind performing no_tables p) second in
    (w : OrderWorld) × IsReachedWith phone register setting performing w × (w.count ≡ 1) × (w.issued ≡ first ∷ second ∷ []) × (w.log ≡ p ∷ q ∷ [])
    × (w.results ≡ p.result ∷ q.result ∷ [])

-- before all events the rule stands, and each event that may come keeps it
pub record EventsKeepIt : Type 0 where
  pub begins : (key : List ℕ) (setting : Setting) (performing : Performing) (edition : Edition) → Stands (empty key setting performing edition)
  pub keeps : (w : OrderWorld) (event : Event) → Stands w → May w event → Stands (after w event)
