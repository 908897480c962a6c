-- The rule that each event keeps (this project's own). To be believed where `Claim` uses its words.
use Rattle.std.specs.Prelude.{◌≡◌, ℕ, suc, ◌-◌, ◌<◌, ◌≤◌, List, [], ◌∷◌, ◌++◌, length, take, Contains, true, false, Some}
use Rattle.jt_value.specs.declared.phone.Edition.{Edition}
use Rattle.jt_platform.specs.declared.request.Entry.{Entry}
use Rattle.jt_platform.specs.History.{live, holder}
use Rattle.jt_order.specs.Orders.{IsOrder}
use Rattle.jt_order.specs.declared.performed.Performed.{Performed}
use Rattle.jt_terminal_answers.specs.Performing.{HeldTables}
use Rattle.jt_obeying.specs.Orders.{Performing, tables_behind, no_tables, tables_of, orders_in, order_at, results_in, result_at}
use Rattle.jt_obeying.specs.World.{Up, Answer, OtherMessage, Down, OrderMessage, OtherAnswer, Line, OrderWorld}

-- the places of the orders among these messages, and of those that these messages answer
abbrev pub orders_among : List Down → List ℕ
orders_among [] = []
orders_among (OrderMessage place ∷ more) = place ∷ orders_among more
orders_among (OtherAnswer ∷ more) = orders_among more

abbrev pub answers_among : List Up → List ℕ
answers_among [] = []
answers_among (Answer place result ∷ more) = place ∷ answers_among more
answers_among (OtherMessage ∷ more) = answers_among more

-- the orders that are under way on a line: not read, or their answers not taken
abbrev pub under_way : Line → List ℕ
under_way line = orders_among line.unread ++ answers_among line.waiting

-- there is none, or this place alone
abbrev pub IsOne : ℕ → List ℕ → Type 0
IsOne place [] = Unit {0}
IsOne place (x ∷ []) = x ≡ place
IsOne place (x ∷ y ∷ more) = ⊥

-- these places rise, and none is below `low`
abbrev pub Rise : ℕ → List ℕ → Type 0
Rise low [] = Unit {0}
Rise low (x ∷ more) = (low ≤ x) × Rise (suc x) more

-- each of these answers is to an order that was performed, with the result in the log
abbrev pub AgreeWithLog : List Performed → List Up → Type 0
AgreeWithLog log [] = Unit {0}
AgreeWithLog log (Answer place result ∷ more) = (place < length log) × (result ≡ result_at log place) × AgreeWithLog log more
AgreeWithLog log (OtherMessage ∷ more) = AgreeWithLog log more

-- in one of the editions the order's body is not refused, and over these tables it has this result
abbrev pub IsResult : Performing → HeldTables → Performed → Type 0
IsResult performing t p = (edition : Edition) × (performing.refuses edition p.order ≡ false) × (p.result ≡ performing.result edition t p.order)

-- each result is that of its order over the tables behind those before it
abbrev pub AreResults : Performing → HeldTables → List Performed → Type 0
AreResults performing t [] = Unit {0}
AreResults performing t (p ∷ more) = IsResult performing t p × AreResults performing (tables_behind performing t p) more

-- a line, where so many orders were issued, and so many answered
pub record LineOk (issued answered : ℕ) (log : List Performed) (key : List ℕ) (history : List Entry) (number : ℕ) (line : Line) : Type 0 where
  -- each order sent on it was issued, and all before it were answered
  pub sent : (place : ℕ) → Contains line.sent place → (place < issued) × (place ≤ answered)
  -- what is under way was sent on it
  pub way : (place : ℕ) → Contains (under_way line) place → Contains line.sent place
  pub agree : AgreeWithLog log line.waiting
  -- while it is open and an order was sent on it, its session is live
  pub lives : line.is_open ≡ true → live key history number ≡ false → line.sent ≡ []
  -- while it is open and its session holds the phone, at most one order is under way: the oldest that is not answered
  pub one : line.is_open ≡ true → holder key history ≡ Some number → IsOne answered (under_way line)

-- the rule
pub record Stands (w : OrderWorld) : Type 0 where
  -- as many orders are performed as answered, or one more, and no more than were issued
  pub answered_performed : length w.results ≤ length w.log
  pub one_more : length w.log ≤ suc (length w.results)
  pub performed_issued : length w.log ≤ length w.issued
  pub orders : (place : ℕ) → place < length w.issued → IsOrder (order_at w.issued place)
  pub performed : orders_in w.log ≡ take (length w.log) w.issued
  pub results : w.results ≡ take (length w.results) (results_in w.log)
  pub by_tables : AreResults w.performing no_tables w.log
  pub tables : w.tables ≡ tables_of w.performing no_tables w.log
  pub lines : (number : ℕ) → LineOk (length w.issued) (length w.results) w.log w.key w.history number (w.lines number)
  -- on the line in use the places of the unread orders rise, and none is older than the one performed last
  pub in_use : w.using ≡ true → Rise (length w.log - 1) (orders_among (w.lines w.count).unread)
  pub none_refused : w.refused ≡ []
