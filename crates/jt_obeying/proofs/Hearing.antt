-- What the terminal reads keeps the rule: no order is refused for its serial.
use Rattle.std.proofs.Common.{ℕ, suc, ◌+◌, ◌-◌, ◌<◌, ◌≤◌, ◌≡◌, List, [], ◌∷◌, ◌++◌, length, get_or, take, arith, refl, ap, sym, ◌∙◌, subst, Bool, true, false, if◌then◌else◌, inl, inr, Option, Some, None, IsSome}
use Rattle.std.specs.Prelude.{◌⊎◌, Contains}
use Rattle.std.proofs.lemmas.Bool.{cases_lt, eq-eqb, ne_eqb, le-leb}
use Rattle.std.proofs.lemmas.List.{length_push, take-append-le, take_more, get_or-take, get_or-map}
use Rattle.std.proofs.lemmas.Option.{slice_get-get_or}
use Rattle.std.proofs.lemmas.Slice.Eq.{bytes_eq-Decides}
use Rattle.jt_value.specs.Serials.{serial_of}
use Rattle.jt_order.specs.Orders.{OrderOf}
use Rattle.jt_order.specs.Rules.{is_same, ruling_by}
use Rattle.jt_order.specs.declared.performed.Performed.{Performed}
use Rattle.jt_order.specs.declared.rules.Ruling.{Ruling}
use Rattle.jt_order.specs.declared.rules.Ruling.TheVariants.{Again, Performs}
use Rattle.jt_obeying.specs.Orders.{no_tables, tables_behind, orders_in, results_in, order_at, result_at, last_performed, ruling}
use Rattle.jt_obeying.specs.World.{Answer, Down, OrderMessage, OtherAnswer, Line, OrderWorld}
use Rattle.jt_obeying.specs.Steps.{Hears, Misses, Passes, says, reads, performed_at, log_by, tables_by, result_by, world_by, ruling_on, has_refused_body, after_passing, after_ruling, after}
use Rattle.jt_obeying.specs.Record.{orders_among, answers_among, Rise, Stands}
use Rattle.jt_obeying.proofs.Lists.{orders_push, results_push, length_results, result_new, tables_push, are_results_push, rise_lower, first_among}
use Rattle.jt_obeying.proofs.Lines.{line_read, line_answered, line_more, placed_kept}

-- ---- which rule applies

same_is : (a b : OrderOf) → a ≡ b → is_same a b ≡ true
same_is a b e = rw e (rw (eq-eqb b.id b.id refl) ((bytes_eq-Decides b.body b.body).1 refl))

again_by : (count : ℕ) (last : Performed) (serial : ℕ) (order : OrderOf) → 1 ≤ count → serial ≡ serial_of (count - 1) → order ≡ last.order
    → ruling_by count (Some last) serial order ≡ Again last.result
again_by count last serial order some named same = rw (le-leb 1 count some) (rw (eq-eqb serial (serial_of (count - 1)) named) (rw (same_is order last.order same) refl))

pub again : (log : List Performed) (serial : ℕ) (order : OrderOf) → 1 ≤ length log → serial ≡ serial_of (length log - 1) → order ≡ order_at (orders_in log) (length log - 1)
    → ruling log serial order ≡ Again (result_at log (length log - 1))
again log serial order some named same =
    ap (λ (last : Option Performed). ruling_by (length log) last serial order) (slice_get-get_or log (length log - 1) none (omega (arith, some)))
    ∙ (again_by (length log) (get_or log (length log - 1) none) serial order some named (same ∙ get_or-map (λ (p : Performed). p.order) log (length log - 1) none (record { id = 0; body = [] }) (omega (arith, some)))
    ∙ ap Again (sym (get_or-map (λ (p : Performed). p.result) log (length log - 1) none 0 (omega (arith, some)))))
  where
    none : Performed
    none = record { order = record { id = 0; body = [] }; result = 0 }

next_by : (count : ℕ) (last : Option Performed) (serial : ℕ) (order : OrderOf) → (IsSome last → 1 ≤ count) → serial ≡ serial_of count → ruling_by count last serial order ≡ Performs
next_by count None serial order some named = rw (eq-eqb serial (serial_of count) named) refl
next_by count (Some last) serial order some named = rw (le-leb 1 count (some refl))
    (rw (ne_eqb serial (serial_of (count - 1)) (λ e. absurd (omega (arith, e, named, some refl)))) (rw (eq-eqb serial (serial_of count) named) refl))

some_last : (log : List Performed) → IsSome (last_performed log) → 1 ≤ length log
some_last [] is = absurd cc
some_last (p ∷ log) is = omega arith

next : (log : List Performed) (serial : ℕ) (order : OrderOf) → serial ≡ serial_of (length log) → ruling log serial order ≡ Performs
next log serial order named = next_by (length log) (last_performed log) serial order (some_last log) named

-- ---- an order is performed

abbrev performs : OrderWorld → ℕ → OrderWorld
performs w place = record w { log = log_by w place Performs; tables = tables_by w place Performs }

perform_kept : (w : OrderWorld) → Stands w → w.performing.refuses w.edition (order_at w.issued (length w.log)) ≡ false → length w.log < length w.issued → length w.log ≤ length w.results
    → (w.using ≡ true → Rise (length w.log) (orders_among (w.lines w.count).unread)) → Stands (performs w (length w.log))
perform_kept w v readable some le rise = record {
  answered_performed = omega (arith, v.answered_performed, len);
  one_more = omega (arith, le, len);
  performed_issued = omega (arith, some, len);
  orders = v.orders;
  performed = orders_push w.log p
      ∙ (ap (λ (z : List OrderOf). z ++ order_at w.issued (length w.log) ∷ []) v.performed
      ∙ (sym (take_more w.issued (length w.log) (record { id = 0; body = [] }) some) ∙ ap (λ (n : ℕ). take n w.issued) (sym len)));
  results = v.results
      ∙ (sym (take-append-le (length w.results) (results_in w.log) (p.result ∷ []) (omega (arith, v.answered_performed, length_results w.log)))
      ∙ ap (λ (z : List ℕ). take (length w.results) z) (sym (results_push w.log p)));
  by_tables = are_results_push w.performing w.edition no_tables w.log p v.by_tables readable (ap (λ t. w.performing.result w.edition t (order_at w.issued (length w.log))) v.tables);
  tables = ap (λ t. tables_behind w.performing t p) v.tables ∙ sym (tables_push w.performing no_tables w.log p);
  lines = λ k. line_more (length w.issued) (length w.results) w.log w.key w.history k (w.lines k) (v.lines k) p;
  in_use = λ u. rise_lower (length w.log) (length (w.log ++ p ∷ []) - 1) (orders_among (w.lines w.count).unread) (rise u) (omega (arith, len));
  none_refused = v.none_refused;
}
  where
    p : Performed
    p = performed_at w (length w.log)

    len : length (w.log ++ p ∷ []) ≡ length w.log + 1
    len = length_push w.log p

-- ---- an order is read

module _ (w : OrderWorld) (m : ℕ) (q : List Down) (v : Stands w) (using : w.using ≡ true) (first : (w.lines w.count).unread ≡ OrderMessage m ∷ q)
    (readable : has_refused_body w (OrderMessage m) ≡ false) where
  abbrev n : ℕ
  n = length w.log

  abbrev x : Line
  x = w.lines w.count

  rises : Rise (n - 1) (m ∷ orders_among q)
  rises = subst (λ z. Rise (n - 1) (orders_among z)) first (v.in_use using)

  known : (m < length w.issued) × (m ≤ length w.results)
  known = (v.lines w.count).sent m ((v.lines w.count).way m (subst (λ z. Contains (orders_among z ++ answers_among x.waiting) m) (sym first) (first_among m (orders_among q ++ answers_among x.waiting))))

  -- it is the last one or the next one
  which : (m < n) ⊎ (m ≡ n)
  which = elim (cases_lt m n) [ inl lt ↦ inl lt | inr ge ↦ inr (omega (arith, known.1, v.answered_performed)) ]

  last_one : m < n → ruling_on w m ≡ Again (result_at w.log m)
  last_one lt = let e : n - 1 ≡ m = omega (arith, rises.0) in
      again w.log (serial_of m) (order_at w.issued m) (omega arith) (ap (λ (k : ℕ). serial_of k) (sym e))
      (sym (ap (λ (os : List OrderOf). order_at os (n - 1)) v.performed ∙ (get_or-take n w.issued (n - 1) (record { id = 0; body = [] }) (omega arith) ∙ ap (λ (k : ℕ). order_at w.issued k) e)))
      ∙ ap (λ (k : ℕ). Again (result_at w.log k)) e

  next_one : m ≡ n → ruling_on w m ≡ Performs
  next_one e = next w.log (serial_of m) (order_at w.issued m) (ap (λ (k : ℕ). serial_of k) e)

  abbrev answers : Ruling → Line
  answers r = says (reads x (OrderMessage m) q) (Answer m (result_by w m r))

  abbrev heard_by : Ruling → OrderWorld
  heard_by r = world_by w m r (answers r)

  abbrev read_by : Ruling → OrderWorld
  read_by r = world_by w m r (reads x (OrderMessage m) q)

  rest_up : (low : ℕ) → low ≤ suc m → Rise low (orders_among q)
  rest_up low le = rise_lower (suc m) low (orders_among q) rises.1 le

  heard_again : m < n → Stands (heard_by (Again (result_at w.log m)))
  heard_again lt = placed_kept w w.count (answers (Again (result_at w.log m))) w.using v
      (line_answered (length w.issued) (length w.results) w.log w.key w.history w.count x (v.lines w.count) m (result_at w.log m) q first lt refl)
      (λ u. u) (λ u e. rest_up (n - 1) (omega (arith, rises.0)))

  read_again : m < n → Stands (read_by (Again (result_at w.log m)))
  read_again lt = placed_kept w w.count (reads x (OrderMessage m) q) w.using v
      (line_read (length w.issued) (length w.results) w.log w.key w.history w.count x (v.lines w.count) (OrderMessage m) q first)
      (λ u. u) (λ u e. rest_up (n - 1) (omega (arith, rises.0)))

  module _ (e : m ≡ n) where
    abbrev behind : OrderWorld
    behind = performs w m

    abbrev p : Performed
    p = performed_at w m

    stands : Stands behind
    stands = subst (λ k. Stands (performs w k)) (sym e)
        (perform_kept w v (subst (λ k. w.performing.refuses w.edition (order_at w.issued k) ≡ false) e readable) (omega (arith, known.0, e)) (omega (arith, known.1, e)) (λ u. subst (λ z. Rise n (orders_among z)) (sym first) (omega (arith, e), rises.1)))

    len : length (w.log ++ p ∷ []) ≡ length w.log + 1
    len = length_push w.log p

    heard_next : Stands (heard_by Performs)
    heard_next = placed_kept behind w.count (answers Performs) w.using stands
        (line_answered (length w.issued) (length w.results) behind.log w.key w.history w.count x (stands.lines w.count) m p.result q first (omega (arith, len, e))
        (sym (ap (λ (k : ℕ). result_at (w.log ++ p ∷ []) k) e ∙ result_new w.log p)))
        (λ u. u) (λ u s. rest_up (length (w.log ++ p ∷ []) - 1) (omega (arith, len, e)))

    read_next : Stands (read_by Performs)
    read_next = placed_kept behind w.count (reads x (OrderMessage m) q) w.using stands
        (line_read (length w.issued) (length w.results) behind.log w.key w.history w.count x (stands.lines w.count) (OrderMessage m) q first)
        (λ u. u) (λ u s. rest_up (length (w.log ++ p ∷ []) - 1) (omega (arith, len, e)))

  order_heard : Stands (after w (Hears (OrderMessage m) q))
  order_heard = elim which [
    | inl lt ↦ subst (λ r. Stands (heard_by r)) (sym (last_one lt)) (heard_again lt)
    | inr e ↦ subst (λ r. Stands (heard_by r)) (sym (next_one e)) (heard_next e)
  ]

  order_read : Stands (after_ruling w (OrderMessage m) q)
  order_read = elim which [
    | inl lt ↦ subst (λ r. Stands (read_by r)) (sym (last_one lt)) (read_again lt)
    | inr e ↦ subst (λ r. Stands (read_by r)) (sym (next_one e)) (read_next e)
  ]

-- ---- what is passed over

rise_rest : (low : ℕ) (d : Down) (q : List Down) → Rise low (orders_among (d ∷ q)) → Rise low (orders_among q)
rise_rest low OtherAnswer q h = h
rise_rest low (OrderMessage m) q h = rise_lower (suc m) low (orders_among q) h.1 (omega (arith, h.0))

passing_kept : (w : OrderWorld) (d : Down) (q : List Down) → Stands w → w.using ≡ true → (w.lines w.count).unread ≡ d ∷ q → Stands (after_passing w d q)
passing_kept w d q v using first = placed_kept w w.count (reads (w.lines w.count) d q) w.using v
    (line_read (length w.issued) (length w.results) w.log w.key w.history w.count (w.lines w.count) (v.lines w.count) d q first)
    (λ u. u) (λ u e. rise_rest (length w.log - 1) d q (subst (λ z. Rise (length w.log - 1) (orders_among z)) first (v.in_use using)))

-- ---- messages of which none is responded to

ruling_kept : (w : OrderWorld) (d : Down) (q : List Down) → Stands w → w.using ≡ true → (w.lines w.count).unread ≡ d ∷ q → has_refused_body w d ≡ false
    → Stands (after_ruling w d q)
ruling_kept w (OrderMessage m) q v using first readable = order_read w m q v using first readable
ruling_kept w OtherAnswer q v using first readable = passing_kept w OtherAnswer q v using first

abbrev unanswered_by : OrderWorld → Down → List Down → Bool → OrderWorld
unanswered_by w d q passes = if passes then after_passing w d q else after_ruling w d q

unanswered_kept : (w : OrderWorld) (d : Down) (q : List Down) → Stands w → w.using ≡ true → (w.lines w.count).unread ≡ d ∷ q → (passes : Bool)
    → has_refused_body w d ≡ passes → Stands (unanswered_by w d q passes)
unanswered_kept w d q v using first true is = passing_kept w d q v using first
unanswered_kept w d q v using first false is = ruling_kept w d q v using first is

-- ---- the events

pub hear_kept : (w : OrderWorld) (d : Down) (q : List Down) → Stands w → w.using ≡ true → (w.lines w.count).unread ≡ d ∷ q → has_refused_body w d ≡ false
    → Stands (after w (Hears d q))
hear_kept w (OrderMessage m) q v using first readable = order_heard w m q v using first readable
hear_kept w OtherAnswer q v using first readable = passing_kept w OtherAnswer q v using first

pub pass_kept : (w : OrderWorld) (d : Down) (q : List Down) → Stands w → w.using ≡ true → (w.lines w.count).unread ≡ d ∷ q → Stands (after w (Passes d q))
pass_kept w d q v using first = passing_kept w d q v using first

pub miss_kept : (w : OrderWorld) (d : Down) (q : List Down) → Stands w → w.using ≡ true → (w.lines w.count).unread ≡ d ∷ q → Stands (after w (Misses d q))
miss_kept w d q v using first = unanswered_kept w d q v using first (has_refused_body w d) refl
