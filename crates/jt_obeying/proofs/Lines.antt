-- What one more message changes on its line; and the rule with one line put anew.
use Rattle.std.proofs.Common.{ℕ, suc, ◌+◌, ◌-◌, ◌<◌, ◌≤◌, ◌≡◌, List, [], ◌∷◌, ◌++◌, length, arith, refl, ap, sym, ◌∙◌, subst, Bool, true, inl, inr}
use Rattle.std.specs.Prelude.{◌⊎◌, Contains}
use Rattle.std.proofs.lemmas.Bool.{cases_lt, false≢true}
use Rattle.std.proofs.lemmas.List.{length_push, append-nil, take-append-le, get_or_append_left, get_or_push}
use Rattle.std.proofs.lemmas.List.Elements.{Contains-append_cases, Contains-append_left, Contains-append_right}
use Rattle.jt_value.specs.declared.phone.Edition.{Edition}
use Rattle.jt_platform.specs.declared.request.Entry.{Entry}
use Rattle.jt_order.specs.Orders.{OrderOf, IsOrder}
use Rattle.jt_order.specs.declared.performed.Performed.{Performed}
use Rattle.jt_obeying.specs.Orders.{order_at, result_at}
use Rattle.jt_obeying.specs.World.{Answer, OtherMessage, Down, OrderMessage, OtherAnswer, Line, OrderWorld, new_line, put}
use Rattle.jt_obeying.specs.Steps.{Issues, Opens, Says, Offers, RestartsTerminal, MayOffer, says, reads, sends_order, after, without_line}
use Rattle.jt_obeying.specs.Record.{orders_among, answers_among, under_way, IsOne, Rise, LineOk, Stands}
use Rattle.jt_obeying.proofs.Lists.{put_elim, put_same, none_among, among_cases, first_among, one_none, one_answered, one_unanswered, orders_among_push, answers_among_push, agree_push, agree_other, agree_more}

pub new_ok : (issued answered : ℕ) (log : List Performed) (key : List ℕ) (h : List Entry) (l : ℕ) → LineOk issued answered log key h l new_line
new_ok issued answered log key h l = record {
  sent = λ i s. absurd (none_among i s);
  way = λ i s. absurd (none_among i s);
  agree = tt;
  lives = λ p e. refl;
  one = λ p e. tt;
}

-- ---- what the terminal reads

read_among : (d : Down) (q : List Down) (an : List ℕ) (i : ℕ) → Contains (orders_among q ++ an) i → Contains (orders_among (d ∷ q) ++ an) i
read_among (OrderMessage m) q an i h = Contains-append_right (m ∷ []) (orders_among q ++ an) i h
read_among OtherAnswer q an i h = h

read_one : (a : ℕ) (d : Down) (q : List Down) (an : List ℕ) → IsOne a (orders_among (d ∷ q) ++ an) → IsOne a (orders_among q ++ an)
read_one a (OrderMessage m) q an h = one_unanswered a m (orders_among q ++ an) h
read_one a OtherAnswer q an h = h

module _ (issued a : ℕ) (log : List Performed) (key : List ℕ) (h : List Entry) (l : ℕ) (x : Line) (o : LineOk issued a log key h l x) where
  pub line_read : (d : Down) (q : List Down) → x.unread ≡ d ∷ q → LineOk issued a log key h l (reads x d q)
  line_read d q e = record {
    sent = o.sent;
    way = λ i s. o.way i (subst (λ z. Contains (orders_among z ++ answers_among x.waiting) i) (sym e) (read_among d q (answers_among x.waiting) i s));
    agree = o.agree;
    lives = o.lives;
    one = λ p c. read_one a d q (answers_among x.waiting) (subst (λ z. IsOne a (orders_among z ++ answers_among x.waiting)) e (o.one p c));
  }

  -- an order is read and responded to
  pub line_answered : (m r : ℕ) (q : List Down) → x.unread ≡ OrderMessage m ∷ q → m < length log → r ≡ result_at log m
      → LineOk issued a log key h l (says (reads x (OrderMessage m) q) (Answer m r))
  line_answered m r q e lt is = record {
    sent = o.sent;
    way = λ i s. o.way i (subst (λ z. Contains (orders_among z ++ answers_among x.waiting) i) (sym e) (back i (Contains-append_cases (orders_among q) (answers_among (x.waiting ++ Answer m r ∷ [])) i s)));
    agree = agree_push log x.waiting m r o.agree lt is;
    lives = o.lives;
    one = λ p c. subst (λ z. IsOne a (orders_among q ++ z)) (sym (answers_among_push x.waiting (Answer m r)))
        (one_answered a m (orders_among q) (answers_among x.waiting) (subst (λ z. IsOne a (orders_among z ++ answers_among x.waiting)) e (o.one p c)));
  }
    where
      first : (i : ℕ) → (m ≡ i) ⊎ Contains [] i → Contains (m ∷ (orders_among q ++ answers_among x.waiting)) i
      first i (inl s) = subst (λ z. Contains (m ∷ (orders_among q ++ answers_among x.waiting)) z) s (first_among m (orders_among q ++ answers_among x.waiting))
      first i (inr s) = absurd (none_among i s)

      at_end : (i : ℕ) → Contains (answers_among x.waiting) i ⊎ Contains (m ∷ []) i → Contains (m ∷ (orders_among q ++ answers_among x.waiting)) i
      at_end i (inl s) = Contains-append_right (m ∷ orders_among q) (answers_among x.waiting) i s
      at_end i (inr s) = first i (among_cases m i [] s)

      back : (i : ℕ) → Contains (orders_among q) i ⊎ Contains (answers_among (x.waiting ++ Answer m r ∷ [])) i → Contains (m ∷ (orders_among q ++ answers_among x.waiting)) i
      back i (inl s) = Contains-append_right (m ∷ []) (orders_among q ++ answers_among x.waiting) i (Contains-append_left (orders_among q) (answers_among x.waiting) i s)
      back i (inr s) = at_end i (Contains-append_cases (answers_among x.waiting) (m ∷ []) i (subst (λ z. Contains z i) (answers_among_push x.waiting (Answer m r)) s))

  -- another message is sent
  pub line_said : LineOk issued a log key h l (says x OtherMessage)
  line_said = record {
    sent = o.sent;
    way = λ i s. o.way i (subst (λ z. Contains (orders_among x.unread ++ z) i) same s);
    agree = agree_other log x.waiting o.agree;
    lives = o.lives;
    one = λ p c. subst (λ z. IsOne a (orders_among x.unread ++ z)) (sym same) (o.one p c);
  }
    where
      same : answers_among (x.waiting ++ OtherMessage ∷ []) ≡ answers_among x.waiting
      same = answers_among_push x.waiting OtherMessage ∙ append-nil (answers_among x.waiting)

  -- one more order is in the log
  pub line_more : (p : Performed) → LineOk issued a (log ++ p ∷ []) key h l x
  line_more p = record { sent = o.sent; way = o.way; agree = agree_more log p x.waiting o.agree; lives = o.lives; one = o.one }

  -- one more order was issued
  pub line_issued : LineOk (suc issued) a log key h l x
  line_issued = record { sent = λ i s. (omega (arith, (o.sent i s).0), (o.sent i s).1); way = o.way; agree = o.agree; lives = o.lives; one = o.one }

-- ---- the rule with one line put anew

pub placed_kept : (w : OrderWorld) (l : ℕ) (y : Line) (using : Bool) → Stands w → LineOk (length w.issued) (length w.results) w.log w.key w.history l y
    → (using ≡ true → w.using ≡ true) → (using ≡ true → w.count ≡ l → Rise (length w.log - 1) (orders_among y.unread))
    → Stands (record w { lines = put w.lines l y; using = using })
placed_kept w l y using v ok used rise = record {
  answered_performed = v.answered_performed;
  one_more = v.one_more;
  performed_issued = v.performed_issued;
  orders = v.orders;
  performed = v.performed;
  results = v.results;
  by_tables = v.by_tables;
  tables = v.tables;
  lines = λ k. put_elim (λ n z. LineOk (length w.issued) (length w.results) w.log w.key w.history n z) w.lines l y ok k (λ n. v.lines k);
  in_use = λ u. put_elim (λ n z. w.count ≡ n → Rise (length w.log - 1) (orders_among z.unread)) w.lines l y (rise u) w.count (λ n e. v.in_use (used u)) refl;
  none_refused = v.none_refused;
}

pub say_kept : (w : OrderWorld) → Stands w → Stands (after w Says)
say_kept w v = placed_kept w w.count (says (w.lines w.count) OtherMessage) w.using v
    (line_said (length w.issued) (length w.results) w.log w.key w.history w.count (w.lines w.count) (v.lines w.count)) (λ u. u) (λ u e. v.in_use u)

pub open_kept : (w : OrderWorld) → Stands w → Stands (after w Opens)
open_kept w v = record {
  answered_performed = v.answered_performed;
  one_more = v.one_more;
  performed_issued = v.performed_issued;
  orders = v.orders;
  performed = v.performed;
  results = v.results;
  by_tables = v.by_tables;
  tables = v.tables;
  lines = λ k. put_elim (λ n z. LineOk (length w.issued) (length w.results) w.log w.key w.history n z) w.lines (suc w.count) new_line
      (new_ok (length w.issued) (length w.results) w.log w.key w.history (suc w.count)) k (λ n. v.lines k);
  in_use = λ u. subst (λ z. Rise (length w.log - 1) (orders_among z.unread)) (sym (put_same w.lines (suc w.count) new_line)) tt;
  none_refused = v.none_refused;
}

pub issue_kept : (w : OrderWorld) (order : OrderOf) → Stands w → IsOrder order → Stands (after w (Issues order))
issue_kept w order v is = record {
  answered_performed = v.answered_performed;
  one_more = v.one_more;
  performed_issued = omega (arith, v.performed_issued, len);
  orders = λ place lt. each place lt (cases_lt place (length w.issued));
  performed = v.performed ∙ sym (take-append-le (length w.log) w.issued (order ∷ []) v.performed_issued);
  results = v.results;
  by_tables = v.by_tables;
  tables = v.tables;
  lines = λ k. let e : suc (length w.issued) ≡ length (w.issued ++ order ∷ []) = omega (arith, len) in
      subst (λ n. LineOk n (length w.results) w.log w.key w.history k (w.lines k)) e (line_issued (length w.issued) (length w.results) w.log w.key w.history k (w.lines k) (v.lines k));
  in_use = v.in_use;
  none_refused = v.none_refused;
}
  where
    len : length (w.issued ++ order ∷ []) ≡ length w.issued + 1
    len = length_push w.issued order

    each : (place : ℕ) → place < length (w.issued ++ order ∷ []) → (place < length w.issued) ⊎ (length w.issued ≤ place) → IsOrder (order_at (w.issued ++ order ∷ []) place)
    each place lt (inl before) = subst IsOrder (sym (get_or_append_left w.issued (order ∷ []) (record { id = 0; body = [] }) place before)) (v.orders place before)
    each place lt (inr behind) = subst IsOrder (sym (get_or_push w.issued order (record { id = 0; body = [] }) place (omega (arith, lt, len, behind)))) is

pub lose_kept : (w : OrderWorld) → Stands w → Stands (without_line w)
lose_kept w v = record {
  answered_performed = v.answered_performed;
  one_more = v.one_more;
  performed_issued = v.performed_issued;
  orders = v.orders;
  performed = v.performed;
  results = v.results;
  by_tables = v.by_tables;
  tables = v.tables;
  lines = v.lines;
  in_use = λ u. absurd (false≢true u);
  none_refused = v.none_refused;
}

pub begin_kept : (w : OrderWorld) (edition : Edition) → Stands w → Stands (after w (RestartsTerminal edition))
begin_kept w edition v = record {
  answered_performed = v.answered_performed;
  one_more = v.one_more;
  performed_issued = v.performed_issued;
  orders = v.orders;
  performed = v.performed;
  results = v.results;
  by_tables = v.by_tables;
  tables = refl;
  lines = v.lines;
  in_use = λ u. absurd (false≢true u);
  none_refused = v.none_refused;
}

-- ---- an order is sent

none_both : (xs ys : List ℕ) → xs ++ ys ≡ [] → (xs ≡ []) × (ys ≡ [])
none_both [] ys e = (refl, e)
none_both (x ∷ xs) ys e = absurd cc

module _ (w : OrderWorld) (l : ℕ) (v : Stands w) (m : MayOffer w l) where
  abbrev a : ℕ
  a = length w.results

  abbrev x : Line
  x = w.lines l

  ok : LineOk (length w.issued) a w.log w.key w.history l x
  ok = v.lines l

  nothing : under_way x ≡ []
  nothing = one_none a (under_way x) (ok.one m.is_open m.holds) (λ s. m.new (ok.way a s))

  no_orders : orders_among x.unread ≡ []
  no_orders = (none_both (orders_among x.unread) (answers_among x.waiting) nothing).0

  no_answers : answers_among x.waiting ≡ []
  no_answers = (none_both (orders_among x.unread) (answers_among x.waiting) nothing).1

  way_is : under_way (sends_order x a) ≡ a ∷ []
  way_is = ap (λ (z : List ℕ). z ++ answers_among x.waiting) (orders_among_push x.unread (OrderMessage a))
      ∙ (ap (λ (z : List ℕ). (z ++ a ∷ []) ++ answers_among x.waiting) no_orders ∙ ap (λ (z : List ℕ). a ∷ z) no_answers)

  offered_ok : LineOk (length w.issued) a w.log w.key w.history l (sends_order x a)
  offered_ok = record {
    sent = λ i s. sents i (among_cases a i x.sent s);
    way = λ i s. only i (among_cases a i [] (subst (λ z. Contains z i) way_is s));
    agree = ok.agree;
    lives = λ p e. absurd (false≢true (sym e ∙ m.live));
    one = λ p e. subst (λ z. IsOne a z) (sym way_is) refl;
  }
    where
      sents : (i : ℕ) → (a ≡ i) ⊎ Contains x.sent i → (i < length w.issued) × (i ≤ a)
      sents i (inl e) = (omega (arith, m.waits, e), omega (arith, e))
      sents i (inr s) = ok.sent i s

      only : (i : ℕ) → (a ≡ i) ⊎ Contains [] i → Contains (a ∷ x.sent) i
      only i (inl e) = subst (λ z. Contains (a ∷ x.sent) z) e (first_among a x.sent)
      only i (inr s) = absurd (none_among i s)

  pub offer_kept : Stands (after w (Offers l))
  offer_kept = placed_kept w l (sends_order x a) w.using v offered_ok (λ u. u)
      (λ u e. subst (λ z. Rise (length w.log - 1) z) (sym (orders_among_push x.unread (OrderMessage a) ∙ ap (λ (z : List ℕ). z ++ a ∷ []) no_orders)) (omega (arith, v.one_more), tt))
