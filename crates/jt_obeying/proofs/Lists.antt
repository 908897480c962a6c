-- Short facts on places, and on what is under way on a line.
use Rattle.std.proofs.Common.{ℕ, ◌<◌, ◌≤◌, ◌≡◌, ◌≢◌, List, [], ◌∷◌, ◌++◌, length, get_or, arith, refl, ap, sym, ◌∙◌, false, inl, inr}
use Rattle.std.specs.Prelude.{◌⊎◌, Contains}
use Rattle.std.proofs.lemmas.Bool.{cases_eq, eq-eqb, ne_eqb}
use Rattle.std.proofs.lemmas.List.{length_push, length-map, map-append, get_or_append_left, get_or_push}
use Rattle.std.proofs.lemmas.List.Elements.{Contains-push_cases, Contains-append_cases}
use Rattle.jt_value.specs.declared.phone.Edition.{Edition}
use Rattle.jt_order.specs.declared.performed.Performed.{Performed}
use Rattle.jt_terminal_answers.specs.Performing.{HeldTables}
use Rattle.jt_obeying.specs.Orders.{Performing, orders_in, results_in, result_at, tables_behind, tables_of}
use Rattle.jt_obeying.specs.World.{Up, Answer, OtherMessage, Down, OrderMessage, OtherAnswer, Line, put}
use Rattle.jt_obeying.specs.Steps.{AtMostOneOther}
use Rattle.jt_obeying.specs.Record.{orders_among, answers_among, IsOne, Rise, AgreeWithLog, AreResults}

-- ---- the log

pub orders_push : (log : List Performed) (p : Performed) → orders_in (log ++ p ∷ []) ≡ orders_in log ++ p.order ∷ []
orders_push log p = map-append (λ (p : Performed). p.order) log (p ∷ [])

pub results_push : (log : List Performed) (p : Performed) → results_in (log ++ p ∷ []) ≡ results_in log ++ p.result ∷ []
results_push log p = map-append (λ (p : Performed). p.result) log (p ∷ [])

pub length_results : (log : List Performed) → length (results_in log) ≡ length log
length_results log = length-map log (λ (p : Performed). p.result)

pub result_before : (log : List Performed) (p : Performed) (i : ℕ) → i < length log → result_at (log ++ p ∷ []) i ≡ result_at log i
result_before log p i lt = ap (λ (rs : List ℕ). get_or rs i 0) (results_push log p) ∙ get_or_append_left (results_in log) (p.result ∷ []) 0 i (omega (arith, lt, length_results log))

pub result_new : (log : List Performed) (p : Performed) → result_at (log ++ p ∷ []) (length log) ≡ p.result
result_new log p = ap (λ (rs : List ℕ). get_or rs (length log) 0) (results_push log p) ∙ get_or_push (results_in log) p.result 0 (length log) (length_results log)

pub tables_push : (performing : Performing) (t : HeldTables) (log : List Performed) (p : Performed)
    → tables_of performing t (log ++ p ∷ []) ≡ tables_behind performing (tables_of performing t log) p
tables_push performing t [] p = refl
tables_push performing t (x ∷ log) p = tables_push performing (tables_behind performing t x) log p

pub are_results_push : (performing : Performing) (edition : Edition) (t : HeldTables) (log : List Performed) (p : Performed) → AreResults performing t log
    → performing.refuses edition p.order ≡ false → p.result ≡ performing.result edition (tables_of performing t log) p.order → AreResults performing t (log ++ p ∷ [])
are_results_push performing edition t [] p h readable e = ((edition, readable, e), tt)
are_results_push performing edition t (x ∷ log) p h readable e = (h.0, are_results_push performing edition (tables_behind performing t x) log p h.1 readable e)

-- ---- a line put in its place

pub put_elim : (P : ℕ → Line → Type 0) (lines : ℕ → Line) (l : ℕ) (x : Line) → P l x → (k : ℕ) → (k ≢ l → P k (lines k)) → P k (put lines l x k)
put_elim P lines l x here k there = go (cases_eq k l)
  where
    go : (k ≡ l) ⊎ (k ≡ l → ⊥) → P k (put lines l x k)
    go (inl e) = rw (eq-eqb k l e) (rw e here)
    go (inr n) = rw (ne_eqb k l n) (there n)

pub put_same : (lines : ℕ → Line) (l : ℕ) (x : Line) → put lines l x l ≡ x
put_same lines l x = put_elim (λ k y. k ≡ l → y ≡ x) lines l x (λ e. refl) l (λ n e. absurd (n e)) refl

-- ---- places that are among others

pub none_among : (i : ℕ) → Contains [] i → ⊥
none_among i h = absurd (omega (arith, h.1))

pub first_among : (x : ℕ) (xs : List ℕ) → Contains (x ∷ xs) x
first_among x xs = (0, omega arith, refl)

pub among_cases : (x i : ℕ) (xs : List ℕ) → Contains (x ∷ xs) i → (x ≡ i) ⊎ Contains xs i
among_cases x i xs h = first (Contains-append_cases (x ∷ []) xs i h)
  where
    only : Contains [] i ⊎ (x ≡ i) → x ≡ i
    only (inl none) = absurd (none_among i none)
    only (inr e) = e

    first : Contains (x ∷ []) i ⊎ Contains xs i → (x ≡ i) ⊎ Contains xs i
    first (inl one) = inl (only (Contains-push_cases [] x i one))
    first (inr more) = inr more

-- where nothing is among them, there is none
pub is_empty : (xs : List ℕ) → ((i : ℕ) → Contains xs i → ⊥) → xs ≡ []
is_empty [] h = refl
is_empty (x ∷ xs) h = absurd (h x (first_among x xs))

-- ---- what is under way

pub one_none : (a : ℕ) (xs : List ℕ) → IsOne a xs → (Contains xs a → ⊥) → xs ≡ []
one_none a [] h n = refl
one_none a (x ∷ []) h n = absurd (n (0, omega arith, h))
one_none a (x ∷ y ∷ xs) h n = absurd h

-- an order that was read is responded to
pub one_answered : (a m : ℕ) (os an : List ℕ) → IsOne a (m ∷ (os ++ an)) → IsOne a (os ++ (an ++ m ∷ []))
one_answered a m [] [] h = h
one_answered a m [] (x ∷ an) h = absurd h
one_answered a m (o ∷ os) an h = absurd h

-- or is not
pub one_unanswered : (a m : ℕ) (xs : List ℕ) → IsOne a (m ∷ xs) → IsOne a xs
one_unanswered a m [] h = tt
one_unanswered a m (x ∷ xs) h = absurd h

-- an answer that was taken was the only one, and nothing is under way any more
pub one_taken : (a m : ℕ) (os an : List ℕ) → IsOne a (os ++ m ∷ an) → (m ≡ a) × (os ++ an ≡ [])
one_taken a m [] [] h = (h, refl)
one_taken a m [] (x ∷ an) h = absurd h
one_taken a m (o ∷ []) an h = absurd h
one_taken a m (o ∷ p ∷ os) an h = absurd h

pub orders_among_push : (q : List Down) (m : Down) → orders_among (q ++ m ∷ []) ≡ orders_among q ++ orders_among (m ∷ [])
orders_among_push [] m = refl
orders_among_push (OrderMessage k ∷ q) m = ap (λ (t : List ℕ). k ∷ t) (orders_among_push q m)
orders_among_push (OtherAnswer ∷ q) m = orders_among_push q m

pub orders_among_others : (q ms : List Down) → AtMostOneOther ms → orders_among (q ++ ms) ≡ orders_among q
orders_among_others [] [] h = refl
orders_among_others [] (OtherAnswer ∷ []) h = refl
orders_among_others [] (OtherAnswer ∷ m ∷ ms) h = absurd h
orders_among_others [] (OrderMessage k ∷ ms) h = absurd h
orders_among_others (OrderMessage k ∷ q) ms h = ap (λ (t : List ℕ). k ∷ t) (orders_among_others q ms h)
orders_among_others (OtherAnswer ∷ q) ms h = orders_among_others q ms h

pub answers_among_push : (q : List Up) (m : Up) → answers_among (q ++ m ∷ []) ≡ answers_among q ++ answers_among (m ∷ [])
answers_among_push [] m = refl
answers_among_push (Answer k r ∷ q) m = ap (λ (t : List ℕ). k ∷ t) (answers_among_push q m)
answers_among_push (OtherMessage ∷ q) m = answers_among_push q m

-- ---- answers with the results of the log

pub agree_push : (log : List Performed) (q : List Up) (i r : ℕ) → AgreeWithLog log q → i < length log → r ≡ result_at log i → AgreeWithLog log (q ++ Answer i r ∷ [])
agree_push log [] i r h lt e = (lt, e, tt)
agree_push log (Answer k s ∷ q) i r h lt e = (h.0, h.1, agree_push log q i r h.2 lt e)
agree_push log (OtherMessage ∷ q) i r h lt e = agree_push log q i r h lt e

pub agree_other : (log : List Performed) (q : List Up) → AgreeWithLog log q → AgreeWithLog log (q ++ OtherMessage ∷ [])
agree_other log [] h = tt
agree_other log (Answer k s ∷ q) h = (h.0, h.1, agree_other log q h.2)
agree_other log (OtherMessage ∷ q) h = agree_other log q h

pub agree_more : (log : List Performed) (p : Performed) (q : List Up) → AgreeWithLog log q → AgreeWithLog (log ++ p ∷ []) q
agree_more log p [] h = tt
agree_more log p (Answer k s ∷ q) h = (omega (arith, h.0, length_push log p), h.1 ∙ sym (result_before log p k h.0), agree_more log p q h.2)
agree_more log p (OtherMessage ∷ q) h = agree_more log p q h

-- ---- places that rise

pub rise_lower : (low low2 : ℕ) (xs : List ℕ) → Rise low xs → low2 ≤ low → Rise low2 xs
rise_lower low low2 [] h le = tt
rise_lower low low2 (x ∷ xs) h le = (omega (arith, h.0, le), h.1)
