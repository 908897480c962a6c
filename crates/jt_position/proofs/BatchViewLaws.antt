-- What is left of a batch's positions as they are taken one by one.
use Rattle.std.proofs.Common.{◌≡◌, ℕ, ◌-◌, ◌<◌, zero, suc, List, [], ◌∷◌, length, Option, Result, Ok, Err, IsTrue, is_ok, refl, sym, ap, ◌∙◌, arith}
use Rattle.std.specs.Iterator.{YieldsFirstBy}
use Rattle.std.specs.Result.{result_unwrap_or, result_ok}
use Rattle.jt_value.specs.declared.refusal.Refusal.{Refusal}
use Rattle.jt_layout.specs.Layout.{◌>>=◌, Reading, read_times, sized, word}
use Rattle.jt_layout.specs.Reading.{Finds}
use Rattle.jt_layout.proofs.Laws.{bind_ok, ok_is}
use Rattle.jt_position.specs.declared.position.Position.{Position}
use Rattle.jt_position.specs.declared.position_view.PositionView.{PositionView}
use Rattle.jt_position.specs.Positions.{position}
use Rattle.jt_position.specs.BatchViews.{position_in_view, reads_positions, positions_from}

so_many : {A : Type 0} (f : Reading A) (n : ℕ) (s : List ℕ) (p : ℕ) (x : List A × ℕ) → read_times f n s p ≡ Ok x → length x.0 ≡ n
unfolding read_times
so_many f zero s p x e = ap (λ y. length y.0) (sym (ok_is ([], p) x e))
so_many {A} f (suc n) s p x e =
    let first = bind_ok (f s p) (λ a. read_times f n s a.1 >>= λ xs. Ok (a.0 ∷ xs.0, xs.1)) x e in
    let others = bind_ok (read_times f n s first.0.1) (λ xs. Ok (first.0.0 ∷ xs.0, xs.1)) x first.2 in
    ap (λ (y : List A × ℕ). length y.0) (sym (ok_is (first.0.0 ∷ others.0.0, others.0.1) x others.2)) ∙ ap suc (so_many f n s first.0.1 others.0 others.1)

counted : {A : Type 0} (f : Reading A) (n : ℕ) (s : List ℕ) (p : ℕ) (r : Result (List A × ℕ) Refusal) → read_times f n s p ≡ r → IsTrue (is_ok r) → length (result_unwrap_or r ([], p)).0 ≡ n
counted f n s p (Ok x) e h = so_many f n s p x e
counted f n s p (Err d) e h = absurd cc

-- as many positions are left as are counted
pub positions_count : (n : ℕ) (s : List ℕ) (p : ℕ) → IsTrue (reads_positions n s p) → length (positions_from n s p) ≡ n
positions_count n s p h = counted (sized word position).read n s p (read_times (sized word position).read n s p) refl h

taken : (a : Position) (p q : ℕ) (r t : Result (List Position × ℕ) Refusal) → t ≡ (r >>= λ xs. Ok (a ∷ xs.0, xs.1)) → IsTrue (is_ok t)
    → IsTrue (is_ok r) × ((result_unwrap_or t ([], p)).0 ≡ a ∷ (result_unwrap_or r ([], q)).0)
taken a p q (Ok xs) t e h = (refl, rw e refl)
taken a p q (Err d) t e h = absurd (let n = rw e at h in cc)

first_of : {A : Type 0} (f : Reading A) (n : ℕ) (s : List ℕ) (p : ℕ) (a : A) (q : ℕ) → f s p ≡ Ok (a, q) → read_times f (suc n) s p ≡ (read_times f n s q >>= λ xs. Ok (a ∷ xs.0, xs.1))
unfolding read_times
first_of f n s p a q e = rw e refl

stops : {A : Type 0} (f : Reading A) (n : ℕ) (s : List ℕ) (p : ℕ) (r : Refusal) → f s p ≡ Err r → read_times f (suc n) s p ≡ Err r
unfolding read_times
stops f n s p r e = rw e refl

-- a position is taken, and the others are left
next_position : (n : ℕ) (s : List ℕ) (p : ℕ) (a : Position) (q : ℕ) → (sized word position).read s p ≡ Ok (a, q) → IsTrue (reads_positions (suc n) s p) → IsTrue (reads_positions n s q) × (positions_from (suc n) s p ≡ a ∷ positions_from n s q)
next_position n s p a q e h = taken a p q (read_times (sized word position).read n s q) (read_times (sized word position).read (suc n) s p) (first_of (sized word position).read n s p a q e) h

-- no position is left
pub no_position : (s : List ℕ) (p : ℕ) → positions_from 0 s p ≡ []
unfolding read_times
no_position s p = refl

not_refused : (n : ℕ) (s : List ℕ) (p : ℕ) (r : Refusal) → (sized word position).read s p ≡ Err r → IsTrue (reads_positions (suc n) s p) → ⊥
not_refused n s p r e h = let n = rw (stops (sized word position).read n s p r e) at h in absurd cc

-- one position was taken
pub stepped : (n : ℕ) (s : List ℕ) (p : ℕ) (t : List ℕ) (q : ℕ) (left : List Position) (r : Result PositionView Refusal) (o : Option PositionView) → t ≡ s → 0 < n
    → Finds (λ view. (record { fixed = view.fixed; items = view.items }, q)) r ((sized word position).read s p) → IsTrue (reads_positions n s p) → positions_from n s p ≡ left → o ≡ result_ok r
    → IsTrue (reads_positions (n - 1) t q) × YieldsFirstBy position_in_view (λ left. left) left o (positions_from (n - 1) t q)
stepped zero s p t q left r o same lt found h was is = absurd (omega arith)
stepped (suc n) s p t q left (Ok view) o same lt found h was is =
    let next = next_position n s p (position_in_view view) q found h in
    let one_less : suc n - 1 ≡ n = omega arith in
    rw (same, is, one_less) (next.0, sym was ∙ next.1)
stepped (suc n) s p t q left (Err r) o same lt found h was is = absurd (not_refused n s p r found h)
