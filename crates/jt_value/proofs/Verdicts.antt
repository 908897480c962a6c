-- The verdict on a unit is the one that its place leads to.
use Rattle.std.proofs.Common.{◌≡◌, ◌<◌, ◌≤◌, ◌+◌, ◌↔◌, ℕ, Bool, true, false, Option, None, Some, refl, sym, ap, subst, ◌∙◌, arith}
use Rattle.std.specs.Prelude.{IsTrue, if◌then◌else◌}
use Rattle.jt_value.specs.declared.placing.Place.{Place}
use Rattle.jt_value.specs.declared.placing.Place.TheVariants as places
use Rattle.jt_value.specs.Serials.{LeastAbove, GreatestUpTo, IsFar, IsCandidate, IsPlace, IsVerdict, Verdict, New, Repeat, Anew, verdict_at, back_verdict}

least_one : (from serial m n : ℕ) → LeastAbove from serial m → LeastAbove from serial n → m ≡ n
least_one from serial m n a b =
    let up : m ≤ n = a.least n b.above b.named in
    let down : n ≤ m = b.least m a.above a.named in
    omega arith

greatest_one : (to serial m n : ℕ) → GreatestUpTo to serial m → GreatestUpTo to serial n → m ≡ n
greatest_one to serial m n a b =
    let up : m ≤ n = b.greatest m a.within a.named in
    let down : n ≤ m = a.greatest n b.within b.named in
    omega arith

not_far : (last serial n : ℕ) → LeastAbove last serial n → n ≤ last + 32767 → IsFar last serial → ⊥
not_far last serial n least near far =
    let beyond : last + 32767 < n = far n least.above least.named in
    absurd (omega arith)

back_to : (has : ℕ → Bool) (last serial anew : ℕ) (candidate : Option ℕ) → IsCandidate last serial candidate → LeastAbove (last + 65535) serial anew
    → (v : Verdict) → IsVerdict (Some last) (λ n. IsTrue (has n)) serial v → IsFar last serial → v ≡ back_verdict candidate anew has
back_to has last serial anew None none least (New m) verdict far = absurd (not_far last serial m verdict.0 verdict.1 far)
back_to has last serial anew None none least (Repeat m) verdict far = absurd (none m verdict.1.within verdict.1.named)
back_to has last serial anew None none least (Anew m) verdict far = ap Anew (least_one (last + 65535) serial m anew verdict.2 least)
back_to has last serial anew (Some n) greatest least (New m) verdict far = absurd (not_far last serial m verdict.0 verdict.1 far)
back_to has last serial anew (Some n) greatest least (Repeat m) verdict far =
    let same : m ≡ n = greatest_one last serial m n verdict.1 greatest in
    let has_it : IsTrue (has n) = subst (λ k. IsTrue (has k)) same verdict.2 in
    by_test (has n) has_it
  where
    by_test : (b : Bool) → IsTrue b → Repeat m ≡ (if b then Repeat n else Anew anew)
    by_test true h = ap Repeat (greatest_one last serial m n verdict.1 greatest)
    by_test false h = absurd cc
back_to has last serial anew (Some n) greatest least (Anew m) verdict far =
    by_test (has n) (verdict.1 n greatest)
  where
    by_test : (b : Bool) → (IsTrue b → ⊥) → Anew m ≡ (if b then Repeat n else Anew anew)
    by_test true h = absurd (h refl)
    by_test false h = ap Anew (least_one (last + 65535) serial m anew verdict.2 least)

back_from : (has : ℕ → Bool) (last serial anew : ℕ) (candidate : Option ℕ) → IsFar last serial → IsCandidate last serial candidate → LeastAbove (last + 65535) serial anew
    → IsVerdict (Some last) (λ n. IsTrue (has n)) serial (back_verdict candidate anew has)
back_from has last serial anew None far none least = (far, λ m greatest h. none m greatest.within greatest.named, least)
back_from has last serial anew (Some n) far greatest least = by_test (has n) refl
  where
    by_test : (b : Bool) → has n ≡ b → IsVerdict (Some last) (λ n. IsTrue (has n)) serial (if b then Repeat n else Anew anew)
    by_test true h = (far, greatest, h)
    by_test false h = (far, λ m other hm. absurd (let same : m ≡ n = greatest_one last serial m n other greatest in let e : has m ≡ has n = ap has same in cc), least)

to : (has : ℕ → Bool) (last : Option ℕ) (serial : ℕ) (place : Place) → IsPlace last serial place → (v : Verdict) → IsVerdict last (λ n. IsTrue (has n)) serial v → v ≡ verdict_at place has
to has None serial (places.First n) p (New m) verdict = ap New (verdict ∙ sym p)
to has None serial (places.First n) p (Repeat m) verdict = absurd verdict
to has None serial (places.First n) p (Anew m) verdict = absurd verdict
to has None serial (places.New n) p v verdict = absurd p
to has None serial (places.Back candidate anew) p v verdict = absurd p
to has (Some last) serial (places.First n) p v verdict = absurd p
to has (Some last) serial (places.New n) p (New m) verdict = ap New (least_one last serial m n verdict.0 p.0)
to has (Some last) serial (places.New n) p (Repeat m) verdict = absurd (not_far last serial n p.0 p.1 verdict.0)
to has (Some last) serial (places.New n) p (Anew m) verdict = absurd (not_far last serial n p.0 p.1 verdict.0)
to has (Some last) serial (places.Back candidate anew) p v verdict = back_to has last serial anew candidate p.1 p.2 v verdict p.0

from : (has : ℕ → Bool) (last : Option ℕ) (serial : ℕ) (place : Place) → IsPlace last serial place → IsVerdict last (λ n. IsTrue (has n)) serial (verdict_at place has)
from has None serial (places.First n) p = p
from has None serial (places.New n) p = absurd p
from has None serial (places.Back candidate anew) p = absurd p
from has (Some last) serial (places.First n) p = absurd p
from has (Some last) serial (places.New n) p = p
from has (Some last) serial (places.Back candidate anew) p = back_from has last serial anew candidate p.0 p.1 p.2

pub verdicts : (last : Option ℕ) (serial : ℕ) (place : Place) → IsPlace last serial place → (has : ℕ → Bool) (v : Verdict) → IsVerdict last (λ n. IsTrue (has n)) serial v ↔ (v ≡ verdict_at place has)
verdicts last serial place p has v = (to has last serial place p v, λ e. subst (λ w. IsVerdict last (λ n. IsTrue (has n)) serial w) (sym e) (from has last serial place p))
