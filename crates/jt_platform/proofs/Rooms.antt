use Rattle.std.proofs.Common.{◌≡◌, ◌≤◌, ◌+◌, ℕ, zero, suc, List, ◌∷◌, ◌==◌, ◌&&◌, ◌||◌, Bool, true, false, if◌then◌else◌, subst, refl}
use native.Mathlib.Omega.{arith}
use Rattle.jt_platform.specs.declared.request.Entry.{Entry}
use Rattle.jt_platform.specs.History.{closed, is_close}
use Rattle.jt_platform.specs.Calls.{open_upto}

abbrev owes : Bool → ℕ
owes b = if b then 0 else 1

none : 0 ≤ 0
none = omega arith

less : 0 ≤ 1
less = omega arith

same : 1 ≤ 1
same = omega arith

-- one more entry opens no session
closed_grows : (a b : Bool) → owes (a || b) ≤ owes b
closed_grows true true = none
closed_grows true false = less
closed_grows false true = none
closed_grows false false = same

owes_one : (b : Bool) → owes b ≤ 1
owes_one true = less
owes_one false = same

pub open_entry : (e : Entry) (h : List Entry) (n : ℕ) → open_upto (e ∷ h) n ≤ open_upto h n
open_entry e h zero = none
open_entry e h (suc n) =
    let before = open_entry e h n in
    let one : owes (closed (e ∷ h) (suc n)) ≤ owes (closed h (suc n)) = closed_grows ((e.session == suc n) && is_close e.request) (closed h (suc n)) in
    omega (arith, before, one)

-- the first Close of a session leaves one less
pub open_close : (e : Entry) (h : List Entry) (n : ℕ) → is_close e.request ≡ true → 1 ≤ e.session → e.session ≤ n → closed h e.session ≡ false → open_upto (e ∷ h) n + 1 ≤ open_upto h n
open_close e h zero close from upto unclosed = absurd (omega (arith, from, upto))
open_close e h (suc n) close from upto unclosed = by_place (e.session == suc n) refl (λ below. open_close e h n close from below unclosed)
  where
    by_place : (b : Bool) → (e.session == suc n) ≡ b → (e.session ≤ n → open_upto (e ∷ h) n + 1 ≤ open_upto h n)
        → open_upto (e ∷ h) n + owes ((b && is_close e.request) || closed h (suc n)) + 1 ≤ open_upto h n + owes (closed h (suc n))
    by_place true here more =
        let at : e.session ≡ suc n = grind (arith, here) in
        let is : closed h (suc n) ≡ false = subst (λ s. closed h s ≡ false) at unclosed in
        let before = open_entry e h n in
        rw (is, close) (omega (arith, before))
    by_place false elsewhere more =
        let below : e.session ≤ n = grind (arith, elsewhere, upto) in
        let before = more below in
        omega (arith, before)

-- each session more owes one more at most
pub open_more : (h : List Entry) (n more : ℕ) → open_upto h (n + more) ≤ open_upto h n + more
open_more h n zero =
    let whole : n ≡ n + 0 = omega arith in
    let at : open_upto h n ≤ open_upto h n + 0 = omega arith in
    subst (λ m. open_upto h m ≤ open_upto h n + 0) whole at
open_more h n (suc more) =
    let before = open_more h n more in
    let one = owes_one (closed h (suc (n + more))) in
    let whole : suc (n + more) ≡ n + suc more = omega arith in
    let at : open_upto h (suc (n + more)) ≤ open_upto h n + suc more = omega (arith, before, one) in
    subst (λ m. open_upto h m ≤ open_upto h n + suc more) whole at
