-- Where the phones with some digits stand, as a map is filled with their places.
use Rattle.std.proofs.Common.{◌≡◌, ◌+◌, ℕ, Bool, true, false, cond, suc, List, [], ◌∷◌, ◌++◌, length, Option, None, Some, refl, ap, ◌∙◌, arith}
use Rattle.std.specs.Prelude.{option_map, slice_get, if◌then◌else◌, ◌&&◌}
use Rattle.std.specs.Option.{option_or}
use Rattle.std.specs.Str.{bytes_eq}
use Rattle.jt_value.specs.Sameness.{key_of, same_key}
use Rattle.jt_value.specs.declared.phone.Edition.{Edition}
use Rattle.jt_value.specs.declared.phone.Edition.TheVariants.{E2013, E2019}
use Rattle.jt_store.specs.declared.migrating.OldPhone.{OldPhone}
use Rattle.jt_store.specs.declared.migrating.Places.{Places}
use Rattle.jt_store.specs.Migrating.{found, is_edition, is_of}
use Rattle.jt_store.specs.Places.{first_place, with_row_place, places_in, some_places, standing}
use Rattle.jt_store.proofs.Pairs.{same_octets}

-- the places under one key change, and the others stay
pub noted_there : (key q : List ℕ) (old : List ℕ → Option Places) (edition : Edition) (place : ℕ) (now : Places) → now ≡ with_row_place (old key) edition place
    → (new : Option Places) → new ≡ cond (bytes_eq key q) (Some now) (old q) → new ≡ (if same_key key q then Some (with_row_place (old q) edition place) else old q)
noted_there key q old edition place now is new e = e ∙ by_key (bytes_eq key q) refl
  where
    by_key : (b : Bool) → bytes_eq key q ≡ b → cond b (Some now) (old q) ≡ (if b then Some (with_row_place (old q) edition place) else old q)
    by_key true same = ap Some (is ∙ ap (λ k. with_row_place (old k) edition place) (same_octets key q same))
    by_key false other = refl

-- ---- one phone more

first_push : (edition : Edition) (key : List ℕ) (front : List OldPhone) (o : OldPhone) → first_place edition key (front ++ o ∷ []) ≡ option_or (first_place edition key front) (if is_of edition key o then Some (length front) else None)
first_push edition key [] o = by_test (is_of edition key o)
  where
    by_test : (b : Bool) → ◌≡◌ {A = Option ℕ} (if b then Some 0 else None) (if b then Some 0 else None)
    by_test b = refl
first_push edition key (x ∷ front) o = later (is_of edition key x) (first_push edition key front o)
  where
    by_place : (p : Option ℕ) (b : Bool) → option_map (λ n. n + 1) (option_or p (if b then Some (length front) else None)) ≡ option_or (option_map (λ n. n + 1) p) (if b then Some (suc (length front)) else None)
    by_place (Some n) b = refl
    by_place None true = let e : length front + 1 ≡ suc (length front) = omega arith in ap Some e
    by_place None false = refl

    later : (b : Bool) → first_place edition key (front ++ o ∷ []) ≡ option_or (first_place edition key front) (if is_of edition key o then Some (length front) else None)
        → (if b then Some 0 else option_map (λ n. n + 1) (first_place edition key (front ++ o ∷ []))) ≡ option_or (if b then Some 0 else option_map (λ n. n + 1) (first_place edition key front)) (if is_of edition key o then Some (suc (length front)) else None)
    later true more = refl
    later false more = ap (option_map (λ n. n + 1)) more ∙ by_place (first_place edition key front) (is_of edition key o)

both_push : (a b : Option ℕ) (n : ℕ) (e : Edition) (same : Bool)
    → some_places (option_or a (if is_edition E2013 e && same then Some n else None)) (option_or b (if is_edition E2019 e && same then Some n else None)) ≡ (if same then Some (with_row_place (some_places a b) e n) else some_places a b)
both_push None None n E2013 true = refl
both_push None None n E2013 false = refl
both_push None None n E2019 true = refl
both_push None None n E2019 false = refl
both_push None (Some y) n E2013 true = refl
both_push None (Some y) n E2013 false = refl
both_push None (Some y) n E2019 true = refl
both_push None (Some y) n E2019 false = refl
both_push (Some x) None n E2013 true = refl
both_push (Some x) None n E2013 false = refl
both_push (Some x) None n E2019 true = refl
both_push (Some x) None n E2019 false = refl
both_push (Some x) (Some y) n E2013 true = refl
both_push (Some x) (Some y) n E2013 false = refl
both_push (Some x) (Some y) n E2019 true = refl
both_push (Some x) (Some y) n E2019 false = refl

pub places_push : (front : List OldPhone) (o : OldPhone) (q : List ℕ) → places_in (front ++ o ∷ []) q ≡ (if same_key (key_of o.phone) q then Some (with_row_place (places_in front q) o.phone.edition (length front)) else places_in front q)
places_push front o q =
    ap (λ p. some_places p (first_place E2019 q (front ++ o ∷ []))) (first_push E2013 q front o)
    ∙ ap (λ p. some_places (option_or (first_place E2013 q front) (if is_of E2013 q o then Some (length front) else None)) p) (first_push E2019 q front o)
    ∙ both_push (first_place E2013 q front) (first_place E2019 q front) (length front) o.phone.edition (same_key (key_of o.phone) q)

-- ---- the phone at a place

pub standing_is : (edition : Edition) (key : List ℕ) (old : List OldPhone) → standing old (first_place edition key old) ≡ found edition key old
standing_is edition key [] = refl
standing_is edition key (o ∷ more) = by_test (is_of edition key o) (standing_is edition key more)
  where
    by_place : (p : Option ℕ) → standing (o ∷ more) (option_map (λ n. n + 1) p) ≡ standing more p
    by_place None = refl
    by_place (Some n) = let e : n + 1 ≡ suc n = omega arith in ap (slice_get (o ∷ more)) e

    by_test : (b : Bool) → standing more (first_place edition key more) ≡ found edition key more → standing (o ∷ more) (if b then Some 0 else option_map (λ n. n + 1) (first_place edition key more)) ≡ (if b then Some o else found edition key more)
    by_test true is = refl
    by_test false is = by_place (first_place edition key more) ∙ is
