-- The fixes of a batch, and how many go into one.
use Rattle.std.proofs.Common.{ℕ, zero, suc, ◌≡◌, ◌<◌, ◌≤◌, ◌+◌, List, [], ◌∷◌, ◌++◌, length, take, map, Bool, true, false, cond, refl, ap, sym, ◌∙◌, subst, arith, inl, inr}
use Rattle.std.specs.Prelude.{All, nat_le}
use Rattle.std.specs.List.{flat_map, AllByRecursion}
use Rattle.std.specs.Int.{w8, w16, to_be_bytes}
use Rattle.std.proofs.Math.Dec.{leb}
use Rattle.std.proofs.lemmas.Bool.{leb-true, le-leb}
use Rattle.std.proofs.lemmas.List.{length-append, length-take-le}
use Rattle.std.proofs.lemmas.List.Elements.{All-head, All-tail, All-take}
use Rattle.jt_layout.specs.Layout.{Fills, number, word, sized}
use Rattle.jt_position.specs.declared.position.Position.{Position}
use Rattle.jt_position.specs.declared.batch.Batch.{Batch}
use Rattle.jt_position.specs.Positions.{position, batch}
use Rattle.jt_position.specs.Fixes.{IsFix, FixesAre, fixes_of}
use Rattle.jt_store.specs.Vaults.{IsUnit}
use Rattle.jt_terminal_rule.specs.Forming.{in_batch, batch_of, fitting, fitting_behind, batch_unit, position_unit, unit_of}
use Rattle.jt_value.specs.declared.limits.TheConstants.{BODY_LIMIT}
use Rattle.jt_terminal_rule.specs.Law.{FittingIsGreatest, UnitCarriesFirstFixes}

-- ---- lengths

word_len : (n : ℕ) → length (to_be_bytes w16 n) ≡ 2
word_len n = refl

byte_len_is : (n : ℕ) → length (to_be_bytes w8 n) ≡ 1
byte_len_is n = refl

abbrev carried_len : List (List ℕ) → ℕ
carried_len [] = 0
carried_len (fix ∷ more) = (2 + length fix) + carried_len more

list_len : (fixes : List (List ℕ)) → length (flat_map in_batch fixes) ≡ carried_len fixes
list_len [] = refl
list_len (fix ∷ more) =
    length-append (in_batch fix) (flat_map in_batch more)
    ∙ omega (arith, length-append (to_be_bytes w16 (length fix)) fix, word_len (length fix), list_len more)

batch_len : (fixes : List (List ℕ)) → length (batch_of fixes) ≡ 3 + carried_len fixes
batch_len fixes =
    length-append (to_be_bytes w16 (length fixes)) (to_be_bytes w8 1 ++ flat_map in_batch fixes)
    ∙ omega (arith, word_len (length fixes), length-append (to_be_bytes w8 1) (flat_map in_batch fixes), byte_len_is 1, list_len fixes)

-- ---- how many go into one

fitting_within : (used : ℕ) (fixes : List (List ℕ)) → fitting_behind used fixes ≤ length fixes
fitting_within used [] = omega arith
fitting_within used (fix ∷ more) = by_test (nat_le (used + (2 + length fix)) BODY_LIMIT) (fitting_within (used + (2 + length fix)) more)
  where
    by_test : (b : Bool) → fitting_behind (used + (2 + length fix)) more ≤ length more → cond b (1 + fitting_behind (used + (2 + length fix)) more) 0 ≤ suc (length more)
    by_test true le = omega (arith, le)
    by_test false le = omega arith

carried_more : (n : ℕ) (fix : List ℕ) (more : List (List ℕ)) → carried_len (take (1 + n) (fix ∷ more)) ≡ (2 + length fix) + carried_len (take n more)
carried_more n fix more = ap (λ (k : ℕ). carried_len (take k (fix ∷ more))) (one_more n)
  where
    one_more : (n : ℕ) → 1 + n ≡ suc n
    one_more n = omega arith

fitting_fits : (used : ℕ) (fixes : List (List ℕ)) → used ≤ BODY_LIMIT → used + carried_len (take (fitting_behind used fixes) fixes) ≤ BODY_LIMIT
fitting_fits used [] le = omega (arith, le)
fitting_fits used (fix ∷ more) le = by_test (nat_le (used + (2 + length fix)) BODY_LIMIT) refl (fitting_fits (used + (2 + length fix)) more)
  where
    by_test : (b : Bool) → nat_le (used + (2 + length fix)) BODY_LIMIT ≡ b
        → (used + (2 + length fix) ≤ BODY_LIMIT → (used + (2 + length fix)) + carried_len (take (fitting_behind (used + (2 + length fix)) more) more) ≤ BODY_LIMIT)
        → used + carried_len (take (cond b (1 + fitting_behind (used + (2 + length fix)) more) 0) (fix ∷ more)) ≤ BODY_LIMIT
    by_test true e next = let more_fit = next (leb-true (used + (2 + length fix)) BODY_LIMIT e) in omega (arith, more_fit, carried_more (fitting_behind (used + (2 + length fix)) more) fix more)
    by_test false e next = omega (arith, le)

fitting_most : (used : ℕ) (fixes : List (List ℕ)) (k : ℕ) → k ≤ length fixes → used + carried_len (take k fixes) ≤ BODY_LIMIT → k ≤ fitting_behind used fixes
fitting_most used fixes zero within le = omega arith
fitting_most used [] (suc k) within le = absurd (omega (arith, within))
fitting_most used (fix ∷ more) (suc k) within le =
    subst (λ (b : Bool). suc k ≤ cond b (1 + fitting_behind (used + (2 + length fix)) more) 0) (sym (le-leb (used + (2 + length fix)) BODY_LIMIT (omega (arith, le))))
    (let rest = fitting_most (used + (2 + length fix)) more k (omega (arith, within)) (omega (arith, le)) in omega (arith, rest))

pub fitting_is_greatest : FittingIsGreatest
fitting_is_greatest = record {
  fits = λ fixes le. let len = batch_len (take (fitting fixes) fixes) in let most = fitting_fits 3 fixes (omega arith) in omega (arith, len, most);
  within = fitting_within 3;
  greatest = λ fixes k one within le. fitting_most 3 fixes k within (let len = batch_len (take k fixes) in omega (arith, len, le));
}

-- ---- the fixes of a batch

-- the positions that fixes are
positions : (fixes : List (List ℕ)) → All IsFix fixes → (ms : List Position) × (map position.spell ms ≡ fixes) × AllByRecursion (sized word position).Fits ms × (flat_map (sized word position).spell ms ≡ flat_map in_batch fixes) × (length ms ≡ length fixes)
unfolding number
positions [] all = ([], refl, tt, refl, refl)
positions (fix ∷ more) all =
    let is = All-head IsFix fix more all in
    let rest = positions more (All-tail IsFix fix more all) in
    let m = is.position.0 in
    let fills = is.position.1 in
    let same : position.spell m ≡ fix = sym fills.parts in
    let short = is.short in
    let len : length (position.spell m) ≡ length fix = ap (λ (octets : List ℕ). length octets) same in (
      m ∷ rest.0,
      ap (λ (octets : List ℕ). octets ∷ map position.spell rest.0) same ∙ ap (λ (fs : List (List ℕ)). fix ∷ fs) rest.1,
      ((omega (arith, len, short), (fills.fits, refl)), rest.2),
      ap (λ (octets : List ℕ). in_batch octets ++ flat_map (sized word position).spell rest.0) same ∙ ap (λ (octets : List ℕ). in_batch fix ++ octets) rest.3,
      ap suc rest.4,
    )

batch_fills : (fixes : List (List ℕ)) → All IsFix fixes → length fixes < 65536 → (m : Batch) × Fills batch (batch_of fixes) 0 m × (map position.spell m.fixes ≡ fixes)
unfolding batch number
batch_fills fixes all few =
    let ps = positions fixes all in
    let len = ps.4 in (
      record { kind = 1; fixes = ps.0 },
      record {
        fits = (omega (arith, len, few), (omega arith, (refl, ps.2)));
        parts = ap (λ (octets : List ℕ). to_be_bytes w16 (length fixes) ++ (to_be_bytes w8 1 ++ octets)) (sym ps.3) ∙ ap (λ (n : ℕ). to_be_bytes w16 n ++ (to_be_bytes w8 1 ++ flat_map (sized word position).spell ps.0)) (sym len);
      },
      ps.1,
    )

pub batch_fixes : FixesAre → (fixes : List (List ℕ)) → All IsFix fixes → length fixes < 65536 → fixes_of (0x0704, batch_of fixes) ≡ fixes
batch_fixes law fixes all few = let b = batch_fills fixes all few in law.of_a_batch (batch_of fixes) b.0 b.1 ∙ b.2

many_len : (fixes : List (List ℕ)) → length fixes ≤ carried_len fixes
many_len [] = omega arith
many_len (fix ∷ more) = let le = many_len more in omega (arith, le)

module _ (law : FixesAre) (serial : ℕ) (fix : List ℕ) (more : List (List ℕ)) (all : All IsFix (fix ∷ more)) where
  abbrev k : ℕ
  k = fitting (fix ∷ more)

  k_len : length (take k (fix ∷ more)) ≡ k
  k_len = length-take-le k (fix ∷ more) (fitting_within 3 (fix ∷ more))

  k_fits : length (batch_of (take k (fix ∷ more))) ≤ BODY_LIMIT
  k_fits = let len = batch_len (take k (fix ∷ more)) in let most = fitting_fits 3 (fix ∷ more) (omega arith) in omega (arith, len, most)

  k_few : length (take k (fix ∷ more)) < 65536
  k_few = let most = fitting_fits 3 (fix ∷ more) (omega arith) in let many = many_len (take k (fix ∷ more)) in omega (arith, most, many)

  the_fix : IsFix fix
  the_fix = All-head IsFix fix more all

  unit_is : (b : Bool) → nat_le 2 k ≡ b → let u = cond b (batch_unit serial (fix ∷ more) k) (position_unit serial fix) in IsUnit u × (fixes_of (u.id, u.body) ≡ take u.count (fix ∷ more)) × (u.count ≤ length (fix ∷ more))
  unit_is true e = let two = leb-true 2 k e in (record { id = inr refl; short = k_fits; some = omega (arith, two) }, batch_fixes law (take k (fix ∷ more)) (All-take IsFix k (fix ∷ more) all) k_few, fitting_within 3 (fix ∷ more))
  unit_is false e = (record { id = inl refl; short = the_fix.short; some = omega arith }, law.of_a_position fix the_fix.position.0 the_fix.position.1, omega arith)

  pub the_unit_is : let u = unit_of serial fix (fix ∷ more) in IsUnit u × (fixes_of (u.id, u.body) ≡ take u.count (fix ∷ more)) × (u.count ≤ length (fix ∷ more))
  the_unit_is = unit_is (nat_le 2 k) refl

counted : (serial : ℕ) (fix : List ℕ) (more : List (List ℕ)) → (unit_of serial fix (fix ∷ more)).count ≤ length (fix ∷ more)
counted serial fix more = by_test (nat_le 2 (fitting (fix ∷ more)))
  where
    by_test : (b : Bool) → (cond b (batch_unit serial (fix ∷ more) (fitting (fix ∷ more))) (position_unit serial fix)).count ≤ length (fix ∷ more)
    by_test true = fitting_within 3 (fix ∷ more)
    by_test false = omega arith

pub unit_carries : FixesAre → UnitCarriesFirstFixes
unit_carries law = record {
  unit = λ serial fix more all. (the_unit_is law serial fix more all).0;
  fixes = λ serial fix more all. (the_unit_is law serial fix more all).1;
  count = counted;
}
