-- The law of layouts that repeat, that have a stated length, or that may be missing.
use Rattle.std.proofs.Common.{◌≡◌, ℕ, zero, suc, ◌+◌, ◌-◌, ◌<◌, ◌≤◌, Bool, true, false, ltb, inl, inr, List, [], ◌∷◌, ◌++◌, length, take, drop, Option, Some, None, Ok, Err, refl, sym, ap, subst, ◌∙◌, append_assoc, arith}
use Rattle.std.specs.List.{flat_map}
use Rattle.std.proofs.lemmas.Bool.{cases_lt, ltb-true, ltb-false, le-ltb, lt-ltb}
use Rattle.std.proofs.lemmas.List.{append-nil, drop_all, drop-drop, drop-take, take-append-drop, take_at, length-append, length-take, length-drop}
use Rattle.jt_value.specs.declared.refusal.Refusal.{Refusal}
use Rattle.jt_value.specs.Octets.{AreOctets}
use Rattle.jt_layout.specs.Layout.{Part, Body, Stands, Fills, ◌>>=◌, truncated, ◌▹◌, list_of, times, read_times, to_the_end, read_all, read_to_the_end, within, sized, block, octets_of, counted, only_if, ended, may_end}
use Rattle.jt_value.proofs.OctetLists.{AreOctets-take}
use Rattle.jt_layout.proofs.Laws.{bind_ok, bind_err, ok_is, guard_ok, guard_err, behind, IsPart, IsBody, octets_law, then_law, ended_law, part_as_law}

-- one more in front of a list
stands-cons : {A : Type 0} (f : Part A) (s : List ℕ) (p : ℕ) (a : A) (m : ℕ) (xs : List A) (q : ℕ) → Stands f s p a m → Stands (list_of f) s m xs q → Stands (list_of f) s p (a ∷ xs) q
stands-cons f s p a m xs q x y =
    let e1 = x.ends in
    let e2 = y.ends in
    record {
      fits = (x.fits, y.fits);
      parts = x.parts ∙ ap (λ (t : List ℕ). f.spell a ++ t) y.parts ∙ sym (append_assoc (f.spell a) (flat_map f.spell xs) (drop q s));
      ends = omega (arith, length-append (f.spell a) (flat_map f.spell xs));
      within = y.within;
    }

stands-uncons : {A : Type 0} (f : Part A) (s : List ℕ) (p : ℕ) (a : A) (xs : List A) (q : ℕ) → p ≤ length s → Stands (list_of f) s p (a ∷ xs) q → Stands f s p a (p + length (f.spell a)) × Stands (list_of f) s (p + length (f.spell a)) xs q
stands-uncons f s p a xs q le st =
    let ends = st.ends in
    let within = st.within in
    let size = length-append (f.spell a) (flat_map f.spell xs) in
    let parts : drop p s ≡ f.spell a ++ (flat_map f.spell xs ++ drop q s) = st.parts ∙ append_assoc (f.spell a) (flat_map f.spell xs) (drop q s) in
    let second = behind s (f.spell a) (flat_map f.spell xs ++ drop q s) p parts in (
      record { fits = st.fits.0; parts = parts ∙ ap (λ (t : List ℕ). f.spell a ++ t) (sym second); ends = refl; within = omega arith },
      record { fits = st.fits.1; parts = second; ends = omega arith; within = within },
    )

stands-nil : {A : Type 0} (f : Part A) (s : List ℕ) (p : ℕ) → p ≤ length s → Stands (list_of f) s p [] p
stands-nil f s p le = record { fits = tt; parts = refl; ends = omega arith; within = le }

-- ---- a number of times

times_takes : {A : Type 0} (f : Part A) → IsPart f → (n : ℕ) (s : List ℕ) (p : ℕ) (x : List A × ℕ) → AreOctets s → p ≤ length s → read_times f.read n s p ≡ Ok x → Stands (list_of f) s p x.0 x.1 × (length x.0 ≡ n)
unfolding read_times
times_takes {A} f lf zero s p x bytes le e = subst (λ (y : List A × ℕ). Stands (list_of f) s p y.0 y.1 × (length y.0 ≡ 0)) (ok_is ([], p) x e) (stands-nil f s p le, refl)
times_takes {A} f lf (suc n) s p x bytes le e =
    let u = bind_ok (f.read s p) (λ x. read_times f.read n s x.1 >>= λ xs. Ok (x.0 ∷ xs.0, xs.1)) x e in
    let v = bind_ok (read_times f.read n s u.0.1) (λ xs. Ok (u.0.0 ∷ xs.0, xs.1)) x u.2 in
    let first = lf.takes s p u.0 bytes le u.1 in
    let second = times_takes f lf n s u.0.1 v.0 bytes first.within v.1 in
    subst (λ (y : List A × ℕ). Stands (list_of f) s p y.0 y.1 × (length y.0 ≡ suc n)) (ok_is (u.0.0 ∷ v.0.0, v.0.1) x v.2) (stands-cons f s p u.0.0 u.0.1 v.0.0 v.0.1 first second.0, ap suc second.1)

times_again : {A : Type 0} (f : Part A) → IsPart f → (xs : List A) (s : List ℕ) (p q : ℕ) → p ≤ length s → Stands (list_of f) s p xs q → read_times f.read (length xs) s p ≡ Ok (xs, q)
unfolding read_times
times_again f lf [] s p q le st = let ends = st.ends in let same : p ≡ q = omega arith in rw same refl
times_again f lf (a ∷ xs) s p q le st =
    let both = stands-uncons f s p a xs q le st in
    rw (lf.again s p a (p + length (f.spell a)) le both.0, times_again f lf xs s (p + length (f.spell a)) q both.0.within both.1) refl

abbrev FailsWithin : {A : Type 0} → Part A → ℕ → List ℕ → ℕ → Refusal → Type 0
FailsWithin f n s p r = (xs : _) × (q : ℕ) × Stands (list_of f) s p xs q × (length xs < n) × f.Refuses s q r

times_refused : {A : Type 0} (f : Part A) → IsPart f → (n : ℕ) (s : List ℕ) (p : ℕ) (r : Refusal) → AreOctets s → p ≤ length s → read_times f.read n s p ≡ Err r → FailsWithin f n s p r
unfolding read_times
times_refused f lf zero s p r bytes le e = absurd cc
times_refused f lf (suc n) s p r bytes le e =
    elim (bind_err (f.read s p) (λ x. read_times f.read n s x.1 >>= λ xs. Ok (x.0 ∷ xs.0, xs.1)) r e) [
      | inl h ↦ ([], p, stands-nil f s p le, omega arith, lf.refused s p r bytes le h)
      | inr u ↦
          let first = lf.takes s p u.0 bytes le u.1 in
          elim (bind_err (read_times f.read n s u.0.1) (λ xs. Ok (u.0.0 ∷ xs.0, xs.1)) r u.2) [
            | inl h ↦ let i = times_refused f lf n s u.0.1 r bytes first.within h in (u.0.0 ∷ i.0, i.1, stands-cons f s p u.0.0 u.0.1 i.0 i.1 first i.2, (let lt = i.3 in omega arith), i.4)
            | inr v ↦ absurd (let e = v.2 in cc)
          ]
    ]

times_refuses : {A : Type 0} (f : Part A) → IsPart f → (n : ℕ) (xs : List A) (s : List ℕ) (p q : ℕ) (r : Refusal) → p ≤ length s → Stands (list_of f) s p xs q → length xs < n → f.Refuses s q r → read_times f.read n s p ≡ Err r
unfolding read_times
times_refuses f lf zero xs s p q r le st lt h = absurd (omega arith)
times_refuses f lf (suc n) [] s p q r le st lt h = let ends = st.ends in let same : q ≡ p = omega arith in rw (lf.refuses s p r le (rw same at h)) refl
times_refuses f lf (suc n) (a ∷ xs) s p q r le st lt h =
    let both = stands-uncons f s p a xs q le st in
    rw (lf.again s p a (p + length (f.spell a)) le both.0, times_refuses f lf n xs s (p + length (f.spell a)) q r both.0.within both.1 (omega arith) h) refl

pub times_law : {A : Type 0} (n : ℕ) (f : Part A) → IsPart f → IsPart (times n f)
times_law n f lf = record {
  takes = λ s p x bytes le e. let t = times_takes f lf n s p x bytes le e in record { fits = (t.1, t.0.fits); parts = t.0.parts; ends = t.0.ends; within = t.0.within };
  again = λ s p xs q le st.
      let inner : Stands (list_of f) s p xs q = record { fits = st.fits.1; parts = st.parts; ends = st.ends; within = st.within } in
      rw (← st.fits.0) (times_again f lf xs s p q le inner);
  refused = λ s p r bytes le e. times_refused f lf n s p r bytes le e;
  refuses = λ s p r le h. times_refuses f lf n h.0 s p h.1 r le h.2 h.3 h.4;
  placed = λ s p r le h. lf.placed s h.1 r h.2.within h.4;
}

-- ---- up to the end

-- fields that take at least one octet
pub record IsNeverEmpty {A : Type 0} (f : Part A) : Type 0 where
  pub some : (a : A) → f.Fits a → 0 < length (f.spell a)

all_takes : {A : Type 0} (f : Part A) → IsPart f → IsNeverEmpty f → (n : ℕ) (s : List ℕ) (p : ℕ) (xs : List A) → AreOctets s → p ≤ length s → length s ≤ p + n → read_all f.read n s p ≡ Ok xs → Stands (list_of f) s p xs (length s)
unfolding read_all
all_takes {A} f lf some zero s p xs bytes le fuel e = let same : p ≡ length s = omega arith in subst (λ (y : List A). Stands (list_of f) s p y (length s)) (ok_is [] xs e) (rw (← same) (stands-nil f s p le))
all_takes {A} f lf some (suc n) s p xs bytes le fuel e =
    elim (cases_lt p (length s)) [
      | inl lt ↦
          let more : ltb p (length s) ≡ true = lt-ltb _ _ lt in
          let e2 : (f.read s p >>= λ x. read_all f.read n s x.1 >>= λ xs. Ok (x.0 ∷ xs)) ≡ Ok xs = rw more at e in
          let u = bind_ok (f.read s p) (λ x. read_all f.read n s x.1 >>= λ xs. Ok (x.0 ∷ xs)) xs e2 in
          let v = bind_ok (read_all f.read n s u.0.1) (λ xs. Ok (u.0.0 ∷ xs)) xs u.2 in
          let first = lf.takes s p u.0 bytes le u.1 in
          let ends = first.ends in
          let second = all_takes f lf some n s u.0.1 v.0 bytes first.within (omega (arith, some.some u.0.0 first.fits)) v.1 in
          subst (λ (y : List A). Stands (list_of f) s p y (length s)) (ok_is (u.0.0 ∷ v.0) xs v.2) (stands-cons f s p u.0.0 u.0.1 v.0 (length s) first second)
      | inr ge ↦
          let same : p ≡ length s = omega arith in
          let none : ltb p (length s) ≡ false = le-ltb _ _ ge in
          let e2 : Ok [] ≡ Ok xs = rw none at e in
          subst (λ (y : List A). Stands (list_of f) s p y (length s)) (ok_is [] xs e2) (rw (← same) (stands-nil f s p le))
    ]

all_again : {A : Type 0} (f : Part A) → IsPart f → IsNeverEmpty f → (n : ℕ) (xs : List A) (s : List ℕ) (p : ℕ) → p ≤ length s → length s ≤ p + n → Stands (list_of f) s p xs (length s) → read_all f.read n s p ≡ Ok xs
unfolding read_all
all_again f lf some zero [] s p le fuel st = refl
all_again f lf some zero (a ∷ xs) s p le fuel st =
    let ends = st.ends in
    absurd (omega (arith, some.some a st.fits.0, length-append (f.spell a) (flat_map f.spell xs)))
all_again f lf some (suc n) [] s p le fuel st =
    let ends = st.ends in
    let none : ltb p (length s) ≡ false = le-ltb _ _ (omega arith) in
    rw none refl
all_again f lf some (suc n) (a ∷ xs) s p le fuel st =
    let ends = st.ends in
    let both = stands-uncons f s p a xs (length s) le st in
    let more : ltb p (length s) ≡ true = lt-ltb _ _ (omega (arith, some.some a st.fits.0, length-append (f.spell a) (flat_map f.spell xs))) in
    rw (more, lf.again s p a (p + length (f.spell a)) le both.0, all_again f lf some n xs s (p + length (f.spell a)) both.0.within (omega (arith, some.some a st.fits.0)) both.1) refl

abbrev FailsBefore : {A : Type 0} → Part A → List ℕ → ℕ → Refusal → Type 0
FailsBefore f s p r = (xs : _) × (q : ℕ) × Stands (list_of f) s p xs q × (q < length s) × f.Refuses s q r

all_refused : {A : Type 0} (f : Part A) → IsPart f → (n : ℕ) (s : List ℕ) (p : ℕ) (r : Refusal) → AreOctets s → p ≤ length s → read_all f.read n s p ≡ Err r → FailsBefore f s p r
unfolding read_all
all_refused f lf zero s p r bytes le e = absurd cc
all_refused f lf (suc n) s p r bytes le e =
    elim (cases_lt p (length s)) [
      | inl lt ↦
          let more : ltb p (length s) ≡ true = lt-ltb _ _ lt in
          let e2 : (f.read s p >>= λ x. read_all f.read n s x.1 >>= λ xs. Ok (x.0 ∷ xs)) ≡ Err r = rw more at e in
          elim (bind_err (f.read s p) (λ x. read_all f.read n s x.1 >>= λ xs. Ok (x.0 ∷ xs)) r e2) [
            | inl h ↦ ([], p, stands-nil f s p le, lt, lf.refused s p r bytes le h)
            | inr u ↦
                let first = lf.takes s p u.0 bytes le u.1 in
                elim (bind_err (read_all f.read n s u.0.1) (λ xs. Ok (u.0.0 ∷ xs)) r u.2) [
                  | inl h ↦ let i = all_refused f lf n s u.0.1 r bytes first.within h in (u.0.0 ∷ i.0, i.1, stands-cons f s p u.0.0 u.0.1 i.0 i.1 first i.2, i.3, i.4)
                  | inr v ↦ absurd (let e = v.2 in cc)
                ]
          ]
      | inr ge ↦
          let none : ltb p (length s) ≡ false = le-ltb _ _ ge in
          let e2 : Ok [] ≡ Err r = rw none at e in
          absurd cc
    ]

all_refuses : {A : Type 0} (f : Part A) → IsPart f → IsNeverEmpty f → (n : ℕ) (xs : List A) (s : List ℕ) (p q : ℕ) (r : Refusal) → p ≤ length s → length s ≤ p + n → Stands (list_of f) s p xs q → q < length s → f.Refuses s q r → read_all f.read n s p ≡ Err r
unfolding read_all
all_refuses f lf some zero xs s p q r le fuel st lt h = let ends = st.ends in absurd (omega arith)
all_refuses f lf some (suc n) [] s p q r le fuel st lt h =
    let ends = st.ends in
    let same : q ≡ p = omega arith in
    let more : ltb p (length s) ≡ true = lt-ltb _ _ (omega arith) in
    rw (more, lf.refuses s p r le (rw same at h)) refl
all_refuses f lf some (suc n) (a ∷ xs) s p q r le fuel st lt h =
    let ends = st.ends in
    let both = stands-uncons f s p a xs q le st in
    let more : ltb p (length s) ≡ true = lt-ltb _ _ (omega arith) in
    rw (more, lf.again s p a (p + length (f.spell a)) le both.0, all_refuses f lf some n xs s (p + length (f.spell a)) q r both.0.within (omega (arith, some.some a st.fits.0)) both.1 lt h) refl

pub to_the_end_law : {A : Type 0} (f : Part A) → IsPart f → IsNeverEmpty f → IsBody (to_the_end f)
unfolding read_to_the_end
to_the_end_law f lf some = record {
  takes = λ s p xs bytes le e.
      let st = all_takes f lf some (length s - p) s p xs bytes le (omega arith) e in
      record { fits = st.fits; parts = st.parts ∙ ap (λ (t : List ℕ). flat_map f.spell xs ++ t) (drop_all (length s) s (omega arith)) ∙ append-nil (flat_map f.spell xs) };
  again = λ s p xs le st.
      let parts = st.parts in
      let whole : Stands (list_of f) s p xs (length s) = record { fits = st.fits; parts = st.parts ∙ sym (append-nil (flat_map f.spell xs)) ∙ ap (λ (t : List ℕ). flat_map f.spell xs ++ t) (sym (drop_all (length s) s (omega arith))); ends = omega (arith, length-drop p s, ap length parts); within = omega arith } in
      all_again f lf some (length s - p) xs s p le (omega arith) whole;
  refused = λ s p r bytes le e. all_refused f lf (length s - p) s p r bytes le e;
  refuses = λ s p r le h. all_refuses f lf some (length s - p) h.0 s p h.1 r le (omega arith) h.2 h.3 h.4;
  placed = λ s p r le h. lf.placed s h.1 r h.2.within h.4;
}

-- ---- of a stated length

pub within_law : {A : Type 0} (n : ℕ) (b : Body A) → IsBody b → IsPart (within n b)
within_law {A} n b lb = record {
  takes = λ s p x bytes le e.
      let g = guard_ok (ltb (length s) (p + n)) (truncated p) (b.read (take (p + n) s) p >>= λ a. Ok (a, p + n)) x e in
      let long : p + n ≤ length s = ltb-false _ _ g.0 in
      let u = bind_ok (b.read (take (p + n) s) p) (λ a. Ok (a, p + n)) x g.1 in
      let st = lb.takes (take (p + n) s) p u.0 (AreOctets-take (p + n) s bytes) (omega (arith, length-take (p + n) s)) u.1 in
      let inner : take n (drop p s) ≡ b.spell u.0 = sym (drop-take p n s) ∙ st.parts in
      let size : length (b.spell u.0) ≡ n = omega (arith, ap length inner, length-take n (drop p s), length-drop p s) in
      let parts : drop p s ≡ b.spell u.0 ++ drop (p + n) s = rw (← inner, ← drop-drop n p s) (sym (take-append-drop n (drop p s))) in
      subst (λ (y : A × ℕ). Stands (within n b) s p y.0 y.1) (ok_is (u.0, p + n) x u.2) (record { fits = (st.fits, size); parts = parts; ends = omega arith; within = long });
  again = λ s p a q le st.
      let ends = st.ends in
      let size = st.fits.1 in
      let within = st.within in
      let q-is : q ≡ p + n = omega arith in
      let long : ltb (length s) (p + n) ≡ false = le-ltb _ _ (omega arith) in
      let inner : drop p (take (p + n) s) ≡ b.spell a = drop-take p n s ∙ ap (take n) st.parts ∙ take_at (b.spell a) (drop q s) n size in
      rw (long, lb.again (take (p + n) s) p a (omega (arith, length-take (p + n) s)) (record { fits = st.fits.0; parts = inner }), q-is) refl;
  refused = λ s p r bytes le e.
      elim (guard_err (ltb (length s) (p + n)) (truncated p) (b.read (take (p + n) s) p >>= λ a. Ok (a, p + n)) r e) [
        | inl g ↦ inl (ltb-true _ _ g.0, g.1)
        | inr g ↦
            let long : p + n ≤ length s = ltb-false _ _ g.0 in
            elim (bind_err (b.read (take (p + n) s) p) (λ a. Ok (a, p + n)) r g.1) [
              | inl h ↦ inr (long, lb.refused (take (p + n) s) p r (AreOctets-take (p + n) s bytes) (omega (arith, length-take (p + n) s)) h)
              | inr u ↦ absurd (let e = u.2 in cc)
            ]
      ];
  refuses = λ s p r le h.
      elim h [
        | inl h ↦ let short : ltb (length s) (p + n) ≡ true = lt-ltb _ _ h.0 in rw (short, h.1) refl
        | inr h ↦ let le2 = h.0 in let long : ltb (length s) (p + n) ≡ false = le-ltb _ _ le2 in rw (long, lb.refuses (take (p + n) s) p r (omega (arith, length-take (p + n) s)) h.1) refl
      ];
  placed = λ s p r le h.
      elim h [
        | inl h ↦ rw h.1 (refl, le)
        | inr h ↦
            let long = h.0 in
            let inner = lb.placed (take (p + n) s) p r (omega (arith, length-take (p + n) s)) h.1 in
            let within = inner.1 in
            (inner.0, omega (arith, length-take (p + n) s))
      ];
}

pub sized_law : {A : Type 0} (lens : Part ℕ) (b : Body A) → IsPart lens → IsBody b → IsPart (sized lens b)
sized_law lens b ll lb = part_as_law (lens ▹ λ n. within n b) (λ x. x.1) (λ a. (length (b.spell a), a)) (then_law lens (λ n. within n b) ll (λ n. within_law n b lb)) (λ x fits. ap (λ n. (n, x.1)) fits.1.1) (λ a. refl)

pub block_law : (lens : Part ℕ) → IsPart lens → IsPart (block lens)
unfolding octets_of
block_law lens ll = part_as_law (lens ▹ λ n. octets_of n) (λ x. x.1) (λ v. (length v, v)) (then_law lens (λ n. octets_of n) ll octets_law) (λ x fits. ap (λ n. (n, x.1)) fits.1.0) (λ v. refl)

pub counted_law : {A : Type 0} (count : Part ℕ) (f : Part A) → IsPart count → IsPart f → IsPart (counted count f)
counted_law count f lc lf = part_as_law (count ▹ λ n. times n f) (λ x. x.1) (λ xs. (length xs, xs)) (then_law count (λ n. times n f) lc (λ n. times_law n f lf)) (λ x fits. ap (λ n. (n, x.1)) fits.1.0) (λ xs. refl)

-- ---- only if a test holds

some_stands : {A : Type 0} (f : Part A) (s : List ℕ) (p : ℕ) (o : Option A) (q : ℕ) → Stands (only_if true f) s p o q → (a : A) × (o ≡ Some a) × Stands f s p a q
unfolding only_if
some_stands f s p None q st = absurd st.fits
some_stands f s p (Some a) q st = (a, refl, record { fits = st.fits; parts = st.parts; ends = st.ends; within = st.within })

pub only_if_law : {A : Type 0} (b : Bool) (f : Part A) → IsPart f → IsPart (only_if b f)
unfolding only_if
only_if_law {A} true f lf = record {
  takes = λ s p y bytes le e.
      let u = bind_ok (f.read s p) (λ x. Ok (Some x.0, x.1)) y e in
      let st = lf.takes s p u.0 bytes le u.1 in
      subst (λ (z : Option A × ℕ). Stands (only_if true f) s p z.0 z.1) (ok_is (Some u.0.0, u.0.1) y u.2) (record { fits = st.fits; parts = st.parts; ends = st.ends; within = st.within });
  again = λ s p o q le st.
      let i = some_stands f s p o q st in
      rw (lf.again s p i.0 q le i.2) (ap (λ (z : Option A). Ok (z, q)) (sym i.1));
  refused = λ s p r bytes le e.
      elim (bind_err (f.read s p) (λ x. Ok (Some x.0, x.1)) r e) [
        | inl h ↦ lf.refused s p r bytes le h
        | inr u ↦ absurd (let e = u.2 in cc)
      ];
  refuses = λ s p r le h. rw (lf.refuses s p r le h) refl;
  placed = λ s p r le h. lf.placed s p r le h;
}
only_if_law {A} false f lf = record {
  takes = λ s p y bytes le e. subst (λ (z : Option A × ℕ). Stands (only_if false f) s p z.0 z.1) (ok_is (None, p) y e) (record { fits = refl; parts = refl; ends = omega arith; within = le });
  again = λ s p o q le st. let ends = st.ends in let same : q ≡ p = omega arith in rw (st.fits, same) refl;
  refused = λ s p r bytes le e. absurd cc;
  refuses = λ s p r le h. absurd h;
  placed = λ s p r le h. absurd h;
}

-- ---- missing at the end

may_end_again : {A : Type 0} (f : Part A) → IsPart f → IsNeverEmpty f → (s : List ℕ) (p : ℕ) (o : Option A) → p ≤ length s → Fills (may_end f) s p o → (may_end f).read s p ≡ Ok o
may_end_again f lf some s p None le st =
    let parts = st.parts in
    let none : ltb p (length s) ≡ false = le-ltb _ _ (omega (arith, length-drop p s, ap length parts)) in
    rw none refl
may_end_again f lf some s p (Some a) le st =
    let parts = st.parts in
    let more : ltb p (length s) ≡ true = lt-ltb _ _ (omega (arith, length-drop p s, ap length parts, some.some a st.fits)) in
    let inner : Fills (ended f) s p a = record { fits = st.fits; parts = parts } in
    rw (more, (ended_law f lf).again s p a le inner) refl

pub may_end_law : {A : Type 0} (f : Part A) → IsPart f → IsNeverEmpty f → IsBody (may_end f)
may_end_law {A} f lf some = record {
  takes = λ s p o bytes le e.
      elim (cases_lt p (length s)) [
        | inl lt ↦
            let more : ltb p (length s) ≡ true = lt-ltb _ _ lt in
            let e2 : ((ended f).read s p >>= λ a. Ok (Some a)) ≡ Ok o = rw more at e in
            let u = bind_ok ((ended f).read s p) (λ a. Ok (Some a)) o e2 in
            let st = (ended_law f lf).takes s p u.0 bytes le u.1 in
            subst (λ (z : Option A). Fills (may_end f) s p z) (ok_is (Some u.0) o u.2) (record { fits = st.fits; parts = st.parts })
        | inr ge ↦
            let none : ltb p (length s) ≡ false = le-ltb _ _ ge in
            let e2 : Ok None ≡ Ok o = rw none at e in
            subst (λ (z : Option A). Fills (may_end f) s p z) (ok_is None o e2) (record { fits = tt; parts = drop_all p s ge })
      ];
  again = λ s p o le st. may_end_again f lf some s p o le st;
  refused = λ s p r bytes le e.
      elim (cases_lt p (length s)) [
        | inl lt ↦
            let more : ltb p (length s) ≡ true = lt-ltb _ _ lt in
            let e2 : ((ended f).read s p >>= λ a. Ok (Some a)) ≡ Err r = rw more at e in
            elim (bind_err ((ended f).read s p) (λ a. Ok (Some a)) r e2) [
              | inl h ↦ (lt, (ended_law f lf).refused s p r bytes le h)
              | inr u ↦ absurd (let e = u.2 in cc)
            ]
        | inr ge ↦
            let none : ltb p (length s) ≡ false = le-ltb _ _ ge in
            let e2 : Ok None ≡ Err r = rw none at e in
            absurd cc
      ];
  refuses = λ s p r le h.
      let more : ltb p (length s) ≡ true = lt-ltb _ _ h.0 in
      rw (more, (ended_law f lf).refuses s p r le h.1) refl;
  placed = λ s p r le h. (ended_law f lf).placed s p r le h.1;
}
