-- The law of layouts: octets have exactly one value or exactly one reason.
use Rattle.std.proofs.Common.{◌≡◌, ℕ, ◌+◌, ◌*◌, ◌%◌, ◌^◌, ◌<◌, ◌≤◌, Bool, true, false, cond, ltb, ◌⊎◌, inl, inr, List, [], ◌∷◌, ◌++◌, length, take, drop, Option, Some, None, Result, Ok, Err, refl, sym, ap, subst, ◌∙◌, append_assoc, arith}
use Rattle.std.specs.Prelude.{IsSomeAnd}
use Rattle.std.specs.Int.{Width, w8, w16, w32, byte_len, from_be_bytes, to_be_bytes}
use Rattle.std.proofs.lemmas.Bool.{ltb-true, ltb-false, le-ltb, lt-ltb}
use Rattle.std.proofs.lemmas.List.{append-nil, drop_all, take_at, drop_at, drop-drop, take-append-drop, length-append, length-take, length-drop}
use Rattle.std.proofs.lemmas.Nat.{be_bytes_2, be_bytes_4, from_be_bytes-to_be_bytes_2, from_be_bytes-to_be_bytes_4}
use Rattle.jt_value.specs.declared.refusal.Refusal.{Refusal}
use Rattle.jt_value.specs.Octets.{AreOctets}
use Rattle.jt_value.proofs.OctetLists.{AreOctets-drop, AreOctets-take}
use Rattle.jt_layout.specs.Answer.{IsPlaced}
use Rattle.jt_layout.specs.Layout.{Part, Body, Stands, Fills, ◌>>=◌, truncated, trailing, octets_of, number, rest, at_end, empty, nothing, ◌▹◌, ◌▸◌, ended, if_body, rest_if, part_as, body_as, part_typed, body_case, spell_case}

-- ---- steps that may fail

pub bind_ok : {A B : Type 0} (r : Result A Refusal) (f : A → Result B Refusal) (y : B) → (r >>= f) ≡ Ok y → (x : A) × (r ≡ Ok x) × (f x ≡ Ok y)
bind_ok (Ok x) f y e = (x, refl, e)
bind_ok (Err d) f y e = absurd cc

pub bind_err : {A B : Type 0} (r : Result A Refusal) (f : A → Result B Refusal) (d : Refusal) → (r >>= f) ≡ Err d → (r ≡ Err d) ⊎ ((x : A) × (r ≡ Ok x) × (f x ≡ Err d))
bind_err (Ok x) f d e = inr (x, refl, e)
bind_err (Err c) f d e = inl cc

abbrev done : {A : Type 0} → A → Result A Refusal
done x = Ok x

abbrev failed : {A : Type 0} → Refusal → Result A Refusal
failed {A} d = Err d

pub ok_is : {A : Type 0} (x y : A) → done x ≡ done y → x ≡ y
ok_is x y e = cc

pub err_is : {A : Type 0} (c d : Refusal) → failed {A = A} c ≡ failed {A = A} d → c ≡ d
err_is c d e = cc

pub guard_ok : {A : Type 0} (b : Bool) (d : Refusal) (r : Result A Refusal) (y : A) → cond b (Err d) r ≡ Ok y → (b ≡ false) × (r ≡ Ok y)
guard_ok true d r y e = absurd cc
guard_ok false d r y e = (refl, e)

pub guard_err : {A : Type 0} (b : Bool) (d : Refusal) (r : Result A Refusal) (c : Refusal) → cond b (Err d) r ≡ Err c → ((b ≡ true) × (c ≡ d)) ⊎ ((b ≡ false) × (r ≡ Err c))
guard_err true d r c e = inl (refl, cc)
guard_err false d r c e = inr (refl, e)

-- ---- the laws

pub record IsPart {A : Type 0} (f : Part A) : Type 0 where
  pub takes : (s : List ℕ) (p : ℕ) (x : A × ℕ) → AreOctets s → p ≤ length s → f.read s p ≡ Ok x → Stands f s p x.0 x.1
  pub again : (s : List ℕ) (p : ℕ) (a : A) (q : ℕ) → p ≤ length s → Stands f s p a q → f.read s p ≡ Ok (a, q)
  pub refused : (s : List ℕ) (p : ℕ) (r : Refusal) → AreOctets s → p ≤ length s → f.read s p ≡ Err r → f.Refuses s p r
  pub refuses : (s : List ℕ) (p : ℕ) (r : Refusal) → p ≤ length s → f.Refuses s p r → f.read s p ≡ Err r
  pub placed : (s : List ℕ) (p : ℕ) (r : Refusal) → p ≤ length s → f.Refuses s p r → IsPlaced s r

pub record IsBody {A : Type 0} (b : Body A) : Type 0 where
  pub takes : (s : List ℕ) (p : ℕ) (a : A) → AreOctets s → p ≤ length s → b.read s p ≡ Ok a → Fills b s p a
  pub again : (s : List ℕ) (p : ℕ) (a : A) → p ≤ length s → Fills b s p a → b.read s p ≡ Ok a
  pub refused : (s : List ℕ) (p : ℕ) (r : Refusal) → AreOctets s → p ≤ length s → b.read s p ≡ Err r → b.Refuses s p r
  pub refuses : (s : List ℕ) (p : ℕ) (r : Refusal) → p ≤ length s → b.Refuses s p r → b.read s p ≡ Err r
  pub placed : (s : List ℕ) (p : ℕ) (r : Refusal) → p ≤ length s → b.Refuses s p r → IsPlaced s r

-- ---- fields

-- n octets that a reading makes a value of, and that the value is spelled by
record IsField {A : Type 0} (n : ℕ) (spell : A → List ℕ) (Fits : A → Type 0) (value : List ℕ → A) : Type 0 where
  len : (a : A) → Fits a → length (spell a) ≡ n
  back : (v : List ℕ) → length v ≡ n → AreOctets v → Fits (value v) × (spell (value v) ≡ v)
  again : (a : A) → Fits a → value (spell a) ≡ a

abbrev field : {A : Type 0} → ℕ → (A → List ℕ) → (A → Type 0) → (List ℕ → A) → Part A
field n spell fits value = record {
  spell = spell;
  Fits = fits;
  Refuses = λ s p r. (length s < p + n) × (r ≡ truncated p);
  read = λ s p. cond (ltb (length s) (p + n)) (Err (truncated p)) (Ok (value (take n (drop p s)), p + n));
}

field_law : {A : Type 0} (n : ℕ) (spell : A → List ℕ) (Fits : A → Type 0) (value : List ℕ → A) → IsField n spell Fits value → IsPart (field n spell Fits value)
field_law n spell Fits value law = record {
  takes = λ s p x bytes le e.
      let g = guard_ok (ltb (length s) (p + n)) (truncated p) (Ok (value (take n (drop p s)), p + n)) x e in
      let long : p + n ≤ length s = ltb-false _ _ g.0 in
      let v = take n (drop p s) in
      let len : length v ≡ n = omega (arith, length-take n (drop p s), length-drop p s) in
      let b = law.back v len (AreOctets-take n (drop p s) (AreOctets-drop p s bytes)) in
      let front : drop p s ≡ spell (value v) ++ drop (p + n) s = rw (b.1, ← drop-drop n p s) (sym (take-append-drop n (drop p s))) in
      let size : length (spell (value v)) ≡ n = law.len (value v) b.0 in
      subst (λ (y : _ × ℕ). Stands (field n spell Fits value) s p y.0 y.1) (ok_is (value v, p + n) x g.1) (record { fits = b.0; parts = front; ends = omega arith; within = long });
  again = λ s p a q le st.
      let size : length (spell a) ≡ n = law.len a st.fits in
      let ends = st.ends in
      let within = st.within in
      let q-is : q ≡ p + n = omega arith in
      let long : ltb (length s) (p + n) ≡ false = le-ltb _ _ (omega arith) in
      let front : take n (drop p s) ≡ spell a = rw st.parts (take_at (spell a) (drop q s) n size) in
      rw (long, front, law.again a st.fits, q-is) refl;
  refused = λ s p r bytes le e.
      elim (guard_err (ltb (length s) (p + n)) (truncated p) (Ok (value (take n (drop p s)), p + n)) r e) [
        | inl g ↦ (ltb-true _ _ g.0, g.1)
        | inr g ↦ absurd cc
      ];
  refuses = λ s p r le h.
      let short : ltb (length s) (p + n) ≡ true = lt-ltb _ _ h.0 in
      rw (short, h.1) refl;
  placed = λ s p r le h. rw h.1 (refl, le);
}

pub octets_law : (n : ℕ) → IsPart (octets_of n)
unfolding octets_of
octets_law n = field_law n (λ v. v) (λ v. (length v ≡ n) × AreOctets v) (λ v. v) (record {
  len = λ v fits. fits.0;
  back = λ v len bytes. ((len, bytes), refl);
  again = λ v fits. refl;
})

number_field : (w : Width) → IsField (byte_len w) (λ n. to_be_bytes w n) (λ n. n < 2 ^ (8 * byte_len w)) (from_be_bytes w) → IsPart (number w)
unfolding number
number_field w law = field_law (byte_len w) (λ n. to_be_bytes w n) (λ n. n < 2 ^ (8 * byte_len w)) (from_be_bytes w) law

byte_back : (v : List ℕ) → length v ≡ 1 → AreOctets v → (from_be_bytes w8 v < 2 ^ (8 * byte_len w8)) × (to_be_bytes w8 (from_be_bytes w8 v) ≡ v)
byte_back [] len bytes = absurd (omega arith)
byte_back (b ∷ []) len bytes =
    let lt : b < 256 = bytes 0 in
    let same : from_be_bytes w8 (b ∷ []) ≡ b = omega arith in
    let low : b % 256 ≡ b = omega arith in
    (omega arith, rw (same, low) refl)
byte_back (b ∷ c ∷ v) len bytes = absurd (omega arith)

byte_again : (n : ℕ) → n < 2 ^ 8 → from_be_bytes w8 (to_be_bytes w8 n) ≡ n
byte_again n lt = omega arith

pub byte_law : IsPart (number w8)
byte_law = number_field w8 (record {
  len = λ n fits. refl;
  back = λ v len bytes. byte_back v len bytes;
  again = λ n fits. byte_again n fits;
})

pub word_law : IsPart (number w16)
word_law = number_field w16 (record {
  len = λ n fits. refl;
  back = λ v len bytes. (omega (arith, bytes 0, bytes 1), be_bytes_2 v _ len bytes refl);
  again = λ n fits. from_be_bytes-to_be_bytes_2 n fits;
})

pub dword_law : IsPart (number w32)
dword_law = number_field w32 (record {
  len = λ n fits. refl;
  back = λ v len bytes. (omega (arith, bytes 0, bytes 1, bytes 2, bytes 3), be_bytes_4 v _ len bytes refl);
  again = λ n fits. from_be_bytes-to_be_bytes_4 n fits;
})

-- ---- fields in a row

Stands-then : {A B : Type 0} (f : Part A) (g : A → Part B) (s : List ℕ) (p : ℕ) (a : A) (m : ℕ) (b : B) (q : ℕ) → Stands f s p a m → Stands (g a) s m b q → Stands (f ▹ g) s p (a, b) q
Stands-then f g s p a m b q x y =
    let e1 = x.ends in
    let e2 = y.ends in
    record {
      fits = (x.fits, y.fits);
      parts = x.parts ∙ ap (λ (t : List ℕ). f.spell a ++ t) y.parts ∙ sym (append_assoc (f.spell a) ((g a).spell b) (drop q s));
      ends = omega (arith, length-append (f.spell a) ((g a).spell b));
      within = y.within;
    }

-- behind the first fields
pub behind : (s front back : List ℕ) (p : ℕ) → drop p s ≡ front ++ back → drop (p + length front) s ≡ back
behind s front back p e = sym (drop-drop (length front) p s) ∙ ap (drop (length front)) e ∙ drop_at front back (length front) refl

Stands-split : {A B : Type 0} (f : Part A) (g : A → Part B) (s : List ℕ) (p : ℕ) (x : A × B) (q : ℕ) → p ≤ length s → Stands (f ▹ g) s p x q → Stands f s p x.0 (p + length (f.spell x.0)) × Stands (g x.0) s (p + length (f.spell x.0)) x.1 q
Stands-split f g s p x q le st =
    let ends = st.ends in
    let within = st.within in
    let size = length-append (f.spell x.0) ((g x.0).spell x.1) in
    let parts : drop p s ≡ f.spell x.0 ++ ((g x.0).spell x.1 ++ drop q s) = st.parts ∙ append_assoc (f.spell x.0) ((g x.0).spell x.1) (drop q s) in
    let second = behind s (f.spell x.0) ((g x.0).spell x.1 ++ drop q s) p parts in (
      record { fits = st.fits.0; parts = parts ∙ ap (λ (t : List ℕ). f.spell x.0 ++ t) (sym second); ends = refl; within = omega arith },
      record { fits = st.fits.1; parts = second; ends = omega arith; within = within },
    )

pub then_law : {A B : Type 0} (f : Part A) (g : A → Part B) → IsPart f → ((a : A) → IsPart (g a)) → IsPart (f ▹ g)
then_law {A} {B} f g lf lg = record {
  takes = λ s p x bytes le e.
      let u = bind_ok (f.read s p) (λ x. (g x.0).read s x.1 >>= λ y. Ok ((x.0, y.0), y.1)) x e in
      let v = bind_ok ((g u.0.0).read s u.0.1) (λ y. Ok ((u.0.0, y.0), y.1)) x u.2 in
      let first = lf.takes s p u.0 bytes le u.1 in
      let second = (lg u.0.0).takes s u.0.1 v.0 bytes first.within v.1 in
      subst (λ (y : (A × B) × ℕ). Stands (f ▹ g) s p y.0 y.1) (ok_is ((u.0.0, v.0.0), v.0.1) x v.2) (Stands-then f g s p u.0.0 u.0.1 v.0.0 v.0.1 first second);
  again = λ s p x q le st.
      let parts = Stands-split f g s p x q le st in
      let first = lf.again s p x.0 (p + length (f.spell x.0)) le parts.0 in
      let second = (lg x.0).again s (p + length (f.spell x.0)) x.1 q parts.0.within parts.1 in
      rw (first, second) refl;
  refused = λ s p r bytes le e.
      elim (bind_err (f.read s p) (λ x. (g x.0).read s x.1 >>= λ y. Ok ((x.0, y.0), y.1)) r e) [
        | inl h ↦ inl (lf.refused s p r bytes le h)
        | inr u ↦
            let first = lf.takes s p u.0 bytes le u.1 in
            elim (bind_err ((g u.0.0).read s u.0.1) (λ y. Ok ((u.0.0, y.0), y.1)) r u.2) [
              | inl h ↦ inr (u.0.0, u.0.1, first, (lg u.0.0).refused s u.0.1 r bytes first.within h)
              | inr v ↦ absurd (let e = v.2 in cc)
            ]
      ];
  refuses = λ s p r le h.
      elim h [
        | inl h ↦ rw (lf.refuses s p r le h) refl
        | inr h ↦ rw (lf.again s p h.0 h.1 le h.2, (lg h.0).refuses s h.1 r h.2.within h.3) refl
      ];
  placed = λ s p r le h.
      elim h [
        | inl h ↦ lf.placed s p r le h
        | inr h ↦ (lg h.0).placed s h.1 r h.2.within h.3
      ];
}

-- ---- up to the end

pub rest_law : IsBody rest
unfolding rest
rest_law = record {
  takes = λ s p a bytes le e. let same : drop p s ≡ a = ok_is (drop p s) a e in record { fits = subst AreOctets same (AreOctets-drop p s bytes); parts = same };
  again = λ s p a le st. rw st.parts refl;
  refused = λ s p r bytes le e. absurd (cc);
  refuses = λ s p r le h. absurd h;
  placed = λ s p r le h. absurd h;
}

at_end_ok : (s : List ℕ) (p : ℕ) (u : Unit {0}) → at_end s p ≡ Ok u → length s ≤ p
unfolding at_end
at_end_ok s p u e = ltb-false _ _ (guard_ok (ltb p (length s)) (trailing p) (Ok tt) u e).0

at_end_err : (s : List ℕ) (p : ℕ) (r : Refusal) → at_end s p ≡ Err r → (p < length s) × (r ≡ trailing p)
unfolding at_end
at_end_err s p r e =
    elim (guard_err (ltb p (length s)) (trailing p) (Ok tt) r e) [
      | inl g ↦ (ltb-true _ _ g.0, g.1)
      | inr g ↦ absurd (let e = g.1 in cc)
    ]

none_left : (s : List ℕ) (p : ℕ) → length s ≤ p → at_end s p ≡ Ok tt
unfolding at_end
none_left s p le = let end : ltb p (length s) ≡ false = le-ltb _ _ le in rw end refl

some_left : (s : List ℕ) (p : ℕ) → p < length s → at_end s p ≡ Err (trailing p)
unfolding at_end
some_left s p lt = let long : ltb p (length s) ≡ true = lt-ltb _ _ lt in rw long refl

pub empty_law : IsBody empty
empty_law = record {
  takes = λ s p a bytes le e. record { fits = tt; parts = drop_all p s (at_end_ok s p a e) };
  again = λ s p a le st. none_left s p (let parts = st.parts in omega (arith, length-drop p s, ap length parts));
  refused = λ s p r bytes le e. at_end_err s p r e;
  refuses = λ s p r le h. rw h.1 (some_left s p h.0);
  placed = λ s p r le h. rw h.1 (refl, le);
}

pub nothing_law : IsBody nothing
nothing_law = record {
  takes = λ s p a bytes le e.
      let u = bind_ok (at_end s p) (λ _. Ok []) a e in
      let none : [] ≡ a = ok_is [] a u.2 in
      record { fits = sym none; parts = drop_all p s (at_end_ok s p u.0 u.1) ∙ none };
  again = λ s p a le st.
      let none : drop p s ≡ [] = st.parts ∙ st.fits in
      rw (none_left s p (omega (arith, length-drop p s, ap length none)), st.fits) refl;
  refused = λ s p r bytes le e.
      elim (bind_err (at_end s p) (λ _. Ok []) r e) [
        | inl h ↦ at_end_err s p r h
        | inr u ↦ absurd (let e = u.2 in cc)
      ];
  refuses = λ s p r le h. rw (some_left s p h.0, h.1) refl;
  placed = λ s p r le h. rw h.1 (refl, le);
}

pub then_body_law : {A B : Type 0} (f : Part A) (g : A → Body B) → IsPart f → ((a : A) → IsBody (g a)) → IsBody (f ▸ g)
then_body_law {A} {B} f g lf lg = record {
  takes = λ s p x bytes le e.
      let u = bind_ok (f.read s p) (λ x. (g x.0).read s x.1 >>= λ y. Ok (x.0, y)) x e in
      let v = bind_ok ((g u.0.0).read s u.0.1) (λ y. Ok (u.0.0, y)) x u.2 in
      let first = lf.takes s p u.0 bytes le u.1 in
      let second = (lg u.0.0).takes s u.0.1 v.0 bytes first.within v.1 in
      subst (λ (y : A × B). Fills (f ▸ g) s p y) (ok_is (u.0.0, v.0) x v.2) (record { fits = (first.fits, second.fits); parts = first.parts ∙ ap (λ (t : List ℕ). f.spell u.0.0 ++ t) second.parts });
  again = λ s p x le st.
      let second = behind s (f.spell x.0) ((g x.0).spell x.1) p st.parts in
      let size : p + length (f.spell x.0) ≤ length s = omega (arith, length-drop p s, ap length st.parts, length-append (f.spell x.0) ((g x.0).spell x.1)) in
      let first : Stands f s p x.0 (p + length (f.spell x.0)) = record { fits = st.fits.0; parts = st.parts ∙ ap (λ (t : List ℕ). f.spell x.0 ++ t) (sym second); ends = refl; within = size } in
      rw (lf.again s p x.0 (p + length (f.spell x.0)) le first, (lg x.0).again s (p + length (f.spell x.0)) x.1 size (record { fits = st.fits.1; parts = second })) refl;
  refused = λ s p r bytes le e.
      elim (bind_err (f.read s p) (λ x. (g x.0).read s x.1 >>= λ y. Ok (x.0, y)) r e) [
        | inl h ↦ inl (lf.refused s p r bytes le h)
        | inr u ↦
            let first = lf.takes s p u.0 bytes le u.1 in
            elim (bind_err ((g u.0.0).read s u.0.1) (λ y. Ok (u.0.0, y)) r u.2) [
              | inl h ↦ inr (u.0.0, u.0.1, first, (lg u.0.0).refused s u.0.1 r bytes first.within h)
              | inr v ↦ absurd (let e = v.2 in cc)
            ]
      ];
  refuses = λ s p r le h.
      elim h [
        | inl h ↦ rw (lf.refuses s p r le h) refl
        | inr h ↦ rw (lf.again s p h.0 h.1 le h.2, (lg h.0).refuses s h.1 r h.2.within h.3) refl
      ];
  placed = λ s p r le h.
      elim h [
        | inl h ↦ lf.placed s p r le h
        | inr h ↦ (lg h.0).placed s h.1 r h.2.within h.3
      ];
}

pub ended_law : {A : Type 0} (f : Part A) → IsPart f → IsBody (ended f)
ended_law {A} f lf = record {
  takes = λ s p a bytes le e.
      let u = bind_ok (f.read s p) (λ x. at_end s x.1 >>= λ _. Ok x.0) a e in
      let v = bind_ok (at_end s u.0.1) (λ _. Ok u.0.0) a u.2 in
      let st = lf.takes s p u.0 bytes le u.1 in
      let none : drop u.0.1 s ≡ [] = drop_all u.0.1 s (at_end_ok s u.0.1 v.0 v.1) in
      subst (λ (y : A). Fills (ended f) s p y) (ok_is u.0.0 a v.2) (record { fits = st.fits; parts = st.parts ∙ ap (λ (t : List ℕ). f.spell u.0.0 ++ t) none ∙ append-nil (f.spell u.0.0) });
  again = λ s p a le st.
      let none : drop (length s) s ≡ [] = drop_all (length s) s (omega arith) in
      let whole : Stands f s p a (length s) = record { fits = st.fits; parts = st.parts ∙ sym (append-nil (f.spell a)) ∙ ap (λ (t : List ℕ). f.spell a ++ t) (sym none); ends = omega (arith, length-drop p s, ap length st.parts); within = omega arith } in
      rw (lf.again s p a (length s) le whole, none_left s (length s) (omega arith)) refl;
  refused = λ s p r bytes le e.
      elim (bind_err (f.read s p) (λ x. at_end s x.1 >>= λ _. Ok x.0) r e) [
        | inl h ↦ inl (lf.refused s p r bytes le h)
        | inr u ↦
            let st = lf.takes s p u.0 bytes le u.1 in
            elim (bind_err (at_end s u.0.1) (λ _. Ok u.0.0) r u.2) [
              | inl h ↦ let h = at_end_err s u.0.1 r h in inr (u.0.0, u.0.1, st, h.0, h.1)
              | inr v ↦ absurd (let e = v.2 in cc)
            ]
      ];
  refuses = λ s p r le h.
      elim h [
        | inl h ↦ rw (lf.refuses s p r le h) refl
        | inr h ↦ rw (lf.again s p h.0 h.1 le h.2, some_left s h.1 h.3, h.4) refl
      ];
  placed = λ s p r le h.
      elim h [
        | inl h ↦ lf.placed s p r le h
        | inr h ↦ rw h.4 (refl, h.2.within)
      ];
}

pub if_law : {A : Type 0} (b : Bool) (f g : Body A) → IsBody f → IsBody g → IsBody (if_body b f g)
if_law true f g lf lg = lf
if_law false f g lf lg = lg

pub rest_if_law : (b : Bool) → IsBody (rest_if b)
rest_if_law b = if_law b rest nothing rest_law nothing_law

pub spell_rest_if : (b : Bool) (v : List ℕ) → (rest_if b).spell v ≡ v
unfolding rest
spell_rest_if true v = refl
spell_rest_if false v = refl

-- ---- seen as another type

pub typed_law : {A B : Type 0} (f : Part A) (to : A → B) (from : B → A) (fits : B → Type 0) → IsPart f → ((x : A) → f.Fits x → fits (to x) × (from (to x) ≡ x)) → ((y : B) → fits y → f.Fits (from y) × (to (from y) ≡ y)) → IsPart (part_typed f to from fits)
typed_law {A} {B} f to from fits lf back forth = record {
  takes = λ s p y bytes le e.
      let u = bind_ok (f.read s p) (λ x. Ok (to x.0, x.1)) y e in
      let st = lf.takes s p u.0 bytes le u.1 in
      let b = back u.0.0 st.fits in
      subst (λ (z : B × ℕ). Stands (part_typed f to from fits) s p z.0 z.1) (ok_is (to u.0.0, u.0.1) y u.2) (record { fits = b.0; parts = rw b.1 st.parts; ends = rw b.1 st.ends; within = st.within });
  again = λ s p y q le st.
      let b = forth y st.fits in
      let inner : Stands f s p (from y) q = record { fits = b.0; parts = st.parts; ends = st.ends; within = st.within } in
      rw (lf.again s p (from y) q le inner, b.1) refl;
  refused = λ s p r bytes le e.
      elim (bind_err (f.read s p) (λ x. Ok (to x.0, x.1)) r e) [
        | inl h ↦ lf.refused s p r bytes le h
        | inr u ↦ absurd (let e = u.2 in cc)
      ];
  refuses = λ s p r le h. rw (lf.refuses s p r le h) refl;
  placed = λ s p r le h. lf.placed s p r le h;
}

pub part_as_law : {A B : Type 0} (f : Part A) (to : A → B) (from : B → A) → IsPart f → ((x : A) → f.Fits x → from (to x) ≡ x) → ((y : B) → to (from y) ≡ y) → IsPart (part_as f to from)
part_as_law f to from lf back forth = typed_law f to from (λ y. f.Fits (from y)) lf (λ x fits. (rw (back x fits) fits, back x fits)) (λ y fits. (fits, forth y))

pub body_as_law : {A B : Type 0} (f : Body A) (to : A → B) (from : B → A) → IsBody f → ((x : A) → f.Fits x → from (to x) ≡ x) → ((y : B) → to (from y) ≡ y) → IsBody (body_as f to from)
body_as_law {A} {B} f to from lf back forth = record {
  takes = λ s p y bytes le e.
      let u = bind_ok (f.read s p) (λ x. Ok (to x)) y e in
      let st = lf.takes s p u.0 bytes le u.1 in
      subst (λ (z : B). Fills (body_as f to from) s p z) (ok_is (to u.0) y u.2) (record { fits = rw (back u.0 st.fits) st.fits; parts = rw (back u.0 st.fits) st.parts });
  again = λ s p y le st. rw (lf.again s p (from y) le (record { fits = st.fits; parts = st.parts }), forth y) refl;
  refused = λ s p r bytes le e.
      elim (bind_err (f.read s p) (λ x. Ok (to x)) r e) [
        | inl h ↦ lf.refused s p r bytes le h
        | inr u ↦ absurd (let e = u.2 in cc)
      ];
  refuses = λ s p r le h. rw (lf.refuses s p r le h) refl;
  placed = λ s p r le h. lf.placed s p r le h;
}

case_fills : {A B : Type 0} (f : Body A) (make : A → B) (case_of : B → Option A) (s : List ℕ) (p : ℕ) (m : B) (o : Option A) → case_of m ≡ o → IsSomeAnd o f.Fits → drop p s ≡ spell_case f.spell o → (a : A) × (case_of m ≡ Some a) × Fills f s p a
case_fills f make case_of s p m None e fits parts = absurd fits
case_fills f make case_of s p m (Some a) e fits parts = (a, e, record { fits = fits; parts = parts })

pub case_law : {A B : Type 0} (f : Body A) (make : A → B) (case_of : B → Option A) → IsBody f → ((x : A) → case_of (make x) ≡ Some x) → ((m : B) (x : A) → case_of m ≡ Some x → make x ≡ m) → IsBody (body_case f make case_of)
case_law {A} {B} f make case_of lf back forth = record {
  takes = λ s p m bytes le e.
      let u = bind_ok (f.read s p) (λ x. Ok (make x)) m e in
      let st = lf.takes s p u.0 bytes le u.1 in
      subst (λ (z : B). Fills (body_case f make case_of) s p z) (ok_is (make u.0) m u.2) (record { fits = rw (back u.0) st.fits; parts = rw (back u.0) st.parts });
  again = λ s p m le st.
      let i = case_fills f make case_of s p m (case_of m) refl st.fits st.parts in
      rw (lf.again s p i.0 le i.2, forth m i.0 i.1) refl;
  refused = λ s p r bytes le e.
      elim (bind_err (f.read s p) (λ x. Ok (make x)) r e) [
        | inl h ↦ lf.refused s p r bytes le h
        | inr u ↦ absurd (let e = u.2 in cc)
      ];
  refuses = λ s p r le h. rw (lf.refuses s p r le h) refl;
  placed = λ s p r le h. lf.placed s p r le h;
}

-- ---- a choice

-- what holds of both of two values, each where it is chosen, holds of the choice
pub choice : {B : Type 0} (P : B → Type 0) (b : Bool) (y z : B) → (b ≡ true → P y) → (b ≡ false → P z) → P (cond b y z)
choice P true y z h k = h refl
choice P false y z h k = k refl
