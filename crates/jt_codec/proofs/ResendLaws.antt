-- The law of requests to send packets again.
use Rattle.std.proofs.Common.{◌≡◌, ℕ, ◌+◌, ◌*◌, ◌%◌, ◌≤◌, Bool, true, false, cond, ltb, eqb, inl, inr, List, [], ◌∷◌, length, get_or, drop, Option, Some, None, Result, Ok, Err, refl, sym, ap, subst, ◌∙◌, arith}
use Rattle.std.specs.Prelude.{◌&&◌, ◌⊎◌}
use Rattle.std.specs.List.{flat_map}
use Rattle.std.proofs.lemmas.Bool.{le-ltb, ltb-false, eqb-true, eqb-false, eq-eqb, ne_eqb}
use Rattle.std.proofs.lemmas.List.{length-drop}
use Rattle.jt_value.specs.declared.phone.Edition.{Edition}
use Rattle.jt_value.specs.declared.phone.Edition.TheVariants.{E2013, E2019}
use Rattle.jt_value.specs.declared.refusal.Refusal.{Refusal}
use Rattle.jt_layout.specs.Answer.{IsPlaced}
use Rattle.jt_layout.specs.Layout.{Fills, Stands, ◌>>=◌, number, byte, word, truncated, bad_count, unless}
use Rattle.jt_layout.proofs.Laws.{IsPart, IsBody, bind_ok, bind_err, ok_is, byte_law, word_law, then_law, ended_law}
use Rattle.jt_layout.proofs.Repeats.{counted_law}
use Rattle.jt_codec.specs.Editions.{is_2013}
use Rattle.jt_codec.specs.Resend.{count, numbered, HasWidth, is_wide, count_in, size, reason, resend_with, resend}
use Rattle.jt_codec.specs.declared.resend.Resend.{Resend}

some_is : (c r : Refusal) → Some c ≡ Some r → c ≡ r
some_is c r e = cc

words_long : (ns : List ℕ) → length (flat_map word.spell ns) ≡ 2 * length ns
unfolding number
words_long [] = refl
words_long (n ∷ ns) = omega (arith, words_long ns)

count_law : (wide : Bool) → IsPart (count wide)
count_law false = byte_law
count_law true = word_law

numbered_law : (wide : Bool) → IsBody (numbered wide)
numbered_law wide = ended_law _ (then_law _ _ word_law (λ _. counted_law _ _ (count_law wide) word_law))

-- ---- what the test finds

passed : (b : Bool) (r : Refusal) (o : Option Refusal) → cond b (Some r) o ≡ None → (b ≡ false) × (o ≡ None)
passed true r o e = absurd cc
passed false r o e = (refl, e)

met : (b : Bool) (r : Refusal) → cond b None (Some r) ≡ None → b ≡ true
met true r e = refl
met false r e = absurd cc

-- octets that no reason is against
record Sound (wide : Bool) (v : List ℕ) : Type 0 where
  long : 3 ≤ length v
  exact : length v ≡ size wide (count_in wide v)

abbrev last : Edition → List ℕ → Option Refusal
last e v = cond (eqb (length v) (size (is_wide e (length v)) (count_in (is_wide e (length v)) v))) None (Some (bad_count 2))

sound : (e : Edition) (v : List ℕ) → reason e v ≡ None → Sound (is_wide e (length v)) v
unfolding reason
sound e v none =
    let even : Bool = is_2013 e && eqb (length v % 2) 0 in
    let a = passed (ltb (length v) 2) (truncated 0) (cond (eqb (length v) 2) (Some (truncated 2)) (cond even (Some (bad_count 2)) (last e v))) none in
    let b = passed (eqb (length v) 2) (truncated 2) (cond even (Some (bad_count 2)) (last e v)) a.1 in
    let c = passed even (bad_count 2) (last e v) b.1 in
    let exact = eqb-true _ _ (met (eqb (length v) (size (is_wide e (length v)) (count_in (is_wide e (length v)) v))) (bad_count 2) c.1) in
    record { long = omega (arith, ltb-false _ _ a.0, eqb-false (length v) 2 b.0); exact = exact }

-- in 2013 the count has one octet, and so the length is odd
odd : (e : Edition) (v : List ℕ) (wide : Bool) → HasWidth e wide → length v ≡ size wide (count_in wide v) → (is_2013 e && eqb (length v % 2) 0) ≡ false
odd E2013 v false has exact = ne_eqb _ _ (λ h. omega (arith, h, exact))
odd E2013 v true has exact = absurd cc
odd E2019 v wide has exact = refl

silent : (e : Edition) (v : List ℕ) (wide : Bool) → HasWidth e wide → is_wide e (length v) ≡ wide → Sound wide v → reason e v ≡ None
unfolding reason
silent e v wide has width s =
    let short : ltb (length v) 2 ≡ false = le-ltb _ _ (omega (arith, s.long)) in
    let two : eqb (length v) 2 ≡ false = ne_eqb _ _ (λ h. omega (arith, h, s.long)) in
    let exact : eqb (length v) (size wide (count_in wide v)) ≡ true = eq-eqb _ _ s.exact in
    rw (short, two, odd e v wide has s.exact, width, exact) refl

-- ---- what a value has

long_is : (wide : Bool) (first : ℕ) (ns : List ℕ) → length ((numbered wide).spell (first, ns)) ≡ size wide (length ns)
unfolding number
long_is false first ns = omega (arith, words_long ns)
long_is true first ns = omega (arith, words_long ns)

count_is : (wide : Bool) (first : ℕ) (ns : List ℕ) → (numbered wide).Fits (first, ns) → count_in wide ((numbered wide).spell (first, ns)) ≡ length ns
unfolding number
count_is false first ns fits = omega (arith, fits.1.0)
count_is true first ns fits = omega (arith, fits.1.0)

three : (wide : Bool) (n : ℕ) → 3 ≤ size wide n
three false n = omega arith
three true n = omega arith

is_sound : (wide : Bool) (first : ℕ) (ns : List ℕ) → (numbered wide).Fits (first, ns) → Sound wide ((numbered wide).spell (first, ns))
is_sound wide first ns fits = record {
  long = omega (arith, long_is wide first ns, three wide (length ns));
  exact = long_is wide first ns ∙ ap (size wide) (sym (count_is wide first ns fits));
}

-- the length tells how wide the count is
width_is : (e : Edition) (wide : Bool) (n len : ℕ) → HasWidth e wide → len ≡ size wide n → is_wide e len ≡ wide
width_is E2013 wide n len has is = sym has
width_is E2019 false n len has is = ne_eqb _ _ (λ h. omega (arith, h, is))
width_is E2019 true n len has is = eq-eqb _ _ (omega (arith, is))

has_width : (e : Edition) (len : ℕ) → HasWidth e (is_wide e len)
has_width E2013 len = refl
has_width E2019 len = tt

-- ---- where no reason is against octets, they are a value

narrow_count : (s : List ℕ) (p a q n r : ℕ) → Stands word s p a q → Stands byte s q n r → get_or (drop p s) 2 0 ≡ n
unfolding number
narrow_count s p a q n r x y =
    let fits = y.fits in
    let small : n % 256 ≡ n = omega arith in
    ap (λ (t : List ℕ). get_or t 2 0) x.parts ∙ ap (λ (t : List ℕ). get_or t 0 0) y.parts ∙ small

wide_count : (s : List ℕ) (p a q n r : ℕ) → Stands word s p a q → Stands word s q n r → get_or (drop p s) 2 0 * 256 + get_or (drop p s) 3 0 ≡ n
unfolding number
wide_count s p a q n r x y =
    let fits = y.fits in
    let high = ap (λ (t : List ℕ). get_or t 2 0) x.parts ∙ ap (λ (t : List ℕ). get_or t 0 0) y.parts in
    let low = ap (λ (t : List ℕ). get_or t 3 0) x.parts ∙ ap (λ (t : List ℕ). get_or t 1 0) y.parts in
    omega (arith, high, low, fits)

narrow_complete : (s : List ℕ) (p : ℕ) (r : Refusal) → p ≤ length s → Sound false (drop p s) → (numbered false).Refuses s p r → ⊥
unfolding number
narrow_complete s p r le ok h =
    let long = ok.long in
    let exact = ok.exact in
    let all = length-drop p s in
    elim h [
      | inl h ↦
          elim h [
            | inl h ↦ let short = h.0 in absurd (omega arith)
            | inr h ↦
                let x = h.2 in
                let e1 = x.ends in
                elim h.3 [
                  | inl h ↦ let short = h.0 in absurd (omega arith)
                  | inr k ↦
                      let y = k.2 in
                      let e2 = y.ends in
                      let z = k.3.2 in
                      let e3 = z.ends in
                      let few = k.3.3 in
                      let short = k.3.4.0 in
                      absurd (omega (arith, narrow_count s p h.0 h.1 k.0 k.1 x y, words_long k.3.0))
                ]
          ]
      | inr h ↦
          let x = h.2 in
          let e1 = x.ends in
          let parts = x.parts in
          let left = h.3 in
          let fits = x.fits.1.0 in
          let here : get_or (drop p s) 2 0 ≡ length h.0.1 % 256 = ap (λ (t : List ℕ). get_or t 2 0) parts in
          absurd (omega (arith, here, words_long h.0.1))
    ]

wide_complete : (s : List ℕ) (p : ℕ) (r : Refusal) → p ≤ length s → Sound true (drop p s) → (numbered true).Refuses s p r → ⊥
unfolding number
wide_complete s p r le ok h =
    let exact = ok.exact in
    let all = length-drop p s in
    elim h [
      | inl h ↦
          elim h [
            | inl h ↦ let short = h.0 in absurd (omega arith)
            | inr h ↦
                let x = h.2 in
                let e1 = x.ends in
                elim h.3 [
                  | inl h ↦ let short = h.0 in absurd (omega arith)
                  | inr k ↦
                      let y = k.2 in
                      let e2 = y.ends in
                      let z = k.3.2 in
                      let e3 = z.ends in
                      let few = k.3.3 in
                      let short = k.3.4.0 in
                      absurd (omega (arith, wide_count s p h.0 h.1 k.0 k.1 x y, words_long k.3.0))
                ]
          ]
      | inr h ↦
          let x = h.2 in
          let e1 = x.ends in
          let parts = x.parts in
          let left = h.3 in
          let fits = x.fits.1.0 in
          let high = ap (λ (t : List ℕ). get_or t 2 0) parts in
          let low = ap (λ (t : List ℕ). get_or t 3 0) parts in
          absurd (omega (arith, high, low, words_long h.0.1))
    ]

complete : (wide : Bool) (s : List ℕ) (p : ℕ) (r : Refusal) → p ≤ length s → Sound wide (drop p s) → (numbered wide).Refuses s p r → ⊥
complete false s p r le ok h = narrow_complete s p r le ok h
complete true s p r le ok h = wide_complete s p r le ok h

-- ---- where a reason stands

here : (s : List ℕ) (c r : Refusal) → Some c ≡ Some r → IsPlaced s c → IsPlaced s r
here s c r e is = subst (IsPlaced s) (some_is c r e) is

either_placed : (b : Bool) (s : List ℕ) (c r : Refusal) (o : Option Refusal) → cond b (Some c) o ≡ Some r → (b ≡ true → IsPlaced s c) → (b ≡ false → o ≡ Some r → IsPlaced s r) → IsPlaced s r
either_placed true s c r o e first other = here s c r e (first refl)
either_placed false s c r o e first other = other refl e

last_placed : (b : Bool) (s : List ℕ) (c r : Refusal) → cond b None (Some c) ≡ Some r → IsPlaced s c → IsPlaced s r
last_placed true s c r e is = absurd cc
last_placed false s c r e is = here s c r e is

placed : (e : Edition) (s : List ℕ) (p : ℕ) (r : Refusal) → p ≤ length s → reason e (drop p s) ≡ Some r → IsPlaced s r
unfolding reason
placed e s p r le is =
    let v = drop p s in
    let all = length-drop p s in
    let even : Bool = is_2013 e && eqb (length (drop p s) % 2) 0 in
    either_placed (ltb (length (drop p s)) 2) s (truncated 0) r (cond (eqb (length (drop p s)) 2) (Some (truncated 2)) (cond even (Some (bad_count 2)) (last e (drop p s)))) is (λ _. (refl, omega arith))
    (λ long is. either_placed (eqb (length (drop p s)) 2) s (truncated 2) r (cond even (Some (bad_count 2)) (last e (drop p s))) is (λ _. (refl, omega (arith, ltb-false _ _ long, all)))
    (λ _ is. either_placed even s (bad_count 2) r (last e (drop p s)) is (λ _. (refl, omega (arith, ltb-false _ _ long, all)))
    (λ _ is. last_placed (eqb (length (drop p s)) (size (is_wide e (length (drop p s))) (count_in (is_wide e (length (drop p s))) (drop p s)))) s (bad_count 2) r is (refl, omega (arith, ltb-false _ _ long, all)))))

-- ---- the law

unless_ok : (o : Option Refusal) (r : Result Resend Refusal) (a : Resend) → unless o r ≡ Ok a → (o ≡ None) × (r ≡ Ok a)
unless_ok None r a e = (refl, e)
unless_ok (Some d) r a e = absurd cc

unless_err : (o : Option Refusal) (r : Result Resend Refusal) (d : Refusal) → unless o r ≡ Err d → (o ≡ Some d) ⊎ ((o ≡ None) × (r ≡ Err d))
unless_err None r d e = inr (refl, e)
unless_err (Some c) r d e = inl cc

reading : (o : Option Refusal) (wide : Bool) (a : Resend) (s : List ℕ) (p : ℕ) → o ≡ None → wide ≡ a.wide → (numbered a.wide).read s p ≡ Ok (a.first, a.numbers)
    → unless o ((numbered wide).read s p >>= λ x. Ok (resend_with wide x)) ≡ Ok a
reading o wide a s p none width e = rw (none, width, e) refl

pub resend_law : (edition : Edition) → IsBody (resend edition)
unfolding resend
resend_law e = record {
  takes = λ s p a bytes le is.
      let wide = is_wide e (length (drop p s)) in
      let u = unless_ok (reason e (drop p s)) ((numbered wide).read s p >>= λ x. Ok (resend_with wide x)) a is in
      let b = bind_ok ((numbered wide).read s p) (λ x. Ok (resend_with wide x)) a u.1 in
      let st = (numbered_law wide).takes s p b.0 bytes le b.1 in
      subst (λ (z : Resend). Fills (resend e) s p z) (ok_is (resend_with wide b.0) a b.2) (record { fits = (has_width e (length (drop p s)), st.fits); parts = st.parts });
  again = λ s p a le st.
      let size_is = ap length st.parts ∙ long_is a.wide a.first a.numbers in
      let width = width_is e a.wide (length a.numbers) (length (drop p s)) st.fits.0 size_is in
      let ok : Sound a.wide (drop p s) = subst (Sound a.wide) (sym st.parts) (is_sound a.wide a.first a.numbers st.fits.1) in
      reading (reason e (drop p s)) (is_wide e (length (drop p s))) a s p (silent e (drop p s) a.wide st.fits.0 width ok) width
      ((numbered_law a.wide).again s p (a.first, a.numbers) le (record { fits = st.fits.1; parts = st.parts }));
  refused = λ s p r bytes le is.
      let wide = is_wide e (length (drop p s)) in
      elim (unless_err (reason e (drop p s)) ((numbered wide).read s p >>= λ x. Ok (resend_with wide x)) r is) [
        | inl h ↦ h
        | inr h ↦
            elim (bind_err ((numbered wide).read s p) (λ x. Ok (resend_with wide x)) r h.1) [
              | inl k ↦ absurd (complete wide s p r le (sound e (drop p s) h.0) ((numbered_law wide).refused s p r bytes le k))
              | inr u ↦ absurd (let is = u.2 in cc)
            ]
      ];
  refuses = λ s p r le h. rw h refl;
  placed = λ s p r le h. placed e s p r le h;
}
