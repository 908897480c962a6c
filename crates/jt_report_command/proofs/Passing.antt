-- Options are passed one after the other.
use Rattle.std.proofs.Common.{inl, inr, Bool, true, false, not, if◌then◌else◌, refl, codes, ◌∷◌, ◌≡◌, ◌++◌, ◌+◌, ◌-◌, ◌<◌, ◌≤◌, ℕ, List, [], length, map, take, drop, sym, ap, subst, ◌∙◌, arith, append-nil, append_assoc}
use Rattle.std.proofs.lemmas.List.{take_all, drop_all, drop-drop, length-drop}
use Rattle.std.specs.Str.{bytes_eq}
use Rattle.jt_words.specs.OptionWords.{IsOption}
use Rattle.jt_report_command.specs.Options.{BeginWith, AreOptions, values_of}
use Rattle.jt_report_command.specs.Finding.{AreSome, Have, BeginsOne, BeginWithNone, Steps, HasPassed, HasTooMany}

-- the words begin with no option of this name
abbrev pub Lack : List ℕ → List (List ℕ) → Type 0
Lack name words = (option : List ℕ × List ℕ) (back : List (List ℕ)) → BeginWith option words back → option.0 ≡ name → ⊥

-- words that begin with no option of each name begin with none
pub none_known : (words : List (List ℕ)) → Lack (codes "host") words → Lack (codes "port") words → Lack (codes "phone") words → Lack (codes "plate") words
    → Lack (codes "terminal") words → Lack (codes "tries") words → Lack (codes "edition") words → BeginWithNone words
none_known words host port phone plate terminal tries edition option back b = elim b.known as (λ k. ⊥) [
  | inl e ↦ host option back b e
  | inr k ↦ elim k as (λ k. ⊥) [
    | inl e ↦ port option back b e
    | inr k ↦ elim k as (λ k. ⊥) [
      | inl e ↦ phone option back b e
      | inr k ↦ elim k as (λ k. ⊥) [
        | inl e ↦ plate option back b e
        | inr k ↦ elim k as (λ k. ⊥) [
          | inl e ↦ terminal option back b e
          | inr k ↦ elim k as (λ k. ⊥) [
            | inl e ↦ tries option back b e
            | inr e ↦ edition option back b e
          ]
        ]
      ]
    ]
  ]
]

-- values of options, one behind the other
put_more : (test : Bool) (value : List ℕ) (all front back : List (List ℕ)) → all ≡ front ++ back
    → (if test then value ∷ all else all) ≡ (if test then value ∷ front else front) ++ back
put_more true value all front back e = ap (λ (vs : List (List ℕ)). value ∷ vs) e
put_more false value all front back e = e

values_more : (name : List ℕ) (options more : List (List ℕ × List ℕ)) → values_of name (options ++ more) ≡ values_of name options ++ values_of name more
values_more name [] more = refl
values_more name (option ∷ options) more =
    put_more (bytes_eq option.0 name) option.1 (values_of name (options ++ more)) (values_of name options) (values_of name more) (values_more name options more)

-- no words are no options
no_front : (name value : List ℕ) (front back : List (List ℕ)) → IsOption name value front → [] ≡ front ++ back → ⊥
no_front name value front back (inl one) whole = let e = ap (λ (ws : List (List ℕ)). ws ++ back) one in cc (e, whole)
no_front name value front back (inr two) whole = let e = ap (λ (ws : List (List ℕ)). ws ++ back) two in cc (e, whole)

no_option : (option : List ℕ × List ℕ) (words back : List (List ℕ)) → BeginWith option words back → words ≡ [] → ⊥
no_option option words back b none = no_front option.0 option.1 b.front back b.written (sym none ∙ b.whole)

none_empty : (options : List (List ℕ × List ℕ)) (words : List (List ℕ)) → AreOptions options words → words ≡ [] → options ≡ []
none_empty [] words are none = refl
none_empty (option ∷ options) words are none = absurd (no_option option words are.0 are.1 none)

-- the options of words that begin with one
behind : (option : List ℕ × List ℕ) (left now : List (List ℕ)) (options : List (List ℕ × List ℕ)) → BeginsOne option left now → AreOptions options left
    → (more : List (List ℕ × List ℕ)) × (options ≡ option ∷ more) × AreOptions more now
behind option left now [] one are = absurd (no_option option left now one.begins are)
behind option left now (other ∷ more) one are =
    let e = one.only other are.0 are.1 in
    (more, ap (λ (o : List ℕ × List ℕ). o ∷ more) e.0, subst (λ (ws : List (List ℕ)). AreOptions more ws) e.1 are.2)

-- nothing is passed yet
pub begins : (name : List ℕ) (words : List (List ℕ)) → HasPassed name words words []
begins name words = record { passed = []; on = λ more are. are; each = λ options are. (options, refl, are); found = refl }

-- one option is passed
pub goes_on : (name : List ℕ) (words left now values values_now : List (List ℕ)) → HasPassed name words left values → Steps name left values now values_now
    → HasPassed name words now values_now
goes_on name words left now values values_now h s = record {
  passed = h.passed ++ s.option ∷ [];
  on = λ more are. subst (λ (os : List (List ℕ × List ℕ)). AreOptions os words) (sym (append_assoc h.passed (s.option ∷ []) more))
      (h.on (s.option ∷ more) (now, s.begins.begins, are));
  each = λ options are.
      let e = h.each options are in
      let k = behind s.option left now e.0 s.begins e.2 in
      (k.0, e.1 ∙ ap (λ (os : List (List ℕ × List ℕ)). h.passed ++ os) k.1 ∙ sym (append_assoc h.passed (s.option ∷ []) k.0), k.2);
  found = values_more name h.passed (s.option ∷ []) ∙ ap (λ (vs : List (List ℕ)). vs ++ values_of name (s.option ∷ [])) h.found ∙ sym s.values;
}

-- all are passed
pub some_at_end : (name : List ℕ) (words left values : List (List ℕ)) → HasPassed name words left values → left ≡ [] → AreSome words
some_at_end name words left values h none = (h.passed ++ [], h.on [] none)

pub have_at_end : (name : List ℕ) (words left values : List (List ℕ)) → HasPassed name words left values → left ≡ [] → Have name words values
have_at_end name words left values h none = λ options are.
    let e = h.each options are in
    let last : e.0 ≡ [] = none_empty e.0 left e.2 none in
    let all : options ≡ h.passed = e.1 ∙ ap (λ (os : List (List ℕ × List ℕ)). h.passed ++ os) last ∙ append-nil h.passed in
    ap (λ (os : List (List ℕ × List ℕ)). values_of name os) all ∙ h.found

-- there are too many from here on, and so there are in all
pub too_many : (name : List ℕ) (words left values : List (List ℕ)) → HasPassed name words left values → HasTooMany name left values → HasTooMany name words []
too_many name words left values h many = λ options are.
    let e = h.each options are in
    let all : values_of name options ≡ values ++ values_of name e.0 =
    ap (λ (os : List (List ℕ × List ℕ)). values_of name os) e.1 ∙ values_more name h.passed e.0 ∙ ap (λ (vs : List (List ℕ)). vs ++ values_of name e.0) h.found in
    subst (λ (vs : List (List ℕ)). 1 < length vs) (sym all) (many e.0 e.2)

-- words that are no options
many_of_none_at : (name : List ℕ) (words values : List (List ℕ)) (options : List (List ℕ × List ℕ)) → 0 < length words → BeginWithNone words → AreOptions options words
    → 1 < length (values ++ values_of name options)
many_of_none_at name words values [] some none are = absurd (let e : length words ≡ 0 = ap length are in omega arith)
many_of_none_at name words values (option ∷ options) some none are = absurd (none option are.0 are.1)

pub many_of_none : (name : List ℕ) (words values : List (List ℕ)) → 0 < length words → BeginWithNone words → HasTooMany name words values
many_of_none name words values some none = λ options are. many_of_none_at name words values options some none are

-- a second option of the name
second_at : (name : List ℕ) (option : List ℕ × List ℕ) (words now : List (List ℕ)) (value : List ℕ) → BeginsOne option words now → bytes_eq option.0 name ≡ true
    → (options : List (List ℕ × List ℕ)) → AreOptions options words → 1 < length ((value ∷ []) ++ values_of name options)
second_at name option words now value one is options are =
    let k = behind option words now options one are in
    let two : values_of name (option ∷ k.0) ≡ option.1 ∷ values_of name k.0 = rw is refl in
    let all : values_of name options ≡ option.1 ∷ values_of name k.0 = ap (λ (os : List (List ℕ × List ℕ)). values_of name os) k.1 ∙ two in
    let long = ap (λ (vs : List (List ℕ)). length ((value ∷ []) ++ vs)) all in omega (arith, long)

pub two_values : (name : List ℕ) (option : List ℕ × List ℕ) (words now : List (List ℕ)) (value : List ℕ) → BeginsOne option words now → bytes_eq option.0 name ≡ true
    → HasTooMany name words (value ∷ [])
two_values name option words now value one is = λ options are. second_at name option words now value one is options are

-- all that is left from a place on
rest_is : {X : Type 0} (xs : List X) (from : ℕ) → take (length xs - from) (drop from xs) ≡ drop from xs
rest_is xs from = take_all (length xs - from) (drop from xs) (omega (arith, length-drop from xs))

pub goes_on_from : {X : Type 0} (f : X → List ℕ) (xs : List X) (from count : ℕ) (name : List ℕ) (values values_now : List (List ℕ))
    → HasPassed name (map f xs) (map f (drop from xs)) values
    → Steps name (map f (take (length xs - from) (drop from xs))) values (map f (drop count (take (length xs - from) (drop from xs)))) values_now
    → HasPassed name (map f xs) (map f (drop (from + count) xs)) values_now
goes_on_from {X = X} f xs from count name values values_now h s =
    let here = subst (λ (ys : List X). Steps name (map f ys) values (map f (drop count ys)) values_now) (rest_is xs from) s in
    let there = subst (λ (ys : List X). Steps name (map f (drop from xs)) values (map f ys) values_now) (drop-drop count from xs) here in
    goes_on name (map f xs) (map f (drop from xs)) (map f (drop (from + count) xs)) values values_now h there

pub within : {X : Type 0} (xs : List X) (from count : ℕ) → from ≤ length xs → count ≤ length (take (length xs - from) (drop from xs)) → from + count ≤ length xs
within {X = X} xs from count inside few =
    let here : count ≤ length (drop from xs) = subst (λ (ys : List X). count ≤ length ys) (rest_is xs from) few in omega (arith, length-drop from xs)

pub too_many_from : {X : Type 0} (f : X → List ℕ) (xs : List X) (from : ℕ) (name : List ℕ) (values : List (List ℕ))
    → HasPassed name (map f xs) (map f (drop from xs)) values → HasTooMany name (map f (take (length xs - from) (drop from xs))) values
    → HasTooMany name (map f xs) []
too_many_from {X = X} f xs from name values h many =
    too_many name (map f xs) (map f (drop from xs)) values h (subst (λ (ys : List X). HasTooMany name (map f ys) values) (rest_is xs from) many)

pub none_left : {X : Type 0} (f : X → List ℕ) (xs : List X) (from : ℕ) → length xs ≤ from → map f (drop from xs) ≡ []
none_left {X = X} f xs from past = ap (λ (ys : List X). map f ys) (drop_all from xs past)

-- what a failed test of difference says
pub equal_at : (test : Bool) → false ≡ not test → test ≡ true
equal_at true e = refl
equal_at false e = absurd (cc e)
