-- A field keeps a line a line.
use Rattle.std.specs.Prelude.{◌==◌, nat_lt, nat_le, if◌then◌else◌}
use Rattle.std.proofs.Common.{◌≡◌, ℕ, ◌+◌, ◌/◌, ◌%◌, ◌<◌, ◌≤◌, Bool, true, false, List, [], ◌∷◌, ◌++◌, map, refl, ap, sym, ◌∙◌, arith}
use Rattle.std.specs.List.{flat_map}
use Rattle.std.proofs.lemmas.Bool.{ne_eqb, ltb-true, ltb-false, le-leb}
use Rattle.dewfelt_log.specs.Logfmt.{Stand, Before, InKey, AtValue, InBare, InQuotes, Escaped, Behind, Between, Lost, step, begin_key, end_value, after, is_letter, letter, is_bare, digit, escaped, all_bare, is_empty, shown, key_text, field, are_fields, ends_field, AreLines}

pub after_append : (s : Stand) (xs ys : List ℕ) → after s (xs ++ ys) ≡ after (after s xs) ys
after_append s [] ys = refl
after_append s (x ∷ xs) ys = after_append (step s x) xs ys

letter_is : (o : ℕ) → is_letter (letter o) ≡ true
letter_is o = elim (is_letter o) as (λ b. b ≡ is_letter o → is_letter (if b then o else 95) ≡ true) [ true ↦ λ e. sym e | false ↦ λ e. refl ] refl

in_key : (o : ℕ) → step InKey (letter o) ≡ InKey
in_key o = ap (λ (b : Bool). if b then InKey else if letter o == 61 then AtValue else Lost) (letter_is o)

at_key : (o : ℕ) → begin_key (letter o) ≡ InKey
at_key o = ap (λ (b : Bool). if b then InKey else Lost) (letter_is o)

letters_after : (os : List ℕ) → after InKey (map letter os) ≡ InKey
letters_after [] = refl
letters_after (o ∷ os) = ap (λ s. after s (map letter os)) (in_key o) ∙ letters_after os

key_before : (key : List ℕ) → after Before (key_text key) ≡ InKey
key_before [] = refl
key_before (o ∷ os) = ap (λ s. after s (map letter os)) (at_key o) ∙ letters_after os

key_between : (key : List ℕ) → after Between (key_text key) ≡ InKey
key_between [] = refl
key_between (o ∷ os) = ap (λ s. after s (map letter os)) (at_key o) ∙ letters_after os

bare_case : (b : Bool) (o : ℕ) (os : List ℕ) → (if b then all_bare os else false) ≡ true → (all_bare os ≡ true → after InBare os ≡ InBare)
    → after (if b then InBare else end_value o) os ≡ InBare
bare_case true o os h next = next h
bare_case false o os h next = absurd (cc h)

bare_after : (os : List ℕ) → all_bare os ≡ true → after InBare os ≡ InBare
bare_after [] h = refl
bare_after (o ∷ os) h = bare_case (is_bare o) o os h (bare_after os)

plain_step : (a b c : Bool) → a ≡ false → b ≡ false → c ≡ true → (if a then Behind else if b then Escaped else if c then InQuotes else Lost) ≡ InQuotes
plain_step true b c ha hb hc = absurd (cc ha)
plain_step false true c ha hb hc = absurd (cc hb)
plain_step false false false ha hb hc = absurd (cc hc)
plain_step false false true ha hb hc = refl

quiet_step : (o : ℕ) → (o ≡ 34 → ⊥) → (o ≡ 92 → ⊥) → 32 ≤ o → step InQuotes o ≡ InQuotes
quiet_step o quote back low = plain_step (o == 34) (o == 92) (nat_le 32 o) (ne_eqb o 34 quote) (ne_eqb o 92 back) (le-leb 32 o low)

low_digit : (n : ℕ) → n < 10 → step InQuotes (48 + n) ≡ InQuotes
low_digit n less = quiet_step (48 + n) (λ e. omega arith) (λ e. omega arith) (omega arith)

high_digit : (n : ℕ) → 10 ≤ n → step InQuotes (87 + n) ≡ InQuotes
high_digit n least = quiet_step (87 + n) (λ e. omega arith) (λ e. omega arith) (omega arith)

digit_step : (n : ℕ) → step InQuotes (digit n) ≡ InQuotes
digit_step n = elim (nat_lt n 10) as (λ b. nat_lt n 10 ≡ b → step InQuotes (if b then 48 + n else 87 + n) ≡ InQuotes) [
  | true ↦ λ h. low_digit n (ltb-true n 10 h)
  | false ↦ λ h. high_digit n (ltb-false n 10 h)
] refl

digits_after : (m n : ℕ) → after InQuotes (92 ∷ 120 ∷ digit m ∷ digit n ∷ []) ≡ InQuotes
digits_after m n = ap (λ s. step s (digit n)) (digit_step m) ∙ digit_step n

-- the octets that an octet becomes, by the tests of it
escaped_case : (quote back low last : Bool) (o : ℕ) → (o == 34) ≡ quote → (o == 92) ≡ back → nat_lt o 32 ≡ low
    → after InQuotes (if quote then 92 ∷ 34 ∷ [] else if back then 92 ∷ 92 ∷ []
    else if low then 92 ∷ 120 ∷ digit (o / 16) ∷ digit (o % 16) ∷ [] else if last then 92 ∷ 120 ∷ 55 ∷ 102 ∷ [] else o ∷ []) ≡ InQuotes
escaped_case true back low last o hq hb hl = refl
escaped_case false true low last o hq hb hl = refl
escaped_case false false true last o hq hb hl = digits_after (o / 16) (o % 16)
escaped_case false false false true o hq hb hl = refl
escaped_case false false false false o hq hb hl = plain_step (o == 34) (o == 92) (nat_le 32 o) hq hb (le-leb 32 o (ltb-false o 32 hl))

escaped_after : (o : ℕ) → after InQuotes (escaped o) ≡ InQuotes
escaped_after o = escaped_case (o == 34) (o == 92) (nat_lt o 32) (o == 127) o refl refl refl

quoted_after : (os : List ℕ) → after InQuotes (flat_map escaped os) ≡ InQuotes
quoted_after [] = refl
quoted_after (o ∷ os) = after_append InQuotes (escaped o) (flat_map escaped os) ∙ ap (λ s. after s (flat_map escaped os)) (escaped_after o) ∙ quoted_after os

quotes_after : (os : List ℕ) → after AtValue (34 ∷ (flat_map escaped os ++ 34 ∷ [])) ≡ Behind
quotes_after os = after_append InQuotes (flat_map escaped os) (34 ∷ []) ∙ ap (λ s. step s 34) (quoted_after os)

third : (a b c d : Bool) → (if a then false else if b then false else if c then false else d) ≡ true → c ≡ false
third true b c d h = absurd (cc h)
third false true c d h = absurd (cc h)
third false false true d h = absurd (cc h)
third false false false d h = refl

no_quote : (o : ℕ) → is_bare o ≡ true → (o == 34) ≡ false
no_quote o h = third (nat_le o 32) (o == 127) (o == 34) (if o == 61 then false else if o == 92 then false else true) h

first_bare : (b q : Bool) (o : ℕ) (os : List ℕ) → is_bare o ≡ b → (o == 34) ≡ q → (if b then all_bare os else false) ≡ true
    → after (if q then InQuotes else if b then InBare else Lost) os ≡ InBare
first_bare true true o os hb hq h = absurd (let no = no_quote o hb in cc (sym hq ∙ no))
first_bare true false o os hb hq h = bare_after os h
first_bare false q o os hb hq h = absurd (cc h)

shown_case : (b : Bool) (o : ℕ) (os : List ℕ) → all_bare (o ∷ os) ≡ b
    → ends_field (after AtValue (if b then o ∷ os else 34 ∷ (flat_map escaped (o ∷ os) ++ 34 ∷ []))) ≡ true
shown_case true o os h = ap ends_field (first_bare (is_bare o) (o == 34) o os refl refl h)
shown_case false o os h = ap ends_field (quotes_after (o ∷ os))

shown_after : (value : List ℕ) → ends_field (after AtValue (shown value)) ≡ true
shown_after [] = refl
shown_after (o ∷ os) = shown_case (all_bare (o ∷ os)) o os refl

field_after : (s : Stand) (key value : List ℕ) → after s (key_text key) ≡ InKey → ends_field (after s (field key value)) ≡ true
field_after s key value h =
    ap ends_field (after_append s (key_text key) (61 ∷ shown value) ∙ ap (λ t. after t (61 ∷ shown value)) h) ∙ shown_after value

-- the first field of a line
pub one_field : (key value : List ℕ) → are_fields (field key value) ≡ true
one_field key value = field_after Before key value (key_before key)

space_case : (s : Stand) → ends_field s ≡ true → step s 32 ≡ Between
space_case InBare h = refl
space_case Behind h = refl
space_case Before h = absurd (cc h)
space_case InKey h = absurd (cc h)
space_case AtValue h = absurd (cc h)
space_case InQuotes h = absurd (cc h)
space_case Escaped h = absurd (cc h)
space_case Between h = absurd (cc h)
space_case Lost h = absurd (cc h)

feed_case : (s : Stand) → ends_field s ≡ true → step s 10 ≡ Before
feed_case InBare h = refl
feed_case Behind h = refl
feed_case Before h = absurd (cc h)
feed_case InKey h = absurd (cc h)
feed_case AtValue h = absurd (cc h)
feed_case InQuotes h = absurd (cc h)
feed_case Escaped h = absurd (cc h)
feed_case Between h = absurd (cc h)
feed_case Lost h = absurd (cc h)

-- one field more
pub more_fields : (line key value : List ℕ) → are_fields line ≡ true → are_fields (line ++ 32 ∷ field key value) ≡ true
more_fields line key value h =
    ap ends_field (after_append Before line (32 ∷ field key value) ∙ ap (λ s. after s (field key value)) (space_case (after Before line) h))
    ∙ field_after Between key value (key_between key)

-- the end of a line
pub line_ends : (line : List ℕ) → are_fields line ≡ true → AreLines (line ++ 10 ∷ [])
line_ends line h = after_append Before line (10 ∷ []) ∙ feed_case (after Before line) h

-- lines behind lines
pub lines_join : (xs ys : List ℕ) → AreLines xs → AreLines ys → AreLines (xs ++ ys)
lines_join xs ys hx hy = after_append Before xs ys ∙ ap (λ s. after s ys) hx ∙ hy
