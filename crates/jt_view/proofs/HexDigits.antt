-- Laws of digits and of the octets that they are.
use Rattle.std.proofs.Common.{◌≡◌, ◌<◌, ◌≤◌, ◌+◌, ◌*◌, ◌%◌, ℕ, Bool, true, false, List, [], ◌∷◌, ◌++◌, Option, Some, None, Result, Ok, unwrap_or, suc, append-nil, cond, not, ◌||◌, nat_lt, eqb, length, take, filter, option_to_list, refl, sym, ap, arith, ◌∙◌, ◌↔◌, length-append}
use Rattle.std.specs.List.{prefix_len}
use Rattle.std.specs.Option.{is_some}
use Rattle.std.proofs.lemmas.Bool.Decides.{nat_tests}
use Rattle.std.proofs.lemmas.Grind.{common_steps}
use Rattle.std.proofs.lemmas.List.{take-append-le, length-take}
use Rattle.std.proofs.lemmas.List.Elements.{filter-append}
use Rattle.std.proofs.lemmas.List.Folds.{prefix_len-append}
use Rattle.std.proofs.lemmas.List.Sums.{prefix_len-le-length, length-filter, count_by-le-length}
use Rattle.std.proofs.Math.Seq.{take-append-add}
use Rattle.hex.specs.Hex.{hex_digit_value, is_hex_digit, digit_or_error, decode_pairs, decode_sized, ◌>>=◌}
use Rattle.hex.specs.declared.error.FromHexError.{FromHexError}
use Rattle.jt_view.specs.HexInput.{is_blank, is_wrong, first_wrong, digits, octet_of, octets_of_digits, unpaired, IsOdd}

-- how many octets stand before the first wrong one
abbrev pub right_len : List ℕ → ℕ
right_len text = prefix_len (λ c. not (is_wrong c)) text

none_all : (n m : ℕ) → n ≤ m → cond (nat_lt n m) (Some n) None ≡ None → n ≡ m
none_all n m h e = grind (arith, nat_tests)

some_at : (n m i : ℕ) → cond (nat_lt n m) (Some n) None ≡ Some i → (n ≡ i) × (n < m)
some_at n m i e = grind (arith, nat_tests)

at_some : (n m : ℕ) → n < m → cond (nat_lt n m) (Some n) None ≡ Some n
at_some n m h = grind (arith, nat_tests)

all_none : (m : ℕ) → cond (nat_lt m m) (Some m) None ≡ None
all_none m = grind (arith, nat_tests)

pub right_all : (text : List ℕ) → first_wrong text ≡ None → right_len text ≡ length text
unfolding first_wrong
right_all text e = none_all (right_len text) (length text) (prefix_len-le-length _ text) e

pub right_some : (text : List ℕ) (place : ℕ) → first_wrong text ≡ Some place → (right_len text ≡ place) × (right_len text < length text)
unfolding first_wrong
right_some text place e = some_at (right_len text) (length text) place e

pub some_right : (text : List ℕ) (place : ℕ) → right_len text ≡ place → place < length text → first_wrong text ≡ Some place
unfolding first_wrong
some_right text place e h = rw (← e) (at_some (right_len text) (length text) (rw (← e) at h))

pub none_right : (text : List ℕ) → right_len text ≡ length text → first_wrong text ≡ None
unfolding first_wrong
none_right text e = rw e (all_none (length text))

cond_all : (n m k : ℕ) → n ≡ m → cond (eqb n m) (m + k) n ≡ m + k
cond_all n m k e = grind (arith, nat_tests)

cond_some : (n m k : ℕ) → n < m → cond (eqb n m) (m + k) n ≡ n
cond_some n m k e = grind (arith, nat_tests)

pub right_len-all : (front rest : List ℕ) → first_wrong front ≡ None → right_len (front ++ rest) ≡ length front + right_len rest
right_len-all front rest e = prefix_len-append _ front rest ∙ cond_all (right_len front) (length front) (right_len rest) (right_all front e)

pub right_len-some : (front rest : List ℕ) (place : ℕ) → first_wrong front ≡ Some place → right_len (front ++ rest) ≡ right_len front
right_len-some front rest place e = prefix_len-append _ front rest ∙ cond_some (right_len front) (length front) (right_len rest) ((right_some front place e).1)

-- a wrong octet in the front stays the first one
pub wrong_stays : (front rest : List ℕ) (place : ℕ) → first_wrong front ≡ Some place → first_wrong (front ++ rest) ≡ Some place
wrong_stays front rest place e =
    let here = right_some front place e in
    some_right (front ++ rest) place (right_len-some front rest place e ∙ here.0) (omega (arith, here.0, here.1, length-append front rest))

-- and the digits before it stay the same
pub digits_stay : (front rest : List ℕ) (place : ℕ) → first_wrong front ≡ Some place → digits (front ++ rest) ≡ digits front
unfolding digits
digits_stay front rest place e =
    let here = right_some front place e in
    ap (λ (xs : List ℕ). filter is_hex_digit xs) (ap (λ n. take n (front ++ rest)) (right_len-some front rest place e) ∙ take-append-le (right_len front) front rest (omega (arith, here.1)))

-- after a front with no wrong octet
pub wrong_after : (front rest : List ℕ) (place : ℕ) → first_wrong front ≡ None → first_wrong rest ≡ Some place → first_wrong (front ++ rest) ≡ Some (length front + place)
wrong_after front rest place e w =
    let here = right_some rest place w in
    some_right (front ++ rest) (length front + place) (right_len-all front rest e ∙ ap (λ n. length front + n) here.0) (omega (arith, here.0, here.1, length-append front rest))

pub none_after : (front rest : List ℕ) → first_wrong front ≡ None → first_wrong rest ≡ None → first_wrong (front ++ rest) ≡ None
none_after front rest e w = none_right (front ++ rest) (omega (arith, right_len-all front rest e, right_all rest w, length-append front rest))

take_whole : (xs : List ℕ) (n : ℕ) → n ≡ length xs → take n xs ≡ xs
take_whole xs n e = grind (arith, common_steps)

pub digits_after : (front rest : List ℕ) → first_wrong front ≡ None → digits (front ++ rest) ≡ digits front ++ digits rest
unfolding digits
digits_after front rest e =
    let cut : take (right_len (front ++ rest)) (front ++ rest) ≡ front ++ take (right_len rest) rest = ap (λ n. take n (front ++ rest)) (right_len-all front rest e) ∙ take-append-add front rest (right_len rest) in
    let whole : take (right_len front) front ≡ front = take_whole front (right_len front) (right_all front e) in
    ap (λ (xs : List ℕ). filter is_hex_digit xs) cut ∙ filter-append is_hex_digit front (take (right_len rest) rest) ∙ ap (λ (xs : List ℕ). filter is_hex_digit xs ++ filter is_hex_digit (take (right_len rest) rest)) (sym whole)

-- octets of digits that go on
pub octets_after : (before more : List ℕ) → octets_of_digits (before ++ more) ≡ octets_of_digits before ++ octets_of_digits (option_to_list (unpaired before) ++ more)
unfolding octets_of_digits unpaired
octets_after [] more = refl
octets_after (digit ∷ []) more = refl
octets_after (high ∷ low ∷ rest) more = ap (λ octets. octet_of high low ∷ octets) (octets_after rest more)

pub unpaired_after : (before more : List ℕ) → unpaired (before ++ more) ≡ unpaired (option_to_list (unpaired before) ++ more)
unfolding unpaired
unpaired_after [] more = refl
unpaired_after (digit ∷ []) more = refl
unpaired_after (high ∷ low ∷ rest) more = unpaired_after rest more

-- two digits are an octet
pub octets_half : (given : List ℕ) → 2 * length (octets_of_digits given) ≤ length given
unfolding octets_of_digits
octets_half [] = omega arith
octets_half (digit ∷ []) = omega arith
octets_half (high ∷ low ∷ rest) = omega (arith, octets_half rest)

two_more : (n : ℕ) → suc (suc n) % 2 ≡ n % 2
two_more n = omega arith

-- a digit waits where their number is odd
pub odd_waits : (given : List ℕ) → (is_some (unpaired given) ≡ true) ↔ IsOdd given
unfolding unpaired
odd_waits [] = (λ e. cc, λ e. cc)
odd_waits (digit ∷ []) = (λ e. refl, λ e. refl)
odd_waits (high ∷ low ∷ rest) =
    let less = odd_waits rest in
    (λ e. two_more (length rest) ∙ less.0 e, λ e. less.1 (sym (two_more (length rest)) ∙ e))

front_octets_at : (front rest : List ℕ) (wrong : Option ℕ) → first_wrong front ≡ wrong → (more : List ℕ) × (octets_of_digits (digits (front ++ rest)) ≡ octets_of_digits (digits front) ++ more)
front_octets_at front rest None e = (octets_of_digits (option_to_list (unpaired (digits front)) ++ digits rest), ap octets_of_digits (digits_after front rest e) ∙ octets_after (digits front) (digits rest))
front_octets_at front rest (Some place) e = ([], ap octets_of_digits (digits_stay front rest place e) ∙ sym (append-nil (octets_of_digits (digits front))))

-- the octets of a front are the first ones
pub front_octets : (front rest : List ℕ) → (more : List ℕ) × (octets_of_digits (digits (front ++ rest)) ≡ octets_of_digits (digits front) ++ more)
front_octets front rest = front_octets_at front rest (first_wrong front) refl

pair_of : (high low : ℕ) (h l : Option ℕ) → is_some h ≡ true → is_some l ≡ true
    → (digit_or_error high 0 h >>= λ x. (digit_or_error low 1 l >>= λ y. Ok (x * 16 + y))) ≡ Ok (unwrap_or h 0 * 16 + unwrap_or l 0)
pair_of high low None l e f = cc e
pair_of high low (Some x) None e f = cc f
pair_of high low (Some x) (Some y) e f = refl

-- what decoding one pair answers
pub decoded : (high low : ℕ) → is_hex_digit high ≡ true → is_hex_digit low ≡ true → decode_sized (high ∷ low ∷ []) 1 ≡ Ok (octet_of high low ∷ [])
unfolding decode_pairs
decoded high low h l = ap (λ (byte : Result ℕ FromHexError). byte >>= λ x. Ok (x ∷ [])) (pair_of high low (hex_digit_value high) (hex_digit_value low) h l)

pub waits_odd : (waits : Bool) (given : List ℕ) → waits ≡ is_some (unpaired given) → (waits ≡ true) ↔ IsOdd given
waits_odd waits given e = rw e (odd_waits given)

-- a first digit waits, and a second one completes an octet
pub first_waits : (waiting : Option ℕ) (digit : ℕ) → waiting ≡ None → Some digit ≡ unpaired (option_to_list waiting ++ digit ∷ [])
unfolding unpaired
first_waits waiting digit e = rw e refl

pub first_octets : (waiting : Option ℕ) (digit : ℕ) (octets : List ℕ) → waiting ≡ None → octets ≡ octets ++ octets_of_digits (option_to_list waiting ++ digit ∷ [])
unfolding octets_of_digits
first_octets waiting digit octets e = rw e (sym (append-nil octets))

pub second_waits : (waiting now : Option ℕ) (high low : ℕ) → waiting ≡ Some high → now ≡ None → now ≡ unpaired (option_to_list waiting ++ low ∷ [])
unfolding unpaired
second_waits waiting now high low e n = rw (e, n) refl

pub second_octets : (waiting : Option ℕ) (octet high low : ℕ) (octets : List ℕ) → waiting ≡ Some high → octet ≡ octet_of high low
    → octets ++ octet ∷ [] ≡ octets ++ octets_of_digits (option_to_list waiting ++ low ∷ [])
unfolding octets_of_digits
second_octets waiting octet high low octets e o = rw (e, o) refl

-- one octet more, a blank or a digit
pub blank_alone : (c : ℕ) → is_blank c ≡ true → is_hex_digit c ≡ false → (first_wrong (c ∷ []) ≡ None) × (digits (c ∷ []) ≡ [])
unfolding first_wrong digits
blank_alone c b h = (rw b refl, rw (b, h) refl)

digit_right : (c : ℕ) → is_hex_digit c ≡ true → not (is_wrong c) ≡ true
digit_right c h = rw h (elim (is_blank c) as (λ b. not (not (b || true)) ≡ true) [ true ↦ refl | false ↦ refl ])

pub digit_alone : (c : ℕ) → is_hex_digit c ≡ true → (first_wrong (c ∷ []) ≡ None) × (digits (c ∷ []) ≡ c ∷ [])
unfolding first_wrong digits
digit_alone c h =
    let right : right_len (c ∷ []) ≡ 1 = rw (digit_right c h) refl in
    (none_right (c ∷ []) right, ap (λ n. filter is_hex_digit (take n (c ∷ []))) right ∙ rw h refl)

pub wrong_first : (c : ℕ) (rest : List ℕ) → is_blank c ≡ false → is_hex_digit c ≡ false → (first_wrong (c ∷ rest) ≡ Some 0) × (digits (c ∷ rest) ≡ [])
unfolding first_wrong digits
wrong_first c rest b h = (rw (b, h) (at_some 0 (length (c ∷ rest)) (omega arith)), rw (b, h) refl)

-- no octet has more digits than one
pub digits_few : (text : List ℕ) → length (digits text) ≤ length text
unfolding digits
digits_few text = omega (arith, length-filter is_hex_digit (take (right_len text) text), count_by-le-length is_hex_digit (take (right_len text) text), length-take (right_len text) text)

pub waiting_one : (waiting : Option ℕ) → length (option_to_list waiting) ≤ 1
waiting_one None = omega arith
waiting_one (Some digit) = omega arith

pub waiting_alone : (waiting : Option ℕ) → waiting ≡ unpaired (option_to_list waiting ++ [])
unfolding unpaired
waiting_alone None = refl
waiting_alone (Some digit) = refl

pub waiting_no_octet : (waiting : Option ℕ) (octets : List ℕ) → octets ≡ octets ++ octets_of_digits (option_to_list waiting ++ [])
unfolding octets_of_digits
waiting_no_octet None octets = sym (append-nil octets)
waiting_no_octet (Some digit) octets = sym (append-nil octets)
