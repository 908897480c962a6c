-- Numbers in decimal digits, and how they are read.
use Rattle.std.proofs.Common.{◌≡◌, ◌≢◌, ◌<◌, ◌≤◌, ◌^◌, ℕ, zero, suc, true, false, Option, Some, None, Ok, Err, Result, List, [], ◌∷◌, length, get_or, refl, sym, ap, subst, ◌∙◌, arith}
use Rattle.std.proofs.lemmas.Fmt.{decimal_is_IsNumeral, parse-decimal, decimal_digit, first_decimal, IsAscii-decimal, decimal-digits_value}
use Rattle.std.proofs.lemmas.Str.{IsUtf8-from_ascii}
use Rattle.std.proofs.lemmas.Str.Parse.{numerals_by_value, tells_digits, without_leading_plus_none}
use Rattle.std.specs.Char.{digit_value}
use Rattle.std.specs.Fmt.{decimal}
use Rattle.std.specs.Str.{IsUtf8}
use Rattle.std.specs.Str.Parse.{AllDigits, digits_value, ParsesUnsigned}
use Rattle.jt_input.specs.Text.{Lacks}
use Rattle.jt_input.specs.Spelling.{Reads}

-- a decimal has no sign and no leading zero
pub decimal_is_plain : (n : ℕ) → n < 2 ^ 32 → (get_or (decimal n) 0 0 ≢ 43) × (get_or (decimal n) 0 0 ≡ 48 → length (decimal n) ≡ 1)
decimal_is_plain zero h = let e = decimal_digit 0 (omega arith) in (rw e (λ f. absurd (omega arith)), λ f. ap length e)
decimal_is_plain (suc n) h = let first = first_decimal (suc n) (omega arith) (omega arith) in (λ e. absurd (omega arith), λ e. absurd (omega arith))

digits_lack : (c : ℕ) (ds : List ℕ) → 10 ≤ digit_value c → AllDigits 10 ds → Lacks c ds
digits_lack c [] h all = tt
digits_lack c (d ∷ ds) h all = (λ e. let f : digit_value d ≡ digit_value c = ap digit_value e in let low : digit_value d < 10 = all.0 in absurd (omega arith), digits_lack c ds h all.1)

-- a decimal has no space
pub decimal_lacks_space : (n : ℕ) → n < 2 ^ 32 → Lacks 32 (decimal n)
decimal_lacks_space n h = digits_lack 32 (decimal n) (omega arith) ((decimal_is_IsNumeral n (omega arith)).0.1)

-- octets that are no text are no number
pub reads_no_text : (octets : List ℕ) (most : ℕ) → most < 2 ^ 32 → (IsUtf8 octets → ⊥) → Reads decimal (λ n. n ≤ most) octets None
reads_no_text octets most m h = record {
  some = tt;
  each = λ n le is. absurd (h (subst IsUtf8 (sym is) (IsUtf8-from_ascii (decimal n) (IsAscii-decimal n (omega arith)))));
}

-- a text that is not read as a number is none
pub reads_no_number : {E : Type 0} (octets text : List ℕ) (most : ℕ) (read : Result ℕ E) (error : E) → most < 2 ^ 32 → text ≡ octets → ParsesUnsigned 32 10 text read → read ≡ Err error
    → Reads decimal (λ n. n ≤ most) octets None
reads_no_number octets text most read error m same h failed = record {
  some = tt;
  each = λ n le is. let f = parse-decimal 32 n text read (omega arith) (omega arith) (same ∙ is) h in absurd cc;
}

-- nor is one of a number that is too great
pub reads_above : {E : Type 0} (octets text : List ℕ) (most number : ℕ) (read : Result ℕ E) → most < 2 ^ 32 → text ≡ octets → ParsesUnsigned 32 10 text read → read ≡ Ok number → most < number
    → Reads decimal (λ n. n ≤ most) octets None
reads_above octets text most number read m same h is_read above = record {
  some = tt;
  each = λ n le is.
      let f = parse-decimal 32 n text read (omega arith) (omega arith) (same ∙ is) h in
      let e : number ≡ n = cc in absurd (omega arith);
}

-- nor is one with a sign or with a zero in front
pub reads_not_plain : (octets : List ℕ) (most : ℕ) → most < 2 ^ 32
    → (((get_or octets 0 0 ≢ 43) × (get_or octets 0 0 ≡ 48 → length octets ≡ 1)) → false ≡ true) → Reads decimal (λ n. n ≤ most) octets None
reads_not_plain octets most m h = record {
  some = tt;
  each = λ n le is. let f = h (rw is (decimal_is_plain n (omega arith))) in absurd cc;
}

-- every other is that number
pub reads_number : {E : Type 0} (octets text : List ℕ) (most number : ℕ) (read : Result ℕ E) → most < 2 ^ 32 → text ≡ octets → ParsesUnsigned 32 10 text read → read ≡ Ok number → number ≤ most
    → ((get_or octets 0 0 ≢ 43) × (get_or octets 0 0 ≡ 48 → length octets ≡ 1)) → Reads decimal (λ n. n ≤ most) octets (Some number)
reads_number octets text most number read m same h is_read within plain = record {
  some = (
    let parsed = rw is_read at h in
        let as_it_is = without_leading_plus_none text (λ e. plain.0 (rw (← same) e)) in
        let numeral = rw as_it_is at parsed.0.0 in
        let value = rw as_it_is at parsed.1 in
        let own = numerals_by_value (AllDigits 10) tells_digits in
        let small : digits_value 10 text < 2 ^ 64 = omega (arith, value) in
        let plain_text : get_or text 0 0 ≡ 48 → length text ≡ 1 = subst (λ (t : List ℕ). get_or t 0 0 ≡ 48 → length t ≡ 1) (sym same) plain.1 in
        sym same ∙ sym (decimal-digits_value own text numeral.1 numeral.0 plain_text small) ∙ ap decimal (sym value),
    within,
  );
  each = λ n le is.
      let f = parse-decimal 32 n text read (omega arith) (omega arith) (same ∙ is) h in
      let e : number ≡ n = cc in ap (λ (x : ℕ). Some x) e;
}
