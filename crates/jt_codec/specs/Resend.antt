-- Requests to send packets again. Those of 2013 are as the standard's message bodies have them, those of 2019 as this project's
-- profile has them. To be believed.
use Rattle.std.specs.Prelude.{◌≡◌, ℕ, ◌+◌, ◌*◌, ◌%◌, Bool, true, false, ◌&&◌, ◌==◌, nat_lt, if◌then◌else◌, List, length, drop, Option, Some, None, Ok, slice_index}
use Rattle.jt_value.specs.declared.phone.Edition.{Edition}
use Rattle.jt_value.specs.declared.phone.Edition.TheVariants.{E2013, E2019}
use Rattle.jt_value.specs.declared.refusal.Refusal.{Refusal}
use Rattle.jt_layout.specs.Layout.{Part, Body, byte, word, ◌▹◌, ◌>>=◌, ended, counted, truncated, bad_count, unless}
use Rattle.jt_codec.specs.Editions.{is_2013}
use Rattle.jt_codec.specs.declared.resend.Resend.{Resend}

-- the count in one octet, or in two
abbrev pub count : Bool → Part ℕ
count false = byte
count true = word

-- first W, count, then that many numbers W
abbrev pub numbered : Bool → Body (ℕ × List ℕ)
numbered wide = ended (word ▹ λ _. counted (count wide) word)

-- a count of two octets is of 2019 alone
abbrev pub HasWidth : Edition → Bool → Type 0
HasWidth E2013 wide = wide ≡ false
HasWidth E2019 wide = Unit {0}

-- whether a body of this length has a count of two octets: in 2019, where the length is even
abbrev pub is_wide : Edition → ℕ → Bool
is_wide E2013 len = false
is_wide E2019 len = len % 2 == 0

-- the count that stands at offset 2
abbrev pub count_in : Bool → List ℕ → ℕ
count_in false octets = slice_index octets 2
count_in true octets = slice_index octets 2 * 256 + slice_index octets 3

-- how many octets a body with so many numbers has
abbrev pub size : Bool → ℕ → ℕ
size false numbers = 3 + 2 * numbers
size true numbers = 4 + 2 * numbers

-- The first reason against the octets: there is no first packet; there is no count; in 2013, the length is even; the count is not
-- that of the numbers behind it.
unfoldable pub reason : Edition → List ℕ → Option Refusal
reason edition octets =
    let len = length octets in
    let wide = is_wide edition len in
    if nat_lt len 2 then Some (truncated 0) else (
    if len == 2 then Some (truncated 2) else (
    if is_2013 edition && (len % 2 == 0) then Some (bad_count 2) else (
    if len == size wide (count_in wide octets) then None else Some (bad_count 2))))

abbrev pub resend_with : Bool → ℕ × List ℕ → Resend
resend_with wide x = record { first = x.0; wide = wide; numbers = x.1 }

-- the layout with a count as wide as the value says; all other octets have the first reason against them
unfoldable pub resend : Edition → Body Resend
resend edition = record {
  spell = λ m. (numbered m.wide).spell (m.first, m.numbers);
  Fits = λ m. HasWidth edition m.wide × (numbered m.wide).Fits (m.first, m.numbers);
  Refuses = λ s p r. reason edition (drop p s) ≡ Some r;
  read = λ s p.
      let wide = is_wide edition (length (drop p s)) in
      unless (reason edition (drop p s)) ((numbered wide).read s p >>= λ x. Ok (resend_with wide x));
}
