-- Serials of sixteen bits and the numbers that they stand for; what a unit is to the rows so far (this project's own). To be believed.
use Rattle.std.specs.Prelude.{ℕ, ◌+◌, ◌-◌, ◌%◌, ◌<◌, ◌≤◌, ◌≡◌, Bool, IsTrue, if◌then◌else◌, Option, None, Some}
use Rattle.jt_value.specs.declared.limits.TheConstants.{SERIAL_WINDOW, UNIT_WINDOW}
use Rattle.jt_value.specs.declared.placing.Place.{Place}
use Rattle.jt_value.specs.declared.placing.Place.TheVariants as places

-- the serial of a number
abbrev pub serial_of : ℕ → ℕ
serial_of number = number % 65536

-- how far one serial is above another, counted on over the wrap
abbrev pub gap_of : ℕ → ℕ → ℕ
gap_of from to = (to + 65536 - from) % 65536

-- n is the least number above this one with the serial
pub record LeastAbove (from : ℕ) (serial : ℕ) (n : ℕ) : Type 0 where
  pub above : from < n
  pub named : serial_of n ≡ serial
  pub least : (m : ℕ) → from < m → serial_of m ≡ serial → n ≤ m

-- n is the greatest number up to this one with the serial
pub record GreatestUpTo (to : ℕ) (serial : ℕ) (n : ℕ) : Type 0 where
  pub within : n ≤ to
  pub named : serial_of n ≡ serial
  pub greatest : (m : ℕ) → m ≤ to → serial_of m ≡ serial → m ≤ n

-- no number up to this one has the serial
abbrev pub NoneUpTo : ℕ → ℕ → Type 0
NoneUpTo to serial = (m : ℕ) → m ≤ to → serial_of m ≡ serial → ⊥

-- each number above the last one with the serial is too far above it to be the next
abbrev pub IsFar : ℕ → ℕ → Type 0
IsFar last serial = (n : ℕ) → last < n → serial_of n ≡ serial → last + SERIAL_WINDOW < n

-- what a unit is to the rows so far: a new row of this number, a repeat of the row of this number, or a new row of this number
-- because the terminal began its serials anew
pub data Verdict : Type 0 where
  New : ℕ → Verdict
  Repeat : ℕ → Verdict
  Anew : ℕ → Verdict

-- The verdict on a unit of a serial, by the number of the last row, if there is one. `Has n` says that a row of number n has the
-- unit's id and body.
abbrev pub IsVerdict : Option ℕ → (ℕ → Type 0) → ℕ → Verdict → Type 0
IsVerdict None Has serial (New n) = n ≡ serial
IsVerdict None Has serial (Repeat n) = ⊥
IsVerdict None Has serial (Anew n) = ⊥
IsVerdict (Some last) Has serial (New n) = LeastAbove last serial n × (n ≤ last + SERIAL_WINDOW)
IsVerdict (Some last) Has serial (Repeat n) = IsFar last serial × GreatestUpTo last serial n × Has n
IsVerdict (Some last) Has serial (Anew n) = IsFar last serial × ((m : ℕ) → GreatestUpTo last serial m → Has m → ⊥) × LeastAbove (last + 65535) serial n

-- where a repeat would stand
abbrev pub IsCandidate : ℕ → ℕ → Option ℕ → Type 0
IsCandidate last serial None = NoneUpTo last serial
IsCandidate last serial (Some n) = GreatestUpTo last serial n

-- where a unit of a serial goes, as far as its serial tells
abbrev pub IsPlace : Option ℕ → ℕ → Place → Type 0
IsPlace None serial (places.First n) = n ≡ serial
IsPlace None serial (places.New n) = ⊥
IsPlace None serial (places.Back candidate anew) = ⊥
IsPlace (Some last) serial (places.First n) = ⊥
IsPlace (Some last) serial (places.New n) = LeastAbove last serial n × (n ≤ last + SERIAL_WINDOW)
IsPlace (Some last) serial (places.Back candidate anew) = IsFar last serial × IsCandidate last serial candidate × LeastAbove (last + 65535) serial anew × (anew ≤ last + 131071)

-- the verdict that a place leads to, where `has n` tells whether a row of number n has the unit's id and body
abbrev pub back_verdict : Option ℕ → ℕ → (ℕ → Bool) → Verdict
back_verdict None anew has = Anew anew
back_verdict (Some n) anew has = if has n then Repeat n else Anew anew

abbrev pub verdict_at : Place → (ℕ → Bool) → Verdict
verdict_at (places.First n) has = New n
verdict_at (places.New n) has = New n
verdict_at (places.Back candidate anew) has = back_verdict candidate anew has

-- the least number above this one with the serial, as a function
abbrev pub next_with : ℕ → ℕ → ℕ
next_with from serial = from + 1 + gap_of (serial_of (from + 1)) serial

-- The verdict within the window, and what serials tell apart.
pub record SerialsTell : Type 0 where
  -- the first unit of a phone is new, under its serial
  pub first : (has : ℕ → Bool) (serial : ℕ) (v : Verdict) → IsVerdict None (λ n. IsTrue (has n)) serial v → v ≡ New serial
  -- a number at most 32,766 above the last row's is new
  pub new : (has : ℕ → Bool) (last n : ℕ) (v : Verdict) → last < n → n ≤ last + UNIT_WINDOW → IsVerdict (Some last) (λ m. IsTrue (has m)) (serial_of n) v → v ≡ New n
  -- a row at most 32,765 below the last one is repeated by a unit with its id and body
  pub again : (has : ℕ → Bool) (last n : ℕ) (v : Verdict) → n ≤ last → last ≤ n + (UNIT_WINDOW - 1) → IsTrue (has n) → IsVerdict (Some last) (λ m. IsTrue (has m)) (serial_of n) v → v ≡ Repeat n
  -- two numbers near a mark with one serial are one number, where the second is above the mark
  pub one : (mark a b : ℕ) → mark < a + UNIT_WINDOW → a ≤ mark + UNIT_WINDOW → mark < b → b ≤ mark + UNIT_WINDOW → serial_of a ≡ serial_of b → a ≡ b
  -- the least number above another with a serial
  pub next : (from serial : ℕ) → serial < 65536 → LeastAbove from serial (next_with from serial)
