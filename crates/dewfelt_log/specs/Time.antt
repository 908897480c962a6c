-- Moments as text, as `2026-11-30T15:05:02+08:00`: the form of ISO 8601, in the standard's time zone. To be believed.
use Rattle.std.specs.Prelude.{◌≡◌, ℕ, ◌+◌, ◌/◌, ◌%◌, pos, ◌+ℤ◌, ◌*ℤ◌, unsigned_abs, ◌⊎◌, List, [], ◌∷◌, ◌++◌}
use Rattle.jiff.specs.Words.{IsTimestampNanos, civil_nanos, nanos_of_seconds}
use Rattle.jiff.specs.declared.civil.datetimes.DateTime.{DateTime}

-- the two last digits of a number
abbrev pub two_digits : ℕ → List ℕ
two_digits number = (48 + number / 10 % 10) ∷ (48 + number % 10) ∷ []

-- a date and a time of day with the offset of the zone
abbrev pub stamp : ℕ → ℕ → ℕ → ℕ → ℕ → ℕ → List ℕ
stamp year month day hour minute second =
    two_digits (year / 100) ++ (two_digits year ++ (45 ∷ (two_digits month
    ++ (45 ∷ (two_digits day ++ (84 ∷ (two_digits hour ++ (58 ∷ (two_digits minute
    ++ (58 ∷ (two_digits second ++ (43 ∷ 48 ∷ 56 ∷ 58 ∷ 48 ∷ 48 ∷ []))))))))))))

-- what clocks in the zone show so many seconds after 1970-01-01T00:00:00Z
abbrev pub IsLocal : ℕ → DateTime → Type 0
IsLocal seconds moment =
    civil_nanos moment ≡ (pos seconds *ℤ pos 1_000_000_000) +ℤ nanos_of_seconds (pos 28_800)

-- jiff has no timestamp of it
abbrev pub IsTooLate : ℕ → Type 0
IsTooLate seconds = IsTimestampNanos (pos seconds *ℤ pos 1_000_000_000) → ⊥

-- a date and a time of day as text
abbrev pub stamp_of : DateTime → List ℕ
stamp_of moment =
    stamp (unsigned_abs moment.date.year) (unsigned_abs (pos moment.date.month))
    (unsigned_abs (pos moment.date.day)) (unsigned_abs (pos moment.time.hour))
    (unsigned_abs (pos moment.time.minute)) (unsigned_abs (pos moment.time.second))

-- the text of a moment: what clocks show then; zeros of one that jiff has no timestamp for, from 9999-12-30T22:00:01Z on
abbrev pub Tells : ℕ → List ℕ → Type 0
Tells seconds text =
    ((moment : DateTime) × IsLocal seconds moment × (text ≡ stamp_of moment))
    ⊎ (IsTooLate seconds × (text ≡ stamp 0 0 0 0 0 0))
