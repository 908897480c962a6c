-- The moment that a position's time names. To be believed.
use Rattle.std.specs.Prelude.{ℕ, ◌+◌, ◌*◌, ◌/◌, ◌%◌, ◌≤◌, ◌<◌, Bool, ◌&&◌, nat_le, pos, List, slice_index}
use Rattle.jiff.specs.Words.{IsDate, IsTime, IsYmd, IsHms, days_in_month}
use Rattle.jiff.specs.declared.civil.datetimes.DateTime.{DateTime}

-- both digits of an octet are at most 9
abbrev pub IsDecimal : ℕ → Type 0
IsDecimal octet = (octet / 16 ≤ 9) × (octet % 16 ≤ 9)

-- the number of an octet's two digits
abbrev pub decimal_of : ℕ → ℕ
decimal_of octet = 10 * (octet / 16) + octet % 16

-- the parts YY MM DD hh mm ss of a time, from 0 on
abbrev pub part : List ℕ → ℕ → ℕ
part time i = decimal_of (slice_index time i)

-- the twelve digits are each at most 9 and name a date and a time of day
pub record NamesMoment (time : List ℕ) : Type 0 where
  pub digits : (i : ℕ) → i < 6 → IsDecimal (slice_index time i)
  pub date : IsDate (pos (2000 + part time 0)) (pos (part time 1)) (pos (part time 2))
  pub clock : IsTime (pos (part time 3)) (pos (part time 4)) (pos (part time 5)) (pos 0)

-- the moment has these parts
abbrev pub IsMoment : List ℕ → DateTime → Type 0
IsMoment time moment = IsYmd (pos (2000 + part time 0)) (pos (part time 1)) (pos (part time 2)) moment.date × IsHms (pos (part time 3)) (pos (part time 4)) (pos (part time 5)) (pos 0) moment.time

-- ---- the same as a test

-- both digits of octet i are at most 9
abbrev pub is_decimal : List ℕ → ℕ → Bool
is_decimal time i = nat_le (slice_index time i / 16) 9 && nat_le (slice_index time i % 16) 9

-- all twelve digits are
abbrev pub are_decimal : List ℕ → Bool
are_decimal time =
    is_decimal time 0 && (is_decimal time 1 && (is_decimal time 2 && (is_decimal time 3 && (is_decimal time 4 && is_decimal time 5))))

-- a number from one to another, both included
abbrev pub is_from_to : ℕ → ℕ → ℕ → Bool
is_from_to low high n = nat_le low n && nat_le n high

-- a month of the year 2000 + YY and a day of it
abbrev pub is_date : ℕ → ℕ → ℕ → Bool
is_date year month day = is_from_to 1 12 month && is_from_to 1 (days_in_month (pos (2000 + year)) month) day

abbrev pub is_time : ℕ → ℕ → ℕ → Bool
is_time hour minute second = nat_le hour 23 && (nat_le minute 59 && nat_le second 59)

-- Whether the twelve digits are each at most 9 and name a date and a time of day. The parts are YY MM DD hh mm ss. A public
-- law of jt_text says that it is the same as `NamesMoment`.
unfoldable pub names_moment : List ℕ → Bool
names_moment time =
    are_decimal time && (is_date (part time 0) (part time 1) (part time 2) && is_time (part time 3) (part time 4) (part time 5))
