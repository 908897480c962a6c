-- The times of positions: this project's texts. To be believed.
use Rattle.std.specs.Prelude.{ℕ, if◌then◌else◌, List, ◌++◌, slice_index, IsTrue, ◌↔◌, codes}
use Rattle.jt_position.specs.Moments.{NamesMoment, names_moment}
use Rattle.jt_text.specs.Values.{byte_digits}

-- the test and `NamesMoment` say the same
abbrev pub TimesAreMoments : Type 0
TimesAreMoments = (time : List ℕ) → IsTrue (names_moment time) ↔ NamesMoment time

-- the two digits of octet i
abbrev pub digits_at : List ℕ → ℕ → List ℕ
digits_at time i = byte_digits (slice_index time i)

-- date and time of day in GMT+8, by the digits of the octets; `-` where they name none
unfoldable pub time_text : List ℕ → List ℕ
time_text time =
    if names_moment time
    then codes "20" ++ digits_at time 0 ++ codes "-" ++ digits_at time 1 ++ codes "-" ++ digits_at time 2
    ++ codes "T" ++ digits_at time 3 ++ codes ":" ++ digits_at time 4 ++ codes ":" ++ digits_at time 5 ++ codes "+08:00"
    else codes "-"
