-- How many lines a second: this project's own rule. To be believed.
use Rattle.std.specs.Prelude.{ℕ, ◌==◌, nat_lt, Bool, if◌then◌else◌}
use Rattle.dewfelt_log.specs.declared.rate.Rate.{Rate}
use Rattle.dewfelt_log.specs.declared.rate.TheConstants.{LINES_A_SECOND}

-- how many lines this second had in a row: a clock that goes back and comes again begins anew
abbrev pub lines_in : Rate → ℕ → ℕ
lines_in rate second = if rate.second == second then rate.lines else 0

-- whether one line more may be written in this second
abbrev pub allows : Rate → ℕ → Bool
allows rate second = nat_lt (lines_in rate second) LINES_A_SECOND
