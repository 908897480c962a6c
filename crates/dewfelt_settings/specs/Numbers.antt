-- Numbers within their ranges: this project's own. To be believed.
use Rattle.std.specs.Prelude.{ℕ, ◌≤◌, ◌/◌, nat_lt, if◌then◌else◌}
use Rattle.dewfelt_settings.specs.declared.number.TheConstants.{LINKS_MOST, SECONDS_MOST}

-- a number of links, from 1 to the most that can be chosen
abbrev pub IsCount : ℕ → Type 0
IsCount number = (1 ≤ number) × (number ≤ LINKS_MOST)

-- a number of seconds, from 1 to the most that can be chosen
abbrev pub IsSeconds : ℕ → Type 0
IsSeconds number = (1 ≤ number) × (number ≤ SECONDS_MOST)

-- half of a number, and 1 at least
abbrev pub half_of : ℕ → ℕ
half_of number = if nat_lt number 2 then 1 else number / 2
