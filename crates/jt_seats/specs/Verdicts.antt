-- Why a link is to end now (this project's own). To be believed.
use Rattle.std.specs.Prelude.{◌*◌, ◌-◌, ℕ, nat_le, cond, Option, None, Some}
use Rattle.std.specs.Option.{is_some, option_or}
use Rattle.jt_seats.specs.declared.cut.Cut.{Cut}
use Rattle.jt_seats.specs.declared.cut.Cut.TheVariants as cuts
use Rattle.jt_seats.specs.declared.limits.Limits.{Limits}
use Rattle.jt_seats.specs.declared.seat.Seat.{Seat}

-- a stranger's, which sent so many octets and has been there for so many milliseconds
abbrev pub of_stranger : Limits → ℕ → ℕ → Option Cut
of_stranger limits octets stay =
    cond (nat_le limits.stranger_octets octets) (Some cuts.StrangerOctets) (
    cond (nat_le (limits.stranger_seconds * 1000) stay) (Some cuts.StrangerTime) None)

-- one on which nobody was let in has a stranger's limits
abbrev pub of_seat : Limits → ℕ → ℕ → Seat → Option Cut
of_seat limits octets now seat = cond (is_some seat.phone) None (of_stranger limits octets (now - seat.since))

-- the link in a place: first for the service's end, then for what was decided of it, then by a stranger's limits
abbrev pub verdict : Limits → Option Cut → ℕ → ℕ → Option Seat → Option Cut
verdict limits end octets now None = end
verdict limits end octets now (Some seat) = option_or end (option_or seat.cut (of_seat limits octets now seat))
