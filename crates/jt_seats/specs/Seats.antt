-- The places of a service for its links (this project's own). To be believed.
use Rattle.std.specs.Prelude.{◌≡◌, ◌≤◌, ◌<◌, ◌-◌, ℕ, Bool, true, false, not, ◌&&◌, nat_eq, nat_le, nat_lt, cond, List, Option, None, Some, IsTrue, All, filter, length, position, slice_index_or, slice_set}
use Rattle.std.specs.Option.{is_some, is_none}
use Rattle.jt_value.specs.Sameness.{key_of, same_key}
use Rattle.jt_value.specs.declared.phone.Phone.{Phone}
use Rattle.jt_seats.specs.declared.cut.Cut.{Cut}
use Rattle.jt_seats.specs.declared.cut.Cut.TheVariants as cuts
use Rattle.jt_seats.specs.declared.cut.Away.{Away}
use Rattle.jt_seats.specs.declared.cut.Away.TheVariants as aways
use Rattle.jt_seats.specs.declared.limits.Limits.{Limits}
use Rattle.jt_seats.specs.declared.seat.Seat.{Seat}

-- a place that no link has
abbrev pub free : Seat
free = record { is_taken = false; session = 0; since = 0; address = 0; phone = None; cut = None }

-- a place whose link came now, from the address of a number
abbrev pub taken : ℕ → ℕ → Seat
taken now address = record { is_taken = true; session = 0; since = now; address = address; phone = None; cut = None }

-- the place of a number; a free one where there is none
abbrev pub seat_at : ℕ → List Seat → Seat
seat_at place seats = slice_index_or seats place free

-- nobody was let in on its link
abbrev pub is_stranger : Seat → Bool
is_stranger seat = seat.is_taken && is_none seat.phone

-- a stranger's link that nothing ends so far
abbrev pub goes_on : Seat → Bool
goes_on seat = is_stranger seat && is_none seat.cut

-- a stranger's link from the address of a number
abbrev pub is_of : ℕ → Seat → Bool
is_of address seat = is_stranger seat && nat_eq seat.address address

-- somebody was let in on its link
abbrev pub is_let_in : Seat → Bool
is_let_in seat = seat.is_taken && is_some seat.phone

-- its link has the session of a number
abbrev pub is_session : ℕ → Seat → Bool
is_session session seat = seat.is_taken && nat_eq seat.session session

-- whether it is a phone of these digits
abbrev pub is_phone : List ℕ → Option Phone → Bool
is_phone key None = false
is_phone key (Some phone) = same_key (key_of phone) key

-- how many places pass a test
abbrev pub count : (Seat → Bool) → List Seat → ℕ
count test seats = length (filter test seats)

-- whether a count reaches a limit, where there is one
abbrev pub reaches : Option ℕ → ℕ → Bool
reaches None n = false
reaches (Some most) n = nat_le most n

-- as many strangers' links come from an address as may; one that is not known has the number 0, and no limit
abbrev pub is_crowded : Limits → ℕ → List Seat → Bool
is_crowded limits address seats = not (nat_eq address 0) && reaches limits.strangers_of_address (count (is_of address) seats)

-- why a link that comes from an address gets no place, if so
abbrev pub away : Limits → ℕ → List Seat → Option Away
away limits address seats =
    cond (is_crowded limits address seats) (Some aways.Address) (
    cond (is_none (position (λ seat. not seat.is_taken) seats)) (Some aways.Full) (
    cond (nat_le limits.strangers (count is_stranger seats)) (Some aways.Strangers) None))

-- of the links of a part nobody goes on, or this one does and came first
abbrev pub IsOldestOf : List Seat → List Seat → Option ℕ → Type 0
IsOldestOf seats part None = All (λ seat. goes_on seat ≡ false) part
IsOldestOf seats part (Some place) = (goes_on (seat_at place seats) ≡ true)
    × All (λ seat. goes_on seat ≡ true → (seat_at place seats).since ≤ seat.since) part

-- the place of the stranger's link that goes on and came first; none where none goes on
abbrev pub IsOldest : List Seat → Option ℕ → Type 0
IsOldest seats place = IsOldestOf seats seats place

-- the older one of the oldest one so far, by its place and its moment, and the one in a place
abbrev pub is_later : ℕ → Option (ℕ × ℕ) → Bool
is_later since None = false
is_later since (Some x) = nat_le x.1 since

abbrev pub older : Option (ℕ × ℕ) → ℕ → Seat → Option (ℕ × ℕ)
older oldest place seat = cond (goes_on seat) (cond (is_later seat.since oldest) oldest (Some (place, seat.since))) oldest

-- a link that is to end for this reason
abbrev pub ended : Cut → Seat → Seat
ended cut seat = record { is_taken = seat.is_taken; session = seat.session; since = seat.since; address = seat.address; phone = seat.phone; cut = Some cut }

-- the link in a place is to end for a newer one, if it has stayed a second
abbrev pub replaced : ℕ → List Seat → Option ℕ → List Seat
replaced now seats None = seats
replaced now seats (Some place) =
    cond (nat_lt (now - (seat_at place seats).since) 1000) seats (slice_set seats place (ended cuts.Replaced (seat_at place seats)))

-- the oldest link that goes on is to end, if it has stayed a second
pub record Replaces (now : ℕ) (old new : List Seat) : Type 0 where
  pub place : Option ℕ
  pub oldest : IsOldest old place
  pub becomes : new ≡ replaced now old place

-- what comes of the links where one is closed at once
abbrev pub Refuses : Away → ℕ → List Seat → List Seat → Type 0
Refuses aways.Address now old new = new ≡ old
Refuses _ now old new = Replaces now old new

-- the link has the session of this number
abbrev pub named : ℕ → Seat → Seat
named session seat = record { is_taken = seat.is_taken; session = session; since = seat.since; address = seat.address; phone = seat.phone; cut = seat.cut }

-- whether it is an end of the rules for strangers
abbrev pub is_strangers : Option Cut → Bool
is_strangers (Some cuts.StrangerTime) = true
is_strangers (Some cuts.StrangerOctets) = true
is_strangers (Some cuts.Replaced) = true
is_strangers _ = false

-- the phone was let in on the link, which no rule for strangers ends any more
abbrev pub let_in : Phone → Seat → Seat
let_in phone seat = record { is_taken = seat.is_taken; session = seat.session; since = seat.since; address = seat.address; phone = Some phone; cut = cond (is_strangers seat.cut) None seat.cut }

-- the phone is let in on the link in a place, where there is one
abbrev pub let_in_at : Phone → List Seat → Option ℕ → List Seat
let_in_at phone seats None = seats
let_in_at phone seats (Some place) = slice_set seats place (let_in phone (seat_at place seats))

-- the link is to end where the phone of these digits was let in
abbrev pub dismissed : List ℕ → Seat → Seat
dismissed key seat = cond (is_phone key seat.phone) (ended cuts.Dismissed seat) seat

-- no link on which somebody was let in is to end by the rules for strangers
abbrev pub is_fair : Seat → Bool
is_fair seat = not (is_some seat.phone && is_strangers seat.cut)
