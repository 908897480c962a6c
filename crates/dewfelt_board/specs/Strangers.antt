-- Terminals that were turned away, the one that came last at the end (this project's own). To be believed.
use Rattle.std.specs.Prelude.{◌≡◌, ◌⊎◌, ℕ, ◌+◌, ◌-◌, ◌^◌, nat_eq, nat_lt, min, not, if◌then◌else◌, List, [], ◌∷◌, ◌++◌, Option, Some, None, filter, find, length, slice_get}
use Rattle.std.specs.Str.{bytes_eq}
use Rattle.dewfelt_board.specs.declared.stranger.Stranger.{Stranger}
use Rattle.dewfelt_board.specs.declared.strangers.TheConstants.{STRANGERS_LIMIT, STRANGERS_OF_ADDRESS}

-- those that came from the address of a number
abbrev pub of_address : ℕ → List Stranger → List Stranger
of_address address list = filter (λ it. nat_eq it.address address) list

-- how many these are
abbrev pub count_from : ℕ → List Stranger → ℕ
count_from address list = length (of_address address list)

-- what is kept of the phone of these digits
abbrev pub known : List ℕ → List Stranger → Option Stranger
known digits list = find (λ it. bytes_eq it.digits digits) list

-- those of other digits
abbrev pub without : List ℕ → List Stranger → List Stranger
without digits list = filter (λ it. not (bytes_eq it.digits digits)) list

-- those of other digits than this one's, if there is one
abbrev pub without_one : Option Stranger → List Stranger → List Stranger
without_one None list = list
without_one (Some one) list = without one.digits list

-- with room for one more of an address: the oldest of it goes, where as many are kept as may be
abbrev pub room_of : ℕ → List Stranger → List Stranger
room_of address list =
    if nat_lt (count_from address list) STRANGERS_OF_ADDRESS then list
    else without_one (find (λ it. nat_eq it.address address) list) list

-- with room for one more: the oldest goes, where as many are kept as may be
abbrev pub room : List Stranger → List Stranger
room list = if nat_lt (length list) STRANGERS_LIMIT then list else without_one (slice_get list 0) list

-- a terminal with what was known of its phone: its tries are counted on, from the first one
abbrev pub joined : Option Stranger → Stranger → Stranger
joined None it = it
joined (Some was) it = record it { tried = min (was.tried + it.tried) (2 ^ 64 - 1); first = was.first }

-- what is kept once a terminal was turned away: it stands at the end, with what was known of it; or memory was refused for it
abbrev pub Keeps : Stranger → List Stranger → List Stranger → Type 0
Keeps it old now =
    (now ≡ room (room_of it.address (without it.digits old)) ++ joined (known it.digits old) it ∷ [])
    ⊎ (now ≡ room (room_of it.address (without it.digits old)))
