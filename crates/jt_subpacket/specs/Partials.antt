-- Partial messages: the packets that came of messages which are not whole yet (this project's own). To be believed.
use Rattle.std.specs.Prelude.{◌≡◌, ℕ, zero, suc, ◌+◌, ◌-◌, ◌≤◌, ◌%◌, Bool, ◌==◌, ◌&&◌, not, if◌then◌else◌, List, [], ◌∷◌, ◌++◌, length, Option, None, Some, slice_get}
use Rattle.std.specs.FinMap.{FinMap, get, insert, contains_key}
use Rattle.std.specs.List.{filter, flat_map}
use Rattle.std.specs.Option.{unwrap_or}
use Rattle.std.specs.Ordering.{nat_cmp}
use Rattle.jt_header.specs.declared.header.Header.{Header}
use Rattle.jt_header.specs.declared.header.Packet.{Packet}
use Rattle.jt_subpacket.specs.declared.key.PartKey.{PartKey}

-- from packet numbers to octets
abbrev pub Pieces : Type 0
Pieces = FinMap nat_cmp (List ℕ)

-- a message and the octets that are kept of it
pub record Partial : Type 0 where
  pub key : PartKey
  pub pieces : Pieces

-- the serial of packet 1: serials of a message go up by one, from 65,535 to 0
abbrev pub first_serial : ℕ → ℕ → ℕ
first_serial serial number = (serial + 65536 - (number - 1)) % 65536

-- the message that a packet is of
abbrev pub key_of : Header → Packet → PartKey
key_of h packet = record { id = h.id; first = first_serial h.serial packet.number; total = packet.total }

abbrev pub same_key : PartKey → PartKey → Bool
same_key a b = (a.id == b.id) && (a.first == b.first) && (a.total == b.total)

-- the numbers from 1 to this one, upwards
abbrev pub numbers : ℕ → List ℕ
numbers zero = []
numbers (suc n) = numbers n ++ suc n ∷ []

-- the numbers up to the total under which nothing is kept, upwards
abbrev pub missing : ℕ → Pieces → List ℕ
missing total pieces = filter (λ number. not (contains_key pieces number)) (numbers total)

-- the octets kept under a number, none where nothing is kept
abbrev pub piece : Pieces → ℕ → List ℕ
piece pieces number = unwrap_or (get pieces number) []

-- the octets under the numbers up to the total, one after the other
abbrev pub octets_joined : ℕ → Pieces → List ℕ
octets_joined total pieces = flat_map (piece pieces) (numbers total)

-- octets that are kept are never replaced
abbrev pub with_piece : Pieces → ℕ → List ℕ → Pieces
with_piece pieces number body = if contains_key pieces number then pieces else insert pieces number body

-- what is kept of a message, None where nothing is
abbrev pub kept_of : PartKey → List Partial → Option Pieces
kept_of key [] = None
kept_of key (p ∷ ps) = if same_key p.key key then Some p.pieces else kept_of key ps

-- the partial messages with other octets kept of one of them
abbrev pub with_pieces : PartKey → Pieces → List Partial → List Partial
with_pieces key pieces [] = []
with_pieces key pieces (p ∷ ps) = if same_key p.key key then record { key = p.key; pieces = pieces } ∷ ps else p ∷ with_pieces key pieces ps

-- the partial messages without one of them
abbrev pub without : PartKey → List Partial → List Partial
without key [] = []
without key (p ∷ ps) = if same_key p.key key then ps else p ∷ without key ps

-- how many octets are kept of a message
abbrev pub octets_kept : Partial → ℕ
octets_kept p = length (octets_joined p.key.total p.pieces)

abbrev pub all_octets_kept : List Partial → ℕ
all_octets_kept [] = 0
all_octets_kept (p ∷ ps) = octets_kept p + all_octets_kept ps

-- nothing is kept under other numbers than those from 1 to the total
abbrev pub HasNumbers : Partial → Type 0
HasNumbers p = (number : ℕ) (octets : List ℕ) → get p.pieces number ≡ Some octets → (1 ≤ number) × (number ≤ p.key.total)

-- at most 4 messages, 256 packets of each and 1,047,552 octets
pub record IsBounded (ps : List Partial) : Type 0 where
  pub messages : length ps ≤ 4
  pub packets : (place : ℕ) (p : Partial) → slice_get ps place ≡ Some p → HasNumbers p × (p.key.total ≤ 256)
  pub octets : all_octets_kept ps ≤ 1047552
