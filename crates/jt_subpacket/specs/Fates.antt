-- What one more packet is told, and the partial messages that packets leave (this project's own rules). To be believed.
use Rattle.std.specs.Prelude.{◌≤◌, ℕ, ◌==◌, nat_lt, if◌then◌else◌, List, [], ◌∷◌, ◌++◌, length, drop, Option, None, Some, slice_get}
use Rattle.std.specs.FinMap.{empty, contains_key}
use Rattle.std.specs.Option.{option_map}
use Rattle.jt_value.specs.declared.limits.TheConstants.{OCTET_COUNT_LIMIT}
use Rattle.jt_header.specs.declared.header.Header.{Header}
use Rattle.jt_header.specs.declared.header.Packet.{Packet}
use Rattle.jt_subpacket.specs.declared.key.PartKey.{PartKey}
use Rattle.jt_subpacket.specs.declared.taken.Fate.{Fate}
use Rattle.jt_subpacket.specs.declared.taken.Fate.TheVariants.{TooMany, Whole, Resend, Repeat, Kept}
use Rattle.jt_subpacket.specs.Parts.{Message}
use Rattle.jt_subpacket.specs.Partials.{Partial, Pieces, key_of, kept_of, with_pieces, without, with_piece, missing, octets_joined}

-- the most packets of a message, and the most partial messages
abbrev pub packet_limit : ℕ
packet_limit = 256

abbrev pub message_limit : ℕ
message_limit = 4

-- what a packet is told, the message that was dropped for it, and the partial messages afterwards
pub record Taken : Type 0 where
  pub dropped : Option PartKey
  pub fate : Fate
  pub partial : List Partial

-- What a packet is told whose message is not whole with it, by what was kept before and is kept now. The last packet asks for those
-- that are missing.
abbrev pub unfinished : PartKey → ℕ → Pieces → Pieces → Fate
unfinished key number was now =
    if number == key.total then Resend key.first (missing key.total now)
    else if contains_key was number then Repeat
    else Kept

-- Of a message that is begun, octets under a new number are kept. Once all numbers are there the message is whole, and gone.
abbrev pub packet_fate : PartKey → ℕ → Pieces → Pieces → List ℕ → Fate
packet_fate key number was now [] = Whole key.id key.first (octets_joined key.total now)
packet_fate key number was now (n ∷ ns) = unfinished key number was now

abbrev pub left : PartKey → Pieces → List ℕ → List Partial → List Partial
left key now [] ps = without key ps
left key now (n ∷ ns) ps = with_pieces key now ps

abbrev pub goes_on : List Partial → PartKey → ℕ → List ℕ → Pieces → Taken
goes_on ps key number body was =
    let now = with_piece was number body in
    record { dropped = None; fate = packet_fate key number was now (missing key.total now); partial = left key now (missing key.total now) ps }

-- A message that is not begun begins, and where four stand the one that began first is dropped.
abbrev pub begins : List Partial → PartKey → ℕ → List ℕ → Taken
begins ps key number body =
    let now = with_piece empty number body in
    let begun : Partial = record { key = key; pieces = now } in
    if nat_lt (length ps) message_limit
    then record { dropped = None; fate = unfinished key number empty now; partial = ps ++ begun ∷ [] }
    else record { dropped = option_map (λ p. p.key) (slice_get ps 0); fate = unfinished key number empty now; partial = drop 1 ps ++ begun ∷ [] }

abbrev pub taken_in : List Partial → PartKey → ℕ → List ℕ → Option Pieces → Taken
taken_in ps key number body None = begins ps key number body
taken_in ps key number body (Some was) = goes_on ps key number body was

-- a total above 256 is refused, and the only packet of a message is the whole of it
abbrev pub taken_as : List Partial → Header → List ℕ → Packet → Taken
taken_as ps h body packet =
    if nat_lt packet_limit packet.total then record { dropped = None; fate = TooMany packet.total; partial = ps }
    else if packet.total == 1 then record { dropped = None; fate = Whole h.id h.serial body; partial = ps }
    else taken_in ps (key_of h packet) packet.number body (kept_of (key_of h packet) ps)

-- What a packet is told over the partial messages that stand. What has no packet fields is no packet, and changes nothing.
abbrev pub taken_by_fields : List Partial → Header → List ℕ → Option Packet → Taken
taken_by_fields ps h body None = record { dropped = None; fate = Kept; partial = ps }
taken_by_fields ps h body (Some packet) = taken_as ps h body packet

abbrev pub taken_by : List Partial → Header → List ℕ → Taken
taken_by ps h body = taken_by_fields ps h body h.packet

-- the partial messages that packets leave over others, the newest packet first
abbrev pub left_over : List Partial → List Message → List Partial
left_over ps [] = ps
left_over ps (q ∷ packets) = (taken_by (left_over ps packets) q.0 q.1).partial

-- the partial messages that all packets taken so far leave
abbrev pub left_by : List Message → List Partial
left_by packets = left_over [] packets

-- a whole message has at most 261,888 octets, and at most 255 numbers are missing
abbrev pub IsWithinLimits : Fate → Type 0
IsWithinLimits (Whole id serial body) = length body ≤ 261888
IsWithinLimits (Resend first missing) = length missing ≤ OCTET_COUNT_LIMIT
IsWithinLimits (TooMany total) = Unit {0}
IsWithinLimits Repeat = Unit {0}
IsWithinLimits Kept = Unit {0}
