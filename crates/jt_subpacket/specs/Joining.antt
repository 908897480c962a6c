-- The law of packets: those of one message, in any order and with repeats, are joined to it. To be believed.
use Rattle.std.specs.Prelude.{◌≡◌, ℕ, ◌+◌, ◌-◌, ◌<◌, ◌≤◌, ◌%◌, ◌^◌, ◌==◌, IsTrue, List, [], ◌∷◌, length, Option, None, Some, slice_get}
use Rattle.std.specs.List.{flat_map, list_any, AllByRecursion}
use Rattle.std.specs.Option.{option_map, unwrap_or}
use Rattle.jt_header.specs.declared.header.Header.{Header}
use Rattle.jt_header.specs.declared.header.Packet.{Packet}
use Rattle.jt_subpacket.specs.declared.key.PartKey.{PartKey}
use Rattle.jt_subpacket.specs.declared.taken.Fate.{Fate}
use Rattle.jt_subpacket.specs.declared.taken.Fate.TheVariants.{Whole}
use Rattle.jt_subpacket.specs.Parts.{InPackets, Message}
use Rattle.jt_subpacket.specs.Partials.{Partial, first_serial, kept_of, numbers}
use Rattle.jt_subpacket.specs.Fates.{left_over, taken_by}

-- a message of at most 256 packets
pub record IsKey (key : PartKey) : Type 0 where
  pub first : key.first < 2 ^ 16
  pub some : 1 ≤ key.total
  pub few : key.total ≤ 256

-- a packet's number, 0 without packet fields
abbrev pub number_in : Option Packet → ℕ
number_in None = 0
number_in (Some packet) = packet.number

abbrev pub number_of : Message → ℕ
number_of q = number_in q.0.packet

-- A packet of this message: its id and total, a number from 1 to the total, the serial that goes with the number, and the octets that
-- stand under the number, the same in each packet of the number.
pub record IsPacketOf (key : PartKey) (octets : ℕ → List ℕ) (q : Message) : Type 0 where
  pub id : q.0.id ≡ key.id
  pub packet : q.0.packet ≡ Some (record { total = key.total; number = number_of q })
  pub low : 1 ≤ number_of q
  pub high : number_of q ≤ key.total
  pub serial : q.0.serial ≡ (key.first + (number_of q - 1)) % 65536
  pub body : q.1 ≡ octets (number_of q)

-- each number from 1 to the total is there
abbrev pub AreAllThere : ℕ → List Message → Type 0
AreAllThere total packets = (number : ℕ) → 1 ≤ number → number ≤ total → IsTrue (list_any (λ q. number_of q == number) packets)

-- the message itself
abbrev pub whole_body : ℕ → (ℕ → List ℕ) → List ℕ
whole_body total octets = flat_map octets (numbers total)

-- what one more packet is told after others, the newest first
abbrev pub fate_after : List Partial → List Message → Message → Fate
fate_after ps packets q = (taken_by (left_over ps packets) q.0 q.1).fate

-- the answer is a whole message
abbrev pub IsWhole : Fate → Type 0
IsWhole fate = (id : ℕ) × (serial : ℕ) × (body : List ℕ) × (fate ≡ Whole id serial body)

-- The packets of one message, no other among them, are taken by an assembler that keeps nothing of this message. While a number is
-- missing no answer is a whole message. The packet with which all are there first is told the whole message, and then nothing of it is
-- kept: so each number must come again before the next whole one.
pub record IsJoinedOnce : Type 0 where
  pub before : (key : PartKey) (octets : ℕ → List ℕ) (ps : List Partial) (packets : List Message) (q : Message)
      → IsKey key → kept_of key ps ≡ None → AllByRecursion (IsPacketOf key octets) (q ∷ packets)
      → (AreAllThere key.total (q ∷ packets) → ⊥) → IsWhole (fate_after ps packets q) → ⊥
  pub whole : (key : PartKey) (octets : ℕ → List ℕ) (ps : List Partial) (packets : List Message) (q : Message)
      → IsKey key → kept_of key ps ≡ None → AllByRecursion (IsPacketOf key octets) (q ∷ packets)
      → (AreAllThere key.total packets → ⊥) → AreAllThere key.total (q ∷ packets)
      → fate_after ps packets q ≡ Whole key.id key.first (whole_body key.total octets)
  pub gone : (key : PartKey) (octets : ℕ → List ℕ) (ps : List Partial) (packets : List Message) (q : Message)
      → IsKey key → kept_of key ps ≡ None → AllByRecursion (IsPacketOf key octets) (q ∷ packets)
      → (AreAllThere key.total packets → ⊥) → AreAllThere key.total (q ∷ packets)
      → kept_of key (left_over ps (q ∷ packets)) ≡ None

-- The header of a whole message: that of the packet that completed it, so its id, phone, edition and version, with the serial of
-- packet 1 and without packet fields.
abbrev pub joined_header : Header → Header
joined_header h = record h { serial = first_serial h.serial (number_in h.packet); packet = None }

-- a whole message has the id of the packet that completed it, and the serial of packet 1
abbrev pub IsNamedByItsPackets : Type 0
IsNamedByItsPackets =
    (ps : List Partial) (h : Header) (body whole : List ℕ) (id serial : ℕ) → h.serial < 2 ^ 16 → 1 ≤ number_in h.packet
    → (packet : Packet) → h.packet ≡ Some packet → packet.number ≤ packet.total
    → (taken_by ps h body).fate ≡ Whole id serial whole → (id ≡ (joined_header h).id) × (serial ≡ (joined_header h).serial)

-- the octets under each number of packets that stand in order
abbrev pub octets_in : List Message → ℕ → List ℕ
octets_in packets number = unwrap_or (option_map (λ q. q.1) (slice_get packets (number - 1))) []

-- A message in at most 256 packets is a message in the sense of the law above, and the whole message is its body. So what is split is
-- joined again, in whatever order its packets come.
pub record IsSplitAndJoined (h : Header) (body : List ℕ) (packets : List Message) : Type 0 where
  pub each : (place : ℕ) (q : Message) → slice_get packets place ≡ Some q → IsPacketOf (record { id = h.id; first = h.serial; total = length packets }) (octets_in packets) q
  pub whole : whole_body (length packets) (octets_in packets) ≡ body

abbrev pub IsJoinedAgain : Type 0
IsJoinedAgain = (h : Header) (body : List ℕ) (packets : List Message) → length packets ≤ 256 → InPackets h body packets → IsSplitAndJoined h body packets
