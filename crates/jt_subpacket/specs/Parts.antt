-- The packets of a message, as the standard's subpackets have them. To be believed.
use Rattle.std.specs.Prelude.{◌≡◌, ℕ, ◌+◌, ◌-◌, ◌<◌, ◌≤◌, ◌%◌, List, [], ◌∷◌, length, None, Some, IfSome, slice_get}
use Rattle.std.specs.List.{flat_map}
use Rattle.jt_value.specs.declared.limits.TheConstants.{BODY_LIMIT}
use Rattle.jt_header.specs.declared.header.Header.{Header}

-- the most octets of a packet's body
abbrev pub packet_octets : ℕ
packet_octets = BODY_LIMIT

-- a header and a body
abbrev pub Message : Type 0
Message = Header × List ℕ

-- The header of the packet at a place, of so many: numbers count from 1, and serials go on from the message's, from 65,535 to 0.
abbrev pub packet_header : Header → ℕ → ℕ → Header
packet_header h total place = record h { serial = (h.serial + place) % 65536; packet = Some (record { total = total; number = place + 1 }) }

-- a message in packets, each full but the last
pub record InPackets (h : Header) (body : List ℕ) (packets : List Message) : Type 0 where
  pub headers : (place : ℕ) → IfSome (slice_get packets place) (λ p. p.0 ≡ packet_header h (length packets) place)
  pub joined : flat_map (λ p. p.1) packets ≡ body
  pub full : (place : ℕ) → place + 1 < length packets → IfSome (slice_get packets place) (λ p. length p.1 ≡ packet_octets)
  pub last : IfSome (slice_get packets (length packets - 1)) (λ p. (0 < length p.1) × (length p.1 ≤ packet_octets))

-- a body that fits one packet is one without packet fields, and a longer one is in packets
pub record Parts (h : Header) (body : List ℕ) (packets : List Message) : Type 0 where
  pub whole : length body ≤ packet_octets → packets ≡ (record h { packet = None }, body) ∷ []
  pub split : packet_octets < length body → InPackets h body packets
