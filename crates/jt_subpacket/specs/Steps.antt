-- The packets of a message as a list; what the calls inside an assembler answer, and what holds of all that it keeps. But for the packets these
-- are step definitions for the proofs, which no public clause cites.
use Rattle.std.specs.Prelude.{◌≡◌, ℕ, zero, suc, ◌+◌, ◌-◌, ◌*◌, ◌≤◌, ◌<◌, ◌/◌, nat_le, None, Bool, ◌==◌, ◌||◌, not, if◌then◌else◌, List, [], ◌∷◌, ◌++◌, length, take, drop, Some, slice_get, slice_set}
use Rattle.std.specs.FinMap.{get, len, contains_key}
use Rattle.std.specs.List.{filter, flat_map, remove}
use Rattle.jt_value.specs.declared.limits.TheConstants.{BODY_LIMIT}
use Rattle.jt_header.specs.declared.header.Header.{Header}
use Rattle.jt_subpacket.specs.Parts.{Message, packet_header, packet_octets}
use Rattle.jt_subpacket.specs.Partials.{Partial, Pieces, HasNumbers, missing, numbers, piece, with_piece}
use Rattle.jt_subpacket.specs.Fates.{packet_fate}
use Rattle.jt_subpacket.specs.declared.taken.Fate.{Fate}

-- ---- split

-- the piece of a body that a packet has
abbrev pub piece_of : List ℕ → ℕ → List ℕ
piece_of body place = take BODY_LIMIT (drop (place * BODY_LIMIT) body)

-- the first packets of a message
abbrev pub front : Header → ℕ → List ℕ → ℕ → List Message
front h total body zero = []
front h total body (suc place) = front h total body place ++ (packet_header h total place, piece_of body place) ∷ []

-- the packets of a message: one without packet fields, or pieces of 1,023 octets and a rest
abbrev pub packets_of : Header → List ℕ → List Message
packets_of h body =
    if nat_le (length body) packet_octets then (record h { packet = None }, body) ∷ []
    else front h ((length body + (BODY_LIMIT - 1)) / BODY_LIMIT) body ((length body + (BODY_LIMIT - 1)) / BODY_LIMIT)

-- ---- what is kept of a message

-- whether a number is there once this one is
abbrev pub has_beside : Pieces → ℕ → ℕ → Bool
has_beside pieces number other = (other == number) || contains_key pieces other

-- the numbers that are missing once this one is there
abbrev pub missing_beside : ℕ → Pieces → ℕ → List ℕ
missing_beside total pieces number = filter (λ other. not (has_beside pieces number other)) (numbers total)

-- what stands under a number once these octets stand under that one
abbrev pub piece_beside : Pieces → ℕ → List ℕ → ℕ → List ℕ
piece_beside pieces number body other = if other == number then body else piece pieces other

abbrev pub joined_beside : ℕ → Pieces → ℕ → List ℕ → List ℕ
joined_beside total pieces number body = flat_map (piece_beside pieces number body) (numbers total)

-- what holds of each partial message
pub record IsPartial (p : Partial) : Type 0 where
  pub several : 2 ≤ p.key.total
  pub few : p.key.total ≤ 256
  pub count : len p.pieces + length (missing p.key.total p.pieces) ≡ p.key.total
  pub unfinished : len p.pieces < p.key.total
  pub own : HasNumbers p
  pub short : (number : ℕ) (octets : List ℕ) → get p.pieces number ≡ Some octets → length octets ≤ BODY_LIMIT

-- what holds of all that an assembler keeps
pub record AreKept (ps : List Partial) : Type 0 where
  pub few : length ps ≤ 4
  pub each : (place : ℕ) (p : Partial) → slice_get ps place ≡ Some p → IsPartial p

-- ---- what an assembler does

-- what a packet of a message that is begun is told
abbrev pub fate_at : Partial → ℕ → List ℕ → Fate
fate_at p number body =
    let now = with_piece p.pieces number body in
    packet_fate p.key number p.pieces now (missing p.key.total now)

-- the partial messages with another at a place, or none there
abbrev pub left_there : List Partial → ℕ → Partial → List ℕ → List Partial
left_there ps place p [] = remove ps place
left_there ps place p (n ∷ ns) = slice_set ps place p

-- the partial messages once a packet of the one at a place has come
abbrev pub left_at : List Partial → ℕ → Partial → ℕ → List ℕ → List Partial
left_at ps place p number body =
    let now = with_piece p.pieces number body in
    left_there ps place (record { key = p.key; pieces = now }) (missing p.key.total now)

-- a packet of this partial message was told this fate, and these messages were left
pub record AnswersPacket (ps : List Partial) (place number : ℕ) (body : List ℕ) (fate : Fate) (now : List Partial) (p : Partial) : Type 0 where
  pub fate_is : fate ≡ fate_at p number body
  pub now_is : now ≡ left_at ps place p number body
