-- The laws of talks and of answers (this project's own). To be believed.
use Rattle.std.specs.Prelude.{◌≡◌, ◌≢◌, ◌⊎◌, ℕ, List, [], ◌∷◌, ◌++◌, length, Bool, true, false, if◌then◌else◌, Option, None, Some}
use Rattle.jt_value.specs.declared.ids.TheConstants.{BATCH, POSITION}
use Rattle.jt_header.specs.declared.header.Header.{Header}
use Rattle.jt_codec.specs.declared.message.Message.TheVariants as message
use Rattle.jt_platform.specs.declared.request.Request.{Request}
use Rattle.jt_platform.specs.declared.request.Reply.{Reply}
use Rattle.jt_platform.specs.declared.request.Reply.TheVariants as say
use Rattle.jt_session.specs.Talk.{Turn, Way, Goes, Stops, Talk, ack, answer_to}

-- the replies that were given, newest first
abbrev pub reply_in : Way → List Reply
reply_in (Goes None) = []
reply_in (Goes (Some r)) = r ∷ []
reply_in (Stops None) = []
reply_in (Stops (Some r)) = r ∷ []

abbrev pub replies_of : List Turn → List Reply
replies_of [] = []
replies_of (t ∷ older) = reply_in t.way ++ replies_of older

-- whether memory was wanted before the item asked or wrote
abbrev pub ran_short : Way → Bool
ran_short (Stops None) = true
ran_short way = false

-- where memory was wanted so at the last item, how many items were gone through before it
abbrev pub short_at : List Turn → Option ℕ
short_at [] = None
short_at (t ∷ older) = if ran_short t.way then Some (length older) else None

-- What was read, with the replies, and with the item at which memory was wanted, if it was, has one list of requests with replies,
-- and one list of octets written.
abbrev pub IsOneTalk : Type 0
IsOneTalk =
    (read : List ℕ) (entries others : List (Request × Reply)) (written other_octets : List ℕ)
    → (one : Talk read entries written) (other : Talk read others other_octets) → replies_of one.turns ≡ replies_of other.turns → short_at one.turns ≡ short_at other.turns
    → (entries ≡ others) × (written ≡ other_octets)

-- a unit is one message of positions
abbrev pub IsUnitId : ℕ → Type 0
IsUnitId id = (id ≡ POSITION) ⊎ (id ≡ BATCH)

-- the unit stands in a row
abbrev pub is_stored : Reply → Bool
is_stored (say.Stored n) = true
is_stored (say.Repeat n) = true
is_stored (say.Renumbered n) = true
is_stored reply = false

-- A unit that stands in a row is answered with result 0. At any other reply no general response that is written has a result that
-- a terminal takes for the unit's acceptance, which are 0 and 4.
pub record IsAcceptedOnceStored : Type 0 where
  pub stored : (h : Header) (r : Reply) → is_stored r ≡ true → answer_to h r ≡ Some (ack h 0)
  pub otherwise : (h : Header) (r : Reply) (serial id result : ℕ) → IsUnitId h.id → is_stored r ≡ false
      → answer_to h r ≡ Some (message.PlatformAck serial id result) → (result ≢ 0) × (result ≢ 4)
