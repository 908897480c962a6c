-- What contracts see of a session, and what its calls did (this project's own). To be believed.
use Rattle.std.specs.Prelude.{◌≡◌, ◌≢◌, ◌≤◌, ℕ, List, [], ◌∷◌, ◌++◌, map, Bool, true, false, if◌then◌else◌, Option, None, Some, IsSomeAnd}
use Rattle.std.specs.Option.{option_to_list}
use Rattle.jt_value.specs.declared.limits.TheConstants.{FRAME_LIMIT}
use Rattle.jt_value.specs.Octets.{AreOctets}
use Rattle.jt_escape.specs.Scan.{State as Splitting}
use Rattle.jt_escape.specs.Splitter.{StandsFor}
use Rattle.jt_stream.specs.Unplaced.{Unplaced, items}
use Rattle.jt_value.specs.Counts.{Rose}
use Rattle.jt_platform.specs.declared.request.Request.{Request}
use Rattle.jt_platform.specs.declared.request.Reply.{Reply}
use Rattle.jt_platform.specs.declared.request.Reply.TheVariants as say
use Rattle.jt_platform.specs.declared.request.Entry.{Entry}
use Rattle.jt_platform.specs.Allowed.{Opening, Allowed, is_trouble, makes_entry}
use Rattle.jt_session.specs.declared.end.End.TheVariants as ends
use Rattle.jt_session.specs.declared.step.Step.{Step}
use Rattle.jt_session.specs.declared.step.Step.TheVariants.{More, Ask, Memory}
use Rattle.jt_session.specs.declared.end.Fed.{Fed}
use Rattle.jt_session.specs.declared.end.Fed.TheVariants.{On, Stop}
use Rattle.jt_session.specs.Talk.{State, Turn, Way, Goes, Stops, Talked, talk_from, at_state, FitsFrom, items_of, asks}
use Rattle.jt_session.specs.Law.{ran_short}

-- a session's number, where its stream stands, its state before the item whose request waits, that item, and whether it is over
pub record Seen : Type 0 where
  pub number : ℕ
  pub stream : Splitting
  pub state : State
  pub waiting : Option Unplaced
  pub over : Bool

abbrev pub before : Seen → Talked
before s = record (at_state s.state) { over = s.over }

-- what a report tells of a state
abbrev pub counts : State → ℕ × ℕ × ℕ
counts s = (s.frames, s.refused, s.dropped)

-- memory was wanted at the last item, before it asked or wrote
abbrev pub ended_short : List Turn → Bool
ended_short [] = false
ended_short (t ∷ older) = ran_short t.way

-- The octets brought these turns, newest first: whatever octets were read before, its items go on with theirs, then with the item whose
-- request waits, and with nothing else unless the session is over. The state is that of the turns, also where a reply ended the
-- session; where memory was wanted before the last item asked or wrote, the counts alone are told.
pub record Turns (s now : Seen) (octets : List ℕ) (turns : List Turn) : Type 0 where
  pub fits : FitsFrom (before s) turns
  pub state : ended_short turns ≡ false → now.state ≡ (talk_from (before s) turns).state
  pub counted : counts now.state ≡ counts (talk_from (before s) turns).state
  pub over : now.over ≡ (talk_from (before s) turns).over
  pub number : now.number ≡ s.number
  pub items : (read : List ℕ) (gone : List Unplaced) → AreOctets read → StandsFor s.stream read → items read ≡ gone ++ option_to_list s.waiting
      → (rest : List Unplaced) × (items (read ++ octets) ≡ gone ++ (items_of turns ++ (option_to_list now.waiting ++ rest)))
      × (now.over ≡ false → (rest ≡ []) × StandsFor now.stream (read ++ octets))

-- no reply is in the turns
abbrev pub is_unasked : Way → Bool
is_unasked (Goes None) = true
is_unasked (Stops None) = true
is_unasked way = false

abbrev pub AreUnasked : List Turn → Type 0
AreUnasked [] = Unit {0}
AreUnasked (t ∷ older) = (is_unasked t.way ≡ true) × AreUnasked older

-- the octets were taken, which brought these turns, none with a reply, and what was written stands behind what was there
pub record TakesUnasked (s now : Seen) (octets out out_now : List ℕ) : Type 0 where
  pub turns : List Turn
  pub went : Turns s now octets turns
  pub unasked : AreUnasked turns
  pub wrote : out_now ≡ out ++ (talk_from (before s) turns).written

-- What octets led to. A request waits, which is what the item asks; or none does, and where memory was wanted the session is over.
abbrev pub LedTo : Seen → Step → Type 0
LedTo now More = (now.waiting ≡ None) × (now.over ≡ false)
LedTo now (Ask q) = IsSomeAnd now.waiting (λ item. asks now.state item ≡ Some q) × (now.over ≡ false)
LedTo now Memory = (now.waiting ≡ None) × (now.over ≡ true)

-- where a request waits there is room for any answer
abbrev pub HasRoom : ℕ → Step → Type 0
HasRoom spare (Ask q) = FRAME_LIMIT ≤ spare
HasRoom spare step = Unit {0}

-- ---- the answer to a request

-- how the session goes on by a reply
abbrev pub way_by : Reply → Way
way_by r = if makes_entry r then Goes (Some r) else Stops (Some r)

-- the turn of the item whose request waits
abbrev pub turn_by : Reply → Unplaced → Turn
turn_by r item = record { item = item; way = way_by r }

-- Fenced, ListFull, StoreFault and Memory end the session
abbrev pub feed_end : Reply → Fed
feed_end (say.Fenced other) = Stop (ends.Fenced other)
feed_end (say.ListFull l) = Stop (ends.ListFull l)
feed_end say.StoreFault = Stop ends.StoreFault
feed_end say.Memory = Stop ends.Memory
feed_end reply = On

-- the reply was the answer to the request of the item: its turn was gone on with, and this was written
pub record IsRepliedTo (s now : Seen) (r : Reply) (out out_now : List ℕ) (item : Unplaced) : Type 0 where
  pub turn : Turns s now [] (turn_by r item ∷ [])
  pub wrote : out_now ≡ out ++ (talk_from (before s) (turn_by r item ∷ [])).written

-- ---- over a hub, whose history is newest entry first

abbrev pub entries_on : ℕ → List (Request × Reply) → List Entry
entries_on session pairs = map (λ (pair : Request × Reply). record { session = session; request = pair.0; reply = pair.1 }) pairs

-- a reply is allowed by the history, but want of memory and faults of the keeper, which may come at any time
abbrev pub MayGo : Opening → List Entry → ℕ → Option Request → Way → Type 0
MayGo o h session (Some q) (Goes (Some r)) = Allowed o h session q r
MayGo o h session (Some q) (Stops (Some r)) = is_trouble r ≡ false → Allowed o h session q r
MayGo o h session asked way = Unit {0}

-- each reply is allowed over the entries before it
abbrev pub MayTurn : Opening → List Entry → ℕ → Talked → List Turn → Type 0
MayTurn o h session k [] = Unit {0}
MayTurn o h session k (t ∷ older) =
    MayGo o (entries_on session (talk_from k older).entries ++ h) session (asks (talk_from k older).state t.item) t.way
    × MayTurn o h session k older

-- how the last of the turns ended the session, newest turn first: by its reply, or by want of memory before it asked or wrote
abbrev pub end_by : Way → Fed
end_by (Goes None) = On
end_by (Goes (Some r)) = feed_end r
end_by (Stops None) = Stop ends.Memory
end_by (Stops (Some r)) = feed_end r

abbrev pub end_of : List Turn → Fed
end_of [] = On
end_of (t ∷ older) = end_by t.way

-- the octets were fed to the session over a hub: its turns, each reply allowed, its entries, what was written, and how it ended
pub record Feeds (s now : Seen) (octets : List ℕ) (o : Opening) (h h_now : List Entry) (out out_now : List ℕ) (fed : Fed) : Type 0 where
  pub turns : List Turn
  pub went : Turns s now octets turns
  pub allowed : MayTurn o h s.number (before s) turns
  pub entries : h_now ≡ entries_on s.number (talk_from (before s) turns).entries ++ h
  pub wrote : out_now ≡ out ++ (talk_from (before s) turns).written
  pub ended : fed ≡ end_of turns

-- What feeding says of the keeper's faults: the count never falls, a session ends by StoreFault only where it rose, and goes on or ends
-- otherwise, so by Memory too, only where it stood still; where no call may fail none does and no session ends by StoreFault.
pub record HasFedReason (before now : ℕ) (may may_now : Bool) (fed : Fed) : Type 0 where
  pub later : before ≤ now
  pub fault : fed ≡ Stop ends.StoreFault → Rose before now
  pub still : fed ≢ Stop ends.StoreFault → now ≡ before
  pub steady : may ≡ false → (may_now ≡ false) × (fed ≢ Stop ends.StoreFault)
