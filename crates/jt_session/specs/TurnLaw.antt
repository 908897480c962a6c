-- The laws of turns (this project's own). To be believed.
use Rattle.std.specs.Prelude.{◌≡◌, ◌↔◌, ℕ, List, [], ◌∷◌, ◌++◌, true, false, if◌then◌else◌, None, Some}
use Rattle.jt_value.specs.Octets.{AreOctets}
use Rattle.jt_escape.specs.Splitter.{StandsFor}
use Rattle.jt_stream.specs.Unplaced.{Unplaced}
use Rattle.jt_platform.specs.Allowed.{Opening, makes_entry}
use Rattle.jt_platform.specs.declared.request.Entry.{Entry}
use Rattle.jt_platform.specs.declared.request.Request.{Request}
use Rattle.jt_platform.specs.declared.request.Reply.{Reply}
use Rattle.jt_session.specs.declared.end.Fed.{Fed}
use Rattle.jt_session.specs.declared.end.Fed.TheVariants.{On}
use Rattle.jt_session.specs.Talk.{Turn, Talk, FitsFrom, asks, start, talk_from}
use Rattle.jt_session.specs.Sessions.{AreUnasked, Feeds, Seen, Turns, before, end_of, ended_short, turn_by}

-- a session that has read nothing
pub record IsNew (s : Seen) : Type 0 where
  pub state : s.state ≡ start
  pub stream : StandsFor s.stream []
  pub waiting : s.waiting ≡ None
  pub over : s.over ≡ false

pub record TurnsGoOn : Type 0 where
  -- turns behind turns are the turns of both
  pub turns : (s mid now : Seen) (a b : List ℕ) (older newer : List Turn) → AreOctets a → mid.over ≡ false → Turns s mid a older → Turns mid now b newer → Turns s now (a ++ b) (newer ++ older)
  -- their entries, newest first, and what they wrote stand one behind the other
  pub entries : (s mid now : Seen) (a b : List ℕ) (older newer : List Turn) → mid.over ≡ false → Turns s mid a older → Turns mid now b newer
      → (talk_from (before s) (newer ++ older)).entries ≡ (talk_from (before mid) newer).entries ++ (talk_from (before s) older).entries
  pub written : (s mid now : Seen) (a b : List ℕ) (older newer : List Turn) → mid.over ≡ false → Turns s mid a older → Turns mid now b newer
      → (talk_from (before s) (newer ++ older)).written ≡ (talk_from (before s) older).written ++ (talk_from (before mid) newer).written
  -- turns without replies make no entries, and a reply to what an item asks makes one if it is of those that do
  pub unasked : (s : Seen) (turns : List Turn) → AreUnasked turns → (talk_from (before s) turns).entries ≡ []
  pub replied : (s : Seen) (item : Unplaced) (q : Request) (r : Reply) → asks s.state item ≡ Some q → (talk_from (before s) (turn_by r item ∷ [])).entries ≡ (if makes_entry r then (q, r) ∷ [] else [])
  -- a session goes on exactly where the last of its turns does not end it
  pub ends : (s : Seen) (turns : List Turn) → FitsFrom (before s) turns → s.over ≡ false → ((talk_from (before s) turns).over ≡ false) ↔ (end_of turns ≡ On)
  -- a session that goes on, or that a reply ended, wanted no memory at its last item before that asked or wrote
  pub not_short : (s : Seen) (turns : List Turn) → (talk_from (before s) turns).over ≡ false → ended_short turns ≡ false
  pub reply_not_short : (r : Reply) (item : Unplaced) (older : List Turn) → ended_short (turn_by r item ∷ older) ≡ false
  -- octets behind the item that ended a session change nothing
  pub behind : (s now : Seen) (a b : List ℕ) (turns : List Turn) → now.over ≡ true → Turns s now a turns → Turns s now (a ++ b) turns
  -- the turns of a new session, where no request waits, are a talk
  pub talk : (s now : Seen) (read : List ℕ) (turns : List Turn) → IsNew s → now.waiting ≡ None → Turns s now read turns → Talk read (talk_from (before s) turns).entries (talk_from (before s) turns).written

-- octets that are fed one piece after another
pub record FeedsGoOn : Type 0 where
  -- octets fed behind others, over the hub that those left, are fed as both at once, with the turns of both
  pub both : (s mid now : Seen) (a b : List ℕ) (o : Opening) (h h_mid h_now : List Entry) (out out_mid out_now : List ℕ) (fed : Fed) (first : Feeds s mid a o h h_mid out out_mid On) (second : Feeds mid now b o h_mid h_now out_mid out_now fed)
      → mid.over ≡ false → AreOctets a → (all : Feeds s now (a ++ b) o h h_now out out_now fed) × (all.turns ≡ second.turns ++ first.turns)
  -- octets behind the item that ended a session change nothing
  pub behind : (s now : Seen) (a b : List ℕ) (o : Opening) (h h_now : List Entry) (out out_now : List ℕ) (fed : Fed) (first : Feeds s now a o h h_now out out_now fed)
      → now.over ≡ true → (all : Feeds s now (a ++ b) o h h_now out out_now fed) × (all.turns ≡ first.turns)
