-- A session over a pass of a turn: what hearing octets did (this project's own). To be believed.
use Rattle.std.specs.Prelude.{◌≡◌, ◌≤◌, ◌<◌, ◌-◌, ◌^◌, ◌⊎◌, ℕ, List, [], ◌∷◌, ◌++◌, length, map, Option, None, Some, IfSome}
use mathlib.Core.List.{IsPrefix}
use Rattle.jt_value.specs.Sameness.{key_of}
use Rattle.jt_value.specs.declared.phone.Phone.{Phone}
use Rattle.jt_store.specs.Tables.{WhereKnown}
use Rattle.jt_turn.specs.declared.entry.Entry.{Entry as Turned}
use Rattle.jt_turn.specs.Passes.{PassState}
use Rattle.jt_platform.specs.Allowed.{Opening}
use Rattle.jt_platform.specs.Desks.{as_entry}
use Rattle.jt_platform.specs.History.{newest, tables_after}
use Rattle.jt_platform.specs.declared.request.Request.{Request}
use Rattle.jt_platform.specs.declared.request.Request.TheVariants as ask
use Rattle.jt_platform.specs.declared.request.Reply.{Reply}
use Rattle.jt_session.specs.declared.end.End.TheVariants as ends
use Rattle.jt_session.specs.declared.end.Fed.{Fed}
use Rattle.jt_session.specs.declared.end.Fed.TheVariants.{Stop}
use Rattle.jt_session.specs.Talk.{Turn, Talked, asks, talk_from}
use Rattle.jt_session.specs.Sessions.{Seen, Turns, before, end_of}

-- the entries of these requests with their replies, which stand newest first, as those of a desk's history, oldest first
abbrev pub acts_on : ℕ → List (Request × Reply) → List (Turned Request Reply)
acts_on number [] = []
acts_on number (pair ∷ older) = acts_on number older ++ record { number = number; ask = pair.0; answer = pair.1 } ∷ []

-- what the last of the turns asked, newest first
abbrev pub last_asked : Talked → List Turn → Option Request
last_asked k [] = None
last_asked k (t ∷ older) = asks (talk_from k older).state t.item

-- of the same turn, of the same number, and over the same opening
pub record IsSamePass {O : Type 0} (pass pass_now : PassState Request Reply O) : Type 0 where
  pub turn : pass_now.turn ≡ pass.turn
  pub number : pass_now.number ≡ pass.number
  pub opening : pass_now.opening ≡ pass.opening

-- the desk's count of faults rose in an act of the pass, or stands at its end
abbrev pub FailedMore : {O : Type 0} → PassState Request Reply O → PassState Request Reply O → Type 0
FailedMore pass pass_now = (pass.failed < pass_now.failed) ⊎ (2 ^ 64 - 1 ≤ pass_now.faults)

-- what was asked is a unit, of a phone that has as many rows as it may have after a history that was seen
pub record IsFilled (o : Opening) (seen : List (Turned Request Reply)) (q : Option Request) (l : ℕ) : Type 0 where
  pub found : List (Turned Request Reply)
  pub front : IsPrefix found seen
  pub phone : Phone
  pub serial : ℕ
  pub id : ℕ
  pub octets : List ℕ
  pub asked : q ≡ Some (ask.Unit phone serial id octets)
  pub limit : l ≡ o.limit
  pub rows : WhereKnown (tables_after o.tables (newest (map as_entry found))) (λ t. length (t.rows (key_of phone)) ≡ l)

-- The session heard the octets, and the pass acted for it: its turns; the pass's new entries, which are the requests of the turns with
-- their replies; what was written; how it ended. Where it ended by StoreFault the desk's count of faults rose, and where it ended by
-- ListFull the phone's rows are as many as they may be.
pub record Hears {O : Type 0} (o : Option Opening) (s now : Seen) (octets : List ℕ) (pass pass_now : PassState Request Reply O) (out out_now : List ℕ) (fed : Fed) : Type 0 where
  pub turns : List Turn
  pub went : Turns s now octets turns
  pub entries : pass_now.mine ≡ pass.mine ++ acts_on pass.number (talk_from (before s) turns).entries
  pub wrote : out_now ≡ out ++ (talk_from (before s) turns).written
  pub ended : fed ≡ end_of turns
  pub failed : pass.failed ≤ pass_now.failed
  pub faults : pass.faults ≤ pass_now.faults
  pub fault : fed ≡ Stop ends.StoreFault → FailedMore pass pass_now
  pub full : (l : ℕ) → fed ≡ Stop (ends.ListFull l) → IfSome o (λ o. IsFilled o pass_now.seen (last_asked (before s) turns) l)
