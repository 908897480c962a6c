-- What a run of `platform` does, and what came of it. To be believed.
use Rattle.std.specs.Prelude.{◌≡◌, ◌⊎◌, ◌<◌, ℕ, List, [], length, map, Option}
use Rattle.std.specs.Io.KnownBytes.{Consumes, IsAtEnd}
use Rattle.jt_value.specs.Counts.{Rose, RoseBy}
use Rattle.jt_outside.specs.Pool.{Pool}
use Rattle.jt_store.specs.Tables.{Tables}
use Rattle.jt_turn.specs.Histories.{entries_of}
use Rattle.jt_platform.specs.Allowed.{Legal, Opening}
use Rattle.jt_platform.specs.Desks.{as_ask}
use Rattle.jt_platform.specs.History.{newest}
use Rattle.jt_platform.specs.Hub.{opening_of}
use Rattle.jt_platform.specs.declared.request.Entry.{Entry}
use Rattle.jt_platform.specs.declared.request.Fleet.{Fleet}
use Rattle.jt_input.specs.Answer.{AnswersReply}
use Rattle.jt_input.specs.declared.status.Status.{Status}
use Rattle.jt_input.specs.declared.status.Status.TheVariants as status
use Rattle.jt_server.specs.Served.{AreServed, EndsAs, store_faults}
use Rattle.jt_server.specs.declared.served.ServeEnd.{ServeEnd}
use Rattle.jt_server.specs.declared.served.ServeEnd.TheVariants as served
use Rattle.jt_session.specs.declared.report.Report.{Report}
use Rattle.jt_platform_command.specs.FleetText.{FleetOf, fleet_in}
use Rattle.jt_platform_command.specs.FleetText as text
use Rattle.jt_platform_command.specs.Reading.{IsSettled}
use Rattle.jt_platform_command.specs.Platform.{Came, BadLine, Unserved, NoListener, Served, platform_text}

-- what is seen of the listener and the keeper, before a run or after it
pub record Scene : Type 0 where
  pub pool : Pool
  pub net_faults : ℕ
  pub tables : Option Tables
  pub limit : ℕ
  pub keeper_faults : ℕ

abbrev pub scene_of : Pool → ℕ → Option Tables → ℕ → ℕ → Scene
scene_of pool net_faults tables limit keeper_faults =
    record { pool = pool; net_faults = net_faults; tables = tables; limit = limit; keeper_faults = keeper_faults }

-- no link was served
pub record ServesNone (old now : Scene) (reports : List Report) (history : List Entry) : Type 0 where
  pub none : reports ≡ []
  pub no_entry : history ≡ []
  pub pool : now.pool ≡ old.pool

-- The links of the listener were served over this opening: each reply is one that the entries before it allow; each report says of its
-- link what it did; the history has no other entries; no more links were accepted for this reason; and the keeper's count of faults rose
-- by at least as many as the reports that end as StoreFault.
pub record ServesOver (O : Type 0) (o : Opening) (sessions : ℕ) (end : ServeEnd) (old now : Scene) (reports : List Report) (history : List Entry) : Type 0 where
  pub legal : Legal o (newest history)
  pub served : AreServed O o history old.pool now.pool reports
  pub no_other : (n : ℕ) → (n ≡ 0) ⊎ (length reports < n) → entries_of n (map as_ask history) ≡ []
  pub ends : EndsAs end (length reports) sessions now.pool old.net_faults now.net_faults
  pub store : RoseBy (store_faults reports) old.keeper_faults now.keeper_faults

-- what came of listening: the listener cannot begin, and its count of faults rose; or links were served
abbrev pub Listens : Type 0 → Came → Opening → ℕ → Scene → Scene → List Report → List Entry → Type 0
Listens O (BadLine number) o sessions old now reports history = ⊥
Listens O Unserved o sessions old now reports history = ⊥
Listens O NoListener o sessions old now reports history = Rose old.net_faults now.net_faults × ServesNone old now reports history
Listens O (Served end told entries) o sessions old now reports history =
    (told ≡ reports) × (entries ≡ history) × ServesOver O o sessions end old now reports history

-- the source names a fleet, and was read to its end
pub record NamesFleet (taken : List ℕ) (left_now : Option (List ℕ)) (secret : List ℕ) (fleet : Fleet) : Type 0 where
  pub named : fleet_in taken ≡ FleetOf secret fleet
  pub at_end : IsAtEnd left_now

-- What came of the octets that were taken: they have a bad line; a fault came before the listener was begun; or they name a fleet, over
-- which the listener was begun.
abbrev pub Does : Type 0 → Came → ℕ → List ℕ → Option (List ℕ) → Scene → Scene → List Report → List Entry → Type 0
Does O (BadLine number) sessions taken left_now old now reports history =
    (fleet_in taken ≡ text.BadLine number) × IsSettled left_now taken × ServesNone old now reports history
Does O Unserved sessions taken left_now old now reports history = ServesNone old now reports history
Does O NoListener sessions taken left_now old now reports history = (secret : List ℕ) × (fleet : Fleet) × NamesFleet taken left_now secret fleet
    × Listens O NoListener (opening_of old.tables old.limit fleet secret) sessions old now reports history
Does O (Served end told entries) sessions taken left_now old now reports history = (secret : List ℕ) × (fleet : Fleet) × NamesFleet taken left_now secret fleet
    × Listens O (Served end told entries) (opening_of old.tables old.limit fleet secret) sessions old now reports history

-- where memory was wanted before the first link, the status says so
abbrev pub EndsOf : ServeEnd → Status → Type 0
EndsOf served.All s = Unit {0}
EndsOf served.Over s = Unit {0}
EndsOf served.ListenFault s = Unit {0}
EndsOf served.Memory s = s ≡ status.Memory

-- why no link was served, or no more: memory was wanted or a read failed, where what came of the run does not tell it
abbrev pub EndsSo : Came → Status → Type 0
EndsSo (BadLine number) s = Unit {0}
EndsSo Unserved s = (s ≡ status.Memory) ⊎ (s ≡ status.ReadFault)
EndsSo NoListener s = Unit {0}
EndsSo (Served end reports history) s = EndsOf end s

-- A run of `platform`: octets of the source were taken, this came of it, and its text was written, or a prefix of it at a fault.
pub record RunsPlatform (O : Type 0) (sessions : ℕ) (left left_now : Option (List ℕ)) (old now : Scene) (written written_now : Option (List ℕ)) (reports : List Report) (history : List Entry) (status : Status) : Type 0 where
  pub came : Came
  pub taken : List ℕ
  pub consumed : Consumes left left_now taken
  pub does : Does O came sessions taken left_now old now reports history
  pub answers : AnswersReply status (platform_text came) written written_now
  pub ends : EndsSo came status
