-- What contracts see of a hub (this project's own). To be believed.
use Rattle.std.specs.Prelude.{◌≡◌, ◌≢◌, ◌≤◌, ℕ, List, [], ◌∷◌, ◌++◌, Bool, false, Option, if◌then◌else◌}
use Rattle.jt_store.specs.Tables.{Tables}
use Rattle.jt_value.specs.Counts.{Rose}
use Rattle.jt_platform.specs.declared.request.Fleet.{Fleet}
use Rattle.jt_platform.specs.declared.request.Request.{Request}
use Rattle.jt_platform.specs.declared.request.Reply.{Reply}
use Rattle.jt_platform.specs.declared.request.Reply.TheVariants as say
use Rattle.jt_platform.specs.declared.request.Entry.{Entry}
use Rattle.jt_platform.specs.Allowed.{Opening, makes_entry}
use Rattle.jt_platform.specs.History.{newest, closed, tables_after}

-- the keeper now and as it was at the start, the fleet, the secret, the history oldest first, and up to which session the memory
-- for a Close is there
pub record HubValue (P : Type 0) : Type 0 where
  pub keeper : P
  pub start : P
  pub fleet : Fleet
  pub secret : List ℕ
  pub history : List Entry
  pub reserved : ℕ

abbrev pub opening_of : Option Tables → ℕ → Fleet → List ℕ → Opening
opening_of tables limit fleet secret = record { tables = tables; limit = limit; fleet = fleet; secret = secret }

-- the history after a request and its reply
abbrev pub history_by : ℕ → Request → Reply → List Entry → List Entry
history_by session request reply h = if makes_entry reply then h ++ record { session = session; request = request; reply = reply } ∷ [] else h

-- the memory for the session's Close is there: its number is 1 to the reserved one, and it is not closed
pub record IsOwed (history : List Entry) (reserved session : ℕ) : Type 0 where
  pub from : 1 ≤ session
  pub upto : session ≤ reserved
  pub unclosed : closed (newest history) session ≡ false

-- the keeper is where the history leaves what it was at the start, and its limit is the same
pub record IsAt (start now : Option Tables) (limit_then limit_now : ℕ) (history : List Entry) : Type 0 where
  pub tables : now ≡ tables_after start (newest history)
  pub limit : limit_now ≡ limit_then

-- what a reply says of the keeper's faults: the count never falls, StoreFault comes only where it rose, and every other reply, so
-- Memory too, only where it stood still; where no call may fail none does and StoreFault does not come
pub record HasReason (before now : ℕ) (may may_now : Bool) (reply : Reply) : Type 0 where
  pub later : before ≤ now
  pub fault : reply ≡ say.StoreFault → Rose before now
  pub still : reply ≢ say.StoreFault → now ≡ before
  pub steady : may ≡ false → (may_now ≡ false) × (reply ≢ say.StoreFault)
