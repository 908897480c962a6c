-- What the parts of a hub do with a keeper. For proofs: step functions of the hub's own calls.
use Rattle.std.specs.Prelude.{ℕ, zero, suc, ◌≡◌, ◌⊎◌, ◌<◌, ◌≤◌, ◌+◌, List, [], length, Option, Some, None, Bool, true, false, if◌then◌else◌}
use Rattle.jt_value.specs.declared.phone.Phone.{Phone}
use Rattle.jt_value.specs.Sameness.{key_of}
use Rattle.jt_store.specs.declared.row.Row.{Row}
use Rattle.jt_store.specs.declared.row.Registered.{Registered}
use Rattle.jt_store.specs.Tables.{Tables, WhereKnown, IsRow, HasName, row_added, registered_set}
use Rattle.jt_store.specs.declared.error.StoreError.{StoreError}
use Rattle.jt_store.specs.declared.error.StoreError.TheVariants as store
use Rattle.jt_platform.specs.declared.request.Fleet.{Fleet}
use Rattle.jt_platform.specs.declared.request.Request.{Request}
use Rattle.jt_platform.specs.declared.request.Request.TheVariants as ask
use Rattle.jt_platform.specs.declared.request.Reply.{Reply}
use Rattle.jt_platform.specs.declared.request.Reply.TheVariants as say
use Rattle.jt_platform.specs.declared.request.Entry.{Entry}
use Rattle.jt_platform.specs.Codes.{code_for}
use Rattle.jt_platform.specs.History.{live, closed, holder, newest, registration}
use Rattle.jt_platform.specs.Allowed.{StoreReply, AuthReply, RegisterReply, FencedReply, IsHolder, IsAnothers}

abbrev pub reply_to : StoreError → Reply
reply_to store.Failed = say.StoreFault
reply_to (store.Full l) = say.ListFull l
reply_to store.Memory = say.Memory

-- a new row is stored, or the tables stay
abbrev pub StoreDone : Option Tables → Option Tables → ℕ → List ℕ → Row → Bool → Reply → Type 0
StoreDone old now limit key row false (say.Stored n) = (n ≡ row.number) × (now ≡ row_added key row old) × WhereKnown old (λ t. length (t.rows key) < limit)
StoreDone old now limit key row true (say.Renumbered n) = (n ≡ row.number) × (now ≡ row_added key row old) × WhereKnown old (λ t. length (t.rows key) < limit)
StoreDone old now limit key row anew (say.ListFull l) = (now ≡ old) × (l ≡ limit) × WhereKnown old (λ t. length (t.rows key) ≡ limit)
StoreDone old now limit key row anew say.StoreFault = now ≡ old
StoreDone old now limit key row anew say.Memory = now ≡ old
StoreDone old now limit key row anew reply = ⊥

-- the candidate, where a row stands there with this id and body
abbrev pub IsThere : List Row → Option ℕ → ℕ → List ℕ → Option ℕ → Type 0
IsThere rows at id body (Some n) = (at ≡ Some n) × IsRow rows (record { number = n; id = id; body = body })
IsThere rows at id body None = (n : ℕ) → at ≡ Some n → IsRow rows (record { number = n; id = id; body = body }) → ⊥

-- a unit of the holder is answered by the verdict
abbrev pub UnitDone : Option Tables → Option Tables → ℕ → List ℕ → ℕ → ℕ → List ℕ → Reply → Type 0
UnitDone old now limit key serial id body (say.Stored n) = StoreReply limit old key serial id body (say.Stored n) × (now ≡ row_added key (record { number = n; id = id; body = body }) old)
UnitDone old now limit key serial id body (say.Renumbered n) = StoreReply limit old key serial id body (say.Renumbered n) × (now ≡ row_added key (record { number = n; id = id; body = body }) old)
UnitDone old now limit key serial id body (say.Repeat n) = StoreReply limit old key serial id body (say.Repeat n) × (now ≡ old)
UnitDone old now limit key serial id body (say.ListFull l) = StoreReply limit old key serial id body (say.ListFull l) × (now ≡ old)
UnitDone old now limit key serial id body say.StoreFault = now ≡ old
UnitDone old now limit key serial id body say.Memory = now ≡ old
UnitDone old now limit key serial id body reply = ⊥

-- the request is a unit
abbrev pub IsUnit : Request → Type 0
IsUnit (ask.Unit phone serial id body) = Unit {0}
IsUnit request = ⊥

-- the request is a unit, and this answers it
abbrev pub UnitIn : Option Tables → Option Tables → ℕ → Request → Reply → Type 0
UnitIn old now limit (ask.Unit phone serial id body) reply = UnitDone old now limit (key_of phone) serial id body reply
UnitIn old now limit request reply = ⊥

abbrev pub AuthDone : Option Tables → Option Tables → List ℕ → Phone → List ℕ → Reply → Type 0
AuthDone old now secret phone code say.StoreFault = now ≡ old
AuthDone old now secret phone code say.Memory = now ≡ old
AuthDone old now secret phone code say.Accepted = (now ≡ old) × AuthReply secret old phone code say.Accepted
AuthDone old now secret phone code (say.Denied n) = (now ≡ old) × AuthReply secret old phone code (say.Denied n)
AuthDone old now secret phone code reply = ⊥

abbrev pub RegisterDone : Option Tables → Option Tables → Fleet → List ℕ → Registered → List ℕ → Reply → Type 0
RegisterDone old now fleet key r code (say.Registered c) = (now ≡ registered_set key (Some r) old) × RegisterReply fleet old key r code (say.Registered c)
RegisterDone old now fleet key r code (say.Denied n) = (now ≡ old) × RegisterReply fleet old key r code (say.Denied n)
RegisterDone old now fleet key r code say.StoreFault = now ≡ old
RegisterDone old now fleet key r code say.Memory = now ≡ old
RegisterDone old now fleet key r code reply = ⊥

abbrev pub DeregisterDone : Option Tables → Option Tables → List ℕ → Reply → Type 0
DeregisterDone old now key say.Accepted = now ≡ registered_set key None old
DeregisterDone old now key say.StoreFault = now ≡ old
DeregisterDone old now key say.Memory = now ≡ old
DeregisterDone old now key reply = ⊥

-- whether another phone has the name
abbrev pub IsTaken : (Registered → List ℕ) → Tables → List ℕ → List ℕ → Bool → Type 0
IsTaken name_of t key name true = IsAnothers name_of t key name
IsTaken name_of t key name false = (other : List ℕ) → HasName name_of t.registered other name → other ≡ key

-- NotLive or Fenced, or the way is free
abbrev pub IsGuard : List ℕ → List Entry → ℕ → Option Reply → Type 0
IsGuard key h session (Some reply) = ((live key h session ≡ false) × (reply ≡ say.NotLive)) ⊎ ((live key h session ≡ true) × FencedReply session (holder key h) reply)
IsGuard key h session None = (live key h session ≡ true) × IsHolder session (holder key h)

-- what the tables become by a reply to a request
abbrev pub tables_by : Request → Reply → Option Tables → Option Tables
tables_by (ask.Unit phone serial id body) (say.Stored n) t = row_added (key_of phone) (record { number = n; id = id; body = body }) t
tables_by (ask.Unit phone serial id body) (say.Renumbered n) t = row_added (key_of phone) (record { number = n; id = id; body = body }) t
tables_by (ask.Register phone register) (say.Registered code) t = registered_set (key_of phone) (Some (registration register)) t
tables_by (ask.Deregister phone) say.Accepted t = registered_set (key_of phone) None t
tables_by request reply t = t

-- the code that an answer to the request may hold
abbrev pub code_said : List ℕ → Request → List ℕ
code_said secret (ask.Register phone register) = code_for secret phone
code_said secret request = []

abbrev pub IsCoded : List ℕ → Reply → Type 0
IsCoded code (say.Registered c) = c ≡ code
IsCoded code reply = Unit {0}

-- how many of the sessions from 1 to n are not closed
abbrev pub open_upto : List Entry → ℕ → ℕ
open_upto h zero = 0
open_upto h (suc n) = open_upto h n + (if closed h (suc n) then 0 else 1)

-- room for the Close of each session within the reserved number that is not closed
pub record HasRoom (history : List Entry) (reserved owed spare : ℕ) : Type 0 where
  pub closes : open_upto (newest history) reserved ≤ owed
  pub kept : owed ≤ spare
  pub few : owed ≤ reserved
