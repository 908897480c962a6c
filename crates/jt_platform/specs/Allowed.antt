-- Which reply a history allows (this project's own): the table of replies, each with what keeps those above it off. To be believed.
use Rattle.std.specs.Prelude.{◌≡◌, ◌≢◌, ◌⊎◌, ◌<◌, ℕ, List, [], ◌∷◌, length, Bool, true, false, ◌||◌, Option, None, Some, IsSome, bytes_eq}
use Rattle.jt_value.specs.Sameness.{key_of}
use Rattle.jt_value.specs.Serials.{Verdict, New, Repeat, Anew, IsVerdict}
use Rattle.jt_value.specs.declared.phone.Phone.{Phone}
use Rattle.jt_store.specs.Tables.{Tables, WhereKnown, IsRow, last_of, plates, terminals, HasName}
use Rattle.jt_store.specs.declared.row.Registered.{Registered}
use Rattle.jt_store.specs.declared.row.Row.{Row}
use Rattle.jt_platform.specs.declared.request.Fleet.{Fleet}
use Rattle.jt_platform.specs.declared.request.Request.{Request}
use Rattle.jt_platform.specs.declared.request.Request.TheVariants as ask
use Rattle.jt_platform.specs.declared.request.Reply.{Reply}
use Rattle.jt_platform.specs.declared.request.Reply.TheVariants as say
use Rattle.jt_platform.specs.declared.request.Entry.{Entry}
use Rattle.jt_platform.specs.Codes.{code_for}
use Rattle.jt_platform.specs.History.{live, closed, holder, trim_zeros, registration, tables_after}

-- what a hub began with: what its keeper told, the keeper's limit, the fleet and the secret
pub record Opening : Type 0 where
  pub tables : Option Tables
  pub limit : ℕ
  pub fleet : Fleet
  pub secret : List ℕ

-- ---- registrations

abbrev pub has_plate : List (List ℕ) → List ℕ → Bool
has_plate [] plate = false
has_plate (x ∷ more) plate = bytes_eq x plate || has_plate more plate

-- whether one of the ids, without the zeros at its end, is this one
abbrev pub has_terminal : List (List ℕ) → List ℕ → Bool
has_terminal [] terminal = false
has_terminal (x ∷ more) terminal = bytes_eq (trim_zeros x) terminal || has_terminal more terminal

-- another phone is registered with the name, a plate or a terminal id
abbrev pub IsAnothers : (Registered → List ℕ) → Tables → List ℕ → List ℕ → Type 0
IsAnothers name_of t key name = (other : List ℕ) × HasName name_of t.registered other name × (other ≢ key)

-- plate and terminal id are in the fleet
abbrev pub IsOfFleet : Fleet → Registered → Type 0
IsOfFleet fleet r = (has_plate fleet.plates r.plate ≡ true) × (has_terminal fleet.terminals r.terminal ≡ true)

-- the phone is registered so, or otherwise, or not at all
abbrev pub IsSo : Tables → List ℕ → Registered → Type 0
IsSo t key r = t.registered key ≡ Some r

abbrev pub IsNotSo : Tables → List ℕ → Registered → Type 0
IsNotSo t key r = t.registered key ≢ Some r

-- Why a registration is denied, in this order: the plate is not in the fleet, the terminal id is not, another phone has the
-- plate, another phone has the terminal id. Of other phones only the tables tell.
abbrev pub IsDenied : Fleet → Option Tables → List ℕ → Registered → ℕ → Type 0
IsDenied fleet now key r n =
    ((n ≡ 2) × (has_plate fleet.plates r.plate ≡ false))
    ⊎ ((n ≡ 4) × (has_plate fleet.plates r.plate ≡ true) × (has_terminal fleet.terminals r.terminal ≡ false))
    ⊎ ((n ≡ 1) × IsOfFleet fleet r × WhereKnown now (λ t. IsAnothers plates t key r.plate))
    ⊎ ((n ≡ 3) × IsOfFleet fleet r × WhereKnown now (λ t. (IsAnothers plates t key r.plate → ⊥) × IsAnothers terminals t key r.terminal))

-- no other phone has the plate or the terminal id
abbrev pub IsFree : Tables → List ℕ → Registered → Type 0
IsFree t key r = (IsAnothers plates t key r.plate → ⊥) × (IsAnothers terminals t key r.terminal → ⊥)

-- Registered with the code if the phone is registered so already; else denied, or registered with the code
abbrev pub RegisterReply : Fleet → Option Tables → List ℕ → Registered → List ℕ → Reply → Type 0
RegisterReply fleet now key r code (say.Registered c) =
    (c ≡ code) × (WhereKnown now (λ t. IsSo t key r) ⊎ (IsOfFleet fleet r × WhereKnown now (λ t. IsNotSo t key r × IsFree t key r)))
RegisterReply fleet now key r code (say.Denied n) = WhereKnown now (λ t. IsNotSo t key r) × IsDenied fleet now key r n
RegisterReply fleet now key r code reply = ⊥

-- ---- authentications

-- accepted if the phone is registered and the code is its own
abbrev pub AuthReply : List ℕ → Option Tables → Phone → List ℕ → Reply → Type 0
AuthReply secret now phone code say.Accepted = (code ≡ code_for secret phone) × WhereKnown now (λ t. IsSome (t.registered (key_of phone)))
AuthReply secret now phone code (say.Denied n) = (n ≡ 1) × (WhereKnown now (λ t. t.registered (key_of phone) ≡ None) ⊎ (code ≢ code_for secret phone))
AuthReply secret now phone code reply = ⊥

-- ---- units

-- what a unit is to a phone's rows
abbrev pub VerdictOn : List Row → ℕ → ℕ → List ℕ → Verdict → Type 0
VerdictOn rows serial id body v = IsVerdict (last_of rows) (λ n. IsRow rows (record { number = n; id = id; body = body })) serial v

-- a row more would be stored, or renumbered
abbrev pub IsMore : List Row → ℕ → ℕ → List ℕ → Type 0
IsMore rows serial id body = (n : ℕ) × (VerdictOn rows serial id body (New n) ⊎ VerdictOn rows serial id body (Anew n))

-- Replies to a unit of the holder's live session. ListFull stands in place of Stored and Renumbered, exactly where the phone has
-- as many rows as the limit.
abbrev pub StoreReply : ℕ → Option Tables → List ℕ → ℕ → ℕ → List ℕ → Reply → Type 0
StoreReply limit now key serial id body (say.Stored n) = WhereKnown now (λ t. VerdictOn (t.rows key) serial id body (New n) × (length (t.rows key) < limit))
StoreReply limit now key serial id body (say.Repeat n) = WhereKnown now (λ t. VerdictOn (t.rows key) serial id body (Repeat n))
StoreReply limit now key serial id body (say.Renumbered n) = WhereKnown now (λ t. VerdictOn (t.rows key) serial id body (Anew n) × (length (t.rows key) < limit))
StoreReply limit now key serial id body (say.ListFull l) = (l ≡ limit) × WhereKnown now (λ t. (length (t.rows key) ≡ limit) × IsMore (t.rows key) serial id body)
StoreReply limit now key serial id body reply = ⊥

-- ---- the session's right

-- another session holds the phone
abbrev pub FencedReply : ℕ → Option ℕ → Reply → Type 0
FencedReply session None reply = ⊥
FencedReply session (Some other) reply = (other ≢ session) × (reply ≡ say.Fenced other)

abbrev pub IsHolder : ℕ → Option ℕ → Type 0
IsHolder session None = ⊥
IsHolder session (Some other) = other ≡ session

-- NotLive where the session is not live for the phone; else Fenced where another session holds it; else as `Otherwise` says
abbrev pub GuardedReply : List ℕ → List Entry → ℕ → Reply → Type 0 → Type 0
GuardedReply key h session reply Otherwise =
    ((live key h session ≡ false) × (reply ≡ say.NotLive))
    ⊎ ((live key h session ≡ true) × (FencedReply session (holder key h) reply ⊎ (IsHolder session (holder key h) × Otherwise)))

-- ---- the table. `now` is what the history left of the keeper's tables. Where the keeper does not tell them, `WhereKnown` leaves the
-- conditions on them out, and no others.

abbrev pub OpenReply : Opening → Option Tables → List Entry → ℕ → Request → Reply → Type 0
OpenReply o now h session (ask.Register phone register) reply = RegisterReply o.fleet now (key_of phone) (registration register) (code_for o.secret phone) reply
OpenReply o now h session (ask.Auth phone code) reply = AuthReply o.secret now phone code reply
OpenReply o now h session (ask.Unit phone serial id body) reply = GuardedReply (key_of phone) h session reply (StoreReply o.limit now (key_of phone) serial id body reply)
OpenReply o now h session (ask.Deregister phone) reply = GuardedReply (key_of phone) h session reply (reply ≡ say.Accepted)
OpenReply o now h session (ask.Other phone id) reply = GuardedReply (key_of phone) h session reply (reply ≡ say.Accepted)
OpenReply o now h session ask.Close reply = reply ≡ say.Accepted

-- every request of a closed session but Close is answered NotLive
abbrev pub AnyReply : Opening → Option Tables → List Entry → ℕ → Request → Reply → Type 0
AnyReply o now h session ask.Close reply = reply ≡ say.Accepted
AnyReply o now h session request reply = ((closed h session ≡ true) × (reply ≡ say.NotLive)) ⊎ ((closed h session ≡ false) × OpenReply o now h session request reply)

-- the replies that a history allows, newest entry first
abbrev pub Allowed : Opening → List Entry → ℕ → Request → Reply → Type 0
Allowed o h session request reply = AnyReply o (tables_after o.tables h) h session request reply

-- each entry's reply is allowed over the entries before it
abbrev pub Legal : Opening → List Entry → Type 0
Legal o [] = Unit {0}
Legal o (e ∷ older) = Allowed o older e.session e.request e.reply × Legal o older

-- the two replies that may come in place of any other: a fault of the keeper, and want of memory
abbrev pub is_trouble : Reply → Bool
is_trouble say.StoreFault = true
is_trouble say.Memory = true
is_trouble reply = false

-- the replies that add an entry to the history
abbrev pub makes_entry : Reply → Bool
makes_entry (say.ListFull l) = false
makes_entry say.StoreFault = false
makes_entry say.Memory = false
makes_entry reply = true
