-- The tables that a hub keeps of its history, and what they tell. A step definition for the proofs, but for `Logged`, which is to be
-- believed: its entries are the history that a hub shows.
use Rattle.std.specs.Prelude.{◌≡◌, ◌<◌, ◌≤◌, ℕ, List, [], Bool, true, false, ◌==◌, ◌&&◌, ◌||◌, not, Option, None, Some, IsSome, if◌then◌else◌}
use Rattle.std.specs.BTreeMap.{is_at}
use Rattle.std.specs.Cmp.Lexicographic.{slice_cmp}
use Rattle.std.specs.Map.{lookup}
use Rattle.std.specs.Option.{unwrap_or}
use Rattle.std.specs.Ordering.{nat_cmp, ordering_then}
use Rattle.jt_value.specs.Sameness.{key_of, same_key}
use Rattle.jt_platform.specs.declared.request.Request.{Request}
use Rattle.jt_platform.specs.declared.request.Request.TheVariants as ask
use Rattle.jt_platform.specs.declared.request.Reply.{Reply}
use Rattle.jt_platform.specs.declared.request.Reply.TheVariants as say
use Rattle.jt_platform.specs.declared.request.Entry.{Entry}
use Rattle.jt_platform.specs.Marked.{HasMark, is_marked}
use Rattle.jt_platform.specs.History.{live, closed, holder, is_close, is_accepted_auth, or_else, says_live}

-- Who holds each phone, which sessions are live for which phones, and the closed sessions, marked by number (Marked). A place that
-- was made before its entry stands there with None or false.
pub record Indexed : Type 0 where
  pub holders : List (List ℕ × Option ℕ)
  pub lives : List ((ℕ × List ℕ) × Bool)
  pub closes : List ℕ

abbrev pub empty : Indexed
empty = record { holders = []; lives = []; closes = [] }

-- ---- the places

abbrev pub holder_place : Indexed → List ℕ → Option (Option ℕ)
holder_place x key = lookup (is_at (slice_cmp nat_cmp key)) x.holders

abbrev pub live_place : Indexed → List ℕ → ℕ → Option Bool
live_place x key session = lookup (is_at (λ (q : ℕ × List ℕ). ordering_then (nat_cmp session q.0) (slice_cmp nat_cmp key q.1))) x.lives

-- the place for a Close of the session
abbrev pub HasClose : Indexed → ℕ → Type 0
HasClose x session = HasMark x.closes session

-- ---- what stands there

abbrev pub holder_in : Indexed → List ℕ → Option ℕ
holder_in x key = unwrap_or (holder_place x key) None

abbrev pub live_in : Indexed → List ℕ → ℕ → Bool
live_in x key session = unwrap_or (live_place x key session) false

abbrev pub closed_in : Indexed → ℕ → Bool
closed_in x session = is_marked x.closes session

-- The tables tell what the history says. Of a closed session they may tell anything but that it is closed.
pub record IsIndex (x : Indexed) (h : List Entry) : Type 0 where
  pub closes : (session : ℕ) → closed_in x session ≡ closed h session
  pub lives : (key : List ℕ) (session : ℕ) → closed h session ≡ false → live_in x key session ≡ live key h session
  pub holders : (key : List ℕ) → holder_in x key ≡ holder key h

-- ---- changes

-- the same is told, and each place is still there
pub record Keeps (old new : Indexed) : Type 0 where
  pub closes : (session : ℕ) → closed_in new session ≡ closed_in old session
  pub lives : (key : List ℕ) (session : ℕ) → live_in new key session ≡ live_in old key session
  pub holders : (key : List ℕ) → holder_in new key ≡ holder_in old key
  pub places : (session : ℕ) → HasClose old session → HasClose new session

-- the places for what an entry of the session's request changes are there
abbrev pub IsReady : Indexed → ℕ → Request → Type 0
IsReady x session (ask.Auth phone code) = IsSome (holder_place x (key_of phone)) × IsSome (live_place x (key_of phone) session)
IsReady x session ask.Close = HasClose x session
IsReady x session request = Unit {0}

-- what an entry of the session makes of the tables
pub record Notes (old new : Indexed) (session : ℕ) (request : Request) (reply : Reply) : Type 0 where
  pub closes : (other : ℕ) → closed_in new other ≡ (((session == other) && is_close request) || closed_in old other)
  pub lives : (key : List ℕ) (other : ℕ) → is_close request ≡ false
      → live_in new key other ≡ (if session == other then or_else (says_live key request reply) (live_in old key other) else live_in old key other)
  pub kept : (key : List ℕ) (other : ℕ) → is_close request ≡ true → (session == other) ≡ false → live_in new key other ≡ live_in old key other
  pub holders : (key : List ℕ) → holder_in new key ≡ (if is_accepted_auth key request reply && not (live_in old key session) then Some session else holder_in old key)
  pub places : (other : ℕ) → HasClose old other → HasClose new other

-- the session is live for the phone, and holds it if it was not live before
pub record LetsIn (old new : Indexed) (session : ℕ) (key : List ℕ) : Type 0 where
  pub closes : new.closes ≡ old.closes
  pub lives : (other : List ℕ) (s : ℕ) → live_in new other s ≡ (if (session == s) && same_key key other then true else live_in old other s)
  pub holders : (other : List ℕ) → holder_in new other ≡ (if same_key key other && not (live_in old key session) then Some session else holder_in old other)

-- the session is not live for the phone
pub record LetsOut (old new : Indexed) (session : ℕ) (key : List ℕ) : Type 0 where
  pub closes : new.closes ≡ old.closes
  pub lives : (other : List ℕ) (s : ℕ) → live_in new other s ≡ (if (session == s) && same_key key other then false else live_in old other s)
  pub holders : new.holders ≡ old.holders

-- the session is closed
pub record Closes (old new : Indexed) (session : ℕ) : Type 0 where
  pub closes : (s : ℕ) → closed_in new s ≡ ((session == s) || closed_in old s)
  pub places : (s : ℕ) → HasClose old s → HasClose new s
  pub lives : (key : List ℕ) (s : ℕ) → (session == s) ≡ false → live_in new key s ≡ live_in old key s
  pub holders : new.holders ≡ old.holders

-- the session is marked as closed
pub record Marks (old new : Indexed) (session : ℕ) : Type 0 where
  pub closes : (s : ℕ) → closed_in new s ≡ ((session == s) || closed_in old s)
  pub places : (s : ℕ) → HasClose old s → HasClose new s
  pub lives : new.lives ≡ old.lives
  pub holders : new.holders ≡ old.holders

-- ---- a history with its tables

-- the entries oldest first, room for how many more at least, and the tables
pub record Logged : Type 0 where
  pub entries : List Entry
  pub spare : ℕ
  pub index : Indexed

-- a place that was there still is
abbrev pub KeepsPlaces : Indexed → Indexed → Type 0
KeepsPlaces old new = (session : ℕ) → HasClose old session → HasClose new session

-- the place for the Close of each session above one and up to another is there
abbrev pub HasPlaces : Indexed → ℕ → ℕ → Type 0
HasPlaces x above upto = (session : ℕ) → above < session → session ≤ upto → HasClose x session

-- an accepted authentication
abbrev pub is_let_in : Request → Reply → Bool
is_let_in (ask.Auth phone code) say.Accepted = true
is_let_in request reply = false
