-- Laws of histories, newest entry first, and of the replies that they allow (this project's own). To be believed; `law_histories`,
-- `law_units` and `law_answers` prove them.
use Rattle.std.specs.Prelude.{◌≡◌, ◌≢◌, ◌<◌, ◌≤◌, ◌+◌, ◌-◌, ℕ, List, [], ◌∷◌, length, Bool, true, false, Some, IsSome}
use Rattle.jt_value.specs.declared.limits.TheConstants.{UNIT_WINDOW}
use Rattle.jt_value.specs.Sameness.{key_of}
use Rattle.jt_value.specs.Serials.{serial_of}
use Rattle.jt_value.specs.declared.phone.Phone.{Phone}
use Rattle.jt_store.specs.Tables.{Tables, IsRow, last_of}
use Rattle.jt_store.specs.Verdicts.{Shelf, alone, row_of}
use Rattle.jt_platform.specs.declared.request.Request.{Request}
use Rattle.jt_platform.specs.declared.request.Request.TheVariants as ask
use Rattle.jt_platform.specs.declared.request.Reply.{Reply}
use Rattle.jt_platform.specs.declared.request.Reply.TheVariants as say
use Rattle.jt_platform.specs.declared.request.Entry.{Entry}
use Rattle.jt_platform.specs.History.{live, closed, holder, is_accepted_auth, registration_after, rows_after, tables_after}
use Rattle.jt_platform.specs.Allowed.{Opening, Allowed}
use Rattle.jt_platform.specs.Answer.{IsAsked, answer}

-- ---- histories

-- the request is of the phone with this key, or a Close
abbrev pub IsOf : List ℕ → Request → Type 0
IsOf key (ask.Register phone register) = key_of phone ≡ key
IsOf key (ask.Auth phone code) = key_of phone ≡ key
IsOf key (ask.Unit phone serial id body) = key_of phone ≡ key
IsOf key (ask.Deregister phone) = key_of phone ≡ key
IsOf key (ask.Other phone id) = key_of phone ≡ key
IsOf key ask.Close = Unit {0}

abbrev pub AreOf : List ℕ → List Entry → Type 0
AreOf key [] = Unit {0}
AreOf key (e ∷ older) = IsOf key e.request × AreOf key older

-- what is kept for a phone after a history
abbrev pub shelf_of : List ℕ → Shelf → List Entry → Shelf
shelf_of key shelf h = record { registered = registration_after key shelf.registered h; rows = rows_after key shelf.rows h }

pub record HistoriesTell : Type 0 where
  -- where a session is live for a phone, some session holds it
  pub held : (key : List ℕ) (h : List Entry) (session : ℕ) → live key h session ≡ true → IsSome (holder key h)
  -- an accepted Auth of a session that was not live takes the phone
  pub taken : (key : List ℕ) (e : Entry) (h : List Entry) → is_accepted_auth key e.request e.reply ≡ true → live key h e.session ≡ false → holder key (e ∷ h) ≡ Some e.session
  -- one of a session that was live takes nothing, and no other entry does
  pub again : (key : List ℕ) (e : Entry) (h : List Entry) → live key h e.session ≡ true → holder key (e ∷ h) ≡ holder key h
  pub other : (key : List ℕ) (e : Entry) (h : List Entry) → is_accepted_auth key e.request e.reply ≡ false → holder key (e ∷ h) ≡ holder key h
  -- whether a session is live does not change by entries of other sessions
  pub apart : (key : List ℕ) (e : Entry) (h : List Entry) (session : ℕ) → e.session ≢ session → live key (e ∷ h) session ≡ live key h session
  -- where a keeper has something for one phone alone, and the history is of that phone, it has something for that phone alone after it
  pub alone : (key : List ℕ) (shelf : Shelf) (h : List Entry) → AreOf key h → tables_after (Some (alone key shelf)) h ≡ Some (alone key (shelf_of key shelf h))

-- ---- units of the holder

-- the unit stands in the rows after this reply
abbrev pub IsStored : Reply → Type 0
IsStored (say.Stored n) = Unit {0}
IsStored (say.Repeat n) = Unit {0}
IsStored (say.Renumbered n) = Unit {0}
IsStored reply = ⊥

-- the session is the holder, live and not closed, and these are the tables
pub record Holds (o : Opening) (h : List Entry) (session : ℕ) (phone : Phone) (t : Tables) : Type 0 where
  pub tables : tables_after o.tables h ≡ Some t
  pub unclosed : closed h session ≡ false
  pub live : live (key_of phone) h session ≡ true
  pub holder : holder (key_of phone) h ≡ Some session

pub record UnitsTell : Type 0 where
  -- where the limit is not reached a unit is stored, or was before
  pub stored : (o : Opening) (h : List Entry) (session : ℕ) (phone : Phone) (t : Tables) (serial id : ℕ) (body : List ℕ) (reply : Reply)
      → Holds o h session phone t → length (t.rows (key_of phone)) ≢ o.limit → Allowed o h session (ask.Unit phone serial id body) reply → IsStored reply
  -- the first unit of a phone is stored under its serial
  pub first : (o : Opening) (h : List Entry) (session : ℕ) (phone : Phone) (t : Tables) (serial id : ℕ) (body : List ℕ) (reply : Reply)
      → Holds o h session phone t → length (t.rows (key_of phone)) ≢ o.limit → t.rows (key_of phone) ≡ []
      → Allowed o h session (ask.Unit phone serial id body) reply → reply ≡ say.Stored serial
  -- a number at most 32,766 above the last row's is stored
  pub new : (o : Opening) (h : List Entry) (session : ℕ) (phone : Phone) (t : Tables) (last n id : ℕ) (body : List ℕ) (reply : Reply)
      → Holds o h session phone t → length (t.rows (key_of phone)) ≢ o.limit → last_of (t.rows (key_of phone)) ≡ Some last → last < n → n ≤ last + UNIT_WINDOW
      → Allowed o h session (ask.Unit phone (serial_of n) id body) reply → reply ≡ say.Stored n
  -- a row at most 32,765 below the last one is repeated by a unit with its id and body, whatever the limit
  pub again : (o : Opening) (h : List Entry) (session : ℕ) (phone : Phone) (t : Tables) (last n id : ℕ) (body : List ℕ) (reply : Reply)
      → Holds o h session phone t → last_of (t.rows (key_of phone)) ≡ Some last → n ≤ last → last ≤ n + (UNIT_WINDOW - 1) → IsRow (t.rows (key_of phone)) (row_of n id body)
      → Allowed o h session (ask.Unit phone (serial_of n) id body) reply → reply ≡ say.Repeat n

-- ---- the reply as a function

-- a reply that is allowed is the one that `answer` gives
abbrev pub AnswersTell : Type 0
AnswersTell = (o : Opening) (h : List Entry) (session : ℕ) (request : Request) (reply : Reply) (t : Tables) (plate_taken terminal_taken : Bool)
    → tables_after o.tables h ≡ Some t → IsAsked t plate_taken terminal_taken request → Allowed o h session request reply → reply ≡ answer o t plate_taken terminal_taken h session request
