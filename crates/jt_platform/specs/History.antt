-- What a hub's history says (this project's own). Newest entry first. To be believed.
use Rattle.std.specs.Prelude.{ℕ, List, [], ◌∷◌, ◌++◌, reverse, Bool, true, false, ◌==◌, ◌&&◌, ◌||◌, not, Option, None, Some, if◌then◌else◌}
use Rattle.jt_value.specs.Sameness.{key_of, same_key}
use Rattle.jt_register.specs.declared.register.Register.{Register}
use Rattle.jt_store.specs.Tables.{Tables}
use Rattle.jt_store.specs.declared.row.Registered.{Registered}
use Rattle.jt_store.specs.declared.row.Row.{Row}
use Rattle.jt_platform.specs.declared.request.Request.{Request}
use Rattle.jt_platform.specs.declared.request.Request.TheVariants as ask
use Rattle.jt_platform.specs.declared.request.Reply.{Reply}
use Rattle.jt_platform.specs.declared.request.Reply.TheVariants as say
use Rattle.jt_platform.specs.declared.request.Entry.{Entry}

-- a hub keeps its entries oldest first; the definitions below read them newest first, and this is the one place that turns them
abbrev pub newest : List Entry → List Entry
newest entries = reverse entries

-- ---- sessions. A phone is named by its key, so that two phones are the same where their twenty digits are.

abbrev pub is_close : Request → Bool
is_close ask.Close = true
is_close request = false

-- a session is closed from its Close on
abbrev pub closed : List Entry → ℕ → Bool
closed [] session = false
closed (e ∷ older) session = ((e.session == session) && is_close e.request) || closed older session

-- what an entry says of whether its session is live for the phone, if anything
abbrev pub says_live : List ℕ → Request → Reply → Option Bool
says_live key (ask.Auth phone code) say.Accepted = if same_key (key_of phone) key then Some true else None
says_live key (ask.Deregister phone) say.Accepted = if same_key (key_of phone) key then Some false else None
says_live key ask.Close reply = Some false
says_live key request reply = None

abbrev pub or_else : Option Bool → Bool → Bool
or_else None other = other
or_else (Some answer) other = answer

-- A session is live for a phone if it has an accepted Auth of the phone, and neither a Close nor an accepted Deregister of the
-- phone by that session follows it: the newest of its entries that says anything says so.
abbrev pub live : List ℕ → List Entry → ℕ → Bool
live key [] session = false
live key (e ∷ older) session = if e.session == session then or_else (says_live key e.request e.reply) (live key older session) else live key older session

abbrev pub is_accepted_auth : List ℕ → Request → Reply → Bool
is_accepted_auth key (ask.Auth phone code) say.Accepted = same_key (key_of phone) key
is_accepted_auth key request reply = false

-- An accepted Auth of the phone takes it if its session was not live for the phone just before. So a repeated Auth of a live
-- session takes nothing over.
abbrev pub takes : List ℕ → Entry → List Entry → Bool
takes key e older = is_accepted_auth key e.request e.reply && not (live key older e.session)

-- the session of the last Auth that takes the phone
abbrev pub holder : List ℕ → List Entry → Option ℕ
holder key [] = None
holder key (e ∷ older) = if takes key e older then Some e.session else holder key older

-- ---- what the keeper has after a history

-- octets without the zeros at their end
abbrev pub end_trimmed : ℕ → List ℕ → List ℕ
end_trimmed octet [] = if octet == 0 then [] else octet ∷ []
end_trimmed octet (x ∷ more) = octet ∷ x ∷ more

abbrev pub trim_zeros : List ℕ → List ℕ
trim_zeros [] = []
trim_zeros (octet ∷ more) = end_trimmed octet (trim_zeros more)

-- what a phone is registered with: the terminal id without its zeros at the end
abbrev pub registration : Register → Registered
registration register = record { plate = register.plate; terminal = trim_zeros register.terminal }

-- the registration of a phone after one more entry
abbrev pub registered_by : List ℕ → Request → Reply → Option Registered → Option Registered
registered_by key (ask.Register phone register) (say.Registered code) before = if same_key (key_of phone) key then Some (registration register) else before
registered_by key (ask.Deregister phone) say.Accepted before = if same_key (key_of phone) key then None else before
registered_by key request reply before = before

-- the rows that an entry adds to those of a phone
abbrev pub row_of : List ℕ → Request → Reply → List Row
row_of key (ask.Unit phone serial id body) (say.Stored n) = if same_key (key_of phone) key then record { number = n; id = id; body = body } ∷ [] else []
row_of key (ask.Unit phone serial id body) (say.Renumbered n) = if same_key (key_of phone) key then record { number = n; id = id; body = body } ∷ [] else []
row_of key request reply = []

-- the phone's registration after a history, from the one before it
abbrev pub registration_after : List ℕ → Option Registered → List Entry → Option Registered
registration_after key before [] = before
registration_after key before (e ∷ older) = registered_by key e.request e.reply (registration_after key before older)

-- the phone's rows after a history: those before it, and one for each unit that was stored or renumbered
abbrev pub rows_after : List ℕ → List Row → List Entry → List Row
rows_after key before [] = before
rows_after key before (e ∷ older) = rows_after key before older ++ row_of key e.request e.reply

-- registrations and rows of all phones after a history
abbrev pub tables_after : Option Tables → List Entry → Option Tables
tables_after None history = None
tables_after (Some t) history = Some (record { registered = λ key. registration_after key (t.registered key) history; rows = λ key. rows_after key (t.rows key) history })
