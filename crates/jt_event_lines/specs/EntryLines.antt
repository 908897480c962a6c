-- What is printed of the entries of a hub, and of how far a world came: this project's own texts. To be believed.
use Rattle.std.specs.Prelude.{ℕ, if◌then◌else◌, Bool, true, false, ◌&&◌, List, [], ◌++◌, codes}
use Rattle.std.specs.Fmt.{decimal}
use Rattle.jt_platform.specs.declared.request.Entry.{Entry}
use Rattle.jt_platform.specs.declared.request.Reply.{Reply}
use Rattle.jt_platform.specs.declared.request.Reply.TheVariants as say
use Rattle.jt_platform.specs.declared.request.Request.{Request}
use Rattle.jt_platform.specs.declared.request.Request.TheVariants as ask
use Rattle.jt_event_lines.specs.declared.totals.WorldTotals.{WorldTotals}

-- what was asked. Of a unit the serial is told.
unfoldable pub request_words : Request → List ℕ
request_words (ask.Register phone register) = codes "register"
request_words (ask.Auth phone code) = codes "auth"
request_words (ask.Unit phone serial id body) = codes "unit " ++ decimal serial
request_words (ask.Deregister phone) = codes "deregister"
request_words (ask.Other phone id) = codes "other"
request_words ask.Close = codes "close"

-- what was answered: why a request was denied, in which row a unit stands, which session holds the phone
unfoldable pub reply_words : Reply → List ℕ
reply_words (say.Registered code) = codes "registered"
reply_words (say.Denied result) = codes "denied " ++ decimal result
reply_words say.Accepted = codes "accepted"
reply_words (say.Stored number) = codes "stored " ++ decimal number
reply_words (say.Repeat number) = codes "repeat " ++ decimal number
reply_words (say.Renumbered number) = codes "renumbered " ++ decimal number
reply_words say.NotLive = codes "not-live"
reply_words (say.Fenced session) = codes "fenced " ++ decimal session
reply_words (say.ListFull limit) = codes "list-full"
reply_words say.StoreFault = codes "store-fault"
reply_words say.Memory = codes "memory"

-- an entry of kind Other is not printed
abbrev pub is_named : Request → Bool
is_named (ask.Other phone id) = false
is_named (ask.Register phone register) = true
is_named (ask.Auth phone code) = true
is_named (ask.Unit phone serial id body) = true
is_named (ask.Deregister phone) = true
is_named ask.Close = true

-- a hub makes no entry of the last three
abbrev pub is_answered : Reply → Bool
is_answered (say.Registered code) = true
is_answered (say.Denied result) = true
is_answered say.Accepted = true
is_answered (say.Stored number) = true
is_answered (say.Repeat number) = true
is_answered (say.Renumbered number) = true
is_answered say.NotLive = true
is_answered (say.Fenced session) = true
is_answered (say.ListFull limit) = false
is_answered say.StoreFault = false
is_answered say.Memory = false

abbrev pub is_told : Entry → Bool
is_told entry = is_named entry.request && is_answered entry.reply

-- the session, what it asked, and what the hub answered
unfoldable pub told_line : Entry → List ℕ
told_line entry = decimal entry.session ++ codes " " ++ request_words entry.request ++ codes " " ++ reply_words entry.reply ++ codes "\n"

-- what is printed of an entry
unfoldable pub entry_line : Entry → List ℕ
entry_line entry = if is_told entry then told_line entry else []

-- the fixes recorded, the fixes accepted, the rows, and the fixes in them
unfoldable pub totals_line : WorldTotals → List ℕ
totals_line t =
    codes "recorded=" ++ decimal t.recorded ++ codes " accepted=" ++ decimal t.accepted ++ codes " rows=" ++ decimal t.rows
    ++ codes " stored=" ++ decimal t.stored ++ codes "\n"
