-- What `platform` prints, and its status: this project's own texts. To be believed.
use Rattle.std.specs.Prelude.{◌≡◌, ◌⊎◌, ℕ, ◌+◌, List, [], ◌∷◌, ◌++◌, length, codes, Bool, true, false, if◌then◌else◌, Option, Some, None}
use Rattle.std.specs.Fmt.{decimal}
use Rattle.std.specs.List.{flat_map}
use Rattle.jt_platform.specs.declared.request.Entry.{Entry}
use Rattle.jt_platform.specs.declared.request.Reply.{Reply as Replied}
use Rattle.jt_platform.specs.declared.request.Reply.TheVariants as say
use Rattle.jt_input.specs.EarlyEnds.{early_reply}
use Rattle.jt_input.specs.declared.early_end.EarlyEnd.TheVariants as early
use Rattle.jt_input.specs.Reply.{Reply}
use Rattle.jt_input.specs.declared.status.Status.{Status}
use Rattle.jt_input.specs.declared.status.Status.TheVariants as status
use Rattle.jt_server.specs.declared.served.ServeEnd.{ServeEnd}
use Rattle.jt_server.specs.declared.served.ServeEnd.TheVariants as served
use Rattle.jt_session.specs.declared.end.End.{End}
use Rattle.jt_session.specs.declared.end.End.TheVariants as ends
use Rattle.jt_session.specs.declared.report.Report.{Report}

-- ---- a line for each session

abbrev pub end_word : End → List ℕ
end_word ends.Ended = codes "ended"
end_word ends.LinkFault = codes "link-fault"
end_word ends.Idle = codes "idle"
end_word ends.Spent = codes "spent"
end_word (ends.Fenced other) = codes "fenced"
end_word ends.StoreFault = codes "store-fault"
end_word (ends.ListFull limit) = codes "list-full"
end_word ends.Memory = codes "memory"

unfoldable pub session_octets : ℕ → ℕ → List ℕ
session_octets read written = codes " read=" ++ decimal read ++ codes " written=" ++ decimal written

unfoldable pub session_counts : ℕ → ℕ → ℕ → List ℕ
session_counts frames refused dropped =
    codes " frames=" ++ decimal frames ++ codes " refused=" ++ decimal refused ++ codes " dropped=" ++ decimal dropped ++ codes "\n"

unfoldable pub session_line : Report → List ℕ
session_line report =
    codes "session " ++ decimal report.session ++ codes " " ++ end_word report.end ++ session_octets report.read report.written
    ++ session_counts report.frames report.refused report.dropped

-- ---- a line for the history

abbrev pub is_stored : Replied → Bool
is_stored (say.Stored number) = true
is_stored reply = false

abbrev pub is_repeat : Replied → Bool
is_repeat (say.Repeat number) = true
is_repeat reply = false

abbrev pub is_renumbered : Replied → Bool
is_renumbered (say.Renumbered number) = true
is_renumbered reply = false

-- how many entries were replied so
abbrev pub count_of : (Replied → Bool) → List Entry → ℕ
count_of is_so [] = 0
count_of is_so (entry ∷ entries) = (if is_so entry.reply then 1 else 0) + count_of is_so entries

unfoldable pub totals_line : ℕ → ℕ → ℕ → ℕ → List ℕ
totals_line entries stored repeat renumbered =
    codes "entries=" ++ decimal entries ++ codes " stored=" ++ decimal stored ++ codes " repeat=" ++ decimal repeat
    ++ codes " renumbered=" ++ decimal renumbered ++ codes "\n"

abbrev pub entries_line : List Entry → List ℕ
entries_line history = totals_line (length history) (count_of is_stored history) (count_of is_repeat history) (count_of is_renumbered history)

-- ---- the last line, and the status

abbrev pub is_memory : End → Bool
is_memory ends.Memory = true
is_memory end = false

abbrev pub is_store_fault : End → Bool
is_store_fault ends.StoreFault = true
is_store_fault end = false

-- a session of these ended so
abbrev pub some_end : (End → Bool) → List Report → Bool
some_end is_so [] = false
some_end is_so (report ∷ reports) = if is_so report.end then true else some_end is_so reports

abbrev pub limit_in : End → Option ℕ
limit_in (ends.ListFull limit) = Some limit
limit_in end = None

abbrev pub or_limit : Option ℕ → Option ℕ → Option ℕ
or_limit None rest = rest
or_limit (Some limit) rest = Some limit

-- the limit that the first session with a full list met
abbrev pub first_limit : List Report → Option ℕ
first_limit [] = None
first_limit (report ∷ reports) = or_limit (limit_in report.end) (first_limit reports)

abbrev pub full_reply : Option ℕ → Reply
full_reply None = record { text = []; status = status.Done }
full_reply (Some limit) = early_reply (early.ListFull limit)

abbrev pub store_reply : Bool → Option ℕ → Reply
store_reply true limit = early_reply early.StoreFault
store_reply false limit = full_reply limit

-- The last line, if there is one: a listener's fault comes before a store's, and that before a full list. Where memory was wanted
-- before the first session there is none.
abbrev pub last_reply : ServeEnd → List Report → Reply
last_reply served.ListenFault reports = early_reply early.ListenFault
last_reply served.All reports = store_reply (some_end is_store_fault reports) (first_limit reports)
last_reply served.Over reports = store_reply (some_end is_store_fault reports) (first_limit reports)
last_reply served.Memory reports = record { text = []; status = status.Memory }

-- the run tells want of memory, by which a session ended, or which came before the first one
abbrev pub EndsForMemory : Status → List Report → Type 0
EndsForMemory s reports =
    (s ≡ status.Memory) × ((some_end is_memory reports ≡ true) ⊎ (reports ≡ []))

-- what came of `platform`: a bad line of the source, by its number; a fault before a listener was begun; no listener; or sessions
pub data Came : Type 0 where
  BadLine : ℕ → Came
  Unserved : Came
  NoListener : Came
  Served : ServeEnd → List Report → List Entry → Came

-- a session that ended for memory decides the status, whatever the last line is
unfoldable pub platform_text : Came → Reply
platform_text (BadLine number) = early_reply (early.BadLine number)
platform_text Unserved = record { text = []; status = status.Memory }
platform_text NoListener = early_reply early.ListenFault
platform_text (Served end reports history) = record {
  text = flat_map session_line reports ++ (entries_line history ++ (last_reply end reports).text);
  status = if some_end is_memory reports then status.Memory else (last_reply end reports).status;
}
