-- The script that `make` makes, and what is printed of it: this project's own. To be believed.
use Rattle.std.specs.Prelude.{ℕ, zero, suc, ◌+◌, ◌*◌, ◌%◌, ◌==◌, if◌then◌else◌, List, [], ◌∷◌, ◌++◌, codes}
use Rattle.std.specs.Fmt.{decimal}
use Rattle.std.specs.List.{flat_map}
use Rattle.jt_input.specs.Lines.{bad_line}
use Rattle.jt_input.specs.EarlyEnds.{full_line}
use Rattle.jt_input.specs.Reply.{Reply}
use Rattle.jt_input.specs.Text.{with_line_feed}
use Rattle.jt_event_lines.specs.EntryLines.{totals_line}
use Rattle.jt_play.specs.Playing.{Play}
use Rattle.jt_play.specs.Scripts.{totals_of}
use Rattle.jt_world.specs.declared.making.RoundEnd.{RoundEnd}
use Rattle.jt_world.specs.declared.making.RoundEnd.TheVariants.{Same, Open, RestartTerminal, RestartPlatform}
use Rattle.jt_world.specs.Rehearsal.{Rehearsal, End, Whole, BadAt, FullAt, first, rehearsal_from, script_status}

-- ---- the script

abbrev pub open_line : List ℕ
open_line = codes "open"

abbrev pub fix_line : ℕ → List ℕ
fix_line k = codes "fix " ++ decimal k

abbrev pub tick_line : List ℕ
tick_line = codes "tick 1000"

abbrev pub run_line : List ℕ
run_line = codes "run"

-- so many octets, from 0 to 60, go up the line of this number
abbrev pub up_line : ℕ → ℕ → List ℕ
up_line newest k = codes "up " ++ decimal newest ++ codes " " ++ decimal ((7 * k) % 61)

-- and so many, from 0 to 42, come down
abbrev pub down_line : ℕ → List ℕ
down_line k = codes "down " ++ decimal ((5 * k) % 43)

abbrev pub restart_terminal_line : List ℕ
restart_terminal_line = codes "restart terminal"

abbrev pub restart_platform_line : List ℕ
restart_platform_line = codes "restart platform"

-- how the round of this number ends
abbrev pub round_end : ℕ → RoundEnd
round_end k =
    if k % 97 == 96 then RestartPlatform
    else if k % 31 == 30 then Open
    else if k % 13 == 12 then RestartTerminal
    else Same

abbrev pub end_lines : RoundEnd → List (List ℕ)
end_lines Same = []
end_lines Open = open_line ∷ []
end_lines RestartTerminal = restart_terminal_line ∷ open_line ∷ []
end_lines RestartPlatform = restart_platform_line ∷ open_line ∷ []

-- the number of the newest line of communication then
abbrev pub newest_after : RoundEnd → ℕ → ℕ
newest_after Same newest = newest
newest_after Open newest = newest + 1
newest_after RestartTerminal newest = newest + 1
newest_after RestartPlatform newest = newest + 1

-- the lines of the round of this number, where the newest line of communication has that number
abbrev pub round_lines : ℕ → ℕ → List (List ℕ)
round_lines k newest = fix_line k ∷ tick_line ∷ up_line newest k ∷ down_line k ∷ end_lines (round_end k)

-- so many rounds, from the one of this number on
abbrev pub rounds_from : ℕ → ℕ → ℕ → List (List ℕ)
rounds_from k zero newest = []
rounds_from k (suc left) newest = round_lines k newest ++ rounds_from (k + 1) left (newest_after (round_end k) newest)

-- a line of communication is opened, so many rounds follow, and at last another line is opened and all octets move
abbrev pub make_lines : ℕ → List (List ℕ)
make_lines count = open_line ∷ rounds_from 0 count 1 ++ open_line ∷ run_line ∷ []

-- the script of these lines
abbrev pub make_script : ℕ → List ℕ
make_script count = flat_map with_line_feed (make_lines count)

-- ---- what is printed of it

-- its rehearsal
unfoldable pub made : ℕ → Rehearsal
made count = rehearsal_from first 1 (make_lines count)

-- the last line of what is printed of a rehearsal that came to this play and ended so
abbrev pub last_line : Play → End → List ℕ
last_line p Whole = totals_line (totals_of p)
last_line p (BadAt number) = bad_line number
last_line p (FullAt limit) = full_line limit

-- the last line alone, and the status
unfoldable pub made_reply : ℕ → Reply
made_reply count = record { text = last_line (made count).play (made count).end; status = script_status (made count).end }
