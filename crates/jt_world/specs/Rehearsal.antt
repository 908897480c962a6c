-- What a script leads to, and what is printed of it: this project's own. To be believed.
use Rattle.std.specs.Prelude.{ℕ, ◌+◌, if◌then◌else◌, List, [], ◌∷◌, ◌++◌, codes}
use Rattle.std.specs.List.{flat_map}
use Rattle.jt_value.specs.declared.limits.TheConstants.{FIX_LIMIT, ROW_LIMIT}
use Rattle.jt_value.specs.declared.phone.Edition.{Edition}
use Rattle.jt_value.specs.declared.phone.Edition.TheVariants.{E2013, E2019}
use Rattle.jt_value.specs.declared.phone.Phone.{Phone}
use Rattle.jt_delivery.specs.World.{Setting}
use Rattle.jt_octets.specs.World.{World}
use Rattle.jt_play.specs.declared.identity.Identity.{Identity}
use Rattle.jt_play.specs.Laws.{first_play}
use Rattle.jt_play.specs.Playing.{Play, entries_between, finds_full, names_no_line, play_after}
use Rattle.jt_play.specs.Scripts.{settings_in, totals_of}
use Rattle.jt_terminal_rule.specs.declared.settings.Settings.{Settings}
use Rattle.jt_terminal_rule.specs.PlainSettings.{settings_of}
use Rattle.jt_script.specs.declared.reading.EventLine.{EventLine}
use Rattle.jt_script.specs.declared.reading.EventLine.TheVariants.{Passed, Event, Bad}
use Rattle.jt_script.specs.EventLines.{meaning}
use Rattle.jt_input.specs.Text.{lines_of}
use Rattle.jt_input.specs.Lines.{bad_line}
use Rattle.jt_input.specs.EarlyEnds.{full_line}
use Rattle.jt_input.specs.Reply.{Reply}
use Rattle.jt_input.specs.declared.status.Status.{Status}
use Rattle.jt_input.specs.declared.status.Status.TheVariants.{Done, Refused, StoreFault}
use Rattle.jt_event_lines.specs.EntryLines.{entry_line, totals_line}

-- ---- where nothing has happened

-- the phone 013912345678
abbrev pub the_phone : Edition → Phone
the_phone edition = record { edition = edition; digits = 0 ∷ 0 ∷ 0 ∷ 0 ∷ 0x01 ∷ 0x39 ∷ 0x12 ∷ 0x34 ∷ 0x56 ∷ 0x78 ∷ [] }

abbrev pub the_plate : List ℕ
the_plate = codes "JT808"

abbrev pub the_terminal : List ℕ
the_terminal = codes "1234567"

abbrev pub the_secret : List ℕ
the_secret = codes "12"

-- the terminal has, in each edition, the settings that `report` has for this phone, plate and terminal id
abbrev pub the_settings : Edition → Settings
the_settings edition = settings_of (the_phone edition) the_plate the_terminal

abbrev pub the_identity : Identity
the_identity = record { e2013 = the_settings E2013; e2019 = the_settings E2019 }

-- every hub has a fleet of this plate and this terminal id, and the keeper takes 1,000,000,000 rows
abbrev pub the_setting : Setting
the_setting = record { fleet = record { plates = the_plate ∷ []; terminals = the_terminal ∷ [] }; secret = the_secret; limit = ROW_LIMIT }

-- the terminal is one of 2013, without a line, over an empty vault; the hub has no entry, and its keeper nothing; the clock stands at 0
abbrev pub first : Play
first = first_play (the_settings E2013) the_setting

-- ---- what is printed

-- what is printed of a step: a line for each entry that it made, in order
abbrev pub entry_lines : World → World → List ℕ
entry_lines old new = flat_map entry_line (entries_between old new)

-- ---- what a script leads to

-- the script was read whole, or its line of this number is bad, or a fix found this many that are not accepted, as many as there may be
pub data End : Type 0 where
  Whole : End
  BadAt : ℕ → End
  FullAt : ℕ → End

-- a world with what its terminal keeps, what was printed on the way, and why the script ended
pub record Rehearsal : Type 0 where
  pub play : Play
  pub text : List ℕ
  pub end : End

-- this is printed before
abbrev pub printing : List ℕ → Rehearsal → Rehearsal
printing text rehearsal = record rehearsal { text = text ++ rehearsal.text }

-- the line of this number is bad
abbrev pub bad_at : ℕ → Play → Rehearsal
bad_at number p = record { play = p; text = bad_line number; end = BadAt number }

-- the vault is full
abbrev pub full_at : Play → Rehearsal
full_at p = record { play = p; text = full_line FIX_LIMIT; end = FullAt FIX_LIMIT }

-- the script was read whole
abbrev pub whole_at : Play → Rehearsal
whole_at p = record { play = p; text = totals_line (totals_of p); end = Whole }

-- one play leads to another: what the hub entered is printed, and the script goes on
abbrev pub goes_to : Play → Play → (Play → Rehearsal) → Rehearsal
goes_to old new next = printing (entry_lines old.world new.world) (next new)

-- a line is passed over, leads to the next play, or ends the script: as the bad line of this number, also where it names a line of
-- communication that was not opened, or where the vault is full
abbrev pub after_line : Play → ℕ → (Play → Rehearsal) → EventLine → Rehearsal
after_line p number next Passed = next p
after_line p number next (Event event) =
    if names_no_line p.world event then bad_at number p
    else if finds_full FIX_LIMIT p event then full_at p
    else goes_to p (play_after (settings_in the_identity) p event) next
after_line p number next Bad = bad_at number p

-- these lines of a script, the first of which has this number
abbrev pub rehearsal_from : Play → ℕ → List (List ℕ) → Rehearsal
rehearsal_from p number [] = whole_at p
rehearsal_from p number (line ∷ more) = after_line p number (λ next. rehearsal_from next (number + 1) more) (meaning number line)

-- the rehearsal of a script
unfoldable pub rehearsal : List ℕ → Rehearsal
rehearsal script = rehearsal_from first 1 (lines_of script)

-- the world of a script
abbrev pub world_of : List ℕ → World
world_of script = (rehearsal script).play.world

-- the text that is printed of a script
abbrev pub rehearsal_text : List ℕ → List ℕ
rehearsal_text script = (rehearsal script).text

-- a script with a bad line is refused, and one that fills the vault ends as a store does that is full
abbrev pub script_status : End → Status
script_status Whole = Done
script_status (BadAt number) = Refused
script_status (FullAt limit) = StoreFault

-- what is printed of a script, and the status
unfoldable pub script_reply : List ℕ → Reply
script_reply script = record { text = rehearsal_text script; status = script_status (rehearsal script).end }
