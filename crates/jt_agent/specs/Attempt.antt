-- One attempt of a terminal over a link (this project's own). To be believed.
use Rattle.std.specs.Prelude.{◌≡◌, ℕ, ◌-◌, ◌≤◌, ◌⊎◌, List, [], ◌∷◌, ◌++◌, length, Option, Some, Bool, false}
use Rattle.std.specs.Io.KnownBytes.{Appends, IsAtEnd}
use Rattle.jt_value.specs.Counts.{Rose, RoseBy, Counts}
use Rattle.jt_outside.specs.Inbound.{Inbound}
use Rattle.jt_value.specs.Octets.{AreOctets}
use Rattle.jt_outside.specs.Link.{Wire, Gives}
use Rattle.jt_outside.specs.Time.{Time, TellsAll}
use Rattle.jt_store.specs.Vaults.{Held}
use Rattle.jt_terminal_rule.specs.declared.state.State.{State}
use Rattle.jt_terminal_rule.specs.declared.state.Event.TheVariants.{Lost}
use Rattle.jt_terminal_rule.specs.declared.state.GiveUp.TheVariants as give_up
use Rattle.jt_terminal_rule.specs.Rule.{rule}
use Rattle.jt_terminal_steps.specs.AfterError.{AreSameTables, CutLists, lists_of}
use Rattle.jt_terminal_steps.specs.Running.{holds_after, CutShort, IsDown}
use Rattle.jt_terminal.specs.Line.{TablesOfFirst, new_items, partial_of}
use Rattle.jt_agent.specs.Course.{Move, Ticks, Opens, Reads, Waits, course, made, Fits, IsAtRead, IsTold, moments_of, waits_of, said_octets, before_last, Finished, GaveUp}
use Rattle.jt_agent.specs.declared.ending.AttemptEnd.TheVariants as how
use Rattle.jt_agent.specs.declared.ending.Attempted.{Attempted}
use Rattle.jt_agent.specs.declared.ending.Attempted.TheVariants.{Done, Ended, StoreFault, Memory}

-- what an attempt changes: the terminal, what its vault holds where it tells it, the vault's count of faults, and the link
pub record AtLink : Type 0 where
  pub state : State
  pub held : Option Held
  pub faults : ℕ
  pub link : Wire

abbrev pub at_link : State → Option Held → ℕ → Wire → AtLink
at_link state held faults link = record { state = state; held = held; faults = faults; link = link }

-- what the terminal was told came from the link and the clock
pub record Given (t : State) (moves : List Move) (old now : Inbound) (time time_now : Time) : Type 0 where
  pub fits : Fits t moves
  -- the terminal's line has read the octets that the link gave, in whatever cut
  pub gives : Gives old now (course t moves).read
  -- which are octets also where it tells nothing
  pub octets : AreOctets (course t moves).read
  -- the moments are the clock's answers
  pub moments : TellsAll time time_now (moments_of moves)
  -- a turn without octets comes only where its read was quiet
  pub waits : RoseBy (waits_of moves) old.quiets now.quiets

-- the link's counts of faults and of quiet reads never fall
pub record LinkCounts (old now : Wire) : Type 0 where
  pub faults : Counts old.faults now.faults
  pub quiets : Counts old.inbound.quiets now.inbound.quiets

-- the frames of all moves but the last one were written, and of the last one's octets a prefix, perhaps none and perhaps all
pub record WritesPart (t : State) (last : Move) (older : List Move) (old now : Option (List ℕ)) : Type 0 where
  pub told : IsTold last
  pub front : List ℕ
  pub rest : List ℕ
  pub parts : said_octets t (last ∷ older) ≡ said_octets t older ++ front ++ rest
  pub writes : Appends old now (said_octets t older ++ front)

abbrev pub WritesLast : State → List Move → Option (List ℕ) → Option (List ℕ) → Type 0
WritesLast t [] old now = ⊥
WritesLast t (last ∷ older) old now = WritesPart t last older old now

-- All frames were written. Where the link failed either a read failed, or a write, and of the last move's octets a prefix was written. Where
-- the vault or memory failed, no frame of the last move was written.
abbrev pub Writes : Attempted → State → List Move → Option (List ℕ) → Option (List ℕ) → Type 0
Writes Done t moves old now = Appends old now (said_octets t moves)
Writes (Ended how.Link) t moves old now = (IsAtRead t moves × Appends old now (said_octets t moves)) ⊎ WritesLast t moves old now
Writes (Ended how.End) t moves old now = Appends old now (said_octets t moves)
Writes (Ended (how.Denied reply)) t moves old now = Appends old now (said_octets t moves)
Writes (Ended (how.TimedOut since moment)) t moves old now = Appends old now (said_octets t moves)
Writes (Ended how.Idle) t moves old now = Appends old now (said_octets t moves)
Writes (Ended how.Spent) t moves old now = Appends old now (said_octets t moves)
Writes (Ended how.Dial) t moves old now = ⊥
Writes StoreFault t moves old now = Appends old now (said_octets t (before_last moves))
Writes Memory t moves old now = Appends old now (said_octets t (before_last moves))

-- all moves were done, and then the line was lost: what the vault holds, and the terminal
abbrev pub DoesAll : State → List Move → Option Held → Option Held → State → Type 0
DoesAll t moves old now after = (now ≡ holds_after (course t moves).steps old) × (after ≡ (rule (course t moves).state Lost).state)

-- what a move that was cut short leaves: the time is this moment, the last recorded fix stays, and the tables are these
pub record Leaves (s : State) (moment : ℕ) (Tables : State → Type 0) (after : State) : Type 0 where
  pub time : after.time ≡ moment
  pub last : after.last ≡ s.last
  pub tables : Tables after

-- The time is that of the latest moment, this one included. Times, parameters and regions are as they were; at octets they are those that the
-- rule has before some item, which failed and left nothing of its own in them. A quiet read is never cut short.
abbrev pub LeavesAt : State → List ℕ → Move → State → Type 0
LeavesAt s read (Ticks moment) after = Leaves s moment (AreSameTables s) after
LeavesAt s read Opens after = Leaves s s.time (AreSameTables s) after
LeavesAt s read (Reads octets) after = Leaves s s.time (TablesOfFirst s (partial_of read) (new_items read octets)) after
LeavesAt s read Waits after = ⊥

-- All moves but the last one were done. Of what that one does to the vault the first changes were made, perhaps none and perhaps all; what
-- the terminal keeps of units, fixes, serials and code is what some first steps of that move make of it, and it has no line.
pub record WasCut (t : State) (last : Move) (older : List Move) (old now : Option Held) (after : State) : Type 0 where
  pub vault : CutShort (made (course t older).state (course t older).read last).steps (holds_after (course t older).steps old) now
  pub lists : CutLists (made (course t older).state (course t older).read last).steps (lists_of (course t older).state) (lists_of after)
  pub left : LeavesAt (course t older).state (course t older).read last after
  pub down : IsDown after

abbrev pub CutLast : State → List Move → Option Held → Option Held → State → Type 0
CutLast t [] old now after = ⊥
CutLast t (last ∷ older) old now after = WasCut t last older old now after

-- what was done to vault and terminal
abbrev pub Does : Attempted → State → List Move → Option Held → Option Held → State → Type 0
Does Done t moves old now after = DoesAll t moves old now after
Does (Ended end) t moves old now after = DoesAll t moves old now after
Does StoreFault t moves old now after = CutLast t moves old now after
Does Memory t moves old now after = CutLast t moves old now after

-- Why an attempt ends. By the terminal: all is accepted, or it gave up, with its values. By the link: its count of faults rose; or it said, at
-- a read, that it ended, with nothing left where that is told. Because, at a read, as many reads in a row were quiet, or as many octets were
-- taken, as may be. By the vault, whose count of faults rose. It never ends for want of a link.
abbrev pub HasCause : Attempted → ℕ → ℕ → List Move → AtLink → AtLink → Type 0
HasCause Done octets quiets moves old now = (course old.state moves).stop ≡ Some Finished
HasCause (Ended (how.Denied reply)) octets quiets moves old now = (course old.state moves).stop ≡ Some (GaveUp (give_up.Denied reply))
HasCause (Ended (how.TimedOut since moment)) octets quiets moves old now = (course old.state moves).stop ≡ Some (GaveUp (give_up.TimedOut since moment))
HasCause (Ended how.End) octets quiets moves old now = IsAtRead old.state moves × IsAtEnd now.link.inbound.left
HasCause (Ended how.Link) octets quiets moves old now = Rose old.link.faults now.link.faults
HasCause (Ended how.Idle) octets quiets moves old now =
    IsAtRead old.state moves × RoseBy quiets old.link.inbound.quiets now.link.inbound.quiets × (quiets ≤ now.link.inbound.run)
HasCause (Ended how.Spent) octets quiets moves old now = IsAtRead old.state moves × (length (course old.state moves).read ≡ octets)
HasCause (Ended how.Dial) octets quiets moves old now = ⊥
HasCause StoreFault octets quiets moves old now = Rose old.faults now.faults
HasCause Memory octets quiets moves old now = Unit {0}

-- the most reads in a row that were quiet, where an attempt ends so: the last one that is allowed ends it as Idle
abbrev pub most_quiet : ℕ → Attempted → ℕ
most_quiet quiets (Ended how.Idle) = quiets
most_quiet quiets _ = quiets - 1

-- An attempt over a link, with at most so many octets taken and so many quiet reads in a row: there are moves, newest first, of which all of
-- this holds.
pub record Attempt (octets quiets : ℕ) (old now : AtLink) (time time_now : Time) (ended : Attempted) : Type 0 where
  pub moves : List Move
  pub given : Given old.state moves old.link.inbound now.link.inbound time time_now
  pub within : length (course old.state moves).read ≤ octets
  pub writes : Writes ended old.state moves old.link.written now.link.written
  pub does : Does ended old.state moves old.held now.held now.state
  pub cause : HasCause ended octets quiets moves old now
  pub counts : LinkCounts old.link now.link
  pub faults : old.faults ≤ now.faults

-- What is said of a vault beside what it holds: its count of faults never falls, and stands still but where this failure comes; its limit stays;
-- and where none of its calls may fail, none may later, and this failure does not come.
pub record VaultStays (faults faults_now most most_now : ℕ) (may may_now : Bool) (failed : Type 0) : Type 0 where
  pub later : faults ≤ faults_now
  pub still : ¬ failed → faults_now ≡ faults
  pub limit : most_now ≡ most
  pub steady : may ≡ false → (may_now ≡ false) × (failed → ⊥)
