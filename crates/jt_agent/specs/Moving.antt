-- How an attempt comes on, move by move. For the proofs.
use Rattle.std.specs.Prelude.{◌≡◌, ◌+◌, ℕ, ◌≤◌, ◌⊎◌, List, ◌∷◌, length, Option, None, Some, Bool}
use Rattle.std.specs.Io.KnownBytes.{Appends}
use Rattle.jt_value.specs.Counts.{Rose, RoseBy, Counts}
use Rattle.jt_outside.specs.Inbound.{Inbound}
use Rattle.jt_value.specs.Octets.{AreOctets}
use Rattle.jt_outside.specs.Sink.{AppendsPrefix}
use Rattle.jt_outside.specs.Link.{Wire, Gives, GivesNone}
use Rattle.jt_outside.specs.Time.{Time, TellsTime}
use Rattle.jt_store.specs.Vaults.{Held}
use Rattle.jt_terminal_rule.specs.declared.state.State.{State}
use Rattle.jt_terminal_rule.specs.declared.state.Event.{Event}
use Rattle.jt_terminal_rule.specs.declared.state.Event.TheVariants.{Tick}
use Rattle.jt_terminal_rule.specs.declared.state.GiveUp.{GiveUp}
use Rattle.jt_terminal_rule.specs.declared.state.GiveUp.TheVariants as give_up
use Rattle.jt_terminal_rule.specs.Rule.{Ruled, rule}
use Rattle.jt_terminal_steps.specs.AfterError.{AreSameTables, CutLists, lists_of}
use Rattle.jt_terminal_steps.specs.Running.{holds_after, time_after, CutShort, IsDown}
use Rattle.jt_terminal.specs.Line.{LineValue, StandsForLine}
use Rattle.jt_agent.specs.Course.{Move, Ticks, Opens, Reads, Waits, Course, course, due, Due, ARead, IsPiece, Stop, Finished, GaveUp, stop_of, is_done, octets_of}
use Rattle.jt_agent.specs.Attempt.{AtLink, Given, Writes, CutLast, HasCause, Leaves, LinkCounts}
use Rattle.jt_agent.specs.declared.ending.AttemptEnd.TheVariants as how
use Rattle.jt_agent.specs.declared.ending.Attempted.{Attempted}
use Rattle.jt_agent.specs.declared.ending.Attempted.TheVariants.{Done, Ended, StoreFault, Memory}

-- the answer for an attempt that the terminal ended
abbrev pub ended_by : Stop → Attempted
ended_by Finished = Done
ended_by (GaveUp (give_up.Denied reply)) = Ended (how.Denied reply)
ended_by (GaveUp (give_up.TimedOut since moment)) = Ended (how.TimedOut since moment)

-- want of memory, or a fault of the vault
abbrev pub IsTrouble : Attempted → ℕ → ℕ → Type 0
IsTrouble Done before faults = ⊥
IsTrouble (Ended end) before faults = ⊥
IsTrouble StoreFault before faults = Rose before faults
IsTrouble Memory before faults = Unit {0}

-- a rule was run whole
pub record DidRule (r : Ruled) (state : State) (old now : Option Held) : Type 0 where
  pub is_state : state ≡ r.state
  pub held : now ≡ holds_after r.steps old

-- an event that was cut short left time, last fix and tables so
abbrev pub LeavesEvent : State → Event → State → Type 0
LeavesEvent s event after = Leaves s (time_after s event) (AreSameTables s) after

-- a rule was cut short, the state is one of these, and nothing was written
pub record CutRule (r : Ruled) (Left : State → Type 0) (old now : AtLink) : Type 0 where
  pub vault : CutShort r.steps old.held now.held
  pub lists : CutLists r.steps (lists_of old.state) (lists_of now.state)
  pub left : Left now.state
  pub down : IsDown now.state
  pub written : now.link.written ≡ old.link.written

-- the frames of a move were written, and the attempt goes on, or the terminal ended it, or they were not all written
abbrev pub Concludes : Option Attempted → Option GiveUp → Bool → List ℕ → Wire → Wire → Type 0
Concludes None end done octets link now = Appends link.written now.written octets × (stop_of end done ≡ None)
Concludes (Some ended) end done octets link now =
    (Appends link.written now.written octets × (stop : Stop) × (stop_of end done ≡ Some stop) × (ended ≡ ended_by stop))
    ⊎ (AppendsPrefix link.written now.written octets × (ended ≡ Ended how.Link) × Rose link.faults now.faults)

-- a move was done, and this came of it; or it was cut short
abbrev pub Comes : Option Attempted → Ruled → (State → Type 0) → AtLink → AtLink → Type 0
Comes None r Left old now =
    DidRule r now.state old.held now.held × Concludes None r.end (is_done r.state) (octets_of old.state.settings r.steps) old.link now.link
Comes (Some ended) r Left old now =
    (DidRule r now.state old.held now.held × Concludes (Some ended) r.end (is_done r.state) (octets_of old.state.settings r.steps) old.link now.link)
    ⊎ (CutRule r Left old now × IsTrouble ended old.faults now.faults)

-- a moment was told
pub record TicksOnce (result : Option Attempted) (old now : AtLink) (time time_now : Time) : Type 0 where
  pub moment : ℕ
  pub tells : TellsTime time time_now moment
  pub comes : Comes result (rule old.state (Tick moment)) (LeavesEvent old.state (Tick moment)) old now

-- the reading side and the settings stay, and the counts never fall
pub record Later (old now : AtLink) : Type 0 where
  pub inbound : now.link.inbound ≡ old.link.inbound
  pub faults : Counts old.link.faults now.link.faults
  pub vault : old.faults ≤ now.faults
  pub settings : now.state.settings ≡ old.state.settings

-- a read of the link, of which the terminal knows nothing yet
pub record ReadsLink (old now : AtLink) : Type 0 where
  pub written : now.link.written ≡ old.link.written
  pub faults : Counts old.link.faults now.link.faults
  pub quiets : Counts old.link.inbound.quiets now.link.inbound.quiets
  pub state : now.state ≡ old.state
  pub held : now.held ≡ old.held
  pub vault : now.faults ≡ old.faults

-- what a move takes from the link and the clock
abbrev pub TakesMove : Move → Inbound → Inbound → Time → Time → Type 0
TakesMove (Ticks moment) old now time time_now = (now ≡ old) × TellsTime time time_now moment
TakesMove Opens old now time time_now = (now ≡ old) × (time_now ≡ time)
TakesMove (Reads octets) old now time time_now = Gives old now octets × (old.quiets ≤ now.quiets) × (time_now ≡ time) × AreOctets octets × IsPiece octets
TakesMove Waits old now time time_now = GivesNone old now × Rose old.quiets now.quiets × (time_now ≡ time)

-- how far the terminal, the vault and the link's writing side have come
pub record Stands (c : Course) (old now : AtLink) : Type 0 where
  pub on : c.stop ≡ None
  pub is_state : now.state ≡ c.state
  pub settings : now.state.settings ≡ old.state.settings
  pub held : now.held ≡ holds_after c.steps old.held
  pub writes : Appends old.link.written now.link.written (octets_of old.state.settings c.steps)
  pub counts : LinkCounts old.link now.link
  pub vault : old.faults ≤ now.faults

-- an attempt so far, which goes on
pub record GoesOn (next : Due) (old now : AtLink) (time time_now : Time) (line : LineValue) (taken : ℕ) : Type 0 where
  pub moves : List Move
  pub is_due : due moves ≡ next
  pub behind : (moment : ℕ) → due (Ticks moment ∷ moves) ≡ ARead
  pub given : Given old.state moves old.link.inbound now.link.inbound time time_now
  pub stands : Stands (course old.state moves) old now
  pub heard : StandsForLine line (course old.state moves).read
  pub place : line.stream.place ≤ taken
  pub count : taken ≡ length (course old.state moves).read
  pub late : now.state.time ≤ time_now.last

-- what was done to the vault, and the terminal, before it loses its line
abbrev pub Did : Attempted → State → List Move → Option Held → Option Held → State → Type 0
Did Done t moves old now state = (now ≡ holds_after (course t moves).steps old) × (state ≡ (course t moves).state)
Did (Ended end) t moves old now state = (now ≡ holds_after (course t moves).steps old) × (state ≡ (course t moves).state)
Did StoreFault t moves old now state = CutLast t moves old now state
Did Memory t moves old now state = CutLast t moves old now state

-- why the attempt ended with the last of these moves, and what was written and done by then
pub record Exit (moves : List Move) (octets quiets : ℕ) (old now : AtLink) (ended : Attempted) : Type 0 where
  pub writes : Writes ended old.state moves old.link.written now.link.written
  pub did : Did ended old.state moves old.held now.held now.state
  pub cause : HasCause ended octets quiets moves old now
  pub counts : LinkCounts old.link now.link
  pub faults : old.faults ≤ now.faults

-- an attempt that ended, before the terminal loses its line
pub record Ends (octets quiets : ℕ) (old now : AtLink) (time time_now : Time) (ended : Attempted) : Type 0 where
  pub moves : List Move
  pub given : Given old.state moves old.link.inbound now.link.inbound time time_now
  pub within : length (course old.state moves).read ≤ octets
  pub exit : Exit moves octets quiets old now ended

-- how many reads in a row were quiet
pub record IsQuiet (quiet : ℕ) (old now : Inbound) : Type 0 where
  pub run : quiet ≤ now.run
  pub most : now.run ≤ old.run + quiet
  pub rose : RoseBy quiet old.quiets now.quiets
