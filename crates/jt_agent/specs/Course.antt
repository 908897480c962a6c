-- What a terminal is told in an attempt, and what it then does (this project's own). To be believed.
use Rattle.std.specs.Prelude.{◌≡◌, ℕ, ◌+◌, ◌≤◌, ◌<◌, List, [], ◌∷◌, ◌++◌, length, Option, None, Some, Bool, true, false, ◌&&◌}
use Rattle.std.specs.List.{flat_map}
use Rattle.jt_value.specs.declared.limits.TheConstants.{READ_LIMIT}
use Rattle.jt_terminal_rule.specs.declared.settings.Settings.{Settings}
use Rattle.jt_terminal_rule.specs.declared.state.State.{State}
use Rattle.jt_terminal_rule.specs.declared.state.Event.TheVariants.{Opened, Tick}
use Rattle.jt_terminal_rule.specs.declared.state.GiveUp.{GiveUp}
use Rattle.jt_terminal_rule.specs.Rule.{Step, Ruled, rule, sends, stays}
use Rattle.jt_terminal.specs.Line.{rule_at_octets}

-- the clock's moment; an open line; the octets that a read gave; and a read that was quiet, of which it is told nothing
pub data Move : Type 0 where
  Ticks : ℕ → Move
  Opens : Move
  Reads : List ℕ → Move
  Waits : Move

-- how a terminal ends an attempt: all recorded fixes are accepted, or it gives up
pub data Stop : Type 0 where
  Finished : Stop
  GaveUp : GiveUp → Stop

-- the terminal, what its line has read, what it did so far, and how it ended the attempt, if it did
pub record Course : Type 0 where
  pub state : State
  pub read : List ℕ
  pub steps : List Step
  pub stop : Option Stop

abbrev pub has_none : {A : Type 0} → List A → Bool
has_none [] = true
has_none (x ∷ more) = false

-- every recorded fix is accepted: no unit and no fix is left
abbrev pub is_done : State → Bool
is_done s = has_none s.units && has_none s.waiting

abbrev pub stop_if_done : Bool → Option Stop
stop_if_done true = Some Finished
stop_if_done false = None

-- that it gave up is looked at first
abbrev pub stop_of : Option GiveUp → Bool → Option Stop
stop_of (Some cause) done = Some (GaveUp cause)
stop_of None done = stop_if_done done

-- what a terminal does that is told this, behind what its line has read
abbrev pub made : State → List ℕ → Move → Ruled
made s read (Ticks moment) = rule s (Tick moment)
made s read Opens = rule s Opened
made s read (Reads octets) = rule_at_octets s read octets
made s read Waits = stays s

-- it did so, and its line has read this
abbrev pub goes_on : Course → List ℕ → Ruled → Course
goes_on c read r = record { state = r.state; read = read; steps = c.steps ++ r.steps; stop = stop_of r.end (is_done r.state) }

abbrev pub course_after : Course → Move → Course
course_after c (Ticks moment) = goes_on c c.read (made c.state c.read (Ticks moment))
course_after c Opens = goes_on c c.read (made c.state c.read Opens)
course_after c (Reads octets) = goes_on c (c.read ++ octets) (made c.state c.read (Reads octets))
course_after c Waits = c

-- the newest move first
abbrev pub course : State → List Move → Course
course t [] = record { state = t; read = []; steps = []; stop = None }
course t (move ∷ older) = course_after (course t older) move

-- what comes next: a moment and an open line, and then turns of a read and a moment
pub data Due : Type 0 where
  ATick : Due
  AnOpening : Due
  ARead : Due

abbrev pub due : List Move → Due
due [] = ATick
due (Ticks moment ∷ []) = AnOpening
due (Ticks moment ∷ move ∷ older) = ARead
due (Opens ∷ older) = ARead
due (Reads octets ∷ older) = ATick
due (Waits ∷ older) = ATick

abbrev pub kind : Move → Due
kind (Ticks moment) = ATick
kind Opens = AnOpening
kind (Reads octets) = ARead
kind Waits = ARead

-- what one read gave: from 1 to 4,096 octets
pub record IsPiece (octets : List ℕ) : Type 0 where
  pub some : 0 < length octets
  pub short : length octets ≤ READ_LIMIT

abbrev pub IsMove : Move → Type 0
IsMove (Ticks moment) = Unit {0}
IsMove Opens = Unit {0}
IsMove (Reads octets) = IsPiece octets
IsMove Waits = Unit {0}

-- these moves make an attempt so far: each comes in its turn, and none behind the one at which the terminal ended it
abbrev pub Fits : State → List Move → Type 0
Fits t [] = Unit {0}
Fits t (move ∷ older) = ((course t older).stop ≡ None) × (kind move ≡ due older) × IsMove move × Fits t older

-- a read comes next: the first moment, the open line and the moment of each turn so far were told, and the terminal did not end the attempt
pub record IsAtRead (t : State) (moves : List Move) : Type 0 where
  pub on : (course t moves).stop ≡ None
  pub next : due moves ≡ ARead

-- the terminal is told of it
abbrev pub IsTold : Move → Type 0
IsTold (Ticks moment) = Unit {0}
IsTold Opens = Unit {0}
IsTold (Reads octets) = Unit {0}
IsTold Waits = ⊥

-- the clock's moments, oldest first
abbrev pub moments_of : List Move → List ℕ
moments_of [] = []
moments_of (Ticks moment ∷ older) = moments_of older ++ moment ∷ []
moments_of (Opens ∷ older) = moments_of older
moments_of (Reads octets ∷ older) = moments_of older
moments_of (Waits ∷ older) = moments_of older

-- how many reads were quiet
abbrev pub waits_of : List Move → ℕ
waits_of [] = 0
waits_of (Ticks moment ∷ older) = waits_of older
waits_of (Opens ∷ older) = waits_of older
waits_of (Reads octets ∷ older) = waits_of older
waits_of (Waits ∷ older) = waits_of older + 1

-- the octets of the frames that steps send
abbrev pub octets_of : Settings → List Step → List ℕ
octets_of settings steps = flat_map (λ frame. frame) (sends settings steps)

-- the octets of all frames of these moves
abbrev pub said_octets : State → List Move → List ℕ
said_octets t moves = octets_of t.settings (course t moves).steps

-- all moves but the newest
abbrev pub before_last : List Move → List Move
before_last [] = []
before_last (move ∷ older) = older
