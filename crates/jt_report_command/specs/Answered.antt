-- A dial whose first link answers all that a terminal sends, in time (this project's own). To be believed.
use Rattle.std.specs.Prelude.{◌≡◌, ◌≢◌, ◌≤◌, ◌<◌, ◌+◌, ◌++◌, ℕ, List, ◌∷◌, Option, Some, IfSome, length}
use lib.ListN.{get_elem?}
use mathlib.Core.Option.{some}
use Rattle.jt_value.specs.declared.limits.TheConstants.{INPUT_LIMIT}
use Rattle.jt_outside.specs.Pool.{Pool, Script, Used}
use Rattle.jt_outside.specs.Time.{Time, TellsAll}
use Rattle.jt_input.specs.Text.{lines_of}
use Rattle.jt_store.specs.Vaults.{Held, pending_count}
use Rattle.jt_terminal_rule.specs.declared.state.State.{State}
use Rattle.jt_terminal_rule.specs.declared.state.GiveUp.{GiveUp}
use Rattle.jt_agent.specs.Course.{Fits, GaveUp, IsAtRead, Move, course, moments_of, waits_of}
use Rattle.jt_report_command.specs.FixesText.{HaveFixes}
use Rattle.jt_report_command.specs.Noting.{noted_all}
use Rattle.jt_report_command.specs.Running.{Scene}

-- the terminal is told a front of these octets, in whatever pieces of which none is empty, and the clock's moments between them
pub record HearsFront (t : State) (octets : List ℕ) (time : Time) (moves : List Move) : Type 0 where
  pub fits : Fits t moves
  pub none_quiet : waits_of moves ≡ 0
  pub time_now : Time
  pub moments : TellsAll time time_now (moments_of moves)
  pub rest : List ℕ
  pub front : octets ≡ (course t moves).read ++ rest

-- Told a front of these octets the terminal does not give up; told all of them, it waits for no more.
pub record AnswersAll (t : State) (octets : List ℕ) (time : Time) : Type 0 where
  pub goes_on : (moves : List Move) (cause : GiveUp) → HearsFront t octets time moves → (course t moves).stop ≢ Some (GaveUp cause)
  pub ends : (moves : List Move) → HearsFront t octets time moves → octets ≡ (course t moves).read → ¬ IsAtRead t moves

-- The dial's first link gives octets that answer all, fewer than an attempt may take.
pub record HasAnswers (t : State) (pool : Pool) (time : Time) : Type 0 where
  pub script : Script
  pub scripts : List Script
  pub coming : pool.coming ≡ Some (script ∷ scripts)
  pub octets : List ℕ
  pub gives : script.octets ≡ Some octets
  pub short : length octets < INPUT_LIMIT
  pub answers : AnswersAll t octets time

-- The dial tells the links that come back, and of those that came back since none had a fault or a quiet read.
pub record WereFine (old now : Pool) : Type 0 where
  pub back : List Used
  pub told : old.back ≡ Some back
  pub links : IfSome now.back (λ links. (k : ℕ) (used : Used) → length back ≤ k → get_elem? links k ≡ some used → (used.faults ≡ 0) × (used.quiets ≡ 0))

-- All is there for a run of `report`: the source tells octets whose lines are all good; the vault tells what it holds, and has room for
-- their fixes; and the dial's first link answers all that a terminal sends that started so and recorded them.
pub record HasAll (Starts : State → Type 0) (left : Option (List ℕ)) (old : Scene) : Type 0 where
  pub text : List ℕ
  pub told : left ≡ Some text
  pub fixes : List (List ℕ)
  pub good : HaveFixes 1 (lines_of text) fixes
  pub held : Held
  pub holds : old.held ≡ Some held
  pub room : pending_count held + length fixes ≤ old.limit
  pub answers : (started : State) → Starts started → HasAnswers (noted_all started fixes) old.pool old.time
