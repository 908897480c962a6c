-- What a call of the terminal makes of its state, its vault and its frames, and what stays true of them. To be believed.
use Rattle.std.specs.Prelude.{ℕ, ◌≡◌, ◌≢◌, ◌≤◌, ◌^◌, ◌-◌, min, List, [], ◌∷◌, ◌++◌, length, Option, None, Some, Bool, true, false, Result, IsErrOf, All, nat_lt, ◌&&◌}
use Rattle.jt_codec.specs.Bodies.{Fits, id_of}
use Rattle.jt_params.specs.Tables.{HasOctets}
use Rattle.jt_position.specs.Fixes.{IsFix}
use Rattle.jt_store.specs.declared.unit.Unit.{Unit as OneUnit}
use Rattle.jt_store.specs.declared.error.StoreError.{StoreError}
use Rattle.jt_store.specs.declared.error.StoreError.TheVariants.{Failed, Full}
use Rattle.jt_store.specs.Tables.{WhereKnown}
use Rattle.jt_value.specs.Counts.{Rose}
use Rattle.jt_store.specs.declared.unit.Loaded.{Loaded}
use Rattle.jt_store.specs.Vaults.{Held, AreInOrder, IsLoaded, changed, accepted_count}
use Rattle.jt_terminal_rule.specs.declared.state.Phase.TheVariants.{Down}
use Rattle.jt_terminal_rule.specs.declared.settings.Settings.{Settings}
use Rattle.jt_terminal_rule.specs.declared.state.GiveUp.{GiveUp}
use Rattle.jt_terminal_steps.specs.declared.error.TerminalError.{TerminalError}
use Rattle.jt_terminal_steps.specs.declared.error.TerminalError.TheVariants.{Store}
use Rattle.jt_terminal_rule.specs.declared.state.Acknowledgement.{Acknowledgement}
use Rattle.jt_terminal_rule.specs.Messages.{AreSettings}
use Rattle.jt_terminal_rule.specs.declared.state.State.{State}
use Rattle.jt_terminal_rule.specs.declared.state.Event.{Event}
use Rattle.jt_terminal_rule.specs.declared.state.Event.TheVariants.{Opened, Received, Tick, Lost, Beat}
use Rattle.jt_terminal_rule.specs.Rule.{Step, Ruled, sends, stays, names, after_acceptance}
use Rattle.jt_terminal_rule.specs.Rule as rule
use Rattle.jt_terminal_rule.specs.Machines.{IsInOrder, Agrees}

-- what a vault holds after these steps, where it tells it
abbrev pub holds_after : List Step → Option Held → Option Held
holds_after [] held = held
holds_after (rule.Changes change ∷ steps) held = holds_after steps (changed change held)
holds_after (rule.Sends older unit ∷ steps) held = holds_after steps held
holds_after (rule.Says h body ∷ steps) held = holds_after steps held
holds_after (rule.Opens ∷ steps) held = holds_after steps held
holds_after (rule.Loses ∷ steps) held = holds_after steps held

-- the changes of the vault are the first ones of these steps, perhaps none and perhaps all
pub record CutShort (steps : List Step) (old now : Option Held) : Type 0 where
  pub done : List Step
  pub left : List Step
  pub parts : steps ≡ done ++ left
  pub held : now ≡ holds_after done old

-- a rule was run: the state, the vault, the frames and the end are its
pub record Ran (settings : Settings) (r : Ruled) (state : State) (old now : Option Held) (out_old out_now : List (List ℕ)) (end : Option GiveUp) : Type 0 where
  pub is_state : state ≡ r.state
  pub held : now ≡ holds_after r.steps old
  pub out : out_now ≡ out_old ++ sends settings r.steps
  pub is_end : end ≡ r.end

-- a rule that may have nothing to do was run, or all stays
abbrev pub Went : Settings → Option Ruled → Bool → State → State → Option Held → Option Held → List (List ℕ) → List (List ℕ) → Type 0
Went settings None false s state old now out_old out_now = (state ≡ s) × (now ≡ old) × (out_now ≡ out_old)
Went settings (Some r) true s state old now out_old out_now = Ran settings r state old now out_old out_now r.end
Went settings None true s state old now out_old out_now = ⊥
Went settings (Some r) false s state old now out_old out_now = ⊥

abbrev pub MayBeCut : Option Ruled → Option Held → Option Held → Type 0
MayBeCut None old now = now ≡ old
MayBeCut (Some r) old now = CutShort r.steps old now

-- the response names the oldest unit, which was sent on this line
abbrev pub oldest_is : State → Acknowledgement → List OneUnit → Bool
oldest_is s ack [] = false
oldest_is s ack (unit ∷ more) = nat_lt 0 s.sent && names ack unit

-- the oldest unit was accepted, if there is one
abbrev pub took : State → List OneUnit → State
took s [] = s
took s (unit ∷ more) = after_acceptance s unit more

-- the same, and the window is filled
abbrev pub accept_first : State → List OneUnit → Ruled
accept_first s [] = stays s
accept_first s (unit ∷ more) = rule.accept_oldest s unit more

-- the terminal's counts are the vault's
pub record CountsAsVault (held : Held) (s : State) : Type 0 where
  pub recorded : s.recorded ≡ min (length held.recorded) (2 ^ 64 - 1)
  pub accepted : s.accepted ≡ min (accepted_count held) (2 ^ 64 - 1)

-- a terminal that is in order, with good settings, and agrees with what its vault holds where that is told
pub record IsSound (held : Option Held) (s : State) : Type 0 where
  pub good : AreSettings s.settings
  pub order : IsInOrder s
  pub fixes : All IsFix s.waiting
  pub params : HasOctets s.params
  pub agrees : WhereKnown held (λ h. Agrees h s × CountsAsVault h s)

-- what no event changes, and what none but a Tick does
pub record IsSame (old now : State) : Type 0 where
  pub settings : now.settings ≡ old.settings
  pub time : now.time ≡ old.time
  pub last : now.last ≡ old.last

-- What a call says of its vault beside what that holds: the limit stays, the count of faults never falls, Store comes only where it
-- rose, and every other answer, so Memory too, only where it stood still; and where no call of the vault may fail, none may later, and
-- Store does not come.
pub record Outside {T : Type 0} (faults faults_now most most_now : ℕ) (may may_now : Bool) (result : Result T TerminalError) : Type 0 where
  pub limit : most_now ≡ most
  pub later : faults ≤ faults_now
  pub failed : IsErrOf result Store → Rose faults faults_now
  pub still : ¬ IsErrOf result Store → faults_now ≡ faults
  pub steady : may ≡ false → (may_now ≡ false) × (IsErrOf result Store → ⊥)

-- what an event must be: a message fits its header's edition and has its id, so that it is no part, and a moment is not before the last
abbrev pub IsEvent : State → Event → Type 0
IsEvent s Opened = Unit {0}
IsEvent s (Received h m) = Fits h.edition m × (id_of m ≡ Some h.id)
IsEvent s (Tick now) = s.time ≤ now
IsEvent s Lost = Unit {0}
IsEvent s Beat = Unit {0}

-- what contracts see of a terminal
pub record TerminalValue (V : Type 0) : Type 0 where
  pub vault : V
  pub state : State

-- a terminal that started over a vault, from what the vault loaded
pub record IsStarted (settings : Settings) (held : Option Held) (s : State) : Type 0 where
  pub loaded : Loaded
  pub state : s ≡ rule.start_state settings loaded
  pub is : WhereKnown held (λ h. IsLoaded h loaded)
  pub order : AreInOrder loaded.mark loaded.next loaded.units loaded.code

-- no line is in use
pub record IsDown (s : State) : Type 0 where
  pub phase : s.phase ≡ Down
  pub sent : s.sent ≡ 0

-- the moment of the latest Tick
abbrev pub time_after : State → Event → ℕ
time_after s Opened = s.time
time_after s (Received h m) = s.time
time_after s (Tick now) = now
time_after s Lost = s.time
time_after s Beat = s.time

-- nothing is left to be accepted
abbrev pub IsDone : State → Type 0
IsDone s = (s.units ≡ []) × (s.waiting ≡ [])

-- why a vault did not load: the count of faults never falls, Failed comes only where it rose, and Memory only where it stood still; where
-- no call may fail none may later, and Failed does not come; Full never does
pub record IsRefused (faults faults_now : ℕ) (may may_now : Bool) (error : StoreError) : Type 0 where
  pub later : faults ≤ faults_now
  pub failed : error ≡ Failed → Rose faults faults_now
  pub still : error ≢ Failed → faults_now ≡ faults
  pub steady : may ≡ false → (may_now ≡ false) × (error ≢ Failed)
  pub never_full : (limit : ℕ) → error ≢ Full limit
