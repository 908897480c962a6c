-- What a run of `orders` does. To be believed.
use Rattle.std.specs.Prelude.{◌≡◌, ◌≤◌, ◌⊎◌, ◌^◌, ℕ, suc, List, [], length, Option, IfSome}
use Rattle.std.specs.Io.KnownBytes.{Appends, IsAtEnd}
use Rattle.jt_input.specs.Answer.{IsFault, Runs, ReadsNoFurther, PrintsTaken, StopsAtWrite}
use Rattle.jt_input.specs.Cutter.{Held}
use Rattle.jt_input.specs.Lines.{HasHeard, IsHeard}
use Rattle.jt_input.specs.declared.status.Status.{Status}
use Rattle.jt_input.specs.declared.status.Status.TheVariants.{Done, Refused, ReadFault, WriteFault, StoreFault}
use Rattle.jt_order_octets.specs.World.{OrderWorld}
use Rattle.jt_order_octets.specs.Reaching.{Reached}
use Rattle.jt_order_octets.specs.Claim.{Obeyed}
use Rattle.jt_order_play.specs.Scripts.{OrderScene}
use Rattle.jt_order_command.specs.Script.{first_scene, order_reply, outcome_of, world_of}

-- Steps lead to the world, its orders were obeyed, and none was responded to with 1 for its serial alone.
pub record ObeyedWhole (w : OrderWorld) : Type 0 where
  pub reached : Reached w
  pub obeyed : Obeyed w
  pub none_refused : w.refused ≡ []
  -- at most one order is performed and not yet answered
  pub one : length w.log ≤ suc (length w.results)

-- each whole line of a script that begins so was heard, none of them ended it, and this is printed of them, whatever follows
abbrev pub IsTaken : List ℕ → List ℕ → Type 0
IsTaken front text = IsHeard outcome_of first_scene front text

-- The octets of the script that were taken, what was written of the text of it, and that it is the text of the whole script, whatever
-- else it has, where there was no fault.
pub record RunsOrders (left left_now old now : Option (List ℕ)) (status : Status) : Type 0 where
  pub runs : Runs order_reply left left_now old now status
  -- what is claimed of orders holds of the world to which the script led
  pub obeyed : IsFault status ⊎ ObeyedWhole (world_of runs.taken)
  -- so, where the source tells its octets, and no fault came
  pub whole : IfSome left (λ script. IsFault status
      ⊎ ((status ≡ (order_reply script).status) × Appends old now (order_reply script).text × ObeyedWhole (world_of script)))
  -- the script is read no further than the piece of at most 2^14 octets that has the line which ends it
  pub no_further : ReadsNoFurther IsTaken (2 ^ 14) left left_now
  -- what is printed of a piece is written before the next is read, so it is there also where that read fails
  pub prints_taken : status ≡ ReadFault → PrintsTaken IsTaken left left_now old now
  -- a write that failed ends the run
  pub stops_at_write : status ≡ WriteFault → StopsAtWrite order_reply IsTaken (2 ^ 14) left left_now old now
  pub to_the_end : status ≡ Done → IsAtEnd left_now
  pub ends : (status ≡ Done) ⊎ (status ≡ Refused) ⊎ (status ≡ StoreFault) ⊎ IsFault status

-- nothing was heard yet, by the world in which nothing has happened: a step for the proofs
pub record IsBegun (now : OrderScene) (held : Held) (bad : Option ℕ) : Type 0 where
  pub begins : now ≡ first_scene
  pub reached : Reached now.play.world
  pub unheard : HasHeard outcome_of first_scene now held bad [] []
