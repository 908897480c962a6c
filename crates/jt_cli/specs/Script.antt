-- What a run of `rehearse` does. To be believed.
use Rattle.std.specs.Prelude.{◌⊎◌, ℕ, List, Option}
use Rattle.jt_world.specs.Claim.{KeptWhole}
use Rattle.jt_world.specs.Rehearsal.{script_reply, world_of}
use Rattle.jt_world.specs.declared.rehearsing.Rehearsed.{Rehearsed}
use Rattle.jt_world.specs.declared.rehearsing.Rehearsed.TheVariants as rehearsed
use Rattle.jt_input.specs.Answer.{IsFault, Runs}
use Rattle.jt_input.specs.declared.status.Status.{Status}
use Rattle.jt_input.specs.declared.status.Status.TheVariants as status

-- A run of `rehearse` over a source and a sink: what it answers to the octets that were taken, and that the claim of delivery
-- holds of the world of that script, where the run had no fault.
pub record RunsScript (left left_now old now : Option (List ℕ)) (status : Status) : Type 0 where
  pub runs : Runs script_reply left left_now old now status
  pub kept : IsFault status ⊎ KeptWhole (world_of runs.taken)

-- the status of a run whose rehearsal ended so: a step for the proofs
abbrev pub status_of : Rehearsed → Status
status_of rehearsed.Done = status.Done
status_of (rehearsed.BadLine number) = status.Refused
status_of rehearsed.ReadFault = status.ReadFault
status_of rehearsed.WriteFault = status.WriteFault
status_of (rehearsed.Full limit) = status.StoreFault
status_of rehearsed.Memory = status.Memory
