-- What a run of `fence` does. To be believed.
use Rattle.std.specs.Prelude.{◌≡◌, ◌⊎◌, ◌^◌, ℕ, List, Option, IfSome}
use Rattle.std.specs.Io.KnownBytes.{Appends, IsAtEnd}
use Rattle.jt_input.specs.Answer.{IsFault, Runs, ReadsNoFurther, PrintsTaken, StopsAtWrite}
use Rattle.jt_input.specs.Lines.{IsHeard}
use Rattle.jt_input.specs.declared.status.Status.{Status}
use Rattle.jt_input.specs.declared.status.Status.TheVariants.{Done, Refused, ReadFault, WriteFault}
use Rattle.jt_fence_command.specs.Tally.{fence_reply, first_tally, outcome_of}
use Rattle.jt_fence_command.specs.Track.{TellsAlarms}

-- each whole line of a track that begins so was heard, none of them is bad, and this is printed of them, whatever follows
abbrev pub IsTaken : List ℕ → List ℕ → Type 0
IsTaken front text = IsHeard outcome_of first_tally front text

-- The octets of the track that were taken, what was written of the text of its alarms, and that it is the text of the whole
-- track, whatever else it has, where there was no fault.
pub record Watches (left left_now old now : Option (List ℕ)) (status : Status) : Type 0 where
  pub runs : Runs fence_reply left left_now old now status
  -- the text of a track is that of the alarms which its fixes raise
  pub alarms : (track : List ℕ) → TellsAlarms track (fence_reply track)
  -- so, where the source tells its octets, and no fault came
  pub whole : IfSome left (λ track. IsFault status
      ⊎ ((status ≡ (fence_reply track).status) × Appends old now (fence_reply track).text))
  -- the track is read no further than the piece of at most 2^14 octets that has its first bad line
  pub no_further : ReadsNoFurther IsTaken (2 ^ 14) left left_now
  -- what is printed of a piece is written before the next is read, so it is there also where that read fails
  pub prints_taken : status ≡ ReadFault → PrintsTaken IsTaken left left_now old now
  -- a write that failed ends the run
  pub stops_at_write : status ≡ WriteFault → StopsAtWrite fence_reply IsTaken (2 ^ 14) left left_now old now
  pub to_the_end : status ≡ Done → IsAtEnd left_now
  pub ends : (status ≡ Done) ⊎ (status ≡ Refused) ⊎ IsFault status
