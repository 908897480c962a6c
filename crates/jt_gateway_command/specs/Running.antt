-- What a run of `gateway` does. To be believed.
use Rattle.std.specs.Prelude.{◌≡◌, ◌⊎◌, ◌^◌, ℕ, List, [], Option, IfSome}
use Rattle.std.specs.Io.KnownBytes.{Appends, IsAtEnd}
use Rattle.jt_input.specs.Answer.{IsFault, Runs, ReadsNoFurther, PrintsTaken, StopsAtWrite}
use Rattle.jt_input.specs.Cutter.{Held}
use Rattle.jt_input.specs.Lines.{HasHeard, IsHeard}
use Rattle.jt_input.specs.declared.status.Status.{Status}
use Rattle.jt_input.specs.declared.status.Status.TheVariants.{Done, Refused, ReadFault, WriteFault, StoreFault}
use Rattle.jt_gateway.specs.Claim.{Passed}
use Rattle.jt_gateway.specs.Gateway.{GatewayScene, IsGateway, first_gateway, worlds_of}
use Rattle.jt_gateway.specs.Steps.{ReachedGateway}
use Rattle.jt_gateway_command.specs.Script.{gateway_of, gateway_reply, outcome_of}

-- Steps lead to the gateway world, and its fixes were passed on.
pub record PassedWhole (g : GatewayScene) : Type 0 where
  pub reached : ReachedGateway (worlds_of g)
  pub passed : Passed (worlds_of g)

-- each whole line of a script that begins so was heard, none of them ended it, and this is printed of them, whatever follows
abbrev pub IsTaken : List ℕ → List ℕ → Type 0
IsTaken front text = IsHeard outcome_of first_gateway front text

-- The octets of the script that were taken, what was written of the text of it, and that it is the text of the whole script, whatever
-- else it has, where there was no fault.
pub record RunsGateway (left left_now old now : Option (List ℕ)) (status : Status) : Type 0 where
  pub runs : Runs gateway_reply left left_now old now status
  -- what is claimed of fixes that are passed on holds of the gateway to which the script led
  pub passed : IsFault status ⊎ PassedWhole (gateway_of runs.taken)
  -- so, where the source tells its octets, and no fault came
  pub whole : IfSome left (λ script. IsFault status
      ⊎ ((status ≡ (gateway_reply script).status) × Appends old now (gateway_reply script).text × PassedWhole (gateway_of script)))
  -- the script is read no further than the piece of at most 2^14 octets that has the line which ends it
  pub no_further : ReadsNoFurther IsTaken (2 ^ 14) left left_now
  -- what is printed of a piece is written before the next is read, so it is there also where that read fails
  pub prints_taken : status ≡ ReadFault → PrintsTaken IsTaken left left_now old now
  -- a write that failed ends the run
  pub stops_at_write : status ≡ WriteFault → StopsAtWrite gateway_reply IsTaken (2 ^ 14) left left_now old now
  pub to_the_end : status ≡ Done → IsAtEnd left_now
  pub ends : (status ≡ Done) ⊎ (status ≡ Refused) ⊎ (status ≡ StoreFault) ⊎ IsFault status

-- nothing was heard yet, by the gateway in which nothing has happened: a step for the proofs
pub record IsBegun (now : GatewayScene) (held : Held) (bad : Option ℕ) : Type 0 where
  pub begins : now ≡ first_gateway
  pub gateway : IsGateway now
  pub unheard : HasHeard outcome_of first_gateway now held bad [] []
