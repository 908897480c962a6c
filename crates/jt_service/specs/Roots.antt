-- Passes that are given one after another, and what is told of a session (this project's own). To be believed.
use Rattle.std.specs.Prelude.{◌≡◌, ◌≤◌, ℕ, [], Option, IsSomeAnd}
use Rattle.std.specs.Prelude.{option_map}
use Rattle.jt_value.specs.declared.limits.TheConstants.{INPUT_LIMIT}
use Rattle.jt_turn.specs.Passes.{PassState, TurnId}
use Rattle.jt_outside.specs.Link.{Wire}
use Rattle.jt_platform.specs.Allowed.{Opening}
use Rattle.jt_platform.specs.declared.desk.HubOpening.{HubOpening}
use Rattle.jt_platform.specs.declared.request.Request.{Request}
use Rattle.jt_platform.specs.declared.request.Reply.{Reply}
use Rattle.jt_session.specs.declared.report.Report.{Report}
use Rattle.jt_session.specs.Serving.{Serves}
use Rattle.jt_session.specs.Hearing.{IsSamePass}

-- a new pass of the turn, over an opening, for whose Close the memory is there
pub record IsNext {P : Type 0} (opening_of : HubOpening P → Opening) (turn : TurnId)
    (opening : Option Opening) (pass : PassState Request Reply (Option (HubOpening P)))
    : Type 0 where
  pub of_turn : pass.turn ≡ turn
  pub from : 1 ≤ pass.number
  pub upto : IsSomeAnd pass.opening (λ o. pass.number ≤ o.reserved)
  pub mine : pass.mine ≡ []
  pub over : option_map opening_of pass.opening ≡ opening

-- the first pass of the turn, over an opening, which gave so many passes that did not come back, of numbers up to one, and may give them
-- up to another
pub record IsRoot {P : Type 0} (opening_of : HubOpening P → Opening) (turn : TurnId)
    (opening : Option Opening) (pass : PassState Request Reply (Option (HubOpening P)))
    (given most out : ℕ) : Type 0 where
  pub of_turn : pass.turn ≡ turn
  pub first : pass.number ≡ 0
  pub gave : pass.given ≤ given
  pub lent : pass.lent ≡ out
  pub few : out ≤ given
  pub reserved : IsSomeAnd pass.opening (λ o. most ≤ o.reserved)
  pub mine : pass.mine ≡ []
  pub over : option_map opening_of pass.opening ≡ opening

-- A link was served under this number, over the opening, by a pass that made no entry before.
pub record IsServed {P : Type 0} (opening_of : HubOpening P → Opening)
    (opening : Option Opening) (number : ℕ) (link : Wire) (report : Report) : Type 0 where
  pub pass : PassState Request Reply (Option (HubOpening P))
  pub pass_now : PassState Request Reply (Option (HubOpening P))
  pub link_now : Wire
  pub named : pass.number ≡ number
  pub over : option_map opening_of pass.opening ≡ opening
  pub new : pass.mine ≡ []
  pub serves : Serves (option_map opening_of pass.opening) INPUT_LIMIT
      pass pass_now link link_now report
  pub same : IsSamePass pass pass_now
