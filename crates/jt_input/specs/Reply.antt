-- What the program answers. To be believed.
use Rattle.std.specs.Prelude.{ℕ, List}
use Rattle.jt_input.specs.declared.status.Status.{Status}

-- a text that a run writes, and the status with which it then ends
pub record Reply : Type 0 where
  pub text : List ℕ
  pub status : Status
