-- Where a reader stands. To be believed.
use Rattle.std.specs.Prelude.{ℕ, List}

-- the octets of the whole body, and the place of the next one
pub record At : Type 0 where
  pub octets : List ℕ
  pub place : ℕ
