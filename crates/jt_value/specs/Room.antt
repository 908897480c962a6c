-- A list with room for more. To be believed.
use Rattle.std.specs.Prelude.{ℕ, List}

-- the items, and how many more can be put at the end without taking memory
pub record Room (T : Type 0) : Type 0 where
  pub items : List T
  pub spare : ℕ
