-- What contracts see of a shared keeper (this project's own). To be believed.
use Rattle.std.specs.Prelude.{ℕ}

-- its limit, and how often it failed
pub record SharedValue : Type 0 where
  pub limit : ℕ
  pub faults : ℕ
