-- What is claimed of every gateway world that is reached (this project's own). To be believed.
use Rattle.std.specs.Prelude.{◌≡◌, ℕ, ◌<◌, length, take, All}
use mathlib.Core.List.{IsPrefix}
use Rattle.jt_octets.specs.Reaching.{Reached}
use Rattle.jt_gateway.specs.World.{GatewayWorld, fixes_stored}
use Rattle.jt_gateway.specs.Steps.{GatewayLeads, ReachedGateway}

-- What the authority stored is a prefix of what was recorded for it, this one of what the operator stored, and this one of what the
-- terminal recorded: each fix once and in order.
pub record Passed (g : GatewayWorld) : Type 0 where
  pub upstream : IsPrefix (fixes_stored g.b) g.b.terminal.recorded
  pub relayed : IsPrefix g.b.terminal.recorded (fixes_stored g.a)
  pub middle : IsPrefix (fixes_stored g.a) g.a.terminal.recorded
  -- The authority's rows are the first units of world b, and each unit whose acceptance its terminal received is among them: so are the
  -- fixes that it carries.
  pub units : g.b.keeper.rows ≡ take (length g.b.keeper.rows) g.b.terminal.units
  pub told : All (λ (place : ℕ). place < length g.b.keeper.rows) g.b.told

-- every gateway world that is reached passed its fixes on so
abbrev pub EachReachedPasses : Type 0
EachReachedPasses = (g : GatewayWorld) → ReachedGateway g → Passed g

-- and so did each to which steps lead from there, also where the terminal of world b is not one of 2019
abbrev pub EachLedPasses : Type 0
EachLedPasses = (g h : GatewayWorld) → ReachedGateway g → GatewayLeads g h → Passed h

-- Both worlds of a gateway are worlds of octets that are reached, so what is claimed of those holds of both.
abbrev pub BothAreReached : Type 0
BothAreReached = (g : GatewayWorld) → ReachedGateway g → Reached g.a × Reached g.b
