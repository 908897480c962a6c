-- Two worlds, of which one passes on to the other what it stored: what there is (this project's own). To be believed.
use Rattle.std.specs.Prelude.{ℕ, List, length, drop}
use Rattle.jt_value.specs.declared.phone.Phone.{Phone}
use Rattle.jt_store.specs.Units.{fixes_in}
use Rattle.jt_delivery.specs.World.{Setting}
use Rattle.jt_octets.specs.World.{World, empty}

-- An operator's platform takes the reports of a terminal, in world a, and reports what it stored to an authority's platform, as the
-- terminal of world b.
pub record GatewayWorld : Type 0 where
  pub a : World
  pub b : World

-- the fixes that the operator's platform stored
abbrev pub fixes_stored : World → List (List ℕ)
fixes_stored w = fixes_in w.keeper.rows

-- of those, in order, the ones past so many as were recorded to be passed on
abbrev pub fixes_behind : GatewayWorld → List (List ℕ)
fixes_behind g = drop (length g.b.terminal.recorded) (fixes_stored g.a)

-- both worlds before all steps
abbrev pub gateway_empty : (phone_a phone_b : Phone) → (setting_a setting_b : Setting) → GatewayWorld
gateway_empty phone_a phone_b setting_a setting_b = record { a = empty phone_a setting_a; b = empty phone_b setting_b }
