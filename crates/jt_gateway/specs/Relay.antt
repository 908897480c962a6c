-- What a relay of rows is to a gateway (this project's own). To be believed.
use Rattle.std.specs.Prelude.{◌≡◌, ℕ, length, Option, Some, Result, IfOk}
use Rattle.jt_store.specs.Vaults.{Held}
use Rattle.jt_relay.specs.declared.relayed.Relayed.{Relayed}
use Rattle.jt_relay.specs.declared.relayed.RelayError.{RelayError}
use Rattle.jt_relay.specs.Prefixes.{Follows}
use Rattle.jt_relay.specs.Relays.{Relays, placed_fixes}
use Rattle.jt_gateway.specs.World.{GatewayWorld, fixes_stored}
use Rattle.jt_gateway.specs.Steps.{Pumps, ReachedGateway, gateway_after}

-- A vault recorded what a world's terminal did, and now holds this of it: so many fixes that were to be passed on were recorded, as a
-- pump of that number does, which is a step of the gateway world; nothing else of the vault is changed; on Ok all of them were.
pub record IsPump (g : GatewayWorld) (old now : Held) (result : Result Relayed RelayError) : Type 0 where
  pub count : ℕ
  pub reached : ReachedGateway (gateway_after g (Pumps count))
  pub recorded : now.recorded ≡ (gateway_after g (Pumps count)).b.terminal.recorded
  pub all : IfOk result (λ relayed. now.recorded ≡ fixes_stored g.a)
  pub follows : Follows g.a.keeper.rows old now result

-- Whatever `relay_rows` answers that is called with the rows of world a and with a vault that holds what the terminal of world b recorded,
-- it is a pump of the gateway world.
abbrev pub EachRelayIsPump : Type 0
EachRelayIsPump =
    (g : GatewayWorld) → ReachedGateway g → (limit : ℕ) (old : Held) (now : Option Held) (result : Result Relayed RelayError) → old.recorded ≡ g.b.terminal.recorded
    → Relays (placed_fixes g.a.keeper.rows) (length old.recorded) limit (Some old) now result
    → (new : Held) × (now ≡ Some new) × IsPump g old new result
