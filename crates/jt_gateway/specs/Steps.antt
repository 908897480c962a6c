-- The steps of the two worlds of a gateway, and to which worlds they lead (this project's own). To be believed.
use Rattle.std.specs.Prelude.{◌≡◌, ℕ, List, map, take}
use Rattle.jt_value.specs.declared.phone.Edition.TheVariants.{E2019}
use Rattle.jt_value.specs.declared.phone.Phone.{Phone}
use Rattle.jt_value.specs.Reaching.{after_all, Leads as LeadsBy}
use Rattle.jt_header.specs.Content.{IsPhone}
use Rattle.jt_delivery.specs.World.{Setting}
use Rattle.jt_terminal_rule.specs.Steps.{TerminalStep}
use Rattle.jt_terminal_rule.specs.Steps as step
use Rattle.jt_octets.specs.World.{World}
use Rattle.jt_octets.specs.Steps.{Event, Does, Up, Down, Cut, RestartPlatform, MayCome, after}
use Rattle.jt_gateway.specs.World.{GatewayWorld, fixes_behind, gateway_empty}

pub data GatewayStep : Type 0 where
  -- a step of world a
  InA : Event → GatewayStep
  -- a step of world b
  InB : Event → GatewayStep
  -- so many of the fixes that are to be passed on, or all where they are fewer, are recorded in world b
  Pumps : ℕ → GatewayStep

abbrev pub IsNoRecord : TerminalStep → Type 0
IsNoRecord (step.Records fix) = ⊥
IsNoRecord (step.Forms unit) = Unit {0}
IsNoRecord step.Opens = Unit {0}
IsNoRecord (step.Sends place) = Unit {0}
IsNoRecord (step.Says h body) = Unit {0}
IsNoRecord step.Accepts = Unit {0}
IsNoRecord step.Loses = Unit {0}
IsNoRecord (step.Restarts phone) = Unit {0}
IsNoRecord (step.Codes code) = Unit {0}

-- the terminal records no fix
abbrev pub RecordsNothing : Event → Type 0
RecordsNothing (Does s) = IsNoRecord s
RecordsNothing (Up place way) = Unit {0}
RecordsNothing (Down takes) = Unit {0}
RecordsNothing (Cut place) = Unit {0}
RecordsNothing RestartPlatform = Unit {0}

-- nothing but a pump records in world b
abbrev pub MayStepOn : GatewayWorld → GatewayStep → Type 0
MayStepOn g (InA event) = MayCome g.a event
MayStepOn g (InB event) = MayCome g.b event × RecordsNothing event
MayStepOn g (Pumps n) = Unit {0}

-- these fixes are recorded, one after the other
abbrev pub world_with_fixes : World → List (List ℕ) → World
world_with_fixes w fixes = after_all after w (map (λ fix. Does (step.Records fix)) fixes)

abbrev pub gateway_after : GatewayWorld → GatewayStep → GatewayWorld
gateway_after g (InA event) = record g { a = after g.a event }
gateway_after g (InB event) = record g { b = after g.b event }
gateway_after g (Pumps n) = record g { b = world_with_fixes g.b (take n (fixes_behind g)) }

-- a list of steps leads from one gateway world to another
abbrev pub GatewayLeads : GatewayWorld → GatewayWorld → Type 0
GatewayLeads old new = LeadsBy MayStepOn gateway_after old new

-- Steps lead to the gateway world from one in which nothing has happened, and the terminal that reports to the authority is one of 2019.
pub record ReachedGateway (g : GatewayWorld) : Type 0 where
  pub phone_a : Phone
  pub phone_b : Phone
  pub setting_a : Setting
  pub setting_b : Setting
  pub good_a : IsPhone phone_a
  pub good_b : IsPhone phone_b
  pub leads : GatewayLeads (gateway_empty phone_a phone_b setting_a setting_b) g
  pub edition : g.b.terminal.phone.edition ≡ E2019
