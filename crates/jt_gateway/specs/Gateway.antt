-- The gateway that runs: what contracts see of it, and to which worlds its lines lead (this project's own). To be believed.
use Rattle.std.specs.Prelude.{◌≡◌, ℕ, ◌+◌, ◌-◌, nat_lt, List, [], ◌∷◌, length, take, Bool, true, false}
use Rattle.jt_value.specs.declared.limits.TheConstants.{FIX_LIMIT}
use Rattle.jt_value.specs.declared.phone.Edition.TheVariants.{E2013, E2019}
use Rattle.jt_store.specs.Vaults.{accepted_count}
use Rattle.jt_platform.specs.declared.request.Entry.{Entry}
use Rattle.jt_script.specs.declared.world_event.WorldEvent.{WorldEvent}
use Rattle.jt_script.specs.declared.world_event.WorldEvent.TheVariants as line
use Rattle.jt_play.specs.Playing.{Play, entries_between, finds_full, is_opened, play_after, records}
use Rattle.jt_play.specs.Scripts.{IsScripted, Names, Scene, edition_by, settings_in}
use Rattle.jt_world.specs.Rehearsal.{first, the_identity}
use Rattle.jt_gateway.specs.declared.event.GatewayEvent.{GatewayEvent}
use Rattle.jt_gateway.specs.declared.event.GatewayEvent.TheVariants as asked
use Rattle.jt_gateway.specs.World.{GatewayWorld, fixes_behind}
use Rattle.jt_gateway.specs.Steps.{ReachedGateway}

-- what contracts see of a gateway: its two worlds, as scripts play them
pub record GatewayScene : Type 0 where
  pub a : Scene
  pub b : Scene

abbrev pub worlds_of : GatewayScene → GatewayWorld
worlds_of g = record { a = g.a.play.world; b = g.b.play.world }

-- nothing but a pump records in world b, and its terminal stays one of 2019
abbrev pub is_line_of_b : WorldEvent → Bool
is_line_of_b (line.Fix latitude) = false
is_line_of_b (line.Raw fix) = false
is_line_of_b (line.RestartAs edition) = false
is_line_of_b other = true

abbrev pub MayAsk : GatewayEvent → Type 0
MayAsk (asked.B event) = is_line_of_b event ≡ true
MayAsk other = Unit {0}

-- ---- the worlds after a line

-- a line of the script of one world
abbrev pub scene_after : Scene → WorldEvent → Scene
scene_after s event = record {
  play = play_after (settings_in s.identity) s.play event;
  identity = s.identity;
  edition = edition_by s.edition event;
}

-- these fixes are recorded, one after the other
abbrev pub play_with_fixes : Play → List (List ℕ) → Play
play_with_fixes p [] = p
play_with_fixes p (fix ∷ fixes) = play_with_fixes (records p fix) fixes

abbrev pub scene_with_fixes : Scene → List (List ℕ) → Scene
scene_with_fixes s fixes = record s { play = play_with_fixes s.play fixes }

-- so many fixes more, and as many as the limit are not accepted
abbrev pub room_for : Play → ℕ
room_for p = (FIX_LIMIT + accepted_count p.held) - length p.held.recorded

-- the fixes that are to be passed on are recorded in world b, as many as there is room for
abbrev pub scene_after_pump : GatewayScene → Scene
scene_after_pump g = scene_with_fixes g.b (take (room_for g.b.play) (fixes_behind (worlds_of g)))

-- the operator starts anew: its platform in world a, its terminal in world b
abbrev pub gateway_after_line : GatewayScene → GatewayEvent → GatewayScene
gateway_after_line g (asked.A event) = record g { a = scene_after g.a event }
gateway_after_line g (asked.B event) = record g { b = scene_after g.b event }
gateway_after_line g asked.Pump = record g { b = scene_after_pump g }
gateway_after_line g asked.RestartMiddle = record { a = scene_after g.a line.RestartPlatform; b = scene_after g.b line.RestartTerminal }

-- the entries that a line made, in order; a pump and a restart make none
abbrev pub entries_of : GatewayScene → GatewayScene → GatewayEvent → List Entry
entries_of old new (asked.A event) = entries_between old.a.play.world new.a.play.world
entries_of old new (asked.B event) = entries_between old.b.play.world new.b.play.world
entries_of old new asked.Pump = []
entries_of old new asked.RestartMiddle = []

-- ---- when a line is refused

-- as many fixes as the limit are not accepted, and one is to be recorded; or there is not room for all that are to be passed on
abbrev pub gateway_full : GatewayScene → GatewayEvent → Bool
gateway_full g (asked.A event) = finds_full FIX_LIMIT g.a.play event
gateway_full g (asked.B event) = finds_full FIX_LIMIT g.b.play event
gateway_full g asked.Pump = nat_lt (room_for g.b.play) (length (fixes_behind (worlds_of g)))
gateway_full g asked.RestartMiddle = false

-- a line that is refused so leaves the gateway, but that a pump recorded as many fixes as there was room for
abbrev pub gateway_at_full : GatewayScene → GatewayEvent → GatewayScene
gateway_at_full g asked.Pump = gateway_after_line g asked.Pump
gateway_at_full g other = g

-- the line of communication of that number was not opened
abbrev pub HasNoLine : GatewayScene → GatewayEvent → ℕ → Type 0
HasNoLine g (asked.A event) number = Names event number × (is_opened g.a.play.world number ≡ false)
HasNoLine g (asked.B event) number = Names event number × (is_opened g.b.play.world number ≡ false)
HasNoLine g asked.Pump number = ⊥
HasNoLine g asked.RestartMiddle number = ⊥

-- ---- gateways

-- the world of a rehearsal before all lines
abbrev pub first_scene : Scene
first_scene = record { play = first; identity = the_identity; edition = E2013 }

-- world a is that of a rehearsal, world b is it after `restart terminal 2019`
abbrev pub first_gateway : GatewayScene
first_gateway = record { a = first_scene; b = scene_after first_scene (line.RestartAs E2019) }

-- the terminal is one of 2019, and starts anew as one
pub record IsOf2019 (s : Scene) : Type 0 where
  pub phone : s.play.world.terminal.phone.edition ≡ E2019
  pub edition : s.edition ≡ E2019
  pub identity : s.identity.e2019.phone.edition ≡ E2019

-- lines alone led to the world, whose terminal is the one of a rehearsal
pub record IsLed (s : Scene) : Type 0 where
  pub scripted : IsScripted s
  pub identity : s.identity ≡ the_identity

-- Lines alone led to both worlds, and to the gateway world that they are.
pub record IsGateway (g : GatewayScene) : Type 0 where
  pub a : IsLed g.a
  pub b : IsLed g.b
  pub reached : ReachedGateway (worlds_of g)
