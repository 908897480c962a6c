-- What the parts of a gateway's step do. Step definitions for the proofs; no public clause cites them.
use Rattle.std.specs.Prelude.{◌≡◌, ◌↔◌, ℕ, ◌<◌, ◌≤◌, List, [], ◌∷◌, ◌++◌, length, take, true, false, Result, Ok, Err, IfOk, OnOk}
use Rattle.jt_value.specs.declared.limits.TheConstants.{FIX_LIMIT}
use Rattle.jt_value.specs.declared.phone.Edition.TheVariants.{E2019}
use Rattle.jt_octets.specs.Reaching.{Leads, Reached}
use Rattle.jt_script.specs.declared.world_event.WorldEvent.{WorldEvent}
use Rattle.jt_script.specs.declared.world_event.WorldEvent.TheVariants as line
use Rattle.jt_platform.specs.declared.request.Entry.{Entry}
use Rattle.jt_play.specs.Playing.{finds_full}
use Rattle.jt_play.specs.Scripts.{IsScripted, Scene}
use Rattle.jt_play.specs.declared.error.WorldError.{WorldError}
use Rattle.jt_play.specs.declared.error.WorldError.TheVariants as refused
use Rattle.jt_gateway.specs.Steps.{GatewayLeads}
use Rattle.jt_gateway.specs.Gateway.{GatewayScene, HasNoLine, IsGateway, IsLed, IsOf2019, entries_of, gateway_after_line, gateway_at_full, gateway_full, room_for, scene_after, scene_with_fixes, worlds_of}
use Rattle.jt_gateway.specs.declared.event.GatewayEvent.{GatewayEvent}
use Rattle.jt_gateway.specs.declared.event.GatewayEvent.TheVariants as asked

-- both calls were done, or both ended by the same error
abbrev pub EndsAlike : {T U : Type 0} → Result T WorldError → Result U WorldError → Type 0
EndsAlike (Ok x) (Ok y) = Unit {0}
EndsAlike (Err e) (Err f) = f ≡ e
EndsAlike (Ok x) (Err f) = ⊥
EndsAlike (Err e) (Ok y) = ⊥

-- lines alone led to the world, and steps
pub record IsBegun (s : Scene) : Type 0 where
  pub led : IsLed s
  pub reached : Reached s.play.world

-- as world b begins: nothing was recorded, and the terminal is one of 2019
pub record IsUpstream (s : Scene) : Type 0 where
  pub begun : IsBegun s
  pub nothing : s.play.world.terminal.recorded ≡ []
  pub of_2019 : IsOf2019 s

-- a fix is recorded, or there is no room for it
abbrev pub RecordsOne : Scene → Scene → List ℕ → Result (Unit {0}) WorldError → Type 0
RecordsOne old now fix (Ok u) = (IsScripted old → IsScripted now) × (now ≡ scene_with_fixes old (fix ∷ [])) × (finds_full FIX_LIMIT old.play (line.Raw fix) ≡ false)
RecordsOne old now fix (Err (refused.Full limit)) = (limit ≡ FIX_LIMIT) × (now ≡ old) × (finds_full FIX_LIMIT old.play (line.Raw fix) ≡ true)
RecordsOne old now fix (Err (refused.NoLine number)) = ⊥
RecordsOne old now fix (Err refused.Memory) = Unit {0}

-- fixes are recorded, or as many as there is room for
abbrev pub RecordsMost : Scene → Scene → List (List ℕ) → Result (Unit {0}) WorldError → Type 0
RecordsMost old now fixes (Ok u) = (IsScripted old → IsScripted now) × (now ≡ scene_with_fixes old fixes) × (length fixes ≤ room_for old.play)
RecordsMost old now fixes (Err (refused.Full limit)) = (limit ≡ FIX_LIMIT) × (IsScripted old → IsScripted now) × (now ≡ scene_with_fixes old (take (room_for old.play) fixes)) × (room_for old.play < length fixes)
RecordsMost old now fixes (Err (refused.NoLine number)) = ⊥
RecordsMost old now fixes (Err refused.Memory) = Unit {0}

-- some first of these fixes, perhaps none and perhaps all, were recorded behind the others
pub record RecordsFirst (old now fixes : List (List ℕ)) : Type 0 where
  pub count : ℕ
  pub is : now ≡ old ++ take count fixes

-- the fixes that are to be passed on are recorded, or as many as there is room for
abbrev pub PumpsMost : GatewayScene → GatewayScene → Result (Unit {0}) WorldError → Type 0
PumpsMost old now (Ok u) = (IsScripted old.b → IsScripted now.b) × (now ≡ gateway_after_line old asked.Pump) × (gateway_full old asked.Pump ≡ false)
PumpsMost old now (Err (refused.Full limit)) = (limit ≡ FIX_LIMIT) × (IsScripted old.b → IsScripted now.b) × (now ≡ gateway_after_line old asked.Pump) × (gateway_full old asked.Pump ≡ true)
PumpsMost old now (Err (refused.NoLine number)) = ⊥
PumpsMost old now (Err refused.Memory) = Unit {0}

-- a line of one world led to another
pub record GoesOn (old now : Scene) (event : WorldEvent) : Type 0 where
  pub scripted : IsScripted now
  pub is : now ≡ scene_after old event

-- the operator starts anew
abbrev pub RestartsMiddle : GatewayScene → GatewayScene → Result (Unit {0}) WorldError → Type 0
RestartsMiddle old now (Ok u) = IsScripted old.a → IsScripted old.b → GoesOn old.a now.a line.RestartPlatform × GoesOn old.b now.b line.RestartTerminal
RestartsMiddle old now (Err (refused.Full limit)) = ⊥
RestartsMiddle old now (Err (refused.NoLine number)) = ⊥
RestartsMiddle old now (Err refused.Memory) = Unit {0}

-- all that a step promises
pub record Stepped (old : GatewayScene) (event : GatewayEvent) (new : GatewayScene) (result : Result (List Entry) WorldError) : Type 0 where
  pub leads : GatewayLeads (worlds_of old) (worlds_of new)
  pub gateway : IsGateway old → (result ≡ Err refused.Memory → ⊥) → IsGateway new
  pub ok : IsGateway old → OnOk result (new ≡ gateway_after_line old event)
  pub full : (limit : ℕ) → result ≡ Err (refused.Full limit) → (limit ≡ FIX_LIMIT) × (gateway_full old event ≡ true) × (new ≡ gateway_at_full old event)
  pub room : OnOk result (gateway_full old event ≡ false)
  pub no_line : (number : ℕ) → (result ≡ Err (refused.NoLine number)) ↔ HasNoLine old event number
  pub same : (number : ℕ) → result ≡ Err (refused.NoLine number) → new ≡ old
  pub entries : IfOk result (λ (entries : List Entry). entries ≡ entries_of old new event)
  pub edition : new.b.play.world.terminal.phone.edition ≡ E2019
  pub a : Leads old.a.play.world new.a.play.world
  pub b : Leads old.b.play.world new.b.play.world
