-- Which worlds steps lead to, for any kind of world and of step (this project's own). To be believed. `May world event` says that the
-- event may come in this world, and `after world event` is the world behind it.
use Rattle.std.specs.Prelude.{◌≡◌, List, [], ◌∷◌}

-- each event may come where it stands
abbrev pub MayAll : {W E : Type 0} → (W → E → Type 0) → (W → E → W) → W → List E → Type 0
MayAll May after w [] = Unit {0}
MayAll May after w (event ∷ events) = May w event × MayAll May after (after w event) events

-- the world after these events, one after another
abbrev pub after_all : {W E : Type 0} → (W → E → W) → W → List E → W
after_all after w [] = w
after_all after w (event ∷ events) = after_all after (after w event) events

-- a list of events leads from one world to another
pub record Leads {W E : Type 0} (May : W → E → Type 0) (after : W → E → W) (old new : W) : Type 0 where
  pub events : List E
  pub may : MayAll May after old events
  pub to : after_all after old events ≡ new
