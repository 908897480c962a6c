-- What is claimed of every world that is reached (this project's own). To be believed.
use Rattle.std.specs.Prelude.{◌≡◌, ℕ, ◌<◌, ◌≤◌, List, [], ◌∷◌, length, take, All}
use Rattle.jt_value.specs.declared.phone.Phone.{Phone}
use Rattle.jt_position.specs.Fixes.{IsFix}
use Rattle.jt_register.specs.declared.register.Register.{Register}
use Rattle.jt_store.specs.declared.row.Row.{Row}
use Rattle.jt_platform.specs.declared.request.Reply.{Reply}
use Rattle.jt_platform.specs.declared.request.Reply.TheVariants as say
use Rattle.jt_platform.specs.declared.request.Entry.{Entry}
use Rattle.jt_platform.specs.History.{registration}
use Rattle.jt_platform.specs.Allowed.{IsOfFleet}
use Rattle.jt_delivery.specs.World.{World, Setting}
use mathlib.Core.List.{IsPrefix}
use Rattle.jt_store.specs.Units.{fixes_in}
use Rattle.jt_delivery.specs.Reaching.{Reached}

-- Of the fixes recorded, the units formed, how many of them are held as accepted, the rows stored, and the places of those units whose
-- acceptance was received:
pub record IsKept (fixes : List (List ℕ)) (units : List Row) (held : ℕ) (rows : List Row) (received : List ℕ) : Type 0 where
  -- the rows are the first units that were formed, each once, in order, with their numbers, ids and bodies
  pub stored : length rows ≤ length units
  pub first_units : rows ≡ take (length rows) units
  -- the fixes stored are the first of those recorded
  pub recorded : IsPrefix (fixes_in rows) fixes
  -- each unit whose acceptance the terminal received is stored
  pub told : All (λ (place : ℕ). place < length rows) received
  -- and so is each that it holds as accepted
  pub accepted : held ≤ length rows

abbrev pub EachReachedIsKept : Type 0
EachReachedIsKept = (w : World) → Reached w → IsKept w.recorded w.units w.accepted w.keeper.rows w.told

-- no entry says that the terminal began its serials anew
abbrev pub IsRenumbered : Reply → Type 0
IsRenumbered (say.Renumbered n) = Unit {0}
IsRenumbered reply = ⊥

abbrev pub NoneRenumbered : List Entry → Type 0
NoneRenumbered h = All (λ (e : Entry). IsRenumbered e.reply → ⊥) h

abbrev pub NoneReachedRenumbers : Type 0
NoneReachedRenumbers = (w : World) → Reached w → NoneRenumbered w.history

-- Something is delivered in some worlds that are reached: for each phone, each registration of the fleet, each fix, and a keeper with
-- room for a row.
abbrev pub SomeFixIsDelivered : Type 0
SomeFixIsDelivered = (phone : Phone) (register : Register) (setting : Setting) (fix : List ℕ) → IsOfFleet setting.fleet (registration register) → 0 < setting.limit → IsFix fix
    → (w : World) × Reached w × (w.accepted ≡ 1) × (w.told ≡ 0 ∷ []) × (fixes_in w.keeper.rows ≡ fix ∷ [])
