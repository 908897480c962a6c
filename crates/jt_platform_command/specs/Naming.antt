-- What a line does to what was named. A step function for the proofs.
use Rattle.std.specs.Prelude.{◌≡◌, ℕ, ◌+◌, Bool, true, false, List, ◌++◌, length, Option, Some, None}
use Rattle.std.specs.Io.KnownBytes.{Consumes}
use Rattle.jt_input.specs.LineReading.{Reading, HasTold}
use Rattle.jt_platform_command.specs.declared.line.FleetLine.{FleetLine}
use Rattle.jt_platform_command.specs.declared.fleet_reader.FleetRead.{FleetRead}
use Rattle.jt_platform_command.specs.declared.fleet_reader.FleetRead.TheVariants as told
use Rattle.jt_platform_command.specs.FleetText.{Named, FleetIn, BadLine, FleetOf, nothing_named, named_by, fleet_from}

abbrev pub IsNamed : Bool → Named → FleetLine → Named → Type 0
IsNamed true old line now = named_by old.secret old.fleet line ≡ Some now
IsNamed false old line now = named_by old.secret old.fleet line ≡ None

-- the answer says what a text names
abbrev pub Ends : FleetRead → FleetIn → Type 0
Ends (told.Fleet secret fleet) named = named ≡ FleetOf secret fleet
Ends (told.Bad number) named = named ≡ BadLine number
Ends told.Failed named = ⊥
Ends told.Memory named = ⊥

-- These lines were heard, and this is the number of the next one: whatever lines follow, what the text names follows from
-- what was named.
pub record GoesOn (reading : Reading) (named : Named) (number : ℕ) (left left_now : Option (List ℕ)) : Type 0 where
  pub text : List ℕ
  pub lines : List (List ℕ)
  pub consumed : Consumes left left_now text
  pub told : HasTold reading text lines
  pub count : number ≡ length lines + 1
  pub stands : (more : List (List ℕ)) → fleet_from nothing_named 1 (lines ++ more) ≡ fleet_from named number more
