-- What the reading of a fleet answers. To be believed.
use Rattle.std.specs.Prelude.{◌≡◌, ◌⊎◌, ℕ, List, ◌++◌, Option}
use Rattle.std.specs.Io.KnownBytes.{Consumes, IsAtEnd}
use Rattle.jt_platform_command.specs.FleetText.{BadLine, FleetOf, fleet_in}
use Rattle.jt_platform_command.specs.declared.fleet_reader.FleetRead.{FleetRead}
use Rattle.jt_platform_command.specs.declared.fleet_reader.FleetRead.TheVariants as told

-- no octet that could follow these changes what the text names, or none follows
abbrev pub IsSettled : Option (List ℕ) → List ℕ → Type 0
IsSettled left taken = IsAtEnd left ⊎ ((rest : List ℕ) → fleet_in (taken ++ rest) ≡ fleet_in taken)

-- The answer is what the text that was taken names: a fleet, with all of the text taken, or its first bad line. A failed read
-- and want of memory say nothing of the text.
abbrev pub AnswersFleet : FleetRead → List ℕ → Option (List ℕ) → Type 0
AnswersFleet (told.Fleet secret fleet) taken left = (fleet_in taken ≡ FleetOf secret fleet) × IsAtEnd left
AnswersFleet (told.Bad number) taken left = (fleet_in taken ≡ BadLine number) × IsSettled left taken
AnswersFleet told.Failed taken left = Unit {0}
AnswersFleet told.Memory taken left = Unit {0}

-- octets of the source were taken, and the answer is that of these
pub record ReadsFleet (answer : FleetRead) (left left_now : Option (List ℕ)) : Type 0 where
  pub taken : List ℕ
  pub consumed : Consumes left left_now taken
  pub answers : AnswersFleet answer taken left_now
