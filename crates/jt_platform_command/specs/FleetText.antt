-- The fleet that a text names: this project's own. To be believed.
use Rattle.std.specs.Prelude.{ℕ, ◌+◌, if◌then◌else◌, List, [], ◌∷◌, ◌++◌, Option, Some, None}
use Rattle.jt_input.specs.Text.{lines_of, is_within}
use Rattle.jt_platform.specs.declared.request.Fleet.{Fleet}
use Rattle.jt_platform_command.specs.declared.line.FleetLine.{FleetLine}
use Rattle.jt_platform_command.specs.declared.line.FleetLine.TheVariants.{Passed, Secret, Plate, Terminal, Bad}
use Rattle.jt_platform_command.specs.FleetLines.{said_by}

-- the secret, once it was named, and the plates and terminals so far
pub record Named : Type 0 where
  pub secret : Option (List ℕ)
  pub fleet : Fleet

abbrev pub nothing_named : Named
nothing_named = record { secret = None; fleet = record { plates = []; terminals = [] } }

abbrev pub with_plate : Fleet → List ℕ → Fleet
with_plate fleet plate = record { plates = fleet.plates ++ plate ∷ []; terminals = fleet.terminals }

abbrev pub with_terminal : Fleet → List ℕ → Fleet
with_terminal fleet terminal = record { plates = fleet.plates; terminals = fleet.terminals ++ terminal ∷ [] }

-- The secret comes first, and once; plates and terminals follow. A line that names something else, or at another place, is bad.
abbrev pub named_by : Option (List ℕ) → Fleet → FleetLine → Option Named
named_by secret fleet Passed = Some (record { secret = secret; fleet = fleet })
named_by None fleet (Secret octets) = Some (record { secret = Some octets; fleet = fleet })
named_by (Some secret) fleet (Secret octets) = None
named_by None fleet (Plate plate) = None
named_by (Some secret) fleet (Plate plate) = Some (record { secret = Some secret; fleet = with_plate fleet plate })
named_by None fleet (Terminal terminal) = None
named_by (Some secret) fleet (Terminal terminal) = Some (record { secret = Some secret; fleet = with_terminal fleet terminal })
named_by secret fleet Bad = None

-- a line beyond the limits is bad, whatever it says
unfoldable pub named_with : Named → ℕ → List ℕ → Option Named
named_with named number line = if is_within number line then named_by named.secret named.fleet (said_by line) else None

-- what a text names, or the number of its first bad line
pub data FleetIn : Type 0 where
  BadLine : ℕ → FleetIn
  FleetOf : List ℕ → Fleet → FleetIn

-- a text that ends without a secret is bad at the number behind its last line
abbrev pub at_end : Option (List ℕ) → Fleet → ℕ → FleetIn
at_end None fleet number = BadLine number
at_end (Some secret) fleet number = FleetOf secret fleet

-- what a line named, with the rest; or the line of this number is bad
abbrev pub or_bad : Option Named → ℕ → (Named → FleetIn) → FleetIn
or_bad None number rest = BadLine number
or_bad (Some named) number rest = rest named

-- these lines, the first of which has this number, behind those that named this
abbrev pub fleet_from : Named → ℕ → List (List ℕ) → FleetIn
fleet_from named number [] = at_end named.secret named.fleet number
fleet_from named number (line ∷ more) = or_bad (named_with named number line) number (λ next. fleet_from next (number + 1) more)

-- the fleet that a text names
unfoldable pub fleet_in : List ℕ → FleetIn
fleet_in text = fleet_from nothing_named 1 (lines_of text)
