-- What any terminal may do, whoever built it: its steps, with numbers that do not wrap. To be believed.
use Rattle.std.specs.Prelude.{◌≡◌, ◌≢◌, ◌⊎◌, not, ℕ, zero, suc, ◌+◌, ◌-◌, ◌<◌, ◌≤◌, ◌^◌, max, ◌==◌, ◌&&◌, ◌||◌, Bool, true, false, if◌then◌else◌, List, [], ◌∷◌, ◌++◌, length, slice_get, Option, None, Some, IsTrue}
use Rattle.std.specs.List.{list_any}
use Rattle.jt_value.specs.Serials.{serial_of}
use Rattle.jt_value.specs.declared.phone.Phone.{Phone}
use Rattle.jt_value.specs.Sameness.{key_of}
use Rattle.jt_value.specs.declared.results.TheConstants.{SUCCESS}
use Rattle.jt_value.specs.declared.ids.TheConstants.{AUTH, BATCH, DEREGISTER, POSITION, REGISTER}
use Rattle.jt_header.specs.Content.{IsHeader, IsPhone}
use Rattle.jt_header.specs.declared.header.Header.{Header}
use Rattle.jt_position.specs.Fixes.{IsFix}
use Rattle.jt_store.specs.declared.row.Row.{Row}
use Rattle.jt_store.specs.Units.{MayForm}
use Rattle.jt_terminal_rule.specs.declared.state.Acknowledgement.{Acknowledgement}
use Rattle.jt_terminal_rule.specs.Messages.{is_acceptance, header_of, frame_of}

pub record Machine : Type 0 where
  pub phone : Phone
  -- all fixes that were recorded, each as its octets
  pub recorded : List (List ℕ)
  -- all units that were formed, with their numbers; a unit carries as many fixes as its body has
  pub units : List Row
  -- how many units are accepted
  pub accepted : ℕ
  pub code : Option (List ℕ)
  -- whether a line is in use
  pub using : Bool
  -- the serials of the authentications that were sent on the line in use, and whether an accepted response to one was read
  pub auths : List ℕ
  pub ready : Bool
  -- of the units that are not accepted, those before this place were sent on the line in use
  pub reach : ℕ

pub data TerminalStep : Type 0 where
  -- a fix is put at the end of those recorded
  Records : List ℕ → TerminalStep
  -- the next fixes that are in no unit make one
  Forms : Row → TerminalStep
  -- a new line is in use
  Opens : TerminalStep
  -- the unit of a place is sent
  Sends : ℕ → TerminalStep
  -- another message is sent
  Says : Header → List ℕ → TerminalStep
  -- the acceptance of the oldest unit that is not accepted is taken
  Accepts : TerminalStep
  -- no line is in use any more
  Loses : TerminalStep
  -- the terminal starts again with this phone: all but fixes, units, acceptances and code is forgotten
  Restarts : Phone → TerminalStep
  -- the code is set or removed
  Codes : Option (List ℕ) → TerminalStep

-- The message has the terminal's phone, and is no unit and no deregistration. Before the terminal is ready it is a registration or an
-- authentication, and later it is no authentication.
pub record MaySay (m : Machine) (h : Header) (body : List ℕ) : Type 0 where
  pub header : IsHeader h
  pub short : length body < 2 ^ 10
  pub own : h.phone ≡ m.phone
  pub no_unit : (h.id ≢ POSITION) × (h.id ≢ BATCH)
  pub no_deregistration : h.id ≢ DEREGISTER
  pub before : m.ready ≡ false → (h.id ≡ REGISTER) ⊎ (h.id ≡ AUTH)
  pub after : h.id ≡ AUTH → m.ready ≡ false

-- the response names the unit
abbrev pub is_named : Acknowledgement → Option Row → Bool
is_named ack None = false
is_named ack (Some unit) = (ack.reply == serial_of unit.number) && (ack.id == unit.id)

abbrev pub names_oldest : Machine → Option Acknowledgement → Type 0
names_oldest m None = ⊥
names_oldest m (Some ack) = IsTrue (is_acceptance ack && is_named ack (slice_get m.units m.accepted))

-- A unit is sent once the terminal is ready, and after each older one that is not accepted. `just` is the response that was read directly
-- before, if there was one: an acceptance is taken directly after it was read, for a unit that was sent on this line. A terminal that
-- starts again has the same twenty digits, in either edition.
abbrev pub MayStep : Machine → Option Acknowledgement → TerminalStep → Type 0
MayStep m just (Records fix) = IsFix fix
MayStep m just (Forms unit) = MayForm m.units m.accepted m.recorded unit
MayStep m just (Sends place) = (m.using ≡ true) × (m.ready ≡ true) × (m.accepted ≤ place) × (place ≤ m.reach) × (place < length m.units)
MayStep m just (Says h body) = (m.using ≡ true) × MaySay m h body
MayStep m just Accepts = (m.using ≡ true) × (m.accepted < m.reach) × names_oldest m just
MayStep m just Opens = Unit {0}
MayStep m just Loses = Unit {0}
MayStep m just (Restarts phone) = IsPhone phone × (key_of phone ≡ key_of m.phone)
MayStep m just (Codes code) = Unit {0}

abbrev pub is_in : List ℕ → ℕ → Bool
is_in serials serial = list_any (λ other. serial == other) serials

-- the serials of authentications, each once
abbrev pub auths_by : List ℕ → Header → List ℕ
auths_by auths h = if (h.id == AUTH) && not (is_in auths h.serial) then auths ++ h.serial ∷ [] else auths

abbrev pub without_line : Machine → Machine
without_line m = record m { using = false; auths = []; ready = false; reach = m.accepted }

-- the terminal after a step
abbrev pub machine_after : Machine → TerminalStep → Machine
machine_after m (Records fix) = record m { recorded = m.recorded ++ fix ∷ [] }
machine_after m (Forms unit) = record m { units = m.units ++ unit ∷ [] }
machine_after m Opens = record m { using = true; auths = []; ready = false; reach = m.accepted }
machine_after m (Sends place) = record m { reach = max m.reach (place + 1) }
machine_after m (Says h body) = record m { auths = auths_by m.auths h }
machine_after m Accepts = record m { accepted = m.accepted + 1 }
machine_after m Loses = without_line m
machine_after m (Restarts phone) = record (without_line m) { phone = phone }
machine_after m (Codes code) = record m { code = code }

-- the response accepts an authentication of this line
abbrev pub lets_in : List ℕ → Acknowledgement → Bool
lets_in auths ack = (ack.result == SUCCESS) && ((ack.id == AUTH) && is_in auths ack.reply)

-- the terminal once it read this response, if it read one
abbrev pub hears : Machine → Option Acknowledgement → Machine
hears m None = m
hears m (Some ack) = record m { ready = m.ready || lets_in m.auths ack }

abbrev pub unit_octets : Phone → Option Row → List ℕ
unit_octets phone None = []
unit_octets phone (Some unit) = frame_of (header_of phone unit.id (serial_of unit.number)) unit.body

-- the octets that a step writes
abbrev pub writes : Machine → TerminalStep → List ℕ
writes m (Sends place) = unit_octets m.phone (slice_get m.units place)
writes m (Says h body) = frame_of h body
writes m (Records fix) = []
writes m (Forms unit) = []
writes m Opens = []
writes m Accepts = []
writes m Loses = []
writes m (Restarts phone) = []
writes m (Codes code) = []

-- steps one after another, the first of them directly after `just`
abbrev pub MayRun : Machine → Option Acknowledgement → List TerminalStep → Type 0
MayRun m just [] = Unit {0}
MayRun m just (step ∷ steps) = MayStep m just step × MayRun (machine_after m step) None steps

-- the terminal after these steps
abbrev pub machine_run : Machine → List TerminalStep → Machine
machine_run m [] = m
machine_run m (step ∷ steps) = machine_run (machine_after m step) steps

-- the first place, from this one on, of so many, whose unit the response names
abbrev pub named_from : List Row → Acknowledgement → ℕ → ℕ → Option ℕ
named_from units ack place zero = None
named_from units ack place (suc n) = if is_named ack (slice_get units place) then Some place else named_from units ack (place + 1) n

-- the place of the unit whose acceptance the terminal is told: it was sent on this line, is not accepted, and the response names it
abbrev pub unit_named_by : Machine → Option Acknowledgement → Option ℕ
unit_named_by m None = None
unit_named_by m (Some ack) = if is_acceptance ack then named_from m.units ack m.accepted (m.reach - m.accepted) else None
