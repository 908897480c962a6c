-- What a vault holds, and what its calls change (this project's own). To be believed.
use Rattle.std.specs.Prelude.{ℕ, ◌≡◌, ◌+◌, ◌-◌, ◌≤◌, ◌⊎◌, List, [], ◌∷◌, ◌++◌, length, take, drop, sum_by, flat_map, Option, None, Some, Result, IfSome, slice_get}
use denote.Bor.{Bor}
use Rattle.jt_value.specs.Serials.{gap_of, serial_of}
use Rattle.jt_value.specs.declared.ids.TheConstants.{POSITION, BATCH}
use Rattle.jt_value.specs.declared.limits.TheConstants.{BODY_LIMIT, CODE_LIMIT, NO_MARK, UNIT_WINDOW}
use Rattle.jt_position.specs.Fixes.{fixes_of}
use Rattle.jt_store.specs.declared.unit.Unit.{Unit as OneUnit}
use Rattle.jt_store.specs.declared.unit.Loaded.{Loaded}
use Rattle.jt_store.specs.declared.error.StoreError.{StoreError}
use Rattle.jt_store.specs.Tables.{Writes, WritesWithin}

-- all recorded fixes as their octets, all units, how many units are accepted, the serial of the last accepted unit, the serial that is
-- next, and the code of the platform, if there is one
pub record Held : Type 0 where
  pub recorded : List (List ℕ)
  pub units : List OneUnit
  pub accepted : ℕ
  pub mark : ℕ
  pub next : ℕ
  pub code : Option (List ℕ)

-- how many fixes some units carry
abbrev pub fixes_carried : List OneUnit → ℕ
fixes_carried units = sum_by (λ u. u.count) units

-- how many fixes are in units
abbrev pub formed_count : Held → ℕ
formed_count h = fixes_carried h.units

-- how many fixes are accepted, and how many are not
abbrev pub accepted_count : Held → ℕ
accepted_count h = fixes_carried (take h.accepted h.units)

abbrev pub pending_count : Held → ℕ
pending_count h = length h.recorded - accepted_count h

-- the units that are not accepted
abbrev pub pending : Held → List OneUnit
pending h = drop h.accepted h.units

-- a unit of at least one fix whose message fits one packet
pub record IsUnit (u : OneUnit) : Type 0 where
  pub id : (u.id ≡ POSITION) ⊎ (u.id ≡ BATCH)
  pub short : length u.body ≤ BODY_LIMIT
  pub some : 1 ≤ u.count

-- the gaps of the units' serials from the mark rise, the first from `low` on and the last up to 32,766
abbrev pub Gaps : ℕ → ℕ → List OneUnit → Type 0
Gaps mark low [] = Unit {0}
Gaps mark low (u ∷ units) = (low ≤ gap_of mark u.serial) × (gap_of mark u.serial ≤ UNIT_WINDOW) × IsUnit u × Gaps mark (gap_of mark u.serial + 1) units

-- one more than the gap of the last unit, or 1 where there is none
abbrev pub gap_after : ℕ → ℕ → List OneUnit → ℕ
gap_after mark low [] = low
gap_after mark low (u ∷ units) = gap_after mark (gap_of mark u.serial + 1) units

-- what every vault promises of units that are not accepted, mark, next and code
pub record AreInOrder (mark next : ℕ) (units : List OneUnit) (code : Option (List ℕ)) : Type 0 where
  pub gaps : Gaps mark 1 units
  pub behind : gap_after mark 1 units ≤ gap_of mark next
  pub near : gap_of mark next ≤ UNIT_WINDOW + 1
  pub short : IfSome code (λ octets. length octets ≤ CODE_LIMIT)

-- the serial of the last of some units, or this one where there is none
abbrev pub last_serial : ℕ → List OneUnit → ℕ
last_serial mark [] = mark
last_serial mark (u ∷ units) = last_serial u.serial units

-- the fixes that some units carry, in order
abbrev pub fixes_in_units : List OneUnit → List (List ℕ)
fixes_in_units units = flat_map (λ (u : OneUnit). fixes_of (u.id, u.body)) units

-- What every vault that tells keeps together: the mark is the serial of the last accepted unit, at first 65,535; what is not accepted
-- is in order; and the units carry the first fixes recorded, as many as they count.
pub record IsWhole (h : Held) : Type 0 where
  pub known : h.accepted ≤ length h.units
  pub mark : h.mark ≡ last_serial NO_MARK (take h.accepted h.units)
  pub order : AreInOrder h.mark h.next (pending h) h.code
  pub enough : formed_count h ≤ length h.recorded
  pub fixes : fixes_in_units h.units ≡ take (formed_count h) h.recorded

-- what a vault loads: the fixes that are in no unit, the units that are not accepted, mark, next and code, and how many fixes are
-- recorded and accepted
pub record IsLoaded (h : Held) (l : Loaded) : Type 0 where
  pub fixes : l.fixes ≡ drop (formed_count h) h.recorded
  pub units : l.units ≡ pending h
  pub mark : l.mark ≡ h.mark
  pub next : l.next ≡ h.next
  pub code : l.code ≡ h.code
  pub recorded : l.recorded ≡ length h.recorded
  pub accepted : l.accepted ≡ accepted_count h

-- a change of a vault
pub data Change : Type 0 where
  Notes : List ℕ → Change
  Forms : OneUnit → Change
  Accepts : Change
  Sets : Option (List ℕ) → Change

-- the serial of a unit, if there is one
abbrev pub serial_or : ℕ → Option OneUnit → ℕ
serial_or mark None = mark
serial_or mark (Some u) = u.serial

abbrev pub held_by : Change → Held → Held
held_by (Notes fix) h = record h { recorded = h.recorded ++ fix ∷ [] }
held_by (Forms u) h = record h { units = h.units ++ u ∷ []; next = serial_of (u.serial + 1) }
held_by Accepts h = record h { accepted = h.accepted + 1; mark = serial_or h.mark (slice_get h.units h.accepted) }
held_by (Sets code) h = record h { code = code }

-- the same, where it is told
abbrev pub changed : Change → Option Held → Option Held
changed change None = None
changed change (Some h) = Some (held_by change h)

-- the octets of a code that is lent
abbrev pub octets_of : Option (Bor (List ℕ)) → Option (List ℕ)
octets_of None = None
octets_of (Some code) = Some code.now

-- a unit that may be formed: it carries the next fixes in order, and its serial is the next or a later one near enough to the mark
pub record MayCommit (h : Held) (u : OneUnit) : Type 0 where
  pub enough : formed_count h + u.count ≤ length h.recorded
  pub fixes : fixes_of (u.id, u.body) ≡ take u.count (drop (formed_count h) h.recorded)
  pub from : gap_of h.mark h.next ≤ gap_of h.mark u.serial
  pub near : gap_of h.mark u.serial ≤ UNIT_WINDOW

-- a call that changes the vault so, or leaves it as it was
abbrev pub Changes : {T : Type 0} → Change → Option Held → Option Held → Result T StoreError → Type 0
Changes change old now result = Writes old (changed change old) now result

-- a call that records a fix: Full comes exactly where as many as the limit are not accepted
abbrev pub Records : {T : Type 0} → ℕ → List ℕ → Option Held → Option Held → Result T StoreError → Type 0
Records limit fix old now result = WritesWithin limit pending_count old (changed (Notes fix) old) now result
