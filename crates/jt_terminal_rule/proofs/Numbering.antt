-- Units whose gaps from the mark rise have numbers that rise from one past it.
use Rattle.std.proofs.Common.{ℕ, suc, ◌≡◌, ◌<◌, ◌≤◌, ◌+◌, List, [], ◌∷◌, ◌++◌, length, slice_get, Option, Some, None, refl, ap, arith}
use Rattle.std.specs.Prelude.{All}
use Rattle.std.proofs.lemmas.List.Elements.{All-nil, All-cons}
use Rattle.jt_value.specs.Serials.{gap_of}
use Rattle.jt_store.specs.declared.row.Row.{Row}
use Rattle.jt_store.specs.declared.unit.Unit.{Unit as OneUnit}
use Rattle.jt_store.specs.Vaults.{gap_after, Gaps}
use Rattle.jt_store.specs.Units.{past, past_accepted}
use Rattle.jt_store.specs.Verdicts.{number_after, numbered}
use Rattle.jt_terminal_rule.specs.Machines.{row_after, mark_of, last_number, AreSerials}

-- gaps of units from the mark rise from low and stay below top
abbrev pub Rising : ℕ → ℕ → ℕ → List OneUnit → Type 0
Rising mark low top [] = low ≤ top
Rising mark low top (u ∷ units) = (u.serial < 65536) × (low ≤ gap_of mark u.serial) × Rising mark (gap_of mark u.serial + 1) top units

pub rising : (mark low top : ℕ) (units : List OneUnit) → Gaps mark low units → gap_after mark low units ≤ top → AreSerials units → Rising mark low top units
rising mark low top [] g le small = le
rising mark low top (u ∷ units) g le small = (small.0, g.0, rising mark (gap_of mark u.serial + 1) top units g.3 le small.1)

-- one past a number, 0 without one
abbrev pub past_number : Option ℕ → ℕ
past_number None = 0
past_number (Some n) = n + 1

pub numbered-append : (last : Option ℕ) (units more : List OneUnit) → numbered last (units ++ more) ≡ numbered last units ++ numbered (last_number last (numbered last units)) more
numbered-append last [] more = refl
numbered-append last (v ∷ units) more = ap (λ (rows : List Row). row_after last v ∷ rows) (numbered-append (Some (number_after last v.serial)) units more)

pub length-numbered : (last : Option ℕ) (units : List OneUnit) → length (numbered last units) ≡ length units
length-numbered last [] = refl
length-numbered last (v ∷ units) = ap suc (length-numbered (Some (number_after last v.serial)) units)

pub last-append : (last : Option ℕ) (rows more : List Row) → last_number last (rows ++ more) ≡ last_number (last_number last rows) more
last-append last [] more = refl
last-append last (row ∷ rows) more = last-append (Some row.number) rows more

-- the last of the first rows
last_get : (row : Row) (rows more : List Row) → past (slice_get (row ∷ rows ++ more) (length rows)) ≡ past_number (last_number (Some row.number) rows)
last_get row [] more = refl
last_get row (next ∷ rows) more = last_get next rows more

pub past_is : (rows more : List Row) → past_accepted (rows ++ more) (length rows) ≡ past_number (last_number None rows)
past_is [] more = refl
past_is (row ∷ rows) more = last_get row rows more

-- the number by its gap from the mark
number_is : (last : Option ℕ) (floor low serial : ℕ) → serial < 65536 → past_number last + 1 ≡ floor + low → 1 ≤ low → low ≤ gap_of (mark_of floor) serial → gap_of (mark_of floor) serial ≤ 32767
    → number_after last serial + 1 ≡ floor + gap_of (mark_of floor) serial
number_is None floor low serial small at one le near = omega arith
number_is (Some n) floor low serial small at one le near = omega arith

pub gaps_top : (mark low top : ℕ) (units : List OneUnit) → Rising mark low top units → low ≤ top
gaps_top mark low top [] g = g
gaps_top mark low top (u ∷ units) g = let more = gaps_top mark (gap_of mark u.serial + 1) top units g.2 in let first = g.1 in omega arith

-- the next unit's number
pub next_number : (last : Option ℕ) (floor low serial : ℕ) (units : List OneUnit) → serial < 65536 → past_number last + 1 ≡ floor + low → 1 ≤ low → gap_of (mark_of floor) serial ≤ 32767 → Rising (mark_of floor) low (gap_of (mark_of floor) serial) units
    → number_after (last_number last (numbered last units)) serial + 1 ≡ floor + gap_of (mark_of floor) serial
next_number last floor low serial [] small at one near g = number_is last floor low serial small at one g near
next_number last floor low serial (u ∷ units) small at one near g =
    let t = gaps_top (mark_of floor) (gap_of (mark_of floor) u.serial + 1) (gap_of (mark_of floor) serial) units g.2 in
    let within : gap_of (mark_of floor) u.serial ≤ 32767 = omega arith in
    let is : number_after last u.serial + 1 ≡ floor + gap_of (mark_of floor) u.serial = number_is last floor low u.serial g.0 at one g.1 within in
    next_number (Some (number_after last u.serial)) floor (gap_of (mark_of floor) u.serial + 1) serial units small (omega arith) (omega arith) near g.2

-- numbers rise, whatever the serials
after_past : (last : Option ℕ) (serial : ℕ) → past_number last ≤ number_after last serial
after_past None serial = omega arith
after_past (Some n) serial = omega arith

last_past : (last : Option ℕ) (units : List OneUnit) → past_number last ≤ past_number (last_number last (numbered last units))
last_past last [] = omega arith
last_past last (u ∷ units) = omega (arith, after_past last u.serial, last_past (Some (number_after last u.serial)) units)

pub all_past : (last : Option ℕ) (units : List OneUnit) (n : ℕ) → past_number (last_number last (numbered last units)) ≤ n → All (λ (row : Row). row.number < n) (numbered last units)
all_past last [] n le = All-nil (λ (row : Row). row.number < n)
all_past last (u ∷ units) n le = All-cons (λ (row : Row). row.number < n) (row_after last u) (numbered (Some (number_after last u.serial)) units) (omega (arith, last_past (Some (number_after last u.serial)) units, le)) (all_past (Some (number_after last u.serial)) units n le)
