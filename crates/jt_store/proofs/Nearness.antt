-- What every verdict near the last row is.
use Rattle.std.proofs.Common.{◌≡◌, ◌<◌, ◌≤◌, ◌+◌, ◌%◌, ℕ, List, [], ◌∷◌, Some, refl, ap, subst, arith}
use Rattle.jt_value.specs.Serials.{IsVerdict, Verdict, New, Repeat, Anew, next_with, serial_of}
use Rattle.jt_store.specs.declared.row.Row.{Row}
use Rattle.jt_store.specs.declared.unit.Unit.{Unit as OneUnit}
use Rattle.jt_store.specs.Tables.{IsRow, Rises}
use Rattle.jt_store.specs.Verdicts.{IsVerdictOn, VerdictsNear, numbered, row_of}

first : (serial id : ℕ) (body : List ℕ) (v : Verdict) → IsVerdictOn [] serial id body v → v ≡ New serial
first serial id body (New n) h = ap New h
first serial id body (Repeat n) h = absurd h
first serial id body (Anew n) h = absurd h

module _ (rows : List Row) (id : ℕ) (body : List ℕ) where
  new_from : (last n : ℕ) (v : Verdict) → last < n → n ≤ last + 32766 → IsVerdict (Some last) (λ m. IsRow rows (row_of m id body)) (serial_of n) v → v ≡ New n
  new_from last n (New m) above near h =
      let least : m ≤ n = h.0.least n above refl in
      let over : last < m = h.0.above in
      let named : m % 65536 ≡ n % 65536 = h.0.named in
      let same : m ≡ n = omega arith in ap New same
  new_from last n (Repeat m) above near h = let far : last + 32767 < n = h.0 n above refl in absurd (omega arith)
  new_from last n (Anew m) above near h = let far : last + 32767 < n = h.0 n above refl in absurd (omega arith)

  again_from : (last n : ℕ) (v : Verdict) → n ≤ last → last ≤ n + 32765 → IsRow rows (row_of n id body) → IsVerdict (Some last) (λ m. IsRow rows (row_of m id body)) (serial_of n) v → v ≡ Repeat n
  again_from last n (New m) below near has h =
      let over : last < m = h.0.above in
      let near_it : m ≤ last + 32767 = h.1 in
      let named : m % 65536 ≡ n % 65536 = h.0.named in
      absurd (omega arith)
  again_from last n (Repeat m) below near has h =
      let greatest : n ≤ m = h.1.greatest n below refl in
      let within : m ≤ last = h.1.within in
      let named : m % 65536 ≡ n % 65536 = h.1.named in
      let same : m ≡ n = omega arith in ap Repeat same
  again_from last n (Anew m) below near has h = absurd (h.1 n (record { within = below; named = refl; greatest = λ k le named. omega arith }) has)

rise : (units : List OneUnit) (last : ℕ) → Rises (last + 1) (numbered (Some last) units)
rise [] last = tt
rise (u ∷ units) last = (omega arith, rise units (next_with last u.serial))

pub near : VerdictsNear
near = record {
  first = first;
  new = λ rows last n id body v e above near h. new_from rows id body last n v above near (subst (λ o. IsVerdict o (λ m. IsRow rows (row_of m id body)) (serial_of n) v) e h);
  again = λ rows last n id body v e below near has h. again_from rows id body last n v below near has (subst (λ o. IsVerdict o (λ m. IsRow rows (row_of m id body)) (serial_of n) v) e h);
  rise = rise;
}
