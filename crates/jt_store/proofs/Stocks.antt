-- What stays true of a vault in memory.
use Rattle.std.proofs.Common.{◌≡◌, ◌<◌, ◌≤◌, ◌+◌, ℕ, suc, List, [], ◌∷◌, ◌++◌, length, take, drop, Option, Some, refl, sym, ap, subst, ◌∙◌, arith, get_or, length-append}
use Rattle.std.specs.Prelude.{slice_get}
use Rattle.std.proofs.Math.Seq.{drop-cons, take-add}
use Rattle.std.proofs.lemmas.Grind.{flat_map-append}
use Rattle.std.proofs.lemmas.List.{append-nil, drop-append-le, take_more, take-append-drop, take-append-le}
use Rattle.std.proofs.lemmas.List.Sums.{sum_by-append}
use Rattle.std.proofs.lemmas.Option.{get_or_from_slice_get, slice_get_within}
use Rattle.jt_value.specs.Serials.{gap_of, serial_of}
use Rattle.jt_store.specs.declared.unit.Unit.{Unit as OneUnit}
use Rattle.jt_store.specs.Memory.{IsStock}
use Rattle.jt_position.specs.Fixes.{fixes_of}
use Rattle.jt_store.specs.Vaults.{Held, Forms, AreInOrder, Gaps, IsUnit, IsWhole, MayCommit, fixes_carried, fixes_in_units, formed_count, gap_after, held_by, last_serial, pending}

-- ---- gaps

-- one unit more
gaps-push : (mark low : ℕ) (units : List OneUnit) (u : OneUnit) → Gaps mark low units → gap_after mark low units ≤ gap_of mark u.serial → gap_of mark u.serial ≤ 32766 → IsUnit u → Gaps mark low (units ++ u ∷ [])
gaps-push mark low [] u h from near is = (from, near, is, tt)
gaps-push mark low (x ∷ units) u h from near is = (h.0, h.1, h.2, gaps-push mark (gap_of mark x.serial + 1) units u h.3 from near is)

gap_after-push : (mark low : ℕ) (units : List OneUnit) (u : OneUnit) → gap_after mark low (units ++ u ∷ []) ≡ gap_of mark u.serial + 1
gap_after-push mark low [] u = refl
gap_after-push mark low (x ∷ units) u = gap_after-push mark (gap_of mark x.serial + 1) units u

after_low : (mark low : ℕ) (units : List OneUnit) → Gaps mark low units → low ≤ gap_after mark low units
after_low mark low [] h = omega arith
after_low mark low (x ∷ units) h = let more = after_low mark (gap_of mark x.serial + 1) units h.3 in let front = h.0 in omega arith

-- the serial behind one
gap_next : (mark serial : ℕ) → mark < 65536 → gap_of mark serial ≤ 32766 → gap_of mark (serial_of (serial + 1)) ≡ gap_of mark serial + 1
gap_next mark serial m near = omega arith

-- gaps from a later mark
gap_shift : (mark later serial : ℕ) → mark < 65536 → later < 65536 → gap_of mark later ≤ gap_of mark serial → gap_of mark serial ≡ gap_of mark later + gap_of later serial
gap_shift mark later serial m l le = omega arith

gaps_shift : (mark later : ℕ) (low from : ℕ) (units : List OneUnit) → mark < 65536 → later < 65536 → low ≡ gap_of mark later + from → Gaps mark low units → Gaps later from units × (gap_after mark low units ≡ gap_of mark later + gap_after later from units)
gaps_shift mark later low from [] m l e h = (tt, e)
gaps_shift mark later low from (u ∷ units) m l e h =
    let front = h.0 in
    let near = h.1 in
    let shift = gap_shift mark later u.serial m l (omega arith) in
    let more = gaps_shift mark later (gap_of mark u.serial + 1) (gap_of later u.serial + 1) units m l (omega arith) h.3 in
    ((omega arith, omega arith, h.2, more.0), more.1)

-- ---- changes

-- the mark moves to the first unit, which is then not pending
order_accepted : (mark next : ℕ) (u : OneUnit) (units : List OneUnit) (code : Option (List ℕ)) → mark < 65536 → u.serial < 65536 → AreInOrder mark next (u ∷ units) code → AreInOrder u.serial next units code
order_accepted mark next u units code m l is =
    let front = is.gaps.0 in
    let behind = is.behind in
    let near = is.near in
    let shift = gaps_shift mark u.serial (gap_of mark u.serial + 1) 1 units m l refl is.gaps.3 in
    let low = after_low mark (gap_of mark u.serial + 1) units is.gaps.3 in
    let moved = gap_shift mark u.serial next m l (omega arith) in
    let same = shift.1 in
    record { gaps = shift.0; behind = omega arith; near = omega arith; short = is.short }

order_formed : (mark next : ℕ) (u : OneUnit) (units : List OneUnit) (code : Option (List ℕ)) → mark < 65536 → AreInOrder mark next units code → gap_of mark next ≤ gap_of mark u.serial → gap_of mark u.serial ≤ 32766 → IsUnit u
    → AreInOrder mark (serial_of (u.serial + 1)) (units ++ u ∷ []) code
order_formed mark next u units code m is from near one =
    let behind = is.behind in
    let last = gap_after-push mark 1 units u in
    let step = gap_next mark u.serial m near in
    record { gaps = gaps-push mark 1 units u is.gaps (omega arith) near one; behind = omega arith; near = omega arith; short = is.short }

-- what one unit more carries, and some of the units
carried-push : (units : List OneUnit) (u : OneUnit) → fixes_carried (units ++ u ∷ []) ≡ fixes_carried units + u.count
carried-push units u = let sum = sum_by-append (λ (x : OneUnit). x.count) units (u ∷ []) in omega (arith, sum)

carried-le : (n : ℕ) (units : List OneUnit) → fixes_carried (take n units) ≤ fixes_carried units
carried-le n units =
    let sum : fixes_carried (take n units ++ drop n units) ≡ fixes_carried (take n units) + fixes_carried (drop n units) = sum_by-append (λ (x : OneUnit). x.count) (take n units) (drop n units) in
    let same : fixes_carried (take n units ++ drop n units) ≡ fixes_carried units = ap fixes_carried (take-append-drop n units) in
    omega arith

-- ---- units carry the first fixes

last_serial-push : (mark : ℕ) (units : List OneUnit) (u : OneUnit) → last_serial mark (units ++ u ∷ []) ≡ u.serial
last_serial-push mark [] u = refl
last_serial-push mark (x ∷ units) u = last_serial-push x.serial units u

-- one unit more, of the next fixes
fixes_formed : (h : Held) (u : OneUnit) → fixes_in_units h.units ≡ take (formed_count h) h.recorded → fixes_of (u.id, u.body) ≡ take u.count (drop (formed_count h) h.recorded)
    → fixes_in_units (h.units ++ u ∷ []) ≡ take (formed_count h + u.count) h.recorded
fixes_formed h u are is =
    flat_map-append (λ (x : OneUnit). fixes_of (x.id, x.body)) h.units (u ∷ [])
    ∙ ap (λ (xs : List (List ℕ)). xs ++ (fixes_of (u.id, u.body) ++ [])) are
    ∙ ap (λ (xs : List (List ℕ)). take (formed_count h) h.recorded ++ xs) (append-nil (fixes_of (u.id, u.body)) ∙ is)
    ∙ sym (take-add (formed_count h) u.count h.recorded)

pub stock_formed : (h : Held) (in_units accepted limit : ℕ) (u : OneUnit) → IsStock h in_units accepted limit → h.mark < 65536 → IsUnit u → MayCommit h u → IsStock (held_by (Forms u) h) (in_units + u.count) accepted limit
stock_formed h in_units accepted limit u is m one may =
    let more : fixes_carried (h.units ++ u ∷ []) ≡ fixes_carried h.units + u.count = carried-push h.units u in
    let w = is.whole in
    let first : take h.accepted (h.units ++ u ∷ []) ≡ take h.accepted h.units = take-append-le h.accepted h.units (u ∷ []) w.known in
    let front : fixes_carried (take h.accepted (h.units ++ u ∷ [])) ≡ fixes_carried (take h.accepted h.units) = ap fixes_carried first in
    let rest : drop h.accepted (h.units ++ u ∷ []) ≡ drop h.accepted h.units ++ u ∷ [] = drop-append-le h.accepted h.units (u ∷ []) w.known in
    let enough = may.enough in
    let known = w.known in
    let in_units_is = is.in_units_is in
    let few = is.few in
    let order = order_formed h.mark h.next u (pending h) h.code m w.order may.from may.near one in
    let whole : IsWhole (held_by (Forms u) h) = record {
      known = omega (arith, length-append h.units (u ∷ []));
      mark = w.mark ∙ ap (last_serial 65535) (sym first);
      order = subst (λ units. AreInOrder h.mark (serial_of (u.serial + 1)) units h.code) (sym rest) order;
      enough = omega arith;
      fixes = fixes_formed h u w.fixes may.fixes ∙ ap (λ n. take n h.recorded) (sym more);
    } in
    record {
      limit_fits = is.limit_fits;
      whole = whole;
      in_units_is = omega arith;
      accepted_is = is.accepted_is ∙ sym front;
      few = omega arith;
    }

-- the oldest pending unit
pub one_more : (units : List OneUnit) (n : ℕ) (u : OneUnit) → slice_get units n ≡ Some u
    → (fixes_carried (take (n + 1) units) ≡ fixes_carried (take n units) + u.count) × (drop n units ≡ u ∷ drop (n + 1) units) × (n < length units) × (last_serial 65535 (take (n + 1) units) ≡ u.serial)
one_more units n u at =
    let within = slice_get_within units n u at in
    let here = get_or_from_slice_get units n u u at in
    let more : fixes_carried (take (n + 1) units) ≡ fixes_carried (take n units ++ get_or units n u ∷ []) = ap fixes_carried (take_more units n u within) in
    let sum : fixes_carried (take n units ++ get_or units n u ∷ []) ≡ fixes_carried (take n units) + (get_or units n u).count = carried-push (take n units) (get_or units n u) in
    let count : (get_or units n u).count ≡ u.count = ap (λ (x : OneUnit). x.count) here in
    let next : suc n ≡ n + 1 = omega arith in
    let last : last_serial 65535 (take (n + 1) units) ≡ (get_or units n u).serial = ap (last_serial 65535) (take_more units n u within) ∙ last_serial-push 65535 (take n units) (get_or units n u) in
    (omega arith, drop-cons units n u within ∙ ap (λ (x : OneUnit). x ∷ drop (suc n) units) here ∙ ap (λ k. u ∷ drop k units) next, within, last ∙ ap (λ (x : OneUnit). x.serial) here)

pub settled_fits : (h : Held) (in_units accepted limit : ℕ) (u : OneUnit) → IsStock h in_units accepted limit → slice_get h.units h.accepted ≡ Some u → accepted + u.count ≤ in_units
settled_fits h in_units accepted limit u is at =
    let more = (one_more h.units h.accepted u at).0 in
    let all = carried-le (h.accepted + 1) h.units in
    let in_units_is = is.in_units_is in
    let accepted_is = is.accepted_is in
    omega arith

pub stock_accepted : (h : Held) (in_units accepted limit : ℕ) (u : OneUnit) → IsStock h in_units accepted limit → h.mark < 65536 → u.serial < 65536 → slice_get h.units h.accepted ≡ Some u
    → IsStock (record h { accepted = h.accepted + 1; mark = u.serial }) in_units (accepted + u.count) limit
stock_accepted h in_units accepted limit u is m l at =
    let step = one_more h.units h.accepted u at in
    let more = step.0 in
    let within = step.2 in
    let accepted_is = is.accepted_is in
    let few = is.few in
    let w = is.whole in
    let whole : IsWhole (record h { accepted = h.accepted + 1; mark = u.serial }) = record {
      known = omega arith;
      mark = sym step.3;
      order = order_accepted h.mark h.next u (drop (h.accepted + 1) h.units) h.code m l (subst (λ units. AreInOrder h.mark h.next units h.code) step.1 w.order);
      enough = w.enough;
      fixes = w.fixes;
    } in
    record {
      limit_fits = is.limit_fits;
      whole = whole;
      in_units_is = is.in_units_is;
      accepted_is = omega arith;
      few = omega arith;
    }
