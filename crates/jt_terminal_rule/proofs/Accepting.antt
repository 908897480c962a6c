-- An acceptance moves the mark by one unit.
use Rattle.std.proofs.Common.{refl, ℕ, zero, suc, ◌≡◌, ◌<◌, ◌≤◌, ◌+◌, ◌-◌, List, [], ◌∷◌, length, drop, slice_get, Option, Some, None, ap, sym, ◌∙◌, subst, arith, IsTrue}
use Rattle.std.specs.Prelude.{Bool, true, false, ◌&&◌, ◌==◌}
use Rattle.jt_value.specs.Serials.{serial_of, gap_of}
use Rattle.jt_store.specs.declared.row.Row.{Row}
use Rattle.jt_store.specs.declared.unit.Unit.{Unit as OneUnit}
use Rattle.jt_store.specs.Vaults.{Held, Gaps, gap_after, AreInOrder, serial_or, Accepts, held_by}
use Rattle.jt_terminal_rule.specs.declared.state.Phase.TheVariants.{Live}
use Rattle.jt_terminal_rule.specs.declared.state.Acknowledgement.{Acknowledgement}
use Rattle.jt_terminal_rule.specs.Messages.{is_acceptance}
use Rattle.jt_terminal_rule.specs.Steps.{is_named}
use Rattle.jt_store.specs.Units.{past, past_accepted}
use Rattle.jt_terminal_rule.specs.declared.state.State.{State}
use Rattle.jt_terminal_rule.specs.Rule.{after_acceptance, names}
use Rattle.jt_terminal_rule.specs.Rule as rule
use Rattle.jt_store.specs.Verdicts.{number_after, numbered}
use Rattle.jt_terminal_rule.specs.Machines.{row_after, machine_of, mark_of, is_up, Agrees, IsInOrder, AreSerials}
use Rattle.jt_terminal_rule.specs.Law.{AreSteps}

-- the unit in a place, with its number
pub row_in : (last : Option ℕ) (units : List OneUnit) (place : ℕ) (u : OneUnit) (more : List OneUnit) → drop place units ≡ u ∷ more
    → (before : Option ℕ) × (slice_get (numbered last units) place ≡ Some (row_after before u)) × (more ≡ drop (suc place) units) × (place < length units) × (slice_get units place ≡ Some u)
row_in last [] zero u more e = absurd cc
row_in last [] (suc place) u more e = absurd cc
row_in last (v ∷ units) zero u more e = let same : v ≡ u = cc in let rest : units ≡ more = cc in (last, ap (λ (x : OneUnit). Some (row_after last x)) same, sym rest, omega arith, ap (λ (x : OneUnit). Some x) same)
row_in last (v ∷ units) (suc place) u more e = let r = row_in (Some (number_after last v.serial)) units place u more e in (r.0, r.1, r.2, omega (arith, r.3), r.4)

pub serial_is : (last : Option ℕ) (serial : ℕ) → serial < 65536 → mark_of (number_after last serial + 1) ≡ serial
serial_is None serial small = omega arith
serial_is (Some n) serial small = omega arith

pub serial_back : (last : Option ℕ) (serial : ℕ) → serial < 65536 → serial_of (number_after last serial) ≡ serial
serial_back None serial small = omega arith
serial_back (Some n) serial small = omega arith

-- gaps from a mark that moved to one of the units
gap_moves : (mark to serial : ℕ) → mark < 65536 → to < 65536 → serial < 65536 → 1 ≤ gap_of mark to → gap_of mark to ≤ gap_of mark serial → gap_of to serial + gap_of mark to ≡ gap_of mark serial
gap_moves mark to serial a b c at le = omega arith

moved : (mark to low : ℕ) (units : List OneUnit) → mark < 65536 → to < 65536 → 1 ≤ gap_of mark to → AreSerials units → gap_of mark to + 1 ≤ low → Gaps mark low units → Gaps to (low - gap_of mark to) units
moved mark to low [] a b at small le g = tt
moved mark to low (u ∷ units) a b at small le g =
    let first = g.0 in
    let near = g.1 in
    let is = gap_moves mark to u.serial a b small.0 at (omega (arith, first, le)) in
    let low_is : (gap_of mark u.serial + 1) - gap_of mark to ≡ gap_of to u.serial + 1 = omega (arith, is) in (
      omega (arith, is, first),
      omega (arith, is, near),
      g.2,
      subst (λ (n : ℕ). Gaps to n units) low_is (moved mark to (gap_of mark u.serial + 1) units a b at small.1 (omega (arith, first, le)) g.3),
    )

moved_after : (mark to low : ℕ) (units : List OneUnit) → mark < 65536 → to < 65536 → 1 ≤ gap_of mark to → AreSerials units → gap_of mark to + 1 ≤ low → Gaps mark low units
    → gap_after to (low - gap_of mark to) units + gap_of mark to ≡ gap_after mark low units
moved_after mark to low [] a b at small le g = omega (arith, le)
moved_after mark to low (u ∷ units) a b at small le g =
    let first = g.0 in
    let is = gap_moves mark to u.serial a b small.0 at (omega (arith, first, le)) in
    let low_is : (gap_of mark u.serial + 1) - gap_of mark to ≡ gap_of to u.serial + 1 = omega (arith, is) in
    ap (λ (n : ℕ). gap_after to n units + gap_of mark to) (sym low_is) ∙ moved_after mark to (gap_of mark u.serial + 1) units a b at small.1 (omega (arith, first, le)) g.3

after_low : (mark low : ℕ) (units : List OneUnit) → Gaps mark low units → low ≤ gap_after mark low units
after_low mark low [] g = omega arith
after_low mark low (u ∷ units) g = let first = g.0 in let more = after_low mark (gap_of mark u.serial + 1) units g.3 in omega (arith, first, more)

both : (a b : Bool) → IsTrue a → IsTrue b → IsTrue (a && b)
both true true x y = x
both true false x y = absurd cc
both false b x y = absurd cc

module _ (s : State) (u : OneUnit) (more : List OneUnit) (o : IsInOrder s) (is : s.units ≡ u ∷ more) where
  gaps : Gaps s.mark 1 (u ∷ more)
  gaps = subst (λ (us : List OneUnit). Gaps s.mark 1 us) is o.order.gaps

  small : AreSerials (u ∷ more)
  small = subst AreSerials is o.serials

  behind : gap_after s.mark 1 (u ∷ more) ≤ gap_of s.mark s.next
  behind = subst (λ (us : List OneUnit). gap_after s.mark 1 us ≤ gap_of s.mark s.next) is o.order.behind

  reach_of : (n : ℕ) → n < 65536 → gap_after s.mark 1 (u ∷ more) ≤ gap_of s.mark n → gap_of u.serial n + gap_of s.mark u.serial ≡ gap_of s.mark n
  reach_of n lt le = let top = after_low s.mark (gap_of s.mark u.serial + 1) more gaps.3 in gap_moves s.mark u.serial n o.mark small.0 lt gaps.0 (omega (arith, top, le))

  reaches : gap_of u.serial s.next + gap_of s.mark u.serial ≡ gap_of s.mark s.next
  reaches = reach_of s.next o.next behind

  one_is : (gap_of s.mark u.serial + 1) - gap_of s.mark u.serial ≡ 1
  one_is = omega arith

  top_is : gap_after u.serial 1 more + gap_of s.mark u.serial ≡ gap_after s.mark (gap_of s.mark u.serial + 1) more
  top_is = subst (λ (n : ℕ). gap_after u.serial n more + gap_of s.mark u.serial ≡ gap_after s.mark (gap_of s.mark u.serial + 1) more) one_is (moved_after s.mark u.serial (gap_of s.mark u.serial + 1) more o.mark small.0 gaps.0 small.1 (omega arith) gaps.3)

  order : AreInOrder u.serial s.next more s.code
  order = record {
    gaps = subst (λ (n : ℕ). Gaps u.serial n more) one_is (moved s.mark u.serial (gap_of s.mark u.serial + 1) more o.mark small.0 gaps.0 small.1 (omega arith) gaps.3);
    behind = omega (arith, top_is, behind, reaches);
    near = let within = o.order.near in omega (arith, reaches, within);
    short = o.order.short;
  }

  pub accepted_order : IsInOrder (after_acceptance s u more)
  accepted_order = record { order = order; serials = small.1; phase = o.phase; mark = small.0; next = o.next; sent = let within = subst (λ (us : List OneUnit). s.sent ≤ length us) is o.sent in omega (arith, within) }

module _ (h : Held) (s : State) (u : OneUnit) (more : List OneUnit) (o : IsInOrder s) (a : Agrees h s) (is : s.units ≡ u ∷ more) where
  pub found : (before : Option ℕ) × (slice_get (numbered None h.units) h.accepted ≡ Some (row_after before u)) × (more ≡ drop (suc h.accepted) h.units) × (h.accepted < length h.units) × (slice_get h.units h.accepted ≡ Some u)
  found = row_in None h.units h.accepted u more (sym a.units ∙ is)

  next : suc h.accepted ≡ h.accepted + 1
  next = omega arith

  held_behind : gap_after s.mark 1 (u ∷ more) ≤ gap_of s.mark h.next
  held_behind = subst (λ (us : List OneUnit). gap_after s.mark 1 us ≤ gap_of s.mark h.next) is a.next_behind

  held_reaches : gap_of u.serial h.next + gap_of s.mark u.serial ≡ gap_of s.mark h.next
  held_reaches = reach_of s u more o is h.next a.next_small held_behind

  pub accepted_agrees : Agrees (held_by Accepts h) (after_acceptance s u more)
  accepted_agrees = let top = top_is s u more o is in let goes = reaches s u more o is in record {
    known = let lt = found.3 in omega (arith, lt);
    units = found.2 ∙ ap (λ (n : ℕ). drop n h.units) next;
    mark = sym (serial_is found.0 u.serial (small s u more o is).0) ∙ (ap (λ (row : Option Row). mark_of (past row)) (sym found.1) ∙ ap (λ (n : ℕ). mark_of (past_accepted (numbered None h.units) n)) next);
    mark_held = ap (serial_or h.mark) found.4;
    next_small = a.next_small;
    next_behind = omega (arith, top, held_behind, held_reaches);
    next_held = let le = a.next_held in omega (arith, le, goes, held_reaches);
    fixes = a.fixes;
    formed = a.formed;
    are_fixes = a.are_fixes;
    code = a.code;
  }

module _ (h : Held) (s : State) (serial : ℕ) (u : OneUnit) (more : List OneUnit) (ack : Acknowledgement) (live : s.phase ≡ Live serial) (o : IsInOrder s) (a : Agrees h s) (is : s.units ≡ u ∷ more) (some : 0 < s.sent) (named : IsTrue (names ack u)) (accepting : IsTrue (is_acceptance ack)) where
  sent_is : h.accepted + s.sent ≡ (h.accepted + 1) + (s.sent - 1)
  sent_is = omega (arith, some)

  at_place : (before : Option ℕ) × (slice_get (numbered None h.units) h.accepted ≡ Some (row_after before u)) × (more ≡ drop (suc h.accepted) h.units) × (h.accepted < length h.units) × (slice_get h.units h.accepted ≡ Some u)
  at_place = found h s u more o a is

  names_it : IsTrue (is_acceptance ack && is_named ack (slice_get (numbered None h.units) h.accepted))
  names_it = subst (λ (row : Option Row). IsTrue (is_acceptance ack && is_named ack row)) (sym at_place.1)
      (both (is_acceptance ack) (is_named ack (Some (row_after at_place.0 u))) accepting (subst (λ (n : ℕ). IsTrue ((ack.reply == n) && (ack.id == u.id))) (sym (serial_back at_place.0 u.serial (small s u more o is).0)) named))

  pub accept_steps : AreSteps (machine_of h s) h (Some ack) (record { state = after_acceptance s u more; steps = rule.Changes Accepts ∷ []; end = None })
  accept_steps = record {
    may = ((ap is_up live, omega (arith, some), names_it), tt);
    to = ap (λ (n : ℕ). record (machine_of h s) { accepted = h.accepted + 1; reach = n }) sent_is;
    commits = (at_place.3, tt);
    sent = λ settings own. refl;
    in_order = accepted_order s u more o is;
    agrees = accepted_agrees h s u more o a is;
  }
