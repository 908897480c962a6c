-- A unit of the next serial may be formed.
use Rattle.std.proofs.Common.{ℕ, zero, suc, ◌≡◌, ◌≢◌, ◌<◌, ◌≤◌, ◌+◌, List, [], ◌∷◌, ◌++◌, length, take, drop, map, slice_get, Option, Some, None, Bool, true, false, cond, refl, ap, sym, ◌∙◌, subst, arith}
use Rattle.std.specs.Prelude.{All, nat_le}
use Rattle.std.specs.List.{flat_map}
use Rattle.std.proofs.lemmas.List.{take-append-drop, length-take-le, length-append, length-drop, map-append, append_assoc, append-nil, drop-append-le}
use Rattle.std.proofs.lemmas.List.Elements.{All-drop}
use Rattle.std.proofs.lemmas.Grind.{flat_map-append}
use Rattle.std.proofs.lemmas.List.Sums.{sum_by-append}
use Rattle.jt_value.specs.Serials.{serial_of, gap_of}
use Rattle.jt_position.specs.Fixes.{IsFix, fixes_of}
use Rattle.jt_store.specs.declared.row.Row.{Row}
use Rattle.jt_store.specs.declared.unit.Unit.{Unit as OneUnit}
use Rattle.jt_store.specs.Vaults.{Held, Gaps, fixes_carried as counts, formed_count, gap_after, AreInOrder, IsUnit, held_by, Forms}
use Rattle.jt_store.specs.Vaults as vaults
use Rattle.std.proofs.Math.Seq.{drop-append_seam}
use Rattle.jt_terminal_rule.specs.Forming.{unit_of, fitting, batch_unit, position_unit}
use Rattle.jt_terminal_rule.specs.Law.{AreSteps, UnitCarriesFirstFixes}
use mathlib.Core.List.{IsPrefix}
use Rattle.jt_store.specs.Units.{MayForm, fixes_in, carried, past, past_accepted}
use Rattle.jt_terminal_rule.specs.declared.state.State.{State}
use Rattle.jt_terminal_rule.specs.Rule as rule
use Rattle.jt_store.specs.Verdicts.{number_after, numbered}
use Rattle.jt_terminal_rule.specs.Machines.{row_after, machine_of, last_number, mark_of, AreSerials, IsInOrder, Agrees}
use Rattle.jt_terminal_rule.proofs.Numbering.{Rising, rising, gaps_top, past_number, numbered-append, length-numbered, last-append, past_is, next_number, all_past}

-- ---- lists with one more unit

get_front : {A : Type 0} (xs ys : List A) (place : ℕ) → place < length xs → slice_get (xs ++ ys) place ≡ slice_get xs place
get_front [] ys place lt = absurd (omega (arith, lt))
get_front (x ∷ xs) ys zero lt = refl
get_front (x ∷ xs) ys (suc place) lt = get_front xs ys place (omega (arith, lt))

past_push : (rows more : List Row) (accepted : ℕ) → accepted ≤ length rows → past_accepted (rows ++ more) accepted ≡ past_accepted rows accepted
past_push rows more zero le = refl
past_push rows more (suc last) le = ap past (get_front rows more last (omega (arith, le)))

pub gaps_push : (mark low : ℕ) (units : List OneUnit) (u : OneUnit) → Gaps mark low units → gap_after mark low units ≤ gap_of mark u.serial → gap_of mark u.serial ≤ 32766 → IsUnit u → Gaps mark low (units ++ u ∷ [])
gaps_push mark low [] u g le near is = (le, near, is, tt)
gaps_push mark low (v ∷ units) u g le near is = (g.0, g.1, g.2, gaps_push mark (gap_of mark v.serial + 1) units u g.3 le near is)

pub after_push : (mark low : ℕ) (units : List OneUnit) (u : OneUnit) → gap_after mark low (units ++ u ∷ []) ≡ gap_of mark u.serial + 1
after_push mark low [] u = refl
after_push mark low (v ∷ units) u = after_push mark (gap_of mark v.serial + 1) units u

pub serials_push : (units : List OneUnit) (u : OneUnit) → AreSerials units → u.serial < 65536 → AreSerials (units ++ u ∷ [])
serials_push [] u small lt = (lt, tt)
serials_push (v ∷ units) u small lt = (small.0, serials_push units u small.1 lt)

pub counts_push : (units : List OneUnit) (u : OneUnit) → counts (units ++ u ∷ []) ≡ counts units + u.count
counts_push units u = let alone : counts (u ∷ []) ≡ u.count = omega arith in let both = sum_by-append (λ (x : OneUnit). x.count) units (u ∷ []) in omega (arith, both, alone)

fixes_append : (rows more : List Row) → fixes_in (rows ++ more) ≡ fixes_in rows ++ fixes_in more
fixes_append rows more = ap (flat_map fixes_of) (map-append carried rows more) ∙ flat_map-append fixes_of (map carried rows) (map carried more)

serial_by : (b : Bool) (serial : ℕ) (fix : List ℕ) (fixes : List (List ℕ)) → (cond b (batch_unit serial fixes (fitting fixes)) (position_unit serial fix)).serial ≡ serial
serial_by true serial fix fixes = refl
serial_by false serial fix fixes = refl

-- the unit has the serial that it is formed under
pub unit_serial : (serial : ℕ) (fix : List ℕ) (fixes : List (List ℕ)) → (unit_of serial fix fixes).serial ≡ serial
unit_serial serial fix fixes = serial_by (nat_le 2 (fitting fixes)) serial fix fixes

pub next_gap : (mark next : ℕ) → mark < 65536 → next < 65536 → gap_of mark next < 32767 → gap_of mark (serial_of (next + 1)) ≡ gap_of mark next + 1
next_gap mark next a b near = omega arith

module _ (h : Held) (s : State) (o : IsInOrder s) (a : Agrees h s) where
  abbrev first : List OneUnit
  first = take h.accepted h.units

  abbrev last : Option ℕ
  last = last_number None (numbered None first)

  rows_are : numbered None h.units ≡ numbered None first ++ numbered last s.units
  rows_are = ap (numbered None) (sym (take-append-drop h.accepted h.units)) ∙ (numbered-append None first (drop h.accepted h.units) ∙ ap (λ (us : List OneUnit). numbered None first ++ numbered last us) (sym a.units))

  count : length (numbered None first) ≡ h.accepted
  count = length-numbered None first ∙ length-take-le h.accepted h.units a.known

  floor_is : past_accepted (numbered None h.units) h.accepted ≡ past_number last
  floor_is = ap (λ (rows : List Row). past_accepted rows h.accepted) rows_are ∙ (ap (past_accepted (numbered None first ++ numbered last s.units)) (sym count) ∙ past_is (numbered None first) (numbered last s.units))

  mark_is : s.mark ≡ mark_of (past_number last)
  mark_is = a.mark ∙ ap mark_of floor_is

  rises : Rising s.mark 1 (gap_of s.mark s.next) s.units
  rises = rising s.mark 1 (gap_of s.mark s.next) s.units o.order.gaps o.order.behind o.serials

  -- the number of a unit of the next serial
  next_is : gap_of s.mark s.next ≤ 32767 → number_after (last_number None (numbered None h.units)) s.next + 1 ≡ past_number last + gap_of s.mark s.next
  next_is near =
      ap (λ (rows : List Row). number_after (last_number None rows) s.next + 1) rows_are
      ∙ (ap (λ (l : Option ℕ). number_after l s.next + 1) (last-append None (numbered None first) (numbered last s.units))
      ∙ subst (λ (m : ℕ). number_after (last_number last (numbered last s.units)) s.next + 1 ≡ past_number last + gap_of m s.next) (sym mark_is)
      (next_number last (past_number last) 1 s.next s.units o.next refl (omega arith) (subst (λ (m : ℕ). gap_of m s.next ≤ 32767) mark_is near) (subst (λ (m : ℕ). Rising m 1 (gap_of m s.next) s.units) mark_is rises)))

  form_may : (u : OneUnit) → u.serial ≡ s.next → gap_of s.mark s.next < 32767 → length u.body ≤ 1023 → fixes_of (u.id, u.body) ≢ []
      → IsPrefix (fixes_in (numbered None h.units) ++ fixes_of (u.id, u.body)) h.recorded
      → MayForm (numbered None h.units) h.accepted h.recorded (row_after (last_number None (numbered None h.units)) u)
  form_may u serial near short some next = record {
    above = all_past None h.units number (omega (arith, last_le));
    after_accepted = omega (arith, is, floor_is, low);
    near = omega (arith, is, floor_is, near);
    short = short;
    some = some;
    next = next;
  }
    where
      number : ℕ
      number = number_after (last_number None (numbered None h.units)) u.serial

      is : number + 1 ≡ past_number last + gap_of s.mark s.next
      is = ap (λ (n : ℕ). number_after (last_number None (numbered None h.units)) n + 1) serial ∙ next_is (omega (arith, near))

      low : 1 ≤ gap_of s.mark s.next
      low = gaps_top s.mark 1 (gap_of s.mark s.next) s.units rises

      last_le : past_number (last_number None (numbered None h.units)) ≤ number
      last_le = after (last_number None (numbered None h.units))
        where
          after : (l : Option ℕ) → past_number l ≤ number_after l u.serial
          after None = omega arith
          after (Some n) = omega arith

-- the fixes that wait are those that are in no unit
pub waiting_is : (h : Held) (s : State) → Agrees h s → drop (formed_count h) h.recorded ≡ s.waiting
waiting_is h s a =
    let len = ap (λ (fs : List (List ℕ)). length fs) a.fixes ∙ length-append (fixes_in (numbered None h.units)) s.waiting in
    let all = a.formed in
    let same : formed_count h ≡ length (fixes_in (numbered None h.units)) = omega (arith, len, all) in
    ap (λ (n : ℕ). drop n h.recorded) same ∙ (ap (drop (length (fixes_in (numbered None h.units)))) a.fixes ∙ drop-append_seam (fixes_in (numbered None h.units)) s.waiting)

-- the state behind a unit that was formed and not sent yet
abbrev pub with_unit : State → OneUnit → List (List ℕ) → State
with_unit s u fixes = record s { units = s.units ++ u ∷ []; waiting = drop u.count fixes; next = serial_of (s.next + 1) }

taken_not_nil : {A : Type 0} (n : ℕ) (x : A) (xs : List A) → 1 ≤ n → take n (x ∷ xs) ≢ []
taken_not_nil zero x xs le e = omega (arith, le)
taken_not_nil (suc n) x xs le e = cc

module _ (carries : UnitCarriesFirstFixes) (h : Held) (s : State) (o : IsInOrder s) (a : Agrees h s) (fix : List ℕ) (more : List (List ℕ)) (waits : s.waiting ≡ fix ∷ more) (near : gap_of s.mark s.next < 32767) where
  abbrev u : OneUnit
  u = unit_of s.next fix (fix ∷ more)

  are : All IsFix (fix ∷ more)
  are = subst (All IsFix) waits a.are_fixes

  is_unit : IsUnit u
  is_unit = carries.unit s.next fix more are

  has : fixes_of (u.id, u.body) ≡ take u.count (fix ∷ more)
  has = carries.fixes s.next fix more are

  serial : u.serial ≡ s.next
  serial = unit_serial s.next fix (fix ∷ more)

  abbrev row : Row
  row = row_after (last_number None (numbered None h.units)) u

  units_are : numbered None (h.units ++ u ∷ []) ≡ numbered None h.units ++ row ∷ []
  units_are = numbered-append None h.units (u ∷ [])

  recorded : h.recorded ≡ (fixes_in (numbered None h.units) ++ fixes_of (u.id, u.body)) ++ drop u.count (fix ∷ more)
  recorded = a.fixes ∙ (ap (λ (fs : List (List ℕ)). fixes_in (numbered None h.units) ++ fs) (waits ∙ (sym (take-append-drop u.count (fix ∷ more)) ∙ ap (λ (fs : List (List ℕ)). fs ++ drop u.count (fix ∷ more)) (sym has)))
      ∙ sym (append_assoc (fixes_in (numbered None h.units)) (fixes_of (u.id, u.body)) (drop u.count (fix ∷ more))))

  may : MayForm (numbered None h.units) h.accepted h.recorded row
  may = form_may h s o a u serial near is_unit.short (λ e. taken_not_nil u.count fix more is_unit.some (sym has ∙ e)) (drop u.count (fix ∷ more), sym recorded)

  gap_is : gap_of s.mark (serial_of (s.next + 1)) ≡ gap_of s.mark s.next + 1
  gap_is = next_gap s.mark s.next o.mark o.next near

  unit_gap : gap_of s.mark u.serial ≡ gap_of s.mark s.next
  unit_gap = ap (gap_of s.mark) serial

  next_same : serial_of (u.serial + 1) ≡ serial_of (s.next + 1)
  next_same = ap (λ (n : ℕ). serial_of (n + 1)) serial

  fixes_are : fixes_in (numbered None (h.units ++ u ∷ [])) ≡ fixes_in (numbered None h.units) ++ fixes_of (u.id, u.body)
  fixes_are = ap fixes_in units_are ∙ (fixes_append (numbered None h.units) (row ∷ []) ∙ ap (λ (fs : List (List ℕ)). fixes_in (numbered None h.units) ++ fs) (append-nil (fixes_of (u.id, u.body))))

  order : AreInOrder s.mark (serial_of (s.next + 1)) (s.units ++ u ∷ []) s.code
  order = record {
    gaps = gaps_push s.mark 1 s.units u o.order.gaps (let le = o.order.behind in omega (arith, unit_gap, le)) (omega (arith, unit_gap, near)) is_unit;
    behind = omega (arith, after_push s.mark 1 s.units u, unit_gap, gap_is);
    near = omega (arith, gap_is, near);
    short = o.order.short;
  }

  formed_is : formed_count (held_by (Forms u) h) + length (drop u.count (fix ∷ more)) ≡ length h.recorded
  formed_is =
      let sum = counts_push h.units u in
      let left = length-drop u.count (fix ∷ more) in
      let within = carries.count s.next fix more in
      let all = a.formed in
      let there = ap (λ (fs : List (List ℕ)). length fs) waits in
      omega (arith, sum, left, within, all, there)

  vault_may : vaults.MayCommit h u
  vault_may =
      let all = a.formed in
      let there = ap (λ (fs : List (List ℕ)). length fs) waits in
      let within = carries.count s.next fix more in
      let from = ap (λ (m : ℕ). gap_of m h.next) a.mark_held in
      let to = ap (λ (m : ℕ). gap_of m u.serial) a.mark_held in
      let le = a.next_held in
      record {
        enough = omega (arith, all, there, within);
        fixes = has ∙ ap (take u.count) (sym (waiting_is h s a ∙ waits));
        from = omega (arith, from, to, unit_gap, le);
        near = omega (arith, to, unit_gap, near);
      }

  pub form_steps : AreSteps (machine_of h s) h None (record { state = with_unit s u (fix ∷ more); steps = rule.Changes (Forms u) ∷ []; end = None })
  form_steps = record {
    may = (may, tt);
    to = ap (λ (rows : List Row). record (machine_of h s) { units = rows }) (sym units_are);
    commits = ((is_unit, vault_may), tt);
    sent = λ settings own. refl;
    in_order = record { order = order; serials = serials_push s.units u o.serials (let lt = o.next in omega (arith, serial, lt)); phase = o.phase; mark = o.mark; next = omega arith; sent = let le = o.sent in omega (arith, length-append s.units (u ∷ []), le) };
    agrees = record {
      known = let le = a.known in omega (arith, length-append h.units (u ∷ []), le);
      units = ap (λ (us : List OneUnit). us ++ u ∷ []) a.units ∙ sym (drop-append-le h.accepted h.units (u ∷ []) a.known);
      mark = a.mark ∙ ap mark_of (sym (ap (λ (rows : List Row). past_accepted rows h.accepted) units_are ∙ past_push (numbered None h.units) (row ∷ []) h.accepted (let le = a.known in omega (arith, length-numbered None h.units, le))));
      mark_held = a.mark_held;
      next_small = omega arith;
      next_behind = let same = ap (gap_of s.mark) next_same in omega (arith, after_push s.mark 1 s.units u, unit_gap, gap_is, same);
      next_held = let same = ap (gap_of s.mark) next_same in omega (arith, same);
      fixes = recorded ∙ ap (λ (fs : List (List ℕ)). fs ++ drop u.count (fix ∷ more)) (sym fixes_are);
      formed = formed_is;
      are_fixes = All-drop IsFix u.count (fix ∷ more) are;
      code = a.code;
    };
  }
