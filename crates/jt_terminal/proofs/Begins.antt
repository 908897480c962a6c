-- A terminal that starts over what a vault loads is sound.
use Rattle.std.proofs.Common.{ℕ, zero, suc, ◌≡◌, ◌<◌, ◌≤◌, ◌-◌, ◌^◌, min, List, [], ◌∷◌, ◌++◌, length, take, drop, slice_get, Option, Some, None, refl, ap, sym, ◌∙◌, arith}
use Rattle.std.specs.Prelude.{All}
use Rattle.std.proofs.lemmas.List.{length-drop, take-append-drop}
use Rattle.jt_value.specs.Serials.{gap_of}
use Rattle.jt_params.specs.Tables.{HasOctets}
use Rattle.jt_position.specs.Fixes.{IsFix, fixes_of}
use Rattle.jt_store.specs.declared.row.Row.{Row}
use Rattle.jt_store.specs.declared.unit.Unit.{Unit as OneUnit}
use Rattle.jt_store.specs.declared.unit.Loaded.{Loaded}
use Rattle.jt_store.specs.Tables.{WhereKnown}
use Rattle.jt_store.specs.Verdicts.{number_after, numbered}
use Rattle.jt_store.specs.Vaults.{Held, AreInOrder, IsLoaded, IsWhole, fixes_in_units, formed_count, last_serial, accepted_count}
use Rattle.jt_terminal_rule.specs.declared.settings.Settings.{Settings}
use Rattle.jt_terminal_rule.specs.Messages.{AreSettings}
use Rattle.jt_store.specs.Units.{fixes_in, past, past_accepted}
use Rattle.jt_terminal_rule.specs.Rule.{start_state}
use Rattle.jt_terminal_rule.specs.Machines.{Agrees, AreSerials, mark_of}
use Rattle.jt_terminal_steps.specs.Running.{CountsAsVault, IsSound}
use Rattle.jt_terminal_rule.proofs.Accepting.{row_in, serial_is}
use Rattle.jt_terminal_rule.proofs.Filling.{none_is_end}
use Rattle.jt_terminal_rule.proofs.Measuring.{drop_from, take_upto}

-- ---- the mark

last_push : (mark : ℕ) (units : List OneUnit) (u : OneUnit) → last_serial mark (units ++ u ∷ []) ≡ u.serial
last_push mark [] u = refl
last_push mark (x ∷ units) u = last_push x.serial units u

-- the mark is the serial of the last accepted unit, by its number too
mark_at : (units : List OneUnit) (n : ℕ) → n ≤ length units → last_serial 65535 (take n units) < 65536 → last_serial 65535 (take n units) ≡ mark_of (past_accepted (numbered None units) n)
mark_at units zero le small = refl
mark_at units (suc last) le small = by (slice_get units last) refl
  where
    by : (unit : Option OneUnit) → slice_get units last ≡ unit → last_serial 65535 (take (suc last) units) ≡ mark_of (past (slice_get (numbered None units) last))
    by None e = let end = none_is_end units last e in absurd (omega (arith, end, le))
    by (Some u) e =
        let r = row_in None units last u (drop (suc last) units) (drop_from units last u e) in
        let is = ap (last_serial 65535) (take_upto units last u e) ∙ last_push 65535 (take last units) u in
        let lt : u.serial < 65536 = omega (arith, is, small) in
        is ∙ (sym (serial_is r.0 u.serial lt) ∙ ap (λ (row : Option Row). mark_of (past row)) (sym r.1))

-- ---- the fixes

fixes_are : (last : Option ℕ) (units : List OneUnit) → fixes_in (numbered last units) ≡ fixes_in_units units
fixes_are last [] = refl
fixes_are last (u ∷ units) = ap (λ (fs : List (List ℕ)). fixes_of (u.id, u.body) ++ fs) (fixes_are (Some (number_after last u.serial)) units)

short_count : (n m : ℕ) → n ≡ m → n < 2 ^ 64 → n ≡ min m (2 ^ 64 - 1)
short_count n m e lt = grind arith

-- what was loaded agrees with what is held
agrees_started : (h : Held) (settings : Settings) (l : Loaded) → IsWhole h → IsLoaded h l → AreInOrder l.mark l.next l.units l.code → l.mark < 65536 → l.next < 65536 → All IsFix l.fixes → Agrees h (start_state settings l)
agrees_started h settings l w is order mark next are =
    let next_is = is.next in
    let mark_is = is.mark in
    let behind = order.behind in
    let enough = w.enough in
    let small : last_serial 65535 (take h.accepted h.units) < 65536 = let whole = w.mark in omega (arith, whole, mark_is, mark) in
    let gaps : gap_of l.mark l.next ≡ gap_of l.mark h.next = ap (gap_of l.mark) next_is in
    record {
      known = w.known;
      units = is.units;
      mark = is.mark ∙ (w.mark ∙ mark_at h.units h.accepted w.known small);
      mark_held = sym is.mark;
      next_small = omega (arith, next_is, next);
      next_behind = omega (arith, behind, gaps);
      next_held = omega (arith, gaps);
      fixes = sym (take-append-drop (formed_count h) h.recorded) ∙ (ap (λ (fs : List (List ℕ)). fs ++ drop (formed_count h) h.recorded) (sym (fixes_are None h.units ∙ w.fixes)) ∙ ap (λ (fs : List (List ℕ)). fixes_in (numbered None h.units) ++ fs) (sym is.fixes));
      formed = let len = ap (λ (fs : List (List ℕ)). length fs) is.fixes ∙ length-drop (formed_count h) h.recorded in omega (arith, len, enough);
      are_fixes = are;
      code = sym is.code;
    }

pub sound_started : (held : Option Held) (settings : Settings) (l : Loaded) → AreSettings settings → WhereKnown held IsWhole → WhereKnown held (λ h. IsLoaded h l) → AreInOrder l.mark l.next l.units l.code → AreSerials l.units → All IsFix l.fixes
    → l.mark < 65536 → l.next < 65536 → l.recorded < 2 ^ 64 → l.accepted < 2 ^ 64 → HasOctets (start_state settings l).params → IsSound held (start_state settings l)
sound_started held settings l good whole is order serials are mark next recorded accepted octets = record {
  good = good;
  order = record { order = order; serials = serials; phase = tt; mark = mark; next = next; sent = omega arith };
  fixes = are;
  params = octets;
  agrees = by held whole is;
}
  where
    by : (told : Option Held) → WhereKnown told IsWhole → WhereKnown told (λ h. IsLoaded h l) → WhereKnown told (λ h. Agrees h (start_state settings l) × CountsAsVault h (start_state settings l))
    by None w i = tt
    by (Some h) w i = (agrees_started h settings l w i order mark next are, record { recorded = short_count l.recorded (length h.recorded) i.recorded recorded; accepted = short_count l.accepted (accepted_count h) i.accepted accepted })
