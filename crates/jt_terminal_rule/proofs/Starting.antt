-- A fix is recorded, and a terminal starts again.
use Rattle.std.proofs.Common.{ℕ, ◌≡◌, ◌≤◌, ◌+◌, List, [], ◌∷◌, ◌++◌, length, None, refl, ap, sym, ◌∙◌, subst, arith}
use Rattle.std.specs.Prelude.{All}
use Rattle.std.proofs.lemmas.List.{length-append, append_assoc}
use Rattle.std.proofs.lemmas.List.Elements.{All-nil, All-push}
use Rattle.jt_value.specs.Serials.{gap_of}
use Rattle.jt_position.specs.Fixes.{IsFix}
use Rattle.jt_store.specs.declared.unit.Unit.{Unit as OneUnit}
use Rattle.jt_store.specs.Vaults.{gap_after}
use Rattle.jt_store.specs.Verdicts.{numbered}
use Rattle.jt_store.specs.Units.{fixes_in}
use Rattle.jt_terminal_rule.specs.Rule.{start_state}
use Rattle.jt_terminal_rule.specs.Machines.{machine_of, AreSerials}
use Rattle.jt_terminal_rule.proofs.Forming.{waiting_is}
use Rattle.jt_terminal_rule.specs.Law.{FirstStartIsInOrder, NotedFixIsAStep, StartIsARestart}

pub noted_is_a_step : NotedFixIsAStep
noted_is_a_step h s fix is o a = record {
  may = (is, tt);
  to = refl;
  commits = (is, tt);
  sent = λ settings own. refl;
  in_order = record { order = o.order; serials = o.serials; phase = o.phase; mark = o.mark; next = o.next; sent = o.sent };
  agrees = record {
    known = a.known;
    units = a.units;
    mark = a.mark;
    mark_held = a.mark_held;
    next_small = a.next_small;
    next_behind = a.next_behind;
    next_held = a.next_held;
    fixes = ap (λ (fs : List (List ℕ)). fs ++ fix ∷ []) a.fixes ∙ append_assoc (fixes_in (numbered None h.units)) s.waiting (fix ∷ []);
    formed = let all = a.formed in omega (arith, length-append s.waiting (fix ∷ []), length-append h.recorded (fix ∷ []), all);
    are_fixes = All-push IsFix s.waiting fix a.are_fixes is;
    code = a.code;
  };
}

no_more : (n : ℕ) → n ≡ n + 0
no_more n = omega arith

pub start_is_a_restart : StartIsARestart
start_is_a_restart h s settings l o a is order phone own =
    let units : l.units ≡ s.units = is.units ∙ sym a.units in
    let mark : l.mark ≡ s.mark = is.mark ∙ a.mark_held in
    let fixes : l.fixes ≡ s.waiting = is.fixes ∙ waiting_is h s a in
    let small = o.mark in
    let next = a.next_small in
    let next_is = is.next in
    let behind = a.next_behind in
    record {
      in_order = record { order = order; serials = subst AreSerials (sym units) o.serials; phase = tt; mark = omega (arith, mark, small); next = omega (arith, next_is, next); sent = omega arith };
      agrees = record {
        known = a.known;
        units = is.units;
        mark = mark ∙ a.mark;
        mark_held = sym is.mark;
        next_small = next;
        next_behind = subst (λ (us : List OneUnit). gap_after l.mark 1 us ≤ gap_of l.mark h.next) (sym units) (subst (λ (m : ℕ). gap_after m 1 s.units ≤ gap_of m h.next) (sym mark) behind);
        next_held = let same = ap (gap_of l.mark) next_is in omega (arith, same);
        fixes = a.fixes ∙ ap (λ (fs : List (List ℕ)). fixes_in (numbered None h.units) ++ fs) (sym fixes);
        formed = let all = a.formed in let len = ap (λ (fs : List (List ℕ)). length fs) fixes in omega (arith, all, len);
        are_fixes = subst (All IsFix) (sym fixes) a.are_fixes;
        code = sym is.code;
      };
      may = (phone, own);
      to = ap (λ (n : ℕ). record (machine_of h (start_state settings l)) { reach = n }) (no_more h.accepted);
    }

pub first_start : FirstStartIsInOrder
first_start settings = (
  record {
    order = record { gaps = tt; behind = omega arith; near = omega arith; short = tt };
    serials = tt;
    phase = tt;
    mark = omega arith;
    next = omega arith;
    sent = omega arith;
  },
  record {
    known = omega arith;
    units = refl;
    mark = refl;
    mark_held = refl;
    next_small = omega arith;
    next_behind = omega arith;
    next_held = omega arith;
    fixes = refl;
    formed = refl;
    are_fixes = All-nil IsFix;
    code = refl;
  },
)
