-- Which unit's acceptance a terminal is told.
use Rattle.std.proofs.Common.{ℕ, zero, suc, ◌≡◌, ◌+◌, ◌-◌, List, [], ◌∷◌, drop, slice_get, Option, Some, None, Bool, true, false, cond, refl, ap, sym, ◌∙◌, subst, arith}
use Rattle.std.specs.Prelude.{◌==◌, ◌&&◌}
use Rattle.std.specs.Option.{option_map}
use Rattle.jt_store.specs.declared.row.Row.{Row}
use Rattle.jt_store.specs.declared.unit.Unit.{Unit as OneUnit}
use Rattle.jt_store.specs.Verdicts.{number_after, numbered}
use Rattle.jt_terminal_rule.specs.declared.state.Acknowledgement.{Acknowledgement}
use Rattle.jt_terminal_rule.specs.Messages.{is_acceptance}
use Rattle.jt_terminal_rule.specs.Steps.{is_named, named_from}
use Rattle.jt_terminal_rule.specs.Rule.{names, first_named}
use Rattle.jt_terminal_rule.specs.Machines.{AreSerials}
use Rattle.jt_terminal_rule.specs.Law.{RuleTellsTheUnit}
use Rattle.jt_terminal_rule.proofs.Accepting.{row_in, serial_back}

none_named : (ack : Acknowledgement) (n : ℕ) → first_named ack n [] ≡ None
none_named ack zero = refl
none_named ack (suc n) = refl

past_end : (last : Option ℕ) (units : List OneUnit) (place : ℕ) → drop place units ≡ [] → (slice_get (numbered last units) place ≡ None) × (drop (suc place) units ≡ [])
past_end last [] zero e = (refl, refl)
past_end last [] (suc place) e = (refl, refl)
past_end last (v ∷ units) zero e = absurd cc
past_end last (v ∷ units) (suc place) e = past_end (Some (number_after last v.serial)) units place e

beyond : (ack : Acknowledgement) (units : List OneUnit) (n place : ℕ) → drop place units ≡ [] → named_from (numbered None units) ack place n ≡ None
beyond ack units zero place e = refl
beyond ack units (suc n) place e =
    let p = past_end None units place e in
    let next : suc place ≡ place + 1 = omega arith in
    ap (λ (row : Option Row). cond (is_named ack row) (Some place) (named_from (numbered None units) ack (place + 1) n)) p.0
    ∙ beyond ack units n (place + 1) (subst (λ (k : ℕ). drop k units ≡ []) next p.1)

further : (place : ℕ) (found : Option ℕ) → option_map (λ older. place + older) (option_map suc found) ≡ option_map (λ older. (place + 1) + older) found
further place None = refl
further place (Some k) = ap (λ (n : ℕ). Some n) (omega arith)

found_at : (ack : Acknowledgement) (units : List OneUnit) (n place : ℕ) (left : List OneUnit) → drop place units ≡ left → AreSerials left
    → option_map (λ older. place + older) (first_named ack n left) ≡ named_from (numbered None units) ack place n
found_at ack units zero place left e small = refl
found_at ack units (suc n) place [] e small = sym (beyond ack units (suc n) place e)
found_at ack units (suc n) place (u ∷ more) e small =
    let r = row_in None units place u more e in
    let next : suc place ≡ place + 1 = omega arith in
    let rest = found_at ack units n (place + 1) more (subst (λ (k : ℕ). drop k units ≡ more) next (sym r.2)) small.1 in
    let serial = ap (λ (k : ℕ). (ack.reply == k) && (ack.id == u.id)) (serial_back r.0 u.serial small.0) in
    by_test (names ack u) rest ∙ (ap (λ (b : Bool). cond b (Some place) (named_from (numbered None units) ack (place + 1) n)) (sym serial)
    ∙ ap (λ (row : Option Row). cond (is_named ack row) (Some place) (named_from (numbered None units) ack (place + 1) n)) (sym r.1))
  where
    by_test : (b : Bool) → option_map (λ older. (place + 1) + older) (first_named ack n more) ≡ named_from (numbered None units) ack (place + 1) n
        → option_map (λ older. place + older) (cond b (Some 0) (option_map suc (first_named ack n more))) ≡ cond b (Some place) (named_from (numbered None units) ack (place + 1) n)
    by_test true rest = ap (λ (k : ℕ). Some k) (omega arith)
    by_test false rest = further place (first_named ack n more) ∙ rest

pub rule_tells : RuleTellsTheUnit
rule_tells h s None o a = refl
rule_tells h s (Some ack) o a = by_test (is_acceptance ack)
  where
    reach : (h.accepted + s.sent) - h.accepted ≡ s.sent
    reach = omega arith

    by_test : (b : Bool) → option_map (λ older. h.accepted + older) (cond b (first_named ack s.sent s.units) None) ≡ cond b (named_from (numbered None h.units) ack h.accepted ((h.accepted + s.sent) - h.accepted)) None
    by_test false = refl
    by_test true = found_at ack h.units s.sent h.accepted s.units (sym a.units) o.serials ∙ ap (named_from (numbered None h.units) ack h.accepted) (sym reach)
