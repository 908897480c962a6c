use Rattle.std.proofs.Common.{◌≡◌, ◌∙◌, ap, false, sym, subst, IsSome}
use Rattle.std.specs.Cmp.Lexicographic.{slice_cmp}
use Rattle.std.specs.BTreeMap.Range.{IsRangeOf}
use Rattle.std.specs.Ordering.{is_gt, nat_cmp}
use Rattle.std.specs.declared.ops.Bound.TheVariants.{Excluded, Unbounded}
use Rattle.jt_value.specs.Sameness.{key_of}
use Rattle.jt_store.specs.Memory.{under}
use Rattle.jt_store.proofs.Pairs.{found}
use Rattle.jt_store.proofs.by_phone.ByPhone.behind.Goals as goal

pub returns-in-Some-clause-value : goal.returns-in-Some-clause-value
returns-in-Some-clause-value g c =
    let range = subst (IsRangeOf (slice_cmp nat_cmp) (Excluded c.of.result) Unbounded c.self.inside.values) c.in-Some.ensures.steps (c.range.ensures.in_range tt) in
    ap (λ p. under c.args.self.now (key_of p)) c.phone.ensures ∙ ap (λ pairs. under pairs c.in-Some.digits.now) (sym c.self.view_is)
    ∙ sym (found c.self.inside.values.entries c.in-Some.digits.now) ∙ range.1.1

pub returns-in-Some-clause-least : goal.returns-in-Some-clause-least
returns-in-Some-clause-least g c = λ q past some.
    let range = subst (IsRangeOf (slice_cmp nat_cmp) (Excluded c.of.result) Unbounded c.self.inside.values) c.in-Some.ensures.steps (c.range.ensures.in_range tt) in
    subst (λ p. is_gt (slice_cmp nat_cmp (key_of p) q) ≡ false) (sym c.phone.ensures)
    (range.2 q (ap (λ k. slice_cmp nat_cmp k q) c.of.ensures ∙ past, tt) (subst IsSome (ap (λ pairs. under pairs q) (sym c.self.view_is) ∙ sym (found c.self.inside.values.entries q)) some))

pub returns-in-None-clause-none : goal.returns-in-None-clause-none
returns-in-None-clause-none g c = λ q past.
    ap (λ pairs. under pairs q) (sym c.self.view_is) ∙ sym (found c.self.inside.values.entries q)
    ∙ (c.range.ensures.in_range tt).5 c.in-None.ensures.steps.0 q (ap (λ k. slice_cmp nat_cmp k q) c.of.ensures ∙ past, tt)
