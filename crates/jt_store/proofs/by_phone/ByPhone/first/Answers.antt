use Rattle.std.proofs.Common.{◌≡◌, ◌∙◌, ap, false, sym, subst, IsSome}
use Rattle.std.specs.Cmp.Lexicographic.{slice_cmp}
use Rattle.std.specs.Ordering.{is_gt, nat_cmp}
use Rattle.jt_value.specs.Sameness.{key_of}
use Rattle.jt_store.specs.Memory.{under}
use Rattle.jt_store.proofs.Pairs.{found}
use Rattle.jt_store.proofs.by_phone.ByPhone.first.Goals as goal

pub returns-in-Some-clause-value : goal.returns-in-Some-clause-value
returns-in-Some-clause-value g c =
    ap (λ p. under c.args.self.now (key_of p)) c.phone.ensures ∙ ap (λ pairs. under pairs c.in-Some.digits.now) (sym c.self.view_is)
    ∙ sym (found c.self.inside.values.entries c.in-Some.digits.now) ∙ c.in-Some.ensures.value

pub returns-in-Some-clause-least : goal.returns-in-Some-clause-least
returns-in-Some-clause-least g c = λ q some.
    subst (λ p. is_gt (slice_cmp nat_cmp (key_of p) q) ≡ false) (sym c.phone.ensures)
    (c.in-Some.ensures.least q (subst IsSome (ap (λ pairs. under pairs q) (sym c.self.view_is) ∙ sym (found c.self.inside.values.entries q)) some))
