use Rattle.std.proofs.Common.{◌≡◌, ◌-◌, Option, Some, length, take, drop, sym, subst, ◌∙◌, arith}
use Rattle.std.proofs.lemmas.Grind.{common_steps}
use Rattle.jt_view.proofs.EntriesTold.{checking_none, checking_more, checking_done, checking_last, only_entry}
use Rattle.jt_view.specs.Reporting.{Brings}
use Rattle.jt_view.specs.Entry.{Entry, Refused}
use Rattle.jt_view.proofs.telling.check.Goals as goal

pub loop-at-init : goal.loop-at-init
loop-at-init c = checking_none _ _ _

pub loop-at-preserved : goal.loop-at-preserved
loop-at-preserved c =
    let octets = c.args.octets.now in
    let at = c.loop-at.at in
    let rest : take (length octets - at) (drop at octets) ≡ drop at octets = grind (arith, common_steps) in
    let checks = rw rest at c.in_ok-count.ensures.checks in
    checking_more _ _ _ _ _ _ _ _ _ c.loop-at.invariant (rw rest at c.in_ok-count.ensures.some.1) c.in_ok-count.ensures.place checks.brings (sym checks.refusal_is ∙ c.in-None.is)

pub returns-in-Some-clause-tells : goal.returns-in-Some-clause-tells
returns-in-Some-clause-tells c =
    let octets = c.args.octets.now in
    let at = c.loop-at.at in
    let rest : take (length octets - at) (drop at octets) ≡ drop at octets = grind (arith, common_steps) in
    let checks = rw rest at c.in_ok-count.ensures.checks in
    let refusal = c.in-Some.refusal in
    let only : checks.entry ≡ Some (Refused refusal) = only_entry checks.entry refusal (sym c.in-Some.is ∙ checks.refusal_is) in
    let brings = subst (λ (entry : Option Entry). Brings c.loop-at.tally c.judge.new.self (take c.in_ok-count.count (drop at octets)) entry) only checks.brings in
    checking_last c.law_all_items.ensures.front _ _ _ octets at c.in_ok-count.count _ _ _ refusal c.loop-at.invariant brings c.in_ok-push_refusal_line-in-Some.ensures.text

pub returns-clause-tells : goal.returns-clause-tells
returns-clause-tells c = checking_done _ _ _ _ _ _ c.loop-at.invariant (omega arith)
