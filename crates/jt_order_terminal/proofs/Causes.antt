-- Why calls behind calls failed.
use Rattle.std.proofs.Common.{ℕ, ◌≡◌, ◌≤◌, Bool, false, Result, Ok, Err, refl, sym, ap, ◌∙◌, subst}
use Rattle.std.specs.Prelude.{IsErrAnd, IsErrOf}
use Rattle.std.proofs.lemmas.Result.{IfErr-at_err}
use Rattle.jt_value.specs.Counts.{Rose}
use Rattle.jt_order_terminal.specs.declared.fault.OrderFault.{OrderFault}
use Rattle.jt_order_terminal.specs.Terminals.{HasFaultCause}
use Rattle.jt_order_terminal.specs.Feeding.{IsSteadySoFar}

pub steady_at_first : (count : ℕ) (may : Bool) → IsSteadySoFar count count may may
steady_at_first count may = record { still = refl; steady = λ e. e }

pub steady_on : {T : Type 0} (kind : OrderFault) (count mid now : ℕ) (may may_mid may_now : Bool) (r : Result T OrderFault) → IsSteadySoFar count mid may may_mid → HasFaultCause kind mid now may_mid may_now r → ¬ IsErrOf r kind
    → IsSteadySoFar count now may may_now
steady_on kind count mid now may may_mid may_now r so_far cause goes = record { still = cause.still goes ∙ so_far.still; steady = λ e. (cause.steady (so_far.steady e)).0 }

-- it failed so where the other did
same_err : {T U : Type 0} (cause other kind : OrderFault) → other ≡ cause → IsErrOf {T = T} (Err cause) kind → IsErrOf {T = U} (Err other) kind
same_err cause other kind same is = ap Err (same ∙ sym (IfErr-at_err (λ e. e ≡ cause) is refl))

-- a call behind others that did not fail, failed for this cause
pub failed_on : {T U : Type 0} (kind : OrderFault) (count mid now : ℕ) (may may_mid may_now : Bool) (cause : OrderFault) (r : Result U OrderFault) → IsErrAnd r (λ e. e ≡ cause) → IsSteadySoFar count mid may may_mid
    → HasFaultCause {T = T} kind mid now may_mid may_now (Err cause) → HasFaultCause kind count now may may_now r
failed_on kind count mid now may may_mid may_now cause (Ok x) is so_far has = absurd is
failed_on {T} {U} kind count mid now may may_mid may_now cause (Err other) is so_far has = record {
  later = subst (λ (n : ℕ). n ≤ now) so_far.still has.later;
  failed = λ failed. subst (λ (n : ℕ). Rose n now) so_far.still (has.failed (same_err {T = U} {U = T} other cause kind (sym is) failed));
  still = λ none. has.still (λ failed. none (same_err {T = T} {U = U} cause other kind is failed)) ∙ so_far.still;
  steady = λ none. let steady = has.steady (so_far.steady none) in (steady.0, λ failed. steady.1 (same_err {T = U} {U = T} other cause kind (sym is) failed));
}

-- it failed so, and then the line was lost, at which nothing fails
pub lost_on : {T U : Type 0} (kind : OrderFault) (count mid now : ℕ) (may may_mid may_now : Bool) (cause : OrderFault) → HasFaultCause {T = T} kind count mid may may_mid (Err cause) → now ≡ mid → (may_mid ≡ false → may_now ≡ false)
    → HasFaultCause {T = U} kind count now may may_now (Err cause)
lost_on {T} {U} kind count mid now may may_mid may_now cause has same steady = record {
  later = subst (λ (n : ℕ). count ≤ n) (sym same) has.later;
  failed = λ failed. subst (λ (n : ℕ). Rose count n) (sym same) (has.failed (same_err {T = U} {U = T} cause cause kind refl failed));
  still = λ none. same ∙ has.still (λ failed. none (same_err {T = T} {U = U} cause cause kind refl failed));
  steady = λ none. (steady (has.steady none).0, λ failed. (has.steady none).1 (same_err {T = U} {U = T} cause cause kind refl failed));
}
