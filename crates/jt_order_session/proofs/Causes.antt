-- Why a book that was told twice failed.
use Rattle.std.proofs.Common.{◌≡◌, ℕ, Bool, false, Result, Ok, Err, IsOk, refl, sym, ◌∙◌, arith}
use Rattle.std.specs.Prelude.{◌≢◌, is_ok, IsErrOf}
use Rattle.std.proofs.lemmas.Bool.{false≢true}
use Rattle.jt_store.specs.declared.error.StoreError.{StoreError}
use Rattle.jt_store.specs.declared.error.StoreError.TheVariants.{Failed, Full}
use Rattle.jt_store.specs.Tables.{HasCause, IsSteady}
use Rattle.jt_order_session.specs.Sessions.{both_told}

abbrev Told : Type 0
Told = Result (Unit {0}) StoreError

abbrev no_error : Told
no_error = Ok tt

never_failed : (told : Told) → IsOk told → IsErrOf told Failed → ⊥
never_failed (Ok x) ok failed = cc
never_failed (Err error) ok failed = absurd (false≢true ok)

pub cause_none : (faults : ℕ) → HasCause {T = Unit {0}} faults faults (Ok tt)
cause_none faults = record { later = omega arith; failed = λ e. absurd (never_failed (Ok tt) refl e); still = λ other. refl }

pub cause_both : (a b c : ℕ) (told heard : Told) → HasCause a b told → HasCause b c heard → (is_ok told ≡ false → IsOk heard) → HasCause a c (both_told told heard)
cause_both a b c (Ok x) heard first second quiet = record {
  later = omega (arith, first.later, second.later);
  failed = λ e. let rose = second.failed e in omega (arith, rose, first.later);
  still = λ other. second.still other ∙ first.still (never_failed (Ok x) refl);
}
cause_both a b c (Err error) heard first second quiet = record {
  later = omega (arith, first.later, second.later);
  failed = λ e. let rose = first.failed e in omega (arith, rose, second.later);
  still = λ other. second.still (never_failed heard (quiet refl)) ∙ first.still other;
}

pub steady_none : (may : Bool) → IsSteady may may no_error
steady_none may never = (never, never_failed no_error refl)

pub steady_both : (may may_mid may_now : Bool) (told heard : Told) → IsSteady may may_mid told → IsSteady may_mid may_now heard → IsSteady may may_now (both_told told heard)
steady_both may may_mid may_now (Ok x) heard first second never = second (first never).0
steady_both may may_mid may_now (Err error) heard first second never = ((second (first never).0).0, (first never).1)

pub full_both : (told heard : Told) → ((limit : ℕ) → told ≢ Err (Full limit)) → ((limit : ℕ) → heard ≢ Err (Full limit)) → (limit : ℕ) → both_told told heard ≢ Err (Full limit)
full_both (Ok x) heard first second limit = second limit
full_both (Err error) heard first second limit = first limit

pub full_none : (limit : ℕ) → no_error ≢ Err (Full limit)
full_none limit e = cc

pub cause_then : (a b c : ℕ) (told heard : Told) → told ≡ no_error → HasCause a b told → HasCause b c heard → HasCause a c heard
cause_then a b c (Ok x) heard is first second = cause_both a b c (Ok x) heard first second (λ e. absurd (false≢true (sym e)))
cause_then a b c (Err error) heard is first second = absurd cc

pub steady_then : (may may_mid may_now : Bool) (told heard : Told) → told ≡ no_error → IsSteady may may_mid told → IsSteady may_mid may_now heard → IsSteady may may_now heard
steady_then may may_mid may_now told heard is first second never = second (first never).0
