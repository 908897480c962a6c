-- The first of the rows of a table that holds.
use Rattle.std.proofs.Common.{◌≡◌, List, [], ◌∷◌, ◌++◌, Option, Some, None, refl, ap, ◌∙◌}
use Rattle.std.specs.List.{AllByRecursion}
use Rattle.jt_value.specs.declared.refusal.Refusal.{Refusal}
use Rattle.jt_header.specs.Law.{IsFirstRow, IsFirstReason}
use Rattle.jt_header.specs.Reason.{first_of}

first_row : (rows : List (Option Refusal)) (r : Refusal) → first_of rows ≡ Some r → IsFirstRow rows r
first_row [] r e = absurd cc
first_row (None ∷ rows) r e =
    let f = first_row rows r e in
    record { before = None ∷ f.before; after = f.after; is_rows = ap (λ rest. None ∷ rest) f.is_rows; none_before = (refl, f.none_before) }
first_row (Some q ∷ rows) r e = record { before = []; after = rows; is_rows = ap (λ row. row ∷ rows) e; none_before = tt }

passed : (before after : List (Option Refusal)) (r : Refusal) → AllByRecursion (λ row. row ≡ None) before → first_of (before ++ (Some r ∷ after)) ≡ Some r
passed [] after r none = refl
passed (None ∷ before) after r none = passed before after r none.1
passed (Some q ∷ before) after r none = absurd (let e = none.0 in cc)

none_of : (rows : List (Option Refusal)) → first_of rows ≡ None → AllByRecursion (λ row. row ≡ None) rows
none_of [] e = tt
none_of (None ∷ rows) e = (refl, none_of rows e)
none_of (Some q ∷ rows) e = absurd cc

all_none : (rows : List (Option Refusal)) → AllByRecursion (λ row. row ≡ None) rows → first_of rows ≡ None
all_none [] none = refl
all_none (None ∷ rows) none = all_none rows none.1
all_none (Some q ∷ rows) none = absurd (let e = none.0 in cc)

pub first_reason : IsFirstReason
first_reason = record {
  first = λ rows r. (first_row rows r, λ f. ap first_of f.is_rows ∙ passed f.before f.after r f.none_before);
  none = λ rows. (none_of rows, all_none rows);
}
