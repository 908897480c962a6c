use Rattle.std.proofs.Common.{◌<◌, length, map, string_bytes, arith, refl, ◌≡◌, true, ℕ, List, Option, Bor, drop, sym, subst, option_to_list, option_copied}
use Rattle.std.specs.Str.{bytes_eq}
use Rattle.jt_report_command.specs.Finding.{HasTooMany}
use Rattle.std.proofs.lemmas.List.{length-map}
use Rattle.jt_report_command.proofs.Passing.{many_of_none, two_values, equal_at}
use Rattle.jt_report_command.proofs.options.step.Goals as goal

pub returns-in_err-first-clause-none : goal.returns-in_err-first-clause-none
returns-in_err-first-clause-none c = λ e.
    let some : 0 < length (map string_bytes c.args.words.now) = omega (arith, c.requires, length-map c.args.words.now string_bytes) in
    many_of_none c.args.name.now _ _ some (c.in_err-first.ensures.none refl)

pub returns-in-Some-clause-none : goal.returns-in-Some-clause-none
returns-in-Some-clause-none c = λ e.
    let name = c.args.name.now in
    let words = map string_bytes c.args.words.now in
    let first = c.in_ok-first.first in
    let equal : bytes_eq first.name.now name ≡ true = equal_at (bytes_eq first.name.now name) c.if-ne.ensures in
    subst (λ (found : Option (Bor (List ℕ))). HasTooMany name words (option_to_list (option_copied found))) (sym c.in-Some.is)
    (two_values name (first.name.now, first.value.now) words (map string_bytes (drop first.count c.args.words.now)) c.in-Some.field-0.now
    c.in_ok-first.ensures.some.2 equal)
