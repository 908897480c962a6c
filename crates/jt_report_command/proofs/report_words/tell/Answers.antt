use Rattle.std.proofs.Common.{◌≡◌, sym, ap, ◌∙◌, ℕ}
use Rattle.jt_report_command.specs.Values.{terminal_most, octets_in}
use Rattle.jt_report_command.specs.declared.report_words.Plain.{Plain}
use Rattle.jt_report_command.proofs.Phones.{plain_of, plain_from, some_same, same_told}
use Rattle.jt_report_command.proofs.report_words.tell.Goals as goal

pub returns-in_default-clause-that_one : goal.returns-in_default-clause-that_one
returns-in_default-clause-that_one c = λ told t.
    let e = c.plain_values.ensures.each (plain_of told) (plain_from _ told t) in
    let k = c.in_default.is in absurd (cc (e, k))

pub returns-clause-that_one : goal.returns-clause-that_one
returns-clause-that_one c = λ told t.
    let plain : c.in-Some.field-0 ≡ plain_of told = some_same _ _ (sym c.in-Some.is ∙ c.plain_values.ensures.each (plain_of told) (plain_from _ told t)) in
    let host = rw c.in-Some-2.is at c.in_ok-host.ensures in
    let most : c.terminal_most.result ≡ terminal_most told.phone.edition = c.terminal_most.ensures ∙ ap (λ (p : Plain). terminal_most p.phone.edition) plain in
    let text = c.args.written.now.terminal.now in
    same_told _ c.in-Some.field-0 _ _ told (host.1 ∙ t.host.0) plain
    (some_same c.in-Some-3.plate told.plate (sym c.in-Some-3.is ∙ c.in_ok-plate.ensures ∙ t.plate))
    (some_same c.in-Some-4.terminal told.terminal (sym c.in-Some-4.is ∙ c.in_ok-terminal.ensures ∙ ap (λ (n : ℕ). octets_in n text) most ∙ t.terminal))
