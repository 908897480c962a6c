use Rattle.std.proofs.Common.{rules, option_copied}
use Rattle.jt_report_command.proofs.Phones.{edition_same}
use Rattle.jt_report_command.proofs.report_words.plain_values.Goals as goal

pub returns-clause-some : goal.returns-clause-some
returns-clause-some c =
    let h = edition_same (option_copied c.args.written.now.edition) c.in_ok-edition.field-0 c.args.written.now.phone.now c.in_ok-phone.phone c.in_ok-edition.ensures c.in_ok-phone.ensures in
    record { port = search rules; edition = h.0; phone = h.1; tries = search rules }
