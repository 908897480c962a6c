use Rattle.std.proofs.Common.{sym, ◌∙◌}
use Rattle.jt_view.proofs.HexDigits.{first_waits, first_octets, second_waits, second_octets}
use Rattle.jt_view.proofs.hex_reader.HexReader.take.Goals as goal

pub returns-in-None-clause-waits : goal.returns-in-None-clause-waits
returns-in-None-clause-waits c = first_waits c.args.self.now c.args.digit (sym c.self.view_is ∙ sym c.take.ensures.value ∙ c.in-None.is)

pub returns-in-None-clause-octets : goal.returns-in-None-clause-octets
returns-in-None-clause-octets c = first_octets c.args.self.now c.args.digit c.args.octets.now.items (sym c.self.view_is ∙ sym c.take.ensures.value ∙ c.in-None.is)

pub returns-in_ok-push-in-Some-clause-waits : goal.returns-in_ok-push-in-Some-clause-waits
returns-in_ok-push-in-Some-clause-waits c = second_waits c.args.self.now c.take.new.self c.in-Some.high c.args.digit (sym c.self.view_is ∙ sym c.take.ensures.value ∙ c.in-Some.is) c.take.ensures.after

pub returns-in_ok-push-in-Some-clause-octets : goal.returns-in_ok-push-in-Some-clause-octets
returns-in_ok-push-in-Some-clause-octets c =
    c.in_ok-push-in-Some.ensures.items ∙ second_octets c.args.self.now c.octet_of.result c.in-Some.high c.args.digit c.args.octets.now.items (sym c.self.view_is ∙ sym c.take.ensures.value ∙ c.in-Some.is) c.octet_of.ensures
