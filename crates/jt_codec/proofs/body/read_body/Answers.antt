use Rattle.jt_codec.proofs.BodyLaws.{given_fits, given_octets, given_id, given_inside, message_given, refusal_given}
use Rattle.jt_codec.proofs.body.read_body.Goals as goal

pub returns-clause-every_body : goal.returns-clause-every_body
returns-clause-every_body c = λ message h. message_given c.args.edition c.args.id c.args.octets.now message c.read_row.result c.read_row.ensures h

pub returns-clause-every_refusal : goal.returns-clause-every_refusal
returns-clause-every_refusal c = λ refusal h. refusal_given c.args.edition c.args.id c.args.octets.now refusal c.read_row.result c.read_row.ensures h

pub returns-clause-fits : goal.returns-clause-fits
returns-clause-fits c = given_fits c.args.edition c.args.id c.args.octets.now c.read_row.result c.read_row.ensures

pub returns-clause-writes_back : goal.returns-clause-writes_back
returns-clause-writes_back c = given_octets c.args.edition c.args.id c.args.octets.now c.read_row.result c.read_row.ensures

pub returns-clause-id : goal.returns-clause-id
returns-clause-id c = given_id c.args.edition c.args.id c.args.octets.now c.read_row.result c.read_row.ensures

pub returns-clause-inside : goal.returns-clause-inside
returns-clause-inside c = given_inside c.args.edition c.args.id c.args.octets.now c.read_row.result c.read_row.ensures
