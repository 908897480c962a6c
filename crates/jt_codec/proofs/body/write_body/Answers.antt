use Rattle.jt_codec.proofs.BodyLaws.{written}
use Rattle.jt_codec.proofs.body.write_body.Goals as goal

pub returns-clause-reads_back : goal.returns-clause-reads_back
returns-clause-reads_back c = written c.args.edition c.args.message.now c.write_row.result c.requires c.write_row.ensures
