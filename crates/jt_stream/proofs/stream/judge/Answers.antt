use Rattle.jt_stream.proofs.Messages.{message_stands, ok_is}
use Rattle.jt_stream.proofs.stream.judge.Goals as goal

pub returns-in-Ok-clause-message : goal.returns-in-Ok-clause-message
returns-in-Ok-clause-message c = λ message made.
    message_stands c.in-Ok.header c.in-Ok.body.now c.content-content.result.now c.args.splitter.now.content message c.content-content.ensures.octets
    c.in-Ok.ensures.content c.in-Ok.ensures.fields (ok_is _ message made)
