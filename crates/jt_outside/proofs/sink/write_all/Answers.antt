use Rattle.jt_outside.proofs.Moved.{all_written}
use Rattle.jt_outside.proofs.sink.write_all.Goals as goal

pub returns-clause-octets : goal.returns-clause-octets
returns-clause-octets g c = all_written (g.K.Sink.written c.args.sink.now) (g.K.Sink.written c.write_front.new.sink) c.write_front.result c.args.octets.now c.write_front.ensures.octets
