use Rattle.jt_server.proofs.Refusing.{none_served}
use Rattle.jt_server.proofs.threads.refused.Goals as goal

pub returns : goal.returns
returns g c = none_served _ _ c.args.hub c.args.sessions _ _ _ c.new.result c.new.ensures c.requires.history c.requires.sessions
