use Rattle.jt_gateway.proofs.Acting.{first_of}
use Rattle.jt_gateway.proofs.gateway.first_world.Goals as goal

pub returns-clause-is : goal.returns-clause-is
returns-clause-is c = first_of c.new.result c.new.ensures.new c.new.ensures.identity c.new.ensures.edition
