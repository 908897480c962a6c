use Rattle.jt_text.proofs.Lines.{utf8_taken}
use Rattle.jt_text.proofs.line.Line.push_to.Goals as goal

pub push_text-requires : goal.push_text-requires
push_text-requires c = utf8_taken c.self.inside.start c.self.inside.octets c.self.told c.self.invariant.1
