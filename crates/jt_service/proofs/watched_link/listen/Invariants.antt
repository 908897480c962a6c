use Rattle.std.proofs.Common.{◌≡◌}
use Rattle.jt_outside.specs.Link.{GivesNone}
use Rattle.jt_service.proofs.watched_link.listen.Given as goal

abbrev pub invariant-loop : goal.invariant-loop
invariant-loop g l = GivesNone (g.K.Sink.inbound l.fn.link) (g.K.Sink.inbound l.link) × (g.K.Sink.written l.link ≡ g.K.Sink.written l.fn.link)
