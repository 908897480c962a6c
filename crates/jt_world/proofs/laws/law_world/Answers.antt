use Rattle.jt_world.proofs.laws.law_world.Goals as goal

pub returns-clause-whole : goal.returns-clause-whole
returns-clause-whole c = λ w reached. record {
  reached = reached;
  kept = c.law_world.ensures.kept w reached;
  hears = c.law_world.ensures.hears w reached;
}
