use Rattle.jt_terminal.proofs.terminal.Terminal.event.Goals as goal

pub returns-clause-told : goal.returns-clause-told
returns-clause-told g c = rw (← c.self.view_is) c.act.ensures.told

pub returns-clause-late : goal.returns-clause-late
returns-clause-late g c = rw (← c.self.view_is) c.act.ensures.late
