use Rattle.jt_input.proofs.Opened.{reads_opened, prints_opened, stops_opened}
use Rattle.jt_view.proofs.PiecesTaken.{begins, whole_alone, is_open}
use Rattle.jt_view.proofs.running.report.Goals as goal

pub returns-clause-runs : goal.returns-clause-runs
returns-clause-runs g c =
    let new = c.new-reporter in
    (c.run_teller.ensures.runs (record { command = c.args.command; most = c.args.most }) (begins _ _ _ new.ensures.stands new.ensures.command new.ensures.most)).runs

pub returns-clause-whole : goal.returns-clause-whole
returns-clause-whole g c =
    let new = c.new-reporter in
    whole_alone _ _ _ _ _
    (c.run_teller.ensures.whole (record { command = c.args.command; most = c.args.most }) (begins _ _ _ new.ensures.stands new.ensures.command new.ensures.most))

pub returns-clause-no_further : goal.returns-clause-no_further
returns-clause-no_further g c =
    let new = c.new-reporter in
    reads_opened _ _ (is_open (record { command = c.args.command; most = c.args.most })) _ _ _
    (c.run_teller.ensures.no_further (record { command = c.args.command; most = c.args.most }) (begins _ _ _ new.ensures.stands new.ensures.command new.ensures.most))

pub returns-clause-prints_taken : goal.returns-clause-prints_taken
returns-clause-prints_taken g c = λ fault.
    let new = c.new-reporter in
    prints_opened _ _ (is_open (record { command = c.args.command; most = c.args.most })) _ _ _ _
    (c.run_teller.ensures.prints_taken (record { command = c.args.command; most = c.args.most }) (begins _ _ _ new.ensures.stands new.ensures.command new.ensures.most) fault)

pub returns-clause-stops_at_write : goal.returns-clause-stops_at_write
returns-clause-stops_at_write g c = λ fault.
    let new = c.new-reporter in
    stops_opened _ _ (is_open (record { command = c.args.command; most = c.args.most })) _ _ _ _ _ _
    (c.run_teller.ensures.stops_at_write (record { command = c.args.command; most = c.args.most }) (begins _ _ _ new.ensures.stands new.ensures.command new.ensures.most) fault)
