use Rattle.std.proofs.Common.{◌-◌, arith}
use Rattle.std.proofs.lemmas.Result.{IfOk-weaker}
use Rattle.jt_view.proofs.PiecesTaken.{settled_early, settled_too_long, taken_whole}
use Rattle.jt_view.proofs.reporter.ReporterTeller.take.Goals as goal

pub returns-then-piece-room-clause-takes : goal.returns-then-piece-room-clause-takes
returns-then-piece-room-clause-takes c =
    IfOk-weaker c.take_piece.result _ _
    (λ settled takes. taken_whole c.law_all_items.ensures.front c.law_octets_of_front.ensures settled c.args.self.now c.take_piece.new.self _ _ _ c.take_piece.ensures.command c.take_piece.ensures.most
    (let can = c.requires.can in omega (arith, c.if-piece-room.true)) takes)
    c.take_piece.ensures.takes

pub returns-in-Some-clause-takes : goal.returns-in-Some-clause-takes
returns-in-Some-clause-takes c =
    let takes = rw c.in-Some.is at c.in_ok-status.ensures.takes in
    settled_early (c.args.self.now.most - c.args.self.now.taken) c.args.self.now c.take_piece-2.new.self _ _ _ _ (omega arith) (let can = c.requires.can in omega arith) takes

pub returns-in_ok-status-in-None-clause-takes : goal.returns-in_ok-status-in-None-clause-takes
returns-in_ok-status-in-None-clause-takes c =
    let takes = rw c.in-None.is at c.in_ok-status.ensures.takes in
    settled_too_long (c.args.self.now.most - c.args.self.now.taken) c.args.self.now c.take_piece-2.new.self _ _ _ _ _ (omega arith) (let can = c.requires.can in omega arith)
    c.in_ok-status.ensures.command takes c.in_ok-status-in-None.ensures.ends
