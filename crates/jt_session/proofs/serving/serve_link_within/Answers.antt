use Rattle.std.proofs.Common.{◌≤◌, ◌==◌, sym, subst, arith}
use Rattle.std.specs.Prelude.{IsSomeAnd}
use Rattle.std.specs.Option.{option_map}
use Rattle.jt_outside.specs.Link.{wire_of}
use Rattle.jt_platform.specs.Hub.{opening_of}
use Rattle.jt_session.proofs.Closing.{serves_closed}
use Rattle.jt_session.proofs.Givings.{failed_later}
use Rattle.jt_session.proofs.serving.serve_link_within.Goals as goal

pub returns-clause-serves : goal.returns-clause-serves
returns-clause-serves g c =
    let mid = c.serve_open-report.new.pass in
    let now = c.act.new.pass in
    let same = c.serve_open-report.ensures.same in
    serves_closed (option_map (λ o. opening_of (g.P.Keeper.tables o.start) (g.P.Keeper.limit o.start) o.fleet o.secret) c.args.pass.opening) c.args.octets c.args.pass mid now (wire_of g.K.Sink.inbound g.K.Sink.written g.K.Sink.faults c.args.link.now) (wire_of g.K.Sink.inbound g.K.Sink.written g.K.Sink.faults c.serve_open-report.new.link) c.serve_open-report.result c.serve_open-report.ensures.serves
    mid.opening (λ o. opening_of (g.P.Keeper.tables o.start) (g.P.Keeper.limit o.start) o.fleet o.secret) (λ o. o.reserved) c.act.result same.number c.requires.new (omega (arith, c.requires.number.0, same.number))
    (subst (λ w. IsSomeAnd w (λ x. mid.number ≤ x.reserved)) (sym same.opening) (subst (λ n. IsSomeAnd c.args.pass.opening (λ x. n ≤ x.reserved)) (sym same.number) c.requires.number.1))
    c.act.ensures.found_mine c.act.ensures.answer c.act.ensures.mine c.act.ensures.seen c.act.ensures.found
    (failed_later mid now (now.faults == now.found_faults) c.act.ensures.failed) (omega (arith, c.act.ensures.found_faults, c.act.ensures.faults))
