use Rattle.std.proofs.Common.{◌==◌, arith}
use Rattle.jt_platform.specs.Hub.{opening_of}
use Rattle.std.specs.Option.{option_map}
use Rattle.jt_session.proofs.Givings.{failed_later, failed_more, given_fault, given_full, given_room}
use Rattle.jt_session.proofs.Hearings.{hears_asked}
use Rattle.jt_session.proofs.hearing.ask.Goals as goal

pub reply-requires-clause-code : goal.reply-requires-clause-code
reply-requires-clause-code g c =
    let now = c.act-reply.new.pass in
    given_room c.args.pass.now.opening (λ o. opening_of (g.P.Keeper.tables o.start) (g.P.Keeper.limit o.start) o.fleet o.secret) (λ o. o.reserved) now.found now.found_faults now.faults c.args.pass.now.number c.args.request c.act-reply.result
    c.requires.opening c.act-reply.ensures.answer

pub returns-clause-hears : goal.returns-clause-hears
returns-clause-hears g c =
    let pass = c.args.pass.now in
    let now = c.act-reply.new.pass in
    let r = c.act-reply.result in
    hears_asked (option_map (λ o. opening_of (g.P.Keeper.tables o.start) (g.P.Keeper.limit o.start) o.fleet o.secret) pass.opening) c.args.session.now c.reply.new.self c.args.out.now.items c.reply.new.out.items c.args.request r c.reply.result pass now
    c.requires.waits c.reply.ensures.turn c.act-reply.ensures.mine
    (failed_later pass now (now.faults == now.found_faults) c.act-reply.ensures.failed)
    (omega (arith, c.act-reply.ensures.found_faults, c.act-reply.ensures.faults))
    (λ is. failed_more pass now now.found_faults (given_fault pass.opening (λ o. opening_of (g.P.Keeper.tables o.start) (g.P.Keeper.limit o.start) o.fleet o.secret) (λ o. o.reserved) now.found now.found_faults now.faults pass.number c.args.request r c.requires.opening c.act-reply.ensures.answer is) c.act-reply.ensures.failed)
    (λ l is. given_full pass.opening (λ o. opening_of (g.P.Keeper.tables o.start) (g.P.Keeper.limit o.start) o.fleet o.secret) (λ o. o.reserved) now.found now.found_faults now.faults pass.number c.args.request r now.seen c.act-reply.ensures.seen l c.act-reply.ensures.answer is)
    c.reply.ensures.fed
