use Rattle.std.proofs.Common.{◌+◌, ◌-◌, [], length, take, drop, refl, ap, ◌∙◌, arith, length-drop}
use Rattle.std.specs.Option.{option_map}
use Rattle.jt_platform.specs.Hub.{opening_of}
use Rattle.jt_session.specs.declared.end.Fed.TheVariants.{On, Stop}
use Rattle.jt_session.proofs.Turning.{takes_none}
use Rattle.jt_session.proofs.Hubs.{ended}
use Rattle.jt_session.proofs.Hearings.{hears_as, hears_ended, hears_more, hears_on, same_both}
use Rattle.jt_session.proofs.hearing.hear.Goals as goal

pub loop-taken-init : goal.loop-taken-init
loop-taken-init g c =
    let pass = c.args.pass.now in
    record {
      within = omega arith;
      waits = c.requires.waits;
      on = c.requires.on;
      place = omega arith;
      hears = hears_on (option_map (λ o. opening_of (g.P.Keeper.tables o.start) (g.P.Keeper.limit o.start) o.fleet o.secret) pass.opening) c.args.session.now c.args.session.now [] c.args.out.now.items c.args.out.now.items pass (takes_none c.args.session.now c.args.out.now.items c.requires.waits) c.requires.on;
      same = record { turn = refl; number = refl; opening = refl };
      number = refl;
      bound = omega arith;
    }

pub loop-taken-preserved : goal.loop-taken-preserved
loop-taken-preserved g c =
    let pass = c.args.pass.now in
    let mid = c.loop-taken.pass in
    let now = c.hear_some-count.new.pass in
    let kept = c.loop-taken.invariant in
    let did = c.hear_some-count.ensures in
    let more =
    hears_as (option_map (λ o. opening_of (g.P.Keeper.tables o.start) (g.P.Keeper.limit o.start) o.fleet o.secret) mid.opening) (option_map (λ o. opening_of (g.P.Keeper.tables o.start) (g.P.Keeper.limit o.start) o.fleet o.secret) pass.opening) c.loop-taken.session c.hear_some-count.new.session (take c.hear_some-count.result.0 (take (length c.args.octets.now - c.loop-taken.taken) (drop c.loop-taken.taken c.args.octets.now))) mid now c.loop-taken.out.items c.hear_some-count.new.out.items c.hear_some-count.result.1 On
    (ap (λ x. option_map (λ o. opening_of (g.P.Keeper.tables o.start) (g.P.Keeper.limit o.start) o.fleet o.secret) x) kept.same.opening) c.in-On.is did.hears in
    record {
      within = omega (arith, did.taken, length-drop c.loop-taken.taken c.args.octets.now, c.loop-taken-test.true);
      waits = did.waiting;
      on = did.on.0 c.in-On.is;
      place = omega (arith, did.place, kept.place);
      hears =
          hears_more (option_map (λ o. opening_of (g.P.Keeper.tables o.start) (g.P.Keeper.limit o.start) o.fleet o.secret) pass.opening) c.args.session.now c.loop-taken.session c.hear_some-count.new.session c.args.octets.now c.loop-taken.taken c.hear_some-count.result.0 pass mid now c.args.out.now.items c.loop-taken.out.items c.hear_some-count.new.out.items On
          (λ i. omega (arith, c.type_inv.octets i)) kept.hears kept.on kept.same more;
      same = same_both pass mid now kept.same did.same;
      number = more.went.number ∙ kept.number;
      bound = omega (arith, did.short, did.some, kept.bound, length-drop c.loop-taken.taken c.args.octets.now, c.loop-taken-test.true);
    }

pub returns-in-Stop-clause-hears : goal.returns-in-Stop-clause-hears
returns-in-Stop-clause-hears g c =
    let pass = c.args.pass.now in
    let mid = c.loop-taken.pass in
    let now = c.hear_some-count.new.pass in
    let kept = c.loop-taken.invariant in
    let did = c.hear_some-count.ensures in
    let more =
    hears_as (option_map (λ o. opening_of (g.P.Keeper.tables o.start) (g.P.Keeper.limit o.start) o.fleet o.secret) mid.opening) (option_map (λ o. opening_of (g.P.Keeper.tables o.start) (g.P.Keeper.limit o.start) o.fleet o.secret) pass.opening) c.loop-taken.session c.hear_some-count.new.session (take c.hear_some-count.result.0 (take (length c.args.octets.now - c.loop-taken.taken) (drop c.loop-taken.taken c.args.octets.now))) mid now c.loop-taken.out.items c.hear_some-count.new.out.items c.hear_some-count.result.1 (Stop c.in-Stop.end)
    (ap (λ x. option_map (λ o. opening_of (g.P.Keeper.tables o.start) (g.P.Keeper.limit o.start) o.fleet o.secret) x) kept.same.opening) c.in-Stop.is did.hears in
    hears_ended c.law_front.ensures.unplaced (option_map (λ o. opening_of (g.P.Keeper.tables o.start) (g.P.Keeper.limit o.start) o.fleet o.secret) pass.opening) c.args.session.now c.hear_some-count.new.session c.args.octets.now (c.loop-taken.taken + c.hear_some-count.result.0) pass now c.args.out.now.items c.hear_some-count.new.out.items (Stop c.in-Stop.end)
    (hears_more (option_map (λ o. opening_of (g.P.Keeper.tables o.start) (g.P.Keeper.limit o.start) o.fleet o.secret) pass.opening) c.args.session.now c.loop-taken.session c.hear_some-count.new.session c.args.octets.now c.loop-taken.taken c.hear_some-count.result.0 pass mid now c.args.out.now.items c.loop-taken.out.items c.hear_some-count.new.out.items (Stop c.in-Stop.end)
    (λ i. omega (arith, c.type_inv.octets i)) kept.hears kept.on kept.same more)
    (ended c.hear_some-count.new.session.over c.hear_some-count.result.1 c.in-Stop.end did.on c.in-Stop.is)
