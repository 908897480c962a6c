use Rattle.std.proofs.Common.{◌≡◌, ◌+◌, ◌-◌, length, arith, sym, ap, ◌∙◌}
use Rattle.jt_server.specs.Jobs.{IsUnused}
use Rattle.jt_server.proofs.Places.{one_more}
use Rattle.jt_server.proofs.Joins.{not_there}
use Rattle.jt_server.proofs.Accepting.{all_more, lends_ended, lends_failed, lends_given, lends_lent, one_number, one_unused, root_lends, root_same, same_ended, same_failed, same_lent}
use Rattle.jt_server.proofs.passes.split_each.Goals as goal

pub loop-given-init : goal.loop-given-init
loop-given-init g c = record {
  root = c.requires.root;
  given = omega (arith, c.requires.fresh.0);
  within = omega arith;
  as_many = ap length c.requires.room.0;
  lent = c.requires.fresh.1;
  failed = c.requires.fresh.3;
  ended = c.requires.fresh.2;
  room = omega (arith, c.requires.room.1);
  unused = λ m one at. absurd (not_there c.args.passes.now.items m one c.requires.room.0 at);
  numbers = λ m one at. absurd (not_there c.args.passes.now.items m one c.requires.room.0 at);
}

pub split-requires-clause-turn : goal.split-requires-clause-turn
split-requires-clause-turn g c = c.loop-given.invariant.root.of_turn

pub split-requires-clause-root : goal.split-requires-clause-root
split-requires-clause-root g c = c.loop-given.invariant.root.number

pub loop-given-preserved : goal.loop-given-preserved
loop-given-preserved g c =
    let inv = c.loop-given.invariant in
    let m = c.loop-given.given in
    let giver = c.in-Ok.ensures.giver in
    let lent : c.split.new.pass.lent ≡ c.loop-given.pass.lent + 1 = lends_lent c.loop-given.pass c.split.new.pass (c.loop-given.pass.lent + 1) (m + 1) giver in
    let given : c.split.new.pass.given ≡ m + 1 = lends_given c.loop-given.pass c.split.new.pass (c.loop-given.pass.lent + 1) (m + 1) giver in
    let more : length c.push.new.self.items ≡ length c.loop-given.passes.items + 1 = one_more _ _ _ c.in-Ok-push.ensures.ok in record {
      root = root_lends c.loop-given.pass c.split.new.pass (c.loop-given.pass.lent + 1) (m + 1) giver c.args.pass.now.opening c.args.turn.now c.args.pass.now.base inv.root;
      given = omega (arith, given);
      within = omega (arith, c.loop-given-test.true);
      as_many = omega (arith, more, inv.as_many);
      lent = omega (arith, lent, inv.lent);
      failed = lends_failed c.loop-given.pass c.split.new.pass (c.loop-given.pass.lent + 1) (m + 1) giver ∙ inv.failed;
      ended = lends_ended c.loop-given.pass c.split.new.pass (c.loop-given.pass.lent + 1) (m + 1) giver ∙ inv.ended;
      room = omega (arith, inv.room, c.push.ensures.spare, c.loop-given-test.true);
      unused = all_more (λ k one. IsUnused c.args.pass.now.opening c.args.turn.now one) c.loop-given.passes.items c.push.new.self.items c.in-Ok.one m c.in-Ok-push.ensures.ok inv.as_many inv.unused
          (one_unused c.loop-given.pass c.in-Ok.one (m + 1) c.in-Ok.ensures.ok c.args.pass.now.opening c.args.turn.now c.args.pass.now.base inv.root);
      numbers = all_more (λ k one. one.number ≡ k + 1) c.loop-given.passes.items c.push.new.self.items c.in-Ok.one m c.in-Ok-push.ensures.ok inv.as_many inv.numbers
          (one_number c.loop-given.pass c.in-Ok.one (m + 1) c.in-Ok.ensures.ok);
    }

pub returns-in_default-clause-root : goal.returns-in_default-clause-root
returns-in_default-clause-root g c = root_same c.args.pass.now.opening c.args.turn.now c.args.pass.now.base c.loop-given.pass c.split.new.pass c.in_default.ensures.err c.loop-given.invariant.root

pub returns-in_default-clause-lent : goal.returns-in_default-clause-lent
returns-in_default-clause-lent g c = same_lent c.loop-given.pass c.split.new.pass c.in_default.ensures.err ∙ (c.loop-given.invariant.lent ∙ sym c.loop-given.invariant.as_many)

pub returns-in_default-clause-failed : goal.returns-in_default-clause-failed
returns-in_default-clause-failed g c = same_failed c.loop-given.pass c.split.new.pass c.in_default.ensures.err ∙ c.loop-given.invariant.failed

pub returns-in_default-clause-ended : goal.returns-in_default-clause-ended
returns-in_default-clause-ended g c = same_ended c.loop-given.pass c.split.new.pass c.in_default.ensures.err ∙ c.loop-given.invariant.ended
