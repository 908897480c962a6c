use Rattle.std.proofs.Common.{◌≡◌, ◌+◌, [], ◌∷◌, length, None, arith, sym, subst}
use lib.ListN.{get_elem?}
use mathlib.Core.Option.{some}
use Rattle.jt_server.proofs.Places.{at_last, at_longer, one_more}
use Rattle.jt_server.proofs.Joins.{Joins, idle_more, root_joined}
use Rattle.jt_server.proofs.passes.join_unused.Goals as goal

pub join-requires-clause-turn : goal.join-requires-clause-turn
join-requires-clause-turn g c =
    let m = length c.pop.new.self.items in
    let unused = c.loop-one.invariant.unused m c.in-Some.one (subst (λ l. get_elem? l m ≡ some c.in-Some.one) (sym c.in-Some.ensures.items) (at_last c.pop.new.self.items c.in-Some.one)) in
    (c.loop-one.invariant.root.of_turn, unused.of_turn)

pub join-requires-clause-root : goal.join-requires-clause-root
join-requires-clause-root g c = c.loop-one.invariant.root.number

pub loop-one-preserved : goal.loop-one-preserved
loop-one-preserved g c =
    let inv = c.loop-one.invariant in
    let m = length c.pop.new.self.items in
    let unused = inv.unused m c.in-Some.one (subst (λ l. get_elem? l m ≡ some c.in-Some.one) (sym c.in-Some.ensures.items) (at_last c.pop.new.self.items c.in-Some.one)) in
    let less : length c.loop-one.passes.items ≡ m + 1 = one_more _ _ _ c.in-Some.ensures.items in
    let did : Joins c.loop-one.pass c.in-Some.one c.join.new.pass = record {
      old_seen = c.join.ensures.begins.0;
      new_seen = c.join.ensures.begins.1;
      ended = c.join.ensures.ended;
      failed = c.join.ensures.failed;
      faults = c.join.ensures.faults;
    } in record {
      root = root_joined c.args.pass.now.opening c.args.turn.now c.args.pass.now.base c.loop-one.pass c.join.new.pass inv.root c.join.ensures.stays;
      lent = omega (arith, inv.lent, c.join.ensures.lent, less);
      failed = omega (arith, c.join.ensures.failed, unused.failed, inv.failed);
      up_to = idle_more None c.args.pass.now.opening c.args.turn.now None c.loop-one.pass c.in-Some.one c.join.new.pass did 0 inv.up_to unused.mine;
      unused = λ k one at. inv.unused k one (subst (λ l. get_elem? l k ≡ some one) (sym c.in-Some.ensures.items) (at_longer c.pop.new.self.items (c.in-Some.one ∷ []) k one at));
    }
