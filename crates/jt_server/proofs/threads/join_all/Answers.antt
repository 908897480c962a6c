use Rattle.std.proofs.Common.{◌≡◌, ◌≤◌, ◌<◌, ◌+◌, ◌-◌, ◌++◌, ℕ, [], ◌∷◌, length, map, Option, arith, sym, ap, ◌∙◌, subst}
use Rattle.std.specs.Prelude.{option_map}
use lib.ListN.{get_elem?}
use mathlib.Core.Option.{some}
use Rattle.jt_platform.specs.Allowed.{Opening}
use Rattle.jt_platform.specs.Hub.{opening_of}
use Rattle.jt_server.specs.Jobs.{AreUpTo}
use Rattle.jt_server.proofs.Places.{at_last, at_longer, one_more}
use Rattle.jt_server.proofs.Joins.{Joins, failed_more, failed_on, joined_links, joined_of, none_failed, not_there, root_joined, up_to_any, up_to_more}
use Rattle.jt_server.proofs.Together.{are_served}
use Rattle.jt_server.proofs.threads.join_all.Goals as goal

pub loop-job-init : goal.loop-job-init
loop-job-init g c = record {
  root = c.requires.root;
  lent = c.requires.lent;
  count = omega (arith, ap length c.requires.room.0);
  room = c.requires.room.1;
  up_to = up_to_any c.args.pass.now (length c.args.jobs.items) c.requires.up_to;
  failed = none_failed c.args.pass.now _ c.args.links.now.items c.requires.room.0;
  jobs = c.requires.jobs;
  links = λ i b at. absurd (not_there c.args.links.now.items i b c.requires.room.0 at);
}

pub join-requires-clause-turn : goal.join-requires-clause-turn
join-requires-clause-turn g c =
    let m = length c.pop.new.self.items in
    let worked = c.finish-link.ensures c.args.pass.now.opening c.args.turn.now (g.D.Door.pool c.args.before.value).coming m (c.loop-job.invariant.jobs m c.in-Some.job (subst (λ l. get_elem? l m ≡ some c.in-Some.job) (sym c.in-Some.ensures.items) (at_last c.pop.new.self.items c.in-Some.job))) in (
      c.loop-job.invariant.root.of_turn,
      worked.same.turn ∙ worked.given.of_turn,
    )

pub loop-job-preserved : goal.loop-job-preserved
loop-job-preserved g c =
    let m = length c.pop.new.self.items in
    let o : Option Opening = option_map (λ o. opening_of (g.P.Keeper.tables o.start) (g.P.Keeper.limit o.start) o.fleet o.secret) c.args.pass.now.opening in
    let coming = (g.D.Door.pool c.args.before.value).coming in
    let inv = c.loop-job.invariant in
    let worked = c.finish-link.ensures c.args.pass.now.opening c.args.turn.now coming m (inv.jobs m c.in-Some.job (subst (λ l. get_elem? l m ≡ some c.in-Some.job) (sym c.in-Some.ensures.items) (at_last c.pop.new.self.items c.in-Some.job))) in
    let did : Joins c.loop-job.pass c.finish-link.result.pass c.join.new.pass = record {
      old_seen = c.join.ensures.begins.0;
      new_seen = c.join.ensures.begins.1;
      ended = c.join.ensures.ended;
      failed = c.join.ensures.failed;
      faults = c.join.ensures.faults;
    } in
    let less : length c.loop-job.jobs.items ≡ m + 1 = one_more _ _ _ c.in-Some.ensures.items in
    let more : length c.push.new.self.items ≡ length c.loop-job.links.items + 1 = one_more _ _ _ c.in-Ok.ensures.ok in
    let count = inv.count in
    let number : c.finish-link.result.pass.number ≡ m + 1 = worked.same.number ∙ worked.given.number in record {
      root = root_joined c.args.pass.now.opening c.args.turn.now c.args.pass.now.base c.loop-job.pass c.join.new.pass inv.root c.join.ensures.stays;
      lent = omega (arith, inv.lent, c.join.ensures.lent, less);
      count = omega (arith, count, less, more);
      room = omega (arith, inv.room, c.push.ensures.spare, less);
      up_to = up_to_more o c.args.pass.now.opening c.args.turn.now coming c.loop-job.pass c.finish-link.result.pass c.join.new.pass did (length c.args.jobs.items) inv.up_to (omega (arith, number, count, less));
      failed = failed_on _ c.loop-job.links.items c.push.new.self.items _ c.join.new.pass c.in-Ok.ensures.ok (failed_more o c.args.pass.now.opening c.args.turn.now coming c.loop-job.pass c.finish-link.result.pass c.join.new.pass did _ m _ c.finish-link.result.report worked inv.failed);
      jobs = λ k job at. inv.jobs k job (subst (λ l. get_elem? l k ≡ some job) (sym c.in-Some.ensures.items) (at_longer c.pop.new.self.items (c.in-Some.job ∷ []) k job at));
      links = joined_links o c.args.pass.now.opening c.args.turn.now coming c.loop-job.pass c.finish-link.result.pass c.join.new.pass did _ _ c.loop-job.links.items c.push.new.self.items _ (length c.args.jobs.items) m c.in-Ok.ensures.ok (omega (arith, count, less)) inv.links worked;
    }

pub returns-clause-up_to : goal.returns-clause-up_to
returns-clause-up_to g c =
    let none : length c.loop-job.links.items ≡ length c.args.jobs.items = omega (arith, c.loop-job.invariant.count, c.in_default.ensures.cases.0, c.loop-job.jobs.ok.0) in
    subst (λ n. AreUpTo n c.loop-job.pass) (sym none) c.loop-job.invariant.up_to

pub returns-clause-links : goal.returns-clause-links
returns-clause-links g c =
    let none : length c.loop-job.links.items ≡ length c.args.jobs.items = omega (arith, c.loop-job.invariant.count, c.in_default.ensures.cases.0, c.loop-job.jobs.ok.0) in
    joined_of _ c.args.pass.now.opening c.args.turn.now (g.D.Door.pool c.args.before.value).coming c.loop-job.pass _ _ c.loop-job.links.items (length c.args.jobs.items) (length c.loop-job.links.items) none c.loop-job.invariant.links
