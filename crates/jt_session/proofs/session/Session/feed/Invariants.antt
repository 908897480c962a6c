use Rattle.std.proofs.Common.{◌≡◌, ◌≤◌, ◌+◌, ◌-◌, ℕ, None, false, length, take}
use Rattle.jt_platform.specs.History.{newest, closed}
use Rattle.jt_platform.specs.Hub.{opening_of}
use Rattle.jt_session.specs.declared.end.Fed.TheVariants.{On}
use Rattle.jt_session.specs.Sessions.{Feeds, HasFedReason}
use Rattle.jt_session.proofs.session.Session.feed.Given as goal

abbrev pub invariant-loop-taken : goal.invariant-loop-taken
invariant-loop-taken g l = record {
  within : l.taken ≤ length l.octets;
  waits : l.self.waiting ≡ None;
  on : l.self.over ≡ false;
  place : l.self.stream.place ≡ l.fn.self.stream.place + l.taken;
  feeds : Feeds l.fn.self l.self (take l.taken l.octets) (opening_of (g.P.Keeper.tables l.fn.hub.start) (g.P.Keeper.limit l.fn.hub.start) l.fn.hub.fleet l.fn.hub.secret) (newest l.fn.hub.history) (newest l.hub.history) l.fn.out.items l.out.items On;
  start : l.hub.start ≡ l.fn.hub.start;
  fleet : l.hub.fleet ≡ l.fn.hub.fleet;
  secret : l.hub.secret ≡ l.fn.hub.secret;
  reserved : l.hub.reserved ≡ l.fn.hub.reserved;
  closed_as_before : (session : ℕ) → closed (newest l.hub.history) session ≡ closed (newest l.fn.hub.history) session;
  reason : HasFedReason (g.P.Keeper.faults l.fn.hub.keeper) (g.P.Keeper.faults l.hub.keeper) (g.P.Keeper.may_fail l.fn.hub.keeper) (g.P.Keeper.may_fail l.hub.keeper) On;
}

abbrev pub decreases-loop-taken : goal.decreases-loop-taken
decreases-loop-taken g l = length l.octets - l.taken
