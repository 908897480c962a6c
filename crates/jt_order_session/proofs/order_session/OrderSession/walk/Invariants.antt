use Rattle.std.proofs.Common.{◌≡◌, ◌≤◌, ◌+◌, ◌-◌, ℕ, None, true, false, length, take}
use Rattle.std.specs.Prelude.{◌≢◌, Err}
use Rattle.jt_store.specs.declared.error.StoreError.TheVariants.{Full}
use Rattle.jt_store.specs.Tables.{HasCause, IsSteady}
use Rattle.jt_platform.specs.History.{newest, closed}
use Rattle.jt_platform.specs.Hub.{opening_of}
use Rattle.jt_session.specs.declared.end.Fed.TheVariants.{On}
use Rattle.jt_session.specs.Sessions.{HasFedReason}
use Rattle.jt_order_session.specs.Sessions.{Walks}
use Rattle.jt_order_session.proofs.order_session.OrderSession.walk.Given as goal

abbrev pub invariant-loop-taken : goal.invariant-loop-taken
invariant-loop-taken g l = record {
  within : l.taken ≤ length l.octets;
  waits : l.self.session.waiting ≡ None;
  on : l.self.session.over ≡ false;
  place : l.self.session.stream.place ≤ l.fn.self.session.stream.place + l.taken;
  walks : Walks true l.fn.self l.self (take l.taken l.octets) (opening_of (g.P.Keeper.tables l.fn.hub.start) (g.P.Keeper.limit l.fn.hub.start) l.fn.hub.fleet l.fn.hub.secret) (newest l.fn.hub.history) (newest l.hub.history) (g.B.OrderBook.holds l.fn.book) (g.B.OrderBook.holds l.book) l.fn.out.items l.out.items On l.told;
  start : l.hub.start ≡ l.fn.hub.start;
  fleet : l.hub.fleet ≡ l.fn.hub.fleet;
  secret : l.hub.secret ≡ l.fn.hub.secret;
  reserved : l.hub.reserved ≡ l.fn.hub.reserved;
  closed_as_before : (session : ℕ) → closed (newest l.hub.history) session ≡ closed (newest l.fn.hub.history) session;
  reason : HasFedReason (g.P.Keeper.faults l.fn.hub.keeper) (g.P.Keeper.faults l.hub.keeper) (g.P.Keeper.may_fail l.fn.hub.keeper) (g.P.Keeper.may_fail l.hub.keeper) On;
  cause : HasCause (g.B.OrderBook.faults l.fn.book) (g.B.OrderBook.faults l.book) l.told;
  steady : IsSteady (g.B.OrderBook.may_fail l.fn.book) (g.B.OrderBook.may_fail l.book) l.told;
  never_full : (limit : ℕ) → l.told ≢ Err (Full limit);
}

abbrev pub decreases-loop-taken : goal.decreases-loop-taken
decreases-loop-taken g l = length l.octets - l.taken
