use Rattle.std.proofs.Common.{◌≡◌, ◌≤◌, ◌+◌, ◌-◌, ◌*◌, None, false, length, take}
use Rattle.jt_session.specs.Sessions.{TakesUnasked}
use Rattle.jt_session.proofs.session.Session.take.Given as goal

abbrev pub invariant-loop-taken : goal.invariant-loop-taken
invariant-loop-taken l = record {
  within : l.taken ≤ length l.octets;
  waits : l.self.waiting ≡ None;
  on : l.self.over ≡ false;
  place : l.self.stream.place ≡ l.fn.self.stream.place + l.taken;
  turns : TakesUnasked l.fn.self l.self (take l.taken l.octets) l.fn.out.items l.out.items;
  bound : length l.out.items ≤ length l.fn.out.items + 2092 * l.taken;
}

abbrev pub decreases-loop-taken : goal.decreases-loop-taken
decreases-loop-taken l = length l.octets - l.taken
