use Rattle.std.proofs.Common.{◌≡◌, ◌≤◌, ◌++◌, ◌+◌, length, take}
use Rattle.jt_order_session.proofs.offering.put_all.Given as goal

abbrev pub invariant-loop-octet : goal.invariant-loop-octet
invariant-loop-octet l = (l.out.items ≡ l.initial.out.items ++ take l.octet-index l.octets) × (length l.octets ≤ l.out.spare + l.octet-index)
