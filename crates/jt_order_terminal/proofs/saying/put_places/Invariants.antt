use Rattle.std.proofs.Common.{◌≡◌, ◌++◌, take}
use Rattle.jt_order_terminal.proofs.saying.put_places.Given as goal

abbrev pub invariant-loop-place : goal.invariant-loop-place
invariant-loop-place l = l.out.items ≡ l.initial.out.items ++ take l.place-index l.places
