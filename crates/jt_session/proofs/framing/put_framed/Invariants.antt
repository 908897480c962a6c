use Rattle.std.proofs.Common.{◌≡◌, ◌≤◌, ◌+◌, ◌*◌, ◌++◌, ◌∷◌, take, length}
use Rattle.jt_escape.specs.Frame.{escaped}
use Rattle.jt_session.proofs.framing.put_framed.Given as goal

abbrev pub invariant-loop-octet : goal.invariant-loop-octet
invariant-loop-octet l = record {
  items : l.out.items ≡ l.fn.out.items ++ 0x7E ∷ escaped (take l.octet-index l.content);
  spare : l.fn.out.spare ≤ l.out.spare + (1 + 2 * l.octet-index);
  bound : length l.out.items ≤ length l.fn.out.items + (1 + 2 * l.octet-index);
}
