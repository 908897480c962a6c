use Rattle.std.proofs.Common.{◌≡◌, ◌∷◌, ◌+◌, ◌*◌, ◌≤◌, take, length}
use Rattle.jt_escape.specs.Frame.{escaped}
use Rattle.jt_escape.proofs.framing.escape_into.Given as goal

abbrev pub invariant-loop-octet : goal.invariant-loop-octet
invariant-loop-octet l =
    (l.out.items ≡ 0x7E ∷ escaped (take l.octet-index l.content)) × (length l.out.items ≤ 1 + 2 * l.octet-index)
