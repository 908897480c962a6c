use Rattle.std.proofs.Common.{◌≡◌, ◌+◌, ◌*◌, ◌≤◌, length, take}
use Rattle.std.specs.List.{flat_map}
use Rattle.jt_position.specs.Positions.{item}
use Rattle.jt_position.proofs.position.Position.size.Given as goal

abbrev pub invariant-loop-item : goal.invariant-loop-item
invariant-loop-item l = (l.size ≡ 28 + length (flat_map item.spell (take l.item-index l.fn.self.items))) × (l.size ≤ 28 + 18_446_744_073_709_551_615 * l.item-index)
