use Rattle.std.proofs.Common.{◌≡◌, ◌+◌, ◌*◌, ◌≤◌, ◌++◌, length, drop}
use Rattle.std.specs.List.{flat_map}
use Rattle.jt_text.proofs.fields.lists.put_all.Given as goal

abbrev pub invariant-loop-left : goal.invariant-loop-left
invariant-loop-left g l =
    record { within : l.left ≤ length l.list; room : length l.line + l.left * g.T.Shown.most ≤ 512; written : l.line ≡ flat_map g.T.Shown.shown (drop l.left l.list) ++ l.fn.line }

abbrev pub decreases-loop-left : goal.decreases-loop-left
decreases-loop-left g l = l.left
