use Rattle.std.proofs.Common.{◌≡◌, ◌+◌, ◌*◌, ◌≤◌, ◌++◌, length, drop}
use Rattle.std.specs.List.{flat_map}
use Rattle.jt_text.specs.ParamFields.{id_text}
use Rattle.jt_text.proofs.fields.params.put_ids.Given as goal

abbrev pub invariant-loop-left : goal.invariant-loop-left
invariant-loop-left l =
    record { within : l.left ≤ length l.ids; room : length l.line + l.left * 14 ≤ 512; written : l.line ≡ flat_map id_text (drop l.left l.ids) ++ l.fn.line }

abbrev pub decreases-loop-left : goal.decreases-loop-left
decreases-loop-left l = l.left
