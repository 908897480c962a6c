use Rattle.std.proofs.Common.{◌≡◌, ◌++◌, length}
use Rattle.std.specs.Prelude.{string_bytes}
use Rattle.std.specs.Io.{StartsWith}
use Rattle.std.specs.List.{flat_map}
use Rattle.jt_text.specs.ParamFields.{id_text}
use Rattle.jt_text.proofs.fields.params.push_ids.Given as goal

abbrev pub invariant-loop-left : goal.invariant-loop-left
invariant-loop-left l = (string_bytes l.text ++ flat_map id_text l.left ≡ string_bytes l.fn.text ++ flat_map id_text l.fn.ids) × StartsWith (string_bytes l.text) (string_bytes l.fn.text)

abbrev pub decreases-loop-left : goal.decreases-loop-left
decreases-loop-left l = length l.left
