use Rattle.std.proofs.Common.{◌≡◌, ◌++◌, take}
use Rattle.std.specs.Prelude.{string_bytes}
use Rattle.std.specs.List.{flat_map}
use Rattle.std.specs.Io.{StartsWith}
use Rattle.jt_text.specs.PositionFields.{batch_item_text}
use Rattle.jt_text.proofs.fields.position.push_batch_items.Given as goal

abbrev pub invariant-loop-position : goal.invariant-loop-position
invariant-loop-position l = (string_bytes l.text ≡ string_bytes l.fn.text ++ flat_map batch_item_text (take l.position-index l.fixes)) × StartsWith (string_bytes l.text) (string_bytes l.fn.text)
