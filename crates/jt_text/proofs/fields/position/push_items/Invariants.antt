use Rattle.std.proofs.Common.{◌≡◌, ◌++◌, take}
use Rattle.std.specs.Prelude.{string_bytes}
use Rattle.std.specs.List.{flat_map}
use Rattle.std.specs.Io.{StartsWith}
use Rattle.jt_text.specs.PositionFields.{item_text}
use Rattle.jt_text.proofs.fields.position.push_items.Given as goal

abbrev pub invariant-loop-item : goal.invariant-loop-item
invariant-loop-item l = (string_bytes l.text ≡ string_bytes l.fn.text ++ flat_map item_text (take l.item-index l.items)) × StartsWith (string_bytes l.text) (string_bytes l.fn.text)
