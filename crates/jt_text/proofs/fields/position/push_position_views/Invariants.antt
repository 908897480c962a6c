use Rattle.std.proofs.Common.{◌≡◌, ◌++◌}
use Rattle.std.specs.Prelude.{string_bytes}
use Rattle.std.specs.List.{flat_map}
use Rattle.std.specs.Io.{StartsWith}
use Rattle.jt_text.specs.PositionFields.{batch_item_text}
use Rattle.jt_text.proofs.fields.position.push_position_views.Given as goal

abbrev pub invariant-loop-view : goal.invariant-loop-view
invariant-loop-view l = (string_bytes l.text ++ flat_map batch_item_text l.view-iterator ≡ string_bytes l.fn.text ++ flat_map batch_item_text l.fn.positions) × StartsWith (string_bytes l.text) (string_bytes l.fn.text)
