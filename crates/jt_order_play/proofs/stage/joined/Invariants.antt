use Rattle.std.specs.Prelude.{◌≡◌, take}
use Rattle.jt_order_play.proofs.stage.joined.Given as goal
use Rattle.std.specs.List.{flat_map}

abbrev pub invariant-loop-frame : goal.invariant-loop-frame
invariant-loop-frame l = l.all.items ≡ flat_map (λ frame. frame) (take l.frame-index l.frames)
