use Rattle.std.proofs.Common.{◌≡◌, ◌++◌, take}
use Rattle.std.specs.List.{flat_map}
use Rattle.std.specs.Int.{w8, w16, to_be_bytes}
use Rattle.jt_terminal_rule.specs.Forming.{in_batch}
use Rattle.jt_terminal_rule.proofs.units.batch_body.Given as goal

abbrev pub invariant-loop-place : goal.invariant-loop-place
invariant-loop-place l = l.writer ≡ to_be_bytes w16 l.count ++ (to_be_bytes w8 1 ++ flat_map in_batch (take l.place l.waiting))
