use Rattle.std.proofs.Common.{◌≡◌, ◌++◌, take}
use Rattle.std.specs.List.{flat_map}
use Rattle.std.specs.Io.{StartsWith}
use Rattle.jt_layout.proofs.writer.Writer.list.Given as goal

abbrev pub invariant-loop-element : goal.invariant-loop-element
invariant-loop-element g l = (l.self ≡ l.fn.self ++ flat_map g.T.Element.layout.spell (take l.element-index l.list)) × StartsWith l.self l.fn.self
