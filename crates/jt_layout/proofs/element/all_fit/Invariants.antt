use Rattle.std.proofs.Common.{take}
use Rattle.std.specs.List.{AllByRecursion}
use Rattle.jt_layout.proofs.element.all_fit.Given as goal

abbrev pub invariant-loop-element : goal.invariant-loop-element
invariant-loop-element g l = AllByRecursion (g.T.Element.layout).Fits (take l.element-index l.list)
