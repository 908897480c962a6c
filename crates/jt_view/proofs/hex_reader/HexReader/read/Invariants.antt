use Rattle.std.proofs.Common.{take}
use Rattle.jt_view.proofs.HexSoFar.{HexSoFar}
use Rattle.jt_view.proofs.hex_reader.HexReader.read.Given as goal

abbrev pub invariant-loop-index : goal.invariant-loop-index
invariant-loop-index l = HexSoFar l.fn.self l.self (take l.index l.text) l.fn.octets.items l.octets.items
