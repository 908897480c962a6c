use Rattle.std.specs.Prelude.{◌≡◌, take}
use Rattle.jt_play.specs.Behind.{went_by}
use Rattle.jt_play.proofs.behind.Behind.add_each.Given as goal

abbrev pub invariant-loop-octets : goal.invariant-loop-octets
invariant-loop-octets l = l.self ≡ went_by l.fn.self (take l.octets-index l.fixes)
