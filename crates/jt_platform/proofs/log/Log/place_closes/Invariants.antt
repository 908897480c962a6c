use Rattle.std.proofs.Common.{◌≡◌}
use Rattle.jt_platform.specs.Index.{KeepsPlaces, HasPlaces}
use Rattle.jt_platform.proofs.log.Log.place_closes.Given as goal

abbrev pub invariant-loop-session : goal.invariant-loop-session
invariant-loop-session g l =
    (l.self.entries ≡ l.initial.self.entries) × (l.self.spare ≡ l.initial.self.spare) × HasPlaces l.self.index l.above l.session × KeepsPlaces l.initial.self.index l.self.index
