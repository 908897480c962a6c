use Rattle.std.proofs.Common.{◌≡◌, take}
use Rattle.jt_value.specs.Sameness.{key_of}
use Rattle.jt_platform.specs.History.{newest, live}
use Rattle.jt_platform.proofs.history.is_live.Given as goal

abbrev pub invariant-loop-entry : goal.invariant-loop-entry
invariant-loop-entry l = l.alive ≡ live (key_of l.phone) (newest (take l.entry-index l.history)) l.session
