-- The buffer keeps its length, and a failed read consumes nothing.
use Rattle.std.proofs.Common.{◌≡◌, length}
use Rattle.std.specs.Io.KnownBytes.{Keeps}
use Rattle.jt_outside.proofs.retrying.read_again.Given as goal

abbrev pub invariant-loop : goal.invariant-loop
invariant-loop g l = (length l.buf ≡ length l.fn.buf) × Keeps (g.R.Read.remaining l.fn.reader) (g.R.Read.remaining l.reader)
