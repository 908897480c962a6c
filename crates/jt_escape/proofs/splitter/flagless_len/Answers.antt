use Rattle.std.proofs.Common.{ℕ, subst, sym, take}
use Rattle.jt_escape.specs.Span.{HasNoFlag}
use Rattle.jt_escape.proofs.Runs.{no_flag_found}
use Rattle.jt_escape.proofs.splitter.flagless_len.Goals as goal

pub returns-clause-none : goal.returns-clause-none
returns-clause-none c =
    subst (λ (count : ℕ). HasNoFlag (take count c.args.octets.now)) (sym c.unwrap_or.ensures) (no_flag_found c.args.octets.now c.memchr.result c.memchr.ensures)
