use Rattle.std.proofs.Common.{ℕ, subst, sym, take}
use Rattle.jt_escape.specs.Scan.{IsPlain}
use Rattle.jt_escape.proofs.Runs.{plain_found}
use Rattle.jt_escape.proofs.splitter.plain_len.Goals as goal

pub returns-clause-plain : goal.returns-clause-plain
returns-clause-plain c =
    subst (λ (count : ℕ). IsPlain (take count c.args.octets.now)) (sym c.unwrap_or.ensures) (plain_found c.args.octets.now c.memchr2.result c.memchr2.ensures)
