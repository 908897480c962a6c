use Rattle.std.proofs.Common.{sym, subst, arith}
use Rattle.jt_header.specs.Content.{IsPacket}
use Rattle.jt_subpacket.specs.Steps.{AreKept}
use Rattle.jt_subpacket.proofs.Kept.{bounded, kept_taken}
use Rattle.jt_subpacket.specs.Fates.{IsWithinLimits}
use Rattle.jt_subpacket.proofs.Limits.{within}
use Rattle.jt_subpacket.proofs.assembler.Assembler.take.Goals as goal

pub invariant_of-self-in-Some : goal.invariant_of-self-in-Some
invariant_of-self-in-Some c =
    let fields = subst IsPacket c.in-Some.is c.requires.packet in
    subst AreKept (sym c.in_ok-taken-in-Some.ensures.ok) (kept_taken c.self.inside.partials.items c.args.header.now c.args.body.now c.in-Some.packet c.self.invariant (omega arith) (omega arith) c.requires.short)

pub returns-in_err-taken-in-Some-clause-bound : goal.returns-in_err-taken-in-Some-clause-bound
returns-in_err-taken-in-Some-clause-bound c = bounded _ (subst AreKept (sym c.in_err-taken-in-Some.ensures.err) c.self.invariant)

pub returns-clause-bound : goal.returns-clause-bound
returns-clause-bound c = bounded _ (invariant_of-self-in-Some c)

pub returns-clause-limits : goal.returns-clause-limits
returns-clause-limits c =
    let fields = subst IsPacket c.in-Some.is c.requires.packet in
    subst IsWithinLimits (sym c.in_ok-taken-in-Some.ensures.fate) (within c.self.inside.partials.items c.args.header.now c.args.body.now c.in-Some.packet c.self.invariant (omega arith) (omega arith) c.requires.short)
