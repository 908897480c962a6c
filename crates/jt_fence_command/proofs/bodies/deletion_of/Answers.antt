use Rattle.std.proofs.Common.{arith}
use Rattle.jt_fence_command.proofs.Reading.{deletion_is, few_ids, no_deletion}
use Rattle.jt_fence_command.proofs.bodies.deletion_of.Goals as goal

pub returns-in-Ok-clause-says : goal.returns-in-Ok-clause-says
returns-in-Ok-clause-says c = deletion_is c.law_deletions.ensures c.args.kind c.args.octets.now c.in-Ok.deletion (λ i. omega (arith, c.type_inv.octets i)) c.in-Ok.ensures

pub returns-in-Ok-clause-few : goal.returns-in-Ok-clause-few
returns-in-Ok-clause-few c = few_ids c.args.octets.now c.in-Ok.deletion c.in-Ok.ensures

pub returns-in-Err-Refused-clause-says : goal.returns-in-Err-Refused-clause-says
returns-in-Err-Refused-clause-says c =
    no_deletion c.law_deletions.ensures c.args.kind c.args.octets.now c.in-Err-Refused.field-0 _ (λ i. omega (arith, c.type_inv.octets i)) c.in-Err-Refused.field-0-is c.in-Err-Refused.ensures
