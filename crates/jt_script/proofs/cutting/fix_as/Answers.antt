use Rattle.std.proofs.Common.{arith}
use Rattle.jt_script.proofs.WordsOfLines.{refused_fix}
use Rattle.jt_script.proofs.cutting.fix_as.Goals as goal

pub returns-in-Err-Refused : goal.returns-in-Err-Refused
returns-in-Err-Refused c =
    refused_fix c.law_positions.ensures.one_to_one c.args.octets.now c.in-Err-Refused.field-0 c.in-Err-Refused.field-0-0 (λ i. omega (arith, c.type_inv.octets i))
    c.in-Err-Refused.field-0-is c.in-Err-Refused.ensures
