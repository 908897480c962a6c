use Rattle.std.proofs.Common.{refl, arith}
use Rattle.jt_input.proofs.Numbers.{reads_no_text, reads_no_number, reads_above, reads_number, reads_not_plain}
use Rattle.jt_input.proofs.decimals.number.Goals as goal

pub returns-in_default : goal.returns-in_default
returns-in_default c = reads_no_text _ _ (omega arith) c.in_default.ensures.cases.0

pub returns-in_default-parse : goal.returns-in_default-parse
returns-in_default-parse c = reads_no_number _ _ _ c.parse.result c.in_default-parse.field-0 (omega arith) c.in-Ok.ensures.cases.0 c.parse.ensures.value.0 c.in_default-parse.is

pub returns-then-number-most : goal.returns-then-number-most
returns-then-number-most c = reads_above _ _ _ _ c.parse.result (omega arith) c.in-Ok.ensures.cases.0 c.parse.ensures.value.0 c.in-Ok-parse.is c.if-number-most.true

pub returns-then-is_plain : goal.returns-then-is_plain
returns-then-is_plain c = reads_number _ _ _ _ c.parse.result (omega arith) c.in-Ok.ensures.cases.0 c.parse.ensures.value.0 c.in-Ok-parse.is c.if-number-most.false (c.if-is_plain.ensures.0 refl)

pub returns-else-is_plain : goal.returns-else-is_plain
returns-else-is_plain c = reads_not_plain _ _ (omega arith) c.if-is_plain.ensures.1
