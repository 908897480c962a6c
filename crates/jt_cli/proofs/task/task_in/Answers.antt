use Rattle.std.proofs.Common.{string_bytes}
use Rattle.jt_cli.proofs.TaskWords.{of_more, of_one, of_two}
use Rattle.jt_cli.proofs.task.task_in.Goals as goal

pub returns-then-is_empty : goal.returns-then-is_empty
returns-then-is_empty c = of_two string_bytes _ _ _ _ _ _ c.in-Some.ensures.cases.0 (cc (c.is_empty.ensures, c.if-is_empty.true)) c.as_str.ensures.value c.valued.ensures

pub returns-else-is_empty : goal.returns-else-is_empty
returns-else-is_empty c = of_more string_bytes _ _ _ _ c.in-Some.ensures.cases.0 (cc (c.is_empty.ensures, c.if-is_empty.false))

pub returns-in-None : goal.returns-in-None
returns-in-None c = of_one string_bytes _ _ _ c.in-None.ensures.cases c.named.ensures
