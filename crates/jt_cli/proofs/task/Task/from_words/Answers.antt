use Rattle.std.proofs.Common.{string_bytes}
use Rattle.jt_cli.proofs.TaskWords.{of_first, of_none}
use Rattle.jt_cli.proofs.task.Task.from_words.Goals as goal

pub returns-in-Some : goal.returns-in-Some
returns-in-Some c = of_first string_bytes _ _ _ _ _ c.in-Some.ensures.cases.0 c.as_str.ensures.value c.task_in.ensures

pub returns-in-None : goal.returns-in-None
returns-in-None c = of_none string_bytes _ c.in-None.ensures.cases
