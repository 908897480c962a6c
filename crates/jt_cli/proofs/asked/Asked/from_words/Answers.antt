use Rattle.jt_cli.proofs.Asking.{of_task, of_platform}
use Rattle.jt_cli.proofs.asked.Asked.from_words.Goals as goal

pub returns-in-Some : goal.returns-in-Some
returns-in-Some c = of_task _ _ c.in-Some.ensures

pub returns-in-Some-from_words : goal.returns-in-Some-from_words
returns-in-Some-from_words c = of_platform _ _ _ c.in-Some-from_words.ensures.some c.in-Some-from_words.ensures.that_one
