use Rattle.jt_cli.proofs.Asking.{of_relay}
use Rattle.jt_cli.proofs.asked.relay_in.Goals as goal

pub returns-in-Some : goal.returns-in-Some
returns-in-Some c = of_relay _ _ c.in-Some.ensures.some c.in-Some.ensures.that_one c.requires.task c.requires.platform
