use Rattle.jt_platform_command.specs.Platform.{platform_text}
use Rattle.jt_platform_command.proofs.Causes.{still_or_memory}
use Rattle.jt_platform_command.proofs.telling.tell_served.Goals as goal

pub returns-in-Ok-clause-write_still : goal.returns-in-Ok-clause-write_still
unfolding platform_text
returns-in-Ok-clause-write_still g c = λ other. still_or_memory _ _ _ (λ no. c.write_reply.ensures.still no other) c.write_reply.ensures.memory c.served_status.ensures
