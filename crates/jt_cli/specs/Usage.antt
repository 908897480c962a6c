-- What words that are no command are answered: this project's text. To be believed.
use Rattle.std.specs.Prelude.{ℕ, List, codes}
use Rattle.jt_input.specs.Reply.{Reply}
use Rattle.jt_input.specs.declared.status.Status.TheVariants.{Usage}

-- what every faulty command line is answered
unfoldable pub usage_line : List ℕ
usage_line = codes "usage: jt808 view|check|rehearse|make|platform|report|orders|fence|relay|gateway\n"

-- the answer for words that are no command
unfoldable pub usage : Reply
usage = record { text = usage_line; status = Usage }
