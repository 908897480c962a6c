-- What `report` prints of its attempts, and its status: this project's own texts. To be believed.
use Rattle.std.specs.Prelude.{ℕ, ◌+◌, List, [], ◌∷◌, ◌++◌, codes}
use Rattle.std.specs.Fmt.{decimal}
use Rattle.jt_input.specs.Reply.{Reply}
use Rattle.jt_input.specs.EarlyEnds.{early_reply}
use Rattle.jt_input.specs.declared.early_end.EarlyEnd.TheVariants as early
use Rattle.jt_input.specs.declared.status.Status.TheVariants as status
use Rattle.jt_text.specs.Values.{octets_text}
use Rattle.jt_agent.specs.declared.ending.AttemptEnd.{AttemptEnd}
use Rattle.jt_agent.specs.declared.ending.AttemptEnd.TheVariants as how
use Rattle.jt_agent.specs.declared.reporting.Outcome.{Outcome}
use Rattle.jt_agent.specs.declared.reporting.Outcome.TheVariants as outcome

-- the body of the platform's refusal, as digits
unfoldable pub denial_text : List ℕ → List ℕ
denial_text reply = codes "denied " ++ octets_text reply

-- the moments at which the first wait began and the terminal gave up, in milliseconds
unfoldable pub timeout_text : ℕ → ℕ → List ℕ
timeout_text since moment = codes "timeout " ++ decimal since ++ codes " " ++ decimal moment

-- how an attempt ended
abbrev pub end_text : AttemptEnd → List ℕ
end_text how.Dial = codes "dial"
end_text how.Link = codes "link"
end_text how.End = codes "end"
end_text (how.Denied reply) = denial_text reply
end_text (how.TimedOut since moment) = timeout_text since moment
end_text how.Idle = codes "idle"
end_text how.Spent = codes "spent"

unfoldable pub try_number : ℕ → List ℕ
try_number number = codes "try " ++ decimal number ++ codes " "

-- the line of an attempt, by its number
unfoldable pub try_line : ℕ → AttemptEnd → List ℕ
try_line number end = try_number number ++ (end_text end ++ codes "\n")

-- a line for each attempt, the first of this number
abbrev pub try_lines : ℕ → List AttemptEnd → List ℕ
try_lines number [] = []
try_lines number (end ∷ ends) = try_line number end ++ try_lines (number + 1) ends

-- how many of the recorded fixes are accepted
unfoldable pub totals_line : ℕ → ℕ → List ℕ
totals_line accepted recorded = codes "accepted=" ++ decimal accepted ++ codes " of " ++ decimal recorded ++ codes "\n"

-- What attempts came to, with these totals of the vault. A vault that failed has no totals; of want of memory there is no text.
unfoldable pub outcome_reply : Outcome → ℕ → ℕ → Reply
outcome_reply (outcome.Done ends) accepted recorded = record { text = try_lines 1 ends ++ totals_line accepted recorded; status = status.Done }
outcome_reply (outcome.Unsent ends) accepted recorded = record { text = try_lines 1 ends ++ totals_line accepted recorded; status = status.Unsent }
outcome_reply (outcome.StoreFault ends) accepted recorded = record { text = try_lines 1 ends ++ (early_reply early.StoreFault).text; status = status.StoreFault }
outcome_reply outcome.Memory accepted recorded = record { text = []; status = status.Memory }
