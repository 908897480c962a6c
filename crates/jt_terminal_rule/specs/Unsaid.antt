-- What a terminal may still say on its line at messages of the platform (this project's own). To be believed.
use Rattle.std.specs.Prelude.{ℕ, ◌+◌, ◌-◌, ◌≤◌, length}
use Rattle.jt_header.specs.declared.header.Header.{Header}
use Rattle.jt_codec.specs.declared.message.Message.{Message}
use Rattle.jt_terminal_rule.specs.declared.state.State.{State}
use Rattle.jt_terminal_rule.specs.declared.state.Phase.{Phase}
use Rattle.jt_terminal_rule.specs.declared.state.Phase.TheVariants.{Down, Registering, Authenticating, Live}
use Rattle.jt_terminal_rule.specs.Answers.{Answer, answer_to}
use Rattle.jt_terminal_rule.specs.Rule.{answers, on_message, sends}

-- the units that were not sent on this line, and the fixes that wait
abbrev pub unsent : State → ℕ
unsent s = (length s.units - s.sent) + length s.waiting

-- these, and the authentication while the terminal registers; nothing without a line
abbrev pub unsaid_in : Phase → State → ℕ
unsaid_in Down s = 0
unsaid_in (Registering serial) s = 1 + unsent s
unsaid_in (Authenticating serial) s = unsent s
unsaid_in (Live serial) s = unsent s

abbrev pub unsaid : State → ℕ
unsaid s = unsaid_in s.phase s

-- how many frames an answer has in this phase: none unless the terminal is Live
abbrev pub frames_in : Phase → State → Answer → ℕ
frames_in Down s a = 0
frames_in (Registering serial) s a = 0
frames_in (Authenticating serial) s a = 0
frames_in (Live serial) s a = length (sends s.settings (answers s a).steps)

-- how many frames the terminal answers the message with
abbrev pub frames_of_answer : State → Header → Message → ℕ
frames_of_answer s h m = frames_in s.phase s (answer_to s h m)

-- At a message of the platform each frame that is sent, but for those of the answer, is one less that may still be said. Responses and
-- replies have no answer.
abbrev pub EachFrameIsOneLess : Type 0
EachFrameIsOneLess = (s : State) (h : Header) (m : Message) → s.sent ≤ length s.units → length (sends s.settings (on_message s h m).steps) + unsaid (on_message s h m).state ≤ frames_of_answer s h m + unsaid s
