-- What a line says, by its parts.
use Rattle.std.proofs.Common.{◌≡◌, ◌+◌, ◌-◌, ◌==◌, ℕ, List, length, take, drop, Option, Some, None, Result, Ok, Err, ap, ◌∙◌}
use Rattle.std.specs.Prelude.{IfOk, position}
use Rattle.jt_value.specs.declared.memory.Memory.{Memory}
use Rattle.jt_script.specs.declared.world_event.WorldEvent.{WorldEvent}
use Rattle.jt_script.specs.declared.reading.EventLine.TheVariants as script
use Rattle.jt_script.specs.EventLines as script_lines
use Rattle.jt_script.proofs.WordsOfLines.{rest_is}
use Rattle.jt_fence_command.specs.declared.line.FenceLine.{FenceLine}
use Rattle.jt_fence_command.specs.declared.line.FenceLine.TheVariants.{Passed, Bad}
use Rattle.jt_fence_command.specs.declared.line.FenceWord.{FenceWord}
use Rattle.jt_fence_command.specs.FenceLines.{digits_say, event_says, named_says, parted_say, says, script_says, word_named, words_say}

follows : (result : Result FenceLine Memory) (one other : FenceLine) → one ≡ other → IfOk result (λ line. line ≡ one) → IfOk result (λ line. line ≡ other)
follows (Ok line) one other is same = same ∙ is
follows (Err memory) one other is same = tt

-- ---- a word and digits

pub no_space : (line : List ℕ) → None ≡ position (λ octet. octet == 32) line → Bad ≡ words_say line
unfolding words_say
no_space line none = ap (parted_say line) none

pub no_word : (line : List ℕ) (space : ℕ) → Some space ≡ position (λ octet. octet == 32) line → None ≡ word_named (take space line) → Bad ≡ words_say line
unfolding words_say
no_word line space at none = ap (λ (word : Option FenceWord). named_says word (drop (space + 1) line)) none ∙ ap (parted_say line) at

pub with_word : (line : List ℕ) (space : ℕ) (word : FenceWord) (result : Result FenceLine Memory) → Some space ≡ position (λ octet. octet == 32) line → Some word ≡ word_named (take space line)
    → IfOk result (λ said. said ≡ digits_say word (take (length line - (space + 1)) (drop (space + 1) line))) → IfOk result (λ said. said ≡ words_say line)
unfolding words_say
with_word line space word result at named said =
    follows result _ _
    (ap (digits_say word) (rest_is line (space + 1)) ∙ ap (λ (w : Option FenceWord). named_says w (drop (space + 1) line)) named ∙ ap (parted_say line) at) said

-- ---- a line

pub says_passed : (line : List ℕ) → script.Passed ≡ script_lines.says line → Passed ≡ says line
unfolding says
says_passed line is = ap (script_says line) is

pub says_event : (line : List ℕ) (event : WorldEvent) (result : Result FenceLine Memory) → script.Event event ≡ script_lines.says line → IfOk result (λ one. one ≡ event_says event)
    → IfOk result (λ one. one ≡ says line)
unfolding says
says_event line event result is one = follows result _ _ (ap (script_says line) is) one

pub says_words : (line : List ℕ) (result : Result FenceLine Memory) → script.Bad ≡ script_lines.says line → IfOk result (λ one. one ≡ words_say line) → IfOk result (λ one. one ≡ says line)
unfolding says
says_words line result is one = follows result _ _ (ap (script_says line) is) one
