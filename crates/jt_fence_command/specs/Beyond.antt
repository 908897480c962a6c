-- A line beyond the limits is bad, whatever it says. A step for the proofs: a ghost member of the hearer cites it.
use Rattle.std.specs.Prelude.{◌≡◌, ℕ, ◌+◌, if◌then◌else◌, Bool, false, List, ◌∷◌}
use Rattle.std.proofs.Common.{ap}
use Rattle.jt_input.specs.Text.{is_within}
use Rattle.jt_input.specs.Lines.{bad_outcome}
use Rattle.jt_fence_command.specs.declared.alarm_tally.AlarmTally.{AlarmTally}
use Rattle.jt_fence_command.specs.declared.line.FenceLine.{FenceLine}
use Rattle.jt_fence_command.specs.declared.line.FenceLine.TheVariants.{Bad}
use Rattle.jt_fence_command.specs.FenceLines.{meaning, says}
use Rattle.jt_fence_command.specs.Tally.{after_line, outcome_of}

beyond_meaning : (number : ℕ) (line : List ℕ) → is_within number line ≡ false → meaning number line ≡ Bad
unfolding meaning
beyond_meaning number line e = ap (λ (b : Bool). if b then says line else Bad) e

pub beyond_is_bad : (tally : AlarmTally) (number : ℕ) (line : List ℕ) (more : List (List ℕ)) → is_within number line ≡ false
    → outcome_of tally number (line ∷ more) ≡ bad_outcome tally number
beyond_is_bad tally number line more e =
    ap (λ (says : FenceLine). after_line tally number (λ next. outcome_of next (number + 1) more) says) (beyond_meaning number line e)
