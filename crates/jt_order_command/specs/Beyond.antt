-- A line beyond the limits is bad, whatever it says. A step for the proofs: a ghost member of the hearer cites it.
use Rattle.std.specs.Prelude.{◌≡◌, ℕ, ◌+◌, if◌then◌else◌, Bool, false, List, ◌∷◌}
use Rattle.std.proofs.Common.{ap}
use Rattle.jt_input.specs.Text.{is_within}
use Rattle.jt_input.specs.Lines.{bad_outcome}
use Rattle.jt_order_play.specs.Scripts.{OrderScene}
use Rattle.jt_order_command.specs.Lines.{meaning, order_says}
use Rattle.jt_order_command.specs.Script.{after_line, outcome_of}
use Rattle.jt_order_command.specs.declared.reading.OrderLine.{OrderLine}
use Rattle.jt_order_command.specs.declared.reading.OrderLine.TheVariants.{Bad}

beyond_meaning : (number : ℕ) (line : List ℕ) → is_within number line ≡ false → meaning number line ≡ Bad
unfolding meaning
beyond_meaning number line e = ap (λ (b : Bool). if b then order_says line else Bad) e

pub beyond_is_bad : (s : OrderScene) (number : ℕ) (line : List ℕ) (more : List (List ℕ)) → is_within number line ≡ false
    → outcome_of s number (line ∷ more) ≡ bad_outcome s number
beyond_is_bad s number line more e =
    ap (λ (said : OrderLine). after_line s number (λ next. outcome_of next (number + 1) more) said) (beyond_meaning number line e)
