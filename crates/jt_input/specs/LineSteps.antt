-- What one step over the octets of a text input does. A step function for the proofs.
use Rattle.std.specs.Prelude.{ℕ, ◌+◌, ◌≤◌, List, length, Option, take}
use Rattle.jt_input.specs.Cutter.{Held, room_of}
use Rattle.jt_input.specs.Lines.{Outcome, HasHeard, HasClosed, answer_of}
use Rattle.jt_input.specs.Telling.{GoesOn, Settles}
use Rattle.jt_input.specs.declared.line_teller.Step.{Step}
use Rattle.jt_input.specs.declared.line_teller.Step.TheVariants.{More, Heard, Settled}
use Rattle.jt_input.specs.declared.status.Status.{Status}

module _ {H : Type 0} (outcome : H → ℕ → List (List ℕ) → Outcome H) where
  -- octets were taken and their lines heard, this was printed of them, and the input stays open
  pub record TakesOn (old new : H) (held held_now : Held) (bad bad_now : Option ℕ) (octets text text_now : List ℕ) : Type 0 where
    pub goes : GoesOn (answer_of outcome) (λ first. HasHeard outcome first old held bad) (λ first. HasHeard outcome first new held_now bad_now) octets text text_now
    pub room : room_of held_now + length octets ≤ room_of held

  -- octets settled the answer, whatever follows, and it was printed
  abbrev pub TakesLast : H → H → Held → Option ℕ → Option ℕ → List ℕ → List ℕ → List ℕ → Status → Type 0
  TakesLast old new held bad bad_now octets text text_now status =
      Settles (answer_of outcome) (λ first. HasHeard outcome first old held bad) (λ first. HasClosed outcome first new bad_now) octets text text_now status

  abbrev pub Steps : Step → H → H → Held → Held → Option ℕ → Option ℕ → List ℕ → List ℕ → List ℕ → Type 0
  Steps More old new held held_now bad bad_now octets text text_now = TakesOn old new held held_now bad bad_now octets text text_now
  Steps (Heard taken) old new held held_now bad bad_now octets text text_now =
      (taken ≤ length octets) × TakesOn old new held held_now bad bad_now (take taken octets) text text_now
  Steps (Settled status) old new held held_now bad bad_now octets text text_now = TakesLast old new held bad bad_now octets text text_now status
