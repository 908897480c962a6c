-- What a seat of the table keeps for a pass, before, in and after an act. For the proofs, but for `told`, which is to be believed, with
-- `shown` and `known_or`: it says what a pass shows.
use Rattle.std.specs.Prelude.{◌≡◌, ◌≤◌, ◌+◌, ◌%◌, ◌^◌, ◌++◌, ◌∷◌, ◌==◌, if◌then◌else◌, ℕ, Bool, true, false, List, [], Option, Some, None, IfSome}
use mathlib.Core.List.{IsPrefix}
use Rattle.jt_turn.specs.declared.entry.Entry.{Entry}
use Rattle.jt_turn.specs.declared.known.Known.{Known}
use Rattle.jt_turn.specs.Histories.{entries_of, entry_if}
use Rattle.jt_turn.specs.Passes.{PassState, TurnId}
use Rattle.jt_turn.specs.Rules.{taking, Meets}
use Rattle.atomic_table.specs.Table.{Me}

module _ {A B O : Type 0} where
  -- what contracts see of a view
  abbrev pub shown : TurnId → Known A B O → PassState A B O
  shown t k = record { turn = t; number = k.number; opening = k.opening; base = k.base; seen = k.seen; mine = k.mine; faults = k.faults; found = k.found; found_faults = k.found_faults; failed = k.failed; ended = k.ended; lent = k.lent; given = k.given }

  -- the view of a seat; where its pass was joined there is none, and any will do
  abbrev pub known_or : O → Option (Known A B O) → Known A B O
  known_or o None = record { number = 0; waits = false; turn = false; ticket = 0; opening = o; base = 0; seen = []; heard = []; mine = []; faults = 0; found = []; found_faults = 0; failed = 0; ended = []; lent = 0; lent_before = 1; given = 0 }
  known_or o (Some k) = k

  -- what contracts see of a seat
  abbrev pub told : O → TurnId → Option (Known A B O) → PassState A B O
  told o t view = shown t (known_or o view)

  -- between two calls: the seat has a view, holds no slot, and waits for no turn
  pub record PassOk {S : Type 0} (number : ℕ) (me : Me S (Option (Known A B O))) : Type 0 where
    pub known : (k : Known A B O) × (me ≡ (Some k, [])) × (number ≡ k.number) × (k.waits ≡ false) × (k.turn ≡ false)

  -- between the draw and the turn
  pub record Waits {S : Type 0} (ticket : ℕ) (me : Me S (Option (Known A B O))) : Type 0 where
    pub known : (k : Known A B O) × (me ≡ (Some k, [])) × (k.ticket % 2 ^ 64 ≡ ticket) × (k.waits ≡ true) × (k.turn ≡ false)

  -- what an act does to what its view knows
  pub record Acts (gives : O → List (Entry A B) → ℕ → ℕ → ℕ → A → B → Type 0) (enters : B → Bool) (k : Known A B O) (ask : A) (answer : B) (after : Known A B O) : Type 0 where
    pub found : IsPrefix k.seen after.found
    pub found_mine : entries_of k.number after.found ≡ k.mine
    pub found_faults : k.faults ≤ after.found_faults
    pub answers : gives k.opening after.found after.found_faults after.faults k.number ask answer
    pub seen : after.seen ≡ after.found ++ entry_if (enters answer) k.number ask answer
    pub mine : after.mine ≡ k.mine ++ entry_if (enters answer) k.number ask answer
    pub faults : after.found_faults ≤ after.faults
    pub failed : after.failed ≡ k.failed + (if after.faults == after.found_faults then 0 else 1)
    pub number : after.number ≡ k.number
    pub opening : after.opening ≡ k.opening
    pub base : after.base ≡ k.base
    pub ended : after.ended ≡ k.ended
    pub lent : after.lent ≡ k.lent
    pub given : after.given ≡ k.given

module _ {D A B O : Type 0} (history_of : D → List (Entry A B)) (faults_of : D → ℕ) (opening_of : D → O) where
  -- the seat has the desk
  abbrev pub Took : Me (Option D) (Option (Known A B O)) → Me (Option D) (Option (Known A B O)) → Type 0
  Took before after = IfSome before.0 (λ k. (d : D) × (after ≡ (Some (taking history_of faults_of opening_of d k), (0, Some d) ∷ [])) × Meets history_of faults_of opening_of k d)
