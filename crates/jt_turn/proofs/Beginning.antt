-- The turn as it begins meets the rule.
use Rattle.std.proofs.Common.{◌≡◌, ℕ, zero, suc, List, [], ◌∷◌, refl, sym, subst, arith}
use Rattle.std.specs.Prelude.{Some}
use Rattle.std.proofs.lemmas.Bool.{true≢false}
use mathlib.Core.Option.{some-ne-none, some-injective}
use Rattle.atomic_table.specs.Table.{opening}
use Rattle.jt_turn.specs.declared.entry.Entry.{Entry}
use Rattle.jt_turn.specs.declared.known.Known.{Known}
use Rattle.jt_turn.specs.Rules.{Published, Kept, Fits, At, newcomer, first_of}
use Rattle.jt_turn.proofs.Views.{same_some}
use Rattle.jt_turn.proofs.Publishing.{prefix_self}

module _ {D A B O : Type 0} (history_of : D → List (Entry A B)) (faults_of : D → ℕ) (opening_of : D → O) where
  alone : (d : D) (P : ℕ → Known A B O → Type 0) → P 0 (first_of history_of faults_of opening_of d) → (i : ℕ) (k : Known A B O) → At (newcomer history_of faults_of opening_of d ∷ []) i k → P i k
  alone d P here zero k at = subst (P 0) (same_some (some-injective (Some (first_of history_of faults_of opening_of d)) (Some k) at)) here
  alone d P here (suc i) k at = absurd (some-ne-none (Some k) (sym at))

  pub begins : (aside : List ℕ) (d : D) → history_of d ≡ [] → Kept history_of faults_of opening_of (opening (0 ∷ 0 ∷ aside) (Some d ∷ []) (newcomer history_of faults_of opening_of d))
  begins aside d empty =
      let p : Published A B O = record { history = []; faults = faults_of d; opening = opening_of d; base = faults_of d; drawn = 0; served = 0; aside = aside; ended = []; lent = 0; given = 0 } in
      let one = alone d in (
        p,
        record {
          words = refl;
          queue = omega arith;
          room = omega arith;
          small = omega arith;
          lent = omega arith;
          failed = omega arith;
          fits = alone d (λ i k. Fits p k) (record { opening = refl; base = refl; seen = prefix_self []; heard = prefix_self []; mine = refl; faults = omega arith; ticket = λ e. absurd (true≢false (sym e)); turn = λ e. absurd (true≢false (sym e)); below = omega arith; before = refl; root = λ e. (refl, refl, refl) });
          tickets = λ i j k l at at' r. alone d (λ i k. i ≡ j) (alone d (λ j l. 0 ≡ j) refl j l at') i k at;
          numbers = λ i j k l at at' r. alone d (λ i k. i ≡ j) (alone d (λ j l. 0 ≡ j) refl j l at') i k at;
          home = λ none. (d, refl, record { history = empty; faults = refl; opening = refl });
          ended = λ m e at. absurd (some-ne-none e (sym at));
          others = λ n unheld unended. refl;
        },
      )
