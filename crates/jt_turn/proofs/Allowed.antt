-- What `atomic_table` asks for each step.
use Rattle.std.proofs.Common.{◌≡◌, ℕ, suc, ◌+◌, ◌%◌, ◌^◌, Bool, true, false, List, [], ◌∷◌, set, refl, ap, sym, ◌∙◌, eqb}
use Rattle.std.specs.Prelude.{slice_index, MatchBool, Option, Some}
use mathlib.Core.Option.{none}
use Rattle.atomic_table.specs.Table.{State, Me, Act, keeps, takes, gives, stepped, step, Allows, Valid, carried_after}
use Rattle.std.proofs.lemmas.Bool.{eqb-true}
use Rattle.jt_turn.specs.declared.entry.Entry.{Entry}
use Rattle.jt_turn.specs.declared.known.Known.{Known}
use Rattle.jt_turn.specs.Rules.{Kept, At, Draws, Looks, Publishes, Meets, Acted, taking, publishing}
use Rattle.jt_turn.proofs.Drawing.{changes_aside, draws, nobody_turned, is_served, takes_turn, met, stays}
use Rattle.jt_turn.proofs.Publishing.{gives_back}

module _ {D A B O : Type 0} (history_of : D → List (Entry A B)) (faults_of : D → ℕ) (opening_of : D → O) where
  pub allows_draw : (id : ℕ) (k : Known A B O) → k.waits ≡ false → k.turn ≡ false
      → Allows (Kept history_of faults_of opening_of) 1 id (Some k, []) 0 (λ n. (n + 1) % 2 ^ 64) (Draws history_of faults_of opening_of (step 1 0 1 0 none) (Some k, []))
  allows_draw id k idle unturned = λ s h n at w.
      (Some (record k { waits = true; ticket = h.0.drawn }), keeps, tt, (record h.0 { drawn = h.0.drawn + 1 }, draws history_of faults_of opening_of h.0 s id k h.1 at idle unturned), (h.0.drawn, sym (ap (λ l. slice_index l 0) h.1.words), refl))

  abbrev Looked : State (Option D) (Option (Known A B O)) → ℕ → Known A B O → Bool → Type 0
  Looked s id k b = (w : Option (Known A B O)) × (a : Act (Option D)) × Valid s.homes [] a × Kept history_of faults_of opening_of (stepped s 1 (slice_index s.words 1) id [] w a)
      × MatchBool b ((d : D) × (◌≡◌ {A = Me (Option D) (Option (Known A B O))} (w, carried_after [] a) (Some (taking history_of faults_of opening_of d k), (0, Some d) ∷ [])) × Meets history_of faults_of opening_of k d) (◌≡◌ {A = Me (Option D) (Option (Known A B O))} (w, carried_after [] a) (Some k, []))

  looked : (s : State (Option D) (Option (Known A B O))) (id : ℕ) (k : Known A B O) → Kept history_of faults_of opening_of s → At s.views id k → k.waits ≡ true → k.turn ≡ false
      → (b : Bool) → eqb (slice_index s.words 1) (k.ticket % 2 ^ 64) ≡ b → Looked s id k b
  looked s id k h at waits unturned true is =
      let word : slice_index s.words 1 ≡ h.0.served % 2 ^ 64 = ap (λ l. slice_index l 1) h.1.words in
      let equal : slice_index s.words 1 ≡ k.ticket % 2 ^ 64 = eqb-true (slice_index s.words 1) (k.ticket % 2 ^ 64) is in
      let served = is_served history_of faults_of opening_of h.0 s id k h.1 at waits (sym word ∙ equal) in
      let d = h.1.home (nobody_turned history_of faults_of opening_of h.0 s id k h.1 at waits unturned served) in
      (Some (taking history_of faults_of opening_of d.0 k), takes 0 (Some d.0), d.1, (h.0, takes_turn history_of faults_of opening_of h.0 s id k d.0 h.1 at waits served d.2), (d.0, refl, met history_of faults_of opening_of h.0 s id k d.0 h.1 at d.2))
  looked s id k h at waits unturned false is = (Some k, keeps, tt, (h.0, stays history_of faults_of opening_of h.0 s 1 id (Some k) [] h.1 at), refl)

  pub allows_look : (id : ℕ) (k : Known A B O) → k.waits ≡ true → k.turn ≡ false
      → Allows (Kept history_of faults_of opening_of) 1 id (Some k, []) 1 (λ n. n) (Looks history_of faults_of opening_of (step 1 1 0 0 none) (Some k, []))
  allows_look id k waits unturned = λ s h n at w. looked s id k h at waits unturned (eqb (slice_index s.words 1) (k.ticket % 2 ^ 64)) refl

  pub allows_publish : (id : ℕ) (k : Known A B O) (d : D) → k.turn ≡ true → Acted history_of faults_of opening_of k d
      → Allows (Kept history_of faults_of opening_of) 1 id (Some k, (0, Some d) ∷ []) 1 (λ n. (n + 1) % 2 ^ 64) (Publishes history_of faults_of opening_of (step 1 1 1 0 none) (Some k, (0, Some d) ∷ []))
  allows_publish id k d turned acted = λ s h n at w.
      (Some (publishing history_of faults_of opening_of d k), gives, tt, (record h.0 { history = history_of d; faults = faults_of d; served = h.0.served + 1 }, gives_back history_of faults_of opening_of h.0 s id k d h.1 at turned acted n), (d, refl, refl))

  pub allows_aside : (id i : ℕ) (me : Me (Option D) (Option (Known A B O))) (f : ℕ → ℕ)
      → Allows (Kept history_of faults_of opening_of) 1 id me (suc (suc i)) f (λ _ after. after ≡ me)
  allows_aside id i me f = λ s h n at w.
      (me.0, keeps, tt, (record h.0 { aside = set h.0.aside i (f (slice_index s.words (suc (suc i)))) }, changes_aside history_of faults_of opening_of h.0 s i (f (slice_index s.words (suc (suc i)))) id me.0 me.1 h.1 at), refl)
