-- What the desk does in a turn, for the pass.
use Rattle.std.proofs.Common.{◌≡◌, ◌≢◌, ℕ, ◌==◌, ◌≤◌, Bool, true, false, List, [], ◌∷◌, ◌++◌, refl, ap, sym, ◌∙◌, subst, eq-eqb, ne_eqb}
use Rattle.std.proofs.lemmas.List.Elements.{filter-append}
use Rattle.std.specs.Prelude.{Option, Some, None}
use Rattle.jt_turn.specs.declared.entry.Entry.{Entry}
use Rattle.jt_turn.specs.declared.known.Known.{Known}
use Rattle.jt_turn.specs.Histories.{entries_of, entry_if}
use Rattle.jt_turn.specs.Seats.{Acts}
use Rattle.atomic_table.specs.Table.{Me, rest}
use Rattle.jt_turn.specs.Rules.{Meets, Acted, HasActed, taking, publishing, GaveBack}
use Rattle.jt_turn.proofs.Views.{same_some}

-- a seat by its view and its slots
pub seat_is : {S V : Type 0} (me : Me S V) (v : V) (c : List (ℕ × S)) → me.0 ≡ v → me.1 ≡ c → me ≡ (v, c)
seat_is me v c view slots = λ i. (view i, slots i)

first_or : {S : Type 0} → S → List (ℕ × S) → S
first_or d [] = d
first_or d (y ∷ ys) = y.1

pub taken_is : {S V : Type 0} (me : Me S V) (v : V) (x r : S) (xs : List (ℕ × S)) → me ≡ (v, (0, x) ∷ []) → me.1 ≡ (0, r) ∷ xs → x ≡ r
unfolding first_or
taken_is {S} {V} me v x r xs e h = ap (first_or x) (sym (ap (λ (m : Me S V). m.1) e) ∙ h)

pub one_slot : {S : Type 0} (c : List (ℕ × S)) (x : S) → c ≡ (0, x) ∷ [] → c ≡ (0, x) ∷ rest c
one_slot {S} c x e = e ∙ ap (λ (l : List (ℕ × S)). (0, x) ∷ rest l) (sym e)

module _ {A B : Type 0} where
  pub own_entries : (b : Bool) (n : ℕ) (ask : A) (answer : B) → entries_of n (entry_if b n ask answer) ≡ entry_if b n ask answer
  own_entries true n ask answer = rw (eq-eqb n n refl) refl
  own_entries false n ask answer = refl

  pub other_entries : (b : Bool) (n m : ℕ) (ask : A) (answer : B) → m ≢ n → entries_of m (entry_if b n ask answer) ≡ []
  other_entries true n m ask answer ne = rw (ne_eqb n m (λ e. ne (sym e))) refl
  other_entries false n m ask answer ne = refl

module _ {D A B O : Type 0} (history_of : D → List (Entry A B)) (faults_of : D → ℕ) (opening_of : D → O) where
  pub has_acted : (k : Known A B O) (d after : D) (b : Bool) (ask : A) (answer : B) → Meets history_of faults_of opening_of k d
      → opening_of after ≡ opening_of d → faults_of d ≤ faults_of after → history_of after ≡ history_of d ++ entry_if b k.number ask answer
      → Acted history_of faults_of opening_of (taking history_of faults_of opening_of d k) after
  has_acted k d after b ask answer met opening faults history = record {
    opening = opening ∙ met.opening;
    faults = faults;
    history = (entry_if b k.number ask answer, history, λ n ne. other_entries b k.number n ask answer ne);
  }

  pub acts : (gives : O → List (Entry A B) → ℕ → ℕ → ℕ → A → B → Type 0) (enters : B → Bool) (k : Known A B O) (d after : D) (ask : A) (answer : B) → Meets history_of faults_of opening_of k d
      → opening_of after ≡ opening_of d → faults_of d ≤ faults_of after → history_of after ≡ history_of d ++ entry_if (enters answer) k.number ask answer
      → gives (opening_of d) (history_of d) (faults_of d) (faults_of after) k.number ask answer
      → Acts gives enters k ask answer (publishing history_of faults_of opening_of after (taking history_of faults_of opening_of d k))
  acts gives enters k d after ask answer met opening faults history given = record {
    found = met.seen;
    found_mine = met.mine;
    found_faults = met.faults;
    answers = subst (λ o. gives o (history_of d) (faults_of d) (faults_of after) k.number ask answer) met.opening given;
    seen = history;
    mine = ap (λ l. entries_of k.number l) history ∙ (filter-append (λ (e : Entry A B). e.number == k.number) (history_of d) (entry_if (enters answer) k.number ask answer) ∙ (ap (λ l. l ++ entries_of k.number (entry_if (enters answer) k.number ask answer)) met.mine ∙ ap (λ l. k.mine ++ l) (own_entries (enters answer) k.number ask answer)));
    faults = faults;
    failed = refl;
    number = refl;
    opening = refl;
    base = refl;
    ended = refl;
    lent = refl;
    given = refl;
  }

  number_of : Option (Known A B O) → ℕ
  number_of None = 0
  number_of (Some k) = k.number

  pub same_number : (me : Me (Option D) (Option (Known A B O))) (k l : Known A B O) (c e : List (ℕ × Option D)) → me ≡ (Some k, c) → me ≡ (Some l, e) → k.number ≡ l.number
  unfolding number_of
  same_number me k l c e h m = ap number_of (sym (ap (λ (m : Me (Option D) (Option (Known A B O))). m.0) h) ∙ ap (λ (m : Me (Option D) (Option (Known A B O))). m.0) m)

  pub published : (before after : Me (Option D) (Option (Known A B O))) (t : Known A B O) (x : D) → before ≡ (Some t, (0, Some x) ∷ []) → GaveBack history_of faults_of opening_of before after
      → after ≡ (Some (publishing history_of faults_of opening_of x t), [])
  published before after t x e told =
      let q = subst (λ b. GaveBack history_of faults_of opening_of b after) e told in
      let same : x ≡ q.0 = same_some (taken_is (Some t, (0, Some x) ∷ []) (Some t) (Some x) (Some q.0) [] refl q.1) in
      subst (λ z. after ≡ (Some (publishing history_of faults_of opening_of z t), [])) (sym same) q.2

  pub has_acted_as : (gives : O → List (Entry A B) → ℕ → ℕ → ℕ → A → B → Type 0) (enters : B → Bool) (k : Known A B O) (n : ℕ) (d after : D) (ask : A) (answer : B) → k.number ≡ n → Meets history_of faults_of opening_of k d
      → HasActed history_of faults_of opening_of gives enters n ask answer d after → Acted history_of faults_of opening_of (taking history_of faults_of opening_of d k) after
  has_acted_as gives enters k n d after ask answer e met a = has_acted k d after (enters answer) ask answer met a.opening a.faults (subst (λ m. history_of after ≡ history_of d ++ entry_if (enters answer) m ask answer) (sym e) a.history)

  pub acts_as : (gives : O → List (Entry A B) → ℕ → ℕ → ℕ → A → B → Type 0) (enters : B → Bool) (k : Known A B O) (n : ℕ) (d after : D) (ask : A) (answer : B) → k.number ≡ n → Meets history_of faults_of opening_of k d
      → HasActed history_of faults_of opening_of gives enters n ask answer d after → Acts gives enters k ask answer (publishing history_of faults_of opening_of after (taking history_of faults_of opening_of d k))
  acts_as gives enters k n d after ask answer e met a =
      acts gives enters k d after ask answer met a.opening a.faults (subst (λ m. history_of after ≡ history_of d ++ entry_if (enters answer) m ask answer) (sym e) a.history) (subst (λ m. gives (opening_of d) (history_of d) (faults_of d) (faults_of after) m ask answer) (sym e) a.answer_is)

module _ {A B O : Type 0} where
  -- the ticket is no part of what an act says
  pub acts_whole : (gives : O → List (Entry A B) → ℕ → ℕ → ℕ → A → B → Type 0) (enters : B → Bool) (k after : Known A B O) (t : ℕ) (ask : A) (answer : B)
      → Acts gives enters (record k { waits = true; ticket = t }) ask answer after → Acts gives enters k ask answer after
  acts_whole gives enters k after t ask answer a = record { found = a.found; found_mine = a.found_mine; found_faults = a.found_faults; answers = a.answers; seen = a.seen; mine = a.mine; faults = a.faults; failed = a.failed; number = a.number; opening = a.opening; base = a.base; ended = a.ended; lent = a.lent; given = a.given }
