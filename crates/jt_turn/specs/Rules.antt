-- The rule of the table that carries a turn, and what its steps tell. For the proofs; no public clause cites it.
-- The first word is the next ticket to be drawn, the second the ticket that is served, both modulo 2^64. No fact rests on the words
-- behind them, one of which is the lock in front of the tickets. The slot holds the desk. A view is `None` once its pass was joined, and no fact speaks of it.
use Rattle.std.specs.Prelude.{◌≡◌, ◌≢◌, ◌++◌, ◌-◌, ℕ, ◌+◌, ◌%◌, ◌^◌, ◌≤◌, ◌<◌, ◌==◌, Bool, true, false, if◌then◌else◌, List, [], ◌∷◌, length, sum_by, max, MatchBool, Option, Some, None, IfSome}
use Rattle.atomic_table.specs.Table.{State, Me, Step}
use Rattle.jt_turn.specs.declared.entry.Entry.{Entry}
use Rattle.jt_turn.specs.declared.entry.Ended.{Ended}
use Rattle.jt_turn.specs.declared.known.Known.{Known}
use Rattle.jt_turn.specs.Histories.{entries_of, entry_if, longer, HasEach, IsNoneOf}
use mathlib.Core.List.{IsPrefix}
use mathlib.Core.Option.{some}
use lib.ListN.{get_elem?}

-- what is published: the history and the count, what stays, how many tickets were drawn and served, and what the pass of number 0 gave and got back
pub record Published (A B O : Type 0) : Type 0 where
  pub history : List (Entry A B)
  pub faults : ℕ
  pub opening : O
  pub base : ℕ
  pub drawn : ℕ
  pub served : ℕ
  pub aside : List ℕ
  pub ended : List (Ended A B)
  pub lent : ℕ
  pub given : ℕ

module _ {A B O : Type 0} where
  abbrev pub waiting : Option (Known A B O) → ℕ
  waiting None = 0
  waiting (Some k) = if k.waits then 1 else 0

  abbrev pub active : Option (Known A B O) → ℕ
  active None = 0
  active (Some k) = 1

  abbrev pub failures : Option (Known A B O) → ℕ
  failures None = 0
  failures (Some k) = k.failed

  abbrev pub At : List (Option (Known A B O)) → ℕ → Known A B O → Type 0
  At views i k = get_elem? views i ≡ some (Some k)

  pub record Fits (p : Published A B O) (k : Known A B O) : Type 0 where
    pub opening : k.opening ≡ p.opening
    pub base : k.base ≡ p.base
    pub seen : IsPrefix k.seen p.history
    pub heard : IsPrefix k.heard p.history
    pub mine : entries_of k.number p.history ≡ k.mine
    pub faults : k.faults ≤ p.faults
    pub ticket : k.waits ≡ true → (p.served ≤ k.ticket) × (k.ticket < p.drawn)
    pub turn : k.turn ≡ true → (k.waits ≡ true) × (k.ticket ≡ p.served) × (k.found ≡ p.history) × (k.found_faults ≡ p.faults)
    pub below : k.number ≤ p.given
    pub before : k.lent_before ≡ k.lent + 1
    pub root : k.number ≡ 0 → (k.ended ≡ p.ended) × (k.lent ≡ p.lent) × (k.given ≡ p.given)

  -- what a pass knows after it gave the number n, and what the new pass knows
  abbrev pub lends : ℕ → Known A B O → Known A B O
  lends n k = record k { lent = k.lent + 1; lent_before = k.lent_before + 1; given = n }

  abbrev pub starts : ℕ → Known A B O → Known A B O
  starts n k = record { number = n; waits = false; turn = false; ticket = 0; opening = k.opening; base = k.base; seen = k.seen; heard = []; mine = []; faults = k.faults; found = []; found_faults = 0; failed = 0; ended = []; lent = 0; lent_before = 1; given = 0 }

  -- what a pass knows after it took in another
  abbrev pub takes_in : Known A B O → Known A B O → Known A B O
  takes_in k l = record k { heard = l.seen; faults = max k.faults l.faults; failed = k.failed + l.failed; ended = k.ended ++ record { number = l.number; mine = l.mine } ∷ []; lent = k.lent - 1; lent_before = k.lent }

  abbrev pub hears : Known A B O → Known A B O
  hears k = record k { seen = longer k.seen k.heard }

  abbrev pub lending : ℕ → Option (Known A B O) → Option (Known A B O)
  lending n None = None
  lending n (Some k) = Some (lends n k)

  abbrev pub starting : ℕ → Option (Known A B O) → Option (Known A B O)
  starting n None = None
  starting n (Some k) = Some (starts n k)

  abbrev pub joined : Option (Known A B O) → Option (Known A B O) → Option (Known A B O)
  joined None w = None
  joined (Some k) None = Some k
  joined (Some k) (Some l) = Some (takes_in k l)

  -- of what the pass has seen and what it heard it keeps the longer, which both begin; and it had lent one more
  abbrev pub Hears : Option (Known A B O) → Option (Known A B O) → Type 0
  Hears before after = IfSome before (λ k. (after ≡ Some (hears k)) × IsPrefix k.seen (longer k.seen k.heard) × IsPrefix k.heard (longer k.seen k.heard) × (k.lent_before ≡ k.lent + 1))

  abbrev pub Learns : {S : Type 0} → Step S → Me S (Option (Known A B O)) → ℕ → Me S (Option (Known A B O)) → Type 0
  Learns _ before _ after = Hears before.0 after.0 × (after.1 ≡ before.1)

  -- what is known stays
  abbrev pub Stays : {S : Type 0} → Step S → Me S (Option (Known A B O)) → ℕ → Me S (Option (Known A B O)) → Type 0
  Stays _ before _ after = after ≡ before

  pub record SameTicket (k l : Known A B O) : Type 0 where
    pub first : k.waits ≡ true
    pub second : l.waits ≡ true
    pub ticket : k.ticket ≡ l.ticket

  abbrev pub SameNumber : Known A B O → Known A B O → Type 0
  SameNumber k l = k.number ≡ l.number

  -- what holds of a pair of views holds of no two places
  abbrev pub Apart : (Known A B O → Known A B O → Type 0) → List (Option (Known A B O)) → Type 0
  Apart R views = (i j : ℕ) (k l : Known A B O) → At views i k → At views j l → R k l → i ≡ j

  -- no pass that was not joined has this number
  abbrev pub Unheld : List (Option (Known A B O)) → ℕ → Type 0
  Unheld views n = (i : ℕ) (k : Known A B O) → At views i k → k.number ≢ n

  pub record EndedOk (p : Published A B O) (views : List (Option (Known A B O))) (e : Ended A B) : Type 0 where
    pub mine : entries_of e.number p.history ≡ e.mine
    pub below : e.number ≤ p.given
    pub unheld : Unheld views e.number

module _ {D A B O : Type 0} (history_of : D → List (Entry A B)) (faults_of : D → ℕ) (opening_of : D → O) where
  pub record Rests (p : Published A B O) (d : D) : Type 0 where
    pub history : history_of d ≡ p.history
    pub faults : faults_of d ≡ p.faults
    pub opening : opening_of d ≡ p.opening

  pub record Stands (p : Published A B O) (s : State (Option D) (Option (Known A B O))) : Type 0 where
    pub words : s.words ≡ (p.drawn % 2 ^ 64) ∷ (p.served % 2 ^ 64) ∷ p.aside
    pub queue : p.drawn ≡ p.served + sum_by waiting s.views
    pub room : length s.views ≤ p.given + 1
    pub small : p.given < 2 ^ 32
    pub lent : sum_by active s.views ≡ 1 + p.lent
    pub failed : p.base + sum_by failures s.views ≤ p.faults
    pub fits : (i : ℕ) (k : Known A B O) → At s.views i k → Fits p k
    pub tickets : Apart SameTicket s.views
    pub numbers : Apart SameNumber s.views
    pub home : ((i : ℕ) (k : Known A B O) → At s.views i k → k.turn ≡ false) → (d : D) × (get_elem? s.homes 0 ≡ some (some (Some d))) × Rests p d
    pub ended : (m : ℕ) (e : Ended A B) → get_elem? p.ended m ≡ some e → EndedOk p s.views e
    pub others : (n : ℕ) → Unheld s.views n → IsNoneOf n p.ended → entries_of n p.history ≡ []

  abbrev pub Kept : State (Option D) (Option (Known A B O)) → Type 0
  Kept s = (p : Published A B O) × Stands p s

  -- what the first pass of a turn over this desk knows
  abbrev pub first_of : D → Known A B O
  first_of d = record { number = 0; waits = false; turn = false; ticket = 0; opening = opening_of d; base = faults_of d; seen = []; heard = []; mine = []; faults = faults_of d; found = []; found_faults = 0; failed = 0; ended = []; lent = 0; lent_before = 1; given = 0 }

  abbrev pub newcomer : D → Option (Known A B O)
  newcomer d = Some (first_of d)

  -- what the steps tell
  -- a ticket was drawn, which is the number found
  abbrev pub Draws : Step (Option D) → Me (Option D) (Option (Known A B O)) → ℕ → Me (Option D) (Option (Known A B O)) → Type 0
  Draws _ before found after = IfSome before.0 (λ k. (t : ℕ) × (t % 2 ^ 64 ≡ found) × (after ≡ (Some (record k { waits = true; ticket = t }), before.1)))

  -- the view after it took the desk d
  abbrev pub taking : D → Known A B O → Known A B O
  taking d k = record k { turn = true; found = history_of d; found_faults = faults_of d }

  -- what a desk that is taken is to its caller
  pub record Meets (k : Known A B O) (d : D) : Type 0 where
    pub seen : IsPrefix k.seen (history_of d)
    pub mine : entries_of k.number (history_of d) ≡ k.mine
    pub faults : k.faults ≤ faults_of d
    pub opening : opening_of d ≡ k.opening

  -- where the word served is the view's ticket, it has the desk
  abbrev pub Looks : Step (Option D) → Me (Option D) (Option (Known A B O)) → ℕ → Me (Option D) (Option (Known A B O)) → Type 0
  Looks _ before found after = IfSome before.0 (λ k. MatchBool (found == k.ticket % 2 ^ 64) ((d : D) × (after ≡ (Some (taking d k), (0, Some d) ∷ before.1)) × Meets k d) (after ≡ before))

  -- the view after it published the desk d
  abbrev pub publishing : D → Known A B O → Known A B O
  publishing d k = record k { waits = false; turn = false; seen = history_of d; mine = entries_of k.number (history_of d); faults = faults_of d; failed = k.failed + (if faults_of d == k.found_faults then 0 else 1) }

  -- what the desk has to be that is given back
  pub record Acted (k : Known A B O) (d : D) : Type 0 where
    pub opening : opening_of d ≡ k.opening
    pub faults : k.found_faults ≤ faults_of d
    pub history : (es : List (Entry A B)) × (history_of d ≡ k.found ++ es) × ((n : ℕ) → n ≢ k.number → entries_of n es ≡ [])

  -- what the trait says of an act
  pub record HasActed (gives : O → List (Entry A B) → ℕ → ℕ → ℕ → A → B → Type 0) (enters : B → Bool) (number : ℕ) (ask : A) (answer : B) (d after : D) : Type 0 where
    pub opening : opening_of after ≡ opening_of d
    pub faults : faults_of d ≤ faults_of after
    pub answer_is : gives (opening_of d) (history_of d) (faults_of d) (faults_of after) number ask answer
    pub history : history_of after ≡ history_of d ++ entry_if (enters answer) number ask answer

  -- the seat has given back the desk d
  abbrev pub GaveBack : Me (Option D) (Option (Known A B O)) → Me (Option D) (Option (Known A B O)) → Type 0
  GaveBack before after = IfSome before.0 (λ k. (d : D) × (before.1 ≡ (0, Some d) ∷ []) × (after ≡ (Some (publishing d k), [])))

  abbrev pub Publishes : Step (Option D) → Me (Option D) (Option (Known A B O)) → ℕ → Me (Option D) (Option (Known A B O)) → Type 0
  Publishes _ before _ after = GaveBack before after

  -- the desk of a turn that is over, for the pass that closed it
  pub record Closes (k : Known A B O) (d : D) : Type 0 where
    pub opening : opening_of d ≡ k.opening
    pub seen : IsPrefix k.seen (history_of d)
    pub mine : entries_of k.number (history_of d) ≡ k.mine
    pub ended : HasEach (history_of d) k.ended
    pub others : (n : ℕ) → n ≢ k.number → IsNoneOf n k.ended → entries_of n (history_of d) ≡ []
    pub faults : k.base + k.failed ≤ faults_of d
    pub count : k.faults ≤ faults_of d
