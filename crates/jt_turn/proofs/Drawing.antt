-- The steps of an act keep the rule: a ticket is drawn, the word served is looked at, and the desk is published.
use Rattle.std.proofs.Common.{◌≡◌, ◌≢◌, ℕ, suc, ◌+◌, ◌*◌, ◌%◌, ◌^◌, ◌<◌, ◌≤◌, true, false, List, [], ◌∷◌, length, get_or, set, refl, ap, sym, ◌∙◌, subst, arith, length-set}
use Rattle.std.proofs.lemmas.Bool.{false_from_ne_true, true≢false}
use Rattle.std.proofs.Math.Nat.{mod-add-mod}
use Rattle.std.proofs.lemmas.List.Sums.{sum_by-le}
use Rattle.std.proofs.lemmas.List.{set-get_or}
use Rattle.std.specs.Prelude.{All, if◌then◌else◌, sum_by, slice_index, Option, Some, None}
use mathlib.Core.Option.{some}
use mathlib.Core.List.{IsPrefix}
use lib.ListN.{get_elem?}
use Rattle.atomic_table.specs.Table.{State, keeps, takes, stepped}
use Rattle.atomic_table.proofs.Lists.{set_here, set_else, set_again, one_turn}
use Rattle.jt_turn.specs.declared.entry.Entry.{Entry}
use Rattle.jt_turn.specs.declared.known.Known.{Known}
use Rattle.jt_turn.specs.Histories.{entries_of}
use Rattle.jt_turn.specs.Rules.{Published, Stands, Fits, At, SameTicket, SameNumber, Unheld, Rests, Meets, taking, waiting, active, failures}
use Rattle.jt_turn.proofs.Views.{there, sum_by-set_at, same_at, each_some, apart_set}

pub next_mod : (a n : ℕ) → (a % n + 1) % n ≡ (a + 1) % n
next_mod a n = mod-add-mod a n 1

pub ticket_turns : {A B O : Type 0} (k l : Known A B O) → SameTicket k l → SameTicket l k
ticket_turns k l r = record { first = r.second; second = r.first; ticket = sym r.ticket }

module _ {A B O : Type 0} where
  pub still_unheld : (views : List (Option (Known A B O))) (id : ℕ) (k w : Known A B O) → At views id k → w.number ≡ k.number → (n : ℕ) → Unheld views n → Unheld (set views id (Some w)) n
  still_unheld views id k w at same n h = each_some (λ i l. l.number ≢ n) views id w (λ e. h id k at (sym same ∙ e)) (λ i l ne at'. h i l at')

  pub was_unheld : (views : List (Option (Known A B O))) (id : ℕ) (k w : Known A B O) → At views id k → w.number ≡ k.number → id < length views → (n : ℕ) → Unheld (set views id (Some w)) n → Unheld views n
  was_unheld views id k w at same less n h i l at' =
      elim (native.Mathlib.Decide.ℕ_discrete i id) as (λ _. l.number ≢ n) [
        | yes e ↦ (λ num. h id w (set_here views id (Some w) less) (same ∙ (ap (λ (z : Known A B O). z.number) (same_at views id k l at (subst (λ j. At views j l) e at')) ∙ num)))
        | no ne ↦ h i l (set_else views id i (Some w) ne ∙ at')
      ]

  pub id_below : (views : List (Option (Known A B O))) (id : ℕ) (k : Known A B O) → At views id k → id < length views
  id_below views id k at = (there views id (Some k) at).0

  pub waiting_is : (k : Known A B O) → k.waits ≡ true → waiting (Some k) ≡ 1
  waiting_is k e = rw e refl

  pub idle_is : (k : Known A B O) → k.waits ≡ false → waiting (Some k) ≡ 0
  idle_is k e = rw e refl

  pub at_most_one : (v : Option (Known A B O)) → waiting v ≤ 1
  at_most_one None = omega arith
  at_most_one (Some k) = elim k.waits as (λ b. (if b then 1 else 0) ≤ 1) [ true ↦ omega arith | false ↦ omega arith ]

  pub all_waiting : (views : List (Option (Known A B O))) → All (λ v. waiting v ≤ 1) views
  all_waiting views = λ k d less. at_most_one (get_or views k d)

  pub fits_drawn : (p : Published A B O) (k : Known A B O) → Fits p k → Fits (record p { drawn = p.drawn + 1 }) k
  fits_drawn p k f = record {
    opening = f.opening;
    base = f.base;
    seen = f.seen;
    heard = f.heard;
    mine = f.mine;
    faults = f.faults;
    ticket = λ e. let t = f.ticket e in (t.0, omega (arith, t.1));
    turn = f.turn;
    below = f.below;
    before = f.before;
    root = f.root;
  }

module _ {D A B O : Type 0} (history_of : D → List (Entry A B)) (faults_of : D → ℕ) (opening_of : D → O) where
  pub draws : (p : Published A B O) (s : State (Option D) (Option (Known A B O))) (id : ℕ) (k : Known A B O)
      → Stands history_of faults_of opening_of p s → At s.views id k → k.waits ≡ false → k.turn ≡ false
      → Stands history_of faults_of opening_of (record p { drawn = p.drawn + 1 }) (stepped s 0 ((slice_index s.words 0 + 1) % 2 ^ 64) id [] (Some (record k { waits = true; ticket = p.drawn })) keeps)
  draws p s id k h at idle unturned =
      let w : Known A B O = record k { waits = true; ticket = p.drawn } in
      let less : id < length s.views = id_below s.views id k at in
      let f = h.fits id k at in
      let f' = fits_drawn p k f in
      let zero_before : waiting (Some k) ≡ 0 = idle_is k idle in
      let sums = sum_by-set_at waiting s.views id (Some k) (Some w) at in
      let actives = sum_by-set_at active s.views id (Some k) (Some w) at in
      let fails = sum_by-set_at failures s.views id (Some k) (Some w) at in
      let len : length (set s.views id (Some w)) ≡ length s.views = length-set s.views id (Some w) in
      let queue = h.queue in
      let room = h.room in
      let lent = h.lent in
      let failed = h.failed in
      record {
        words = rw h.words (ap (λ (x : ℕ). x ∷ (p.served % 2 ^ 64) ∷ p.aside) (next_mod p.drawn (2 ^ 64)));
        queue = omega arith;
        room = omega arith;
        small = h.small;
        lent = omega arith;
        failed = omega arith;
        fits = each_some (λ i l. Fits (record p { drawn = p.drawn + 1 }) l) s.views id w
            (record { opening = f.opening; base = f.base; seen = f.seen; heard = f.heard; mine = f.mine; faults = f.faults; ticket = λ _. (omega arith, omega arith); turn = λ e. absurd (true≢false (sym e ∙ unturned)); below = f.below; before = f.before; root = f.root })
            (λ i l ne at'. fits_drawn p l (h.fits i l at'));
        tickets = apart_set SameTicket s.views id w ticket_turns
            (λ j l ne at' r. let t = (h.fits j l at').ticket r.second in let e = r.ticket in omega (arith, t.1, e)) h.tickets;
        numbers = apart_set SameNumber s.views id w (λ k l e. sym e) (λ j l ne at' r. ne (sym (h.numbers id j k l at at' r))) h.numbers;
        home = λ none. let d = h.home (λ i l at'. elim (native.Mathlib.Decide.ℕ_discrete i id) as (λ _. l.turn ≡ false) [
          | yes e ↦ ap (λ (z : Known A B O). z.turn) (sym (same_at s.views id k l at (subst (λ j. At s.views j l) e at'))) ∙ unturned
          | no ne ↦ none i l (set_else s.views id i (Some w) ne ∙ at')
        ]) in (d.0, d.1, record { history = d.2.history; faults = d.2.faults; opening = d.2.opening });
        ended = λ m e at'. let o = h.ended m e at' in record { mine = o.mine; below = o.below; unheld = still_unheld s.views id k w at refl e.number o.unheld };
        others = λ n unheld unended. h.others n (was_unheld s.views id k w at refl less n unheld) unended;
      }

  -- of the waiting views only the one whose ticket is served has the turn
  pub nobody_turned : (p : Published A B O) (s : State (Option D) (Option (Known A B O))) (id : ℕ) (k : Known A B O)
      → Stands history_of faults_of opening_of p s → At s.views id k → k.waits ≡ true → k.turn ≡ false → k.ticket ≡ p.served
      → (i : ℕ) (l : Known A B O) → At s.views i l → l.turn ≡ false
  nobody_turned p s id k h at waits unturned served i l at' = false_from_ne_true l.turn (λ e.
      let t = (h.fits i l at').turn e in
      let here : i ≡ id = h.tickets i id l k at' at (record { first = t.0; second = waits; ticket = t.1 ∙ sym served }) in
      let same : k ≡ l = same_at s.views id k l at (subst (λ j. At s.views j l) here at') in
      true≢false (sym e ∙ (ap (λ (z : Known A B O). z.turn) (sym same) ∙ unturned)))

  -- a ticket is served where the words are equal
  pub is_served : (p : Published A B O) (s : State (Option D) (Option (Known A B O))) (id : ℕ) (k : Known A B O)
      → Stands history_of faults_of opening_of p s → At s.views id k → k.waits ≡ true → p.served % 2 ^ 64 ≡ k.ticket % 2 ^ 64 → k.ticket ≡ p.served
  is_served p s id k h at waits e =
      let t = (h.fits id k at).ticket waits in
      let most : sum_by waiting s.views ≤ length s.views * 1 = sum_by-le waiting 1 s.views (all_waiting s.views) in
      let queue = h.queue in
      let room = h.room in
      let small : p.given < 4294967296 = h.small in
      sym (one_turn p.served k.ticket (2 ^ 64) t.0 (omega (arith, t.1)) e)

  pub takes_turn : (p : Published A B O) (s : State (Option D) (Option (Known A B O))) (id : ℕ) (k : Known A B O) (d : D)
      → Stands history_of faults_of opening_of p s → At s.views id k → k.waits ≡ true → k.ticket ≡ p.served → Rests history_of faults_of opening_of p d
      → Stands history_of faults_of opening_of p (stepped s 1 (slice_index s.words 1) id [] (Some (taking history_of faults_of opening_of d k)) (takes 0 (Some d)))
  takes_turn p s id k d h at waits served rests =
      let w : Known A B O = taking history_of faults_of opening_of d k in
      let less : id < length s.views = id_below s.views id k at in
      let f = h.fits id k at in
      let sums = sum_by-set_at waiting s.views id (Some k) (Some w) at in
      let actives = sum_by-set_at active s.views id (Some k) (Some w) at in
      let fails = sum_by-set_at failures s.views id (Some k) (Some w) at in
      let len : length (set s.views id (Some w)) ≡ length s.views = length-set s.views id (Some w) in
      let queue = h.queue in
      let room = h.room in
      let lent = h.lent in
      let failed = h.failed in
      record {
        words = rw h.words refl;
        queue = omega arith;
        room = omega arith;
        small = h.small;
        lent = omega arith;
        failed = omega arith;
        fits = each_some (λ i l. Fits p l) s.views id w
            (record { opening = f.opening; base = f.base; seen = f.seen; heard = f.heard; mine = f.mine; faults = f.faults; ticket = f.ticket; turn = λ e. (waits, served, rests.history, rests.faults); below = f.below; before = f.before; root = f.root })
            (λ i l ne at'. h.fits i l at');
        tickets = apart_set SameTicket s.views id w ticket_turns
            (λ j l ne at' r. ne (sym (h.tickets id j k l at at' (record { first = r.first; second = r.second; ticket = r.ticket })))) h.tickets;
        numbers = apart_set SameNumber s.views id w (λ k l e. sym e) (λ j l ne at' r. ne (sym (h.numbers id j k l at at' r))) h.numbers;
        home = λ none. absurd (true≢false (none id w (set_here s.views id (Some w) less)));
        ended = λ m e at'. let o = h.ended m e at' in record { mine = o.mine; below = o.below; unheld = still_unheld s.views id k w at refl e.number o.unheld };
        others = λ n unheld unended. h.others n (was_unheld s.views id k w at refl less n unheld) unended;
      }

  pub met : (p : Published A B O) (s : State (Option D) (Option (Known A B O))) (id : ℕ) (k : Known A B O) (d : D)
      → Stands history_of faults_of opening_of p s → At s.views id k → Rests history_of faults_of opening_of p d → Meets history_of faults_of opening_of k d
  met p s id k d h at rests = let f = h.fits id k at in record {
    seen = subst (λ l. IsPrefix k.seen l) (sym rests.history) f.seen;
    mine = ap (λ l. entries_of k.number l) rests.history ∙ f.mine;
    faults = subst (λ n. k.faults ≤ n) (sym rests.faults) f.faults;
    opening = rests.opening ∙ sym f.opening;
  }

  pub stays : (p : Published A B O) (s : State (Option D) (Option (Known A B O))) (i id : ℕ) (v : Option (Known A B O)) (c : List (ℕ × Option D))
      → Stands history_of faults_of opening_of p s → get_elem? s.views id ≡ some v
      → Stands history_of faults_of opening_of p (stepped s i (slice_index s.words i) id c v keeps)
  stays p s i id v c h at =
      let views : set s.views id v ≡ s.views = set_again s.views id v at in
      let words : set s.words i (slice_index s.words i) ≡ s.words = set-get_or s.words i 0 in
      rw (views, words) (record { words = h.words; queue = h.queue; room = h.room; small = h.small; lent = h.lent; failed = h.failed; fits = h.fits; tickets = h.tickets; numbers = h.numbers; home = h.home; ended = h.ended; others = h.others })

  -- a word behind the first two changes, and nothing else
  pub changes_aside : (p : Published A B O) (s : State (Option D) (Option (Known A B O))) (i n id : ℕ) (v : Option (Known A B O)) (c : List (ℕ × Option D))
      → Stands history_of faults_of opening_of p s → get_elem? s.views id ≡ some v
      → Stands history_of faults_of opening_of (record p { aside = set p.aside i n }) (stepped s (suc (suc i)) n id c v keeps)
  changes_aside p s i n id v c h at =
      let views : set s.views id v ≡ s.views = set_again s.views id v at in
      let words : set s.words (suc (suc i)) n ≡ (p.drawn % 2 ^ 64) ∷ (p.served % 2 ^ 64) ∷ set p.aside i n = rw h.words refl in
      rw views (record {
        words = words;
        queue = h.queue;
        room = h.room;
        small = h.small;
        lent = h.lent;
        failed = h.failed;
        fits = λ j k at'. let f = h.fits j k at' in record { opening = f.opening; base = f.base; seen = f.seen; heard = f.heard; mine = f.mine; faults = f.faults; ticket = f.ticket; turn = f.turn; below = f.below; before = f.before; root = f.root };
        tickets = h.tickets;
        numbers = h.numbers;
        home = λ none. let d = h.home none in (d.0, d.1, record { history = d.2.history; faults = d.2.faults; opening = d.2.opening });
        ended = λ m e at'. let o = h.ended m e at' in record { mine = o.mine; below = o.below; unheld = o.unheld };
        others = h.others;
      })
