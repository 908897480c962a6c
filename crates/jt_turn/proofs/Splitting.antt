-- A pass is split: the rule is kept.
use Rattle.std.proofs.Common.{◌≡◌, ◌≢◌, ℕ, ◌+◌, ◌^◌, ◌<◌, ◌≤◌, false, List, [], ◌∷◌, ◌++◌, length, set, refl, ap, sym, ◌∙◌, subst, arith, length-append, length-set}
use Rattle.std.proofs.lemmas.Bool.{true≢false}
use Rattle.std.specs.Prelude.{sum_by, Option, Some}
use native.Mathlib.Decide.{ℕ_discrete}
use Rattle.atomic_table.specs.Table.{State}
use Rattle.atomic_table.proofs.Lists.{set_here, set_else, at_longer}
use Rattle.jt_turn.specs.declared.entry.Entry.{Entry}
use Rattle.jt_turn.specs.declared.known.Known.{Known}
use Rattle.jt_turn.specs.Histories.{entries_of}
use Rattle.jt_turn.specs.Rules.{Published, Stands, Fits, At, SameTicket, SameNumber, Unheld, waiting, active, failures, lends, starts}
use Rattle.std.proofs.lemmas.List.Sums.{sum_by-append}
use Rattle.jt_turn.proofs.Views.{sum_by-set_at, each_some, each_snoc, apart_set, apart_snoc, same_at}
use Rattle.jt_turn.proofs.Drawing.{ticket_turns, id_below, still_unheld, was_unheld}

pub sum_snoc : {X : Type 0} (f : X → ℕ) (xs : List X) (x : X) → sum_by f (xs ++ x ∷ []) ≡ sum_by f xs + f x
sum_snoc f xs x = let one : sum_by f (x ∷ []) ≡ f x = omega arith in let all = sum_by-append f xs (x ∷ []) in omega arith

pub above : (a b n : ℕ) → a ≤ b → b < n → a ≢ n
above a b n le lt e = omega (arith, le, lt, e)

module _ {D A B O : Type 0} (history_of : D → List (Entry A B)) (faults_of : D → ℕ) (opening_of : D → O) where
  pub splits : (p : Published A B O) (s : State (Option D) (Option (Known A B O))) (id n : ℕ) (k : Known A B O)
      → Stands history_of faults_of opening_of p s → At s.views id k → k.number ≡ 0 → k.given < n → n < 2 ^ 32
      → Stands history_of faults_of opening_of (record p { lent = p.lent + 1; given = n })
      (record { words = s.words; homes = s.homes; views = set s.views id (Some (lends n k)) ++ Some (starts n k) ∷ [] })
  splits p s id n k h at first larger small =
      let q : Published A B O = record p { lent = p.lent + 1; given = n } in
      let w : Known A B O = lends n k in
      let l : Known A B O = starts n k in
      let less : id < length s.views = id_below s.views id k at in
      let f = h.fits id k at in
      let root = f.root first in
      let given : k.given ≡ p.given = root.2 in
      let beyond : p.given < n = omega (arith, larger, given) in
      let mid : List (Option (Known A B O)) = set s.views id (Some w) in
      let was = λ (m : ℕ) (un : Unheld (mid ++ Some l ∷ []) m). was_unheld s.views id k w at refl less m (λ i z at'. un i z (at_longer mid (Some l ∷ []) i (Some z) at')) in
      let sums = sum_by-set_at waiting s.views id (Some k) (Some w) at in
      let actives = sum_by-set_at active s.views id (Some k) (Some w) at in
      let fails = sum_by-set_at failures s.views id (Some k) (Some w) at in
      let sums2 = sum_snoc waiting mid (Some l) in
      let actives2 = sum_snoc active mid (Some l) in
      let fails2 = sum_snoc failures mid (Some l) in
      let len : length mid ≡ length s.views = length-set s.views id (Some w) in
      let len2 = length-append mid (Some l ∷ []) in
      let queue = h.queue in
      let room = h.room in
      let lent = h.lent in
      let failed = h.failed in
      let fresh : entries_of n p.history ≡ [] = h.others n (λ i z at'. above z.number p.given n (h.fits i z at').below beyond) (λ m e at'. above e.number p.given n (h.ended m e at').below beyond) in
      record {
        words = h.words;
        queue = omega arith;
        room = omega arith;
        small = small;
        lent = omega arith;
        failed = omega arith;
        fits = each_snoc (λ z. Fits q z) mid l
            (record {
              opening = f.opening;
              base = f.base;
              seen = f.seen;
              heard = (p.history, refl);
              mine = fresh;
              faults = f.faults;
              ticket = λ e. absurd (true≢false (sym e));
              turn = λ e. absurd (true≢false (sym e));
              below = omega arith;
              before = refl;
              root = λ e. absurd (omega (arith, e, larger));
            })
            (each_some (λ i z. Fits q z) s.views id w
            (record {
              opening = f.opening;
              base = f.base;
              seen = f.seen;
              heard = f.heard;
              mine = f.mine;
              faults = f.faults;
              ticket = f.ticket;
              turn = f.turn;
              below = omega (arith, first);
              before = ap (λ (x : ℕ). x + 1) f.before;
              root = λ e. (root.0, ap (λ (x : ℕ). x + 1) root.1, refl);
            })
            (λ i z ne at'. let g = h.fits i z at' in record {
              opening = g.opening;
              base = g.base;
              seen = g.seen;
              heard = g.heard;
              mine = g.mine;
              faults = g.faults;
              ticket = g.ticket;
              turn = g.turn;
              below = omega (arith, g.below, beyond);
              before = g.before;
              root = λ e. absurd (ne (h.numbers i id z k at' at (e ∙ sym first)));
            }));
        tickets = apart_snoc SameTicket mid l ticket_turns (λ j z at' r. true≢false (sym r.first))
            (apart_set SameTicket s.views id w ticket_turns
            (λ j z ne at' r. ne (sym (h.tickets id j k z at at' (record { first = r.first; second = r.second; ticket = r.ticket })))) h.tickets);
        numbers = apart_snoc SameNumber mid l (λ k l e. sym e)
            (each_some (λ j z. n ≡ z.number → ⊥) s.views id w (λ e. omega (arith, e, first, larger)) (λ j z ne at' e. above z.number p.given n (h.fits j z at').below beyond (sym e)))
            (apart_set SameNumber s.views id w (λ k l e. sym e) (λ j z ne at' r. ne (sym (h.numbers id j k z at at' r))) h.numbers);
        home = λ none. let d = h.home (λ i z at'. elim (ℕ_discrete i id) as (λ _. z.turn ≡ false) [
          | yes e ↦ ap (λ (y : Known A B O). y.turn) (sym (same_at s.views id k z at (subst (λ j. At s.views j z) e at'))) ∙ none id w (at_longer mid (Some l ∷ []) id (Some w) (set_here s.views id (Some w) less))
          | no ne ↦ none i z (at_longer mid (Some l ∷ []) i (Some z) (set_else s.views id i (Some w) ne ∙ at'))
        ]) in (d.0, d.1, record { history = d.2.history; faults = d.2.faults; opening = d.2.opening });
        ended = λ m e at'. let o = h.ended m e at' in record {
          mine = o.mine;
          below = omega (arith, o.below, beyond);
          unheld = each_snoc (λ z. z.number ≢ e.number) mid l (λ same. above e.number p.given n o.below beyond (sym same)) (still_unheld s.views id k w at refl e.number o.unheld);
        };
        others = λ m unheld unended. h.others m (was m unheld) unended;
      }
