-- A pass is joined into the one of number 0, which learns what the other saw: the rule is kept.
use Rattle.std.proofs.Common.{◌≡◌, ◌≢◌, ℕ, ◌<◌, ◌≤◌, false, List, [], ◌∷◌, ◌++◌, length, set, refl, ap, sym, ◌∙◌, subst, arith, ⊎_elim, length-set}
use Rattle.std.specs.Prelude.{sum_by, Option, Some, None}
use native.Mathlib.Decide.{ℕ_discrete}
use Rattle.atomic_table.specs.Table.{State}
use Rattle.atomic_table.proofs.Lists.{set_here, set_else, at_longer, at_last}
use Rattle.jt_turn.specs.declared.entry.Entry.{Entry}
use Rattle.jt_turn.specs.declared.entry.Ended.{Ended}
use Rattle.jt_turn.specs.declared.known.Known.{Known}
use Rattle.jt_turn.specs.Rules.{Published, Stands, Fits, At, SameTicket, SameNumber, EndedOk, Unheld, waiting, active, failures, takes_in}
use Rattle.jt_turn.proofs.Views.{sum_by-set_at, one_of_sum, each_some, each_none, apart_set, apart_none, same_at, at_end}
use Rattle.jt_turn.proofs.Drawing.{ticket_turns, id_below}
use Rattle.std.proofs.Common.{◌-◌}
use Rattle.jt_turn.proofs.Drawing.{idle_is}

pub was_held : {A B O : Type 0} (n : ℕ) (k l w : Known A B O) (views : List (Option (Known A B O))) (id other : ℕ) → At views id k → At views other l → At (set (set views id (Some w)) other None) id w → Unheld (set (set views id (Some w)) other None) n → l.number ≢ n → w.number ≡ k.number → Unheld views n
was_held n k l w views id other at at_l here un not_l same i z at' num =
    elim (ℕ_discrete i id) as (λ _. ⊥) [
      | yes e ↦ un id w here (same ∙ (ap (λ (y : Known _ _ _). y.number) (same_at views id k z at (subst (λ j. At views j z) e at')) ∙ num))
      | no ne ↦ elim (ℕ_discrete i other) as (λ _. ⊥) [
        | yes e ↦ not_l (ap (λ (y : Known _ _ _). y.number) (same_at views other l z at_l (subst (λ j. At views j z) e at')) ∙ num)
        | no ne' ↦ un i z (set_else (set views id (Some w)) other i None ne' ∙ (set_else views id i (Some w) ne ∙ at')) num
      ]
    ]

pub at_joined : {A B O : Type 0} (views : List (Option (Known A B O))) (id other : ℕ) (w : Option (Known A B O)) (i : ℕ) (z : Known A B O) → i ≢ id → i ≢ other → At views i z → At (set (set views id w) other None) i z
at_joined views id other w i z ne ne' at = set_else (set views id w) other i None ne' ∙ (set_else views id i w ne ∙ at)

module _ {D A B O : Type 0} (history_of : D → List (Entry A B)) (faults_of : D → ℕ) (opening_of : D → O) where
  pub joins : (p : Published A B O) (s : State (Option D) (Option (Known A B O))) (id other : ℕ) (k l : Known A B O)
      → Stands history_of faults_of opening_of p s → At s.views id k → ¬ (other ≡ id) → At s.views other l → k.number ≡ 0 → l.waits ≡ false → l.turn ≡ false
      → Stands history_of faults_of opening_of (record p { lent = p.lent - 1; ended = p.ended ++ record { number = l.number; mine = l.mine } ∷ [] })
      (record { words = s.words; homes = s.homes; views = set (set s.views id (Some (takes_in k l))) other None })
  joins p s id other k l h at apart at_l first idle unturned =
      let pair : Ended A B = record { number = l.number; mine = l.mine } in
      let q : Published A B O = record p { lent = p.lent - 1; ended = p.ended ++ pair ∷ [] } in
      let w : Known A B O = takes_in k l in
      let less : id < length s.views = id_below s.views id k at in
      let f = h.fits id k at in
      let fl = h.fits other l at_l in
      let root = f.root first in
      let mid : List (Option (Known A B O)) = set s.views id (Some w) in
      let ends : List (Option (Known A B O)) = set mid other None in
      let at_mid : At mid other l = set_else s.views id other (Some w) apart ∙ at_l in
      let here : At ends id w = set_else mid other id None (λ e. apart (sym e)) ∙ set_here s.views id (Some w) less in
      let free : waiting (Some l) ≡ 0 = idle_is l idle in
      let sums = sum_by-set_at waiting s.views id (Some k) (Some w) at in
      let actives = sum_by-set_at active s.views id (Some k) (Some w) at in
      let fails = sum_by-set_at failures s.views id (Some k) (Some w) at in
      let sums2 = sum_by-set_at waiting mid other (Some l) None at_mid in
      let actives2 = sum_by-set_at active mid other (Some l) None at_mid in
      let fails2 = sum_by-set_at failures mid other (Some l) None at_mid in
      let left : active (Some w) ≤ sum_by active ends = one_of_sum active ends id (Some w) None here refl in
      let len : length mid ≡ length s.views = length-set s.views id (Some w) in
      let len2 : length ends ≡ length mid = length-set mid other None in
      let queue = h.queue in
      let room = h.room in
      let lent = h.lent in
      let failed = h.failed in
      let each = λ (P : ℕ → Known A B O → Type 0) (start : P id w) (rest : (i : ℕ) (z : Known A B O) → i ≢ id → i ≢ other → At s.views i z → P i z).
      each_none P mid other (λ i z ne at'. each_some (λ j y. j ≢ other → P j y) s.views id w (λ _. start) (λ j y ne' at2 ne2. rest j y ne' ne2 at2) i z at' ne) in
      let was = λ (n : ℕ) (un : Unheld ends n) (not_l : l.number ≢ n). was_held n k l w s.views id other at at_l here un not_l refl in
      record {
        words = h.words;
        queue = omega arith;
        room = omega arith;
        small = h.small;
        lent = omega arith;
        failed = omega arith;
        fits = each (λ i z. Fits q z)
            (record {
              opening = f.opening;
              base = f.base;
              seen = f.seen;
              heard = fl.seen;
              mine = f.mine;
              faults = omega (arith, f.faults, fl.faults);
              ticket = f.ticket;
              turn = f.turn;
              below = f.below;
              before = omega (arith, root.1);
              root = λ e. (ap (λ (x : List (Ended A B)). x ++ pair ∷ []) root.0, ap (λ (x : ℕ). x - 1) root.1, root.2);
            })
            (λ i z ne ne' at'. let g = h.fits i z at' in record {
              opening = g.opening;
              base = g.base;
              seen = g.seen;
              heard = g.heard;
              mine = g.mine;
              faults = g.faults;
              ticket = g.ticket;
              turn = g.turn;
              below = g.below;
              before = g.before;
              root = λ e. absurd (ne (h.numbers i id z k at' at (e ∙ sym first)));
            });
        tickets = apart_none SameTicket mid other (apart_set SameTicket s.views id w ticket_turns
            (λ j z ne at' r. ne (sym (h.tickets id j k z at at' (record { first = r.first; second = r.second; ticket = r.ticket })))) h.tickets);
        numbers = apart_none SameNumber mid other (apart_set SameNumber s.views id w (λ k l e. sym e) (λ j z ne at' r. ne (sym (h.numbers id j k z at at' r))) h.numbers);
        home = λ none. let d = h.home (λ i z at'. elim (ℕ_discrete i id) as (λ _. z.turn ≡ false) [
          | yes e ↦ ap (λ (y : Known A B O). y.turn) (sym (same_at s.views id k z at (subst (λ j. At s.views j z) e at'))) ∙ none id w here
          | no ne ↦ elim (ℕ_discrete i other) as (λ _. z.turn ≡ false) [
            | yes e ↦ ap (λ (y : Known A B O). y.turn) (sym (same_at s.views other l z at_l (subst (λ j. At s.views j z) e at'))) ∙ unturned
            | no ne' ↦ none i z (at_joined s.views id other (Some w) i z ne ne' at')
          ]
        ]) in (d.0, d.1, record { history = d.2.history; faults = d.2.faults; opening = d.2.opening });
        ended = λ m e at'. ⊎_elim
            (λ old. let o = h.ended m e old in record { mine = o.mine; below = o.below; unheld = each (λ i z. z.number ≢ e.number) (o.unheld id k at) (λ i z ne ne' at2. o.unheld i z at2) })
            (λ t. subst (λ x. EndedOk q ends x) t.1 (record { mine = fl.mine; below = fl.below; unheld = each (λ i z. z.number ≢ l.number) (λ same. apart (sym (h.numbers id other k l at at_l same))) (λ i z ne ne' at2 same. ne' (h.numbers i other z l at2 at_l same)) }))
            (at_end p.ended pair e m at');
        others = λ n unheld unended. h.others n (was n unheld (unended (length p.ended) pair (at_last p.ended pair (length p.ended) refl))) (λ m e at'. unended m e (at_longer p.ended (pair ∷ []) m e at'));
      }
