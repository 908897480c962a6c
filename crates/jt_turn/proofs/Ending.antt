-- A pass hears what another saw, and a turn is closed.
use Rattle.std.proofs.Common.{◌≡◌, ℕ, ◌+◌, ◌^◌, ◌<◌, ◌≤◌, Bool, false, List, [], ◌∷◌, ◌++◌, length, set, refl, ap, sym, ◌∙◌, subst, arith, length-set}
use Rattle.std.specs.Prelude.{if◌then◌else◌, slice_index, Option, Some, None}
use mathlib.Core.Option.{some}
use mathlib.Core.List.{IsPrefix}
use mathlib.Core.Logic.{dite}
use native.Mathlib.Decide.{ℕ_discrete}
use lib.ListN.{get_elem?}
use Rattle.atomic_table.specs.Table.{State, keeps, stepped, step, Allows}
use Rattle.atomic_table.proofs.Lists.{set_else}
use Rattle.jt_turn.specs.declared.entry.Entry.{Entry}
use Rattle.jt_turn.specs.declared.known.Known.{Known}
use Rattle.jt_turn.specs.Histories.{entries_of, longer}
use Rattle.jt_turn.specs.Rules.{Published, Stands, Fits, At, SameTicket, SameNumber, Kept, Learns, waiting, active, failures}
use Rattle.jt_turn.proofs.Views.{sum_by-set_at, one_of_sum, each_some, apart_set, same_at}
use Rattle.jt_turn.proofs.Drawing.{ticket_turns, id_below, still_unheld, was_unheld}
use Rattle.jt_turn.proofs.Publishing.{prefix_self}
use Rattle.std.proofs.Common.{◌-◌}
use Rattle.std.proofs.lemmas.Bool.{lt-ltb, le-ltb}
use mathlib.Core.Option.{none}
use Rattle.atomic_table.specs.Table.{Allows, Splits, Joins, Final, Seen, step}
use Rattle.jt_turn.specs.Rules.{hears, lends, starts, takes_in, Closes}
use Rattle.jt_turn.proofs.Splitting.{splits}
use Rattle.jt_turn.proofs.Joining.{joins}

-- of two beginnings of one list the shorter begins the longer
pub prefix_shorter : {X : Type 0} (xs ys zs : List X) → IsPrefix xs zs → IsPrefix ys zs → length xs ≤ length ys → IsPrefix xs ys
prefix_shorter [] ys zs p q le = (ys, refl)
prefix_shorter (x ∷ xs) [] zs p q le = absurd (omega arith)
prefix_shorter (x ∷ xs) (y ∷ ys) [] p q le = absurd (cc (p.1))
prefix_shorter (x ∷ xs) (y ∷ ys) (z ∷ zs) p q le =
    let heads : x ≡ y = cc (p.1, q.1) in
    let rest = prefix_shorter xs ys zs (p.0, cc (p.1)) (q.0, cc (q.1)) (omega arith) in
    (rest.0, cc (heads, rest.1))

-- of two beginnings of one list both begin the longer, which begins the list
pub both_begin : {A B : Type 0} (xs ys zs : List (Entry A B)) → IsPrefix xs zs → IsPrefix ys zs → IsPrefix xs (longer xs ys) × IsPrefix ys (longer xs ys) × IsPrefix (longer xs ys) zs
both_begin xs ys zs p q = dite (native.Mathlib.Decide.dec_le (length ys) (length xs))
    (λ le. subst (λ (b : Bool). IsPrefix xs (if b then ys else xs) × IsPrefix ys (if b then ys else xs) × IsPrefix (if b then ys else xs) zs) (sym (le-ltb (length xs) (length ys) le)) (prefix_self xs, prefix_shorter ys xs zs q p le, p))
    (λ ne. subst (λ (b : Bool). IsPrefix xs (if b then ys else xs) × IsPrefix ys (if b then ys else xs) × IsPrefix (if b then ys else xs) zs) (sym (lt-ltb (length xs) (length ys) (omega (arith, ne)))) (prefix_shorter xs ys zs p q (omega (arith, ne)), prefix_self ys, q))

module _ {D A B O : Type 0} (history_of : D → List (Entry A B)) (faults_of : D → ℕ) (opening_of : D → O) where
  pub learns : (p : Published A B O) (s : State (Option D) (Option (Known A B O))) (id : ℕ) (k : Known A B O)
      → Stands history_of faults_of opening_of p s → At s.views id k → k.turn ≡ false
      → Stands history_of faults_of opening_of p (stepped s 0 (slice_index s.words 0) id [] (Some (hears k)) keeps)
  learns p s id k h at unturned =
      let w : Known A B O = hears k in
      let less : id < length s.views = id_below s.views id k at in
      let f = h.fits id k at in
      let sums = sum_by-set_at waiting s.views id (Some k) (Some w) at in
      let actives = sum_by-set_at active s.views id (Some k) (Some w) at in
      let fails = sum_by-set_at failures s.views id (Some k) (Some w) at in
      let len : length (set s.views id (Some w)) ≡ length s.views = length-set s.views id (Some w) in
      let queue = h.queue in
      let room = h.room in
      let lent = h.lent in
      let failed = h.failed in
      record {
        words = rw h.words refl;
        queue = omega arith;
        room = omega arith;
        small = h.small;
        lent = omega arith;
        failed = omega arith;
        fits = each_some (λ i l. Fits p l) s.views id w
            (record { opening = f.opening; base = f.base; seen = (both_begin k.seen k.heard p.history f.seen f.heard).2; heard = f.heard; mine = f.mine; faults = f.faults; ticket = f.ticket; turn = f.turn; below = f.below; before = f.before; root = f.root })
            (λ i l ne at'. h.fits i l at');
        tickets = apart_set SameTicket s.views id w ticket_turns
            (λ j l ne at' r. ne (sym (h.tickets id j k l at at' (record { first = r.first; second = r.second; ticket = r.ticket })))) h.tickets;
        numbers = apart_set SameNumber s.views id w (λ k l e. sym e) (λ j l ne at' r. ne (sym (h.numbers id j k l at at' r))) h.numbers;
        home = λ none. let d = h.home (λ i l at'. elim (ℕ_discrete i id) as (λ _. l.turn ≡ false) [
          | yes e ↦ ap (λ (z : Known A B O). z.turn) (sym (same_at s.views id k l at (subst (λ j. At s.views j l) e at'))) ∙ unturned
          | no ne ↦ none i l (set_else s.views id i (Some w) ne ∙ at')
        ]) in (d.0, d.1, record { history = d.2.history; faults = d.2.faults; opening = d.2.opening });
        ended = λ m e at'. let o = h.ended m e at' in record { mine = o.mine; below = o.below; unheld = still_unheld s.views id k w at refl e.number o.unheld };
        others = λ n unheld unended. h.others n (was_unheld s.views id k w at refl less n unheld) unended;
      }

  pub allows_learn : (id : ℕ) (k : Known A B O) → k.turn ≡ false
      → Allows (Kept history_of faults_of opening_of) 1 id (Some k, []) 0 (λ n. n) (Learns {S = Option D} (step 1 0 0 0 none) (Some k, []))
  allows_learn id k unturned = λ s h n at w.
      let f = h.1.fits id k at in
      let both = both_begin k.seen k.heard h.0.history f.seen f.heard in
      (Some (hears k), keeps, tt, (h.0, learns h.0 s id k h.1 at unturned), ((refl, both.0, both.1, f.before), refl))

  pub allows_split : (id n : ℕ) (k : Known A B O) → k.number ≡ 0 → k.given < n → n < 2 ^ 32
      → Splits (Kept history_of faults_of opening_of) id (Some k) (Some (lends n k)) (Some (starts n k))
  allows_split id n k first larger small s h at = (record h.0 { lent = h.0.lent + 1; given = n }, splits history_of faults_of opening_of h.0 s id n k h.1 at first larger small)

  pub allows_join : (id other : ℕ) (k l : Known A B O) → k.number ≡ 0 → l.waits ≡ false → l.turn ≡ false
      → Joins (Kept history_of faults_of opening_of) id (Some k) other (Some l) (Some (takes_in k l)) None
  allows_join id other k l first idle unturned s h at apart at_l = (
    record h.0 { lent = h.0.lent - 1; ended = h.0.ended ++ record { number = l.number; mine = l.mine } ∷ [] },
    joins history_of faults_of opening_of h.0 s id other k l h.1 at apart (sym (set_else s.views id other (Some (takes_in k l)) apart) ∙ at_l) first idle unturned,
  )

  -- where all that it gave was joined into the pass of number 0, it is alone
  pub alone_now : (p : Published A B O) (s : State (Option D) (Option (Known A B O))) (id : ℕ) (k : Known A B O)
      → Stands history_of faults_of opening_of p s → At s.views id k → k.number ≡ 0 → k.lent ≡ 0 → (i : ℕ) (l : Known A B O) → At s.views i l → i ≡ id
  alone_now p s id k h at first nothing i l at' = elim (ℕ_discrete i id) as (λ _. i ≡ id) [
    | yes e ↦ e
    | no ne ↦
        let root = (h.fits id k at).root first in
        let owed : k.lent ≡ p.lent = root.1 in
        let lent = h.lent in
        let one = sum_by-set_at active s.views id (Some k) None at in
        let two = one_of_sum active (set s.views id None) i (Some l) None (set_else s.views id i None ne ∙ at') refl in
        absurd (omega arith)
  ]

  pub closes : (id : ℕ) (k : Known A B O) (words : List ℕ) (items : List (Option D))
      → Final (Seen (Kept history_of faults_of opening_of) id (Some k)) words items → k.number ≡ 0 → k.lent ≡ 0 → k.turn ≡ false
      → (d : D) × (get_elem? items 0 ≡ some (Some d)) × Closes history_of faults_of opening_of k d
  closes id k words items final first nothing unturned =
      let s = final.0 in
      let p = final.1.0.0 in
      let h = final.1.0.1 in
      let at = final.1.1 in
      let f = h.fits id k at in
      let root = f.root first in
      let base : k.base ≡ p.base = f.base in
      let failed = h.failed in
      let own = one_of_sum failures s.views id (Some k) None at refl in
      let only = alone_now p s id k h at first nothing in
      let same = λ (i : ℕ) (l : Known A B O) (at' : At s.views i l). same_at s.views id k l at (subst (λ j. At s.views j l) (only i l at') at') in
      let d = h.home (λ i l at'. ap (λ (z : Known A B O). z.turn) (sym (same i l at')) ∙ unturned) in
      let published : history_of d.0 ≡ p.history = d.2.history in
      let count : faults_of d.0 ≡ p.faults = d.2.faults in (
        d.0,
        final.4 0 (Some d.0) d.1,
        record {
          opening = d.2.opening ∙ sym f.opening;
          seen = subst (λ l. IsPrefix k.seen l) (sym published) f.seen;
          mine = ap (λ l. entries_of k.number l) published ∙ f.mine;
          ended = λ m e at'. ap (λ l. entries_of e.number l) published ∙ (h.ended m e (subst (λ l. get_elem? l m ≡ some e) root.0 at')).mine;
          others = λ n ne unended. ap (λ l. entries_of n l) published ∙ h.others n
              (λ i l at' e. ne (sym (ap (λ (z : Known A B O). z.number) (same i l at') ∙ e)))
              (λ m e at'. unended m e (subst (λ l. get_elem? l m ≡ some e) (sym root.0) at'));
          faults = omega arith;
          count = omega (arith, f.faults);
        },
      )
