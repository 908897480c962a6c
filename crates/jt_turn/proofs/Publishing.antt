-- The desk is given back, with what it did: the rule is kept.
use Rattle.std.proofs.Common.{◌≡◌, ◌≢◌, ℕ, ◌+◌, ◌%◌, ◌^◌, ◌<◌, ◌≤◌, ◌==◌, true, List, [], ◌∷◌, ◌++◌, length, set, refl, ap, sym, ◌∙◌, subst, arith, append_assoc, append-nil, length-set, eq-eqb, ne_eqb}
use Rattle.std.proofs.lemmas.Bool.{true≢false}
use Rattle.std.proofs.lemmas.List.Elements.{filter-append}
use Rattle.std.specs.Prelude.{if◌then◌else◌, slice_index, Option, Some}
use mathlib.Core.Option.{some}
use mathlib.Core.List.{IsPrefix}
use mathlib.Core.Logic.{dite}
use native.Mathlib.Decide.{ℕ_discrete}
use Rattle.atomic_table.specs.Table.{State, gives, stepped}
use Rattle.atomic_table.proofs.Lists.{set_here}
use Rattle.jt_turn.specs.declared.entry.Entry.{Entry}
use Rattle.jt_turn.specs.declared.known.Known.{Known}
use Rattle.jt_turn.specs.Histories.{entries_of}
use Rattle.jt_turn.specs.Rules.{Published, Stands, Fits, At, SameTicket, SameNumber, Acted, publishing, waiting, active, failures}
use Rattle.jt_turn.proofs.Views.{sum_by-set_at, each_some, apart_set}
use Rattle.jt_turn.proofs.Drawing.{next_mod, ticket_turns, id_below, waiting_is, still_unheld, was_unheld}

pub prefix_more : {X : Type 0} (xs ys zs : List X) → IsPrefix xs ys → IsPrefix xs (ys ++ zs)
prefix_more xs ys zs p = (p.0 ++ zs, sym (append_assoc xs p.0 zs) ∙ ap (λ w. w ++ zs) p.1)

pub prefix_self : {X : Type 0} (xs : List X) → IsPrefix xs xs
prefix_self xs = ([], append-nil xs)

-- how much the failures of a pass rise
pub rise_within : (new old : ℕ) → old ≤ new → old + (if new == old then 0 else 1) ≤ new
rise_within new old le = dite (ℕ_discrete new old)
    (λ e. subst (λ b. old + (if b then 0 else 1) ≤ new) (sym (eq-eqb new old e)) (omega (arith, le)))
    (λ ne. subst (λ b. old + (if b then 0 else 1) ≤ new) (sym (ne_eqb new old ne)) (omega (arith, le, ne)))

pub after_served : (served ticket : ℕ) → served ≤ ticket → ticket ≢ served → served + 1 ≤ ticket
after_served served ticket le ne = omega (arith, le, ne)

module _ {D A B O : Type 0} (history_of : D → List (Entry A B)) (faults_of : D → ℕ) (opening_of : D → O) where
  pub gives_back : (p : Published A B O) (s : State (Option D) (Option (Known A B O))) (id : ℕ) (k : Known A B O) (d : D)
      → Stands history_of faults_of opening_of p s → At s.views id k → k.turn ≡ true → Acted history_of faults_of opening_of k d → length s.homes ≡ 1
      → Stands history_of faults_of opening_of (record p { history = history_of d; faults = faults_of d; served = p.served + 1 })
      (stepped s 1 ((slice_index s.words 1 + 1) % 2 ^ 64) id ((0, Some d) ∷ []) (Some (publishing history_of faults_of opening_of d k)) gives)
  gives_back p s id k d h at turned acted homes =
      let q : Published A B O = record p { history = history_of d; faults = faults_of d; served = p.served + 1 } in
      let w : Known A B O = publishing history_of faults_of opening_of d k in
      let less : id < length s.views = id_below s.views id k at in
      let f = h.fits id k at in
      let t = f.turn turned in
      let waits : k.waits ≡ true = t.0 in
      let es = acted.history.0 in
      let grown : history_of d ≡ p.history ++ es = acted.history.1 ∙ ap (λ l. l ++ es) t.2 in
      let longer = λ (xs : List (Entry A B)) (pre : IsPrefix xs p.history). subst (λ l. IsPrefix xs l) (sym grown) (prefix_more xs p.history es pre) in
      let others = λ (n : ℕ) (ne : n ≢ k.number) (m : List (Entry A B)) (was : entries_of n p.history ≡ m).
      ap (λ l. entries_of n l) grown ∙ (filter-append (λ (e : Entry A B). e.number == n) p.history es ∙ (ap (λ l. entries_of n p.history ++ l) (acted.history.2 n ne) ∙ (append-nil (entries_of n p.history) ∙ was))) in
      let one_before : waiting (Some k) ≡ 1 = waiting_is k waits in
      let sums = sum_by-set_at waiting s.views id (Some k) (Some w) at in
      let actives = sum_by-set_at active s.views id (Some k) (Some w) at in
      let fails = sum_by-set_at failures s.views id (Some k) (Some w) at in
      let len : length (set s.views id (Some w)) ≡ length s.views = length-set s.views id (Some w) in
      let queue = h.queue in
      let room = h.room in
      let lent = h.lent in
      let failed = h.failed in
      let found : k.found_faults ≡ p.faults = t.3 in
      let rise = rise_within (faults_of d) k.found_faults acted.faults in
      record {
        words = rw h.words (ap (λ (x : ℕ). (p.drawn % 2 ^ 64) ∷ x ∷ p.aside) (next_mod p.served (2 ^ 64)));
        queue = omega arith;
        room = omega arith;
        small = h.small;
        lent = omega arith;
        failed = omega arith;
        fits = each_some (λ i l. Fits q l) s.views id w
            (record {
              opening = f.opening;
              base = f.base;
              seen = prefix_self (history_of d);
              heard = longer k.heard f.heard;
              mine = refl;
              faults = omega arith;
              ticket = λ e. absurd (true≢false (sym e));
              turn = λ e. absurd (true≢false (sym e));
              below = f.below;
              before = f.before;
              root = f.root;
            })
            (λ i l ne at'. let g = h.fits i l at' in record {
              opening = g.opening;
              base = g.base;
              seen = longer l.seen g.seen;
              heard = longer l.heard g.heard;
              mine = others l.number (λ e. ne (h.numbers i id l k at' at e)) l.mine g.mine;
              faults = omega (arith, g.faults, acted.faults, found);
              ticket = λ e. let u = g.ticket e in (after_served p.served l.ticket u.0 (λ same. ne (h.tickets i id l k at' at (record { first = e; second = waits; ticket = same ∙ sym t.1 }))), u.1);
              turn = λ e. let u = g.turn e in absurd (ne (h.tickets i id l k at' at (record { first = u.0; second = waits; ticket = u.1 ∙ sym t.1 })));
              below = g.below;
              before = g.before;
              root = g.root;
            });
        tickets = apart_set SameTicket s.views id w ticket_turns
            (λ j l ne at' r. true≢false (sym r.first)) h.tickets;
        numbers = apart_set SameNumber s.views id w (λ k l e. sym e) (λ j l ne at' r. ne (sym (h.numbers id j k l at at' r))) h.numbers;
        home = λ none. (d, set_here s.homes 0 (some (Some d)) (omega arith), record { history = refl; faults = refl; opening = acted.opening ∙ f.opening });
        ended = λ m e at'. let o = h.ended m e at' in record { mine = others e.number (λ same. o.unheld id k at (sym same)) e.mine o.mine; below = o.below; unheld = still_unheld s.views id k w at refl e.number o.unheld };
        others = λ n unheld unended. let was = was_unheld s.views id k w at refl less n unheld in others n (λ e. was id k at (sym e)) [] (h.others n was unended);
      }
