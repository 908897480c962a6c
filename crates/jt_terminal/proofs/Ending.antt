-- Nothing is left exactly where all that was recorded is accepted.
use Rattle.std.proofs.Common.{ℕ, ◌≡◌, ◌+◌, ◌↔◌, List, [], ◌∷◌, length, take, drop, Option, Some, None, Bool, IsTrue, refl, ap, sym, ◌∙◌, arith}
use Rattle.std.proofs.lemmas.List.{take-append-drop}
use Rattle.std.proofs.lemmas.List.Sums.{sum_by-append}
use Rattle.jt_store.specs.declared.unit.Unit.{Unit as OneUnit}
use Rattle.jt_store.specs.Tables.{WhereKnown}
use Rattle.jt_store.specs.Vaults.{Held, Gaps, fixes_carried, formed_count, accepted_count}
use Rattle.jt_terminal_rule.specs.declared.state.State.{State}
use Rattle.jt_terminal_rule.specs.Machines.{Agrees, IsInOrder}
use Rattle.jt_terminal_steps.specs.Running.{IsDone, IsSound}

none_there : {A : Type 0} (xs : List A) → length xs ≡ 0 → xs ≡ []
none_there [] e = refl
none_there (x ∷ xs) e = absurd (omega (arith, e))

none_carried : (mark low : ℕ) (units : List OneUnit) → Gaps mark low units → fixes_carried units ≡ 0 → units ≡ []
none_carried mark low [] g e = refl
none_carried mark low (u ∷ units) g e = let some = g.2.some in let alone : fixes_carried (u ∷ []) ≡ u.count = omega arith in let both = sum_by-append (λ (x : OneUnit). x.count) (u ∷ []) units in absurd (omega (arith, some, e, alone, both))

-- what is formed is accepted, or in units that are not
all_formed : (h : Held) (s : State) → Agrees h s → formed_count h ≡ accepted_count h + fixes_carried s.units
all_formed h s a =
    let both = sum_by-append (λ (u : OneUnit). u.count) (take h.accepted h.units) (drop h.accepted h.units) in
    ap fixes_carried (sym (take-append-drop h.accepted h.units)) ∙ (both ∙ ap (λ (us : List OneUnit). accepted_count h + fixes_carried us) (sym a.units))

done_of : (h : Held) (s : State) → IsInOrder s → Agrees h s → IsDone s ↔ (accepted_count h ≡ length h.recorded)
done_of h s o a = (there, back)
  where
    all : formed_count h ≡ accepted_count h + fixes_carried s.units
    all = all_formed h s a

    there : IsDone s → accepted_count h ≡ length h.recorded
    there done =
        let none : fixes_carried s.units ≡ 0 = ap fixes_carried done.0 in
        let left : length s.waiting ≡ 0 = ap (λ (fs : List (List ℕ)). length fs) done.1 in
        let whole = a.formed in
        omega (arith, none, left, all, whole)

    back : accepted_count h ≡ length h.recorded → IsDone s
    back e =
        let whole = a.formed in
        let left : length s.waiting ≡ 0 = omega (arith, e, whole, all) in
        let none : fixes_carried s.units ≡ 0 = omega (arith, e, whole, all) in
        (none_carried s.mark 1 s.units o.order.gaps none, none_there s.waiting left)

-- the answer says so of what is told
pub told_done : (held : Option Held) (s : State) (b : Bool) → IsSound held s → IsTrue b ↔ IsDone s → WhereKnown held (λ h. IsTrue b ↔ (accepted_count h ≡ length h.recorded))
told_done None s b sound is = tt
told_done (Some h) s b sound is = let done = done_of h s sound.order sound.agrees.0 in (λ yes_it_is. done.0 (is.0 yes_it_is), λ e. is.1 (done.1 e))
