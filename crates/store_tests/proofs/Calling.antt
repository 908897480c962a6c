-- Why calls of the stores may be made.
use Rattle.std.proofs.Common.{◌≡◌, ℕ, Bool, true, List, Option, None, Some, sym, subst, ◌∙◌}
use Rattle.jt_store.specs.declared.row.Registered.{Registered}
use Rattle.jt_store.specs.Tables.{Tables, WhereKnown, MayAppend, MayRegister, last_of, plates, terminals}
use Rattle.store_tests.specs.Free.{IsFree}

pub may_append : (old new : Option Tables) (key : List ℕ) (last : Option ℕ) (n : ℕ) → new ≡ old → WhereKnown old (λ t. last ≡ last_of (t.rows key)) → MayAppend last n → WhereKnown new (λ t. MayAppend (last_of (t.rows key)) n)
may_append old new key last n e is may = subst (λ (o : Option Tables). WhereKnown o (λ t. MayAppend (last_of (t.rows key)) n)) (sym e) (by_case old is)
  where
    by_case : (o : Option Tables) → WhereKnown o (λ t. last ≡ last_of (t.rows key)) → WhereKnown o (λ t. MayAppend (last_of (t.rows key)) n)
    by_case None is = tt
    by_case (Some t) is = subst (λ (l : Option ℕ). MayAppend l n) is may

pub may_register : (one two three : Option Tables) (key : List ℕ) (r : Registered) (plate terminal : Bool) → two ≡ one → three ≡ two → WhereKnown one (λ t. IsFree plates t.registered key r.plate plate) → WhereKnown two (λ t. IsFree terminals t.registered key r.terminal terminal)
    → plate ≡ true → terminal ≡ true → WhereKnown three (λ t. MayRegister t.registered key r)
may_register one two three key r plate terminal d e p t yes_plate yes_terminal =
    let p3 = subst (λ (o : Option Tables). WhereKnown o (λ t. IsFree plates t.registered key r.plate plate)) (sym (e ∙ d)) p in
    let t3 = subst (λ (o : Option Tables). WhereKnown o (λ t. IsFree terminals t.registered key r.terminal terminal)) (sym e) t in
    by_case three p3 t3
  where
    by_case : (o : Option Tables) → WhereKnown o (λ t. IsFree plates t.registered key r.plate plate) → WhereKnown o (λ t. IsFree terminals t.registered key r.terminal terminal) → WhereKnown o (λ t. MayRegister t.registered key r)
    by_case None p t = tt
    by_case (Some tables) p t = record { plate = p yes_plate; terminal = t yes_terminal }
