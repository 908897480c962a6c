-- The pass in which vehicles are registered.
use Rattle.std.proofs.Common.{◌≡◌, ℕ, Bool, true, false, cond, List, Option, Some, None, refl, sym, ap, subst, ◌∙◌, inl, inr}
use Rattle.std.specs.Prelude.{◌⊎◌, ◌&&◌, IfSome, IsSomeAnd}
use Rattle.std.specs.Str.{bytes_eq}
use Rattle.std.proofs.lemmas.Bool.{true≢false}
use Rattle.std.proofs.lemmas.Slice.Eq.{bytes_eq-Decides}
use Rattle.jt_value.specs.declared.phone.Phone.{Phone}
use Rattle.jt_value.specs.Sameness.{key_of, same_key}
use Rattle.jt_store.specs.declared.row.Registered.{Registered}
use Rattle.jt_store.specs.Memory.{under}
use Rattle.jt_store.specs.Tables.{Tables, AreNamedOnce, MayRegister, plates, terminals}
use Rattle.dewfelt_fleet.specs.Fleets.{FleetValue, IsApart, is_allowed, is_allowed_by, is_same}
use Rattle.dewfelt_fleet.specs.Names.{is_among}
use Rattle.dewfelt_keeper.specs.Rules.{IsApplied, IsOnTheWay, bound_or, kept_by, settled_by}
use Rattle.dewfelt_keeper.specs.Sweeps.{AreAllowed, BindsAll, BindsNext, BindsSome, BindsUpTo, ForgetsAll, ForgetsSome, Stays, is_done, with_own_if}
use Rattle.dewfelt_keeper.proofs.Sweeping.{Place, behind_is, not_done, place_of, same_itself}

-- ---- what the fleet allows

both : (a b : Bool) → (a && b) ≡ true → (a ≡ true) × (b ≡ true)
both true true e = (refl, refl)
both true false e = absurd (true≢false (sym e))
both false b e = absurd (true≢false (sym e))

octets_are : (a b : List ℕ) → bytes_eq a b ≡ true → a ≡ b
octets_are a b e = (bytes_eq-Decides a b).0 e

pub same_registered : (a b : Registered) → is_same a b ≡ true → a ≡ b
same_registered a b e =
    let parts = both (bytes_eq a.plate b.plate) (bytes_eq a.terminal b.terminal) e in
    let plate = octets_are a.plate b.plate parts.0 in
    let terminal = octets_are a.terminal b.terminal parts.1 in
    λ i. record { plate = plate i; terminal = terminal i }

pub same_with_itself : (a : Registered) → is_same a a ≡ true
same_with_itself a = ap (λ b. b && bytes_eq a.terminal a.terminal) ((bytes_eq-Decides a.plate a.plate).1 refl) ∙ (bytes_eq-Decides a.terminal a.terminal).1 refl

module _ (fleet : FleetValue) where
  abbrev bound : List ℕ → Option Registered
  bound key = under fleet.bound key

  own_allowed : (key : List ℕ) (own : Registered) → bound key ≡ Some own → is_allowed fleet key own ≡ true
  own_allowed key own is = ap (λ o. is_allowed_by fleet.plates fleet.terminals o own) is ∙ same_with_itself own

  -- of a bound phone no other registration than its own is allowed
  pub own_is : (key : List ℕ) (own r : Registered) → bound key ≡ Some own → is_allowed fleet key r ≡ true → r ≡ own
  own_is key own r is allowed = sym (same_registered own r (sym (ap (λ o. is_allowed_by fleet.plates fleet.terminals o r) is) ∙ allowed))

  kept_allowed : (key : List ℕ) (was : Option Registered) → IfSome (kept_by fleet key was) (λ r. is_allowed fleet key r ≡ true)
  kept_allowed key None = tt
  kept_allowed key (Some r) = by_case (is_allowed fleet key r) refl
    where
      by_case : (b : Bool) → is_allowed fleet key r ≡ b → IfSome (cond b (Some r) None) (λ x. is_allowed fleet key x ≡ true)
      by_case true e = e
      by_case false e = tt

  pub all_allowed : (before list : List Phone) (old now : Tables) → ForgetsAll fleet before list old now → AreAllowed fleet now
  all_allowed before list old now all = λ key. subst (λ o. IfSome o (λ r. is_allowed fleet key r ≡ true)) (sym (all.registered key)) (kept_allowed key (old.registered key))

  module _ (once : AreNamedOnce bound) (apart : IsApart bound fleet.plates fleet.terminals) (t : Tables) (allowed : AreAllowed fleet t) (key : List ℕ) (own : Registered) (is : bound key ≡ Some own) where
    apart_here : (names : List (List ℕ)) (name_of : Registered → List ℕ) → IfSome (bound key) (λ r. is_among names (name_of r) ≡ false) → is_among names (name_of own) ≡ false
    apart_here names name_of h = subst (λ o. IfSome o (λ r. is_among names (name_of r) ≡ false)) is h

    plate_there : (other : List ℕ) (r : Registered) (its : Option Registered) → bound other ≡ its → is_allowed_by fleet.plates fleet.terminals its r ≡ true → r.plate ≡ own.plate → other ≡ key
    plate_there other r (Some its) e allows same =
        once.plate key other own.plate (subst (λ o. IsSomeAnd o (λ x. x.plate ≡ own.plate)) (sym is) refl)
        (subst (λ o. IsSomeAnd o (λ x. x.plate ≡ own.plate)) (sym e) (ap (λ (x : Registered). x.plate) (same_registered its r allows) ∙ same))
    plate_there other r None e allows same =
        let free = (both (is_among fleet.plates r.plate) (is_among fleet.terminals r.terminal) allows).0 in
        let bound_one = apart_here fleet.plates plates (apart.plate key) in
        absurd (true≢false (sym free ∙ ap (is_among fleet.plates) same ∙ bound_one))

    terminal_there : (other : List ℕ) (r : Registered) (its : Option Registered) → bound other ≡ its → is_allowed_by fleet.plates fleet.terminals its r ≡ true → r.terminal ≡ own.terminal → other ≡ key
    terminal_there other r (Some its) e allows same =
        once.terminal key other own.terminal (subst (λ o. IsSomeAnd o (λ x. x.terminal ≡ own.terminal)) (sym is) refl)
        (subst (λ o. IsSomeAnd o (λ x. x.terminal ≡ own.terminal)) (sym e) (ap (λ (x : Registered). x.terminal) (same_registered its r allows) ∙ same))
    terminal_there other r None e allows same =
        let free = (both (is_among fleet.plates r.plate) (is_among fleet.terminals r.terminal) allows).1 in
        let bound_one = apart_here fleet.terminals terminals (apart.terminal key) in
        absurd (true≢false (sym free ∙ ap (is_among fleet.terminals) same ∙ bound_one))

    by_name : (name_of : Registered → List ℕ) → ((other : List ℕ) (r : Registered) → is_allowed fleet other r ≡ true → name_of r ≡ name_of own → other ≡ key)
        → (other : List ℕ) (found : Option Registered) → IfSome found (λ r. is_allowed fleet other r ≡ true) → IsSomeAnd found (λ r. name_of r ≡ name_of own) → other ≡ key
    by_name name_of there other None allows has = absurd has
    by_name name_of there other (Some r) allows has = there other r allows has

    -- no other phone has what a vehicle is bound to
    pub may_register : MayRegister t.registered key own
    may_register = record {
      plate = λ other has. by_name plates (λ o r allows same. plate_there o r (bound o) refl allows same) other (t.registered other) (allowed other) has;
      terminal = λ other has. by_name terminals (λ o r allows same. terminal_there o r (bound o) refl allows same) other (t.registered other) (allowed other) has;
    }

  -- ---- one vehicle

  pub binds_none : (t : Tables) → BindsUpTo fleet None t t
  binds_none t = record { registered = λ key. refl; rows = refl }

  -- what the phone is registered with afterwards
  own_here : (key : List ℕ) (own : Registered) (now : Tables) (was : Option Registered) → bound key ≡ Some own → now.registered key ≡ was → IfSome was (λ r. is_allowed fleet key r ≡ true)
      → (with_own_if was key own now).registered key ≡ Some own
  own_here key own now None is stood allows = ap (λ b. cond b (Some own) (now.registered key)) (same_itself key)
  own_here key own now (Some r) is stood allows = stood ∙ ap Some (own_is key own r is allows)

  same_there : (key q : List ℕ) (own : Registered) (now : Tables) (was : Option Registered) → same_key key q ≡ false → (with_own_if was key own now).registered q ≡ now.registered q
  same_there key q own now None apart = ap (λ b. cond b (Some own) (now.registered q)) apart
  same_there key q own now (Some r) apart = refl

  rows_there : (key : List ℕ) (own : Registered) (now : Tables) (was : Option Registered) → (with_own_if was key own now).rows ≡ now.rows
  rows_there key own now None = refl
  rows_there key own now (Some r) = refl

  module _ (after : Option (List ℕ)) (phone : Phone) (old now next : Tables) (allowed : AreAllowed fleet old) (upto : BindsUpTo fleet after old now) (one : BindsNext fleet after (Some phone) now next) where
    was_here : now.registered (key_of phone) ≡ old.registered (key_of phone)
    was_here = upto.registered (key_of phone) ∙ ap (λ b. cond b (bound_or (bound (key_of phone)) (old.registered (key_of phone))) (old.registered (key_of phone))) (not_done after (key_of phone) one.1)

    at : (q : List ℕ) → Place bound after (key_of phone) q → next.registered q ≡ cond (is_done (Some (key_of phone)) q) (bound_or (bound q) (old.registered q)) (old.registered q)
    at q (inl h) =
        let stands : next.registered (key_of phone) ≡ Some one.0 =
        ap (λ (t : Tables). t.registered (key_of phone)) one.4
        ∙ own_here (key_of phone) one.0 now (now.registered (key_of phone)) one.2 refl (subst (λ o. IfSome o (λ r. is_allowed fleet (key_of phone) r ≡ true)) (sym was_here) (allowed (key_of phone))) in
        subst (λ k. next.registered k ≡ Some one.0) h.0 stands ∙ sym (ap (λ o. bound_or o (old.registered q)) (subst (λ k. bound k ≡ Some one.0) h.0 one.2))
        ∙ sym (ap (λ b. cond b (bound_or (bound q) (old.registered q)) (old.registered q)) h.1)
    at q (inr (inl h)) =
        ap (λ (t : Tables). t.registered q) one.4 ∙ same_there (key_of phone) q one.0 now (now.registered (key_of phone)) h.0 ∙ upto.registered q
        ∙ ap (λ b. cond b (bound_or (bound q) (old.registered q)) (old.registered q)) (sym h.1)
    at q (inr (inr h)) =
        ap (λ (t : Tables). t.registered q) one.4 ∙ same_there (key_of phone) q one.0 now (now.registered (key_of phone)) h.0 ∙ upto.registered q
        ∙ ap (λ b. cond b (bound_or (bound q) (old.registered q)) (old.registered q)) h.1
        ∙ sym (ap (λ o. bound_or o (old.registered q)) h.3)
        ∙ sym (ap (λ b. cond b (bound_or (bound q) (old.registered q)) (old.registered q)) h.2)

    pub binds_more : BindsUpTo fleet (Some (key_of phone)) old next
    binds_more = record {
      registered = λ q. at q (place_of bound after (key_of phone) one.1 one.3 q);
      rows = ap (λ (t : Tables). t.rows) one.4 ∙ rows_there (key_of phone) one.0 now (now.registered (key_of phone)) ∙ upto.rows;
    }

  bound_nothing : (after : Option (List ℕ)) (key : List ℕ) (was now : Option Registered) (done : Bool) → is_done after key ≡ done
      → now ≡ cond (is_done after key) (bound_or (bound key) was) was → (is_done after key ≡ false → bound key ≡ None) → now ≡ bound_or (bound key) was
  bound_nothing after key was now true e is none = is ∙ ap (λ b. cond b (bound_or (bound key) was) was) e
  bound_nothing after key was now false e is none = is ∙ ap (λ b. cond b (bound_or (bound key) was) was) e ∙ sym (ap (λ o. bound_or o was) (none e))

  pub binds_all : (after : Option (List ℕ)) (old now next : Tables) → BindsUpTo fleet after old now → BindsNext fleet after None now next → BindsAll fleet old next
  binds_all after old now next upto end = record {
    registered = λ key. ap (λ (t : Tables). t.registered key) end.1
        ∙ bound_nothing after key (old.registered key) (now.registered key) (is_done after key) refl (upto.registered key) (λ e. end.0 key (behind_is after key e));
    rows = ap (λ (t : Tables). t.rows) end.1 ∙ upto.rows;
  }

  pub binds_some : (after : Option (List ℕ)) (old now : Tables) → BindsUpTo fleet after old now → BindsSome fleet old now
  binds_some after old now upto = record {
    registered = λ key. by_case key (is_done after key) (upto.registered key);
    rows = upto.rows;
  }
    where
      by_case : (key : List ℕ) (b : Bool) → now.registered key ≡ cond b (bound_or (bound key) (old.registered key)) (old.registered key)
          → (now.registered key ≡ old.registered key) ⊎ (now.registered key ≡ bound_or (bound key) (old.registered key))
      by_case key true is = inr is
      by_case key false is = inl is

  -- whatever is done of it, each registration is allowed
  pub still_allowed : (after : Option (List ℕ)) (old now : Tables) → AreAllowed fleet old → BindsUpTo fleet after old now → AreAllowed fleet now
  still_allowed after old now allowed upto = λ key. subst (λ o. IfSome o (λ r. is_allowed fleet key r ≡ true)) (sym (upto.registered key)) (by_case key (is_done after key) (bound key) refl)
    where
      by_case : (key : List ℕ) (b : Bool) (own : Option Registered) → bound key ≡ own → IfSome (cond b (bound_or own (old.registered key)) (old.registered key)) (λ r. is_allowed fleet key r ≡ true)
      by_case key true (Some own) is = own_allowed key own is
      by_case key true None is = allowed key
      by_case key false own is = allowed key

  -- a registration that is there stays
  pub binds_stays : (after : Option (List ℕ)) (old now : Tables) → AreAllowed fleet old → BindsUpTo fleet after old now → Stays old now
  binds_stays after old now allowed upto = λ key. by_case key (is_done after key) (old.registered key) (bound key) refl refl (allowed key) (upto.registered key)
    where
      by_case : (key : List ℕ) (b : Bool) (was own : Option Registered) → old.registered key ≡ was → bound key ≡ own → IfSome was (λ r. is_allowed fleet key r ≡ true)
          → now.registered key ≡ cond b (bound_or own was) was → IfSome was (λ r. now.registered key ≡ Some r)
      by_case key b None own stood is allows stands = tt
      by_case key true (Some r) (Some own) stood is allows stands = stands ∙ ap Some (sym (own_is key own r is allows))
      by_case key true (Some r) None stood is allows stands = stands
      by_case key false (Some r) own stood is allows stands = stands

  -- ---- both passes

  pub applied : (before list : List Phone) (a b c : Tables) → ForgetsAll fleet before list a b → BindsAll fleet b c → IsApplied fleet a c
  applied before list a b c gone there = record {
    registered = λ key. there.registered key ∙ ap (bound_or (bound key)) (gone.registered key);
    rows = there.rows ∙ gone.rows;
  }

  abbrev OnTheWay : List ℕ → Option Registered → Option Registered → Type 0
  OnTheWay key was now = (now ≡ was) ⊎ (now ≡ kept_by fleet key was) ⊎ (now ≡ settled_by fleet key was)

  first_some : (key : List ℕ) (was now : Option Registered) → (now ≡ was) ⊎ (now ≡ kept_by fleet key was) → OnTheWay key was now
  first_some key was now (inl is) = inl is
  first_some key was now (inr is) = inr (inl is)

  pub on_the_way_first : (a b : Tables) → ForgetsSome fleet a b → IsOnTheWay fleet a b
  on_the_way_first a b some = record {
    registered = λ key. first_some key (a.registered key) (b.registered key) (some.registered key);
    rows = some.rows;
  }

  second_some : (key : List ℕ) (was kept now : Option Registered) → kept ≡ kept_by fleet key was → (now ≡ kept) ⊎ (now ≡ bound_or (bound key) kept) → OnTheWay key was now
  second_some key was kept now e (inl is) = inr (inl (is ∙ e))
  second_some key was kept now e (inr is) = inr (inr (is ∙ ap (bound_or (bound key)) e))

  pub on_the_way_second : (before list : List Phone) (a b c : Tables) → ForgetsAll fleet before list a b → BindsSome fleet b c → IsOnTheWay fleet a c
  on_the_way_second before list a b c gone some = record {
    registered = λ key. second_some key (a.registered key) (b.registered key) (c.registered key) (gone.registered key) (some.registered key);
    rows = some.rows ∙ gone.rows;
  }
