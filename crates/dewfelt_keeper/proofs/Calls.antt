-- What one call of a keeper does for a fleet that is applied.
use Rattle.std.proofs.Common.{◌≡◌, ℕ, Bool, true, false, cond, List, [], ◌∷◌, ◌++◌, Option, Some, None, refl, sym, ap, subst, append_assoc, append-nil, ◌∙◌, inl, inr}
use Rattle.std.specs.Prelude.{◌⊎◌, Result, Ok, Err, OnOk, OnErr, IfSome}
use Rattle.jt_value.specs.declared.phone.Phone.{Phone}
use Rattle.jt_value.specs.Sameness.{key_of}
use Rattle.jt_store.specs.declared.error.StoreError.{StoreError}
use Rattle.jt_store.specs.declared.error.StoreError.TheVariants.{Failed, Full, Memory}
use Rattle.jt_store.specs.declared.row.Registered.{Registered}
use Rattle.jt_store.specs.Tables.{Tables, AreNamedOnce, FindsNext, MayRegister, WhereKnown, Writes, registered_set}
use Rattle.dewfelt_fleet.specs.Fleets.{FleetValue, IsApart, is_allowed}
use Rattle.jt_store.specs.Memory.{under}
use Rattle.dewfelt_keeper.specs.Rules.{AreBehind, AreForgotten, AreListed, Becomes, IsApplied, IsDropped, IsListed, IsOnTheWay, kept_by}
use Rattle.dewfelt_keeper.specs.Sweeps.{AreAllowed, BindsAll, BindsNext, BindsSome, BindsUpTo, ForgetsAll, ForgetsNext, ForgetsSome, ForgetsUpTo, Stays, left_allowed, listed_if, with_own, with_own_if, with_own_or}
use Rattle.dewfelt_keeper.proofs.Removing.{becomes_by, becomes_same, becomes_then, forgets_all, forgets_more, forgets_none, forgets_some, listed_behind, listed_longer, listed_some, still_listed}
use Rattle.dewfelt_keeper.proofs.Binding.{all_allowed, applied, binds_all, binds_more, binds_none, binds_some, binds_stays, may_register, on_the_way_first, on_the_way_second, still_allowed}

pub told_by : (old new : Option Tables) (P : Tables → Type 0) → new ≡ old → WhereKnown old P → WhereKnown new P
told_by old new P same told = subst (λ t. WhereKnown t P) (sym same) told

pub becomes_along : (a b c : Option Tables) (R : Tables → Tables → Type 0) → b ≡ a → Becomes b c R → Becomes a c R
becomes_along a b c R same r = subst (λ t. Becomes t c R) same r

-- after an error of a call that writes all is as before
pub err_same : {T : Type 0} (old next new : Option Tables) (result : Result T StoreError) → Writes old next new result → OnErr result (new ≡ old)
err_same old next new (Ok x) is = tt
err_same old next new (Err Failed) is = is
err_same old next new (Err Memory) is = is
err_same old next new (Err (Full l)) is = absurd is

-- ---- a registration that is allowed, or removed

pub left_as_it_is : (fleet : FleetValue) (key : List ℕ) (r : Registered) (t : Option Tables) → is_allowed fleet key r ≡ true → Becomes t t (λ old now. now ≡ left_allowed fleet key r old)
left_as_it_is fleet key r t allowed = becomes_same t _ (λ x. sym (ap (λ b. cond b x (with_own key None x)) allowed))

pub gone : {T : Type 0} (fleet : FleetValue) (key : List ℕ) (r : Registered) (old new : Option Tables) (result : Result T StoreError) → is_allowed fleet key r ≡ false → Writes old (registered_set key None old) new result
    → OnOk result (Becomes old new (λ a b. b ≡ left_allowed fleet key r a))
gone fleet key r None new (Ok x) refused is = subst (λ n. Becomes None n (λ a b. b ≡ left_allowed fleet key r a)) (sym is) tt
gone fleet key r (Some t) new (Ok x) refused is = subst (λ n. Becomes (Some t) n (λ a b. b ≡ left_allowed fleet key r a)) (sym is) (sym (ap (λ b. cond b t (with_own key None t)) refused))
gone fleet key r old new (Err e) refused is = tt

-- ---- phones that are put behind others

pub none_behind : (list : List Phone) → AreBehind list list
none_behind list = ([], sym (append-nil list))

pub one_behind : (list : List Phone) (phone : Phone) → AreBehind list (list ++ phone ∷ [])
one_behind list phone = (phone ∷ [], refl)

pub behind_then : (a b c : List Phone) → AreBehind a b → AreBehind b c → AreBehind a c
behind_then a b c first second =
    (first.0 ++ second.0, second.1 ∙ ap (λ l. l ++ second.0) first.1 ∙ append_assoc a first.0 second.0)

pub listed_not : (fleet : FleetValue) (phone : Phone) (r : Registered) (list : List Phone) → is_allowed fleet (key_of phone) r ≡ true → list ≡ listed_if fleet phone r list
listed_not fleet phone r list allowed = sym (ap (λ b. cond b list (list ++ phone ∷ [])) allowed)

pub listed_one : (fleet : FleetValue) (phone : Phone) (r : Registered) (list now : List Phone) → is_allowed fleet (key_of phone) r ≡ false → now ≡ list ++ phone ∷ [] → now ≡ listed_if fleet phone r list
listed_one fleet phone r list now refused is = is ∙ sym (ap (λ b. cond b list (list ++ phone ∷ [])) refused)

-- ---- the registration that is looked at

pub none_next : (fleet : FleetValue) (after : Option (List ℕ)) (list : List Phone) (old new : Option Tables) → new ≡ old → WhereKnown old (λ t. FindsNext t.registered after None)
    → Becomes old new (ForgetsNext fleet after None list list)
none_next fleet after list old new same told = subst (λ n. Becomes old n (ForgetsNext fleet after None list list)) (sym same) (here old told)
  where
    here : (t : Option Tables) → WhereKnown t (λ x. FindsNext x.registered after None) → Becomes t t (ForgetsNext fleet after None list list)
    here None told = tt
    here (Some x) told = (told, refl, refl)

pub some_next : (fleet : FleetValue) (after : Option (List ℕ)) (phone : Phone) (r : Registered) (before list : List Phone) (a b c : Option Tables) → b ≡ a → WhereKnown a (λ t. FindsNext t.registered after (Some (phone, r)))
    → Becomes b c (λ old now. now ≡ left_allowed fleet (key_of phone) r old) → list ≡ listed_if fleet phone r before → Becomes a c (ForgetsNext fleet after (Some phone) before list)
some_next fleet after phone r before list a b c same told left listed = here a c told (becomes_along a b c _ same left)
  where
    here : (x y : Option Tables) → WhereKnown x (λ t. FindsNext t.registered after (Some (phone, r))) → Becomes x y (λ old now. now ≡ left_allowed fleet (key_of phone) r old)
        → Becomes x y (ForgetsNext fleet after (Some phone) before list)
    here None None told left = tt
    here None (Some y) told left = left
    here (Some x) None told left = left
    here (Some x) (Some y) told left = (r, told, left, listed)

-- ---- a phone that is registered as it is bound

pub own_stands : (key : List ℕ) (own r : Registered) (old new : Option Tables) → new ≡ old → WhereKnown old (λ t. Some r ≡ t.registered key) → Becomes old new (λ a b. b ≡ with_own_or key own a)
own_stands key own r old new same told = subst (λ n. Becomes old n (λ a b. b ≡ with_own_or key own a)) (sym same) (here old told)
  where
    here : (t : Option Tables) → WhereKnown t (λ x. Some r ≡ x.registered key) → Becomes t t (λ a b. b ≡ with_own_or key own a)
    here None told = tt
    here (Some x) told = ap (λ o. with_own_if o key own x) told

pub own_put : {T : Type 0} (key : List ℕ) (own : Registered) (a b c : Option Tables) (result : Result T StoreError) → b ≡ a → WhereKnown a (λ t. None ≡ t.registered key)
    → Writes b (registered_set key (Some own) b) c result → OnOk result (Becomes a c (λ x y. y ≡ with_own_or key own x))
own_put key own a b c (Err e) same told is = tt
own_put key own a b c (Ok x) same told is = here a c told (is ∙ ap (registered_set key (Some own)) same)
  where
    here : (t n : Option Tables) → WhereKnown t (λ z. None ≡ z.registered key) → n ≡ registered_set key (Some own) t → Becomes t n (λ z y. y ≡ with_own_or key own z)
    here None n told is = subst (λ m. Becomes None m (λ z y. y ≡ with_own_or key own z)) (sym is) tt
    here (Some t) n told is = subst (λ m. Becomes (Some t) m (λ z y. y ≡ with_own_or key own z)) (sym is) (ap (λ o. with_own_if o key own t) told)

-- ---- passes

pub on_err : {T E : Type 0} (r : Result T E) (P : Type 0) → P → OnErr r P
on_err (Ok x) P p = tt
on_err (Err e) P p = p

pub becomes_until : (a b c : Option Tables) (R : Tables → Tables → Type 0) → Becomes a b R → c ≡ b → Becomes a c R
becomes_until a b c R r same = subst (λ t. Becomes a t R) (sym same) r

pub forget_start : (fleet : FleetValue) (list : List Phone) (t : Option Tables) → Becomes t t (ForgetsUpTo fleet None list list)
forget_start fleet list t = becomes_same t _ (λ x. forgets_none fleet list x)

pub forget_step : (fleet : FleetValue) (after : Option (List ℕ)) (phone : Phone) (l m n : List Phone) (a b c : Option Tables) → Becomes a b (ForgetsUpTo fleet after l m)
    → Becomes b c (ForgetsNext fleet after (Some phone) m n) → Becomes a c (ForgetsUpTo fleet (Some (key_of phone)) l n)
forget_step fleet after phone l m n a b c upto one =
    becomes_then a b c _ _ (ForgetsUpTo fleet (Some (key_of phone)) l n) (λ x y z r s. forgets_more fleet after phone l m n x y z r s) upto one

pub forget_end : (fleet : FleetValue) (after : Option (List ℕ)) (l m n : List Phone) (a b c : Option Tables) → Becomes a b (ForgetsUpTo fleet after l m) → Becomes b c (ForgetsNext fleet after None m n)
    → Becomes a c (ForgetsAll fleet l n)
forget_end fleet after l m n a b c upto last = becomes_then a b c _ _ (ForgetsAll fleet l n) (λ x y z r s. forgets_all fleet after l m n x y z r s) upto last

pub forget_part : (fleet : FleetValue) (after : Option (List ℕ)) (l m : List Phone) (a b : Option Tables) → Becomes a b (ForgetsUpTo fleet after l m) → Becomes a b (ForgetsSome fleet)
forget_part fleet after l m a b upto = becomes_by a b _ (ForgetsSome fleet) (λ x y r. forgets_some fleet after l m x y r) upto

-- where the next one failed, nothing was done but that a phone may be listed
pub forget_part_then : (fleet : FleetValue) (after : Option (List ℕ)) (l m : List Phone) (a b c : Option Tables) → Becomes a b (ForgetsUpTo fleet after l m) → c ≡ b → Becomes a c (ForgetsSome fleet)
forget_part_then fleet after l m a b c upto same = becomes_until a b c _ (forget_part fleet after l m a b upto) same

pub listed_part : (fleet : FleetValue) (after : Option (List ℕ)) (l m : List Phone) (a b : Option Tables) → Becomes a b (ForgetsUpTo fleet after l m) → Becomes a b (AreListed m)
listed_part fleet after l m a b upto = becomes_by a b _ (AreListed m) (λ x y r. listed_some fleet after l m x y r) upto

pub listed_part_then : (fleet : FleetValue) (after : Option (List ℕ)) (l m n : List Phone) (a b c : Option Tables) → Becomes a b (ForgetsUpTo fleet after l m) → c ≡ b → AreBehind m n → Becomes a c (AreListed n)
listed_part_then fleet after l m n a b c upto same behind =
    subst (λ list. Becomes a c (AreListed list)) (sym behind.1)
    (becomes_by a c (AreListed m) (AreListed (m ++ behind.0)) (λ x y r. listed_longer m behind.0 x y r) (becomes_until a b c _ (listed_part fleet after l m a b upto) same))

-- where all are gone, those that were there and are not allowed are listed
pub forgotten_where : (fleet : FleetValue) (l m : List Phone) (a b : Option Tables) → Becomes a b (ForgetsAll fleet l m) → WhereKnown a (λ t. AreForgotten fleet t l m)
forgotten_where fleet l m None b all = tt
forgotten_where fleet l m (Some x) None all = absurd all
forgotten_where fleet l m (Some x) (Some y) all = all.listed

kept_listed : (fleet : FleetValue) (key : List ℕ) (was now : Option Registered) → now ≡ kept_by fleet key was → IsDropped fleet key was ⊎ IfSome was (λ r. now ≡ Some r)
kept_listed fleet key None now is = inr tt
kept_listed fleet key (Some r) now is = by_case (is_allowed fleet key r) refl is
  where
    by_case : (b : Bool) → is_allowed fleet key r ≡ b → now ≡ cond b (Some r) None → (is_allowed fleet key r ≡ false) ⊎ (now ≡ Some r)
    by_case true allows is = inr is
    by_case false allows is = inl allows

all_listed : (fleet : FleetValue) (l m : List Phone) (x y : Tables) → ForgetsAll fleet l m x y → AreListed m x y
all_listed fleet l m x y all = λ key. by_case key (kept_listed fleet key (x.registered key) (y.registered key) (all.registered key))
  where
    by_case : (key : List ℕ) → IsDropped fleet key (x.registered key) ⊎ IfSome (x.registered key) (λ r. y.registered key ≡ Some r)
        → IsListed m key ⊎ IfSome (x.registered key) (λ r. y.registered key ≡ Some r)
    by_case key (inl dropped) =
        inl (subst (λ list. IsListed list key) (sym all.listed.1) (listed_behind l all.listed.0 key ((all.listed.2 key).1 dropped)))
    by_case key (inr stays) = inr stays

pub listed_all : (fleet : FleetValue) (l m : List Phone) (a b : Option Tables) → Becomes a b (ForgetsAll fleet l m) → Becomes a b (AreListed m)
listed_all fleet l m a b all = becomes_by a b _ (AreListed m) (λ x y r. all_listed fleet l m x y r) all

pub may_where : (fleet : FleetValue) (t : Option Tables) (key : List ℕ) (own : Registered) → AreNamedOnce (under fleet.bound) → IsApart (under fleet.bound) fleet.plates fleet.terminals
    → WhereKnown t (AreAllowed fleet) → under fleet.bound key ≡ Some own → WhereKnown t (λ x. MayRegister x.registered key own)
may_where fleet None key own once apart allowed is = tt
may_where fleet (Some x) key own once apart allowed is = may_register fleet once apart x allowed key own is

pub bind_start : (fleet : FleetValue) (t : Option Tables) → Becomes t t (BindsUpTo fleet None)
bind_start fleet t = becomes_same t _ (λ x. binds_none fleet x)

pub bind_allowed : (fleet : FleetValue) (after : Option (List ℕ)) (a b : Option Tables) → WhereKnown a (AreAllowed fleet) → Becomes a b (BindsUpTo fleet after) → WhereKnown b (AreAllowed fleet)
bind_allowed fleet after None None allowed upto = tt
bind_allowed fleet after None (Some y) allowed upto = absurd upto
bind_allowed fleet after (Some x) None allowed upto = absurd upto
bind_allowed fleet after (Some x) (Some y) allowed upto = still_allowed fleet after x y allowed upto

pub bind_step : (fleet : FleetValue) (after : Option (List ℕ)) (phone : Phone) (a b c : Option Tables) → WhereKnown a (AreAllowed fleet) → Becomes a b (BindsUpTo fleet after)
    → Becomes b c (BindsNext fleet after (Some phone)) → Becomes a c (BindsUpTo fleet (Some (key_of phone)))
bind_step fleet after phone None None None allowed upto one = tt
bind_step fleet after phone None None (Some z) allowed upto one = absurd one
bind_step fleet after phone None (Some y) c allowed upto one = absurd upto
bind_step fleet after phone (Some x) None c allowed upto one = absurd upto
bind_step fleet after phone (Some x) (Some y) None allowed upto one = absurd one
bind_step fleet after phone (Some x) (Some y) (Some z) allowed upto one = binds_more fleet after phone x y z allowed upto one

pub bind_end : (fleet : FleetValue) (after : Option (List ℕ)) (a b c : Option Tables) → Becomes a b (BindsUpTo fleet after) → Becomes b c (BindsNext fleet after None) → Becomes a c (BindsAll fleet)
bind_end fleet after a b c upto last = becomes_then a b c _ _ (BindsAll fleet) (λ x y z r s. binds_all fleet after x y z r s) upto last

pub bind_part : (fleet : FleetValue) (after : Option (List ℕ)) (a b : Option Tables) → Becomes a b (BindsUpTo fleet after) → Becomes a b (BindsSome fleet)
bind_part fleet after a b upto = becomes_by a b _ (BindsSome fleet) (λ x y r. binds_some fleet after x y r) upto

pub all_where : (fleet : FleetValue) (l m : List Phone) (a b : Option Tables) → Becomes a b (ForgetsAll fleet l m) → WhereKnown b (AreAllowed fleet)
all_where fleet l m None None all = tt
all_where fleet l m None (Some y) all = absurd all
all_where fleet l m (Some x) None all = absurd all
all_where fleet l m (Some x) (Some y) all = all_allowed fleet l m x y all

pub both_applied : (fleet : FleetValue) (l m : List Phone) (a b c : Option Tables) → Becomes a b (ForgetsAll fleet l m) → Becomes b c (BindsAll fleet) → Becomes a c (IsApplied fleet)
both_applied fleet l m a b c gone there = becomes_then a b c _ _ (IsApplied fleet) (λ x y z r s. applied fleet l m x y z r s) gone there

pub first_part : (fleet : FleetValue) (a b : Option Tables) → Becomes a b (ForgetsSome fleet) → Becomes a b (IsOnTheWay fleet)
first_part fleet a b some = becomes_by a b _ (IsOnTheWay fleet) (λ x y r. on_the_way_first fleet x y r) some

pub second_part : (fleet : FleetValue) (l m : List Phone) (a b c : Option Tables) → Becomes a b (ForgetsAll fleet l m) → Becomes b c (BindsSome fleet) → Becomes a c (IsOnTheWay fleet)
second_part fleet l m a b c gone some = becomes_then a b c _ _ (IsOnTheWay fleet) (λ x y z r s. on_the_way_second fleet l m x y z r s) gone some

pub none_same : (fleet : FleetValue) (after : Option (List ℕ)) (a b : Option Tables) → Becomes a b (BindsNext fleet after None) → b ≡ a
none_same fleet after None None last = refl
none_same fleet after None (Some y) last = absurd last
none_same fleet after (Some x) None last = absurd last
none_same fleet after (Some x) (Some y) last = ap Some last.1

pub bind_stays : (fleet : FleetValue) (after : Option (List ℕ)) (a b : Option Tables) → WhereKnown a (AreAllowed fleet) → Becomes a b (BindsUpTo fleet after) → Becomes a b Stays
bind_stays fleet after None None allowed upto = tt
bind_stays fleet after None (Some y) allowed upto = upto
bind_stays fleet after (Some x) None allowed upto = upto
bind_stays fleet after (Some x) (Some y) allowed upto = binds_stays fleet after x y allowed upto

pub listed_still : (m : List Phone) (a b c : Option Tables) → Becomes a b (AreListed m) → Becomes b c Stays → Becomes a c (AreListed m)
listed_still m a b c listed stays = becomes_then a b c (AreListed m) Stays (AreListed m) (λ x y z r s. still_listed m x y z r s) listed stays
