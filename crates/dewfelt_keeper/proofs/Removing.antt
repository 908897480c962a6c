-- The pass in which registrations go that the fleet does not allow.
use Rattle.std.proofs.Common.{◌≡◌, ℕ, Bool, true, false, cond, List, [], ◌∷◌, ◌++◌, Option, Some, None, refl, sym, ap, subst, append_assoc, append-nil, ◌∙◌, inl, inr}
use Rattle.std.specs.Prelude.{◌⊎◌, ◌↔◌, IfSome}
use Rattle.std.proofs.lemmas.Bool.{true≢false}
use Rattle.jt_value.specs.declared.phone.Phone.{Phone}
use Rattle.jt_value.specs.Sameness.{key_of, same_key}
use Rattle.jt_store.specs.declared.row.Registered.{Registered}
use Rattle.jt_store.specs.Tables.{Tables, FindsNext}
use Rattle.dewfelt_fleet.specs.Fleets.{FleetValue, is_allowed}
use Rattle.dewfelt_keeper.specs.Rules.{AreListed, Becomes, IsDropped, IsListed, kept_by}
use Rattle.dewfelt_keeper.specs.Sweeps.{ForgetsAll, ForgetsNext, ForgetsSome, ForgetsUpTo, Stays, is_done, listed_if, with_own}
use Rattle.dewfelt_keeper.proofs.Sweeping.{Place, behind_is, not_done, place_of, same_itself}

-- ---- tables that are told

pub becomes_same : (t : Option Tables) (R : Tables → Tables → Type 0) → ((x : Tables) → R x x) → Becomes t t R
becomes_same None R same = tt
becomes_same (Some t) R same = same t

pub becomes_then : (a b c : Option Tables) (R S U : Tables → Tables → Type 0) → ((x y z : Tables) → R x y → S y z → U x z) → Becomes a b R → Becomes b c S → Becomes a c U
becomes_then None None None R S U join r s = tt
becomes_then None None (Some z) R S U join r s = s
becomes_then None (Some y) c R S U join r s = absurd r
becomes_then (Some x) None c R S U join r s = absurd r
becomes_then (Some x) (Some y) None R S U join r s = s
becomes_then (Some x) (Some y) (Some z) R S U join r s = join x y z r s

pub becomes_by : (a b : Option Tables) (R S : Tables → Tables → Type 0) → ((x y : Tables) → R x y → S x y) → Becomes a b R → Becomes a b S
becomes_by None None R S f r = tt
becomes_by None (Some y) R S f r = r
becomes_by (Some x) None R S f r = r
becomes_by (Some x) (Some y) R S f r = f x y r

-- ---- lists of phones

listed_more : (list more : List Phone) (key : List ℕ) → IsListed list key → IsListed (list ++ more) key
listed_more [] more key is = absurd is
listed_more (p ∷ list) more key (inl is) = inl is
listed_more (p ∷ list) more key (inr is) = inr (listed_more list more key is)

pub listed_behind : (before more : List Phone) (key : List ℕ) → IsListed more key → IsListed (before ++ more) key
listed_behind [] more key is = is
listed_behind (p ∷ before) more key is = inr (listed_behind before more key is)

listed_last : (list : List Phone) (phone : Phone) → IsListed (list ++ phone ∷ []) (key_of phone)
listed_last list phone = listed_behind list (phone ∷ []) (key_of phone) (inl refl)

-- other digits than those of the last phone are listed before it
listed_apart : (list : List Phone) (phone : Phone) (q : List ℕ) → same_key (key_of phone) q ≡ false → IsListed (list ++ phone ∷ []) q → IsListed list q
listed_apart [] phone q apart (inl is) = absurd (true≢false (sym (same_itself q) ∙ subst (λ k. same_key k q ≡ false) is apart))
listed_apart [] phone q apart (inr is) = is
listed_apart (p ∷ list) phone q apart (inl is) = inl is
listed_apart (p ∷ list) phone q apart (inr is) = inr (listed_apart list phone q apart is)

-- ---- one registration

kept_here : (fleet : FleetValue) (key : List ℕ) (r : Registered) → (if_allowed : Bool) → is_allowed fleet key r ≡ if_allowed → (now : Tables) → now.registered key ≡ Some r
    → (cond if_allowed now (with_own key None now)).registered key ≡ kept_by fleet key (Some r)
kept_here fleet key r true is now found = found ∙ sym (ap (λ b. cond b (Some r) None) is)
kept_here fleet key r false is now found = ap (λ b. cond b None (now.registered key)) (same_itself key) ∙ sym (ap (λ b. cond b (Some r) None) is)

same_apart : (key q : List ℕ) → same_key key q ≡ false → (b : Bool) (now : Tables) → (cond b now (with_own key None now)).registered q ≡ now.registered q
same_apart key q apart true now = refl
same_apart key q apart false now = ap (λ b. cond b None (now.registered q)) apart

rows_same : (key : List ℕ) (b : Bool) (now : Tables) → (cond b now (with_own key None now)).rows ≡ now.rows
rows_same key true now = refl
rows_same key false now = refl

module _ (fleet : FleetValue) (after : Option (List ℕ)) (before list : List Phone) (old now : Tables) (phone : Phone) (r : Registered) (upto : ForgetsUpTo fleet after before list old now) (found : FindsNext now.registered after (Some (phone, r))) where
  abbrev next : Tables
  next = cond (is_allowed fleet (key_of phone) r) now (with_own (key_of phone) None now)

  was_here : old.registered (key_of phone) ≡ Some r
  was_here =
      sym (ap (λ b. cond b (kept_by fleet (key_of phone) (old.registered (key_of phone))) (old.registered (key_of phone))) (not_done after (key_of phone) found.1))
      ∙ sym (upto.registered (key_of phone)) ∙ found.2

  was_nothing : (q : List ℕ) → is_done after q ≡ false → now.registered q ≡ None → old.registered q ≡ None
  was_nothing q not_yet nothing =
      sym (ap (λ b. cond b (kept_by fleet q (old.registered q)) (old.registered q)) not_yet) ∙ sym (upto.registered q) ∙ nothing

  at : (q : List ℕ) → Place now.registered after (key_of phone) q → next.registered q ≡ cond (is_done (Some (key_of phone)) q) (kept_by fleet q (old.registered q)) (old.registered q)
  at q (inl h) =
      let was : old.registered (key_of phone) ≡ Some r = was_here in
      let done_here : is_done (Some (key_of phone)) (key_of phone) ≡ true = subst (λ k. is_done (Some (key_of phone)) k ≡ true) (sym h.0) h.1 in
      subst (λ k. next.registered k ≡ cond (is_done (Some (key_of phone)) k) (kept_by fleet k (old.registered k)) (old.registered k)) h.0
      (kept_here fleet (key_of phone) r _ refl now found.2 ∙ ap (kept_by fleet (key_of phone)) (sym was)
      ∙ sym (ap (λ b. cond b (kept_by fleet (key_of phone) (old.registered (key_of phone))) (old.registered (key_of phone))) done_here))
  at q (inr (inl h)) = same_apart (key_of phone) q h.0 _ now ∙ upto.registered q ∙ ap (λ b. cond b (kept_by fleet q (old.registered q)) (old.registered q)) (sym h.1)
  at q (inr (inr h)) =
      let was : old.registered q ≡ None = was_nothing q h.1 h.3 in
      same_apart (key_of phone) q h.0 _ now ∙ h.3 ∙ ap (kept_by fleet q) (sym was) ∙ sym (ap (λ b. cond b (kept_by fleet q (old.registered q)) (old.registered q)) h.2)

  abbrev more : List Phone
  more = upto.listed.0

  abbrev Lists : List Phone → List ℕ → Type 0
  Lists phones q = IsListed phones q ↔ ((is_done (Some (key_of phone)) q ≡ true) × IsDropped fleet q (old.registered q))

  itself_at : (b : Bool) → is_allowed fleet (key_of phone) r ≡ b → is_done (Some (key_of phone)) (key_of phone) ≡ true → Lists (cond b more (more ++ phone ∷ [])) (key_of phone)
  itself_at true allows done = (
    λ is. absurd (true≢false (sym (((upto.listed.2 (key_of phone)).0 is).0) ∙ not_done after (key_of phone) found.1)),
    λ both. absurd (true≢false (sym allows ∙ subst (λ o. IsDropped fleet (key_of phone) o) was_here both.1)),
  )
  itself_at false allows done = (
    λ is. (done, subst (λ o. IsDropped fleet (key_of phone) o) (sym was_here) allows),
    λ both. listed_last more phone,
  )

  other_at : (q : List ℕ) (b : Bool) → same_key (key_of phone) q ≡ false → Lists more q → Lists (cond b more (more ++ phone ∷ [])) q
  other_at q true apart lists = lists
  other_at q false apart lists = (λ is. lists.0 (listed_apart more phone q apart is), λ both. listed_more more (phone ∷ []) q (lists.1 both))

  lists_at : (q : List ℕ) → Place now.registered after (key_of phone) q → Lists (cond (is_allowed fleet (key_of phone) r) more (more ++ phone ∷ [])) q
  lists_at q (inl h) =
      let done_here : is_done (Some (key_of phone)) (key_of phone) ≡ true = subst (λ k. is_done (Some (key_of phone)) k ≡ true) (sym h.0) h.1 in
      subst (λ k. Lists (cond (is_allowed fleet (key_of phone) r) more (more ++ phone ∷ [])) k) h.0 (itself_at (is_allowed fleet (key_of phone) r) refl done_here)
  lists_at q (inr (inl h)) =
      other_at q (is_allowed fleet (key_of phone) r) h.0 (
        λ is. (h.1 ∙ ((upto.listed.2 q).0 is).0, ((upto.listed.2 q).0 is).1),
        λ both. (upto.listed.2 q).1 (sym h.1 ∙ both.0, both.1),
      )
  lists_at q (inr (inr h)) =
      other_at q (is_allowed fleet (key_of phone) r) h.0 (
        λ is. absurd (true≢false (sym (((upto.listed.2 q).0 is).0) ∙ h.1)),
        λ both. absurd (subst (λ o. IsDropped fleet q o) (was_nothing q h.1 h.3) both.1),
      )

  list_is : (b : Bool) → cond b list (list ++ phone ∷ []) ≡ before ++ cond b more (more ++ phone ∷ [])
  list_is true = upto.listed.1
  list_is false = ap (λ l. l ++ phone ∷ []) upto.listed.1 ∙ append_assoc before more (phone ∷ [])

  pub forgets_next : ForgetsUpTo fleet (Some (key_of phone)) before (listed_if fleet phone r list) old (cond (is_allowed fleet (key_of phone) r) now (with_own (key_of phone) None now))
  forgets_next = record {
    registered = λ q. at q (place_of now.registered after (key_of phone) found.1 found.3 q);
    rows = rows_same (key_of phone) _ now ∙ upto.rows;
    listed = (
      cond (is_allowed fleet (key_of phone) r) more (more ++ phone ∷ []),
      list_is (is_allowed fleet (key_of phone) r),
      λ q. lists_at q (place_of now.registered after (key_of phone) found.1 found.3 q),
    );
  }

-- before the first one
pub forgets_none : (fleet : FleetValue) (list : List Phone) (t : Tables) → ForgetsUpTo fleet None list list t t
forgets_none fleet list t = record {
  registered = λ key. refl;
  rows = refl;
  listed = ([], sym (append-nil list), λ key. (λ is. absurd is, λ both. absurd (true≢false (sym both.0))));
}

kept_nothing : (fleet : FleetValue) (after : Option (List ℕ)) (key : List ℕ) (was now : Option Registered) (done : Bool) → is_done after key ≡ done
    → now ≡ cond (is_done after key) (kept_by fleet key was) was → (is_done after key ≡ false → now ≡ None) → now ≡ kept_by fleet key was
kept_nothing fleet after key was now true e is none = is ∙ ap (λ b. cond b (kept_by fleet key was) was) e
kept_nothing fleet after key was now false e is none =
    let nothing : was ≡ None = sym (ap (λ b. cond b (kept_by fleet key was) was) e) ∙ sym is ∙ none e in
    none e ∙ ap (kept_by fleet key) (sym nothing)

-- behind the last one
pub forgets_all : (fleet : FleetValue) (after : Option (List ℕ)) (before list last : List Phone) (old now later : Tables) → ForgetsUpTo fleet after before list old now → ForgetsNext fleet after None list last now later
    → ForgetsAll fleet before last old later
forgets_all fleet after before list last old now later upto end = record {
  registered = λ key. ap (λ (t : Tables). t.registered key) end.1
      ∙ kept_nothing fleet after key (old.registered key) (now.registered key) (is_done after key) refl (upto.registered key) (λ e. end.0 key (behind_is after key e));
  rows = ap (λ (t : Tables). t.rows) end.1 ∙ upto.rows;
  listed = (upto.listed.0, end.2 ∙ upto.listed.1, λ key. (λ is. ((upto.listed.2 key).0 is).1, λ dropped. by_case key dropped (is_done after key) refl));
}
  where
    by_case : (key : List ℕ) → IsDropped fleet key (old.registered key) → (b : Bool) → is_done after key ≡ b → IsListed upto.listed.0 key
    by_case key dropped true e = (upto.listed.2 key).1 (e, dropped)
    by_case key dropped false e =
        let nothing : old.registered key ≡ None =
        sym (ap (λ b. cond b (kept_by fleet key (old.registered key)) (old.registered key)) e) ∙ sym (upto.registered key) ∙ end.0 key (behind_is after key e) in
        absurd (subst (λ o. IsDropped fleet key o) nothing dropped)

-- the next one
pub forgets_more : (fleet : FleetValue) (after : Option (List ℕ)) (phone : Phone) (before list last : List Phone) (old now later : Tables) → ForgetsUpTo fleet after before list old now
    → ForgetsNext fleet after (Some phone) list last now later → ForgetsUpTo fleet (Some (key_of phone)) before last old later
forgets_more fleet after phone before list last old now later upto one =
    subst (λ l. ForgetsUpTo fleet (Some (key_of phone)) before l old later) (sym one.3)
    (subst (ForgetsUpTo fleet (Some (key_of phone)) before (listed_if fleet phone one.0 list) old) (sym one.2) (forgets_next fleet after before list old now phone one.0 upto one.1))

-- anywhere
pub forgets_some : (fleet : FleetValue) (after : Option (List ℕ)) (before list : List Phone) (old now : Tables) → ForgetsUpTo fleet after before list old now → ForgetsSome fleet old now
forgets_some fleet after before list old now upto = record {
  registered = λ key. by_case key (is_done after key) (upto.registered key);
  rows = upto.rows;
}
  where
    by_case : (key : List ℕ) (b : Bool) → now.registered key ≡ cond b (kept_by fleet key (old.registered key)) (old.registered key)
        → (now.registered key ≡ old.registered key) ⊎ (now.registered key ≡ kept_by fleet key (old.registered key))
    by_case key true is = inr is
    by_case key false is = inl is

-- ---- the phones that are listed

-- each registration of before stays, or its phone is listed
pub listed_some : (fleet : FleetValue) (after : Option (List ℕ)) (before list : List Phone) (old now : Tables) → ForgetsUpTo fleet after before list old now → AreListed list old now
listed_some fleet after before list old now upto = λ key. by_case key (is_done after key) (old.registered key) refl refl (upto.registered key)
  where
    by_allowed : (key : List ℕ) (r : Registered) (b : Bool) → is_allowed fleet key r ≡ b → is_done after key ≡ true → old.registered key ≡ Some r → now.registered key ≡ cond b (Some r) None
        → IsListed list key ⊎ (now.registered key ≡ Some r)
    by_allowed key r true allows done was is = inr is
    by_allowed key r false allows done was is =
        inl (subst (λ l. IsListed l key) (sym upto.listed.1)
        (listed_behind before upto.listed.0 key ((upto.listed.2 key).1 (done, subst (λ o. IsDropped fleet key o) (sym was) allows))))

    by_case : (key : List ℕ) (b : Bool) (was : Option Registered) → is_done after key ≡ b → old.registered key ≡ was → now.registered key ≡ cond b (kept_by fleet key was) was
        → IsListed list key ⊎ IfSome was (λ r. now.registered key ≡ Some r)
    by_case key b None done was is = inr tt
    by_case key true (Some r) done was is = by_allowed key r (is_allowed fleet key r) refl done was is
    by_case key false (Some r) done was is = inr is

-- those that are listed stay so where more are put behind them
pub listed_longer : (list more : List Phone) (old now : Tables) → AreListed list old now → AreListed (list ++ more) old now
listed_longer list more old now listed = λ key. by_case key (listed key)
  where
    by_case : (key : List ℕ) → IsListed list key ⊎ IfSome (old.registered key) (λ r. now.registered key ≡ Some r) → IsListed (list ++ more) key ⊎ IfSome (old.registered key) (λ r. now.registered key ≡ Some r)
    by_case key (inl is) = inl (listed_more list more key is)
    by_case key (inr stays) = inr stays

both_kept : (a b c : Option Registered) → IfSome a (λ r. b ≡ Some r) → IfSome b (λ r. c ≡ Some r) → IfSome a (λ r. c ≡ Some r)
both_kept None b c first second = tt
both_kept (Some r) b c first second = subst (λ o. IfSome o (λ x. c ≡ Some x)) first second

-- those that stayed stay on
pub still_listed : (phones : List Phone) (a b c : Tables) → AreListed phones a b → Stays b c → AreListed phones a c
still_listed phones a b c listed stays = λ key. by_case key (listed key)
  where
    by_case : (key : List ℕ) → IsListed phones key ⊎ IfSome (a.registered key) (λ r. b.registered key ≡ Some r) → IsListed phones key ⊎ IfSome (a.registered key) (λ r. c.registered key ≡ Some r)
    by_case key (inl is) = inl is
    by_case key (inr kept) = inr (both_kept (a.registered key) (b.registered key) (c.registered key) kept (stays key))
