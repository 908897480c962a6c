-- One link more was accepted.
use Rattle.std.proofs.Common.{◌≡◌, ◌≤◌, ◌+◌, ◌-◌, ◌^◌, ◌⊎◌, ℕ, zero, suc, List, [], ◌∷◌, ◌++◌, length, drop, reverse, inl, inr, Option, Some, None, IsSomeAnd, Ok, Err, refl, sym, ap, ◌∙◌, subst, arith}
use Rattle.std.specs.Prelude.{option_map, IfSome, MatchResult, Result}
use Rattle.std.proofs.lemmas.List.{length-reverse}
use lib.ListN.{get_elem?}
use mathlib.Core.Option.{some}
use Rattle.jt_value.specs.Counts.{Counts, Rose}
use Rattle.jt_outside.specs.Link.{Wire}
use Rattle.jt_outside.specs.Pool.{Pool, Script, IsNew, all_but_first}
use Rattle.jt_turn.specs.Passes.{PassState, TurnId}
use Rattle.jt_platform.specs.Allowed.{Opening}
use Rattle.jt_platform.specs.declared.request.Request.{Request}
use Rattle.jt_platform.specs.declared.request.Reply.{Reply}
use Rattle.jt_session.specs.declared.report.Report.{Report}
use Rattle.jt_session.specs.Hearing.{IsSamePass}
use Rattle.jt_session.specs.Serving.{Serves}
use Rattle.jt_server.specs.Jobs.{AreNew, AreUnused, AreUpTo, IsGiven, IsRoot, IsUnused, IsWorked, lent_to}
use Rattle.jt_server.proofs.Places.{at_back, at_end}
use Rattle.jt_server.proofs.Joins.{not_there}

-- ---- the listener's links

dropped_more : (count : ℕ) (xs : List Script) → all_but_first (drop count xs) ≡ drop (suc count) xs
dropped_more zero [] = refl
dropped_more zero (x ∷ xs) = refl
dropped_more (suc count) [] = refl
dropped_more (suc count) (x ∷ xs) = dropped_more count xs

coming_more : (count : ℕ) (coming : Option (List Script)) → option_map all_but_first (option_map (λ s. drop count s) coming) ≡ option_map (λ s. drop (suc count) s) coming
coming_more count None = refl
coming_more count (Some scripts) = ap Some (dropped_more count scripts)

count_more : (count : ℕ) (lent : Option ℕ) → option_map (λ n. n + 1) (option_map (λ n. n + count) lent) ≡ option_map (λ n. n + suc count) lent
count_more count None = refl
count_more count (Some n) = ap Some (omega arith)

pub lent_more : (count : ℕ) (pool now next : Pool) → now ≡ lent_to count pool
    → next ≡ record { coming = option_map all_but_first now.coming; back = now.back; lent = option_map (λ n. n + 1) now.lent } → next ≡ lent_to (count + 1) pool
lent_more count pool now next is gives =
    let one : suc count ≡ count + 1 = omega arith in
    let given = ap (λ (p : Pool). record { coming = option_map all_but_first p.coming; back = p.back; lent = option_map (λ n. n + 1) p.lent }) is in
    let after : lent_to (suc count) pool ≡ lent_to (count + 1) pool = ap (λ n. lent_to n pool) one in
    gives ∙ (given ∙ ((λ i. record { coming = coming_more count pool.coming i; back = pool.back; lent = count_more count pool.lent i }) ∙ after))

coming_none : (coming : Option (List Script)) → coming ≡ option_map (λ s. drop 0 s) coming
coming_none None = refl
coming_none (Some scripts) = refl

count_none : (lent : Option ℕ) → lent ≡ option_map (λ n. n + 0) lent
count_none None = refl
count_none (Some n) = ap Some (omega arith)

pub lent_none : (pool : Pool) → pool ≡ lent_to 0 pool
lent_none pool = λ i. record { coming = coming_none pool.coming i; back = pool.back; lent = count_none pool.lent i }

pub lent_as : (count many : ℕ) (pool now : Pool) → now ≡ lent_to count pool → many ≡ count → now ≡ lent_to many pool
lent_as count many pool now is same = is ∙ ap (λ n. lent_to n pool) (sym same)

pub over_still : (old now : Pool) → now ≡ old → IfSome old.coming (λ scripts. scripts ≡ []) → IfSome now.coming (λ scripts. scripts ≡ [])
over_still old now is over = subst (λ (p : Pool). IfSome p.coming (λ scripts. scripts ≡ [])) (sym is) over

-- ---- its count of faults

pub counts_none : (n : ℕ) → Counts n n
counts_none n = record { later = omega arith; stays = λ e. refl }

pub counts_then : (a b c : ℕ) → Counts a b → Counts b c → Counts a c
counts_then a b c first second = record {
  later = omega (arith, first.later, second.later);
  stays = λ e. second.stays (first.stays e ∙ e) ∙ first.stays e;
}

pub rose_then : (a b c : ℕ) → Counts a b → Rose b c → Rose a c
rose_then a b c first second = omega (arith, first.later, second)

-- ---- the pass that was split off

module _ {O : Type 0} (root root_now : PassState Request Reply O) (lent given : ℕ) (is : root_now ≡ record root { lent = lent; given = given }) where
  pub root_lends : (opening : O) (turn : TurnId) (base : ℕ) → IsRoot opening turn base root → IsRoot opening turn base root_now
  root_lends opening turn base old = subst (λ (p : PassState Request Reply O). IsRoot opening turn base p) (sym is) (record { of_turn = old.of_turn; number = old.number; over = old.over; base_is = old.base_is; mine = old.mine })

  pub lends_lent : root_now.lent ≡ lent
  lends_lent = ap (λ (p : PassState Request Reply O). p.lent) is

  pub lends_given : root_now.given ≡ given
  lends_given = ap (λ (p : PassState Request Reply O). p.given) is

  pub lends_failed : root_now.failed ≡ root.failed
  lends_failed = ap (λ (p : PassState Request Reply O). p.failed) is

  pub lends_ended : root_now.ended ≡ root.ended
  lends_ended = ap (λ (p : PassState Request Reply O). p.ended) is

pub root_same : {O : Type 0} (opening : O) (turn : TurnId) (base : ℕ) (root root_now : PassState Request Reply O) → root_now ≡ root → IsRoot opening turn base root → IsRoot opening turn base root_now
root_same {O = O} opening turn base root root_now is old = subst (λ (p : PassState Request Reply O). IsRoot opening turn base p) (sym is) old

pub same_lent : {O : Type 0} (root root_now : PassState Request Reply O) → root_now ≡ root → root_now.lent ≡ root.lent
same_lent root root_now is = ap (λ (p : PassState _ _ _). p.lent) is

pub same_failed : {O : Type 0} (root root_now : PassState Request Reply O) → root_now ≡ root → root_now.failed ≡ root.failed
same_failed root root_now is = ap (λ (p : PassState _ _ _). p.failed) is

pub same_ended : {O : Type 0} (root root_now : PassState Request Reply O) → root_now ≡ root → root_now.ended ≡ root.ended
same_ended root root_now is = ap (λ (p : PassState _ _ _). p.ended) is

pub none_ended : {O : Type 0} (root : PassState Request Reply O) (count : ℕ) → root.ended ≡ [] → AreUpTo count root
none_ended root count is k e at = absurd (not_there root.ended k e is at)

module _ {O : Type 0} (root one : PassState Request Reply O) (number : ℕ) (is : one ≡ record root { number = number; mine = []; found = []; found_faults = 0; failed = 0; ended = []; lent = 0; given = 0 }) where
  pub one_turn : one.turn ≡ root.turn
  one_turn = ap (λ (p : PassState Request Reply O). p.turn) is

  pub one_number : one.number ≡ number
  one_number = ap (λ (p : PassState Request Reply O). p.number) is

  pub one_opening : one.opening ≡ root.opening
  one_opening = ap (λ (p : PassState Request Reply O). p.opening) is

  pub one_mine : one.mine ≡ []
  one_mine = ap (λ (p : PassState Request Reply O). p.mine) is

  pub one_failed : one.failed ≡ 0
  one_failed = ap (λ (p : PassState Request Reply O). p.failed) is

  pub one_unused : (opening : O) (turn : TurnId) (base : ℕ) → IsRoot opening turn base root → IsUnused opening turn one
  one_unused opening turn base first = record {
    of_turn = one_turn ∙ first.of_turn;
    over = one_opening ∙ first.over;
    mine = one_mine;
    failed = one_failed;
  }

pub unused_given : {O : Type 0} (opening : O) (turn : TurnId) (pool now : Pool) (m : ℕ) (one : PassState Request Reply O) (came : Wire) → IsUnused opening turn one → one.number ≡ m + 1 → now ≡ lent_to m pool → IsNew now.coming came → IsGiven opening turn pool.coming m one came
unused_given opening turn pool now m one came unused place lent new = record {
  of_turn = unused.of_turn;
  number = place;
  over = unused.over;
  mine = unused.mine;
  failed = unused.failed;
  new = subst (λ (p : Pool). IsNew p.coming came) lent new;
}

-- they are turned round
pub new_turned : {O : Type 0} (opening : O) (turn : TurnId) (count : ℕ) (passes turned : List (PassState Request Reply O)) → turned ≡ reverse passes → length passes ≡ count → AreUnused opening turn passes
    → ((m : ℕ) (one : PassState Request Reply O) → get_elem? passes m ≡ some one → one.number ≡ m + 1) → AreNew opening turn count turned
new_turned opening turn count passes turned is many unused numbers = record {
  as_many = ap length is ∙ (length-reverse passes ∙ many);
  unused = λ m one at. let found = at_back passes m one (subst (λ l. get_elem? l m ≡ some one) is at) in unused found.0 one found.1;
  numbers = λ m one at.
      let found = at_back passes m one (subst (λ l. get_elem? l m ≡ some one) is at) in
      let number = numbers found.0 one found.1 in
      omega (arith, number, found.2, many);
}

pub reserved_for : {X : Type 0} (opening opening_of_one : Option X) (reserved_of : X → ℕ) (n sessions : ℕ) → opening_of_one ≡ opening → n ≤ sessions → IsSomeAnd opening (λ o. sessions ≤ reserved_of o) → IsSomeAnd opening_of_one (λ o. n ≤ reserved_of o)
reserved_for opening opening_of_one reserved_of n sessions is few all = subst (λ o. IsSomeAnd o (λ o. n ≤ reserved_of o)) (sym is) (fewer opening all) where
  fewer : (o : Option _) → IsSomeAnd o (λ o. sessions ≤ reserved_of o) → IsSomeAnd o (λ o. n ≤ reserved_of o)
  fewer None all = all
  fewer (Some o) all = omega (arith, few, all)

-- ---- the thread

pub started : {O H W K : Type 0} (job : Result H W) (of : O → Option Opening) (opening : O) (turn : TurnId) (coming : Option (List Script)) (m : ℕ) (one : PassState Request Reply O) (came : K) (wire : K → Wire) (pass_of : H → PassState Request Reply O) (link_of : H → K) (pass_now : W → PassState Request Reply O) (left : W → K) (report_of : W → Report)
    → IsGiven opening turn coming m one (wire came)
    → MatchResult job (λ h. (pass_of h ≡ one) × (link_of h ≡ came)) (λ w. Serves (of one.opening) (2 ^ 40) one (pass_now w) (wire came) (wire (left w)) (report_of w) × IsSamePass one (pass_now w))
    → MatchResult job (λ h. IsGiven opening turn coming m (pass_of h) (wire (link_of h))) (λ w. IsWorked (of opening) opening turn coming m (pass_now w) (wire (left w)) (report_of w))
started (Ok h) of opening turn coming m one came wire pass_of link_of pass_now left report_of given is =
    subst (λ p. IsGiven opening turn coming m p (wire (link_of h))) (sym is.0) (subst (λ k. IsGiven opening turn coming m one (wire k)) (sym is.1) given)
started (Err w) of opening turn coming m one came wire pass_of link_of pass_now left report_of given is = record {
  pass = one;
  came = wire came;
  given = given;
  serves = subst (λ x. Serves (of x) (2 ^ 40) one (pass_now w) (wire came) (wire (left w)) (report_of w)) given.over is.0;
  same = is.1;
}

pub all_more : {X : Type 0} (P : ℕ → X → Type 0) (xs xs_now : List X) (x : X) (m : ℕ) → xs_now ≡ xs ++ x ∷ [] → length xs ≡ m → ((i : ℕ) (y : X) → get_elem? xs i ≡ some y → P i y) → P m x → (i : ℕ) (y : X) → get_elem? xs_now i ≡ some y → P i y
all_more P xs xs_now x m is many old new i y at = on (at_end xs x i y (subst (λ l. get_elem? l i ≡ some y) is at)) where
  on : (get_elem? xs i ≡ some y) ⊎ ((i ≡ length xs) × (x ≡ y)) → P i y
  on (inl there) = old i y there
  on (inr last) = subst (λ z. P i z) last.1 (subst (λ k. P k x) (sym (last.0 ∙ many)) new)
