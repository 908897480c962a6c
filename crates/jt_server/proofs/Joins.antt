-- One pass more was joined into the first one.
use Rattle.std.proofs.Common.{◌≡◌, ◌≤◌, ◌<◌, ◌+◌, ◌-◌, ◌^◌, ◌⊎◌, ℕ, List, [], ◌∷◌, ◌++◌, length, map, max, Option, Some, inl, inr, refl, sym, ap, ◌∙◌, subst, arith, append_assoc, length-append}
use Rattle.std.proofs.lemmas.List.{map-append}
use lib.ListN.{get_elem?}
use mathlib.Core.List.{IsPrefix}
use mathlib.Core.Option.{some, some-ne-none}
use Rattle.jt_outside.specs.Link.{Wire}
use Rattle.jt_outside.specs.Pool.{Script}
use Rattle.jt_turn.specs.declared.entry.Ended.{Ended}
use Rattle.jt_turn.specs.Passes.{PassState, TurnId}
use Rattle.jt_platform.specs.Allowed.{Opening}
use Rattle.jt_platform.specs.declared.request.Request.{Request}
use Rattle.jt_platform.specs.declared.request.Reply.{Reply}
use Rattle.jt_session.specs.declared.end.End.{End}
use Rattle.jt_session.specs.declared.end.End.TheVariants as ends
use Rattle.jt_session.specs.declared.report.Report.{Report}
use Rattle.jt_session.specs.Serving.{HasCause}
use Rattle.jt_server.specs.Served.{one_fault, store_faults}
use Rattle.jt_server.specs.Jobs.{AreUpTo, HasFailed, IsJoined, IsRoot, IsWorked}
use Rattle.jt_server.proofs.Places.{at_end, at_last, at_longer}

one_failed : {O : Type 0} (end : End) (octets read : ℕ) (link link_now : Wire) (pass one : PassState Request Reply O) → pass.failed ≡ 0 → HasCause end octets read link link_now pass one → (one_fault end ≤ one.failed) ⊎ (2 ^ 64 - 1 ≤ one.faults)
one_failed ends.Ended octets read link link_now pass one new cause = inl (omega arith)
one_failed ends.LinkFault octets read link link_now pass one new cause = inl (omega arith)
one_failed ends.Idle octets read link link_now pass one new cause = inl (omega arith)
one_failed ends.Spent octets read link link_now pass one new cause = inl (omega arith)
one_failed (ends.Fenced other) octets read link link_now pass one new cause = inl (omega arith)
one_failed ends.StoreFault octets read link link_now pass one new (inl less) = inl (omega (arith, less))
one_failed ends.StoreFault octets read link link_now pass one new (inr all) = inr all
one_failed (ends.ListFull l) octets read link link_now pass one new cause = inl (omega arith)
one_failed ends.Memory octets read link link_now pass one new cause = inl (omega arith)

faults_more : (xs : List Report) (x : Report) → store_faults (xs ++ x ∷ []) ≡ store_faults xs + one_fault x.end
faults_more [] x = omega arith
faults_more (y ∷ xs) x = let more = faults_more xs x in omega (arith, more)

-- what a join says of the two passes
pub record Joins {O : Type 0} (root one root_now : PassState Request Reply O) : Type 0 where
  pub old_seen : IsPrefix root.seen root_now.seen
  pub new_seen : IsPrefix one.seen root_now.seen
  pub ended : root_now.ended ≡ root.ended ++ record { number = one.number; mine = one.mine } ∷ []
  pub failed : root_now.failed ≡ root.failed + one.failed
  pub faults : root_now.faults ≡ max root.faults one.faults

seen_then : {X : Type 0} (a b c : List X) → IsPrefix a b → IsPrefix b c → IsPrefix a c
seen_then a b c first second = (first.0 ++ second.0, λ i. (sym (append_assoc a first.0 second.0) ∙ (ap (λ l. l ++ second.0) (λ j. first.1 j) ∙ (λ j. second.1 j))) i)

module _ {O : Type 0} (o : Option Opening) (opening : O) (turn : TurnId) (coming : Option (List Script)) (root one root_now : PassState Request Reply O) (did : Joins root one root_now) where
  pub up_to_more : (count : ℕ) → AreUpTo count root → one.number ≤ count → AreUpTo count root_now
  up_to_more count are few k e at = on (at_end root.ended (record { number = one.number; mine = one.mine }) k e (subst (λ l. get_elem? l k ≡ some e) did.ended at)) where
    on : (get_elem? root.ended k ≡ some e) ⊎ ((k ≡ length root.ended) × (record { number = one.number; mine = one.mine } ≡ e)) → (e.number ≤ count) ⊎ (e.mine ≡ [])
    on (inl old) = are k e old
    on (inr new) = inl (subst (λ (x : Ended Request Reply). x.number ≤ count) new.1 few)

  pub idle_more : (count : ℕ) → AreUpTo count root → one.mine ≡ [] → AreUpTo count root_now
  idle_more count are none k e at = on (at_end root.ended (record { number = one.number; mine = one.mine }) k e (subst (λ l. get_elem? l k ≡ some e) did.ended at)) where
    on : (get_elem? root.ended k ≡ some e) ⊎ ((k ≡ length root.ended) × (record { number = one.number; mine = one.mine } ≡ e)) → (e.number ≤ count) ⊎ (e.mine ≡ [])
    on (inl old) = are k e old
    on (inr new) = inr (subst (λ (x : Ended Request Reply). x.mine ≡ []) new.1 none)

  pub failed_more : (reports : List Report) (m : ℕ) (left : Wire) (report : Report) → IsWorked o opening turn coming m one left report → HasFailed (store_faults reports) root → HasFailed (store_faults (reports ++ report ∷ [])) root_now
  failed_more reports m left report worked (inr all) = inr (omega (arith, all, did.faults))
  failed_more reports m left report worked (inl few) = on (one_failed report.end (2 ^ 40) report.read worked.came left worked.pass one worked.given.failed worked.serves.cause) where
    on : (one_fault report.end ≤ one.failed) ⊎ (2 ^ 64 - 1 ≤ one.faults) → HasFailed (store_faults (reports ++ report ∷ [])) root_now
    on (inl less) = inl (omega (arith, few, less, did.failed, faults_more reports report))
    on (inr all) = inr (omega (arith, all, did.faults))

  pub joined_still : (m : ℕ) (left : Wire) (report : Report) → IsJoined o opening turn coming m root left report → IsJoined o opening turn coming m root_now left report
  joined_still m left report j = record {
    pass_now = j.pass_now;
    worked = j.worked;
    seen = seen_then j.pass_now.seen root.seen root_now.seen j.seen did.old_seen;
    place = j.place;
    ended = subst (λ l. get_elem? l j.place ≡ some (record { number = m + 1; mine = j.pass_now.mine })) (sym did.ended) (at_longer root.ended (record { number = one.number; mine = one.mine } ∷ []) j.place (record { number = m + 1; mine = j.pass_now.mine }) j.ended);
  }

  pub joined_new : (m : ℕ) (left : Wire) (report : Report) → IsWorked o opening turn coming m one left report → IsJoined o opening turn coming m root_now left report
  joined_new m left report worked = record {
    pass_now = one;
    worked = worked;
    seen = did.new_seen;
    place = length root.ended;
    ended =
        subst (λ l. get_elem? l (length root.ended) ≡ some (record { number = m + 1; mine = one.mine })) (sym did.ended)
        (at_last root.ended (record { number = one.number; mine = one.mine }) ∙ ap (λ n. some (record { number = n; mine = one.mine })) (worked.same.number ∙ worked.given.number));
  }

  -- one link more was served
  pub joined_links : {K : Type 0} (wire : K → Wire) (report_of : K → Report) (links links_now : List K) (b : K) (total m : ℕ) → links_now ≡ links ++ b ∷ [] → total - 1 - length links ≡ m
      → ((i : ℕ) (x : K) → get_elem? links i ≡ some x → IsJoined o opening turn coming (total - 1 - i) root (wire x) (report_of x))
      → IsWorked o opening turn coming m one (wire b) (report_of b)
      → (i : ℕ) (x : K) → get_elem? links_now i ≡ some x → IsJoined o opening turn coming (total - 1 - i) root_now (wire x) (report_of x)
  joined_links wire report_of links links_now b total m is place old worked i x at = on (at_end links b i x (subst (λ l. get_elem? l i ≡ some x) is at)) where
    on : (get_elem? links i ≡ some x) ⊎ ((i ≡ length links) × (b ≡ x)) → IsJoined o opening turn coming (total - 1 - i) root_now (wire x) (report_of x)
    on (inl there) = joined_still (total - 1 - i) (wire x) (report_of x) (old i x there)
    on (inr last) =
        subst (λ y. IsJoined o opening turn coming (total - 1 - i) root_now (wire y) (report_of y)) last.1
        (subst (λ k. IsJoined o opening turn coming k root_now (wire b) (report_of b)) (sym (ap (λ j. total - 1 - j) last.0 ∙ place)) (joined_new m (wire b) (report_of b) worked))

pub failed_on : {O K : Type 0} (report_of : K → Report) (links links_now : List K) (b : K) (root : PassState Request Reply O) → links_now ≡ links ++ b ∷ [] → HasFailed (store_faults (map report_of links ++ report_of b ∷ [])) root → HasFailed (store_faults (map report_of links_now)) root
failed_on report_of links links_now b root is failed = subst (λ l. HasFailed (store_faults l) root) (sym (ap (λ l. map report_of l) is ∙ map-append report_of links (b ∷ []))) failed

-- as many as there are
pub joined_of : {O K : Type 0} (o : Option Opening) (opening : O) (turn : TurnId) (coming : Option (List Script)) (root : PassState Request Reply O) (wire : K → Wire) (report_of : K → Report) (links : List K) (total count : ℕ) → count ≡ total
    → ((i : ℕ) (x : K) → get_elem? links i ≡ some x → IsJoined o opening turn coming (total - 1 - i) root (wire x) (report_of x))
    → (i : ℕ) (x : K) → get_elem? links i ≡ some x → IsJoined o opening turn coming (count - 1 - i) root (wire x) (report_of x)
joined_of o opening turn coming root wire report_of links total count is joined i x at = subst (λ n. IsJoined o opening turn coming (n - 1 - i) root (wire x) (report_of x)) (sym is) (joined i x at)

-- ---- where none was joined yet

pub up_to_any : {O : Type 0} (root : PassState Request Reply O) (count : ℕ) → AreUpTo 0 root → AreUpTo count root
up_to_any root count few k e at = on (few k e at) where
  on : (e.number ≤ 0) ⊎ (e.mine ≡ []) → (e.number ≤ count) ⊎ (e.mine ≡ [])
  on (inl less) = inl (omega (arith, less))
  on (inr none) = inr none

pub none_failed : {O K : Type 0} (root : PassState Request Reply O) (report_of : K → Report) (links : List K) → links ≡ [] → HasFailed (store_faults (map report_of links)) root
none_failed root report_of [] e = inl (omega arith)
none_failed root report_of (x ∷ links) e = absurd cc

pub not_there : {K : Type 0} (links : List K) (i : ℕ) (b : K) → links ≡ [] → get_elem? links i ≡ some b → ⊥
not_there [] i b e at = some-ne-none b (sym at)
not_there (x ∷ links) i b e at = absurd cc

pub root_joined : {O : Type 0} (opening : O) (turn : TurnId) (base : ℕ) (root root_now : PassState Request Reply O) → IsRoot opening turn base root
    → (root_now.turn ≡ root.turn) × (root_now.number ≡ root.number) × (root_now.mine ≡ root.mine) × (root_now.opening ≡ root.opening) × (root_now.base ≡ root.base) × (root_now.given ≡ root.given) → IsRoot opening turn base root_now
root_joined opening turn base root root_now is stays = record {
  of_turn = stays.0 ∙ is.of_turn;
  number = stays.1 ∙ is.number;
  over = stays.3 ∙ is.over;
  base_is = stays.4 ∙ is.base_is;
  mine = stays.2 ∙ is.mine;
}
