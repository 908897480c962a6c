-- What was served, over the history that the turn's hub has in the end.
use Rattle.std.proofs.Common.{◌≡◌, ◌≢◌, ◌≤◌, ◌<◌, ◌+◌, ◌-◌, ◌^◌, ◌⊎◌, ℕ, zero, suc, List, [], ◌∷◌, ◌++◌, length, map, reverse, drop, min, Option, Some, None, IfSome, inl, inr, refl, sym, ap, ◌∙◌, subst, arith, append_assoc}
use Rattle.std.specs.Prelude.{option_map}
use Rattle.std.proofs.lemmas.List.{append-nil, length-map, length-reverse, reverse-append}
use lib.ListN.{get_elem?}
use mathlib.Core.List.{IsPrefix}
use mathlib.Core.Option.{some, some-ne-none}
use Rattle.jt_value.specs.Counts.{Rose, RoseBy}
use Rattle.jt_outside.specs.Link.{Wire}
use Rattle.jt_outside.specs.Pool.{Pool, Script, Used, IsNew, used_of}
use Rattle.jt_turn.specs.declared.entry.Entry.{Entry as Turned}
use Rattle.jt_turn.specs.declared.entry.Ended.{Ended}
use Rattle.jt_turn.specs.Histories.{HasEach, IsNoneOf, entries_of}
use Rattle.jt_turn.specs.Passes.{PassState, TurnId}
use Rattle.jt_platform.specs.Allowed.{Legal, Opening}
use Rattle.jt_platform.specs.Desks.{as_ask}
use Rattle.jt_platform.specs.History.{newest}
use Rattle.jt_platform.specs.declared.request.Entry.{Entry}
use Rattle.jt_platform.specs.declared.request.Request.{Request}
use Rattle.jt_platform.specs.declared.request.Reply.{Reply}
use Rattle.jt_session.specs.declared.end.End.TheVariants as ends
use Rattle.jt_session.specs.declared.report.Report.{Report}
use Rattle.jt_session.specs.Hearing.{IsFilled, last_asked}
use Rattle.jt_session.specs.Talk.{at_state, start}
use Rattle.jt_server.specs.declared.served.ServeEnd.{ServeEnd}
use Rattle.jt_server.specs.declared.served.ServeEnd.TheVariants.{All, Over, ListenFault, Memory}
use Rattle.jt_server.specs.Served.{AreServed, EndsAs, IsFullAfter, IsServed, one_fault, store_faults}
use Rattle.jt_server.specs.Jobs.{AreUpTo, HasFailed, IsJoined, lent_to}
use Rattle.jt_server.proofs.Limits.{full_after}
use Rattle.jt_server.proofs.Places.{at_back, at_below, at_front, at_mapped, from_mapped, of_number}

prefix_both : {X : Type 0} (a b c : List X) → IsPrefix a b → IsPrefix b c → IsPrefix a c
prefix_both a b c first second = (first.0 ++ second.0, λ i. (sym (append_assoc a first.0 second.0) ∙ (ap (λ l. l ++ second.0) (λ j. first.1 j) ∙ (λ j. second.1 j))) i)

filled_after : (o : Opening) (h : List Entry) (seen : List (Turned Request Reply)) (q : Option Request) (l : ℕ) → IsPrefix seen (map as_ask h) → Legal o (newest h) → IsFilled o seen q l → IsFullAfter o h q l
filled_after o h seen q l front legal full = record {
  phone = full.phone;
  serial = full.serial;
  id = full.id;
  octets = full.octets;
  asked = full.asked;
  limit = full.limit;
  rows = full_after o h full.found _ l (prefix_both full.found seen (map as_ask h) full.front front) full.limit legal full.rows;
}

-- ---- how many reports end as StoreFault

faults_append : (xs ys : List Report) → store_faults (xs ++ ys) ≡ store_faults xs + store_faults ys
faults_append [] ys = omega arith
faults_append (x ∷ xs) ys = let more = faults_append xs ys in omega (arith, more)

faults_turned : (xs : List Report) → store_faults (reverse xs) ≡ store_faults xs
faults_turned [] = refl
faults_turned (x ∷ xs) =
    let more = faults_turned xs in
    ap store_faults (reverse-append (x ∷ []) xs) ∙ (faults_append (reverse xs) (x ∷ []) ∙ omega (arith, more))

pub faults_by : {O : Type 0} (root : PassState Request Reply O) (links reports : List Report) (base now : ℕ) → reports ≡ reverse links → HasFailed (store_faults links) root → base + root.failed ≤ now → root.faults ≤ now → RoseBy (store_faults reports) base now
faults_by root links reports base now is (inl few) failed count = let same = ap store_faults is ∙ faults_turned links in omega (arith, same, few, failed)
faults_by root links reports base now is (inr all) failed count = omega (arith, all, count)

-- ---- why it ended

pub ends_then : (end : ServeEnd) (count count_now sessions : ℕ) (pool pool_now : Pool) (before now : ℕ) → count_now ≡ count → pool_now.coming ≡ pool.coming → EndsAs end count sessions pool before now → EndsAs end count_now sessions pool_now before now
ends_then All count count_now sessions pool pool_now before now is same ended = is ∙ ended
ends_then Over count count_now sessions pool pool_now before now is same ended = (omega (arith, is, ended.0), subst (λ c. IfSome c (λ scripts. scripts ≡ [])) (sym same) ended.1)
ends_then ListenFault count count_now sessions pool pool_now before now is same ended = (omega (arith, is, ended.0), ended.1)
ends_then Memory count count_now sessions pool pool_now before now is same ended = is ∙ ended

lent_back : (count : ℕ) (lent : Option ℕ) → option_map (λ n. n - count) (option_map (λ n. n + count) lent) ≡ lent
lent_back count None = refl
lent_back count (Some n) = ap Some (omega arith)

pub lent_enough : (count : ℕ) (lent : Option ℕ) → IfSome (option_map (λ n. n + count) lent) (λ n. count ≤ n)
lent_enough count None = tt
lent_enough count (Some n) = omega arith

module _ {O K : Type 0} (o : Opening) (opening : O) (turn : TurnId) (h : List Entry) (pool pool_now : Pool) (root : PassState Request Reply O) (wire : K → Wire) (report_of : K → Report) (links : List K) (reports : List Report) where
  module _ (seen : IsPrefix root.seen (map as_ask h)) (ended : HasEach (map as_ask h) root.ended) (legal : Legal o (newest h)) where
    one_served : (m : ℕ) (left : Wire) (report : Report) → (j : IsJoined (Some o) opening turn pool.coming m root left report) → IsServed O o h (m + 1) j.worked.came left report
    one_served m left report j = record {
      pass = j.worked.pass;
      pass_now = j.pass_now;
      serves = j.worked.serves;
      own = j.worked.given.number;
      entries = ended j.place (record { number = m + 1; mine = j.pass_now.mine }) j.ended;
      full = λ l is. filled_after o h j.pass_now.seen (last_asked (at_state start) j.worked.serves.talk.turns) l (prefix_both j.pass_now.seen root.seen (map as_ask h) j.seen seen) legal (j.worked.serves.full l is);
    }

    pub are_served : ((i : ℕ) (b : K) → get_elem? links i ≡ some b → IsJoined (Some o) opening turn pool.coming (length links - 1 - i) root (wire b) (report_of b)) → reports ≡ reverse (map report_of links)
        → pool_now.coming ≡ option_map (λ scripts. drop (length links) scripts) pool.coming → pool_now.back ≡ option_map (λ back. back ++ map used_of (reverse (map wire links))) pool.back → pool_now.lent ≡ option_map (λ n. n - length links) (option_map (λ n. n + length links) pool.lent)
        → AreServed O o h pool pool_now reports
    are_served joined is coming back lent =
        let many : length reports ≡ length links = ap length is ∙ (length-reverse (map report_of links) ∙ length-map links report_of) in record {
          back = reverse (map wire links);
          each = λ m report at.
              let turned = at_back (map report_of links) m report (subst (λ l. get_elem? l m ≡ some report) is at) in
              let found = from_mapped report_of links turned.0 report turned.1 in
              let place : length links - 1 - turned.0 ≡ m = omega (arith, turned.2, length-map links report_of) in
              let j = subst (λ k. IsJoined (Some o) opening turn pool.coming k root (wire found.0) (report_of found.0)) place (joined turned.0 found.0 found.1) in
              let k = subst (λ r. IsJoined (Some o) opening turn pool.coming m root (wire found.0) r) found.2 j in (
                k.worked.came,
                wire found.0,
                k.worked.given.new,
                at_front (map wire links) turned.0 m (wire found.0) (at_mapped wire links turned.0 found.0 found.1) (turned.2 ∙ (length-map links report_of ∙ sym (length-map links wire))),
                one_served m (wire found.0) report k,
              );
          as_many = length-reverse (map wire links) ∙ (length-map links wire ∙ sym many);
          coming = coming ∙ ap (λ n. option_map (λ scripts. drop n scripts) pool.coming) (sym many);
          came_back = back;
          lent = lent ∙ lent_back (length links) pool.lent;
        }

  pub no_others : (count : ℕ) → root.number ≡ 0 → root.mine ≡ [] → AreUpTo count root → entries_of root.number (map as_ask h) ≡ root.mine → HasEach (map as_ask h) root.ended
      → ((n : ℕ) → n ≢ root.number → IsNoneOf n root.ended → entries_of n (map as_ask h) ≡ []) → (n : ℕ) → (n ≡ 0) ⊎ (count < n) → entries_of n (map as_ask h) ≡ []
  no_others count number mine up_to own ended others n (inl is) = ap (λ k. entries_of k (map as_ask h)) (is ∙ sym number) ∙ (own ∙ mine)
  no_others count number mine up_to own ended others n (inr above) = by (of_number n root.ended) where
    ended_none : (k : ℕ) (e : Ended Request Reply) → get_elem? root.ended k ≡ some e → e.number ≡ n → (e.number ≤ count) ⊎ (e.mine ≡ []) → entries_of n (map as_ask h) ≡ []
    ended_none k e at same (inl few) = absurd (omega (arith, same, few, above))
    ended_none k e at same (inr none) = ap (λ j. entries_of j (map as_ask h)) (sym same) ∙ (ended k e at ∙ none)

    by : ((k : ℕ) × (e : Ended Request Reply) × (get_elem? root.ended k ≡ some e) × (e.number ≡ n)) ⊎ IsNoneOf n root.ended → entries_of n (map as_ask h) ≡ []
    by (inl found) = ended_none found.0 found.1 found.2 found.3 (up_to found.0 found.1 found.2)
    by (inr none) = others n (λ e. omega (arith, e, number, above)) none

-- ---- where no link was accepted

all_coming : (coming : Option (List Script)) → option_map (λ scripts. drop 0 scripts) coming ≡ coming
all_coming None = refl
all_coming (Some scripts) = refl

all_back : (back : Option (List Used)) → option_map (λ links. links ++ []) back ≡ back
all_back None = refl
all_back (Some links) = ap Some (append-nil links)

pub nothing_served : {O : Type 0} (o : Opening) (h : List Entry) (pool : Pool) (reports : List Report) → reports ≡ [] → AreServed O o h pool pool reports
nothing_served o h pool [] e = record {
  back = [];
  each = λ m report at. absurd (some-ne-none report (sym at));
  as_many = refl;
  coming = sym (all_coming pool.coming);
  came_back = sym (all_back pool.back);
  lent = refl;
}
nothing_served o h pool (r ∷ rs) e = absurd cc

pub nothing_legal : (o : Opening) (h : List Entry) → h ≡ [] → Legal o (newest h)
nothing_legal o [] e = tt
nothing_legal o (e ∷ h) is = absurd cc

pub no_entries : (h : List Entry) (n : ℕ) → h ≡ [] → entries_of n (map as_ask h) ≡ []
no_entries [] n e = refl
no_entries (e ∷ h) n is = absurd cc

pub joined_as : {O : Type 0} (o other : Option Opening) (opening : O) (turn : TurnId) (coming : Option (List Script)) (m : ℕ) (root : PassState Request Reply O) (left : Wire) (report : Report) → o ≡ other → IsJoined o opening turn coming m root left report → IsJoined other opening turn coming m root left report
joined_as o other opening turn coming m root left report is j = subst (λ x. IsJoined x opening turn coming m root left report) is j
