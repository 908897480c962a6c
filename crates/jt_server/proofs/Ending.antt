-- All threads are joined and the turn is closed: what was served.
use Rattle.std.proofs.Common.{◌≡◌, ◌≢◌, ◌≤◌, ◌<◌, ◌+◌, ◌-◌, ◌⊎◌, ℕ, List, [], ◌++◌, length, map, reverse, drop, Option, Some, ap, sym, ◌∙◌, subst, arith}
use Rattle.std.specs.Prelude.{option_map}
use Rattle.std.proofs.lemmas.List.{length-map, length-reverse}
use lib.ListN.{get_elem?}
use mathlib.Core.List.{IsPrefix}
use mathlib.Core.Option.{some}
use Rattle.jt_value.specs.Counts.{Counts}
use Rattle.jt_outside.specs.Link.{Wire}
use Rattle.jt_outside.specs.Pool.{Pool, Used, used_of}
use Rattle.jt_store.specs.Tables.{Tables}
use Rattle.jt_turn.specs.Histories.{HasEach, IsNoneOf, entries_of}
use Rattle.jt_turn.specs.Passes.{PassState, TurnId}
use Rattle.jt_platform.specs.Allowed.{Legal}
use Rattle.jt_platform.specs.Desks.{as_ask}
use Rattle.jt_platform.specs.History.{newest}
use Rattle.jt_platform.specs.Hub.{HubValue, opening_of}
use Rattle.jt_platform.specs.declared.desk.HubOpening.{HubOpening}
use Rattle.jt_platform.specs.declared.request.Request.{Request}
use Rattle.jt_platform.specs.declared.request.Reply.{Reply}
use Rattle.jt_session.specs.declared.report.Report.{Report}
use Rattle.jt_server.specs.declared.served.ServeEnd.{ServeEnd}
use Rattle.jt_server.specs.Jobs.{AreUpTo, HasFailed, IsJoined, IsRoot, ServesLinks, lent_to}
use Rattle.jt_server.specs.Served.{EndsAs, store_faults}
use Rattle.jt_server.proofs.Refusing.{legal_over, same_opening}
use Rattle.jt_server.proofs.Together.{are_served, ends_then, faults_by, joined_as, no_others}

-- what stays of a hub while links are served
abbrev pub opened : {P : Type 0} → HubValue P → HubOpening P
opened hub = record { start = hub.start; fleet = hub.fleet; secret = hub.secret; reserved = hub.reserved }

-- what the turn's hub says, once it is closed
pub record IsClosed {P : Type 0} (faults_of : P → ℕ) (hub : HubValue P) (root : PassState Request Reply (Option (HubOpening P))) : Type 0 where
  pub opening : Some (opened hub) ≡ root.opening
  pub seen : IsPrefix root.seen (map as_ask hub.history)
  pub mine : entries_of root.number (map as_ask hub.history) ≡ root.mine
  pub ended : HasEach (map as_ask hub.history) root.ended
  pub others : (n : ℕ) → n ≢ root.number → IsNoneOf n root.ended → entries_of n (map as_ask hub.history) ≡ []
  pub faults : root.base + root.failed ≤ faults_of hub.keeper
  pub count : root.faults ≤ faults_of hub.keeper

-- what became of the listener while its links were out, and once they were given back
pub record IsBack {K : Type 0} (wire : K → Wire) (links : List K) (pool between pool_now : Pool) : Type 0 where
  pub out : between ≡ lent_to (length links) pool
  pub coming : pool_now.coming ≡ between.coming
  pub back : pool_now.back ≡ option_map (λ back. back ++ map used_of (reverse (map wire links))) between.back
  pub lent : pool_now.lent ≡ option_map (λ n. n - length links) between.lent

module _ {P K : Type 0} (tables_of : P → Option Tables) (limit_of faults_of : P → ℕ) (before hub : HubValue P) (turn : TurnId) (given root : PassState Request Reply (Option (HubOpening P))) (wire : K → Wire) (report_of : K → Report) (links : List K) (reports : List Report) (sessions : ℕ) (pool between pool_now : Pool) (faults faults_between faults_now : ℕ) (end : ServeEnd) where
  pub all_served : given.opening ≡ Some (opened before) → given.base ≡ faults_of before.keeper → IsRoot given.opening turn given.base root
      → AreUpTo (length links) root → HasFailed (store_faults (map report_of links)) root
      → ((i : ℕ) (b : K) → get_elem? links i ≡ some b → IsJoined (option_map (λ (o : HubOpening P). opening_of (tables_of o.start) (limit_of o.start) o.fleet o.secret) given.opening) given.opening turn pool.coming (length links - 1 - i) root (wire b) (report_of b))
      → Counts faults faults_between → EndsAs end (length links) sessions between faults faults_between
      → IsClosed faults_of hub root → Legal (opening_of (tables_of hub.start) (limit_of hub.start) hub.fleet hub.secret) (newest hub.history)
      → reports ≡ reverse (map report_of links) → IsBack wire links pool between pool_now → faults_now ≡ faults_between
      → ServesLinks (Option (HubOpening P)) (opening_of (tables_of before.start) (limit_of before.start) before.fleet before.secret) before.start before.fleet before.secret hub sessions pool pool_now faults faults_now (faults_of before.keeper) (faults_of hub.keeper) reports end
  all_served begun base is_root up_to failed joined counts ended closed legal is back same =
      let over : Some (opened hub) ≡ Some (opened before) = closed.opening ∙ (is_root.over ∙ begun) in
      let now_legal = legal_over tables_of limit_of (opened hub) (opened before) hub.history over legal in
      let before_is = ap (option_map (λ (o : HubOpening P). opening_of (tables_of o.start) (limit_of o.start) o.fleet o.secret)) begun in
      let o = opening_of (tables_of before.start) (limit_of before.start) before.fleet before.secret in
      let many : length reports ≡ length links = ap length is ∙ (length-reverse (map report_of links) ∙ length-map links report_of) in
      let from : root.base ≡ faults_of before.keeper = is_root.base_is ∙ base in
      let rose : faults_of before.keeper + root.failed ≤ faults_of hub.keeper = let f = closed.faults in omega (arith, from, f) in
      record {
        legal = now_legal;
        opening = same_opening (opened hub) (opened before) over;
        served = are_served o given.opening turn hub.history pool pool_now root wire report_of links reports closed.seen closed.ended now_legal
            (λ i b at. joined_as _ _ given.opening turn pool.coming (length links - 1 - i) root (wire b) (report_of b) before_is (joined i b at))
            is
            (back.coming ∙ ap (λ (p : Pool). p.coming) back.out)
            (back.back ∙ ap (λ (p : Pool). option_map (λ links_back. links_back ++ map used_of (reverse (map wire links))) p.back) back.out)
            (back.lent ∙ ap (λ (p : Pool). option_map (λ n. n - length links) p.lent) back.out);
        no_other = λ n where_is. no_others o given.opening turn hub.history pool pool_now root wire report_of links reports (length links) is_root.number is_root.mine up_to closed.mine closed.ended closed.others n
            (subst (λ k. (n ≡ 0) ⊎ (k < n)) many where_is);
        ended = subst (λ k. EndsAs end (length reports) sessions pool_now faults k) (sym same)
            (ends_then end (length links) (length reports) sessions between pool_now faults faults_between many back.coming ended);
        count = subst (Counts faults) (sym same) counts;
        faults = faults_by root (map report_of links) reports (faults_of before.keeper) (faults_of hub.keeper) is failed rose closed.count;
      }

-- ---- the list that is given back is that of the links

pub reports_alone : {K : Type 0} (report_of : K → Report) (items links : List K) (first : List Report) → first ≡ [] → items ≡ links → first ++ reverse (map report_of items) ≡ reverse (map report_of links)
reports_alone report_of items links first none same = ap (λ r. r ++ reverse (map report_of items)) none ∙ ap (λ l. reverse (map report_of l)) same

pub back_alone : {K : Type 0} (wire : K → Wire) (items links : List K) (back : Option (List Used)) → items ≡ links → option_map (λ b. b ++ map used_of (reverse (map wire items))) back ≡ option_map (λ b. b ++ map used_of (reverse (map wire links))) back
back_alone wire items links back same = ap (λ l. option_map (λ b. b ++ map used_of (reverse (map wire l))) back) same

pub lent_alone : {K : Type 0} (items links : List K) (lent : Option ℕ) → items ≡ links → option_map (λ n. n - length items) lent ≡ option_map (λ n. n - length links) lent
lent_alone items links lent same = ap (λ l. option_map (λ n. n - length l) lent) same
