-- What threads are given and bring back. For the proofs.
use Rattle.std.specs.Prelude.{◌≡◌, ◌≤◌, ◌<◌, ◌+◌, ◌-◌, ◌^◌, ◌⊎◌, ℕ, List, [], length, map, drop, Option}
use Rattle.std.specs.Prelude.{option_map}
use lib.ListN.{get_elem?}
use mathlib.Core.List.{IsPrefix}
use mathlib.Core.Option.{some}
use Rattle.jt_value.specs.declared.limits.TheConstants.{INPUT_LIMIT}
use Rattle.jt_outside.specs.Link.{Wire}
use Rattle.jt_outside.specs.Pool.{Pool, Script, IsNew}
use Rattle.jt_turn.specs.declared.entry.Ended.{Ended}
use Rattle.jt_turn.specs.Passes.{PassState, TurnId}
use Rattle.jt_platform.specs.Allowed.{Opening}
use Rattle.jt_platform.specs.declared.request.Request.{Request}
use Rattle.jt_platform.specs.declared.request.Reply.{Reply}
use Rattle.jt_session.specs.declared.report.Report.{Report}
use Rattle.jt_session.specs.Hearing.{IsSamePass}
use Rattle.jt_session.specs.Serving.{Serves}
use Rattle.jt_value.specs.Counts.{Counts, RoseBy}
use Rattle.jt_turn.specs.Histories.{entries_of}
use Rattle.jt_platform.specs.Allowed.{Legal}
use Rattle.jt_platform.specs.Desks.{as_ask}
use Rattle.jt_platform.specs.History.{newest}
use Rattle.jt_platform.specs.Hub.{HubValue}
use Rattle.jt_platform.specs.declared.request.Fleet.{Fleet}
use Rattle.jt_server.specs.declared.served.ServeEnd.{ServeEnd}
use Rattle.jt_server.specs.Served.{AreServed, EndsAs, store_faults}

-- The m-th thread was given a new pass of the number behind, and the m-th of the links that were to come.
pub record IsGiven {O : Type 0} (opening : O) (turn : TurnId) (coming : Option (List Script)) (m : ℕ) (pass : PassState Request Reply O) (came : Wire) : Type 0 where
  pub of_turn : pass.turn ≡ turn
  pub number : pass.number ≡ m + 1
  pub over : pass.opening ≡ opening
  pub mine : pass.mine ≡ []
  pub failed : pass.failed ≡ 0
  pub new : IsNew (option_map (λ scripts. drop m scripts) coming) came

-- what it brought back
pub record IsWorked {O : Type 0} (o : Option Opening) (opening : O) (turn : TurnId) (coming : Option (List Script)) (m : ℕ) (pass_now : PassState Request Reply O) (left : Wire) (report : Report) : Type 0 where
  pub pass : PassState Request Reply O
  pub came : Wire
  pub given : IsGiven opening turn coming m pass came
  pub serves : Serves o INPUT_LIMIT pass pass_now came left report
  pub same : IsSamePass pass pass_now

-- its pass was joined into the first one
pub record IsJoined {O : Type 0} (o : Option Opening) (opening : O) (turn : TurnId) (coming : Option (List Script)) (m : ℕ) (root : PassState Request Reply O) (left : Wire) (report : Report) : Type 0 where
  pub pass_now : PassState Request Reply O
  pub worked : IsWorked o opening turn coming m pass_now left report
  pub seen : IsPrefix pass_now.seen root.seen
  pub place : ℕ
  pub ended : get_elem? root.ended place ≡ some (record { number = m + 1; mine = pass_now.mine })

-- a new pass under which nothing was done so far
pub record IsUnused {O : Type 0} (opening : O) (turn : TurnId) (pass : PassState Request Reply O) : Type 0 where
  pub of_turn : pass.turn ≡ turn
  pub over : pass.opening ≡ opening
  pub mine : pass.mine ≡ []
  pub failed : pass.failed ≡ 0

abbrev pub AreUnused : {O : Type 0} → O → TurnId → List (PassState Request Reply O) → Type 0
AreUnused opening turn passes = (m : ℕ) (pass : PassState Request Reply _) → get_elem? passes m ≡ some pass → IsUnused opening turn pass

-- so many new passes, of the numbers from 1 on, the first one last
pub record AreNew {O : Type 0} (opening : O) (turn : TurnId) (count : ℕ) (passes : List (PassState Request Reply O)) : Type 0 where
  pub as_many : length passes ≡ count
  pub unused : AreUnused opening turn passes
  pub numbers : (m : ℕ) (pass : PassState Request Reply O) → get_elem? passes m ≡ some pass → pass.number + m ≡ count

-- the first pass, as far as it does not change
pub record IsRoot {O : Type 0} (opening : O) (turn : TurnId) (base : ℕ) (root : PassState Request Reply O) : Type 0 where
  pub of_turn : root.turn ≡ turn
  pub number : root.number ≡ 0
  pub over : root.opening ≡ opening
  pub base_is : root.base ≡ base
  pub mine : root.mine ≡ []

-- each pass that was joined into the first one is of at most this number, or made no entry
abbrev pub AreUpTo : {O : Type 0} → ℕ → PassState Request Reply O → Type 0
AreUpTo count root = (k : ℕ) (e : Ended Request Reply) → get_elem? root.ended k ≡ some e → (e.number ≤ count) ⊎ (e.mine ≡ [])

-- as many passes that were joined into it raised the count of faults, or it stands at its end
abbrev pub HasFailed : {O : Type 0} → ℕ → PassState Request Reply O → Type 0
HasFailed count root = (count ≤ root.failed) ⊎ (2 ^ 64 - 1 ≤ root.faults)

-- so many links were given by the listener
abbrev pub lent_to : ℕ → Pool → Pool
lent_to count pool = record { coming = option_map (λ scripts. drop count scripts) pool.coming; back = pool.back; lent = option_map (λ n. n + count) pool.lent }

-- empty lists, each with room for so many
pub record AreRooms {J K R : Type 0} (count : ℕ) (jobs : List J) (jobs_room : ℕ) (links : List K) (links_room : ℕ) (reports : List R) (reports_room : ℕ) : Type 0 where
  pub no_job : jobs ≡ []
  pub for_jobs : count ≤ jobs_room
  pub no_link : links ≡ []
  pub for_links : count ≤ links_room
  pub no_report : reports ≡ []
  pub for_reports : count ≤ reports_room

-- links were served over a hub that began so: all that `serve` says of it
pub record ServesLinks {P : Type 0} (O : Type 0) (o : Opening) (start : P) (fleet : Fleet) (secret : List ℕ) (hub_now : HubValue P) (sessions : ℕ) (pool pool_now : Pool) (before now kept kept_now : ℕ) (reports : List Report) (end : ServeEnd) : Type 0 where
  pub legal : Legal o (newest hub_now.history)
  pub opening : (hub_now.start ≡ start) × (hub_now.fleet ≡ fleet) × (hub_now.secret ≡ secret)
  pub served : AreServed O o hub_now.history pool pool_now reports
  pub no_other : (n : ℕ) → (n ≡ 0) ⊎ (length reports < n) → entries_of n (map as_ask hub_now.history) ≡ []
  pub ended : EndsAs end (length reports) sessions pool_now before now
  pub count : Counts before now
  pub faults : RoseBy (store_faults reports) kept kept_now
