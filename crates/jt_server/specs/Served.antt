-- What serving a listener's links is: reports, the hub's history, and the links that came back (this project's own). To be believed.
use Rattle.std.specs.Prelude.{◌≡◌, ◌≢◌, ◌≤◌, ◌<◌, ◌+◌, ◌^◌, ◌⊎◌, ◌↔◌, ℕ, List, [], ◌∷◌, ◌++◌, length, map, drop, Bool, Option, None, Some, IfSome}
use Rattle.std.specs.Prelude.{option_map}
use lib.ListN.{get_elem?}
use mathlib.Core.Option.{some}
use Rattle.jt_value.specs.declared.limits.TheConstants.{INPUT_LIMIT}
use Rattle.jt_value.specs.Sameness.{key_of}
use Rattle.jt_value.specs.declared.phone.Phone.{Phone}
use Rattle.jt_value.specs.Counts.{Rose}
use Rattle.jt_outside.specs.Link.{Wire}
use Rattle.jt_outside.specs.Pool.{Pool, Script, Used, used_of, IsNew}
use Rattle.jt_store.specs.Tables.{WhereKnown}
use Rattle.jt_turn.specs.Histories.{entries_of}
use Rattle.jt_turn.specs.Passes.{PassState}
use Rattle.jt_platform.specs.Allowed.{Opening}
use Rattle.jt_platform.specs.Desks.{as_ask}
use Rattle.jt_platform.specs.History.{newest, tables_after}
use Rattle.jt_platform.specs.declared.request.Entry.{Entry}
use Rattle.jt_platform.specs.declared.request.Request.{Request}
use Rattle.jt_platform.specs.declared.request.Request.TheVariants as ask
use Rattle.jt_platform.specs.declared.request.Reply.{Reply}
use Rattle.jt_session.specs.declared.end.End.{End}
use Rattle.jt_session.specs.declared.end.End.TheVariants as ends
use Rattle.jt_session.specs.declared.report.Report.{Report}
use Rattle.jt_session.specs.Talk.{at_state, start}
use Rattle.jt_session.specs.Hearing.{last_asked}
use Rattle.jt_session.specs.Serving.{Serves}
use Rattle.jt_server.specs.declared.served.ServeEnd.{ServeEnd}
use Rattle.jt_server.specs.declared.served.ServeEnd.TheVariants.{All, Over, ListenFault, Memory}

-- what was asked is a unit of a phone whose rows are as many as they may be after the history
pub record IsFullAfter (o : Opening) (h : List Entry) (q : Option Request) (l : ℕ) : Type 0 where
  pub phone : Phone
  pub serial : ℕ
  pub id : ℕ
  pub octets : List ℕ
  pub asked : q ≡ Some (ask.Unit phone serial id octets)
  pub limit : l ≡ o.limit
  pub rows : WhereKnown (tables_after o.tables (newest h)) (λ t. length (t.rows (key_of phone)) ≡ l)

-- A link that came so was served under this number, and came back so. The history's entries of the number are those of the pass that
-- served it, and where the report's end is ListFull the phone has as many rows as it may have after the whole history.
-- Of the pass itself no more is said: what it saw and how often the keeper failed in it is bound by the whole history and the keeper's count
-- alone.
pub record IsServed (O : Type 0) (o : Opening) (h : List Entry) (number : ℕ) (came back : Wire) (report : Report) : Type 0 where
  pub pass : PassState Request Reply O
  pub pass_now : PassState Request Reply O
  pub serves : Serves (Some o) INPUT_LIMIT pass pass_now came back report
  pub own : pass.number ≡ number
  pub entries : entries_of number (map as_ask h) ≡ pass_now.mine
  pub full : (l : ℕ) → report.end ≡ ends.ListFull l → IsFullAfter o h (last_asked (at_state start) serves.talk.turns) l

-- how many of the reports end as StoreFault
abbrev pub one_fault : End → ℕ
one_fault ends.StoreFault = 1
one_fault other = 0

abbrev pub store_faults : List Report → ℕ
store_faults [] = 0
store_faults (report ∷ reports) = one_fault report.end + store_faults reports

-- Each of the listener's links that was accepted was new, the first of those to come, and was served under the number of its place,
-- from 1 on; these links came back to the listener, in order, and no other.
pub record AreServed (O : Type 0) (o : Opening) (h : List Entry) (pool pool_now : Pool) (reports : List Report) : Type 0 where
  pub back : List Wire
  pub each : (m : ℕ) (report : Report) → get_elem? reports m ≡ some report
      → (came left : Wire) × IsNew (option_map (λ scripts. drop m scripts) pool.coming) came × (get_elem? back m ≡ some left) × IsServed O o h (m + 1) came left report
  pub as_many : length back ≡ length reports
  pub coming : pool_now.coming ≡ option_map (λ scripts. drop (length reports) scripts) pool.coming
  pub came_back : pool_now.back ≡ option_map (λ links. links ++ map used_of back) pool.back
  pub lent : pool_now.lent ≡ pool.lent

-- Why no more links were accepted. Where memory was wanted none was.
abbrev pub EndsAs : ServeEnd → ℕ → ℕ → Pool → ℕ → ℕ → Type 0
EndsAs All count sessions pool_now before now = count ≡ sessions
EndsAs Over count sessions pool_now before now = (count < sessions) × IfSome pool_now.coming (λ scripts. scripts ≡ [])
EndsAs ListenFault count sessions pool_now before now = (count < sessions) × Rose before now
EndsAs Memory count sessions pool_now before now = count ≡ 0
