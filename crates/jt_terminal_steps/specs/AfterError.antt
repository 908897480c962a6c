-- What an error in an event leaves of a terminal's state, beside that no line is in use. To be believed.
use Rattle.std.specs.Prelude.{ℕ, ◌≡◌, ◌+◌, List, [], ◌∷◌, ◌++◌, drop, Option, Bool, true, false, ◌==◌, ◌&&◌, nat_lt, if◌then◌else◌}
use Rattle.jt_value.specs.declared.limits.TheConstants.{UNIT_WINDOW}
use Rattle.jt_value.specs.Serials.{gap_of, serial_of}
use Rattle.jt_codec.specs.declared.message.Message.{Message}
use Rattle.jt_codec.specs.declared.message.Message.TheVariants as message
use Rattle.jt_store.specs.declared.unit.Unit.{Unit as OneUnit}
use Rattle.jt_store.specs.Vaults.{Change, Notes, Forms, Accepts, Sets}
use Rattle.jt_terminal_rule.specs.declared.state.State.{State}
use Rattle.jt_terminal_rule.specs.declared.state.Event.{Event}
use Rattle.jt_terminal_rule.specs.declared.state.Event.TheVariants.{Opened, Received, Tick, Lost, Beat}
use Rattle.jt_terminal_rule.specs.Rule.{Step, capped_sum}
use Rattle.jt_terminal_rule.specs.Rule as rule

-- ---- fixes, units and serials

-- what a terminal keeps of its fixes, its units and its serials, and the code
pub record Lists : Type 0 where
  pub units : List OneUnit
  pub waiting : List (List ℕ)
  pub mark : ℕ
  pub next : ℕ
  pub code : Option (List ℕ)
  pub recorded : ℕ
  pub accepted : ℕ

abbrev pub lists_of : State → Lists
lists_of s = record { units = s.units; waiting = s.waiting; mark = s.mark; next = s.next; code = s.code; recorded = s.recorded; accepted = s.accepted }

-- the oldest of these units is accepted, if there is one
abbrev pub lists_accepted : List OneUnit → Lists → Lists
lists_accepted [] k = k
lists_accepted (unit ∷ more) k = record k { units = more; mark = unit.serial; accepted = capped_sum k.accepted unit.count }

-- the vault committed a change
abbrev pub lists_changed : Change → Lists → Lists
lists_changed (Notes fix) k = record k { waiting = k.waiting ++ fix ∷ []; recorded = capped_sum k.recorded 1 }
lists_changed (Forms unit) k = record k { units = k.units ++ unit ∷ []; waiting = drop unit.count k.waiting; next = serial_of (k.next + 1) }
lists_changed Accepts k = lists_accepted k.units k
lists_changed (Sets code) k = record k { code = code }

-- The serial that is next once a message that is no unit was sent under this one: it is taken if it was next, unless the gap from the mark is
-- 32,766 or more.
abbrev pub next_said : ℕ → ℕ → ℕ → ℕ
next_said mark next serial = if nat_lt (gap_of mark next) UNIT_WINDOW && (serial == next) then serial_of (next + 1) else next

-- these steps were done
abbrev pub lists_after : List Step → Lists → Lists
lists_after [] k = k
lists_after (rule.Changes change ∷ steps) k = lists_after steps (lists_changed change k)
lists_after (rule.Says h body ∷ steps) k = lists_after steps (record k { next = next_said k.mark k.next h.serial })
lists_after (rule.Sends older unit ∷ steps) k = lists_after steps k
lists_after (rule.Opens ∷ steps) k = lists_after steps k
lists_after (rule.Loses ∷ steps) k = lists_after steps k

-- the lists are those after the first ones of these steps, perhaps after none and perhaps after all
pub record CutLists (steps : List Step) (old now : Lists) : Type 0 where
  pub done : List Step
  pub left : List Step
  pub parts : steps ≡ done ++ left
  pub lists : now ≡ lists_after done old

-- ---- times and tables

-- times and tables are the same
pub record AreSameTables (old now : State) : Type 0 where
  pub timing : now.timing ≡ old.timing
  pub params : now.params ≡ old.params
  pub regions : now.regions ≡ old.regions

-- the message sets parameters
abbrev pub sets_params_in : Message → Bool
sets_params_in (message.SetParams params) = true
sets_params_in _ = false

-- the message changes regions
abbrev pub changes_regions_in : Message → Bool
changes_regions_in (message.Circles setting list) = true
changes_regions_in (message.Rectangles setting list) = true
changes_regions_in (message.Polygon polygon) = true
changes_regions_in (message.Route route) = true
changes_regions_in (message.Delete kind ids) = true
changes_regions_in _ = false

-- the platform sets parameters, as nothing else does
abbrev pub sets_params : Event → Bool
sets_params Opened = false
sets_params (Received h m) = sets_params_in m
sets_params (Tick now) = false
sets_params Lost = false
sets_params Beat = false

-- times and parameters are the same
pub record AreSameParams (old now : State) : Type 0 where
  pub timing : now.timing ≡ old.timing
  pub params : now.params ≡ old.params
