-- What contracts see of an order terminal, and what it does at the items of its line (this project's own). To be believed.
use Rattle.std.specs.Prelude.{◌≡◌, ℕ, ◌+◌, ◌-◌, ◌^◌, ◌==◌, ◌≤◌, ◌⊎◌, List, [], ◌∷◌, ◌++◌, length, drop, Bool, true, false, Option, None, Some, Result, Ok, Err, IsErrOf, if◌then◌else◌}
use Rattle.std.specs.Option.{option_to_list}
use Rattle.jt_value.specs.Octets.{AreOctets}
use Rattle.jt_value.specs.Counts.{Rose}
use Rattle.jt_escape.specs.Scan.{State as Splitting}
use Rattle.jt_escape.specs.Splitter.{StandsFor}
use Rattle.jt_header.specs.declared.header.Header.{Header}
use Rattle.jt_store.specs.declared.error.StoreError.{StoreError}
use Rattle.jt_store.specs.declared.error.StoreError.TheVariants as store
use Rattle.jt_stream.specs.Unplaced.{Unplaced, items}
use Rattle.jt_codec.specs.declared.message.Message.{Message}
use Rattle.jt_terminal_rule.specs.declared.state.State.{State}
use Rattle.jt_terminal_rule.specs.declared.state.GiveUp.{GiveUp}
use Rattle.jt_terminal_rule.specs.declared.state.Event.{Event}
use Rattle.jt_terminal_rule.specs.declared.state.Event.TheVariants.{Received}
use Rattle.jt_terminal_rule.specs.Rule as rule
use Rattle.jt_store.specs.Vaults.{Held}
use Rattle.jt_terminal_steps.specs.Running.{CutShort, TerminalValue, holds_after}
use Rattle.jt_order_terminal.specs.declared.fault.OrderFault.{OrderFault}
use Rattle.jt_terminal_answers.specs.Performing.{message_outcome}
use Rattle.jt_order.specs.Rules.{ruling_by}
use Rattle.jt_order.specs.declared.performed.Performed.{Performed}
use Rattle.jt_order.specs.declared.rules.Ruling.{Ruling}
use Rattle.jt_order.specs.declared.rules.Ruling.TheVariants.{Again, Performs, Refuses}
use Rattle.jt_order_turns.specs.Headers.{answer_frame}
use Rattle.jt_order_turns.specs.Heard.{Heard, Ordered, Other, Nothing, heard_at}
use Rattle.jt_order_terminal.specs.Ledgers.{Ledger}

-- the wrapped terminal, the log, where its own stream stands, and what it keeps of the log
pub record OrderTerminalValue (V G : Type 0) : Type 0 where
  pub terminal : TerminalValue V
  pub log : G
  pub stream : Splitting
  pub ledger : Ledger

-- ---- what it does

-- the wrapped terminal's state and steps, what is kept of the log, the orders that were committed, the frames and acceptances, and why the line
-- is given up
pub record Done : Type 0 where
  pub state : State
  pub steps : List rule.Step
  pub ledger : Ledger
  pub performed : List Performed
  pub frames : List (List ℕ)
  pub told : List ℕ
  pub end : Option GiveUp

abbrev pub does_nothing : State → Ledger → Done
does_nothing s l = record { state = s; steps = []; ledger = l; performed = []; frames = []; told = []; end = None }

-- an order is responded to, and nothing else changes
abbrev pub responds : State → Ledger → Header → ℕ → Done
responds s l h result = record (does_nothing s l) { frames = answer_frame h result ∷ [] }

-- the number behind this one, or above 2^64 - 1 one with the same serial
abbrev pub next : ℕ → ℕ
next count = if count == 2 ^ 64 - 1 then 65536 else count + 1

-- an order is performed over the tables, committed, and responded to with its result
abbrev pub performs : State → Ledger → Header → List ℕ → Message → Done
performs s l h octets m =
    let outcome = message_outcome l.tables m in
    let p : Performed = record { order = record { id = h.id; body = octets }; result = outcome.0 } in
    record {
      state = s;
      steps = [];
      ledger = record { count = next l.count; last = Some p; tables = outcome.1 };
      performed = p ∷ [];
      frames = answer_frame h outcome.0 ∷ [];
      told = [];
      end = None;
    }

abbrev pub by_ruling : State → Ledger → Header → List ℕ → Message → Ruling → Done
by_ruling s l h octets m (Again result) = responds s l h result
by_ruling s l h octets m Performs = performs s l h octets m
by_ruling s l h octets m Refuses = responds s l h 1

-- at an order, by the three rules; at another message, by the wrapped terminal's
abbrev pub does_at : State → Ledger → Heard → Done
does_at s l (Ordered h octets m) = by_ruling s l h octets m (ruling_by l.count l.last h.serial (record { id = h.id; body = octets }))
does_at s l (Other h m) =
    let ruled = rule.rule s (Received h m) in
    record {
      state = ruled.state;
      steps = ruled.steps;
      ledger = l;
      performed = [];
      frames = rule.sends s.settings ruled.steps;
      told = option_to_list (rule.named_place s (rule.response (Received h m)));
      end = ruled.end;
    }
does_at s l Nothing = does_nothing s l

-- one thing done, and then another unless the line was given up
abbrev pub then_done : Option GiveUp → Done → Done → Done
then_done None a b = record {
  state = b.state;
  steps = a.steps ++ b.steps;
  ledger = b.ledger;
  performed = a.performed ++ b.performed;
  frames = a.frames ++ b.frames;
  told = a.told ++ b.told;
  end = b.end;
}
then_done (Some cause) a b = a

abbrev pub does_at_items : State → Ledger → List Unplaced → Done
does_at_items s l [] = does_nothing s l
does_at_items s l (item ∷ more) =
    let done = does_at s l (heard_at item) in
    then_done done.end done (does_at_items done.state done.ledger more)

-- the items that octets complete which come behind others on the same line
abbrev pub items_behind : List ℕ → List ℕ → List Unplaced
items_behind seen octets = drop (length (items seen)) (items (seen ++ octets))

-- at octets that come behind others on the same line; while no line is in use, nothing
abbrev pub does_at_octets : Bool → State → Ledger → List ℕ → List ℕ → Done
does_at_octets true s l seen octets = does_at_items s l (items_behind seen octets)
does_at_octets false s l seen octets = does_nothing s l

-- ---- what was done

-- the log with these orders behind those that it has
abbrev pub log_with : List Performed → Option (List Performed) → Option (List Performed)
log_with more None = None
log_with more (Some log) = Some (log ++ more)

-- after a fault the log has some first orders of those that were to be committed, perhaps none and perhaps all
pub record CommitsFirst (all : List Performed) (log log_now : Option (List Performed)) : Type 0 where
  pub gained : List Performed
  pub left : List Performed
  pub parts : all ≡ gained ++ left
  pub held : log_now ≡ log_with gained log

-- A call failed at one of these items: all before it were done whole, and the line was not given up at them; of it some first changes and orders
-- were committed, perhaps none and perhaps all; and nothing was done at those behind it.
pub record FailsAt (s : State) (l : Ledger) (all : List Unplaced) (held held_now : Option Held) (log log_now : Option (List Performed)) : Type 0 where
  pub before : List Unplaced
  pub item : Unplaced
  pub behind : List Unplaced
  pub parts : all ≡ before ++ item ∷ behind
  pub goes_on : (does_at_items s l before).end ≡ None
  pub cut : let done = does_at_items s l before in CutShort (does_at done.state done.ledger (heard_at item)).steps (holds_after done.steps held) held_now
  pub commits : let done = does_at_items s l before in CommitsFirst (does_at done.state done.ledger (heard_at item)).performed (log_with done.performed log) log_now

-- What a call says of a vault or a log, of which this is the fault: its count of faults never falls, the fault comes only where the count rose,
-- and every other answer, so Memory too, only where it stood still; and where no call may fail, none may later, and the fault does not come.
pub record HasFaultCause {T : Type 0} (fault : OrderFault) (faults faults_now : ℕ) (may may_now : Bool) (result : Result T OrderFault) : Type 0 where
  pub later : faults ≤ faults_now
  pub failed : IsErrOf result fault → Rose faults faults_now
  pub still : ¬ IsErrOf result fault → faults_now ≡ faults
  pub steady : may ≡ false → (may_now ≡ false) × (IsErrOf result fault → ⊥)

-- its own stream was given these octets
pub record StandsForLine (stream : Splitting) (seen : List ℕ) : Type 0 where
  pub octets : AreOctets seen
  pub stream_is : StandsFor stream seen

-- the event is no message
abbrev pub IsNoMessage : Event → Type 0
IsNoMessage (Received h m) = ⊥
IsNoMessage event = Unit {0}

-- What a call says of a vault and a log that it asks one after the other: no count of faults falls, Failed comes only where one of them rose, and
-- every other answer, so Memory too, only where both stood still. Full never comes.
pub record HasEitherCause {T : Type 0} (vault vault_now log log_now : ℕ) (result : Result T StoreError) : Type 0 where
  pub later : (vault ≤ vault_now) × (log ≤ log_now)
  pub failed : IsErrOf result store.Failed → Rose vault vault_now ⊎ Rose log log_now
  pub still : ¬ IsErrOf result store.Failed → (vault_now ≡ vault) × (log_now ≡ log)
  pub never_full : (limit : ℕ) → ¬ IsErrOf result (store.Full limit)
