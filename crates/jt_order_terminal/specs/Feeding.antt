-- What the calls under an order terminal's `feed` did. For the proofs.
use Rattle.std.specs.Prelude.{◌≡◌, ℕ, List, [], ◌∷◌, ◌++◌, Bool, false, Option, None}
use Rattle.jt_escape.specs.Scan.{State as Splitting}
use Rattle.jt_stream.specs.Unplaced.{Unplaced}
use Rattle.jt_store.specs.Tables.{WhereKnown}
use Rattle.jt_store.specs.Vaults.{Held}
use Rattle.jt_terminal_rule.specs.declared.state.State.{State}
use Rattle.jt_terminal_rule.specs.declared.state.GiveUp.{GiveUp}
use Rattle.jt_terminal_steps.specs.Running.{CutShort, IsSound, holds_after}
use Rattle.jt_terminal.specs.Feeding.{Brings}
use Rattle.jt_order.specs.declared.performed.Performed.{Performed}
use Rattle.jt_order_terminal.specs.Ledgers.{IsLedgerOf, Ledger}
use Rattle.jt_order_turns.specs.Heard.{heard_at}
use Rattle.jt_order_terminal.specs.Terminals.{CommitsFirst, Done, does_at, does_at_items, log_with}

-- what is to be sent so far, and the acceptances that were told
pub record Sayings : Type 0 where
  pub frames : List (List ℕ)
  pub told : List ℕ

-- the wrapped terminal's state, what is kept of the log, what vault and log hold, and what was said so far
pub record Scene : Type 0 where
  pub state : State
  pub ledger : Ledger
  pub held : Option Held
  pub log : Option (List Performed)
  pub said : Sayings

abbrev pub scene : State → Ledger → Option Held → Option (List Performed) → Sayings → Scene
scene state ledger held log said = record { state = state; ledger = ledger; held = held; log = log; said = said }

-- where the ledger was that of the log, it still is
abbrev pub KeepsLedger : Ledger → Ledger → Option (List Performed) → Option (List Performed) → Type 0
KeepsLedger ledger ledger_now log log_now = WhereKnown log (λ performed. IsLedgerOf performed ledger) → WhereKnown log_now (λ performed. IsLedgerOf performed ledger_now)

-- where the wrapped terminal was in order and agreed with its vault, it still is and does
abbrev pub KeepsSound : Option Held → State → Option Held → State → Type 0
KeepsSound held s held_now s_now = IsSound held s → IsSound held_now s_now

-- an order was responded to, and what is kept of the log, the log and the frames are so
pub record HasResponded (d : Done) (ledger_now : Ledger) (log log_now : Option (List Performed)) (frames frames_now : List (List ℕ)) : Type 0 where
  pub ledger : ledger_now ≡ d.ledger
  pub commits : log_now ≡ log_with d.performed log
  pub sends : frames_now ≡ frames ++ d.frames

-- all of this was done, and what it sends and tells stands behind what was said before
pub record HasDone (d : Done) (old now : Scene) (end : Option GiveUp) : Type 0 where
  pub state : now.state ≡ d.state
  pub ledger : now.ledger ≡ d.ledger
  pub held : now.held ≡ holds_after d.steps old.held
  pub log : now.log ≡ log_with d.performed old.log
  pub frames : now.said.frames ≡ old.said.frames ++ d.frames
  pub told : now.said.told ≡ old.said.told ++ d.told
  pub end_is : end ≡ d.end

-- some first changes and some first orders of this were committed
pub record HasBegun (d : Done) (held held_now : Option Held) (log log_now : Option (List Performed)) : Type 0 where
  pub cut : CutShort d.steps held held_now
  pub commits : CommitsFirst d.performed log log_now

-- the octets were fed, and all that is done at their items was done
pub record HasFed (stream stream_now : Splitting) (old now : Scene) (octets : List ℕ) (end : Option GiveUp) : Type 0 where
  pub gone : List Unplaced
  pub brings : Brings stream stream_now octets gone
  pub did : HasDone (does_at_items old.state old.ledger gone) old now end

-- some first octets were fed, all of them unless the terminal gave up
pub record HasFedFront (stream stream_now : Splitting) (old now : Scene) (octets : List ℕ) (end : Option GiveUp) : Type 0 where
  pub front : List ℕ
  pub back : List ℕ
  pub parts : octets ≡ front ++ back
  pub whole : end ≡ None → back ≡ []
  pub fed : HasFed stream stream_now old now front end

-- what is done at an item behind these was begun
abbrev pub HasBegunAt : Scene → List Unplaced → Unplaced → Option Held → Option (List Performed) → Type 0
HasBegunAt old gone item held_now log_now =
    let done = does_at_items old.state old.ledger gone in
    HasBegun (does_at done.state done.ledger (heard_at item)) (holds_after done.steps old.held) held_now (log_with done.performed old.log) log_now

-- some first octets were fed, all was done at their items but the last, and what is done at that was begun
pub record WasCut (stream stream_now : Splitting) (old : Scene) (held_now : Option Held) (log_now : Option (List Performed)) (octets : List ℕ) : Type 0 where
  pub front : List ℕ
  pub back : List ℕ
  pub parts : octets ≡ front ++ back
  pub gone : List Unplaced
  pub last : Unplaced
  pub brings : Brings stream stream_now front (gone ++ last ∷ [])
  pub goes_on : (does_at_items old.state old.ledger gone).end ≡ None
  pub begun : HasBegunAt old gone last held_now log_now

-- what a vault or a log says beside what it holds, while nothing failed
pub record IsSteadySoFar (faults faults_now : ℕ) (may may_now : Bool) : Type 0 where
  pub still : faults_now ≡ faults
  pub steady : may ≡ false → may_now ≡ false
