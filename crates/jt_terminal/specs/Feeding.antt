-- What the calls under a line's `feed` did. For the proofs.
use Rattle.std.specs.Prelude.{◌≡◌, ℕ, List, [], ◌++◌, ◌≤◌, Bool, false, Option, None}
use Rattle.jt_value.specs.Octets.{AreOctets}
use Rattle.jt_escape.specs.Scan.{State as Splitting}
use Rattle.jt_escape.specs.Splitter.{StandsFor}
use Rattle.jt_header.specs.Fields.{header_at, body_at}
use Rattle.jt_stream.specs.Unplaced.{Unplaced, Message as Frame, items}
use Rattle.jt_store.specs.Vaults.{Held}
use Rattle.jt_subpacket.specs.Partials.{Partial}
use Rattle.jt_terminal_rule.specs.declared.state.State.{State}
use Rattle.jt_terminal_rule.specs.declared.state.GiveUp.{GiveUp}
use Rattle.jt_terminal_steps.specs.AfterError.{CutLists, lists_after, lists_of}
use Rattle.jt_terminal_steps.specs.Running.{CutShort, Ran}
use Rattle.jt_terminal.specs.Line.{TablesOfFirst, rule_at_items, kept_behind, places_at_items}

-- the stream went on by the octets, which brought these items
abbrev pub Brings : Splitting → Splitting → List ℕ → List Unplaced → Type 0
Brings old new octets gained =
    (seen : List ℕ) → AreOctets seen → StandsFor old seen → (items (seen ++ octets) ≡ items seen ++ gained) × StandsFor new (seen ++ octets)

-- the message of a content that is one
abbrev pub message_at : List ℕ → Unplaced
message_at content = Frame (header_at content) (body_at content)

-- a line's stream and partial messages, a terminal's state, what its vault holds, the frames and the units told so far
pub record Scene : Type 0 where
  pub stream : Splitting
  pub partial : List Partial
  pub state : State
  pub held : Option Held
  pub out : List (List ℕ)
  pub told : List ℕ

abbrev pub scene : Splitting → List Partial → State → Option Held → List (List ℕ) → List ℕ → Scene
scene stream partial state held out told = record { stream = stream; partial = partial; state = state; held = held; out = out; told = told }

-- the octets were fed, and the terminal did what it does at their items; and the lists behind them are those that the steps make,
-- as the rule has it, which is carried along since it is known item by item
pub record HasFed (old now : Scene) (octets : List ℕ) (end : Option GiveUp) : Type 0 where
  pub gone : List Unplaced
  pub brings : Brings old.stream now.stream octets gone
  pub partial : now.partial ≡ kept_behind old.partial gone
  pub ran : Ran old.state.settings (rule_at_items old.state old.partial gone) now.state old.held now.held old.out now.out end
  pub told : now.told ≡ old.told ++ places_at_items old.state old.partial gone
  pub lists : lists_of (rule_at_items old.state old.partial gone).state ≡ lists_after (rule_at_items old.state old.partial gone).steps (lists_of old.state)

-- some first octets were fed, all of them unless the terminal gave up
pub record HasFedFront (old now : Scene) (octets : List ℕ) (end : Option GiveUp) : Type 0 where
  pub front : List ℕ
  pub back : List ℕ
  pub parts : octets ≡ front ++ back
  pub whole : end ≡ None → back ≡ []
  pub fed : HasFed old now front end

-- some first octets were fed, and what the terminal did at their items was cut short
pub record WasCut (old : Scene) (stream : Splitting) (state : State) (held : Option Held) (octets : List ℕ) : Type 0 where
  pub front : List ℕ
  pub back : List ℕ
  pub parts : octets ≡ front ++ back
  pub gone : List Unplaced
  pub brings : Brings old.stream stream front gone
  pub cut : CutShort (rule_at_items old.state old.partial gone).steps old.held held
  pub tables : TablesOfFirst old.state old.partial gone state
  pub lists : CutLists (rule_at_items old.state old.partial gone).steps (lists_of old.state) (lists_of state)

-- what a vault says beside what it holds, while nothing failed
pub record IsSteadySoFar (faults faults_now most most_now : ℕ) (may may_now : Bool) : Type 0 where
  pub limit : most_now ≡ most
  pub still : faults_now ≡ faults
  pub steady : may ≡ false → may_now ≡ false
