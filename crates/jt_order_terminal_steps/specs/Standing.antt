-- An order terminal in a world of orders, and the world behind what it did (this project's own). To be believed.
use Rattle.std.specs.Prelude.{◌≡◌, ℕ, ◌+◌, ◌≤◌, List, [], ◌∷◌, ◌++◌, length, set, drop, true, Option, None, Some}
use Rattle.std.specs.List.{flat_map}
use Rattle.std.specs.Option.{option_to_list}
use Rattle.jt_escape.specs.Scan.{State as Splitting}
use Rattle.jt_stream.specs.Unplaced.{Unplaced}
use Rattle.jt_store.specs.Vaults.{Held}
use Rattle.jt_terminal_rule.specs.declared.state.State.{State}
use Rattle.jt_terminal_rule.specs.declared.state.Event.{Event}
use Rattle.jt_terminal_rule.specs.declared.state.Event.TheVariants as event
use Rattle.jt_terminal_rule.specs.declared.state.GiveUp.{GiveUp}
use Rattle.jt_terminal_rule.specs.Machines.{held_after, is_up, machine_of}
use Rattle.jt_terminal_rule.specs.Steps.{unit_named_by}
use Rattle.jt_terminal_steps.specs.Running.{IsSound}
use Rattle.jt_order.specs.declared.performed.Performed.{Performed}
use Rattle.jt_order_turns.specs.Heard.{Heard, heard_at}
use Rattle.jt_order_terminal.specs.Ledgers.{IsLedgerOf, Ledger}
use Rattle.jt_order_terminal.specs.Terminals.{StandsForLine, does_at}
use Rattle.jt_octets.specs.World.{Line, new_line, newest, newest_place, taken_of, written}
use Rattle.jt_order_octets.specs.World.{OrderWorld}
use Rattle.jt_order_octets.specs.Steps.{response_of}

-- an order terminal over a vault and a log that tell what they hold: the wrapped terminal's state, what the vault holds, its stream, what it keeps
-- of the log, and the log
pub record TerminalParts : Type 0 where
  pub state : State
  pub held : Held
  pub stream : Splitting
  pub ledger : Ledger
  pub log : List Performed

-- The terminal of the world is this one, in order and in agreement with its vault; the log and the tables are its own; of messages in packets
-- nothing is kept; and while a line is in use its stream stands for what was read of the newest line.
pub record TerminalStandsIn (w : OrderWorld) (t : TerminalParts) : Type 0 where
  pub terminal : w.base.terminal ≡ machine_of t.held t.state
  pub sound : IsSound (Some t.held) t.state
  pub log : w.log ≡ t.log
  pub tables : w.tables ≡ t.ledger.tables
  pub ledger : IsLedgerOf t.log t.ledger
  pub partial : w.base.partial ≡ []
  -- no more of the newest line was read than was written
  pub most : (newest w.base).down.taken ≤ length (newest w.base).down.octets
  pub hears : is_up t.state.phase ≡ true → StandsForLine t.stream (taken_of (newest w.base).down)

-- ---- the world behind

-- the terminal read so many octets more of the line, and wrote these frames on it
abbrev pub line_after_call : Line → ℕ → List (List ℕ) → Line
line_after_call line count frames = record line {
  up = written line.up (flat_map (λ (frame : List ℕ). frame) frames);
  down = record line.down { taken = line.down.taken + count };
}

-- The world in which the terminal is this one, which read so many octets more of the newest line, wrote these frames on it, and was told the
-- acceptance of the units in these places. All else is as it was.
abbrev pub after_call : OrderWorld → TerminalParts → ℕ → List (List ℕ) → List ℕ → OrderWorld
after_call w t count frames told = record w {
  base = record w.base {
    terminal = machine_of t.held t.state;
    lines = set w.base.lines (newest_place w.base.lines) (line_after_call (newest w.base) count frames);
    told = told ++ w.base.told;
  };
  log = t.log;
  tables = t.ledger.tables;
}

-- a new line stands behind the others, and no order was sent on it
abbrev pub with_line : OrderWorld → OrderWorld
with_line w = record w { base = record w.base { partial = []; lines = w.base.lines ++ new_line ∷ [] }; sent = w.sent ++ None ∷ [] }

-- so is one at an opening
abbrev pub with_line_at : Event → OrderWorld → OrderWorld
with_line_at event.Opened w = with_line w
with_line_at other w = w

-- ---- what the terminal is told

-- the place of the unit whose acceptance this tells, if it tells one
abbrev pub told_at : State → Held → Heard → List ℕ
told_at s held x = option_to_list (unit_named_by (machine_of held s) (response_of x))

-- what is told behind this, unless the line was given up
abbrev pub told_then : Option GiveUp → List ℕ → List ℕ → List ℕ
told_then None told later = later ++ told
told_then (Some cause) told later = told

-- the places of the units whose acceptance the terminal is told at these items, up to the one at which the line is given up; newest first
abbrev pub told_at_items : State → Ledger → Held → List Unplaced → List ℕ
told_at_items s l held [] = []
told_at_items s l held (item ∷ more) =
    let d = does_at s l (heard_at item) in
    told_then d.end (told_at s held (heard_at item)) (told_at_items d.state d.ledger (held_after d.steps held) more)

-- ---- the line down

-- these octets are the next on the newest line that the terminal has not read
pub record AreNext (octets : List ℕ) (w : OrderWorld) : Type 0 where
  pub rest : List ℕ
  pub left : drop (newest w.base).down.taken (newest w.base).down.octets ≡ octets ++ rest
