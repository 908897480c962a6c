-- What a caller is told by the clauses of an order terminal's calls, where vault and log tell what they hold (this project's own). To be believed.
use Rattle.std.specs.Prelude.{◌≡◌, ◌≢◌, ℕ, List, [], ◌++◌, Option, None, Some}
use Rattle.jt_terminal_rule.specs.declared.settings.Settings.{Settings}
use Rattle.jt_terminal_rule.specs.declared.state.Event.{Event}
use Rattle.jt_terminal_rule.specs.declared.state.Event.TheVariants as event
use Rattle.jt_terminal_rule.specs.declared.state.GiveUp.{GiveUp}
use Rattle.jt_terminal_rule.specs.Machines.{is_up}
use Rattle.jt_terminal_rule.specs.Rule as rule
use Rattle.jt_terminal_steps.specs.Running.{CutShort, IsDown, IsSame, IsSound, IsStarted, holds_after}
use Rattle.jt_order_terminal.specs.Ledgers.{IsLedgerOf}
use Rattle.jt_order_terminal.specs.Terminals.{FailsAt, StandsForLine, does_at_octets, items_behind, log_with}
use Rattle.jt_order_terminal_steps.specs.Standing.{TerminalParts}

-- what `event` says in any case
pub record EventLeaves (e : Event) (old now : TerminalParts) : Type 0 where
  pub settings : now.state.settings ≡ old.state.settings
  pub sound : IsSound (Some now.held) now.state
  pub log : now.log ≡ old.log
  pub ledger : now.ledger ≡ old.ledger
  pub opened : e ≡ event.Opened → StandsForLine now.stream []
  pub same : e ≢ event.Opened → now.stream ≡ old.stream

-- and at Ok, with these frames
pub record EventIsDone (e : Event) (old now : TerminalParts) (frames : List (List ℕ)) : Type 0 where
  pub met : EventLeaves e old now
  pub state : now.state ≡ (rule.rule old.state e).state
  pub vault : Some now.held ≡ holds_after (rule.rule old.state e).steps (Some old.held)
  pub sends : frames ≡ rule.sends old.state.settings (rule.rule old.state e).steps

-- and at Err
pub record EventFails (e : Event) (old now : TerminalParts) : Type 0 where
  pub met : EventLeaves e old now
  pub cut : CutShort (rule.rule old.state e).steps (Some old.held) (Some now.held)
  pub down : IsDown now.state

-- `restart` at Ok; and `start` at Ok, over a terminal that was started with these settings, where `old` is the one before
pub record HasStarted (settings : Settings) (old now : TerminalParts) : Type 0 where
  pub is : IsStarted settings (Some old.held) now.state
  pub held : now.held ≡ old.held
  pub log : now.log ≡ old.log
  pub stream : StandsForLine now.stream []
  pub ledger : IsLedgerOf now.log now.ledger
  pub sound : IsSound (Some now.held) now.state

-- what `feed` says in any case
pub record FeedLeaves (old now : TerminalParts) : Type 0 where
  pub same : IsSame old.state now.state
  pub sound : IsSound (Some now.held) now.state
  pub ledger : IsLedgerOf now.log now.ledger

-- `feed` at Ok, over octets that come behind others on the line in use, with these frames and this end
pub record FeedIsDone (seen octets : List ℕ) (old now : TerminalParts) (frames : List (List ℕ)) (end : Option GiveUp) : Type 0 where
  pub fed : FeedLeaves old now
  pub state : now.state ≡ (does_at_octets (is_up old.state.phase) old.state old.ledger seen octets).state
  pub kept : now.ledger ≡ (does_at_octets (is_up old.state.phase) old.state old.ledger seen octets).ledger
  pub vault : Some now.held ≡ holds_after (does_at_octets (is_up old.state.phase) old.state old.ledger seen octets).steps (Some old.held)
  pub log : Some now.log ≡ log_with (does_at_octets (is_up old.state.phase) old.state old.ledger seen octets).performed (Some old.log)
  pub sends : frames ≡ (does_at_octets (is_up old.state.phase) old.state old.ledger seen octets).frames
  pub end_is : end ≡ (does_at_octets (is_up old.state.phase) old.state old.ledger seen octets).end
  pub stands : end ≡ None → StandsForLine now.stream (seen ++ octets)

-- and at Err
pub record FeedFails (seen octets : List ℕ) (old now : TerminalParts) : Type 0 where
  pub fed : FeedLeaves old now
  pub fails : FailsAt old.state old.ledger (items_behind seen octets) (Some old.held) (Some now.held) (Some old.log) (Some now.log)
  pub down : IsDown now.state
