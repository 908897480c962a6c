-- What the terminal says at an event that is no message is no general response.
use Rattle.std.proofs.Common.{ℕ, ◌≢◌, List, [], ◌∷◌, ◌++◌}
use Rattle.std.specs.List.{AllByRecursion}
use Rattle.jt_value.specs.declared.phone.Phone.{Phone}
use Rattle.jt_value.specs.declared.ids.TheConstants.{AUTH, HEARTBEAT, REGISTER, TERMINAL_ACK}
use Rattle.jt_register.specs.declared.reply.RegisterReply.{RegisterReply}
use Rattle.jt_stream.specs.Unplaced.{Message as Frame}
use Rattle.jt_store.specs.Vaults.{Notes, Forms, Accepts, Sets}
use Rattle.jt_terminal_rule.specs.declared.state.Phase.{Phase}
use Rattle.jt_terminal_rule.specs.declared.state.Acknowledgement.{Acknowledgement}
use Rattle.jt_terminal_rule.specs.declared.state.State.{State}
use Rattle.jt_terminal_rule.specs.declared.state.Event.TheVariants as event
use Rattle.jt_terminal_rule.specs.declared.state.Event.{Event}
use Rattle.jt_terminal_rule.specs.Messages.{header_of}
use Rattle.jt_terminal_rule.specs.Rule.{Step, fill_window, on_register_reply, on_response, rule}
use Rattle.jt_terminal_rule.specs.Rule as rule_of
use Rattle.jt_terminal_rule.specs.Law.{changes_then_loss}
use Rattle.jt_terminal_rule.specs.Machines.{as_step, as_steps}
use Rattle.jt_terminal_rule.specs.Steps.{Machine, TerminalStep, machine_after}
use Rattle.jt_terminal_rule.proofs.Induction.{Bears, Ran, ran_at, ran_beat, ran_fill, ran_loss, ran_open, ran_reply, ran_response}
use Rattle.jt_order_turns.specs.Turns.{NamesNoOrder}
use Rattle.jt_order_terminal.specs.Terminals.{IsNoMessage}
use Rattle.jt_order_octets.specs.Steps.{NamesNone}

-- nothing that these steps say names an order
abbrev pub NameNone : List Step → Type 0
NameNone [] = Unit {0}
NameNone (rule_of.Says h body ∷ steps) = NamesNoOrder (Frame h body) × NameNone steps
NameNone (s ∷ steps) = NameNone steps

pub name_append : (a b : List Step) → NameNone a → NameNone b → NameNone (a ++ b)
name_append [] b x y = y
name_append (rule_of.Says h body ∷ a) b x y = (x.0, name_append a b x.1 y)
name_append (rule_of.Opens ∷ a) b x y = name_append a b x y
name_append (rule_of.Sends older unit ∷ a) b x y = name_append a b x y
name_append (rule_of.Changes change ∷ a) b x y = name_append a b x y
name_append (rule_of.Loses ∷ a) b x y = name_append a b x y

-- a message with another id is no general response
pub other_id : (phone : Phone) (id serial : ℕ) (octets : List ℕ) → id ≢ TERMINAL_ACK → NamesNoOrder (Frame (header_of phone id serial) octets)
other_id phone id serial octets apart reply named result r = absurd (apart r.response)

register_id : REGISTER ≢ TERMINAL_ACK
register_id e = absurd cc

auth_id : AUTH ≢ TERMINAL_ACK
auth_id e = absurd cc

heartbeat_id : HEARTBEAT ≢ TERMINAL_ACK
heartbeat_id e = absurd cc

-- a step that says nothing of the kind
abbrev IsQuiet : Step → Type 0
IsQuiet (rule_of.Says h body) = NamesNoOrder (Frame h body)
IsQuiet step = Unit {0}

none_of : (steps : List Step) → AllByRecursion IsQuiet steps → NameNone steps
none_of [] each = tt
none_of (rule_of.Says h body ∷ steps) each = (each.0, none_of steps each.1)
none_of (rule_of.Opens ∷ steps) each = none_of steps each.1
none_of (rule_of.Sends older unit ∷ steps) each = none_of steps each.1
none_of (rule_of.Changes change ∷ steps) each = none_of steps each.1
none_of (rule_of.Loses ∷ steps) each = none_of steps each.1

quiet_are : Bears IsQuiet
quiet_are = record {
  sends = λ _ _. tt;
  registers = λ settings serial. other_id settings.phone REGISTER serial _ register_id;
  authenticates = λ settings serial code. other_id settings.phone AUTH serial _ auth_id;
  beats = λ settings serial. other_id settings.phone HEARTBEAT serial [] heartbeat_id;
  forms = λ _. tt;
  accepts = tt;
  sets = λ _. tt;
  loses = tt;
}

pub fills_name : (s : State) → NameNone (fill_window s).steps
fills_name s = none_of (fill_window s).steps (ran_fill IsQuiet quiet_are s).steps

pub response_names : (s : State) (ack : Acknowledgement) (octets : List ℕ) (p : Phase) → NameNone (on_response p s ack octets).steps
response_names s ack octets p = none_of (on_response p s ack octets).steps (ran_response IsQuiet quiet_are s ack octets p).steps

pub reply_names : (s : State) (r : RegisterReply) (octets : List ℕ) (p : Phase) → NameNone (on_register_reply p s r octets).steps
reply_names s r octets p = none_of (on_register_reply p s r octets).steps (ran_reply IsQuiet quiet_are s r octets p).steps

ran_quiet : (s : State) (e : Event) → IsNoMessage e → Ran IsQuiet s (rule s e)
ran_quiet s event.Opened no_message = ran_open IsQuiet quiet_are tt s
ran_quiet s (event.Received h m) no_message = absurd no_message
ran_quiet s (event.Tick now) no_message = ran_at IsQuiet quiet_are s now
ran_quiet s event.Lost no_message = ran_loss IsQuiet quiet_are s
ran_quiet s event.Beat no_message = ran_beat IsQuiet quiet_are s s.phase

pub event_names : (s : State) (e : Event) → IsNoMessage e → NameNone (rule s e).steps
event_names s e no_message = none_of (rule s e).steps (ran_quiet s e no_message).steps

-- ---- as steps of the machine

-- nothing among these steps says what names an order, and none is a restart
abbrev pub AreFine : List TerminalStep → Type 0
AreFine [] = Unit {0}
AreFine (s ∷ steps) = NamesNone s × AreFine steps

pub steps_fine : (m : Machine) (steps : List Step) → NameNone steps → AreFine (as_steps m steps)
steps_fine m [] none = tt
steps_fine m (rule_of.Opens ∷ steps) none = (tt, steps_fine (machine_after m (as_step m rule_of.Opens)) steps none)
steps_fine m (rule_of.Sends older unit ∷ steps) none = (tt, steps_fine (machine_after m (as_step m (rule_of.Sends older unit))) steps none)
steps_fine m (rule_of.Says h body ∷ steps) none = (none.0, steps_fine (machine_after m (as_step m (rule_of.Says h body))) steps none.1)
steps_fine m (rule_of.Changes (Notes fix) ∷ steps) none = (tt, steps_fine (machine_after m (as_step m (rule_of.Changes (Notes fix)))) steps none)
steps_fine m (rule_of.Changes (Forms unit) ∷ steps) none = (tt, steps_fine (machine_after m (as_step m (rule_of.Changes (Forms unit)))) steps none)
steps_fine m (rule_of.Changes Accepts ∷ steps) none = (tt, steps_fine (machine_after m (as_step m (rule_of.Changes Accepts))) steps none)
steps_fine m (rule_of.Changes (Sets code) ∷ steps) none = (tt, steps_fine (machine_after m (as_step m (rule_of.Changes (Sets code)))) steps none)
steps_fine m (rule_of.Loses ∷ steps) none = (tt, steps_fine (machine_after m (as_step m rule_of.Loses)) steps none)

-- what is left of steps that are cut short says nothing
pub quiet_names : (steps : List Step) → NameNone (changes_then_loss steps)
quiet_names [] = tt
quiet_names (rule_of.Changes change ∷ steps) = quiet_names steps
quiet_names (rule_of.Sends older unit ∷ steps) = quiet_names steps
quiet_names (rule_of.Says h body ∷ steps) = quiet_names steps
quiet_names (rule_of.Opens ∷ steps) = quiet_names steps
quiet_names (rule_of.Loses ∷ steps) = quiet_names steps
