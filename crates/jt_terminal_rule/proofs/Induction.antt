-- The rule, walked through once: it leaves the settings, and each step that it takes is one of these.
use Rattle.std.proofs.Common.{ℕ, zero, suc, ◌≡◌, List, [], ◌∷◌, ◌++◌, slice_get, Option, Some, None, Bool, true, false, cond, refl, ◌∙◌}
use Rattle.std.specs.Prelude.{nat_lt, nat_le, ◌==◌, ◌&&◌}
use Rattle.std.specs.List.{AllByRecursion}
use Rattle.jt_value.specs.Serials.{gap_of}
use Rattle.jt_value.specs.declared.ids.TheConstants.{AUTH, HEARTBEAT, REGISTER}
use Rattle.jt_header.specs.declared.header.Header.{Header}
use Rattle.jt_register.specs.declared.reply.RegisterReply.{RegisterReply}
use Rattle.jt_codec.specs.declared.message.Message.{Message}
use Rattle.jt_codec.specs.declared.message.Message.TheVariants as message
use Rattle.jt_codec.specs.Bodies.{body_octets}
use Rattle.jt_store.specs.declared.unit.Unit.{Unit as OneUnit}
use Rattle.jt_store.specs.Vaults.{Forms, Accepts, Sets}
use Rattle.jt_subpacket.specs.Parts.{Message as Packet}
use Rattle.jt_terminal_rule.specs.declared.settings.Settings.{Settings}
use Rattle.jt_terminal_rule.specs.declared.state.Phase.{Phase}
use Rattle.jt_terminal_rule.specs.declared.state.Phase.TheVariants.{Down, Registering, Authenticating, Live}
use Rattle.jt_terminal_rule.specs.declared.state.Acknowledgement.{Acknowledgement}
use Rattle.jt_terminal_rule.specs.declared.state.State.{State}
use Rattle.jt_terminal_rule.specs.declared.state.AnswerKind.{AnswerKind}
use Rattle.jt_terminal_rule.specs.declared.state.Event.{Event}
use Rattle.jt_terminal_rule.specs.declared.state.Event.TheVariants as event
use Rattle.jt_terminal_rule.specs.declared.state.GiveUp.{GiveUp}
use Rattle.jt_terminal_rule.specs.declared.state.GiveUp.TheVariants.{Denied, TimedOut}
use Rattle.jt_terminal_rule.specs.Messages.{auth_octets, header_of, is_acceptance, register_octets}
use Rattle.jt_terminal_rule.specs.Answers.{Answer, answer_to, answer_to_refused, answer_to_lack}
use Rattle.jt_terminal_rule.specs.Rule.{Ruled, Step, accept_oldest, after_acceptance, and_then, answer_if_live, answer_packets, answers, authenticates, changed_by, fill, fill_window, forget_code, form_unit, gives_up, has_passed, heartbeat_if_silent, introduce, is_registered, is_silent, names, oldest_again, on_auth_response, on_beat, on_hearing, on_loss, on_message, on_open, on_register_reply, on_response, on_tick, on_unit_response, or_stays, repeat_sending, rule, say_heartbeat, says_answer, says_each, send_next, send_unit, stays, steps_again, store_code, take_reply, watch_and_fill, window}
use Rattle.jt_terminal_rule.specs.Rule as rule_of
use Rattle.jt_terminal_rule.specs.Rule.{Heard, Whole, Refused, Lacks, TooMany}

-- this holds of each step that the rule takes, but of answers and of a line that is opened
pub record Bears (Q : Step → Type 0) : Type 0 where
  pub sends : (older : ℕ) (unit : OneUnit) → Q (rule_of.Sends older unit)
  pub registers : (settings : Settings) (serial : ℕ) → Q (rule_of.Says (header_of settings.phone REGISTER serial) (register_octets settings))
  pub authenticates : (settings : Settings) (serial : ℕ) (code : List ℕ) → Q (rule_of.Says (header_of settings.phone AUTH serial) (auth_octets settings code))
  pub beats : (settings : Settings) (serial : ℕ) → Q (rule_of.Says (header_of settings.phone HEARTBEAT serial) [])
  pub forms : (unit : OneUnit) → Q (rule_of.Changes (Forms unit))
  pub accepts : Q (rule_of.Changes Accepts)
  pub sets : (code : Option (List ℕ)) → Q (rule_of.Changes (Sets code))
  pub loses : Q rule_of.Loses

module _ (Q : Step → Type 0) where
  -- the settings are left, and this holds of each step
  pub record Ran (s : State) (r : Ruled) : Type 0 where
    pub settings : r.state.settings ≡ s.settings
    pub steps : AllByRecursion Q r.steps

  pub all_append : (a b : List Step) → AllByRecursion Q a → AllByRecursion Q b → AllByRecursion Q (a ++ b)
  all_append [] b x y = y
  all_append (step ∷ a) b x y = (x.0, all_append a b x.1 y)

  pub ran_none : (s : State) → Ran s (stays s)
  ran_none s = record { settings = refl; steps = tt }

  -- one rule, and then another
  pub ran_then : (s : State) (r : Ruled) (more : State → Ruled) → Ran s r → Ran r.state (more r.state) → Ran s (and_then r more)
  ran_then s r more first rest = record { settings = rest.settings ∙ first.settings; steps = all_append r.steps (more r.state).steps first.steps rest.steps }

  -- a state with the same settings
  from : (s t : State) (r : Ruled) → t.settings ≡ s.settings → Ran t r → Ran s r
  from s t r same ran = record { settings = ran.settings ∙ same; steps = ran.steps }

  either : (s : State) (b : Bool) (x y : Ruled) → Ran s x → Ran s y → Ran s (cond b x y)
  either s true x y p q = p
  either s false x y p q = q

  abbrev RanIf : State → Option Ruled → Type 0
  RanIf s None = Unit {0}
  RanIf s (Some r) = Ran s r

  either_if : (s : State) (b : Bool) (x y : Option Ruled) → RanIf s x → RanIf s y → RanIf s (cond b x y)
  either_if s true x y p q = p
  either_if s false x y p q = q

  module _ (bears : Bears Q) where
    -- ---- the window

    formed : (s : State) (fixes : List (List ℕ)) → RanIf s (form_unit s fixes)
    formed s [] = tt
    formed s (fix ∷ more) = either_if s (nat_lt (gap_of s.mark s.next) 32767) _ None (record { settings = refl; steps = (bears.forms _, (bears.sends s.sent _, tt)) }) tt

    sent_one : (s : State) (unit : Option OneUnit) → RanIf s (send_unit s unit)
    sent_one s None = formed s s.waiting
    sent_one s (Some unit) = record { settings = refl; steps = (bears.sends s.sent unit, tt) }

    one : (s : State) → RanIf s (send_next s)
    one s = either_if s (nat_lt s.sent window) (send_unit s (slice_get s.units s.sent)) None (sent_one s (slice_get s.units s.sent)) tt

    filled : (n : ℕ) (s : State) → Ran s (fill n s)
    filled zero s = ran_none s
    filled (suc n) s = by (send_next s) (one s) (filled n)
      where
        by : (r : Option Ruled) → RanIf s r → ((t : State) → Ran t (fill n t)) → Ran s (or_stays s r (fill n))
        by None k more = ran_none s
        by (Some r) k more = ran_then s r (fill n) k (more r.state)

    pub ran_fill : (s : State) → Ran s (fill_window s)
    ran_fill s = filled window s

    -- ---- the ends of a line, and its beginning

    gave_up : (s : State) (cause : GiveUp) → Ran s (gives_up s [] cause)
    gave_up s cause = record { settings = refl; steps = (bears.loses, tt) }

    pub ran_loss : (s : State) → Ran s (on_loss s)
    ran_loss s = record { settings = refl; steps = (bears.loses, tt) }

    ran_auth : (s : State) (code : List ℕ) → Ran s (authenticates s code)
    ran_auth s code = record { settings = refl; steps = (bears.authenticates s.settings s.next code, tt) }

    introduced : (s : State) (code : Option (List ℕ)) → Ran s (introduce s code)
    introduced s None = record { settings = refl; steps = (bears.registers s.settings s.next, tt) }
    introduced s (Some code) = ran_auth s code

    pub ran_open : Q rule_of.Opens → (s : State) → Ran s (on_open s)
    ran_open opens s =
        let rest = introduced (record s { sent = 0 }) s.code in
        record { settings = rest.settings; steps = (opens, rest.steps) }

    -- ---- responses

    forgot : (s : State) (octets : List ℕ) → Ran s (forget_code s octets)
    forgot s octets = record { settings = refl; steps = (bears.sets None, (bears.loses, tt)) }

    accepted : (s : State) (unit : OneUnit) (more : List OneUnit) → Ran s (accept_oldest s unit more)
    accepted s unit more =
        let rest = ran_fill (after_acceptance s unit more) in
        record { settings = rest.settings; steps = (bears.accepts, rest.steps) }

    pub ran_response : (s : State) (ack : Acknowledgement) (octets : List ℕ) (p : Phase) → Ran s (on_response p s ack octets)
    ran_response s ack octets Down = ran_none s
    ran_response s ack octets (Registering serial) = ran_none s
    ran_response s ack octets (Authenticating serial) = either s ((ack.id == 0x0102) && (ack.reply == serial)) (on_auth_response s serial ack.result octets) (stays s)
        (either s (ack.result == 0) (fill_window (record s { phase = Live serial })) (forget_code s octets) (from s (record s { phase = Live serial }) _ refl (ran_fill (record s { phase = Live serial }))) (forgot s octets)) (ran_none s)
    ran_response s ack octets (Live serial) = by s.units
      where
        by : (units : List OneUnit) → Ran s (on_unit_response s units ack octets)
        by [] = ran_fill s
        by (unit ∷ more) = either s (nat_lt 0 s.sent && names ack unit) (cond (is_acceptance ack) (accept_oldest s unit more) (gives_up s [] (Denied octets))) (fill_window s)
            (either s (is_acceptance ack) (accept_oldest s unit more) (gives_up s [] (Denied octets)) (accepted s unit more) (gave_up s (Denied octets))) (ran_fill s)

    stored : (s : State) (code : List ℕ) → Ran s (store_code s code)
    stored s code = record { settings = refl; steps = (bears.sets (Some code), (bears.authenticates s.settings s.next code, tt)) }

    pub ran_reply : (s : State) (r : RegisterReply) (octets : List ℕ) (p : Phase) → Ran s (on_register_reply p s r octets)
    ran_reply s r octets Down = ran_none s
    ran_reply s r octets (Registering serial) = either s (r.reply == serial) (take_reply s r octets) (stays s)
        (either s (is_registered r) (store_code s r.code) (gives_up s [] (Denied octets)) (stored s r.code) (gave_up s (Denied octets))) (ran_none s)
    ran_reply s r octets (Authenticating serial) = ran_none s
    ran_reply s r octets (Live serial) = ran_fill s

    -- ---- moments and heartbeats

    beaten : (s : State) → Ran s (say_heartbeat s)
    beaten s = record { settings = refl; steps = (bears.beats s.settings s.next, tt) }

    watched : (s : State) (p : Phase) → Ran s (watch_and_fill p s)
    watched s Down = ran_none s
    watched s (Registering serial) = ran_none s
    watched s (Authenticating serial) = ran_none s
    watched s (Live serial) = ran_then s (heartbeat_if_silent s) fill_window (either s (is_silent s) (say_heartbeat s) (stays s) (beaten s) (ran_none s)) (ran_fill (heartbeat_if_silent s).state)

    pub ran_beat : (s : State) (p : Phase) → Ran s (on_beat p s)
    ran_beat s Down = ran_none s
    ran_beat s (Registering serial) = ran_none s
    ran_beat s (Authenticating serial) = ran_none s
    ran_beat s (Live serial) = ran_then s (say_heartbeat s) fill_window (beaten s) (ran_fill (say_heartbeat s).state)

    repeated_oldest : (units : List OneUnit) → AllByRecursion Q (oldest_again units)
    repeated_oldest [] = tt
    repeated_oldest (unit ∷ more) = (bears.sends 0 unit, tt)

    repeated : (s : State) (p : Phase) → AllByRecursion Q (steps_again s p)
    repeated s Down = tt
    repeated s (Registering serial) = (bears.registers s.settings serial, tt)
    repeated s (Authenticating serial) = (bears.authenticates s.settings serial _, tt)
    repeated s (Live serial) = repeated_oldest s.units

    pub ran_tick : (s : State) → Ran s (on_tick s)
    ran_tick s = either s (has_passed s) (cond (nat_le s.wait.sendings s.wait.repeats) (and_then (repeat_sending s) (watch_and_fill s.phase)) (gives_up s [] (TimedOut s.wait.since s.time))) (watch_and_fill s.phase s)
        (either s (nat_le s.wait.sendings s.wait.repeats) (and_then (repeat_sending s) (watch_and_fill s.phase)) (gives_up s [] (TimedOut s.wait.since s.time))
        (ran_then s (repeat_sending s) (watch_and_fill s.phase) (record { settings = refl; steps = repeated s s.phase }) (watched (repeat_sending s).state s.phase)) (gave_up s (TimedOut s.wait.since s.time)))
        (watched s s.phase)

    -- a moment of the clock
    pub ran_at : (s : State) (now : ℕ) → Ran s (on_tick (record s { time = now }))
    ran_at s now = from s (record s { time = now }) _ refl (ran_tick (record s { time = now }))

    -- ---- messages, where it holds of all that is said

    module _ (says : (h : Header) (octets : List ℕ) → Q (rule_of.Says h octets)) where
      each_said : (packets : List Packet) → AllByRecursion Q (says_each packets)
      each_said [] = tt
      each_said (packet ∷ packets) = (says packet.0 packet.1, each_said packets)

      said : (s : State) (a : Answer) (what : Option (AnswerKind × List ℕ)) → Ran s (says_answer (changed_by s a) what)
      said s a None = record { settings = refl; steps = tt }
      said s a (Some what) = record { settings = refl; steps = each_said (answer_packets (changed_by s a) what.0 what.1) }

      answered_if : (s : State) (a : Answer) (p : Phase) → Ran s (answer_if_live p s a)
      answered_if s a Down = ran_none s
      answered_if s a (Registering serial) = ran_none s
      answered_if s a (Authenticating serial) = ran_none s
      answered_if s a (Live serial) = ran_then s (answers s a) fill_window (said s a a.says) (ran_fill (answers s a).state)

      pub ran_message : (s : State) (h : Header) (m : Message) → Ran s (on_message s h m)
      ran_message s h (message.PlatformAck reply id result) = ran_response s (record { reply = reply; id = id; result = result }) (body_octets h.edition (message.PlatformAck reply id result)) s.phase
      ran_message s h (message.RegisterReply r) = ran_reply s r (body_octets h.edition (message.RegisterReply r)) s.phase
      ran_message s h m = answered_if s (answer_to s h m) s.phase

      pub ran_hearing : (s : State) (x : Heard) → Ran s (on_hearing s x)
      ran_hearing s (Whole h m) = ran_message s h m
      ran_hearing s (Refused h) = answered_if s (answer_to_refused s h) s.phase
      ran_hearing s (Lacks h first numbers) = answered_if s (answer_to_lack s s.settings.phone.edition first numbers) s.phase
      ran_hearing s (TooMany h) = answered_if s (answer_to_refused s h) s.phase

      pub ran_rule : Q rule_of.Opens → (s : State) (e : Event) → Ran s (rule s e)
      ran_rule opens s event.Opened = ran_open opens s
      ran_rule opens s (event.Received h m) = ran_message s h m
      ran_rule opens s (event.Tick now) = ran_at s now
      ran_rule opens s event.Lost = ran_loss s
      ran_rule opens s event.Beat = ran_beat s s.phase
