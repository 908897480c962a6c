-- Whatever a terminal hears makes of its lists what its steps do.
use Rattle.std.proofs.Common.{◌≡◌, ◌<◌, ℕ, zero, suc, List, [], ◌∷◌, Option, Some, None, Bool, true, false, cond, refl, sym, ap, ◌∙◌}
use Rattle.std.specs.Prelude.{◌==◌, ◌&&◌, nat_lt, slice_get}
use Rattle.jt_header.specs.declared.header.Header.{Header}
use Rattle.jt_register.specs.declared.reply.RegisterReply.{RegisterReply}
use Rattle.jt_codec.specs.Bodies.{body_octets}
use Rattle.jt_codec.specs.declared.message.Message.{Message}
use Rattle.jt_codec.specs.declared.message.Message.TheVariants as message
use Rattle.jt_store.specs.declared.unit.Unit.{Unit as OneUnit}
use Rattle.jt_store.specs.Vaults.{Accepts, Sets}
use Rattle.jt_terminal_rule.specs.declared.state.Acknowledgement.{Acknowledgement}
use Rattle.jt_terminal_rule.specs.declared.state.GiveUp.TheVariants.{Denied}
use Rattle.jt_terminal_rule.specs.declared.state.Phase.{Phase}
use Rattle.jt_terminal_rule.specs.declared.state.Phase.TheVariants.{Down, Registering, Authenticating, Live}
use Rattle.jt_terminal_rule.specs.declared.state.State.{State}
use Rattle.jt_terminal_rule.specs.Answers.{Answer, answer_to, answer_to_lack, answer_to_refused}
use Rattle.jt_terminal_rule.specs.Messages.{is_acceptance}
use Rattle.jt_terminal_rule.specs.Rule.{Heard, Whole, Refused, Lacks, TooMany, Ruled, after_acceptance, accept_oldest, and_then, on_unit_response, answers, answer_if_live, on_auth_response, authenticates, store_code, fill, fill_window, forget_code, gives_up, on_hearing, is_registered, names, send_next, or_stays, on_message, on_register_reply, take_reply, on_response, stays, window}
use Rattle.jt_terminal_rule.specs.Rule as rule
use Rattle.jt_terminal_steps.specs.AfterError.{lists_accepted, lists_after, lists_of}
use Rattle.jt_terminal_steps.proofs.Leaving.{HasItsLists, ListsIf, lists_answers, lists_append, lists_beats, next_lists}

-- one rule and then another
pub lists_both : (r : Ruled) (more : State → Ruled) (s : State) → HasItsLists s r → HasItsLists r.state (more r.state) → HasItsLists s (and_then r more)
lists_both r more s own next = next ∙ (ap (lists_after (more r.state).steps) own ∙ sym (lists_append r.steps (more r.state).steps (lists_of s)))

-- ---- the window

lists_fill : (n : ℕ) (s : State) → HasItsLists s (fill n s)
lists_fill zero s = refl
lists_fill (suc n) s = by (send_next s) (next_lists s (slice_get s.units s.sent) (nat_lt s.sent window)) (λ t. lists_fill n t)
  where
    by : (r : Option Ruled) → ListsIf s r → ((t : State) → HasItsLists t (fill n t)) → HasItsLists s (or_stays s r (fill n))
    by None own rest = refl
    by (Some r) own rest = lists_both r (fill n) s own (rest r.state)

lists_fills : (s : State) → HasItsLists s (fill_window s)
lists_fills s = lists_fill window s

-- ---- messages of the platform

module _ (s : State) where
  lists_coded : (code : List ℕ) → HasItsLists s (store_code s code)
  lists_coded code =
      let t = record s { code = Some code } in
      lists_both (record { state = t; steps = rule.Changes (Sets (Some code)) ∷ []; end = None }) (λ (now : State). authenticates now code) s refl (lists_beats t)

  lists_replied : (reply : RegisterReply) (octets : List ℕ) → HasItsLists s (take_reply s reply octets)
  lists_replied reply octets = by (is_registered reply)
    where
      by : (b : Bool) → HasItsLists s (cond b (store_code s reply.code) (gives_up s [] (Denied octets)))
      by true = lists_coded reply.code
      by false = refl

  lists_registered : (p : Phase) (reply : RegisterReply) (octets : List ℕ) → HasItsLists s (on_register_reply p s reply octets)
  lists_registered Down reply octets = refl
  lists_registered (Authenticating serial) reply octets = refl
  lists_registered (Live serial) reply octets = lists_fills s
  lists_registered (Registering serial) reply octets = by (reply.reply == serial)
    where
      by : (b : Bool) → HasItsLists s (cond b (take_reply s reply octets) (stays s))
      by true = lists_replied reply octets
      by false = refl

  lists_authenticated : (serial result : ℕ) (octets : List ℕ) → HasItsLists s (on_auth_response s serial result octets)
  lists_authenticated serial result octets = by (result == 0)
    where
      by : (b : Bool) → HasItsLists s (cond b (fill_window (record s { phase = Live serial })) (forget_code s octets))
      by true = lists_fills (record s { phase = Live serial })
      by false = refl

  lists_answered : (units : List OneUnit) (ack : Acknowledgement) (octets : List ℕ) → s.units ≡ units → HasItsLists s (on_unit_response s units ack octets)
  lists_answered [] ack octets are = lists_fills s
  lists_answered (u ∷ more) ack octets are = by (nat_lt 0 s.sent && names ack u)
    where
      accepts_or_not : (b : Bool) → HasItsLists s (cond b (accept_oldest s u more) (gives_up s [] (Denied octets)))
      accepts_or_not true =
          let first : Ruled = record { state = after_acceptance s u more; steps = rule.Changes Accepts ∷ []; end = None } in
          lists_both first fill_window s (ap (λ (units : List OneUnit). lists_accepted units (lists_of s)) (sym are)) (lists_fills (after_acceptance s u more))
      accepts_or_not false = refl

      by : (b : Bool) → HasItsLists s (cond b (cond (is_acceptance ack) (accept_oldest s u more) (gives_up s [] (Denied octets))) (fill_window s))
      by true = accepts_or_not (is_acceptance ack)
      by false = lists_fills s

  lists_responded : (p : Phase) (ack : Acknowledgement) (octets : List ℕ) → HasItsLists s (on_response p s ack octets)
  lists_responded Down ack octets = refl
  lists_responded (Registering serial) ack octets = refl
  lists_responded (Authenticating serial) ack octets = by ((ack.id == 0x0102) && (ack.reply == serial))
    where
      by : (b : Bool) → HasItsLists s (cond b (on_auth_response s serial ack.result octets) (stays s))
      by true = lists_authenticated serial ack.result octets
      by false = refl
  lists_responded (Live serial) ack octets = lists_answered s.units ack octets refl

module _ (s : State) (small : s.mark < 65536) (fits : s.next < 65536) where
  lists_if_live : (p : Phase) (a : Answer) → HasItsLists s (answer_if_live p s a)
  lists_if_live Down a = refl
  lists_if_live (Registering serial) a = refl
  lists_if_live (Authenticating serial) a = refl
  lists_if_live (Live serial) a = lists_both (answers s a) fill_window s (lists_answers s a small fits) (lists_fills (answers s a).state)

  lists_received : (h : Header) (m : Message) → HasItsLists s (on_message s h m)
  lists_received h (message.PlatformAck reply id result) = lists_responded s s.phase (record { reply = reply; id = id; result = result }) (body_octets h.edition (message.PlatformAck reply id result))
  lists_received h (message.RegisterReply reply) = lists_registered s s.phase reply (body_octets h.edition (message.RegisterReply reply))
  lists_received h m = lists_if_live s.phase (answer_to s h m)

  -- whatever is heard on the line
  pub lists_heard : (x : Heard) → HasItsLists s (on_hearing s x)
  lists_heard (Whole h m) = lists_received h m
  lists_heard (Refused h) = lists_if_live s.phase (answer_to_refused s h)
  lists_heard (Lacks h first numbers) = lists_if_live s.phase (answer_to_lack s s.settings.phone.edition first numbers)
  lists_heard (TooMany h) = lists_if_live s.phase (answer_to_refused s h)
