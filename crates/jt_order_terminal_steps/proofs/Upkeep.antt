-- Behind a message a line stays in use, unless it is given up there.
use Rattle.std.proofs.Common.{ℕ, zero, suc, ◌≡◌, List, [], ◌∷◌, slice_get, Option, Some, None, Bool, true, false, cond, refl, ap, sym, ◌∙◌}
use Rattle.std.specs.Prelude.{nat_lt, ◌==◌, ◌&&◌, is_none}
use Rattle.jt_value.specs.Serials.{gap_of}
use Rattle.jt_header.specs.declared.header.Header.{Header}
use Rattle.jt_register.specs.declared.reply.RegisterReply.{RegisterReply}
use Rattle.jt_codec.specs.declared.message.Message.{Message}
use Rattle.jt_codec.specs.declared.message.Message.TheVariants as message
use Rattle.jt_codec.specs.Bodies.{body_octets}
use Rattle.jt_store.specs.declared.unit.Unit.{Unit as OneUnit}
use Rattle.jt_terminal_rule.specs.declared.state.Phase.{Phase}
use Rattle.jt_terminal_rule.specs.declared.state.Phase.TheVariants.{Down, Registering, Authenticating, Live}
use Rattle.jt_terminal_rule.specs.declared.state.Acknowledgement.{Acknowledgement}
use Rattle.jt_terminal_rule.specs.declared.state.State.{State}
use Rattle.jt_terminal_rule.specs.declared.state.AnswerKind.{AnswerKind}
use Rattle.jt_terminal_rule.specs.declared.state.GiveUp.TheVariants.{Denied}
use Rattle.jt_terminal_rule.specs.Messages.{is_acceptance}
use Rattle.jt_terminal_rule.specs.Answers.{Answer, answer_to}
use Rattle.jt_terminal_rule.specs.Machines.{is_up}
use Rattle.jt_terminal_rule.specs.Rule.{Ruled, accept_oldest, after_acceptance, answer_if_live, answers, changed_by, fill, fill_window, forget_code, form_unit, gives_up, is_registered, names, on_auth_response, on_message, on_register_reply, on_response, on_unit_response, or_stays, says_answer, send_next, send_unit, stays, store_code, take_reply, window}

abbrev pub UpUnless : Ruled → Type 0
UpUnless r = is_up r.state.phase ≡ is_none r.end

abbrev SameIf : State → Option Ruled → Type 0
SameIf s None = Unit {0}
SameIf s (Some r) = r.state.phase ≡ s.phase

either_if : (s : State) (b : Bool) (x y : Option Ruled) → SameIf s x → SameIf s y → SameIf s (cond b x y)
either_if s true x y p q = p
either_if s false x y p q = q

formed : (s : State) (fixes : List (List ℕ)) → SameIf s (form_unit s fixes)
formed s [] = tt
formed s (fix ∷ more) = either_if s (nat_lt (gap_of s.mark s.next) 32767) _ None refl tt

sent_one : (s : State) (unit : Option OneUnit) → SameIf s (send_unit s unit)
sent_one s None = formed s s.waiting
sent_one s (Some unit) = refl

one : (s : State) → SameIf s (send_next s)
one s = either_if s (nat_lt s.sent window) (send_unit s (slice_get s.units s.sent)) None (sent_one s (slice_get s.units s.sent)) tt

fill_phase : (n : ℕ) (s : State) → (fill n s).state.phase ≡ s.phase
fill_phase zero s = refl
fill_phase (suc n) s = by (send_next s) (one s) (fill_phase n)
  where
    by : (r : Option Ruled) → SameIf s r → ((t : State) → (fill n t).state.phase ≡ t.phase) → (or_stays s r (fill n)).state.phase ≡ s.phase
    by None k more = refl
    by (Some r) k more = more r.state ∙ k

fill_end : (n : ℕ) (s : State) → (fill n s).end ≡ None
fill_end zero s = refl
fill_end (suc n) s = by (send_next s) (fill_end n)
  where
    by : (r : Option Ruled) → ((t : State) → (fill n t).end ≡ None) → (or_stays s r (fill n)).end ≡ None
    by None more = refl
    by (Some r) more = more r.state

fills : (s : State) → is_up s.phase ≡ true → UpUnless (fill_window s)
fills s up = ap is_up (fill_phase window s) ∙ (up ∙ sym (ap is_none (fill_end window s)))

either : (b : Bool) (x y : Ruled) → UpUnless x → UpUnless y → UpUnless (cond b x y)
either true x y p q = p
either false x y p q = q

answered : (s : State) (a : Answer) (says : Option (AnswerKind × List ℕ)) → (says_answer (changed_by s a) says).state.phase ≡ s.phase
answered s a None = refl
answered s a (Some says) = refl

module _ (s : State) (up : is_up s.phase ≡ true) where
  replied : (reply : RegisterReply) (octets : List ℕ) → UpUnless (take_reply s reply octets)
  replied reply octets = either (is_registered reply) (store_code s reply.code) (gives_up s [] (Denied octets)) refl refl

  registered : (p : Phase) (reply : RegisterReply) (octets : List ℕ) → UpUnless (on_register_reply p s reply octets)
  registered Down reply octets = up
  registered (Authenticating serial) reply octets = up
  registered (Live serial) reply octets = fills s up
  registered (Registering serial) reply octets = either (reply.reply == serial) (take_reply s reply octets) (stays s) (replied reply octets) up

  authenticated : (serial result : ℕ) (octets : List ℕ) → UpUnless (on_auth_response s serial result octets)
  authenticated serial result octets = either (result == 0) (fill_window (record s { phase = Live serial })) (forget_code s octets) (fills (record s { phase = Live serial }) refl) refl

  unit_answered : (units : List OneUnit) (ack : Acknowledgement) (octets : List ℕ) → UpUnless (on_unit_response s units ack octets)
  unit_answered [] ack octets = fills s up
  unit_answered (unit ∷ more) ack octets = either (nat_lt 0 s.sent && names ack unit) (cond (is_acceptance ack) (accept_oldest s unit more) (gives_up s [] (Denied octets))) (fill_window s)
      (either (is_acceptance ack) (accept_oldest s unit more) (gives_up s [] (Denied octets)) (fills (after_acceptance s unit more) up) refl) (fills s up)

  responded : (p : Phase) (ack : Acknowledgement) (octets : List ℕ) → UpUnless (on_response p s ack octets)
  responded Down ack octets = up
  responded (Registering serial) ack octets = up
  responded (Authenticating serial) ack octets = either ((ack.id == 0x0102) && (ack.reply == serial)) (on_auth_response s serial ack.result octets) (stays s) (authenticated serial ack.result octets) up
  responded (Live serial) ack octets = unit_answered s.units ack octets

  if_live : (p : Phase) (a : Answer) → UpUnless (answer_if_live p s a)
  if_live Down a = up
  if_live (Registering serial) a = up
  if_live (Authenticating serial) a = up
  if_live (Live serial) a = fills (answers s a).state (ap is_up (answered s a a.says) ∙ up)

  pub message_up : (h : Header) (m : Message) → UpUnless (on_message s h m)
  message_up h (message.PlatformAck reply id result) = responded s.phase (record { reply = reply; id = id; result = result }) (body_octets h.edition (message.PlatformAck reply id result))
  message_up h (message.RegisterReply reply) = registered s.phase reply (body_octets h.edition (message.RegisterReply reply))
  message_up h m = if_live s.phase (answer_to s h m)
