-- Without a line nothing that comes on one changes anything, and a line that is given up leaves none.
use Rattle.std.proofs.Common.{◌≡◌, ℕ, zero, suc, List, [], ◌∷◌, ◌++◌, Option, Some, None, Bool, true, false, cond, Result, Ok, Err, IsOk, OnErr, refl, sym, ap, ◌∙◌, subst}
use Rattle.std.specs.Prelude.{◌==◌, ◌&&◌, nat_lt, IfOk, IsSome}
use Rattle.std.specs.Option.{option_to_list}
use Rattle.std.proofs.lemmas.List.{append-nil}
use Rattle.jt_escape.specs.Scan.{State as Splitting}
use Rattle.jt_header.specs.declared.header.Header.{Header}
use Rattle.jt_register.specs.declared.reply.RegisterReply.{RegisterReply}
use Rattle.jt_codec.specs.Bodies.{body_octets}
use Rattle.jt_codec.specs.declared.message.Message.{Message}
use Rattle.jt_codec.specs.declared.message.Message.TheVariants as message
use Rattle.jt_stream.specs.Unplaced.{Unplaced}
use Rattle.jt_store.specs.declared.unit.Unit.{Unit as OneUnit}
use Rattle.jt_store.specs.Vaults.{Held, Sets}
use Rattle.jt_subpacket.specs.Partials.{Partial}
use Rattle.jt_terminal_rule.specs.declared.state.Acknowledgement.{Acknowledgement}
use Rattle.jt_terminal_rule.specs.declared.state.GiveUp.{GiveUp}
use Rattle.jt_terminal_rule.specs.declared.state.GiveUp.TheVariants.{Denied}
use Rattle.jt_terminal_rule.specs.declared.state.Phase.{Phase}
use Rattle.jt_terminal_rule.specs.declared.state.Phase.TheVariants.{Down, Registering, Authenticating, Live}
use Rattle.jt_terminal_rule.specs.declared.state.State.{State}
use Rattle.jt_terminal_rule.specs.Answers.{Answer, answer_to, answer_to_lack, answer_to_refused}
use Rattle.jt_terminal_rule.specs.Law.{response_heard}
use Rattle.jt_terminal_rule.specs.Messages.{is_acceptance}
use Rattle.jt_terminal_rule.specs.Rule.{Heard, Whole, Refused, Lacks, TooMany, Ruled, Step, after_acceptance, accept_oldest, and_then, on_unit_response, answers, answer_if_live, on_auth_response, store_code, down, fill, fill_window, first_named, forget_code, gives_up, on_hearing, is_registered, names, send_next, or_stays, on_message, on_register_reply, take_reply, on_response, stays, named_place, window}
use Rattle.jt_terminal_rule.specs.Rule as rule
use Rattle.jt_terminal_steps.specs.Running.{CutShort, IsDown, Ran, holds_after}
use Rattle.jt_terminal.specs.Feeding.{HasFed, HasFedFront, Scene, WasCut, scene}
use Rattle.jt_terminal.specs.Line.{rule_at_items, then_unless_over, then_unless, rule_at, kept_by, more_unless, of_item, places_at_items, place_at}

-- ---- without a line

received_down : (s : State) (h : Header) (m : Message) → s.phase ≡ Down → on_message s h m ≡ stays s
received_down s h (message.PlatformAck reply id result) is =
    ap (λ (p : Phase). on_response p s (record { reply = reply; id = id; result = result }) (body_octets h.edition (message.PlatformAck reply id result))) is
received_down s h (message.RegisterReply reply) is = ap (λ (p : Phase). on_register_reply p s reply (body_octets h.edition (message.RegisterReply reply))) is
received_down s h m is = ap (λ (p : Phase). answer_if_live p s (answer_to s h m)) is

heard_down : (s : State) (x : Heard) → s.phase ≡ Down → on_hearing s x ≡ stays s
heard_down s (Whole h m) is = received_down s h m is
heard_down s (Refused h) is = ap (λ (p : Phase). answer_if_live p s (answer_to_refused s h)) is
heard_down s (Lacks h first numbers) is = ap (λ (p : Phase). answer_if_live p s (answer_to_lack s s.settings.phone.edition first numbers)) is
heard_down s (TooMany h) is = ap (λ (p : Phase). answer_if_live p s (answer_to_refused s h)) is

hears_down : (s : State) (x : Option Heard) → s.phase ≡ Down → rule_at s x ≡ stays s
hears_down s None is = refl
hears_down s (Some x) is = heard_down s x is

fed_down : (s : State) (partial : List Partial) (items : List Unplaced) → s.phase ≡ Down → rule_at_items s partial items ≡ stays s
fed_down s partial [] is = refl
fed_down s partial (item ∷ items) is =
    ap (λ (r : Ruled). then_unless_over r (λ t. rule_at_items t (kept_by partial item) items)) (hears_down s (of_item partial item) is) ∙ fed_down s (kept_by partial item) items is

-- no unit was sent on a line that is not there, so that no acceptance is told
told_down : (s : State) (ack : Option Acknowledgement) → s.sent ≡ 0 → named_place s ack ≡ None
told_down s None none = refl
told_down s (Some ack) none = by (is_acceptance ack)
  where
    by : (b : Bool) → cond b (first_named ack s.sent s.units) None ≡ None
    by true = ap (λ (n : ℕ). first_named ack n s.units) none
    by false = refl

one_down : (s : State) (x : Option Heard) → s.sent ≡ 0 → place_at s x ≡ None
one_down s None none = refl
one_down s (Some x) none = told_down s (response_heard x) none

items_down : (s : State) (partial : List Partial) (items : List Unplaced) → IsDown s → places_at_items s partial items ≡ []
items_down s partial [] is = refl
items_down s partial (item ∷ items) is =
    let x = of_item partial item in
    ap (λ (o : Option ℕ). option_to_list o ++ more_unless (rule_at s x).end (places_at_items (rule_at s x).state (kept_by partial item) items)) (one_down s x is.sent)
    ∙ (ap (λ (r : Ruled). more_unless r.end (places_at_items r.state (kept_by partial item) items)) (hears_down s x is.phase)
    ∙ items_down s (kept_by partial item) items is)

nothing_done : (done left : List Step) (held : Option Held) → [] ≡ done ++ left → holds_after done held ≡ held
nothing_done [] left held e = refl
nothing_done (x ∷ done) left held e = absurd cc

nothing_cut : (r : Ruled) (s : State) (old now : Option Held) → r ≡ stays s → CutShort r.steps old now → now ≡ old
nothing_cut r s old now is cut = cut.held ∙ nothing_done cut.done cut.left old (sym (ap (λ (x : Ruled). x.steps) is) ∙ cut.parts)

-- a state without a line is what the loss of one leaves of it
down_again : (s : State) → IsDown s → down s ≡ s
down_again s is = λ i. record s { phase = sym is.phase i; sent = sym is.sent i }

pub lost_again : (s mid now : State) → now ≡ down mid → (IsDown s → mid ≡ s) → IsDown s → now ≡ s
lost_again s mid now is same no_line = is ∙ (ap down (same no_line) ∙ down_again s no_line)

-- ---- a line that is given up

abbrev EndsDown : Ruled → Type 0
EndsDown r = (cause : GiveUp) → r.end ≡ Some cause → IsDown r.state

no_end : {P : Type 0} (e : Option GiveUp) (cause : GiveUp) → e ≡ None → e ≡ Some cause → P
no_end None cause none is = absurd cc
no_end (Some other) cause none is = absurd cc

goes_on_well : (r : Ruled) → r.end ≡ None → EndsDown r
goes_on_well r none cause is = no_end r.end cause none is

given_up : (s : State) (steps : List Step) (why : GiveUp) → EndsDown (gives_up s steps why)
given_up s steps why cause is = record { phase = refl; sent = refl }

fill_end : (n : ℕ) (s : State) → (fill n s).end ≡ None
fill_end zero s = refl
fill_end (suc n) s = by (send_next s) (λ t. fill_end n t)
  where
    by : (r : Option Ruled) → ((t : State) → (fill n t).end ≡ None) → (or_stays s r (fill n)).end ≡ None
    by None rest = refl
    by (Some r) rest = rest r.state

fills_well : (s : State) → EndsDown (fill_window s)
fills_well s = goes_on_well (fill_window s) (fill_end window s)

module _ (s : State) where
  ends_replied : (reply : RegisterReply) (octets : List ℕ) → EndsDown (take_reply s reply octets)
  ends_replied reply octets = by (is_registered reply)
    where
      by : (b : Bool) → EndsDown (cond b (store_code s reply.code) (gives_up s [] (Denied octets)))
      by true = goes_on_well (store_code s reply.code) refl
      by false = given_up s [] (Denied octets)

  ends_registered : (p : Phase) (reply : RegisterReply) (octets : List ℕ) → EndsDown (on_register_reply p s reply octets)
  ends_registered Down reply octets = goes_on_well (stays s) refl
  ends_registered (Authenticating serial) reply octets = goes_on_well (stays s) refl
  ends_registered (Live serial) reply octets = fills_well s
  ends_registered (Registering serial) reply octets = by (reply.reply == serial)
    where
      by : (b : Bool) → EndsDown (cond b (take_reply s reply octets) (stays s))
      by true = ends_replied reply octets
      by false = goes_on_well (stays s) refl

  ends_authenticated : (serial result : ℕ) (octets : List ℕ) → EndsDown (on_auth_response s serial result octets)
  ends_authenticated serial result octets = by (result == 0)
    where
      by : (b : Bool) → EndsDown (cond b (fill_window (record s { phase = Live serial })) (forget_code s octets))
      by true = fills_well (record s { phase = Live serial })
      by false = given_up (record s { code = None }) (rule.Changes (Sets None) ∷ []) (Denied octets)

  ends_answered : (units : List OneUnit) (ack : Acknowledgement) (octets : List ℕ) → EndsDown (on_unit_response s units ack octets)
  ends_answered [] ack octets = fills_well s
  ends_answered (u ∷ more) ack octets = by (nat_lt 0 s.sent && names ack u)
    where
      accepts_or_not : (b : Bool) → EndsDown (cond b (accept_oldest s u more) (gives_up s [] (Denied octets)))
      accepts_or_not true = goes_on_well (accept_oldest s u more) (fill_end window (after_acceptance s u more))
      accepts_or_not false = given_up s [] (Denied octets)

      by : (b : Bool) → EndsDown (cond b (cond (is_acceptance ack) (accept_oldest s u more) (gives_up s [] (Denied octets))) (fill_window s))
      by true = accepts_or_not (is_acceptance ack)
      by false = fills_well s

  ends_responded : (p : Phase) (ack : Acknowledgement) (octets : List ℕ) → EndsDown (on_response p s ack octets)
  ends_responded Down ack octets = goes_on_well (stays s) refl
  ends_responded (Registering serial) ack octets = goes_on_well (stays s) refl
  ends_responded (Authenticating serial) ack octets = by ((ack.id == 0x0102) && (ack.reply == serial))
    where
      by : (b : Bool) → EndsDown (cond b (on_auth_response s serial ack.result octets) (stays s))
      by true = ends_authenticated serial ack.result octets
      by false = goes_on_well (stays s) refl
  ends_responded (Live serial) ack octets = ends_answered s.units ack octets

  ends_if_live : (p : Phase) (a : Answer) → EndsDown (answer_if_live p s a)
  ends_if_live Down a = goes_on_well (stays s) refl
  ends_if_live (Registering serial) a = goes_on_well (stays s) refl
  ends_if_live (Authenticating serial) a = goes_on_well (stays s) refl
  ends_if_live (Live serial) a = goes_on_well (and_then (answers s a) fill_window) (fill_end window (answers s a).state)

  ends_received : (h : Header) (m : Message) → EndsDown (on_message s h m)
  ends_received h (message.PlatformAck reply id result) = ends_responded s.phase (record { reply = reply; id = id; result = result }) (body_octets h.edition (message.PlatformAck reply id result))
  ends_received h (message.RegisterReply reply) = ends_registered s.phase reply (body_octets h.edition (message.RegisterReply reply))
  ends_received h m = ends_if_live s.phase (answer_to s h m)

  ends_heard : (x : Heard) → EndsDown (on_hearing s x)
  ends_heard (Whole h m) = ends_received h m
  ends_heard (Refused h) = ends_if_live s.phase (answer_to_refused s h)
  ends_heard (Lacks h first numbers) = ends_if_live s.phase (answer_to_lack s s.settings.phone.edition first numbers)
  ends_heard (TooMany h) = ends_if_live s.phase (answer_to_refused s h)

  ends_hears : (x : Option Heard) → EndsDown (rule_at s x)
  ends_hears None = goes_on_well (stays s) refl
  ends_hears (Some x) = ends_heard x

ends_fed : (s : State) (partial : List Partial) (items : List Unplaced) → EndsDown (rule_at_items s partial items)
ends_fed s partial [] = goes_on_well (stays s) refl
ends_fed s partial (item ∷ items) = by (rule_at s (of_item partial item)) (ends_hears s (of_item partial item)) (λ t. ends_fed t (kept_by partial item) items)
  where
    by_end : (r : Ruled) (e : Option GiveUp) → EndsDown r → ((t : State) → EndsDown (rule_at_items t (kept_by partial item) items)) → EndsDown (then_unless e r (λ t. rule_at_items t (kept_by partial item) items))
    by_end r None own rest = rest r.state
    by_end r (Some cause) own rest = own

    by : (r : Ruled) → EndsDown r → ((t : State) → EndsDown (rule_at_items t (kept_by partial item) items)) → EndsDown (then_unless r.end r (λ t. rule_at_items t (kept_by partial item) items))
    by r own rest = by_end r r.end own rest

-- ---- octets that were fed

module _ (old now : Scene) (octets : List ℕ) (end : Option GiveUp) (f : HasFed old now octets end) where
  ended : (e : Option GiveUp) → end ≡ e → IsSome e → IsDown now.state
  ended None is none = absurd cc
  ended (Some cause) is given = subst IsDown (sym f.ran.is_state) (ends_fed old.state old.partial f.gone cause (sym f.ran.is_end ∙ is))

  pub gave_up : IsSome end → IsDown now.state
  gave_up = ended end refl

module _ (old now : Scene) (octets : List ℕ) (end : Option GiveUp) (f : HasFed old now octets end) (is : IsDown old.state) where
  ran_nothing : Ran old.state.settings (stays old.state) now.state old.held now.held old.out now.out end
  ran_nothing = subst (λ (r : Ruled). Ran old.state.settings r now.state old.held now.held old.out now.out end) (fed_down old.state old.partial f.gone is.phase) f.ran

  pub nothing_moved : (now.state ≡ old.state) × (now.held ≡ old.held)
  nothing_moved = (ran_nothing.is_state, ran_nothing.held)

  pub nothing_said : (now.out ≡ old.out) × (end ≡ None) × (now.told ≡ old.told)
  nothing_said = (
    ran_nothing.out ∙ append-nil old.out,
    ran_nothing.is_end,
    f.told ∙ (ap (λ (l : List ℕ). old.told ++ l) (items_down old.state old.partial f.gone is) ∙ append-nil old.told),
  )

-- nor does an error move anything
pub moved_nothing : {T E : Type 0} (old : Scene) (stream : Splitting) (partial : List Partial) (now : State) (held : Option Held) (octets : List ℕ) (r : Result T E) (out : T → List (List ℕ)) (named_place : T → List ℕ) (end : T → Option GiveUp)
    → IfOk r (λ x. HasFedFront old (scene stream partial now held (out x) (named_place x)) octets (end x)) → OnErr r (WasCut old stream now held octets) → OnErr r (IsDown old.state → now ≡ old.state) → IsDown old.state
    → (now ≡ old.state) × (held ≡ old.held)
moved_nothing old stream partial now held octets (Ok x) out named_place end did cut same is = nothing_moved old (scene stream partial now held (out x) (named_place x)) did.front (end x) did.fed is
moved_nothing old stream partial now held octets (Err e) out named_place end did cut same is =
    (same is, nothing_cut (rule_at_items old.state old.partial cut.gone) old.state old.held held (fed_down old.state old.partial cut.gone is.phase) cut.cut)

unequal : {P : Type 0} → false ≡ true → P
unequal e = absurd cc

-- a call that does not fail without a line
pub never_fails : {T E : Type 0} (P : Type 0) (r : Result T E) (s : State) → (s.phase ≡ Down → IsOk r) → OnErr r (IsDown s → P)
never_fails P (Ok x) s quiet = tt
never_fails P (Err e) s quiet = λ is. unequal (quiet is.phase)
