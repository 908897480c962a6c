-- What a message on a line stands for in the world of messages, and what it asks.
use Rattle.std.proofs.Common.{ℕ, ◌<◌, ◌≡◌, ◌≢◌, ◌⊎◌, List, [], ◌∷◌, ◌++◌, length, Option, Some, None, true, false, arith, refl, ap, sym, ◌∙◌, subst, inl, inr, Ok, Err}
use Rattle.std.proofs.lemmas.Bool.{cases_eq}
use Rattle.std.proofs.lemmas.List.{length_push, get_or_append_left}
use Rattle.jt_value.specs.Sameness.{key_of}
use Rattle.jt_value.specs.Serials.{serial_of}
use Rattle.jt_value.specs.declared.phone.Edition.{Edition}
use Rattle.jt_value.specs.declared.phone.Edition.TheVariants.{E2013, E2019}
use Rattle.jt_value.specs.declared.phone.Phone.{Phone}
use Rattle.jt_header.specs.Content.{IsHeader}
use Rattle.jt_header.specs.declared.header.Header.{Header}
use Rattle.jt_stream.specs.Unplaced.{Message as Frame}
use Rattle.jt_layout.specs.Layout.{◌>>=◌}
use Rattle.jt_position.specs.Positions.{position, batch}
use Rattle.jt_position.specs.declared.position.Position.{Position}
use Rattle.jt_position.specs.declared.batch.Batch.{Batch}
use Rattle.jt_codec.specs.Bodies.{body}
use Rattle.jt_codec.specs.declared.message.Message.{Message}
use Rattle.jt_codec.specs.declared.message.Message.TheVariants as message
use Rattle.jt_codec.proofs.BodyLaws.{made}
use Rattle.jt_subpacket.specs.Joining.{IsNamedByItsPackets}
use Rattle.jt_platform.specs.declared.request.Request.{Request}
use Rattle.jt_platform.specs.declared.request.Request.TheVariants as ask
use Rattle.jt_session.specs.Talk.{State, asks, is_own, request_of}
use Rattle.jt_session.specs.AnswerLaw.{IsOf, IsStateOf}
use Rattle.jt_session.specs.Law.{IsUnitId}
use Rattle.jt_delivery.proofs.Turning.{same_of}
use Rattle.jt_order.specs.Orders.{OrderOf, is_order_id}
use Rattle.jt_obeying.specs.Orders.{order_at}
use Rattle.jt_obeying.specs.World.{Up, Answer, OtherMessage, Down, OrderMessage, OtherAnswer}
use Rattle.jt_obeying.specs.World as messages
use Rattle.jt_obeying.specs.Steps.{IsRequest}
use Rattle.jt_order_turns.specs.Headers.{order_header}
use Rattle.jt_order_turns.specs.Turns.{IsResponse, NamesNoOrder, Carries}
use Rattle.jt_octets.proofs.Views.{Msg, IsMessage, item_of_msg}
use Rattle.jt_octets.proofs.Asking.{IsAsked, IsNamed, IsPlainRequest, asked_of, auth_asks, other_asks, named_by}

-- ---- from the terminal

-- the response to the order of a place, with this result
pub record IsResponseTo (issued : List OrderOf) (place result : ℕ) (m : Msg) : Type 0 where
  pub within : place < length issued
  pub response : IsResponse m.0 m.1 (serial_of place) (order_at issued place).id result

-- no deregistration, and no response that names an order
pub record IsOther (m : Msg) : Type 0 where
  pub none : NamesNoOrder (item_of_msg m)
  pub deregister : m.0.id ≢ 0x0003

abbrev pub UpTag : List ℕ → List OrderOf → Msg → Up → Type 0
UpTag key issued m (Answer place result) = (key_of m.0.phone ≡ key) × IsResponseTo issued place result m
UpTag key issued m OtherMessage = (key_of m.0.phone ≡ key) × IsOther m

-- the message is of the terminal's phone
pub tag_key : (key : List ℕ) (issued : List OrderOf) (m : Msg) (t : Up) → UpTag key issued m t → key_of m.0.phone ≡ key
tag_key key issued m (Answer place result) tag = tag.0
tag_key key issued m OtherMessage tag = tag.0

-- ---- from the session

-- the order of a place, on a session whose first frame had a header of this phone
pub record IsOrderOf (p : Phone) (issued : List OrderOf) (place : ℕ) (m : Msg) : Type 0 where
  pub within : place < length issued
  pub first : Header
  pub of_phone : first.phone ≡ p
  pub header : m.0 ≡ order_header first place (order_at issued place)
  pub octets : m.1 ≡ (order_at issued place).body

abbrev pub DownTag : Phone → List OrderOf → Msg → Down → Type 0
DownTag p issued m (OrderMessage place) = IsOrderOf p issued place m
DownTag p issued m OtherAnswer = is_order_id m.0.id ≡ false

-- ---- one more order is issued

order_kept : (issued : List OrderOf) (order : OrderOf) (place : ℕ) → place < length issued → order_at (issued ++ order ∷ []) place ≡ order_at issued place
order_kept issued order place lt = get_or_append_left issued (order ∷ []) (record { id = 0; body = [] }) place lt

pub up_grows : (key : List ℕ) (issued : List OrderOf) (order : OrderOf) (m : Msg) (t : Up) → UpTag key issued m t → UpTag key (issued ++ order ∷ []) m t
up_grows key issued order m OtherMessage h = h
up_grows key issued order m (Answer place result) h = (
  h.0,
  record {
    within = omega (arith, h.1.within, length_push issued order);
    response = subst (λ (o : OrderOf). IsResponse m.0 m.1 (serial_of place) o.id result) (sym (order_kept issued order place h.1.within)) h.1.response;
  },
)

pub down_grows : (p : Phone) (issued : List OrderOf) (order : OrderOf) (m : Msg) (t : Down) → DownTag p issued m t → DownTag p (issued ++ order ∷ []) m t
down_grows p issued order m OtherAnswer h = h
down_grows p issued order m (OrderMessage place) h = let same = sym (order_kept issued order place h.within) in record {
  within = omega (arith, h.within, length_push issued order);
  first = h.first;
  of_phone = h.of_phone;
  header = h.header ∙ ap (λ (o : OrderOf). order_header h.first place o) same;
  octets = h.octets ∙ ap (λ (o : OrderOf). o.body) same;
}

-- ---- what a message of the terminal asks

at_position : (edition : Edition) (octets : List ℕ) (m : Message) → (body edition 0x0200).read octets 0 ≡ Ok m → (x : Position) × (m ≡ message.Position x)
unfolding body
at_position E2013 octets m e = made message.Position (position.read octets 0) m e
at_position E2019 octets m e = made message.Position (position.read octets 0) m e

at_batch : (edition : Edition) (octets : List ℕ) (m : Message) → (body edition 0x0704).read octets 0 ≡ Ok m → (x : Batch) × (m ≡ message.Batch x)
unfolding body
at_batch E2013 octets m e = made message.Batch (batch.read octets 0) m e
at_batch E2019 octets m e = made message.Batch (batch.read octets 0) m e

-- a message that is no deregistration asks nothing, or what another message may ask
module _ (law : IsNamedByItsPackets) (key : List ℕ) (s : State) (h : Header) (octets : List ℕ) (q : Request) (good : IsHeader h) (same : key_of h.phone ≡ key) (e : asks s (Frame h octets) ≡ Some q) where
  a : IsAsked s h octets q
  a = asked_of s h octets q e

  n : IsNamed h a.m
  n = named_by law s h octets h.packet a.m good refl a.brought

  auth_request : h.id ≡ 0x0102 → IsRequest key OtherMessage q
  auth_request is = let x = auth_asks law s h octets q good is e in subst (IsRequest key OtherMessage) (sym x.1) same

  position_request : h.id ≡ 0x0200 → IsRequest key OtherMessage q
  position_request is =
      let x = at_position a.m.0.edition a.m.1 a.read (subst (λ (k : ℕ). (body a.m.0.edition k).read a.m.1 0 ≡ Ok a.read) (n.id ∙ is) a.reads) in
      subst (IsRequest key OtherMessage) (sym (ap (request_of a.m.0 a.m.1) x.1) ∙ a.request) (ap key_of n.phone ∙ same)

  batch_request : h.id ≡ 0x0704 → IsRequest key OtherMessage q
  batch_request is =
      let x = at_batch a.m.0.edition a.m.1 a.read (subst (λ (k : ℕ). (body a.m.0.edition k).read a.m.1 0 ≡ Ok a.read) (n.id ∙ is) a.reads) in
      subst (IsRequest key OtherMessage) (sym (ap (request_of a.m.0 a.m.1) x.1) ∙ a.request) (ap key_of n.phone ∙ same)

  plain_request : (q : Request) → IsPlainRequest h q → IsRequest key OtherMessage q
  plain_request (ask.Register phone register) own = ap key_of own ∙ same
  plain_request (ask.Other phone id) own = ap key_of own ∙ same
  plain_request (ask.Auth phone code) own = absurd own
  plain_request (ask.Unit phone serial id body) own = absurd own
  plain_request (ask.Deregister phone) own = absurd own
  plain_request ask.Close own = absurd own

  pub other_request : h.id ≢ 0x0003 → IsRequest key OtherMessage q
  other_request deregister = first (cases_eq h.id 0x0102)
    where
      third : h.id ≢ 0x0102 → h.id ≢ 0x0200 → (h.id ≡ 0x0704) ⊎ (h.id ≢ 0x0704) → IsRequest key OtherMessage q
      third a b (inl is) = batch_request is
      third a b (inr c) = plain_request q (other_asks law s h octets q good (record { auth = a; deregister = deregister; unit = no_unit }) e)
        where
          no_unit : IsUnitId h.id → ⊥
          no_unit (inl is) = b is
          no_unit (inr is) = c is

      second : h.id ≢ 0x0102 → (h.id ≡ 0x0200) ⊎ (h.id ≢ 0x0200) → IsRequest key OtherMessage q
      second a (inl is) = position_request is
      second a (inr b) = third a b (cases_eq h.id 0x0704)

      first : (h.id ≡ 0x0102) ⊎ (h.id ≢ 0x0102) → IsRequest key OtherMessage q
      first (inl is) = auth_request is
      first (inr a) = second a (cases_eq h.id 0x0200)

-- ---- a message of the terminal is one of the world of messages

own_of : (key : List ℕ) (o : Option Phone) (phone : Phone) → IsOf key o → key_of phone ≡ key → is_own o phone ≡ true
own_of key None phone is e = refl
own_of key (Some own) phone is e = same_of (key_of own) (key_of phone) (is ∙ sym e)

pub carries : IsNamedByItsPackets → (w : messages.OrderWorld) (s : State) (m : Msg) (t : Up) → IsMessage m → IsStateOf w.key s → UpTag w.key w.issued m t → Carries w s t (item_of_msg m)
carries law w s m (Answer place result) is fine tag = record { own = own_of w.key s.phone m.0.phone fine.phone tag.0; key = tag.0; response = tag.1.response }
carries law w s m OtherMessage is fine tag = (tag.1.none, λ q e. other_request law w.key s m.0 m.1 q is.header tag.0 e tag.1.deregister)
