-- What messages may ask.
use Rattle.std.proofs.Common.{◌≡◌, ◌≢◌, ℕ, List, [], Bool, true, false, if◌then◌else◌, Option, None, Some, Result, Ok, Err, inl, inr, refl, sym, ap, ◌∙◌, subst}
use Rattle.std.proofs.lemmas.Bool.{false≢true}
use Rattle.std.proofs.lemmas.Slice.Eq.{bytes_eq-Decides}
use Rattle.jt_value.specs.Octets.{AreOctets}
use Rattle.jt_value.specs.Sameness.{key_of}
use Rattle.jt_value.specs.declared.phone.Edition.{Edition}
use Rattle.jt_value.specs.declared.phone.Edition.TheVariants.{E2013, E2019}
use Rattle.jt_value.specs.declared.phone.Phone.{Phone}
use Rattle.jt_value.specs.declared.refusal.Refusal.{Refusal}
use Rattle.jt_header.specs.Content.{IsHeader, IsPacket}
use Rattle.jt_header.specs.declared.header.Header.{Header}
use Rattle.jt_header.specs.declared.header.Packet.{Packet}
use Rattle.jt_stream.specs.Unplaced.{Message as Frame}
use Rattle.jt_layout.specs.Layout.{◌>>=◌, empty}
use Rattle.jt_position.specs.Positions.{position, batch}
use Rattle.jt_position.specs.Fixes.{fixes_of, of_position, of_batch}
use Rattle.jt_position.specs.declared.position.Position.{Position}
use Rattle.jt_position.specs.declared.batch.Batch.{Batch}
use Rattle.jt_register.specs.Registration.{auth, register}
use Rattle.jt_register.specs.declared.auth.Auth.{Auth}
use Rattle.jt_register.specs.declared.register.Register.{Register}
use Rattle.jt_codec.specs.Bodies.{body, id_of}
use Rattle.jt_codec.specs.Law.{AreOneToOne, AreUnderTheirIds}
use Rattle.jt_codec.specs.declared.message.Message.{Message}
use Rattle.jt_codec.specs.declared.message.Message.TheVariants as message
use Rattle.jt_codec.proofs.BodyLaws.{made}
use Rattle.jt_subpacket.specs.Fates.{taken_by}
use Rattle.jt_subpacket.specs.Joining.{IsNamedByItsPackets}
use Rattle.jt_subpacket.specs.declared.taken.Fate.{Fate}
use Rattle.jt_subpacket.specs.declared.taken.Fate.TheVariants.{TooMany, Whole, Resend, Repeat, Kept}
use Rattle.jt_platform.specs.declared.request.Request.{Request}
use Rattle.jt_platform.specs.declared.request.Request.TheVariants as ask
use Rattle.jt_session.specs.Talk.{State, asks, asked_by, is_own, message_of, request_of, request_read, whole_of}
use Rattle.jt_session.specs.Law.{IsUnitId}
use Rattle.jt_session.specs.AnswerLaw.{IsOf, IsOtherId, MayAsk, RequestsAre}

-- ---- the table at the ids that ask something of their own

pub at_register : (edition : Edition) (octets : List ℕ) (m : Message) → (body edition 0x0100).read octets 0 ≡ Ok m → (x : Register) × (m ≡ message.Register x)
unfolding body
at_register E2013 octets m e = made message.Register ((register E2013).read octets 0) m e
at_register E2019 octets m e = made message.Register ((register E2019).read octets 0) m e

pub at_auth : (edition : Edition) (octets : List ℕ) (m : Message) → (body edition 0x0102).read octets 0 ≡ Ok m → (x : Auth) × (m ≡ message.Auth x)
unfolding body
at_auth E2013 octets m e = made message.Auth ((auth E2013).read octets 0) m e
at_auth E2019 octets m e = made message.Auth ((auth E2019).read octets 0) m e

at_deregister : (edition : Edition) (octets : List ℕ) (m : Message) → (body edition 0x0003).read octets 0 ≡ Ok m → (x : Unit {0}) × (m ≡ message.Deregister)
unfolding body
at_deregister E2013 octets m e = made (λ _. message.Deregister) (empty.read octets 0) m e
at_deregister E2019 octets m e = made (λ _. message.Deregister) (empty.read octets 0) m e

at_position : (edition : Edition) (octets : List ℕ) → (body edition 0x0200).read octets 0 ≡ (position.read octets 0 >>= λ x. Ok (message.Position x))
unfolding body
at_position E2013 octets = refl
at_position E2019 octets = refl

at_batch : (edition : Edition) (octets : List ℕ) → (body edition 0x0704).read octets 0 ≡ (batch.read octets 0 >>= λ x. Ok (message.Batch x))
unfolding body
at_batch E2013 octets = refl
at_batch E2019 octets = refl

-- a message that asks nothing of its own
abbrev pub is_plain : Message → Bool
is_plain (message.Register x) = false
is_plain (message.Auth x) = false
is_plain message.Deregister = false
is_plain (message.Position x) = false
is_plain (message.Batch x) = false
is_plain other = true

not_plain : (m other : Message) → m ≡ other → is_plain m ≡ true → is_plain other ≡ false → ⊥
not_plain m other same plain none = false≢true (sym none ∙ (ap is_plain (sym same) ∙ plain))

other_id : (edition : Edition) (id : ℕ) (octets : List ℕ) (m : Message) → (body edition id).read octets 0 ≡ Ok m → is_plain m ≡ true → IsOtherId id
other_id edition id octets m e plain = record {
  register = λ is. let found = at_register edition octets m (subst (λ n. (body edition n).read octets 0 ≡ Ok m) is e) in not_plain m (message.Register found.0) found.1 plain refl;
  auth = λ is. let found = at_auth edition octets m (subst (λ n. (body edition n).read octets 0 ≡ Ok m) is e) in not_plain m (message.Auth found.0) found.1 plain refl;
  deregister = λ is. let found = at_deregister edition octets m (subst (λ n. (body edition n).read octets 0 ≡ Ok m) is e) in not_plain m message.Deregister found.1 plain refl;
  unit = no_unit;
}
  where
    no_unit : IsUnitId id → ⊥
    no_unit (inl is) = let found = made message.Position (position.read octets 0) m (sym (at_position edition octets) ∙ subst (λ n. (body edition n).read octets 0 ≡ Ok m) is e) in not_plain m (message.Position found.0) found.1 plain refl
    no_unit (inr is) = let found = made message.Batch (batch.read octets 0) m (sym (at_batch edition octets) ∙ subst (λ n. (body edition n).read octets 0 ≡ Ok m) is e) in not_plain m (message.Batch found.0) found.1 plain refl

pub some_is : (a b : ℕ) → ◌≡◌ {A = Option ℕ} (Some a) (Some b) → b ≡ a
some_is a b e = cc

may_read : (h : Header) (octets : List ℕ) (m : Message) → id_of m ≡ Some h.id → (body h.edition h.id).read octets 0 ≡ Ok m → MayAsk h.phone h.id (request_of h octets m)
may_read h octets (message.Register x) id e = (refl, some_is 0x0100 h.id id)
may_read h octets (message.Auth x) id e = (refl, some_is 0x0102 h.id id)
may_read h octets message.Deregister id e = (refl, some_is 0x0003 h.id id)
may_read h octets (message.Position x) id e = (refl, refl, inl (some_is 0x0200 h.id id))
may_read h octets (message.Batch x) id e = (refl, refl, inr (some_is 0x0704 h.id id))
may_read h octets other id e = (refl, refl, other_id h.edition h.id octets other e refl)

module _ (one : AreOneToOne) (under : AreUnderTheirIds) where
  may_asked : (m : Header × List ℕ) (r : Result Message Refusal) (q : Request) → (body m.0.edition m.0.id).read m.1 0 ≡ r → AreOctets m.1 → request_read m r ≡ Some q → MayAsk m.0.phone m.0.id q
  may_asked m (Ok read) q e are asked =
      let id : id_of read ≡ Some m.0.id = under m.0.edition m.0.id read (((one m.0.edition m.0.id).reads_value m.1 read are).0 e).fits in
      let same : request_of m.0 m.1 read ≡ q = cc in
      subst (MayAsk m.0.phone m.0.id) same (may_read m.0 m.1 read id e)
  may_asked m (Err refusal) q e are asked = absurd cc

-- ---- the message that a frame brings

pub whole_named : (h : Header) (fate : Fate) (m : Header × List ℕ) → whole_of h fate ≡ Some m → (id : ℕ) × (serial : ℕ) × (octets : List ℕ) × (fate ≡ Whole id serial octets) × (m ≡ (record h { id = id; serial = serial; packet = None }, octets))
whole_named h (Whole id serial octets) m e = (id, serial, octets, refl, cc)
whole_named h (TooMany total) m e = absurd cc
whole_named h (Resend first missing) m e = absurd cc
whole_named h Repeat m e = absurd cc
whole_named h Kept m e = absurd cc

-- it has the frame's phone and id
named_by : IsNamedByItsPackets → (s : State) (h : Header) (octets : List ℕ) (packet : Option Packet) (m : Header × List ℕ) → IsHeader h → h.packet ≡ packet → message_of s h octets packet ≡ Some m → (m.0.phone ≡ h.phone) × (m.0.id ≡ h.id)
named_by law s h octets None m good is e =
    let same : ◌≡◌ {A = Header × List ℕ} (h, octets) m = cc in (ap (λ x. x.0.phone) (sym same), ap (λ x. x.0.id) (sym same))
named_by law s h octets (Some packet) m good is e =
    let whole = whole_named h (taken_by s.partial h octets).fate m e in
    let fields : IsPacket (Some packet) = subst IsPacket is good.packet in
    let named = law s.partial h octets whole.2 whole.0 whole.1 good.serial (rw is fields.0) packet is fields.1 whole.3 in
    (ap (λ x. x.0.phone) whole.4, ap (λ x. x.0.id) whole.4 ∙ named.0)

pub own_asks : (own : Bool) (m : Option (Header × List ℕ)) (q : Request) → (if own then asked_by m else None) ≡ Some q → asked_by m ≡ Some q
own_asks true m q e = e
own_asks false m q e = absurd cc

may_ask : AreOneToOne → AreUnderTheirIds → IsNamedByItsPackets → (s : State) (h : Header) (octets : List ℕ) (m : Header × List ℕ) (q : Request) → IsHeader h → message_of s h octets h.packet ≡ Some m → AreOctets m.1 → asks s (Frame h octets) ≡ Some q → MayAsk h.phone h.id q
may_ask one under law s h octets m q good brings are asked =
    let named = named_by law s h octets h.packet m good refl brings in
    let by_message : asked_by (Some m) ≡ Some q = ap asked_by (sym brings) ∙ own_asks (is_own s.phone h.phone) (message_of s h octets h.packet) q asked in
    subst (λ id. MayAsk h.phone id q) named.1 (subst (λ phone. MayAsk phone m.0.id q) named.0 (may_asked one under m ((body m.0.edition m.0.id).read m.1 0) q refl are by_message))

-- ---- units

is_of : (s : State) (phone : Phone) → IsOf (key_of phone) s.phone → is_own s.phone phone ≡ true
is_of s phone of = of_some s.phone of
  where
    of_some : (o : Option Phone) → IsOf (key_of phone) o → is_own o phone ≡ true
    of_some None of = refl
    of_some (Some own) of = (bytes_eq-Decides (key_of own) (key_of phone)).1 of

position_read : (octets : List ℕ) (r : Result Position Refusal) → of_position octets r ≢ [] → (x : Position) × (r ≡ Ok x)
position_read octets (Ok x) some = (x, refl)
position_read octets (Err r) some = absurd (some refl)

batch_read : (r : Result Batch Refusal) → of_batch r ≢ [] → (x : Batch) × (r ≡ Ok x)
batch_read (Ok x) some = (x, refl)
batch_read (Err r) some = absurd (some refl)

unit_read : (h : Header) (octets : List ℕ) → IsUnitId h.id → fixes_of (h.id, octets) ≢ [] → request_read (h, octets) ((body h.edition h.id).read octets 0) ≡ Some (ask.Unit h.phone h.serial h.id octets)
unit_read h octets (inl is) some =
    let found = position_read octets (position.read octets 0) (subst (λ id. fixes_of (id, octets) ≢ []) is some) in
    ap (λ id. request_read (h, octets) ((body h.edition id).read octets 0)) is ∙ (ap (request_read (h, octets)) (at_position h.edition octets) ∙ ap (λ r. request_read (h, octets) (r >>= λ x. Ok (message.Position x))) found.1)
unit_read h octets (inr is) some =
    let found = batch_read (batch.read octets 0) (subst (λ id. fixes_of (id, octets) ≢ []) is some) in
    ap (λ id. request_read (h, octets) ((body h.edition id).read octets 0)) is ∙ (ap (request_read (h, octets)) (at_batch h.edition octets) ∙ ap (λ r. request_read (h, octets) (r >>= λ x. Ok (message.Batch x))) found.1)

unit_asks : (s : State) (h : Header) (octets : List ℕ) → IsOf (key_of h.phone) s.phone → h.packet ≡ None → IsUnitId h.id → fixes_of (h.id, octets) ≢ [] → asks s (Frame h octets) ≡ Some (ask.Unit h.phone h.serial h.id octets)
unit_asks s h octets of whole unit some =
    ap (λ own. if own then asked_by (message_of s h octets h.packet) else None) (is_of s h.phone of)
    ∙ (ap (λ packet. asked_by (message_of s h octets packet)) whole ∙ unit_read h octets unit some)

pub requests_are : AreOneToOne → AreUnderTheirIds → IsNamedByItsPackets → RequestsAre
requests_are one under law = record { may = may_ask one under law; unit = unit_asks }
