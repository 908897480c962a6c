-- A session writes no order by itself, and each of its turns is an event; and of which frames the book is told.
use Rattle.std.proofs.Common.{ℕ, ◌+◌, ◌<◌, ◌≡◌, ◌==◌, ◌^◌, List, [], ◌++◌, arith, refl, ap, sym, ◌∙◌, subst, Bool, true, false, if◌then◌else◌, Option, Some, None, Result, Ok, zero, suc}
use Rattle.std.specs.Prelude.{◌↔◌, length}
use Rattle.std.specs.Int.{w8, w16, to_be_bytes}
use Rattle.std.proofs.lemmas.Bool.{false≢true}
use Rattle.jt_value.proofs.OctetLists.{AreOctets-append, AreOctets-word}
use Rattle.jt_value.specs.Octets.{AreOctets}
use Rattle.jt_value.specs.Serials.{serial_of}
use Rattle.jt_value.specs.declared.ids.TheConstants.{REGISTER, TERMINAL_ACK}
use Rattle.jt_value.specs.declared.phone.Edition.{Edition}
use Rattle.jt_value.specs.declared.refusal.Refusal.{Refusal}
use Rattle.jt_header.specs.declared.header.Header.{Header}
use Rattle.jt_header.specs.declared.header.Packet.{Packet}
use Rattle.jt_stream.specs.Unplaced.{Unplaced, Message as Frame, Fault}
use Rattle.jt_codec.specs.Bodies.{body, body_octets}
use Rattle.jt_codec.specs.Law.{AreOneToOne, AckOctets, ack_octets}
use Rattle.jt_codec.specs.declared.message.Message.{Message}
use Rattle.jt_codec.specs.declared.message.Message.TheVariants.{TerminalAck}
use Rattle.jt_subpacket.specs.Fates.{taken_by}
use Rattle.jt_subpacket.specs.declared.taken.Fate.{Fate}
use Rattle.jt_subpacket.specs.declared.taken.Fate.TheVariants.{TooMany, Whole, Resend, Repeat, Kept}
use Rattle.jt_platform.specs.declared.request.Request.{Request}
use Rattle.jt_platform.specs.declared.request.Request.TheVariants as ask
use Rattle.jt_platform.specs.declared.request.Reply.{Reply}
use Rattle.jt_platform.specs.declared.request.Reply.TheVariants as say
use Rattle.jt_session.specs.Talk.{State, Way, Goes, Stops, asks, is_own, is_answer, message_of, accepted_result, register_reply, ack, answer_to, answers, answers_packet, turn_without_request, own_turn_without_request, turn_at_reply, reads_on, IsReplied, saying}
use Rattle.jt_order.specs.Orders.{is_order_id}
use Rattle.jt_obeying.specs.Orders.{order_at}
use Rattle.jt_obeying.specs.World.{Up, Answer, OtherMessage, Down, OrderWorld}
use Rattle.jt_obeying.specs.Steps.{Answered, MayAnswer, IsRequest, AtMostOneOther, IsWritten, AnswersOldest, NamesOldest}
use Rattle.jt_order_turns.specs.Turns.{IsNoOrder, WritesNoOrder, IsAnswer, Carries, AnswersAreCarried, ResponsesNameNoOrder, as_answers, outcome_of, IsAllowedTo, TurnsAreSteps, NamesOldestOrder, TellsOf, AnswersAreTold}

-- ---- a session writes no order

acks_if : (b : Bool) (s : State) (h : Header) (result : ℕ) → IsNoOrder (saying s h (if b then None else Some (ack h result))).says
acks_if true s h result = tt
acks_if false s h result = refl

denies_if : (b : Bool) (s : State) (h : Header) (n : ℕ) → IsNoOrder (saying s h (Some (if b then register_reply h n [] else ack h 1))).says
denies_if true s h n = refl
denies_if false s h n = refl

answer_no : (s : State) (h : Header) (reply : Reply) → IsNoOrder (saying s h (answer_to h reply)).says
answer_no s h (say.Registered code) = refl
answer_no s h (say.Denied n) = denies_if (h.id == REGISTER) s h n
answer_no s h say.Accepted = acks_if (is_answer h.id) s h (accepted_result h.id)
answer_no s h (say.Stored n) = refl
answer_no s h (say.Repeat n) = refl
answer_no s h (say.Renumbered n) = refl
answer_no s h say.NotLive = acks_if (is_answer h.id) s h 1
answer_no s h (say.Fenced other) = refl
answer_no s h (say.ListFull l) = tt
answer_no s h say.StoreFault = tt
answer_no s h say.Memory = tt

answers_no : (s : State) (m : Option (Header × List ℕ)) (reply : Reply) → IsNoOrder (answers s m reply).says
answers_no s None reply = tt
answers_no s (Some m) reply = answer_no s m.0 reply

reply_no : (s : State) (item : Unplaced) (reply : Reply) → IsNoOrder (turn_at_reply s item reply).says
reply_no s (Fault place why) reply = tt
reply_no s (Frame h octets) reply = answers_no (reads_on s h octets h.packet) (message_of s h octets h.packet) reply

packet_no : (s : State) (h : Header) (fate : Fate) → IsNoOrder (answers_packet s h fate).says
packet_no s h (TooMany total) = refl
packet_no s h (Whole id serial octets) = refl
packet_no s h (Resend first missing) = refl
packet_no s h Repeat = tt
packet_no s h Kept = tt

own_no : (s : State) (h : Header) (octets : List ℕ) (packet : Option Packet) → IsNoOrder (own_turn_without_request s h octets packet).says
own_no s h octets None = refl
own_no s h octets (Some packet) = packet_no (reads_on s h octets (Some packet)) h (taken_by s.partial h octets).fate

quiet_if : (b : Bool) (s : State) (h : Header) (octets : List ℕ)
    → IsNoOrder (if b then own_turn_without_request s h octets h.packet else saying (record s { frames = s.frames + 1 }) h (Some (ack h 1))).says
quiet_if true s h octets = own_no s h octets h.packet
quiet_if false s h octets = refl

quiet_no : (s : State) (item : Unplaced) → IsNoOrder (turn_without_request s item).says
quiet_no s (Fault place why) = tt
quiet_no s (Frame h octets) = quiet_if (is_own s.phone h.phone) s h octets

pub writes_no_order : WritesNoOrder
writes_no_order = record { without_request = quiet_no; at_reply = reply_no }

-- ---- a turn is an event

at_most_one : (says : Option (Header × List ℕ)) → AtMostOneOther (as_answers says)
at_most_one None = tt
at_most_one (Some m) = tt

-- an answer asks that its entry be made
answer_asks : (w : OrderWorld) (s : State) (place result : ℕ) (h : Header) (octets : List ℕ) → IsAnswer w s place result h octets → asks s (Frame h octets) ≡ Some (ask.Other h.phone h.id)
answer_asks w s place result h octets c = rw c.own (rw c.response.whole (rw c.response.read refl))

module _ (w : OrderWorld) (number : ℕ) (s : State) (item : Unplaced) where
  other_may : (asked : Option Request) (way : Way) → ((q : Request) → asked ≡ Some q → IsRequest w.key OtherMessage q) → IsReplied item asked way → IsAllowedTo w number asked way
      → MayAnswer w number OtherMessage (outcome_of s item asked way)
  other_may None (Goes None) c r a = at_most_one (turn_without_request s item).says
  other_may None (Goes (Some reply)) c r a = absurd r
  other_may None (Stops reply) c r a = tt
  other_may (Some q) (Goes None) c r a = absurd r
  other_may (Some q) (Goes (Some reply)) c r a = (c q refl, r, a, at_most_one (turn_at_reply s item reply).says)
  other_may (Some q) (Stops reply) c r a = tt

module _ (w : OrderWorld) (number : ℕ) (s : State) (place result : ℕ) (h : Header) (octets : List ℕ) (c : IsAnswer w s place result h octets) where
  -- nothing is written to the answer of an order that is accepted, or whose session is not live
  answer_written : (reply : Reply) → IsWritten (Answer place result) reply (as_answers (turn_at_reply s (Frame h octets) reply).says)
  answer_written say.Accepted = rw c.response.whole (rw c.response.response refl)
  answer_written say.NotLive = rw c.response.whole (rw c.response.response refl)
  answer_written (say.Registered code) = at_most_one (turn_at_reply s (Frame h octets) (say.Registered code)).says
  answer_written (say.Denied n) = at_most_one (turn_at_reply s (Frame h octets) (say.Denied n)).says
  answer_written (say.Stored n) = at_most_one (turn_at_reply s (Frame h octets) (say.Stored n)).says
  answer_written (say.Repeat n) = at_most_one (turn_at_reply s (Frame h octets) (say.Repeat n)).says
  answer_written (say.Renumbered n) = at_most_one (turn_at_reply s (Frame h octets) (say.Renumbered n)).says
  answer_written (say.Fenced other) = at_most_one (turn_at_reply s (Frame h octets) (say.Fenced other)).says
  answer_written (say.ListFull l) = at_most_one (turn_at_reply s (Frame h octets) (say.ListFull l)).says
  answer_written say.StoreFault = at_most_one (turn_at_reply s (Frame h octets) say.StoreFault).says
  answer_written say.Memory = at_most_one (turn_at_reply s (Frame h octets) say.Memory).says

  answer_may : (way : Way) → IsReplied (Frame h octets) (Some (ask.Other h.phone h.id)) way → IsAllowedTo w number (Some (ask.Other h.phone h.id)) way
      → MayAnswer w number (Answer place result) (outcome_of s (Frame h octets) (Some (ask.Other h.phone h.id)) way)
  answer_may (Goes None) r a = absurd r
  answer_may (Goes (Some reply)) r a = ((c.key, c.response.response), r, a, answer_written reply)
  answer_may (Stops reply) r a = tt

may_answer : (w : OrderWorld) (number : ℕ) (message : Up) (s : State) (item : Unplaced) (way : Way) → Carries w s message item → IsReplied item (asks s item) way
    → IsAllowedTo w number (asks s item) way → MayAnswer w number message (outcome_of s item (asks s item) way)
may_answer w number OtherMessage s item way c r a = other_may w number s item (asks s item) way c.1 r a
may_answer w number (Answer place result) s (Fault octet why) way c r a = absurd c
may_answer w number (Answer place result) s (Frame h octets) way c r a =
    subst (λ asked. IsReplied (Frame h octets) asked way → IsAllowedTo w number asked way → MayAnswer w number (Answer place result) (outcome_of s (Frame h octets) asked way))
    (sym (answer_asks w s place result h octets c))
    (λ r a. answer_may w number s place result h octets c way r a) r a

pub turns_are_steps : TurnsAreSteps
turns_are_steps w number message rest s item way telling may c r a t = (may, may_answer w number message s item way c r a, t)

-- ---- of which frames the book is told

same_parts : (a b c x y z : ℕ) (r : Result Message Refusal) → r ≡ Ok (TerminalAck a b c) → r ≡ Ok (TerminalAck x y z) → (a ≡ x) × (b ≡ y) × (c ≡ z)
same_parts a b c x y z r one other = (cc, cc, cc)

module _ (w : OrderWorld) (number place result : ℕ) (s : State) (h : Header) (octets : List ℕ) (c : IsAnswer w s place result h octets) where
  abbrev a : ℕ
  a = length w.results

  frame_names : NamesOldest w number place → NamesOldestOrder w number h octets result
  frame_names n = record {
    waits = n.waits;
    response = record {
      whole = c.response.whole;
      response = c.response.response;
      read = c.response.read ∙ (ap (λ (k : ℕ). Ok (TerminalAck k (order_at w.issued place).id result)) n.serial ∙ ap (λ (k : ℕ). Ok (TerminalAck (serial_of a) k result)) n.id);
    };
    sent = n.sent;
  }

  parts : (other : ℕ) → NamesOldestOrder w number h octets other → (serial_of place ≡ serial_of a) × ((order_at w.issued place).id ≡ (order_at w.issued a).id) × (result ≡ other)
  parts other n = same_parts (serial_of place) (order_at w.issued place).id result (serial_of a) (order_at w.issued a).id other ((body h.edition h.id).read octets 0) c.response.read n.response.read

  place_named : (other : ℕ) → NamesOldestOrder w number h octets other → NamesOldest w number place
  place_named other n = record { waits = n.waits; serial = (parts other n).0; id = (parts other n).1; sent = n.sent }

answers_told : (w : OrderWorld) (number : ℕ) (message : Up) (s : State) (h : Header) (octets : List ℕ) (request : Request) (reply : Reply) (out : List Down)
    → Carries w s message (Frame h octets) → (length w.results < length w.issued → is_order_id (order_at w.issued (length w.results)).id ≡ true)
    → AnswersOldest w number message (Answered request reply out) ↔ TellsOf w number h octets reply
answers_told w number (Answer place result) s h octets request reply out c is = (
  (λ t. (t.0, (result, frame_names w number place result s h octets c t.1))),
  (λ t. (t.0, place_named w number place result s h octets c t.1.0 t.1.1)),
)
answers_told w number OtherMessage s h octets request reply out c is = (
  (λ t. absurd t),
  (λ t. absurd (false≢true (sym (c.0 (serial_of (length w.results)) (order_at w.issued (length w.results)).id t.1.0 t.1.1.response) ∙ is t.1.1.waits))),
)

pub answers_are_told : AnswersAreTold
answers_are_told = record {
  answers = answers_told;
  result = λ w number place result other s h octets c n. sym (parts w number place result s h octets c other n).2;
}

-- ---- an answer, as it is written

octet_bytes : (n : ℕ) → AreOctets (to_be_bytes w8 n)
octet_bytes n zero = omega arith
octet_bytes n (suc place) = omega arith

ack_bytes : (reply id result : ℕ) → AreOctets (ack_octets reply id result)
ack_bytes reply id result = AreOctets-append (to_be_bytes w16 reply) (to_be_bytes w16 id ++ to_be_bytes w8 result) (AreOctets-word reply)
    (AreOctets-append (to_be_bytes w16 id) (to_be_bytes w8 result) (AreOctets-word id) (octet_bytes result))

ack_read : AreOneToOne → AckOctets → (edition : Edition) (reply id result : ℕ) → reply < 2 ^ 16 → id < 2 ^ 16 → result < 2 ^ 8
    → (body edition TERMINAL_ACK).read (body_octets edition (TerminalAck reply id result)) 0 ≡ Ok (TerminalAck reply id result)
ack_read one acks edition reply id result a b c =
    let are : AreOctets (body_octets edition (TerminalAck reply id result)) = subst AreOctets (sym (acks.terminal edition reply id result)) (ack_bytes reply id result) in
    let fills = (one edition TERMINAL_ACK).reads_back (TerminalAck reply id result) (acks.terminal_fits edition reply id result a b c) in
    ((one edition TERMINAL_ACK).reads_value (body_octets edition (TerminalAck reply id result)) (TerminalAck reply id result) are).1 fills

pub answers_are_carried : AreOneToOne → AckOctets → AnswersAreCarried
answers_are_carried one acks w s first place result small_id small_result own key = record {
  own = own;
  key = key;
  response = record {
    whole = refl;
    response = refl;
    read = ack_read one acks first.edition (serial_of place) (order_at w.issued place).id result (omega arith) small_id small_result;
  };
}

pub responses_name_no_order : AreOneToOne → AckOctets → ResponsesNameNoOrder
responses_name_no_order one acks h reply id result a b c none other_reply other other_result r =
    let octets = body_octets h.edition (TerminalAck reply id result) in
    let read : (body h.edition h.id).read octets 0 ≡ Ok (TerminalAck reply id result) =
    subst (λ (n : ℕ). (body h.edition n).read octets 0 ≡ Ok (TerminalAck reply id result)) (sym r.response) (ack_read one acks h.edition reply id result a b c) in
    subst (λ (n : ℕ). is_order_id n ≡ false) (same_parts reply id result other_reply other other_result ((body h.edition h.id).read octets 0) read r.read).1 none
