-- What the terminal answers to a message that is no order names none.
use Rattle.std.proofs.Common.{ℕ, zero, suc, ◌+◌, ◌-◌, ◌/◌, ◌<◌, ◌^◌, ◌≡◌, ◌≢◌, List, [], ◌∷◌, ◌++◌, length, map, Option, Some, None, Bool, true, false, refl, sym, ◌∙◌, subst}
use Rattle.std.specs.Prelude.{nat_le, ◌==◌, ◌&&◌, Result, Ok, Err, if◌then◌else◌}
use Rattle.jt_value.specs.Octets.{AreOctets}
use Rattle.jt_value.specs.declared.limits.TheConstants.{BODY_LIMIT}
use Rattle.jt_value.specs.declared.ids.TheConstants.{PARAMS, POSITION_REPLY, TERMINAL_ACK, TERMINAL_RESEND}
use Rattle.jt_value.specs.declared.refusal.Refusal.{Refusal}
use Rattle.jt_header.specs.declared.header.Header.{Header}
use Rattle.jt_header.specs.declared.header.Packet.{Packet as PacketFields}
use Rattle.jt_stream.specs.Item.{Item, Items, AreItemsOf, IsItemOf}
use Rattle.jt_stream.specs.Item as item
use Rattle.jt_stream.specs.Unplaced.{Unplaced, Message as Frame, Fault, items, unplaced}
use Rattle.jt_escape.specs.Span.{Event as Cut}
use Rattle.jt_escape.specs.Span as cut
use Rattle.jt_codec.specs.Bodies.{body, body_octets}
use Rattle.jt_codec.specs.declared.message.Message.{Message}
use Rattle.jt_codec.specs.declared.message.Message.TheVariants as message
use Rattle.jt_register.specs.declared.reply.RegisterReply.{RegisterReply}
use Rattle.jt_subpacket.specs.Parts.{Message as Packet, packet_header, packet_octets}
use Rattle.jt_subpacket.specs.Steps.{front, packets_of, piece_of}
use Rattle.jt_terminal_rule.specs.declared.state.Phase.{Phase}
use Rattle.jt_terminal_rule.specs.declared.state.Phase.TheVariants.{Down, Registering, Authenticating, Live}
use Rattle.jt_terminal_rule.specs.declared.state.State.{State}
use Rattle.jt_terminal_rule.specs.declared.state.AnswerKind.{AnswerKind}
use Rattle.jt_terminal_rule.specs.declared.state.AnswerKind.TheVariants.{General, Parameters, Position, Packets}
use Rattle.jt_terminal_rule.specs.Messages.{header_of}
use Rattle.jt_terminal_rule.specs.Answers.{Answer, answer_to}
use Rattle.jt_terminal_rule.specs.Rule.{answer_if_live, answers, changed_by, fill_window, message_limit, names, on_message, says_answer, says_each}
use Rattle.jt_order.specs.Orders.{is_order_id}
use Rattle.jt_order_turns.specs.Frames.{NamesItsMessage, ResponsesName}
use Rattle.jt_order_turns.specs.Heard.{Heard, Ordered, Other, Nothing, heard_at, heard_in, heard_read}
use Rattle.jt_order_turns.specs.Turns.{NamesNoOrder, ResponsesNameNoOrder}
use Rattle.jt_order_octets.specs.Steps.{heard_if}
use Rattle.jt_play.proofs.Downward.{Brought}
use Rattle.jt_order_play.proofs.Naming.{NameNone, fills_name, name_append, other_id, reply_names, response_names}

-- ---- headers that were read

-- its id and its serial have sixteen bits
abbrev IsGood : Unplaced → Type 0
IsGood (Frame h octets) = (h.id < 2 ^ 16) × (h.serial < 2 ^ 16)
IsGood (Fault place why) = Unit {0}

abbrev AreGood : List Unplaced → Type 0
AreGood [] = Unit {0}
AreGood (x ∷ xs) = IsGood x × AreGood xs

good_item : (e : Cut) (x : Item) → IsItemOf e x → IsGood (unplaced x)
good_item (cut.Whole opened content) (item.Frame place h octets) is = (is.1.header.id, is.1.header.serial)
good_item (cut.Whole opened content) (item.Refused refusal) is = tt
good_item (cut.Refused refusal) (item.Frame place h octets) is = absurd is
good_item (cut.Refused refusal) (item.Refused same) is = tt

good_items : (events : List Cut) (list : List Item) → AreItemsOf events list → AreGood (map unplaced list)
good_items [] [] each = tt
good_items [] (x ∷ list) each = absurd each
good_items (e ∷ events) [] each = absurd each
good_items (e ∷ events) (x ∷ list) each = (good_item e x each.0, good_items events list each.1)

good_last : (xs : List Unplaced) (x : Unplaced) → AreGood (xs ++ x ∷ []) → IsGood x
good_last [] x good = good.0
good_last (y ∷ xs) x good = good_last xs x good.1

-- each stream has items, and without their places they are a function of it
abbrev pub HasItems : Type 0
HasItems = (stream : List ℕ) → AreOctets stream → (list : List Item) × Items stream list

abbrev pub AreItems : Type 0
AreItems = (stream : List ℕ) (list : List Item) → Items stream list → map unplaced list ≡ items stream

-- a message that is no order has such a header
abbrev pub IsFine : Heard → Type 0
IsFine (Ordered h octets m) = Unit {0}
IsFine (Other h m) = (h.id < 2 ^ 16) × (h.serial < 2 ^ 16) × (is_order_id h.id ≡ false)
IsFine Nothing = Unit {0}

fine_by : (h : Header) (octets : List ℕ) (m : Message) (b : Bool) → is_order_id h.id ≡ b → IsGood (Frame h octets) → IsFine (if b then Ordered h octets m else Other h m)
fine_by h octets m true e good = tt
fine_by h octets m false e good = (good.0, good.1, e)

fine_read : (h : Header) (octets : List ℕ) (r : Result Message Refusal) → IsGood (Frame h octets) → IsFine (heard_read h octets r)
fine_read h octets (Ok m) good = fine_by h octets m (is_order_id h.id) refl good
fine_read h octets (Err refusal) good = tt

fine_in : (h : Header) (octets : List ℕ) (packet : Option PacketFields) → IsGood (Frame h octets) → IsFine (heard_in h octets packet)
fine_in h octets None good = fine_read h octets ((body h.edition h.id).read octets 0) good
fine_in h octets (Some packet) good = tt

fine_at : (x : Unplaced) → IsGood x → IsFine (heard_at x)
fine_at (Frame h octets) good = fine_in h octets h.packet good
fine_at (Fault place why) good = tt

-- what an octet completes
pub fine_came : HasItems → AreItems → (seen octets : List ℕ) (completed : Option Unplaced) → AreOctets (seen ++ octets) → Brought seen octets completed → IsFine (heard_if completed)
fine_came some are seen octets None good e = tt
fine_came some are seen octets (Some x) good e =
    let list = some (seen ++ octets) good in
    fine_at x (good_last (items seen) x (subst AreGood (are (seen ++ octets) list.0 list.1 ∙ e) (good_items list.1.events list.0 list.1.each)))

-- ---- packets

says_append : (a b : List Packet) → NameNone (says_each a) → NameNone (says_each b) → NameNone (says_each (a ++ b))
says_append [] b x y = y
says_append (packet ∷ a) b x y = (x.0, says_append a b x.1 y)

no_packet : (packet : PacketFields) → ◌≡◌ {A = Option PacketFields} (Some packet) None → ⊥
no_packet packet e = cc

-- a packet of several is no general response in one piece
in_packets : (h : Header) (octets : List ℕ) (packet : PacketFields) → h.packet ≡ Some packet → NamesNoOrder (Frame h octets)
in_packets h octets packet has reply id result r = absurd (no_packet packet (sym has ∙ r.whole))

each_piece : (h : Header) (total : ℕ) (octets : List ℕ) (n : ℕ) → NameNone (says_each (front h total octets n))
each_piece h total octets zero = tt
each_piece h total octets (suc n) = says_append (front h total octets n) ((packet_header h total n, piece_of octets n) ∷ []) (each_piece h total octets n)
    (in_packets (packet_header h total n) (piece_of octets n) (record { total = total; number = n + 1 }) refl, tt)

split : (h : Header) (octets : List ℕ) → NamesNoOrder (Frame (record h { packet = None }) octets) → NameNone (says_each (packets_of h octets))
split h octets one = by (nat_le (length octets) packet_octets)
  where
    by : (b : Bool) → NameNone (says_each (if b then (record h { packet = None }, octets) ∷ [] else front h ((length octets + (BODY_LIMIT - 1)) / BODY_LIMIT) octets ((length octets + (BODY_LIMIT - 1)) / BODY_LIMIT)))
    by true = (one, tt)
    by false = each_piece h ((length octets + (BODY_LIMIT - 1)) / BODY_LIMIT) octets ((length octets + (BODY_LIMIT - 1)) / BODY_LIMIT)

limited : (b : Bool) (h : Header) (octets : List ℕ) → NamesNoOrder (Frame (record h { packet = None }) octets) → NameNone (says_each (if b then packets_of h octets else []))
limited true h octets one = split h octets one
limited false h octets one = tt

-- ---- answers

params_id : PARAMS ≢ TERMINAL_ACK
params_id e = absurd cc

position_id : POSITION_REPLY ≢ TERMINAL_ACK
position_id e = absurd cc

resend_id : TERMINAL_RESEND ≢ TERMINAL_ACK
resend_id e = absurd cc

module _ (responses : ResponsesName) (others : ResponsesNameNoOrder) (s : State) (h : Header) (id : h.id < 2 ^ 16) (serial : h.serial < 2 ^ 16) (plain : is_order_id h.id ≡ false) where
  said : (a : Answer) (says : Option (AnswerKind × List ℕ)) → NamesItsMessage s h says → NameNone (says_answer (changed_by s a) says).steps
  said a None named = tt
  said a (Some (General, octets)) named =
      limited (nat_le (length octets) message_limit) (header_of s.settings.phone TERMINAL_ACK s.next) octets
      (subst (λ (o : List ℕ). NamesNoOrder (Frame (header_of s.settings.phone TERMINAL_ACK s.next) o)) (sym named.2) (others (header_of s.settings.phone TERMINAL_ACK s.next) h.serial h.id named.0 serial id named.1 plain))
  said a (Some (Parameters, octets)) named =
      limited (nat_le (length octets) message_limit) (header_of s.settings.phone PARAMS s.next) octets (other_id s.settings.phone PARAMS s.next octets params_id)
  said a (Some (Position, octets)) named =
      limited (nat_le (length octets) message_limit) (header_of s.settings.phone POSITION_REPLY s.next) octets (other_id s.settings.phone POSITION_REPLY s.next octets position_id)
  said a (Some (Packets, octets)) named =
      limited (nat_le (length octets) message_limit) (header_of s.settings.phone TERMINAL_RESEND s.next) octets (other_id s.settings.phone TERMINAL_RESEND s.next octets resend_id)

  answered : (a : Answer) → NamesItsMessage s h a.says → (p : Phase) → NameNone (answer_if_live p s a).steps
  answered a named Down = tt
  answered a named (Registering serial) = tt
  answered a named (Authenticating serial) = tt
  answered a named (Live serial) = name_append (answers s a).steps (fill_window (answers s a).state).steps (said a a.says named) (fills_name (answers s a).state)

  heard : (m : Message) → NameNone (on_message s h m).steps
  heard (message.PlatformAck r i result) = response_names s (record { reply = r; id = i; result = result }) (body_octets h.edition (message.PlatformAck r i result)) s.phase
  heard (message.RegisterReply r) = reply_names s r (body_octets h.edition (message.RegisterReply r)) s.phase
  heard m = answered (answer_to s h m) (responses.message s h m) s.phase

pub message_names : ResponsesName → ResponsesNameNoOrder → (s : State) (h : Header) (m : Message) → IsFine (Other h m) → NameNone (on_message s h m).steps
message_names responses others s h m fine = heard responses others s h fine.0 fine.1 fine.2 m
