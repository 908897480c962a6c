-- What is written.
use Rattle.std.proofs.Common.{◌≡◌, ◌≢◌, ◌≤◌, ◌<◌, ◌+◌, ◌*◌, ◌^◌, ◌==◌, ℕ, zero, suc, List, [], ◌∷◌, ◌++◌, length, Bool, true, false, if◌then◌else◌, ◌⊎◌, Option, None, Some, IfSome, inl, inr, nat_lt, not, slice_get, drop, refl, sym, ap, ◌∙◌, arith, length-append}
use Rattle.std.specs.List.{flat_map, filter}
use Rattle.std.specs.FinMap.{contains_key, empty}
use Rattle.std.specs.Option.{option_map}
use Rattle.std.proofs.lemmas.List.Filters.{length-filter_both}
use Rattle.std.specs.Int.{w8, w16, to_be_bytes}
use Rattle.std.proofs.lemmas.Bool.{false≢true, ltb-false}
use Rattle.jt_value.specs.Sameness.{key_of}
use Rattle.jt_value.specs.declared.phone.Edition.{Edition}
use Rattle.jt_value.specs.declared.phone.Edition.TheVariants.{E2013, E2019}
use Rattle.jt_value.specs.declared.phone.Phone.{Phone}
use Rattle.jt_header.specs.Content.{IsHeader}
use Rattle.jt_header.specs.declared.header.Header.{Header}
use Rattle.jt_header.specs.declared.header.Packet.{Packet}
use Rattle.jt_stream.specs.Unplaced.{Unplaced, Message as Frame, Fault}
use Rattle.jt_layout.specs.Layout.{byte, number, rest, rest_if, word}
use Rattle.jt_register.specs.Registration.{register_reply}
use Rattle.jt_codec.specs.Bodies.{body, body_octets}
use Rattle.jt_codec.specs.Law.{AckOctets}
use Rattle.jt_codec.specs.Resend.{count}
use Rattle.jt_codec.specs.declared.message.Message.{Message}
use Rattle.jt_codec.specs.declared.message.Message.TheVariants as message
use Rattle.jt_subpacket.specs.Fates.{Taken, begins, taken_by, taken_by_fields, taken_as, taken_in, unfinished, packet_fate as told_fate}
use Rattle.jt_subpacket.specs.Partials.{Partial, Pieces, key_of as part_key, kept_of, missing, numbers, with_piece}
use Rattle.jt_subpacket.specs.declared.key.PartKey.{PartKey}
use Rattle.jt_subpacket.specs.declared.taken.Fate.{Fate}
use Rattle.jt_subpacket.specs.declared.taken.Fate.TheVariants.{TooMany, Whole, Resend, Repeat, Kept}
use Rattle.jt_platform.specs.Allowed.{Opening, Allowed, is_trouble}
use Rattle.jt_platform.specs.History.{closed}
use Rattle.jt_platform.specs.declared.request.Entry.{Entry}
use Rattle.jt_platform.specs.declared.request.Request.TheVariants as ask
use Rattle.jt_platform.specs.declared.request.Reply.{Reply}
use Rattle.jt_platform.specs.declared.request.Reply.TheVariants as say
use Rattle.jt_session.specs.Replies.{HasRoomFor}
use Rattle.jt_session.specs.Talk.{State, Turned, accepted_result, ack, answer_to, answers, answers_packet, first_phone, header_to, is_answer, is_own, is_wide, message_of, message_to, turn_without_request, own_turn_without_request, reads_on, refuses, saying, turn_at_reply, whole_of}
use Rattle.jt_session.specs.Talk as talk
use Rattle.jt_session.specs.Law.{IsUnitId, is_stored}
use Rattle.jt_session.specs.AnswerLaw.{IsOf, IsStateOf, IsAnswer, SaysNoSuccess, AnswersAre}
use Rattle.jt_session.proofs.Asking.{resend_octets}
use Rattle.jt_session.proofs.Answering.{result_of, stored as stored_answer, otherwise}

-- ---- the session stays that of the phone

first_of : (phone : Phone) (o : Option Phone) → IsOf (key_of phone) o → IsOf (key_of phone) (first_phone o phone)
first_of phone None of = refl
first_of phone (Some own) of = of

saying_stays : (key : List ℕ) (s : State) (h : Header) (o : Option Message) → IsStateOf key s → IsStateOf key (saying s h o).state
saying_stays key s h None of = of
saying_stays key s h (Some m) of = record { phone = of.phone; serial = omega arith }

reads_stays : (s : State) (h : Header) (octets : List ℕ) (packet : Option Packet) → IsStateOf (key_of h.phone) s → IsStateOf (key_of h.phone) (reads_on s h octets packet)
reads_stays s h octets None of = record { phone = first_of h.phone s.phone of.phone; serial = of.serial }
reads_stays s h octets (Some packet) of = record { phone = first_of h.phone s.phone of.phone; serial = of.serial }

refuses_stays : (key : List ℕ) (s : State) (h : Header) → IsStateOf key s → IsStateOf key (refuses s h).state
refuses_stays key s h of = saying_stays key (record s { refused = s.refused + 1 }) h (Some (ack h 2)) (record { phone = of.phone; serial = of.serial })

packet_stays : (key : List ℕ) (s : State) (h : Header) (fate : Fate) → IsStateOf key s → IsStateOf key (answers_packet s h fate).state
packet_stays key s h (TooMany total) of = saying_stays key s h (Some (ack h 2)) of
packet_stays key s h (Whole id serial octets) of = refuses_stays key s (record h { id = id; serial = serial; packet = None }) of
packet_stays key s h (Resend first numbers) of = saying_stays key s h (Some (message.Resend (record { first = first; wide = is_wide h.edition; numbers = numbers }))) of
packet_stays key s h Repeat of = of
packet_stays key s h Kept of = of

own_stays : (s : State) (h : Header) (octets : List ℕ) (packet : Option Packet) → IsStateOf (key_of h.phone) s → IsStateOf (key_of h.phone) (own_turn_without_request s h octets packet).state
own_stays s h octets None of = refuses_stays (key_of h.phone) (reads_on s h octets None) h (reads_stays s h octets None of)
own_stays s h octets (Some packet) of = packet_stays (key_of h.phone) (reads_on s h octets (Some packet)) h (taken_by s.partial h octets).fate (reads_stays s h octets (Some packet) of)

either_stays : (key : List ℕ) (b : Bool) (x y : Turned) → IsStateOf key x.state → IsStateOf key y.state → IsStateOf key (if b then x else y).state
either_stays key true x y of of_too = of
either_stays key false x y of of_too = of_too

stays_quiet : (s : State) (h : Header) (octets : List ℕ) → IsStateOf (key_of h.phone) s → IsStateOf (key_of h.phone) (turn_without_request s (Frame h octets)).state
stays_quiet s h octets of =
    either_stays (key_of h.phone) (is_own s.phone h.phone) (own_turn_without_request s h octets h.packet) (saying (record s { frames = s.frames + 1 }) h (Some (ack h 1)))
    (own_stays s h octets h.packet of) (saying_stays (key_of h.phone) (record s { frames = s.frames + 1 }) h (Some (ack h 1)) (record { phone = of.phone; serial = of.serial }))

answers_stays : (key : List ℕ) (s : State) (m : Option (Header × List ℕ)) (r : Reply) → IsStateOf key s → IsStateOf key (answers s m r).state
answers_stays key s None r of = of
answers_stays key s (Some m) r of = saying_stays key s m.0 (answer_to m.0 r) of

stays_told : (s : State) (h : Header) (octets : List ℕ) (r : Reply) → IsStateOf (key_of h.phone) s → IsStateOf (key_of h.phone) (turn_at_reply s (Frame h octets) r).state
stays_told s h octets r of = answers_stays (key_of h.phone) (reads_on s h octets h.packet) (message_of s h octets h.packet) r (reads_stays s h octets h.packet of)

-- ---- lengths

two_octets : (n : ℕ) → length (to_be_bytes w16 n) ≡ 2
two_octets n = refl

one_octet : (n : ℕ) → length (to_be_bytes w8 n) ≡ 1
one_octet n = refl

word_len : (n : ℕ) → length (word.spell n) ≡ 2
unfolding number
word_len n = two_octets n

byte_len' : (n : ℕ) → length (byte.spell n) ≡ 1
unfolding number
byte_len' n = one_octet n

words_len : (xs : List ℕ) → length (flat_map word.spell xs) ≡ 2 * length xs
words_len [] = refl
words_len (x ∷ xs) = omega (arith, length-append (word.spell x) (flat_map word.spell xs), word_len x, words_len xs)

count_len : (wide : Bool) (n : ℕ) → length ((count wide).spell n) ≤ 2
count_len true n = omega (arith, word_len n)
count_len false n = omega (arith, byte_len' n)

ack_short : AckOctets → (edition : Edition) (reply id result : ℕ) → length (body_octets edition (message.PlatformAck reply id result)) < 2 ^ 10
ack_short law edition reply id result =
    omega (arith, ap length (law.platform edition reply id result), length-append (to_be_bytes w16 reply) (to_be_bytes w16 id ++ to_be_bytes w8 result), length-append (to_be_bytes w16 id) (to_be_bytes w8 result), two_octets reply, two_octets id, one_octet result)

resend_short : (edition : Edition) (first : ℕ) (numbers : List ℕ) → length numbers ≤ 256 → length (body_octets edition (message.Resend (record { first = first; wide = is_wide edition; numbers = numbers }))) < 2 ^ 10
resend_short edition first numbers few =
    omega (arith, few, ap length (resend_octets edition first numbers), length-append (word.spell first) ((count (is_wide edition)).spell (length numbers) ++ flat_map word.spell numbers), length-append ((count (is_wide edition)).spell (length numbers)) (flat_map word.spell numbers), word_len first, count_len (is_wide edition) (length numbers), words_len numbers)

rest_spelled : (b : Bool) (code : List ℕ) → (rest_if b).spell code ≡ code
unfolding rest
rest_spelled true code = refl
rest_spelled false code = refl

register_octets : (edition : Edition) (reply result : ℕ) (code : List ℕ) → body_octets edition (message.RegisterReply (record { reply = reply; result = result; code = code })) ≡ word.spell reply ++ (byte.spell result ++ (rest_if (result == 0)).spell code)
unfolding body register_reply
register_octets E2013 reply result code = refl
register_octets E2019 reply result code = refl

register_short : (edition : Edition) (reply result : ℕ) (code : List ℕ) → length code ≤ 1020 → length (body_octets edition (message.RegisterReply (record { reply = reply; result = result; code = code }))) < 2 ^ 10
register_short edition reply result code few =
    omega (arith, few, ap length (register_octets edition reply result code), length-append (word.spell reply) (byte.spell result ++ (rest_if (result == 0)).spell code), length-append (byte.spell result) ((rest_if (result == 0)).spell code), word_len reply, byte_len' result, ap length (rest_spelled (result == 0) code))

-- ---- each message that is written is one that a frame can have

answer_of : (s : State) (h : Header) (id : ℕ) (octets : List ℕ) → IsHeader h → s.serial < 2 ^ 16 → length octets < 2 ^ 10 → (id ≡ 0x8001) ⊎ ((id ≡ 0x8100) ⊎ (id ≡ 0x8003)) → id < 2 ^ 16 → IsAnswer h (header_to s h id, octets)
answer_of s h id octets good serial short is below = record {
  header = record { id = below; version = good.version; phone_edition = good.phone_edition; phone = good.phone; serial = serial; packet = tt };
  phone = refl;
  whole = refl;
  short = short;
  id = is;
}

module _ (law : AckOctets) where
  ack_answer : (s : State) (h : Header) (serial id result : ℕ) → IsHeader h → s.serial < 2 ^ 16 → IsAnswer h (message_to s h (message.PlatformAck serial id result))
  ack_answer s h serial id result good below = answer_of s h 0x8001 (body_octets h.edition (message.PlatformAck serial id result)) good below (ack_short law h.edition serial id result) (inl refl) (omega arith)

  register_answer : (s : State) (h : Header) (reply result : ℕ) (code : List ℕ) → IsHeader h → s.serial < 2 ^ 16 → length code ≤ 1020 → IsAnswer h (message_to s h (message.RegisterReply (record { reply = reply; result = result; code = code })))
  register_answer s h reply result code good below few = answer_of s h 0x8100 (body_octets h.edition (message.RegisterReply (record { reply = reply; result = result; code = code }))) good below (register_short h.edition reply result code few) (inr (inl refl)) (omega arith)

  resend_answer : (s : State) (h : Header) (first : ℕ) (numbers : List ℕ) → IsHeader h → s.serial < 2 ^ 16 → length numbers ≤ 256 → IsAnswer h (message_to s h (message.Resend (record { first = first; wide = is_wide h.edition; numbers = numbers })))
  resend_answer s h first numbers good below few = answer_of s h 0x8003 (body_octets h.edition (message.Resend (record { first = first; wide = is_wide h.edition; numbers = numbers }))) good below (resend_short h.edition first numbers few) (inr (inr refl)) (omega arith)

-- at most 256 numbers lack
few_numbers : (n : ℕ) → length (numbers n) ≡ n
few_numbers zero = refl
few_numbers (suc n) = omega (arith, length-append (numbers n) (suc n ∷ []), few_numbers n)

filtered_few : (p : ℕ → Bool) (xs : List ℕ) → length (filter p xs) ≤ length xs
filtered_few p xs = omega (arith, length-filter_both p (λ x. not (p x)) (λ x. refl) xs)

if_few : (key : PartKey) (now : Pieces) (b c : Bool) (first : ℕ) (lacking : List ℕ) → key.total ≤ 256 → (if b then Resend key.first (missing key.total now) else if c then Repeat else Kept) ≡ Resend first lacking → length lacking ≤ 256
if_few key now true c first lacking few e =
    let same : missing key.total now ≡ lacking = cc in
    omega (arith, few, ap length same, filtered_few (λ x. not (contains_key now x)) (numbers key.total), few_numbers key.total)
if_few key now false true first lacking few e = absurd cc
if_few key now false false first lacking few e = absurd cc

told_few : (key : PartKey) (n : ℕ) (was now : Pieces) (ns : List ℕ) (first : ℕ) (lacking : List ℕ) → key.total ≤ 256 → told_fate key n was now ns ≡ Resend first lacking → length lacking ≤ 256
told_few key n was now [] first lacking few e = absurd cc
told_few key n was now (x ∷ ns) first lacking few e = if_few key now (n == key.total) (contains_key was n) first lacking few e

abbrev Few : Taken → Type 0
Few t = (first : ℕ) (lacking : List ℕ) → t.fate ≡ Resend first lacking → length lacking ≤ 256

either_few : (b : Bool) (x y : Taken) → (b ≡ true → Few x) → (b ≡ false → Few y) → Few (if b then x else y)
either_few true x y few other = few refl
either_few false x y few other = other refl

begins_few : (ps : List Partial) (key : PartKey) (n : ℕ) (octets : List ℕ) → key.total ≤ 256 → Few (begins ps key n octets)
begins_few ps key n octets few =
    let now : Pieces = with_piece empty n octets in
    either_few (nat_lt (length ps) 4)
    (record { dropped = None; fate = unfinished key n empty now; partial = ps ++ record { key = key; pieces = now } ∷ [] })
    (record { dropped = option_map (λ (p : Partial). p.key) (slice_get ps 0); fate = unfinished key n empty now; partial = drop 1 ps ++ record { key = key; pieces = now } ∷ [] })
    (λ less first lacking e. if_few key now (n == key.total) (contains_key empty n) first lacking few e) (λ more first lacking e. if_few key now (n == key.total) (contains_key empty n) first lacking few e)

in_few : (ps : List Partial) (key : PartKey) (n : ℕ) (octets : List ℕ) (was : Option Pieces) → key.total ≤ 256 → Few (taken_in ps key n octets was)
in_few ps key n octets None few = begins_few ps key n octets few
in_few ps key n octets (Some was) few = λ first lacking e. told_few key n was (with_piece was n octets) (missing key.total (with_piece was n octets)) first lacking few e

as_few : (h : Header) (ps : List Partial) (octets : List ℕ) (packet : Packet) → Few (taken_as ps h octets packet)
as_few h ps octets packet =
    either_few (nat_lt 256 packet.total) (record { dropped = None; fate = TooMany packet.total; partial = ps })
    (if packet.total == 1 then record { dropped = None; fate = Whole h.id h.serial octets; partial = ps } else taken_in ps (part_key h packet) packet.number octets (kept_of (part_key h packet) ps))
    (λ many first lacking e. absurd cc)
    (λ few. either_few (packet.total == 1) (record { dropped = None; fate = Whole h.id h.serial octets; partial = ps }) (taken_in ps (part_key h packet) packet.number octets (kept_of (part_key h packet) ps))
    (λ one first lacking e. absurd cc) (λ more. in_few ps (part_key h packet) packet.number octets (kept_of (part_key h packet) ps) (ltb-false 256 packet.total few)))

fields_few : (ps : List Partial) (h : Header) (octets : List ℕ) (packet : Option Packet) (first : ℕ) (lacking : List ℕ) → (taken_by_fields ps h octets packet).fate ≡ Resend first lacking → length lacking ≤ 256
fields_few ps h octets None first lacking e = absurd cc
fields_few ps h octets (Some packet) first lacking e = as_few h ps octets packet first lacking e

taken_few : (ps : List Partial) (h : Header) (octets : List ℕ) (first : ℕ) (lacking : List ℕ) → (taken_by ps h octets).fate ≡ Resend first lacking → length lacking ≤ 256
taken_few ps h octets first lacking e = fields_few ps h octets h.packet first lacking e

-- ---- where nothing was asked

either_says : (P : Header × List ℕ → Type 0) (b : Bool) (x y : Turned) → IfSome x.says P → IfSome y.says P → IfSome (if b then x else y).says P
either_says P true x y one other = one
either_says P false x y one other = other

two_is_none : (n : ℕ) → n ≡ 2 → (n ≢ 0) × (n ≢ 4)
two_is_none n is = (λ e. omega (arith, is, e), λ e. omega (arith, is, e))

one_is_none : (n : ℕ) → n ≡ 1 → (n ≢ 0) × (n ≢ 4)
one_is_none n is = (λ e. omega (arith, is, e), λ e. omega (arith, is, e))

refuses_none : (s : State) (h : Header) → IfSome (refuses s h).says SaysNoSuccess
refuses_none s h = (record s { refused = s.refused + 1 }, h, ack h 2, refl, two_is_none 2 refl)

packet_none : (s : State) (h : Header) (fate : Fate) → IfSome (answers_packet s h fate).says SaysNoSuccess
packet_none s h (TooMany total) = (s, h, ack h 2, refl, two_is_none 2 refl)
packet_none s h (Whole id serial octets) = refuses_none s (record h { id = id; serial = serial; packet = None })
packet_none s h (Resend first lacking) = (s, h, message.Resend (record { first = first; wide = is_wide h.edition; numbers = lacking }), refl, tt)
packet_none s h Repeat = tt
packet_none s h Kept = tt

own_none : (s : State) (h : Header) (octets : List ℕ) (packet : Option Packet) → IfSome (own_turn_without_request s h octets packet).says SaysNoSuccess
own_none s h octets None = refuses_none (reads_on s h octets None) h
own_none s h octets (Some packet) = packet_none (reads_on s h octets (Some packet)) h (taken_by s.partial h octets).fate

no_success : (s : State) (item : Unplaced) → IfSome (turn_without_request s item).says SaysNoSuccess
no_success s (Fault place why) = tt
no_success s (Frame h octets) =
    either_says SaysNoSuccess (is_own s.phone h.phone) (own_turn_without_request s h octets h.packet) (saying (record s { frames = s.frames + 1 }) h (Some (ack h 1)))
    (own_none s h octets h.packet) (record s { frames = s.frames + 1 }, h, ack h 1, refl, one_is_none 1 refl)

module _ (law : AckOctets) where
  packet_says : (s : State) (h : Header) (fate : Fate) → IsHeader h → s.serial < 2 ^ 16 → ((first : ℕ) (lacking : List ℕ) → fate ≡ Resend first lacking → length lacking ≤ 256) → IfSome (answers_packet s h fate).says (IsAnswer h)
  packet_says s h (TooMany total) good below few = ack_answer law s h h.serial h.id 2 good below
  packet_says s h (Whole id serial octets) good below few = ack_answer law s h serial id 2 good below
  packet_says s h (Resend first lacking) good below few = resend_answer law s h first lacking good below (few first lacking refl)
  packet_says s h Repeat good below few = tt
  packet_says s h Kept good below few = tt

  own_says : (s : State) (h : Header) (octets : List ℕ) (packet : Option Packet) → IsHeader h → s.serial < 2 ^ 16 → IfSome (own_turn_without_request s h octets packet).says (IsAnswer h)
  own_says s h octets None good below = ack_answer law s h h.serial h.id 2 good below
  own_says s h octets (Some packet) good below = packet_says (reads_on s h octets (Some packet)) h (taken_by s.partial h octets).fate good below (taken_few s.partial h octets)

  said_quiet : (s : State) (h : Header) (octets : List ℕ) → IsHeader h → s.serial < 2 ^ 16 → IfSome (turn_without_request s (Frame h octets)).says (IsAnswer h)
  said_quiet s h octets good below =
      either_says (IsAnswer h) (is_own s.phone h.phone) (own_turn_without_request s h octets h.packet) (saying (record s { frames = s.frames + 1 }) h (Some (ack h 1)))
      (own_says s h octets h.packet good below) (ack_answer law s h h.serial h.id 1 good below)

  -- of the message with these fields beside the frame's
  denied_says : (s : State) (h : Header) (id serial : ℕ) (packet : Option Packet) (n : ℕ) (b : Bool) → IsHeader h → s.serial < 2 ^ 16
      → IfSome (saying s (record h { id = id; serial = serial; packet = packet }) (Some (if b then talk.register_reply (record h { id = id; serial = serial; packet = packet }) n [] else ack (record h { id = id; serial = serial; packet = packet }) 1))).says (IsAnswer h)
  denied_says s h id serial packet n true good below = register_answer law s h serial n [] good below (omega arith)
  denied_says s h id serial packet n false good below = ack_answer law s h serial id 1 good below

  unless_says : (s : State) (h : Header) (id serial : ℕ) (packet : Option Packet) (n : ℕ) (b : Bool) → IsHeader h → s.serial < 2 ^ 16
      → IfSome (saying s (record h { id = id; serial = serial; packet = packet }) (if b then None else Some (ack (record h { id = id; serial = serial; packet = packet }) n))).says (IsAnswer h)
  unless_says s h id serial packet n true good below = tt
  unless_says s h id serial packet n false good below = ack_answer law s h serial id n good below

  reply_says : (s : State) (h : Header) (id serial : ℕ) (packet : Option Packet) (r : Reply) → IsHeader h → s.serial < 2 ^ 16 → HasRoomFor r
      → IfSome (saying s (record h { id = id; serial = serial; packet = packet }) (answer_to (record h { id = id; serial = serial; packet = packet }) r)).says (IsAnswer h)
  reply_says s h id serial packet (say.Registered code) good below few = register_answer law s h serial 0 code good below few
  reply_says s h id serial packet (say.Denied n) good below few = denied_says s h id serial packet n (id == 0x0100) good below
  reply_says s h id serial packet say.Accepted good below few = unless_says s h id serial packet (accepted_result id) (is_answer id) good below
  reply_says s h id serial packet (say.Stored n) good below few = ack_answer law s h serial id 0 good below
  reply_says s h id serial packet (say.Repeat n) good below few = ack_answer law s h serial id 0 good below
  reply_says s h id serial packet (say.Renumbered n) good below few = ack_answer law s h serial id 0 good below
  reply_says s h id serial packet say.NotLive good below few = unless_says s h id serial packet 1 (is_answer id) good below
  reply_says s h id serial packet (say.Fenced other) good below few = ack_answer law s h serial id 1 good below
  reply_says s h id serial packet (say.ListFull l) good below few = tt
  reply_says s h id serial packet say.StoreFault good below few = tt
  reply_says s h id serial packet say.Memory good below few = tt

  fate_says : (s : State) (h : Header) (fate : Fate) (r : Reply) → IsHeader h → s.serial < 2 ^ 16 → HasRoomFor r → IfSome (answers s (whole_of h fate) r).says (IsAnswer h)
  fate_says s h (Whole id serial octets) r good below few = reply_says s h id serial None r good below few
  fate_says s h (TooMany total) r good below few = tt
  fate_says s h (Resend first lacking) r good below few = tt
  fate_says s h Repeat r good below few = tt
  fate_says s h Kept r good below few = tt

  message_says : (s k : State) (h : Header) (octets : List ℕ) (packet : Option Packet) (r : Reply) → IsHeader h → k.serial < 2 ^ 16 → HasRoomFor r → IfSome (answers k (message_of s h octets packet) r).says (IsAnswer h)
  message_says s k h octets None r good below few = reply_says k h h.id h.serial h.packet r good below few
  message_says s k h octets (Some packet) r good below few = fate_says k h (taken_by s.partial h octets).fate r good below few

  kept_serial : (s : State) (h : Header) (octets : List ℕ) (packet : Option Packet) → s.serial < 2 ^ 16 → (reads_on s h octets packet).serial < 2 ^ 16
  kept_serial s h octets None below = below
  kept_serial s h octets (Some packet) below = below

  said_told : (s : State) (h : Header) (octets : List ℕ) (r : Reply) → IsHeader h → s.serial < 2 ^ 16 → HasRoomFor r → IfSome (turn_at_reply s (Frame h octets) r).says (IsAnswer h)
  said_told s h octets r good below few = message_says s (reads_on s h octets h.packet) h octets h.packet r good (kept_serial s h octets h.packet below) few

-- ---- acceptances

accepted_auth : (g : Header) → g.id ≡ 0x0102 → answer_to g say.Accepted ≡ Some (ack g 0)
accepted_auth g is = ap (λ id. if is_answer id then None else Some (ack g (accepted_result id))) is

says_of : (k : State) (o : Option (Header × List ℕ)) (m : Header × List ℕ) (r : Reply) → o ≡ Some m → answer_to m.0 r ≡ Some (ack m.0 0) → (answers k o r).says ≡ Some (message_to k m.0 (ack m.0 0))
says_of k o m r brings answer = ap (λ x. (answers k x r).says) brings ∙ ap (λ a. (saying k m.0 a).says) answer

entered : (s : State) (h : Header) (octets : List ℕ) (m : Header × List ℕ) → message_of s h octets h.packet ≡ Some m → m.0.id ≡ 0x0102 → (turn_at_reply s (Frame h octets) say.Accepted).says ≡ Some (message_to (reads_on s h octets h.packet) m.0 (ack m.0 0))
entered s h octets m brings is = says_of (reads_on s h octets h.packet) (message_of s h octets h.packet) m say.Accepted brings (accepted_auth m.0 is)

stored : (s : State) (h : Header) (octets : List ℕ) (m : Header × List ℕ) (r : Reply) → message_of s h octets h.packet ≡ Some m → is_stored r ≡ true → (turn_at_reply s (Frame h octets) r).says ≡ Some (message_to (reads_on s h octets h.packet) m.0 (ack m.0 0))
stored s h octets m r brings is = says_of (reads_on s h octets h.packet) (message_of s h octets h.packet) m r brings (stored_answer m.0 r is)

ack_named : (h : Header) (n serial id result : ℕ) → Some (ack h n) ≡ Some (message.PlatformAck serial id result) → (serial ≡ h.serial) × (id ≡ h.id)
ack_named h n serial id result e = (cc, cc)

unless_named : (h : Header) (n serial id result : ℕ) (b : Bool) → (if b then None else Some (ack h n)) ≡ Some (message.PlatformAck serial id result) → (serial ≡ h.serial) × (id ≡ h.id)
unless_named h n serial id result true e = absurd cc
unless_named h n serial id result false e = ack_named h n serial id result e

denied_named : (h : Header) (n serial id result : ℕ) (b : Bool) → Some (if b then talk.register_reply h n [] else ack h 1) ≡ Some (message.PlatformAck serial id result) → (serial ≡ h.serial) × (id ≡ h.id)
denied_named h n serial id result true e = absurd cc
denied_named h n serial id result false e = ack_named h 1 serial id result e

named : (h : Header) (r : Reply) (serial id result : ℕ) → answer_to h r ≡ Some (message.PlatformAck serial id result) → (serial ≡ h.serial) × (id ≡ h.id)
named h (say.Registered code) serial id result e = absurd cc
named h (say.Denied n) serial id result e = denied_named h n serial id result (h.id == 0x0100) e
named h say.Accepted serial id result e = unless_named h (accepted_result h.id) serial id result (is_answer h.id) e
named h (say.Stored n) serial id result e = ack_named h 0 serial id result e
named h (say.Repeat n) serial id result e = ack_named h 0 serial id result e
named h (say.Renumbered n) serial id result e = ack_named h 0 serial id result e
named h say.NotLive serial id result e = unless_named h 1 serial id result (is_answer h.id) e
named h (say.Fenced other) serial id result e = ack_named h 1 serial id result e
named h (say.ListFull l) serial id result e = absurd cc
named h say.StoreFault serial id result e = absurd cc
named h say.Memory serial id result e = absurd cc

neither : (result : ℕ) → (result ≢ 0) × (result ≢ 4) → (result ≡ 0) ⊎ (result ≡ 4) → ⊥
neither result apart (inl e) = apart.0 e
neither result apart (inr e) = apart.1 e

unit_alone : (h : Header) (r : Reply) (serial id result : ℕ) → IsUnitId h.id → answer_to h r ≡ Some (message.PlatformAck serial id result) → (result ≡ 0) ⊎ (result ≡ 4) → is_stored r ≡ true
unit_alone h r serial id result unit e success = by_test (is_stored r) refl
  where
    by_test : (b : Bool) → is_stored r ≡ b → b ≡ true
    by_test true is = refl
    by_test false is = absurd (neither result (otherwise h r serial id result unit is e) success)

-- a result of 1 is no success
failed : (o : Option Message) (serial id result : ℕ) → o ≡ Some (message.PlatformAck serial id result) → result_of o ≡ 1 → (result ≡ 0) ⊎ (result ≡ 4) → ⊥
failed o serial id result is has (inl e) = omega (arith, has, sym is_result, e)
  where
    is_result : result ≡ result_of o
    is_result = sym (ap result_of is)
failed o serial id result is has (inr e) = omega (arith, has, sym is_result, e)
  where
    is_result : result ≡ result_of o
    is_result = sym (ap result_of is)

auth_or_stored : (h : Header) (r : Reply) (serial id result : ℕ) → h.id ≡ 0x0102 → answer_to h r ≡ Some (message.PlatformAck serial id result) → (result ≡ 0) ⊎ (result ≡ 4) → (r ≡ say.Accepted) ⊎ (is_stored r ≡ true)
auth_or_stored h (say.Registered code) serial id result auth e success = absurd cc
auth_or_stored h (say.Denied n) serial id result auth e success = absurd (failed (answer_to h (say.Denied n)) serial id result e (ap (λ x. result_of (Some (if x == 0x0100 then talk.register_reply h n [] else ack h 1))) auth) success)
auth_or_stored h say.Accepted serial id result auth e success = inl refl
auth_or_stored h (say.Stored n) serial id result auth e success = inr refl
auth_or_stored h (say.Repeat n) serial id result auth e success = inr refl
auth_or_stored h (say.Renumbered n) serial id result auth e success = inr refl
auth_or_stored h say.NotLive serial id result auth e success = absurd (failed (answer_to h say.NotLive) serial id result e (ap (λ x. result_of (if is_answer x then None else Some (ack h 1))) auth) success)
auth_or_stored h (say.Fenced other) serial id result auth e success = absurd (failed (answer_to h (say.Fenced other)) serial id result e refl success)
auth_or_stored h (say.ListFull l) serial id result auth e success = absurd cc
auth_or_stored h say.StoreFault serial id result auth e success = absurd cc
auth_or_stored h say.Memory serial id result auth e success = absurd cc

auth_unstored : (h : Header) (r : Reply) (serial id result : ℕ) → h.id ≡ 0x0102 → is_stored r ≡ false → answer_to h r ≡ Some (message.PlatformAck serial id result) → (result ≡ 0) ⊎ (result ≡ 4) → r ≡ say.Accepted
auth_unstored h r serial id result auth none e success = unless_stored (auth_or_stored h r serial id result auth e success)
  where
    unless_stored : (r ≡ say.Accepted) ⊎ (is_stored r ≡ true) → r ≡ say.Accepted
    unless_stored (inl same) = same
    unless_stored (inr is) = absurd (false≢true (sym none ∙ is))

-- no authentication is answered as a unit
module _ (o : Opening) (past : List Entry) (session : ℕ) (phone : Phone) (code : List ℕ) where
  closed_alone : (r : Reply) → ((closed past session ≡ true) × (r ≡ say.NotLive)) ⊎ ((closed past session ≡ false) × ⊥) → is_stored r ≡ false
  closed_alone r (inl shut) = ap is_stored shut.1
  closed_alone r (inr never) = absurd never.1

  never_stored : (r : Reply) → (is_trouble r ≡ false → Allowed o past session (ask.Auth phone code) r) → is_stored r ≡ false
  never_stored (say.Stored n) allowed = closed_alone (say.Stored n) (allowed refl)
  never_stored (say.Repeat n) allowed = closed_alone (say.Repeat n) (allowed refl)
  never_stored (say.Renumbered n) allowed = closed_alone (say.Renumbered n) (allowed refl)
  never_stored (say.Registered c) allowed = refl
  never_stored (say.Denied n) allowed = refl
  never_stored say.Accepted allowed = refl
  never_stored say.NotLive allowed = refl
  never_stored (say.Fenced other) allowed = refl
  never_stored (say.ListFull l) allowed = refl
  never_stored say.StoreFault allowed = refl
  never_stored say.Memory allowed = refl

  auth_alone : (h : Header) (r : Reply) (serial id result : ℕ) → h.id ≡ 0x0102 → (is_trouble r ≡ false → Allowed o past session (ask.Auth phone code) r)
      → answer_to h r ≡ Some (message.PlatformAck serial id result) → (result ≡ 0) ⊎ (result ≡ 4) → r ≡ say.Accepted
  auth_alone h r serial id result auth allowed e success = auth_unstored h r serial id result auth (never_stored r allowed) e success

pub answers_are : AckOctets → AnswersAre
answers_are law = record {
  stays_quiet = stays_quiet;
  stays_told = stays_told;
  said_quiet = said_quiet law;
  said_told = said_told law;
  no_success = no_success;
  entered = entered;
  stored = stored;
  named = named;
  unit_alone = unit_alone;
  auth_alone = auth_alone;
  auth_unstored = auth_unstored;
}
