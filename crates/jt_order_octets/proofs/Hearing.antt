-- What the terminal reads is followed.
use Rattle.std.proofs.Common.{ℕ, suc, ◌+◌, ◌<◌, ◌≤◌, ◌≡◌, ◌⊎◌, ◌^◌, List, [], ◌∷◌, ◌++◌, length, set, Option, Some, None, Bool, true, false, arith, refl, ap, sym, ◌∙◌, subst, inl, inr, Result, Ok, Err}
use Rattle.std.specs.Prelude.{if◌then◌else◌}
use Rattle.std.specs.Option.{option_to_list}
use Rattle.std.specs.Result.{is_err}
use Rattle.std.proofs.lemmas.List.{length-set}
use Rattle.jt_value.specs.Sameness.{key_of}
use Rattle.jt_value.specs.Serials.{serial_of}
use Rattle.jt_value.specs.declared.phone.Phone.{Phone}
use Rattle.jt_value.specs.declared.refusal.Refusal.{Refusal}
use Rattle.jt_header.specs.Content.{IsHeader}
use Rattle.jt_header.specs.declared.header.Header.{Header}
use Rattle.jt_header.specs.declared.header.Packet.{Packet}
use Rattle.jt_stream.specs.Unplaced.{Unplaced}
use Rattle.jt_codec.specs.Bodies.{body, body_octets}
use Rattle.jt_codec.specs.Law.{AckOctets}
use Rattle.jt_codec.specs.declared.message.Message.{Message}
use Rattle.jt_codec.specs.declared.message.Message.TheVariants.{TerminalAck}
use Rattle.jt_session.specs.Talk.{start}
use Rattle.jt_terminal_rule.specs.declared.state.Acknowledgement.{Acknowledgement}
use Rattle.jt_terminal_rule.specs.Messages.{frame_of}
use Rattle.jt_terminal_rule.specs.Law.{response_heard}
use Rattle.jt_terminal_rule.specs.Rule.{Whole}
use Rattle.jt_terminal_rule.specs.Steps.{hears, unit_named_by}
use Rattle.jt_terminal_answers.specs.Performing.{HeldTables, message_outcome}
use Rattle.jt_order.specs.Orders.{OrderOf, IsOrder, is_order_id}
use Rattle.jt_order.specs.declared.performed.Performed.{Performed}
use Rattle.jt_order.specs.declared.rules.Ruling.{Ruling}
use Rattle.jt_order.specs.declared.rules.Ruling.TheVariants.{Again, Performs, Refuses}
use Rattle.jt_obeying.specs.Claim.{EventsKeepIt}
use Rattle.jt_obeying.specs.Orders.{no_tables, order_at, ruling}
use Rattle.jt_obeying.specs.Performing.{reading_outcome}
use Rattle.jt_obeying.specs.Record.{Stands}
use Rattle.jt_obeying.specs.World.{Answer, Down, OrderMessage, OtherAnswer, put}
use Rattle.jt_obeying.specs.World as messages
use Rattle.jt_obeying.specs.Steps.{Hears, Passes, Misses, has_refused_body, reads, says, ruling_on, tables_by, result_by, world_by}
use Rattle.jt_obeying.specs.Steps as events
use Rattle.jt_order_turns.specs.Headers.{order_header, answer_header, answer_frame}
use Rattle.jt_order_turns.specs.Heard.{Heard, Ordered, Other, Nothing, heard_at, heard_in, heard_read}
use Rattle.jt_order_turns.specs.Frames.{order_in, IsSeen, FramesAreSeen}
use Rattle.jt_order_turns.specs.Turns.{IsResponse, AnswersAreCarried}
use Rattle.jt_octets.specs.World.{Line, line_at, newest_place, newest, with_one_taken, completed_item}
use Rattle.jt_octets.specs.Steps.{accepting, writing}
use Rattle.jt_octets.proofs.Views.{Msg, IsMessage, StreamLaws, Brings, Direction, direction_moved, item_of_msg, frame_of_msg}
use Rattle.jt_order_octets.specs.World.{OrderWorld, sent_at}
use Rattle.jt_order_octets.specs.Steps.{MayRead, heard_if, with_one_read, with_response, performed_at, after_order, after_read}
use Rattle.jt_order_octets.specs.Steps as steps
use Rattle.jt_order_octets.proofs.Meanings.{UpTag, DownTag, IsOrderOf}
use Rattle.jt_order_octets.proofs.Following.{LineMeans, AllMean, Follows, as_messages, means_by, one_put, put_at, put_twice}
use Rattle.jt_order_octets.proofs.Lining.{count_newest, newest_within, newest_means, says_all, reads_all}
use Rattle.jt_order_octets.proofs.Doing.{rest_follows, writing_count}
use Rattle.jt_order_octets.proofs.Offering.{small_order}
use Rattle.jt_order_octets.proofs.Results.{message_small, again_small}

-- what the crates below promise of what is heard
pub record HearingLaws : Type 0 where
  pub acks : AckOctets
  pub carried : AnswersAreCarried
  pub seen : FramesAreSeen

-- ---- what the terminal heard changes nothing in the world of messages

heard_follows : (w : OrderWorld) (lines : List Line) (just : Option Acknowledgement) (takes : Bool) (told : List ℕ) → Follows (record w { base = record w.base { lines = lines } })
    → Follows (record w { base = record w.base { terminal = accepting (hears w.base.terminal just) takes; lines = lines; told = told } })
heard_follows w lines None false told f = let t = w.base.terminal in
    rest_follows (record w { base = record w.base { lines = lines } }) t.recorded t.units t.accepted t.code t.auths t.ready t.reach w.base.partial told f f.good
heard_follows w lines None true told f = let t = w.base.terminal in
    rest_follows (record w { base = record w.base { lines = lines } }) t.recorded t.units (t.accepted + 1) t.code t.auths t.ready t.reach w.base.partial told f f.good
heard_follows w lines (Some ack) false told f = let t = w.base.terminal in
    rest_follows (record w { base = record w.base { lines = lines } }) t.recorded t.units t.accepted t.code t.auths (hears t (Some ack)).ready t.reach w.base.partial told f f.good
heard_follows w lines (Some ack) true told f = let t = w.base.terminal in
    rest_follows (record w { base = record w.base { lines = lines } }) t.recorded t.units (t.accepted + 1) t.code t.auths (hears t (Some ack)).ready t.reach w.base.partial told f f.good

-- ---- what an item is to the order terminal

-- a message whose id is no order's is another message or nothing
abbrev IsNoOrdered : Heard → Type 0
IsNoOrdered (Ordered h octets m) = ⊥
IsNoOrdered (Other h m) = Unit {0}
IsNoOrdered Nothing = Unit {0}

other_read : (h : Header) (octets : List ℕ) (r : Result Message Refusal) → is_order_id h.id ≡ false → IsNoOrdered (heard_read h octets r)
other_read h octets (Ok m) e = subst (λ (b : Bool). IsNoOrdered (if b then Ordered h octets m else Other h m)) (sym e) tt
other_read h octets (Err refusal) e = tt

other_in : (h : Header) (octets : List ℕ) (packet : Option Packet) → is_order_id h.id ≡ false → IsNoOrdered (heard_in h octets packet)
other_in h octets None e = other_read h octets ((body h.edition h.id).read octets 0) e
other_in h octets (Some packet) e = tt

-- the response is a message that a frame can have
response_is : AckOctets → (h : Header) (result : ℕ) → IsHeader h → IsMessage (answer_header h, body_octets h.edition (TerminalAck h.serial h.id result))
response_is acks h result good = record {
  header = record { id = omega arith; version = good.version; phone_edition = good.phone_edition; phone = good.phone; serial = good.serial; packet = tt };
  short = subst (λ (z : List ℕ). length z < 2 ^ 10) (sym (acks.terminal h.edition h.serial h.id result)) (omega arith);
}

module _ (keep : EventsKeepIt) (laws : HearingLaws) (w : OrderWorld) (f : Follows w) (u : w.base.terminal.using ≡ true) where
  abbrev mw : messages.OrderWorld
  mw = as_messages w f.key f.count f.lines_are

  abbrev p : Phone
  p = f.phones f.count

  abbrev x : messages.Line
  x = f.lines_are f.count

  abbrev at : ℕ
  at = newest_place w.base.lines

  abbrev read_line : Line
  read_line = record (newest w.base) { down = with_one_taken (newest w.base).down }

  abbrev lines_read : List Line
  lines_read = set w.base.lines at read_line

  some : 0 < f.count
  some = (f.in_use u).0

  old : LineMeans f.key p w.issued (newest w.base) (sent_at w at) x
  old = newest_means f.key f.phones w.issued w.base.lines (sent_at w) f.lines_are f.count f.lines f.count_is some

  count_read : length lines_read ≡ f.count
  count_read = length-set w.base.lines at read_line ∙ f.count_is

  -- ---- nothing is completed

  reads_nothing : Direction (DownTag p w.issued) (with_one_taken (newest w.base).down) x.read x.unread → Follows (record w { base = record w.base { lines = lines_read } })
  reads_nothing next = record {
    key = f.key;
    count = f.count;
    lines_are = f.lines_are;
    phones = f.phones;
    stands = f.stands;
    key_is = f.key_is;
    phone = f.phone;
    count_is = count_read;
    sent_is = f.sent_is;
    lines = one_put f.key f.phones w.issued w.base.lines (sent_at w) f.lines_are f.count at read_line
        (newest_within f.key f.phones w.issued w.base.lines (sent_at w) f.lines_are f.count f.lines f.count_is some) f.lines
        (means_by f.key p (f.phones (suc at)) w.issued read_line read_line (sent_at w at) (sent_at w at) x (f.lines_are (suc at)) (ap f.phones number) refl refl (ap f.lines_are number)
        (record { own = old.own; up = old.up; wrote = old.wrote; down = next; fine = old.fine; over = old.over; is_open = old.is_open; last = old.last; highest = old.highest }));
    good = f.good;
    in_use = f.in_use;
    none_refused = f.none_refused;
    of_phone = f.of_phone;
  }
    where
      number : f.count ≡ suc at
      number = count_newest f.key f.phones w.issued w.base.lines (sent_at w) f.lines_are f.count f.lines f.count_is some

  -- it is passed on to the wrapped terminal, or passed over
  passed_on : (heard : Heard) → IsNoOrdered heard → (takes responds : Bool) → Follows (record w { base = record w.base { lines = lines_read } }) → Follows (after_read w heard takes responds)
  passed_on (Ordered h octets m) other takes responds g = absurd other
  passed_on (Other h m) other takes responds g = heard_follows w lines_read (response_heard (Whole h m)) takes (option_to_list (unit_named_by w.base.terminal (response_heard (Whole h m))) ++ w.base.told) g
  passed_on Nothing other takes responds g = heard_follows w lines_read None takes w.base.told g

  -- ---- a message is completed

  module _ (b : Brings (DownTag p w.issued) (newest w.base).down x.read x.unread) where
    all_read : (t : Down) → b.t ≡ t → AllMean f.key f.phones w.issued lines_read (sent_at w) (put f.lines_are f.count (reads x t b.more)) f.count
    all_read t e = reads_all f.key f.phones w.issued w.base.lines (sent_at w) f.lines_are f.count f.lines f.count_is some t b.more
        (subst (λ (d : Down). Direction (DownTag p w.issued) (with_one_taken (newest w.base).down) (d ∷ x.read) b.more) e b.next)

    may_read : (t : Down) → b.t ≡ t → events.MayRead mw t b.more
    may_read t e = record { in_use = u; first = b.first ∙ ap (λ (d : Down). d ∷ b.more) e }

    passes : (t : Down) → b.t ≡ t → Stands (record mw { lines = put f.lines_are f.count (reads x t b.more) }) → Follows (record w { base = record w.base { lines = lines_read } })
    passes t e stands = record {
      key = f.key;
      count = f.count;
      lines_are = put f.lines_are f.count (reads x t b.more);
      phones = f.phones;
      stands = stands;
      key_is = f.key_is;
      phone = f.phone;
      count_is = count_read;
      sent_is = f.sent_is;
      lines = all_read t e;
      good = f.good;
      in_use = f.in_use;
      none_refused = f.none_refused;
      of_phone = f.of_phone;
    }

    reads_other : b.t ≡ OtherAnswer → is_order_id b.m.0.id ≡ false → (takes responds : Bool) → Follows (after_read w (heard_at (item_of_msg b.m)) takes responds)
    reads_other e other takes responds = passed_on (heard_at (item_of_msg b.m)) (other_in b.m.0 b.m.1 b.m.0.packet other) takes responds
        (passes OtherAnswer e (keep.keeps mw (Hears OtherAnswer b.more) f.stands (may_read OtherAnswer e, refl)))

    -- ---- an order

    module _ (place : ℕ) (t : b.t ≡ OrderMessage place) (tag : IsOrderOf p w.issued place b.m) where
      abbrev h : Header
      h = b.m.0

      abbrev octets : List ℕ
      octets = b.m.1

      abbrev order : OrderOf
      order = order_at w.issued place

      abbrev read_one : messages.Line
      read_one = reads x (OrderMessage place) b.more

      is : IsOrder order
      is = f.stands.orders place tag.within

      phone_of : h.phone ≡ p
      phone_of = ap (λ (g : Header). g.phone) tag.header ∙ tag.of_phone

      edition_of : tag.first.edition ≡ w.base.terminal.phone.edition
      edition_of = sym (ap (λ (g : Header). g.edition) tag.header) ∙ (sym b.is.header.phone_edition ∙ ap (λ (q : Phone). q.edition) (phone_of ∙ (f.in_use u).1))

      seen : IsSeen mw place h octets
      seen = laws.seen mw tag.first place h octets refl is (record { edition = edition_of; header = tag.header; body = tag.octets })

      -- the response, where there is one
      abbrev response : ℕ → Msg
      response result = (answer_header h, body_octets h.edition (TerminalAck h.serial h.id result))

      response_tag : (result : ℕ) → result ≤ 3 → UpTag f.key w.issued (response result) (Answer place result)
      response_tag result le = (
        ap key_of phone_of ∙ old.own,
        record {
          within = tag.within;
          response = subst (λ (g : Header). IsResponse (answer_header g) (body_octets g.edition (TerminalAck g.serial g.id result)) (serial_of place) order.id result) (sym tag.header)
              (laws.carried mw start tag.first place result (small_order order.id is.id) (omega (arith, le)) refl (ap key_of tag.of_phone ∙ old.own)).response;
        },
      )

      all_respond : (result : ℕ) → result ≤ 3
          → AllMean f.key f.phones w.issued (writing lines_read (answer_frame h result)) (sent_at w) (put f.lines_are f.count (says read_one (Answer place result))) f.count
      unfolding frame_of
      all_respond result le q within =
          subst (λ (z : messages.Line). LineMeans f.key (f.phones (suc q)) w.issued (line_at (writing lines_read (frame_of_msg (response result))) q) (sent_at w q) z)
          (put_twice f.lines_are f.count read_one (says read_one (Answer place result)) (suc q))
          (says_all f.key f.phones w.issued lines_read (sent_at w) (put f.lines_are f.count read_one) f.count (all_read (OrderMessage place) t) count_read some read_one
          (put_at f.lines_are f.count read_one f.count refl) (response result) (Answer place result)
          (record { is = response_is laws.acks h result b.is.header; of_phone = phone_of }) (response_tag result le) q within)

      -- the line behind it
      abbrev line_by : Bool → ℕ → messages.Line
      line_by true result = says read_one (Answer place result)
      line_by false result = read_one

      order_done : (responds : Bool) (log : List Performed) (tables : HeldTables) (result : ℕ) → result ≤ 3
          → Stands (record mw { log = log; tables = tables; lines = put f.lines_are f.count (line_by responds result) })
          → Follows (record w { base = with_response responds (with_one_read w.base None false) (answer_frame h result); log = log; tables = tables })
      order_done true log tables result le stands = record {
        key = f.key;
        count = f.count;
        lines_are = put f.lines_are f.count (says read_one (Answer place result));
        phones = f.phones;
        stands = stands;
        key_is = f.key_is;
        phone = f.phone;
        count_is = writing_count lines_read (answer_frame h result) ∙ count_read;
        sent_is = f.sent_is;
        lines = all_respond result le;
        good = f.good;
        in_use = f.in_use;
        none_refused = f.none_refused;
        of_phone = f.of_phone;
      }
      order_done false log tables result le stands = record {
        key = f.key;
        count = f.count;
        lines_are = put f.lines_are f.count read_one;
        phones = f.phones;
        stands = stands;
        key_is = f.key_is;
        phone = f.phone;
        count_is = count_read;
        sent_is = f.sent_is;
        lines = all_read (OrderMessage place) t;
        good = f.good;
        in_use = f.in_use;
        none_refused = f.none_refused;
        of_phone = f.of_phone;
      }

      module _ (m : Message) (read : (body h.edition h.id).read octets 0 ≡ Ok m) where
        good_body : has_refused_body mw (OrderMessage place) ≡ false
        good_body = sym seen.refused ∙ ap is_err read

        stands_by : (responds : Bool) → Stands (world_by mw place (ruling_on mw place) (line_by responds (result_by mw place (ruling_on mw place))))
        stands_by true = keep.keeps mw (Hears (OrderMessage place) b.more) f.stands (may_read (OrderMessage place) t, good_body)
        stands_by false = subst (λ (refused : Bool). Stands (if refused then events.after_passing mw (OrderMessage place) b.more else events.after_ruling mw (OrderMessage place) b.more)) good_body
            (keep.keeps mw (Misses (OrderMessage place) b.more) f.stands (may_read (OrderMessage place) t))

        -- what is performed is what the world of messages performs
        outcome_is : ◌≡◌ {A = ℕ × HeldTables} (reading_outcome w.tables ((body h.edition h.id).read octets 0)) (message_outcome w.tables m)
        outcome_is = ap (reading_outcome w.tables) read

        same_order : order_in h octets ≡ order
        same_order = ap (λ (g : Header). order_in g octets) tag.header ∙ ap (λ (z : List ℕ). order_in (order_header tag.first place order) z) tag.octets

        same_result : (events.performed_at mw place).result ≡ (message_outcome w.tables m).0
        same_result = sym seen.result ∙ ap (λ (o : ℕ × HeldTables). o.0) outcome_is

        same_performed : events.performed_at mw place ≡ performed_at w h octets m
        same_performed = sym (ap (λ (o : OrderOf). performed_with o (message_outcome w.tables m).0) same_order ∙ ap (performed_with order) (sym same_result))
          where
            performed_with : OrderOf → ℕ → Performed
            performed_with o result = record { order = o; result = result }

        same_tables : tables_by mw place Performs ≡ (message_outcome w.tables m).1
        same_tables = sym seen.tables ∙ ap (λ (o : ℕ × HeldTables). o.1) outcome_is

        by_ruling : (r : Ruling) → ruling_on mw place ≡ r → (responds : Bool) → Stands (world_by mw place r (line_by responds (result_by mw place r))) → Follows (after_order w h octets m r responds)
        by_ruling (Again result) e responds stands = order_done responds w.log w.tables result (again_small no_tables w.log (serial_of place) order result f.stands.by_tables e) stands
        by_ruling Performs e responds stands =
            order_done responds (w.log ++ performed_at w h octets m ∷ []) (message_outcome w.tables m).1 (message_outcome w.tables m).0 (message_small w.tables m)
            (subst (λ (n : ℕ). Stands (record mw { log = w.log ++ performed_at w h octets m ∷ []; tables = (message_outcome w.tables m).1; lines = put f.lines_are f.count (line_by responds n) })) same_result
            (subst (λ (z : HeldTables). Stands (record mw { log = w.log ++ performed_at w h octets m ∷ []; tables = z; lines = put f.lines_are f.count (line_by responds (events.performed_at mw place).result) })) same_tables
            (subst (λ (q : Performed). Stands (record mw { log = w.log ++ q ∷ []; tables = tables_by mw place Performs; lines = put f.lines_are f.count (line_by responds (events.performed_at mw place).result) })) same_performed stands)))
        by_ruling Refuses e responds stands = absurd (none stands.none_refused)
          where
            none : ◌≡◌ {A = List ℕ} (place ∷ []) [] → ⊥
            none e = cc

        reads_order : (responds : Bool) → Follows (after_order w h octets m (ruling w.log h.serial (order_in h octets)) responds)
        reads_order responds = subst (λ (r : Ruling). Follows (after_order w h octets m r responds)) (sym seen.ruling) (by_ruling (ruling_on mw place) refl responds (stands_by responds))

      -- an order whose body is refused is passed over
      by_reading : (r : Result Message Refusal) → (body h.edition h.id).read octets 0 ≡ r → (takes responds : Bool) → Follows (after_read w (heard_read h octets r) takes responds)
      by_reading (Err refusal) e takes responds = passed_on Nothing tt takes responds
          (passes (OrderMessage place) t (keep.keeps mw (Passes (OrderMessage place) b.more) f.stands (may_read (OrderMessage place) t, sym seen.refused ∙ ap is_err e)))
      by_reading (Ok m) e takes responds =
          subst (λ (ordered : Bool). Follows (after_read w (if ordered then Ordered h octets m else Other h m) takes responds)) (sym (ap (λ (g : Header). is_order_id g.id) tag.header ∙ is.id)) (reads_order m e responds)

      reads_ordered : (takes responds : Bool) → Follows (after_read w (heard_at (item_of_msg b.m)) takes responds)
      reads_ordered takes responds = subst (λ (packet : Option Packet). Follows (after_read w (heard_in h octets packet) takes responds)) (sym seen.whole)
          (by_reading ((body h.edition h.id).read octets 0) refl takes responds)

    reads_message : (takes responds : Bool) → Follows (after_read w (heard_at (item_of_msg b.m)) takes responds)
    reads_message takes responds = by b.t refl b.tag
      where
        by : (t : Down) → b.t ≡ t → DownTag p w.issued b.m t → Follows (after_read w (heard_at (item_of_msg b.m)) takes responds)
        by OtherAnswer e tag = reads_other e tag takes responds
        by (OrderMessage place) e tag = reads_ordered place e tag takes responds

pub read_follows : EventsKeepIt → StreamLaws → HearingLaws → (w : OrderWorld) (takes responds : Bool) → Follows w → MayRead w takes → Follows (steps.after w (steps.Down takes responds))
read_follows keep streams laws w takes responds f may =
    by (direction_moved (DownTag (f.phones f.count) w.issued) streams (newest w.base).down (f.lines_are f.count).read (f.lines_are f.count).unread (old keep laws w f may.in_use).down may.left)
  where
    by : ((completed_item (newest w.base).down ≡ None) × Direction (DownTag (f.phones f.count) w.issued) (with_one_taken (newest w.base).down) (f.lines_are f.count).read (f.lines_are f.count).unread)
        ⊎ Brings (DownTag (f.phones f.count) w.issued) (newest w.base).down (f.lines_are f.count).read (f.lines_are f.count).unread
        → Follows (steps.after w (steps.Down takes responds))
    by (inl none) = subst (λ (item : Option Unplaced). Follows (after_read w (heard_if item) takes responds)) (sym none.0)
        (passed_on keep laws w f may.in_use Nothing tt takes responds (reads_nothing keep laws w f may.in_use none.1))
    by (inr b) = subst (λ (item : Option Unplaced). Follows (after_read w (heard_if item) takes responds)) (sym b.item) (reads_message keep laws w f may.in_use b takes responds)
