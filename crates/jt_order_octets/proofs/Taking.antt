-- What sessions take is followed.
use Rattle.std.proofs.Common.{ℕ, suc, ◌<◌, ◌≡◌, ◌⊎◌, List, ◌++◌, length, Option, Some, None, true, false, arith, refl, ap, sym, ◌∙◌, subst, inl, inr}
use Rattle.std.specs.Prelude.{IfSome, is_none, if◌then◌else◌}
use Rattle.std.proofs.lemmas.List.{length-set, append-nil}
use Rattle.jt_value.specs.Sameness.{key_of}
use Rattle.jt_value.specs.declared.phone.Phone.{Phone}
use Rattle.jt_stream.specs.Unplaced.{Unplaced}
use Rattle.jt_store.specs.Verdicts.{alone}
use Rattle.jt_subpacket.specs.Joining.{IsNamedByItsPackets}
use Rattle.jt_platform.specs.declared.request.Entry.{Entry}
use Rattle.jt_platform.specs.declared.request.Request.{Request}
use Rattle.jt_platform.specs.declared.request.Request.TheVariants as ask
use Rattle.jt_platform.specs.Laws.{AreOf, IsOf, shelf_of}
use Rattle.jt_session.specs.Talk.{State, Way, Talked, at_state, turn_on, asks, frame_said, IsReplied}
use Rattle.jt_session.specs.Sessions.{MayGo, entries_on}
use Rattle.jt_session.specs.AnswerLaw.{IsStateOf}
use Rattle.jt_order.specs.Orders.{is_order_id}
use Rattle.jt_obeying.specs.Claim.{EventsKeepIt}
use Rattle.jt_obeying.specs.Record.{Stands}
use Rattle.jt_obeying.specs.World.{Up, Down, OtherAnswer, put, opening}
use Rattle.jt_obeying.specs.World as messages
use Rattle.jt_obeying.specs.Steps.{Outcome, Takes, ends, entries, line_after_message, results_after}
use Rattle.jt_obeying.specs.Steps as events
use Rattle.jt_order_turns.specs.Turns.{AnswersAreTold, TurnsAreSteps, Carries, as_answers, outcome_of}
use Rattle.jt_octets.specs.World.{Line, Wire, line_at, with_one_taken, written, completed_item, opening_of}
use Rattle.jt_octets.specs.Steps.{MayGoOn, MayTalk, after_take, after_talk, line_behind}
use Rattle.jt_octets.specs.Steps as plain
use Rattle.jt_octets.proofs.Views.{Msg, StreamLaws, Brings, Direction, direction_moved, direction_written, direction_still, item_of_msg}
use Rattle.jt_octets.proofs.Taking.{session_of, over_of}
use Rattle.jt_order_octets.specs.World.{OrderWorld, sent_at}
use Rattle.jt_order_octets.specs.Steps.{Telling, Tells, TellsNothing, BookFails}
use Rattle.jt_order_octets.specs.Steps as octets
use Rattle.jt_order_octets.proofs.Meanings.{UpTag, DownTag, carries, tag_key}
use Rattle.jt_order_octets.proofs.Following.{LineMeans, Follows, as_messages, last_among, top_is, both_put, one_put}
use Rattle.jt_order_octets.proofs.Turning.{SessionLaws, IsSaid, IsTurn, turns, allowed_to}
use Rattle.jt_order_octets.proofs.Telling.{IsTold, told_as}

-- what the crates below promise of sessions and of their turns
pub record TakingLaws : Type 0 where
  pub sessions : SessionLaws
  pub named : IsNamedByItsPackets
  pub steps : TurnsAreSteps
  pub told : AnswersAreTold

-- ---- a line behind a turn

said_direction : (tags : Msg → Down → Type 0) (wire : Wire) (read unread : List Down) (said : Option Msg) → Direction tags wire read unread → IsSaid said
    → ((m : Msg) → is_order_id m.0.id ≡ false → tags m OtherAnswer) → Direction tags (written wire (frame_said said)) read (unread ++ as_answers said)
said_direction tags wire read unread None d is as_other = direction_still tags wire read unread d
said_direction tags wire read unread (Some m) d is as_other = direction_written tags wire read unread m OtherAnswer d is.0 (as_other m is.1)

-- ---- what was asked

-- a request of the world of messages is of its phone
request_of : (key : List ℕ) (t : Up) (q : Request) → events.IsRequest key t q → IsOf key q
request_of key (messages.Answer place result) (ask.Other phone id) is = is.0
request_of key (messages.Answer place result) (ask.Register phone register) is = absurd is
request_of key (messages.Answer place result) (ask.Auth phone code) is = absurd is
request_of key (messages.Answer place result) (ask.Unit phone serial id body) is = absurd is
request_of key (messages.Answer place result) (ask.Deregister phone) is = absurd is
request_of key (messages.Answer place result) ask.Close is = absurd is
request_of key messages.OtherMessage (ask.Register phone register) is = is
request_of key messages.OtherMessage (ask.Auth phone code) is = is
request_of key messages.OtherMessage (ask.Unit phone serial id body) is = is
request_of key messages.OtherMessage (ask.Other phone id) is = is
request_of key messages.OtherMessage (ask.Deregister phone) is = absurd is
request_of key messages.OtherMessage ask.Close is = absurd is

asked_of : (number : ℕ) (t : Up) (outcome : Outcome) (mw : messages.OrderWorld) → events.MayAnswer mw number t outcome → (h : List Entry) → AreOf mw.key h → AreOf mw.key (entries number outcome ++ h)
asked_of number t (events.Answered q r list) mw may h are = (request_of mw.key t q may.0, are)
asked_of number t (events.Quiet list) mw may h are = are
asked_of number t events.Stopped mw may h are = are

-- ---- an octet completes nothing

-- the book is told nothing of it
no_item : (w : OrderWorld) (place : ℕ) (way : Way) (told : Telling) → octets.MayTell w place None way told → octets.results_after w.results told ≡ w.results
no_item w place way (Tells result) may = absurd may
no_item w place way TellsNothing may = refl
no_item w place way BookFails may = absurd may.1

module _ (keep : EventsKeepIt) (streams : StreamLaws) (laws : TakingLaws) where
  takes_nothing : (w : OrderWorld) (place : ℕ) (s : State) (f : Follows w) → place < length w.base.lines → (line_at w.base.lines place).session ≡ Some s
      → Direction (UpTag f.key w.issued) (with_one_taken (line_at w.base.lines place).up) (f.lines_are (suc place)).gone (f.lines_are (suc place)).waiting
      → Follows (record w { base = after_talk w.base place (at_state s) })
  takes_nothing w place s f opened is next = record {
    key = f.key;
    count = f.count;
    lines_are = f.lines_are;
    phones = f.phones;
    stands = f.stands;
    key_is = f.key_is;
    phone = f.phone;
    count_is = length-set w.base.lines place (line_behind (line_at w.base.lines place) (at_state s)) ∙ f.count_is;
    sent_is = f.sent_is;
    lines = one_put f.key f.phones w.issued w.base.lines (sent_at w) f.lines_are f.count place (line_behind (line_at w.base.lines place) (at_state s)) opened f.lines here;
    good = f.good;
    in_use = f.in_use;
    none_refused = f.none_refused;
    of_phone = f.of_phone;
  }
    where
      old : LineMeans f.key (f.phones (suc place)) w.issued (line_at w.base.lines place) (sent_at w place) (f.lines_are (suc place))
      old = f.lines place (omega (arith, opened, f.count_is))

      here : LineMeans f.key (f.phones (suc place)) w.issued (line_behind (line_at w.base.lines place) (at_state s)) (sent_at w place) (f.lines_are (suc place))
      here = record {
        own = old.own;
        up = next;
        wrote = old.wrote;
        down = subst (λ (octets : List ℕ). Direction (DownTag (f.phones (suc place)) w.issued) (record { octets = octets; taken = (line_at w.base.lines place).down.taken }) (f.lines_are (suc place)).read (f.lines_are (suc place)).unread)
            (sym (append-nil (line_at w.base.lines place).down.octets)) old.down;
        fine = subst (λ (o : Option State). IfSome o (IsStateOf f.key)) is old.fine;
        over = ap is_none (sym is) ∙ old.over;
        is_open = old.is_open;
        last = old.last;
        highest = old.highest;
      }

  -- ---- an octet completes a message

  module _ (w : OrderWorld) (place : ℕ) (s : State) (way : Way) (f : Follows w) (may : plain.MayTake w.base place way) (is : (line_at w.base.lines place).session ≡ Some s)
      (b : Brings (UpTag f.key w.issued) (line_at w.base.lines place).up (f.lines_are (suc place)).gone (f.lines_are (suc place)).waiting)
      (replied : IsReplied (item_of_msg b.m) (asks s (item_of_msg b.m)) way) (allowed : MayGo (opening_of w.base) w.base.history (suc place) (asks s (item_of_msg b.m)) way) where
    abbrev mw : messages.OrderWorld
    mw = as_messages w f.key f.count f.lines_are

    abbrev p : Phone
    p = f.phones (suc place)

    abbrev x : messages.Line
    x = f.lines_are (suc place)

    abbrev line : Line
    line = line_at w.base.lines place

    abbrev asked : Option Request
    asked = asks s (item_of_msg b.m)

    abbrev k : Talked
    k = turn_on (at_state s) (item_of_msg b.m) asked way

    abbrev outcome : Outcome
    outcome = outcome_of s (item_of_msg b.m) asked way

    within : place < f.count
    within = omega (arith, may.opened, f.count_is)

    old : LineMeans f.key p w.issued line (sent_at w place) x
    old = f.lines place within

    own_key : key_of b.m.0.phone ≡ f.key
    own_key = tag_key f.key w.issued b.m b.t b.tag

    fine : IsStateOf f.key s
    fine = subst (λ (o : Option State). IfSome o (IsStateOf f.key)) is old.fine

    carried : Carries mw s b.t (item_of_msg b.m)
    carried = carries laws.named mw s b.m b.t b.is fine b.tag

    may_go : MayGo (opening mw) mw.history (suc place) asked way
    may_go = subst (λ (q : List ℕ). MayGo (record { tables = Some (alone q w.base.began); limit = w.base.setting.limit; fleet = w.base.setting.fleet; secret = w.base.setting.secret }) w.base.history (suc place) asked way) f.key_is allowed

    turn : IsTurn f.key (suc place) b.m s asked way
    turn = turns laws.sessions f.key (opening mw) mw.history (suc place) b.m s b.is own_key fine way replied may_go

    abbrev next : messages.Line
    next = line_after_message x b.t b.more outcome

    here : LineMeans f.key p w.issued (line_behind line k) (sent_at w place) next
    here = record {
      own = old.own;
      up = b.next;
      wrote = old.wrote;
      down = subst (λ (octets : List ℕ). Direction (DownTag p w.issued) (written line.down octets) x.read next.unread) (sym turn.octets)
          (subst (λ (list : List Down). Direction (DownTag p w.issued) (written line.down (frame_said turn.said)) x.read (x.unread ++ list)) (sym turn.known)
          (said_direction (DownTag p w.issued) line.down x.read x.unread turn.said old.down turn.is_said (λ m e. e)));
      fine = session_of f.key k turn.fine;
      over = over_of k (ends outcome) turn.over;
      is_open = old.is_open;
      last = old.last;
      highest = old.highest;
    }

    may_come : (told : Telling) (t : IsTold mw (suc place) b.t outcome told) → events.May mw (Takes (suc place) b.t b.more outcome t.telling)
    may_come told t = laws.steps mw (suc place) b.t b.more s (item_of_msg b.m) way t.telling may_take carried replied (allowed_to mw (suc place) asked way may_go) t.may
      where
        may_take : events.MayTake mw (suc place) b.t b.more
        may_take = record {
          opened = (omega arith, omega (arith, within));
          is_open = sym old.is_open ∙ may.is_open;
          going = sym old.over ∙ ap is_none is;
          first = b.first;
        }

    -- the world of messages after it, with the entries, the key and the results as the octets have them
    stands_by : (told : Telling) (t : IsTold mw (suc place) b.t outcome told) (keys : List ℕ) (list : List Entry) → f.key ≡ keys → entries (suc place) outcome ≡ list
        → Stands (record mw { results = octets.results_after w.results told; keeper = shelf_of keys w.base.keeper list; history = list ++ w.base.history; lines = put f.lines_are (suc place) next })
    stands_by told t keys list a e =
        subst (λ (q : List ℕ). Stands (record mw { results = octets.results_after w.results told; keeper = shelf_of q w.base.keeper list; history = list ++ w.base.history; lines = put f.lines_are (suc place) next })) a
        (subst (λ (z : List Entry). Stands (record mw { results = octets.results_after w.results told; keeper = shelf_of f.key w.base.keeper z; history = z ++ w.base.history; lines = put f.lines_are (suc place) next })) e
        (subst (λ (rs : List ℕ). Stands (record mw { results = rs; keeper = shelf_of f.key w.base.keeper (entries (suc place) outcome); history = entries (suc place) outcome ++ w.base.history; lines = put f.lines_are (suc place) next })) t.gained
        (keep.keeps mw (Takes (suc place) b.t b.more outcome t.telling) f.stands (may_come told t))))

    told_is : (told : Telling) → octets.MayTell w place (Some (item_of_msg b.m)) way told → IsTold mw (suc place) b.t outcome told
    told_is told tell = told_as laws.told w place mw b.m b.t s carried (λ lt. (f.stands.orders (length w.results) lt).id)
        (λ result names. record { waits = names.waits; response = names.response; sent = last_among x.sent (length w.results) (sym old.last ∙ names.sent) })
        (λ result names. record {
          waits = names.waits;
          response = names.response;
          sent = old.last ∙ top_is x.sent (length w.results) old.highest (λ k there. ((f.stands.lines (suc place)).sent k there).1) names.sent;
        }) told asked way replied tell

    takes_message : (told : Telling) → octets.MayTell w place (Some (item_of_msg b.m)) way told → Follows (record w { base = after_talk w.base place k; results = octets.results_after w.results told })
    takes_message told tell = record {
      key = f.key;
      count = f.count;
      lines_are = put f.lines_are (suc place) next;
      phones = f.phones;
      stands = stands_by told (told_is told tell) (key_of w.base.terminal.phone) (entries_on (suc place) k.entries) (sym f.key_is) (sym turn.entries_are);
      key_is = f.key_is;
      phone = f.phone;
      count_is = length-set w.base.lines place (line_behind line k) ∙ f.count_is;
      sent_is = f.sent_is;
      lines = both_put f.key f.phones w.issued w.base.lines (sent_at w) (sent_at w) f.lines_are f.count place (suc place) (line_behind line k) next may.opened refl f.lines (λ q apart. refl) here;
      good = f.good;
      in_use = f.in_use;
      none_refused = f.none_refused;
      of_phone = subst (λ (list : List Entry). AreOf f.key (list ++ w.base.history)) (sym turn.entries_are) (asked_of (suc place) b.t outcome mw (may_come told (told_is told tell)).1 w.base.history f.of_phone);
    }

  take_by : (w : OrderWorld) (place : ℕ) (way : Way) (told : Telling) (f : Follows w) → plain.MayTake w.base place way → (o : Option State) → (line_at w.base.lines place).session ≡ o
      → MayGoOn w.base place o (completed_item (line_at w.base.lines place).up) way → octets.MayTell w place (completed_item (line_at w.base.lines place).up) way told
      → Follows (record w { base = after_take w.base place o (completed_item (line_at w.base.lines place).up) way; results = octets.results_after w.results told })
  take_by w place way told f may None e goes tell = absurd goes
  take_by w place way told f may (Some s) e goes tell =
      by (direction_moved (UpTag f.key w.issued) streams (line_at w.base.lines place).up (f.lines_are (suc place)).gone (f.lines_are (suc place)).waiting (f.lines place (omega (arith, may.opened, f.count_is))).up may.left)
    where
      by : ((completed_item (line_at w.base.lines place).up ≡ None) × Direction (UpTag f.key w.issued) (with_one_taken (line_at w.base.lines place).up) (f.lines_are (suc place)).gone (f.lines_are (suc place)).waiting)
          ⊎ Brings (UpTag f.key w.issued) (line_at w.base.lines place).up (f.lines_are (suc place)).gone (f.lines_are (suc place)).waiting
          → Follows (record w { base = after_take w.base place (Some s) (completed_item (line_at w.base.lines place).up) way; results = octets.results_after w.results told })
      by (inl none) =
          let same = no_item w place way told (subst (λ (item : Option Unplaced). octets.MayTell w place item way told) none.0 tell) in
          subst (λ (item : Option Unplaced). Follows (record w { base = after_take w.base place (Some s) item way; results = octets.results_after w.results told })) (sym none.0)
          (subst (λ (rs : List ℕ). Follows (record w { base = after_talk w.base place (at_state s); results = rs })) (sym same) (takes_nothing w place s f may.opened e none.1))
      by (inr b) =
          let both = subst (λ (item : Option Unplaced). MayTalk w.base place s item way) b.item goes in
          subst (λ (item : Option Unplaced). Follows (record w { base = after_take w.base place (Some s) item way; results = octets.results_after w.results told })) (sym b.item)
          (takes_message w place s way f may e b both.0 both.1 told (subst (λ (item : Option Unplaced). octets.MayTell w place item way told) b.item tell))

  pub take_follows : (w : OrderWorld) (place : ℕ) (way : Way) (told : Telling) → Follows w → octets.MayCome w (octets.Up place way told) → Follows (octets.after w (octets.Up place way told))
  take_follows w place way told f may = take_by w place way told f may.0 (line_at w.base.lines place).session refl may.0.goes may.1
