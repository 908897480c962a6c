-- A session's turn at a message of the terminal is an outcome of the world of messages.
use Rattle.std.proofs.Common.{ℕ, ◌≡◌, List, Option, Some, None, false, refl, ap, sym, subst}
use Rattle.std.specs.Prelude.{IfSome}
use Rattle.std.proofs.lemmas.Bool.{true≢false}
use Rattle.jt_value.specs.Sameness.{key_of}
use Rattle.jt_header.specs.declared.header.Header.{Header}
use Rattle.jt_stream.specs.Unplaced.{Unplaced}
use Rattle.jt_platform.specs.Allowed.{Opening, Allowed, makes_entry}
use Rattle.jt_platform.specs.declared.request.Entry.{Entry}
use Rattle.jt_platform.specs.declared.request.Request.{Request}
use Rattle.jt_platform.specs.declared.request.Reply.{Reply}
use Rattle.jt_session.specs.Talk.{State, Way, Goes, Stops, answers, asks, at_state, frame_said, message_of, turn_without_request, reads_on, saying, turn_at_reply, turn_on, IsReplied}
use Rattle.jt_session.specs.Sessions.{MayGo, entries_on}
use Rattle.jt_session.specs.AnswerLaw.{IsStateOf, IsAnswer, AnswersAre}
use Rattle.jt_session.proofs.Hubs.{reply_room}
use Rattle.jt_order.specs.Orders.{is_order_id}
use Rattle.jt_obeying.specs.World.{opening}
use Rattle.jt_obeying.specs.World as messages
use Rattle.jt_obeying.specs.Steps.{answers_written, ends, entries}
use Rattle.jt_order_turns.specs.Turns.{IsNoOrder, WritesNoOrder, as_answers, outcome_of, IsAllowedTo}
use Rattle.jt_octets.proofs.Views.{Msg, IsMessage, item_of_msg}
use Rattle.jt_octets.proofs.Turning.{fenced_same, silent_reply}

-- what the crates below promise of sessions
pub record SessionLaws : Type 0 where
  pub answers_are : AnswersAre
  pub writes : WritesNoOrder

-- a session writes nothing, or a message that a frame can have and that is no order
abbrev pub IsSaid : Option Msg → Type 0
IsSaid said = IfSome said (λ x. IsMessage x × (is_order_id x.0.id ≡ false))

-- What a session made of a message, where it asked this and went on so, beside its outcome in the world of messages.
pub record IsTurn (key : List ℕ) (number : ℕ) (m : Msg) (s : State) (a : Option Request) (way : Way) : Type 0 where
  pub said : Option Msg
  pub octets : (turn_on (at_state s) (item_of_msg m) a way).written ≡ frame_said said
  pub known : answers_written (outcome_of s (item_of_msg m) a way) ≡ as_answers said
  pub is_said : IsSaid said
  pub entries_are : entries_on number (turn_on (at_state s) (item_of_msg m) a way).entries ≡ entries number (outcome_of s (item_of_msg m) a way)
  pub over : (turn_on (at_state s) (item_of_msg m) a way).over ≡ ends (outcome_of s (item_of_msg m) a way)
  pub fine : (turn_on (at_state s) (item_of_msg m) a way).over ≡ false → IsStateOf key (turn_on (at_state s) (item_of_msg m) a way).state

silent_answer : (k : State) (o : Option Msg) (r : Reply) → makes_entry r ≡ false → (answers k o r).says ≡ None
silent_answer k None r e = refl
silent_answer k (Some g) r e = ap (λ x. (saying k g.0 x).says) (silent_reply g.0 r e)

said_of : (h : Header) (says : Option Msg) → IfSome says (IsAnswer h) → IsNoOrder says → IsSaid says
said_of h None is none = tt
said_of h (Some m) is none = (record { header = is.header; short = is.short }, none)

module _ (laws : SessionLaws) (key : List ℕ) (o : Opening) (history : List Entry) (number : ℕ) (m : Msg) (s : State) (is : IsMessage m) (same : key_of m.0.phone ≡ key) (fine : IsStateOf key s) where
  abbrev item : Unplaced
  item = item_of_msg m

  fine_own : IsStateOf (key_of m.0.phone) s
  fine_own = subst (λ key. IsStateOf key s) (sym same) fine

  quiet : IsTurn key number m s None (Goes None)
  quiet = record {
    said = (turn_without_request s item).says;
    octets = refl;
    known = refl;
    is_said = said_of m.0 (turn_without_request s item).says (laws.answers_are.said_quiet s m.0 m.1 is.header fine.serial) (laws.writes.without_request s item);
    entries_are = refl;
    over = refl;
    fine = λ e. subst (λ key. IsStateOf key (turn_without_request s item).state) same (laws.answers_are.stays_quiet s m.0 m.1 fine_own);
  }

  goes : (q : Request) (r : Reply) → Allowed o history number q r → IsTurn key number m s (Some q) (Goes (Some r))
  goes q r allowed = record {
    said = (turn_at_reply s item r).says;
    octets = refl;
    known = refl;
    is_said = said_of m.0 (turn_at_reply s item r).says (laws.answers_are.said_told s m.0 m.1 r is.header fine.serial (reply_room o history number q r (λ e. allowed))) (laws.writes.at_reply s item r);
    entries_are = refl;
    over = fenced_same r;
    fine = λ e. subst (λ key. IsStateOf key (turn_at_reply s item r).state) same (laws.answers_are.stays_told s m.0 m.1 r fine_own);
  }

  stops : (a : Option Request) → IsTurn key number m s a (Stops None)
  stops None = record { said = None; octets = refl; known = refl; is_said = tt; entries_are = refl; over = refl; fine = λ e. absurd (true≢false e) }
  stops (Some q) = record { said = None; octets = refl; known = refl; is_said = tt; entries_are = refl; over = refl; fine = λ e. absurd (true≢false e) }

  stops_by : (q : Request) (r : Reply) → makes_entry r ≡ false → IsTurn key number m s (Some q) (Stops (Some r))
  stops_by q r e = record {
    said = None;
    octets = ap frame_said (silent_answer (reads_on s m.0 m.1 m.0.packet) (message_of s m.0 m.1 m.0.packet) r e);
    known = refl;
    is_said = tt;
    entries_are = refl;
    over = refl;
    fine = λ o. absurd (true≢false o);
  }

  turn_by : (a : Option Request) (way : Way) → IsReplied item a way → MayGo o history number a way → IsTurn key number m s a way
  turn_by None (Goes None) re may = quiet
  turn_by None (Goes (Some r)) re may = absurd re
  turn_by None (Stops None) re may = stops None
  turn_by None (Stops (Some r)) re may = absurd re
  turn_by (Some q) (Goes None) re may = absurd re
  turn_by (Some q) (Goes (Some r)) re may = goes q r may
  turn_by (Some q) (Stops None) re may = stops (Some q)
  turn_by (Some q) (Stops (Some r)) re may = stops_by q r re

  -- each turn at a message of the terminal
  pub turns : (way : Way) → IsReplied item (asks s item) way → MayGo o history number (asks s item) way → IsTurn key number m s (asks s item) way
  turns way re may = turn_by (asks s item) way re may

-- a reply that the history allows is allowed in the world of messages
pub allowed_to : (w : messages.OrderWorld) (number : ℕ) (a : Option Request) (way : Way) → MayGo (opening w) w.history number a way → IsAllowedTo w number a way
allowed_to w number None (Goes None) may = tt
allowed_to w number None (Goes (Some r)) may = tt
allowed_to w number None (Stops reply) may = tt
allowed_to w number (Some q) (Goes None) may = tt
allowed_to w number (Some q) (Goes (Some r)) may = may
allowed_to w number (Some q) (Stops reply) may = tt
