-- Of which messages the book is told.
use Rattle.std.proofs.Common.{ℕ, suc, ◌<◌, ◌≡◌, List, [], ◌∷◌, ◌++◌, length, Option, Some, None, true, refl, ap, sym, subst}
use Rattle.jt_platform.specs.declared.request.Request.{Request}
use Rattle.jt_platform.specs.declared.request.Reply.{Reply}
use Rattle.jt_platform.specs.declared.request.Reply.TheVariants as say
use Rattle.jt_session.specs.Talk.{State, Way, Goes, Stops, IsReplied, turn_at_reply, turn_without_request}
use Rattle.jt_order.specs.Orders.{is_order_id}
use Rattle.jt_obeying.specs.Orders.{order_at}
use Rattle.jt_obeying.specs.World.{Up, Answer, OtherMessage, Down}
use Rattle.jt_obeying.specs.World as messages
use Rattle.jt_obeying.specs.Steps.{Outcome, Quiet, Stopped, AnswersOldest}
use Rattle.jt_obeying.specs.Steps as events
use Rattle.jt_order_turns.specs.Turns.{AnswersAreTold, Carries, NamesOldestOrder, as_answers, outcome_of}
use Rattle.jt_octets.proofs.Views.{Msg, item_of_msg}
use Rattle.jt_order_octets.specs.World.{OrderWorld}
use Rattle.jt_order_octets.specs.Steps.{Telling, Tells, TellsNothing, BookFails}
use Rattle.jt_order_octets.specs.Steps as octets

-- What the book is told of a message, in the world of messages.
pub record IsTold (w : messages.OrderWorld) (number : ℕ) (t : Up) (outcome : Outcome) (told : Telling) : Type 0 where
  pub telling : events.Telling
  pub may : events.MayTell w number t outcome telling
  pub gained : events.results_after w.results t telling ≡ octets.results_after w.results told

untold : (results : List ℕ) (t : Up) → events.results_after results t events.TellsNothing ≡ results
untold results (Answer place result) = refl
untold results OtherMessage = refl

failed : (results : List ℕ) (t : Up) → events.results_after results t events.BookFails ≡ results
failed results (Answer place result) = refl
failed results OtherMessage = refl

-- a message that asked nothing, or at which the session stopped, answers nothing
quiet_answers_none : (w : messages.OrderWorld) (number : ℕ) (t : Up) (list : List Down) → AnswersOldest w number t (Quiet list) → ⊥
quiet_answers_none w number (Answer place result) list a = a
quiet_answers_none w number OtherMessage list a = a

stopped_answers_none : (w : messages.OrderWorld) (number : ℕ) (t : Up) → AnswersOldest w number t Stopped → ⊥
stopped_answers_none w number (Answer place result) a = a
stopped_answers_none w number OtherMessage a = a

module _ (law : AnswersAreTold) (w : OrderWorld) (place : ℕ) (mw : messages.OrderWorld) (m : Msg) (t : Up) (s : State) (c : Carries mw s t (item_of_msg m))
    (ids : length mw.results < length mw.issued → is_order_id (order_at mw.issued (length mw.results)).id ≡ true)
    (names_of : (result : ℕ) → octets.NamesOldest w place result m.0 m.1 → NamesOldestOrder mw (suc place) m.0 m.1 result)
    (names_as : (result : ℕ) → NamesOldestOrder mw (suc place) m.0 m.1 result → octets.NamesOldest w place result m.0 m.1) where
  abbrev Both : ℕ → Option Request → Way → Type 0
  Both result a way = AnswersOldest mw (suc place) t (outcome_of s (item_of_msg m) a way) × NamesOldestOrder mw (suc place) m.0 m.1 result

  -- what answers the oldest order in one world does in the other
  answers_accepted : (result : ℕ) (q : Request) → octets.NamesOldest w place result m.0 m.1 → Both result (Some q) (Goes (Some say.Accepted))
  answers_accepted result q names =
      let n = names_of result names in
      ((law.answers mw (suc place) t s m.0 m.1 q say.Accepted (as_answers (turn_at_reply s (item_of_msg m) say.Accepted).says) c ids).1 (refl, (result, n)), n)

  answers_too : (result : ℕ) (a : Option Request) (way : Way) → IsReplied (item_of_msg m) a way → octets.AnswersOldest w place result (Some (item_of_msg m)) way → Both result a way
  answers_too result None (Goes (Some say.Accepted)) re names = absurd re
  answers_too result (Some q) (Goes (Some say.Accepted)) re names = answers_accepted result q names
  answers_too result a (Goes None) re names = absurd names
  answers_too result a (Stops r) re names = absurd names
  answers_too result a (Goes (Some (say.Registered code))) re names = absurd names
  answers_too result a (Goes (Some (say.Denied n))) re names = absurd names
  answers_too result a (Goes (Some (say.Stored n))) re names = absurd names
  answers_too result a (Goes (Some (say.Repeat n))) re names = absurd names
  answers_too result a (Goes (Some (say.Renumbered n))) re names = absurd names
  answers_too result a (Goes (Some say.NotLive)) re names = absurd names
  answers_too result a (Goes (Some (say.Fenced other))) re names = absurd names
  answers_too result a (Goes (Some (say.ListFull l))) re names = absurd names
  answers_too result a (Goes (Some say.StoreFault)) re names = absurd names
  answers_too result a (Goes (Some say.Memory)) re names = absurd names

  abbrev Answers : Way → Type 0
  Answers way = (result : ℕ) × octets.AnswersOldest w place result (Some (item_of_msg m)) way

  answers_back : (a : Option Request) (way : Way) → AnswersOldest mw (suc place) t (outcome_of s (item_of_msg m) a way) → Answers way
  answers_back (Some q) (Goes (Some r)) x =
      let tells = (law.answers mw (suc place) t s m.0 m.1 q r (as_answers (turn_at_reply s (item_of_msg m) r).says) c ids).0 x in
      subst (λ (reply : Reply). Answers (Goes (Some reply))) (sym tells.0) (tells.1.0, names_as tells.1.0 tells.1.1)
  answers_back None (Goes None) x = absurd (quiet_answers_none mw (suc place) t (as_answers (turn_without_request s (item_of_msg m)).says) x)
  answers_back None (Goes (Some r)) x = absurd (stopped_answers_none mw (suc place) t x)
  answers_back (Some q) (Goes None) x = absurd (stopped_answers_none mw (suc place) t x)
  answers_back None (Stops r) x = absurd (stopped_answers_none mw (suc place) t x)
  answers_back (Some q) (Stops r) x = absurd (stopped_answers_none mw (suc place) t x)

  -- the book gets the result of the frame
  gains : (t : Up) (outcome : Outcome) (result : ℕ) → Carries mw s t (item_of_msg m) → AnswersOldest mw (suc place) t outcome → NamesOldestOrder mw (suc place) m.0 m.1 result
      → events.results_after mw.results t events.TellsResult ≡ mw.results ++ result ∷ []
  gains (Answer p r) outcome result c a n = ap (λ (k : ℕ). mw.results ++ k ∷ []) (sym (law.result mw (suc place) p r result s m.0 m.1 c n))
  gains OtherMessage outcome result c a n = absurd a

  pub told_as : (told : Telling) (a : Option Request) (way : Way) → IsReplied (item_of_msg m) a way → octets.MayTell w place (Some (item_of_msg m)) way told
      → IsTold mw (suc place) t (outcome_of s (item_of_msg m) a way) told
  told_as (Tells result) a way re may =
      let both = answers_too result a way re may in
      record { telling = events.TellsResult; may = both.0; gained = gains t (outcome_of s (item_of_msg m) a way) result c both.0 both.1 }
  told_as TellsNothing a way re may = record {
    telling = events.TellsNothing;
    may = λ x. let back = answers_back a way x in may back.0 back.1;
    gained = untold mw.results t;
  }
  told_as BookFails a way re may = record { telling = events.BookFails; may = (answers_too may.0 a way re may.1).0; gained = failed mw.results t }
