-- What a book is told of one octet of a session, as a telling of the world.
use Rattle.std.proofs.Common.{ℕ, ◌≡◌, ◌≢◌, ◌⊎◌, ◌↔◌, List, [], ◌∷◌, ◌++◌, length, Option, Some, None, Result, Bool, true, false, refl, ap, sym, ◌∙◌, subst, IsOk, inl, inr}
use Rattle.std.specs.Prelude.{if◌then◌else◌, ◌&&◌, nat_lt, ◌==◌}
use Rattle.std.specs.Option.{option_and_then}
use Rattle.std.proofs.lemmas.Bool.{false≢true, and_parts, ltb-true, lt-ltb, eqb-true, eq-eqb}
use Rattle.std.proofs.lemmas.Option.{none-some, same_Some}
use Rattle.jt_value.specs.Serials.{serial_of}
use Rattle.jt_header.specs.declared.header.Header.{Header}
use Rattle.jt_stream.specs.Unplaced.{Unplaced, Message as Frame, Fault}
use Rattle.jt_store.specs.declared.error.StoreError.{StoreError}
use Rattle.jt_platform.specs.declared.request.Reply.TheVariants as say
use Rattle.jt_session.specs.Talk.{Turn, Way, Goes, Stops}
use Rattle.jt_order.specs.Books.{Book, with_result}
use Rattle.jt_obeying.specs.Orders.{order_at}
use Rattle.jt_order_turns.specs.Turns.{IsResponse}
use Rattle.jt_order_session.specs.Responses.{response_in}
use Rattle.jt_order_session.specs.Sessions.{Tells as TellsBook, book_by, book_by_turns, is_number, names_oldest, told_of}
use Rattle.jt_play.proofs.Upward.{OfTurns}
use Rattle.jt_order_octets.specs.World.{OrderWorld, sent_at}
use Rattle.jt_order_octets.specs.Steps.{AnswersOldest, MayTell, NamesOldest, Telling, TellsNothing, results_after}
use Rattle.jt_order_play.specs.Holding.{failed_by}
use Rattle.jt_order_play.specs.Playing.{book_of, result_in, result_named, told_by}

-- ---- the book, by the result

abbrev pub with_told : Book → Option ℕ → Book
with_told b None = b
with_told b (Some r) = record { issued = b.issued; results = b.results ++ r ∷ [] }

told_frame : {R : Type 0} (names : R → Bool) (result : R → ℕ) (told : Option R → Option Book) (b : Book) → told None ≡ Some b → ((r : R) → told (Some r) ≡ (if names r then with_result (result r) (Some b) else Some b)) → (o : Option R)
    → told o ≡ Some (with_told b (option_and_then (λ (r : R). if names r then Some (result r) else None) o))
told_frame names result told b none some None = none
told_frame {R} names result told b none some (Some r) = some r ∙ by (names r)
  where
    by : (c : Bool) → (if c then with_result (result r) (Some b) else Some b) ≡ Some (with_told b (if c then Some (result r) else None))
    by true = refl
    by false = refl

-- the book behind one turn is that with its result
told_turn : (sent : Option ℕ) (b : Book) (item : Unplaced) (way : Way) → book_by sent item way (Some b) ≡ Some (with_told b (result_in sent b (Some item) way))
told_turn sent b (Fault place why) way = refl
told_turn sent b (Frame h octets) (Goes None) = refl
told_turn sent b (Frame h octets) (Stops reply) = refl
told_turn sent b (Frame h octets) (Goes (Some say.Accepted)) = told_frame (λ r. names_oldest sent b r) (λ r. r.result) (λ o. told_of sent o (Some b)) b refl (λ r. refl) (response_in h octets)
told_turn sent b (Frame h octets) (Goes (Some (say.Registered code))) = refl
told_turn sent b (Frame h octets) (Goes (Some (say.Denied n))) = refl
told_turn sent b (Frame h octets) (Goes (Some (say.Stored n))) = refl
told_turn sent b (Frame h octets) (Goes (Some (say.Repeat n))) = refl
told_turn sent b (Frame h octets) (Goes (Some (say.Renumbered n))) = refl
told_turn sent b (Frame h octets) (Goes (Some say.NotLive)) = refl
told_turn sent b (Frame h octets) (Goes (Some (say.Fenced other))) = refl
told_turn sent b (Frame h octets) (Goes (Some (say.ListFull l))) = refl
told_turn sent b (Frame h octets) (Goes (Some say.StoreFault)) = refl
told_turn sent b (Frame h octets) (Goes (Some say.Memory)) = refl

-- ---- a result that is named

then_some : {R : Type 0} (names : R → Bool) (result : R → ℕ) (o : Option R) (n : ℕ) → option_and_then (λ (r : R). if names r then Some (result r) else None) o ≡ Some n → (r : R) × (o ≡ Some r) × (names r ≡ true) × (result r ≡ n)
then_some names result None n e = absurd (none-some n e)
then_some {R} names result (Some r) n e = by (names r) refl e
  where
    by : (c : Bool) → names r ≡ c → (if c then Some (result r) else None) ≡ Some n → (x : R) × (Some r ≡ Some x) × (names x ≡ true) × (result x ≡ n)
    by true f g = (r, refl, f, same_Some (result r) n g)
    by false f g = absurd (none-some n g)

number_is : (sent : Option ℕ) (n : ℕ) → is_number sent n ≡ true → sent ≡ Some n
number_is None n e = absurd (false≢true e)
number_is (Some number) n e = ap (λ (m : ℕ). Some m) (eqb-true number n e)

-- ---- the call

-- the book was told, or failed, as a telling that may come; where all was done it was told
pub record ToldSo (w : OrderWorld) (place : ℕ) (item : Option Unplaced) (way : Way) (b : Book) (told : Result (Unit {0}) StoreError) : Type 0 where
  pub telling : Telling
  pub may : MayTell w place item way telling
  pub issued : b.issued ≡ w.issued
  pub results : b.results ≡ results_after w.results telling
  pub whole : IsOk told → telling ≡ told_by (result_in (sent_at w place) (book_of w) item way)

-- A response that is read is the one that the world takes the frame for.
module _ (law : (h : Header) (octets : List ℕ) (r : _) → (response_in h octets ≡ Some r) ↔ IsResponse h octets r.reply r.id r.result) where
  named_to : (w : OrderWorld) (place : ℕ) (h : Header) (octets : List ℕ) (n : ℕ) → result_named (sent_at w place) (book_of w) h octets ≡ Some n → NamesOldest w place n h octets
  named_to w place h octets n e =
      let found = then_some (λ r. names_oldest (sent_at w place) (book_of w) r) (λ r. r.result) (response_in h octets) n e in
      let x = found.0 in
      let serial = serial_of (length w.results) in
      let id = (order_at w.issued (length w.results)).id in
      let a = and_parts (nat_lt (length w.results) (length w.issued)) (is_number (sent_at w place) (length w.results) && ((x.reply == serial) && (x.id == id))) found.2 in
      let b = and_parts (is_number (sent_at w place) (length w.results)) ((x.reply == serial) && (x.id == id)) a.1 in
      let c = and_parts (x.reply == serial) (x.id == id) b.1 in
      record {
        waits = ltb-true (length w.results) (length w.issued) a.0;
        sent = number_is (sent_at w place) (length w.results) b.0;
        response = subst (λ (r : ℕ). IsResponse h octets serial id r) found.3 (subst (λ (i : ℕ). IsResponse h octets serial i x.result) (eqb-true x.id id c.1)
            (subst (λ (r : ℕ). IsResponse h octets r x.id x.result) (eqb-true x.reply serial c.0) ((law h octets x).0 found.1)));
      }

  named_from : (w : OrderWorld) (place : ℕ) (h : Header) (octets : List ℕ) (n : ℕ) → NamesOldest w place n h octets → result_named (sent_at w place) (book_of w) h octets ≡ Some n
  named_from w place h octets n named =
      let place-2 = length w.results in
      let serial = serial_of place-2 in
      let id = (order_at w.issued place-2).id in
      ap (λ o. option_and_then (λ r. if names_oldest (sent_at w place) (book_of w) r then Some r.result else None) o) ((law h octets (record { reply = serial; id = id; result = n })).1 named.response)
      ∙ ap (λ (c : Bool). if c then Some n else None)
      (ap (λ (c : Bool). c && (is_number (sent_at w place) place-2 && ((serial == serial) && (id == id)))) (lt-ltb place-2 (length w.issued) named.waits)
      ∙ (ap (λ (o : Option ℕ). is_number o place-2 && ((serial == serial) && (id == id))) named.sent
      ∙ (ap (λ (c : Bool). c && ((serial == serial) && (id == id))) (eq-eqb place-2 place-2 refl)
      ∙ (ap (λ (c : Bool). c && (id == id)) (eq-eqb serial serial refl) ∙ eq-eqb id id refl))))

  -- ---- the telling that may come

  answers_to : (w : OrderWorld) (place : ℕ) (item : Option Unplaced) (way : Way) (n : ℕ) → result_in (sent_at w place) (book_of w) item way ≡ Some n → AnswersOldest w place n item way
  answers_to w place None way n e = absurd (none-some n e)
  answers_to w place (Some (Fault octet why)) way n e = absurd (none-some n e)
  answers_to w place (Some (Frame h octets)) (Goes None) n e = absurd (none-some n e)
  answers_to w place (Some (Frame h octets)) (Stops reply) n e = absurd (none-some n e)
  answers_to w place (Some (Frame h octets)) (Goes (Some say.Accepted)) n e = named_to w place h octets n e
  answers_to w place (Some (Frame h octets)) (Goes (Some (say.Registered code))) n e = absurd (none-some n e)
  answers_to w place (Some (Frame h octets)) (Goes (Some (say.Denied x))) n e = absurd (none-some n e)
  answers_to w place (Some (Frame h octets)) (Goes (Some (say.Stored x))) n e = absurd (none-some n e)
  answers_to w place (Some (Frame h octets)) (Goes (Some (say.Repeat x))) n e = absurd (none-some n e)
  answers_to w place (Some (Frame h octets)) (Goes (Some (say.Renumbered x))) n e = absurd (none-some n e)
  answers_to w place (Some (Frame h octets)) (Goes (Some say.NotLive)) n e = absurd (none-some n e)
  answers_to w place (Some (Frame h octets)) (Goes (Some (say.Fenced other))) n e = absurd (none-some n e)
  answers_to w place (Some (Frame h octets)) (Goes (Some (say.ListFull l))) n e = absurd (none-some n e)
  answers_to w place (Some (Frame h octets)) (Goes (Some say.StoreFault)) n e = absurd (none-some n e)
  answers_to w place (Some (Frame h octets)) (Goes (Some say.Memory)) n e = absurd (none-some n e)

  answers_from : (w : OrderWorld) (place : ℕ) (item : Option Unplaced) (way : Way) (n : ℕ) → AnswersOldest w place n item way → result_in (sent_at w place) (book_of w) item way ≡ Some n
  answers_from w place None way n a = absurd a
  answers_from w place (Some (Fault octet why)) way n a = absurd a
  answers_from w place (Some (Frame h octets)) (Goes None) n a = absurd a
  answers_from w place (Some (Frame h octets)) (Stops reply) n a = absurd a
  answers_from w place (Some (Frame h octets)) (Goes (Some say.Accepted)) n a = named_from w place h octets n a
  answers_from w place (Some (Frame h octets)) (Goes (Some (say.Registered code))) n a = absurd a
  answers_from w place (Some (Frame h octets)) (Goes (Some (say.Denied x))) n a = absurd a
  answers_from w place (Some (Frame h octets)) (Goes (Some (say.Stored x))) n a = absurd a
  answers_from w place (Some (Frame h octets)) (Goes (Some (say.Repeat x))) n a = absurd a
  answers_from w place (Some (Frame h octets)) (Goes (Some (say.Renumbered x))) n a = absurd a
  answers_from w place (Some (Frame h octets)) (Goes (Some say.NotLive)) n a = absurd a
  answers_from w place (Some (Frame h octets)) (Goes (Some (say.Fenced other))) n a = absurd a
  answers_from w place (Some (Frame h octets)) (Goes (Some (say.ListFull l))) n a = absurd a
  answers_from w place (Some (Frame h octets)) (Goes (Some say.StoreFault)) n a = absurd a
  answers_from w place (Some (Frame h octets)) (Goes (Some say.Memory)) n a = absurd a

  told_may : (w : OrderWorld) (place : ℕ) (item : Option Unplaced) (way : Way) → MayTell w place item way (told_by (result_in (sent_at w place) (book_of w) item way))
  told_may w place item way = by (result_in (sent_at w place) (book_of w) item way) refl
    where
      by : (o : Option ℕ) → result_in (sent_at w place) (book_of w) item way ≡ o → MayTell w place item way (told_by o)
      by None e = λ n a. none-some n (sym e ∙ answers_from w place item way n a)
      by (Some n) e = answers_to w place item way n e

  failed_may : (w : OrderWorld) (place : ℕ) (item : Option Unplaced) (way : Way) → MayTell w place item way (failed_by (result_in (sent_at w place) (book_of w) item way))
  failed_may w place item way = by (result_in (sent_at w place) (book_of w) item way) refl
    where
      by : (o : Option ℕ) → result_in (sent_at w place) (book_of w) item way ≡ o → MayTell w place item way (failed_by o)
      by None e = λ n a. none-some n (sym e ∙ answers_from w place item way n a)
      by (Some n) e = (n, answers_to w place item way n e)

  one_parts : (t : Turn) (newer older : List Turn) → t ∷ [] ≡ newer ++ older → ((newer ≡ []) × (older ≡ t ∷ [])) ⊎ ((newer ≢ []) × (older ≡ []))
  one_parts t [] older e = inl (refl, sym e)
  one_parts t (x ∷ []) older e = inr ((λ f. absurd cc), sym (ap tail e))
    where
      tail : List Turn → List Turn
      tail [] = []
      tail (y ∷ ys) = ys
  one_parts t (x ∷ y ∷ newer) older e = absurd cc

  no_parts : (newer older : List Turn) → [] ≡ newer ++ older → older ≡ []
  no_parts [] older e = sym e
  no_parts (x ∷ newer) older e = absurd cc

  issued_is : (b : Book) (o : Option ℕ) → (with_told b o).issued ≡ b.issued
  issued_is b None = refl
  issued_is b (Some n) = refl

  results_told : (b : Book) (o : Option ℕ) → (with_told b o).results ≡ results_after b.results (told_by o)
  results_told b None = refl
  results_told b (Some n) = refl

  results_failed : (results : List ℕ) (o : Option ℕ) → results ≡ results_after results (failed_by o)
  results_failed results None = refl
  results_failed results (Some n) = refl

  pub told_so : (w : OrderWorld) (place : ℕ) (item : Option Unplaced) (way : Way) (turns : List Turn) (b : Book) (told : Result (Unit {0}) StoreError) → OfTurns turns item way → TellsBook (sent_at w place) (Some (book_of w)) (Some b) turns told → ToldSo w place item way b told
  told_so w place item way turns b told (inl (none, no_item)) t = record {
    telling = TellsNothing;
    may = subst (λ (i : Option Unplaced). MayTell w place i way TellsNothing) (sym no_item) (λ n a. a);
    issued = ap (λ (x : Book). x.issued) same;
    results = ap (λ (x : Book). x.results) same;
    whole = λ ok. ap (λ (i : Option Unplaced). told_by (result_in (sent_at w place) (book_of w) i way)) (sym no_item);
  }
    where
      same : b ≡ book_of w
      same = same_Some b (book_of w) (t.told ∙ ap (λ (ts : List Turn). book_by_turns (sent_at w place) ts (Some (book_of w))) (no_parts t.newer t.older (sym none ∙ t.parts)))
  told_so w place item way turns b told (inr (x, one, item_is, way_is)) t = by (one_parts x t.newer t.older (sym one ∙ t.parts))
    where
      by : ((t.newer ≡ []) × (t.older ≡ x ∷ [])) ⊎ ((t.newer ≢ []) × (t.older ≡ [])) → ToldSo w place item way b told
      by (inl (all, older)) = record {
        telling = told_by (result_in (sent_at w place) (book_of w) item way);
        may = told_may w place item way;
        issued = ap (λ (y : Book). y.issued) same ∙ issued_is (book_of w) (result_in (sent_at w place) (book_of w) item way);
        results = ap (λ (y : Book). y.results) same ∙ results_told (book_of w) (result_in (sent_at w place) (book_of w) item way);
        whole = λ ok. refl;
      }
        where
          same : b ≡ with_told (book_of w) (result_in (sent_at w place) (book_of w) item way)
          same = same_Some b (with_told (book_of w) (result_in (sent_at w place) (book_of w) item way))
              (t.told ∙ (ap (λ (ts : List Turn). book_by_turns (sent_at w place) ts (Some (book_of w))) older ∙ (told_turn (sent_at w place) (book_of w) x.item x.way
              ∙ (ap (λ (i : Option Unplaced). Some (with_told (book_of w) (result_in (sent_at w place) (book_of w) i x.way))) (sym item_is) ∙ ap (λ (y : Way). Some (with_told (book_of w) (result_in (sent_at w place) (book_of w) item y))) (sym way_is)))))
      by (inr (some, older)) = record {
        telling = failed_by (result_in (sent_at w place) (book_of w) item way);
        may = failed_may w place item way;
        issued = ap (λ (y : Book). y.issued) same;
        results = ap (λ (y : Book). y.results) same ∙ results_failed w.results (result_in (sent_at w place) (book_of w) item way);
        whole = λ ok. absurd (some (t.all ok));
      }
        where
          same : b ≡ book_of w
          same = same_Some b (book_of w) (t.told ∙ ap (λ (ts : List Turn). book_by_turns (sent_at w place) ts (Some (book_of w))) older)
