-- A book that is told of turns, newest first.
use Rattle.std.proofs.Common.{ℕ, ◌≡◌, List, [], ◌∷◌, ◌++◌, Option, Some, None, Result, Bool, true, false, refl, ap, sym, ◌∙◌, IsOk}
use Rattle.std.specs.Prelude.{if◌then◌else◌}
use Rattle.jt_stream.specs.Unplaced.{Unplaced, Message as Frame, Fault}
use Rattle.jt_store.specs.declared.error.StoreError.{StoreError}
use Rattle.jt_platform.specs.declared.request.Reply.TheVariants as say
use Rattle.jt_session.specs.Talk.{Turn, Way, Goes, Stops}
use Rattle.jt_order.specs.Books.{Book, with_result}
use Rattle.jt_order_session.specs.Responses.{response_in}
use Rattle.jt_order_session.specs.Sessions.{Tells as TellsBook, book_by, book_by_turns, names_oldest, told_of}

-- a book that is known stays known
abbrev Known : Option Book → Type 0
Known told = (b : Book) × (told ≡ Some b)

known_frame : {R : Type 0} (names : R → Bool) (result : R → ℕ) (told : Option R → Option Book) (b : Book) → told None ≡ Some b → ((r : R) → told (Some r) ≡ (if names r then with_result (result r) (Some b) else Some b)) → (o : Option R) → Known (told o)
known_frame names result told b none some None = (b, none)
known_frame {R} names result told b none some (Some r) = let chosen = by (names r) in (chosen.0, some r ∙ chosen.1)
  where
    by : (c : Bool) → Known (if c then with_result (result r) (Some b) else Some b)
    by true = (record { issued = b.issued; results = b.results ++ result r ∷ [] }, refl)
    by false = (b, refl)

known_turn : (sent : Option ℕ) (b : Book) (item : Unplaced) (way : Way) → Known (book_by sent item way (Some b))
known_turn sent b (Fault place why) way = (b, refl)
known_turn sent b (Frame h octets) (Goes None) = (b, refl)
known_turn sent b (Frame h octets) (Stops reply) = (b, refl)
known_turn sent b (Frame h octets) (Goes (Some say.Accepted)) = known_frame (λ r. names_oldest sent b r) (λ r. r.result) (λ o. told_of sent o (Some b)) b refl (λ r. refl) (response_in h octets)
known_turn sent b (Frame h octets) (Goes (Some (say.Registered code))) = (b, refl)
known_turn sent b (Frame h octets) (Goes (Some (say.Denied n))) = (b, refl)
known_turn sent b (Frame h octets) (Goes (Some (say.Stored n))) = (b, refl)
known_turn sent b (Frame h octets) (Goes (Some (say.Repeat n))) = (b, refl)
known_turn sent b (Frame h octets) (Goes (Some (say.Renumbered n))) = (b, refl)
known_turn sent b (Frame h octets) (Goes (Some say.NotLive)) = (b, refl)
known_turn sent b (Frame h octets) (Goes (Some (say.Fenced other))) = (b, refl)
known_turn sent b (Frame h octets) (Goes (Some (say.ListFull l))) = (b, refl)
known_turn sent b (Frame h octets) (Goes (Some say.StoreFault)) = (b, refl)
known_turn sent b (Frame h octets) (Goes (Some say.Memory)) = (b, refl)

pub known_turns : (sent : Option ℕ) (turns : List Turn) (b : Book) → (b_now : Book) × (book_by_turns sent turns (Some b) ≡ Some b_now)
known_turns sent [] b = (b, refl)
known_turns sent (t ∷ older) b =
    let before = known_turns sent older b in
    let after_call = known_turn sent before.0 t.item t.way in
    (after_call.0, ap (book_by sent t.item t.way) before.1 ∙ after_call.1)

-- ---- the newest turn apart

-- the book between the older turns and the newest
pub record Between (sent : Option ℕ) (b b_now : Book) (t : Turn) (older : List Turn) (told : Result (Unit {0}) StoreError) : Type 0 where
  pub mid : Book
  pub first : TellsBook sent (Some b) (Some mid) older told
  pub second : TellsBook sent (Some mid) (Some b_now) (t ∷ []) told

abbrev tail : List Turn → List Turn
tail [] = []
tail (t ∷ older) = older

no_turn : (t : Turn) (newer : List Turn) → t ∷ newer ≡ [] → ⊥
no_turn t newer e = cc

pub between : (sent : Option ℕ) (b b_now : Book) (t : Turn) (older : List Turn) (told : Result (Unit {0}) StoreError) → TellsBook sent (Some b) (Some b_now) (t ∷ older) told → Between sent b b_now t older told
between sent b b_now t older told x = by x.newer x.parts x.all
  where
    by : (newer : List Turn) → t ∷ older ≡ newer ++ x.older → (IsOk told → newer ≡ []) → Between sent b b_now t older told
    by [] parts all = record {
      mid = (known_turns sent older b).0;
      first = record { newer = []; older = older; parts = refl; told = sym (known_turns sent older b).1; all = λ ok. refl };
      second = record {
        newer = [];
        older = t ∷ [];
        parts = refl;
        told = x.told ∙ (ap (λ (turns : List Turn). book_by_turns sent turns (Some b)) (sym parts) ∙ ap (book_by sent t.item t.way) (known_turns sent older b).1);
        all = λ ok. refl;
      };
    }
    by (u ∷ newer) parts all = record {
      mid = b_now;
      first = record { newer = newer; older = x.older; parts = ap tail parts; told = x.told; all = λ ok. absurd (no_turn u newer (all ok)) };
      second = record { newer = t ∷ []; older = []; parts = refl; told = refl; all = λ ok. absurd (no_turn u newer (all ok)) };
    }

-- no turns
pub told_none : (sent : Option ℕ) (b b_now : Book) (told : Result (Unit {0}) StoreError) → TellsBook sent (Some b) (Some b_now) [] told → Some b_now ≡ Some b
told_none sent b b_now told x = x.told ∙ ap (λ (turns : List Turn). book_by_turns sent turns (Some b)) (by x.newer x.older x.parts)
  where
    by : (newer older : List Turn) → [] ≡ newer ++ older → older ≡ []
    by [] older parts = sym parts
    by (u ∷ newer) older parts = absurd (no_turn u (newer ++ older) (sym parts))
