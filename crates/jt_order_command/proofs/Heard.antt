-- How a world of orders hears a line of a script.
use Rattle.std.proofs.Common.{◌≡◌, ℕ, ◌+◌, Bool, if◌then◌else◌, IsTrue, List, [], ◌∷◌, ◌++◌, Result, Ok, Err, IfOk, None, refl, sym, ap, subst, ◌∙◌, append-nil}
use Rattle.jt_input.specs.Answer.{EndsEarly}
use Rattle.jt_input.specs.Lines.{Closes, Hears}
use Rattle.jt_input.specs.Text.{is_within}
use Rattle.jt_input.specs.declared.hearer.Heard.{Heard}
use Rattle.jt_input.specs.declared.hearer.Heard.TheVariants as heard
use Rattle.jt_input.specs.declared.status.Status.{Status}
use Rattle.jt_input.specs.declared.status.Status.TheVariants as status
use Rattle.jt_order.specs.declared.book.TheConstants.{ORDER_LIMIT}
use Rattle.jt_order_play.specs.Scripts.{OrderScene}
use Rattle.jt_order_command.specs.Hearing.{Does, GoesOn, IsBad}
use Rattle.jt_order_command.specs.Lines.{order_says, meaning}
use Rattle.jt_order_command.specs.Script.{after_line, outcome_of}
use Rattle.jt_order_command.specs.Texts.{end_line, full_line}
use Rattle.jt_order_command.specs.declared.reading.OrderLine.{OrderLine}
use Rattle.jt_order_command.specs.declared.reading.OrderLine.TheVariants.{Passed, Bad}

-- ---- lines that say nothing, or no event

pub passes : (s : OrderScene) (said : OrderLine) → said ≡ Passed → (text : List ℕ) → GoesOn s s said text text
passes s said is text = record {
  added = [];
  text_is = sym (append-nil text);
  goes = λ number next. ap (after_line s number next) is;
}

pub is_bad : (s : OrderScene) (said : OrderLine) → said ≡ Bad → (text : List ℕ) → IsBad s s said text text
is_bad s said is text = record { text_is = refl; same = refl; ends = λ number next. ap (after_line s number next) is }

-- ---- what comes of lines

meaning_is : (number : ℕ) (line : List ℕ) → IsTrue (is_within number line) → meaning number line ≡ order_says line
unfolding meaning
meaning_is number line within = ap (λ (b : Bool). if b then order_says line else Bad) within

module _ (old new : OrderScene) (number : ℕ) (line text text_now : List ℕ) (within : IsTrue (is_within number line)) where
  by_meaning : (more : List (List ℕ)) → outcome_of old number (line ∷ more) ≡ after_line old number (λ next. outcome_of next (number + 1) more) (order_says line)
  by_meaning more = ap (λ (said : OrderLine). after_line old number (λ next. outcome_of next (number + 1) more) said) (meaning_is number line within)

  hears_by : (h : Heard) → Does h old new (order_says line) text text_now → Hears h outcome_of old new number line text text_now
  hears_by heard.Next did = record {
    added = did.added;
    text_is = did.text_is;
    next = λ more. by_meaning more ∙ did.goes number (λ next. outcome_of next (number + 1) more);
  }
  hears_by heard.Bad did = record {
    text_is = did.text_is;
    same = did.same;
    whole = λ more. by_meaning more ∙ did.ends number (λ next. outcome_of next (number + 1) more);
  }
  hears_by (heard.Settled status) did = record {
    added = full_line ORDER_LIMIT;
    text_is = did.text_is;
    whole = λ more.
        by_meaning more
        ∙ (did.ends number (λ next. outcome_of next (number + 1) more)
        ∙ ap (λ (s : Status). record { left = new; text = full_line ORDER_LIMIT; bad = None; status = s }) (sym did.is));
  }

  pub hears : {E : Type 0} (r : Result Heard E) → IfOk r (λ h. Does h old new (order_says line) text text_now) → IfOk r (λ h. Hears h outcome_of old new number line text text_now)
  hears (Ok h) did = hears_by h did
  hears (Err error) did = tt

-- a line settles the answer as a book does that is full
settled_or : Heard → Status
settled_or (heard.Settled s) = s
settled_or heard.Next = status.StoreFault
settled_or heard.Bad = status.StoreFault

early_by : (h : Heard) (old new : OrderScene) (said : OrderLine) (text text_now : List ℕ) → Does h old new said text text_now → settled_or h ≡ status.StoreFault
unfolding settled_or
early_by heard.Next old new said text text_now did = refl
early_by heard.Bad old new said text text_now did = refl
early_by (heard.Settled s) old new said text text_now did = did.is

pub early : {E : Type 0} (r : Result Heard E) (old new : OrderScene) (said : OrderLine) (text text_now : List ℕ) → IfOk r (λ h. Does h old new said text text_now)
    → IfOk r (λ h. (q : Status) → h ≡ heard.Settled q → EndsEarly q)
unfolding settled_or
early (Ok h) old new said text text_now did = λ s is. subst EndsEarly (sym (early_by h old new said text text_now did) ∙ ap settled_or is) tt
early (Err error) old new said text text_now did = tt

-- the script was read whole
pub closes : (s : OrderScene) (text text_now : List ℕ) → text_now ≡ text ++ end_line s.play.world → Closes outcome_of s s text text_now status.Done
closes s text text_now is = record { added = end_line s.play.world; text_is = is; whole = λ number. refl }
