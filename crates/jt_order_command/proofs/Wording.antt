-- What the words of an order say, by what `Order::read` answers.
use Rattle.std.proofs.Common.{◌≡◌, eqb, ℕ, ◌≤◌, ◌<◌, Bool, true, false, if◌then◌else◌, List, [], ◌∷◌, length, inl, inr, Ok, Err, refl, ap, subst, ◌∙◌}
use Rattle.std.proofs.lemmas.Bool.{cases_Bool, le-leb, lt-leb}
use Rattle.std.proofs.lemmas.List.Splits.{slice_split-cons_yes, slice_split-cons_no}
use Rattle.std.specs.List.{onto_first}
use Rattle.std.specs.Prelude.{nat_le, ◌&&◌, is_ok}
use Rattle.jt_value.specs.Octets.{AreOctets}
use Rattle.jt_value.specs.declared.limits.TheConstants.{BODY_LIMIT}
use Rattle.jt_value.specs.declared.phone.Edition.TheVariants.{E2013}
use Rattle.jt_value.specs.declared.refusal.Refusal.{Refusal}
use Rattle.jt_codec.specs.Bodies.{body}
use Rattle.jt_codec.specs.Law.{AreOneToOne}
use Rattle.jt_script.specs.EventLines.{words}
use Rattle.jt_order.specs.Orders.{OrderOf, is_order_id}
use Rattle.jt_order.specs.Reading.{ReadsOrder}
use Rattle.jt_order.specs.declared.order.OrderError.{OrderError}
use Rattle.jt_order.specs.declared.order.OrderError.TheVariants as errors
use Rattle.jt_order_play.specs.declared.event.OrderEvent.TheVariants as asked
use Rattle.jt_order_command.specs.Lines.{issue_of, order_said}
use Rattle.jt_order_command.specs.declared.reading.OrderLine.{OrderLine}
use Rattle.jt_order_command.specs.declared.reading.OrderLine.TheVariants.{Event, Bad}

-- ---- words

behind_first : (x : ℕ) (ws : List (List ℕ)) (id octets : List ℕ) → issue_of (id ∷ octets ∷ onto_first x ws) ≡ Bad
behind_first x [] id octets = refl
behind_first x (w ∷ ws) id octets = refl

-- three words behind `issue` are no order
pub three_words : (rest id octets : List ℕ) → issue_of (id ∷ octets ∷ words rest) ≡ Bad
three_words [] id octets = refl
three_words (x ∷ xs) id octets =
    elim (cases_Bool (eqb x 32)) [
      | inl t ↦ ap (λ (ws : List (List ℕ)). issue_of (id ∷ octets ∷ ws)) (slice_split-cons_yes (λ octet. eqb octet 32) x xs t)
      | inr f ↦ ap (λ (ws : List (List ℕ)). issue_of (id ∷ octets ∷ ws)) (slice_split-cons_no (λ octet. eqb octet 32) x xs f) ∙ behind_first x (words xs) id octets
    ]

-- ---- three tests

all_true : (a b c : Bool) (x y : OrderLine) → a ≡ true → b ≡ true → c ≡ true → x ≡ (if a && (b && c) then x else y)
all_true a b c x y one two three = rw (one, two, three) refl

first_false : (a b c : Bool) (x y : OrderLine) → a ≡ false → y ≡ (if a && (b && c) then x else y)
first_false a b c x y one = rw one refl

second_false : (a b c : Bool) (x y : OrderLine) → a ≡ true → b ≡ false → y ≡ (if a && (b && c) then x else y)
second_false a b c x y one two = rw (one, two) refl

third_false : (a b c : Bool) (x y : OrderLine) → a ≡ true → b ≡ true → c ≡ false → y ≡ (if a && (b && c) then x else y)
third_false a b c x y one two three = rw (one, two, three) refl

-- ---- an order, and what is none

module _ (law : AreOneToOne) (id : ℕ) (s : List ℕ) (octets : AreOctets s) where
  abbrev order : OrderLine
  order = Event (asked.Issue (record { id = id; body = s }))

  abbrev reads : Bool
  reads = is_ok ((body E2013 id).read s 0)

  pub order_is : (o : OrderOf) → ReadsOrder E2013 id s (Ok o) → Event (asked.Issue o) ≡ order_said id s
  unfolding order_said
  order_is o r =
      let read = ((law E2013 id).reads_value s r.3.0 octets).1 r.3.1 in
      ap (λ (x : OrderOf). Event (asked.Issue x)) r.0
      ∙ all_true (is_order_id id) (nat_le (length s) BODY_LIMIT) reads order Bad r.1 (le-leb (length s) BODY_LIMIT r.2) (ap is_ok read)

  pub no_order_id : (e : OrderError) (n : ℕ) → e ≡ errors.NotOrder n → ReadsOrder E2013 id s (Err e) → Bad ≡ order_said id s
  unfolding order_said
  no_order_id e n is answers =
      let r = subst (λ (x : OrderError). ReadsOrder E2013 id s (Err x)) is answers in
      first_false (is_order_id id) (nat_le (length s) BODY_LIMIT) reads order Bad r.1

  pub too_long : (e : OrderError) (n : ℕ) → e ≡ errors.Long n → ReadsOrder E2013 id s (Err e) → Bad ≡ order_said id s
  unfolding order_said
  too_long e n is answers =
      let r = subst (λ (x : OrderError). ReadsOrder E2013 id s (Err x)) is answers in
      second_false (is_order_id id) (nat_le (length s) BODY_LIMIT) reads order Bad r.1 (lt-leb (length s) BODY_LIMIT r.2)

  pub no_body : (e : OrderError) (refusal : Refusal) → e ≡ errors.Refused refusal → ReadsOrder E2013 id s (Err e) → Bad ≡ order_said id s
  unfolding order_said
  no_body e refusal is answers =
      let r = subst (λ (x : OrderError). ReadsOrder E2013 id s (Err x)) is answers in
      let read = ((law E2013 id).reads_reason s refusal octets).1 r.2 in
      third_false (is_order_id id) (nat_le (length s) BODY_LIMIT) reads order Bad r.0 (le-leb (length s) BODY_LIMIT r.1) (ap is_ok read)
