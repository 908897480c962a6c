-- The octets up to one item, of a session as its fields have it.
use Rattle.std.proofs.Common.{◌≡◌, ℕ, ◌+◌, ◌-◌, List, ◌++◌, length, take, drop, Bool, true, false, Option, Some, None, inl, inr, refl, sym, ap, ◌∙◌, subst, arith, length-drop}
use Rattle.std.proofs.Math.Seq.{take-add}
use Rattle.std.proofs.lemmas.List.{take_all}
use Rattle.jt_value.specs.Octets.{AreOctets}
use Rattle.jt_escape.specs.Scan.{State as Splitting}
use Rattle.jt_header.specs.declared.header.Header.{Header}
use Rattle.jt_platform.specs.declared.request.Request.{Request}
use Rattle.jt_value.proofs.OctetLists.{AreOctets-take}
use Rattle.jt_session.specs.declared.step.Step.{Step}
use Rattle.jt_session.specs.declared.step.Step.TheVariants.{More}
use Rattle.jt_session.specs.declared.step.Came.{Came}
use Rattle.jt_session.specs.declared.step.Came.TheVariants.{Quiet, Asks, Memory}
use Rattle.jt_session.specs.Talk.{State}
use Rattle.jt_session.specs.Sessions.{Seen, LedTo, TakesUnasked}
use Rattle.jt_session.specs.Steps.{GoesOn}
use Rattle.jt_session.specs.Waiting.{message_at, state_of, waiting_of}
use Rattle.jt_session.specs.Reading.{OctetsCame}
use Rattle.jt_session.proofs.Turning.{silent_goes, quiet_goes, asked_goes, short_goes}

-- a session by its fields
abbrev pub seen : ℕ → Splitting → Option Header → State → State → Bool → Seen
seen number stream waiting kept was over = record { number = number; stream = stream; state = state_of waiting kept was; waiting = waiting_of waiting stream.content; over = over }

-- no request waits in it
pub is_free : (s : Seen) (number : ℕ) (stream : Splitting) (waiting : Option Header) (kept was : State) (over : Bool) → seen number stream waiting kept was over ≡ s → s.waiting ≡ None → waiting ≡ None
is_free s number stream None kept was over view free = refl
is_free s number stream (Some header) kept was over view free = absurd (let waits = ap (λ (x : Seen). x.waiting) view in cc)

module _ (number : ℕ) (stream stream_now : Splitting) (kept was kept_now was_now : State) (over : Bool) (octets out out_now : List ℕ) (spare : ℕ) (on : over ≡ false) where
  quiet_open : OctetsCame stream stream_now octets kept kept_now out out_now spare Quiet → GoesOn (seen number stream None kept was over) (seen number stream_now None kept_now was_now over) octets out out_now
  quiet_open (inl nothing) =
      silent_goes (seen number stream None kept was over) (seen number stream_now None kept_now was_now over) octets out out_now refl on
      (record { brings = nothing.brings; state = nothing.state; waiting = refl; over = on; number = refl; wrote = nothing.wrote })
  quiet_open (inr (item, passed)) =
      quiet_goes (seen number stream None kept was over) (seen number stream_now None kept_now was_now over) octets out out_now item refl on
      (record { brings = passed.brings; asked = passed.answered.none; state = passed.answered.state; waiting = refl; over = on; number = refl; wrote = passed.answered.wrote })

  asks_open : (header : Header) (q : Request) → OctetsCame stream stream_now octets kept kept_now out out_now spare (Asks header q) → was_now ≡ kept → GoesOn (seen number stream None kept was over) (seen number stream_now (Some header) kept_now was_now over) octets out out_now
  asks_open header q came same =
      asked_goes (seen number stream None kept was over) (seen number stream_now (Some header) kept_now was_now over) octets out out_now (message_at stream_now.content) refl on
      (record { brings = came.0; state = same; waiting = refl; over = on; number = refl; wrote = came.1.wrote })

  short_open : OctetsCame stream stream_now octets kept kept_now out out_now spare Memory → GoesOn (seen number stream None kept was over) (seen number stream_now None kept_now was_now true) octets out out_now
  short_open came =
      short_goes (seen number stream None kept was over) (seen number stream_now None kept_now was_now true) octets out out_now (message_at stream_now.content) refl on
      (record { brings = came.0; frame = refl; counted = came.1.counted; waiting = refl; over = refl; number = refl; wrote = came.1.wrote })

module _ (s : Seen) (number : ℕ) (stream stream_now : Splitting) (waiting : Option Header) (kept was kept_now was_now : State) (over : Bool) (octets out out_now : List ℕ) (spare : ℕ) (view : seen number stream waiting kept was over ≡ s) (free : s.waiting ≡ None) (on : s.over ≡ false) where
  none : waiting ≡ None
  none = is_free s number stream waiting kept was over view free

  still : over ≡ false
  still = ap (λ (x : Seen). x.over) view ∙ on

  from_open : (now : Seen) → GoesOn (seen number stream None kept was over) now octets out out_now → GoesOn s now octets out out_now
  from_open now goes = subst (λ x. GoesOn x now octets out out_now) view (subst (λ w. GoesOn (seen number stream w kept was over) now octets out out_now) (sym none) goes)

  held : (came other : Came) → came ≡ other → OctetsCame stream stream_now octets kept kept_now out out_now spare came → OctetsCame stream stream_now octets kept kept_now out out_now spare other
  held came other is it = subst (λ x. OctetsCame stream stream_now octets kept kept_now out out_now spare x) is it

  pub quiet_next : (came : Came) → came ≡ Quiet → OctetsCame stream stream_now octets kept kept_now out out_now spare came → GoesOn s (seen number stream_now waiting kept_now was_now over) octets out out_now
  quiet_next came is it =
      from_open (seen number stream_now waiting kept_now was_now over)
      (subst (λ w. GoesOn (seen number stream None kept was over) (seen number stream_now w kept_now was_now over) octets out out_now) (sym none)
      (quiet_open number stream stream_now kept was kept_now was_now over octets out out_now spare still (held came Quiet is it)))

  pub asks_next : (came : Came) (header : Header) (q : Request) → came ≡ Asks header q → OctetsCame stream stream_now octets kept kept_now out out_now spare came → was_now ≡ kept → GoesOn s (seen number stream_now (Some header) kept_now was_now over) octets out out_now
  asks_next came header q is it same =
      from_open (seen number stream_now (Some header) kept_now was_now over) (asks_open number stream stream_now kept was kept_now was_now over octets out out_now spare still header q (held came (Asks header q) is it) same)

  pub short_next : (came : Came) → came ≡ Memory → OctetsCame stream stream_now octets kept kept_now out out_now spare came → GoesOn s (seen number stream_now waiting kept_now was_now true) octets out out_now
  short_next came is it =
      from_open (seen number stream_now waiting kept_now was_now true)
      (subst (λ w. GoesOn (seen number stream None kept was over) (seen number stream_now w kept_now was_now true) octets out out_now) (sym none)
      (short_open number stream stream_now kept was kept_now was_now over octets out out_now spare still (held came Memory is it)))

-- one item more of a slice
pub takes_more : (first mid now : Seen) (octets : List ℕ) (taken count : ℕ) (front out out_now : List ℕ) → AreOctets octets → TakesUnasked first mid (take taken octets) front out → GoesOn mid now (take count (take (length octets - taken) (drop taken octets))) out out_now
    → TakesUnasked first now (take (taken + count) octets) front out_now
takes_more first mid now octets taken count front out out_now are so_far goes =
    let piece : take (length octets - taken) (drop taken octets) ≡ drop taken octets = take_all (length octets - taken) (drop taken octets) (omega (arith, length-drop taken octets)) in
    subst (λ some. TakesUnasked first now some front out_now) (ap (λ rest. take taken octets ++ take count rest) piece ∙ sym (take-add taken count octets)) (goes first (take taken octets) front (AreOctets-take taken octets are) so_far)

pub led_on : (now : Seen) (step : Step) → step ≡ More → LedTo now step → (now.waiting ≡ None) × (now.over ≡ false)
led_on now step is led = subst (LedTo now) is led
