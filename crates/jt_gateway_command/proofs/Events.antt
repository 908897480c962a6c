-- What an event of a gateway does, whatever lines follow.
use Rattle.std.proofs.Common.{◌≡◌, ◌≢◌, ◌↔◌, ℕ, ◌-◌, Bool, true, false, not, if◌then◌else◌, List, ◌++◌, Result, Ok, Err, IfOk, refl, sym, ap, subst, ◌∙◌, inl, inr, append_assoc}
use Rattle.std.proofs.lemmas.Bool.{cases_Bool}
use Rattle.jt_platform.specs.declared.request.Entry.{Entry}
use Rattle.jt_play.specs.declared.error.WorldError.{WorldError}
use Rattle.jt_play.specs.declared.error.WorldError.TheVariants as refused
use Rattle.jt_play.proofs.Scenes.{names_it}
use Rattle.jt_input.specs.EarlyEnds.{full_line}
use Rattle.jt_input.specs.Lines.{Outcome, bad_outcome, printing}
use Rattle.jt_input.specs.declared.status.Status.TheVariants as status
use Rattle.jt_gateway.specs.Gateway.{GatewayScene, HasNoLine, entries_of, gateway_after_line, gateway_at_full, gateway_full}
use Rattle.jt_gateway.specs.declared.event.GatewayEvent.{GatewayEvent}
use Rattle.jt_gateway.specs.declared.event.GatewayEvent.TheVariants as asked
use Rattle.jt_value.specs.declared.memory.Memory.{Memory}
use Rattle.jt_input.specs.declared.hearer.Heard.{Heard}
use Rattle.jt_world.proofs.Heard.{named}
use Rattle.jt_gateway_command.specs.Hearing.{Does, GoesOn, IsBad, IsFull, Refuses, Steps}
use Rattle.jt_gateway_command.specs.Script.{after_line, full_outcome, gateway_names_no_line}
use Rattle.jt_gateway_command.specs.Texts.{event_text, is_pump, more_recorded, named_lines, pump_text, world_name}
use Rattle.jt_gateway_command.specs.declared.reading.GatewayLine.TheVariants.{Event}

-- ---- which line of communication an event names

shut : (b : Bool) → not b ≡ true → b ≡ false
shut false e = refl
shut true e = absurd cc

gateway_named : (g : GatewayScene) (e : GatewayEvent) → gateway_names_no_line g e ≡ true → (l : ℕ) × HasNoLine g e l
gateway_named g (asked.A event) e = let it = named g.a.play.world event e in (it.0, (it.1, it.2))
gateway_named g (asked.B event) e = let it = named g.b.play.world event e in (it.0, (it.1, it.2))
gateway_named g asked.Pump e = absurd cc
gateway_named g asked.RestartMiddle e = absurd cc

gateway_names_it : (g : GatewayScene) (e : GatewayEvent) (l : ℕ) → HasNoLine g e l → gateway_names_no_line g e ≡ true
gateway_names_it g (asked.A event) l no_line = names_it g.a.play.world event l no_line.0 no_line.1
gateway_names_it g (asked.B event) l no_line = names_it g.b.play.world event l no_line.0 no_line.1
gateway_names_it g asked.Pump l no_line = absurd no_line
gateway_names_it g asked.RestartMiddle l no_line = absurd no_line

-- what a step says of the line of communication that is named
abbrev pub TellsLine : {T : Type 0} → GatewayScene → GatewayEvent → Result T WorldError → Type 0
TellsLine g e r = (l : ℕ) → (r ≡ Err (refused.NoLine l)) ↔ HasNoLine g e l

none_named : {T : Type 0} (g : GatewayScene) (e : GatewayEvent) (r : Result T WorldError) → TellsLine g e r → ((l : ℕ) → r ≢ Err (refused.NoLine l)) → gateway_names_no_line g e ≡ false
none_named g e r tells other =
    elim (cases_Bool (gateway_names_no_line g e)) [
      | inl t ↦ let it = gateway_named g e t in absurd (other it.0 ((tells it.0).1 it.1))
      | inr f ↦ f
    ]

-- ---- what comes of an event

pub count_by : (count after before a b : ℕ) → count ≡ after - before → after ≡ a → before ≡ b → count ≡ a - b
count_by count after before a b is one other = is ∙ (ap (λ (n : ℕ). n - before) one ∙ ap (λ (n : ℕ). a - n) other)

module _ (g : GatewayScene) (event : GatewayEvent) (number : ℕ) (next : GatewayScene → Outcome GatewayScene) where
  abbrev if_named : Bool → Bool → Outcome GatewayScene
  if_named no_line full =
      if no_line then bad_outcome g number
      else if full then full_outcome (gateway_at_full g event)
      else printing (event_text g event (gateway_after_line g event)) (next (gateway_after_line g event))

  after_done : gateway_names_no_line g event ≡ false → gateway_full g event ≡ false
      → after_line g number next (Event event) ≡ printing (event_text g event (gateway_after_line g event)) (next (gateway_after_line g event))
  after_done opened room = ap (λ (b : Bool). if_named b (gateway_full g event)) opened ∙ ap (λ (b : Bool). if_named false b) room

  after_bad : gateway_names_no_line g event ≡ true → after_line g number next (Event event) ≡ bad_outcome g number
  after_bad shut = ap (λ (b : Bool). if_named b (gateway_full g event)) shut

  after_full : gateway_names_no_line g event ≡ false → gateway_full g event ≡ true → after_line g number next (Event event) ≡ full_outcome (gateway_at_full g event)
  after_full opened full = ap (λ (b : Bool). if_named b (gateway_full g event)) opened ∙ ap (λ (b : Bool). if_named false b) full

module _ (old new : GatewayScene) (event : GatewayEvent) (r : Result (List Entry) WorldError) (steps : Steps old event new r) where
  tells : TellsLine old event r
  tells = steps.no_line

  pub did_next : (entries : List Entry) → r ≡ Ok entries → (shown : List Entry) → shown ≡ entries → (name : List ℕ) → name ≡ world_name event → (pumps : Bool) → pumps ≡ is_pump event → (count : ℕ) → count ≡ more_recorded old new
      → (text text_now : List ℕ) → text_now ≡ text ++ pump_text pumps count ++ named_lines name shown → GoesOn old new (Event event) text text_now
  did_next entries is shown shown_is name name_is pumps pumps_is count count_is text text_now text_is =
      let same : new ≡ gateway_after_line old event = rw is at steps.ok in
      let room : gateway_full old event ≡ false = rw is at steps.room in
      let are : entries ≡ entries_of old new event = rw is at steps.entries in
      let other : (l : ℕ) → r ≢ Err (refused.NoLine l) = λ l e. let both : ◌≡◌ {A = Result (List Entry) WorldError} (Ok entries) (Err (refused.NoLine l)) = sym is ∙ e in absurd cc in
      record {
        added = event_text old event new;
        text_is =
            text_is
            ∙ (ap (λ (p : Bool). text ++ pump_text p count ++ named_lines name shown) pumps_is
            ∙ (ap (λ (k : ℕ). text ++ pump_text (is_pump event) k ++ named_lines name shown) count_is
            ∙ (ap (λ (n : List ℕ). text ++ pump_text (is_pump event) (more_recorded old new) ++ named_lines n shown) name_is
            ∙ ap (λ (es : List Entry). text ++ pump_text (is_pump event) (more_recorded old new) ++ named_lines (world_name event) es) (shown_is ∙ are)
            ∙ append_assoc text (pump_text (is_pump event) (more_recorded old new)) (named_lines (world_name event) (entries_of old new event)))));
        goes = λ number next.
            after_done old event number next (none_named old event r tells other) room
            ∙ ap (λ (q : GatewayScene). printing (event_text old event q) (next q)) (sym same);
      }

  did_bad : (l : ℕ) → r ≡ Err (refused.NoLine l) → (text text_now : List ℕ) → text_now ≡ text → IsBad old new (Event event) text text_now
  did_bad l is text text_now text_is = record {
    text_is = text_is;
    same = steps.same l is;
    ends = λ number next. after_bad old event number next (gateway_names_it old event l ((tells l).0 is));
  }

  did_full : (limit : ℕ) → r ≡ Err (refused.Full limit) → (text text_now : List ℕ) → text_now ≡ text ++ full_line limit → IsFull old new (Event event) text text_now status.StoreFault
  did_full limit is text text_now text_is =
      let full = steps.full limit is in
      let other : (l : ℕ) → r ≢ Err (refused.NoLine l) = λ l e. let both : ◌≡◌ {A = Result (List Entry) WorldError} (Err (refused.Full limit)) (Err (refused.NoLine l)) = sym is ∙ e in absurd cc in
      record {
        text_is = text_is ∙ ap (λ (l : ℕ). text ++ full_line l) full.0;
        is = refl;
        ends = λ number next. after_full old event number next (none_named old event r tells other) full.1 ∙ ap full_outcome (sym full.2);
      }

  pub did_not : (e : WorldError) (out : Result Heard Memory) (text text_now : List ℕ) → r ≡ Err e → Refuses e out text text_now → IfOk out (λ h. Does h old new (Event event) text text_now)
  did_not (refused.NoLine l) (Ok h) text text_now is refuses = subst (λ (x : Heard). Does x old new (Event event) text text_now) (sym refuses.0) (did_bad l is text text_now refuses.1)
  did_not (refused.Full limit) (Ok h) text text_now is refuses = subst (λ (x : Heard). Does x old new (Event event) text text_now) (sym refuses.0) (did_full limit is text text_now refuses.1)
  did_not refused.Memory (Ok h) text text_now is refuses = absurd refuses
  did_not (refused.NoLine l) (Err memory) text text_now is refuses = tt
  did_not (refused.Full limit) (Err memory) text text_now is refuses = tt
  did_not refused.Memory (Err memory) text text_now is refuses = tt
