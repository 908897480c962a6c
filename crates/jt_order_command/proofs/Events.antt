-- What an event of a script of orders does, whatever lines follow.
use Rattle.std.proofs.Common.{◌≡◌, ◌≢◌, ◌↔◌, ℕ, ◌+◌, ◌^◌, Bool, true, false, not, if◌then◌else◌, List, ◌++◌, Result, Ok, Err, IfOk, refl, sym, ap, subst, ◌∙◌, inl, inr, length, drop}
use Rattle.std.proofs.lemmas.Bool.{cases_Bool}
use Rattle.jt_value.specs.declared.memory.Memory.{Memory}
use Rattle.jt_input.specs.Lines.{Outcome, bad_outcome, printing}
use Rattle.jt_input.specs.declared.hearer.Heard.{Heard}
use Rattle.jt_input.specs.declared.hearer.Heard.TheVariants as heard
use Rattle.jt_input.specs.declared.status.Status.TheVariants as status
use Rattle.jt_terminal_rule.specs.declared.settings.Settings.{Settings}
use Rattle.jt_terminal_rule.specs.declared.state.Event.TheVariants as terminal
use Rattle.jt_order_octets.specs.World.{OrderWorld}
use Rattle.jt_order_play.specs.Playing.{ComesTo, OrderPlay, RunsTo, finds_full, is_opened, meets, moves, names_no_line, play_after, runs}
use Rattle.jt_order_play.specs.Scripts.{Names, OrderScene}
use Rattle.jt_order_play.specs.declared.event.OrderEvent.{OrderEvent}
use Rattle.jt_order_play.specs.declared.event.OrderEvent.TheVariants as line
use Rattle.jt_order_play.specs.declared.error.OrderWorldError.{OrderWorldError}
use Rattle.jt_order_play.specs.declared.error.OrderWorldError.TheVariants as refused
use Rattle.jt_order_play.proofs.Composing.{rounds_past}
use Rattle.jt_order_play.proofs.Scenes.{names_it}
use Rattle.jt_order_command.specs.Hearing.{Does, GoesOn, IsBad, IsFull, Refuses, Steps}
use Rattle.jt_order_command.specs.Script.{after_line, round_limit_outcome, full_outcome, passes_round_limit, scene_after}
use Rattle.jt_order_command.specs.Texts.{event_text, full_line, orders_text}
use Rattle.jt_order_command.specs.declared.reading.OrderLine.TheVariants.{Event}

-- ---- the world that an event comes to

-- the rounds of a `run` that ended are those of 2^64
runs_is : (p now : OrderPlay) → RunsTo p now → now ≡ runs p
unfolding runs
runs_is p now to = rounds_past to.count (2 ^ 64) (meets p (terminal.Tick p.clock)) now to.few to.is to.still

comes : (settings : Settings) (p : OrderPlay) (e : OrderEvent) (now : OrderPlay) → ComesTo settings p e now → (now ≡ play_after settings p e) × (passes_round_limit p e ≡ false)
comes settings p (line.Issue order) now is = (is, refl)
comes settings p line.Open now is = (is, refl)
comes settings p (line.Up number count) now is = (is, refl)
comes settings p (line.Down count) now is = (is, refl)
comes settings p (line.Tick by) now is = (is, refl)
comes settings p line.Run now to = (runs_is p now to, ap moves (sym (runs_is p now to)) ∙ to.still)
comes settings p (line.Cut number) now is = (is, refl)
comes settings p line.Lost now is = (is, refl)
comes settings p line.RestartTerminal now is = (is, refl)
comes settings p line.RestartPlatform now is = (is, refl)

-- ---- which line of communication an event names

shut : (b : Bool) → not b ≡ true → b ≡ false
shut false e = refl
shut true e = absurd cc

named : (w : OrderWorld) (e : OrderEvent) → names_no_line w e ≡ true → (l : ℕ) × Names e l × (is_opened w l ≡ false)
named w (line.Up number count) e = (number, refl, shut (is_opened w number) e)
named w (line.Cut number) e = (number, refl, shut (is_opened w number) e)
named w (line.Issue order) e = absurd cc
named w line.Open e = absurd cc
named w (line.Down count) e = absurd cc
named w (line.Tick by) e = absurd cc
named w line.Run e = absurd cc
named w line.Lost e = absurd cc
named w line.RestartTerminal e = absurd cc
named w line.RestartPlatform e = absurd cc

-- an order names none
full_names_none : (w : OrderWorld) (e : OrderEvent) → finds_full w e ≡ true → names_no_line w e ≡ false
full_names_none w (line.Issue order) e = refl
full_names_none w (line.Up number count) e = absurd cc
full_names_none w (line.Cut number) e = absurd cc
full_names_none w line.Open e = refl
full_names_none w (line.Down count) e = refl
full_names_none w (line.Tick by) e = refl
full_names_none w line.Run e = refl
full_names_none w line.Lost e = refl
full_names_none w line.RestartTerminal e = refl
full_names_none w line.RestartPlatform e = refl

-- what a step says of the line of communication that is named
abbrev pub TellsLine : {T : Type 0} → OrderWorld → OrderEvent → Result T OrderWorldError → Type 0
TellsLine w e r = (l : ℕ) → (r ≡ Err (refused.NoLine l)) ↔ (Names e l × (is_opened w l ≡ false))

none_named : {T : Type 0} (w : OrderWorld) (e : OrderEvent) (r : Result T OrderWorldError) → TellsLine w e r → ((l : ℕ) → r ≢ Err (refused.NoLine l)) → names_no_line w e ≡ false
none_named w e r tells other =
    elim (cases_Bool (names_no_line w e)) [
      | inl t ↦ let it = named w e t in absurd (other it.0 ((tells it.0).1 (it.1, it.2)))
      | inr f ↦ f
    ]

-- ---- what comes of an event

module _ (s : OrderScene) (event : OrderEvent) (number : ℕ) (next : OrderScene → Outcome OrderScene) where
  abbrev done : Outcome OrderScene
  done = printing (event_text s.play.world (scene_after s event).play.world) (next (scene_after s event))

  abbrev if_named : Bool → Bool → Bool → Outcome OrderScene
  if_named no_line full endless =
      if no_line then bad_outcome s number
      else if full then full_outcome s
      else if endless then round_limit_outcome s
      else done

  after_done : names_no_line s.play.world event ≡ false → finds_full s.play.world event ≡ false → passes_round_limit s.play event ≡ false → after_line s number next (Event event) ≡ done
  after_done opened room ends =
      ap (λ (b : Bool). if_named b (finds_full s.play.world event) (passes_round_limit s.play event)) opened
      ∙ (ap (λ (b : Bool). if_named false b (passes_round_limit s.play event)) room ∙ ap (λ (b : Bool). if_named false false b) ends)

  after_bad : names_no_line s.play.world event ≡ true → after_line s number next (Event event) ≡ bad_outcome s number
  after_bad shut = ap (λ (b : Bool). if_named b (finds_full s.play.world event) (passes_round_limit s.play event)) shut

  after_full : names_no_line s.play.world event ≡ false → finds_full s.play.world event ≡ true → after_line s number next (Event event) ≡ full_outcome s
  after_full opened full =
      ap (λ (b : Bool). if_named b (finds_full s.play.world event) (passes_round_limit s.play event)) opened
      ∙ ap (λ (b : Bool). if_named false b (passes_round_limit s.play event)) full

-- what happened behind so many that were performed and so many that were answered
abbrev pub behind : ℕ → ℕ → OrderWorld → List ℕ
behind performed answered w = orders_text performed answered (drop answered w.log) (drop answered w.results)

module _ (old new : OrderScene) (event : OrderEvent) (r : Result (Unit {0}) OrderWorldError) (steps : Steps old event new r) where
  tells : TellsLine old.play.world event r
  tells = steps.no_line

  pub did_next : (u : Unit {0}) → r ≡ Ok u → (performed answered : ℕ) → performed ≡ length old.play.world.log → answered ≡ length old.play.world.results
      → (text text_now : List ℕ) → text_now ≡ text ++ behind performed answered new.play.world → GoesOn old new (Event event) text text_now
  did_next u is performed answered performed_is answered_is text text_now text_is =
      let to : ComesTo old.identity.e2013 old.play event new.play = rw is at steps.ok in
      let came = comes old.identity.e2013 old.play event new.play to in
      let same : new ≡ scene_after old event = λ i. record { play = came.0 i; identity = steps.identity i } in
      let room : finds_full old.play.world event ≡ false = rw is at steps.room in
      let other : (l : ℕ) → r ≢ Err (refused.NoLine l) = λ l e. let both : ◌≡◌ {A = Result (Unit {0}) OrderWorldError} (Ok u) (Err (refused.NoLine l)) = sym is ∙ e in absurd cc in
      record {
        added = event_text old.play.world new.play.world;
        text_is =
            text_is
            ∙ (ap (λ (n : ℕ). text ++ behind n answered new.play.world) performed_is
            ∙ ap (λ (n : ℕ). text ++ behind (length old.play.world.log) n new.play.world) answered_is);
        goes = λ number next.
            after_done old event number next (none_named old.play.world event r tells other) room came.1
            ∙ ap (λ (q : OrderScene). printing (event_text old.play.world q.play.world) (next q)) (sym same);
      }

  did_bad : (l : ℕ) → r ≡ Err (refused.NoLine l) → (text text_now : List ℕ) → text_now ≡ text → IsBad old new (Event event) text text_now
  did_bad l is text text_now text_is =
      let at_line = (tells l).0 is in
      record {
        text_is = text_is;
        same = steps.same (refused.NoLine l) is (λ e. absurd cc);
        ends = λ number next. after_bad old event number next (names_it old.play.world event l at_line.0 at_line.1);
      }

  did_full : (limit : ℕ) → r ≡ Err (refused.Full limit) → (text text_now : List ℕ) → text_now ≡ text ++ full_line limit → IsFull old new (Event event) text text_now status.StoreFault
  did_full limit is text text_now text_is =
      let full = steps.full limit is in
      record {
        text_is = text_is ∙ ap (λ (l : ℕ). text ++ full_line l) full.0;
        is = refl;
        ends = λ number next. after_full old event number next (full_names_none old.play.world event full.1) full.1 ∙ ap full_outcome (sym (steps.same (refused.Full limit) is (λ e. absurd cc)));
      }

  pub did_not : (e : OrderWorldError) (out : Result Heard Memory) (text text_now : List ℕ) → r ≡ Err e → Refuses e out text text_now → IfOk out (λ h. Does h old new (Event event) text text_now)
  did_not (refused.NoLine l) (Ok h) text text_now is refuses = subst (λ (x : Heard). Does x old new (Event event) text text_now) (sym refuses.0) (did_bad l is text text_now refuses.1)
  did_not (refused.Full limit) (Ok h) text text_now is refuses = subst (λ (x : Heard). Does x old new (Event event) text text_now) (sym refuses.0) (did_full limit is text text_now refuses.1)
  did_not refused.Memory (Ok h) text text_now is refuses = absurd refuses
  did_not (refused.NoLine l) (Err memory) text text_now is refuses = tt
  did_not (refused.Full limit) (Err memory) text text_now is refuses = tt
  did_not refused.Memory (Err memory) text text_now is refuses = tt

  -- where the text was put
  pub did : (u : Unit {0}) → r ≡ Ok u → (performed answered : ℕ) → performed ≡ length old.play.world.log → answered ≡ length old.play.world.results
      → (out : Result Heard Memory) (text text_now : List ℕ) → IfOk out (λ h. h ≡ heard.Next) → IfOk out (λ h. text_now ≡ text ++ behind performed answered new.play.world)
      → IfOk out (λ h. Does h old new (Event event) text text_now)
  did u is performed answered performed_is answered_is (Ok h) text text_now next text_is =
      subst (λ (x : Heard). Does x old new (Event event) text text_now) (sym next) (did_next u is performed answered performed_is answered_is text text_now text_is)
  did u is performed answered performed_is answered_is (Err memory) text text_now next text_is = tt
