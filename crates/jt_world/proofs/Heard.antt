-- How the world hears a line of a script.
use Rattle.std.proofs.Common.{◌≡◌, ◌≢◌, ◌↔◌, ℕ, ◌+◌, Bool, true, false, not, if◌then◌else◌, IsTrue, List, [], ◌∷◌, ◌++◌, Result, Ok, Err, IfOk, None, refl, sym, ap, subst, ◌∙◌, inl, inr, append-nil}
use Rattle.std.proofs.lemmas.Bool.{cases_Bool}
use Rattle.std.specs.List.{flat_map}
use Rattle.jt_value.specs.declared.limits.TheConstants.{FIX_LIMIT}
use Rattle.jt_value.proofs.Reaching.{leads_both}
use Rattle.jt_platform.specs.declared.request.Entry.{Entry}
use Rattle.jt_octets.specs.Reaching.{Leads}
use Rattle.jt_octets.specs.Steps.{MayCome, after}
use Rattle.jt_octets.specs.World.{World, empty}
use Rattle.jt_play.specs.declared.identity.Identity.{Identity}
use Rattle.jt_play.specs.declared.error.WorldError.{WorldError}
use Rattle.jt_play.specs.declared.error.WorldError.TheVariants as refused
use Rattle.jt_play.specs.Playing.{Play, entries_between, finds_full, is_opened, names_no_line, play_after}
use Rattle.jt_play.specs.Scripts.{IsScripted, Names, Scene, settings_in, totals_of}
use Rattle.jt_play.proofs.Scenes.{names_it}
use Rattle.jt_script.specs.declared.world_event.WorldEvent.{WorldEvent}
use Rattle.jt_script.specs.declared.world_event.WorldEvent.TheVariants as line
use Rattle.jt_script.specs.declared.reading.EventLine.{EventLine}
use Rattle.jt_script.specs.declared.reading.EventLine.TheVariants.{Passed, Event, Bad}
use Rattle.jt_script.specs.EventLines.{meaning, says}
use Rattle.jt_input.specs.Answer.{EndsEarly}
use Rattle.jt_input.specs.EarlyEnds.{full_line}
use Rattle.jt_input.specs.Lines.{Closes, Hears, Outcome}
use Rattle.jt_input.specs.Text.{is_within}
use Rattle.jt_input.specs.declared.hearer.Heard.{Heard}
use Rattle.jt_input.specs.declared.hearer.Heard.TheVariants as heard
use Rattle.jt_input.specs.declared.status.Status.{Status}
use Rattle.jt_input.specs.declared.status.Status.TheVariants as status
use Rattle.jt_event_lines.specs.EntryLines.{entry_line, totals_line}
use Rattle.jt_terminal_rule.specs.Law.{RuleKeepsSettings}
use Rattle.jt_world.specs.Hearing.{Does, GoesOn, IsBad, IsFull, MayHear, bad_outcome_is, outcome, outcome_of, stays}
use Rattle.jt_world.specs.Rehearsal.{Rehearsal, after_line, bad_at, entry_lines, full_at, goes_to, rehearsal_from, the_identity}
use Rattle.jt_world.proofs.Editions.{scene_is}

-- ---- which line of communication an event names

pub named : (w : World) (e : WorldEvent) → names_no_line w e ≡ true → (l : ℕ) × Names e l × (is_opened w l ≡ false)
named w (line.Up number count) e = (number, refl, shut (is_opened w number) e)
  where
    shut : (b : Bool) → not b ≡ true → b ≡ false
    shut false e = refl
    shut true e = absurd cc
named w (line.Cut number) e = (number, refl, shut (is_opened w number) e)
  where
    shut : (b : Bool) → not b ≡ true → b ≡ false
    shut false e = refl
    shut true e = absurd cc
named w (line.Fix latitude) e = absurd cc
named w (line.Raw fix) e = absurd cc
named w line.Open e = absurd cc
named w (line.Down count) e = absurd cc
named w (line.Tick by) e = absurd cc
named w (line.Beat n) e = absurd cc
named w line.Run e = absurd cc
named w line.Lost e = absurd cc
named w line.RestartTerminal e = absurd cc
named w line.RestartPlatform e = absurd cc
named w (line.RestartAs edition) e = absurd cc

-- what a step says of the line that is named
abbrev pub TellsLine : {T : Type 0} → World → WorldEvent → Result T WorldError → Type 0
TellsLine w e r = (l : ℕ) → (r ≡ Err (refused.NoLine l)) ↔ (Names e l × (is_opened w l ≡ false))

-- a step that answers otherwise named no line that was not opened
none_named : {T : Type 0} (w : World) (e : WorldEvent) (r : Result T WorldError) → TellsLine w e r → ((l : ℕ) → r ≢ Err (refused.NoLine l)) → names_no_line w e ≡ false
none_named w e r tells other =
    elim (cases_Bool (names_no_line w e)) [
      | inl t ↦ let it = named w e t in absurd (other it.0 ((tells it.0).1 (it.1, it.2)))
      | inr f ↦ f
    ]

pub not_memory : (l : ℕ) → refused.NoLine l ≢ refused.Memory
not_memory l e = absurd cc

-- ---- what comes of an event

pub may_on : (old new : Scene) → MayHear old → Leads old.play.world new.play.world → new.identity ≡ old.identity → IsScripted new → MayHear new
may_on old new may leads identity scripted =
    let r = may.reached in
    record {
      scripted = scripted;
      reached = record { phone = r.phone; good = r.good; setting = r.setting; leads = leads_both MayCome after (empty r.phone r.setting) old.play.world new.play.world r.leads leads };
      identity = identity ∙ may.identity;
    }

module _ (p : Play) (event : WorldEvent) (number : ℕ) (next : Play → Rehearsal) where
  abbrev if_named : Bool → Bool → Rehearsal
  if_named no_line full = if no_line then bad_at number p else if full then full_at p else goes_to p (play_after (settings_in the_identity) p event) next

  after_done : names_no_line p.world event ≡ false → finds_full FIX_LIMIT p event ≡ false → after_line p number next (Event event) ≡ goes_to p (play_after (settings_in the_identity) p event) next
  after_done opened room = ap (λ b. if_named b (finds_full FIX_LIMIT p event)) opened ∙ ap (λ b. if_named false b) room

  after_bad : names_no_line p.world event ≡ true → after_line p number next (Event event) ≡ bad_at number p
  after_bad shut = ap (λ b. if_named b (finds_full FIX_LIMIT p event)) shut

  after_full : names_no_line p.world event ≡ false → finds_full FIX_LIMIT p event ≡ true → after_line p number next (Event event) ≡ full_at p
  after_full opened full = ap (λ b. if_named b (finds_full FIX_LIMIT p event)) opened ∙ ap (λ b. if_named false b) full

module _ {T : Type 0} (old new : Scene) (event : WorldEvent) (r : Result T WorldError) (may : MayHear old) (tells : TellsLine old.play.world event r) where
  pub did_next : ((l : ℕ) → r ≢ Err (refused.NoLine l)) → finds_full FIX_LIMIT old.play event ≡ false → new.play ≡ play_after (settings_in old.identity) old.play event
      → (entries : List Entry) → entries ≡ entries_between old.play.world new.play.world → (text text_now : List ℕ) → text_now ≡ text ++ flat_map entry_line entries
      → GoesOn old new (Event event) text text_now
  did_next other room is entries are text text_now text_is = record {
    added = entry_lines old.play.world new.play.world;
    text_is = text_is ∙ ap (λ (es : List Entry). text ++ flat_map entry_line es) are;
    goes = λ number next.
        after_done old.play event number next (none_named old.play.world event r tells other) room
        ∙ ap (λ (q : Play). goes_to old.play q next) (sym (is ∙ ap (λ (i : Identity). play_after (settings_in i) old.play event) may.identity));
  }

  pub did_bad : (l : ℕ) → r ≡ Err (refused.NoLine l) → new ≡ old → (text : List ℕ) → IsBad old new (Event event) text text
  did_bad l is same text = record {
    text_is = refl;
    same = same;
    ends = λ number next. let no_line = (tells l).0 is in after_bad old.play event number next (names_it old.play.world event l no_line.0 no_line.1);
  }

  pub did_full : ((l : ℕ) → r ≢ Err (refused.NoLine l)) → (limit : ℕ) → (limit ≡ FIX_LIMIT) × (finds_full FIX_LIMIT old.play event ≡ true) → new ≡ old → (text text_now : List ℕ)
      → text_now ≡ text ++ full_line limit → IsFull old new (Event event) text text_now status.StoreFault
  did_full other limit full same text text_now text_is = record {
    text_is = text_is ∙ ap (λ (l : ℕ). text ++ full_line l) full.0;
    same = same;
    is = refl;
    ends = λ number next. after_full old.play event number next (none_named old.play.world event r tells other) full.1;
  }

-- ---- lines that say nothing, or no event

pub passes : (s : Scene) (said : EventLine) → said ≡ Passed → (text : List ℕ) → GoesOn s s said text text
passes s said is text = record {
  added = [];
  text_is = sym (append-nil text);
  goes = λ number next. ap (after_line s.play number next) is;
}

pub is_bad : (s : Scene) (said : EventLine) → said ≡ Bad → (text : List ℕ) → IsBad s s said text text
is_bad s said is text = record { text_is = refl; same = refl; ends = λ number next. ap (after_line s.play number next) is }

-- ---- what comes of lines

pub meaning_is : (number : ℕ) (line : List ℕ) → IsTrue (is_within number line) → meaning number line ≡ says line
unfolding meaning
meaning_is number line within = ap (λ (b : Bool). if b then says line else Bad) within

-- what comes of a line that says this, and of more lines
abbrev said_then : Scene → ℕ → List (List ℕ) → EventLine → Rehearsal
said_then s number more said = after_line s.play number (λ next. rehearsal_from next (number + 1) more) said

module _ (keeps : RuleKeepsSettings) (old new : Scene) (may : MayHear old) (number : ℕ) (line text text_now : List ℕ) (within : IsTrue (is_within number line)) where
  by_meaning : (more : List (List ℕ)) → outcome old number (line ∷ more) ≡ outcome_of old (said_then old number more (says line))
  by_meaning more = ap (λ (said : EventLine). outcome_of old (said_then old number more said)) (meaning_is number line within)

  next_is : MayHear new → (r : Rehearsal) → outcome_of old r ≡ outcome_of new r
  next_is may_new r = ap (λ (left : Scene). record (outcome_of old r) { left = left }) (scene_is keeps old may r.play ∙ sym (scene_is keeps new may_new r.play))

  hears_by : (h : Heard) → MayHear new → Does h old new (says line) text text_now → Hears h outcome old new number line text text_now
  hears_by heard.Next may_new did = record {
    added = did.added;
    text_is = did.text_is;
    next = λ more.
        by_meaning more
        ∙ (ap (outcome_of old) (did.goes number (λ next. rehearsal_from next (number + 1) more))
        ∙ ap (λ (o : Outcome Scene). record o { text = did.added ++ o.text }) (next_is may_new (rehearsal_from new.play (number + 1) more)));
  }
  hears_by heard.Bad may_new did = record {
    text_is = did.text_is;
    same = did.same;
    whole = λ more. by_meaning more ∙ (ap (outcome_of old) (did.ends number (λ next. rehearsal_from next (number + 1) more)) ∙ bad_outcome_is old number);
  }
  hears_by (heard.Settled status) may_new did = record {
    added = full_line FIX_LIMIT;
    text_is = did.text_is;
    whole = λ more.
        by_meaning more
        ∙ (ap (outcome_of old) (did.ends number (λ next. rehearsal_from next (number + 1) more))
        ∙ (ap (λ (left : Scene). record (outcome_of old (full_at old.play)) { left = left }) (stays old ∙ sym did.same)
        ∙ ap (λ (s : Status). record { left = new; text = full_line FIX_LIMIT; bad = None; status = s }) (sym did.is)));
  }

  pub hears : {E : Type 0} (r : Result Heard E) → IfOk r (λ _. MayHear new) → IfOk r (λ h. Does h old new (says line) text text_now)
      → IfOk r (λ h. Hears h outcome old new number line text text_now)
  hears (Ok h) may_new did = hears_by h may_new did
  hears (Err error) may_new did = tt

-- a line settles the answer as a vault does that is full
settled_or : Heard → Status
settled_or (heard.Settled s) = s
settled_or heard.Next = status.StoreFault
settled_or heard.Bad = status.StoreFault

early_by : (h : Heard) (old new : Scene) (said : EventLine) (text text_now : List ℕ) → Does h old new said text text_now → settled_or h ≡ status.StoreFault
unfolding settled_or
early_by heard.Next old new said text text_now did = refl
early_by heard.Bad old new said text text_now did = refl
early_by (heard.Settled s) old new said text text_now did = did.is

pub early : {E : Type 0} (r : Result Heard E) (old new : Scene) (said : EventLine) (text text_now : List ℕ) → IfOk r (λ h. Does h old new said text text_now)
    → IfOk r (λ h. (s : Status) → h ≡ heard.Settled s → EndsEarly s)
unfolding settled_or
early (Ok h) old new said text text_now did = λ s is. subst EndsEarly (sym (early_by h old new said text text_now did) ∙ ap settled_or is) tt
early (Err error) old new said text text_now did = tt

-- the script was read whole
pub closes : (s : Scene) (text text_now : List ℕ) → text_now ≡ text ++ totals_line (totals_of s.play) → Closes outcome s s text text_now status.Done
closes s text text_now is = record {
  added = totals_line (totals_of s.play);
  text_is = is;
  whole = λ number. ap (λ (left : Scene). record { left = left; text = totals_line (totals_of s.play); bad = None; status = status.Done }) (stays s);
}
