-- What the lines of a script keep: the terminal has the settings of the present edition.
use Rattle.std.proofs.Common.{ℕ, zero, suc, ◌+◌, ◌^◌, ◌≡◌, List, [], ◌∷◌, ◌++◌, Bool, true, false, refl, ap, sym, ◌∙◌, subst}
use Rattle.std.specs.Prelude.{if◌then◌else◌, min, Result, Ok, OnOk}
use Rattle.jt_value.specs.Sameness.{key_of}
use Rattle.jt_value.specs.declared.phone.Edition.{Edition}
use Rattle.jt_value.specs.declared.phone.Edition.TheVariants.{E2013}
use Rattle.jt_script.specs.declared.world_event.WorldEvent.{WorldEvent}
use Rattle.jt_script.specs.declared.world_event.WorldEvent.TheVariants as line
use Rattle.jt_delivery.specs.World.{Setting}
use Rattle.jt_terminal_rule.specs.declared.settings.Settings.{Settings}
use Rattle.jt_terminal_rule.specs.declared.state.Event.{Event as TerminalEvent}
use Rattle.jt_terminal_rule.specs.declared.state.Event.TheVariants as event
use Rattle.jt_terminal_rule.specs.Law.{RuleKeepsSettings}
use Rattle.jt_octets.specs.World.{completed_item, newest}
use Rattle.jt_play.specs.declared.identity.Identity.{Identity}
use Rattle.jt_play.specs.Laws.{AreOneTerminals, HasFix, HaveFixes, RunEnds, first_play, plays}
use Rattle.jt_play.specs.Playing.{Play, beats, begins, goes_up, heard_in, if_using, left_of, loses, meets, moves, octets_moving, play_after, reads, reads_more, reads_one, round, rounds, runs, starts_again}
use Rattle.jt_play.specs.Scripts.{IsPlayed, IsScene, IsScripted, Scene, edition_after, edition_by, settings_in}
use Rattle.jt_play.specs.declared.error.WorldError.{WorldError}
use Rattle.jt_play.proofs.Downward.{heard_settings}
use Rattle.jt_play.proofs.Worlds.{on_ok}

-- ---- settings

abbrev settings : Play → Settings
settings p = p.state.settings

module _ (keeps : RuleKeepsSettings) where
  meets_same : (p : Play) (e : TerminalEvent) → settings (meets p e) ≡ settings p
  meets_same p e = keeps.ruled p.state e

  using_same : (p : Play) (f : Play → Play) → settings (f p) ≡ settings p → settings (if_using p f) ≡ settings p
  using_same p f same = by p.world.terminal.using
    where
      by : (b : Bool) → settings (if b then f p else p) ≡ settings p
      by true = same
      by false = refl

  loses_same : (p : Play) → settings (loses p) ≡ settings p
  loses_same p = using_same p (λ q. meets q event.Lost) (meets_same p event.Lost)

  beats_same : (n : ℕ) (p : Play) → settings (beats n p) ≡ settings p
  beats_same zero p = refl
  beats_same (suc n) p = beats_same n (meets p event.Beat) ∙ meets_same p event.Beat

  one_same : (p : Play) → settings (reads_one p) ≡ settings p
  one_same p = heard_settings keeps p.state (heard_in p.world.partial (completed_item (newest p.world).down))

  reads_same : (n : ℕ) (p : Play) → settings (reads n p) ≡ settings p
  reads_same zero p = refl
  reads_same (suc n) p = by (reads_more p) (reads_same n (reads_one p) ∙ one_same p)
    where
      by : (b : Bool) → settings (reads n (reads_one p)) ≡ settings p → settings (if b then reads n (reads_one p) else p) ≡ settings p
      by true e = e
      by false e = refl

  rounds_same : (n : ℕ) (p : Play) → settings (rounds n p) ≡ settings p
  rounds_same zero p = refl
  rounds_same (suc n) p = by (moves p) (rounds_same n (round p) ∙ reads_same (left_of (newest (goes_up p).world).down) (goes_up p))
    where
      by : (b : Bool) → settings (rounds n (round p)) ≡ settings p → settings (if b then rounds n (round p) else p) ≡ settings p
      by true e = e
      by false e = refl

  starts_with : (p : Play) (x : Settings) → settings (starts_again p x) ≡ x
  starts_with p x = meets_same (begins p x) (event.Tick p.clock)

  played_settings : (who : Edition → Settings) (edition : Edition) (p : Play) (e : WorldEvent) → settings p ≡ who edition → settings (play_after who p e) ≡ who (edition_by edition e)
  played_settings who edition p (line.Fix latitude) same = same
  played_settings who edition p (line.Raw fix) same = same
  played_settings who edition p line.Open same = meets_same (loses p) event.Opened ∙ (loses_same p ∙ same)
  played_settings who edition p (line.Up number count) same = same
  played_settings who edition p (line.Down count) same = using_same p (λ q. reads (octets_moving count (newest q.world).down) q) (reads_same (octets_moving count (newest p.world).down) p) ∙ same
  played_settings who edition p (line.Tick by) same = meets_same (record p { clock = min (p.clock + by) (2 ^ 63) }) (event.Tick (min (p.clock + by) (2 ^ 63))) ∙ same
  played_settings who edition p (line.Beat n) same = beats_same n p ∙ same
  played_settings who edition p line.Run same = rounds_same _ (meets p (event.Tick p.clock)) ∙ (meets_same p (event.Tick p.clock) ∙ same)
  played_settings who edition p (line.Cut number) same = same
  played_settings who edition p line.Lost same = loses_same p ∙ same
  played_settings who edition p line.RestartTerminal same = starts_with p p.state.settings ∙ same
  played_settings who edition p line.RestartPlatform same = same
  played_settings who edition p (line.RestartAs chosen) same = starts_with p (who chosen)

  plays_settings : (who : Edition → Settings) (edition : Edition) (p : Play) (events : List WorldEvent) → settings p ≡ who edition → settings (plays who p events) ≡ who (edition_after edition events)
  plays_settings who edition p [] same = same
  plays_settings who edition p (e ∷ events) same = plays_settings who (edition_by edition e) (play_after who p e) events (played_settings who edition p e same)

-- ---- one line more

plays_more : (who : Edition → Settings) (p : Play) (events : List WorldEvent) (e : WorldEvent) → plays who p (events ++ e ∷ []) ≡ play_after who (plays who p events) e
plays_more who p [] e = refl
plays_more who p (first ∷ events) e = plays_more who (play_after who p first) events e

edition_more : (edition : Edition) (events : List WorldEvent) (e : WorldEvent) → edition_after edition (events ++ e ∷ []) ≡ edition_by (edition_after edition events) e
edition_more edition [] e = refl
edition_more edition (first ∷ events) e = edition_more (edition_by edition first) events e

fixes_more : (events : List WorldEvent) (e : WorldEvent) → HaveFixes events → HasFix e → HaveFixes (events ++ e ∷ [])
fixes_more [] e all has = (has, tt)
fixes_more (first ∷ events) e all has = (all.0, fixes_more events e all.1 has)

-- ---- a world that lines of a script led to

pub first_scripted : (identity : Identity) (setting : Setting) (p : Play) → p ≡ first_play identity.e2013 setting → IsScripted (record { play = p; identity = identity; edition = E2013 })
first_scripted identity setting p is = record { events = []; fixes = tt; setting = setting; play_is = is; edition_is = refl }

one_terminal : (p : Play) (identity : Identity) → IsScene p identity → AreOneTerminals (settings_in identity)
one_terminal p identity s = record { key = key_of p.world.terminal.phone; good = s.good; same = s.same }

-- what an event wants so that it does what is played
pub is_played : RuleKeepsSettings → RunEnds → (s : Scene) → IsScene s.play s.identity → IsScripted s → (e : WorldEvent) → IsPlayed s.identity s.edition s.play e
is_played keeps ends s scene by line.Run =
    let who = settings_in s.identity in
    subst (λ (p : Play). moves (runs p) ≡ false) (sym by.play_is) (ends who (one_terminal s.play s.identity scene) E2013 by.setting by.events by.fixes)
is_played keeps ends s scene by line.RestartTerminal =
    let who = settings_in s.identity in
    ap who by.edition_is ∙ (sym (plays_settings keeps who E2013 (first_play (who E2013) by.setting) by.events refl) ∙ ap settings (sym by.play_is))
is_played keeps ends s scene by (line.Fix latitude) = tt
is_played keeps ends s scene by (line.Raw fix) = tt
is_played keeps ends s scene by line.Open = tt
is_played keeps ends s scene by (line.Up number count) = tt
is_played keeps ends s scene by (line.Down count) = tt
is_played keeps ends s scene by (line.Tick m) = tt
is_played keeps ends s scene by (line.Beat n) = tt
is_played keeps ends s scene by (line.Cut number) = tt
is_played keeps ends s scene by line.Lost = tt
is_played keeps ends s scene by line.RestartPlatform = tt
is_played keeps ends s scene by (line.RestartAs chosen) = tt

-- and one more line was done
pub still_scripted : (s : Scene) (e : WorldEvent) (p : Play) (edition : Edition) → IsScripted s → HasFix e → p ≡ play_after (settings_in s.identity) s.play e → edition ≡ edition_by s.edition e
    → IsScripted (record { play = p; identity = s.identity; edition = edition })
still_scripted s e p edition by has done next =
    let who = settings_in s.identity in
    record {
      events = by.events ++ e ∷ [];
      fixes = fixes_more by.events e by.fixes has;
      setting = by.setting;
      play_is = done ∙ (ap (λ (q : Play). play_after who q e) by.play_is ∙ sym (plays_more who (first_play (who E2013) by.setting) by.events e));
      edition_is = next ∙ (ap (λ (x : Edition). edition_by x e) by.edition_is ∙ sym (edition_more E2013 by.events e));
    }

-- ---- what a step answers

module _ (T : Type 0) (s v : Scene) (is : s ≡ v) (e : WorldEvent) (p : Play) (done : Result Bool WorldError) (answer : Result T WorldError) (keeps : RuleKeepsSettings) (ends : RunEnds) (scene : IsScene s.play s.identity)
    (does : IsPlayed s.identity s.edition s.play e → done ≡ Ok true → p ≡ play_after (settings_in s.identity) s.play e) (ok : OnOk answer (done ≡ Ok true)) where
  does_next : IsScripted v → done ≡ Ok true → p ≡ play_after (settings_in s.identity) s.play e
  does_next by d = does (is_played keeps ends s scene (subst IsScripted (sym is) by) e) d

  pub step_played : IsPlayed v.identity v.edition v.play e → OnOk answer (p ≡ play_after (settings_in v.identity) v.play e)
  step_played = subst (λ (z : Scene). IsPlayed z.identity z.edition z.play e → OnOk answer (p ≡ play_after (settings_in z.identity) z.play e)) is (λ by. on_ok answer (does by) ok)

  pub step_ok : IsScripted v → OnOk answer (p ≡ play_after (settings_in v.identity) v.play e)
  step_ok by = subst (λ (z : Scene). OnOk answer (p ≡ play_after (settings_in z.identity) z.play e)) is (on_ok answer (does_next by) ok)

  pub step_scripted : (edition : Edition) → (done ≡ Ok true → HasFix e) → (done ≡ Ok true → edition ≡ edition_by s.edition e) → IsScripted v → OnOk answer (IsScripted (record { play = p; identity = s.identity; edition = edition }))
  step_scripted edition has next by = on_ok answer (λ d. still_scripted s e p edition (subst IsScripted (sym is) by) (has d) (does_next by d) (next d)) ok
