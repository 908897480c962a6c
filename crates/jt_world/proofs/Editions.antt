-- The terminal of a world that a script led to is one of the edition that the script set last.
use Rattle.std.proofs.Common.{◌≡◌, ℕ, zero, suc, ◌+◌, min, ◌^◌, Bool, true, false, if◌then◌else◌, List, [], ◌∷◌, Option, None, Some, refl, sym, ap, ◌∙◌}
use Rattle.jt_value.specs.declared.phone.Edition.{Edition}
use Rattle.jt_value.specs.declared.phone.Edition.TheVariants.{E2013, E2019}
use Rattle.jt_script.specs.declared.world_event.WorldEvent.{WorldEvent}
use Rattle.jt_script.specs.declared.world_event.WorldEvent.TheVariants as line
use Rattle.jt_octets.specs.World.{completed_item, newest}
use Rattle.jt_terminal.specs.Line.{rule_at}
use Rattle.jt_terminal_rule.specs.Law.{RuleKeepsSettings}
use Rattle.jt_terminal_rule.specs.Rule.{Heard}
use Rattle.jt_terminal_rule.specs.Unsaid.{unsaid}
use Rattle.jt_terminal_rule.specs.declared.settings.Settings.{Settings}
use Rattle.jt_terminal_rule.specs.declared.state.Event.{Event}
use Rattle.jt_terminal_rule.specs.declared.state.Event.TheVariants as event
use Rattle.jt_terminal_rule.specs.declared.state.State.{State}
use Rattle.jt_play.specs.declared.identity.Identity.{Identity}
use Rattle.jt_play.specs.Laws.{first_play, plays}
use Rattle.jt_play.specs.Playing.{Play, beats, begins, goes_up, heard_in, if_using, loses, meets, moves, octets_moving, opens, play_after, reads, reads_more, reads_one, round, rounds, runs, starts_again, ticks}
use Rattle.jt_play.specs.Scripts.{Scene, edition_after, edition_by, settings_in}
use Rattle.jt_world.specs.Hearing.{MayHear, edition_of, is_in, scene_at}
use Rattle.jt_world.specs.Rehearsal.{the_identity}

both : {A : Type 0} (b : Bool) (P : Play → A) (x y : Play) (z : A) → P x ≡ z → P y ≡ z → P (if b then x else y) ≡ z
both true P x y z one other = one
both false P x y z one other = other

module _ (keeps : RuleKeepsSettings) where
  meets_same : (p : Play) (e : Event) → edition_of (meets p e) ≡ edition_of p
  meets_same p e = ap (λ (s : Settings). s.phone.edition) (keeps.ruled p.state e)

  using_same : (p : Play) (f : Play → Play) → ((q : Play) → edition_of (f q) ≡ edition_of q) → edition_of (if_using p f) ≡ edition_of p
  using_same p f same = both p.world.terminal.using (λ q. edition_of q) (f p) p (edition_of p) (same p) refl

  loses_same : (p : Play) → edition_of (loses p) ≡ edition_of p
  loses_same p = using_same p (λ q. meets q event.Lost) (λ q. meets_same q event.Lost)

  opens_same : (p : Play) → edition_of (opens p) ≡ edition_of p
  opens_same p = meets_same (loses p) event.Opened ∙ loses_same p

  ticks_same : (p : Play) (by : ℕ) → edition_of (ticks p by) ≡ edition_of p
  ticks_same p by = let now = min (p.clock + by) (2 ^ 63) in meets_same (record p { clock = now }) (event.Tick now)

  beats_same : (n : ℕ) (p : Play) → edition_of (beats n p) ≡ edition_of p
  beats_same zero p = refl
  beats_same (suc n) p = beats_same n (meets p event.Beat) ∙ meets_same p event.Beat

  heard_same : (s : State) (x : Option Heard) → (rule_at s x).state.settings ≡ s.settings
  heard_same s None = refl
  heard_same s (Some x) = keeps.heard_too s x

  reads_one_same : (p : Play) → edition_of (reads_one p) ≡ edition_of p
  reads_one_same p = ap (λ (s : Settings). s.phone.edition) (heard_same p.state (heard_in p.world.partial (completed_item (newest p.world).down)))

  reads_same : (n : ℕ) (p : Play) → edition_of (reads n p) ≡ edition_of p
  reads_same zero p = refl
  reads_same (suc n) p = both (reads_more p) (λ q. edition_of q) (reads n (reads_one p)) p (edition_of p) (reads_same n (reads_one p) ∙ reads_one_same p) refl

  rounds_same : (n : ℕ) (p : Play) → edition_of (rounds n p) ≡ edition_of p
  rounds_same zero p = refl
  rounds_same (suc n) p =
      both (moves p) (λ q. edition_of q) (rounds n (round p)) p (edition_of p) (rounds_same n (round p) ∙ reads_same (octets_moving None (newest (goes_up p).world).down) (goes_up p)) refl

  runs_same : (p : Play) → edition_of (runs p) ≡ edition_of p
  runs_same p = let q = meets p (event.Tick p.clock) in rounds_same (unsaid q.state + 1) q ∙ meets_same p (event.Tick p.clock)

  starts_in : (p : Play) (settings : Settings) → edition_of (starts_again p settings) ≡ settings.phone.edition
  starts_in p settings = meets_same (begins p settings) (event.Tick p.clock)

  module _ (who : Edition → Settings) (who_is : (e : Edition) → (who e).phone.edition ≡ e) where
    after_same : (p : Play) (e : WorldEvent) → edition_of (play_after who p e) ≡ edition_by (edition_of p) e
    after_same p (line.Fix latitude) = refl
    after_same p (line.Raw fix) = refl
    after_same p line.Open = opens_same p
    after_same p (line.Up number count) = refl
    after_same p (line.Down count) = using_same p (λ q. reads (octets_moving count (newest q.world).down) q) (λ q. reads_same (octets_moving count (newest q.world).down) q)
    after_same p (line.Tick by) = ticks_same p by
    after_same p (line.Beat n) = beats_same n p
    after_same p line.Run = runs_same p
    after_same p (line.Cut number) = refl
    after_same p line.Lost = loses_same p
    after_same p line.RestartTerminal = starts_in p p.state.settings
    after_same p line.RestartPlatform = refl
    after_same p (line.RestartAs edition) = starts_in p (who edition) ∙ who_is edition

    all_same : (p : Play) (events : List WorldEvent) → edition_of (plays who p events) ≡ edition_after (edition_of p) events
    all_same p [] = refl
    all_same p (e ∷ events) = all_same (play_after who p e) events ∙ ap (λ (x : Edition). edition_after x events) (after_same p e)

  its_edition : (e : Edition) → (settings_in the_identity e).phone.edition ≡ e
  its_edition E2013 = refl
  its_edition E2019 = refl

  -- the present edition is that of the terminal
  pub known : (s : Scene) → MayHear s → s.edition ≡ edition_of s.play
  known s may =
      let who_is = λ (e : Edition). ap (λ (i : Identity). (settings_in i e).phone.edition) may.identity ∙ its_edition e in
      let who = settings_in s.identity in
      let begun = first_play (who E2013) may.scripted.setting in
      may.scripted.edition_is
      ∙ (ap (λ (x : Edition). edition_after x may.scripted.events) (sym (who_is E2013))
      ∙ (sym (all_same who who_is begun may.scripted.events)
      ∙ ap edition_of (sym may.scripted.play_is)))

  same_edition : (a b : Edition) → is_in a b ≡ true → a ≡ b
  same_edition E2013 E2013 e = refl
  same_edition E2013 E2019 e = absurd cc
  same_edition E2019 E2013 e = absurd cc
  same_edition E2019 E2019 e = refl

  edition_at : (now a b : Edition) → now ≡ a → (same : Bool) → is_in a b ≡ same → (if same then now else b) ≡ b
  edition_at now a b is true e = is ∙ same_edition a b e
  edition_at now a b is false e = refl

  -- wherever a script led to, what a play leaves there is told by the play
  pub scene_is : (s : Scene) → MayHear s → (q : Play) → scene_at s q ≡ record { play = q; identity = the_identity; edition = edition_of q }
  scene_is s may q =
      ap (λ (i : Identity). record { play = q; identity = i; edition = (scene_at s q).edition }) may.identity
      ∙ ap (λ (e : Edition). record { play = q; identity = the_identity; edition = e }) (edition_at s.edition (edition_of s.play) (edition_of q) (known s may) (is_in (edition_of s.play) (edition_of q)) refl)
