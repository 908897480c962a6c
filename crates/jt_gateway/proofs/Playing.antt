-- What a line of a script leaves of what the terminal of a world recorded, of its phone and of its settings.
use Rattle.std.proofs.Common.{◌≡◌, ℕ, zero, suc, List, [], ◌∷◌, ◌++◌, Bool, true, false, cond, Option, None, Some, refl, sym, ap, ◌∙◌, subst}
use Rattle.std.specs.Prelude.{◌&&◌, ◌+◌, ◌^◌, is_none, min}
use Rattle.jt_value.specs.declared.phone.Edition.{Edition}
use Rattle.jt_value.specs.declared.phone.Edition.TheVariants.{E2013}
use Rattle.jt_position.specs.Fixes.{position_at}
use Rattle.jt_position.specs.Positions.{position}
use Rattle.jt_session.specs.Talk.{State as Session, Way}
use Rattle.jt_store.specs.Vaults.{Notes, Forms, Accepts, Sets}
use Rattle.jt_terminal_rule.specs.declared.settings.Settings.{Settings}
use Rattle.jt_terminal_rule.specs.declared.state.State.{State}
use Rattle.jt_terminal_rule.specs.declared.state.Acknowledgement.{Acknowledgement}
use Rattle.jt_terminal_rule.specs.declared.state.Event.{Event as TerminalEvent}
use Rattle.jt_terminal_rule.specs.declared.state.Event.TheVariants as event
use Rattle.jt_terminal_rule.specs.Law.{RuleKeepsSettings}
use Rattle.jt_terminal_rule.specs.Machines.{as_step, as_steps}
use Rattle.jt_terminal_rule.specs.Rule.{Heard, Step, rule}
use Rattle.jt_terminal_rule.specs.Rule as rule_of
use Rattle.jt_terminal_rule.specs.Steps.{Machine, hears, machine_after}
use Rattle.jt_terminal_rule.specs.Unsaid.{unsaid}
use Rattle.jt_terminal.specs.Line.{rule_at}
use Rattle.jt_octets.specs.World.{World, completed_item, line_at, newest, newest_place}
use Rattle.jt_octets.specs.Steps.{Cut, Does, Down, RestartPlatform, Up, accepting, after, after_take, just_read}
use Rattle.jt_script.specs.declared.world_event.WorldEvent.{WorldEvent}
use Rattle.jt_script.specs.declared.world_event.WorldEvent.TheVariants as line
use Rattle.jt_play.specs.Laws.{first_play, plays}
use Rattle.jt_play.specs.Playing.{Play, beats, begins, behind_first, closes, comes_down, cuts, done, goes_up, has_left, heard_in, left_of, loses, meets, moves, octets_moving, place_of, play_after, reads, reads_down, reads_more, reads_one, round, rounds, runs, starts_again, takes, takes_by, takes_first, takes_one, way_at}
use Rattle.jt_play.specs.Scripts.{IsScripted, Scene, settings_in}
use Rattle.jt_gateway.specs.Gateway.{is_line_of_b}
use Rattle.jt_play.proofs.RuleNotes.{NotesNone, rule_keeps}
use Rattle.jt_play.proofs.Counts.{held_same, at_none}

-- ---- worlds: the terminal recorded the same, and has the same phone

abbrev Same : World → World → Type 0
Same w v = (v.terminal.recorded ≡ w.terminal.recorded) × (v.terminal.phone ≡ w.terminal.phone)

same_trans : (w v u : World) → Same w v → Same v u → Same w u
same_trans w v u a b = (b.0 ∙ a.0, b.1 ∙ a.1)

same_if : (w : World) (b : Bool) (x y : World) → Same w x → Same w y → Same w (cond b x y)
same_if w true x y p q = p
same_if w false x y p q = q

done_same : (steps : List Step) (m : Machine) (w : World) → NotesNone steps → Same w (done w (as_steps m steps))
done_same [] m w none = (refl, refl)
done_same (rule_of.Changes (Notes fix) ∷ steps) m w none = absurd none
done_same (rule_of.Changes (Forms unit) ∷ steps) m w none = done_same steps (machine_after m (as_step m (rule_of.Changes (Forms unit)))) (after w (Does (as_step m (rule_of.Changes (Forms unit))))) none
done_same (rule_of.Changes Accepts ∷ steps) m w none = done_same steps (machine_after m (as_step m (rule_of.Changes Accepts))) (after w (Does (as_step m (rule_of.Changes Accepts)))) none
done_same (rule_of.Changes (Sets code) ∷ steps) m w none = done_same steps (machine_after m (as_step m (rule_of.Changes (Sets code)))) (after w (Does (as_step m (rule_of.Changes (Sets code))))) none
done_same (rule_of.Sends older unit ∷ steps) m w none = done_same steps (machine_after m (as_step m (rule_of.Sends older unit))) (after w (Does (as_step m (rule_of.Sends older unit)))) none
done_same (rule_of.Says h body ∷ steps) m w none = done_same steps (machine_after m (as_step m (rule_of.Says h body))) (after w (Does (as_step m (rule_of.Says h body)))) none
done_same (rule_of.Opens ∷ steps) m w none = done_same steps (machine_after m (as_step m rule_of.Opens)) (after w (Does (as_step m rule_of.Opens))) none
done_same (rule_of.Loses ∷ steps) m w none = done_same steps (machine_after m (as_step m rule_of.Loses)) (after w (Does (as_step m rule_of.Loses))) none

read_machine : (m : Machine) (just : Option Acknowledgement) (takes : Bool) → ((accepting (hears m just) takes).recorded ≡ m.recorded) × ((accepting (hears m just) takes).phone ≡ m.phone)
read_machine m None true = (refl, refl)
read_machine m None false = (refl, refl)
read_machine m (Some ack) true = (refl, refl)
read_machine m (Some ack) false = (refl, refl)

read_same : (w : World) (takes : Bool) → Same w (after w (Down takes))
read_same w takes = read_machine w.terminal (just_read w.partial (completed_item (newest w).down)) takes

taken_same : (w : World) (place : ℕ) (way : Way) (s : Option Session) → Same w (after_take w place s (completed_item (line_at w.lines place).up) way)
taken_same w place way None = (refl, refl)
taken_same w place way (Some s) = (refl, refl)

closed_same : (w : World) (place : ℕ) → Same w (closes place w)
closed_same w place = same_if w (is_none (line_at w.lines place).session) (after w (Cut place)) w (refl, refl) (refl, refl)

one_same : (w : World) (place : ℕ) → Same w (takes_one w place)
one_same w place = by (line_at w.lines place).session
  where
    by : (s : Option Session) → Same w (takes_by w place s)
    by None = (refl, refl)
    by (Some s) =
        let way = way_at w place s (completed_item (line_at w.lines place).up) in
        let v = after w (Up place way) in
        same_trans w v (closes place v) (taken_same w place way (line_at w.lines place).session) (closed_same v place)

takes_same : (n : ℕ) (w : World) (place : ℕ) → Same w (takes n w place)
takes_same zero w place = (refl, refl)
takes_same (suc n) w place =
    same_if w ((line_at w.lines place).is_open && has_left (line_at w.lines place).up) (takes n (takes_one w place) place) w
    (same_trans w (takes_one w place) (takes n (takes_one w place) place) (one_same w place) (takes_same n (takes_one w place) place)) (refl, refl)

cut_same : (w : World) (place : ℕ) → Same w (cuts w place)
cut_same w place = same_if w (line_at w.lines place).is_open (after w (Cut place)) w (refl, refl) (refl, refl)

-- ---- plays: and the terminal has the same settings

abbrev pub Quiet : Play → Play → Type 0
Quiet p q = Same p.world q.world × (q.state.settings ≡ p.state.settings) × (q.held.recorded ≡ p.held.recorded)

quiet_trans : (p q r : Play) → Quiet p q → Quiet q r → Quiet p r
quiet_trans p q r a b = (same_trans p.world q.world r.world a.0 b.0, b.1 ∙ a.1, b.2 ∙ a.2)

quiet_if : (p : Play) (b : Bool) (x y : Play) → Quiet p x → Quiet p y → Quiet p (cond b x y)
quiet_if p true x y a b = a
quiet_if p false x y a b = b

none : (p : Play) → Quiet p p
none p = ((refl, refl), refl, refl)

behind_none : (steps : List Step) → NotesNone steps → NotesNone (behind_first steps)
behind_none [] none_of = tt
behind_none (rule_of.Changes Accepts ∷ steps) none_of = none_of
behind_none (rule_of.Changes (Notes fix) ∷ steps) none_of = absurd none_of
behind_none (rule_of.Changes (Forms unit) ∷ steps) none_of = none_of
behind_none (rule_of.Changes (Sets code) ∷ steps) none_of = none_of
behind_none (rule_of.Sends older unit ∷ steps) none_of = none_of
behind_none (rule_of.Says h body ∷ steps) none_of = none_of
behind_none (rule_of.Opens ∷ steps) none_of = none_of
behind_none (rule_of.Loses ∷ steps) none_of = none_of

-- a terminal that starts anew recorded the same, and has these settings and their phone
pub record Started (p q : Play) (settings : Settings) : Type 0 where
  pub world : q.world.terminal.recorded ≡ p.world.terminal.recorded
  pub held : q.held.recorded ≡ p.held.recorded
  pub phone : q.world.terminal.phone ≡ settings.phone
  pub settings_are : q.state.settings ≡ settings

-- the terminal's phone is that of its settings, and it recorded what its vault holds
abbrev pub Own : Play → Type 0
Own p = (p.world.terminal.phone ≡ p.state.settings.phone) × (p.world.terminal.recorded ≡ p.held.recorded)

pub same_scene : (s t : Scene) → s.play ≡ t.play → s.identity ≡ t.identity → s.edition ≡ t.edition → s ≡ t
same_scene s t play identity edition = λ i. record { play = play i; identity = identity i; edition = edition i }

module _ (keeps : RuleKeepsSettings) where
  at_settings : (s : State) (x : Option Heard) → (rule_at s x).state.settings ≡ s.settings
  at_settings s None = refl
  at_settings s (Some x) = keeps.heard_too s x

  meets_quiet : (p : Play) (e : TerminalEvent) → (rule p.state e).state.settings ≡ p.state.settings → Quiet p (meets p e)
  meets_quiet p e same = (done_same (rule p.state e).steps p.world.terminal p.world (rule_keeps p.state e), same, held_same (rule p.state e).steps p.held (rule_keeps p.state e))

  met : (p : Play) (e : TerminalEvent) → Quiet p (meets p e)
  met p e = meets_quiet p e (keeps.ruled p.state e)

  lost : (p : Play) → Quiet p (loses p)
  lost p = quiet_if p p.world.terminal.using (meets p event.Lost) p (met p event.Lost) (none p)

  beaten : (n : ℕ) (p : Play) → Quiet p (beats n p)
  beaten zero p = none p
  beaten (suc n) p = quiet_trans p (meets p event.Beat) (beats n (meets p event.Beat)) (met p event.Beat) (beaten n (meets p event.Beat))

  read_one : (p : Play) → Quiet p (reads_one p)
  read_one p =
      let heard = heard_in p.world.partial (completed_item (newest p.world).down) in
      let r = rule_at p.state heard in
      let read = after p.world (Down (takes_first r.steps)) in (
        same_trans p.world read (done read (as_steps read.terminal (behind_first r.steps))) (read_same p.world (takes_first r.steps))
            (done_same (behind_first r.steps) read.terminal read (behind_none r.steps (at_none p.state heard))),
        at_settings p.state heard,
        held_same r.steps p.held (at_none p.state heard),
      )

  read_many : (n : ℕ) (p : Play) → Quiet p (reads n p)
  read_many zero p = none p
  read_many (suc n) p =
      quiet_if p (reads_more p) (reads n (reads_one p)) p (quiet_trans p (reads_one p) (reads n (reads_one p)) (read_one p) (read_many n (reads_one p))) (none p)

  read_down : (p : Play) (count : Option ℕ) → Quiet p (reads_down p count)
  read_down p count = quiet_if p p.world.terminal.using (reads (octets_moving count (newest p.world).down) p) p (read_many (octets_moving count (newest p.world).down) p) (none p)

  gone_up : (p : Play) → Quiet p (goes_up p)
  gone_up p = (takes_same (left_of (newest p.world).up) p.world (newest_place p.world.lines), refl, refl)

  one_round : (p : Play) → Quiet p (round p)
  one_round p = quiet_trans p (goes_up p) (comes_down (goes_up p)) (gone_up p) (read_many (left_of (newest (goes_up p).world).down) (goes_up p))

  all_rounds : (n : ℕ) (p : Play) → Quiet p (rounds n p)
  all_rounds zero p = none p
  all_rounds (suc n) p = quiet_if p (moves p) (rounds n (round p)) p (quiet_trans p (round p) (rounds n (round p)) (one_round p) (all_rounds n (round p))) (none p)

  ran : (p : Play) → Quiet p (runs p)
  ran p =
      let q = meets p (event.Tick p.clock) in
      quiet_trans p q (rounds (unsaid q.state + 1) q) (met p (event.Tick p.clock)) (all_rounds (unsaid q.state + 1) q)

  pub started : (p : Play) (settings : Settings) → Started p (starts_again p settings) settings
  started p settings = let q = met (begins p settings) (event.Tick p.clock) in record { world = q.0.0; held = q.2; phone = q.0.1; settings_are = q.1 }

  own_after_quiet : (p q : Play) → Quiet p q → Own p → Own q
  own_after_quiet p q quiet own = (quiet.0.1 ∙ (own.0 ∙ ap (λ (s : Settings). s.phone) (sym quiet.1)), quiet.0.0 ∙ (own.1 ∙ sym quiet.2))

  -- a line of world b is quiet
  pub line_quiet : (who : Edition → Settings) (p : Play) (e : WorldEvent) → is_line_of_b e ≡ true → Own p → Quiet p (play_after who p e)
  line_quiet who p (line.Fix latitude) of_b own = absurd cc
  line_quiet who p (line.Raw fix) of_b own = absurd cc
  line_quiet who p (line.RestartAs edition) of_b own = absurd cc
  line_quiet who p line.Open of_b own = quiet_trans p (loses p) (meets (loses p) event.Opened) (lost p) (met (loses p) event.Opened)
  line_quiet who p (line.Up number count) of_b own = (takes_same (octets_moving count (line_at p.world.lines (place_of number)).up) p.world (place_of number), refl, refl)
  line_quiet who p (line.Down count) of_b own = read_down p count
  line_quiet who p (line.Tick by) of_b own = let now = min (p.clock + by) (2 ^ 63) in met (record p { clock = now }) (event.Tick now)
  line_quiet who p (line.Beat n) of_b own = beaten n p
  line_quiet who p line.Run of_b own = ran p
  line_quiet who p (line.Cut number) of_b own = (cut_same p.world (place_of number), refl, refl)
  line_quiet who p line.Lost of_b own = lost p
  line_quiet who p line.RestartTerminal of_b own = let s = started p p.state.settings in ((s.world, s.phone ∙ sym own.0), s.settings_are, s.held)
  line_quiet who p line.RestartPlatform of_b own = none p

  started_own : (p q : Play) (settings : Settings) → Started p q settings → Own p → Own q
  started_own p q settings s own = (s.phone ∙ ap (λ (t : Settings). t.phone) (sym s.settings_are), s.world ∙ (own.1 ∙ sym s.held))

  own_after : (who : Edition → Settings) (p : Play) (e : WorldEvent) → Own p → Own (play_after who p e)
  own_after who p (line.Fix latitude) own = (own.0, ap (λ (l : List (List ℕ)). l ++ position.spell (position_at latitude) ∷ []) own.1)
  own_after who p (line.Raw fix) own = (own.0, ap (λ (l : List (List ℕ)). l ++ fix ∷ []) own.1)
  own_after who p (line.RestartAs edition) own = started_own p (starts_again p (who edition)) (who edition) (started p (who edition)) own
  own_after who p line.Open own = own_after_quiet p (play_after who p line.Open) (line_quiet who p line.Open refl own) own
  own_after who p (line.Up number count) own = own_after_quiet p (play_after who p (line.Up number count)) (line_quiet who p (line.Up number count) refl own) own
  own_after who p (line.Down count) own = own_after_quiet p (play_after who p (line.Down count)) (line_quiet who p (line.Down count) refl own) own
  own_after who p (line.Tick by) own = own_after_quiet p (play_after who p (line.Tick by)) (line_quiet who p (line.Tick by) refl own) own
  own_after who p (line.Beat n) own = own_after_quiet p (play_after who p (line.Beat n)) (line_quiet who p (line.Beat n) refl own) own
  own_after who p line.Run own = own_after_quiet p (play_after who p line.Run) (line_quiet who p line.Run refl own) own
  own_after who p (line.Cut number) own = own_after_quiet p (play_after who p (line.Cut number)) (line_quiet who p (line.Cut number) refl own) own
  own_after who p line.Lost own = own_after_quiet p (play_after who p line.Lost) (line_quiet who p line.Lost refl own) own
  own_after who p line.RestartTerminal own = own_after_quiet p (play_after who p line.RestartTerminal) (line_quiet who p line.RestartTerminal refl own) own
  own_after who p line.RestartPlatform own = own_after_quiet p (play_after who p line.RestartPlatform) (line_quiet who p line.RestartPlatform refl own) own

  own_along : (who : Edition → Settings) (p : Play) (events : List WorldEvent) → Own p → Own (plays who p events)
  own_along who p [] own = own
  own_along who p (e ∷ events) own = own_along who (play_after who p e) events (own_after who p e own)

  pub own_scripted : (s : Scene) → IsScripted s → Own s.play
  own_scripted s is = subst Own (sym is.play_is) (own_along (settings_in s.identity) (first_play (settings_in s.identity E2013) is.setting) is.events (refl, refl))
