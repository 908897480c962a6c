-- What a line of a script records, and how many lines of communication there are behind it.
use Rattle.std.proofs.Common.{◌≡◌, ℕ, zero, suc, ◌+◌, ◌≤◌, ◌^◌, List, [], ◌∷◌, ◌++◌, length, map, Bool, true, false, cond, Option, None, Some, refl, sym, ap, ◌∙◌, subst, arith, append-nil}
use Rattle.std.specs.Prelude.{◌&&◌, is_none, min}
use Rattle.std.proofs.lemmas.List.{length-append, length-map, length-set}
use Rattle.jt_value.specs.declared.phone.Edition.{Edition}
use Rattle.jt_position.specs.Fixes.{position_at}
use Rattle.jt_position.specs.Positions.{position}
use Rattle.jt_session.specs.Talk.{State as Session, Way}
use Rattle.jt_store.specs.Vaults.{Held, Notes, Forms, Accepts, Sets, held_by}
use Rattle.jt_terminal_rule.specs.declared.settings.Settings.{Settings}
use Rattle.jt_terminal_rule.specs.declared.state.State.{State}
use Rattle.jt_terminal_rule.specs.declared.state.Event.{Event as TerminalEvent}
use Rattle.jt_terminal_rule.specs.declared.state.Event.TheVariants as event
use Rattle.jt_terminal_rule.specs.Machines.{as_steps, held_after}
use Rattle.jt_terminal_rule.specs.Rule.{Heard, Step, rule}
use Rattle.jt_terminal_rule.specs.Rule as rule_of
use Rattle.jt_terminal_rule.specs.Steps.{TerminalStep, writes}
use Rattle.jt_terminal_rule.specs.Steps as step
use Rattle.jt_terminal_rule.specs.Unsaid.{unsaid}
use Rattle.jt_terminal.specs.Line.{rule_at}
use Rattle.jt_octets.specs.World.{World, Line, completed_item, line_at, new_line, newest, newest_place}
use Rattle.jt_octets.specs.Steps.{Cut, Does, Down, RestartPlatform, Up, after, after_step, after_take, shut, writing}
use Rattle.jt_script.specs.declared.world_event.WorldEvent.{WorldEvent}
use Rattle.jt_script.specs.declared.world_event.WorldEvent.TheVariants as line
use Rattle.jt_play.specs.Laws.{opened_by, recorded_by}
use Rattle.jt_play.specs.Playing.{Play, beats, begins, behind_first, closes, comes_down, cuts, done, goes_up, has_left, heard_in, left_of, loses, meets, moves, octets_moving, place_of, play_after, reads, reads_down, reads_more, reads_one, round, rounds, runs, starts_again, takes, takes_by, takes_first, takes_one, takes_up, way_at}
use Rattle.jt_play.proofs.RuleNotes.{NotesNone, heard_keeps, rule_keeps}

-- ---- worlds: no line of communication is forgotten

abbrev More : World → World → Type 0
More w v = length w.lines ≤ length v.lines

more_trans : (w v u : World) → More w v → More v u → More w u
more_trans w v u a b = omega (arith, a, b)

more_same : (w v : World) → length v.lines ≡ length w.lines → More w v
more_same w v same = omega (arith, same)

more_self : (w : World) → More w w
more_self w = omega arith

more_if : (w : World) (b : Bool) (x y : World) → More w x → More w y → More w (cond b x y)
more_if w true x y p q = p
more_if w false x y p q = q

wrote_length : (lines : List Line) (octets : List ℕ) → length (writing lines octets) ≡ length lines
wrote_length lines octets = length-set lines (newest_place lines) _

opened_more : (w : World) → length (after w (Does step.Opens)).lines ≡ length w.lines + 1
opened_more w = length-append w.lines (new_line ∷ [])

step_more : (w : World) (s : TerminalStep) → More w (after w (Does s))
step_more w (step.Sends place) = more_same w (after w (Does (step.Sends place))) (wrote_length w.lines (writes w.terminal (step.Sends place)))
step_more w (step.Says h body) = more_same w (after w (Does (step.Says h body))) (wrote_length w.lines (writes w.terminal (step.Says h body)))
step_more w step.Opens = let one = opened_more w in omega (arith, one)
step_more w (step.Records fix) = more_self w
step_more w (step.Forms unit) = more_self w
step_more w step.Accepts = more_self w
step_more w step.Loses = more_self w
step_more w (step.Restarts phone) = more_self w
step_more w (step.Codes code) = more_self w

done_more : (w : World) (steps : List TerminalStep) → More w (done w steps)
done_more w [] = more_self w
done_more w (s ∷ steps) = more_trans w (after w (Does s)) (done (after w (Does s)) steps) (step_more w s) (done_more (after w (Does s)) steps)

taken_more : (w : World) (place : ℕ) (way : Way) (s : Option Session) → More w (after_take w place s (completed_item (line_at w.lines place).up) way)
taken_more w place way None = more_self w
taken_more w place way (Some s) = more_same w (after_take w place (Some s) (completed_item (line_at w.lines place).up) way) (length-set w.lines place _)

cut_more : (w : World) (place : ℕ) → More w (after w (Cut place))
cut_more w place = more_same w (after w (Cut place)) (length-set w.lines place _)

closed_more : (w : World) (place : ℕ) → More w (closes place w)
closed_more w place = more_if w (is_none (line_at w.lines place).session) (after w (Cut place)) w (cut_more w place) (more_self w)

one_more : (w : World) (place : ℕ) → More w (takes_one w place)
one_more w place = by (line_at w.lines place).session
  where
    by : (s : Option Session) → More w (takes_by w place s)
    by None = more_self w
    by (Some s) =
        let way = way_at w place s (completed_item (line_at w.lines place).up) in
        let v = after w (Up place way) in
        more_trans w v (closes place v) (taken_more w place way (line_at w.lines place).session) (closed_more v place)

takes_more : (n : ℕ) (w : World) (place : ℕ) → More w (takes n w place)
takes_more zero w place = more_self w
takes_more (suc n) w place =
    more_if w ((line_at w.lines place).is_open && has_left (line_at w.lines place).up) (takes n (takes_one w place) place) w
    (more_trans w (takes_one w place) (takes n (takes_one w place) place) (one_more w place) (takes_more n (takes_one w place) place)) (more_self w)

read_more : (w : World) (takes : Bool) → More w (after w (Down takes))
read_more w takes = more_same w (after w (Down takes)) (length-set w.lines (newest_place w.lines) _)

restarted_more : (w : World) → More w (after w RestartPlatform)
restarted_more w = more_same w (after w RestartPlatform) (length-map w.lines shut)

-- ---- plays: and the vault recorded the same

abbrev Stays : Play → Play → Type 0
Stays p q = (q.held.recorded ≡ p.held.recorded) × More p.world q.world

stays_trans : (p q r : Play) → Stays p q → Stays q r → Stays p r
stays_trans p q r a b = (b.0 ∙ a.0, more_trans p.world q.world r.world a.1 b.1)

stays_if : (p : Play) (b : Bool) (x y : Play) → Stays p x → Stays p y → Stays p (cond b x y)
stays_if p true x y a b = a
stays_if p false x y a b = b

stays_self : (p : Play) → Stays p p
stays_self p = (refl, more_self p.world)

pub held_same : (steps : List Step) (h : Held) → NotesNone steps → (held_after steps h).recorded ≡ h.recorded
held_same [] h none = refl
held_same (rule_of.Changes (Notes fix) ∷ steps) h none = absurd none
held_same (rule_of.Changes (Forms unit) ∷ steps) h none = held_same steps (held_by (Forms unit) h) none
held_same (rule_of.Changes Accepts ∷ steps) h none = held_same steps (held_by Accepts h) none
held_same (rule_of.Changes (Sets code) ∷ steps) h none = held_same steps (held_by (Sets code) h) none
held_same (rule_of.Sends older unit ∷ steps) h none = held_same steps h none
held_same (rule_of.Says say body ∷ steps) h none = held_same steps h none
held_same (rule_of.Opens ∷ steps) h none = held_same steps h none
held_same (rule_of.Loses ∷ steps) h none = held_same steps h none

pub at_none : (s : State) (x : Option Heard) → NotesNone (rule_at s x).steps
at_none s None = tt
at_none s (Some x) = heard_keeps s x

meets_stays : (p : Play) (e : TerminalEvent) → Stays p (meets p e)
meets_stays p e = (held_same (rule p.state e).steps p.held (rule_keeps p.state e), done_more p.world (as_steps p.world.terminal (rule p.state e).steps))

loses_stays : (p : Play) → Stays p (loses p)
loses_stays p = stays_if p p.world.terminal.using (meets p event.Lost) p (meets_stays p event.Lost) (stays_self p)

beats_stays : (n : ℕ) (p : Play) → Stays p (beats n p)
beats_stays zero p = stays_self p
beats_stays (suc n) p = stays_trans p (meets p event.Beat) (beats n (meets p event.Beat)) (meets_stays p event.Beat) (beats_stays n (meets p event.Beat))

one_stays : (p : Play) → Stays p (reads_one p)
one_stays p =
    let heard = heard_in p.world.partial (completed_item (newest p.world).down) in
    let steps = (rule_at p.state heard).steps in
    let read = after p.world (Down (takes_first steps)) in
    let all = as_steps read.terminal (behind_first steps) in
    (held_same steps p.held (at_none p.state heard), more_trans p.world read (done read all) (read_more p.world (takes_first steps)) (done_more read all))

reads_stays : (n : ℕ) (p : Play) → Stays p (reads n p)
reads_stays zero p = stays_self p
reads_stays (suc n) p = stays_if p (reads_more p) (reads n (reads_one p)) p (stays_trans p (reads_one p) (reads n (reads_one p)) (one_stays p) (reads_stays n (reads_one p))) (stays_self p)

down_stays : (p : Play) (count : Option ℕ) → Stays p (reads_down p count)
down_stays p count = let n = octets_moving count (newest p.world).down in stays_if p p.world.terminal.using (reads n p) p (reads_stays n p) (stays_self p)

up_stays : (p : Play) → Stays p (goes_up p)
up_stays p = (refl, takes_more (left_of (newest p.world).up) p.world (newest_place p.world.lines))

round_stays : (p : Play) → Stays p (round p)
round_stays p = let q = goes_up p in stays_trans p q (comes_down q) (up_stays p) (reads_stays (left_of (newest q.world).down) q)

rounds_stays : (n : ℕ) (p : Play) → Stays p (rounds n p)
rounds_stays zero p = stays_self p
rounds_stays (suc n) p = stays_if p (moves p) (rounds n (round p)) p (stays_trans p (round p) (rounds n (round p)) (round_stays p) (rounds_stays n (round p))) (stays_self p)

runs_stays : (p : Play) → Stays p (runs p)
runs_stays p = let q = meets p (event.Tick p.clock) in stays_trans p q (rounds (unsaid q.state + 1) q) (meets_stays p (event.Tick p.clock)) (rounds_stays (unsaid q.state + 1) q)

begins_stays : (p : Play) (settings : Settings) → Stays p (starts_again p settings)
begins_stays p settings = let q = begins p settings in stays_trans p q (meets q (event.Tick p.clock)) (refl, more_self p.world) (meets_stays q (event.Tick p.clock))

-- ---- a line of communication is opened

opens_more : (p : Play) → length p.world.lines + 1 ≤ length (meets p event.Opened).world.lines
opens_more p =
    let w = after p.world (Does step.Opens) in
    let one = opened_more p.world in
    let more = done_more w (as_steps w.terminal (rule_of.introduce (record p.state { sent = 0 }) p.state.code).steps) in
    omega (arith, one, more)

opens_stays : (p : Play) → Stays p (meets (loses p) event.Opened)
opens_stays p = stays_trans p (loses p) (meets (loses p) event.Opened) (loses_stays p) (meets_stays (loses p) event.Opened)

-- ---- lines of a script

none_recorded : (p q : Play) → Stays p q → q.held.recorded ≡ p.held.recorded ++ []
none_recorded p q s = s.0 ∙ sym (append-nil p.held.recorded)

pub each_line_records : (who : Edition → Settings) (p : Play) (e : WorldEvent) → (play_after who p e).held.recorded ≡ p.held.recorded ++ recorded_by e
each_line_records who p (line.Fix latitude) = refl
each_line_records who p (line.Raw fix) = refl
each_line_records who p line.Open = none_recorded p (play_after who p line.Open) (opens_stays p)
each_line_records who p (line.Up number count) = sym (append-nil p.held.recorded)
each_line_records who p (line.Down count) = none_recorded p (reads_down p count) (down_stays p count)
each_line_records who p (line.Tick by) = let now = min (p.clock + by) (2 ^ 63) in none_recorded p (play_after who p (line.Tick by)) (meets_stays (record p { clock = now }) (event.Tick now))
each_line_records who p (line.Beat n) = none_recorded p (beats n p) (beats_stays n p)
each_line_records who p line.Run = none_recorded p (runs p) (runs_stays p)
each_line_records who p (line.Cut number) = sym (append-nil p.held.recorded)
each_line_records who p line.Lost = none_recorded p (loses p) (loses_stays p)
each_line_records who p line.RestartTerminal = none_recorded p (starts_again p p.state.settings) (begins_stays p p.state.settings)
each_line_records who p line.RestartPlatform = sym (append-nil p.held.recorded)
each_line_records who p (line.RestartAs edition) = none_recorded p (starts_again p (who edition)) (begins_stays p (who edition))

no_fewer : (a b : ℕ) → a ≤ b → a + 0 ≤ b
no_fewer a b le = omega (arith, le)

pub each_line_opens : (who : Edition → Settings) (p : Play) (e : WorldEvent) → length p.world.lines + opened_by e ≤ length (play_after who p e).world.lines
each_line_opens who p line.Open = let lost = (loses_stays p).1 in let one = opens_more (loses p) in omega (arith, lost, one)
each_line_opens who p (line.Fix latitude) = no_fewer _ _ (more_self p.world)
each_line_opens who p (line.Raw fix) = no_fewer _ _ (more_self p.world)
each_line_opens who p (line.Up number count) = no_fewer _ _ (takes_more (octets_moving count (line_at p.world.lines (place_of number)).up) p.world (place_of number))
each_line_opens who p (line.Down count) = no_fewer _ _ (down_stays p count).1
each_line_opens who p (line.Tick by) = let now = min (p.clock + by) (2 ^ 63) in no_fewer _ _ (meets_stays (record p { clock = now }) (event.Tick now)).1
each_line_opens who p (line.Beat n) = no_fewer _ _ (beats_stays n p).1
each_line_opens who p line.Run = no_fewer _ _ (runs_stays p).1
each_line_opens who p (line.Cut number) = no_fewer _ _ (more_if p.world (line_at p.world.lines (place_of number)).is_open (after p.world (Cut (place_of number))) p.world (cut_more p.world (place_of number)) (more_self p.world))
each_line_opens who p line.Lost = no_fewer _ _ (loses_stays p).1
each_line_opens who p line.RestartTerminal = no_fewer _ _ (begins_stays p p.state.settings).1
each_line_opens who p line.RestartPlatform = no_fewer _ _ (restarted_more p.world)
each_line_opens who p (line.RestartAs edition) = no_fewer _ _ (begins_stays p (who edition)).1
