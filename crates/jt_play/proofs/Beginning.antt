-- A new line, with all ways out of its opening.
use Rattle.std.proofs.Common.{ℕ, zero, suc, ◌+◌, ◌<◌, ◌≤◌, ◌≡◌, ◌⊎◌, inl, inr, List, [], ◌∷◌, ◌++◌, length, map, get_or, Option, Some, None, Bool, true, false, arith, refl, ap, sym, ◌∙◌, subst}
use Rattle.std.specs.List.{flat_map}
use Rattle.std.proofs.lemmas.Bool.{cases_lt}
use Rattle.std.proofs.lemmas.List.{get_or_append_left, get_or_push, length_push, map-append}
use Rattle.jt_value.specs.Sameness.{key_of}
use Rattle.jt_store.specs.Memory.{KeeperState, Stock, tables_of}
use Rattle.jt_store.specs.Verdicts.{alone}
use Rattle.jt_store.specs.Vaults.{Held}
use Rattle.jt_subpacket.specs.Partials.{Partial}
use Rattle.jt_platform.specs.declared.request.Entry.{Entry}
use Rattle.jt_platform.specs.History.{newest, closed}
use Rattle.jt_platform.specs.Hub.{HubValue}
use Rattle.jt_platform.specs.Laws.{shelf_of}
use Rattle.jt_terminal_rule.specs.declared.settings.Settings.{Settings}
use Rattle.jt_terminal_rule.specs.declared.state.State.{State}
use Rattle.jt_terminal_rule.specs.declared.state.Event.TheVariants as event
use Rattle.jt_terminal_rule.specs.Rule.{Ruled, Step, and_then, down, introduce, rule, sends}
use Rattle.jt_terminal_rule.specs.Rule as rule_of
use Rattle.jt_terminal_rule.specs.Law.{AreSteps, RuleTakesSteps}
use Rattle.jt_terminal_rule.specs.Machines.{as_steps, frames_by, held_after, machine_of}
use Rattle.jt_terminal_rule.specs.Steps.{Machine, TerminalStep, machine_after, machine_run}
use Rattle.jt_terminal_rule.specs.Steps as step
use Rattle.std.specs.Prelude.{if◌then◌else◌}
use Rattle.jt_terminal.specs.Line.{LineValue, StandsForLine, partial_of}
use Rattle.jt_terminal_steps.specs.Running.{CutShort, IsDown, IsSound, TerminalValue, holds_after}
use Rattle.jt_octets.specs.World.{World, Line, line_at, new_line, newest_place, taken_of}
use Rattle.jt_octets.specs.Steps.{Does, after}
use Rattle.jt_octets.specs.Reaching.{Leads}
use Rattle.jt_play.specs.Playing.{Play, acts, done, loses, meets}
use Rattle.jt_play.specs.Holding.{IsHearing, IsRunning, Numbered, blank, first_line, heard_on, lines_in, play_of, shelf_in, taken_on, with_lines, wrote_all, wrote_last}
use Rattle.jt_play.proofs.Rounds.{newest_new}
use Rattle.jt_play.proofs.Downward.{IsPlay, acts_leads, leads_both, leads_one}
use Rattle.jt_play.proofs.Cutting.{OpensNone, done_world, down_same, wrote}
use Rattle.jt_play.proofs.Opening.{NoneOpens, opens_none}
use Rattle.jt_play.proofs.Acting.{NoChange, front_none, held_is, machine_down, quiet_held, some_held, wrote_sent}
use Rattle.jt_play.proofs.Worlds.{sent_play}

-- ---- the rule at an opening

abbrev opened : State → State
opened s = record s { sent = 0 }

abbrev rest : State → Option (List ℕ) → List Step
rest s code = (introduce (opened s) code).steps

opens_once : (s : State) (code : Option (List ℕ)) → NoneOpens (rest s code)
opens_once s None = tt
opens_once s (Some code) = tt

no_change : (s : State) (code : Option (List ℕ)) → NoChange (rule_of.Opens ∷ rest s code)
no_change s None = tt
no_change s (Some code) = tt

-- an opening changes nothing of the vault, whole or cut short
pub open_quiet : (s : State) (held : Option Held) → holds_after (rule s event.Opened).steps held ≡ held
open_quiet s held = quiet_held (rule s event.Opened).steps held (no_change s s.code)

pub cut_open : (s : State) (old now : Option Held) → CutShort (rule s event.Opened).steps old now → now ≡ old
cut_open s old now c = c.held ∙ quiet_held c.done old (front_none c.done c.left (subst NoChange c.parts (no_change s s.code)))

-- ---- the parts with a new line

module _ (t : TerminalValue Stock) (hub : HubValue KeeperState) (lines : List Numbered) (past : List Entry) (told : List ℕ) (clock number most : ℕ) (running : IsRunning t hub lines) (number_is : number ≡ length lines + 1) (grew : hub.reserved ≤ most) where
  abbrev room : HubValue KeeperState
  room = record hub { reserved = most }

  abbrev more : List Numbered
  more = lines ++ first_line number ∷ []

  -- the hub has room for one Close more
  pub room_running : IsRunning t room lines
  room_running = record {
    sound = running.sound;
    numbers = running.numbers;
    alone_is = running.alone_is;
    unclosed = running.unclosed;
    unopened = running.unopened;
    reserved = λ place lt is_open. let e = running.reserved place lt is_open in omega (arith, e, grew);
    limit = running.limit;
  }

  more_length : length more ≡ length lines + 1
  more_length = length_push lines (first_line number)

  -- what holds of each line that was there and of the new one holds of each
  each : (P : ℕ → Numbered → Type 0) → ((place : ℕ) → place < length lines → P place (get_or lines place blank)) → P (length lines) (first_line number) → (place : ℕ) → place < length more → P place (get_or more place blank)
  each P old new place lt = by (cases_lt place (length lines))
    where
      by : (place < length lines) ⊎ (length lines ≤ place) → P place (get_or more place blank)
      by (inl less) = subst (P place) (sym (get_or_append_left lines (first_line number ∷ []) blank place less)) (old place less)
      by (inr beyond) =
          let e : length lines ≡ place = omega (arith, beyond, lt, more_length) in
          subst (λ (n : ℕ). P n (get_or more n blank)) e (subst (P (length lines)) (sym (get_or_push lines (first_line number) blank (length lines) refl)) new)

  pub more_running : number ≤ most → IsRunning t room more
  more_running enough = record {
    sound = running.sound;
    numbers = each (λ place n. n.number ≡ suc place) running.numbers (omega (arith, number_is));
    alone_is = running.alone_is;
    unclosed = each (λ place n. n.line.is_open ≡ true → closed (newest hub.history) (suc place) ≡ false) running.unclosed (λ is_open. running.unopened (suc (length lines)) (omega arith));
    unopened = λ session lt. running.unopened session (omega (arith, lt, more_length));
    reserved = each (λ place n. n.line.is_open ≡ true → suc place ≤ most) room_running.reserved (λ is_open. omega (arith, number_is, enough));
    limit = running.limit;
  }

  lines_more : lines_in more ≡ lines_in lines ++ new_line ∷ []
  lines_more = map-append (λ (n : Numbered). n.line) lines (first_line number ∷ [])

  -- nothing was read on the new line
  pub taken_more : taken_on (lines_in more) ≡ []
  taken_more = ap taken_on lines_more ∙ ap (λ (line : Line). taken_of line.down) (newest_new (lines_in lines))

  heard_more : heard_on (lines_in more) ≡ []
  heard_more = ap partial_of taken_more

  abbrev p : Play
  p = play_of t hub lines past told clock

  abbrev w : World
  w = p.world

  abbrev m : Machine
  m = machine_of t.vault.held t.state

  abbrev m1 : Machine
  m1 = machine_after m step.Opens

  abbrev w1 : World
  w1 = after w (Does step.Opens)

  module _ (now : TerminalValue Stock) (same : now.state.settings ≡ t.state.settings) where
    -- the world with another terminal of the same phone, and a new line
    with_more : (z : Machine) → machine_of now.vault.held now.state ≡ z → (play_of now room more past told clock).world ≡ record w1 { terminal = z }
    with_more z is =
        ap (λ (s : Settings). let key = key_of s.phone in record (play_of t room more past told clock).world { terminal = machine_of now.vault.held now.state; keeper = shelf_of key (shelf_in hub.start key) (newest hub.history); began = shelf_in hub.start key }) same
        ∙ (ap (λ (y : Machine). record (play_of t room more past told clock).world { terminal = y }) is
        ∙ (ap (λ (y : List Partial). record (play_of t room more past told clock).world { terminal = z; partial = y }) heard_more
        ∙ ap (λ (y : List Line). record w1 { terminal = z; lines = y }) lines_more))

    -- cut short: the line is opened and lost
    pub cut_opened : Some now.vault.held ≡ Some t.vault.held → IsDown now.state → Leads w (play_of now room more past told clock).world
    cut_opened held is_down =
        let e : machine_of now.vault.held now.state ≡ machine_after m1 step.Loses =
        machine_down now.vault.held now.state is_down ∙ (ap (λ (h : Held). machine_of h (down now.state)) (some_held now.vault.held t.vault.held held) ∙ (down_same t.vault.held t.state now.state same
        ∙ ap (λ (n : ℕ). record (machine_of t.vault.held (down t.state)) { reach = n }) (omega arith))) in
        subst (Leads w) (sym (with_more (machine_after m1 step.Loses) e))
        (leads_both w w1 (after w1 (Does step.Loses)) (leads_one w (Does step.Opens) tt) (leads_one w1 (Does step.Loses) tt))

    module _ (law : RuleTakesSteps) where
      is_play : IsPlay p
      is_play = record { terminal = refl; good = running.sound.good; order = running.sound.order; agrees = running.sound.agrees.0 }

      abbrev r : Ruled
      r = rule t.state event.Opened

      steps : AreSteps m t.vault.held None r
      steps = law t.vault.held t.state event.Opened running.sound.good running.sound.order running.sound.agrees.0

      pub opened_leads : Leads w (meets p event.Opened).world
      opened_leads = acts_leads p r is_play steps

      abbrev xs : List TerminalStep
      xs = as_steps m1 (rest t.state t.state.code)

      done_is : done w (as_steps m r.steps) ≡ record w1 { terminal = machine_run m1 xs; lines = wrote w1.lines (frames_by m1 xs) }
      done_is = done_world w1 xs (opens_none m1 (rest t.state t.state.code) (opens_once t.state t.state.code))

      -- whole
      pub whole_opened : (lines_now : List Numbered) → now.state ≡ r.state → Some now.vault.held ≡ holds_after r.steps (Some t.vault.held)
          → lines_now ≡ wrote_last more (flat_map (λ (frame : List ℕ). frame) (sends t.state.settings r.steps)) → play_of now room lines_now past told clock ≡ meets p event.Opened
      whole_opened lines_now state_is held_now lines_are =
          let frames = sends t.state.settings r.steps in
          let held = held_after r.steps t.vault.held in
          let held_here : now.vault.held ≡ held = held_is r.steps t.vault.held now.vault.held held_now in
          sent_play now room more lines_now past told clock (flat_map (λ (frame : List ℕ). frame) frames) frames lines_are refl
          ∙ (ap (λ (x : World). record { world = record x { lines = wrote_all (lines_in more) frames }; held = now.vault.held; state = now.state; clock = clock })
          (with_more (machine_of held r.state) (ap (λ (h : Held). machine_of h now.state) held_here ∙ ap (machine_of held) state_is))
          ∙ (ap (λ (h : Held). record { world = record w1 { terminal = machine_of held r.state; lines = wrote_all (lines_in more) frames }; held = h; state = now.state; clock = clock }) held_here
          ∙ (ap (λ (s : State). record { world = record w1 { terminal = machine_of held r.state; lines = wrote_all (lines_in more) frames }; held = held; state = s; clock = clock }) state_is
          ∙ (ap (λ (z : Machine). record { world = record w1 { terminal = z; lines = wrote_all (lines_in more) frames }; held = held; state = r.state; clock = clock }) (sym steps.to)
          ∙ (ap (λ (ls : List Line). record { world = record w1 { terminal = machine_run m1 xs; lines = ls }; held = held; state = r.state; clock = clock })
          (ap (λ (ls : List Line). wrote_all ls frames) lines_more ∙ (sym (wrote_sent w1.lines frames) ∙ ap (wrote w1.lines) (steps.sent t.state.settings refl)))
          ∙ ap (λ (x : World). record { world = x; held = held; state = r.state; clock = clock }) (sym done_is))))))

-- ---- the ears

-- new ears stand for nothing
pub heard_from_new : (ears : LineValue) (seen : List ℕ) → StandsForLine ears [] → ears.stream.place ≡ 0 → seen ≡ [] → IsHearing ears seen
heard_from_new ears seen stands place is = subst (IsHearing ears) (sym is) (record { stands = stands; place = omega (arith, place) })

-- ---- the line in use that is lost before

pub loses_count : (p : Play) → length (loses p).world.lines ≡ length p.world.lines
loses_count p = by p.world.terminal.using
  where
    by : (b : Bool) → length (if b then meets p event.Lost else p).world.lines ≡ length p.world.lines
    by true = refl
    by false = refl
