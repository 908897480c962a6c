-- An event of the terminal, and its start, with all ways out: steps of the world of orders.
use Rattle.std.proofs.Common.{ℕ, ◌+◌, ◌≤◌, ◌≡◌, take, List, [], ◌∷◌, ◌++◌, length, Option, Some, None, true, arith, refl, ap, sym, ◌∙◌, subst}
use Rattle.std.specs.Prelude.{set}
use Rattle.std.proofs.lemmas.Bool.{false≢true}
use Rattle.jt_store.specs.Vaults.{Held}
use Rattle.jt_terminal_rule.specs.declared.state.State.{State}
use Rattle.jt_terminal_rule.specs.declared.state.Event.{Event}
use Rattle.jt_terminal_rule.specs.declared.state.Event.TheVariants as event
use Rattle.jt_terminal_rule.specs.Rule.{Ruled, Step, down, introduce, response, rule, sends, start_state}
use Rattle.jt_terminal_rule.specs.Law.{AreSteps, RuleIsCutInSteps, RuleTakesSteps, StartIsARestart, changes_then_loss, nothing_loaded}
use Rattle.jt_terminal_rule.specs.Machines.{as_steps, frames_by, held_after, is_up, machine_of}
use Rattle.jt_terminal_rule.specs.Steps.{Machine, MayRun, TerminalStep, machine_after, machine_run}
use Rattle.jt_terminal_rule.specs.Steps as step
use Rattle.jt_terminal_steps.specs.Running.{IsDown, holds_after}
use Rattle.jt_order.specs.declared.performed.Performed.{Performed}
use Rattle.jt_obeying.specs.Orders.{no_tables, tables_of}
use Rattle.jt_obeying.specs.Performing.{terminal_performing}
use Rattle.jt_order_terminal.specs.Ledgers.{IsLedgerOf, Ledger}
use Rattle.jt_order_terminal.specs.Terminals.{IsNoMessage, StandsForLine}
use Rattle.jt_octets.specs.World.{World, Line, line_at, newest, newest_place, taken_of}
use Rattle.jt_play.specs.Holding.{IsNoOpening}
use Rattle.jt_play.proofs.Acting.{held_is, machine_down, some_held}
use Rattle.jt_play.proofs.Beginning.{cut_open}
use Rattle.jt_play.proofs.Cutting.{OpensNone, done_world, down_same, quiet_world}
use Rattle.jt_play.proofs.Opening.{NoneOpens, opens_none, rule_keeps}
use Rattle.jt_play.proofs.Rounds.{newest_new, newest_set}
use Rattle.jt_play.proofs.Starting.{started_new}
use Rattle.jt_order_octets.specs.World.{OrderWorld}
use Rattle.jt_order_octets.specs.Steps.{Does, after}
use Rattle.jt_order_play.specs.Playing.{done}
use Rattle.jt_order_play.proofs.Acting.{apart_of}
use Rattle.jt_order_play.proofs.Doing.{done_is, quiet_opens}
use Rattle.jt_order_play.proofs.Naming.{event_names, quiet_names, steps_fine}
use Rattle.jt_order_terminal_steps.specs.Standing.{TerminalParts, TerminalStandsIn, after_call, line_after_call, with_line, with_line_at}
use Rattle.jt_order_terminal_steps.specs.Calls.{EventFails, EventIsDone, EventLeaves}
use Rattle.jt_order_terminal_steps.specs.Claim.{EventIsSteps, FailedEventIsSteps, FirstStartStands, LeadsTo, StartIsAStep}
use Rattle.jt_order_terminal_steps.proofs.Owning.{OwnLeads, done_own, leads_to, own_both, own_one}
use Rattle.jt_order_terminal_steps.proofs.Lines.{Most, lines_nothing, most_after_call, wrote_line}

-- ---- the world, in other words

-- the same world, by the terminal that stands in it
abbrev pub as_told : OrderWorld → TerminalParts → OrderWorld
as_told w t = record w { base = record w.base { terminal = machine_of t.held t.state }; log = t.log; tables = t.ledger.tables }

pub told_is : (w : OrderWorld) (t : TerminalParts) → TerminalStandsIn w t → w ≡ as_told w t
told_is w t stands = λ i. record w { base = record w.base { terminal = stands.terminal i }; log = stands.log i; tables = stands.tables i }

-- where nothing was read or written
pub behind_nothing : (w : OrderWorld) (t : TerminalParts) → after_call w t 0 [] [] ≡ as_told w t
behind_nothing w t = ap (λ (lines : List Line). record (as_told w t) { base = record (as_told w t).base { lines = lines } }) (lines_nothing w.base.lines)

-- steps that open no line, and what they write
pub wrote_behind : (w : OrderWorld) (steps : List Step) → NoneOpens steps → let xs = as_steps w.base.terminal steps in
    done w xs ≡ record w { base = record w.base { terminal = machine_run w.base.terminal xs; lines = set w.base.lines (newest_place w.base.lines) (line_after_call (newest w.base) 0 (frames_by w.base.terminal xs)) } }
wrote_behind w steps none =
    let xs = as_steps w.base.terminal steps in
    done_is w steps none
    ∙ (ap (λ (b : World). record w { base = b }) (done_world w.base xs (opens_none w.base.terminal steps none))
    ∙ ap (λ (lines : List Line). record w { base = record w.base { terminal = machine_run w.base.terminal xs; lines = lines } }) (wrote_line w.base.lines (frames_by w.base.terminal xs)))

-- an event that is no message brings no response
silent : (e : Event) → IsNoMessage e → response e ≡ None
silent event.Opened no_message = refl
silent (event.Received h m) no_message = absurd no_message
silent (event.Tick now) no_message = refl
silent event.Lost no_message = refl
silent event.Beat no_message = refl

opens_once : (s : State) (code : Option (List ℕ)) → NoneOpens (introduce (record s { sent = 0 }) code).steps
opens_once s None = tt
opens_once s (Some code) = tt

-- a line is in use behind steps that open none only where one was before
pub run_using : (m : Machine) (xs : List TerminalStep) → OpensNone xs → (machine_run m xs).using ≡ true → m.using ≡ true
run_using m [] none e = e
run_using m (step.Opens ∷ xs) none e = absurd none
run_using m (step.Sends place ∷ xs) none e = run_using (machine_after m (step.Sends place)) xs none e
run_using m (step.Says h body ∷ xs) none e = run_using (machine_after m (step.Says h body)) xs none e
run_using m (step.Records fix ∷ xs) none e = run_using (machine_after m (step.Records fix)) xs none e
run_using m (step.Forms unit ∷ xs) none e = run_using (machine_after m (step.Forms unit)) xs none e
run_using m (step.Accepts ∷ xs) none e = run_using (machine_after m step.Accepts) xs none e
run_using m (step.Loses ∷ xs) none e = absurd (false≢true (run_using (machine_after m step.Loses) xs none e))
run_using m (step.Restarts phone ∷ xs) none e = absurd (false≢true (run_using (machine_after m (step.Restarts phone)) xs none e))
run_using m (step.Codes code ∷ xs) none e = run_using (machine_after m (step.Codes code)) xs none e

-- what was read of the newest line, where nothing more was
same_read : (lines : List Line) (frames : List (List ℕ)) → let mid = set lines (newest_place lines) (line_after_call (line_at lines (newest_place lines)) 0 frames) in taken_of (line_at mid (newest_place mid)).down ≡ taken_of (line_at lines (newest_place lines)).down
same_read [] frames = refl
same_read (line ∷ lines) frames =
    let all = line ∷ lines in
    let x = line_at all (newest_place all) in
    ap (λ (l : Line). taken_of l.down) (newest_set all (line_after_call x 0 frames) (omega arith)) ∙ ap (λ (n : ℕ). take n x.down.octets) (let e : x.down.taken + 0 ≡ x.down.taken = omega arith in e)

opened_same : (e : Event) (w : OrderWorld) → IsNoOpening e → with_line_at e w ≡ w
opened_same event.Opened w other = absurd other
opened_same (event.Received h m) w other = refl
opened_same (event.Tick now) w other = refl
opened_same event.Lost w other = refl
opened_same event.Beat w other = refl

-- ---- an event

module _ (w : OrderWorld) (old now : TerminalParts) (stands : TerminalStandsIn w old) (e : Event) (no_message : IsNoMessage e) (met : EventLeaves e old now) where
  abbrev m : Machine
  m = machine_of old.held old.state

  abbrev u : OrderWorld
  u = as_told w old

  abbrev r : Ruled
  r = rule old.state e

  u_is : w ≡ u
  u_is = told_is w old stands

  ledger_now : IsLedgerOf now.log now.ledger
  ledger_now = subst (λ (log : List Performed). IsLedgerOf log now.ledger) (sym met.log) (subst (IsLedgerOf old.log) (sym met.ledger) stands.ledger)

  -- a world with the old log and tables, and another terminal, which wrote
  finish : (v : OrderWorld) (z : Machine) (fs frames : List (List ℕ)) → v.log ≡ old.log → v.tables ≡ old.ledger.tables → z ≡ machine_of now.held now.state → fs ≡ frames
      → (record v { base = record v.base { terminal = z; lines = set v.base.lines (newest_place v.base.lines) (line_after_call (newest v.base) 0 fs) } }) ≡ after_call v now 0 frames []
  finish v z fs frames log tables is sent = λ i. record v {
    base = record v.base { terminal = is i; lines = set v.base.lines (newest_place v.base.lines) (line_after_call (newest v.base) 0 (sent i)) };
    log = (log ∙ sym met.log) i;
    tables = (tables ∙ ap (λ (l : Ledger). l.tables) (sym met.ledger)) i;
  }

  -- ---- cut short

  module _ (begun left : List Step) (parts : r.steps ≡ begun ++ left) (held_now : Some now.held ≡ holds_after begun (Some old.held)) (is_down : IsDown now.state) (law : RuleIsCutInSteps) where
    cut : MayRun m None (as_steps m (changes_then_loss begun)) × (machine_run m (as_steps m (changes_then_loss begun)) ≡ machine_of (held_after begun old.held) (down old.state))
    cut = subst (λ a. MayRun (step.hears m a) a (as_steps (step.hears m a) (changes_then_loss begun)) × (machine_run (step.hears m a) (as_steps (step.hears m a) (changes_then_loss begun)) ≡ machine_of (held_after begun old.held) (down old.state)))
        (silent e no_message) (law old.held old.state e stands.sound.good stands.sound.order stands.sound.agrees.0 begun left parts)

    to_is : machine_run m (as_steps m (changes_then_loss begun)) ≡ machine_of now.held now.state
    to_is = cut.1 ∙ (down_same (held_after begun old.held) now.state old.state (sym met.settings)
        ∙ (ap (λ (h : Held). machine_of h (down now.state)) (sym (held_is begun old.held now.held held_now)) ∙ sym (machine_down now.held now.state is_down)))

    cut_is : done u (as_steps m (changes_then_loss begun)) ≡ after_call w now 0 [] []
    cut_is = done_is u (changes_then_loss begun) (quiet_opens begun)
        ∙ (ap (λ (b : World). record u { base = b }) (quiet_world u.base begun)
        ∙ ((λ i. record w { base = record w.base { terminal = to_is i }; log = sym met.log i; tables = (sym met.ledger i).tables }) ∙ sym (behind_nothing w now)))

    cut_leads : OwnLeads w (after_call w now 0 [] [])
    cut_leads = subst (λ (v : OrderWorld). OwnLeads v (after_call w now 0 [] [])) (sym u_is)
        (subst (OwnLeads u) cut_is (done_own u (as_steps m (changes_then_loss begun)) cut.0 (steps_fine m (changes_then_loss begun) (quiet_names begun))))

  -- ---- whole

  module _ (law : RuleTakesSteps) (state_is : now.state ≡ r.state) (held_now : Some now.held ≡ holds_after r.steps (Some old.held)) (frames : List (List ℕ)) (sent : frames ≡ sends old.state.settings r.steps) where
    steps : AreSteps m old.held None r
    steps = subst (λ a. AreSteps (step.hears m a) old.held a r) (silent e no_message) (law old.held old.state e stands.sound.good stands.sound.order stands.sound.agrees.0)

    whole_to : machine_run m (as_steps m r.steps) ≡ machine_of now.held now.state
    whole_to = steps.to ∙ (ap (λ (h : Held). machine_of h r.state) (sym (held_is r.steps old.held now.held held_now)) ∙ ap (machine_of now.held) (sym state_is))

    sent_is : frames_by m (as_steps m r.steps) ≡ frames
    sent_is = sym (sent ∙ steps.sent old.state.settings refl)

    done_whole : OwnLeads w (done u (as_steps m r.steps))
    done_whole = subst (λ (v : OrderWorld). OwnLeads v (done u (as_steps m r.steps))) (sym u_is) (done_own u (as_steps m r.steps) steps.may (steps_fine m r.steps (event_names old.state e no_message)))

    whole_leads : IsNoOpening e → OwnLeads w (after_call w now 0 frames [])
    whole_leads other = subst (OwnLeads w) (wrote_behind u r.steps (rule_keeps old.state e other) ∙ finish u (machine_run m (as_steps m r.steps)) (frames_by m (as_steps m r.steps)) frames refl refl whole_to sent_is) done_whole

    -- a line is in use only where one was
    was_up : IsNoOpening e → is_up now.state.phase ≡ true → is_up old.state.phase ≡ true
    was_up other up = run_using m (as_steps m r.steps) (opens_none m r.steps (rule_keeps old.state e other)) (ap (λ (z : Machine). z.using) whole_to ∙ up)

  -- ---- it stands

  stands_so : (v : OrderWorld) (frames : List (List ℕ)) → v.base.partial ≡ [] → Most v.base.lines → (is_up now.state.phase ≡ true → StandsForLine now.stream (taken_of (newest v.base).down)) → TerminalStandsIn (after_call v now 0 frames []) now
  stands_so v frames partial most hears = record {
    terminal = refl;
    sound = met.sound;
    log = refl;
    tables = refl;
    ledger = ledger_now;
    partial = partial;
    most = most_after_call v.base.lines 0 frames (omega (arith, most));
    hears = λ up. subst (StandsForLine now.stream) (sym (same_read v.base.lines frames)) (hears up);
  }

  no_line : IsDown now.state → (P : Type 0) → is_up now.state.phase ≡ true → P
  no_line is_down P up = absurd (false≢true (sym (ap is_up is_down.phase) ∙ up))

  same_stream : IsNoOpening e → is_up old.state.phase ≡ true → StandsForLine now.stream (taken_of (newest w.base).down)
  same_stream other up = subst (λ z. StandsForLine z (taken_of (newest w.base).down)) (sym (met.same (apart_of e other))) (stands.hears up)

-- ---- an opening

-- of a new line nothing was read
new_most : (w : OrderWorld) → Most (with_line w).base.lines
new_most w = subst (λ (l : Line). l.down.taken ≤ length l.down.octets) (sym (newest_new w.base.lines)) (omega arith)

module _ (w : OrderWorld) (old now : TerminalParts) (stands : TerminalStandsIn w old) (met : EventLeaves event.Opened old now) where
  abbrev o : OrderWorld
  o = as_told w old

  abbrev o1 : OrderWorld
  o1 = after o (Does step.Opens)

  abbrev m1 : Machine
  m1 = machine_after o.base.terminal step.Opens

  new_hears : StandsForLine now.stream (taken_of (newest (with_line w).base).down)
  new_hears = subst (λ (l : Line). StandsForLine now.stream (taken_of l.down)) (sym (newest_new w.base.lines)) (met.opened refl)

  opened_leads : RuleTakesSteps → (frames : List (List ℕ)) → EventIsDone event.Opened old now frames → OwnLeads w (after_call (with_line w) now 0 frames [])
  opened_leads law frames whole =
      let rest = (introduce (record old.state { sent = 0 }) old.state.code).steps in
      subst (OwnLeads w)
      (wrote_behind o1 rest (opens_once old.state old.state.code)
      ∙ finish w old now stands event.Opened tt met o1 (machine_run m1 (as_steps m1 rest)) (frames_by m1 (as_steps m1 rest)) frames refl refl
      (whole_to w old now stands event.Opened tt met law whole.state whole.vault frames whole.sends) (sent_is w old now stands event.Opened tt met law whole.state whole.vault frames whole.sends))
      (done_whole w old now stands event.Opened tt met law whole.state whole.vault frames whole.sends)

  lost_leads : EventFails event.Opened old now → OwnLeads w (after_call (with_line w) now 0 [] [])
  lost_leads part =
      let held : Some now.held ≡ Some old.held = cut_open old.state (Some old.held) (Some now.held) part.cut in
      let lost : machine_after m1 step.Loses ≡ machine_of now.held now.state =
      ap (λ (n : ℕ). record (machine_of old.held (down old.state)) { reach = n }) (let e : old.held.accepted ≡ old.held.accepted + 0 = omega arith in e)
      ∙ (down_same old.held now.state old.state (sym met.settings) ∙ (ap (λ (h : Held). machine_of h (down now.state)) (sym (some_held now.held old.held held)) ∙ sym (machine_down now.held now.state part.down))) in
      subst (λ (v : OrderWorld). OwnLeads v (after_call (with_line w) now 0 [] [])) (sym (told_is w old stands))
      (subst (OwnLeads o)
      ((λ i. record (with_line w) { base = record (with_line w).base { terminal = lost i }; log = sym met.log i; tables = (sym met.ledger i).tables }) ∙ sym (behind_nothing (with_line w) now))
      (own_both o o1 (after o1 (Does step.Loses)) (own_one o (Does step.Opens) (tt, tt) tt) (own_one o1 (Does step.Loses) (tt, tt) tt)))

-- ---- the claims

whole_by : RuleTakesSteps → (w : OrderWorld) (e : Event) (old now : TerminalParts) (frames : List (List ℕ)) → TerminalStandsIn w old → IsNoMessage e → IsNoOpening e → EventIsDone e old now frames → LeadsTo w (after_call w now 0 frames []) now
whole_by law w e old now frames stands no_message other whole = leads_to w (after_call w now 0 frames []) now
    (whole_leads w old now stands e no_message whole.met law whole.state whole.vault frames whole.sends other)
    (stands_so w old now stands e no_message whole.met w frames stands.partial stands.most (λ up. same_stream w old now stands e no_message whole.met other (was_up w old now stands e no_message whole.met law whole.state whole.vault frames whole.sends other up)))

pub event_whole : RuleTakesSteps → EventIsSteps
event_whole law w event.Opened old now frames stands no_message whole = leads_to w (after_call (with_line w) now 0 frames []) now
    (opened_leads w old now stands whole.met law frames whole)
    (stands_so w old now stands event.Opened tt whole.met (with_line w) frames refl (new_most w) (λ up. new_hears w old now stands whole.met))
event_whole law w (event.Received h m) old now frames stands no_message whole = absurd no_message
event_whole law w (event.Tick t) old now frames stands no_message whole = whole_by law w (event.Tick t) old now frames stands no_message tt whole
event_whole law w event.Lost old now frames stands no_message whole = whole_by law w event.Lost old now frames stands no_message tt whole
event_whole law w event.Beat old now frames stands no_message whole = whole_by law w event.Beat old now frames stands no_message tt whole

part_by : RuleIsCutInSteps → (w : OrderWorld) (e : Event) (old now : TerminalParts) → TerminalStandsIn w old → IsNoMessage e → IsNoOpening e → EventFails e old now → LeadsTo w (after_call w now 0 [] []) now
part_by law w e old now stands no_message other part = leads_to w (after_call w now 0 [] []) now
    (cut_leads w old now stands e no_message part.met part.cut.done part.cut.left part.cut.parts part.cut.held part.down law)
    (stands_so w old now stands e no_message part.met w [] stands.partial stands.most (no_line w old now stands e no_message part.met part.down (StandsForLine now.stream (taken_of (newest w.base).down))))

pub event_in_part : RuleIsCutInSteps → FailedEventIsSteps
event_in_part law w event.Opened old now stands no_message part = leads_to w (after_call (with_line w) now 0 [] []) now
    (lost_leads w old now stands part.met part)
    (stands_so w old now stands event.Opened tt part.met (with_line w) [] refl (new_most w) (λ up. new_hears w old now stands part.met))
event_in_part law w (event.Received h m) old now stands no_message part = absurd no_message
event_in_part law w (event.Tick t) old now stands no_message part = part_by law w (event.Tick t) old now stands no_message tt part
event_in_part law w event.Lost old now stands no_message part = part_by law w event.Lost old now stands no_message tt part
event_in_part law w event.Beat old now stands no_message part = part_by law w event.Beat old now stands no_message tt part

-- ---- starts

pub start_is : StartIsARestart → StartIsAStep
start_is law w settings old now stands good own started =
    let again = law old.held old.state settings started.is.loaded stands.sound.order stands.sound.agrees.0 started.is.is started.is.order good.phone own in
    let by = Does (step.Restarts settings.phone) in
    leads_to w (after w by) now (subst (λ (v : OrderWorld). OwnLeads v (after v by)) (sym (told_is w old stands)) (own_one (as_told w old) by (again.may, tt) tt)) (record {
      terminal = ap (λ (z : Machine). machine_after z (step.Restarts settings.phone)) stands.terminal ∙ (again.to ∙ (ap (λ (h : Held). machine_of h (start_state settings started.is.loaded)) (sym started.held) ∙ ap (machine_of now.held) (sym started.is.state)));
      sound = started.sound;
      log = stands.log ∙ sym started.log;
      tables = ap (tables_of terminal_performing no_tables) (stands.log ∙ sym started.log) ∙ sym started.ledger.tables;
      ledger = started.ledger;
      partial = stands.partial;
      most = stands.most;
      hears = λ up. absurd (false≢true (sym (ap (λ (s : State). is_up s.phase) started.is.state) ∙ up));
    })

pub first_is : FirstStartStands
first_is settings setting now start =
    let state : now.state ≡ start_state settings nothing_loaded = started_new settings now.state start.is in
    record {
      terminal = ap (λ (h : Held). machine_of h (start_state settings nothing_loaded)) (sym start.held) ∙ ap (machine_of now.held) (sym state);
      sound = start.sound;
      log = sym start.log;
      tables = ap (tables_of terminal_performing no_tables) (sym start.log) ∙ sym start.ledger.tables;
      ledger = start.ledger;
      partial = refl;
      most = omega arith;
      hears = λ up. absurd (false≢true (sym (ap (λ (s : State). is_up s.phase) state) ∙ up));
    }
