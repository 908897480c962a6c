-- One octet down, with all ways out of the call.
use Rattle.std.proofs.Common.{ℕ, zero, suc, ◌+◌, ◌<◌, ◌≤◌, ◌≡◌, ◌≢◌, List, [], ◌∷◌, ◌++◌, length, take, map, set, get_or, reverse, Option, Some, None, Bool, true, false, arith, refl, ap, sym, ◌∙◌, subst}
use Rattle.std.specs.List.{flat_map}
use Rattle.std.specs.Option.{option_to_list, option_map}
use Rattle.std.specs.Prelude.{◌&&◌, ◌||◌, ◌^◌, is_some}
use Rattle.std.proofs.lemmas.Bool.{true≢false, lt-ltb}
use Rattle.std.proofs.lemmas.List.{length-set, length_push, map-append, reverse-append, get_or_read}
use Rattle.std.proofs.Math.Seq.{take-append_seam}
use Rattle.jt_value.specs.Sameness.{key_of}
use Rattle.jt_stream.specs.Unplaced.{Unplaced, items}
use Rattle.jt_store.specs.Memory.{KeeperState, Stock}
use Rattle.jt_store.specs.Vaults.{Held, Notes, Forms, Accepts, Sets}
use Rattle.jt_subpacket.specs.Partials.{Partial}
use Rattle.jt_platform.specs.declared.request.Entry.{Entry}
use Rattle.jt_platform.specs.History.{newest as newest_first}
use Rattle.jt_platform.specs.Hub.{HubValue}
use Rattle.jt_platform.specs.Laws.{shelf_of}
use Rattle.jt_terminal_rule.specs.declared.settings.Settings.{Settings}
use Rattle.jt_terminal_rule.specs.declared.state.Acknowledgement.{Acknowledgement}
use Rattle.jt_terminal_rule.specs.declared.state.State.{State}
use Rattle.jt_terminal_rule.specs.Rule.{Heard, Ruled, Step, down, named_place, sends}
use Rattle.jt_terminal_rule.specs.Rule as rule_of
use Rattle.jt_terminal_rule.specs.Law.{AreSteps, HeardIsCutInSteps, HeardTakesSteps, RuleIsCutInSteps, RuleKeepsSettings, RuleTellsTheUnit, changes_then_loss}
use Rattle.jt_terminal_rule.specs.Machines.{as_steps, frames_by, held_after, is_up, machine_of}
use Rattle.jt_terminal_rule.specs.Steps.{Machine, TerminalStep, machine_run, unit_named_by}
use Rattle.jt_terminal_rule.specs.Steps as step
use Rattle.jt_terminal.specs.Line.{LineValue, StandsForLine, partial_of, place_at, places_at_octets, rule_at, rule_at_octets}
use Rattle.jt_terminal_steps.specs.Running.{IsDown, TerminalValue, holds_after}
use Rattle.jt_octets.specs.World.{World, Line, Wire, completed_item, line_at, newest, newest_place, taken_of, with_one_taken}
use Rattle.jt_octets.specs.Steps.{Down, after, just_read, partial_behind, response_by}
use Rattle.jt_octets.specs.Reaching.{Leads}
use Rattle.jt_octets.proofs.Views.{StreamLaws}
use Rattle.jt_octets.proofs.Exact.{Behind, one_behind, partial_on}
use Rattle.jt_play.specs.declared.stage.Told.{Told}
use Rattle.jt_play.specs.Playing.{Play, behind_first, done, has_left, heard_in, moves, reads_one, takes_first, reads_more}
use Rattle.jt_play.specs.Holding.{IsHearing, IsRunning, Hears, Numbered, blank, heard_on, lines_in, noted_at, play_of, shelf_in, taken_on, told_of, wrote_all, wrote_last}
use Rattle.jt_play.proofs.Rounds.{May, behind_frames, heard_next, machine_next, newest_set}
use Rattle.jt_play.proofs.Upward.{grown, octet_of}
use Rattle.jt_play.proofs.Downward.{Brought, IsPlay, fed_one, just_of, next_steps, reads_leads, run_behind, told_one_at}
use Rattle.jt_play.proofs.Breaking.{more_count, read_leads, short_count, short_leads, taken_told}
use Rattle.jt_play.proofs.Cutting.{done_world, down_same, wrote}
use Rattle.jt_play.proofs.Opening.{NoneOpens, heard_keeps, opens_none}
use Rattle.jt_play.proofs.Acting.{held_is, machine_down, wrote_sent}
use Rattle.jt_play.proofs.Worlds.{length_in, line_in, sent_play, set_in, set_keeps}

-- ---- what is told

pub at_end : {A : Type 0} (xs : List A) (x y : A) → set (xs ++ x ∷ []) (length xs) y ≡ xs ++ y ∷ []
at_end [] x y = refl
at_end (z ∷ xs) x y = ap (λ rest. z ∷ rest) (at_end xs x y)

abbrev place_of : Told → ℕ
place_of t = t.accepted + t.older

pub told_more : (told : List Told) (t : Told) → told_of (told ++ t ∷ []) ≡ place_of t ∷ told_of told
told_more told t = ap (λ (places : List ℕ). reverse places) (map-append place_of told (t ∷ [])) ∙ reverse-append (map place_of told) (place_of t ∷ [])

pub told_noted : (told : List Told) (x : Told) (accepted : ℕ) (place : Option ℕ)
    → told_of (noted_at (told ++ x ∷ []) (length told) accepted (option_to_list place)) ≡ option_to_list (option_map (λ (older : ℕ). accepted + older) place) ++ told_of told
told_noted told x accepted None = ap told_of (take-append_seam told (x ∷ []))
told_noted told x accepted (Some older) = ap told_of (at_end told x (record { accepted = accepted; older = older })) ∙ told_more told (record { accepted = accepted; older = older })

pub told_cut : (told pushed cut : List Told) (x : Told) (count : ℕ) → pushed ≡ told ++ x ∷ [] → count ≡ length told → cut ≡ take count pushed → told_of cut ≡ told_of told
told_cut told pushed cut x count pushed_is count_is cut_is =
    ap told_of cut_is ∙ (ap (λ (l : List Told). told_of (take count l)) pushed_is ∙ (ap (λ (n : ℕ). told_of (take n (told ++ x ∷ []))) count_is ∙ ap told_of (take-append_seam told (x ∷ []))))

-- ---- what the terminal does where it hears nothing opens no line either

pub none_opens : (s : State) (o : Option Heard) → NoneOpens (rule_at s o).steps
none_opens s None = tt
none_opens s (Some x) = heard_keeps s x

pub none_behind : (steps : List Step) → NoneOpens steps → NoneOpens (behind_first steps)
none_behind [] none = tt
none_behind (rule_of.Changes Accepts ∷ steps) none = none
none_behind (rule_of.Changes (Notes fix) ∷ steps) none = none
none_behind (rule_of.Changes (Forms unit) ∷ steps) none = none
none_behind (rule_of.Changes (Sets code) ∷ steps) none = none
none_behind (rule_of.Sends older unit ∷ steps) none = none
none_behind (rule_of.Says h body ∷ steps) none = none
none_behind (rule_of.Opens ∷ steps) none = absurd none
none_behind (rule_of.Loses ∷ steps) none = none

-- what is told does not hang on whether the terminal is ready
pub named_still : (m : Machine) (just : Option Acknowledgement) → unit_named_by (step.hears m just) just ≡ unit_named_by m just
named_still m None = refl
named_still m (Some ack) = refl

pub heard_accepted : (m : Machine) (just : Option Acknowledgement) → (step.hears m just).accepted ≡ m.accepted
heard_accepted m None = refl
heard_accepted m (Some ack) = refl

pub heard_phone : (m : Machine) (just : Option Acknowledgement) → (step.hears m just).phone ≡ m.phone
heard_phone m None = refl
heard_phone m (Some ack) = refl

place_named : (s : State) (o : Option Heard) → place_at s o ≡ named_place s (response_by o)
place_named s None = refl
place_named s (Some x) = refl

brought : (wire : Wire) (item : Option Unplaced) → wire.taken < length wire.octets → Behind wire item → Brought (taken_of wire) (octet_of wire ∷ []) item
brought wire None lt e = ap items (sym (grown wire lt)) ∙ e
brought wire (Some item) lt e = ap items (sym (grown wire lt)) ∙ e

pub newest_at : (lines : List Line) (place : ℕ) → length lines ≡ place + 1 → newest_place lines ≡ place
newest_at [] place e = absurd (omega (arith, e))
newest_at (line ∷ lines) place e = omega (arith, e)

-- ---- an octet more

-- the newest line stands in this place, is in use and has this octet left, and this is the line once it was read
pub record IsNext (t : TerminalValue Stock) (hub : HubValue KeeperState) (lines : List Numbered) (place octet : ℕ) (x : Numbered) : Type 0 where
  pub running : IsRunning t hub lines
  pub last : length (lines_in lines) ≡ place + 1
  pub in_use : is_up t.state.phase ≡ true
  pub left : (get_or lines place blank).line.down.taken < length (get_or lines place blank).line.down.octets
  pub octet_is : octet ≡ get_or (get_or lines place blank).line.down.octets (get_or lines place blank).line.down.taken 0
  pub x_is : x ≡ record (get_or lines place blank) { line = record (get_or lines place blank).line { down = with_one_taken (get_or lines place blank).line.down } }

pub is_next : (t : TerminalValue Stock) (hub : HubValue KeeperState) (lines : List Numbered) (past : List Entry) (told : List ℕ) (clock place octet : ℕ) (n m x : Numbered) (q : Play) → IsRunning t hub lines
    → play_of t hub lines past told clock ≡ q → length q.world.lines ≡ place + 1 → q.world.terminal.using ≡ true → (line_at q.world.lines place).down.taken < length (line_at q.world.lines place).down.octets
    → n ≡ get_or lines place n → octet ≡ get_or n.line.down.octets n.line.down.taken 0 → m ≡ get_or lines place m → x ≡ record m { line = record m.line { down = with_one_taken m.line.down } } → IsNext t hub lines place octet x
is_next t hub lines past told clock place octet n m x q running view last in_use left at octet_is m_at x_is =
    let last_here : length (lines_in lines) ≡ place + 1 = subst (λ (p : Play). length p.world.lines ≡ place + 1) (sym view) last in
    let lt : place < length lines = let e = length_in lines in omega (arith, e, last_here) in
    record {
      running = running;
      last = last_here;
      in_use = subst (λ (p : Play). p.world.terminal.using ≡ true) (sym view) in_use;
      left = subst (λ (l : Line). l.down.taken < length l.down.octets) (line_in lines place lt) (subst (λ (p : Play). (line_at p.world.lines place).down.taken < length (line_at p.world.lines place).down.octets) (sym view) left);
      octet_is = octet_is ∙ ap (λ (y : Numbered). get_or y.line.down.octets y.line.down.taken 0) (get_or_read lines place n lt at blank);
      x_is = x_is ∙ ap (λ (y : Numbered). record y { line = record y.line { down = with_one_taken y.line.down } }) (get_or_read lines place m lt m_at blank);
    }

short_take : {A : Type 0} (n : ℕ) (xs : List A) → length (take n xs) ≤ n
short_take zero xs = omega arith
short_take (suc n) [] = omega arith
short_take (suc n) (x ∷ xs) = let e = short_take n xs in omega (arith, e)

-- the ears have room for one octet more
pub ears_short : (lines : List Line) (place : ℕ) (ears : LineValue) → length lines ≡ place + 1 → IsHearing ears (taken_on lines) → (line_at lines place).down.taken + 1 < 2 ^ 63 → ears.stream.place + 1 < 2 ^ 63
ears_short lines place ears last hearing short =
    let wire = (line_at lines (newest_place lines)).down in
    let e = hearing.place in
    let n = short_take wire.taken wire.octets in
    let here : wire.taken + 1 < 2 ^ 63 = subst (λ (k : ℕ). (line_at lines k).down.taken + 1 < 2 ^ 63) (sym (newest_at lines place last)) short in
    omega (arith, e, n, here)

pub none_is : {A : Type 0} (o : Option A) → is_some o ≡ false → o ≡ None
none_is None e = refl
none_is (Some x) e = absurd (true≢false e)

module _ (t : TerminalValue Stock) (hub : HubValue KeeperState) (lines : List Numbered) (past : List Entry) (told : List Told) (clock place octet : ℕ) (x : Numbered) (facts : IsNext t hub lines place octet x) (streams : StreamLaws) where
  abbrev old : Numbered
  old = get_or lines place blank

  abbrev p : Play
  p = play_of t hub lines past (told_of told) clock

  abbrev w : World
  w = p.world

  in_lines : place < length lines
  in_lines = let e = length_in lines in let last = facts.last in omega (arith, e, last)

  newest_is : newest w ≡ old.line
  newest_is = ap (line_at (lines_in lines)) (newest_at (lines_in lines) place facts.last) ∙ line_in lines place in_lines

  abbrev wire : Wire
  wire = (newest w).down

  wire_is : wire ≡ old.line.down
  wire_is = ap (λ (line : Line). line.down) newest_is

  left_there : wire.taken < length wire.octets
  left_there = subst (λ (z : Wire). z.taken < length z.octets) (sym wire_is) facts.left

  pub may : May p
  may = ap (λ (b : Bool). b && has_left wire) facts.in_use ∙ lt-ltb wire.taken (length wire.octets) left_there

  behind : Behind wire (completed_item wire)
  behind = one_behind streams wire left_there

  pub octet_there : octet ≡ octet_of wire
  octet_there = facts.octet_is ∙ ap octet_of (sym wire_is)

  pub came : Brought (taken_of wire) (octet ∷ []) (completed_item wire)
  came = subst (λ (o : ℕ). Brought (taken_of wire) (o ∷ []) (completed_item wire)) (sym octet_there) (brought wire (completed_item wire) left_there behind)

  abbrev o : Option Heard
  o = heard_in w.partial (completed_item wire)

  abbrev just : Option Acknowledgement
  just = just_read w.partial (completed_item wire)

  abbrev r : Ruled
  r = heard_next p

  pub ruled : rule_at_octets t.state (taken_on (lines_in lines)) (octet ∷ []) ≡ r
  ruled = fed_one t.state (taken_on (lines_in lines)) (octet ∷ []) (completed_item wire) came

  pub tells : places_at_octets t.state (taken_on (lines_in lines)) (octet ∷ []) ≡ option_to_list (place_at t.state o)
  tells = told_one_at t.state (taken_on (lines_in lines)) (octet ∷ []) (completed_item wire) came

  is_play : IsPlay p
  is_play = record { terminal = refl; good = facts.running.sound.good; order = facts.running.sound.order; agrees = facts.running.sound.agrees.0 }

  -- ---- the lines, with one octet more taken

  abbrev mid : List Numbered
  mid = set lines place x

  x_line : x.line ≡ record (newest w) { down = with_one_taken wire }
  x_line = ap (λ (n : Numbered). n.line) facts.x_is ∙ ap (λ (line : Line). record line { down = with_one_taken line.down }) (sym newest_is)

  pub lines_mid : lines_in mid ≡ set w.lines (newest_place w.lines) (record (newest w) { down = with_one_taken wire })
  lines_mid = set_in lines place x ∙ (ap (λ (n : ℕ). set w.lines n x.line) (sym (newest_at w.lines place facts.last)) ∙ ap (λ (line : Line). set w.lines (newest_place w.lines) line) x_line)

  some : 0 < length w.lines
  some = let last = facts.last in omega (arith, last)

  taken_mid_wire : taken_on (lines_in mid) ≡ taken_of (with_one_taken wire)
  taken_mid_wire = ap taken_on lines_mid ∙ ap (λ (line : Line). taken_of line.down) (newest_set w.lines (record (newest w) { down = with_one_taken wire }) some)

  pub taken_mid : taken_on (lines_in mid) ≡ taken_on (lines_in lines) ++ octet ∷ []
  taken_mid = taken_mid_wire ∙ (grown wire left_there ∙ ap (λ (z : ℕ). taken_of wire ++ z ∷ []) (sym octet_there))

  heard_mid : heard_on (lines_in mid) ≡ partial_behind w.partial (completed_item wire)
  heard_mid = ap partial_of taken_mid_wire ∙ sym (partial_on wire w.partial (completed_item wire) refl behind)

  many : length mid ≡ length lines
  many = length-set lines place x

  kept : {A : Type 0} (f : Numbered → A) → f x ≡ f old → (n : ℕ) → f (get_or mid n blank) ≡ f (get_or lines n blank)
  kept f e n = set_keeps f lines place x e n

  opened_still : (n : ℕ) → (get_or mid n blank).line.is_open ≡ (get_or lines n blank).line.is_open
  opened_still n = kept (λ (y : Numbered). y.line.is_open) (ap (λ (y : Numbered). y.line.is_open) facts.x_is) n

  pub mid_running : (now : TerminalValue Stock) → IsRunning now hub lines → IsRunning now hub mid
  mid_running now run = record {
    sound = run.sound;
    numbers = λ n less. kept (λ (y : Numbered). y.number) (ap (λ (y : Numbered). y.number) facts.x_is) n ∙ run.numbers n (subst (λ (k : ℕ). n < k) many less);
    alone_is = run.alone_is;
    unclosed = λ n less is_open. run.unclosed n (subst (λ (k : ℕ). n < k) many less) (sym (opened_still n) ∙ is_open);
    unopened = λ session less. run.unopened session (subst (λ (k : ℕ). k < session) many less);
    reserved = λ n less is_open. run.reserved n (subst (λ (k : ℕ). n < k) many less) (sym (opened_still n) ∙ is_open);
    limit = run.limit;
  }

  -- ---- the world once the octet was read

  abbrev tells_now : List ℕ
  tells_now = option_to_list (unit_named_by w.terminal just) ++ told_of told

  abbrev read : Bool → World
  read takes = after w (Down takes)

  module _ (now : TerminalValue Stock) (same : now.state.settings ≡ t.state.settings) where
    with_read : (takes : Bool) (told_now : List ℕ) (z : Machine) → told_now ≡ tells_now → machine_of now.vault.held now.state ≡ z → (play_of now hub mid past told_now clock).world ≡ record (read takes) { terminal = z }
    with_read takes told_now z told_is is =
        ap (λ (s : Settings). let key = key_of s.phone in record (play_of t hub mid past told_now clock).world { terminal = machine_of now.vault.held now.state; keeper = shelf_of key (shelf_in hub.start key) (newest_first hub.history); began = shelf_in hub.start key }) same
        ∙ (ap (λ (y : Machine). record (play_of t hub mid past told_now clock).world { terminal = y }) is
        ∙ (ap (λ (y : List Partial). record (play_of t hub mid past told_now clock).world { terminal = z; partial = y }) heard_mid
        ∙ (ap (λ (y : List Line). record (play_of t hub mid past told_now clock).world { terminal = z; partial = partial_behind w.partial (completed_item wire); lines = y }) lines_mid
        ∙ ap (λ (y : List ℕ). record (read takes) { terminal = z; told = y }) told_is)))

    with_same : (told_now : List ℕ) (z : Machine) → told_now ≡ told_of told → machine_of now.vault.held now.state ≡ z → (play_of now hub lines past told_now clock).world ≡ record w { terminal = z }
    with_same told_now z told_is is =
        ap (λ (s : Settings). let key = key_of s.phone in record (play_of t hub lines past told_now clock).world { terminal = machine_of now.vault.held now.state; keeper = shelf_of key (shelf_in hub.start key) (newest_first hub.history); began = shelf_in hub.start key }) same
        ∙ (ap (λ (y : Machine). record (play_of t hub lines past told_now clock).world { terminal = y }) is
        ∙ ap (λ (y : List ℕ). record w { terminal = z; told = y }) told_is)

    -- what was told, by what the call says
    pub told_is : RuleTellsTheUnit → (accepted : ℕ) (places : List ℕ) → accepted ≡ t.vault.held.accepted → places ≡ option_to_list (place_at t.state o)
        → told_of (noted_at (told ++ record { accepted = accepted; older = 0 } ∷ []) (length told) accepted places) ≡ tells_now
    told_is law accepted places is tell =
        ap (λ (z : List ℕ). told_of (noted_at (told ++ record { accepted = accepted; older = 0 } ∷ []) (length told) accepted z)) tell
        ∙ (told_noted told (record { accepted = accepted; older = 0 }) accepted (place_at t.state o)
        ∙ ap (λ (z : Option ℕ). option_to_list z ++ told_of told)
        (ap (λ (z : Option ℕ). option_map (λ (older : ℕ). accepted + older) z) (place_named t.state o ∙ ap (named_place t.state) (sym (just_of w.partial (completed_item wire))))
        ∙ (ap (λ (n : ℕ). option_map (λ (older : ℕ). n + older) (named_place t.state just)) is
        ∙ law t.vault.held t.state just facts.running.sound.order facts.running.sound.agrees.0)))

    pub told_noted_now : RuleTellsTheUnit → (count accepted : ℕ) (pushed noted : List Told) (places : List ℕ) → count ≡ length told → accepted ≡ t.vault.held.accepted → pushed ≡ told ++ record { accepted = accepted; older = 0 } ∷ []
        → noted ≡ noted_at pushed count accepted places → places ≡ option_to_list (place_at t.state o) → told_of noted ≡ tells_now
    told_noted_now law count accepted pushed noted places count_is is pushed_is noted_is tell =
        ap told_of noted_is ∙ (ap (λ (l : List Told). told_of (noted_at l count accepted places)) pushed_is
        ∙ (ap (λ (n : ℕ). told_of (noted_at (told ++ record { accepted = accepted; older = 0 } ∷ []) n accepted places)) count_is ∙ told_is law accepted places is tell))

    -- ---- cut short

    module _ (rule_law : RuleIsCutInSteps) (heard_law : HeardIsCutInSteps) (begun rest : List Step) (parts : r.steps ≡ begun ++ rest) (held : Some now.vault.held ≡ holds_after begun (Some t.vault.held)) (is_down : IsDown now.state) where
      abbrev to : Machine
      to = machine_of (held_after begun t.vault.held) (down t.state)

      held_here : now.vault.held ≡ held_after begun t.vault.held
      held_here = held_is begun t.vault.held now.vault.held held

      to_is : machine_of now.vault.held now.state ≡ to
      to_is = machine_down now.vault.held now.state is_down ∙ (ap (λ (h : Held). machine_of h (down now.state)) held_here ∙ down_same (held_after begun t.vault.held) t.state now.state same)

      -- the octet was read
      pub cut_read : (told_now : List ℕ) → told_now ≡ tells_now → Leads w (play_of now hub mid past told_now clock).world
      cut_read told_now told_is = subst (Leads w) (sym (with_read (takes_first (changes_then_loss begun)) told_now to told_is to_is)) (read_leads rule_law heard_law p is_play begun rest parts may)

      -- it was not, where the vault's count stayed
      pub cut_unread : (told_now : List ℕ) → told_now ≡ told_of told → now.vault.held.accepted ≡ t.vault.held.accepted → Leads w (play_of now hub lines past told_now clock).world
      cut_unread told_now told_is count = subst (Leads w) (sym (with_same told_now to told_is to_is)) (short_leads rule_law heard_law p is_play begun rest parts none)
        where
          none : takes_first (changes_then_loss begun) ≡ false
          none = by (takes_first (changes_then_loss begun)) refl
            where
              by : (b : Bool) → takes_first (changes_then_loss begun) ≡ b → takes_first (changes_then_loss begun) ≡ false
              by false e = e
              by true e = absurd (let more = more_count begun t.vault.held e in let here = ap (λ (h : Held). h.accepted) held_here in omega (arith, more, here, count))

      -- it was, with its acceptance, where the count rose
      pub cut_told : (accepted : ℕ) → accepted ≡ t.vault.held.accepted → now.vault.held.accepted ≢ t.vault.held.accepted → told_of (told ++ record { accepted = accepted; older = 0 } ∷ []) ≡ tells_now
      cut_told accepted is count =
          told_more told (record { accepted = accepted; older = 0 })
          ∙ (ap (λ (n : ℕ). n ∷ told_of told) (let e : accepted + 0 ≡ (machine_next p).accepted = let h = heard_accepted w.terminal just in omega (arith, is, h) in e)
          ∙ ap (λ (z : Option ℕ). option_to_list z ++ told_of told) (sym (taken_told rule_law heard_law p is_play begun rest parts may first) ∙ named_still w.terminal just))
        where
          first : takes_first (changes_then_loss begun) ≡ true
          first = by (takes_first (changes_then_loss begun)) refl
            where
              by : (b : Bool) → takes_first (changes_then_loss begun) ≡ b → takes_first (changes_then_loss begun) ≡ true
              by true e = e
              by false e = absurd (count (ap (λ (h : Held). h.accepted) held_here ∙ short_count rule_law heard_law p is_play begun rest parts e))

    -- ---- whole

    module _ (heard_law : HeardTakesSteps) (keeps : RuleKeepsSettings) where
      pub octet_leads : Leads w (reads_one p).world
      octet_leads = reads_leads heard_law keeps p is_play may

      steps : AreSteps (machine_next p) t.vault.held just r
      steps = next_steps heard_law keeps p is_play

      abbrev takes : Bool
      takes = takes_first r.steps

      abbrev m1 : Machine
      m1 = (read takes).terminal

      abbrev xs : List TerminalStep
      xs = as_steps m1 (behind_first r.steps)

      done_is : done (read takes) xs ≡ record (read takes) { terminal = machine_run m1 xs; lines = wrote (read takes).lines (frames_by m1 xs) }
      done_is = done_world (read takes) xs (opens_none m1 (behind_first r.steps) (none_behind r.steps (none_opens t.state o)))

      pub whole_read : (lines_now : List Numbered) (told_now : List ℕ) → now.state ≡ r.state → Some now.vault.held ≡ holds_after r.steps (Some t.vault.held)
          → lines_now ≡ wrote_last mid (flat_map (λ (frame : List ℕ). frame) (sends t.state.settings r.steps)) → told_now ≡ tells_now → play_of now hub lines_now past told_now clock ≡ reads_one p
      whole_read lines_now told_now state_is held_now lines_are told_is =
          let frames = sends t.state.settings r.steps in
          let held = held_after r.steps t.vault.held in
          let held_here : now.vault.held ≡ held = held_is r.steps t.vault.held now.vault.held held_now in
          sent_play now hub mid lines_now past told_now clock (flat_map (λ (frame : List ℕ). frame) frames) frames lines_are refl
          ∙ (ap (λ (z : World). record { world = record z { lines = wrote_all (lines_in mid) frames }; held = now.vault.held; state = now.state; clock = clock })
          (with_read takes told_now (machine_of held r.state) told_is (ap (λ (h : Held). machine_of h now.state) held_here ∙ ap (machine_of held) state_is))
          ∙ (ap (λ (h : Held). record { world = record (read takes) { terminal = machine_of held r.state; lines = wrote_all (lines_in mid) frames }; held = h; state = now.state; clock = clock }) held_here
          ∙ (ap (λ (s : State). record { world = record (read takes) { terminal = machine_of held r.state; lines = wrote_all (lines_in mid) frames }; held = held; state = s; clock = clock }) state_is
          ∙ (ap (λ (z : Machine). record { world = record (read takes) { terminal = z; lines = wrote_all (lines_in mid) frames }; held = held; state = r.state; clock = clock }) (sym (run_behind (machine_next p) r.steps ∙ steps.to))
          ∙ (ap (λ (ls : List Line). record { world = record (read takes) { terminal = machine_run m1 xs; lines = ls }; held = held; state = r.state; clock = clock })
          (ap (λ (ls : List Line). wrote_all ls frames) lines_mid ∙ (sym (wrote_sent (read takes).lines frames) ∙ ap (wrote (read takes).lines) (steps.sent t.state.settings (sym (heard_phone w.terminal just)) ∙ sym (behind_frames (machine_next p) r.steps))))
          ∙ ap (λ (z : World). record { world = z; held = held; state = r.state; clock = clock }) (sym done_is))))))

-- ---- the ears

pub hears_on : (hears_now : Bool) (ears ears_now : LineValue) (seen : List ℕ) (octet : ℕ) (seen_now : List ℕ) → (hears_now ≡ true → StandsForLine ears_now (seen ++ octet ∷ [])) → IsHearing ears seen → ears_now.stream.place ≤ ears.stream.place + 1 → seen_now ≡ seen ++ octet ∷ [] → Hears hears_now ears_now seen_now
hears_on hears_now ears ears_now seen octet seen_now stands was place is hearing =
    subst (IsHearing ears_now) (sym is) (record { stands = stands hearing; place = let e = was.place in let n = length_push seen octet in omega (arith, place, e, n) })

-- ---- whether an octet moves

pub moves_line : (p : Play) (place : ℕ) (line : Line) → length p.world.lines ≡ place + 1 → line_at p.world.lines place ≡ line → p.world.terminal.using ≡ true → moves p ≡ ((line.is_open && has_left line.up) || has_left line.down)
moves_line p place line last at in_use =
    ap (λ (b : Bool). b && (((newest p.world).is_open && has_left (newest p.world).up) || has_left (newest p.world).down)) in_use
    ∙ ap (λ (l : Line). (l.is_open && has_left l.up) || has_left l.down) (ap (line_at p.world.lines) (newest_at p.world.lines place last) ∙ at)

pub more_line : (p : Play) (place : ℕ) (line : Line) → length p.world.lines ≡ place + 1 → line_at p.world.lines place ≡ line → p.world.terminal.using ≡ true → reads_more p ≡ has_left line.down
more_line p place line last at in_use =
    ap (λ (b : Bool). b && has_left (newest p.world).down) in_use
    ∙ ap (λ (l : Line). has_left l.down) (ap (line_at p.world.lines) (newest_at p.world.lines place last) ∙ at)
