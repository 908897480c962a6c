-- One octet down, with all ways out of the call.
use Rattle.std.proofs.Common.{ℕ, ◌+◌, ◌<◌, ◌≤◌, ◌≡◌, ◌≢◌, List, [], ◌∷◌, ◌++◌, length, length-take, take, map, set, get_or, reverse, Option, Some, None, Bool, true, false, arith, refl, ap, sym, ◌∙◌, subst}
use Rattle.std.specs.Coded.{codes}
use Rattle.std.specs.List.{flat_map}
use Rattle.std.specs.Option.{option_to_list, option_map}
use Rattle.std.specs.Prelude.{◌^◌}
use Rattle.std.proofs.Math.Logic.{∥∥₁_elim}
use Rattle.std.proofs.lemmas.Bool.{false≢true}
use Rattle.std.proofs.lemmas.List.{append-nil, get_or_read, length_push, map-append, reverse-append, set-get_or}
use Rattle.std.proofs.Math.Seq.{take-append_seam}
use Rattle.jt_value.specs.Octets.{AreOctets}
use Rattle.jt_value.specs.Sameness.{key_of}
use Rattle.jt_value.proofs.OctetLists.{AreOctets-append, AreOctets-cons, AreOctets-nil}
use Rattle.jt_escape.specs.Scan.{State as Splitting}
use Rattle.jt_params.specs.contracts.table.ParamTable as params
use Rattle.jt_regions.specs.contracts.region_table.RegionTable as regions
use Rattle.jt_store.specs.Memory.{KeeperState, Stock}
use Rattle.jt_store.specs.Vaults.{Held}
use Rattle.jt_platform.specs.History.{newest as newest_first}
use Rattle.jt_platform.specs.Hub.{HubValue}
use Rattle.jt_platform.specs.Laws.{shelf_of}
use Rattle.jt_platform.specs.declared.request.Entry.{Entry}
use Rattle.jt_terminal_answers.specs.Performing.{HeldTables}
use Rattle.jt_terminal_rule.specs.declared.settings.Settings.{Settings}
use Rattle.jt_terminal_rule.specs.declared.state.Acknowledgement.{Acknowledgement}
use Rattle.jt_terminal_rule.specs.declared.state.State.{State}
use Rattle.jt_terminal_rule.specs.Law.{AreSteps, changes_then_loss}
use Rattle.jt_terminal_rule.specs.Machines.{as_steps, frames_by, held_after, is_up, machine_of}
use Rattle.jt_terminal_rule.specs.Rule.{Ruled, Step, down, named_place}
use Rattle.jt_terminal_rule.specs.Steps.{Machine, MayRun, TerminalStep, machine_run, unit_named_by}
use Rattle.jt_terminal_rule.specs.Steps as step
use Rattle.jt_terminal_steps.specs.Running.{IsDown, IsSound, TerminalValue, holds_after}
use Rattle.jt_order.specs.Books.{Book}
use Rattle.jt_order.specs.Memory.{LogStock}
use Rattle.jt_order.specs.declared.performed.Performed.{Performed}
use Rattle.jt_obeying.specs.Orders.{no_tables, tables_of}
use Rattle.jt_obeying.specs.Performing.{terminal_performing}
use Rattle.jt_order_turns.specs.Heard.{Heard, Ordered, Other, Nothing}
use Rattle.jt_order_terminal.specs.Ledgers.{IsLedgerOf}
use Rattle.jt_order_terminal.specs.Terminals.{Done, OrderTerminalValue, StandsForLine, does_at, does_at_octets}
use Rattle.jt_octets.specs.World.{World, Line, Wire, completed_item, line_at, newest, newest_place, with_one_taken}
use Rattle.jt_octets.specs.Steps.{MayAccept, accepting, writing}
use Rattle.jt_octets.proofs.Views.{StreamLaws}
use Rattle.jt_play.specs.Holding.{IsClock, IsRunning, Numbered, lines_in, play_of, shelf_in, taken_on, wrote_all}
use Rattle.jt_play.specs.Holding as plain
use Rattle.jt_play.specs.Playing.{Play, behind_first, takes_first}
use Rattle.jt_play.proofs.Acting.{held_is, machine_down, still_running, wrote_running, wrote_sent}
use Rattle.jt_play.proofs.Breaking.{behind_quiet, more_count, same_count, told_oldest, unheard}
use Rattle.jt_play.proofs.Cutting.{done_world, down_same, quiet_world, wrote}
use Rattle.jt_play.proofs.Downward.{Brought, may_behind, may_first, run_behind}
use Rattle.jt_play.proofs.Opening.{NoneOpens, opens_none}
use Rattle.jt_play.proofs.Reading.{IsNext, at_end, came, heard_accepted, heard_phone, lines_mid, mid_running, named_still, newest_at, none_behind, taken_mid}
use Rattle.jt_play.proofs.Rounds.{behind_frames}
use Rattle.jt_play.proofs.Worlds.{length_in, line_in, sent_play, taken_wrote}
use Rattle.jt_order_octets.specs.World.{OrderWorld}
use Rattle.jt_order_octets.specs.Claim.{EachReachedIsObeyed, NoneIsRefused}
use Rattle.jt_order_octets.specs.Reaching.{Leads, Reached}
use Rattle.jt_order_octets.specs.Steps.{Down, MayRead, after, after_read, heard_next, response_of, with_one_read}
use Rattle.jt_order_play.specs.declared.stage.Told.{Told}
use Rattle.jt_order_play.specs.Playing.{OrderPlay, done, reads_one}
use Rattle.jt_order_play.specs.Holding.{Hears, IsHearing, IsStage, LineOfOrders, ReadingLaws, blank, noted_at, order_play_of, plain_lines, sent_on, told_places, wrote_last}
use Rattle.jt_order_play.proofs.Answering.{fine_came}
use Rattle.jt_order_play.proofs.Composing.{still_reached}
use Rattle.jt_order_play.proofs.Doing.{bare, done_is, done_leads, plain_wrote, quiet_opens, sent_wrote}
use Rattle.jt_order_play.proofs.Hearing.{TakesNone, accepts_quietly, after_log, answers_directly, cut_steps, cut_takes, does_few, does_one_octet, does_ruled, does_send, heard_names, heard_opens, log_moved, log_stood, moved_some, name_behind, nothing_took, performs_unheard, reads_ruled, ruled_of, takes_steps, whole_takes}
use Rattle.jt_order_play.proofs.Naming.{NameNone, quiet_names, steps_fine}
use Rattle.jt_order_play.proofs.Standing.{leads_both, leads_one, many_lines, plain_at, plain_length, plain_set, sent_set, sent_there}

-- ---- what is told

abbrev place_of : Told → ℕ
place_of t = t.accepted + t.older

told_more : (told : List Told) (t : Told) → told_places (told ++ t ∷ []) ≡ place_of t ∷ told_places told
told_more told t = ap (λ (places : List ℕ). reverse places) (map-append place_of told (t ∷ [])) ∙ reverse-append (map place_of told) (place_of t ∷ [])

told_noted : (told : List Told) (x : Told) (accepted : ℕ) (place : Option ℕ)
    → told_places (noted_at (told ++ x ∷ []) (length told) accepted (option_to_list place)) ≡ option_to_list (option_map (λ (older : ℕ). accepted + older) place) ++ told_places told
told_noted told x accepted None = ap told_places (take-append_seam told (x ∷ []))
told_noted told x accepted (Some older) = ap told_places (at_end told x (record { accepted = accepted; older = older })) ∙ told_more told (record { accepted = accepted; older = older })

pub told_cut : (told pushed cut : List Told) (x : Told) (count : ℕ) → pushed ≡ told ++ x ∷ [] → count ≡ length told → cut ≡ take count pushed → told_places cut ≡ told_places told
told_cut told pushed cut x count pushed_is count_is cut_is =
    ap told_places cut_is ∙ (ap (λ (l : List Told). told_places (take count l)) pushed_is ∙ (ap (λ (n : ℕ). told_places (take n (told ++ x ∷ []))) count_is ∙ ap told_places (take-append_seam told (x ∷ []))))

-- ---- frames behind frames

pub wrote_both : (lines : List Line) (a b : List (List ℕ)) → wrote (wrote lines a) b ≡ wrote lines (a ++ b)
wrote_both lines [] b = refl
wrote_both lines (frame ∷ a) b = wrote_both (writing lines frame) a b

-- the base of the world once this was read, with the answer to an order or without one
read_base : (w : OrderWorld) (x : Heard) (takes : Bool) → TakesNone x takes → (after_read w x takes false).base ≡ with_one_read w.base (response_of x) takes
read_base w (Ordered h octets m) takes none = ap (λ (b : Bool). with_one_read w.base None b) (sym none)
read_base w (Other h m) takes none = refl
read_base w Nothing takes none = refl

pub answered_base : (w : OrderWorld) (x : Heard) (takes : Bool) → TakesNone x takes
    → (after_read w x takes true).base ≡ (let b = with_one_read w.base (response_of x) takes in record b { lines = wrote b.lines (answers_directly w x) })
answered_base w (Ordered h octets m) takes none = ap (λ (b : Bool). let z = with_one_read w.base None b in record z { lines = wrote z.lines (answers_directly w (Ordered h octets m)) }) (sym none)
answered_base w (Other h m) takes none = refl
answered_base w Nothing takes none = refl

-- and the rest of it, by what is kept of the log
read_rest : (w : OrderWorld) (x : Heard) (takes responds : Bool) (log : List Performed) (tables : HeldTables) → w.refused ≡ [] → log ≡ (after_read w x takes responds).log → tables ≡ (after_read w x takes responds).tables → (after_read w x takes responds).refused ≡ []
    → after_read w x takes responds ≡ record w { base = (after_read w x takes responds).base; log = log; tables = tables }
read_rest w (Ordered h octets m) takes responds log tables was log_is tables_is none =
    let a = after_read w (Ordered h octets m) takes responds in
    ap (λ (z : List ℕ). record a { refused = z }) (none ∙ sym was) ∙ (ap (λ (z : List Performed). record w { base = a.base; log = z; tables = a.tables }) (sym log_is) ∙ ap (λ (z : HeldTables). record w { base = a.base; log = log; tables = z }) (sym tables_is))
read_rest w (Other h m) takes responds log tables was log_is tables_is none =
    let a = after_read w (Other h m) takes responds in
    ap (λ (z : List Performed). record w { base = a.base; log = z; tables = a.tables }) (sym log_is) ∙ ap (λ (z : HeldTables). record w { base = a.base; log = log; tables = z }) (sym tables_is)
read_rest w Nothing takes responds log tables was log_is tables_is none =
    let a = after_read w Nothing takes responds in
    ap (λ (z : List Performed). record w { base = a.base; log = z; tables = a.tables }) (sym log_is) ∙ ap (λ (z : HeldTables). record w { base = a.base; log = log; tables = z }) (sym tables_is)

-- ---- worlds that are reached

tables_reached : EachReachedIsObeyed → (w : OrderWorld) → ∥ Reached w ∥₁ → w.tables ≡ tables_of terminal_performing no_tables w.log
tables_reached law w reached = ∥∥₁_elim reached (Prim.hlevel (codes, params.the_row.coded, regions.the_row.coded)) (λ (r : Reached w). (law w r).tables)

pub refused_reached : NoneIsRefused → (w : OrderWorld) → ∥ Reached w ∥₁ → w.refused ≡ []
refused_reached law w reached = ∥∥₁_elim reached (Prim.hlevel codes) (λ (r : Reached w). law w r)

-- ---- the parts once an octet was read

-- what is written up the newest line leaves all else
pub wrote_more : (t : OrderTerminalValue Stock LogStock) (hears : Bool) (hub : HubValue KeeperState) (book : Book) (issued : ℕ) (lines : List LineOfOrders) (past : List Entry) (told : List ℕ) (clock : ℕ) → IsStage t hears hub book issued lines clock → (octets : List ℕ)
    → IsStage t hears hub book issued (wrote_last lines octets) clock
wrote_more t hears hub book issued lines past told clock stage octets = record {
  running = subst (λ (ls : List Numbered). IsRunning t.terminal hub ls) (sym (plain_wrote lines octets)) (wrote_running t.terminal hub (plain_lines lines) past told clock stage.running octets);
  ledger = stage.ledger;
  hearing = subst (λ (seen : List ℕ). Hears hears t.stream seen) (sym (ap (λ (ls : List Numbered). taken_on (lines_in ls)) (plain_wrote lines octets) ∙ taken_wrote (plain_lines lines) octets)) stage.hearing;
  clock_is = stage.clock_is;
  issued_is = stage.issued_is;
}

pub hears_on : (hears_now : Bool) (stream stream_now : Splitting) (seen : List ℕ) (octet : ℕ) → (hears_now ≡ true → StandsForLine stream_now (seen ++ octet ∷ [])) → IsHearing stream seen → stream_now.place ≤ stream.place + 1 → Hears hears_now stream_now (seen ++ octet ∷ [])
hears_on hears_now stream stream_now seen octet stands was place on = record { stands = stands on; place = let e = was.place in let n = length_push seen octet in omega (arith, place, e, n) }

-- the newest line stands in this place, is in use and has this octet left, and this is the line once it was read
pub order_next : (t : OrderTerminalValue Stock LogStock) (hears : Bool) (hub : HubValue KeeperState) (book : Book) (issued : ℕ) (lines : List LineOfOrders) (past : List Entry) (told : List ℕ) (clock place octet : ℕ) (n m x : LineOfOrders) (q : OrderPlay) → IsStage t hears hub book issued lines clock
    → order_play_of t hub book lines past told clock ≡ q → length q.world.base.lines ≡ place + 1 → q.world.base.terminal.using ≡ true → (line_at q.world.base.lines place).down.taken < length (line_at q.world.base.lines place).down.octets
    → n ≡ get_or lines place n → octet ≡ get_or n.plain.line.down.octets n.plain.line.down.taken 0 → m ≡ get_or lines place m → x ≡ record m { plain = record m.plain { line = record m.plain.line { down = with_one_taken m.plain.line.down } } }
    → IsNext t.terminal hub (plain_lines lines) place octet x.plain
order_next t hears hub book issued lines past told clock place octet n m x q stage view last in_use left at octet_is m_at x_is =
    let last_here : length (lines_in (plain_lines lines)) ≡ place + 1 = subst (λ (p : OrderPlay). length p.world.base.lines ≡ place + 1) (sym view) last in
    let lt : place < length lines = let e = many_lines lines in omega (arith, e, last_here) in
    let plain_of : (y : LineOfOrders) → y ≡ get_or lines place y → y.plain ≡ get_or (plain_lines lines) place plain.blank = λ y e. ap (λ (l : LineOfOrders). l.plain) (get_or_read lines place y lt e blank) ∙ sym (plain_at lines place) in
    record {
      running = stage.running;
      last = last_here;
      in_use = subst (λ (p : OrderPlay). p.world.base.terminal.using ≡ true) (sym view) in_use;
      left = subst (λ (l : Line). l.down.taken < length l.down.octets) (line_in (plain_lines lines) place (let e = plain_length lines in omega (arith, e, lt))) (subst (λ (p : OrderPlay). (line_at p.world.base.lines place).down.taken < length (line_at p.world.base.lines place).down.octets) (sym view) left);
      octet_is = octet_is ∙ ap (λ (y : Numbered). get_or y.line.down.octets y.line.down.taken 0) (plain_of n at);
      x_is = ap (λ (l : LineOfOrders). l.plain) x_is ∙ ap (λ (y : Numbered). record y { line = record y.line { down = with_one_taken y.line.down } }) (plain_of m m_at);
    }

-- nothing else of the line
pub sent_next : (t : TerminalValue Stock) (hub : HubValue KeeperState) (lines : List LineOfOrders) (place octet : ℕ) (m x : LineOfOrders) → IsNext t hub (plain_lines lines) place octet x.plain → m ≡ get_or lines place m → x.sent ≡ m.sent → x.sent ≡ (get_or lines place blank).sent
sent_next t hub lines place octet m x facts at same =
    let last = facts.last in
    let lt : place < length lines = let e = many_lines lines in omega (arith, e, last) in
    same ∙ ap (λ (l : LineOfOrders). l.sent) (get_or_read lines place m lt at blank)

-- there is room for one octet more
pub stream_short : (lines : List Line) (place : ℕ) (stream : Splitting) → length lines ≡ place + 1 → IsHearing stream (taken_on lines) → (line_at lines place).down.taken + 1 < 2 ^ 63 → stream.place + 1 < 2 ^ 63
stream_short lines place stream last hearing short =
    let wire = (line_at lines (newest_place lines)).down in
    let e = hearing.place in
    let n = length-take wire.taken wire.octets in
    let here : wire.taken + 1 < 2 ^ 63 = subst (λ (k : ℕ). (line_at lines k).down.taken + 1 < 2 ^ 63) (sym (newest_at lines place last)) short in
    omega (arith, e, n, here)

pub one_octet : (seen : List ℕ) (octet : ℕ) → AreOctets seen → octet < 256 → AreOctets (seen ++ octet ∷ [])
one_octet seen octet are small = AreOctets-append seen (octet ∷ []) are (AreOctets-cons octet [] small AreOctets-nil)

module _ (t : OrderTerminalValue Stock LogStock) (hears : Bool) (hub : HubValue KeeperState) (book : Book) (issued : ℕ) (lines : List LineOfOrders) (past : List Entry) (told : List Told) (clock place octet : ℕ) (x : LineOfOrders) (stage : IsStage t hears hub book issued lines clock)
    (facts : IsNext t.terminal hub (plain_lines lines) place octet x.plain) (laws : ReadingLaws) where
  abbrev p : OrderPlay
  p = order_play_of t hub book lines past (told_places told) clock

  abbrev w : OrderWorld
  w = p.world

  abbrev s : State
  s = t.terminal.state

  abbrev held : Held
  held = t.terminal.vault.held

  abbrev m : Machine
  m = machine_of held s

  abbrev wire : Wire
  wire = (newest w.base).down

  abbrev heard : Heard
  heard = heard_next w

  abbrev just : Option Acknowledgement
  just = response_of heard

  abbrev r : Ruled
  r = ruled_of s heard

  abbrev d : Done
  d = does_at s t.ledger heard

  abbrev seen : List ℕ
  seen = taken_on (lines_in (plain_lines lines))

  abbrev mid : List LineOfOrders
  mid = set lines place x

  streams : StreamLaws
  streams = record { front = laws.front; one = laws.one; frames = laws.frames; message = laws.message; long = laws.long }

  brought : Brought seen (octet ∷ []) (completed_item wire)
  brought = came t.terminal hub (plain_lines lines) past [] clock place octet x.plain facts streams

  -- what the call did is what is done at what the octet completes
  pub does_next : does_at_octets (is_up s.phase) s t.ledger seen (octet ∷ []) ≡ d
  does_next = does_one_octet s t.ledger (is_up s.phase) seen (octet ∷ []) (completed_item wire) facts.in_use brought

  -- ---- the lines, with one octet more taken

  pub seen_mid : taken_on (lines_in (plain_lines mid)) ≡ seen ++ octet ∷ []
  seen_mid = ap (λ (ls : List Numbered). taken_on (lines_in ls)) (plain_set lines place x) ∙ taken_mid t.terminal hub (plain_lines lines) past [] clock place octet x.plain facts streams

  mid_lines : lines_in (plain_lines mid) ≡ set w.base.lines (newest_place w.base.lines) (record (newest w.base) { down = with_one_taken wire })
  mid_lines = ap lines_in (plain_set lines place x) ∙ lines_mid t.terminal hub (plain_lines lines) past [] clock place octet x.plain facts streams

  -- ---- what stays true of the parts

  module _ (now : OrderTerminalValue Stock LogStock) (same : now.terminal.state.settings ≡ s.settings) (sound : IsSound (Some now.terminal.vault.held) now.terminal.state) (limit : now.terminal.vault.limit ≡ t.terminal.vault.limit) (time : now.terminal.state.time ≡ s.time) (ledger : IsLedgerOf now.log.performed now.ledger) where
    now_running : IsRunning now.terminal hub (plain_lines lines)
    now_running = still_running t.terminal hub (plain_lines lines) past (told_places told) clock stage.running now.terminal sound same limit

    now_clock : IsClock now.terminal clock
    now_clock = record { late = subst (λ (n : ℕ). n ≤ clock) (sym time) stage.clock_is.late; small = stage.clock_is.small }

    pub read_stage : (hears_now : Bool) → Hears hears_now now.stream (seen ++ octet ∷ []) → IsStage now hears_now hub book issued mid clock
    read_stage hears_now hearing = record {
      running = subst (λ (ls : List Numbered). IsRunning now.terminal hub ls) (sym (plain_set lines place x)) (mid_running t.terminal hub (plain_lines lines) past [] clock place octet x.plain facts streams now.terminal now_running);
      ledger = ledger;
      hearing = subst (λ (z : List ℕ). Hears hears_now now.stream z) (sym seen_mid) hearing;
      clock_is = now_clock;
      issued_is = stage.issued_is;
    }

    pub unread_stage : IsStage now false hub book issued lines clock
    unread_stage = record { running = now_running; ledger = ledger; hearing = λ on. absurd (false≢true on); clock_is = now_clock; issued_is = stage.issued_is }

  -- ---- steps

  module _ (are : AreOctets (seen ++ octet ∷ [])) (reached : ∥ Reached w ∥₁) (sent : x.sent ≡ (get_or lines place blank).sent) where
    sent_mid : sent_on mid ≡ sent_on lines
    sent_mid = sent_set lines place x ∙ (ap (λ (z : Option ℕ). set (sent_on lines) place z) (sent ∙ sym (sent_there lines place)) ∙ set-get_or (sent_on lines) place None)

    names : NameNone r.steps
    names = heard_names laws.responses laws.others s heard (fine_came laws.some laws.are seen (octet ∷ []) (completed_item wire) are brought)

    whole_steps : AreSteps (step.hears m just) held just r
    whole_steps = takes_steps held s stage.running.sound.good stage.running.sound.order stage.running.sound.agrees.0 laws.heard heard

    may_read : (takes : Bool) → MayAccept (step.hears m just) just takes → MayRead w takes
    may_read takes accepts = record {
      in_use = facts.in_use;
      some = let e = facts.last in omega (arith, e);
      left = subst (λ (z : Wire). z.taken < length z.octets) (sym (ap (λ (line : Line). line.down) newest_is)) facts.left;
      accepts = accepts;
    }
      where
        newest_is : newest w.base ≡ (get_or (plain_lines lines) place plain.blank).line
        newest_is = ap (line_at (lines_in (plain_lines lines))) (newest_at (lines_in (plain_lines lines)) place facts.last) ∙ line_in (plain_lines lines) place (let e = length_in (plain_lines lines) in let last = facts.last in omega (arith, e, last))

    abbrev tells_now : List ℕ
    tells_now = option_to_list (unit_named_by m just) ++ told_places told

    module _ (now : OrderTerminalValue Stock LogStock) (same : now.terminal.state.settings ≡ s.settings) (ledger : IsLedgerOf now.log.performed now.ledger) where
      -- the world of these parts and these lines
      world_now : (lines_now : List LineOfOrders) (told_now : List ℕ) → sent_on lines_now ≡ sent_on lines
          → (order_play_of now hub book lines_now past told_now clock).world ≡ record w { base = bare (play_of now.terminal hub (plain_lines lines_now) past told_now clock).world; log = now.log.performed; tables = now.ledger.tables }
      world_now lines_now told_now e = ap (λ (z : List (Option ℕ)). record (order_play_of now hub book lines_now past told_now clock).world { sent = z }) e

      -- its base, once the octet was read, and where it was not
      base_read : (takes : Bool) (told_now : List ℕ) (z : Machine) → told_now ≡ tells_now → machine_of now.terminal.vault.held now.terminal.state ≡ z
          → bare (play_of now.terminal hub (plain_lines mid) past told_now clock).world ≡ record (with_one_read w.base just takes) { terminal = z }
      base_read takes told_now z told_is is =
          ap (λ (c : Settings). let key = key_of c.phone in record (bare (play_of t.terminal hub (plain_lines mid) past told_now clock).world) { terminal = machine_of now.terminal.vault.held now.terminal.state; keeper = shelf_of key (shelf_in hub.start key) (newest_first hub.history); began = shelf_in hub.start key }) same
          ∙ (ap (λ (y : Machine). record (bare (play_of t.terminal hub (plain_lines mid) past told_now clock).world) { terminal = y }) is
          ∙ (ap (λ (y : List Line). record w.base { terminal = z; lines = y; told = told_now }) mid_lines
          ∙ ap (λ (y : List ℕ). record (with_one_read w.base just takes) { terminal = z; told = y }) told_is))

      base_unread : (told_now : List ℕ) (z : Machine) → told_now ≡ told_places told → machine_of now.terminal.vault.held now.terminal.state ≡ z → bare (play_of now.terminal hub (plain_lines lines) past told_now clock).world ≡ record w.base { terminal = z }
      base_unread told_now z told_is is =
          ap (λ (c : Settings). let key = key_of c.phone in record w.base { terminal = machine_of now.terminal.vault.held now.terminal.state; keeper = shelf_of key (shelf_in hub.start key) (newest_first hub.history); began = shelf_in hub.start key; told = told_now }) same
          ∙ (ap (λ (y : Machine). record w.base { terminal = y; told = told_now }) is ∙ ap (λ (y : List ℕ). record w.base { terminal = z; told = y }) told_is)

      -- the world once the octet was read, by its log
      read_is : (takes responds : Bool) → MayRead w takes → now.log.performed ≡ (after_read w heard takes responds).log
          → after w (Down takes responds) ≡ record w { base = (after_read w heard takes responds).base; log = now.log.performed; tables = now.ledger.tables }
      read_is takes responds may log_is =
          let next : ∥ Reached (after w (Down takes responds)) ∥₁ = still_reached w (after w (Down takes responds)) reached (leads_one w (Down takes responds) may) in
          read_rest w heard takes responds now.log.performed now.ledger.tables refl log_is
          (ledger.tables ∙ (ap (tables_of terminal_performing no_tables) log_is ∙ sym (tables_reached laws.obeyed (after w (Down takes responds)) next)))
          (refused_reached laws.none_refused (after w (Down takes responds)) next)

      -- ---- cut short

      module _ (begun rest : List Step) (parts : d.steps ≡ begun ++ rest) (held_now : Some now.terminal.vault.held ≡ holds_after begun (Some held)) (is_down : IsDown now.terminal.state) where
        abbrev to : Machine
        to = machine_of (held_after begun held) (down s)

        abbrev quick : Bool
        quick = takes_first (changes_then_loss begun)

        held_here : now.terminal.vault.held ≡ held_after begun held
        held_here = held_is begun held now.terminal.vault.held held_now

        to_is : machine_of now.terminal.vault.held now.terminal.state ≡ to
        to_is = machine_down now.terminal.vault.held now.terminal.state is_down ∙ (ap (λ (h : Held). machine_of h (down now.terminal.state)) held_here ∙ down_same (held_after begun held) s now.terminal.state same)

        parts_here : r.steps ≡ begun ++ rest
        parts_here = sym (does_ruled s t.ledger heard).steps ∙ parts

        cut : MayRun (step.hears m just) just (as_steps (step.hears m just) (changes_then_loss begun)) × (machine_run (step.hears m just) (as_steps (step.hears m just) (changes_then_loss begun)) ≡ to)
        cut = cut_steps held s stage.running.sound.good stage.running.sound.order stage.running.sound.agrees.0 laws.cut laws.heard_cut heard begun rest parts_here

        may_cut : MayRead w quick
        may_cut = may_read quick (may_first (step.hears m just) just (changes_then_loss begun) cut.0)

        none_taken : TakesNone heard quick
        none_taken = cut_takes s heard begun rest parts_here

        -- the octet was read
        abbrev read : OrderWorld
        read = record w { base = with_one_read w.base just quick; log = now.log.performed; tables = now.ledger.tables }

        cut_leads : now.log.performed ≡ (after_read w heard quick false).log → Leads w (record read { base = record read.base { terminal = to } })
        cut_leads log_is = leads_both w read (record read { base = record read.base { terminal = to } })
            (subst (Leads w) (read_is quick false may_cut log_is ∙ ap (λ (b : World). record w { base = b; log = now.log.performed; tables = now.ledger.tables }) (read_base w heard quick none_taken)) (leads_one w (Down quick false) may_cut))
            (subst (Leads read)
            (done_is read (behind_first (changes_then_loss begun)) (none_behind (changes_then_loss begun) (quiet_opens begun))
            ∙ (ap (λ (b : World). record read { base = b }) (behind_quiet read.base begun)
            ∙ ap (λ (z : Machine). record read { base = record read.base { terminal = z } }) (run_behind (step.hears m just) (changes_then_loss begun) ∙ cut.1)))
            (done_leads read (as_steps read.base.terminal (behind_first (changes_then_loss begun))) (may_behind (step.hears m just) just (changes_then_loss begun) cut.0)
            (steps_fine read.base.terminal (behind_first (changes_then_loss begun)) (name_behind (changes_then_loss begun) (quiet_names begun)))))

        pub cut_read : (told_now : List ℕ) → told_now ≡ tells_now → now.log.performed ≡ (after_read w heard quick false).log → Leads w (order_play_of now hub book mid past told_now clock).world
        cut_read told_now told_is log_is = subst (Leads w)
            (sym (world_now mid told_now sent_mid ∙ ap (λ (b : World). record w { base = b; log = now.log.performed; tables = now.ledger.tables }) (base_read quick told_now to told_is to_is)))
            (cut_leads log_is)

        -- the vault's count stayed exactly where no acceptance was taken
        slow_count : quick ≡ false → now.terminal.vault.held.accepted ≡ held.accepted
        slow_count slow = ap (λ (h : Held). h.accepted) held_here ∙ same_count (step.hears m just) just begun held slow cut.0

        slow : now.terminal.vault.held.accepted ≡ held.accepted → quick ≡ false
        slow count = by quick refl
          where
            by : (b : Bool) → quick ≡ b → quick ≡ false
            by false e = e
            by true e = absurd (let more = more_count begun held e in let here = ap (λ (h : Held). h.accepted) held_here in omega (arith, more, here, count))

        fast : now.terminal.vault.held.accepted ≢ held.accepted → quick ≡ true
        fast count = by quick refl
          where
            by : (b : Bool) → quick ≡ b → quick ≡ true
            by true e = e
            by false e = absurd (count (slow_count e))

        -- it was not read, where the vault's count and the log stayed
        pub cut_unread : (told_now : List ℕ) → told_now ≡ told_places told → now.terminal.vault.held.accepted ≡ held.accepted → now.log.performed ≡ t.log.performed → Leads w (order_play_of now hub book lines past told_now clock).world
        cut_unread told_now told_is count log_is =
            let free = unheard m just begun (slow count) cut.0 in
            subst (Leads w)
            (done_is w (changes_then_loss begun) (quiet_opens begun)
            ∙ (ap (λ (b : World). record w { base = b }) (quiet_world w.base begun)
            ∙ (ap (λ (z : Machine). record w { base = record w.base { terminal = z } }) (free.1 ∙ cut.1)
            ∙ (ap (λ (z : List Performed). record w { base = record w.base { terminal = to }; log = z }) (sym log_is)
            ∙ (ap (λ (z : HeldTables). record w { base = record w.base { terminal = to }; log = now.log.performed; tables = z }) (stage.ledger.tables ∙ (ap (tables_of terminal_performing no_tables) (sym log_is) ∙ sym ledger.tables))
            ∙ (ap (λ (b : World). record w { base = b; log = now.log.performed; tables = now.ledger.tables }) (sym (base_unread told_now to told_is to_is)) ∙ sym (world_now lines told_now refl)))))))
            (done_leads w (as_steps m (changes_then_loss begun)) free.0 (steps_fine m (changes_then_loss begun) (quiet_names begun)))

        module _ (gained left : List Performed) (log_parts : d.performed ≡ gained ++ left) (log_held : now.log.performed ≡ t.log.performed ++ gained) where
          -- it was, with the acceptance, where the count rose
          pub cut_accepted : (accepted : ℕ) → accepted ≡ held.accepted → now.terminal.vault.held.accepted ≢ held.accepted → Leads w (order_play_of now hub book mid past (told_places (told ++ record { accepted = accepted; older = 0 } ∷ [])) clock).world
          cut_accepted accepted is count =
              let quiet = accepts_quietly w s t.ledger heard quick false none_taken (fast count) in
              cut_read (told_places (told ++ record { accepted = accepted; older = 0 } ∷ [])) told_is
              (nothing_took t.log.performed now.log.performed gained left d.performed (does_few s t.ledger heard) log_parts log_held quiet.0 ∙ sym quiet.1)
            where
              told_is : told_places (told ++ record { accepted = accepted; older = 0 } ∷ []) ≡ tells_now
              told_is =
                  told_more told (record { accepted = accepted; older = 0 })
                  ∙ (ap (λ (n : ℕ). n ∷ told_places told) (let e : accepted + 0 ≡ (step.hears m just).accepted = let h = heard_accepted m just in omega (arith, is, h) in e)
                  ∙ ap (λ (z : Option ℕ). option_to_list z ++ told_places told) (sym (told_oldest (step.hears m just) just (subst (λ (b : Bool). MayAccept (step.hears m just) just b) (fast count) may_cut.accepts)) ∙ named_still m just))

          -- and it was, with an order that was performed, where the log grew
          pub cut_performed : (told_now : List ℕ) → told_now ≡ told_places told → length now.log.performed ≢ length t.log.performed → Leads w (order_play_of now hub book mid past told_now clock).world
          cut_performed told_now told_is moved =
              let few = does_few s t.ledger heard in
              cut_read told_now (told_is ∙ ap (λ (a : Option Acknowledgement). option_to_list (unit_named_by m a) ++ told_places told)
              (sym (performs_unheard s t.ledger heard (moved_some t.log.performed now.log.performed gained left d.performed few log_parts log_held moved))))
              (log_moved t.log.performed now.log.performed gained left d.performed few log_parts log_held moved ∙ after_log w s t.ledger stage.ledger refl heard quick false)

          pub cut_nothing : (told_now : List ℕ) → told_now ≡ told_places told → now.terminal.vault.held.accepted ≡ held.accepted → length now.log.performed ≡ length t.log.performed → Leads w (order_play_of now hub book lines past told_now clock).world
          cut_nothing told_now told_is count stood = cut_unread told_now told_is count (log_stood t.log.performed now.log.performed gained left d.performed (does_few s t.ledger heard) log_parts log_held stood)

      -- ---- whole

      module _ (log_is : now.log.performed ≡ t.log.performed ++ d.performed) where
        abbrev takes : Bool
        takes = takes_first r.steps

        may : MayRead w takes
        may = may_read takes (may_first (step.hears m just) just r.steps whole_steps.may)

        -- what was told, by what the call says
        pub told_is : (count accepted : ℕ) (pushed noted : List Told) (places : List ℕ) → count ≡ length told → accepted ≡ held.accepted → pushed ≡ told ++ record { accepted = accepted; older = 0 } ∷ []
            → noted ≡ noted_at pushed count accepted places → places ≡ d.told → told_places noted ≡ tells_now
        told_is count accepted pushed noted places count_is is pushed_is noted_is tell =
            ap told_places noted_is ∙ (ap (λ (l : List Told). told_places (noted_at l count accepted places)) pushed_is
            ∙ (ap (λ (n : ℕ). told_places (noted_at (told ++ record { accepted = accepted; older = 0 } ∷ []) n accepted places)) count_is
            ∙ (ap (λ (z : List ℕ). told_places (noted_at (told ++ record { accepted = accepted; older = 0 } ∷ []) (length told) accepted z)) (tell ∙ (does_ruled s t.ledger heard).told)
            ∙ (told_noted told (record { accepted = accepted; older = 0 }) accepted (named_place s just)
            ∙ ap (λ (z : Option ℕ). option_to_list z ++ told_places told)
            (ap (λ (n : ℕ). option_map (λ (older : ℕ). n + older) (named_place s just)) is ∙ laws.told held s just stage.running.sound.order stage.running.sound.agrees.0)))))

        -- the octet was read, and there was no room for what is to be sent
        pub cut_unsent : (told_now : List ℕ) → told_now ≡ tells_now → Some now.terminal.vault.held ≡ holds_after d.steps (Some held) → IsDown now.terminal.state → Leads w (order_play_of now hub book mid past told_now clock).world
        cut_unsent told_now tell held_now is_down = cut_read d.steps [] (sym (append-nil d.steps)) held_now is_down told_now tell (log_is ∙ after_log w s t.ledger stage.ledger refl heard (takes_first (changes_then_loss d.steps)) false)

        abbrev base : World
        base = with_one_read w.base just takes

        -- the world once it was read and an order was responded to
        abbrev replied : OrderWorld
        replied = record w { base = record base { lines = wrote base.lines (answers_directly w heard) }; log = now.log.performed; tables = now.ledger.tables }

        replied_is : after w (Down takes true) ≡ replied
        replied_is = read_is takes true may (log_is ∙ after_log w s t.ledger stage.ledger refl heard takes true)
            ∙ ap (λ (b : World). record w { base = b; log = now.log.performed; tables = now.ledger.tables }) (answered_base w heard takes (whole_takes s heard))

        abbrev m1 : Machine
        m1 = accepting (step.hears m just) takes

        abbrev xs : List TerminalStep
        xs = as_steps m1 (behind_first r.steps)

        opens : NoneOpens (behind_first r.steps)
        opens = none_behind r.steps (heard_opens s heard)

        -- and then what the rule does
        done_replied : done replied xs ≡ record replied { base = record base { terminal = machine_run m1 xs; lines = wrote (wrote base.lines (answers_directly w heard)) (frames_by m1 xs) } }
        done_replied = done_is replied (behind_first r.steps) opens ∙ ap (λ (b : World). record replied { base = b }) (done_world replied.base xs (opens_none m1 (behind_first r.steps) opens))

        frames_are : answers_directly w heard ++ frames_by m1 xs ≡ d.frames
        frames_are = ap (λ (z : List (List ℕ)). answers_directly w heard ++ z) (behind_frames (step.hears m just) r.steps ∙ sym (whole_steps.sent s.settings (sym (heard_phone m just)))) ∙ sym (does_send w s t.ledger stage.ledger refl heard)

        module _ (lines_now : List LineOfOrders) (told_now : List ℕ) (state_is : now.terminal.state ≡ d.state) (held_now : Some now.terminal.vault.held ≡ holds_after d.steps (Some held)) (lines_are : lines_now ≡ wrote_last mid (flat_map (λ (frame : List ℕ). frame) d.frames)) (tell : told_now ≡ tells_now) where
          state_here : now.terminal.state ≡ r.state
          state_here = state_is ∙ (does_ruled s t.ledger heard).state

          vault_here : now.terminal.vault.held ≡ held_after r.steps held
          vault_here = held_is d.steps held now.terminal.vault.held held_now ∙ ap (λ (steps : List Step). held_after steps held) (does_ruled s t.ledger heard).steps

          machine_is : machine_of now.terminal.vault.held now.terminal.state ≡ machine_run m1 xs
          machine_is = ap (λ (h : Held). machine_of h now.terminal.state) vault_here ∙ (ap (machine_of (held_after r.steps held)) state_here ∙ sym (run_behind (step.hears m just) r.steps ∙ whole_steps.to))

          sent_now : sent_on lines_now ≡ sent_on lines
          sent_now = ap sent_on lines_are ∙ (sent_wrote mid (flat_map (λ (frame : List ℕ). frame) d.frames) ∙ sent_mid)

          base_now : bare (play_of now.terminal hub (plain_lines lines_now) past told_now clock).world ≡ record base { terminal = machine_run m1 xs; lines = wrote (wrote base.lines (answers_directly w heard)) (frames_by m1 xs) }
          base_now =
              ap (λ (q : Play). bare q.world) (sent_play now.terminal hub (plain_lines mid) (plain_lines lines_now) past told_now clock (flat_map (λ (frame : List ℕ). frame) d.frames) d.frames (ap plain_lines lines_are ∙ plain_wrote mid (flat_map (λ (frame : List ℕ). frame) d.frames)) refl)
              ∙ (ap (λ (b : World). record b { lines = wrote_all (lines_in (plain_lines mid)) d.frames }) (base_read takes told_now (machine_run m1 xs) tell machine_is)
              ∙ ap (λ (ls : List Line). record base { terminal = machine_run m1 xs; lines = ls })
              (ap (λ (ls : List Line). wrote_all ls d.frames) mid_lines ∙ (sym (wrote_sent base.lines d.frames) ∙ (ap (wrote base.lines) (sym frames_are) ∙ sym (wrote_both base.lines (answers_directly w heard) (frames_by m1 xs))))))

          now_is : (order_play_of now hub book lines_now past told_now clock).world ≡ done replied xs
          now_is = world_now lines_now told_now sent_now ∙ (ap (λ (b : World). record w { base = b; log = now.log.performed; tables = now.ledger.tables }) base_now ∙ sym done_replied)

          pub whole_leads : Leads w (order_play_of now hub book lines_now past told_now clock).world
          whole_leads = subst (Leads w) (sym now_is) (leads_both w replied (done replied xs) (subst (Leads w) replied_is (leads_one w (Down takes true) may))
              (done_leads replied xs (may_behind (step.hears m just) just r.steps whole_steps.may) (steps_fine m1 (behind_first r.steps) (name_behind r.steps names))))

          pub whole_read : order_play_of now hub book lines_now past told_now clock ≡ reads_one p
          whole_read =
              ap (λ (z : OrderWorld). record { world = z; held = now.terminal.vault.held; state = now.terminal.state; clock = clock }) now_is
              ∙ (ap (λ (h : Held). record { world = done replied xs; held = h; state = now.terminal.state; clock = clock }) vault_here
              ∙ (ap (λ (z : State). record { world = done replied xs; held = held_after r.steps held; state = z; clock = clock }) state_here
              ∙ (ap (λ (z : OrderWorld). record { world = done z (as_steps z.base.terminal (behind_first r.steps)); held = held_after r.steps held; state = r.state; clock = clock }) (sym replied_is)
              ∙ sym (reads_ruled p heard))))
