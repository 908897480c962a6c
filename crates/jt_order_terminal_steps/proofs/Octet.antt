-- One octet down in a world in which an order terminal stands, done whole or cut short.
use Rattle.std.proofs.Common.{ℕ, ◌+◌, ◌-◌, ◌<◌, ◌≡◌, ◌⊎◌, inl, inr, List, [], ◌∷◌, ◌++◌, length, set, Option, Some, None, Bool, true, false, arith, refl, ap, sym, ◌∙◌, subst}
use Rattle.std.specs.Coded.{codes}
use Rattle.std.specs.Option.{option_to_list}
use Rattle.std.specs.Prelude.{◌^◌, ◌==◌, if◌then◌else◌, is_none, slice_get}
use Rattle.std.proofs.Math.Logic.{∥∥₁_elim}
use Rattle.std.proofs.lemmas.Bool.{le-leb, lt-ltb}
use Rattle.std.proofs.lemmas.List.{append-nil, length-append, length_push}
use Rattle.jt_value.specs.Octets.{AreOctets}
use Rattle.jt_value.specs.Serials.{serial_of}
use Rattle.jt_escape.specs.Scan.{State as Splitting}
use Rattle.jt_header.specs.declared.header.Header.{Header}
use Rattle.jt_params.specs.contracts.table.ParamTable as params
use Rattle.jt_regions.specs.contracts.region_table.RegionTable as regions
use Rattle.jt_codec.specs.declared.message.Message.{Message}
use Rattle.jt_stream.specs.Unplaced.{Unplaced, items}
use Rattle.jt_store.specs.Vaults.{Held}
use Rattle.jt_terminal_answers.specs.Performing.{HeldTables, message_outcome}
use Rattle.jt_terminal_rule.specs.declared.state.Acknowledgement.{Acknowledgement}
use Rattle.jt_terminal_rule.specs.declared.state.GiveUp.{GiveUp}
use Rattle.jt_terminal_rule.specs.declared.state.State.{State}
use Rattle.jt_terminal_rule.specs.declared.state.Event.TheVariants as event
use Rattle.jt_terminal_rule.specs.Law.{AreSteps, RuleKeepsSettings, changes_then_loss}
use Rattle.jt_terminal_rule.specs.Machines.{Agrees, IsInOrder, as_steps, frames_by, held_after, is_up, machine_of}
use Rattle.jt_terminal_rule.specs.Messages.{AreSettings}
use Rattle.jt_terminal_rule.specs.Rule.{Ruled, Step, down}
use Rattle.jt_terminal_rule.specs.Steps.{Machine, MayRun, TerminalStep, machine_run, unit_named_by}
use Rattle.jt_terminal_rule.specs.Steps as step
use Rattle.jt_terminal_steps.specs.Running.{IsDown, holds_after}
use Rattle.jt_order.specs.declared.performed.Performed.{Performed}
use Rattle.jt_order.specs.declared.rules.Ruling.{Ruling}
use Rattle.jt_order.specs.declared.rules.Ruling.TheVariants.{Again, Performs, Refuses}
use Rattle.jt_order.specs.Rules.{ruling_by}
use Rattle.jt_obeying.specs.Orders.{no_tables, ruling, tables_of}
use Rattle.jt_obeying.specs.Performing.{terminal_performing}
use Rattle.jt_order_turns.specs.Frames.{order_in}
use Rattle.jt_order_turns.specs.Heard.{Heard, Ordered, Other, Nothing, heard_at}
use Rattle.jt_order_terminal.specs.Ledgers.{IsLedgerOf, Ledger}
use Rattle.jt_order_terminal.specs.Terminals.{Done, by_ruling, does_at, does_at_items, next, then_done}
use Rattle.jt_order_terminal.proofs.Committing.{serial_by, some_by, last_push}
use Rattle.jt_octets.specs.World.{World, Wire, completed_item, newest, newest_place, taken_of, with_one_taken}
use Rattle.jt_octets.specs.Steps.{MayAccept, accepting}
use Rattle.jt_octets.proofs.Exact.{Behind, one_behind}
use Rattle.jt_octets.proofs.Views.{StreamLaws}
use Rattle.jt_play.specs.Playing.{behind_first, takes_first}
use Rattle.jt_play.proofs.Acting.{held_is, machine_down}
use Rattle.jt_play.proofs.Breaking.{behind_quiet, unheard}
use Rattle.jt_play.proofs.Cutting.{done_world, down_same, quiet_world, wrote}
use Rattle.jt_play.proofs.Downward.{Brought, may_behind, may_first, run_behind}
use Rattle.jt_play.proofs.Opening.{NoneOpens, opens_none}
use Rattle.jt_play.proofs.Reading.{heard_phone, none_behind}
use Rattle.jt_play.proofs.Rounds.{behind_frames, some_left}
use Rattle.jt_play.proofs.Upward.{grown, octet_of}
use Rattle.jt_order_octets.specs.World.{OrderWorld}
use Rattle.jt_order_octets.specs.Claim.{EachReachedIsObeyed}
use Rattle.jt_order_octets.specs.Reaching.{Reached}
use Rattle.jt_order_octets.specs.Steps.{Down, MayRead, after, after_read, heard_next, response_of, tables_by_ruling, with_one_read}
use Rattle.jt_order_play.specs.Playing.{done}
use Rattle.jt_order_play.specs.Holding.{ReadingLaws}
use Rattle.jt_order_play.proofs.Answering.{fine_came}
use Rattle.jt_order_play.proofs.Composing.{still_reached}
use Rattle.jt_order_play.proofs.Doing.{done_is, quiet_opens}
use Rattle.jt_order_play.proofs.Hearing.{TakesNone, accepts_quietly, after_log, answers_directly, cut_steps, cut_takes, does_few, does_ruled, does_send, heard_names, heard_opens, name_behind, ruled_of, ruling_is, takes_steps, whole_takes}
use Rattle.jt_order_play.proofs.Naming.{NameNone, quiet_names, steps_fine}
use Rattle.jt_order_play.proofs.Reading.{answered_base, wrote_both, refused_reached}
use Rattle.jt_order_play.proofs.Standing.{leads_one}
use Rattle.jt_order_terminal_steps.specs.Standing.{TerminalParts, after_call, line_after_call}
use Rattle.jt_order_terminal_steps.proofs.Events.{behind_nothing}
use Rattle.jt_order_terminal_steps.proofs.Owning.{OwnLeads, done_own, own_both, own_one}
use Rattle.jt_order_terminal_steps.proofs.Lines.{wrote_set}
use Rattle.jt_order_terminal_steps.proofs.Upkeep.{message_up}

-- ---- what the octet completes

pub brought : StreamLaws → (wire : Wire) → wire.taken < length wire.octets → Brought (taken_of wire) (octet_of wire ∷ []) (completed_item wire)
brought laws wire lt = by (completed_item wire) (one_behind laws wire lt)
  where
    by : (item : Option Unplaced) → Behind wire item → Brought (taken_of wire) (octet_of wire ∷ []) item
    by None e = ap items (sym (grown wire lt)) ∙ e
    by (Some item) e = ap items (sym (grown wire lt)) ∙ e

-- ---- the ledger behind an order

last_by : {A : Type 0} (xs : List A) (x : A) → slice_get (xs ++ x ∷ []) (length xs) ≡ Some x
last_by [] x = refl
last_by (y ∷ xs) x = last_by xs x

ledger_push : (log : List Performed) (l : Ledger) (p : Performed) (tables : HeldTables) → IsLedgerOf log l → tables ≡ tables_of terminal_performing no_tables (log ++ p ∷ [])
    → IsLedgerOf (log ++ p ∷ []) (record { count = next l.count; last = Some p; tables = tables })
ledger_push log l p tables was tables_are = record {
  serial = serial_by l.count (length log) (l.count == 2 ^ 64 - 1) refl was.serial ∙ ap serial_of (sym (length_push log p));
  some = some_by l.count (l.count == 2 ^ 64 - 1) ∙ sym (let len = length_push log p in le-leb 1 (length (log ++ p ∷ [])) (omega (arith, len)));
  last = sym (last_push log p);
  tables = tables_are;
}

abbrev TablesAre : Done → List Performed → Type 0
TablesAre d log = d.ledger.tables ≡ tables_of terminal_performing no_tables (log ++ d.performed)

same_ledger : (log : List Performed) (l : Ledger) → IsLedgerOf log l → IsLedgerOf (log ++ []) l
same_ledger log l was = subst (λ (z : List Performed). IsLedgerOf z l) (sym (append-nil log)) was

order_ledger : (s : State) (l : Ledger) (h : Header) (octets : List ℕ) (m : Message) (r : Ruling) (log : List Performed) → IsLedgerOf log l → TablesAre (by_ruling s l h octets m r) log
    → IsLedgerOf (log ++ (by_ruling s l h octets m r).performed) (by_ruling s l h octets m r).ledger
order_ledger s l h octets m (Again result) log was tables = same_ledger log l was
order_ledger s l h octets m Performs log was tables = ledger_push log l (record { order = record { id = h.id; body = octets }; result = (message_outcome l.tables m).0 }) (message_outcome l.tables m).1 was tables
order_ledger s l h octets m Refuses log was tables = same_ledger log l was

-- what is kept of the log is that of the log with what was performed
does_ledger : (s : State) (l : Ledger) (x : Heard) (log : List Performed) → IsLedgerOf log l → TablesAre (does_at s l x) log → IsLedgerOf (log ++ (does_at s l x).performed) (does_at s l x).ledger
does_ledger s l (Ordered h octets m) log was tables = order_ledger s l h octets m (ruling_by l.count l.last h.serial (record { id = h.id; body = octets })) log was tables
does_ledger s l (Other h m) log was tables = same_ledger log l was
does_ledger s l Nothing log was tables = same_ledger log l was

module _ (w : OrderWorld) (s : State) (l : Ledger) (is : IsLedgerOf w.log l) (same : l.tables ≡ w.tables) where
  order_tables : (h : Header) (octets : List ℕ) (m : Message) (r : Ruling) → (by_ruling s l h octets m r).ledger.tables ≡ tables_by_ruling w m r
  order_tables h octets m (Again result) = same
  order_tables h octets m Performs = ap (λ (t : HeldTables). (message_outcome t m).1) same
  order_tables h octets m Refuses = same

  -- the tables of the world are then those of what is kept
  after_tables : (x : Heard) (takes responds : Bool) → (does_at s l x).ledger.tables ≡ (after_read w x takes responds).tables
  after_tables (Ordered h octets m) takes responds = ap (λ (r : Ruling). (by_ruling s l h octets m r).ledger.tables) (ruling_is w.log l is h.serial (order_in h octets)) ∙ order_tables h octets m (ruling w.log h.serial (order_in h octets))
  after_tables (Other h m) takes responds = same
  after_tables Nothing takes responds = same

-- ---- the world, once it was read

read_base : (w : OrderWorld) (x : Heard) (takes : Bool) → TakesNone x takes → (after_read w x takes false).base ≡ with_one_read w.base (response_of x) takes
read_base w (Ordered h octets m) takes none = ap (λ (b : Bool). with_one_read w.base None b) (sym none)
read_base w (Other h m) takes none = refl
read_base w Nothing takes none = refl

read_rest : (w : OrderWorld) (x : Heard) (takes responds : Bool) (log : List Performed) (tables : HeldTables) → w.refused ≡ [] → log ≡ (after_read w x takes responds).log → tables ≡ (after_read w x takes responds).tables → (after_read w x takes responds).refused ≡ []
    → after_read w x takes responds ≡ record w { base = (after_read w x takes responds).base; log = log; tables = tables }
read_rest w (Ordered h octets m) takes responds log tables was log_is tables_is none =
    let a = after_read w (Ordered h octets m) takes responds in
    ap (λ (z : List ℕ). record a { refused = z }) (none ∙ sym was) ∙ (ap (λ (z : List Performed). record w { base = a.base; log = z; tables = a.tables }) (sym log_is) ∙ ap (λ (z : HeldTables). record w { base = a.base; log = log; tables = z }) (sym tables_is))
read_rest w (Other h m) takes responds log tables was log_is tables_is none =
    let a = after_read w (Other h m) takes responds in
    ap (λ (z : List Performed). record w { base = a.base; log = z; tables = a.tables }) (sym log_is) ∙ ap (λ (z : HeldTables). record w { base = a.base; log = log; tables = z }) (sym tables_is)
read_rest w Nothing takes responds log tables was log_is tables_is none =
    let a = after_read w Nothing takes responds in
    ap (λ (z : List Performed). record w { base = a.base; log = z; tables = a.tables }) (sym log_is) ∙ ap (λ (z : HeldTables). record w { base = a.base; log = log; tables = z }) (sym tables_is)

tables_reached : EachReachedIsObeyed → (w : OrderWorld) → ∥ Reached w ∥₁ → w.tables ≡ tables_of terminal_performing no_tables w.log
tables_reached law w reached = ∥∥₁_elim reached (Prim.hlevel (codes, params.the_row.coded, regions.the_row.coded)) (λ (r : Reached w). (law w r).tables)

-- ---- what is done

-- the parts once this was done of them
abbrev pub parts_of : Splitting → Held → List Performed → Done → TerminalParts
parts_of z held log d = record { state = d.state; held = held_after d.steps held; stream = z; ledger = d.ledger; log = log ++ d.performed }

-- the terminal of the world is this one
pub record IsAt (w : OrderWorld) (s : State) (held : Held) (l : Ledger) : Type 0 where
  pub terminal : w.base.terminal ≡ machine_of held s
  pub tables : w.tables ≡ l.tables
  pub ledger : IsLedgerOf w.log l
  pub good : AreSettings s.settings
  pub order : IsInOrder s
  pub agrees : Agrees held s

-- a line in use stays so, unless it is given up
abbrev pub StaysUp : Done → Type 0
StaysUp d = is_up d.state.phase ≡ is_none d.end

order_up : (s : State) (l : Ledger) (h : Header) (octets : List ℕ) (m : Message) (r : Ruling) → is_up s.phase ≡ true → StaysUp (by_ruling s l h octets m r)
order_up s l h octets m (Again result) up = up
order_up s l h octets m Performs up = up
order_up s l h octets m Refuses up = up

pub does_up : (s : State) (l : Ledger) (x : Heard) → is_up s.phase ≡ true → StaysUp (does_at s l x)
does_up s l (Ordered h octets m) up = order_up s l h octets m (ruling_by l.count l.last h.serial (record { id = h.id; body = octets })) up
does_up s l (Other h m) up = message_up s up h m
does_up s l Nothing up = up

-- at items one after another
pub items_up : (s : State) (l : Ledger) (xs : List Unplaced) → is_up s.phase ≡ true → StaysUp (does_at_items s l xs)
items_up s l [] up = up
items_up s l (x ∷ xs) up = by (does_at s l (heard_at x)).end refl (items_up (does_at s l (heard_at x)).state (does_at s l (heard_at x)).ledger xs)
  where
    by : (end : Option GiveUp) → (does_at s l (heard_at x)).end ≡ end → (let d = does_at s l (heard_at x) in (is_up d.state.phase ≡ true → StaysUp (does_at_items d.state d.ledger xs)) → StaysUp (then_done end d (does_at_items d.state d.ledger xs)))
    by None e more = more (does_up s l (heard_at x) up ∙ ap (λ (end : Option GiveUp). is_none end) e)
    by (Some cause) e more = does_up s l (heard_at x) up

ruled_settings : RuleKeepsSettings → (s : State) (x : Heard) → (ruled_of s x).state.settings ≡ s.settings
ruled_settings law s (Ordered h octets m) = refl
ruled_settings law s (Other h m) = law.ruled s (event.Received h m)
ruled_settings law s Nothing = refl

pub does_settings : RuleKeepsSettings → (s : State) (l : Ledger) (x : Heard) → (does_at s l x).state.settings ≡ s.settings
does_settings law s l x = ap (λ (z : State). z.settings) (does_ruled s l x).state ∙ ruled_settings law s x

-- some of it was done: one octet was read, and this was told; or none was read
abbrev pub CutAt : OrderWorld → TerminalParts → List ℕ → Type 0
CutAt w now tells = OwnLeads w (after_call w now 1 [] tells) ⊎ OwnLeads w (after_call w now 0 [] [])

-- ---- one octet

module _ (laws : ReadingLaws) (w0 : OrderWorld) (s : State) (held : Held) (l : Ledger) where
  -- the world in which they stand
  abbrev w : OrderWorld
  w = record w0 { base = record w0.base { terminal = machine_of held s }; tables = l.tables }

  abbrev m : Machine
  m = machine_of held s

  abbrev wire : Wire
  wire = (newest w.base).down

  abbrev heard : Heard
  heard = heard_next w

  abbrev just : Option Acknowledgement
  just = response_of heard

  abbrev r : Ruled
  r = ruled_of s heard

  abbrev d : Done
  d = does_at s l heard

  abbrev tells : List ℕ
  tells = option_to_list (unit_named_by m just)

  streams : StreamLaws
  streams = record { front = laws.front; one = laws.one; frames = laws.frames; message = laws.message; long = laws.long }

  module _ (reached : ∥ Reached w ∥₁) (ledger : IsLedgerOf w.log l) (good : AreSettings s.settings) (order : IsInOrder s) (agrees : Agrees held s) (up : is_up s.phase ≡ true) (left : wire.taken < length wire.octets) (are : AreOctets (taken_of wire ++ octet_of wire ∷ [])) where
    some : 0 < length w.base.lines
    some = some_left w.base.lines (lt-ltb wire.taken (length wire.octets) left)

    names : NameNone r.steps
    names = heard_names laws.responses laws.others s heard (fine_came laws.some laws.are (taken_of wire) (octet_of wire ∷ []) (completed_item wire) are (brought streams wire left))

    whole_steps : AreSteps (step.hears m just) held just r
    whole_steps = takes_steps held s good order agrees laws.heard heard

    may_read : (takes : Bool) → MayAccept (step.hears m just) just takes → MayRead w takes
    may_read takes accepts = record { in_use = up; some = some; left = left; accepts = accepts }

    -- the world once it was read, by this log and these tables
    read_is : (takes responds : Bool) (log : List Performed) (tables : HeldTables) → MayRead w takes → log ≡ (after_read w heard takes responds).log → tables ≡ (after_read w heard takes responds).tables
        → after w (Down takes responds) ≡ record w { base = (after_read w heard takes responds).base; log = log; tables = tables }
    read_is takes responds log tables may log_is tables_is =
        let next : ∥ Reached (after w (Down takes responds)) ∥₁ = still_reached w (after w (Down takes responds)) reached (leads_one w (Down takes responds) may) in
        read_rest w heard takes responds log tables (refused_reached laws.none_refused w reached) log_is tables_is (refused_reached laws.none_refused (after w (Down takes responds)) next)

    tables_next : (takes responds : Bool) → MayRead w takes → (after_read w heard takes responds).tables ≡ tables_of terminal_performing no_tables (after_read w heard takes responds).log
    tables_next takes responds may = tables_reached laws.obeyed (after w (Down takes responds)) (still_reached w (after w (Down takes responds)) reached (leads_one w (Down takes responds) may))

    -- ---- cut short

    module _ (now : TerminalParts) (same : now.state.settings ≡ s.settings) (ledger_now : IsLedgerOf now.log now.ledger) (begun rest : List Step) (parts : d.steps ≡ begun ++ rest) (held_now : Some now.held ≡ holds_after begun (Some held)) (is_down : IsDown now.state) where
      abbrev to : Machine
      to = machine_of (held_after begun held) (down s)

      abbrev quick : Bool
      quick = takes_first (changes_then_loss begun)

      to_is : to ≡ machine_of now.held now.state
      to_is = sym (machine_down now.held now.state is_down ∙ (ap (λ (h : Held). machine_of h (down now.state)) (held_is begun held now.held held_now) ∙ down_same (held_after begun held) s now.state same))

      parts_here : r.steps ≡ begun ++ rest
      parts_here = sym (does_ruled s l heard).steps ∙ parts

      cut : MayRun (step.hears m just) just (as_steps (step.hears m just) (changes_then_loss begun)) × (machine_run (step.hears m just) (as_steps (step.hears m just) (changes_then_loss begun)) ≡ to)
      cut = cut_steps held s good order agrees laws.cut laws.heard_cut heard begun rest parts_here

      may_cut : MayRead w quick
      may_cut = may_read quick (may_first (step.hears m just) just (changes_then_loss begun) cut.0)

      none_taken : TakesNone heard quick
      none_taken = cut_takes s heard begun rest parts_here

      -- the octet was read
      abbrev read : OrderWorld
      read = record w { base = with_one_read w.base just quick; log = now.log; tables = now.ledger.tables }

      cut_leads : now.log ≡ (after_read w heard quick false).log → OwnLeads w (record read { base = record read.base { terminal = to } })
      cut_leads log_is = own_both w read (record read { base = record read.base { terminal = to } })
          (subst (OwnLeads w)
          (read_is quick false now.log now.ledger.tables may_cut log_is (ledger_now.tables ∙ (ap (tables_of terminal_performing no_tables) log_is ∙ sym (tables_next quick false may_cut)))
          ∙ ap (λ (b : World). record w { base = b; log = now.log; tables = now.ledger.tables }) (read_base w heard quick none_taken)) (own_one w (Down quick false) may_cut tt))
          (subst (OwnLeads read)
          (done_is read (behind_first (changes_then_loss begun)) (none_behind (changes_then_loss begun) (quiet_opens begun))
          ∙ (ap (λ (b : World). record read { base = b }) (behind_quiet read.base begun)
          ∙ ap (λ (z : Machine). record read { base = record read.base { terminal = z } }) (run_behind (step.hears m just) (changes_then_loss begun) ∙ cut.1)))
          (done_own read (as_steps read.base.terminal (behind_first (changes_then_loss begun))) (may_behind (step.hears m just) just (changes_then_loss begun) cut.0)
          (steps_fine read.base.terminal (behind_first (changes_then_loss begun)) (name_behind (changes_then_loss begun) (quiet_names begun)))))

      cut_read : now.log ≡ (after_read w heard quick false).log → OwnLeads w (after_call w now 1 [] tells)
      cut_read log_is = subst (OwnLeads w)
          (ap (λ (z : Machine). record read { base = record read.base { terminal = z } }) to_is
          ∙ ap (λ (octets : List ℕ). record read { base = record read.base { terminal = machine_of now.held now.state; lines = set w.base.lines (newest_place w.base.lines) (record (newest w.base) { up = record (newest w.base).up { octets = octets }; down = with_one_taken wire }) } }) (sym (append-nil (newest w.base).up.octets)))
          (cut_leads log_is)

      -- it was not
      cut_unread : quick ≡ false → now.log ≡ w.log → OwnLeads w (after_call w now 0 [] [])
      cut_unread slow log_is =
          let free = unheard m just begun slow cut.0 in
          subst (OwnLeads w)
          (done_is w (changes_then_loss begun) (quiet_opens begun)
          ∙ (ap (λ (b : World). record w { base = b }) (quiet_world w.base begun)
          ∙ (ap (λ (z : Machine). record w { base = record w.base { terminal = z } }) (free.1 ∙ (cut.1 ∙ to_is))
          ∙ ((λ i. record w { base = record w.base { terminal = machine_of now.held now.state }; log = sym log_is i; tables = (ledger.tables ∙ (ap (tables_of terminal_performing no_tables) (sym log_is) ∙ sym ledger_now.tables)) i })
          ∙ sym (behind_nothing w now)))))
          (done_own w (as_steps m (changes_then_loss begun)) free.0 (steps_fine m (changes_then_loss begun) (quiet_names begun)))

      pub cut_either : (gained behind_them : List Performed) → d.performed ≡ gained ++ behind_them → now.log ≡ w.log ++ gained → CutAt w now tells
      cut_either gained [] log_parts log_held = inl (cut_read (log_held ∙ (ap (λ (more : List Performed). w.log ++ more) (sym (log_parts ∙ append-nil gained)) ∙ after_log w s l ledger refl heard quick false)))
      cut_either [] (y ∷ more) log_parts log_held = inr (cut_unread (slow quick refl) (log_held ∙ append-nil w.log))
        where
          slow : (b : Bool) → quick ≡ b → quick ≡ false
          slow false e = e
          slow true e =
              let none = ap (λ (l : List Performed). length l) (sym (accepts_quietly w s l heard quick false none_taken e).0 ∙ log_parts) in
              absurd (omega (arith, none))
      cut_either (x ∷ gained) (y ∷ more) log_parts log_held =
          let n = ap (λ (l : List Performed). length l) log_parts in
          let few = does_few s l heard in
          absurd (let k = length-append gained (y ∷ more) in omega (arith, n, few, k))

    -- ---- whole

    abbrev takes : Bool
    takes = takes_first r.steps

    may : MayRead w takes
    may = may_read takes (may_first (step.hears m just) just r.steps whole_steps.may)

    abbrev base : World
    base = with_one_read w.base just takes

    -- the world once it was read and an order was responded to
    abbrev replied : OrderWorld
    replied = record w { base = record base { lines = wrote base.lines (answers_directly w heard) }; log = w.log ++ d.performed; tables = d.ledger.tables }

    replied_is : after w (Down takes true) ≡ replied
    replied_is = read_is takes true (w.log ++ d.performed) d.ledger.tables may (after_log w s l ledger refl heard takes true) (after_tables w s l ledger refl heard takes true)
        ∙ ap (λ (b : World). record w { base = b; log = w.log ++ d.performed; tables = d.ledger.tables }) (answered_base w heard takes (whole_takes s heard))

    abbrev m1 : Machine
    m1 = accepting (step.hears m just) takes

    abbrev xs : List TerminalStep
    xs = as_steps m1 (behind_first r.steps)

    opens : NoneOpens (behind_first r.steps)
    opens = none_behind r.steps (heard_opens s heard)

    done_replied : done replied xs ≡ record replied { base = record base { terminal = machine_run m1 xs; lines = wrote (wrote base.lines (answers_directly w heard)) (frames_by m1 xs) } }
    done_replied = done_is replied (behind_first r.steps) opens ∙ ap (λ (b : World). record replied { base = b }) (done_world replied.base xs (opens_none m1 (behind_first r.steps) opens))

    frames_are : answers_directly w heard ++ frames_by m1 xs ≡ d.frames
    frames_are = ap (λ (z : List (List ℕ)). answers_directly w heard ++ z) (behind_frames (step.hears m just) r.steps ∙ sym (whole_steps.sent s.settings (sym (heard_phone m just)))) ∙ sym (does_send w s l ledger refl heard)

    lines_are : wrote (wrote base.lines (answers_directly w heard)) (frames_by m1 xs) ≡ set w.base.lines (newest_place w.base.lines) (line_after_call (newest w.base) 1 d.frames)
    lines_are = wrote_both base.lines (answers_directly w heard) (frames_by m1 xs) ∙ (ap (wrote base.lines) frames_are ∙ wrote_set w.base.lines (record (newest w.base) { down = with_one_taken wire }) d.frames some)

    held_steps : held_after d.steps held ≡ held_after r.steps held
    held_steps = ap (λ (steps : List Step). held_after steps held) (does_ruled s l heard).steps

    machine_is : machine_run m1 xs ≡ machine_of (held_after d.steps held) d.state
    machine_is = run_behind (step.hears m just) r.steps ∙ (whole_steps.to ∙ (ap (λ (h : Held). machine_of h r.state) (sym held_steps) ∙ ap (machine_of (held_after d.steps held)) (sym (does_ruled s l heard).state)))

    whole_is : (z : Splitting) → done replied xs ≡ after_call w (parts_of z held w.log d) 1 d.frames tells
    whole_is z = done_replied ∙ (λ i. record replied { base = record base { terminal = machine_is i; lines = lines_are i } })

    pub whole_leads : (z : Splitting) → OwnLeads w (after_call w (parts_of z held w.log d) 1 d.frames tells)
    whole_leads z = subst (OwnLeads w) (whole_is z) (own_both w replied (done replied xs) (subst (OwnLeads w) replied_is (own_one w (Down takes true) may tt))
        (done_own replied xs (may_behind (step.hears m just) just r.steps whole_steps.may) (steps_fine m1 (behind_first r.steps) (name_behind r.steps names))))

    pub whole_at : RuleKeepsSettings → (z : Splitting) → IsAt (after_call w (parts_of z held w.log d) 1 d.frames tells) d.state (held_after d.steps held) d.ledger
    whole_at keeps z = record {
      terminal = refl;
      tables = refl;
      ledger = does_ledger s l heard w.log ledger (after_tables w s l ledger refl heard takes true ∙ (tables_next takes true may ∙ ap (tables_of terminal_performing no_tables) (sym (after_log w s l ledger refl heard takes true))));
      good = subst AreSettings (sym (does_settings keeps s l heard)) good;
      order = subst IsInOrder (sym (does_ruled s l heard).state) whole_steps.in_order;
      agrees = subst (λ (h : Held). Agrees h d.state) (sym held_steps) (subst (Agrees (held_after r.steps held)) (sym (does_ruled s l heard).state) whole_steps.agrees);
    }
