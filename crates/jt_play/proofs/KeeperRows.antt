-- The rows that the entries of hubs added: those of the keeper, with short fixes.
use Rattle.std.proofs.Common.{ℕ, suc, ◌+◌, ◌≡◌, ◌≤◌, ◌<◌, List, [], ◌∷◌, ◌++◌, length, Option, Some, None, Bool, true, false, refl, ap, sym, ◌∙◌, subst}
use Rattle.std.specs.Prelude.{if◌then◌else◌}
use Rattle.std.specs.Coded.{codes}
use Rattle.std.specs.List.{AllByRecursion, AllByRecursion-prop}
use Rattle.std.proofs.lemmas.List.{append-nil, append_assoc, reverse-append}
use Rattle.std.proofs.Math.Bridge.{le_prop}
use Rattle.std.proofs.Math.Logic.{∥∥₁_elim}
use mathlib.Core.List.{IsPrefix}
use Rattle.jt_value.specs.Sameness.{key_of, same_key}
use Rattle.jt_value.specs.declared.phone.Phone.{Phone}
use Rattle.jt_value.specs.Reaching.{MayAll, after_all}
use Rattle.jt_position.specs.Fixes.{fixes_of}
use Rattle.jt_store.specs.Units.{carried, fixes_in}
use Rattle.jt_store.specs.declared.row.Row.{Row}
use Rattle.jt_platform.specs.History.{newest, row_of, rows_after}
use Rattle.jt_platform.specs.declared.request.Entry.{Entry}
use Rattle.jt_platform.specs.declared.request.Reply.{Reply}
use Rattle.jt_platform.specs.declared.request.Reply.TheVariants as say
use Rattle.jt_platform.specs.declared.request.Request.{Request}
use Rattle.jt_platform.specs.declared.request.Request.TheVariants as ask
use Rattle.jt_session.specs.Sessions.{entries_on}
use Rattle.jt_session.specs.Talk.{State, Way}
use Rattle.jt_stream.specs.Unplaced.{Unplaced}
use Rattle.jt_octets.specs.World.{World, completed_item, empty, line_at}
use Rattle.jt_octets.specs.World as octets
use Rattle.jt_octets.specs.Steps.{Event, Does, Up, Down, Cut, RestartPlatform, MayCome, accepting, after, after_take, just_read, talk_after_item}
use Rattle.jt_octets.specs.Reaching.{Reached}
use Rattle.jt_octets.specs.Claim.{EachReachedIsKept}
use Rattle.jt_terminal_rule.specs.declared.state.Acknowledgement.{Acknowledgement}
use Rattle.jt_terminal_rule.specs.Steps.{Machine, MayStep, TerminalStep}
use Rattle.jt_terminal_rule.specs.Steps as step
use Rattle.jt_play.specs.Behind.{HasShortFixes, IsShort}
use Rattle.jt_play.specs.Holding.{row_by, row_number, rows_in}
use Rattle.jt_play.proofs.Scenes.{event_key, taken_terminal}
use Rattle.jt_play.proofs.Worlds.{rows_append}

-- ---- one entry

pub row_of_unit : (key : List ℕ) (phone : Phone) (serial id : ℕ) (body : List ℕ) (r : Reply) (n : ℕ) → row_number r ≡ Some n → same_key (key_of phone) key ≡ true
    → row_of key (ask.Unit phone serial id body) r ≡ record { number = n; id = id; body = body } ∷ []
row_of_unit key phone serial id body (say.Stored m) n is same =
    ap (λ (b : Bool). if b then record { number = m; id = id; body = body } ∷ [] else []) same ∙ ap (λ (k : Option ℕ). numbered k) is
  where
    numbered : Option ℕ → List Row
    numbered None = []
    numbered (Some k) = record { number = k; id = id; body = body } ∷ []
row_of_unit key phone serial id body (say.Renumbered m) n is same =
    ap (λ (b : Bool). if b then record { number = m; id = id; body = body } ∷ [] else []) same ∙ ap (λ (k : Option ℕ). numbered k) is
  where
    numbered : Option ℕ → List Row
    numbered None = []
    numbered (Some k) = record { number = k; id = id; body = body } ∷ []
row_of_unit key phone serial id body (say.Registered code) n is same = absurd cc
row_of_unit key phone serial id body (say.Denied m) n is same = absurd cc
row_of_unit key phone serial id body say.Accepted n is same = absurd cc
row_of_unit key phone serial id body (say.Repeat m) n is same = absurd cc
row_of_unit key phone serial id body say.NotLive n is same = absurd cc
row_of_unit key phone serial id body (say.Fenced other) n is same = absurd cc
row_of_unit key phone serial id body (say.ListFull l) n is same = absurd cc
row_of_unit key phone serial id body say.StoreFault n is same = absurd cc
row_of_unit key phone serial id body say.Memory n is same = absurd cc

pub no_row_of_unit : (key : List ℕ) (phone : Phone) (serial id : ℕ) (body : List ℕ) (r : Reply) → same_key (key_of phone) key ≡ false → row_of key (ask.Unit phone serial id body) r ≡ []
no_row_of_unit key phone serial id body (say.Stored m) other = ap (λ (b : Bool). if b then record { number = m; id = id; body = body } ∷ [] else []) other
no_row_of_unit key phone serial id body (say.Renumbered m) other = ap (λ (b : Bool). if b then record { number = m; id = id; body = body } ∷ [] else []) other
no_row_of_unit key phone serial id body (say.Registered code) other = refl
no_row_of_unit key phone serial id body (say.Denied m) other = refl
no_row_of_unit key phone serial id body say.Accepted other = refl
no_row_of_unit key phone serial id body (say.Repeat m) other = refl
no_row_of_unit key phone serial id body say.NotLive other = refl
no_row_of_unit key phone serial id body (say.Fenced s) other = refl
no_row_of_unit key phone serial id body (say.ListFull l) other = refl
no_row_of_unit key phone serial id body say.StoreFault other = refl
no_row_of_unit key phone serial id body say.Memory other = refl

pub no_row : (key : List ℕ) (q : Request) (r : Reply) → row_number r ≡ None → row_of key q r ≡ []
no_row key (ask.Unit phone serial id body) (say.Stored n) is = absurd cc
no_row key (ask.Unit phone serial id body) (say.Renumbered n) is = absurd cc
no_row key (ask.Unit phone serial id body) (say.Registered code) is = refl
no_row key (ask.Unit phone serial id body) (say.Denied n) is = refl
no_row key (ask.Unit phone serial id body) say.Accepted is = refl
no_row key (ask.Unit phone serial id body) (say.Repeat n) is = refl
no_row key (ask.Unit phone serial id body) say.NotLive is = refl
no_row key (ask.Unit phone serial id body) (say.Fenced other) is = refl
no_row key (ask.Unit phone serial id body) (say.ListFull l) is = refl
no_row key (ask.Unit phone serial id body) say.StoreFault is = refl
no_row key (ask.Unit phone serial id body) say.Memory is = refl
no_row key (ask.Register phone register) r is = refl
no_row key (ask.Auth phone code) r is = refl
no_row key (ask.Deregister phone) r is = refl
no_row key (ask.Other phone id) r is = refl
no_row key ask.Close r is = refl

-- ---- the entries of hubs, oldest first

pub rows_both : (key : List ℕ) (a b : List Entry) → rows_in key (a ++ b) ≡ rows_in key a ++ rows_in key b
rows_both key [] b = refl
rows_both key (e ∷ a) b = ap (λ (l : List Row). row_by key e ++ l) (rows_both key a b) ∙ sym (append_assoc (row_by key e) (rows_in key a) (rows_in key b))

-- newest first they are the same rows
rows_newest : (key : List ℕ) (before : List Row) (entries : List Entry) → rows_after key before (newest entries) ≡ before ++ rows_in key entries
rows_newest key before [] = sym (append-nil before)
rows_newest key before (e ∷ entries) =
    ap (rows_after key before) (reverse-append (e ∷ []) entries)
    ∙ (rows_append key before (newest entries) (e ∷ [])
    ∙ (rows_newest key (before ++ row_by key e) entries ∙ append_assoc before (row_by key e) (rows_in key entries)))

-- the rows of all hubs, of which the present one has the second entries
pub rows_of_all : (key : List ℕ) (past present : List Entry) → rows_after key [] (newest present ++ newest past) ≡ rows_in key past ++ rows_in key present
rows_of_all key past present =
    rows_append key [] (newest present) (newest past)
    ∙ (rows_newest key (rows_after key [] (newest past)) present ∙ ap (λ (l : List Row). l ++ rows_in key present) (rows_newest key [] past))

-- ---- what the keeper has is what the entries of all hubs added

abbrev pub ComesOfEntries : World → Type 0
ComesOfEntries w = w.keeper.rows ≡ rows_after (key_of w.terminal.phone) [] (w.history ++ w.past)

took_rows : (w : World) (place : ℕ) (s : Option State) (item : Option Unplaced) (way : Way) → ComesOfEntries w
    → (after_take w place s item way).keeper.rows ≡ rows_after (key_of w.terminal.phone) [] ((after_take w place s item way).history ++ (after_take w place s item way).past)
took_rows w place None item way is = is
took_rows w place (Some s) item way is =
    let key = key_of w.terminal.phone in
    let made = entries_on (suc place) (talk_after_item s item way).entries in
    ap (λ (rows : List Row). rows_after key rows made) is
    ∙ (sym (rows_append key [] made (w.history ++ w.past)) ∙ ap (rows_after key []) (sym (append_assoc made w.history w.past)))

event_rows : (w : World) (event : Event) → ComesOfEntries w → (after w event).keeper.rows ≡ rows_after (key_of w.terminal.phone) [] ((after w event).history ++ (after w event).past)
event_rows w (Does s) is = is
event_rows w (Up place way) is = took_rows w place (line_at w.lines place).session (completed_item (line_at w.lines place).up) way is
event_rows w (Down takes) is = is
event_rows w (Cut place) is = is ∙ sym (append-nil (rows_after (key_of w.terminal.phone) [] (w.history ++ w.past)))
event_rows w RestartPlatform is = is

all_rows : (w : World) (events : List Event) → MayAll MayCome after w events → ComesOfEntries w → ComesOfEntries (after_all after w events)
all_rows w [] may is = is
all_rows w (event ∷ events) may is =
    let now = after w event in
    all_rows now events may.1 (event_rows w event is ∙ ap (λ (key : List ℕ). rows_after key [] (now.history ++ now.past)) (sym (event_key w event may.0)))

reached_rows : (w : World) → Reached w → ComesOfEntries w
reached_rows w r = subst ComesOfEntries r.leads.to (all_rows (empty r.phone r.setting) r.leads.events r.leads.may refl)

pub rows_come : (w : World) → ∥ Reached w ∥₁ → ComesOfEntries w
rows_come w reached = ∥∥₁_elim reached (Prim.hlevel codes) (reached_rows w)

-- ---- each fix that was recorded is short enough for one packet, and so is each that is stored

abbrev AreShort : List (List ℕ) → Type 0
AreShort fixes = AllByRecursion IsShort fixes

short_append : (a b : List (List ℕ)) → AreShort a → AreShort b → AreShort (a ++ b)
short_append [] b p q = q
short_append (fix ∷ a) b p q = (p.0, short_append a b p.1 q)

short_first : (a b : List (List ℕ)) → AreShort (a ++ b) → AreShort a
short_first [] b p = tt
short_first (fix ∷ a) b p = (p.0, short_first a b p.1)

short_rest : (a b : List (List ℕ)) → AreShort (a ++ b) → AreShort b
short_rest [] b p = p
short_rest (fix ∷ a) b p = short_rest a b p.1

heard_recorded : (m : Machine) (just : Option Acknowledgement) (takes : Bool) → (accepting (step.hears m just) takes).recorded ≡ m.recorded
heard_recorded m None true = refl
heard_recorded m None false = refl
heard_recorded m (Some ack) true = refl
heard_recorded m (Some ack) false = refl

step_short : (m : Machine) (s : TerminalStep) → MayStep m None s → AreShort m.recorded → AreShort (step.machine_after m s).recorded
step_short m (step.Records fix) may are = short_append m.recorded (fix ∷ []) are (may.short, tt)
step_short m (step.Forms unit) may are = are
step_short m (step.Sends place) may are = are
step_short m (step.Says h body) may are = are
step_short m step.Accepts may are = are
step_short m step.Opens may are = are
step_short m step.Loses may are = are
step_short m (step.Restarts phone) may are = are
step_short m (step.Codes code) may are = are

event_short : (w : World) (event : Event) → MayCome w event → AreShort w.terminal.recorded → AreShort (after w event).terminal.recorded
event_short w (Does s) may are = step_short w.terminal s may are
event_short w (Up place way) may are = subst (λ (m : Machine). AreShort m.recorded) (sym (taken_terminal w place (line_at w.lines place).session (completed_item (line_at w.lines place).up) way)) are
event_short w (Down takes) may are = subst AreShort (sym (heard_recorded w.terminal (just_read w.partial (completed_item (octets.newest w).down)) takes)) are
event_short w (Cut place) may are = are
event_short w RestartPlatform may are = are

all_short : (w : World) (events : List Event) → MayAll MayCome after w events → AreShort w.terminal.recorded → AreShort (after_all after w events).terminal.recorded
all_short w [] may are = are
all_short w (event ∷ events) may are = all_short (after w event) events may.1 (event_short w event may.0 are)

each_row : (rows : List Row) → AreShort (fixes_in rows) → AllByRecursion HasShortFixes rows
each_row [] are = tt
each_row (row ∷ rows) are = (short_first (fixes_of (carried row)) (fixes_in rows) are, each_row rows (short_rest (fixes_of (carried row)) (fixes_in rows) are))

first_short : (a b : List (List ℕ)) → IsPrefix a b → AreShort b → AreShort a
first_short a b first are = short_first a first.0 (subst AreShort (sym first.1) are)

reached_short : EachReachedIsKept → (w : World) → Reached w → AllByRecursion HasShortFixes w.keeper.rows
reached_short kept w r =
    let recorded : AreShort w.terminal.recorded = subst (λ (v : World). AreShort v.terminal.recorded) r.leads.to (all_short (empty r.phone r.setting) r.leads.events r.leads.may tt) in
    each_row w.keeper.rows (first_short (fixes_in w.keeper.rows) w.terminal.recorded (kept w r).delivered.recorded recorded)

short_prop : (row : Row) → IsProp (HasShortFixes row)
short_prop row = AllByRecursion-prop IsShort (λ (fix : List ℕ). le_prop) (fixes_of (carried row))

pub fixes_short : EachReachedIsKept → (w : World) → ∥ Reached w ∥₁ → AllByRecursion HasShortFixes w.keeper.rows
fixes_short kept w reached = ∥∥₁_elim reached (AllByRecursion-prop HasShortFixes short_prop w.keeper.rows) (reached_short kept w)
