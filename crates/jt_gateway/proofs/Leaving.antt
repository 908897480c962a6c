-- What a step of a world leaves of the rows and of the fixes recorded.
use Rattle.std.proofs.Common.{◌≡◌, ℕ, suc, List, [], ◌∷◌, ◌++◌, map, Bool, true, false, Option, None, Some, refl, sym, ap, ◌∙◌, subst, All}
use Rattle.std.proofs.lemmas.List.{append-nil, append_assoc}
use Rattle.std.proofs.lemmas.List.Elements.{All-head, All-nil, All-push, All-tail}
use mathlib.Core.List.{IsPrefix}
use Rattle.jt_value.specs.Reaching.{MayAll, after_all}
use Rattle.jt_value.proofs.Reaching.{leads_both, leads_one}
use Rattle.jt_value.specs.Sameness.{key_of}
use Rattle.jt_position.specs.Fixes.{IsFix}
use Rattle.jt_store.specs.declared.row.Row.{Row}
use Rattle.jt_platform.specs.declared.request.Entry.{Entry}
use Rattle.jt_platform.specs.History.{row_of, rows_after}
use Rattle.jt_session.specs.Talk.{State, Way}
use Rattle.jt_session.specs.Sessions.{entries_on}
use Rattle.jt_terminal_rule.specs.Steps.{Machine, hears}
use Rattle.jt_terminal_rule.specs.Steps as step
use Rattle.jt_terminal_rule.specs.declared.state.Acknowledgement.{Acknowledgement}
use Rattle.jt_octets.specs.World.{World, completed_item, empty, line_at, newest}
use Rattle.jt_octets.specs.Steps.{Event, Does, Up, Down, Cut, RestartPlatform, MayCome, accepting, after, after_take, just_read, talk_after_item}
use Rattle.jt_octets.specs.Reaching.{Reached}
use Rattle.jt_gateway.specs.Steps.{RecordsNothing, world_with_fixes}
use Rattle.jt_gateway.proofs.Prefixes.{prefix_same}

-- ---- rows

rows_more : (key : List ℕ) (rows : List Row) (h : List Entry) → IsPrefix rows (rows_after key rows h)
rows_more key rows [] = prefix_same rows
rows_more key rows (e ∷ h) =
    let p = rows_more key rows h in
    (p.0 ++ row_of key e.request e.reply, sym (append_assoc rows p.0 (row_of key e.request e.reply)) ∙ ap (λ (l : List Row). l ++ row_of key e.request e.reply) p.1)

taken_rows : (w : World) (place : ℕ) (way : Way) (s : Option State) → IsPrefix w.keeper.rows (after_take w place s (completed_item (line_at w.lines place).up) way).keeper.rows
taken_rows w place way None = prefix_same w.keeper.rows
taken_rows w place way (Some s) = rows_more (key_of w.terminal.phone) w.keeper.rows (entries_on (suc place) (talk_after_item s (completed_item (line_at w.lines place).up) way).entries)

-- the rows of before are the first rows
pub rows_grow : (w : World) (event : Event) → IsPrefix w.keeper.rows (after w event).keeper.rows
rows_grow w (Does s) = prefix_same w.keeper.rows
rows_grow w (Up place way) = taken_rows w place way (line_at w.lines place).session
rows_grow w (Down takes) = prefix_same w.keeper.rows
rows_grow w (Cut place) = prefix_same w.keeper.rows
rows_grow w RestartPlatform = prefix_same w.keeper.rows

-- ---- what the terminal recorded, where it records nothing

read_recorded : (m : Machine) (just : Option Acknowledgement) (takes : Bool) → (accepting (hears m just) takes).recorded ≡ m.recorded
read_recorded m None true = refl
read_recorded m None false = refl
read_recorded m (Some ack) true = refl
read_recorded m (Some ack) false = refl

taken_recorded : (w : World) (place : ℕ) (way : Way) (s : Option State) → (after_take w place s (completed_item (line_at w.lines place).up) way).terminal.recorded ≡ w.terminal.recorded
taken_recorded w place way None = refl
taken_recorded w place way (Some s) = refl

pub recorded_stays : (w : World) (event : Event) → RecordsNothing event → (after w event).terminal.recorded ≡ w.terminal.recorded
recorded_stays w (Does (step.Records fix)) none = absurd none
recorded_stays w (Does (step.Restarts phone)) none = refl
recorded_stays w (Does (step.Forms unit)) none = refl
recorded_stays w (Does step.Opens) none = refl
recorded_stays w (Does (step.Sends place)) none = refl
recorded_stays w (Does (step.Says h body)) none = refl
recorded_stays w (Does step.Accepts) none = refl
recorded_stays w (Does step.Loses) none = refl
recorded_stays w (Does (step.Codes code)) none = refl
recorded_stays w (Up place way) none = taken_recorded w place way (line_at w.lines place).session
recorded_stays w (Down takes) none = read_recorded w.terminal (just_read w.partial (completed_item (newest w).down)) takes
recorded_stays w (Cut place) none = refl
recorded_stays w RestartPlatform none = refl

-- ---- what is recorded is fixes

fixes_stay : (w : World) (event : Event) → MayCome w event → All IsFix w.terminal.recorded → All IsFix (after w event).terminal.recorded
fixes_stay w (Does (step.Records fix)) may all = All-push IsFix w.terminal.recorded fix all may
fixes_stay w (Does (step.Restarts phone)) may all = all
fixes_stay w (Does (step.Forms unit)) may all = all
fixes_stay w (Does step.Opens) may all = all
fixes_stay w (Does (step.Sends place)) may all = all
fixes_stay w (Does (step.Says h body)) may all = all
fixes_stay w (Does step.Accepts) may all = all
fixes_stay w (Does step.Loses) may all = all
fixes_stay w (Does (step.Codes code)) may all = all
fixes_stay w (Up place way) may all = subst (All IsFix) (sym (taken_recorded w place way (line_at w.lines place).session)) all
fixes_stay w (Down takes) may all = subst (All IsFix) (sym (read_recorded w.terminal (just_read w.partial (completed_item (newest w).down)) takes)) all
fixes_stay w (Cut place) may all = all
fixes_stay w RestartPlatform may all = all

all_fixes : (w : World) (events : List Event) → MayAll MayCome after w events → All IsFix w.terminal.recorded → All IsFix (after_all after w events).terminal.recorded
all_fixes w [] may all = all
all_fixes w (event ∷ events) may all = all_fixes (after w event) events may.1 (fixes_stay w event may.0 all)

-- what the terminal of a world that is reached recorded is fixes
pub reached_fixes : (w : World) → Reached w → All IsFix w.terminal.recorded
reached_fixes w r = subst (λ (v : World). All IsFix v.terminal.recorded) r.leads.to (all_fixes (empty r.phone r.setting) r.leads.events r.leads.may (All-nil IsFix))

-- ---- worlds that are reached

pub reached_after : (w : World) (event : Event) → Reached w → MayCome w event → Reached (after w event)
reached_after w event r may = record {
  phone = r.phone;
  good = r.good;
  setting = r.setting;
  leads = leads_both MayCome after (empty r.phone r.setting) w (after w event) r.leads (leads_one MayCome after w (after w event) event may refl);
}

pub reached_with_fixes : (fixes : List (List ℕ)) (w : World) → Reached w → All IsFix fixes → Reached (world_with_fixes w fixes)
reached_with_fixes [] w r all = r
reached_with_fixes (fix ∷ fixes) w r all =
    reached_with_fixes fixes (after w (Does (step.Records fix))) (reached_after w (Does (step.Records fix)) r (All-head IsFix fix fixes all)) (All-tail IsFix fix fixes all)

-- ---- fixes recorded one after the other

pub recorded_by : (fixes : List (List ℕ)) (w : World) → (world_with_fixes w fixes).terminal.recorded ≡ w.terminal.recorded ++ fixes
recorded_by [] w = sym (append-nil w.terminal.recorded)
recorded_by (fix ∷ fixes) w = recorded_by fixes (after w (Does (step.Records fix))) ∙ append_assoc w.terminal.recorded (fix ∷ []) fixes
