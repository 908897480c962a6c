-- The window is filled by steps of the machine.
use Rattle.std.proofs.Common.{ℕ, zero, suc, ◌≡◌, ◌<◌, ◌≤◌, ◌+◌, List, [], ◌∷◌, ◌++◌, length, drop, slice_get, Option, Some, None, Bool, true, false, cond, refl, ap, sym, ◌∙◌, subst, arith, IsTrue}
use Rattle.std.specs.Prelude.{nat_lt, max}
use Rattle.std.proofs.lemmas.Bool.{ltb-true}
use Rattle.std.proofs.lemmas.List.{length-drop, drop-drop}
use Rattle.std.proofs.lemmas.Option.{slice_get_within}
use Rattle.jt_value.specs.Serials.{gap_of, serial_of}
use Rattle.jt_value.specs.declared.phone.Phone.{Phone}
use Rattle.jt_store.specs.declared.unit.Unit.{Unit as OneUnit}
use Rattle.jt_store.specs.Vaults.{Held, Forms, Accepts, held_by}
use Rattle.jt_terminal_rule.specs.declared.state.Phase.TheVariants.{Live}
use Rattle.jt_terminal_rule.specs.Forming.{unit_of}
use Rattle.jt_terminal_rule.specs.declared.state.Acknowledgement.{Acknowledgement}
use Rattle.jt_terminal_rule.specs.declared.settings.Settings.{Settings}
use Rattle.jt_terminal_rule.specs.Messages.{is_acceptance, header_of, frame_of}
use Rattle.jt_terminal_rule.specs.Steps.{writes}
use Rattle.jt_terminal_rule.specs.Steps as step
use Rattle.jt_terminal_rule.specs.declared.state.State.{State}
use Rattle.jt_terminal_rule.specs.Rule.{Ruled, one_sent, form_unit, send_unit, send_next, or_stays, fill, fill_window, window, and_then, after_acceptance, names}
use Rattle.jt_terminal_rule.specs.Rule as rule
use Rattle.jt_terminal_rule.specs.Machines.{machine_of, is_up, is_live, held_after, Agrees, AreSerials, IsInOrder}
use Rattle.jt_terminal_rule.specs.Law.{AreSteps, UnitCarriesFirstFixes}
use Rattle.jt_terminal_rule.proofs.Numbering.{length-numbered}
use Rattle.jt_terminal_rule.proofs.Composing.{and_then_steps, stays_steps}
use Rattle.jt_terminal_rule.proofs.Forming.{form_steps, with_unit}
use Rattle.jt_terminal_rule.proofs.Accepting.{accept_steps, row_in, serial_back}

most : (n : ℕ) → max n (n + 1) ≡ n + 1
most n = omega arith

drop_at : (units : List OneUnit) (place : ℕ) (u : OneUnit) → slice_get units place ≡ Some u → drop place units ≡ u ∷ drop (suc place) units
drop_at [] place u e = absurd cc
drop_at (v ∷ units) zero u e = let same : v ≡ u = cc in ap (λ (x : OneUnit). x ∷ units) same
drop_at (v ∷ units) (suc place) u e = drop_at units place u e

small_at : (units : List OneUnit) (place : ℕ) (u : OneUnit) → AreSerials units → slice_get units place ≡ Some u → u.serial < 65536
small_at [] place u small e = absurd cc
small_at (v ∷ units) zero u small e = let same : v ≡ u = cc in subst (λ (x : OneUnit). x.serial < 65536) same small.0
small_at (v ∷ units) (suc place) u small e = small_at units place u small.1 e

-- a unit is sent as the machine writes it
pub unit_written : (h : Held) (s : State) (u : OneUnit) (older : ℕ) → IsInOrder s → Agrees h s → slice_get s.units older ≡ Some u → (settings : Settings) → settings.phone ≡ s.settings.phone
    → frame_of (header_of settings.phone u.id u.serial) u.body ≡ writes (machine_of h s) (step.Sends (h.accepted + older))
unit_written h s u older o a there settings own =
    let at : drop (h.accepted + older) h.units ≡ u ∷ drop (suc older) s.units =
    sym (drop-drop older h.accepted h.units) ∙ (ap (drop older) (sym a.units) ∙ drop_at s.units older u there) in
    let row = row_in None h.units (h.accepted + older) u (drop (suc older) s.units) at in
    ap (λ (phone : Phone). frame_of (header_of phone u.id u.serial) u.body) own
    ∙ (ap (λ (serial : ℕ). frame_of (header_of s.settings.phone u.id serial) u.body) (sym (serial_back row.0 u.serial (small_at s.units older u o.serials there)))
    ∙ ap (step.unit_octets s.settings.phone) (sym row.1))

-- the next unit that was not sent on this line is sent
send_steps : (h : Held) (s : State) (serial : ℕ) (u : OneUnit) → s.phase ≡ Live serial → IsInOrder s → Agrees h s → slice_get s.units s.sent ≡ Some u
    → AreSteps (machine_of h s) h None (record { state = one_sent s; steps = rule.Sends s.sent u ∷ []; end = None })
send_steps h s serial u live o a there =
    let within = slice_get_within s.units s.sent u there in
    let long = ap (λ (us : List OneUnit). length us) a.units ∙ length-drop h.accepted h.units in
    let reach : max (h.accepted + s.sent) (h.accepted + s.sent + 1) ≡ h.accepted + (s.sent + 1) = most (h.accepted + s.sent) ∙ omega arith in
    record {
      may = ((ap is_up live, ap is_live live, omega arith, omega arith, omega (arith, within, long, length-numbered None h.units)), tt);
      to = ap (λ (n : ℕ). record (machine_of h s) { reach = n }) reach;
      commits = tt;
      sent = λ settings own. ap (λ (octets : List ℕ). octets ∷ []) (unit_written h s u s.sent o a there settings own);
      in_order = record { order = o.order; serials = o.serials; phase = o.phase; mark = o.mark; next = o.next; sent = omega (arith, within) };
      agrees = record { known = a.known; units = a.units; mark = a.mark; mark_held = a.mark_held; next_small = a.next_small; next_behind = a.next_behind; next_held = a.next_held; fixes = a.fixes; formed = a.formed; are_fixes = a.are_fixes; code = a.code };
    }

-- where one is sent, it is sent by steps, and the terminal stays Live
abbrev GoesOn : Held → State → ℕ → Option Ruled → Type 0
GoesOn h s serial None = Unit {0}
GoesOn h s serial (Some r) = AreSteps (machine_of h s) h None r × (r.state.phase ≡ Live serial)

get_last : (units : List OneUnit) (u : OneUnit) (n : ℕ) → n ≡ length units → slice_get (units ++ u ∷ []) n ≡ Some u
get_last [] u n e = subst (λ (k : ℕ). slice_get (u ∷ []) k ≡ Some u) (sym e) refl
get_last (v ∷ units) u zero e = absurd (omega (arith, e))
get_last (v ∷ units) u (suc n) e = get_last units u n (omega (arith, e))

pub none_is_end : (units : List OneUnit) (n : ℕ) → slice_get units n ≡ None → length units ≤ n
none_is_end [] n e = omega arith
none_is_end (v ∷ units) zero e = absurd cc
none_is_end (v ∷ units) (suc n) e = let le = none_is_end units n e in omega (arith, le)

module _ (carries : UnitCarriesFirstFixes) (serial : ℕ) where
  formed_and_sent : (h : Held) (s : State) → s.phase ≡ Live serial → IsInOrder s → Agrees h s → slice_get s.units s.sent ≡ None
      → (fix : List ℕ) (more : List (List ℕ)) → s.waiting ≡ fix ∷ more → (b : Bool) → nat_lt (gap_of s.mark s.next) 32767 ≡ b
      → GoesOn h s serial (cond b (let unit = unit_of s.next fix (fix ∷ more) in Some (record {
        state = one_sent (record s { units = s.units ++ unit ∷ []; waiting = drop unit.count (fix ∷ more); next = serial_of (s.next + 1) });
        steps = rule.Changes (Forms unit) ∷ rule.Sends s.sent unit ∷ [];
        end = None;
      })) None)
  formed_and_sent h s live o a none fix more waits false e = tt
  formed_and_sent h s live o a none fix more waits true e =
      let u = unit_of s.next fix (fix ∷ more) in
      let s1 = with_unit s u (fix ∷ more) in
      let formed = form_steps carries h s o a fix more waits (ltb-true (gap_of s.mark s.next) 32767 e) in
      let past = none_is_end s.units s.sent none in
      let within = o.sent in
      let there = get_last s.units u s.sent (omega (arith, past, within)) in (
        and_then_steps (machine_of h s) h None (record { state = s1; steps = rule.Changes (Forms u) ∷ []; end = None }) (λ t. record { state = one_sent t; steps = rule.Sends t.sent u ∷ []; end = None }) formed
            (send_steps (held_by (Forms u) h) s1 serial u live formed.in_order formed.agrees there),
        live,
      )

  formed_one : (h : Held) (s : State) → s.phase ≡ Live serial → IsInOrder s → Agrees h s → slice_get s.units s.sent ≡ None
      → (fixes : List (List ℕ)) → s.waiting ≡ fixes → GoesOn h s serial (form_unit s fixes)
  formed_one h s live o a none [] waits = tt
  formed_one h s live o a none (fix ∷ more) waits = formed_and_sent h s live o a none fix more waits (nat_lt (gap_of s.mark s.next) 32767) refl

  sent_one : (h : Held) (s : State) → s.phase ≡ Live serial → IsInOrder s → Agrees h s → (unit : Option OneUnit) → slice_get s.units s.sent ≡ unit → GoesOn h s serial (send_unit s unit)
  sent_one h s live o a None e = formed_one h s live o a e s.waiting refl
  sent_one h s live o a (Some u) e = (send_steps h s serial u live o a e, live)

  tested : (h : Held) (s : State) (b : Bool) (r : Option Ruled) → GoesOn h s serial r → GoesOn h s serial (cond b r None)
  tested h s true r goes = goes
  tested h s false r goes = tt

  goes_on : (h : Held) (s : State) → s.phase ≡ Live serial → IsInOrder s → Agrees h s → GoesOn h s serial (send_next s)
  goes_on h s live o a = tested h s (nat_lt s.sent window) (send_unit s (slice_get s.units s.sent)) (sent_one h s live o a (slice_get s.units s.sent) refl)

  pub fill_steps : (n : ℕ) (h : Held) (s : State) → s.phase ≡ Live serial → IsInOrder s → Agrees h s → AreSteps (machine_of h s) h None (fill n s)
  fill_steps zero h s live o a = stays_steps h s None o a
  fill_steps (suc n) h s live o a = filled (send_next s) (goes_on h s live o a) (fill_steps n)
    where
      filled : (r : Option Ruled) → GoesOn h s serial r → ((held : Held) (t : State) → t.phase ≡ Live serial → IsInOrder t → Agrees held t → AreSteps (machine_of held t) held None (fill n t)) → AreSteps (machine_of h s) h None (or_stays s r (fill n))
      filled None goes rest = stays_steps h s None o a
      filled (Some r) goes rest = and_then_steps (machine_of h s) h None r (fill n) goes.0 (rest (held_after r.steps h) r.state goes.1 goes.0.in_order goes.0.agrees)

pub window_steps : UnitCarriesFirstFixes → (h : Held) (s : State) (serial : ℕ) → s.phase ≡ Live serial → IsInOrder s → Agrees h s → AreSteps (machine_of h s) h None (fill_window s)
window_steps carries h s serial live o a = fill_steps carries serial window h s live o a

pub acceptance_steps : UnitCarriesFirstFixes → (h : Held) (s : State) (serial : ℕ) (u : OneUnit) (more : List OneUnit) (ack : Acknowledgement) → s.phase ≡ Live serial → IsInOrder s → Agrees h s
    → s.units ≡ u ∷ more → 0 < s.sent → IsTrue (names ack u) → IsTrue (is_acceptance ack) → AreSteps (machine_of h s) h (Some ack) (rule.accept_oldest s u more)
acceptance_steps carries h s serial u more ack live o a is some named accepting =
    let one = accept_steps h s serial u more ack live o a is some named accepting in
    and_then_steps (machine_of h s) h (Some ack) (record { state = after_acceptance s u more; steps = rule.Changes Accepts ∷ []; end = None }) fill_window one
    (fill_steps carries serial window (held_by Accepts h) (after_acceptance s u more) live one.in_order one.agrees)
