-- Control messages and the end of a line are steps of the machine.
use Rattle.std.proofs.Common.{ℕ, ◌≡◌, ◌<◌, ◌≤◌, ◌+◌, ◌^◌, List, [], ◌∷◌, ◌++◌, length, Option, Some, None, Bool, true, false, cond, refl, ap, ◌∙◌, arith, inl, inr}
use Rattle.std.specs.Prelude.{nat_lt, IfSome}
use Rattle.std.specs.Option.{unwrap_or}
use Rattle.std.specs.Int.{w8, w16, to_be_bytes}
use Rattle.std.proofs.lemmas.Bool.{ltb-true}
use Rattle.std.proofs.lemmas.List.{length-append}
use Rattle.jt_value.specs.Serials.{gap_of, serial_of}
use Rattle.jt_value.specs.declared.phone.Edition.{Edition}
use Rattle.jt_value.specs.declared.phone.Edition.TheVariants.{E2013, E2019}
use Rattle.jt_value.specs.Octets.{AreOctets}
use Rattle.jt_header.specs.Content.{IsHeader, IsVersion}
use Rattle.jt_layout.specs.Layout.{number, octets_of, rest}
use Rattle.jt_register.specs.Registration.{register, auth, auth_2013, auth_2019, auth_tail, maker_len, model_len, terminal_len}
use Rattle.jt_register.specs.declared.auth.AuthTail.{AuthTail}
use Rattle.jt_store.specs.Vaults.{Held, Sets, held_by}
use Rattle.jt_terminal_rule.specs.declared.settings.Settings.{Settings}
use Rattle.jt_terminal_rule.specs.declared.state.GiveUp.{GiveUp}
use Rattle.jt_terminal_rule.specs.declared.state.Phase.{Phase}
use Rattle.jt_terminal_rule.specs.declared.state.Phase.TheVariants.{Down, Registering, Authenticating, Live}
use Rattle.jt_terminal_rule.specs.declared.state.Acknowledgement.{Acknowledgement}
use Rattle.jt_terminal_rule.specs.Tails.{IsTail}
use Rattle.jt_terminal_rule.specs.Messages.{AreSettings, version_of, header_of, register_octets, auth_octets}
use Rattle.jt_terminal_rule.specs.Steps.{Machine, MaySay, machine_after, without_line, auths_by, is_in}
use Rattle.jt_terminal_rule.specs.Steps as step
use Rattle.jt_terminal_rule.specs.declared.state.State.{State}
use Rattle.jt_terminal_rule.specs.declared.state.Wait.{Wait}
use Rattle.jt_terminal_rule.specs.Rule.{Ruled, after_control, down, first_wait, say_heartbeat, registers, authenticates, introduce, on_open, gives_up}
use Rattle.jt_terminal_rule.specs.Rule as rule
use Rattle.jt_terminal_rule.specs.Machines.{machine_of, IsPhase, IsInOrder, Agrees}
use Rattle.jt_terminal_rule.specs.Law.{AreSteps}

-- ---- states with the same lists

pub keep_order : (s : State) (p : Phase) (time : ℕ) (w : Wait) (said sent : ℕ) → IsPhase p → sent ≤ length s.units → IsInOrder s → IsInOrder (record s { phase = p; time = time; wait = w; said = said; sent = sent })
keep_order s p time w said sent is le o = record { order = o.order; serials = o.serials; phase = is; mark = o.mark; next = o.next; sent = le }

pub keep_agrees : (h : Held) (s : State) (p : Phase) (time : ℕ) (w : Wait) (said sent : ℕ) → Agrees h s → Agrees h (record s { phase = p; time = time; wait = w; said = said; sent = sent })
keep_agrees h s p time w said sent a = record { known = a.known; units = a.units; mark = a.mark; mark_held = a.mark_held; next_small = a.next_small; next_behind = a.next_behind; next_held = a.next_held; fixes = a.fixes; formed = a.formed; are_fixes = a.are_fixes; code = a.code }

moved_on : (mark next : ℕ) → mark < 65536 → next < 65536 → gap_of mark next < 32766 → gap_of mark (serial_of (next + 1)) ≡ gap_of mark next + 1
moved_on mark next a b lt = omega arith

-- the serial behind a control message
next_of : (s : State) → IsInOrder s → (after_control s < 65536) × (gap_of s.mark s.next ≤ gap_of s.mark (after_control s)) × (gap_of s.mark (after_control s) ≤ 32767)
next_of s o = by_test (nat_lt (gap_of s.mark s.next) 32766) refl
  where
    by_test : (b : Bool) → nat_lt (gap_of s.mark s.next) 32766 ≡ b → let n = cond b (serial_of (s.next + 1)) s.next in (n < 65536) × (gap_of s.mark s.next ≤ gap_of s.mark n) × (gap_of s.mark n ≤ 32767)
    by_test true e = let lt = ltb-true (gap_of s.mark s.next) 32766 e in let is = moved_on s.mark s.next o.mark o.next lt in (omega arith, omega (arith, is), omega (arith, is, lt))
    by_test false e = (o.next, omega arith, o.order.near)

abbrev pub spoken : State → Phase → Wait → State
spoken s p w = record s { phase = p; wait = w; said = s.time; next = after_control s }

pub spoken_order : (s : State) (p : Phase) (w : Wait) → IsPhase p → IsInOrder s → IsInOrder (spoken s p w)
spoken_order s p w is o =
    let n = next_of s o in
    let behind = o.order.behind in
    let more = n.1 in
    record { order = record { gaps = o.order.gaps; behind = omega (arith, behind, more); near = n.2; short = o.order.short }; serials = o.serials; phase = is; mark = o.mark; next = n.0; sent = o.sent }

pub spoken_agrees : (h : Held) (s : State) (p : Phase) (w : Wait) → IsInOrder s → Agrees h s → Agrees h (spoken s p w)
spoken_agrees h s p w o a =
    let n = next_of s o in
    let le = a.next_held in
    let more = n.1 in
    record { known = a.known; units = a.units; mark = a.mark; mark_held = a.mark_held; next_small = a.next_small; next_behind = a.next_behind; next_held = omega (arith, le, more); fixes = a.fixes; formed = a.formed; are_fixes = a.are_fixes; code = a.code }

-- ---- headers and bodies

version_is : (edition : Edition) → IsVersion edition (version_of edition)
version_is E2013 = refl
version_is E2019 = omega arith

pub good_header : (settings : Settings) (id serial : ℕ) → AreSettings settings → id < 65536 → serial < 65536 → IsHeader (header_of settings.phone id serial)
good_header settings id serial good small lt = record { id = small; version = version_is settings.phone.edition; phone_edition = refl; phone = good.phone; serial = lt; packet = tt }

maker_most : (edition : Edition) → maker_len edition ≤ 11
maker_most E2013 = omega arith
maker_most E2019 = omega arith

model_most : (edition : Edition) → model_len edition ≤ 30
model_most E2013 = omega arith
model_most E2019 = omega arith

terminal_most : (edition : Edition) → terminal_len edition ≤ 30
terminal_most E2013 = omega arith
terminal_most E2019 = omega arith

six : (a b c d e f g : List ℕ) → length (a ++ (b ++ (c ++ (d ++ (e ++ (f ++ g)))))) ≡ length a + (length b + (length c + (length d + (length e + (length f + length g)))))
six a b c d e f g = omega (arith, length-append a (b ++ (c ++ (d ++ (e ++ (f ++ g))))), length-append b (c ++ (d ++ (e ++ (f ++ g)))), length-append c (d ++ (e ++ (f ++ g))), length-append d (e ++ (f ++ g)), length-append e (f ++ g), length-append f g)

pub register_short : (settings : Settings) → AreSettings settings → length (register_octets settings) < 2 ^ 10
unfolding register number octets_of rest
register_short settings good =
    let r = settings.register in
    let fits = good.register in
    let maker = fits.1.1.0.0 in
    let model = fits.1.1.1.0.0 in
    let terminal = fits.1.1.1.1.0.0 in
    let plate = good.plate in
    let len = six (to_be_bytes w16 r.province) (to_be_bytes w16 r.city) r.maker r.model r.terminal (to_be_bytes w8 r.colour) r.plate in
    let two : length (to_be_bytes w16 r.province) ≡ 2 = refl in
    let again : length (to_be_bytes w16 r.city) ≡ 2 = refl in
    let one : length (to_be_bytes w8 r.colour) ≡ 1 = refl in
    omega (arith, len, maker, model, terminal, plate, two, again, one, maker_most settings.phone.edition, model_most settings.phone.edition, terminal_most settings.phone.edition)

three : (a b c d : List ℕ) → length ((a ++ b) ++ (c ++ d)) ≡ (length a + length b) + (length c + length d)
three a b c d = omega (arith, length-append (a ++ b) (c ++ d), length-append a b, length-append c d)

auth_by : (edition : Edition) (tail : Option AuthTail) (code : List ℕ) → IsTail edition tail → length code ≤ 255 → length ((auth edition).spell (record { code = code; tail = tail })) < 2 ^ 10
unfolding auth_2013 auth_2019 auth_tail number octets_of rest
auth_by E2013 None code is le = omega (arith, le)
auth_by E2013 (Some tail) code is le = omega arith
auth_by E2019 None code is le = omega arith
auth_by E2019 (Some tail) code is le =
    let imei = is.0.0 in
    let software = is.1.0 in
    let one : length (to_be_bytes w8 (length code)) ≡ 1 = refl in
    omega (arith, three (to_be_bytes w8 (length code)) code tail.imei tail.software, imei, software, one, le)

-- an authentication with octets as its code, at most 255, has octets
pub auth_fits : (edition : Edition) (tail : Option AuthTail) (code : List ℕ) → IsTail edition tail → AreOctets code → length code ≤ 255 → (auth edition).Fits (record { code = code; tail = tail })
unfolding auth_2013 auth_2019 auth_tail number octets_of rest
auth_fits E2013 None code is are le = are
auth_fits E2013 (Some tail) code is are le = absurd cc
auth_fits E2019 None code is are le = absurd is
auth_fits E2019 (Some tail) code is are le = ((omega (arith, le), (refl, are)), is)

pub auth_short : (settings : Settings) (code : List ℕ) → AreSettings settings → length code ≤ 255 → length (auth_octets settings code) < 2 ^ 10
auth_short settings code good le = auth_by settings.phone.edition settings.tail code good.tail le

-- a stored code is short, and so is none
pub code_short : (code : Option (List ℕ)) → IfSome code (λ octets. length octets ≤ 255) → length (unwrap_or code []) ≤ 255
code_short None le = omega arith
code_short (Some code) le = le

-- ---- messages before the terminal is ready

pub say_register : (m : Machine) (settings : Settings) (serial : ℕ) → AreSettings settings → settings.phone ≡ m.phone → serial < 65536 → MaySay m (header_of settings.phone 0x0100 serial) (register_octets settings)
say_register m settings serial good own lt = record {
  header = good_header settings 0x0100 serial good (omega arith) lt;
  short = register_short settings good;
  own = own;
  no_unit = (λ e. omega (arith, e), λ e. omega (arith, e));
  no_deregistration = λ e. omega (arith, e);
  before = λ _. inl refl;
  after = λ e. absurd (omega (arith, e));
}

pub say_auth : (m : Machine) (settings : Settings) (serial : ℕ) (code : List ℕ) → AreSettings settings → settings.phone ≡ m.phone → serial < 65536 → length code ≤ 255 → m.ready ≡ false → MaySay m (header_of settings.phone 0x0102 serial) (auth_octets settings code)
say_auth m settings serial code good own lt le early = record {
  header = good_header settings 0x0102 serial good (omega arith) lt;
  short = auth_short settings code good le;
  own = own;
  no_unit = (λ e. omega (arith, e), λ e. omega (arith, e));
  no_deregistration = λ e. omega (arith, e);
  before = λ _. inr refl;
  after = λ _. early;
}

no_more : (n : ℕ) → n ≡ n + 0
no_more n = omega arith

-- ---- rules

-- the state in this phase
abbrev pub at : State → Phase → State
at s p = record s { phase = p }

pub opened_steps : (h : Held) (s : State) → AreSettings s.settings → IsInOrder s → Agrees h s → AreSteps (machine_of h s) h None (on_open s)
opened_steps h s good o a = by_code s.code o.order.short
  where
    o0 : IsInOrder (record s { sent = 0 })
    o0 = keep_order s s.phase s.time s.wait s.said 0 o.phase (omega arith) o

    a0 : Agrees h (record s { sent = 0 })
    a0 = keep_agrees h s s.phase s.time s.wait s.said 0 a

    by_code : (code : Option (List ℕ)) → IfSome code (λ octets. length octets ≤ 255) → AreSteps (machine_of h s) h None (rule.and_then (record { state = record s { sent = 0 }; steps = rule.Opens ∷ []; end = None }) (λ t. introduce t code))
    by_code None le = record {
      may = (tt, ((refl, say_register (machine_after (machine_of h s) step.Opens) s.settings s.next good refl o.next), tt));
      to = ap (λ (n : ℕ). record (machine_of h (spoken (record s { sent = 0 }) (Registering s.next) (first_wait s))) { reach = n }) (no_more h.accepted);
      commits = tt;
      sent = λ settings own. refl;
      in_order = spoken_order (record s { sent = 0 }) (Registering s.next) (first_wait s) o.next o0;
      agrees = spoken_agrees h (record s { sent = 0 }) (Registering s.next) (first_wait s) o0 a0;
    }
    by_code (Some code) le = record {
      may = (tt, ((refl, say_auth (machine_after (machine_of h s) step.Opens) s.settings s.next code good refl o.next le refl), tt));
      to = ap (λ (n : ℕ). record (machine_of h (spoken (record s { sent = 0 }) (Authenticating s.next) (first_wait s))) { reach = n }) (no_more h.accepted);
      commits = tt;
      sent = λ settings own. refl;
      in_order = spoken_order (record s { sent = 0 }) (Authenticating s.next) (first_wait s) o.next o0;
      agrees = spoken_agrees h (record s { sent = 0 }) (Authenticating s.next) (first_wait s) o0 a0;
    }

-- a terminal that registers goes on to authenticate itself
pub authenticates_steps : (h : Held) (s : State) (serial : ℕ) (code : List ℕ) → AreSettings s.settings → IsInOrder (at s (Registering serial)) → Agrees h (at s (Registering serial)) → length code ≤ 255
    → AreSteps (machine_of h (at s (Registering serial))) h None (authenticates (at s (Registering serial)) code)
authenticates_steps h s serial code good o a le = record {
  may = ((refl, say_auth (machine_of h (at s (Registering serial))) s.settings s.next code good refl o.next le refl), tt);
  to = refl;
  commits = tt;
  sent = λ settings own. refl;
  in_order = spoken_order (at s (Registering serial)) (Authenticating s.next) (first_wait s) o.next o;
  agrees = spoken_agrees h (at s (Registering serial)) (Authenticating s.next) (first_wait s) o a;
}

pub beat_steps : (h : Held) (s : State) (serial : ℕ) → AreSettings s.settings → IsInOrder (at s (Live serial)) → Agrees h (at s (Live serial)) → AreSteps (machine_of h (at s (Live serial))) h None (say_heartbeat (at s (Live serial)))
beat_steps h s serial good o a = record {
  may = (
    (
      refl,
      record {
        header = good_header s.settings 0x0002 s.next good (omega arith) o.next;
        short = omega arith;
        own = refl;
        no_unit = (λ e. omega (arith, e), λ e. omega (arith, e));
        no_deregistration = λ e. omega (arith, e);
        before = λ e. absurd cc;
        after = λ e. absurd (omega (arith, e));
      },
    ),
    tt,
  );
  to = refl;
  commits = tt;
  sent = λ settings own. refl;
  in_order = spoken_order (at s (Live serial)) (Live serial) s.wait o.phase o;
  agrees = spoken_agrees h (at s (Live serial)) (Live serial) s.wait o a;
}

pub down_order : (s : State) → IsInOrder s → IsInOrder (down s)
down_order s o = keep_order s Down s.time s.wait s.said 0 tt (omega arith) o

pub down_agrees : (h : Held) (s : State) → Agrees h s → Agrees h (down s)
down_agrees h s a = keep_agrees h s Down s.time s.wait s.said 0 a

-- the line is not in use any more
pub lost_steps : (m : Machine) (h : Held) (s : State) (just : Option Acknowledgement) (cause : Option GiveUp) → without_line m ≡ without_line (machine_of h s) → IsInOrder s → Agrees h s
    → AreSteps m h just (record { state = down s; steps = rule.Loses ∷ []; end = cause })
lost_steps m h s just cause same o a = record {
  may = (tt, tt);
  to = same ∙ ap (λ (n : ℕ). record (machine_of h (down s)) { reach = n }) (no_more h.accepted);
  commits = tt;
  sent = λ settings own. refl;
  in_order = down_order s o;
  agrees = down_agrees h s a;
}

-- the code is removed, and the line is not in use any more
pub denied_steps : (m : Machine) (h : Held) (s : State) (just : Option Acknowledgement) (cause : Option GiveUp) → without_line m ≡ without_line (machine_of h s) → IsInOrder s → Agrees h s
    → AreSteps m h just (record { state = down (record s { code = None }); steps = rule.Changes (Sets None) ∷ rule.Loses ∷ []; end = cause })
denied_steps m h s just cause same o a = record {
  may = (tt, (tt, tt));
  to = ap (λ (n : Machine). record n { code = None }) same ∙ ap (λ (n : ℕ). record (machine_of (held_by (Sets None) h) (down (record s { code = None }))) { reach = n }) (no_more h.accepted);
  commits = (tt, tt);
  sent = λ settings own. refl;
  in_order = record { order = record { gaps = o.order.gaps; behind = o.order.behind; near = o.order.near; short = tt }; serials = o.serials; phase = tt; mark = o.mark; next = o.next; sent = omega arith };
  agrees = record { known = a.known; units = a.units; mark = a.mark; mark_held = a.mark_held; next_small = a.next_small; next_behind = a.next_behind; next_held = a.next_held; fixes = a.fixes; formed = a.formed; are_fixes = a.are_fixes; code = refl };
}

-- the code is stored while the terminal registers
pub sets_steps : (h : Held) (s : State) (code : List ℕ) → IsInOrder s → Agrees h s → length code ≤ 255
    → AreSteps (machine_of h s) h None (record { state = record s { code = Some code }; steps = rule.Changes (Sets (Some code)) ∷ []; end = None })
sets_steps h s code o a le = record {
  may = (tt, tt);
  to = refl;
  commits = (le, tt);
  sent = λ settings own. refl;
  in_order = record { order = record { gaps = o.order.gaps; behind = o.order.behind; near = o.order.near; short = le }; serials = o.serials; phase = o.phase; mark = o.mark; next = o.next; sent = o.sent };
  agrees = record { known = a.known; units = a.units; mark = a.mark; mark_held = a.mark_held; next_small = a.next_small; next_behind = a.next_behind; next_held = a.next_held; fixes = a.fixes; formed = a.formed; are_fixes = a.are_fixes; code = refl };
}
