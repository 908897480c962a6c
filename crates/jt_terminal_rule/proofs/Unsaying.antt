-- What a terminal says while it fills its window, it has not to say afterwards.
use Rattle.std.proofs.Common.{ℕ, zero, suc, ◌≡◌, ◌<◌, ◌≤◌, ◌+◌, List, [], ◌∷◌, ◌++◌, length, drop, slice_get, Option, Some, None, Bool, true, false, cond, refl, ap, ◌∙◌, arith}
use Rattle.std.specs.Prelude.{nat_lt, nat_le, ◌==◌, ◌&&◌}
use Rattle.std.proofs.lemmas.Bool.{leb-true, ltb-true}
use Rattle.std.proofs.lemmas.List.{length-append, length-drop}
use Rattle.std.proofs.lemmas.Option.{slice_get_within}
use Rattle.jt_value.specs.Serials.{gap_of, serial_of}
use Rattle.jt_register.specs.declared.reply.RegisterReply.{RegisterReply}
use Rattle.jt_codec.specs.declared.message.Message.TheVariants as message
use Rattle.jt_codec.specs.Bodies.{body_octets}
use Rattle.jt_store.specs.declared.unit.Unit.{Unit as OneUnit}
use Rattle.jt_store.specs.Vaults.{Forms}
use Rattle.jt_terminal_rule.specs.declared.settings.Settings.{Settings}
use Rattle.jt_terminal_rule.specs.declared.state.State.{State}
use Rattle.jt_terminal_rule.specs.declared.state.Acknowledgement.{Acknowledgement}
use Rattle.jt_terminal_rule.specs.declared.state.Phase.{Phase}
use Rattle.jt_terminal_rule.specs.declared.state.Phase.TheVariants.{Down, Registering, Authenticating, Live}
use Rattle.jt_terminal_rule.specs.declared.state.GiveUp.TheVariants.{Denied}
use Rattle.jt_terminal_rule.specs.Forming.{batch_unit, fitting, position_unit, unit_of}
use Rattle.jt_terminal_rule.specs.Messages.{is_acceptance}
use Rattle.jt_terminal_rule.specs.Rule.{Ruled, accept_oldest, and_then, on_unit_response, answers, answer_if_live, on_auth_response, store_code, fill, fill_window, forget_code, form_unit, gives_up, is_registered, names, send_next, one_sent, or_stays, on_register_reply, take_reply, on_response, sends, send_unit, stays, window}
use Rattle.jt_terminal_rule.specs.Rule as rule
use Rattle.jt_terminal_rule.specs.Unsaid.{EachFrameIsOneLess, frames_in, unsaid, unsaid_in, unsent}
use Rattle.jt_terminal_rule.specs.Answers.{Answer, answer_to, only_says}
use Rattle.jt_terminal_rule.proofs.Answering.{answers_lists, answers_phase, answers_sent}
use Rattle.jt_terminal_rule.proofs.Speaking.{at}
use Rattle.jt_terminal_rule.proofs.Composing.{sends_append}

-- ---- the window

pub record SaysLess (settings : Settings) (s : State) (r : Ruled) : Type 0 where
  pub less : length (sends settings r.steps) + unsent r.state ≤ unsent s
  pub within : r.state.sent ≤ length r.state.units

abbrev SaysLessIf : Settings → State → Option Ruled → Type 0
SaysLessIf settings s None = Unit {0}
SaysLessIf settings s (Some r) = SaysLess settings s r

unit_some : (serial : ℕ) (fix : List ℕ) (fixes : List (List ℕ)) → 1 ≤ (unit_of serial fix fixes).count
unit_some serial fix fixes = by (nat_le 2 (fitting fixes)) refl
  where
    by : (b : Bool) → nat_le 2 (fitting fixes) ≡ b → 1 ≤ (cond b (batch_unit serial fixes (fitting fixes)) (position_unit serial fix)).count
    by true e = let le = leb-true 2 (fitting fixes) e in omega (arith, le)
    by false e = omega arith

module _ (settings : Settings) where
  formed_says : (s : State) (fix : List ℕ) (more : List (List ℕ)) → s.waiting ≡ fix ∷ more → s.sent ≤ length s.units → (b : Bool)
      → SaysLessIf settings s (cond b (let unit = unit_of s.next fix (fix ∷ more) in Some (record {
        state = one_sent (record s { units = s.units ++ unit ∷ []; waiting = drop unit.count (fix ∷ more); next = serial_of (s.next + 1) });
        steps = rule.Changes (Forms unit) ∷ rule.Sends s.sent unit ∷ [];
        end = None;
      })) None)
  formed_says s fix more waits le false = tt
  formed_says s fix more waits le true =
      let unit = unit_of s.next fix (fix ∷ more) in
      let some = unit_some s.next fix (fix ∷ more) in
      let longer = length-append s.units (unit ∷ []) in
      let left = length-drop unit.count (fix ∷ more) in
      let there = ap (λ (fs : List (List ℕ)). length fs) waits in
      record { less = omega (arith, some, longer, left, there, le); within = omega (arith, longer, le) }

  forms_says : (s : State) (fixes : List (List ℕ)) → s.waiting ≡ fixes → s.sent ≤ length s.units → SaysLessIf settings s (form_unit s fixes)
  forms_says s [] waits le = tt
  forms_says s (fix ∷ more) waits le = formed_says s fix more waits le (nat_lt (gap_of s.mark s.next) 32767)

  one_says : (s : State) (unit : Option OneUnit) → slice_get s.units s.sent ≡ unit → s.sent ≤ length s.units → SaysLessIf settings s (send_unit s unit)
  one_says s None e le = forms_says s s.waiting refl le
  one_says s (Some u) e le = let inside = slice_get_within s.units s.sent u e in record { less = omega (arith, inside); within = omega (arith, inside) }

  next_says : (s : State) → s.sent ≤ length s.units → SaysLessIf settings s (send_next s)
  next_says s le = by (nat_lt s.sent window)
    where
      by : (b : Bool) → SaysLessIf settings s (cond b (send_unit s (slice_get s.units s.sent)) None)
      by true = one_says s (slice_get s.units s.sent) refl le
      by false = tt

  fill_says : (n : ℕ) (s : State) → s.sent ≤ length s.units → SaysLess settings s (fill n s)
  fill_says zero s le = record { less = omega arith; within = le }
  fill_says (suc n) s le = by (send_next s) (next_says s le) (λ t le. fill_says n t le)
    where
      by : (r : Option Ruled) → SaysLessIf settings s r → ((t : State) → t.sent ≤ length t.units → SaysLess settings t (fill n t)) → SaysLess settings s (or_stays s r (fill n))
      by None one rest = record { less = omega arith; within = le }
      by (Some r) one rest =
          let more = rest r.state one.within in
          let first = one.less in
          let then_less = more.less in
          let both = ap (λ (fs : List (List ℕ)). length fs) (sends_append settings r.steps (fill n r.state).steps) ∙ length-append (sends settings r.steps) (sends settings (fill n r.state).steps) in
          record { less = omega (arith, both, first, then_less); within = more.within }

  -- ---- phases

  -- what a Live terminal may still say after it filled its window
  abbrev PhaseIf : ℕ → Option Ruled → Type 0
  PhaseIf serial None = Unit {0}
  PhaseIf serial (Some r) = r.state.phase ≡ Live serial

  forms_phase : (s : State) (serial : ℕ) → s.phase ≡ Live serial → (fix : List ℕ) (more : List (List ℕ)) (b : Bool)
      → PhaseIf serial (cond b (let unit = unit_of s.next fix (fix ∷ more) in Some (record {
        state = one_sent (record s { units = s.units ++ unit ∷ []; waiting = drop unit.count (fix ∷ more); next = serial_of (s.next + 1) });
        steps = rule.Changes (Forms unit) ∷ rule.Sends s.sent unit ∷ [];
        end = None;
      })) None)
  forms_phase s serial live fix more true = live
  forms_phase s serial live fix more false = tt

  waiting_phase : (s : State) (serial : ℕ) → s.phase ≡ Live serial → (fixes : List (List ℕ)) → PhaseIf serial (form_unit s fixes)
  waiting_phase s serial live [] = tt
  waiting_phase s serial live (fix ∷ more) = forms_phase s serial live fix more (nat_lt (gap_of s.mark s.next) 32767)

  sends_phase : (s : State) (serial : ℕ) → s.phase ≡ Live serial → (unit : Option OneUnit) → PhaseIf serial (send_unit s unit)
  sends_phase s serial live None = waiting_phase s serial live s.waiting
  sends_phase s serial live (Some u) = live

  next_phase : (s : State) (serial : ℕ) → s.phase ≡ Live serial → PhaseIf serial (send_next s)
  next_phase s serial live = by (nat_lt s.sent window)
    where
      by : (b : Bool) → PhaseIf serial (cond b (send_unit s (slice_get s.units s.sent)) None)
      by true = sends_phase s serial live (slice_get s.units s.sent)
      by false = tt

  fill_phase : (n : ℕ) (s : State) (serial : ℕ) → s.phase ≡ Live serial → (fill n s).state.phase ≡ Live serial
  fill_phase zero s serial live = live
  fill_phase (suc n) s serial live = by (send_next s) (next_phase s serial live) (λ t on. fill_phase n t serial on)
    where
      by : (r : Option Ruled) → PhaseIf serial r → ((t : State) → t.phase ≡ Live serial → (fill n t).state.phase ≡ Live serial) → (or_stays s r (fill n)).state.phase ≡ Live serial
      by None one rest = live
      by (Some r) one rest = rest r.state one

  abbrev LessAt : State → ℕ → Ruled → Type 0
  LessAt s most r = length (sends settings r.steps) + unsaid r.state ≤ most

  fills_less : (s : State) (serial : ℕ) → s.phase ≡ Live serial → s.sent ≤ length s.units → LessAt s (unsent s) (fill_window s)
  fills_less s serial live le =
      let says = (fill_says window s le).less in
      let same : unsaid (fill_window s).state ≡ unsent (fill_window s).state = ap (λ (p : Phase). unsaid_in p (fill_window s).state) (fill_phase window s serial live) in
      omega (arith, says, same)

  none_less : (most : ℕ) → 0 + 0 ≤ most
  none_less most = omega arith

  stays_less : (s : State) → LessAt s (unsaid s) (stays s)
  stays_less s = omega arith

  coded_less : (s : State) (code : List ℕ) → LessAt s (1 + unsent s) (store_code s code)
  coded_less s code = omega arith

  replied_less : (s : State) (serial : ℕ) (reply : RegisterReply) (octets : List ℕ) → LessAt (at s (Registering serial)) (1 + unsent s) (take_reply (at s (Registering serial)) reply octets)
  replied_less s serial reply octets = by (is_registered reply)
    where
      by : (b : Bool) → LessAt (at s (Registering serial)) (1 + unsent s) (cond b (store_code (at s (Registering serial)) reply.code) (gives_up (at s (Registering serial)) [] (Denied octets)))
      by true = coded_less (at s (Registering serial)) reply.code
      by false = omega arith

  registered_less : (s : State) (p : Phase) (reply : RegisterReply) (octets : List ℕ) → s.sent ≤ length s.units → LessAt (at s p) (unsaid (at s p)) (on_register_reply p (at s p) reply octets)
  registered_less s Down reply octets le = stays_less (at s Down)
  registered_less s (Authenticating serial) reply octets le = stays_less (at s (Authenticating serial))
  registered_less s (Live serial) reply octets le = fills_less (at s (Live serial)) serial refl le
  registered_less s (Registering serial) reply octets le = by (reply.reply == serial)
    where
      by : (b : Bool) → LessAt (at s (Registering serial)) (1 + unsent s) (cond b (take_reply (at s (Registering serial)) reply octets) (stays (at s (Registering serial))))
      by true = replied_less s serial reply octets
      by false = stays_less (at s (Registering serial))

  authenticated_less : (s : State) (serial result : ℕ) (octets : List ℕ) → s.sent ≤ length s.units → LessAt (at s (Authenticating serial)) (unsent s) (on_auth_response (at s (Authenticating serial)) serial result octets)
  authenticated_less s serial result octets le = by (result == 0)
    where
      by : (b : Bool) → LessAt (at s (Authenticating serial)) (unsent s) (cond b (fill_window (at s (Live serial))) (forget_code (at s (Authenticating serial)) octets))
      by true = fills_less (at s (Live serial)) serial refl le
      by false = omega arith

  accepts_less : (s : State) (serial : ℕ) (u : OneUnit) (more : List OneUnit) → s.units ≡ u ∷ more → 0 < s.sent → s.sent ≤ length s.units → LessAt (at s (Live serial)) (unsent s) (accept_oldest (at s (Live serial)) u more)
  accepts_less s serial u more is some le =
      let len = ap (λ (us : List OneUnit). length us) is in
      let t = rule.after_acceptance (at s (Live serial)) u more in
      let rest = fills_less t serial refl (omega (arith, len, some, le)) in
      omega (arith, rest, len, some, le)

  and_left : (a b : Bool) → (a && b) ≡ true → a ≡ true
  and_left true b e = refl
  and_left false b e = absurd cc

  answered_less : (s : State) (serial : ℕ) (units : List OneUnit) (ack : Acknowledgement) (octets : List ℕ) → s.units ≡ units → s.sent ≤ length s.units → LessAt (at s (Live serial)) (unsent s) (on_unit_response (at s (Live serial)) units ack octets)
  answered_less s serial [] ack octets is le = fills_less (at s (Live serial)) serial refl le
  answered_less s serial (u ∷ more) ack octets is le = by (nat_lt 0 s.sent && names ack u) refl
    where
      accepted_or_not : (c : Bool) → (nat_lt 0 s.sent && names ack u) ≡ true → LessAt (at s (Live serial)) (unsent s) (cond c (accept_oldest (at s (Live serial)) u more) (gives_up (at s (Live serial)) [] (Denied octets)))
      accepted_or_not true e = accepts_less s serial u more is (ltb-true 0 s.sent (and_left (nat_lt 0 s.sent) (names ack u) e)) le
      accepted_or_not false e = omega arith

      by : (b : Bool) → (nat_lt 0 s.sent && names ack u) ≡ b → LessAt (at s (Live serial)) (unsent s) (cond b (cond (is_acceptance ack) (accept_oldest (at s (Live serial)) u more) (gives_up (at s (Live serial)) [] (Denied octets))) (fill_window (at s (Live serial))))
      by true e = accepted_or_not (is_acceptance ack) e
      by false e = fills_less (at s (Live serial)) serial refl le

  responded_less : (s : State) (p : Phase) (ack : Acknowledgement) (octets : List ℕ) → s.sent ≤ length s.units → LessAt (at s p) (unsaid (at s p)) (on_response p (at s p) ack octets)
  responded_less s Down ack octets le = stays_less (at s Down)
  responded_less s (Registering serial) ack octets le = stays_less (at s (Registering serial))
  responded_less s (Authenticating serial) ack octets le = by ((ack.id == 0x0102) && (ack.reply == serial))
    where
      by : (b : Bool) → LessAt (at s (Authenticating serial)) (unsent s) (cond b (on_auth_response (at s (Authenticating serial)) serial ack.result octets) (stays (at s (Authenticating serial))))
      by true = authenticated_less s serial ack.result octets le
      by false = stays_less (at s (Authenticating serial))
  responded_less s (Live serial) ack octets le = answered_less s serial s.units ack octets refl le

  more_room : (a b : ℕ) (r : Ruled) (s : State) → LessAt s a r → LessAt s (b + a) r
  more_room a b r s le = omega (arith, le)

  answers_less : (s : State) (serial : ℕ) (a : Answer) → s.sent ≤ length s.units
      → LessAt (at s (Live serial)) (length (sends settings (answers (at s (Live serial)) a).steps) + unsent s) (and_then (answers (at s (Live serial)) a) fill_window)
  answers_less s serial a le =
      let r = answers (at s (Live serial)) a in
      let lists = answers_lists (at s (Live serial)) a in
      let sent = answers_sent (at s (Live serial)) a in
      let units = ap (λ (us : List OneUnit). length us) lists.0 in
      let waiting = ap (λ (fs : List (List ℕ)). length fs) lists.1 in
      let rest = fills_less r.state serial (answers_phase (at s (Live serial)) a) (omega (arith, sent, units, le)) in
      let both = ap (λ (fs : List (List ℕ)). length fs) (sends_append settings r.steps (fill_window r.state).steps) ∙ length-append (sends settings r.steps) (sends settings (fill_window r.state).steps) in
      omega (arith, both, rest, sent, units, waiting)

-- ---- answers

live_or_not : (s : State) (p : Phase) (a : Answer) → s.sent ≤ length s.units → LessAt s.settings (at s p) (frames_in p (at s p) a + unsaid (at s p)) (answer_if_live p (at s p) a)
live_or_not s Down a le = more_room s.settings (unsaid (at s Down)) 0 (stays (at s Down)) (at s Down) (stays_less s.settings (at s Down))
live_or_not s (Registering serial) a le = more_room s.settings (unsaid (at s (Registering serial))) 0 (stays (at s (Registering serial))) (at s (Registering serial)) (stays_less s.settings (at s (Registering serial)))
live_or_not s (Authenticating serial) a le = more_room s.settings (unsaid (at s (Authenticating serial))) 0 (stays (at s (Authenticating serial))) (at s (Authenticating serial)) (stays_less s.settings (at s (Authenticating serial)))
live_or_not s (Live serial) a le = answers_less s.settings s serial a le

-- nothing is said
none_said : (s : State) (p : Phase) → frames_in p s (only_says s None) ≡ 0
none_said s Down = refl
none_said s (Registering serial) = refl
none_said s (Authenticating serial) = refl
none_said s (Live serial) = refl

none_more : (a b n : ℕ) → n ≡ 0 → a ≤ b → a ≤ n + b
none_more a b n e le = omega (arith, e, le)

pub each_frame : EachFrameIsOneLess
each_frame s h (message.PlatformAck reply id result) le =
    none_more _ (unsaid s) _ (none_said s s.phase) (responded_less s.settings s s.phase (record { reply = reply; id = id; result = result }) (body_octets h.edition (message.PlatformAck reply id result)) le)
each_frame s h (message.RegisterReply reply) le = none_more _ (unsaid s) _ (none_said s s.phase) (registered_less s.settings s s.phase reply (body_octets h.edition (message.RegisterReply reply)) le)
each_frame s h m le = live_or_not s s.phase (answer_to s h m) le
