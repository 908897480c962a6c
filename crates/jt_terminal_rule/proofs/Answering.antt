-- The answers to the platform are steps of the machine.
use Rattle.std.proofs.Common.{ℕ, zero, suc, ◌≡◌, ◌≢◌, ◌<◌, ◌≤◌, ◌+◌, ◌-◌, ◌*◌, ◌/◌, ◌^◌, min, List, [], ◌∷◌, ◌++◌, length, drop, Option, Some, None, Bool, true, false, cond, refl, ap, sym, ◌∙◌, subst, arith}
use Rattle.std.specs.Prelude.{nat_lt, nat_le, not, ◌==◌, ◌&&◌, slice_get, map}
use Rattle.std.proofs.lemmas.Bool.{ltb-true, leb-true}
use Rattle.std.proofs.lemmas.List.{length-take}
use Rattle.jt_value.specs.Serials.{gap_of, serial_of}
use Rattle.jt_header.specs.Content.{IsHeader}
use Rattle.jt_header.specs.declared.header.Header.{Header}
use Rattle.jt_store.specs.Vaults.{Held}
use Rattle.jt_subpacket.specs.Parts.{Message as Packet, packet_header}
use Rattle.jt_subpacket.specs.Steps.{front, packets_of, piece_of}
use Rattle.jt_terminal_rule.specs.declared.settings.Settings.{Settings}
use Rattle.jt_terminal_rule.specs.declared.state.State.{State}
use Rattle.jt_terminal_rule.specs.declared.state.Phase.TheVariants.{Live}
use Rattle.jt_terminal_rule.specs.Messages.{AreSettings, frame_of, header_of}
use Rattle.jt_terminal_rule.specs.Answers.{Answer, id_of_answer}
use Rattle.jt_terminal_rule.specs.declared.state.AnswerKind.{AnswerKind}
use Rattle.jt_terminal_rule.specs.declared.state.AnswerKind.TheVariants.{General, Parameters, Position, Packets}
use Rattle.jt_terminal_rule.specs.Steps.{Machine, MayRun, MaySay, auths_by, is_in, machine_run, machine_after}
use Rattle.jt_terminal_rule.specs.Steps as step
use Rattle.jt_terminal_rule.specs.Rule.{after_packets, answer_packets, answers, changed_by, message_limit, says_answer, says_each, says_packets, sends}
use Rattle.jt_terminal_rule.specs.Machines.{machine_of, as_steps, frames_by, held_after, MayCommit, IsInOrder, Agrees}
use Rattle.jt_terminal_rule.specs.Law.{AreSteps}
use Rattle.jt_terminal_rule.proofs.Speaking.{at, good_header}

-- ---- serials

moved_by : (mark next k : ℕ) → mark < 65536 → next < 65536 → gap_of mark next + k ≤ 32766 → gap_of mark (serial_of (next + k)) ≡ gap_of mark next + k
moved_by mark next k a b le = omega arith

no_further : (g k : ℕ) → g < 32766 → g + min k (32766 - g) ≤ 32766
no_further g k lt = omega arith

-- the serial behind a message in packets
pub packets_next : (s : State) (k : ℕ) → s.mark < 65536 → s.next < 65536 → gap_of s.mark s.next ≤ 32767
    → (after_packets s k < 65536) × (gap_of s.mark s.next ≤ gap_of s.mark (after_packets s k)) × (gap_of s.mark (after_packets s k) ≤ 32767)
packets_next s k small fits near = by_test (nat_lt (gap_of s.mark s.next) 32766) refl
  where
    by_test : (b : Bool) → nat_lt (gap_of s.mark s.next) 32766 ≡ b
        → let n = cond b (serial_of (s.next + min k (32766 - gap_of s.mark s.next))) s.next in (n < 65536) × (gap_of s.mark s.next ≤ gap_of s.mark n) × (gap_of s.mark n ≤ 32767)
    by_test true e =
        let le = no_further (gap_of s.mark s.next) k (ltb-true (gap_of s.mark s.next) 32766 e) in
        let is = moved_by s.mark s.next (min k (32766 - gap_of s.mark s.next)) small fits le in
        (omega arith, omega (arith, is), omega (arith, is, le))
    by_test false e = (fits, omega arith, near)

pub packets_last_place : (s : State) (k : ℕ) → s.mark < 65536 → s.next < 65536 → gap_of s.mark s.next ≤ 32766 → gap_of s.mark (after_packets s k) ≤ 32766
packets_last_place s k small fits near = by_test (nat_lt (gap_of s.mark s.next) 32766) refl
  where
    by_test : (b : Bool) → nat_lt (gap_of s.mark s.next) 32766 ≡ b → gap_of s.mark (cond b (serial_of (s.next + min k (32766 - gap_of s.mark s.next))) s.next) ≤ 32766
    by_test true e =
        let le = no_further (gap_of s.mark s.next) k (ltb-true (gap_of s.mark s.next) 32766 e) in
        let is = moved_by s.mark s.next (min k (32766 - gap_of s.mark s.next)) small fits le in
        omega (arith, is, le)
    by_test false e = near

one_on : (g : ℕ) → g < 32766 → min 1 (32766 - g) ≡ 1
one_on g lt = omega arith

pub one_packet : (s : State) → after_packets s 1 ≡ cond (nat_lt (gap_of s.mark s.next) 32766) (serial_of (s.next + 1)) s.next
one_packet s = by_test (nat_lt (gap_of s.mark s.next) 32766) refl
  where
    by_test : (b : Bool) → nat_lt (gap_of s.mark s.next) 32766 ≡ b → cond b (serial_of (s.next + min 1 (32766 - gap_of s.mark s.next))) s.next ≡ cond b (serial_of (s.next + 1)) s.next
    by_test true e = ap (λ (k : ℕ). serial_of (s.next + k)) (one_on (gap_of s.mark s.next) (ltb-true (gap_of s.mark s.next) 32766 e))
    by_test false e = refl

-- ---- packets

-- messages that may be said and are no authentications
abbrev pub CanSay : Machine → List Packet → Type 0
CanSay m [] = Unit {0}
CanSay m (q ∷ packets) = MaySay m q.0 q.1 × ((q.0.id == 0x0102) ≡ false) × CanSay m packets

can_append : (m : Machine) (xs ys : List Packet) → CanSay m xs → CanSay m ys → CanSay m (xs ++ ys)
can_append m [] ys one two = two
can_append m (x ∷ xs) ys one two = (one.0, one.1, can_append m xs ys one.2 two)

said_one : (m : Machine) (h : Header) (body : List ℕ) → (h.id == 0x0102) ≡ false → machine_after m (step.Says h body) ≡ m
said_one m h body e = ap (λ (b : Bool). record m { auths = cond (b && not (is_in m.auths h.serial)) (m.auths ++ h.serial ∷ []) m.auths }) e

say_may : (m : Machine) (packets : List Packet) → m.using ≡ true → CanSay m packets → MayRun m None (as_steps m (says_each packets))
say_may m [] using can = tt
say_may m (q ∷ packets) using can =
    ((using, can.0), subst (λ (n : Machine). MayRun n None (as_steps n (says_each packets))) (sym (said_one m q.0 q.1 can.1)) (say_may m packets using can.2))

say_to : (m : Machine) (packets : List Packet) → CanSay m packets → machine_run m (as_steps m (says_each packets)) ≡ m
say_to m [] can = refl
say_to m (q ∷ packets) can = ap (λ (n : Machine). machine_run n (as_steps n (says_each packets))) (said_one m q.0 q.1 can.1) ∙ say_to m packets can.2

pub say_held : (packets : List Packet) (held : Held) → held_after (says_each packets) held ≡ held
say_held [] held = refl
say_held (q ∷ packets) held = say_held packets held

say_commits : (packets : List Packet) (held : Held) → MayCommit held (says_each packets)
say_commits [] held = tt
say_commits (q ∷ packets) held = say_commits packets held

-- ---- the packets of an answer

small_id : (kind : AnswerKind) → id_of_answer kind < 65536
small_id General = omega arith
small_id Parameters = omega arith
small_id Position = omega arith
small_id Packets = omega arith

pub no_auth : (kind : AnswerKind) → (id_of_answer kind == 0x0102) ≡ false
no_auth General = refl
no_auth Parameters = refl
no_auth Position = refl
no_auth Packets = refl

is_other : (kind : AnswerKind) → ((id_of_answer kind ≢ 0x0200) × (id_of_answer kind ≢ 0x0704)) × (id_of_answer kind ≢ 0x0003) × (id_of_answer kind ≢ 0x0102)
is_other General = ((λ e. omega (arith, e), λ e. omega (arith, e)), λ e. omega (arith, e), λ e. omega (arith, e))
is_other Parameters = ((λ e. omega (arith, e), λ e. omega (arith, e)), λ e. omega (arith, e), λ e. omega (arith, e))
is_other Position = ((λ e. omega (arith, e), λ e. omega (arith, e)), λ e. omega (arith, e), λ e. omega (arith, e))
is_other Packets = ((λ e. omega (arith, e), λ e. omega (arith, e)), λ e. omega (arith, e), λ e. omega (arith, e))

false_true : {P : Type 0} (b : Bool) → b ≡ true → b ≡ false → P
false_true true e f = absurd cc
false_true false e f = absurd cc

module _ (m : Machine) (settings : Settings) (good : AreSettings settings) (own : settings.phone ≡ m.phone) (ready : m.ready ≡ true) (kind : AnswerKind) (serial : ℕ) (lt : serial < 65536) where
  abbrev head : Header
  head = header_of settings.phone (id_of_answer kind) serial

  may_say : (h : Header) (body : List ℕ) → IsHeader h → h.id ≡ id_of_answer kind → h.phone ≡ settings.phone → length body < 2 ^ 10 → MaySay m h body
  may_say h body is same phone short =
      let other = is_other kind in
      record {
        header = is;
        short = short;
        own = phone ∙ own;
        no_unit = (λ e. other.0.0 (sym same ∙ e), λ e. other.0.1 (sym same ∙ e));
        no_deregistration = λ e. other.1 (sym same ∙ e);
        before = λ early. false_true m.ready ready early;
        after = λ e. absurd (other.2 (sym same ∙ e));
      }

  is_head : IsHeader head
  is_head = good_header settings (id_of_answer kind) serial good (small_id kind) lt

  packet_is : (total place : ℕ) → place < total → total < 2 ^ 16 → IsHeader (packet_header head total place)
  packet_is total place below few = record { id = is_head.id; version = is_head.version; phone_edition = is_head.phone_edition; phone = is_head.phone; serial = omega arith; packet = (omega arith, omega (arith, below), few) }

  piece_short : (body : List ℕ) (place : ℕ) → length (piece_of body place) < 2 ^ 10
  piece_short body place = omega (arith, length-take 1023 (drop (place * 1023) body))

  front_can : (body : List ℕ) (total n : ℕ) → n ≤ total → total < 2 ^ 16 → CanSay m (front head total body n)
  front_can body total zero le few = tt
  front_can body total (suc n) le few =
      can_append m (front head total body n) ((packet_header head total n, piece_of body n) ∷ []) (front_can body total n (omega (arith, le)) few)
      (may_say (packet_header head total n) (piece_of body n) (packet_is total n (omega (arith, le)) few) refl refl (piece_short body n), no_auth kind, tt)

  few_packets : (n : ℕ) → n ≤ 261888 → (n + 1022) / 1023 < 2 ^ 16
  few_packets n le = omega (arith, le)

  packets_can : (body : List ℕ) → length body ≤ 261888 → CanSay m (packets_of head body)
  packets_can body le = by_test (nat_le (length body) 1023) refl
    where
      by_test : (b : Bool) → nat_le (length body) 1023 ≡ b
          → CanSay m (cond b ((record head { packet = None }, body) ∷ []) (front head ((length body + 1022) / 1023) body ((length body + 1022) / 1023)))
      by_test true e = let short = leb-true (length body) 1023 e in (may_say head body is_head refl refl (omega (arith, short)), no_auth kind, tt)
      by_test false e = front_can body ((length body + 1022) / 1023) ((length body + 1022) / 1023) (omega arith) (few_packets (length body) le)

  limited_can : (body : List ℕ) (b : Bool) → nat_le (length body) message_limit ≡ b → CanSay m (cond b (packets_of head body) [])
  limited_can body true e = packets_can body (leb-true (length body) 261888 e)
  limited_can body false e = tt

-- ---- frames

can_at : (m : Machine) (packets : List Packet) (place : ℕ) (q : Packet) → CanSay m packets → slice_get packets place ≡ Some q → MaySay m q.0 q.1
can_at m [] zero q can e = absurd cc
can_at m [] (suc place) q can e = absurd cc
can_at m (x ∷ packets) zero q can e = let same : x ≡ q = cc in subst (λ (p : Packet). MaySay m p.0 p.1) same can.0
can_at m (x ∷ packets) (suc place) q can e = can_at m packets place q can.2 e

-- each packet of an answer has a frame
pub packets_framed : (s : State) → AreSettings s.settings → s.next < 65536 → (kind : AnswerKind) (octets : List ℕ) (place : ℕ) (q : Packet) → slice_get (answer_packets s kind octets) place ≡ Some q → IsHeader q.0 × (length q.1 < 2 ^ 10)
packets_framed s good lt kind octets place q e =
    let m : Machine = record { phone = s.settings.phone; recorded = []; units = []; accepted = 0; code = None; using = true; auths = []; ready = true; reach = 0 } in
    let can = limited_can m s.settings good refl refl kind s.next lt octets (nat_le (length octets) message_limit) refl in
    let may = can_at m (answer_packets s kind octets) place q can e in
    (may.header, may.short)

pub packets_sent : (settings : Settings) (packets : List Packet) → sends settings (says_each packets) ≡ map (λ (q : Packet). frame_of q.0 q.1) packets
packets_sent settings [] = refl
packets_sent settings (q ∷ packets) = ap (λ (fs : List (List ℕ)). frame_of q.0 q.1 ∷ fs) (packets_sent settings packets)

says_written : (settings : Settings) (m : Machine) (packets : List Packet) → sends settings (says_each packets) ≡ frames_by m (as_steps m (says_each packets))
says_written settings m [] = refl
says_written settings m (q ∷ packets) = ap (λ (fs : List (List ℕ)). frame_of q.0 q.1 ∷ fs) (says_written settings (machine_after m (step.Says q.0 q.1)) packets)

-- ---- states

pub changed_order : (s : State) (a : Answer) → IsInOrder s → IsInOrder (changed_by s a)
changed_order s a o = record { order = o.order; serials = o.serials; phase = o.phase; mark = o.mark; next = o.next; sent = o.sent }

pub changed_agrees : (h : Held) (s : State) (a : Answer) → Agrees h s → Agrees h (changed_by s a)
changed_agrees h s a g = record { known = g.known; units = g.units; mark = g.mark; mark_held = g.mark_held; next_small = g.next_small; next_behind = g.next_behind; next_held = g.next_held; fixes = g.fixes; formed = g.formed; are_fixes = g.are_fixes; code = g.code }

pub packets_order : (s : State) (packets : List Packet) → IsInOrder s → IsInOrder (says_packets s packets).state
packets_order s packets o =
    let n = packets_next s (length packets) o.mark o.next o.order.near in
    let behind = o.order.behind in
    let more = n.1 in
    record { order = record { gaps = o.order.gaps; behind = omega (arith, behind, more); near = n.2; short = o.order.short }; serials = o.serials; phase = o.phase; mark = o.mark; next = n.0; sent = o.sent }

pub packets_agrees : (h : Held) (s : State) (packets : List Packet) → IsInOrder s → Agrees h s → Agrees h (says_packets s packets).state
packets_agrees h s packets o a =
    let n = packets_next s (length packets) o.mark o.next o.order.near in
    let le = a.next_held in
    let more = n.1 in
    record { known = a.known; units = a.units; mark = a.mark; mark_held = a.mark_held; next_small = a.next_small; next_behind = a.next_behind; next_held = omega (arith, le, more); fixes = a.fixes; formed = a.formed; are_fixes = a.are_fixes; code = a.code }

-- ---- steps

module _ (h : Held) (s : State) (serial : ℕ) (good : AreSettings s.settings) where
  abbrev live : State
  live = at s (Live serial)

  packets_steps : (packets : List Packet) → IsInOrder live → Agrees h live → CanSay (machine_of h live) packets → AreSteps (machine_of h live) h None (says_packets live packets)
  packets_steps packets o a can = record {
    may = say_may (machine_of h live) packets refl can;
    to = say_to (machine_of h live) packets can ∙ ap (λ (held : Held). machine_of held live) (sym (say_held packets h));
    commits = say_commits packets h;
    sent = λ settings own. says_written settings (machine_of h live) packets;
    in_order = packets_order live packets o;
    agrees = subst (λ (held : Held). Agrees held (says_packets live packets).state) (sym (say_held packets h)) (packets_agrees h live packets o a);
  }

  says_steps : (says : Option (AnswerKind × List ℕ)) → IsInOrder live → Agrees h live → AreSteps (machine_of h live) h None (says_answer live says)
  says_steps None o a = record { may = tt; to = refl; commits = tt; sent = λ settings own. refl; in_order = o; agrees = a }
  says_steps (Some says) o a =
      packets_steps (answer_packets live says.0 says.1) o a
      (limited_can (machine_of h live) s.settings good refl refl says.0 s.next o.next says.1 (nat_le (length says.1) message_limit) refl)

pub answers_steps : (h : Held) (s : State) (serial : ℕ) → AreSettings s.settings → (a : Answer) → IsInOrder (at s (Live serial)) → Agrees h (at s (Live serial)) → AreSteps (machine_of h (at s (Live serial))) h None (answers (at s (Live serial)) a)
answers_steps h s serial good a o g = says_steps h (changed_by s a) serial good a.says (changed_order (at s (Live serial)) a o) (changed_agrees h (at s (Live serial)) a g)

-- ---- what an answer leaves

says_phase : (s : State) (says : Option (AnswerKind × List ℕ)) → (says_answer s says).state.phase ≡ s.phase
says_phase s None = refl
says_phase s (Some says) = refl

pub answers_phase : (s : State) (a : Answer) → (answers s a).state.phase ≡ s.phase
answers_phase s a = says_phase (changed_by s a) a.says

says_sent : (s : State) (says : Option (AnswerKind × List ℕ)) → (says_answer s says).state.sent ≡ s.sent
says_sent s None = refl
says_sent s (Some says) = refl

pub answers_sent : (s : State) (a : Answer) → (answers s a).state.sent ≡ s.sent
answers_sent s a = says_sent (changed_by s a) a.says

says_wait : (s : State) (says : Option (AnswerKind × List ℕ)) → (says_answer s says).state.wait ≡ s.wait
says_wait s None = refl
says_wait s (Some says) = refl

pub answers_wait : (s : State) (a : Answer) → (answers s a).state.wait ≡ s.wait
answers_wait s a = says_wait (changed_by s a) a.says

says_lists : (s : State) (says : Option (AnswerKind × List ℕ)) → ((says_answer s says).state.units ≡ s.units) × ((says_answer s says).state.waiting ≡ s.waiting)
says_lists s None = (refl, refl)
says_lists s (Some says) = (refl, refl)

pub answers_lists : (s : State) (a : Answer) → ((answers s a).state.units ≡ s.units) × ((answers s a).state.waiting ≡ s.waiting)
answers_lists s a = says_lists (changed_by s a) a.says
