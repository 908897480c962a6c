-- What steps make of a terminal's lists, and what the rule makes of times and tables.
use Rattle.std.proofs.Common.{◌≡◌, ◌-◌, ◌+◌, ◌<◌, ◌≤◌, ◌/◌, ◌%◌, min, ℕ, zero, suc, List, [], ◌∷◌, ◌++◌, length, drop, Option, Some, None, Bool, true, false, cond, inl, inr, refl, sym, ap, ◌∙◌, subst, arith, append_assoc}
use Rattle.std.specs.Prelude.{◌==◌, ◌&&◌, nat_lt, nat_le, slice_get}
use Rattle.std.specs.Int.{w16, to_be_bytes}
use Rattle.std.proofs.lemmas.Bool.{eq-eqb, ltb-true, ltb-false}
use Rattle.jt_value.specs.Serials.{gap_of, serial_of}
use Rattle.jt_header.specs.declared.header.Header.{Header}
use Rattle.jt_codec.specs.declared.message.Message.{Message}
use Rattle.jt_codec.specs.declared.message.Message.TheVariants as message
use Rattle.jt_regions.specs.Tables.{Regions}
use Rattle.jt_regions.specs.declared.change.RegionChange.TheVariants as change
use Rattle.jt_store.specs.declared.unit.Unit.{Unit as OneUnit}
use Rattle.jt_store.specs.Vaults.{Held, Accepts, Forms}
use Rattle.jt_subpacket.specs.Parts.{Message as Packet, packet_header, packet_octets}
use Rattle.jt_subpacket.specs.Steps.{front, packets_of, piece_of}
use Rattle.jt_terminal_rule.specs.declared.settings.Settings.{Settings}
use Rattle.jt_terminal_rule.specs.declared.state.AnswerKind.{AnswerKind}
use Rattle.jt_terminal_rule.specs.declared.state.AnswerKind.TheVariants.{Position}
use Rattle.jt_regions.specs.Changes.{regions_after}
use Rattle.jt_terminal_rule.specs.Tables.{params_after}
use Rattle.jt_terminal_rule.specs.declared.state.Phase.{Phase}
use Rattle.jt_terminal_rule.specs.declared.state.Phase.TheVariants.{Down, Registering, Authenticating, Live}
use Rattle.jt_terminal_rule.specs.declared.state.State.{State}
use Rattle.jt_params.specs.declared.param.Param.{Param}
use Rattle.jt_params.specs.Tables.{Table}
use Rattle.jt_terminal_rule.specs.Answers.{Answer, answer_to, answer_to_lack, id_of_answer, only_says, responds, takes_params, takes_regions, tells_position}
use Rattle.jt_terminal_rule.specs.Forming.{unit_of}
use Rattle.jt_value.specs.declared.limits.TheConstants.{BODY_LIMIT}
use Rattle.jt_terminal_rule.specs.Messages.{header_of}
use Rattle.jt_terminal_rule.specs.Rule.{Step, Ruled, after_acceptance, accept_oldest, after_packets, and_then, answer_packets, answers, say_heartbeat, heartbeat_if_silent, changed_by, fill, fill_window, form_unit, message_limit, send_next, one_sent, or_stays, repeat_sending, says_answer, says_each, says_packets, send_unit, stays, window}
use Rattle.jt_terminal_rule.specs.Rule as rule
use Rattle.jt_value.specs.declared.phone.Edition.{Edition}
use Rattle.jt_value.specs.declared.phone.Edition.TheVariants.{E2013, E2019}
use Rattle.jt_terminal_answers.specs.Answering.{AllOrNothing}
use Rattle.jt_terminal_steps.specs.AfterError.{AreSameParams, AreSameTables, CutLists, Lists, changes_regions_in, lists_accepted, lists_after, lists_changed, lists_of, next_said, sets_params_in}
use Rattle.jt_terminal_steps.specs.Running.{Went, accept_first, took}

-- ---- one list of steps after another

pub lists_append : (a b : List Step) (k : Lists) → lists_after (a ++ b) k ≡ lists_after b (lists_after a k)
lists_append [] b k = refl
lists_append (rule.Sends older unit ∷ a) b k = lists_append a b k
lists_append (rule.Says h body ∷ a) b k = lists_append a b (record k { next = next_said k.mark k.next h.serial })
lists_append (rule.Changes change ∷ a) b k = lists_append a b (lists_changed change k)
lists_append (rule.Opens ∷ a) b k = lists_append a b k
lists_append (rule.Loses ∷ a) b k = lists_append a b k

-- nothing was done of any steps
pub lists_none : (steps : List Step) (old now : Lists) → now ≡ old → CutLists steps old now
lists_none steps old now same = record { done = []; left = steps; parts = refl; lists = same }

-- the first of two rules was cut short
pub lists_first : (r : Ruled) (more : State → Ruled) (old now : Lists) → CutLists r.steps old now → CutLists (and_then r more).steps old now
lists_first r more old now cut = record { done = cut.done; left = cut.left ++ (more r.state).steps; parts = ap (λ (m : List Step). m ++ (more r.state).steps) cut.parts ∙ append_assoc cut.done cut.left (more r.state).steps; lists = cut.lists }

-- steps, and then steps that were cut short
lists_behind : (steps more : List Step) (old mid now : Lists) → mid ≡ lists_after steps old → CutLists more mid now → CutLists (steps ++ more) old now
lists_behind steps more old mid now is cut = record {
  done = steps ++ cut.done;
  left = cut.left;
  parts = ap (λ (m : List Step). steps ++ m) cut.parts ∙ sym (append_assoc steps cut.done cut.left);
  lists = cut.lists ∙ (ap (lists_after cut.done) is ∙ sym (lists_append steps cut.done old));
}

-- a rule's state has the lists after its steps
abbrev pub HasItsLists : State → Ruled → Type 0
HasItsLists s r = lists_of r.state ≡ lists_after r.steps (lists_of s)

-- one rule was run, and the next one was cut short
pub lists_then : (r : Ruled) (more : State → Ruled) (s mid : State) (now : Lists) → mid ≡ r.state → HasItsLists s r → CutLists (more mid).steps (lists_of mid) now → CutLists (and_then r more).steps (lists_of s) now
lists_then r more s mid now is own cut =
    lists_behind r.steps (more r.state).steps (lists_of s) (lists_of r.state) now own (subst (λ (m : State). CutLists (more m).steps (lists_of m) now) is cut)

-- ---- the window

abbrev pub ListsIf : State → Option Ruled → Type 0
ListsIf s None = Unit {0}
ListsIf s (Some r) = HasItsLists s r

formed_lists : (s : State) (fix : List ℕ) (more : List (List ℕ)) → s.waiting ≡ fix ∷ more → (b : Bool)
    → ListsIf s (cond b (let unit = unit_of s.next fix (fix ∷ more) in Some (record {
      state = one_sent (record s { units = s.units ++ unit ∷ []; waiting = drop unit.count (fix ∷ more); next = serial_of (s.next + 1) });
      steps = rule.Changes (Forms unit) ∷ rule.Sends s.sent unit ∷ [];
      end = None;
    })) None)
formed_lists s fix more waits false = tt
formed_lists s fix more waits true =
    let unit = unit_of s.next fix (fix ∷ more) in
    ap (λ (fixes : List (List ℕ)). record (lists_of s) { units = s.units ++ unit ∷ []; waiting = drop unit.count fixes; next = serial_of (s.next + 1) }) (sym waits)

forms_lists : (s : State) (fixes : List (List ℕ)) → s.waiting ≡ fixes → ListsIf s (form_unit s fixes)
forms_lists s [] waits = tt
forms_lists s (fix ∷ more) waits = formed_lists s fix more waits (nat_lt (gap_of s.mark s.next) 32767)

sends_lists : (s : State) (unit : Option OneUnit) → ListsIf s (send_unit s unit)
sends_lists s None = forms_lists s s.waiting refl
sends_lists s (Some u) = refl

pub next_lists : (s : State) (unit : Option OneUnit) (b : Bool) → ListsIf s (cond b (send_unit s unit) None)
next_lists s unit true = sends_lists s unit
next_lists s unit false = tt

-- one more unit was sent, and the rest of the window was cut short
filled_lists : (settings : Settings) (n : ℕ) (o : Option Ruled) (s mid : State) (old held_mid : Option Held) (out out_mid : List (List ℕ)) (now : Lists)
    → ListsIf s o → Went settings o true s mid old held_mid out out_mid → CutLists (fill n mid).steps (lists_of mid) now → CutLists (or_stays s o (fill n)).steps (lists_of s) now
filled_lists settings n None s mid old held_mid out out_mid now own went cut = absurd went
filled_lists settings n (Some r) s mid old held_mid out out_mid now own went cut = lists_then r (fill n) s mid now went.is_state own cut

pub lists_filled : (settings : Settings) (n : ℕ) (s mid : State) (old held_mid : Option Held) (out out_mid : List (List ℕ)) (now : Lists)
    → Went settings (send_next s) true s mid old held_mid out out_mid → CutLists (fill n mid).steps (lists_of mid) now → CutLists (or_stays s (send_next s) (fill n)).steps (lists_of s) now
lists_filled settings n s mid old held_mid out out_mid now went cut = filled_lists settings n (send_next s) s mid old held_mid out out_mid now (next_lists s (slice_get s.units s.sent) (nat_lt s.sent window)) went cut

-- ---- the oldest unit is accepted

pub lists_took : (s : State) (units : List OneUnit) (mid : State) (now : Lists) → s.units ≡ units → 0 < length units → mid ≡ took s units
    → CutLists (fill_window mid).steps (lists_of mid) now → CutLists (accept_first s units).steps (lists_of s) now
lists_took s [] mid now are some is cut = absurd (omega (arith, some))
lists_took s (u ∷ more) mid now are some is cut =
    lists_then (record { state = after_acceptance s u more; steps = rule.Changes Accepts ∷ []; end = None }) fill_window s mid now is (ap (λ (units : List OneUnit). lists_accepted units (lists_of s)) (sym are)) cut

-- ---- messages that are no units

same_number : (n : ℕ) → (n == n) ≡ true
same_number n = eq-eqb n n refl

-- a message under the next serial
said_now : (mark next : ℕ) → cond (nat_lt (gap_of mark next) 32766) (serial_of (next + 1)) next ≡ next_said mark next next
said_now mark next = by (nat_lt (gap_of mark next) 32766)
  where
    by : (b : Bool) → cond b (serial_of (next + 1)) next ≡ cond (b && (next == next)) (serial_of (next + 1)) next
    by true = ap (λ (c : Bool). cond c (serial_of (next + 1)) next) (sym (same_number next))
    by false = refl

said_on : (mark next : ℕ) → gap_of mark next < 32766 → next_said mark next next ≡ serial_of (next + 1)
said_on mark next lt = by (nat_lt (gap_of mark next) 32766) refl
  where
    by : (b : Bool) → nat_lt (gap_of mark next) 32766 ≡ b → cond (b && (next == next)) (serial_of (next + 1)) next ≡ serial_of (next + 1)
    by true e = ap (λ (c : Bool). cond c (serial_of (next + 1)) next) (same_number next)
    by false e = let ge = ltb-false (gap_of mark next) 32766 e in absurd (omega (arith, ge, lt))

said_far : (mark next serial : ℕ) → 32766 ≤ gap_of mark next → next_said mark next serial ≡ next
said_far mark next serial far = by (nat_lt (gap_of mark next) 32766) refl
  where
    by : (b : Bool) → nat_lt (gap_of mark next) 32766 ≡ b → cond (b && (serial == next)) (serial_of (next + 1)) next ≡ next
    by true e = let lt = ltb-true (gap_of mark next) 32766 e in absurd (omega (arith, lt, far))
    by false e = refl

pub lists_beats : (s : State) → HasItsLists s (say_heartbeat s)
lists_beats s = ap (λ (n : ℕ). record (lists_of s) { next = n }) (said_now s.mark s.next)

pub lists_beats_if_silent : (s : State) → HasItsLists s (heartbeat_if_silent s)
lists_beats_if_silent s = by (rule.is_silent s)
  where
    by : (b : Bool) → HasItsLists s (cond b (say_heartbeat s) (stays s))
    by true = lists_beats s
    by false = refl

oldest_lists : (units : List OneUnit) (k : Lists) → k ≡ lists_after (rule.oldest_again units) k
oldest_lists [] k = refl
oldest_lists (u ∷ units) k = refl

no_steps : (done left : List Step) (k : Lists) → [] ≡ done ++ left → lists_after done k ≡ k
no_steps [] left k e = refl
no_steps (x ∷ done) left k e = absurd cc

-- what is waited for is sent again, and then the terminal's way on was cut short, which has steps where it is Live alone
pub lists_repeats : (s mid : State) (p : Phase) (now : Lists) → mid ≡ record s { wait = rule.repeat_wait s; said = s.time } → CutLists (rule.watch_and_fill p mid).steps (lists_of mid) now
    → CutLists (rule.steps_again s p ++ (rule.watch_and_fill p (record s { wait = rule.repeat_wait s; said = s.time })).steps) (lists_of s) now
lists_repeats s mid Down now is cut = lists_none [] (lists_of s) now (cut.lists ∙ (no_steps cut.done cut.left (lists_of mid) cut.parts ∙ ap lists_of is))
lists_repeats s mid (Registering serial) now is cut = lists_none _ (lists_of s) now (cut.lists ∙ (no_steps cut.done cut.left (lists_of mid) cut.parts ∙ ap lists_of is))
lists_repeats s mid (Authenticating serial) now is cut = lists_none _ (lists_of s) now (cut.lists ∙ (no_steps cut.done cut.left (lists_of mid) cut.parts ∙ ap lists_of is))
lists_repeats s mid (Live serial) now is cut =
    lists_then (record { state = record s { wait = rule.repeat_wait s; said = s.time }; steps = rule.oldest_again s.units; end = None }) (rule.watch_and_fill (Live serial)) s mid now is (oldest_lists s.units (lists_of s)) cut

-- ---- the packets of an answer

-- the serial that is next behind so many packets, as a function of mark and next
abbrev moved : ℕ → ℕ → ℕ → ℕ
moved mark next n = cond (nat_lt (gap_of mark next) 32766) (serial_of (next + min n (32766 - gap_of mark next))) next

-- so many serials on
serials_on : (mark next k : ℕ) → mark < 65536 → next < 65536 → gap_of mark next + k ≤ 32766 → gap_of mark (serial_of (next + k)) ≡ gap_of mark next + k
serials_on mark next k small fits le = omega arith

module _ (mark next : ℕ) (small : mark < 65536) (fits : next < 65536) where
  none_moved : moved mark next 0 ≡ next
  none_moved = by (nat_lt (gap_of mark next) 32766)
    where
      by : (b : Bool) → cond b (serial_of (next + min 0 (32766 - gap_of mark next))) next ≡ next
      by true = omega (arith, fits)
      by false = refl

  one_on : (n k : ℕ) → k ≡ n + 1 → serial_of (serial_of (next + n) + 1) ≡ serial_of (next + k)
  one_on n k e = omega (arith, e)

  below : (n : ℕ) → gap_of mark next < 32766 → n < 32766 - gap_of mark next
      → next_said mark (serial_of (next + min n (32766 - gap_of mark next))) ((next + n) % 65536) ≡ serial_of (next + min (suc n) (32766 - gap_of mark next))
  below n lt near =
      let least : min n (32766 - gap_of mark next) ≡ n = omega (arith, near) in
      let gap = serials_on mark next n small fits (omega (arith, near)) in
      ap (λ (k : ℕ). next_said mark (serial_of (next + k)) ((next + n) % 65536)) least
      ∙ (said_on mark (serial_of (next + n)) (omega (arith, gap, near)) ∙ one_on n (min (suc n) (32766 - gap_of mark next)) (omega (arith, near)))

  above : (n : ℕ) → gap_of mark next < 32766 → 32766 - gap_of mark next ≤ n
      → next_said mark (serial_of (next + min n (32766 - gap_of mark next))) ((next + n) % 65536) ≡ serial_of (next + min (suc n) (32766 - gap_of mark next))
  above n lt far =
      let g = 32766 - gap_of mark next in
      let most : min n (32766 - gap_of mark next) ≡ 32766 - gap_of mark next = omega (arith, far) in
      let then_most : min (suc n) (32766 - gap_of mark next) ≡ 32766 - gap_of mark next = omega (arith, far) in
      let gap = serials_on mark next (32766 - gap_of mark next) small fits (omega (arith, lt)) in
      ap (λ (k : ℕ). next_said mark (serial_of (next + k)) ((next + n) % 65536)) most
      ∙ (said_far mark (serial_of (next + g)) ((next + n) % 65536) (omega (arith, gap, lt)) ∙ ap (λ (k : ℕ). serial_of (next + k)) (sym then_most))

  -- the packet behind so many
  one_more : (n : ℕ) → next_said mark (moved mark next n) ((next + n) % 65536) ≡ moved mark next (suc n)
  one_more n = by (nat_lt (gap_of mark next) 32766) refl
    where
      far : (b : Bool) → nat_lt n (32766 - gap_of mark next) ≡ b → gap_of mark next < 32766
          → next_said mark (serial_of (next + min n (32766 - gap_of mark next))) ((next + n) % 65536) ≡ serial_of (next + min (suc n) (32766 - gap_of mark next))
      far true e lt = below n lt (ltb-true n (32766 - gap_of mark next) e)
      far false e lt = above n lt (ltb-false n (32766 - gap_of mark next) e)

      by : (b : Bool) → nat_lt (gap_of mark next) 32766 ≡ b
          → next_said mark (cond b (serial_of (next + min n (32766 - gap_of mark next))) next) ((next + n) % 65536) ≡ cond b (serial_of (next + min (suc n) (32766 - gap_of mark next))) next
      by true e = far (nat_lt n (32766 - gap_of mark next)) refl (ltb-true (gap_of mark next) 32766 e)
      by false e = said_far mark next ((next + n) % 65536) (ltb-false (gap_of mark next) 32766 e)

says_append : (a b : List Packet) → says_each (a ++ b) ≡ says_each a ++ says_each b
says_append [] b = refl
says_append (x ∷ a) b = ap (λ (steps : List Step). rule.Says x.0 x.1 ∷ steps) (says_append a b)

length_push : (xs : List Packet) (x : Packet) → length (xs ++ x ∷ []) ≡ suc (length xs)
length_push [] x = refl
length_push (y ∷ xs) x = ap suc (length_push xs x)

module _ (k : Lists) (h : Header) (total : ℕ) (body : List ℕ) (own : h.serial ≡ k.next) (small : k.mark < 65536) (fits : k.next < 65536) where
  length_front : (n : ℕ) → length (front h total body n) ≡ n
  length_front zero = refl
  length_front (suc n) = length_push (front h total body n) (packet_header h total n, piece_of body n) ∙ ap suc (length_front n)

  front_lists : (n : ℕ) → lists_after (says_each (front h total body n)) k ≡ record k { next = moved k.mark k.next n }
  front_lists zero = ap (λ (m : ℕ). record k { next = m }) (sym (none_moved k.mark k.next small fits))
  front_lists (suc n) =
      ap (λ (steps : List Step). lists_after steps k) (says_append (front h total body n) ((packet_header h total n, piece_of body n) ∷ []))
      ∙ (lists_append (says_each (front h total body n)) (rule.Says (packet_header h total n) (piece_of body n) ∷ []) k
      ∙ (ap (λ (m : Lists). record m { next = next_said m.mark m.next ((h.serial + n) % 65536) }) (front_lists n)
      ∙ (ap (λ (serial : ℕ). record k { next = next_said k.mark (moved k.mark k.next n) ((serial + n) % 65536) }) own
      ∙ ap (λ (m : ℕ). record k { next = m }) (one_more k.mark k.next small fits n))))

module _ (s : State) (small : s.mark < 65536) (fits : s.next < 65536) where
  said_lists : (packets : List Packet) → lists_after (says_each packets) (lists_of s) ≡ record (lists_of s) { next = after_packets s (length packets) } → HasItsLists s (says_packets s packets)
  said_lists packets is = sym is

  one_lists : (h : Header) (body : List ℕ) → h.serial ≡ s.next → HasItsLists s (says_packets s ((h, body) ∷ []))
  one_lists h body own =
      said_lists ((h, body) ∷ []) (ap (λ (m : ℕ). record (lists_of s) { next = m }) (
      ap (next_said s.mark s.next) own
      ∙ (sym (ap (λ (m : ℕ). next_said s.mark m s.next) (none_moved s.mark s.next small fits))
      ∙ (ap (next_said s.mark (moved s.mark s.next 0)) (sym (whole s.next fits))
      ∙ one_more s.mark s.next small fits 0))))
    where
      whole : (n : ℕ) → n < 65536 → (n + 0) % 65536 ≡ n
      whole n lt = omega (arith, lt)

  front_said : (h : Header) (total : ℕ) (body : List ℕ) → h.serial ≡ s.next → HasItsLists s (says_packets s (front h total body total))
  front_said h total body own =
      said_lists (front h total body total) (front_lists (lists_of s) h total body own small fits total
      ∙ ap (λ (n : ℕ). record (lists_of s) { next = after_packets s n }) (sym (length_front (lists_of s) h total body own small fits total)))

  parts_said : (h : Header) (body : List ℕ) → h.serial ≡ s.next → (b : Bool)
      → HasItsLists s (says_packets s (cond b ((record h { packet = None }, body) ∷ []) (front h ((length body + 1022) / 1023) body ((length body + 1022) / 1023))))
  parts_said h body own true = one_lists (record h { packet = None }) body own
  parts_said h body own false = front_said h ((length body + 1022) / 1023) body own

  packets_said : (kind : AnswerKind) (octets : List ℕ) (b : Bool) → HasItsLists s (says_packets s (cond b (packets_of (header_of s.settings.phone (id_of_answer kind) s.next) octets) []))
  packets_said kind octets true = parts_said (header_of s.settings.phone (id_of_answer kind) s.next) octets refl (nat_le (length octets) packet_octets)
  packets_said kind octets false = ap (λ (m : ℕ). record (lists_of s) { next = m }) (none_moved s.mark s.next small fits)

  answer_said : (says : Option (AnswerKind × List ℕ)) → HasItsLists s (says_answer s says)
  answer_said None = refl
  answer_said (Some says) = packets_said says.0 says.1 (nat_le (length says.1) message_limit)

pub lists_answers : (s : State) (a : Answer) → s.mark < 65536 → s.next < 65536 → HasItsLists s (answers s a)
lists_answers s a small fits = answer_said (changed_by s a) small fits a.says

-- ---- times and tables

pub tables_on : (a b c : State) → AreSameTables a b → AreSameTables b c → AreSameTables a c
tables_on a b c one two = record { timing = two.timing ∙ one.timing; params = two.params ∙ one.params; regions = two.regions ∙ one.regions }

says_tables : (s : State) (says : Option (AnswerKind × List ℕ)) → AreSameTables s (says_answer s says).state
says_tables s None = record { timing = refl; params = refl; regions = refl }
says_tables s (Some says) = record { timing = refl; params = refl; regions = refl }

pub same_tables : (s : State) → AreSameTables s s
same_tables s = record { timing = refl; params = refl; regions = refl }

-- an answer makes them its own
pub answers_tables : (s : State) (a : Answer) → AreSameTables (changed_by s a) (answers s a).state
answers_tables s a = says_tables (changed_by s a) a.says

-- nothing of an answer was done, or its times and tables were taken
pub left_lists : (s now : State) (a : Answer) → AllOrNothing s a now → lists_of now ≡ lists_of s
left_lists s now a (inl is) = ap lists_of is
left_lists s now a (inr is) = ap lists_of is

-- the request for packets leaves them
pub lack_tables : (s mid now : State) (edition : Edition) (first : ℕ) (numbers : List ℕ) → mid ≡ (answers s (answer_to_lack s edition first numbers)).state → AreSameTables mid now → AreSameTables s now
lack_tables s mid now E2013 first numbers is same =
    record { timing = same.timing ∙ ap (λ (t : State). t.timing) is; params = same.params ∙ ap (λ (t : State). t.params) is; regions = same.regions ∙ ap (λ (t : State). t.regions) is }
lack_tables s mid now E2019 first numbers is same =
    record { timing = same.timing ∙ ap (λ (t : State). t.timing) is; params = same.params ∙ ap (λ (t : State). t.params) is; regions = same.regions ∙ ap (λ (t : State). t.regions) is }

-- ---- messages that change no regions

params_regions : (s : State) (h : Header) (params : List Param) (table : Option Table) → (takes_params s h params table).regions ≡ s.regions
params_regions s h params None = refl
params_regions s h params (Some table) = refl

position_regions : (s : State) (h : Header) (fix : Option (List ℕ)) → (tells_position s h fix).regions ≡ s.regions
position_regions s h None = refl
position_regions s h (Some fix) = by (nat_le (2 + length fix) BODY_LIMIT) (Some (Position, to_be_bytes w16 h.serial ++ fix))
  where
    by : (b : Bool) (says : Option (AnswerKind × List ℕ)) → (cond b (only_says s says) (responds s h 1)).regions ≡ s.regions
    by true says = refl
    by false says = refl

answer_regions : (s : State) (h : Header) (m : Message) → changes_regions_in m ≡ false → (answer_to s h m).regions ≡ s.regions
answer_regions s h (message.SetParams params) other = params_regions s h params (params_after params s.params)
answer_regions s h message.QueryPosition other = position_regions s h s.last
answer_regions s h (message.Circles setting list) other = absurd cc
answer_regions s h (message.Rectangles setting list) other = absurd cc
answer_regions s h (message.Polygon polygon) other = absurd cc
answer_regions s h (message.Route route) other = absurd cc
answer_regions s h (message.Delete kind ids) other = absurd cc
answer_regions s h m other = refl

-- nothing of such an answer was done, or its tables were taken
pub left_regions : (s now : State) (h : Header) (m : Message) → AllOrNothing s (answer_to s h m) now → changes_regions_in m ≡ false → now.regions ≡ s.regions
left_regions s now h m (inl is) other = ap (λ (t : State). t.regions) is
left_regions s now h m (inr is) other = ap (λ (t : State). t.regions) is ∙ answer_regions s h m other

-- such an answer was given, and then the window was filled or cut short
pub filled_regions : (s mid now : State) (h : Header) (m : Message) → mid ≡ (answers s (answer_to s h m)).state → AreSameTables mid now → changes_regions_in m ≡ false → now.regions ≡ s.regions
filled_regions s mid now h m is tables other =
    tables.regions ∙ (ap (λ (t : State). t.regions) is ∙ ((answers_tables s (answer_to s h m)).regions ∙ answer_regions s h m other))

-- ---- messages that set no parameters

abbrev SameInAnswer : State → Answer → Type 0
SameInAnswer s a = AreSameParams s (changed_by s a)

same_regions : (s : State) (h : Header) (regions : Option Regions) → SameInAnswer s (takes_regions s h regions)
same_regions s h None = record { timing = refl; params = refl }
same_regions s h (Some regions) = record { timing = refl; params = refl }

same_position : (s : State) (h : Header) (fix : Option (List ℕ)) → SameInAnswer s (tells_position s h fix)
same_position s h None = record { timing = refl; params = refl }
same_position s h (Some fix) = by (nat_le (2 + length fix) BODY_LIMIT) (Some (Position, to_be_bytes w16 h.serial ++ fix))
  where
    by : (b : Bool) (says : Option (AnswerKind × List ℕ)) → SameInAnswer s (cond b (only_says s says) (responds s h 1))
    by true says = record { timing = refl; params = refl }
    by false says = record { timing = refl; params = refl }

pub same_params : (s : State) (h : Header) (m : Message) → sets_params_in m ≡ false → SameInAnswer s (answer_to s h m)
same_params s h (message.SetParams params) other = absurd cc
same_params s h message.QueryPosition other = same_position s h s.last
same_params s h (message.Circles setting list) other = same_regions s h (regions_after (change.Circles setting list) s.regions)
same_params s h (message.Rectangles setting list) other = same_regions s h (regions_after (change.Rectangles setting list) s.regions)
same_params s h (message.Polygon polygon) other = same_regions s h (regions_after (change.Polygon polygon) s.regions)
same_params s h (message.Route route) other = same_regions s h (regions_after (change.Route route) s.regions)
same_params s h (message.Delete kind ids) other = same_regions s h (regions_after (change.Delete kind ids) s.regions)
same_params s h m other = record { timing = refl; params = refl }

-- nothing of such an answer was done, or its tables were taken
pub left_params : (s now : State) (h : Header) (m : Message) → AllOrNothing s (answer_to s h m) now → sets_params_in m ≡ false → AreSameParams s now
left_params s now h m (inl is) other = record { timing = ap (λ (t : State). t.timing) is; params = ap (λ (t : State). t.params) is }
left_params s now h m (inr is) other =
    let same = same_params s h m other in
    record { timing = ap (λ (t : State). t.timing) is ∙ same.timing; params = ap (λ (t : State). t.params) is ∙ same.params }

-- such an answer was given, and then the window was filled or cut short
pub filled_params : (s mid now : State) (h : Header) (m : Message) → mid ≡ (answers s (answer_to s h m)).state → AreSameTables mid now → sets_params_in m ≡ false → AreSameParams s now
filled_params s mid now h m is tables other =
    let same = same_params s h m other in
    let given = answers_tables s (answer_to s h m) in
    record {
      timing = tables.timing ∙ (ap (λ (t : State). t.timing) is ∙ (given.timing ∙ same.timing));
      params = tables.params ∙ (ap (λ (t : State). t.params) is ∙ (given.params ∙ same.params));
    }

-- a message that changes regions sets no parameters
pub sets_none : (m : Message) → changes_regions_in m ≡ true → sets_params_in m ≡ false
sets_none (message.SetParams params) other = absurd cc
sets_none m other = refl
