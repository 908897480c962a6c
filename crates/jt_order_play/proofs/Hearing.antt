-- What the terminal does at what an octet completes: at a message that is no order the steps of its rule, and at an order none.
use Rattle.std.proofs.Common.{ℕ, ◌-◌, ◌≤◌, ◌≡◌, ◌≢◌, List, [], ◌∷◌, ◌++◌, length, drop, Option, Some, None, Bool, true, false, arith, refl, ap, sym, ◌∙◌}
use Rattle.std.specs.Prelude.{if◌then◌else◌, nat_le, ◌==◌, ◌&&◌}
use Rattle.std.specs.Option.{option_to_list}
use Rattle.std.proofs.lemmas.Bool.{true≢false, leb-true}
use Rattle.std.proofs.lemmas.List.{append-nil, length-append, drop_at, drop_all}
use Rattle.jt_value.specs.Serials.{serial_of}
use Rattle.jt_header.specs.declared.header.Header.{Header}
use Rattle.jt_codec.specs.declared.message.Message.{Message}
use Rattle.jt_stream.specs.Unplaced.{Unplaced, items}
use Rattle.jt_store.specs.Vaults.{Change, Held, Notes, Forms, Accepts, Sets}
use Rattle.jt_terminal_answers.specs.Performing.{HeldTables, message_outcome}
use Rattle.jt_terminal_rule.specs.declared.state.Acknowledgement.{Acknowledgement}
use Rattle.jt_terminal_rule.specs.declared.state.State.{State}
use Rattle.jt_terminal_rule.specs.declared.state.Event.TheVariants as event
use Rattle.jt_terminal_rule.specs.Law.{AreCutSteps, AreSteps, HeardIsCutInSteps, HeardTakesSteps, RuleIsCutInSteps, changes_then_loss}
use Rattle.jt_terminal_rule.specs.Messages.{AreSettings}
use Rattle.jt_terminal_rule.specs.Machines.{Agrees, IsInOrder, machine_of}
use Rattle.jt_terminal_rule.specs.Rule.{Ruled, Step, Whole, named_place, rule, sends, stays}
use Rattle.jt_terminal_rule.specs.Rule as rule_of
use Rattle.jt_terminal_rule.specs.Steps.{hears}
use Rattle.jt_terminal_rule.proofs.Composing.{stays_steps}
use Rattle.jt_order.specs.Orders.{OrderOf}
use Rattle.jt_order.specs.Rules.{is_last, is_same, kept_result, ruling_by}
use Rattle.jt_order.specs.declared.performed.Performed.{Performed}
use Rattle.jt_order.specs.declared.rules.Ruling.{Ruling}
use Rattle.jt_order.specs.declared.rules.Ruling.TheVariants.{Again, Performs, Refuses}
use Rattle.jt_obeying.specs.Orders.{last_performed, ruling}
use Rattle.jt_order_turns.specs.Frames.{ResponsesName, order_in}
use Rattle.jt_order_turns.specs.Headers.{answer_frame}
use Rattle.jt_order_turns.specs.Heard.{Heard, Ordered, Other, Nothing}
use Rattle.jt_order_turns.specs.Turns.{ResponsesNameNoOrder}
use Rattle.jt_order_terminal.specs.Ledgers.{IsLedgerOf, Ledger}
use Rattle.jt_order_terminal.specs.Terminals.{Done, by_ruling, does_at, does_at_items, does_at_octets}
use Rattle.jt_order_terminal.proofs.Doing.{does_one}
use Rattle.jt_order_octets.specs.World.{OrderWorld}
use Rattle.jt_order_octets.specs.Steps.{after_read, heard_if, log_by_ruling, response_of, result_by_ruling}
use Rattle.jt_play.specs.Playing.{behind_first, takes_first}
use Rattle.jt_play.proofs.Downward.{Brought}
use Rattle.jt_play.proofs.Opening.{NoneOpens, rule_keeps}
use Rattle.jt_order_play.specs.Playing.{OrderPlay, reads_by, reads_heard}
use Rattle.jt_order_play.proofs.Answering.{IsFine, message_names}
use Rattle.jt_order_play.proofs.Naming.{NameNone}

-- what the wrapped terminal's rule says of it
abbrev pub ruled_of : State → Heard → Ruled
ruled_of s (Ordered h octets m) = stays s
ruled_of s (Other h m) = rule s (event.Received h m)
ruled_of s Nothing = stays s

-- ---- steps

module _ (held : Held) (s : State) (good : AreSettings s.settings) (order : IsInOrder s) (agrees : Agrees held s) where
  pub takes_steps : HeardTakesSteps → (x : Heard) → AreSteps (hears (machine_of held s) (response_of x)) held (response_of x) (ruled_of s x)
  takes_steps law (Ordered h octets m) = stays_steps held s None order agrees
  takes_steps law (Other h m) = law held s (Whole h m) good order agrees
  takes_steps law Nothing = stays_steps held s None order agrees

  nothing_cut : RuleIsCutInSteps → AreCutSteps held s None []
  nothing_cut law [] left parts = law held s event.Lost good order agrees [] (rule_of.Loses ∷ []) refl
  nothing_cut law (step ∷ done) left parts = absurd (let n = ap (λ (l : List Step). length l) parts in omega (arith, n))

  pub cut_steps : RuleIsCutInSteps → HeardIsCutInSteps → (x : Heard) → AreCutSteps held s (response_of x) (ruled_of s x).steps
  cut_steps rule_law law (Ordered h octets m) = nothing_cut rule_law
  cut_steps rule_law law (Other h m) = law held s (Whole h m) good order agrees
  cut_steps rule_law law Nothing = nothing_cut rule_law

pub heard_opens : (s : State) (x : Heard) → NoneOpens (ruled_of s x).steps
heard_opens s (Ordered h octets m) = tt
heard_opens s (Other h m) = rule_keeps s (event.Received h m) tt
heard_opens s Nothing = tt

pub heard_names : ResponsesName → ResponsesNameNoOrder → (s : State) (x : Heard) → IsFine x → NameNone (ruled_of s x).steps
heard_names responses others s (Ordered h octets m) fine = tt
heard_names responses others s (Other h m) fine = message_names responses others s h m fine
heard_names responses others s Nothing fine = tt

pub name_behind : (steps : List Step) → NameNone steps → NameNone (behind_first steps)
name_behind [] names = tt
name_behind (rule_of.Changes change ∷ steps) names = by change
  where
    by : (change : Change) → NameNone (behind_first (rule_of.Changes change ∷ steps))
    by Accepts = names
    by (Notes fix) = names
    by (Forms unit) = names
    by (Sets code) = names
name_behind (rule_of.Sends older unit ∷ steps) names = names
name_behind (rule_of.Says h body ∷ steps) names = names
name_behind (rule_of.Opens ∷ steps) names = names
name_behind (rule_of.Loses ∷ steps) names = names

-- ---- what is done

-- the wrapped terminal's part of it
pub record DoesRuled (d : Done) (s : State) (just : Option Acknowledgement) (r : Ruled) : Type 0 where
  pub state : d.state ≡ r.state
  pub steps : d.steps ≡ r.steps
  pub told : d.told ≡ option_to_list (named_place s just)

order_ruled : (s : State) (l : Ledger) (h : Header) (octets : List ℕ) (m : Message) (r : Ruling) → DoesRuled (by_ruling s l h octets m r) s None (stays s)
order_ruled s l h octets m (Again result) = record { state = refl; steps = refl; told = refl }
order_ruled s l h octets m Performs = record { state = refl; steps = refl; told = refl }
order_ruled s l h octets m Refuses = record { state = refl; steps = refl; told = refl }

pub does_ruled : (s : State) (l : Ledger) (x : Heard) → DoesRuled (does_at s l x) s (response_of x) (ruled_of s x)
does_ruled s l (Ordered h octets m) = order_ruled s l h octets m (ruling_by l.count l.last h.serial (record { id = h.id; body = octets }))
does_ruled s l (Other h m) = record { state = refl; steps = refl; told = refl }
does_ruled s l Nothing = record { state = refl; steps = refl; told = refl }

-- at most one order is performed
order_few : (s : State) (l : Ledger) (h : Header) (octets : List ℕ) (m : Message) (r : Ruling) → length (by_ruling s l h octets m r).performed ≤ 1
order_few s l h octets m (Again result) = omega arith
order_few s l h octets m Performs = omega arith
order_few s l h octets m Refuses = omega arith

pub does_few : (s : State) (l : Ledger) (x : Heard) → length (does_at s l x).performed ≤ 1
does_few s l (Ordered h octets m) = order_few s l h octets m (ruling_by l.count l.last h.serial (record { id = h.id; body = octets }))
does_few s l (Other h m) = omega arith
does_few s l Nothing = omega arith

-- and only what is no response is
pub performs_unheard : (s : State) (l : Ledger) (x : Heard) → (does_at s l x).performed ≢ [] → response_of x ≡ None
performs_unheard s l (Ordered h octets m) some = refl
performs_unheard s l (Other h m) some = absurd (some refl)
performs_unheard s l Nothing some = refl

-- ---- one octet

new_none : (seen octets : List ℕ) (s : State) (l : Ledger) → items (seen ++ octets) ≡ items seen → does_at_octets true s l seen octets ≡ does_at s l Nothing
new_none seen octets s l e = ap (does_at_items s l) (ap (λ (list : List Unplaced). drop (length (items seen)) list) e ∙ drop_all (length (items seen)) (items seen) (omega arith))

-- what is done at an octet is done at what it completes
pub does_one_octet : (s : State) (l : Ledger) (up : Bool) (seen octets : List ℕ) (item : Option Unplaced) → up ≡ true → Brought seen octets item → does_at_octets up s l seen octets ≡ does_at s l (heard_if item)
does_one_octet s l up seen octets None is e = ap (λ (b : Bool). does_at_octets b s l seen octets) is ∙ new_none seen octets s l e
does_one_octet s l up seen octets (Some item) is e =
    ap (λ (b : Bool). does_at_octets b s l seen octets) is
    ∙ (ap (does_at_items s l) (ap (λ (list : List Unplaced). drop (length (items seen)) list) e ∙ drop_at (items seen) (item ∷ []) (length (items seen)) refl) ∙ does_one s l item)

-- ---- rulings by the ledger

serial_less : (a b : ℕ) → 1 ≤ a → 1 ≤ b → serial_of a ≡ serial_of b → serial_of (a - 1) ≡ serial_of (b - 1)
serial_less a b some other same = omega arith

last_by : (a b : ℕ) (last : Option Performed) (serial : ℕ) (order : OrderOf) → serial_of a ≡ serial_of b → nat_le 1 a ≡ nat_le 1 b → is_last a last serial order ≡ is_last b last serial order
last_by a b None serial order same some = refl
last_by a b (Some last) serial order same some = by (nat_le 1 b) refl
  where
    by : (c : Bool) → nat_le 1 b ≡ c → (nat_le 1 a && ((serial == serial_of (a - 1)) && is_same order last.order)) ≡ (nat_le 1 b && ((serial == serial_of (b - 1)) && is_same order last.order))
    by false e = ap (λ (c : Bool). c && ((serial == serial_of (a - 1)) && is_same order last.order)) (some ∙ e) ∙ sym (ap (λ (c : Bool). c && ((serial == serial_of (b - 1)) && is_same order last.order)) e)
    by true e = ap (λ (c : Bool). c && ((serial == serial_of (a - 1)) && is_same order last.order)) some
        ∙ ap (λ (n : ℕ). nat_le 1 b && ((serial == n) && is_same order last.order)) (serial_less a b (leb-true 1 a (some ∙ e)) (leb-true 1 b e) same)

-- the ruling by what is kept of the log is that by the log
pub ruling_is : (log : List Performed) (l : Ledger) → IsLedgerOf log l → (serial : ℕ) (order : OrderOf) → ruling_by l.count l.last serial order ≡ ruling log serial order
ruling_is log l is serial order =
    ap (λ (last : Option Performed). ruling_by l.count last serial order) is.last
    ∙ (ap (λ (b : Bool). if b then Again (kept_result (last_performed log)) else if serial == serial_of l.count then Performs else Refuses) (last_by l.count (length log) (last_performed log) serial order is.serial is.some)
    ∙ ap (λ (n : ℕ). if is_last (length log) (last_performed log) serial order then Again (kept_result (last_performed log)) else if serial == n then Performs else Refuses) is.serial)

-- ---- the world once it was read

-- the frames that answer an order
abbrev pub answers_directly : OrderWorld → Heard → List (List ℕ)
answers_directly w (Ordered h octets m) = answer_frame h (result_by_ruling w m (ruling w.log h.serial (order_in h octets))) ∷ []
answers_directly w (Other h m) = []
answers_directly w Nothing = []

module _ (w : OrderWorld) (s : State) (l : Ledger) (is : IsLedgerOf w.log l) (tables : l.tables ≡ w.tables) where
  order_log : (h : Header) (octets : List ℕ) (m : Message) (r : Ruling) → w.log ++ (by_ruling s l h octets m r).performed ≡ log_by_ruling w h octets m r
  order_log h octets m (Again result) = append-nil w.log
  order_log h octets m Performs = ap (λ (t : HeldTables). w.log ++ record { order = order_in h octets; result = (message_outcome t m).0 } ∷ []) tables
  order_log h octets m Refuses = append-nil w.log

  -- the log of the world then has what was performed
  pub after_log : (x : Heard) (takes responds : Bool) → w.log ++ (does_at s l x).performed ≡ (after_read w x takes responds).log
  after_log (Ordered h octets m) takes responds =
      ap (λ (r : Ruling). w.log ++ (by_ruling s l h octets m r).performed) (ruling_is w.log l is h.serial (order_in h octets)) ∙ order_log h octets m (ruling w.log h.serial (order_in h octets))
  after_log (Other h m) takes responds = append-nil w.log
  after_log Nothing takes responds = append-nil w.log

  order_frames : (h : Header) (octets : List ℕ) (m : Message) (r : Ruling) → (by_ruling s l h octets m r).frames ≡ answer_frame h (result_by_ruling w m r) ∷ []
  order_frames h octets m (Again result) = refl
  order_frames h octets m Performs = ap (λ (t : HeldTables). answer_frame h (message_outcome t m).0 ∷ []) tables
  order_frames h octets m Refuses = refl

  -- what is sent is the answer to an order, or what the rule sends
  pub does_send : (x : Heard) → (does_at s l x).frames ≡ answers_directly w x ++ sends s.settings (ruled_of s x).steps
  does_send (Ordered h octets m) =
      ap (λ (r : Ruling). (by_ruling s l h octets m r).frames) (ruling_is w.log l is h.serial (order_in h octets)) ∙ order_frames h octets m (ruling w.log h.serial (order_in h octets))
  does_send (Other h m) = refl
  does_send Nothing = refl

-- an order brings no acceptance
abbrev pub TakesNone : Heard → Bool → Type 0
TakesNone (Ordered h octets m) takes = takes ≡ false
TakesNone (Other h m) takes = Unit {0}
TakesNone Nothing takes = Unit {0}

pub cut_takes : (s : State) (x : Heard) (begun left : List Step) → (ruled_of s x).steps ≡ begun ++ left → TakesNone x (takes_first (changes_then_loss begun))
cut_takes s (Ordered h octets m) [] left parts = refl
cut_takes s (Ordered h octets m) (step ∷ begun) left parts = absurd (let n = ap (λ (l : List Step). length l) parts in omega (arith, n))
cut_takes s (Other h m) begun left parts = tt
cut_takes s Nothing begun left parts = tt

pub whole_takes : (s : State) (x : Heard) → TakesNone x (takes_first (ruled_of s x).steps)
whole_takes s (Ordered h octets m) = refl
whole_takes s (Other h m) = tt
whole_takes s Nothing = tt

-- where an acceptance was taken, nothing was performed
pub accepts_quietly : (w : OrderWorld) (s : State) (l : Ledger) (x : Heard) (takes responds : Bool) → TakesNone x takes → takes ≡ true → ((does_at s l x).performed ≡ []) × ((after_read w x takes responds).log ≡ w.log)
accepts_quietly w s l (Ordered h octets m) takes responds none e = absurd (true≢false (sym e ∙ none))
accepts_quietly w s l (Other h m) takes responds none e = (refl, refl)
accepts_quietly w s l Nothing takes responds none e = (refl, refl)

-- what is read is what the rule says, with nothing of an order's own
pub reads_ruled : (p : OrderPlay) (x : Heard) → reads_heard p x ≡ reads_by p (ruled_of p.state x)
reads_ruled p (Ordered h octets m) = refl
reads_ruled p (Other h m) = refl
reads_ruled p Nothing = refl

-- ---- what a log took of it

-- the log has what it had, and perhaps some of this
module _ (log now gained left all : List Performed) (few : length all ≤ 1) (parts : all ≡ gained ++ left) (held : now ≡ log ++ gained) where
  pub log_moved : length now ≢ length log → now ≡ log ++ all
  log_moved moved = by gained left parts held
    where
      by : (gained left : List Performed) → all ≡ gained ++ left → now ≡ log ++ gained → now ≡ log ++ all
      by [] left parts held = absurd (moved (ap (λ (l : List Performed). length l) (held ∙ append-nil log)))
      by (g ∷ []) [] parts held = held ∙ ap (λ (l : List Performed). log ++ l) (sym parts)
      by (g ∷ []) (y ∷ left) parts held = absurd (let n = ap (λ (l : List Performed). length l) parts in omega (arith, n, few))
      by (g ∷ y ∷ gained) left parts held = absurd (let n = ap (λ (l : List Performed). length l) parts in omega (arith, n, few))

  pub log_stood : length now ≡ length log → now ≡ log
  log_stood same = by gained held
    where
      by : (gained : List Performed) → now ≡ log ++ gained → now ≡ log
      by [] held = held ∙ append-nil log
      by (g ∷ gained) held = absurd (let n = ap (λ (l : List Performed). length l) held in let m = length-append log (g ∷ gained) in omega (arith, n, m, same))

  pub nothing_took : all ≡ [] → now ≡ log
  nothing_took none = by gained (sym parts ∙ none) held
    where
      by : (gained : List Performed) → gained ++ left ≡ [] → now ≡ log ++ gained → now ≡ log
      by [] e held = held ∙ append-nil log
      by (g ∷ gained) e held = absurd (let n = ap (λ (l : List Performed). length l) e in omega (arith, n))

  pub moved_some : length now ≢ length log → all ≢ []
  moved_some moved none = moved (ap (λ (l : List Performed). length l) (nothing_took none))
