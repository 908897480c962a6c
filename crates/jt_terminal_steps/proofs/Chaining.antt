-- One rule after another: what both send, what the vault holds then, and where they may be cut short.
use Rattle.std.proofs.Common.{◌≡◌, ◌≢◌, ◌-◌, ℕ, zero, suc, List, [], ◌∷◌, ◌++◌, length, Option, Some, None, Bool, true, false, cond, ◌<◌, Result, Ok, Err, OnErr, refl, sym, ap, ◌∙◌, subst, arith, append_assoc}
use Rattle.std.proofs.lemmas.List.{append-nil}
use Rattle.jt_store.specs.declared.unit.Unit.{Unit as OneUnit}
use Rattle.jt_store.specs.Vaults.{Held, Accepts, changed, held_by}
use Rattle.jt_terminal_rule.specs.declared.state.Phase.{Phase}
use Rattle.jt_terminal_rule.specs.declared.state.Phase.TheVariants.{Down, Registering, Authenticating, Live}
use Rattle.jt_terminal_rule.specs.declared.settings.Settings.{Settings}
use Rattle.jt_terminal_rule.specs.declared.state.GiveUp.{GiveUp}
use Rattle.jt_terminal_rule.specs.declared.state.State.{State}
use Rattle.jt_terminal_rule.specs.Rule.{Step, Ruled, after_acceptance, and_then, fill, fill_window, send_next, or_stays, stays, sends}
use Rattle.jt_subpacket.specs.Parts.{Message as Packet}
use Rattle.jt_terminal_rule.specs.declared.state.AnswerKind.{AnswerKind}
use Rattle.jt_terminal_rule.specs.Answers.{Answer}
use Rattle.jt_terminal_rule.specs.Machines.{held_after}
use Rattle.jt_terminal_rule.specs.Rule as rule
use Rattle.jt_terminal_rule.proofs.Composing.{sends_append}
use Rattle.jt_terminal_steps.specs.Running.{CutShort, MayBeCut, Ran, Went, accept_first, holds_after, took}

pub holds_after-append : (a b : List Step) (held : Option Held) → holds_after (a ++ b) held ≡ holds_after b (holds_after a held)
holds_after-append [] b held = refl
holds_after-append (rule.Sends older unit ∷ a) b held = holds_after-append a b held
holds_after-append (rule.Says h body ∷ a) b held = holds_after-append a b held
holds_after-append (rule.Changes change ∷ a) b held = holds_after-append a b (changed change held)
holds_after-append (rule.Opens ∷ a) b held = holds_after-append a b held
holds_after-append (rule.Loses ∷ a) b held = holds_after-append a b held

pub holds_after-told : (steps : List Step) (held : Held) → holds_after steps (Some held) ≡ Some (held_after steps held)
holds_after-told [] held = refl
holds_after-told (rule.Sends older unit ∷ steps) held = holds_after-told steps held
holds_after-told (rule.Says h body ∷ steps) held = holds_after-told steps held
holds_after-told (rule.Changes change ∷ steps) held = holds_after-told steps (held_by change held)
holds_after-told (rule.Opens ∷ steps) held = holds_after-told steps held
holds_after-told (rule.Loses ∷ steps) held = holds_after-told steps held

pub holds_after-untold : (steps : List Step) → holds_after steps None ≡ None
holds_after-untold [] = refl
holds_after-untold (rule.Sends older unit ∷ steps) = holds_after-untold steps
holds_after-untold (rule.Says h body ∷ steps) = holds_after-untold steps
holds_after-untold (rule.Changes change ∷ steps) = holds_after-untold steps
holds_after-untold (rule.Opens ∷ steps) = holds_after-untold steps
holds_after-untold (rule.Loses ∷ steps) = holds_after-untold steps

-- steps, and then a rule
ran_behind : (settings : Settings) (steps : List Step) (r : Ruled) (state : State) (old mid now : Option Held) (out out_mid out_now : List (List ℕ)) (end : Option GiveUp)
    → mid ≡ holds_after steps old → out_mid ≡ out ++ sends settings steps → Ran settings r state mid now out_mid out_now end
    → Ran settings (record { state = r.state; steps = steps ++ r.steps; end = r.end }) state old now out out_now end
ran_behind settings steps r state old mid now out out_mid out_now end held sent ran = record {
  is_state = ran.is_state;
  held = ran.held ∙ (ap (holds_after r.steps) held ∙ sym (holds_after-append steps r.steps old));
  out = ran.out ∙ (ap (λ (o : List (List ℕ)). o ++ sends settings r.steps) sent ∙ (append_assoc out (sends settings steps) (sends settings r.steps) ∙ ap (λ (o : List (List ℕ)). out ++ o) (sym (sends_append settings steps r.steps))));
  is_end = ran.is_end;
}

-- one rule was run, and then another
pub ran_then : (settings : Settings) (r : Ruled) (more : State → Ruled) (mid state : State) (old held_mid now : Option Held) (out out_mid out_now : List (List ℕ)) (end : Option GiveUp)
    → mid ≡ r.state → held_mid ≡ holds_after r.steps old → out_mid ≡ out ++ sends settings r.steps → mid.settings ≡ settings
    → Ran mid.settings (more mid) state held_mid now out_mid out_now end → Ran settings (and_then r more) state old now out out_now end
ran_then settings r more mid state old held_mid now out out_mid out_now end is held sent same ran =
    ran_behind settings r.steps (more r.state) state old held_mid now out out_mid out_now end held sent
    (subst (λ (s : Settings). Ran s (more r.state) state held_mid now out_mid out_now end) same (subst (λ (m : State). Ran mid.settings (more m) state held_mid now out_mid out_now end) is ran))

-- steps, and then steps that were cut short
pub cut_behind : (steps more : List Step) (old mid now : Option Held) → mid ≡ holds_after steps old → CutShort more mid now → CutShort (steps ++ more) old now
cut_behind steps more old mid now held cut = record {
  done = steps ++ cut.done;
  left = cut.left;
  parts = ap (λ (m : List Step). steps ++ m) cut.parts ∙ sym (append_assoc steps cut.done cut.left);
  held = cut.held ∙ (ap (holds_after cut.done) held ∙ sym (holds_after-append steps cut.done old));
}

-- one rule was run, and the next one was cut short
pub cut_then : (r : Ruled) (more : State → Ruled) (mid : State) (old held_mid now : Option Held) → mid ≡ r.state → held_mid ≡ holds_after r.steps old
    → CutShort (more mid).steps held_mid now → CutShort (and_then r more).steps old now
cut_then r more mid old held_mid now is held cut = cut_behind r.steps (more r.state).steps old held_mid now held (subst (λ (m : State). CutShort (more m).steps held_mid now) is cut)

-- the first of two rules was cut short
pub cut_first : (r : Ruled) (more : State → Ruled) (old now : Option Held) → CutShort r.steps old now → CutShort (and_then r more).steps old now
cut_first r more old now cut = record { done = cut.done; left = cut.left ++ (more r.state).steps; parts = ap (λ (m : List Step). m ++ (more r.state).steps) cut.parts ∙ append_assoc cut.done cut.left (more r.state).steps; held = cut.held }

-- nothing was done of any steps
pub cut_none : (steps : List Step) (old now : Option Held) → now ≡ old → CutShort steps old now
cut_none steps old now same = record { done = []; left = steps; parts = refl; held = same }

-- ---- the window

pub fill-more : (n : ℕ) (s : State) → n ≢ 0 → fill n s ≡ or_stays s (send_next s) (fill (n - 1))
fill-more zero s ne = absurd (ne refl)
fill-more (suc n) s ne = let same : n ≡ suc n - 1 = omega arith in ap (λ (k : ℕ). or_stays s (send_next s) (fill k)) same

-- one more unit, and then the rest of the window
pub filled_more : (settings : Settings) (n : ℕ) (o : Option Ruled) (s mid state : State) (old held_mid now : Option Held) (out out_mid out_now : List (List ℕ)) → mid.settings ≡ settings
    → Went settings o true s mid old held_mid out out_mid → Ran mid.settings (fill n mid) state held_mid now out_mid out_now None → Ran settings (or_stays s o (fill n)) state old now out out_now None
filled_more settings n None s mid state old held_mid now out out_mid out_now same went ran = absurd went
filled_more settings n (Some r) s mid state old held_mid now out out_mid out_now same went ran = ran_then settings r (fill n) mid state old held_mid now out out_mid out_now None went.is_state went.held went.out same ran

pub filled_cut : (settings : Settings) (n : ℕ) (o : Option Ruled) (s mid : State) (old held_mid now : Option Held) (out out_mid : List (List ℕ))
    → Went settings o true s mid old held_mid out out_mid → CutShort (fill n mid).steps held_mid now → CutShort (or_stays s o (fill n)).steps old now
filled_cut settings n None s mid old held_mid now out out_mid went cut = absurd went
filled_cut settings n (Some r) s mid old held_mid now out out_mid went cut = cut_then r (fill n) mid old held_mid now went.is_state went.held cut

-- nothing more to send
pub filled_none : (settings : Settings) (n : ℕ) (o : Option Ruled) (s state : State) (old now : Option Held) (out out_now : List (List ℕ))
    → Went settings o false s state old now out out_now → Ran settings (or_stays s o (fill n)) state old now out out_now None
filled_none settings n None s state old now out out_now went = record { is_state = went.0; held = went.1; out = went.2 ∙ sym (append-nil out); is_end = refl }
filled_none settings n (Some r) s state old now out out_now went = absurd went

pub filled_first : (n : ℕ) (o : Option Ruled) (s : State) (old now : Option Held) → MayBeCut o old now → CutShort (or_stays s o (fill n)).steps old now
filled_first n None s old now same = cut_none [] old now same
filled_first n (Some r) s old now cut = cut_first r (fill n) old now cut

-- ---- the oldest unit is accepted, and then the window is filled

pub accepted_ran : (s : State) (units : List OneUnit) (mid state : State) (old held_mid now : Option Held) (out out_mid out_now : List (List ℕ)) → 0 < length units → mid ≡ took s units → held_mid ≡ changed Accepts old → out_mid ≡ out → mid.settings ≡ s.settings
    → Ran mid.settings (fill_window mid) state held_mid now out_mid out_now None → Ran s.settings (accept_first s units) state old now out out_now None
accepted_ran s [] mid state old held_mid now out out_mid out_now some is held sent same ran = absurd (omega (arith, some))
accepted_ran s (u ∷ more) mid state old held_mid now out out_mid out_now some is held sent same ran =
    ran_then s.settings (record { state = after_acceptance s u more; steps = rule.Changes Accepts ∷ []; end = None }) fill_window mid state old held_mid now out out_mid out_now None is held (sent ∙ sym (append-nil out)) same ran

pub accepted_cut : (s : State) (units : List OneUnit) (mid : State) (old held_mid now : Option Held) → 0 < length units → mid ≡ took s units → held_mid ≡ changed Accepts old
    → CutShort (fill_window mid).steps held_mid now → CutShort (accept_first s units).steps old now
accepted_cut s [] mid old held_mid now some is held cut = absurd (omega (arith, some))
accepted_cut s (u ∷ more) mid old held_mid now some is held cut = cut_then (record { state = after_acceptance s u more; steps = rule.Changes Accepts ∷ []; end = None }) fill_window mid old held_mid now is held cut

-- ---- messages that are no units change nothing of the vault

quiet_oldest : (units : List OneUnit) (held : Option Held) → holds_after (rule.oldest_again units) held ≡ held
quiet_oldest [] held = refl
quiet_oldest (u ∷ units) held = refl

pub quiet_again : (s : State) (p : Phase) (held : Option Held) → holds_after (rule.steps_again s p) held ≡ held
quiet_again s Down held = refl
quiet_again s (Registering serial) held = refl
quiet_again s (Authenticating serial) held = refl
quiet_again s (Live serial) held = quiet_oldest s.units held

pub quiet_beats : (s : State) (held : Option Held) → holds_after (rule.heartbeat_if_silent s).steps held ≡ held
quiet_beats s held = by (rule.is_silent s)
  where
    by : (b : Bool) → holds_after (cond b (rule.say_heartbeat s) (rule.stays s)).steps held ≡ held
    by true = refl
    by false = refl

quiet_each : (packets : List Packet) (held : Option Held) → holds_after (rule.says_each packets) held ≡ held
quiet_each [] held = refl
quiet_each (q ∷ packets) held = quiet_each packets held

quiet_says : (s : State) (says : Option (AnswerKind × List ℕ)) (held : Option Held) → holds_after (rule.says_answer s says).steps held ≡ held
quiet_says s None held = refl
quiet_says s (Some says) held = quiet_each (rule.answer_packets s says.0 says.1) held

pub quiet_answers : (s : State) (a : Answer) (held : Option Held) → holds_after (rule.answers s a).steps held ≡ held
quiet_answers s a held = quiet_says (rule.changed_by s a) a.says held

-- ---- results

pub any_err : {T E P : Type 0} (r : Result T E) → P → OnErr r P
any_err (Ok x) p = tt
any_err (Err e) p = p
