-- The octets of a line, one item after another, and the vault beside them.
use Rattle.std.proofs.Common.{◌≡◌, ◌≤◌, ◌+◌, ◌-◌, ℕ, List, [], ◌++◌, length, take, drop, Option, None, Some, Bool, Result, Ok, refl, sym, ap, ◌∙◌, subst, arith, take_all, length-drop}
use Rattle.std.proofs.Math.Seq.{take-add}
use Rattle.std.proofs.lemmas.List.{append-nil, take-append-drop}
use Rattle.jt_value.specs.Octets.{AreOctets}
use Rattle.jt_value.proofs.OctetLists.{AreOctets-take}
use Rattle.jt_escape.specs.Scan.{State as Splitting}
use Rattle.jt_escape.specs.Splitter.{StandsFor}
use Rattle.jt_stream.specs.Unplaced.{items}
use Rattle.jt_store.specs.Vaults.{Held}
use Rattle.jt_terminal_rule.specs.declared.state.State.{State}
use Rattle.jt_terminal_rule.specs.declared.state.GiveUp.{GiveUp}
use Rattle.jt_terminal_rule.specs.Waits.{IsTimed}
use Rattle.jt_terminal_steps.specs.declared.error.TerminalError.{TerminalError}
use Rattle.jt_terminal_steps.specs.declared.error.TerminalError.TheVariants.{Store}
use Rattle.std.specs.Prelude.{IsErrOf}
use Rattle.jt_terminal_steps.specs.Running.{IsSame, Outside}
use Rattle.jt_terminal.specs.Feeding.{HasFed, HasFedFront, IsSteadySoFar, Scene, WasCut}
use Rattle.jt_terminal.proofs.Items.{cut_then_fed, fed_then}
use Rattle.jt_terminal.proofs.Lateness.{timed_fed}

-- ---- octets

pub fed_nothing : (s : Scene) → HasFed s s [] None
fed_nothing s = record {
  gone = [];
  brings = λ seen are stands. (ap items (append-nil seen) ∙ sym (append-nil (items seen)), subst (StandsFor s.stream) (sym (append-nil seen)) stands);
  partial = refl;
  ran = record { is_state = refl; held = refl; out = sym (append-nil s.out); is_end = refl };
  told = sym (append-nil s.told);
  lists = refl;
}

rest_is : (octets : List ℕ) (taken : ℕ) → take (length octets - taken) (drop taken octets) ≡ drop taken octets
rest_is octets taken = take_all (length octets - taken) (drop taken octets) (omega (arith, length-drop taken octets))

pub fed_more_octets : (old mid now : Scene) (octets : List ℕ) (taken count : ℕ) (end : Option GiveUp) → AreOctets octets → mid.state.settings ≡ old.state.settings → HasFed old mid (take taken octets) None
    → HasFed mid now (take count (take (length octets - taken) (drop taken octets))) end → HasFed old now (take (taken + count) octets) end
fed_more_octets old mid now octets taken count end are same one two =
    subst (λ some. HasFed old now some end) (ap (λ rest. take taken octets ++ take count rest) (rest_is octets taken) ∙ sym (take-add taken count octets))
    (fed_then old mid now (take taken octets) (take count (take (length octets - taken) (drop taken octets))) end (AreOctets-take taken octets are) same one two)

pub cut_more_octets : (old mid : Scene) (stream : Splitting) (state : State) (held : Option Held) (octets : List ℕ) (taken : ℕ) → AreOctets octets → HasFed old mid (take taken octets) None
    → WasCut mid stream state held (take (length octets - taken) (drop taken octets)) → WasCut old stream state held octets
cut_more_octets old mid stream state held octets taken are one cut =
    cut_then_fed old mid stream state held octets (take taken octets) (take (length octets - taken) (drop taken octets)) (sym (take-append-drop taken octets) ∙ ap (λ rest. take taken octets ++ rest) (sym (rest_is octets taken))) (AreOctets-take taken octets are) one cut

-- the terminal gave up, or all octets were fed
pub front_ended : (old now : Scene) (octets : List ℕ) (count : ℕ) (cause : GiveUp) → HasFed old now (take count octets) (Some cause) → HasFedFront old now octets (Some cause)
front_ended old now octets count cause fed = record { front = take count octets; back = drop count octets; parts = sym (take-append-drop count octets); whole = λ e. absurd cc; fed = fed }

pub front_given_up : (old now : Scene) (octets : List ℕ) (count : ℕ) (end : Option GiveUp) (cause : GiveUp) → end ≡ Some cause → HasFed old now (take count octets) end → HasFedFront old now octets end
front_given_up old now octets count end cause is fed = subst (HasFedFront old now octets) (sym is) (front_ended old now octets count cause (subst (HasFed old now (take count octets)) is fed))

pub front_whole : (old now : Scene) (octets : List ℕ) (count : ℕ) → length octets ≤ count → HasFed old now (take count octets) None → HasFedFront old now octets None
front_whole old now octets count all fed = record { front = octets; back = []; parts = sym (append-nil octets); whole = λ e. refl; fed = subst (λ some. HasFed old now some None) (take_all count octets all) fed }

-- ---- what stays

pub same_state : (s : State) → IsSame s s
same_state s = record { settings = refl; time = refl; last = refl }

pub same_on : (old mid now : State) → IsSame old mid → IsSame mid now → IsSame old now
same_on old mid now one two = record { settings = two.settings ∙ one.settings; time = two.time ∙ one.time; last = two.last ∙ one.last }

pub steady_at_first : (faults most : ℕ) (may : Bool) → IsSteadySoFar faults faults most most may may
steady_at_first faults most may = record { limit = refl; still = refl; steady = λ e. e }

pub steady_on : {T : Type 0} (faults faults_mid faults_now most most_mid most_now : ℕ) (may may_mid may_now : Bool) (r : Result T TerminalError) → IsSteadySoFar faults faults_mid most most_mid may may_mid
    → Outside faults_mid faults_now most_mid most_now may_mid may_now r → ¬ IsErrOf r Store → IsSteadySoFar faults faults_now most most_now may may_now
steady_on faults faults_mid faults_now most most_mid most_now may may_mid may_now r one two goes = record {
  limit = two.limit ∙ one.limit;
  still = two.still goes ∙ one.still;
  steady = λ e. (two.steady (one.steady e)).0;
}

pub outside_so_far : {T : Type 0} (faults faults_now most most_now : ℕ) (may may_now : Bool) (x : T) → IsSteadySoFar faults faults_now most most_now may may_now → Outside faults faults_now most most_now may may_now (Ok x)
outside_so_far faults faults_now most most_now may may_now x so_far = record { limit = so_far.limit; later = omega (arith, so_far.still); failed = λ e. absurd cc; still = λ e. so_far.still; steady = λ e. (so_far.steady e, λ f. cc) }

pub outside_on : {T : Type 0} (faults faults_mid faults_now most most_mid most_now : ℕ) (may may_mid may_now : Bool) (r : Result T TerminalError) → IsSteadySoFar faults faults_mid most most_mid may may_mid
    → Outside faults_mid faults_now most_mid most_now may_mid may_now r → Outside faults faults_now most most_now may may_now r
outside_on faults faults_mid faults_now most most_mid most_now may may_mid may_now r one two = record {
  limit = two.limit ∙ one.limit;
  later = omega (arith, one.still, two.later);
  failed = λ e. let rose = two.failed e in omega (arith, rose, one.still);
  still = λ e. two.still e ∙ one.still;
  steady = λ e. two.steady (one.steady e);
}

-- ---- waits

pub timed_front : (old now : Scene) (octets : List ℕ) (end : Option GiveUp) → IsTimed old.state → HasFedFront old now octets end → IsTimed now.state
timed_front old now octets end timed f = subst IsTimed (sym f.fed.ran.is_state) (timed_fed old.state old.partial f.fed.gone timed)
