-- A run over a source and a sink, from the run of its lines.
use Rattle.std.proofs.Common.{◌≡◌, ◌⊎◌, ◌+◌, ◌^◌, ℕ, Bool, true, false, if◌then◌else◌, List, [], ◌∷◌, Option, Some, None, IfSome, refl, sym, subst, ◌∙◌, inl, inr, arith}
use Rattle.std.proofs.KnownBytes.{Appends-nil, Consumes-nil}
use Rattle.std.specs.Io.KnownBytes.{Appends, IsAtEnd}
use Rattle.jt_input.specs.Cutter.{Held, begun_of}
use Rattle.jt_input.specs.Answer.{IsFault, AnswersReply, AnswersWhole, HoldsOf, RunsTelling, ReadsNoFurther, PrintsTaken, StopsAtWrite}
use Rattle.jt_input.specs.Lines.{HasClosed, HasHeard, Outcome, answer_of, bad_outcome, printing}
use Rattle.jt_input.specs.Text.{lines_of}
use Rattle.jt_input.specs.declared.status.Status.{Status}
use Rattle.jt_input.specs.declared.status.Status.TheVariants as status
use Rattle.jt_order_octets.specs.Claim.{EachReachedIsObeyed, NoneIsRefused, AtMostOneIsAhead}
use Rattle.jt_order_octets.specs.Reaching.{Reached}
use Rattle.jt_order_play.specs.Playing.{finds_full, names_no_line}
use Rattle.jt_order_play.specs.Scripts.{OrderScene}
use Rattle.jt_order_command.specs.Lines.{meaning}
use Rattle.jt_order_command.specs.Running.{IsTaken, ObeyedWhole, RunsOrders}
use Rattle.jt_order_command.specs.Script.{after_line, round_limit_outcome, first_scene, full_outcome, passes_round_limit, order_reply, outcome_of, scene_after, world_of}
use Rattle.jt_order_command.specs.Texts.{event_text}
use Rattle.jt_order_command.specs.declared.reading.OrderLine.{OrderLine}
use Rattle.jt_order_command.specs.declared.reading.OrderLine.TheVariants.{Passed, Event, Bad}

pub is_taken : (hearer : OrderScene) (held : Held) (bad : Option ℕ) (front text : List ℕ) → HasHeard outcome_of first_scene hearer held bad front text → IsTaken front text
is_taken hearer held bad front text heard = record {
  lines = heard.lines;
  begun = begun_of held;
  cuts = heard.cuts;
  within = rw (← heard.number) heard.begun;
  now = hearer;
  goes = λ more. rw (← heard.number) (heard.goes more);
}

-- ---- how it ends

-- Done, Refused, the book was full, or a `run` never ended
abbrev IsPlain : Status → Type 0
IsPlain s = (s ≡ status.Done) ⊎ (s ≡ status.Refused) ⊎ (s ≡ status.StoreFault) ⊎ IsFault s

abbrev EndsPlainly : (OrderScene → Outcome OrderScene) → Type 0
EndsPlainly next = (s : OrderScene) → IsPlain (next s).status

plain_if : (b : Bool) (x y : Outcome OrderScene) → IsPlain x.status → IsPlain y.status → IsPlain (if b then x else y).status
plain_if true x y one other = one
plain_if false x y one other = other

plain_line : (said : OrderLine) (s : OrderScene) (number : ℕ) (next : OrderScene → Outcome OrderScene) → EndsPlainly next → IsPlain (after_line s number next said).status
plain_line Passed s number next later = later s
plain_line Bad s number next later = inr (inl refl)
plain_line (Event event) s number next later =
    let done = scene_after s event in
    let on = printing (event_text s.play.world done.play.world) (next done) in
    let ran = if passes_round_limit s.play event then round_limit_outcome s else on in
    let full = if finds_full s.play.world event then full_outcome s else ran in
    plain_if (names_no_line s.play.world event) (bad_outcome s number) full (inr (inl refl))
    (plain_if (finds_full s.play.world event) (full_outcome s) ran (inr (inr (inl refl)))
    (plain_if (passes_round_limit s.play event) (round_limit_outcome s) on (inr (inr (inr tt))) (later done)))

plain : (lines : List (List ℕ)) (number : ℕ) → EndsPlainly (λ s. outcome_of s number lines)
plain [] number = λ s. inl refl
plain (line ∷ more) number = λ s. plain_line (meaning number line) s number (λ next. outcome_of next (number + 1) more) (plain more (number + 1))

ends_so : (s : Status) (script : List ℕ) (old now : Option (List ℕ)) → AnswersReply s (answer_of outcome_of first_scene script) old now
    → (s ≡ status.Done) ⊎ (s ≡ status.Refused) ⊎ (s ≡ status.StoreFault) ⊎ IsFault s
ends_so s script old now (inr part) = inr (inr (inr part.0))
ends_so s script old now (inl told) = subst IsPlain (sym told.0) (plain (lines_of script) 1 first_scene)

-- ---- the world

-- ---- the run

module _ (each : EachReachedIsObeyed) (none : NoneIsRefused) (single : AtMostOneIsAhead) (hearer : OrderScene) (bad : Option ℕ) where
  abbrev pub Holds : List ℕ → Type 0
  Holds script = HasClosed outcome_of first_scene hearer bad script × Reached hearer.play.world

  obeyed_by : (script : List ℕ) → Holds script → ObeyedWhole (world_of script)
  obeyed_by script holds = subst (λ (s : OrderScene). ObeyedWhole s.play.world) (sym holds.0.left_is)
      (record { reached = holds.1; obeyed = each hearer.play.world holds.1; none_refused = none hearer.play.world holds.1; one = single hearer.play.world holds.1 })

  obeyed_so : (left : Option (List ℕ)) (script : List ℕ) (s : Status) → IsFault s ⊎ HoldsOf Holds left script → IsFault s ⊎ ObeyedWhole (world_of script)
  obeyed_so left script s (inl fault) = inl fault
  obeyed_so left script s (inr holds) = inr (obeyed_by script holds.0)

  whole_so : (left old now : Option (List ℕ)) (s : Status) → IfSome left (AnswersWhole (answer_of outcome_of first_scene) Holds s old now)
      → IfSome left (λ script. IsFault s ⊎ ((s ≡ (order_reply script).status) × Appends old now (order_reply script).text × ObeyedWhole (world_of script)))
  unfolding order_reply
  whole_so None old now s whole = tt
  whole_so (Some script) old now s (inl fault) = inl fault
  whole_so (Some script) old now s (inr all) = inr (all.0, all.1, obeyed_by script all.2)

  pub runs : (left left_now old now : Option (List ℕ)) (s : Status)
      → RunsTelling (answer_of outcome_of first_scene) Holds left left_now old now s
      → IfSome left (AnswersWhole (answer_of outcome_of first_scene) Holds s old now)
      → ReadsNoFurther IsTaken (2 ^ 14) left left_now
      → (s ≡ status.ReadFault → PrintsTaken IsTaken left left_now old now)
      → (s ≡ status.WriteFault → StopsAtWrite (answer_of outcome_of first_scene) IsTaken (2 ^ 14) left left_now old now)
      → (s ≡ status.Done → IsAtEnd left_now) → RunsOrders left left_now old now s
  unfolding order_reply
  runs left left_now old now s did whole no_further prints stops end = record {
    runs = did.runs;
    obeyed = obeyed_so left_now did.runs.taken s did.holds;
    whole = whole_so left old now s whole;
    no_further = no_further;
    prints_taken = prints;
    stops_at_write = stops;
    to_the_end = end;
    ends = ends_so s did.runs.taken old now did.runs.answers;
  }

-- no memory for anything
pub runs_nothing : (left written : Option (List ℕ)) → RunsOrders left left written written status.Memory
runs_nothing left written = record {
  runs = record { taken = []; consumed = Consumes-nil left; answers = inr (tt, ([], (order_reply []).text, refl, Appends-nil written)); settled = inl tt };
  obeyed = inl tt;
  whole = whole left;
  no_further = record {
    front = [];
    last = [];
    text = [];
    consumed = Consumes-nil left;
    few = omega arith;
    open_before = record { lines = []; begun = []; cuts = record { whole = refl; each = tt; unfinished = tt }; within = λ some. absurd (omega arith); now = first_scene; goes = λ more. refl };
  };
  prints_taken = λ e. absurd cc;
  stops_at_write = λ e. absurd cc;
  to_the_end = λ e. absurd cc;
  ends = inr (inr (inr tt));
}
  where
    whole : (some : Option (List ℕ)) → IfSome some (λ script. IsFault status.Memory ⊎ ((status.Memory ≡ (order_reply script).status) × Appends written written (order_reply script).text × ObeyedWhole (world_of script)))
    whole None = tt
    whole (Some script) = inl tt
