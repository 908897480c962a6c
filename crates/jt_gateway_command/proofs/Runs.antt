-- A run over a source and a sink, from the run of its lines.
use Rattle.std.proofs.Common.{◌≡◌, ◌⊎◌, ◌+◌, ◌^◌, ℕ, Bool, true, false, if◌then◌else◌, List, [], ◌∷◌, Option, Some, None, IfSome, refl, sym, subst, ◌∙◌, inl, inr, arith}
use Rattle.std.proofs.KnownBytes.{Appends-nil, Consumes-nil}
use Rattle.std.specs.Io.KnownBytes.{Appends, IsAtEnd}
use Rattle.jt_input.specs.Cutter.{Held, begun_of}
use Rattle.jt_input.specs.Answer.{IsFault, AnswersReply, AnswersWhole, HoldsOf, RunsTelling, ReadsNoFurther, PrintsTaken, StopsAtWrite}
use Rattle.jt_input.specs.Lines.{HasClosed, HasHeard, Outcome, answer_of, bad_outcome, printing}
use Rattle.jt_input.specs.Text.{lines_of}
use Rattle.jt_input.specs.declared.status.Status.{Status}
use Rattle.jt_input.specs.declared.status.Status.TheVariants as status
use Rattle.jt_gateway.specs.Claim.{EachReachedPasses}
use Rattle.jt_gateway.specs.Gateway.{GatewayScene, IsGateway, first_gateway, gateway_after_line, gateway_at_full, gateway_full, worlds_of}
use Rattle.jt_gateway_command.specs.Lines.{meaning}
use Rattle.jt_gateway_command.specs.Running.{IsTaken, PassedWhole, RunsGateway}
use Rattle.jt_gateway_command.specs.Script.{after_line, full_outcome, gateway_names_no_line, gateway_of, gateway_reply, outcome_of}
use Rattle.jt_gateway_command.specs.Texts.{event_text}
use Rattle.jt_gateway_command.specs.declared.reading.GatewayLine.{GatewayLine}
use Rattle.jt_gateway_command.specs.declared.reading.GatewayLine.TheVariants.{Passed, Event, Bad}

pub is_taken : (hearer : GatewayScene) (held : Held) (bad : Option ℕ) (front text : List ℕ) → HasHeard outcome_of first_gateway hearer held bad front text → IsTaken front text
is_taken hearer held bad front text heard = record {
  lines = heard.lines;
  begun = begun_of held;
  cuts = heard.cuts;
  within = rw (← heard.number) heard.begun;
  now = hearer;
  goes = λ more. rw (← heard.number) (heard.goes more);
}

-- ---- how it ends

-- Done, Refused, or a vault was full
abbrev IsPlain : Status → Type 0
IsPlain s = (s ≡ status.Done) ⊎ (s ≡ status.Refused) ⊎ (s ≡ status.StoreFault)

abbrev EndsPlainly : (GatewayScene → Outcome GatewayScene) → Type 0
EndsPlainly next = (g : GatewayScene) → IsPlain (next g).status

plain_if : (b : Bool) (x y : Outcome GatewayScene) → IsPlain x.status → IsPlain y.status → IsPlain (if b then x else y).status
plain_if true x y one other = one
plain_if false x y one other = other

plain_line : (said : GatewayLine) (g : GatewayScene) (number : ℕ) (next : GatewayScene → Outcome GatewayScene) → EndsPlainly next → IsPlain (after_line g number next said).status
plain_line Passed g number next later = later g
plain_line Bad g number next later = inr (inl refl)
plain_line (Event event) g number next later =
    let done = gateway_after_line g event in
    let on = printing (event_text g event done) (next done) in
    let full = full_outcome (gateway_at_full g event) in
    plain_if (gateway_names_no_line g event) (bad_outcome g number) (if gateway_full g event then full else on) (inr (inl refl))
    (plain_if (gateway_full g event) full on (inr (inr refl)) (later done))

plain : (lines : List (List ℕ)) (number : ℕ) → EndsPlainly (λ g. outcome_of g number lines)
plain [] number = λ g. inl refl
plain (line ∷ more) number = λ g. plain_line (meaning number line) g number (λ next. outcome_of next (number + 1) more) (plain more (number + 1))

ends_so : (s : Status) (script : List ℕ) (old now : Option (List ℕ)) → AnswersReply s (answer_of outcome_of first_gateway script) old now
    → (s ≡ status.Done) ⊎ (s ≡ status.Refused) ⊎ (s ≡ status.StoreFault) ⊎ IsFault s
ends_so s script old now (inr part) = inr (inr (inr part.0))
ends_so s script old now (inl told) = elim (plain (lines_of script) 1 first_gateway) [
  | inl done ↦ inl (told.0 ∙ done)
  | inr other ↦ elim other [
    | inl refused ↦ inr (inl (told.0 ∙ refused))
    | inr full ↦ inr (inr (inl (told.0 ∙ full)))
  ]
]

-- ---- the run

module _ (passes : EachReachedPasses) (hearer : GatewayScene) (bad : Option ℕ) where
  abbrev pub Holds : List ℕ → Type 0
  Holds script = HasClosed outcome_of first_gateway hearer bad script × IsGateway hearer

  passed_by : (script : List ℕ) → Holds script → PassedWhole (gateway_of script)
  passed_by script holds = subst PassedWhole (sym holds.0.left_is) (record { reached = holds.1.reached; passed = passes (worlds_of hearer) holds.1.reached })

  passed_so : (left : Option (List ℕ)) (script : List ℕ) (s : Status) → IsFault s ⊎ HoldsOf Holds left script → IsFault s ⊎ PassedWhole (gateway_of script)
  passed_so left script s (inl fault) = inl fault
  passed_so left script s (inr holds) = inr (passed_by script holds.0)

  whole_so : (left old now : Option (List ℕ)) (s : Status) → IfSome left (AnswersWhole (answer_of outcome_of first_gateway) Holds s old now)
      → IfSome left (λ script. IsFault s ⊎ ((s ≡ (gateway_reply script).status) × Appends old now (gateway_reply script).text × PassedWhole (gateway_of script)))
  unfolding gateway_reply
  whole_so None old now s whole = tt
  whole_so (Some script) old now s (inl fault) = inl fault
  whole_so (Some script) old now s (inr all) = inr (all.0, all.1, passed_by script all.2)

  pub runs : (left left_now old now : Option (List ℕ)) (s : Status)
      → RunsTelling (answer_of outcome_of first_gateway) Holds left left_now old now s
      → IfSome left (AnswersWhole (answer_of outcome_of first_gateway) Holds s old now)
      → ReadsNoFurther IsTaken (2 ^ 14) left left_now
      → (s ≡ status.ReadFault → PrintsTaken IsTaken left left_now old now)
      → (s ≡ status.WriteFault → StopsAtWrite (answer_of outcome_of first_gateway) IsTaken (2 ^ 14) left left_now old now)
      → (s ≡ status.Done → IsAtEnd left_now) → RunsGateway left left_now old now s
  unfolding gateway_reply
  runs left left_now old now s did whole no_further prints stops end = record {
    runs = did.runs;
    passed = passed_so left_now did.runs.taken s did.holds;
    whole = whole_so left old now s whole;
    no_further = no_further;
    prints_taken = prints;
    stops_at_write = stops;
    to_the_end = end;
    ends = ends_so s did.runs.taken old now did.runs.answers;
  }

-- no memory for anything
pub runs_nothing : (left written : Option (List ℕ)) → RunsGateway left left written written status.Memory
runs_nothing left written = record {
  runs = record { taken = []; consumed = Consumes-nil left; answers = inr (tt, ([], (gateway_reply []).text, refl, Appends-nil written)); settled = inl tt };
  passed = inl tt;
  whole = whole left;
  no_further = record {
    front = [];
    last = [];
    text = [];
    consumed = Consumes-nil left;
    few = omega arith;
    open_before = record { lines = []; begun = []; cuts = record { whole = refl; each = tt; unfinished = tt }; within = λ some. absurd (omega arith); now = first_gateway; goes = λ more. refl };
  };
  prints_taken = λ e. absurd cc;
  stops_at_write = λ e. absurd cc;
  to_the_end = λ e. absurd cc;
  ends = inr (inr (inr tt));
}
  where
    whole : (some : Option (List ℕ)) → IfSome some (λ script. IsFault status.Memory ⊎ ((status.Memory ≡ (gateway_reply script).status) × Appends written written (gateway_reply script).text × PassedWhole (gateway_of script)))
    whole None = tt
    whole (Some script) = inl tt
