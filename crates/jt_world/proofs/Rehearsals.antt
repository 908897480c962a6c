-- A rehearsal over a source and a sink, from the run of its lines.
use Rattle.std.proofs.Common.{◌≡◌, ◌⊎◌, ℕ, ◌+◌, Bool, true, false, if◌then◌else◌, List, [], ◌∷◌, ◌++◌, Option, Some, None, IfSome, refl, sym, ap, subst, ◌∙◌, inl, inr, arith}
use Rattle.std.proofs.KnownBytes.{Appends-nil, Consumes-nil}
use Rattle.std.specs.Io.KnownBytes.{Appends, IsAtEnd}
use Rattle.jt_outside.proofs.Prefixes.{AppendsPrefix-all}
use Rattle.jt_outside.specs.Sink.{AppendsPrefix}
use Rattle.jt_value.specs.declared.limits.TheConstants.{FIX_LIMIT}
use Rattle.jt_input.specs.Cutter.{Held, begun_of}
use Rattle.jt_input.specs.Answer.{IsFault, AnswersReply, AnswersWhole, RunsTelling, ReadsNoFurther, StopsAtWrite}
use Rattle.jt_input.specs.Answer as answer
use Rattle.jt_input.specs.Lines.{Outcome, HasHeard, HasClosed, answer_of}
use Rattle.jt_input.specs.Reply.{Reply}
use Rattle.jt_input.specs.Text.{lines_of}
use Rattle.jt_input.specs.declared.status.Status.{Status}
use Rattle.jt_input.specs.declared.status.Status.TheVariants as status
use Rattle.jt_world.specs.Claim.{KeptWhole, EachReachedIsKeptWhole}
use Rattle.jt_play.specs.Playing.{Play, finds_full, names_no_line, play_after}
use Rattle.jt_play.specs.Scripts.{Scene, settings_in}
use Rattle.jt_script.specs.EventLines.{meaning}
use Rattle.jt_script.specs.declared.reading.EventLine.{EventLine}
use Rattle.jt_script.specs.declared.reading.EventLine.TheVariants.{Passed, Event, Bad}
use Rattle.jt_world.specs.declared.rehearsing.Rehearsed.{Rehearsed}
use Rattle.jt_world.specs.declared.rehearsing.Rehearsed.TheVariants as rehearsed
use Rattle.jt_world.specs.Hearing.{MayHear, bad_number, outcome, outcome_of}
use Rattle.jt_world.specs.Rehearsal.{End, Whole, BadAt, FullAt, Rehearsal, after_line, bad_at, first, full_at, goes_to, rehearsal, rehearsal_from, rehearsal_text, script_reply, script_status, the_identity, world_of}
use Rattle.jt_world.specs.Rehearsing.{IsHeard, IsSettled, TellsRehearsal, Rehearses, ending}
use Rattle.jt_world.specs.Rehearsing as rehearsing

-- ---- a rehearsal, and what came of its lines

-- the limit is that of the vault
abbrev pub IsKnown : End → Type 0
IsKnown Whole = Unit {0}
IsKnown (BadAt number) = Unit {0}
IsKnown (FullAt limit) = FIX_LIMIT ≡ limit

known_if : (b : Bool) (x y : Rehearsal) → IsKnown x.end → IsKnown y.end → IsKnown (if b then x else y).end
known_if true x y one other = one
known_if false x y one other = other

known_after : (p : Play) (number : ℕ) (next : Play → Rehearsal) → ((q : Play) → IsKnown (next q).end) → (said : EventLine) → IsKnown (after_line p number next said).end
known_after p number next known Passed = known p
known_after p number next known Bad = tt
known_after p number next known (Event event) =
    known_if (names_no_line p.world event) (bad_at number p) (if finds_full FIX_LIMIT p event then full_at p else goes_to p (play_after (settings_in the_identity) p event) next) tt
    (known_if (finds_full FIX_LIMIT p event) (full_at p) (goes_to p (play_after (settings_in the_identity) p event) next) refl (known (play_after (settings_in the_identity) p event)))

known_from : (p : Play) (number : ℕ) (lines : List (List ℕ)) → IsKnown (rehearsal_from p number lines).end
known_from p number [] = tt
known_from p number (line ∷ more) = known_after p number (λ next. rehearsal_from next (number + 1) more) (λ q. known_from q (number + 1) more) (meaning number line)

abbrev end_of : Option ℕ → Status → End
end_of (Some number) status = BadAt number
end_of None status.StoreFault = FullAt FIX_LIMIT
end_of None status = Whole

abbrev as_rehearsal : Outcome Scene → Rehearsal
as_rehearsal o = record { play = o.left.play; text = o.text; end = end_of o.bad o.status }

end_is : (end : End) → IsKnown end → end_of (bad_number end) (script_status end) ≡ end
end_is Whole known = refl
end_is (BadAt number) known = refl
end_is (FullAt limit) known = ap FullAt known

as_is : (s : Scene) (r : Rehearsal) → IsKnown r.end → as_rehearsal (outcome_of s r) ≡ r
as_is s r known = ap (λ (end : End). record r { end = end }) (end_is r.end known)

-- ---- how it ends

-- the way in which a rehearsal ends, by the status of its run and the bad line
pub record IsEnding (status : Status) (bad : Option ℕ) (result : Rehearsed) : Type 0 where
  pub same : (end : End) → IsKnown end → bad_number end ≡ bad → status ≡ script_status end → result ≡ ending end
  pub fault : IsFault status → rehearsing.IsFault result

done_same : (end : End) → status.Done ≡ script_status end → rehearsed.Done ≡ ending end
done_same Whole e = refl
done_same (BadAt number) e = absurd cc
done_same (FullAt limit) e = absurd cc

pub done : (bad : Option ℕ) → IsEnding status.Done bad rehearsed.Done
done bad = record { same = λ end known is e. done_same end e; fault = λ f. f }

number_or : Option ℕ → ℕ
number_or (Some number) = number
number_or None = 0

bad_same : (number : ℕ) (end : End) → bad_number end ≡ Some number → status.Refused ≡ script_status end → rehearsed.BadLine number ≡ ending end
unfolding number_or
bad_same number Whole is e = absurd cc
bad_same number (BadAt other) is e = ap (λ (o : Option ℕ). rehearsed.BadLine (number_or o)) (sym is)
bad_same number (FullAt limit) is e = absurd cc

pub bad_line : (number : ℕ) (bad : Option ℕ) → Some number ≡ bad → IsEnding status.Refused bad (rehearsed.BadLine number)
bad_line number bad one = record { same = λ end known is e. bad_same number end (is ∙ sym one) e; fault = λ f. absurd f }

full_same : (end : End) → IsKnown end → status.StoreFault ≡ script_status end → rehearsed.Full FIX_LIMIT ≡ ending end
full_same Whole known e = absurd cc
full_same (BadAt number) known e = absurd cc
full_same (FullAt limit) known e = ap rehearsed.Full known

pub full : (bad : Option ℕ) → IsEnding status.StoreFault bad (rehearsed.Full FIX_LIMIT)
full bad = record { same = λ end known is e. full_same end known e; fault = λ f. absurd f }

fault_same : (status : Status) (result : Rehearsed) (end : End) → IsFault status → status ≡ script_status end → result ≡ ending end
fault_same status result Whole fault e = absurd (subst IsFault e fault)
fault_same status result (BadAt number) fault e = absurd (subst IsFault e fault)
fault_same status result (FullAt limit) fault e = absurd (subst IsFault e fault)

pub read_fault : (bad : Option ℕ) → IsEnding status.ReadFault bad rehearsed.ReadFault
read_fault bad = record { same = λ end known is e. fault_same status.ReadFault rehearsed.ReadFault end tt e; fault = λ f. f }

pub write_fault : (bad : Option ℕ) → IsEnding status.WriteFault bad rehearsed.WriteFault
write_fault bad = record { same = λ end known is e. fault_same status.WriteFault rehearsed.WriteFault end tt e; fault = λ f. f }

pub memory : (bad : Option ℕ) → IsEnding status.Memory bad rehearsed.Memory
memory bad = record { same = λ end known is e. fault_same status.Memory rehearsed.Memory end tt e; fault = λ f. f }

-- ---- what is known where the whole script was told

module _ (s : Scene) (begins : s.play ≡ first) where
  abbrev Holds : Scene → Option ℕ → List ℕ → Type 0
  Holds scene bad script = HasClosed outcome s scene bad script × MayHear scene

  abbrev begun : List ℕ → Rehearsal
  begun script = rehearsal_from s.play 1 (lines_of script)

  begun_is : (script : List ℕ) → begun script ≡ rehearsal script
  unfolding rehearsal
  begun_is script = ap (λ (p : Play). rehearsal_from p 1 (lines_of script)) begins

  known_of : (script : List ℕ) → IsKnown (rehearsal script).end
  known_of script = subst (λ (r : Rehearsal). IsKnown r.end) (begun_is script) (known_from s.play 1 (lines_of script))

  answer_is : (script : List ℕ) → answer_of outcome s script ≡ record { text = (rehearsal script).text; status = script_status (rehearsal script).end }
  answer_is script = ap (λ (r : Rehearsal). record { text = r.text; status = script_status r.end }) (begun_is script)

  left_is : (scene : Scene) (bad : Option ℕ) (script : List ℕ) → Holds scene bad script → (rehearsal script).play ≡ scene.play
  left_is scene bad script holds = ap (λ (r : Rehearsal). r.play) (sym (begun_is script)) ∙ ap (λ (x : Scene). x.play) holds.0.left_is

  holds_bad : (scene : Scene) (bad : Option ℕ) (script : List ℕ) → Holds scene bad script → bad_number (rehearsal script).end ≡ bad
  holds_bad scene bad script holds = ap (λ (r : Rehearsal). bad_number r.end) (sym (begun_is script)) ∙ holds.0.bad_is

  holds_kept : EachReachedIsKeptWhole → (scene : Scene) (bad : Option ℕ) (script : List ℕ) → Holds scene bad script → KeptWhole (world_of script)
  holds_kept kept scene bad script holds = subst (λ (p : Play). KeptWhole p.world) (sym (left_is scene bad script holds)) (kept scene.play.world holds.1.reached)

  same_outcome : (a b : Outcome Scene) → a.left ≡ b.left → a.text ≡ b.text → a.bad ≡ b.bad → a.status ≡ b.status → as_rehearsal a ≡ as_rehearsal b
  same_outcome a b left text bad status = λ i. record { play = (left i).play; text = text i; end = end_of (bad i) (status i) }

  of_outcome : (script : List ℕ) → as_rehearsal (outcome s 1 (lines_of script)) ≡ rehearsal script
  of_outcome script = as_is s (begun script) (known_from s.play 1 (lines_of script)) ∙ begun_is script

  holds_same : (scene : Scene) (bad : Option ℕ) (script other : List ℕ) → Holds scene bad script → Holds scene bad other
      → answer_of outcome s script ≡ answer_of outcome s other → rehearsal script ≡ rehearsal other
  holds_same scene bad script other one two same =
      sym (of_outcome script)
      ∙ (same_outcome (outcome s 1 (lines_of script)) (outcome s 1 (lines_of other)) (one.0.left_is ∙ sym two.0.left_is)
      (ap (λ (r : Reply). r.text) same) (one.0.bad_is ∙ sym two.0.bad_is) (ap (λ (r : Reply). r.status) same)
      ∙ of_outcome other)

  status_is : (script : List ℕ) (status : Status) → status ≡ (answer_of outcome s script).status → status ≡ script_status (rehearsal script).end
  status_is script status is = is ∙ ap (λ (r : Reply). r.status) (answer_is script)

  text_is : (script : List ℕ) → (answer_of outcome s script).text ≡ rehearsal_text script
  text_is script = ap (λ (r : Reply). r.text) (answer_is script)

  ends_so : (scene : Scene) (bad : Option ℕ) (status : Status) (result : Rehearsed) (script : List ℕ) → IsEnding status bad result → status ≡ (answer_of outcome s script).status
      → Holds scene bad script → result ≡ ending (rehearsal script).end
  ends_so scene bad status result script is told holds = is.same (rehearsal script).end (known_of script) (holds_bad scene bad script holds) (status_is script status told)

  tells_so : (scene : Scene) (bad : Option ℕ) (status : Status) (result : Rehearsed) (script : List ℕ) (old now : Option (List ℕ)) → IsEnding status bad result
      → AnswersReply status (answer_of outcome s script) old now → (holds : IsFault status ⊎ Holds scene bad script) → TellsRehearsal result (rehearsal script) old now
  tells_so scene bad status result script old now is (inr part) holds = inr (is.fault part.0, subst (AppendsPrefix old now) (text_is script) part.1)
  tells_so scene bad status result script old now is (inl told) (inl fault) =
      inr (is.fault fault, AppendsPrefix-all old now (rehearsal_text script) (subst (Appends old now) (text_is script) told.1))
  tells_so scene bad status result script old now is (inl told) (inr holds) = inl (ends_so scene bad status result script is told.0 holds, subst (Appends old now) (text_is script) told.1)

  settled_so : (scene : Scene) (bad : Option ℕ) (status : Status) (result : Rehearsed) (script : List ℕ) (left : Option (List ℕ)) → IsEnding status bad result
      → IsFault status ⊎ answer.IsSettled (answer_of outcome s) left script
      → IsFault status ⊎ (Holds scene bad script × (IsAtEnd left ⊎ ((rest : List ℕ) → Holds scene bad (script ++ rest))))
      → rehearsing.IsFault result ⊎ IsSettled left script
  settled_so scene bad status result script left is (inl fault) holds = inl (is.fault fault)
  settled_so scene bad status result script left is (inr (inl end)) holds = inr (inl end)
  settled_so scene bad status result script left is (inr (inr all)) (inl fault) = inl (is.fault fault)
  settled_so scene bad status result script left is (inr (inr all)) (inr (held, inl end)) = inr (inl end)
  settled_so scene bad status result script left is (inr (inr all)) (inr (held, inr each)) =
      inr (inr (λ rest. holds_same scene bad (script ++ rest) script (each rest) held (all rest)))

  kept_so : EachReachedIsKeptWhole → (scene : Scene) (bad : Option ℕ) (status : Status) (result : Rehearsed) (script : List ℕ) → IsEnding status bad result
      → IsFault status ⊎ Holds scene bad script → rehearsing.IsFault result ⊎ KeptWhole (world_of script)
  kept_so kept scene bad status result script is (inl fault) = inl (is.fault fault)
  kept_so kept scene bad status result script is (inr holds) = inr (holds_kept kept scene bad script holds)

  -- what is held, without what may follow
  held_here : {F A B : Type 0} → F ⊎ (A × B) → F ⊎ A
  held_here (inl fault) = inl fault
  held_here (inr held) = inr held.0

  pub rehearses : EachReachedIsKeptWhole → (scene : Scene) (bad : Option ℕ) (status : Status) (result : Rehearsed) (left left_now old now : Option (List ℕ)) → IsEnding status bad result
      → RunsTelling (answer_of outcome s) (Holds scene bad) left left_now old now status → Rehearses left left_now old now result
  rehearses kept scene bad status result left left_now old now is did =
      let script = did.runs.taken in
      record {
        taken = script;
        consumed = did.runs.consumed;
        tells = tells_so scene bad status result script old now is did.runs.answers (held_here did.holds);
        settled = settled_so scene bad status result script left_now is did.runs.settled did.holds;
        kept = kept_so kept scene bad status result script is (held_here did.holds);
      }

  pub rehearses_whole : EachReachedIsKeptWhole → (scene : Scene) (bad : Option ℕ) (status : Status) (result : Rehearsed) (left old now : Option (List ℕ)) → IsEnding status bad result
      → IfSome left (AnswersWhole (answer_of outcome s) (Holds scene bad) status old now)
      → IfSome left (λ script. rehearsing.IsFault result ⊎ ((result ≡ ending (rehearsal script).end) × Appends old now (rehearsal_text script) × KeptWhole (world_of script)))
  rehearses_whole kept scene bad status result None old now is whole = tt
  rehearses_whole kept scene bad status result (Some script) old now is (inl fault) = inl (is.fault fault)
  rehearses_whole kept scene bad status result (Some script) old now is (inr whole) =
      inr (ends_so scene bad status result script is whole.0 whole.2, subst (Appends old now) (text_is script) whole.1, holds_kept kept scene bad script whole.2)

  -- ---- what does not come

  not_of : (status : Status) (script : List ℕ) (old now : Option (List ℕ)) → (IsFault status → ⊥) → ((end : End) → status ≡ script_status end → ⊥)
      → AnswersReply status (answer_of outcome s script) old now → ⊥
  not_of status script old now sound other (inl told) = other _ (status_is script status told.0)
  not_of status script old now sound other (inr part) = sound part.0

  by_cases : (scene : Scene) (bad : Option ℕ) (script : List ℕ) (left old now : Option (List ℕ)) → None ≡ bad → AnswersReply status.Refused (answer_of outcome s script) old now
      → IsFault status.Refused ⊎ answer.HoldsOf (Holds scene bad) left script → ⊥
  by_cases scene bad script left old now none (inr part) holds = part.0
  by_cases scene bad script left old now none (inl told) (inl fault) = fault
  by_cases scene bad script left old now none (inl told) (inr holds) = bad_other (rehearsal script).end (holds_bad scene bad script holds.0 ∙ sym none) (status_is script status.Refused told.0)
    where
      bad_other : (end : End) → bad_number end ≡ None → status.Refused ≡ script_status end → ⊥
      bad_other Whole is e = absurd cc
      bad_other (BadAt number) is e = absurd cc
      bad_other (FullAt limit) is e = absurd cc

  pub refused_bad : (scene : Scene) (bad : Option ℕ) (left left_now old now : Option (List ℕ)) → None ≡ bad
      → RunsTelling (answer_of outcome s) (Holds scene bad) left left_now old now status.Refused → ⊥
  refused_bad scene bad left left_now old now none did = by_cases scene bad did.runs.taken left_now old now none did.runs.answers did.holds

  net_other : (end : End) → status.NetFault ≡ script_status end → ⊥
  net_other Whole e = absurd cc
  net_other (BadAt number) e = absurd cc
  net_other (FullAt limit) e = absurd cc

  unsent_other : (end : End) → status.Unsent ≡ script_status end → ⊥
  unsent_other Whole e = absurd cc
  unsent_other (BadAt number) e = absurd cc
  unsent_other (FullAt limit) e = absurd cc

  pub not_net : (scene : Scene) (bad : Option ℕ) (left left_now old now : Option (List ℕ)) → RunsTelling (answer_of outcome s) (Holds scene bad) left left_now old now status.NetFault → ⊥
  not_net scene bad left left_now old now did = not_of status.NetFault did.runs.taken old now (λ f. f) net_other did.runs.answers

  pub not_unsent : (scene : Scene) (bad : Option ℕ) (left left_now old now : Option (List ℕ)) → RunsTelling (answer_of outcome s) (Holds scene bad) left left_now old now status.Unsent → ⊥
  not_unsent scene bad left left_now old now did = not_of status.Unsent did.runs.taken old now (λ f. f) unsent_other did.runs.answers

  -- ---- how far it read, and what it wrote

  from_first : (number : ℕ) (lines : List (List ℕ)) → rehearsal_from s.play number lines ≡ rehearsal_from first number lines
  from_first number lines = ap (λ (p : Play). rehearsal_from p number lines) begins

  pub is_heard : (scene : Scene) (held : Held) (bad : Option ℕ) (front text : List ℕ) → HasHeard outcome s scene held bad front text → IsHeard front text
  is_heard scene held bad front text heard = record {
    lines = heard.lines;
    begun = begun_of held;
    cuts = heard.cuts;
    within = rw (← heard.number) heard.begun;
    play = scene.play;
    goes = λ more.
        let rest = rehearsal_from scene.play (held.number + 1) more in
        sym (from_first 1 (heard.lines ++ more))
        ∙ (sym (as_is s (rehearsal_from s.play 1 (heard.lines ++ more)) (known_from s.play 1 (heard.lines ++ more)))
        ∙ (ap as_rehearsal (heard.goes more)
        ∙ (ap (λ (r : Rehearsal). record r { text = text ++ r.text }) (as_is scene rest (known_from scene.play (held.number + 1) more))
        ∙ ap (λ (n : ℕ). record { play = (rehearsal_from scene.play (n + 1) more).play; text = text ++ (rehearsal_from scene.play (n + 1) more).text; end = (rehearsal_from scene.play (n + 1) more).end }) heard.number)));
  }

  -- the answer of the run of lines is that of the script
  pub stops_so : (size : ℕ) (left left_now old now : Option (List ℕ)) → StopsAtWrite (answer_of outcome s) IsHeard size left left_now old now
      → StopsAtWrite script_reply IsHeard size left left_now old now
  unfolding script_reply
  stops_so size left left_now old now stops = record {
    front = stops.front;
    last = stops.last;
    text = stops.text;
    consumed = stops.consumed;
    few = stops.few;
    open_before = stops.open_before;
    part = stops.part;
    beyond = stops.beyond;
    of_answer = sym (text_is (stops.front ++ stops.last)) ∙ stops.of_answer;
    writes = stops.writes;
  }

-- no memory for anything
pub reads_nothing : (most : ℕ) (left : Option (List ℕ)) → ReadsNoFurther IsHeard most left left
reads_nothing most left = record {
  front = [];
  last = [];
  text = [];
  consumed = Consumes-nil left;
  few = omega arith;
  open_before = record { lines = []; begun = []; cuts = record { whole = refl; each = tt; unfinished = tt }; within = λ some. absurd (omega arith); play = first; goes = λ more. refl };
}

pub runs_nothing : (left written : Option (List ℕ)) → Rehearses left left written written rehearsed.Memory
runs_nothing left written = record {
  taken = [];
  consumed = Consumes-nil left;
  tells = inr (tt, ([], rehearsal_text [], refl, Appends-nil written));
  settled = inl tt;
  kept = inl tt;
}
