-- Rehearsals, as runs of the program.
use Rattle.std.proofs.Common.{◌≡◌, ◌≢◌, ◌⊎◌, ◌+◌, ◌^◌, ℕ, Bool, true, false, if◌then◌else◌, List, [], ◌∷◌, Option, Some, None, IfSome, refl, ap, sym, subst, ◌∙◌, inl, inr}
use Rattle.std.specs.Io.KnownBytes.{Appends, IsAtEnd}
use Rattle.jt_value.specs.declared.limits.TheConstants.{FIX_LIMIT}
use Rattle.jt_world.specs.Claim.{KeptWhole}
use Rattle.jt_play.specs.Playing.{Play, finds_full, names_no_line}
use Rattle.jt_script.specs.declared.reading.EventLine.{EventLine}
use Rattle.jt_script.specs.declared.reading.EventLine.TheVariants.{Passed, Event, Bad}
use Rattle.jt_script.specs.EventLines.{meaning}
use Rattle.jt_world.specs.declared.rehearsing.Rehearsed.{Rehearsed}
use Rattle.jt_world.specs.declared.rehearsing.Rehearsed.TheVariants as rehearsed
use Rattle.jt_world.specs.Made.{made, made_reply, make_lines}
use Rattle.jt_world.specs.Rehearsal.{End, Whole, BadAt, FullAt, Rehearsal, after_line, first, rehearsal, rehearsal_from, rehearsal_text, world_of, script_status, script_reply}
use Rattle.jt_world.specs.Rehearsing.{Makes, Rehearses, ending}
use Rattle.jt_world.specs.Rehearsing as rehearsing
use Rattle.jt_input.specs.Answer.{AnswersReply, IsFault, PrintsTaken, ReadsNoFurther, StopsAtWrite}
use Rattle.jt_input.specs.Text.{lines_of}
use Rattle.jt_cli.specs.Acting.{Acts}
use Rattle.jt_cli.specs.Script.{RunsScript, status_of}
use Rattle.jt_cli.specs.Statuses.{IsWithoutLinks}
use Rattle.jt_cli.specs.declared.task.Task.{Task}
use Rattle.jt_cli.specs.declared.task.Task.TheVariants.{Rehearse, Make}
use Rattle.jt_input.specs.declared.status.Status.{Status}
use Rattle.jt_input.specs.declared.status.Status.TheVariants as status

-- ---- the statuses of the ways in which a rehearsal ends

same : (end : End) → status_of (ending end) ≡ script_status end
same Whole = refl
same (BadAt number) = refl
same (FullAt limit) = refl

fault_of : (result : Rehearsed) → rehearsing.IsFault result → IsFault (status_of result)
fault_of rehearsed.Done fault = absurd fault
fault_of (rehearsed.BadLine number) fault = absurd fault
fault_of rehearsed.ReadFault fault = tt
fault_of rehearsed.WriteFault fault = tt
fault_of (rehearsed.Full limit) fault = absurd fault
fault_of rehearsed.Memory fault = tt

links_of : (result : Rehearsed) → IsWithoutLinks (status_of result)
links_of rehearsed.Done = tt
links_of (rehearsed.BadLine number) = tt
links_of rehearsed.ReadFault = tt
links_of rehearsed.WriteFault = tt
links_of (rehearsed.Full limit) = tt
links_of rehearsed.Memory = tt

ends_so : (result : Rehearsed) (end : End) → result ≡ ending end → status_of result ≡ script_status end
ends_so result end is = ap status_of is ∙ same end

pub without_links : (result : Rehearsed) (s : Status) → s ≡ status_of result → IsWithoutLinks s
without_links result s is = subst IsWithoutLinks (sym is) (links_of result)

pub not_usage : (result : Rehearsed) (s : Status) → s ≡ status_of result → s ≢ status.Usage
not_usage rehearsed.Done s is e = cc (is, e)
not_usage (rehearsed.BadLine number) s is e = cc (is, e)
not_usage rehearsed.ReadFault s is e = cc (is, e)
not_usage rehearsed.WriteFault s is e = cc (is, e)
not_usage (rehearsed.Full limit) s is e = cc (is, e)
not_usage rehearsed.Memory s is e = cc (is, e)

pub is_done : (result : Rehearsed) (s : Status) → s ≡ status_of result → s ≡ status.Done → result ≡ rehearsed.Done
is_done rehearsed.Done s is e = refl
is_done (rehearsed.BadLine number) s is e = absurd (cc (is, e))
is_done rehearsed.ReadFault s is e = absurd (cc (is, e))
is_done rehearsed.WriteFault s is e = absurd (cc (is, e))
is_done (rehearsed.Full limit) s is e = absurd (cc (is, e))
is_done rehearsed.Memory s is e = absurd (cc (is, e))

pub is_read_fault : (result : Rehearsed) (s : Status) → s ≡ status_of result → s ≡ status.ReadFault → result ≡ rehearsed.ReadFault
is_read_fault rehearsed.Done s is e = absurd (cc (is, e))
is_read_fault (rehearsed.BadLine number) s is e = absurd (cc (is, e))
is_read_fault rehearsed.ReadFault s is e = refl
is_read_fault rehearsed.WriteFault s is e = absurd (cc (is, e))
is_read_fault (rehearsed.Full limit) s is e = absurd (cc (is, e))
is_read_fault rehearsed.Memory s is e = absurd (cc (is, e))

pub is_write_fault : (result : Rehearsed) (s : Status) → s ≡ status_of result → s ≡ status.WriteFault → result ≡ rehearsed.WriteFault
is_write_fault rehearsed.Done s is e = absurd (cc (is, e))
is_write_fault (rehearsed.BadLine number) s is e = absurd (cc (is, e))
is_write_fault rehearsed.ReadFault s is e = absurd (cc (is, e))
is_write_fault rehearsed.WriteFault s is e = refl
is_write_fault (rehearsed.Full limit) s is e = absurd (cc (is, e))
is_write_fault rehearsed.Memory s is e = absurd (cc (is, e))

-- ---- a vault that is full has so many fixes that are not accepted

abbrev IsFullAtLimit : Rehearsal → Type 0
IsFullAtLimit r = (limit : ℕ) → r.end ≡ FullAt limit → limit ≡ FIX_LIMIT

one_of : (bad full : Bool) (a b c : Rehearsal) → IsFullAtLimit a → IsFullAtLimit b → IsFullAtLimit c → IsFullAtLimit (if bad then a else if full then b else c)
one_of true full a b c of_a of_b of_c = of_a
one_of false true a b c of_a of_b of_c = of_b
one_of false false a b c of_a of_b of_c = of_c

own_limit : (n limit : ℕ) → FullAt n ≡ FullAt limit → limit ≡ n
own_limit n limit e = cc e

full_line : (said : EventLine) (p : Play) (number : ℕ) (next : Play → Rehearsal) → ((q : Play) → IsFullAtLimit (next q)) → IsFullAtLimit (after_line p number next said)
full_line Passed p number next later = later p
full_line Bad p number next later = λ limit e. absurd cc
full_line (Event e) p number next later =
    one_of (names_no_line p.world e) (finds_full FIX_LIMIT p e) _ _ _ (λ limit is. absurd cc) (own_limit FIX_LIMIT) (later _)

full_from : (lines : List (List ℕ)) (p : Play) (number : ℕ) → IsFullAtLimit (rehearsal_from p number lines)
full_from [] p number = λ limit e. absurd cc
full_from (line ∷ more) p number = full_line (meaning number line) p number (λ q. rehearsal_from q (number + 1) more) (λ q. full_from more q (number + 1))

full_end : (end : End) → status.StoreFault ≡ script_status end → ((limit : ℕ) → end ≡ FullAt limit → limit ≡ FIX_LIMIT) → end ≡ FullAt FIX_LIMIT
full_end Whole e at = absurd cc
full_end (BadAt number) e at = absurd cc
full_end (FullAt limit) e at = ap FullAt (at limit refl)

no_fault : (s : Status) → s ≡ status.StoreFault → IsFault s → ⊥
no_fault s e fault = subst IsFault e fault

pub full_script : (script : List ℕ) (s : Status) (old now : Option (List ℕ)) → AnswersReply s (script_reply script) old now → s ≡ status.StoreFault
    → (rehearsal script).end ≡ FullAt FIX_LIMIT
unfolding script_reply rehearsal
full_script script s old now (inl told) e = full_end _ (sym e ∙ told.0) (full_from (lines_of script) first 1)
full_script script s old now (inr part) e = absurd (no_fault s e part.0)

pub full_made : (count : ℕ) (s : Status) (old now : Option (List ℕ)) → AnswersReply s (made_reply count) old now → s ≡ status.StoreFault
    → (made count).end ≡ FullAt FIX_LIMIT
unfolding made_reply made
full_made count s old now (inl told) e = full_end _ (sym e ∙ told.0) (full_from (make_lines count) first 1)
full_made count s old now (inr part) e = absurd (no_fault s e part.0)

-- ---- runs

runs_so : (left left_now old now : Option (List ℕ)) (result : Rehearsed) → Rehearses left left_now old now result → RunsScript left left_now old now (status_of result)
unfolding script_reply
runs_so left left_now old now result did = record {
  runs = record {
    taken = did.taken;
    consumed = did.consumed;
    answers = elim did.tells [
      | inl told ↦ inl (ends_so result (rehearsal did.taken).end told.0, told.1)
      | inr part ↦ inr (fault_of result part.0, part.1)
    ];
    settled = elim did.settled [
      | inl fault ↦ inl (fault_of result fault)
      | inr settled ↦ inr (
          elim settled [
            | inl end ↦ inl end
            | inr final ↦ inr (λ rest. ap (λ (r : Rehearsal). record { text = r.text; status = script_status r.end }) (final rest))
          ]
          )
    ];
  };
  kept = elim did.kept [
    | inl fault ↦ inl (fault_of result fault)
    | inr kept ↦ inr kept
  ];
}

pub runs_script : (left left_now old now : Option (List ℕ)) (result : Rehearsed) (s : Status) → s ≡ status_of result
    → Rehearses left left_now old now result → RunsScript left left_now old now s
runs_script left left_now old now result s is did = subst (λ (t : Status). RunsScript left left_now old now t) (sym is) (runs_so left left_now old now result did)

whole_so : (left old now : Option (List ℕ)) (result : Rehearsed)
    → IfSome left (λ script. rehearsing.IsFault result ⊎ ((result ≡ ending (rehearsal script).end) × Appends old now (rehearsal_text script) × KeptWhole (world_of script)))
    → IfSome left (λ script. IsFault (status_of result) ⊎ ((status_of result ≡ (script_reply script).status) × Appends old now (script_reply script).text × KeptWhole (world_of script)))
unfolding script_reply
whole_so None old now result told = tt
whole_so (Some script) old now result (inl fault) = inl (fault_of result fault)
whole_so (Some script) old now result (inr whole) = inr (ends_so result (rehearsal script).end whole.0, whole.1, whole.2)

pub runs_whole : (left old now : Option (List ℕ)) (result : Rehearsed) (s : Status) → s ≡ status_of result
    → IfSome left (λ script. rehearsing.IsFault result ⊎ ((result ≡ ending (rehearsal script).end) × Appends old now (rehearsal_text script) × KeptWhole (world_of script)))
    → IfSome left (λ script. IsFault s ⊎ ((s ≡ (script_reply script).status) × Appends old now (script_reply script).text × KeptWhole (world_of script)))
runs_whole left old now result s is whole =
    subst (λ (t : Status). IfSome left (λ script. IsFault t ⊎ ((t ≡ (script_reply script).status) × Appends old now (script_reply script).text × KeptWhole (world_of script)))) (sym is)
    (whole_so left old now result whole)

-- ---- a script that is made

made_so : (count : ℕ) (old now : Option (List ℕ)) (result : Rehearsed) → Makes count old now result → AnswersReply (status_of result) (made_reply count) old now
unfolding made_reply
made_so count old now result (inl told) = inl (ends_so result (made count).end told.0, told.1)
made_so count old now result (inr part) = inr (fault_of result part.0, part.1)

pub made_answers : (count : ℕ) (old now : Option (List ℕ)) (result : Rehearsed) (s : Status) → s ≡ status_of result → Makes count old now result
    → AnswersReply s (made_reply count) old now
made_answers count old now result s is makes = subst (λ (t : Status). AnswersReply t (made_reply count) old now) (sym is) (made_so count old now result makes)

kept_so : (count : ℕ) (old now : Option (List ℕ)) (result : Rehearsed) → Makes count old now result → IsFault (status_of result) ⊎ KeptWhole (made count).play.world
kept_so count old now result (inl told) = inr told.2
kept_so count old now result (inr part) = inl (fault_of result part.0)

pub made_kept : (count : ℕ) (old now : Option (List ℕ)) (result : Rehearsed) (s : Status) → s ≡ status_of result → Makes count old now result
    → IsFault s ⊎ KeptWhole (made count).play.world
made_kept count old now result s is makes = subst (λ (t : Status). IsFault t ⊎ KeptWhole (made count).play.world) (sym is) (kept_so count old now result makes)

-- ---- what a task does

pub plays : (task : Task) (left left_now old now : Option (List ℕ)) (s : Status) → task ≡ Rehearse → RunsScript left left_now old now s
    → IfSome left (λ script. IsFault s ⊎ ((s ≡ (script_reply script).status) × Appends old now (script_reply script).text × KeptWhole (world_of script)))
    → ReadsNoFurther rehearsing.IsHeard (2 ^ 14) left left_now
    → (s ≡ status.ReadFault → PrintsTaken rehearsing.IsHeard left left_now old now)
    → (s ≡ status.WriteFault → StopsAtWrite script_reply rehearsing.IsHeard (2 ^ 14) left left_now old now)
    → (s ≡ status.Done → IsAtEnd left_now) → IsWithoutLinks s → Acts task left left_now old now s
plays task left left_now old now s is runs whole no_further prints stops end links =
    subst (λ (t : Task). Acts t left left_now old now s) (sym is) (record {
      runs = runs;
      whole = whole;
      no_further = no_further;
      prints_taken = prints;
      stops_at_write = stops;
      to_the_end = end;
      store_fault = full_script runs.runs.taken s old now runs.runs.answers;
      without_links = links;
    })

pub makes : (task : Task) (count : ℕ) (left old now : Option (List ℕ)) (s : Status) → task ≡ Make count → AnswersReply s (made_reply count) old now
    → IsFault s ⊎ KeptWhole (made count).play.world → s ≢ status.ReadFault → IsWithoutLinks s → Acts task left left old now s
makes task count left old now s is answers kept not_read links =
    subst (λ (t : Task). Acts t left left old now s) (sym is) (record {
      reads_nothing = refl;
      answers = answers;
      kept = kept;
      store_fault = full_made count s old now answers;
      not_read_fault = not_read;
      without_links = links;
    })
