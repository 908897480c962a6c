-- A run over a source and a sink, from its steps.
use Rattle.std.proofs.Common.{◌≡◌, ◌≤◌, ◌⊎◌, ℕ, List, [], ◌++◌, Option, Some, None, IfSome, length, refl, sym, ap, subst, ◌∙◌, inl, inr, append-nil}
use Rattle.std.proofs.KnownBytes.{Appends-nil, Appends-trans, Consumes-nil, Consumes-trans, Consumes-kept}
use Rattle.std.specs.Io.KnownBytes.{Appends, Consumes, Keeps, IsAtEnd}
use Rattle.jt_input.specs.Answer.{IsFault, RunsTelling, AnswersWhole, ReadsNoFurther, PrintsTaken, StopsAtWrite}
use Rattle.jt_input.specs.Reply.{Reply}
use Rattle.jt_input.specs.Running.{WritesOn, WritesRest, WritesEnd, WritesPart, Advances, Finishes}
use Rattle.jt_input.specs.Telling.{BeginsWith}
use Rattle.jt_input.specs.declared.status.Status.{Status}
use Rattle.jt_input.specs.declared.status.Status.TheVariants.{ReadFault}

module _ {A : Type 0} (answer : A → List ℕ → Reply) (asked : A) where
  -- a front of the source was taken, what is printed of it was written, and the input stays open
  pub record RunsOn (Stands : A → List ℕ → List ℕ → Type 0) (left left_now written written_now : Option (List ℕ)) : Type 0 where
    pub seen : List ℕ
    pub printed : List ℕ
    pub consumed : Consumes left left_now seen
    pub writes : Appends written written_now printed
    pub stands : Stands asked seen printed
    pub first : BeginsWith (answer asked) seen printed

  pub runs_first : (Stands : A → List ℕ → List ℕ → Type 0) (left written : Option (List ℕ)) → Stands asked [] [] → RunsOn Stands left left written written
  runs_first Stands left written stands = record {
    seen = [];
    printed = [];
    consumed = Consumes-nil left;
    writes = Appends-nil written;
    stands = stands;
    first = λ rest. ((answer asked rest).text, refl);
  }

  pub runs_more : (Stood Stands : A → List ℕ → List ℕ → Type 0) (left left_now left_next written written_now written_next : Option (List ℕ)) (piece : List ℕ)
      → RunsOn Stood left left_now written written_now → Consumes left_now left_next piece → WritesOn answer Stood Stands piece written_now written_next
      → RunsOn Stands left left_next written written_next
  runs_more Stood Stands left left_now left_next written written_now written_next piece on consumes wrote = record {
    seen = on.seen ++ piece;
    printed = on.printed ++ wrote.goes.added;
    consumed = Consumes-trans left left_now left_next on.seen piece on.consumed consumes;
    writes = rw (← wrote.goes.text_is) (Appends-trans written written_now written_next on.printed wrote.added on.writes wrote.writes);
    stands = wrote.goes.stands asked on.seen on.printed on.stands;
    first = wrote.goes.first asked on.seen on.printed on.stands;
  }

  -- the whole answer to what was taken was written, and nothing that may follow changes it
  pub record Final (HasTold : A → List ℕ → Type 0) (left left_end written written_end : Option (List ℕ)) (status : Status) : Type 0 where
    pub taken : List ℕ
    pub text : List ℕ
    pub consumed : Consumes left left_end taken
    pub writes : Appends written written_end text
    pub here : answer asked taken ≡ record { text = text; status = status }
    pub told : HasTold asked taken
    pub after : IsAtEnd left_end ⊎ ((rest : List ℕ) → (answer asked (taken ++ rest) ≡ record { text = text; status = status }) × HasTold asked (taken ++ rest))

  final_rest : (Stood : A → List ℕ → List ℕ → Type 0) (HasTold : A → List ℕ → Type 0) (left left_now left_end written written_now written_end : Option (List ℕ)) (piece : List ℕ) (status : Status)
      → RunsOn Stood left left_now written written_now → Consumes left_now left_end piece → WritesRest answer Stood HasTold piece written_now written_end status
      → Final HasTold left left_end written written_end status
  final_rest Stood HasTold left left_now left_end written written_now written_end piece status on consumes rest =
      let same : (printed : List ℕ) → printed ++ rest.settles.added ≡ printed ++ rest.added = λ printed. ap (λ (t : List ℕ). printed ++ t) (sym rest.settles.text_is) in
      let whole : (more : List ℕ) → answer asked ((on.seen ++ piece) ++ more) ≡ record { text = on.printed ++ rest.added; status = status } =
      λ more. rw (← same on.printed) (rest.settles.whole asked on.seen on.printed on.stands more) in
      let told : (more : List ℕ) → HasTold asked ((on.seen ++ piece) ++ more) = rest.settles.told asked on.seen on.printed on.stands in
      record {
        taken = on.seen ++ piece;
        text = on.printed ++ rest.added;
        consumed = Consumes-trans left left_now left_end on.seen piece on.consumed consumes;
        writes = Appends-trans written written_now written_end on.printed rest.added on.writes rest.writes;
        here = ap (answer asked) (sym (append-nil (on.seen ++ piece))) ∙ whole [];
        told = subst (HasTold asked) (append-nil (on.seen ++ piece)) (told []);
        after = inr (λ more. (whole more, told more));
      }

  final_end : (Stood : A → List ℕ → List ℕ → Type 0) (HasTold : A → List ℕ → Type 0) (left left_now left_end written written_now written_end : Option (List ℕ)) (status : Status)
      → RunsOn Stood left left_now written written_now → IsAtEnd left_end × Keeps left_now left_end → WritesEnd answer Stood HasTold written_now written_end status
      → Final HasTold left left_end written written_end status
  final_end Stood HasTold left left_now left_end written written_now written_end status on ended wrote = record {
    taken = on.seen;
    text = on.printed ++ wrote.added;
    consumed = Consumes-kept left left_now left_end on.seen on.consumed ended.1;
    writes = Appends-trans written written_now written_end on.printed wrote.added on.writes wrote.writes;
    here = wrote.ends.whole asked on.seen on.printed on.stands ∙ ap (λ (t : List ℕ). record { text = on.printed ++ t; status = status }) (sym wrote.ends.text_is);
    told = wrote.ends.told asked on.seen on.printed on.stands;
    after = inl ended.0;
  }

  final_runs : (HasTold : A → List ℕ → Type 0) (left left_end written written_end : Option (List ℕ)) (status : Status) → Final HasTold left left_end written written_end status
      → RunsTelling (answer asked) (HasTold asked) left left_end written written_end status
  final_runs HasTold left left_end written written_end status final = record {
    runs = record {
      taken = final.taken;
      consumed = final.consumed;
      answers = inl (rw (final.here) refl, rw (final.here) final.writes);
      settled = inr (
          elim final.after [
            | inl end ↦ inl end
            | inr all ↦ inr (λ rest. (all rest).0 ∙ sym final.here)
          ]
          );
    };
    holds = inr (
      final.told,
      elim final.after [
        | inl end ↦ inl end
        | inr all ↦ inr (λ rest. (all rest).1)
      ],
    );
  }

  whole_of : (HasTold : A → List ℕ → Type 0) (octets rest written_text : List ℕ) (written written_end : Option (List ℕ)) (status : Status) (taken text : List ℕ)
      → octets ≡ taken ++ rest → Appends written written_end text → answer asked taken ≡ record { text = text; status = status } → HasTold asked taken
      → IsAtEnd (Some rest) ⊎ ((more : List ℕ) → (answer asked (taken ++ more) ≡ record { text = text; status = status }) × HasTold asked (taken ++ more))
      → AnswersWhole (answer asked) (HasTold asked) status written written_end octets
  whole_of HasTold octets rest written_text written written_end status taken text is writes here told (inl end) =
      let same : octets ≡ taken = is ∙ ap (λ (r : List ℕ). taken ++ r) end ∙ append-nil taken in
      inr (rw (same, here) refl, rw (same, here) writes, rw same told)
  whole_of HasTold octets rest written_text written written_end status taken text is writes here told (inr all) =
      let one = all rest in
      inr (rw (is, one.0) refl, rw (is, one.0) writes, rw is one.1)

  final_whole : (HasTold : A → List ℕ → Type 0) (left left_end written written_end : Option (List ℕ)) (status : Status) → Final HasTold left left_end written written_end status
      → IfSome left (AnswersWhole (answer asked) (HasTold asked) status written written_end)
  final_whole HasTold None left_end written written_end status final = tt
  final_whole HasTold (Some octets) None written written_end status final = absurd final.consumed
  final_whole HasTold (Some octets) (Some rest) written written_end status final =
      whole_of HasTold octets rest [] written written_end status final.taken final.text final.consumed final.writes final.here final.told final.after

  fault_whole : (HasTold : A → List ℕ → Type 0) (left written written_end : Option (List ℕ)) (status : Status) → IsFault status
      → IfSome left (AnswersWhole (answer asked) (HasTold asked) status written written_end)
  fault_whole HasTold None written written_end status fault = tt
  fault_whole HasTold (Some octets) written written_end status fault = inl fault

  -- a part of what is printed of a piece was written
  runs_part : (Stood : A → List ℕ → List ℕ → Type 0) (HasTold : A → List ℕ → Type 0) (left left_now left_end written written_now written_end : Option (List ℕ)) (piece : List ℕ) (status : Status)
      → RunsOn Stood left left_now written written_now → Consumes left_now left_end piece → WritesPart answer Stood piece written_now written_end → IsFault status
      → RunsTelling (answer asked) (HasTold asked) left left_end written written_end status
  runs_part Stood HasTold left left_now left_end written written_now written_end piece status on consumes part fault =
      let whole = part.part asked on.seen on.printed on.stands on.first in
      record {
        runs = record {
          taken = on.seen ++ piece;
          consumed = Consumes-trans left left_now left_end on.seen piece on.consumed consumes;
          answers = inr (
            fault,
            (on.printed ++ part.added, whole.0, whole.1, Appends-trans written written_now written_end on.printed part.added on.writes part.writes),
          );
          settled = inl fault;
        };
        holds = inl fault;
      }

  pub consumes_nothing : (left_now left_end : Option (List ℕ)) → Keeps left_now left_end → Consumes left_now left_end []
  consumes_nothing left_now left_end kept = Consumes-kept left_now left_now left_end [] (Consumes-nil left_now) kept

  pub runs_last : (Stood Stands : A → List ℕ → List ℕ → Type 0) (HasTold : A → List ℕ → Type 0) (left left_now left_end written written_now written_end : Option (List ℕ)) (piece : List ℕ) (status : Status)
      → RunsOn Stood left left_now written written_now → Consumes left_now left_end piece → Advances (Some status) answer Stood Stands HasTold piece written_now written_end
      → RunsTelling (answer asked) (HasTold asked) left left_end written written_end status
      × IfSome left (AnswersWhole (answer asked) (HasTold asked) status written written_end)
  runs_last Stood Stands HasTold left left_now left_end written written_now written_end piece status on consumes (inl rest) =
      let final = final_rest Stood HasTold left left_now left_end written written_now written_end piece status on consumes rest in
      (final_runs HasTold left left_end written written_end status final, final_whole HasTold left left_end written written_end status final)
  runs_last Stood Stands HasTold left left_now left_end written written_now written_end piece status on consumes (inr part) = (
    runs_part Stood HasTold left left_now left_end written written_now written_end piece status on consumes part.1 part.0,
    fault_whole HasTold left written written_end status part.0,
  )

  pub runs_end : (Stood : A → List ℕ → List ℕ → Type 0) (HasTold : A → List ℕ → Type 0) (left left_now left_end written written_now written_end : Option (List ℕ)) (status : Status)
      → RunsOn Stood left left_now written written_now → IsAtEnd left_end × Keeps left_now left_end → Finishes status answer Stood HasTold written_now written_end
      → RunsTelling (answer asked) (HasTold asked) left left_end written written_end status
      × IfSome left (AnswersWhole (answer asked) (HasTold asked) status written written_end)
  runs_end Stood HasTold left left_now left_end written written_now written_end status on ended (inl wrote) =
      let final = final_end Stood HasTold left left_now left_end written written_now written_end status on ended wrote in
      (final_runs HasTold left left_end written written_end status final, final_whole HasTold left left_end written written_end status final)
  runs_end Stood HasTold left left_now left_end written written_now written_end status on ended (inr part) = (
    runs_part Stood HasTold left left_now left_end written written_now written_end [] status on (consumes_nothing left_now left_end ended.1) part.1 part.0,
    fault_whole HasTold left written written_end status part.0,
  )

  pub runs_failed : (Stood : A → List ℕ → List ℕ → Type 0) (HasTold : A → List ℕ → Type 0) (left left_now left_end written written_now : Option (List ℕ))
      → RunsOn Stood left left_now written written_now → Keeps left_now left_end
      → RunsTelling (answer asked) (HasTold asked) left left_end written written_now ReadFault
      × IfSome left (AnswersWhole (answer asked) (HasTold asked) ReadFault written written_now)
  runs_failed Stood HasTold left left_now left_end written written_now on kept =
      let part : WritesPart answer Stood [] written_now written_now = record {
        added = [];
        writes = Appends-nil written_now;
        part = λ one seen printed stood first. let all = first [] in (all.0, all.1 ∙ ap (λ (t : List ℕ). t ++ all.0) (sym (append-nil printed)));
      } in (
        runs_part Stood HasTold left left_now left_end written written_now written_now [] ReadFault on (consumes_nothing left_now left_end kept) part tt,
        fault_whole HasTold left written written_now ReadFault tt,
      )

  -- ---- how far it read, and what it wrote

  pub reads_no_further : (Stood Open : A → List ℕ → List ℕ → Type 0) (size : ℕ) (left left_now left_end written written_now : Option (List ℕ)) (piece : List ℕ)
      → ((seen printed : List ℕ) → Stood asked seen printed → Open asked seen printed)
      → RunsOn Stood left left_now written written_now → Consumes left_now left_end piece → length piece ≤ size → ReadsNoFurther (Open asked) size left left_end
  reads_no_further Stood Open size left left_now left_end written written_now piece opens on consumes fits = record {
    front = on.seen;
    last = piece;
    text = on.printed;
    consumed = Consumes-trans left left_now left_end on.seen piece on.consumed consumes;
    few = fits;
    open_before = opens on.seen on.printed on.stands;
  }

  pub prints_taken : (Stood Open : A → List ℕ → List ℕ → Type 0) (left left_now left_end written written_now : Option (List ℕ))
      → ((seen printed : List ℕ) → Stood asked seen printed → Open asked seen printed)
      → RunsOn Stood left left_now written written_now → Keeps left_now left_end → PrintsTaken (Open asked) left left_end written written_now
  prints_taken Stood Open left left_now left_end written written_now opens on kept = record {
    taken = on.seen;
    text = on.printed;
    consumed = Consumes-kept left left_now left_end on.seen on.consumed kept;
    writes = on.writes;
    open_behind = opens on.seen on.printed on.stands;
  }

  pub stops_at_write : (Stood Open : A → List ℕ → List ℕ → Type 0) (size : ℕ) (left left_now left_end written written_now written_end : Option (List ℕ)) (piece : List ℕ)
      → ((seen printed : List ℕ) → Stood asked seen printed → Open asked seen printed)
      → RunsOn Stood left left_now written written_now → Consumes left_now left_end piece → length piece ≤ size → WritesPart answer Stood piece written_now written_end
      → StopsAtWrite (answer asked) (Open asked) size left left_end written written_end
  stops_at_write Stood Open size left left_now left_end written written_now written_end piece opens on consumes fits part =
      let whole = part.part asked on.seen on.printed on.stands on.first in
      record {
        front = on.seen;
        last = piece;
        text = on.printed;
        consumed = Consumes-trans left left_now left_end on.seen piece on.consumed consumes;
        few = fits;
        open_before = opens on.seen on.printed on.stands;
        part = part.added;
        beyond = whole.0;
        of_answer = whole.1;
        writes = Appends-trans written written_now written_end on.printed part.added on.writes part.writes;
      }
