-- What a step of a run wrote.
use Rattle.std.proofs.Common.{◌≡◌, ℕ, List, [], ◌++◌, Option, Some, None, sym, ap, subst, ◌∙◌, inl, inr, append_assoc, append-nil}
use Rattle.std.proofs.KnownBytes.{Appends-nil}
use Rattle.jt_outside.specs.Sink.{AppendsPrefix}
use Rattle.jt_input.specs.Reply.{Reply}
use Rattle.jt_input.specs.Running.{Writes, WritesOn, WritesRest, WritesPart, Advances, Finishes}
use Rattle.jt_input.specs.Telling.{GoesOn, Settles, TakesPiece, Ends}
use Rattle.jt_input.specs.declared.status.Status.{Status}

module _ {A : Type 0} (answer : A → List ℕ → Reply) (Stood Stands : A → List ℕ → List ℕ → Type 0) (HasTold : A → List ℕ → Type 0) where
  -- nothing was written, since memory was refused
  pub part_none : (piece : List ℕ) (written : Option (List ℕ)) → WritesPart answer Stood piece written written
  part_none piece written = record {
    added = [];
    writes = Appends-nil written;
    part = λ asked seen printed stood first. let one = first piece in (one.0, one.1 ∙ ap (λ (t : List ℕ). t ++ one.0) (sym (append-nil printed)));
  }

  -- a part of a text that is the front of what is printed
  of_front : (printed text front rest more : List ℕ) → text ≡ front ++ rest → (printed ++ text) ++ more ≡ (printed ++ front) ++ (rest ++ more)
  of_front printed text front rest more e = rw e (simp append_assoc)

  part_on : (piece text : List ℕ) (written now : Option (List ℕ)) → GoesOn answer Stood Stands piece [] text → AppendsPrefix written now text → WritesPart answer Stood piece written now
  part_on piece text written now goes prefix = record {
    added = prefix.0;
    writes = prefix.3;
    part = λ asked seen printed stood before.
        let one = goes.first asked seen printed stood [] in
        let whole : (answer asked (seen ++ piece)).text ≡ (printed ++ goes.added) ++ one.0 =
        ap (λ (xs : List ℕ). (answer asked xs).text) (sym (append-nil (seen ++ piece))) ∙ one.1 in
        (prefix.1 ++ one.0, whole ∙ of_front printed goes.added prefix.0 prefix.1 one.0 (sym goes.text_is ∙ prefix.2));
  }

  -- a part of the last text
  of_last : (printed text front rest : List ℕ) → text ≡ front ++ rest → printed ++ text ≡ (printed ++ front) ++ rest
  of_last printed text front rest e = rw e (sym (append_assoc printed front rest))

  part_last : (piece text : List ℕ) (status : Status) (written now : Option (List ℕ)) → Settles answer Stood HasTold piece [] text status → AppendsPrefix written now text
      → WritesPart answer Stood piece written now
  part_last piece text status written now settles prefix = record {
    added = prefix.0;
    writes = prefix.3;
    part = λ asked seen printed stood before.
        let whole = ap (answer asked) (sym (append-nil (seen ++ piece))) ∙ settles.whole asked seen printed stood [] in
        (prefix.1, ap (λ (r : Reply). r.text) whole ∙ of_last printed settles.added prefix.0 prefix.1 (sym settles.text_is ∙ prefix.2));
  }

  pub part_end : (text : List ℕ) (status : Status) (written now : Option (List ℕ)) → Ends answer Stood HasTold [] text status → AppendsPrefix written now text
      → WritesPart answer Stood [] written now
  part_end text status written now ends prefix = record {
    added = prefix.0;
    writes = prefix.3;
    part = λ asked seen printed stood before.
        let whole = ap (answer asked) (append-nil seen) ∙ ends.whole asked seen printed stood in
        (prefix.1, ap (λ (r : Reply). r.text) whole ∙ of_last printed ends.added prefix.0 prefix.1 (sym ends.text_is ∙ prefix.2));
  }

  -- a piece was taken, and what is printed of it was written or the sink failed
  pub advanced : (piece text : List ℕ) (written now : Option (List ℕ)) (settled result : Option Status) → TakesPiece settled answer Stood Stands HasTold piece [] text
      → Writes written now text settled result → Advances result answer Stood Stands HasTold piece written now
  advanced piece text written now None result takes (inl whole) =
      let on : WritesOn answer Stood Stands piece written now =
      record { added = text; writes = whole.1; goes = takes } in
      subst (λ (r : Option Status). Advances r answer Stood Stands HasTold piece written now) (sym whole.0) on
  advanced piece text written now None result takes (inr failed) =
      subst (λ (r : Option Status). Advances r answer Stood Stands HasTold piece written now) (sym failed.0) (inr (tt, part_on piece text written now takes failed.1))
  advanced piece text written now (Some status) result takes (inl whole) =
      let rest : WritesRest answer Stood HasTold piece written now status =
      record { added = text; writes = whole.1; settles = takes } in
      subst (λ (r : Option Status). Advances r answer Stood Stands HasTold piece written now) (sym whole.0) (inl rest)
  advanced piece text written now (Some status) result takes (inr failed) =
      subst (λ (r : Option Status). Advances r answer Stood Stands HasTold piece written now) (sym failed.0) (inr (tt, part_last piece text status written now takes failed.1))

  -- what was written, of a step that ended the run, is a part of the answer
  pub some_part : (piece : List ℕ) (written now : Option (List ℕ)) (status : Status) → Advances (Some status) answer Stood Stands HasTold piece written now
      → WritesPart answer Stood piece written now
  some_part piece written now status (inl rest) = record {
    added = rest.added;
    writes = rest.writes;
    part = λ asked seen printed stood before.
        let whole = ap (answer asked) (sym (append-nil (seen ++ piece))) ∙ rest.settles.whole asked seen printed stood [] in
        ([], ap (λ (r : Reply). r.text) whole ∙ ap (λ (t : List ℕ). printed ++ t) (sym rest.settles.text_is) ∙ sym (append-nil (printed ++ rest.added)));
  }
  some_part piece written now status (inr part) = part.1

  pub end_part : (written now : Option (List ℕ)) (status : Status) → Finishes status answer Stood HasTold written now → WritesPart answer Stood [] written now
  end_part written now status (inl wrote) = record {
    added = wrote.added;
    writes = wrote.writes;
    part = λ asked seen printed stood before.
        let whole = ap (answer asked) (append-nil seen) ∙ wrote.ends.whole asked seen printed stood in
        ([], ap (λ (r : Reply). r.text) whole ∙ ap (λ (t : List ℕ). printed ++ t) (sym wrote.ends.text_is) ∙ sym (append-nil (printed ++ wrote.added)));
  }
  end_part written now status (inr part) = part.1
