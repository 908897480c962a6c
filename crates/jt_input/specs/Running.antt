-- How far a run over a source and a sink has come. A step function for the proofs.
use Rattle.std.specs.Prelude.{◌≡◌, ℕ, ◌⊎◌, List, [], ◌++◌, Option, Some, None}
use Rattle.std.specs.Io.KnownBytes.{Appends}
use Rattle.jt_outside.specs.Sink.{AppendsPrefix}
use Rattle.jt_input.specs.Answer.{IsFault}
use Rattle.jt_input.specs.Reply.{Reply}
use Rattle.jt_input.specs.Telling.{BeginsWith, GoesOn, Settles, Ends}
use Rattle.jt_input.specs.declared.status.Status.{Status}
use Rattle.jt_input.specs.declared.status.Status.TheVariants.{WriteFault}

-- all of a text was written and the status is the one that was handed in, or the sink failed
abbrev pub Writes : Option (List ℕ) → Option (List ℕ) → List ℕ → Option Status → Option Status → Type 0
Writes old now text status result = ((result ≡ status) × Appends old now text) ⊎ ((result ≡ Some WriteFault) × AppendsPrefix old now text)

-- a piece was taken, what is printed of it was written, and the input stays open
pub record WritesOn {A : Type 0} (answer : A → List ℕ → Reply) (Stood Stands : A → List ℕ → List ℕ → Type 0) (piece : List ℕ) (old now : Option (List ℕ)) : Type 0 where
  pub added : List ℕ
  pub writes : Appends old now added
  pub goes : GoesOn answer Stood Stands piece [] added

-- a piece settled the answer, and the rest of it was written
pub record WritesRest {A : Type 0} (answer : A → List ℕ → Reply) (Stood : A → List ℕ → List ℕ → Type 0) (HasTold : A → List ℕ → Type 0) (piece : List ℕ) (old now : Option (List ℕ)) (status : Status) : Type 0 where
  pub added : List ℕ
  pub writes : Appends old now added
  pub settles : Settles answer Stood HasTold piece [] added status

-- the input ended, and the rest of its answer was written
pub record WritesEnd {A : Type 0} (answer : A → List ℕ → Reply) (Stood : A → List ℕ → List ℕ → Type 0) (HasTold : A → List ℕ → Type 0) (old now : Option (List ℕ)) (status : Status) : Type 0 where
  pub added : List ℕ
  pub writes : Appends old now added
  pub ends : Ends answer Stood HasTold [] added status

-- a part of what is printed of a piece was written
pub record WritesPart {A : Type 0} (answer : A → List ℕ → Reply) (Stood : A → List ℕ → List ℕ → Type 0) (piece : List ℕ) (old now : Option (List ℕ)) : Type 0 where
  pub added : List ℕ
  pub writes : Appends old now added
  pub part : (asked : A) (seen printed : List ℕ) → Stood asked seen printed → BeginsWith (answer asked) seen printed
      → (rest : List ℕ) × ((answer asked (seen ++ piece)).text ≡ (printed ++ added) ++ rest)

-- what was done with a piece
abbrev pub Advances : {A : Type 0} → Option Status → (A → List ℕ → Reply) → (A → List ℕ → List ℕ → Type 0) → (A → List ℕ → List ℕ → Type 0) → (A → List ℕ → Type 0)
    → List ℕ → Option (List ℕ) → Option (List ℕ) → Type 0
Advances None answer Stood Stands HasTold piece old now = WritesOn answer Stood Stands piece old now
Advances (Some status) answer Stood Stands HasTold piece old now =
    WritesRest answer Stood HasTold piece old now status ⊎ (IsFault status × WritesPart answer Stood piece old now)

-- what was done at the end of the input
abbrev pub Finishes : {A : Type 0} → Status → (A → List ℕ → Reply) → (A → List ℕ → List ℕ → Type 0) → (A → List ℕ → Type 0) → Option (List ℕ) → Option (List ℕ) → Type 0
Finishes status answer Stood HasTold old now = WritesEnd answer Stood HasTold old now status ⊎ (IsFault status × WritesPart answer Stood [] old now)
