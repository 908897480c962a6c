-- What a teller does with the pieces of an input. To be believed.
use Rattle.std.specs.Prelude.{◌≡◌, ℕ, List, ◌++◌, Option, Some, None}
use Rattle.jt_input.specs.Reply.{Reply}
use Rattle.jt_input.specs.declared.status.Status.{Status}

-- all that is printed of an input that begins so begins with this text
abbrev pub BeginsWith : (List ℕ → Reply) → List ℕ → List ℕ → Type 0
BeginsWith answer front text = (rest : List ℕ) → (more : List ℕ) × ((answer (front ++ rest)).text ≡ text ++ more)

-- A piece was taken and this was printed of it: whatever front and printed text the teller stood for, it now stands for
-- that front and then the piece, and that text and then what was added.
pub record GoesOn {A : Type 0} (answer : A → List ℕ → Reply) (Stood Stands : A → List ℕ → List ℕ → Type 0) (piece text text_now : List ℕ) : Type 0 where
  pub added : List ℕ
  pub text_is : text_now ≡ text ++ added
  pub stands : (asked : A) (seen printed : List ℕ) → Stood asked seen printed → Stands asked (seen ++ piece) (printed ++ added)
  pub first : (asked : A) (seen printed : List ℕ) → Stood asked seen printed → BeginsWith (answer asked) (seen ++ piece) (printed ++ added)

-- A piece settled the answer, whatever follows, and all of it is printed.
pub record Settles {A : Type 0} (answer : A → List ℕ → Reply) (Stood : A → List ℕ → List ℕ → Type 0) (HasTold : A → List ℕ → Type 0) (piece text text_now : List ℕ) (status : Status) : Type 0 where
  pub added : List ℕ
  pub text_is : text_now ≡ text ++ added
  pub whole : (asked : A) (seen printed : List ℕ) → Stood asked seen printed → (rest : List ℕ)
      → answer asked ((seen ++ piece) ++ rest) ≡ record { text = printed ++ added; status = status }
  pub told : (asked : A) (seen printed : List ℕ) → Stood asked seen printed → (rest : List ℕ) → HasTold asked ((seen ++ piece) ++ rest)

-- what was done with a piece: the input stays open, or it is settled with this status
abbrev pub TakesPiece : {A : Type 0} → Option Status → (A → List ℕ → Reply) → (A → List ℕ → List ℕ → Type 0) → (A → List ℕ → List ℕ → Type 0) → (A → List ℕ → Type 0)
    → List ℕ → List ℕ → List ℕ → Type 0
TakesPiece None answer Stood Stands HasTold piece text text_now = GoesOn answer Stood Stands piece text text_now
TakesPiece (Some status) answer Stood Stands HasTold piece text text_now = Settles answer Stood HasTold piece text text_now status

-- the input ended here, and all of its answer is printed
pub record Ends {A : Type 0} (answer : A → List ℕ → Reply) (Stood : A → List ℕ → List ℕ → Type 0) (HasTold : A → List ℕ → Type 0) (text text_now : List ℕ) (status : Status) : Type 0 where
  pub added : List ℕ
  pub text_is : text_now ≡ text ++ added
  pub whole : (asked : A) (seen printed : List ℕ) → Stood asked seen printed → answer asked seen ≡ record { text = printed ++ added; status = status }
  pub told : (asked : A) (seen printed : List ℕ) → Stood asked seen printed → HasTold asked seen

-- some teller has taken this front and printed this text of it, and nothing is settled yet
abbrev pub SomeStands : {T A : Type 0} → (T → A → List ℕ → List ℕ → Type 0) → A → List ℕ → List ℕ → Type 0
SomeStands {T} stands asked front text = (teller : T) × stands teller asked front text
