-- How the values under a name are found. Step functions for the proofs.
use Rattle.std.specs.Prelude.{◌≡◌, ◌<◌, ℕ, List, [], ◌∷◌, ◌++◌, length}
use Rattle.jt_report_command.specs.Options.{BeginWith, AreOptions, values_of}

-- the words are options
abbrev pub AreSome : List (List ℕ) → Type 0
AreSome words = (options : List (List ℕ × List ℕ)) × AreOptions options words

-- whatever options the words are, these are the values under the name
abbrev pub Have : List ℕ → List (List ℕ) → List (List ℕ) → Type 0
Have name words values = (options : List (List ℕ × List ℕ)) → AreOptions options words → values_of name options ≡ values

-- the words begin with one option, and with no other
pub record BeginsOne (option : List ℕ × List ℕ) (words back : List (List ℕ)) : Type 0 where
  pub begins : BeginWith option words back
  pub only : (other : List ℕ × List ℕ) (behind : List (List ℕ)) → BeginWith other words behind → (other ≡ option) × (behind ≡ back)

-- the words begin with no option
abbrev pub BeginWithNone : List (List ℕ) → Type 0
BeginWithNone words = (other : List ℕ × List ℕ) (behind : List (List ℕ)) → BeginWith other words behind → ⊥

-- One option was passed: the words that are left, and the values that were found so far.
pub record Steps (name : List ℕ) (old old_values now now_values : List (List ℕ)) : Type 0 where
  pub option : List ℕ × List ℕ
  pub begins : BeginsOne option old now
  pub values : now_values ≡ old_values ++ values_of name (option ∷ [])

-- Some options were passed, and these words are left; under the name they have these values.
pub record HasPassed (name : List ℕ) (words left values : List (List ℕ)) : Type 0 where
  pub passed : List (List ℕ × List ℕ)
  pub on : (more : List (List ℕ × List ℕ)) → AreOptions more left → AreOptions (passed ++ more) words
  pub each : (options : List (List ℕ × List ℕ)) → AreOptions options words
      → (more : List (List ℕ × List ℕ)) × (options ≡ passed ++ more) × AreOptions more left
  pub found : values_of name passed ≡ values

-- there are too many values under the name
abbrev pub HasTooMany : List ℕ → List (List ℕ) → List (List ℕ) → Type 0
HasTooMany name words values = (options : List (List ℕ × List ℕ)) → AreOptions options words → 1 < length (values ++ values_of name options)
