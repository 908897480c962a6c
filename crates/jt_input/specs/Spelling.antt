-- How words and lines of an input are read: what is their spelling alone, and which lines are passed over. To be believed.
use Rattle.std.specs.Prelude.{◌≡◌, ℕ, ◌==◌, Bool, true, List, [], ◌∷◌, Option, Some, IfSome}

-- The text is the spelling of this value, which is in range, or it is that of no value in range.
pub record Reads {T : Type 0} (spelling : T → List ℕ) (IsIn : T → Type 0) (text : List ℕ) (result : Option T) : Type 0 where
  pub some : IfSome result (λ value. (text ≡ spelling value) × IsIn value)
  pub each : (value : T) → IsIn value → text ≡ spelling value → result ≡ Some value

-- an empty line, or a comment, which begins with the sign `#`
abbrev pub is_passed : List ℕ → Bool
is_passed [] = true
is_passed (octet ∷ more) = octet == 35
