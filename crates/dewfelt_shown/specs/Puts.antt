-- What is put into JSON.
use Rattle.std.specs.Prelude.{◌≡◌, ℕ, List, [], ◌∷◌, ◌++◌, Option, Some, None}
use Rattle.std.specs.Borrow.{Bor}
use Rattle.json.specs.Token.{Token, string, null}
use Rattle.json.specs.Written.{Written}

-- these tokens are put, behind what stood there
pub record Puts (old new : Written) (ts : List Token) : Type 0 where
  pub tokens : new.tokens ≡ old.tokens ++ ts
  pub before : new.before ≡ old.before

-- a text, or null
abbrev pub some_text : Option (Bor (List ℕ)) → Token
some_text None = null
some_text (Some text) = string text.now
