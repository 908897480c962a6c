-- The words of `platform`: this project's own. To be believed.
use Rattle.std.specs.Prelude.{◌≡◌, ◌≤◌, ◌⊎◌, ℕ, List, ◌∷◌, codes}
use Rattle.std.specs.Fmt.{decimal}
use Rattle.jt_words.specs.declared.platform_words.TheConstants.{SESSIONS_MOST}
use Rattle.jt_value.specs.declared.limits.TheConstants.{PORT_LIMIT}
use Rattle.jt_words.specs.OptionWords.{ArePair}

-- the options of the port and of the number of sessions, with these values, in either order
abbrev pub AreOptions : List ℕ → List ℕ → List (List ℕ) → Type 0
AreOptions port sessions options = ArePair (codes "port") port (codes "sessions") sessions options
    ⊎ ArePair (codes "sessions") sessions (codes "port") port options

-- `platform`, then the port and the number of sessions, in either order. Numbers are written in decimal digits, without a
-- sign and without a leading zero.
pub record PlatformWords (port sessions : ℕ) (words : List (List ℕ)) : Type 0 where
  pub options : List (List ℕ)
  pub command : words ≡ codes "platform" ∷ options
  pub values : AreOptions (decimal port) (decimal sessions) options
  pub port_range : (1 ≤ port) × (port ≤ PORT_LIMIT)
  pub sessions_range : (1 ≤ sessions) × (sessions ≤ SESSIONS_MOST)
