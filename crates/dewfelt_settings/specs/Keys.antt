-- The names of the settings: this project's own. To be believed.
use Rattle.std.specs.Prelude.{◌≡◌, ◌≢◌, ℕ, List, codes, Option, MatchOption}
use Rattle.dewfelt_settings.specs.declared.key.Key.{Key}
use Rattle.dewfelt_settings.specs.declared.key.Key.TheVariants.{Listen, Links, Quiet, Strangers, StrangersOfAddress, Http, HttpName}

-- the name of a setting in dewfelt.toml
unfoldable pub name_of : Key → List ℕ
name_of Listen = codes "listen"
name_of Links = codes "links"
name_of Quiet = codes "quiet"
name_of Strangers = codes "strangers"
name_of StrangersOfAddress = codes "strangers_of_address"
name_of Http = codes "http"
name_of HttpName = codes "http_name"

-- the name of its option, without the two dashes
unfoldable pub option_of : Key → List ℕ
option_of Listen = codes "listen"
option_of Links = codes "links"
option_of Quiet = codes "quiet"
option_of Strangers = codes "strangers"
option_of StrangersOfAddress = codes "strangers-of-address"
option_of Http = codes "http"
option_of HttpName = codes "http-name"

-- the setting that is spelled so; None where none is
abbrev pub IsSpelled : (Key → List ℕ) → List ℕ → Option Key → Type 0
IsSpelled spell name found =
    MatchOption found ((key : Key) → spell key ≢ name) (λ key. spell key ≡ name)
