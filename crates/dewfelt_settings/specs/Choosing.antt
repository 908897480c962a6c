-- What a value chooses: this project's own. To be believed.
use Rattle.std.specs.Prelude.{◌≡◌, ◌≢◌, ◌⊎◌, ℕ, Bool, false, List, [], ◌∷◌, codes, Option, Some, None, is_some, IsTrue, take, MatchOption}
use Rattle.std.specs.Str.{bytes_eq}
use Rattle.std.specs.Net.Grammar.{IsSocketText}
use Rattle.std.specs.Net.Addr.{MatchIp, IsUnspecifiedV4, ipv4_octets}
use Rattle.std.specs.Net.Socket.{socket_ip, socket_port}
use Rattle.std.specs.declared.net.socket_addr.SocketAddr.{SocketAddr}
use Rattle.dewfelt_settings.specs.declared.key.Key.{Key}
use Rattle.dewfelt_settings.specs.declared.key.Key.TheVariants.{Listen, Links, Quiet, Strangers, StrangersOfAddress, Http, HttpName}
use Rattle.dewfelt_settings.specs.declared.choices.Choices.{Choices}
use Rattle.dewfelt_settings.specs.declared.number.Count.{Count}
use Rattle.dewfelt_settings.specs.declared.number.Seconds.{Seconds}
use Rattle.dewfelt_settings.specs.declared.host.HostName.{HostName}
use Rattle.dewfelt_settings.specs.declared.http.Http.{Http as Place}
use Rattle.dewfelt_settings.specs.declared.http.Http.TheVariants.{Off, At}
use Rattle.dewfelt_settings.specs.Hosts.{IsHostName}
use Rattle.dewfelt_settings.specs.Numbers.{IsCount, IsSeconds}

-- whether a setting is chosen
abbrev pub has_choice : Choices → Key → Bool
has_choice choices Listen = is_some choices.listen
has_choice choices Links = is_some choices.links
has_choice choices Quiet = is_some choices.quiet
has_choice choices Strangers = is_some choices.strangers
has_choice choices StrangersOfAddress = is_some choices.strangers_of_address
has_choice choices Http = is_some choices.http
has_choice choices HttpName = is_some choices.http_name

-- a number of links or of strangers is chosen, and this is done with it
abbrev pub Counted : ℕ → (Count → Choices) → Option Choices → Type 0
Counted number choose found =
    MatchOption found (IsCount number → ⊥)
    (λ next. (count : Count) × (count.number ≡ number) × (next ≡ choose count))

-- the choices with a number chosen, where the setting may have it
abbrev pub WithNumber : Choices → Key → ℕ → Option Choices → Type 0
WithNumber choices Links number found =
    Counted number (λ count. record choices { links = Some count }) found
WithNumber choices Strangers number found =
    Counted number (λ count. record choices { strangers = Some count }) found
WithNumber choices StrangersOfAddress number found =
    Counted number (λ count. record choices { strangers_of_address = Some count }) found
WithNumber choices Quiet number found =
    MatchOption found (IsSeconds number → ⊥)
    (λ next. (seconds : Seconds) × (seconds.number ≡ number)
    × (next ≡ record choices { quiet = Some seconds }))
WithNumber choices _ number found = found ≡ None

-- an address and a port from 1 on, as std reads them
pub record IsAddress (text : List ℕ) (address : SocketAddr) : Type 0 where
  pub spelling : IsSocketText text address
  pub port : socket_port address ≢ 0

-- a text that is no address, or one with port 0
abbrev pub HasNoAddress : List ℕ → Type 0
HasNoAddress text =
    ((address : SocketAddr) → IsSocketText text address → ⊥)
    ⊎ ((address : SocketAddr) × IsSocketText text address × (socket_port address ≡ 0))

-- `none`, or an address and a port from 1 on
abbrev pub IsHttp : List ℕ → Place → Type 0
IsHttp text Off = IsTrue (bytes_eq text (codes "none"))
IsHttp text (At address) = IsAddress text address

-- a text that is neither
abbrev pub HasNoHttp : List ℕ → Type 0
HasNoHttp text = HasNoAddress text × (bytes_eq text (codes "none") ≡ false)

-- the choices with a text chosen, where the setting may have it
abbrev pub WithText : Choices → Key → List ℕ → Option Choices → Type 0
WithText choices Listen text found =
    MatchOption found (HasNoAddress text)
    (λ next. (address : SocketAddr) × IsAddress text address
    × (next ≡ record choices { listen = Some address }))
WithText choices Http text found =
    MatchOption found (HasNoHttp text)
    (λ next. (place : Place) × IsHttp text place × (next ≡ record choices { http = Some place }))
WithText choices HttpName text found =
    MatchOption found (IsHostName text → ⊥)
    (λ next. IsHostName text × (name : HostName) × (take name.count name.octets ≡ text)
    × (next ≡ record choices { http_name = Some name }))
WithText choices _ text found = found ≡ None

-- the number that is chosen by the words, else by the file, else the default
abbrev pub chosen : {T : Type 0} → (T → ℕ) → Option T → Option T → ℕ → ℕ
chosen number (Some value) file default = number value
chosen number None (Some value) default = number value
chosen number None None default = default

-- what is chosen by the words, else by the file
abbrev pub or_else : {T : Type 0} → Option T → Option T → Option T
or_else (Some value) file = Some value
or_else None file = file

-- 127.0.0.1, the machine itself
abbrev pub IsHere : SocketAddr → Type 0
IsHere address =
    MatchIp (socket_ip address) (λ ip. ipv4_octets ip ≡ 127 ∷ 0 ∷ 0 ∷ 1 ∷ []) (λ ip. ⊥)

-- 0.0.0.0: every address of IPv4 that the machine has
abbrev pub IsAnywhere : SocketAddr → Type 0
IsAnywhere address = MatchIp (socket_ip address) IsUnspecifiedV4 (λ ip. ⊥)
