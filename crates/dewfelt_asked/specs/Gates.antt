-- Requests that a gate lets in. To be believed.
use Rattle.std.specs.Prelude.{◌≡◌, ◌⊎◌, ℕ, Bool, List, [], ◌∷◌, ◌++◌, Some, IsTrue, codes, string_bytes}
use Rattle.std.specs.List.{list_any}
use Rattle.std.specs.Str.{bytes_eq}
use Rattle.http.specs.declared.request.Request.{Request}
use Rattle.http.specs.Request.{head_of}
use Rattle.http_header.specs.FieldValue.{FieldValue}
use Rattle.http_header.specs.HeaderMap.{get, get_all}
use Rattle.sha2.specs.Sha256.{sha256}
use Rattle.dewfelt_asked.specs.declared.gate.Gate.{Gate}

-- whether a text names one of the hosts
abbrev pub is_host : Gate → List ℕ → Bool
is_host gate text = list_any (λ host. bytes_eq (string_bytes host) text) gate.hosts.items

-- the request is to one of the hosts
abbrev pub HasHost : Gate → Request (List ℕ) → Type 0
HasHost gate request = (v : FieldValue) × (get (head_of request).headers (codes "host") ≡ Some v) × IsTrue (is_host gate v.bytes)

-- an origin is that of a page of one of the hosts
abbrev pub IsPage : Gate → List ℕ → Type 0
IsPage gate origin = (host : List ℕ) × IsTrue (is_host gate host)
    × ((origin ≡ codes "http://" ++ host) ⊎ (origin ≡ codes "https://" ++ host))

-- the request names no origin, or one, that of a page of one of the hosts
abbrev pub HasOrigin : Gate → Request (List ℕ) → Type 0
HasOrigin gate request = (get_all (head_of request).headers (codes "origin") ≡ [])
    ⊎ ((v : FieldValue) × (get_all (head_of request).headers (codes "origin") ≡ v ∷ []) × IsPage gate v.bytes)

-- the request brings a token with this digest
abbrev pub IsGiven : List ℕ → Request (List ℕ) → Type 0
IsGiven digest request = (v : FieldValue) × (get (head_of request).headers (codes "authorization") ≡ Some v)
    × (token : List ℕ) × (v.bytes ≡ codes "Bearer " ++ token) × (sha256 token ≡ digest)
