-- Who asks what. To be believed.
use Rattle.std.specs.Prelude.{◌≡◌, ◌⊎◌, ℕ, List, IsTrue, codes}
use Rattle.http.specs.declared.request.Request.{Request}
use Rattle.http.specs.Request.{head_of}
use Rattle.http_uri.specs.Uri.{uri_path}
use Rattle.dewfelt_asked.specs.Gates.{HasHost, HasOrigin, IsGiven}
use Rattle.dewfelt_asked.specs.Paths.{is_open}
use Rattle.dewfelt_asked.specs.declared.gate.Gate.{Gate}
use Rattle.dewfelt_asked.specs.declared.gate.Access.{Access}
use Rattle.dewfelt_asked.specs.declared.gate.Access.TheVariants.{Read, Operate}
use Rattle.dewfelt_asked.specs.declared.gate.Admitted.{Admitted}
use Rattle.dewfelt_asked.specs.declared.gate.Admitted.TheVariants as admitted

-- the request brings the token that allows so much
abbrev pub IsAllowed : Gate → Request (List ℕ) → Access → Type 0
IsAllowed gate request Read = IsGiven gate.read request
IsAllowed gate request Operate = IsGiven gate.operate request

-- the request only reads
abbrev pub IsRead : Request (List ℕ) → Type 0
IsRead request = ((head_of request).method ≡ codes "GET") ⊎ ((head_of request).method ≡ codes "HEAD")

-- what is asked is open to anybody, or the request brings the token and names no other origin
abbrev pub MayAsk : Gate → Request (List ℕ) → Admitted → Type 0
MayAsk gate request (admitted.Open _) = IsTrue (is_open (uri_path (head_of request).uri))
MayAsk gate request (admitted.Route _ access) = IsAllowed gate request access × HasOrigin gate request

-- the request is to one of the hosts, only reads, and asks what it may ask
pub record IsAdmitted (gate : Gate) (request : Request (List ℕ)) : Type 0 where
  pub host : HasHost gate request
  pub reads : IsRead request
  pub admitted : Admitted
  pub may : MayAsk gate request admitted
