-- Who is answered. To be believed.
use Rattle.std.specs.Prelude.{◌⊎◌, ℕ, List, []}
use Rattle.http.specs.declared.request.Request.{Request}
use Rattle.http_server.specs.declared.response.Response.{Response}
use Rattle.dewfelt_asked.specs.Access.{IsAdmitted}
use Rattle.dewfelt_asked.specs.declared.gate.Gate.{Gate}
use Rattle.dewfelt_http.specs.Problems.{Refuses}

-- the answer is a problem and nothing else, or the request is admitted
abbrev pub IsAnswered : Gate → Request (List ℕ) → Response → Type 0
IsAnswered gate request response = Refuses [] response ⊎ IsAdmitted gate request
