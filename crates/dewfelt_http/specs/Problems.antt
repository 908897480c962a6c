-- Answers that are problems. To be believed.
use Rattle.std.specs.Prelude.{◌≡◌, ◌≤◌, ℕ, List, [], ◌∷◌, ◌++◌, Option, Some, None, codes, decimal, string_bytes}
use Rattle.std.specs.Borrow.{Bor}
use Rattle.json.specs.Token.{Token, begin_object, end_object, key}
use Rattle.json.specs.Token as token
use Rattle.json.specs.Json.{Json, Members, no_members, member, number, string, object, document}
use Rattle.http_server.specs.declared.response.Response.{Response}
use Rattle.dewfelt_asked.specs.declared.problem.Problem.{Problem}

-- the word of the query that is wrong, where one is
abbrev pub parameter_members : Option (Bor (List ℕ)) → Members
parameter_members None = no_members
parameter_members (Some name) = member (codes "parameter") (string name.now) no_members

-- a problem of this type and title as JSON
abbrev pub problem_json : List ℕ → List ℕ → Problem → Json
problem_json kind title p =
    object (member (codes "type") (string kind) (member (codes "title") (string title)
    (member (codes "status") (number (decimal p.status)) (member (codes "detail") (string (string_bytes p.detail))
    (parameter_members p.parameter)))))

-- the answer, behind these octets of its body, is a problem of its status
pub record Refuses (before : List ℕ) (response : Response) : Type 0 where
  pub problem : Problem
  pub kind : List ℕ
  pub title : List ℕ
  pub text : List ℕ
  pub body : response.body.items ≡ before ++ text
  pub told : document text ≡ Some (problem_json kind title problem)
  pub status : response.status ≡ problem.status
  pub refuses : 400 ≤ response.status

-- ---- how it is put

-- the same as tokens
abbrev pub parameter_tokens : Option (Bor (List ℕ)) → List Token
parameter_tokens None = []
parameter_tokens (Some name) = key (codes "parameter") ∷ token.string name.now ∷ []

-- the members behind the title
abbrev pub rest_tokens : Problem → List Token
rest_tokens p =
    key (codes "status") ∷ token.number (decimal p.status) ∷ key (codes "detail") ∷ token.string (string_bytes p.detail)
    ∷ parameter_tokens p.parameter

-- the whole
abbrev pub problem_tokens : List ℕ → List ℕ → Problem → List Token
problem_tokens kind title p =
    begin_object ∷ key (codes "type") ∷ token.string kind ∷ key (codes "title") ∷ token.string title
    ∷ (rest_tokens p ++ end_object ∷ [])
