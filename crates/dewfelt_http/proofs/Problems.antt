-- A problem's text reads back as the problem.
use Rattle.std.specs.Prelude.{◌≡◌, ℕ, List, [], ◌∷◌, ◌++◌, Option, Some, None, option_and_then, codes}
use Rattle.std.proofs.Common.{◌∙◌, ap, refl}
use Rattle.std.specs.Borrow.{Bor}
use Rattle.json.specs.Token.{Token, begin_object, end_object, key}
use Rattle.json.specs.Token as token
use Rattle.json.specs.Json.{Json, Members, member, number, string, object, document, if_last, items, max_depth, members, value}
use Rattle.json.specs.Lex.{tokens}
use Rattle.json.specs.Print.{print}
use Rattle.dewfelt_asked.specs.declared.problem.Problem.{Problem}
use Rattle.dewfelt_http.specs.Problems.{parameter_members, parameter_tokens, problem_json, problem_tokens}

-- what is read of tokens
abbrev read : List Token → Option Json
read ts = option_and_then (λ p. if_last p.0 p.1) (value max_depth ts)

reads_members : (kind title status detail : List ℕ) (o : Option (Bor (List ℕ)))
    → read (begin_object ∷ key (codes "type") ∷ token.string kind ∷ key (codes "title") ∷ token.string title
    ∷ key (codes "status") ∷ token.number status ∷ key (codes "detail") ∷ token.string detail
    ∷ (parameter_tokens o ++ end_object ∷ []))
    ≡ Some (object (member (codes "type") (string kind) (member (codes "title") (string title)
    (member (codes "status") (number status) (member (codes "detail") (string detail) (parameter_members o))))))
unfolding value items members
reads_members kind title status detail None = refl
reads_members kind title status detail (Some name) = refl

-- the text of such tokens, where nothing stands before it
pub reads_problem : (kind title : List ℕ) (p : Problem) (before text : List ℕ) (ts : List Token) → before ≡ []
    → text ≡ before ++ print ts → tokens (print ts) ≡ ts → ts ≡ problem_tokens kind title p
    → document text ≡ Some (problem_json kind title p)
reads_problem kind title p before text ts none told back is =
    ap read (ap tokens (told ∙ ap (λ b. b ++ print ts) none) ∙ back ∙ is)
    ∙ reads_members kind title _ _ p.parameter
