-- What an accept does to the links of a listener. To be believed.
use Rattle.std.specs.Prelude.{◌≡◌, List, [], Option, Some, None, IfSome}
use Rattle.jt_outside.specs.Link.{Wire}
use Rattle.jt_outside.specs.Pool.{Pool, GivesLink}
use Rattle.jt_outside.specs.declared.listen.Accepted.{Accepted as AcceptedOf}
use Rattle.jt_outside.specs.declared.listen.Accepted.TheVariants.{Link, Over, Failed}

-- a link that came, or none; Over only where no link is left to come
abbrev pub Accepts : {L : Type 0} → (L → Wire) → Pool → Pool → AcceptedOf L → Type 0
Accepts wire old now (Link link) = GivesLink old now (Some (wire link))
Accepts wire old now Over = (now ≡ old) × IfSome old.coming (λ scripts. scripts ≡ [])
Accepts wire old now Failed = now ≡ old
