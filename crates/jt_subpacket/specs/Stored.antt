-- How a partial message is stored as one value. A step definition for the proofs; no public clause cites it.
use Rattle.std.specs.Prelude.{refl, ℕ}
use Rattle.std.specs.Coded.{Coded, code_by, coded×, coded_ℕ, coded_list}
use Rattle.std.specs.FinMap.{code}
use Rattle.jt_subpacket.specs.Partials.{Partial, Pieces}

-- a key and its pieces as numbers and a map
abbrev pub partial_code : Coded Partial
partial_code =
    code_by ((ℕ × (ℕ × ℕ)) × Pieces)
    (coded× (coded× coded_ℕ (coded× coded_ℕ coded_ℕ)) (code coded_ℕ (coded_list coded_ℕ)))
    (λ p. ((p.key.id, (p.key.first, p.key.total)), p.pieces))
    (λ c. record { key = record { id = c.0.0; first = c.0.1.0; total = c.0.1.1 }; pieces = c.1 })
    (λ _. refl)
