-- The links that a dial or a listener gives, and takes back. To be believed.
use Rattle.std.specs.Prelude.{◌≡◌, ℕ, ◌+◌, ◌-◌, List, [], ◌∷◌, ◌++◌, Option, Some, None, IfSome}
use Rattle.std.specs.Prelude.{option_map}
use Rattle.jt_outside.specs.Inbound.{Inbound}
use Rattle.jt_outside.specs.Link.{Wire}

-- what a link that is to come will do: the octets that it gives, where there is an end to them; its room for writes; the
-- numbers of the calls that fail, counted from 1
pub record Script : Type 0 where
  pub octets : Option (List ℕ)
  pub room : ℕ
  pub failing : List ℕ

-- a link that came back: what was taken from it and written to it, how far its counts rose, and its run of quiet reads
pub record Used : Type 0 where
  pub taken : Option (List ℕ)
  pub written : Option (List ℕ)
  pub faults : ℕ
  pub quiets : ℕ
  pub run : ℕ

-- what a dial or a listener tells: the links to come, those that came back, and how many are out
pub record Pool : Type 0 where
  pub coming : Option (List Script)
  pub back : Option (List Used)
  pub lent : Option ℕ

abbrev pub used_of : Wire → Used
used_of wire = record { taken = wire.inbound.taken; written = wire.written; faults = wire.faults; quiets = wire.inbound.quiets; run = wire.inbound.run }

-- a link that gives the octets of the first script, of which none was read, and to which nothing was written
abbrev pub IsFirst : List Script → Wire → Type 0
IsFirst [] wire = ⊥
IsFirst (script ∷ scripts) wire = (wire.inbound.left ≡ script.octets) × (wire.inbound.taken ≡ Some []) × (wire.written ≡ Some [])

abbrev pub all_but_first : List Script → List Script
all_but_first [] = []
all_but_first (script ∷ scripts) = scripts

-- a link has counts of its own, which begin at 0
pub record IsNew (coming : Option (List Script)) (wire : Wire) : Type 0 where
  pub faults : wire.faults ≡ 0
  pub quiets : wire.inbound.quiets ≡ 0
  pub run : wire.inbound.run ≡ 0
  pub first : IfSome coming (λ scripts. IsFirst scripts wire)

-- one link was given, or none
abbrev pub GivesLink : Pool → Pool → Option Wire → Type 0
GivesLink old now None = now ≡ old
GivesLink old now (Some wire) = IsNew old.coming wire
    × (now ≡ record { coming = option_map all_but_first old.coming; back = old.back; lent = option_map (λ n. n + 1) old.lent })

-- a link came back
abbrev pub taken_back : Wire → Pool → Pool
taken_back wire pool = record {
  coming = pool.coming;
  back = option_map (λ links. links ++ used_of wire ∷ []) pool.back;
  lent = option_map (λ n. n - 1) pool.lent;
}
