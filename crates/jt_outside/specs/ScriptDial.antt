-- What contracts see of a dial and a listener in memory, and what their calls do. To be believed.
use Rattle.std.specs.Prelude.{◌≡◌, ℕ, ◌↔◌, ◌⊎◌, Bool, true, false, List, [], Contains, Option, Some, None, if◌then◌else◌}
use Rattle.jt_value.specs.Counts.{counted}
use Rattle.jt_outside.specs.ScriptLink.{LinkState}
use Rattle.jt_outside.specs.ScriptPool.{PoolState, GivesFirst}
use Rattle.jt_outside.specs.declared.listen.Accepted.{Accepted as AcceptedOf}
use Rattle.jt_outside.specs.declared.listen.Accepted.TheVariants.{Link, Over, Failed}

pub record DialState : Type 0 where
  pub links : PoolState
  -- the numbers of the calls that fail, counted from 1; taking a link back is not counted
  pub failing : List ℕ
  pub calls : ℕ
  pub faults : ℕ

abbrev pub NextFails : DialState → Type 0
NextFails dial = Contains dial.failing (counted dial.calls)

-- Exactly the listed calls fail, and those without a link left; else the first link is given.
abbrev pub DialsInOrder : DialState → DialState → Option LinkState → Type 0
DialsInOrder old now None = (NextFails old ⊎ (old.links.coming ≡ []))
    × (now ≡ record old { calls = counted old.calls; faults = counted old.faults })
DialsInOrder old now (Some link) = ¬ NextFails old × GivesFirst old.links now.links (Some link)
    × (now ≡ record old { links = now.links; calls = counted old.calls })

-- Exactly the listed calls fail; no other start fails, and an accept without a link left is Over.
abbrev pub StartsInOrder : DialState → DialState → Bool → Type 0
StartsInOrder old now true = ¬ NextFails old × (now ≡ record old { calls = counted old.calls })
StartsInOrder old now false = NextFails old × (now ≡ record old { calls = counted old.calls; faults = counted old.faults })

abbrev pub AcceptsInOrder : DialState → DialState → AcceptedOf LinkState → Type 0
AcceptsInOrder old now (Link link) = ¬ NextFails old × GivesFirst old.links now.links (Some link)
    × (now ≡ record old { links = now.links; calls = counted old.calls })
AcceptsInOrder old now Over = ¬ NextFails old × (old.links.coming ≡ []) × (now ≡ record old { calls = counted old.calls })
AcceptsInOrder old now Failed = NextFails old × (now ≡ record old { calls = counted old.calls; faults = counted old.faults })
