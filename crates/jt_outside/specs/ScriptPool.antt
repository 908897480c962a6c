-- The links of a script: what contracts see of them. To be believed.
use Rattle.std.specs.Prelude.{◌≡◌, ℕ, ◌+◌, ◌-◌, List, [], ◌∷◌, ◌++◌, map, Option, Some, None}
use Rattle.jt_outside.specs.Link.{Wire}
use Rattle.jt_outside.specs.Pool.{Pool, Script, Used, used_of}
use Rattle.jt_outside.specs.ScriptLink.{LinkState, inbound_of, left_of, IsUntouched}

-- the links to come, those that came back, and how many are out
pub record PoolState : Type 0 where
  pub coming : List LinkState
  pub back : List LinkState
  pub lent : ℕ

abbrev pub wire : LinkState → Wire
wire link = record { inbound = inbound_of link; written = Some link.written; faults = link.faults }

abbrev pub script_of : LinkState → Script
script_of link = record { octets = left_of link.gives; room = link.room; failing = link.failing }

abbrev pub used : LinkState → Used
used link = used_of (wire link)

abbrev pub pool_of : PoolState → Pool
pool_of state = record { coming = Some (map script_of state.coming); back = Some (map used state.back); lent = Some state.lent }

-- the first link, or none where none is left
abbrev pub GivesFirst : PoolState → PoolState → Option LinkState → Type 0
GivesFirst old now None = (old.coming ≡ []) × (now ≡ old)
GivesFirst old now (Some link) = IsUntouched link × (old.coming ≡ link ∷ now.coming) × (now.back ≡ old.back) × (now.lent ≡ old.lent + 1)

-- a link came back
abbrev pub with_back : LinkState → PoolState → PoolState
with_back link state = record { coming = state.coming; back = state.back ++ link ∷ []; lent = state.lent - 1 }
