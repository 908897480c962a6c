-- What holds of the world after a script (this project's own). To be believed.
use Rattle.std.specs.Prelude.{◌≡◌, ℕ, ◌<◌, [], length}
use Rattle.jt_stream.specs.Unplaced.{items}
use Rattle.jt_octets.specs.Claim.{Kept, heard_along, heard_of, heard_on}
use Rattle.jt_octets.specs.Reaching.{Reached}
use Rattle.jt_octets.specs.World.{World, empty, line_at, taken_of}

-- Steps lead to the world, and the claim of delivery holds of it. On each line, also one that was lost long ago, the terminal heard
-- on the way what the items, bodies and packets of the octets are that it took there.
pub record KeptWhole (w : World) : Type 0 where
  pub reached : Reached w
  pub kept : Kept w
  pub hears : (place : ℕ) → place < length w.lines
      → heard_on (heard_along (empty reached.phone reached.setting) reached.leads.events) place
      ≡ heard_of [] (items (taken_of (line_at w.lines place).down))

abbrev pub EachReachedIsKeptWhole : Type 0
EachReachedIsKeptWhole = (w : World) → Reached w → KeptWhole w
