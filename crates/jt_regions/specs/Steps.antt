-- What the calls inside a table of one kind keep and do to std's map, given by its entries. Step definitions for the proofs; no public clause cites them.
use Rattle.std.specs.Prelude.{◌≡◌, ℕ, List, length, Option, Some}
use Rattle.std.specs.BTreeMap.{is_at}
use Rattle.std.specs.FinMap.{get, from_entries}
use Rattle.std.specs.Map.{lookup}
use Rattle.std.specs.Ordering.{nat_cmp}
use Rattle.jt_regions.specs.Kinds.{after_setting, count_after}

module _ {T : Type 0} where
  -- the region that std's map has under an id
  abbrev pub under : List (ℕ × T) → ℕ → Option T
  under entries id = lookup (is_at (nat_cmp id)) entries

  module _ (id_of : T → ℕ) where
    -- each region of a map stands under its id
    abbrev pub OwnIds : List (ℕ × T) → Type 0
    OwnIds entries = (id : ℕ) (region : T) → under entries id ≡ Some region → id_of region ≡ id

    -- a setting made the one map of the other
    pub record After (setting : ℕ) (list : List T) (old new : List (ℕ × T)) : Type 0 where
      pub regions : (id : ℕ) → get (from_entries {R = nat_cmp} new) id ≡ after_setting id_of setting list (from_entries old) id
      pub count : length new ≡ count_after id_of setting list (from_entries old)
      pub own : OwnIds new
