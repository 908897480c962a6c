-- The regions of one kind are a finite map from id to region; what a change makes of it (this project's own). To be believed.
use Rattle.std.specs.Prelude.{◌≡◌, ℕ, ◌≤◌, ◌<◌, ◌==◌, nat_eq, if◌then◌else◌, List, [], ◌∷◌, ◌++◌, map, Option, Some, None, Result, Ok, Err}
use Rattle.std.specs.FinMap.{FinMap, empty, get, contains_key, keys, entries}
use Rattle.std.specs.Option.{option_or}
use Rattle.std.specs.List.{list_any}
use Rattle.std.specs.Ordering.{nat_cmp}
use Rattle.std.specs.Set.{distinct_count}
use Rattle.jt_regions.specs.declared.table.TheConstants.{REGION_LIMIT}
use Rattle.jt_regions.specs.declared.error.RegionError.{RegionError}
use Rattle.jt_regions.specs.declared.error.RegionError.TheVariants as errors

-- the most regions of one kind
abbrev pub region_limit : ℕ
region_limit = REGION_LIMIT

module _ {T : Type 0} where
  -- what is kept of the regions that there are: setting 0 replaces the kind, 1 and 2 add to it or replace by id
  abbrev pub kept : ℕ → FinMap nat_cmp T → FinMap nat_cmp T
  kept setting old = if setting == 0 then empty else old

  -- the regions of a table, in order of id
  abbrev pub listed : FinMap nat_cmp T → List T
  listed table = map (λ entry. entry.1) (entries table)

  module _ (id_of : T → ℕ) where
    -- the last region of a list with an id
    abbrev pub last_with : List T → ℕ → Option T
    last_with [] id = None
    last_with (r ∷ rs) id = option_or (last_with rs id) (if id_of r == id then Some r else None)

    -- the first id of a list's regions under which there is none
    abbrev pub first_missing : FinMap nat_cmp T → List T → Option ℕ
    first_missing old [] = None
    first_missing old (r ∷ rs) = if contains_key old (id_of r) then first_missing old rs else Some (id_of r)

    -- the region under an id after a setting: the last one of the list with that id, or else the one that is kept
    abbrev pub after_setting : ℕ → List T → FinMap nat_cmp T → ℕ → Option T
    after_setting setting list old id = option_or (last_with list id) (get (kept setting old) id)

    -- how many regions the kind would have: the different ids of those kept and of the list
    abbrev pub count_after : ℕ → List T → FinMap nat_cmp T → ℕ
    count_after setting list old = distinct_count nat_eq (keys (kept setting old) ++ map id_of list)

    -- setting 2 modifies regions that are there
    abbrev pub missing : ℕ → List T → FinMap nat_cmp T → Option ℕ
    missing setting list old = if setting == 2 then first_missing old list else None

    -- what setting a list of regions answers, by the first of these causes, and the regions afterwards
    abbrev pub Sets : ℕ → List T → FinMap nat_cmp T → Result (Unit {0}) RegionError → FinMap nat_cmp T → Type 0
    Sets setting list old (Ok u) new = (setting ≤ 2) × (missing setting list old ≡ None) × (count_after setting list old ≤ region_limit) × ((id : ℕ) → get new id ≡ after_setting setting list old id)
    Sets setting list old (Err (errors.BadSetting s)) new = (2 < setting) × (s ≡ setting) × (new ≡ old)
    Sets setting list old (Err (errors.NoRegion id)) new = (setting ≤ 2) × (missing setting list old ≡ Some id) × (new ≡ old)
    Sets setting list old (Err (errors.TooMany n)) new = (setting ≤ 2) × (missing setting list old ≡ None) × (region_limit < n) × (n ≡ count_after setting list old) × (new ≡ old)
    Sets setting list old (Err errors.Memory) new = new ≡ old

  -- the region under an id after a deletion: none under the ids of the list, which stands for all where it is empty
  abbrev pub after_deletion : List ℕ → FinMap nat_cmp T → ℕ → Option T
  after_deletion [] old id = None
  after_deletion (i ∷ ids) old id = if list_any (nat_eq id) (i ∷ ids) then None else get old id
