-- What borrowed items stand for. To be believed.
use Rattle.std.specs.Prelude.{◌≡◌, ℕ, ◌+◌, Bool, List, [], ◌∷◌, ◌++◌, length, take, drop, is_ok}
use Rattle.std.specs.List.{flat_map}
use Rattle.std.specs.Result.{result_unwrap_or}
use Rattle.jt_layout.specs.Layout.{Fills, sized, to_the_end, word}
use Rattle.jt_position.specs.declared.batch.Batch.{Batch}
use Rattle.jt_position.specs.declared.position.Position.{Position}
use Rattle.jt_position.specs.Positions as layouts
use Rattle.jt_position.specs.Positions.{batch, position}
use Rattle.jt_position.specs.declared.item.Item.{Item}
use Rattle.jt_position.specs.declared.item.Item.TheVariants as item
use Rattle.jt_position.specs.declared.item_view.ItemView.{ItemView}
use Rattle.jt_position.specs.declared.item_view.ItemView.TheVariants as view

-- the item with an octet list of its own in place of the slice
unfoldable pub item_in_view : ItemView → Item
item_in_view (view.Mileage n) = item.Mileage n
item_in_view (view.Fuel n) = item.Fuel n
item_in_view (view.RecorderSpeed n) = item.RecorderSpeed n
item_in_view (view.EventId n) = item.EventId n
item_in_view (view.Overspeed kind region) = item.Overspeed kind region
item_in_view (view.RegionAlarm kind region direction) = item.RegionAlarm kind region direction
item_in_view (view.Travel segment seconds result) = item.Travel segment seconds result
item_in_view (view.Signals n) = item.Signals n
item_in_view (view.Io n) = item.Io n
item_in_view (view.Analogue n) = item.Analogue n
item_in_view (view.Signal n) = item.Signal n
item_in_view (view.Satellites n) = item.Satellites n
item_in_view (view.Raw id value) = item.Raw id value.now

-- a raw item's value stands in the octets of its position behind the 28 of the fixed fields, the items before it, its id and its
-- length
abbrev pub RawStands : Type 0
RawStands = (s : List ℕ) (m : Position) → Fills position s 0 m → (before : List Item) (id : ℕ) (value : List ℕ) (after : List Item) → m.items ≡ before ++ item.Raw id value ∷ after → take (length value) (drop (30 + length (flat_map layouts.item.spell before)) s) ≡ value

-- In a batch it stands so in its own position, which stands behind count and kind, the positions before it with their lengths,
-- and its own length.
abbrev pub RawStandsInBatch : Type 0
RawStandsInBatch =
    (s : List ℕ) (b : Batch) → Fills batch s 0 b
    → (earlier : List Position) (m : Position) (later : List Position) → b.fixes ≡ earlier ++ m ∷ later
    → (before : List Item) (id : ℕ) (value : List ℕ) (after : List Item) → m.items ≡ before ++ item.Raw id value ∷ after
    → take (length value) (drop (35 + length (flat_map (sized word position).spell earlier) + length (flat_map layouts.item.spell before)) s) ≡ value

-- from p up to the end there are items
abbrev pub reads_from : List ℕ → ℕ → Bool
reads_from s p = is_ok ((to_the_end layouts.item).read s p)

-- the items from p up to the end
abbrev pub items_from : List ℕ → ℕ → List Item
items_from s p = result_unwrap_or ((to_the_end layouts.item).read s p) []

-- the octets are a position
abbrev pub is_position : List ℕ → Bool
is_position s = is_ok (position.read s 0)
