-- The items of a position, by the standard's table of additional items. To be believed.
use Rattle.std.specs.Prelude.{◌≡◌, ℕ, ◌^◌, ◌<◌, Bool, ◌&&◌, ◌==◌, if◌then◌else◌, List, [], ◌∷◌, ◌++◌, length, take, drop, slice_index, Some, None, IfSome}
use Rattle.std.specs.Int.{w16, w32, from_be_bytes, to_be_bytes}
use Rattle.jt_value.specs.Octets.{AreOctets}
use Rattle.jt_position.specs.declared.item.Item.{Item}
use Rattle.jt_position.specs.declared.item.Item.TheVariants.{Mileage, Fuel, RecorderSpeed, EventId, Overspeed, RegionAlarm, Travel, Signals, Io, Analogue, Signal, Satellites, Raw}

-- an id with the length that the table gives it
abbrev pub is : ℕ × List ℕ → ℕ → ℕ → Bool
is x id n = (x.0 == id) && (length x.1 == n)

-- the item of an id and its value, by the table; any other is raw
unfoldable pub typed : ℕ × List ℕ → Item
typed x =
    if is x 0x01 4 then Mileage (from_be_bytes w32 x.1) else (
    if is x 0x02 2 then Fuel (from_be_bytes w16 x.1) else (
    if is x 0x03 2 then RecorderSpeed (from_be_bytes w16 x.1) else (
    if is x 0x04 2 then EventId (from_be_bytes w16 x.1) else (
    if is x 0x11 1 then Overspeed (slice_index x.1 0) None else (
    if is x 0x11 5 then Overspeed (slice_index x.1 0) (Some (from_be_bytes w32 (drop 1 x.1))) else (
    if is x 0x12 6 then RegionAlarm (slice_index x.1 0) (from_be_bytes w32 (take 4 (drop 1 x.1))) (slice_index x.1 5) else (
    if is x 0x13 7 then Travel (from_be_bytes w32 (take 4 x.1)) (from_be_bytes w16 (take 2 (drop 4 x.1))) (slice_index x.1 6) else (
    if is x 0x25 4 then Signals (from_be_bytes w32 x.1) else (
    if is x 0x2a 2 then Io (from_be_bytes w16 x.1) else (
    if is x 0x2b 4 then Analogue (from_be_bytes w32 x.1) else (
    if is x 0x30 1 then Signal (slice_index x.1 0) else (
    if is x 0x31 1 then Satellites (slice_index x.1 0) else
    Raw x.0 x.1))))))))))))

-- the id of an item and its value
unfoldable pub untyped : Item → ℕ × List ℕ
untyped (Mileage n) = (0x01, to_be_bytes w32 n)
untyped (Fuel n) = (0x02, to_be_bytes w16 n)
untyped (RecorderSpeed n) = (0x03, to_be_bytes w16 n)
untyped (EventId n) = (0x04, to_be_bytes w16 n)
untyped (Overspeed kind None) = (0x11, kind ∷ [])
untyped (Overspeed kind (Some region)) = (0x11, kind ∷ to_be_bytes w32 region)
untyped (RegionAlarm kind region direction) = (0x12, kind ∷ to_be_bytes w32 region ++ direction ∷ [])
untyped (Travel segment seconds result) = (0x13, to_be_bytes w32 segment ++ (to_be_bytes w16 seconds ++ result ∷ []))
untyped (Signals n) = (0x25, to_be_bytes w32 n)
untyped (Io n) = (0x2a, to_be_bytes w16 n)
untyped (Analogue n) = (0x2b, to_be_bytes w32 n)
untyped (Signal n) = (0x30, n ∷ [])
untyped (Satellites n) = (0x31, n ∷ [])
untyped (Raw id value) = (id, value)

-- numbers that fit their fields; raw is only what the table does not name
unfoldable pub ItemFits : Item → Type 0
ItemFits (Mileage n) = n < 2 ^ 32
ItemFits (Fuel n) = n < 2 ^ 16
ItemFits (RecorderSpeed n) = n < 2 ^ 16
ItemFits (EventId n) = n < 2 ^ 16
ItemFits (Overspeed kind region) = (kind < 2 ^ 8) × IfSome region (λ r. r < 2 ^ 32)
ItemFits (RegionAlarm kind region direction) = (kind < 2 ^ 8) × (region < 2 ^ 32) × (direction < 2 ^ 8)
ItemFits (Travel segment seconds result) = (segment < 2 ^ 32) × (seconds < 2 ^ 16) × (result < 2 ^ 8)
ItemFits (Signals n) = n < 2 ^ 32
ItemFits (Io n) = n < 2 ^ 16
ItemFits (Analogue n) = n < 2 ^ 32
ItemFits (Signal n) = n < 2 ^ 8
ItemFits (Satellites n) = n < 2 ^ 8
ItemFits (Raw id value) = (id < 2 ^ 8) × (length value < 2 ^ 8) × AreOctets value × (typed (id, value) ≡ Raw id value)
