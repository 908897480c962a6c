-- The fields of positions and batches: this project's texts. To be believed.
use Rattle.std.specs.Prelude.{ℕ, List, [], ◌++◌, length, Option, Some, None, codes}
use Rattle.std.specs.List.{flat_map}
use Rattle.std.specs.Fmt.{decimal}
use Rattle.jt_position.specs.Positions as layouts
use Rattle.jt_position.specs.declared.fixed.Fixed.{Fixed}
use Rattle.jt_position.specs.declared.item.Item.{Item}
use Rattle.jt_position.specs.declared.item.Item.TheVariants.{Mileage, Fuel, RecorderSpeed, EventId, Overspeed, RegionAlarm, Travel, Signals, Io, Analogue, Signal, Satellites, Raw}
use Rattle.jt_position.specs.declared.position.Position.{Position}
use Rattle.jt_position.specs.declared.batch.Batch.{Batch}
use Rattle.jt_text.specs.Times.{time_text}
use Rattle.jt_text.specs.Values.{octets_text, byte_digits, dword_digits}

-- a region, if there is one
abbrev pub region_text : Option ℕ → List ℕ
region_text None = []
region_text (Some region) = codes ":" ++ decimal region

-- an item's id, and its parts in decimal or its octets
unfoldable pub item_text : Item → List ℕ
item_text (Mileage n) = codes " item=0x01:" ++ decimal n
item_text (Fuel n) = codes " item=0x02:" ++ decimal n
item_text (RecorderSpeed n) = codes " item=0x03:" ++ decimal n
item_text (EventId n) = codes " item=0x04:" ++ decimal n
item_text (Overspeed kind region) = codes " item=0x11:" ++ decimal kind ++ region_text region
item_text (RegionAlarm kind region direction) = codes " item=0x12:" ++ decimal kind ++ codes ":" ++ decimal region ++ codes ":" ++ decimal direction
item_text (Travel segment seconds result) = codes " item=0x13:" ++ decimal segment ++ codes ":" ++ decimal seconds ++ codes ":" ++ decimal result
item_text (Signals n) = codes " item=0x25:" ++ decimal n
item_text (Io n) = codes " item=0x2a:" ++ decimal n
item_text (Analogue n) = codes " item=0x2b:" ++ decimal n
item_text (Signal n) = codes " item=0x30:" ++ decimal n
item_text (Satellites n) = codes " item=0x31:" ++ decimal n
item_text (Raw id value) = codes " item=0x" ++ byte_digits id ++ codes ":" ++ octets_text value

unfoldable pub place_text : Fixed → List ℕ
place_text m =
    codes " alarm=0x" ++ dword_digits m.alarm ++ codes " status=0x" ++ dword_digits m.status ++ codes " lat=" ++ decimal m.lat
    ++ codes " lon=" ++ decimal m.lon

unfoldable pub motion_text : Fixed → List ℕ
motion_text m =
    codes " altitude=" ++ decimal m.altitude ++ codes " speed=" ++ decimal m.speed ++ codes " direction=" ++ decimal m.direction
    ++ codes " time=" ++ time_text m.time

unfoldable pub position_fields : Position → List ℕ
position_fields m = place_text m.fixed ++ motion_text m.fixed ++ flat_map item_text m.items

-- a position of a batch, behind its length
unfoldable pub batch_item_text : Position → List ℕ
batch_item_text m = codes " length=" ++ decimal (length (layouts.position.spell m)) ++ position_fields m

unfoldable pub batch_fields : Batch → List ℕ
batch_fields m = codes " count=" ++ decimal (length m.fixes) ++ codes " kind=" ++ decimal m.kind ++ flat_map batch_item_text m.fixes
