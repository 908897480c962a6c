-- Positions and batches of positions, as the standard's message bodies have them. To be believed.
use Rattle.std.specs.Prelude.{ℕ, List, length}
use Rattle.jt_layout.specs.Layout.{Part, Body, byte, word, dword, octets_of, block, ◌▹◌, ◌▸◌, ended, part_as, part_typed, body_as, to_the_end, times, sized}
use Rattle.jt_position.specs.declared.fixed.Fixed.{Fixed}
use Rattle.jt_position.specs.declared.item.Item.{Item}
use Rattle.jt_position.specs.declared.position.Position.{Position}
use Rattle.jt_position.specs.declared.batch.Batch.{Batch}
use Rattle.jt_position.specs.Items.{typed, untyped, ItemFits}

-- id B, length B, value of that length
abbrev pub plain_item : Part (ℕ × List ℕ)
plain_item = byte ▹ λ _. block byte

unfoldable pub item : Part Item
item = part_typed plain_item typed untyped ItemFits

-- alarm Dx, status Dx, lat D, lon D, altitude W, speed W, direction W, time BCD[6]
unfoldable pub fixed : Part Fixed
fixed = part_as (dword ▹ λ _. dword ▹ λ _. dword ▹ λ _. dword ▹ λ _. word ▹ λ _. word ▹ λ _. word ▹ λ _. octets_of 6)
    (λ x. record { alarm = x.0; status = x.1.0; lat = x.1.1.0; lon = x.1.1.1.0; altitude = x.1.1.1.1.0; speed = x.1.1.1.1.1.0; direction = x.1.1.1.1.1.1.0; time = x.1.1.1.1.1.1.1 })
    (λ m. (m.alarm, (m.status, (m.lat, (m.lon, (m.altitude, (m.speed, (m.direction, m.time))))))))

-- the fixed fields, and items up to the end
unfoldable pub position : Body Position
position = body_as (fixed ▸ λ _. to_the_end item)
    (λ x. record { fixed = x.0; items = x.1 })
    (λ m. (m.fixed, m.items))

-- count W, kind B, then that many of: length W, position of that length
unfoldable pub batch : Body Batch
batch = body_as (ended (word ▹ λ count. byte ▹ λ _. times count (sized word position)))
    (λ x. record { kind = x.1.0; fixes = x.1.1 })
    (λ m. (length m.fixes, (m.kind, m.fixes)))
