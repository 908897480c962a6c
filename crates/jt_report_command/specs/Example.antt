-- A terminal that recorded one fix, and a script with the acceptances of all that it sends: one example, so that what the laws on scripts
-- ask is met (this project's own). To be believed.
use Rattle.std.specs.Prelude.{ℕ, List, [], ◌∷◌, codes, Some}
use Rattle.std.specs.List.{flat_map}
use Rattle.jt_value.specs.declared.phone.Edition.TheVariants.{E2013}
use Rattle.jt_value.specs.declared.phone.Phone.{Phone}
use Rattle.jt_escape.specs.Frame.{framed}
use Rattle.jt_outside.specs.Time.{Time}
use Rattle.jt_terminal_rule.specs.Law.{nothing_loaded}
use Rattle.jt_terminal_rule.specs.PlainSettings.{settings_of}
use Rattle.jt_terminal_rule.specs.Rule.{start_state}
use Rattle.jt_terminal_rule.specs.declared.settings.Settings.{Settings}
use Rattle.jt_terminal_rule.specs.declared.state.State.{State}
use Rattle.jt_report_command.specs.Noting.{noted_all}

-- the phone 013912345678
abbrev pub a_phone : Phone
a_phone = record { edition = E2013; digits = 0 ∷ 0 ∷ 0 ∷ 0 ∷ 0x01 ∷ 0x39 ∷ 0x12 ∷ 0x34 ∷ 0x56 ∷ 0x78 ∷ [] }

abbrev pub the_settings : Settings
the_settings = settings_of a_phone (codes "JT808") (codes "1234567")

-- a position of 28 octets: 20 degrees north, 113 degrees east
abbrev pub a_fix : List ℕ
a_fix =
    0 ∷ 0 ∷ 0 ∷ 0 ∷ 0 ∷ 0 ∷ 0 ∷ 0x03 ∷ 0x01 ∷ 0x31 ∷ 0x2D ∷ 0x00 ∷ 0x06 ∷ 0xBC ∷ 0x3E ∷ 0x40
    ∷ 0 ∷ 0 ∷ 0 ∷ 0 ∷ 0 ∷ 0 ∷ 0x24 ∷ 0x01 ∷ 0x01 ∷ 0 ∷ 0 ∷ 0 ∷ []

-- it started over an empty vault, and recorded the fix
abbrev pub a_terminal : State
a_terminal = noted_all (start_state the_settings nothing_loaded) (a_fix ∷ [])

-- 0x8100 to the registration of serial 0: it is registered with the code 12
abbrev pub registered : List ℕ
registered =
    0x81 ∷ 0x00 ∷ 0x00 ∷ 0x05 ∷ 0x01 ∷ 0x39 ∷ 0x12 ∷ 0x34 ∷ 0x56 ∷ 0x78 ∷ 0x00 ∷ 0x00
    ∷ 0x00 ∷ 0x00 ∷ 0x00 ∷ 0x31 ∷ 0x32 ∷ 0xB7 ∷ []

-- 0x8001 to the authentication of serial 1: success
abbrev pub authenticated : List ℕ
authenticated =
    0x80 ∷ 0x01 ∷ 0x00 ∷ 0x05 ∷ 0x01 ∷ 0x39 ∷ 0x12 ∷ 0x34 ∷ 0x56 ∷ 0x78 ∷ 0x00 ∷ 0x01
    ∷ 0x00 ∷ 0x01 ∷ 0x01 ∷ 0x02 ∷ 0x00 ∷ 0xB7 ∷ []

-- 0x8001 to the unit of serial 2, a position: success
abbrev pub accepted : List ℕ
accepted =
    0x80 ∷ 0x01 ∷ 0x00 ∷ 0x05 ∷ 0x01 ∷ 0x39 ∷ 0x12 ∷ 0x34 ∷ 0x56 ∷ 0x78 ∷ 0x00 ∷ 0x02
    ∷ 0x00 ∷ 0x02 ∷ 0x02 ∷ 0x00 ∷ 0x00 ∷ 0xB6 ∷ []

abbrev pub a_script : List ℕ
a_script = flat_map framed (registered ∷ authenticated ∷ accepted ∷ [])

-- a clock that stands at 0
abbrev pub still_clock : Time
still_clock = record { coming = Some (0 ∷ []); last = 0 }
