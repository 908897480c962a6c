-- Scripts of the world that is played: what contracts see of it, to which world the lines of a script lead, and how far that came (this
-- project's own). To be believed.
use Rattle.std.specs.Prelude.{◌≡◌, ◌⊎◌, ℕ, ◌-◌, ◌^◌, List, [], ◌∷◌, length, min, false}
use Rattle.jt_value.specs.Sameness.{key_of}
use Rattle.jt_value.specs.declared.phone.Edition.{Edition}
use Rattle.jt_value.specs.declared.phone.Edition.TheVariants.{E2013, E2019}
use Rattle.jt_value.specs.declared.phone.Phone.{Phone}
use Rattle.jt_store.specs.Units.{fixes_in}
use Rattle.jt_store.specs.Vaults.{accepted_count}
use Rattle.jt_script.specs.declared.world_event.WorldEvent.{WorldEvent}
use Rattle.jt_script.specs.declared.world_event.WorldEvent.TheVariants as line
use Rattle.jt_delivery.specs.World.{Setting}
use Rattle.jt_event_lines.specs.declared.totals.WorldTotals.{WorldTotals}
use Rattle.jt_terminal_rule.specs.declared.settings.Settings.{Settings}
use Rattle.jt_terminal_rule.specs.Messages.{AreSettings}
use Rattle.jt_octets.specs.Reaching.{Reached}
use Rattle.jt_play.specs.declared.identity.Identity.{Identity}
use Rattle.jt_play.specs.Laws.{HaveFixes, first_play, plays}
use Rattle.jt_play.specs.Playing.{Play, moves, runs}

-- the settings of the terminal in an edition
abbrev pub settings_in : Identity → Edition → Settings
settings_in identity E2013 = identity.e2013
settings_in identity E2019 = identity.e2019

-- what contracts see of a world that a script plays: beside the play the terminal's settings in both editions, and the present edition
pub record Scene : Type 0 where
  pub play : Play
  pub identity : Identity
  pub edition : Edition

-- steps lead to the world, and the settings of both editions are those of its terminal
pub record IsScene (p : Play) (identity : Identity) : Type 0 where
  pub reached : ∥ Reached p.world ∥₁
  pub good : (e : Edition) → AreSettings (settings_in identity e)
  pub same : (e : Edition) → key_of (settings_in identity e).phone ≡ key_of p.world.terminal.phone

-- the line of communication that an event names has this number
abbrev pub Names : WorldEvent → ℕ → Type 0
Names (line.Up number count) named = number ≡ named
Names (line.Cut number) named = number ≡ named
Names other named = ⊥

-- ---- scripts

-- the edition in which the terminal is after an event: a restart in an edition sets it, and nothing else does
abbrev pub edition_by : Edition → WorldEvent → Edition
edition_by edition (line.RestartAs chosen) = chosen
edition_by edition other = edition

-- and after these, one after another
abbrev pub edition_after : Edition → List WorldEvent → Edition
edition_after edition [] = edition
edition_after edition (e ∷ events) = edition_after (edition_by edition e) events

-- After an event the terminal is in that edition, or in the one of before, as where the event was cut short.
abbrev pub TakesEdition : WorldEvent → Edition → Edition → Type 0
TakesEdition e old now = (now ≡ old) ⊎ (now ≡ edition_by old e)

-- It has the phone of before, or its phone of the edition that the event sets or leaves, as where it started anew.
abbrev pub TakesPhone : Identity → Edition → WorldEvent → Phone → Phone → Type 0
TakesPhone identity edition e old now = (now ≡ old) ⊎ (now ≡ (settings_in identity (edition_by edition e)).phone)

-- the lines of a script, and nothing else, led to the world from that in which nothing has happened
pub record IsScripted (s : Scene) : Type 0 where
  pub events : List WorldEvent
  pub fixes : HaveFixes events
  pub setting : Setting
  pub play_is : s.play ≡ plays (settings_in s.identity) (first_play (settings_in s.identity E2013) setting) events
  pub edition_is : s.edition ≡ edition_after E2013 events

-- What an event wants so that it does what `play_after` says, whatever happened before: of `run` that its rounds are enough, and where the
-- terminal starts anew that it has the settings of the present edition. Each line of a script has it (`law_run`, IsScripted).
abbrev pub IsPlayed : Identity → Edition → Play → WorldEvent → Type 0
IsPlayed identity edition p line.Run = moves (runs p) ≡ false
IsPlayed identity edition p line.RestartTerminal = settings_in identity edition ≡ p.state.settings
IsPlayed identity edition p other = Unit {0}

-- ---- how far a world came

-- a count, which stays at 2^64 - 1
abbrev pub at_most_u64 : ℕ → ℕ
at_most_u64 n = min n (2 ^ 64 - 1)

-- the fixes that the terminal recorded, those in the units whose acceptance it received, the rows of its phone, and the fixes in them
abbrev pub totals_of : Play → WorldTotals
totals_of p = record {
  recorded = at_most_u64 (length p.held.recorded);
  accepted = at_most_u64 (accepted_count p.held);
  rows = at_most_u64 (length p.world.keeper.rows);
  stored = at_most_u64 (length (fixes_in p.world.keeper.rows));
}
