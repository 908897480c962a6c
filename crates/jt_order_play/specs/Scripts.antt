-- What contracts see of a world of orders that a script plays, and how far it came (this project's own). To be believed.
use Rattle.std.specs.Prelude.{◌≡◌, ℕ, length}
use Rattle.jt_value.specs.Sameness.{key_of}
use Rattle.jt_delivery.specs.World.{Setting}
use Rattle.jt_terminal_rule.specs.declared.settings.Settings.{Settings}
use Rattle.jt_terminal_rule.specs.Law.{nothing_held, nothing_loaded}
use Rattle.jt_terminal_rule.specs.Messages.{AreSettings}
use Rattle.jt_terminal_rule.specs.Rule.{start_state}
use Rattle.jt_play.specs.declared.identity.Identity.{Identity}
use Rattle.jt_order_octets.specs.World.{OrderWorld, empty}
use Rattle.jt_order_octets.specs.Reaching.{Reached}
use Rattle.jt_order_play.specs.Playing.{OrderPlay}
use Rattle.jt_order_play.specs.declared.event.OrderEvent.{OrderEvent}
use Rattle.jt_order_play.specs.declared.event.OrderEvent.TheVariants as line
use Rattle.jt_order_play.specs.declared.world.OrderTotals.{OrderTotals}

-- beside the play the terminal's settings in both editions
pub record OrderScene : Type 0 where
  pub play : OrderPlay
  pub identity : Identity

-- steps lead to the world, and the settings of 2013 are good and of a phone with its terminal's digits
pub record IsOrderScene (p : OrderPlay) (identity : Identity) : Type 0 where
  pub reached : ∥ Reached p.world ∥₁
  pub good : AreSettings identity.e2013
  pub same : key_of identity.e2013.phone ≡ key_of p.world.base.terminal.phone

-- the world before all lines of a script
abbrev pub first_play : Settings → Setting → OrderPlay
first_play settings setting = record { world = empty settings.phone setting; held = nothing_held; state = start_state settings nothing_loaded; clock = 0 }

-- the line of communication that an event names has this number
abbrev pub Names : OrderEvent → ℕ → Type 0
Names (line.Up number count) named = number ≡ named
Names (line.Cut number) named = number ≡ named
Names other named = ⊥

-- how many orders were issued, how many of them were performed, and how many of those were answered
abbrev pub totals_of : OrderWorld → OrderTotals
totals_of w = record { issued = length w.issued; performed = length w.log; answered = length w.results }
