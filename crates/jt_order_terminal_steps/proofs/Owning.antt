-- Lists of steps that are all the terminal's own.
use Rattle.std.proofs.Common.{List, [], ◌∷◌, None, refl}
use Rattle.std.specs.Prelude.{All}
use Rattle.std.proofs.lemmas.List.Elements.{All-cons, All-nil}
use Rattle.jt_value.specs.Reaching.{MayAll, Leads as LeadsBy}
use Rattle.jt_value.proofs.Reaching as any
use Rattle.jt_terminal_rule.specs.Steps.{MayRun, TerminalStep}
use Rattle.jt_order_octets.specs.World.{OrderWorld}
use Rattle.jt_order_octets.specs.Reaching.{Leads}
use Rattle.jt_order_octets.specs.Steps.{Does, Event, MayCome, after}
use Rattle.jt_order_play.specs.Playing.{done}
use Rattle.jt_order_play.proofs.Naming.{AreFine}
use Rattle.jt_order_terminal_steps.specs.Standing.{TerminalParts, TerminalStandsIn}
use Rattle.jt_order_terminal_steps.specs.Claim.{IsOfTerminal, LeadsTo}

-- the step may come, and is the terminal's own
abbrev MayOwn : OrderWorld → Event → Type 0
MayOwn w event = MayCome w event × IsOfTerminal event

-- a list of such steps leads from one world to another
abbrev pub OwnLeads : OrderWorld → OrderWorld → Type 0
OwnLeads old new = LeadsBy MayOwn after old new

pub own_none : (w : OrderWorld) → OwnLeads w w
own_none w = any.leads_same MayOwn after w w refl

pub own_one : (w : OrderWorld) (event : Event) → MayCome w event → IsOfTerminal event → OwnLeads w (after w event)
own_one w event may own = any.leads_one MayOwn after w (after w event) event (may, own) refl

pub own_both : (w mid now : OrderWorld) → OwnLeads w mid → OwnLeads mid now → OwnLeads w now
own_both w mid now a b = any.leads_both MayOwn after w mid now a b

pub done_own : (w : OrderWorld) (steps : List TerminalStep) → MayRun w.base.terminal None steps → AreFine steps → OwnLeads w (done w steps)
done_own w [] may fine = own_none w
done_own w (s ∷ steps) may fine = own_both w (after w (Does s)) (done (after w (Does s)) steps) (own_one w (Does s) (may.0, fine.0) tt) (done_own (after w (Does s)) steps may.1 fine.1)

all_may : (w : OrderWorld) (events : List Event) → MayAll MayOwn after w events → MayAll MayCome after w events
all_may w [] may = tt
all_may w (event ∷ events) may = (may.0.0, all_may (after w event) events may.1)

all_own : (w : OrderWorld) (events : List Event) → MayAll MayOwn after w events → All IsOfTerminal events
all_own w [] may = All-nil IsOfTerminal
all_own w (event ∷ events) may = All-cons IsOfTerminal event events may.0.1 (all_own (after w event) events may.1)

-- they are steps of the world
pub leads_of : (w now : OrderWorld) → OwnLeads w now → Leads w now
leads_of w now a = record { events = a.events; may = all_may w a.events a.may; to = a.to }

-- and the terminal stands there
pub leads_to : (w now : OrderWorld) (t : TerminalParts) → OwnLeads w now → TerminalStandsIn now t → LeadsTo w now t
leads_to w now t a stands = record { leads = record { events = a.events; may = all_may w a.events a.may; to = a.to }; own = all_own w a.events a.may; stands = stands }
