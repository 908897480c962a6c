-- Attempts one after another, each over a link of its own (this project's own). To be believed.
use Rattle.std.specs.Prelude.{◌≡◌, ℕ, ◌+◌, ◌^◌, ◌≤◌, ◌<◌, ◌⊎◌, List, [], ◌∷◌, Option, Some, true, false, length}
use Rattle.jt_agent.specs.declared.running.TheConstants.{MOST_QUIETS}
use Rattle.jt_value.specs.declared.limits.TheConstants.{INPUT_LIMIT}
use Rattle.jt_value.specs.Counts.{Rose, Counts}
use Rattle.jt_outside.specs.Link.{Wire}
use Rattle.jt_outside.specs.Pool.{Pool, GivesLink, taken_back}
use Rattle.jt_outside.specs.Time.{Time}
use Rattle.jt_store.specs.Vaults.{Held}
use Rattle.jt_terminal_rule.specs.declared.state.State.{State}
use Rattle.jt_agent.specs.Course.{is_done}
use Rattle.jt_agent.specs.Attempt.{Attempt, AtLink}
use Rattle.jt_agent.specs.declared.ending.AttemptEnd.{AttemptEnd}
use Rattle.jt_agent.specs.declared.ending.AttemptEnd.TheVariants as how
use Rattle.jt_agent.specs.declared.ending.Attempted.{Attempted}
use Rattle.jt_agent.specs.declared.ending.Attempted.TheVariants as attempted
use Rattle.jt_agent.specs.declared.reporting.Outcome.{Outcome}
use Rattle.jt_agent.specs.declared.reporting.Outcome.TheVariants.{Done, Unsent, StoreFault, Memory}

-- between two attempts: the terminal, what its vault holds and its count of faults, the clock, and the dial with its count of faults
pub record Between : Type 0 where
  pub state : State
  pub held : Option Held
  pub faults : ℕ
  pub time : Time
  pub pool : Pool
  pub dial : ℕ

abbrev pub between : State → Option Held → ℕ → Time → Pool → ℕ → Between
between state held faults time pool dial = record { state = state; held = held; faults = faults; time = time; pool = pool; dial = dial }

abbrev pub with_link : Between → Wire → AtLink
with_link s link = record { state = s.state; held = s.held; faults = s.faults; link = link }

-- the dial gave a link, an attempt was made over it, and it went back
pub record OverLink (old now : Between) (end : Attempted) : Type 0 where
  pub link : Wire
  pub used : Wire
  pub lending : Pool
  pub gives : GivesLink old.pool lending (Some link)
  pub attempt : Attempt INPUT_LIMIT MOST_QUIETS (with_link old link) (with_link now used) old.time now.time end
  pub back : now.pool ≡ taken_back used lending
  pub dial : Counts old.dial now.dial

-- the dial failed, and its count rose
pub record NoLink (old now : Between) : Type 0 where
  pub dial : Rose old.dial now.dial
  pub same : now ≡ record old { dial = now.dial }

-- an attempt that ended so
abbrev pub OneTry : AttemptEnd → Between → Between → Type 0
OneTry how.Dial old now = NoLink old now
OneTry how.Link old now = OverLink old now (attempted.Ended how.Link)
OneTry how.End old now = OverLink old now (attempted.Ended how.End)
OneTry (how.Denied reply) old now = OverLink old now (attempted.Ended (how.Denied reply))
OneTry (how.TimedOut since moment) old now = OverLink old now (attempted.Ended (how.TimedOut since moment))
OneTry how.Idle old now = OverLink old now (attempted.Ended how.Idle)
OneTry how.Spent old now = OverLink old now (attempted.Ended how.Spent)

abbrev pub TriesOnce : Attempted → Between → Between → Type 0
TriesOnce (attempted.Ended end) old now = OneTry end old now
TriesOnce attempted.Done old now = OverLink old now attempted.Done
TriesOnce attempted.StoreFault old now = OverLink old now attempted.StoreFault
TriesOnce attempted.Memory old now = OverLink old now attempted.Memory

-- attempts that ended so, in order, each begun with something left to report
abbrev pub Tries : List AttemptEnd → Between → Between → Type 0
Tries [] old now = now ≡ old
Tries (end ∷ ends) old now = (is_done old.state ≡ false) × (mid : Between) × OneTry end old mid × Tries ends mid now

-- such attempts, and then one more, begun with something left to report, after which none comes
pub record Breaks (ends : List AttemptEnd) (old now : Between) (end : Attempted) : Type 0 where
  pub mid : Between
  pub tries : Tries ends old mid
  pub left : is_done mid.state ≡ false
  pub last : OverLink mid now end

-- Attempts that ended, and what came then. Done: all is accepted after them, or by one more attempt. Unsent: they are as many as may be, and
-- something is left. StoreFault: one more attempt, in which the vault failed. Memory: one more attempt, in which memory was refused, or it
-- was refused between two attempts. In all cases there are no more attempts than may be.
abbrev pub Reports : ℕ → Outcome → Between → Between → Type 0
Reports tries (Done ends) old now =
    ((length ends ≤ tries) × Tries ends old now × (is_done now.state ≡ true)) ⊎ ((length ends < tries) × Breaks ends old now attempted.Done)
Reports tries (Unsent ends) old now = (length ends ≡ tries) × Tries ends old now × (is_done now.state ≡ false)
Reports tries (StoreFault ends) old now = (length ends < tries) × Breaks ends old now attempted.StoreFault
Reports tries Memory old now = (ends : List AttemptEnd) × (length ends < tries)
    × ((Tries ends old now × (is_done now.state ≡ false)) ⊎ Breaks ends old now attempted.Memory)

-- the ends that an outcome tells
abbrev pub ends_in : Outcome → List AttemptEnd
ends_in (Done ends) = ends
ends_in (Unsent ends) = ends
ends_in (StoreFault ends) = ends
ends_in Memory = []

-- how many of these attempts ended for want of a link
abbrev pub dials_in : List AttemptEnd → ℕ
dials_in [] = 0
dials_in (how.Dial ∷ ends) = dials_in ends + 1
dials_in (end ∷ ends) = dials_in ends

-- the vault failed
abbrev pub IsStoreFault : Outcome → Type 0
IsStoreFault (Done ends) = ⊥
IsStoreFault (Unsent ends) = ⊥
IsStoreFault (StoreFault ends) = Unit {0}
IsStoreFault Memory = ⊥
