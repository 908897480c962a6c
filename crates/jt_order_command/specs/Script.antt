-- What a script of orders leads to, and what is printed of it: this project's own. To be believed.
use Rattle.std.specs.Prelude.{ℕ, ◌+◌, if◌then◌else◌, Bool, false, List, [], ◌∷◌, None}
use Rattle.jt_value.specs.declared.phone.Edition.TheVariants.{E2013}
use Rattle.jt_input.specs.Lines.{Outcome, answer_of, bad_outcome, printing}
use Rattle.jt_input.specs.Reply.{Reply}
use Rattle.jt_input.specs.Text.{lines_of}
use Rattle.jt_input.specs.declared.status.Status.TheVariants.{Done, StoreFault, Memory}
use Rattle.jt_world.specs.Rehearsal.{the_identity, the_setting, the_settings}
use Rattle.jt_order.specs.declared.book.TheConstants.{ORDER_LIMIT}
use Rattle.jt_order_octets.specs.World.{OrderWorld}
use Rattle.jt_order_play.specs.Playing.{OrderPlay, finds_full, moves, names_no_line, play_after, runs}
use Rattle.jt_order_play.specs.Scripts.{OrderScene, first_play}
use Rattle.jt_order_play.specs.declared.event.OrderEvent.{OrderEvent}
use Rattle.jt_order_play.specs.declared.event.OrderEvent.TheVariants as line
use Rattle.jt_order_command.specs.Lines.{meaning}
use Rattle.jt_order_command.specs.Texts.{end_line, event_text, full_line}
use Rattle.jt_order_command.specs.declared.reading.OrderLine.{OrderLine}
use Rattle.jt_order_command.specs.declared.reading.OrderLine.TheVariants.{Passed, Event, Bad}

-- the terminal and the hub of a rehearsal, where nothing has happened; and no order is issued or performed
abbrev pub first_scene : OrderScene
first_scene = record { play = first_play (the_settings E2013) the_setting; identity = the_identity }

-- ---- the world after a line

abbrev pub scene_after : OrderScene → OrderEvent → OrderScene
scene_after s event = record s { play = play_after s.identity.e2013 s.play event }

-- the event is a `run` of which an octet would move yet behind 2^64 rounds
abbrev pub passes_round_limit : OrderPlay → OrderEvent → Bool
passes_round_limit p line.Run = moves (runs p)
passes_round_limit p other = false

-- ---- what comes of lines

-- the script ends with this world, since the book is full
abbrev pub full_outcome : OrderScene → Outcome OrderScene
full_outcome s = record { left = s; text = full_line ORDER_LIMIT; bad = None; status = StoreFault }

-- the script ends with this world: its `run` passes the limit of rounds, which is told as want of memory
abbrev pub round_limit_outcome : OrderScene → Outcome OrderScene
round_limit_outcome s = record { left = s; text = []; bad = None; status = Memory }

-- A line is passed over, leads to the next world, or ends the script: as the bad line of this number, also where it names a line of
-- communication that was not opened, where the book is full, or where its `run` passes the limit of rounds.
abbrev pub after_line : OrderScene → ℕ → (OrderScene → Outcome OrderScene) → OrderLine → Outcome OrderScene
after_line s number next Passed = next s
after_line s number next (Event event) =
    if names_no_line s.play.world event then bad_outcome s number
    else if finds_full s.play.world event then full_outcome s
    else if passes_round_limit s.play event then round_limit_outcome s
    else printing (event_text s.play.world (scene_after s event).play.world) (next (scene_after s event))
after_line s number next Bad = bad_outcome s number

-- what comes of these lines, the first of which has this number
abbrev pub outcome_of : OrderScene → ℕ → List (List ℕ) → Outcome OrderScene
outcome_of s number [] = record { left = s; text = end_line s.play.world; bad = None; status = Done }
outcome_of s number (line ∷ more) = after_line s number (λ next. outcome_of next (number + 1) more) (meaning number line)

-- what is printed of a script, and the status
unfoldable pub order_reply : List ℕ → Reply
order_reply script = answer_of outcome_of first_scene script

-- the world to which a script led
abbrev pub world_of : List ℕ → OrderWorld
world_of script = (outcome_of first_scene 1 (lines_of script)).left.play.world
