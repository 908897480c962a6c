-- What a terminal's line makes of the octets that it is handed (this project's own). To be believed.
use Rattle.std.specs.Prelude.{◌≡◌, ℕ, List, [], ◌∷◌, ◌++◌, length, drop, Option, None, Some, Result, Ok, Err}
use Rattle.std.specs.Option.{option_to_list}
use Rattle.jt_value.specs.Octets.{AreOctets}
use Rattle.jt_value.specs.declared.refusal.Refusal.{Refusal}
use Rattle.jt_escape.specs.Scan.{State as Splitting}
use Rattle.jt_escape.specs.Splitter.{StandsFor}
use Rattle.jt_header.specs.declared.header.Header.{Header}
use Rattle.jt_header.specs.declared.header.Packet.{Packet}
use Rattle.jt_stream.specs.Unplaced.{Unplaced, Message as Frame, Fault, items}
use Rattle.jt_codec.specs.Bodies.{body}
use Rattle.jt_codec.specs.declared.message.Message.{Message}
use Rattle.jt_subpacket.specs.Partials.{Partial}
use Rattle.jt_subpacket.specs.Fates.{taken_by}
use Rattle.jt_subpacket.specs.Joining.{joined_header}
use Rattle.jt_subpacket.specs.declared.taken.Fate.{Fate}
use Rattle.jt_subpacket.specs.declared.taken.Fate.TheVariants as fate
use Rattle.jt_terminal_rule.specs.declared.state.State.{State}
use Rattle.jt_terminal_rule.specs.declared.state.GiveUp.{GiveUp}
use Rattle.jt_terminal_rule.specs.Law.{response_heard}
use Rattle.jt_terminal_steps.specs.AfterError.{AreSameTables}
use Rattle.jt_terminal_rule.specs.Rule.{Heard, Whole, Refused, Lacks, TooMany, Ruled, and_then, on_hearing, stays, named_place}

-- ---- what is heard

-- a message, or a body that is refused
abbrev pub as_read : Header → Result Message Refusal → Heard
as_read h (Ok m) = Whole h m
as_read h (Err refusal) = Refused h

abbrev pub of_body : Header → List ℕ → Heard
of_body h octets = as_read h ((body h.edition h.id).read octets 0)

-- a packet is heard where it makes its message whole, is the last one of a message whose others lack, or is one of too many
abbrev pub of_packet : Header → Fate → Option Heard
of_packet h (fate.TooMany total) = Some (TooMany h)
of_packet h (fate.Whole id serial octets) = Some (of_body (joined_header h) octets)
of_packet h (fate.Resend first missing) = Some (Lacks h first missing)
of_packet h fate.Repeat = None
of_packet h fate.Kept = None

abbrev pub of_frame : List Partial → Header → List ℕ → Option Packet → Option Heard
of_frame partial h octets None = Some (of_body h octets)
of_frame partial h octets (Some packet) = of_packet h (taken_by partial h octets).fate

-- what an item is heard as, over the partial messages that are kept; a refused item is passed over
abbrev pub of_item : List Partial → Unplaced → Option Heard
of_item partial (Fault place why) = None
of_item partial (Frame h octets) = of_frame partial h octets h.packet

-- the partial messages behind an item
abbrev pub kept_by_frame : List Partial → Header → List ℕ → Option Packet → List Partial
kept_by_frame partial h octets None = partial
kept_by_frame partial h octets (Some packet) = (taken_by partial h octets).partial

abbrev pub kept_by : List Partial → Unplaced → List Partial
kept_by partial (Fault place why) = partial
kept_by partial (Frame h octets) = kept_by_frame partial h octets h.packet

abbrev pub kept_behind : List Partial → List Unplaced → List Partial
kept_behind partial [] = partial
kept_behind partial (item ∷ items) = kept_behind (kept_by partial item) items

-- ---- what the terminal does

abbrev pub rule_at : State → Option Heard → Ruled
rule_at s None = stays s
rule_at s (Some x) = on_hearing s x

-- one rule, and then another unless the line was given up
abbrev pub then_unless : Option GiveUp → Ruled → (State → Ruled) → Ruled
then_unless None r more = and_then r more
then_unless (Some cause) r more = r

abbrev pub then_unless_over : Ruled → (State → Ruled) → Ruled
then_unless_over r more = then_unless r.end r more

-- what it does at items one after another, up to the one at which it gives up
abbrev pub rule_at_items : State → List Partial → List Unplaced → Ruled
rule_at_items s partial [] = stays s
rule_at_items s partial (item ∷ items) = then_unless_over (rule_at s (of_item partial item)) (λ t. rule_at_items t (kept_by partial item) items)

-- times and tables are those that the rule has before one of these items
pub record TablesOfFirst (s : State) (partial : List Partial) (items : List Unplaced) (now : State) : Type 0 where
  pub front : List Unplaced
  pub failed : Unplaced
  pub back : List Unplaced
  pub parts : items ≡ front ++ failed ∷ back
  pub tables : AreSameTables (rule_at_items s partial front).state now

-- the units whose acceptance it is told at them
abbrev pub place_at : State → Option Heard → Option ℕ
place_at s None = None
place_at s (Some x) = named_place s (response_heard x)

abbrev pub more_unless : Option GiveUp → List ℕ → List ℕ
more_unless None more = more
more_unless (Some cause) more = []

abbrev pub places_at_items : State → List Partial → List Unplaced → List ℕ
places_at_items s partial [] = []
places_at_items s partial (item ∷ items) =
    let x = of_item partial item in
    option_to_list (place_at s x) ++ more_unless (rule_at s x).end (places_at_items (rule_at s x).state (kept_by partial item) items)

-- the items that octets bring behind others
abbrev pub new_items : List ℕ → List ℕ → List Unplaced
new_items seen octets = drop (length (items seen)) (items (seen ++ octets))

-- the partial messages that a stream leaves
abbrev pub partial_of : List ℕ → List Partial
partial_of seen = kept_behind [] (items seen)

-- what a terminal does at octets that come behind others on the same line
abbrev pub rule_at_octets : State → List ℕ → List ℕ → Ruled
rule_at_octets s seen octets = rule_at_items s (partial_of seen) (new_items seen octets)

abbrev pub places_at_octets : State → List ℕ → List ℕ → List ℕ
places_at_octets s seen octets = places_at_items s (partial_of seen) (new_items seen octets)

-- ---- the line

-- what contracts see of a line: where its stream stands, and the messages of which packets came
pub record LineValue : Type 0 where
  pub stream : Splitting
  pub partial : List Partial

-- the line read these octets
pub record StandsForLine (line : LineValue) (seen : List ℕ) : Type 0 where
  pub octets : AreOctets seen
  pub stream : StandsFor line.stream seen
  pub partial : line.partial ≡ partial_of seen
