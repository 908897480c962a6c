-- A script that is made, as far as it was said. Steps for the proofs.
use Rattle.std.specs.Prelude.{◌≡◌, ◌⊎◌, ℕ, List, [], ◌∷◌, ◌++◌, string_bytes, Option}
use Rattle.std.specs.Io.KnownBytes.{Appends}
use Rattle.jt_outside.specs.Sink.{AppendsPrefix}
use Rattle.jt_input.specs.Lines.{bad_line}
use Rattle.jt_octets.specs.Reaching.{Reached}
use Rattle.jt_play.specs.Scripts.{Scene}
use Rattle.jt_world.specs.Hearing.{MayHear}
use Rattle.jt_world.specs.Made.{last_line}
use Rattle.jt_world.specs.Rehearsal.{Rehearsal, first, printing, rehearsal_from}
use Rattle.jt_world.specs.Rehearsing.{ending}
use Rattle.jt_world.specs.declared.making.Course.{Course}
use Rattle.jt_world.specs.declared.making.Course.TheVariants.{GoesOn, Ended, OutOfMemory}
use Rattle.jt_world.specs.declared.making.Making.{Making}
use Rattle.jt_world.specs.declared.rehearsing.Rehearsed.{Rehearsed}
use Rattle.jt_world.specs.declared.rehearsing.Rehearsed.TheVariants.{BadLine, WriteFault}

-- the rehearsal goes on in this scene with these lines, the first of which has this number
pub record IsAt (s : Scene) (number : ℕ) (lines : List (List ℕ)) (whole : Rehearsal) : Type 0 where
  pub may : MayHear s
  pub before : List ℕ
  pub is : whole ≡ printing before (rehearsal_from s.play number lines)

-- the rehearsal ended so in this scene, and this is its last line
pub record HasEnded (s : Scene) (text : List ℕ) (ended : Rehearsed) (whole : Rehearsal) : Type 0 where
  pub reached : Reached s.play.world
  pub play : whole.play ≡ s.play
  pub is : ended ≡ ending whole.end
  pub text_is : text ≡ last_line whole.play whole.end

-- where these lines are said next, all lines together have this rehearsal; nothing is known once memory ran out
abbrev pub StandsIn : Course → Scene → List ℕ → ℕ → List (List ℕ) → Rehearsal → Type 0
StandsIn GoesOn s text number lines whole = IsAt s number lines whole
StandsIn (Ended ended) s text number lines whole = HasEnded s text ended whole
StandsIn OutOfMemory s text number lines whole = Unit {0}

abbrev pub Stands : Making → List (List ℕ) → Rehearsal → Type 0
Stands m lines whole = StandsIn m.course m.world (string_bytes m.text) m.number lines whole

-- the line that stands in its place is bad, which is the text, or memory ran out
abbrev pub IsRefused : Course → ℕ → List ℕ → Type 0
IsRefused GoesOn number text = ⊥
IsRefused (Ended ended) number text = (ended ≡ BadLine number) × (text ≡ bad_line number)
IsRefused OutOfMemory number text = Unit {0}

-- the line that stands in its place was heard
abbrev pub Hears : Making → Making → Course → Type 0
Hears old now course = (lines : List (List ℕ)) (whole : Rehearsal) → IsAt old.world old.number (string_bytes old.line ∷ lines) whole
    → StandsIn course now.world (string_bytes now.text) now.number lines whole

-- nothing was said
abbrev pub Begins : Making → Type 0
Begins m = (lines : List (List ℕ)) → Stands m lines (rehearsal_from first 1 lines)

-- these lines were said
abbrev pub SaysAll : Making → Making → List (List ℕ) → Type 0
SaysAll old now lines = (more : List (List ℕ)) (whole : Rehearsal) → Stands old (lines ++ more) whole → Stands now more whole

-- this line was said
abbrev pub Says : Making → Making → List ℕ → Type 0
Says old now line = SaysAll old now (line ∷ [])

-- the whole script was said
abbrev pub Ends : Making → Making → Rehearsed → Type 0
Ends old now ended = (whole : Rehearsal) → Stands old [] whole → HasEnded now.world (string_bytes now.text) ended whole

-- the text was written and it ended so, or the sink failed
abbrev pub Writes : Rehearsed → Rehearsed → Option (List ℕ) → Option (List ℕ) → List ℕ → Type 0
Writes ended result old now text = ((result ≡ ended) × Appends old now text) ⊎ ((result ≡ WriteFault) × AppendsPrefix old now text)
