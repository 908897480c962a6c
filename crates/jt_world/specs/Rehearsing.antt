-- What a rehearsal over a source and a sink does. To be believed.
use Rattle.std.specs.Prelude.{◌≡◌, ◌⊎◌, ℕ, ◌+◌, ◌<◌, IsTrue, List, [], ◌++◌, length, Option}
use Rattle.std.specs.Io.KnownBytes.{Appends, Consumes, IsAtEnd}
use Rattle.jt_outside.specs.Sink.{AppendsPrefix}
use Rattle.jt_input.specs.Cutter.{Held}
use Rattle.jt_input.specs.Lines.{HasHeard}
use Rattle.jt_input.specs.Text.{Cuts, is_within}
use Rattle.jt_world.specs.Claim.{KeptWhole}
use Rattle.jt_play.specs.Playing.{Play}
use Rattle.jt_play.specs.Scripts.{Scene}
use Rattle.jt_world.specs.Hearing.{MayHear, outcome}
use Rattle.jt_world.specs.Rehearsal.{End, Whole, BadAt, FullAt, Rehearsal, first, printing, rehearsal_from, rehearsal, world_of}
use Rattle.jt_world.specs.Made.{made, made_reply}
use Rattle.jt_world.specs.declared.rehearsing.Rehearsed.{Rehearsed}
use Rattle.jt_world.specs.declared.rehearsing.Rehearsed.TheVariants.{Done, BadLine, ReadFault, WriteFault, Full, Memory}

-- the outside failed, or memory was refused
abbrev pub IsFault : Rehearsed → Type 0
IsFault ReadFault = Unit {0}
IsFault WriteFault = Unit {0}
IsFault Memory = Unit {0}
IsFault Done = ⊥
IsFault (BadLine number) = ⊥
IsFault (Full limit) = ⊥

-- how a rehearsal ends whose script ended so
abbrev pub ending : End → Rehearsed
ending Whole = Done
ending (BadAt number) = BadLine number
ending (FullAt limit) = Full limit

-- The sink went from what was written before to what is written now, where it tells: by the whole text of the rehearsal,
-- which ended as it does, or by a prefix of the text, where there was a fault.
abbrev pub TellsRehearsal : Rehearsed → Rehearsal → Option (List ℕ) → Option (List ℕ) → Type 0
TellsRehearsal result rehearsal old now = ((result ≡ ending rehearsal.end) × Appends old now rehearsal.text) ⊎ (IsFault result × AppendsPrefix old now rehearsal.text)

-- no octet that could follow these changes the rehearsal, or none follows
abbrev pub IsSettled : Option (List ℕ) → List ℕ → Type 0
IsSettled left taken = IsAtEnd left ⊎ ((rest : List ℕ) → rehearsal (taken ++ rest) ≡ rehearsal taken)

-- The octets of the script that were taken, and what was told of them. Where there was no fault they tell of the whole
-- script, and the claim of delivery holds of its world.
pub record Rehearses (left left_now old now : Option (List ℕ)) (result : Rehearsed) : Type 0 where
  pub taken : List ℕ
  pub consumed : Consumes left left_now taken
  pub tells : TellsRehearsal result (rehearsal taken) old now
  pub settled : IsFault result ⊎ IsSettled left_now taken
  pub kept : IsFault result ⊎ KeptWhole (world_of taken)

-- Each whole line of a script that begins so was heard, none of them ended it, the line that is begun is within the limits
-- so far, and this is all that is printed of the lines, whatever follows.
pub record IsHeard (front text : List ℕ) : Type 0 where
  pub lines : List (List ℕ)
  pub begun : List ℕ
  pub cuts : Cuts front lines begun
  pub within : 0 < length begun → IsTrue (is_within (length lines + 1) begun)
  pub play : Play
  pub goes : (more : List (List ℕ)) → rehearsal_from first 1 (lines ++ more) ≡ printing text (rehearsal_from play (length lines + 1) more)

-- The script of so many rounds was made and rehearsed: the sink gained the last line of what is printed of it, which tells how it
-- ended, and the claim of delivery holds of its world; or a part of that line, where there was a fault.
abbrev pub Makes : ℕ → Option (List ℕ) → Option (List ℕ) → Rehearsed → Type 0
Makes count old now result =
    ((result ≡ ending (made count).end) × Appends old now (made_reply count).text × KeptWhole (made count).play.world)
    ⊎ (IsFault result × AppendsPrefix old now (made_reply count).text)

-- ---- steps for the proofs

-- nothing was heard yet, in the world in which nothing has happened
pub record IsNew (now : Scene) (held : Held) (bad : Option ℕ) : Type 0 where
  pub scene : Scene
  pub begins : scene.play ≡ first
  pub may : MayHear scene
  pub same : now ≡ scene
  pub unheard : HasHeard outcome scene now held bad [] []
