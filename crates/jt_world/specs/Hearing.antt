-- How a world hears the lines of a script. Steps for the proofs: ghost members of the hearer cite them.
use Rattle.std.specs.Prelude.{◌≡◌, ℕ, ◌+◌, Bool, true, false, if◌then◌else◌, List, ◌∷◌, ◌++◌, Option, None, Some}
use Rattle.std.proofs.Common.{ap, refl, ◌∙◌}
use Rattle.jt_value.specs.declared.limits.TheConstants.{FIX_LIMIT}
use Rattle.jt_value.specs.declared.phone.Edition.{Edition}
use Rattle.jt_value.specs.declared.phone.Edition.TheVariants.{E2013, E2019}
use Rattle.jt_octets.specs.Reaching.{Reached}
use Rattle.jt_play.specs.Playing.{Play}
use Rattle.jt_play.specs.Scripts.{IsScripted, Scene}
use Rattle.jt_script.specs.EventLines.{meaning, says}
use Rattle.jt_script.specs.declared.reading.EventLine.{EventLine}
use Rattle.jt_script.specs.declared.reading.EventLine.TheVariants.{Bad}
use Rattle.jt_input.specs.EarlyEnds.{full_line}
use Rattle.jt_input.specs.Lines.{Outcome, bad_outcome}
use Rattle.jt_input.specs.Text.{is_within}
use Rattle.jt_input.specs.declared.hearer.Heard.{Heard}
use Rattle.jt_input.specs.declared.hearer.Heard.TheVariants as heard
use Rattle.jt_input.specs.declared.status.Status.{Status}
use Rattle.jt_input.specs.declared.status.Status.TheVariants.{StoreFault}
use Rattle.jt_world.specs.Rehearsal.{End, Whole, BadAt, FullAt, Rehearsal, after_line, bad_at, full_at, printing, rehearsal_from, script_status, the_identity}

-- ---- which world may hear a line

-- IsScripted of jt_play, and that it has this terminal
pub record MayHear (s : Scene) : Type 0 where
  pub scripted : IsScripted s
  pub reached : Reached s.play.world
  pub identity : s.identity ≡ the_identity

-- ---- a rehearsal as what came of lines

abbrev pub is_in : Edition → Edition → Bool
is_in E2013 E2013 = true
is_in E2013 E2019 = false
is_in E2019 E2013 = false
is_in E2019 E2019 = true

abbrev pub edition_of : Play → Edition
edition_of p = p.state.settings.phone.edition

-- the scene in which the terminal is that of another play
abbrev pub scene_at : Scene → Play → Scene
scene_at s p = record s { play = p; edition = if is_in (edition_of s.play) (edition_of p) then s.edition else edition_of p }

abbrev pub bad_number : End → Option ℕ
bad_number Whole = None
bad_number (BadAt number) = Some number
bad_number (FullAt limit) = None

abbrev pub outcome_of : Scene → Rehearsal → Outcome Scene
outcome_of s r = record { left = scene_at s r.play; text = r.text; bad = bad_number r.end; status = script_status r.end }

-- what comes of lines, of which the first has this number
abbrev pub outcome : Scene → ℕ → List (List ℕ) → Outcome Scene
outcome s number lines = outcome_of s (rehearsal_from s.play number lines)

-- ---- what was done with a line that says this

-- whatever lines follow: this was printed, and they are heard next
pub record GoesOn (old now : Scene) (said : EventLine) (text text_now : List ℕ) : Type 0 where
  pub added : List ℕ
  pub text_is : text_now ≡ text ++ added
  pub goes : (number : ℕ) (next : Play → Rehearsal) → after_line old.play number next said ≡ printing added (next now.play)

-- whatever lines follow: the line is bad, and nothing was done or printed
pub record IsBad (old now : Scene) (said : EventLine) (text text_now : List ℕ) : Type 0 where
  pub text_is : text_now ≡ text
  pub same : now ≡ old
  pub ends : (number : ℕ) (next : Play → Rehearsal) → after_line old.play number next said ≡ bad_at number old.play

-- whatever lines follow: the vault is full, which is printed, and nothing else was done
pub record IsFull (old now : Scene) (said : EventLine) (text text_now : List ℕ) (status : Status) : Type 0 where
  pub text_is : text_now ≡ text ++ full_line FIX_LIMIT
  pub same : now ≡ old
  pub is : status ≡ StoreFault
  pub ends : (number : ℕ) (next : Play → Rehearsal) → after_line old.play number next said ≡ full_at old.play

abbrev pub Does : Heard → Scene → Scene → EventLine → List ℕ → List ℕ → Type 0
Does heard.Next old now said text text_now = GoesOn old now said text text_now
Does heard.Bad old now said text text_now = IsBad old now said text text_now
Does (heard.Settled status) old now said text text_now = IsFull old now said text text_now status

-- ---- a line beyond the limits

is_same : (e : Edition) → is_in e e ≡ true
is_same E2013 = refl
is_same E2019 = refl

-- where the play is the same the scene is
pub stays : (s : Scene) → scene_at s s.play ≡ s
stays s = ap (λ (b : Bool). record s { edition = if b then s.edition else edition_of s.play }) (is_same (edition_of s.play))

pub beyond_meaning : (number : ℕ) (line : List ℕ) → is_within number line ≡ false → meaning number line ≡ Bad
unfolding meaning
beyond_meaning number line e = ap (λ (b : Bool). if b then says line else Bad) e

-- what comes of a bad line
pub bad_outcome_is : (s : Scene) (number : ℕ) → outcome_of s (bad_at number s.play) ≡ bad_outcome s number
bad_outcome_is s number = ap (λ (left : Scene). bad_outcome left number) (stays s)

pub beyond_is_bad : (s : Scene) (number : ℕ) (line : List ℕ) (more : List (List ℕ)) → is_within number line ≡ false
    → outcome s number (line ∷ more) ≡ bad_outcome s number
beyond_is_bad s number line more e =
    ap (λ (says : EventLine). outcome_of s (after_line s.play number (λ next. rehearsal_from next (number + 1) more) says)) (beyond_meaning number line e)
    ∙ bad_outcome_is s number
