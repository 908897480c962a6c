-- What comes of the lines of an input, and what a hearer of lines does. To be believed.
use Rattle.std.specs.Prelude.{◌≡◌, ℕ, ◌+◌, ◌<◌, IsTrue, List, [], ◌∷◌, ◌++◌, length, codes, Option, Some, None}
use Rattle.std.specs.Fmt.{decimal}
use Rattle.jt_input.specs.Cutter.{Held, IsBegun, begun_of}
use Rattle.jt_input.specs.Text.{Cuts, lines_of, is_within}
use Rattle.jt_input.specs.Reply.{Reply}
use Rattle.jt_input.specs.declared.hearer.Heard.{Heard}
use Rattle.jt_input.specs.declared.hearer.Heard.TheVariants as heard
use Rattle.jt_input.specs.declared.status.Status.{Status}
use Rattle.jt_input.specs.declared.status.Status.TheVariants as status

-- What came of lines: the hearer that they left, what was printed of them, the number of the bad line, if one came, and the
-- status of the run.
pub record Outcome (H : Type 0) : Type 0 where
  pub left : H
  pub text : List ℕ
  pub bad : Option ℕ
  pub status : Status

-- the line of this number is bad
unfoldable pub bad_line : ℕ → List ℕ
bad_line number = codes "line " ++ decimal number ++ codes " refused\n"

module _ {H : Type 0} where
  -- this is printed before
  abbrev pub printing : List ℕ → Outcome H → Outcome H
  printing text outcome = record outcome { text = text ++ outcome.text }

  -- the line of this number is bad, and the input ends there
  abbrev pub bad_outcome : H → ℕ → Outcome H
  bad_outcome hearer number = record { left = hearer; text = bad_line number; bad = Some number; status = status.Refused }

  -- what is printed, and the status
  abbrev pub reply_of : Outcome H → Reply
  reply_of outcome = record { text = outcome.text; status = outcome.status }

  -- the answer to a text input
  abbrev pub answer_of : (H → ℕ → List (List ℕ) → Outcome H) → H → List ℕ → Reply
  answer_of outcome first input = reply_of (outcome first 1 (lines_of input))

  -- a line was heard, this was printed of it, and the next line follows
  pub record HearsOn (outcome : H → ℕ → List (List ℕ) → Outcome H) (old new : H) (number : ℕ) (line text text_now : List ℕ) : Type 0 where
    pub added : List ℕ
    pub text_is : text_now ≡ text ++ added
    pub next : (more : List (List ℕ)) → outcome old number (line ∷ more) ≡ printing added (outcome new (number + 1) more)

  -- a line is bad, and nothing was done or printed
  pub record HearsBad (outcome : H → ℕ → List (List ℕ) → Outcome H) (old new : H) (number : ℕ) (line text text_now : List ℕ) : Type 0 where
    pub text_is : text_now ≡ text
    pub same : new ≡ old
    pub whole : (more : List (List ℕ)) → outcome old number (line ∷ more) ≡ bad_outcome old number

  -- a line settled the answer, and the rest of it was printed
  pub record HearsLast (outcome : H → ℕ → List (List ℕ) → Outcome H) (old new : H) (number : ℕ) (line text text_now : List ℕ) (status : Status) : Type 0 where
    pub added : List ℕ
    pub text_is : text_now ≡ text ++ added
    pub whole : (more : List (List ℕ)) → outcome old number (line ∷ more) ≡ record { left = new; text = added; bad = None; status = status }

  -- what was done with a line
  abbrev pub Hears : Heard → (H → ℕ → List (List ℕ) → Outcome H) → H → H → ℕ → List ℕ → List ℕ → List ℕ → Type 0
  Hears heard.Next outcome old new number line text text_now = HearsOn outcome old new number line text text_now
  Hears heard.Bad outcome old new number line text text_now = HearsBad outcome old new number line text text_now
  Hears (heard.Settled status) outcome old new number line text text_now = HearsLast outcome old new number line text text_now status

  -- the lines ended, and the rest of what is printed was printed
  pub record Closes (outcome : H → ℕ → List (List ℕ) → Outcome H) (old new : H) (text text_now : List ℕ) (status : Status) : Type 0 where
    pub added : List ℕ
    pub text_is : text_now ≡ text ++ added
    pub whole : (number : ℕ) → outcome old number [] ≡ record { left = new; text = added; bad = None; status = status }

  -- Each whole line of an input that begins so was heard, none of them settled the answer, the line that is begun is within
  -- the limits so far, and this is all that is printed of the lines, whatever follows.
  pub record IsHeard (outcome : H → ℕ → List (List ℕ) → Outcome H) (first : H) (front text : List ℕ) : Type 0 where
    pub lines : List (List ℕ)
    pub begun : List ℕ
    pub cuts : Cuts front lines begun
    pub within : 0 < length begun → IsTrue (is_within (length lines + 1) begun)
    pub now : H
    pub goes : (more : List (List ℕ)) → outcome first 1 (lines ++ more) ≡ printing text (outcome now (length lines + 1) more)

  -- A hearer and a cutter, which found no bad line, have heard the whole lines of this front, and this was printed of them.
  pub record HasHeard (outcome : H → ℕ → List (List ℕ) → Outcome H) (first hearer : H) (cutter : Held) (bad : Option ℕ) (front text : List ℕ) : Type 0 where
    pub lines : List (List ℕ)
    pub cuts : Cuts front lines (begun_of cutter)
    pub number : cutter.number ≡ length lines
    pub begun : IsBegun cutter
    pub goes : (more : List (List ℕ)) → outcome first 1 (lines ++ more) ≡ printing text (outcome hearer (cutter.number + 1) more)
    pub none_bad : bad ≡ None

  -- the hearer and the bad line, if one came, are what came of this input
  pub record HasClosed (outcome : H → ℕ → List (List ℕ) → Outcome H) (first hearer : H) (bad : Option ℕ) (input : List ℕ) : Type 0 where
    pub left_is : (outcome first 1 (lines_of input)).left ≡ hearer
    pub bad_is : (outcome first 1 (lines_of input)).bad ≡ bad
