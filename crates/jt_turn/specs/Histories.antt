-- The history of a desk, and the entries of one number in it. To be believed.
use Rattle.std.specs.Prelude.{◌≡◌, ◌≢◌, ℕ, ◌==◌, Bool, true, false, List, [], ◌∷◌, length, ltb, if◌then◌else◌, filter}
use Rattle.jt_turn.specs.declared.entry.Entry.{Entry}
use Rattle.jt_turn.specs.declared.entry.Ended.{Ended}
use mathlib.Core.Option.{some}
use lib.ListN.{get_elem?}

-- the entries of a number, in the order of the history
abbrev pub entries_of : {A B : Type 0} → ℕ → List (Entry A B) → List (Entry A B)
entries_of n log = filter (λ e. e.number == n) log

-- the entry of an act, as a list: none, if the answer makes none
abbrev pub entry_if : {A B : Type 0} → Bool → ℕ → A → B → List (Entry A B)
entry_if true n ask answer = record { number = n; ask = ask; answer = answer } ∷ []
entry_if false n ask answer = []

module _ {A B : Type 0} where
  -- the longer of two histories, the first where they are as long
  abbrev pub longer : List (Entry A B) → List (Entry A B) → List (Entry A B)
  longer xs ys = if ltb (length xs) (length ys) then ys else xs

  -- the history's entries of each of these numbers are exactly those that stand beside it, in order
  abbrev pub HasEach : List (Entry A B) → List (Ended A B) → Type 0
  HasEach history ended = (m : ℕ) (e : Ended A B) → get_elem? ended m ≡ some e → entries_of e.number history ≡ e.mine

  -- none of these has the number n
  abbrev pub IsNoneOf : ℕ → List (Ended A B) → Type 0
  IsNoneOf n ended = (m : ℕ) (e : Ended A B) → get_elem? ended m ≡ some e → e.number ≢ n
