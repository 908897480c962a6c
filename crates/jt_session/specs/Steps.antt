-- What a session's calls do at one item. For the proofs.
use Rattle.std.specs.Prelude.{◌≡◌, ℕ, List, [], ◌∷◌, ◌++◌, true, false, None, Some}
use Rattle.jt_value.specs.Octets.{AreOctets}
use Rattle.jt_escape.specs.Scan.{State as Splitting}
use Rattle.jt_escape.specs.Splitter.{StandsFor}
use Rattle.jt_stream.specs.Unplaced.{Unplaced, items}
use Rattle.jt_session.specs.Talk.{asks, turn_without_request, state_at_want, frame_said, is_frame}
use Rattle.jt_session.specs.Sessions.{Seen, TakesUnasked, counts}

-- the stream went on by the octets, which brought these items
abbrev pub Brings : Splitting → Splitting → List ℕ → List Unplaced → Type 0
Brings old new octets gained =
    (read : List ℕ) → AreOctets read → StandsFor old read → (items (read ++ octets) ≡ items read ++ gained) × StandsFor new (read ++ octets)

-- there was no item
pub record WasSilent (s now : Seen) (octets out out_now : List ℕ) : Type 0 where
  pub brings : Brings s.stream now.stream octets []
  pub state : now.state ≡ s.state
  pub waiting : now.waiting ≡ None
  pub over : now.over ≡ false
  pub number : now.number ≡ s.number
  pub wrote : out_now ≡ out

-- an item asked nothing
pub record WasQuiet (s now : Seen) (octets out out_now : List ℕ) (item : Unplaced) : Type 0 where
  pub brings : Brings s.stream now.stream octets (item ∷ [])
  pub asked : asks s.state item ≡ None
  pub state : now.state ≡ (turn_without_request s.state item).state
  pub waiting : now.waiting ≡ None
  pub over : now.over ≡ false
  pub number : now.number ≡ s.number
  pub wrote : out_now ≡ out ++ frame_said (turn_without_request s.state item).says

-- an item asked, and waits
pub record HasAsked (s now : Seen) (octets out out_now : List ℕ) (item : Unplaced) : Type 0 where
  pub brings : Brings s.stream now.stream octets (item ∷ [])
  pub state : now.state ≡ s.state
  pub waiting : now.waiting ≡ Some item
  pub over : now.over ≡ false
  pub number : now.number ≡ s.number
  pub wrote : out_now ≡ out

-- at a frame memory was wanted
pub record RanShort (s now : Seen) (octets out out_now : List ℕ) (item : Unplaced) : Type 0 where
  pub brings : Brings s.stream now.stream octets (item ∷ [])
  pub frame : is_frame item ≡ true
  pub counted : counts now.state ≡ counts (state_at_want s.state item)
  pub waiting : now.waiting ≡ None
  pub over : now.over ≡ true
  pub number : now.number ≡ s.number
  pub wrote : out_now ≡ out

-- what stands for the octets and answers so far stands for these too
abbrev pub GoesOn : Seen → Seen → List ℕ → List ℕ → List ℕ → Type 0
GoesOn s now octets out out_now =
    (first : Seen) (so_far front : List ℕ) → AreOctets so_far → TakesUnasked first s so_far front out → TakesUnasked first now (so_far ++ octets) front out_now
