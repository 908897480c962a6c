-- What a run does with its source and its sink. To be believed.
use Rattle.std.specs.Prelude.{◌≡◌, ℕ, ◌≤◌, ◌⊎◌, List, ◌++◌, length, Option}
use Rattle.std.specs.Io.KnownBytes.{Appends, Consumes, IsAtEnd}
use Rattle.jt_outside.specs.Sink.{AppendsPrefix}
use Rattle.jt_input.specs.Reply.{Reply}
use Rattle.jt_input.specs.declared.status.Status.{Status}
use Rattle.jt_input.specs.declared.status.Status.TheVariants.{Done, Refused, Usage, ReadFault, WriteFault, StoreFault, NetFault, Unsent, Memory}

-- the exit status
abbrev pub number_of : Status → ℕ
number_of Done = 0
number_of Refused = 1
number_of Usage = 2
number_of ReadFault = 3
number_of WriteFault = 4
number_of StoreFault = 5
number_of NetFault = 6
number_of Unsent = 7
number_of Memory = 8

-- The source or the sink failed, or memory was refused: the text may be cut short.
abbrev pub IsFault : Status → Type 0
IsFault ReadFault = Unit {0}
IsFault WriteFault = Unit {0}
IsFault Memory = Unit {0}
IsFault Done = ⊥
IsFault Refused = ⊥
IsFault Usage = ⊥
IsFault StoreFault = ⊥
IsFault NetFault = ⊥
IsFault Unsent = ⊥

-- memory was wanted for a text, or a write failed
abbrev pub CutsShort : Status → Type 0
CutsShort s = (s ≡ Memory) ⊎ (s ≡ WriteFault)

-- the statuses that an input may be answered before its end
abbrev pub EndsEarly : Status → Type 0
EndsEarly Refused = Unit {0}
EndsEarly StoreFault = Unit {0}
EndsEarly NetFault = Unit {0}
EndsEarly Unsent = Unit {0}
EndsEarly Done = ⊥
EndsEarly Usage = ⊥
EndsEarly ReadFault = ⊥
EndsEarly WriteFault = ⊥
EndsEarly Memory = ⊥

-- A run of this status took the sink from what was written before to what is written now, where it tells: by the whole
-- of the reply's text, at the reply's status, or by a prefix of it, where the run had a fault.
abbrev pub AnswersReply : Status → Reply → Option (List ℕ) → Option (List ℕ) → Type 0
AnswersReply status reply old now = ((status ≡ reply.status) × Appends old now reply.text) ⊎ (IsFault status × AppendsPrefix old now reply.text)

-- no octet that could follow these changes the answer, or none follows
abbrev pub IsSettled : (List ℕ → Reply) → Option (List ℕ) → List ℕ → Type 0
IsSettled answer left taken = IsAtEnd left ⊎ ((rest : List ℕ) → answer (taken ++ rest) ≡ answer taken)

-- A run over a source and a sink, with an answer to the octets of the source: the octets that were taken, the answer to
-- them or a part of it, and that it is the answer to all octets of the source, where the run had no fault.
pub record Runs (answer : List ℕ → Reply) (left left_now old now : Option (List ℕ)) (status : Status) : Type 0 where
  pub taken : List ℕ
  pub consumed : Consumes left left_now taken
  pub answers : AnswersReply status (answer taken) old now
  pub settled : IsFault status ⊎ IsSettled answer left_now taken

-- this holds of the octets that were taken, and of them and all that could follow them, or none follows
abbrev pub HoldsOf : (List ℕ → Type 0) → Option (List ℕ) → List ℕ → Type 0
HoldsOf Holds left taken = Holds taken × (IsAtEnd left ⊎ ((rest : List ℕ) → Holds (taken ++ rest)))

-- The same, and what holds of the octets that were taken, where the run had no fault.
pub record RunsTelling (answer : List ℕ → Reply) (Holds : List ℕ → Type 0) (left left_now old now : Option (List ℕ)) (status : Status) : Type 0 where
  pub runs : Runs answer left left_now old now status
  pub holds : IsFault status ⊎ HoldsOf Holds left_now runs.taken

-- the run had no fault and wrote the whole answer to these octets, of which this holds
abbrev pub AnswersWhole : (List ℕ → Reply) → (List ℕ → Type 0) → Status → Option (List ℕ) → Option (List ℕ) → List ℕ → Type 0
AnswersWhole answer Holds status old now octets =
    IsFault status ⊎ ((status ≡ (answer octets).status) × Appends old now (answer octets).text × Holds octets)

-- The source is read no further than the piece, of at most so many octets, that settles the answer: the input is open
-- behind what was taken before it, of which this is printed.
pub record ReadsNoFurther (Open : List ℕ → List ℕ → Type 0) (piece : ℕ) (left left_now : Option (List ℕ)) : Type 0 where
  pub front : List ℕ
  pub last : List ℕ
  pub text : List ℕ
  pub consumed : Consumes left left_now (front ++ last)
  pub few : length last ≤ piece
  pub open_before : Open front text

-- all that is printed of what was taken, behind which the input is open, was written
pub record PrintsTaken (Open : List ℕ → List ℕ → Type 0) (left left_now old now : Option (List ℕ)) : Type 0 where
  pub taken : List ℕ
  pub text : List ℕ
  pub consumed : Consumes left left_now taken
  pub writes : Appends old now text
  pub open_behind : Open taken text

-- A write that failed ends the run. What was taken is a front, behind which the input is open, and one piece of at most so
-- many octets; all that is printed of the front was written, and of the rest of the answer a prefix.
pub record StopsAtWrite (answer : List ℕ → Reply) (Open : List ℕ → List ℕ → Type 0) (piece : ℕ) (left left_now old now : Option (List ℕ)) : Type 0 where
  pub front : List ℕ
  pub last : List ℕ
  pub text : List ℕ
  pub consumed : Consumes left left_now (front ++ last)
  pub few : length last ≤ piece
  pub open_before : Open front text
  pub part : List ℕ
  pub beyond : List ℕ
  pub of_answer : (answer (front ++ last)).text ≡ (text ++ part) ++ beyond
  pub writes : Appends old now (text ++ part)
