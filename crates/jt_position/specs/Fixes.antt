-- Fixes, and the fixes of messages. To be believed.
use Rattle.std.specs.Prelude.{◌≡◌, ℕ, ◌≤◌, ◌<◌, ◌==◌, if◌then◌else◌, List, [], ◌∷◌, ◌++◌, length, map, Result, Ok, Err}
use Rattle.std.specs.List.{flat_map}
use Rattle.jt_value.specs.declared.ids.TheConstants.{BATCH, POSITION}
use Rattle.jt_value.specs.declared.limits.TheConstants.{BODY_LIMIT}
use Rattle.jt_value.specs.declared.refusal.Refusal.{Refusal}
use Rattle.jt_layout.specs.Layout.{Fills}
use Rattle.jt_position.specs.declared.position.Position.{Position}
use Rattle.jt_position.specs.declared.batch.Batch.{Batch}
use Rattle.jt_position.specs.declared.fix.FixError.{FixError}
use Rattle.jt_position.specs.declared.fix.FixError.TheVariants as errors
use Rattle.jt_position.specs.Positions.{position, batch}

-- the most octets of a fix: those of the body of one packet
abbrev pub fix_limit : ℕ
fix_limit = BODY_LIMIT

-- octets that are a position, short enough for one packet
pub record IsFix (s : List ℕ) : Type 0 where
  pub short : length s ≤ fix_limit
  pub position : (m : Position) × Fills position s 0 m

-- what the reader of a fix answers: the octets as they are, or the first cause against them
abbrev pub FixAnswer : List ℕ → Result (List ℕ) FixError → Type 0
FixAnswer s (Ok fix) = (fix ≡ s) × IsFix s
FixAnswer s (Err (errors.Long n)) = (n ≡ length s) × (fix_limit < length s)
FixAnswer s (Err (errors.Refused r)) = (length s ≤ fix_limit) × position.Refuses s 0 r
FixAnswer s (Err errors.Memory) = Unit {0}

-- the position at a latitude on the meridian of 113 degrees east, located, at the first second of 2024
abbrev pub position_at : ℕ → Position
position_at lat = record { fixed = record { alarm = 0; status = 3; lat = lat; lon = 113_000_000; altitude = 0; speed = 0; direction = 0; time = 0x24 ∷ 0x01 ∷ 0x01 ∷ 0x00 ∷ 0x00 ∷ 0x00 ∷ [] }; items = [] }

-- the fixes of a position report and of a batch, each as its octets; a body that is refused has none
abbrev pub of_position : List ℕ → Result Position Refusal → List (List ℕ)
of_position body (Ok m) = body ∷ []
of_position body (Err r) = []

abbrev pub of_batch : Result Batch Refusal → List (List ℕ)
of_batch (Ok m) = map position.spell m.fixes
of_batch (Err r) = []

-- the fixes of a message's body, by its id
abbrev pub fixes_of : ℕ × List ℕ → List (List ℕ)
fixes_of row =
    if row.0 == POSITION then of_position row.1 (position.read row.1 0)
    else if row.0 == BATCH then of_batch (batch.read row.1 0)
    else []

-- the fixes of the bodies of a list of ids and bodies, in order
abbrev pub fixes : List (ℕ × List ℕ) → List (List ℕ)
fixes rows = flat_map fixes_of rows

-- what `fixes` says of one message, in the words of the layouts, and of messages one after the other
pub record FixesAre : Type 0 where
  pub of_a_position : (body : List ℕ) (m : Position) → Fills position body 0 m → fixes_of (POSITION, body) ≡ body ∷ []
  pub of_a_batch : (body : List ℕ) (m : Batch) → Fills batch body 0 m → fixes_of (BATCH, body) ≡ map position.spell m.fixes
  pub none_of_a_refused_position : (body : List ℕ) (r : Refusal) → position.Refuses body 0 r → fixes_of (POSITION, body) ≡ []
  pub none_of_a_refused_batch : (body : List ℕ) (r : Refusal) → batch.Refuses body 0 r → fixes_of (BATCH, body) ≡ []
  pub none_of_another_id : (id : ℕ) (body : List ℕ) → (id ≡ POSITION → ⊥) → (id ≡ BATCH → ⊥) → fixes_of (id, body) ≡ []
  pub of_one : (row : ℕ × List ℕ) → fixes (row ∷ []) ≡ fixes_of row
  pub in_a_row : (rows more : List (ℕ × List ℕ)) → fixes (rows ++ more) ≡ fixes rows ++ fixes more
