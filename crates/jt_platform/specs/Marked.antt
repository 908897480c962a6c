-- Numbers that are marked, a bit for each, 64 to a word. A step for the proofs.
use Rattle.std.specs.Prelude.{◌<◌, ◌/◌, ◌%◌, ◌==◌, ℕ, List, length, slice_index_or, Bool}
use Rattle.std.specs.Int.{bit_at}

-- the words have a place for a mark of the number
unfoldable pub HasMark : List ℕ → ℕ → Type 0
HasMark words number = number / 64 < length words

-- the number is marked
unfoldable pub is_marked : List ℕ → ℕ → Bool
is_marked words number = bit_at (slice_index_or words (number / 64) 0) (number % 64) == 1
