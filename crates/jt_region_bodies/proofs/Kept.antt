-- What stands in front of octets to which more and more is put.
use Rattle.std.proofs.Common.{◌≡◌, ◌++◌, ℕ, List}
use Rattle.std.specs.Io.{StartsWith}
use Rattle.std.proofs.Transfers.{starts_with_of_append, starts_with_trans}

-- octets that begin with more than these begin with these
pub after : (old now new more : List ℕ) → now ≡ old ++ more → StartsWith new now → StartsWith new old
after old now new more put kept = starts_with_trans new now old kept (starts_with_of_append now old more put)
