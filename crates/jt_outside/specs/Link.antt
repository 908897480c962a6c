-- What a read does to a link. To be believed.
use Rattle.std.specs.Prelude.{◌≡◌, ◌≢◌, ℕ, ◌-◌, ◌^◌, ◌<◌, ◌≤◌, List, Option, length, take}
use Rattle.std.specs.Io.KnownBytes.{Appends, Consumes, Keeps, IsAtEnd}
use Rattle.jt_value.specs.Counts.{counted, Rose, Counts}
use Rattle.jt_outside.specs.Inbound.{Inbound}
use Rattle.jt_outside.specs.declared.link.LinkGot.{LinkGot}
use Rattle.jt_outside.specs.declared.link.LinkGot.TheVariants.{Bytes, Quiet, End, Failed}

-- octets came off the front of what was left, and behind what was taken
pub record Gives (old now : Inbound) (octets : List ℕ) : Type 0 where
  pub left : Consumes old.left now.left octets
  pub taken : Appends old.taken now.taken octets

-- no octet came
pub record GivesNone (old now : Inbound) : Type 0 where
  pub left : Keeps old.left now.left
  pub taken : Keeps old.taken now.taken

-- octets that a read gave were the next ones, the end comes only where nothing is left, and the run of quiet reads is 0
-- after octets, one more after a quiet read, and else as before
abbrev pub Reads : Inbound → Inbound → LinkGot → List ℕ → Type 0
Reads old now (Bytes count) buf = (0 < count) × (count ≤ length buf) × Gives old now (take count buf) × (now.run ≡ 0)
Reads old now Quiet buf = GivesNone old now × (now.run ≡ counted old.run)
Reads old now End buf = IsAtEnd now.left × GivesNone old now × (now.run ≡ old.run)
Reads old now Failed buf = GivesNone old now × (now.run ≡ old.run)

-- the counts of faults and of quiet reads never fall, and rose where the answer says so; at every other answer that of faults
-- stands still
pub record ReadHasCause (before now : ℕ) (old new : Inbound) (got : LinkGot) : Type 0 where
  pub faults : Counts before now
  pub fits : now ≤ 2 ^ 64 - 1
  pub failed : got ≡ Failed → Rose before now
  pub still : got ≢ Failed → now ≡ before
  pub quiets : Counts old.quiets new.quiets
  pub quiets_fit : new.quiets ≤ 2 ^ 64 - 1
  pub quiet : got ≡ Quiet → Rose old.quiets new.quiets

-- what contracts see of a link: its reading side, what was written to it, and how many of its calls failed
pub record Wire : Type 0 where
  pub inbound : Inbound
  pub written : Option (List ℕ)
  pub faults : ℕ

abbrev pub wire_of : {L : Type 0} → (L → Inbound) → (L → Option (List ℕ)) → (L → ℕ) → L → Wire
wire_of inbound written faults link = record { inbound = inbound link; written = written link; faults = faults link }
