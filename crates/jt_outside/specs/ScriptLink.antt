-- What contracts see of a link in memory, and what its calls do. To be believed.
use Rattle.std.specs.Prelude.{◌≡◌, ℕ, ◌+◌, ◌-◌, ◌^◌, ◌≤◌, ◌↔◌, ◌⊎◌, min, List, [], ◌∷◌, ◌++◌, length, take, drop, replicate, Contains, Option, Some, None}
use Rattle.jt_value.specs.Counts.{counted}
use Rattle.jt_outside.specs.Inbound.{Inbound}
use Rattle.jt_outside.specs.declared.sink.Put.{Put}
use Rattle.jt_outside.specs.declared.sink.Put.TheVariants as puts
use Rattle.jt_outside.specs.declared.link.LinkGot.{LinkGot}
use Rattle.jt_outside.specs.declared.link.LinkGot.TheVariants.{Bytes, Quiet, End, Failed}
use Rattle.jt_outside.specs.declared.script_link.Kind.{Kind}
use Rattle.jt_outside.specs.declared.script_link.Kind.TheVariants as kinds

-- what reads give: octets of which so many are left, one octet for ever, or nothing, quietly
pub data Giving : Type 0 where
  Octets : List ℕ → Giving
  Endless : ℕ → Giving
  Nothing : Giving

pub record LinkState : Type 0 where
  -- what reads give, and the octets that were taken
  pub gives : Giving
  pub taken : List ℕ
  -- how many reads were quiet, and how many since octets came last
  pub quiets : ℕ
  pub run : ℕ
  -- the octets that were written to it, and how many it takes in all
  pub written : List ℕ
  pub room : ℕ
  -- the numbers of the calls that fail, counted from 1, reads and writes together
  pub failing : List ℕ
  -- how many calls there were, and how many of them failed
  pub calls : ℕ
  pub faults : ℕ

-- what is left, where there is an end to it
abbrev pub left_of : Giving → Option (List ℕ)
left_of (Octets left) = Some left
left_of (Endless octet) = None
left_of Nothing = None

-- a link of these octets gives them from a place on, and gave those before; an endless one gave its octet so often
abbrev pub giving : Kind → ℕ → List ℕ → Giving
giving kinds.Octets at octets = Octets (drop at octets)
giving (kinds.Endless octet) at octets = Endless octet
giving kinds.Quiet at octets = Nothing

abbrev pub given_by : Kind → ℕ → List ℕ → List ℕ
given_by kinds.Octets at octets = take at octets
given_by (kinds.Endless octet) at octets = replicate at octet
given_by kinds.Quiet at octets = []

abbrev pub inbound_of : LinkState → Inbound
inbound_of link = record { left = left_of link.gives; taken = Some link.taken; quiets = link.quiets; run = link.run }

-- the next call is one that is to fail
abbrev pub NextFails : LinkState → Type 0
NextFails link = Contains link.failing (counted link.calls)

-- how many octets a read gave, and a write took
abbrev pub given : LinkGot → ℕ
given (Bytes count) = count
given Quiet = 0
given End = 0
given Failed = 0

abbrev pub put_in : Put → ℕ
put_in (puts.Count count) = count
put_in puts.Failed = 0

abbrev pub faults_after_read : ℕ → LinkGot → ℕ
faults_after_read before (Bytes count) = before
faults_after_read before Quiet = before
faults_after_read before End = before
faults_after_read before Failed = counted before

abbrev pub faults_after_write : ℕ → Put → ℕ
faults_after_write before (puts.Count count) = before
faults_after_write before puts.Failed = counted before

-- an endless link fails once it gave 2^64 - 1 octets
abbrev pub IsSpent : LinkState → Type 0
IsSpent link = (octet : ℕ) × (link.gives ≡ Endless octet) × (2 ^ 64 - 1 ≤ length link.taken)

-- how many octets a read gives that fails not, into a buffer of this length
abbrev pub most : Giving → ℕ → ℕ → ℕ
most (Octets left) taken buf = min (length left) buf
most (Endless octet) taken buf = min (2 ^ 64 - 1 - taken) buf
most Nothing taken buf = 0

-- the octets that it gave were the next ones
abbrev pub GivesNext : Giving → Giving → List ℕ → Type 0
GivesNext (Octets left) now octets = (rest : List ℕ) × (left ≡ octets ++ rest) × (now ≡ Octets rest)
GivesNext (Endless octet) now octets = (octets ≡ replicate (length octets) octet) × (now ≡ Endless octet)
GivesNext Nothing now octets = (octets ≡ []) × (now ≡ Nothing)

abbrev pub quiets_after : ℕ → LinkGot → ℕ
quiets_after before Quiet = counted before
quiets_after before got = before

abbrev pub run_after : ℕ → LinkGot → ℕ
run_after before (Bytes count) = 0
run_after before Quiet = counted before
run_after before End = before
run_after before Failed = before

-- Exactly the listed calls fail, and a read of an endless link that gave 2^64 - 1 octets; of the others the end comes exactly where
-- nothing is left, a quiet link is quiet, and a read gives as many octets as there are and fit, in order. What was written stays.
pub record ReadsInOrder (old now : LinkState) (got : LinkGot) (buf : List ℕ) : Type 0 where
  pub failed : (got ≡ Failed) ↔ (NextFails old ⊎ IsSpent old)
  pub end : (got ≡ End) ↔ ((old.gives ≡ Octets []) × ¬ NextFails old)
  pub quiet : (got ≡ Quiet) ↔ ((old.gives ≡ Nothing) × ¬ NextFails old)
  pub count : (count : ℕ) → got ≡ Bytes count → count ≡ most old.gives (length old.taken) (length buf)
  pub gives : GivesNext old.gives now.gives (take (given got) buf)
  pub taken : now.taken ≡ old.taken ++ take (given got) buf
  pub quiets : now.quiets ≡ quiets_after old.quiets got
  pub run : now.run ≡ run_after old.run got
  pub written : now.written ≡ old.written
  pub room : now.room ≡ old.room
  pub failing : now.failing ≡ old.failing
  pub calls : now.calls ≡ counted old.calls
  pub faults : now.faults ≡ faults_after_read old.faults got

-- exactly the listed calls and those into a full room fail, and a write takes as many octets as there is room for, in
-- order; what is to be read stays
pub record WritesInOrder (old now : LinkState) (put : Put) (buf : List ℕ) : Type 0 where
  pub failed : (put ≡ puts.Failed) ↔ ((old.room ≤ length old.written) ⊎ NextFails old)
  pub count : (count : ℕ) → put ≡ puts.Count count → count ≡ min (old.room - length old.written) (length buf)
  pub written : now.written ≡ old.written ++ take (put_in put) buf
  pub gives : now.gives ≡ old.gives
  pub taken : now.taken ≡ old.taken
  pub quiets : now.quiets ≡ old.quiets
  pub run : now.run ≡ old.run
  pub room : now.room ≡ old.room
  pub failing : now.failing ≡ old.failing
  pub calls : now.calls ≡ counted old.calls
  pub faults : now.faults ≡ faults_after_write old.faults put

-- a link that was never read or written
pub record IsUntouched (link : LinkState) : Type 0 where
  pub taken : link.taken ≡ []
  pub written : link.written ≡ []
  pub quiets : link.quiets ≡ 0
  pub run : link.run ≡ 0
  pub calls : link.calls ≡ 0
  pub faults : link.faults ≡ 0

abbrev pub AreUntouched : List LinkState → Type 0
AreUntouched [] = Unit {0}
AreUntouched (link ∷ links) = IsUntouched link × AreUntouched links
