-- What a link gives behind reads that gave nothing.
use Rattle.std.proofs.Common.{◌≡◌, ℕ, ◌≤◌, ◌+◌, List, ◌++◌, Option, None, Some, length, take, arith, sym, ap, ◌∙◌}
use Rattle.std.proofs.lemmas.List.{length-append, take-append-le}
use Rattle.std.specs.Io.KnownBytes.{Appends, Consumes, Keeps}
use Rattle.std.proofs.KnownBytes.{Keeps-refl, Keeps-trans}
use Rattle.jt_outside.specs.Inbound.{Inbound}
use Rattle.jt_outside.specs.Link.{Gives, GivesNone, Reads}
use Rattle.jt_outside.specs.declared.link.LinkGot.{LinkGot}
use Rattle.jt_outside.specs.declared.link.LinkGot.TheVariants as got

kept_consumes : (a b c : Option (List ℕ)) (bs : List ℕ) → Keeps a b → Consumes b c bs → Consumes a c bs
kept_consumes None b c bs p q = tt
kept_consumes (Some x) None c bs p q = absurd p
kept_consumes (Some x) (Some y) None bs p q = absurd q
kept_consumes (Some x) (Some y) (Some z) bs p q = sym p ∙ q

kept_appends : (a b c : Option (List ℕ)) (bs : List ℕ) → Keeps a b → Appends b c bs → Appends a c bs
kept_appends None b c bs p q = tt
kept_appends (Some x) None c bs p q = absurd p
kept_appends (Some x) (Some y) None bs p q = absurd q
kept_appends (Some x) (Some y) (Some z) bs p q = q ∙ ap (λ l. l ++ bs) p

pub kept_gives : (a b c : Inbound) (octets : List ℕ) → GivesNone a b → Gives b c octets → Gives a c octets
kept_gives a b c octets none some = record {
  left = kept_consumes a.left b.left c.left octets none.left some.left;
  taken = kept_appends a.taken b.taken c.taken octets none.taken some.taken;
}

pub kept_none : (a b c : Inbound) → GivesNone a b → GivesNone b c → GivesNone a c
kept_none a b c first second = record {
  left = Keeps-trans a.left b.left c.left first.left second.left;
  taken = Keeps-trans a.taken b.taken c.taken first.taken second.taken;
}

pub none_given : (a : Inbound) → GivesNone a a
none_given a = record { left = Keeps-refl a.left; taken = Keeps-refl a.taken }

-- what a read gave the front of a room it gave the room
pub reads_front : (old now : Inbound) (answer : LinkGot) (piece rest : List ℕ) → Reads old now answer piece → Reads old now answer (piece ++ rest)
reads_front old now (got.Bytes count) piece rest reads =
    let longer : length (piece ++ rest) ≡ length piece + length rest = length-append piece rest in
    let fits : count ≤ length (piece ++ rest) = omega (arith, reads.1) in
    let same : take count (piece ++ rest) ≡ take count piece = take-append-le count piece rest reads.1 in
    (reads.0, fits, rw same reads.2, reads.3)
reads_front old now got.Quiet piece rest reads = reads
reads_front old now got.End piece rest reads = reads
reads_front old now got.Failed piece rest reads = reads
