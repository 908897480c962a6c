use Rattle.std.specs.Prelude.{codes}
use Rattle.std.proofs.Common.{sym, ◌∙◌, ap}
use Rattle.std.proofs.lemmas.Slice.Eq.{bytes_eq-Decides}
use Rattle.http_header.specs.HeaderMap.{get}
use Rattle.sha2.specs.Sha256.{sha256}
use Rattle.dewfelt_asked.proofs.gate.Gate.access_of.Goals as goal

-- both digests are the same, and one is of what stands behind `Bearer `
pub returns-then-eq : goal.returns-then-eq
returns-then-eq c =
    let same = (bytes_eq-Decides c.digest_of-digest.result c.args.self.now.operate).0 (sym c.eq.ensures ∙ c.if-eq.true) in
    let found = ap (λ m. get m (codes "authorization")) (sym c.headers.ensures) ∙ sym c.in_ok-value.ensures.value in
    let given = sym c.as_bytes.ensures.value ∙ c.in_ok-given.ensures in
    (c.in_ok-value.value.now, found, c.in_ok-given.given.now, given, sym c.digest_of-digest.ensures ∙ same)

pub returns-then-eq-2 : goal.returns-then-eq-2
returns-then-eq-2 c =
    let same = (bytes_eq-Decides c.digest_of-digest.result c.args.self.now.read).0 (sym c.eq-2.ensures ∙ c.if-eq-2.true) in
    let found = ap (λ m. get m (codes "authorization")) (sym c.headers.ensures) ∙ sym c.in_ok-value.ensures.value in
    let given = sym c.as_bytes.ensures.value ∙ c.in_ok-given.ensures in
    (c.in_ok-value.value.now, found, c.in_ok-given.given.now, given, sym c.digest_of-digest.ensures ∙ same)
