use Rattle.std.proofs.Common.{arith, Result, Ok, Err}
use Rattle.std.specs.Prelude.{MatchResult, IsOkAnd}
use Rattle.std.proofs.lemmas.Result.{MatchResult-weaker}
use Rattle.jt_header.proofs.NoReason.{as_content}
use Rattle.jt_header.proofs.WholeContents.{only, refuted, same_reading}
use Rattle.jt_header.proofs.reading.read_header.Goals as goal

-- an Ok with this value, where no Err can be
ok_and : {T E : Type 0} (r : Result T E) {P P' : T → Type 0} {Q : E → Type 0} → MatchResult r P Q → ((x : T) → P x → P' x) → ((e : E) → Q e → ⊥) → IsOkAnd r P'
ok_and (Ok x) m good bad = good x m
ok_and (Err e) m good bad = absurd (bad e m)

pub returns-clause-content : goal.returns-clause-content
returns-clause-content c =
    MatchResult-weaker c.read.result c.read.ensures (λ x r. as_content c.args.content.now x.0 x.1.now (λ i. omega (arith, c.type_inv.content i)) r) (λ _ _. tt)

pub returns-clause-every_content : goal.returns-clause-every_content
returns-clause-every_content c = λ h body is.
    let r = only h body c.args.content.now is in
    ok_and c.read.result c.read.ensures (λ x found. same_reading c.args.content.now h x.0 body x.1.now r found) (λ refusal e. refuted c.args.content.now h body refusal r e)
