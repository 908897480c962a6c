use Rattle.std.proofs.Common.{◌≡◌, cond, is_some, sym, ap, ◌∙◌, arith}
use Rattle.jt_regions.specs.Steps.{under}
use Rattle.jt_regions.proofs.Filling.{count_one}
use Rattle.jt_regions.proofs.table.count_with.Goals as goal
use Rattle.jt_regions.proofs.table.count_with.Goals.{then-contains_key, else-contains_key}

pub returns-clause-count : goal.returns-clause-count
returns-clause-count g c =
    let one = count_one g.T.Identified.id_of c.args.region.now c.args.regions.now.entries c.len.ensures.ordered in
    let found : c.contains_key.result ≡ is_some (under c.args.regions.now.entries (g.T.Identified.id_of c.args.region.now)) = c.contains_key.ensures ∙ ap (λ id. is_some (under c.args.regions.now.entries id)) c.id.ensures in
    let more : c.if-contains_key.more ≡ cond c.contains_key.result 0 1 = elim c.if-contains_key.branch [
      | then-contains_key w ↦ w.more-is ∙ sym (ap (λ b. cond b 0 1) w.if-contains_key.true)
      | else-contains_key w ↦ w.more-is ∙ sym (ap (λ b. cond b 0 1) w.if-contains_key.false)
    ] in
    let same : c.if-contains_key.more ≡ cond (is_some (under c.args.regions.now.entries (g.T.Identified.id_of c.args.region.now))) 0 1 = more ∙ ap (λ b. cond b 0 1) found in
    let len = c.len.ensures.len in
    omega arith
