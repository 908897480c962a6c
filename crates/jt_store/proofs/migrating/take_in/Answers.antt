use Rattle.std.proofs.Common.{◌++◌, ◌∷◌, [], ◌∙◌, ap, ◌<◌, length, arith}
use Rattle.jt_store.specs.Verdicts.{row_of}
use Rattle.jt_store.proofs.Joining.{taken_one}
use Rattle.jt_store.proofs.migrating.take_in.Goals as goal

pub returns : goal.returns
returns c =
    let few = c.requires.rows.few in
    let length_is = c.len.ensures in
    let apart = c.if-len-limit.false in
    let room : length c.args.rows.now < c.args.limit = grind arith in
    let pushed = c.in_ok-push.ensures.ok ∙ ap (λ body. c.args.rows.now ++ row_of c.in-Some.number c.args.row.now.id body ∷ []) c.in_ok-body.ensures in
    taken_one c.args.limit c.in-Some.number c.args.rows.now c.as_slice.result.now c.push.new.self c.args.row.now c.requires.rows c.as_slice.ensures c.in-Some.ensures room pushed
