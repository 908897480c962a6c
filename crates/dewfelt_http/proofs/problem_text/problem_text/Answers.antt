use Rattle.std.proofs.Common.{◌∙◌, ap, ◌++◌}
use Rattle.dewfelt_http.specs.Problems.{problem_tokens}
use Rattle.dewfelt_http.proofs.Problems.{reads_problem}
use Rattle.dewfelt_http.proofs.problem_text.problem_text.Goals as goal

-- the tokens that were put are all of the text
pub returns : goal.returns
returns c =
    let kind = c.named.result.0.now in
    let title = c.named.result.1.now in
    let put = c.in_ok-put_problem.ensures in
    let all = problem_tokens kind title c.args.problem.now in
    let is = put.tokens ∙ ap (λ ts. ts ++ all) c.new-writer.ensures.tokens in
    (kind, title, reads_problem kind title c.args.problem.now _ _ _ (put.before ∙ c.new-writer.ensures.before ∙ c.new.ensures.items) c.into_inner.ensures.items c.into_inner.ensures.reads_back is)
