use Rattle.std.proofs.Common.{rules, ◌≡◌, ◌≤◌, ◌∙◌, ◌++◌, ap}
use Rattle.dewfelt_http.specs.Problems.{Refuses}
use Rattle.dewfelt_http.proofs.sending.send_problem.Goals as goal

-- the text is put behind what stood in the body
pub returns : goal.returns
returns c =
    let status = c.in_ok-send.ensures.status ∙ c.in_ok-put_wanted.ensures.status in
    record {
      problem = c.args.problem.now;
      kind = c.in_ok-text.ensures.0;
      title = c.in_ok-text.ensures.1;
      text = c.in_ok-text.text.items;
      body = c.in_ok-send.ensures.body ∙ ap (λ b. b ++ c.in_ok-text.text.items) c.in_ok-put_wanted.ensures.body;
      told = c.in_ok-text.ensures.2;
      status = status;
      refuses = search rules;
    }
