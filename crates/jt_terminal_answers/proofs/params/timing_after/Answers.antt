use Rattle.std.proofs.Common.{◌∙◌, ◌+◌, ap, sym, drop, List}
use Rattle.jt_params.specs.declared.param.Param.{Param}
use Rattle.jt_params.specs.Tables.{dword_of}
use Rattle.jt_terminal_rule.specs.Answers.{timing_after, typed_time}
use Rattle.jt_terminal_rule.proofs.Measuring.{drop_at, get_at}
use Rattle.jt_terminal_answers.proofs.params.timing_after.Goals as goal

pub loop-param-preserved : goal.loop-param-preserved
loop-param-preserved c =
    let rest = drop (c.loop-param.param-index + 1) c.args.params.now in
    c.loop-param.invariant
    ∙ (ap (λ (ps : List Param). timing_after ps c.loop-param.now) (drop_at c.args.params.now c.loop-param.param-index c.param-item.result (get_at c.args.params.now c.loop-param.param-index c.param-item.result c.loop-param-test.true c.param-item.is))
    ∙ sym (ap (timing_after rest) (c.typed_time-now.ensures ∙ ap (typed_time c.loop-param.now c.param-item.result.id) c.dword.ensures)))
