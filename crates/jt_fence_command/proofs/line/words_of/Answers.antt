use Rattle.jt_fence_command.proofs.Words.{no_space, no_word, with_word}
use Rattle.jt_fence_command.proofs.line.words_of.Goals as goal

pub returns-in_default-clause-says : goal.returns-in_default-clause-says
returns-in_default-clause-says c = no_space c.args.line.now c.in_default.ensures

pub returns-in-Some-named-clause-says : goal.returns-in-Some-named-clause-says
returns-in-Some-named-clause-says c =
    with_word c.args.line.now c.in-Some.space c.in-Some-named.word c.digits_of.result c.in-Some.ensures c.in-Some-named.ensures c.digits_of.ensures.says

pub returns-in-None-clause-says : goal.returns-in-None-clause-says
returns-in-None-clause-says c = no_word c.args.line.now c.in-Some.space c.in-Some.ensures c.in-None.ensures
