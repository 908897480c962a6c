use Rattle.std.proofs.Common.{arith}
use Rattle.jt_terminal_answers.proofs.Fitting.{params_fit}
use Rattle.jt_terminal_answers.proofs.params.params_body.Goals as goal

pub write_body-requires : goal.write_body-requires
write_body-requires c = params_fit c.args.edition c.args.reply c.args.params (omega arith) c.requires.few c.requires.octets
