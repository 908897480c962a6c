use Rattle.std.proofs.Common.{◌<◌, length, arith}
use Rattle.jt_escape.proofs.Runs.{escape_runs}
use Rattle.jt_escape.proofs.splitter.Splitter.gather_escape.Goals as goal

pub returns-in-Some-clause-runs : goal.returns-in-Some-clause-runs
returns-in-Some-clause-runs c =
    let two : 1 < length c.args.octets.now = omega (arith, c.requires.some, c.if-octets-eq1.false) in
    escape_runs c.args.self.now c.gather.new.self c.args.octets.now c.in-Some.octet c.requires.mode c.requires.room two c.requires.escape c.in-Some.ensures c.gather.ensures
