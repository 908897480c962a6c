use Rattle.std.proofs.Common.{w8, w16, arith}
use Rattle.std.proofs.lemmas.Int.{to_z_pos}
use Rattle.jt_position.proofs.MomentLaws.{some_ok}
use Rattle.jt_position.proofs.moments.date_time.Goals as goal

pub returns-clause-exact : goal.returns-clause-exact
returns-clause-exact c =
    let date = c.requires.date in
    let clock = c.requires.clock in
    let year = to_z_pos w16 c.args.year (omega (arith, date.0)) in
    let month = to_z_pos w8 c.args.month (omega (arith, date.1)) in
    let day = to_z_pos w8 c.args.day (omega (arith, date.2)) in
    let hour = to_z_pos w8 c.args.hour (omega (arith, clock.0)) in
    let minute = to_z_pos w8 c.args.minute (omega (arith, clock.1)) in
    let second = to_z_pos w8 c.args.second (omega (arith, clock.2)) in
    let ok = some_ok c.ok.result c.new.result c.ok.ensures.value in
    let succeeds = rw (year, month, day, hour, minute, second) at c.new.ensures.succeeds in
    (λ some. succeeds.0 (ok.0 some), λ named. ok.1 (succeeds.1 named))
