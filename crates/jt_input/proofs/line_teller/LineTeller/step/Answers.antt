use Rattle.std.proofs.Common.{length-take, ◌≡◌, length, arith}
use Rattle.std.proofs.lemmas.List.{take_all}
use Rattle.jt_input.proofs.LinesHeard.{steps_more, steps_heard, steps_last, steps_bad, steps_beyond}
use Rattle.jt_input.proofs.line_teller.LineTeller.step.Goals as goal

pub returns-in-More-clause-steps : goal.returns-in-More-clause-steps
returns-in-More-clause-steps g c =
    let all : c.take-taken.result.0 ≡ length c.args.octets.now = c.take-taken.ensures.more c.in-More.is in
    let takes = rw (c.in-More.is, all, take_all (length c.args.octets.now) c.args.octets.now (omega arith)) at c.take-taken.ensures.takes in
    steps_more c.law_lines.ensures.front _ _ _ _ _ _ _ takes c.take-taken.ensures.begun (let room = c.take-taken.ensures.room in omega (arith, all))

pub returns-in-Next-clause-steps : goal.returns-in-Next-clause-steps
returns-in-Next-clause-steps g c =
    let takes = rw (c.in-Line.is) at c.take-taken.ensures.takes in
    let hears = rw (c.in-Next.is, c.line.ensures) at c.in_ok-hear-in-Line.ensures.hears in
    let room = c.take-taken.ensures.room in
    let within = c.take-taken.ensures.taken in (
      within,
      steps_heard c.law_lines.ensures.front _ _ _ _ _ _ _ _ _ _ _ takes c.take-taken.ensures.begun c.number-number.ensures.number hears
          (omega (arith, length-take c.take-taken.result.0 c.args.octets.now)),
    )

pub returns-in-Settled-clause-steps : goal.returns-in-Settled-clause-steps
returns-in-Settled-clause-steps g c =
    let takes = rw (c.in-Line.is) at c.take-taken.ensures.takes in
    let hears = rw (c.in-Settled.is, c.line.ensures) at c.in_ok-hear-in-Line.ensures.hears in
    steps_last c.law_lines.ensures.front _ _ _ _ _ _ _ _ _ _ c.take-taken.result.0 c.number-number.result _ takes c.number-number.ensures.number hears

pub returns-in_ok-refuse-in-Bad-2-clause-steps : goal.returns-in_ok-refuse-in-Bad-2-clause-steps
returns-in_ok-refuse-in-Bad-2-clause-steps g c =
    let takes = rw (c.in-Line.is) at c.take-taken.ensures.takes in
    let hears = rw (c.in-Bad-2.is, c.line.ensures) at c.in_ok-hear-in-Line.ensures.hears in
    steps_bad c.law_lines.ensures.front _ _ _ _ _ _ _ _ _ _ _ _ _ c.take-taken.result.0 c.number-number.result takes c.number-number.ensures.number hears
    c.refuse.ensures.hearer c.in_ok-refuse-in-Bad-2.ensures.bad c.in_ok-refuse-in-Bad-2.ensures.text

pub returns-in_ok-refuse-in-Bad-clause-steps : goal.returns-in_ok-refuse-in-Bad-clause-steps
returns-in_ok-refuse-in-Bad-clause-steps g c =
    let takes = rw (c.in-Bad.is) at c.take-taken.ensures.takes in
    let same = takes.number in
    let number = c.number-number-in-Bad.ensures.number in
    steps_beyond c.law_lines.ensures.front _ _ _ _ _ _ _ _ _ _ (λ line more. g.met.H.Hearer.beyond c.args.self.now.hearer _ line more) (omega (arith, same, number))
    (c.take-taken.ensures.bad c.in-Bad.is).1
    c.refuse-in-Bad.ensures.hearer c.in_ok-refuse-in-Bad.ensures.bad c.in_ok-refuse-in-Bad.ensures.text
