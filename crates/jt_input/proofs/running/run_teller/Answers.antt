use Rattle.std.proofs.Common.{arith, refl, ◌∙◌}
use Rattle.std.proofs.lemmas.Grind.{common_steps}
use Rattle.jt_input.proofs.Runs.{runs_more, runs_last, runs_end, runs_failed, reads_no_further, prints_taken, stops_at_write, consumes_nothing}
use Rattle.jt_input.proofs.Steps.{some_part, end_part}
use Rattle.jt_input.specs.Telling.{SomeStands}
use Rattle.jt_input.proofs.running.run_teller.Goals as goal

pub loop-count-preserved : goal.loop-count-preserved
loop-count-preserved g c =
    let so_far = c.loop-count.invariant in
    let advances = rw c.in-None.is at c.advance.ensures.advances in (
      λ asked began. runs_more _ asked _ _ _ _ _ _ _ _ _ (so_far.0 asked began) c.in-Bytes.ensures.octets.2 advances,
      c.in-None.ensures.can refl,
      c.in-Bytes.ensures.cause.still (λ e. cc) ∙ so_far.2,
      c.in-None.ensures.still (λ e. cc) ∙ so_far.3,
    )

pub returns-in-Some-clause-runs : goal.returns-in-Some-clause-runs
returns-in-Some-clause-runs g c = λ asked began.
    let advances = rw c.in-Some.is at c.advance.ensures.advances in
    (runs_last _ asked (g.T.Teller.stands c.loop-count.teller) (g.T.Teller.stands c.advance.new.teller) (g.T.Teller.has_told c.advance.new.teller) _ _ _ _ _ _ _ _ (c.loop-count.invariant.0 asked began) c.in-Bytes.ensures.octets.2 advances).0

pub returns-in-Some-clause-whole : goal.returns-in-Some-clause-whole
returns-in-Some-clause-whole g c = λ asked began.
    let advances = rw c.in-Some.is at c.advance.ensures.advances in
    (runs_last _ asked (g.T.Teller.stands c.loop-count.teller) (g.T.Teller.stands c.advance.new.teller) (g.T.Teller.has_told c.advance.new.teller) _ _ _ _ _ _ _ _ (c.loop-count.invariant.0 asked began) c.in-Bytes.ensures.octets.2 advances).1

pub returns-in-Some-clause-no_further : goal.returns-in-Some-clause-no_further
returns-in-Some-clause-no_further g c = λ asked began.
    reads_no_further g.T.Teller.answer asked _ (SomeStands g.T.Teller.stands) _ _ _ _ _ _ _ (λ seen printed stood. (c.loop-count.teller, stood))
    (c.loop-count.invariant.0 asked began) c.in-Bytes.ensures.octets.2 (grind (arith, common_steps))

pub returns-in-Some-clause-stops_at_write : goal.returns-in-Some-clause-stops_at_write
returns-in-Some-clause-stops_at_write g c = λ asked began fault.
    let advances = rw c.in-Some.is at c.advance.ensures.advances in
    stops_at_write _ asked _ (SomeStands g.T.Teller.stands) _ _ _ _ _ _ _ _ (λ seen printed stood. (c.loop-count.teller, stood))
    (c.loop-count.invariant.0 asked began) c.in-Bytes.ensures.octets.2 (grind (arith, common_steps)) (some_part _ (g.T.Teller.stands c.loop-count.teller) (g.T.Teller.stands c.advance.new.teller) (g.T.Teller.has_told c.advance.new.teller) _ _ _ _ advances)

pub returns-in-End-clause-runs : goal.returns-in-End-clause-runs
returns-in-End-clause-runs g c = λ asked began.
    (runs_end _ asked _ (g.T.Teller.has_told c.finish.new.teller) _ _ _ _ _ _ _ (c.loop-count.invariant.0 asked began) c.in-End.ensures.octets c.finish.ensures.finishes).0

pub returns-in-End-clause-whole : goal.returns-in-End-clause-whole
returns-in-End-clause-whole g c = λ asked began.
    (runs_end _ asked _ (g.T.Teller.has_told c.finish.new.teller) _ _ _ _ _ _ _ (c.loop-count.invariant.0 asked began) c.in-End.ensures.octets c.finish.ensures.finishes).1

pub returns-in-End-clause-no_further : goal.returns-in-End-clause-no_further
returns-in-End-clause-no_further g c = λ asked began.
    reads_no_further g.T.Teller.answer asked _ (SomeStands g.T.Teller.stands) _ _ _ _ _ _ _ (λ seen printed stood. (c.loop-count.teller, stood))
    (c.loop-count.invariant.0 asked began) (consumes_nothing g.T.Teller.answer asked _ _ c.in-End.ensures.octets.1) (omega arith)

pub returns-in-End-clause-stops_at_write : goal.returns-in-End-clause-stops_at_write
returns-in-End-clause-stops_at_write g c = λ asked began fault.
    stops_at_write _ asked _ (SomeStands g.T.Teller.stands) _ _ _ _ _ _ _ _ (λ seen printed stood. (c.loop-count.teller, stood))
    (c.loop-count.invariant.0 asked began) (consumes_nothing g.T.Teller.answer asked _ _ c.in-End.ensures.octets.1) (omega arith)
    (end_part _ _ (g.T.Teller.stands c.loop-count.teller) (g.T.Teller.has_told c.finish.new.teller) _ _ _ c.finish.ensures.finishes)

pub returns-in-Failed-clause-runs : goal.returns-in-Failed-clause-runs
returns-in-Failed-clause-runs g c = λ asked began.
    (runs_failed _ asked _ (g.T.Teller.has_told c.loop-count.teller) _ _ _ _ _ (c.loop-count.invariant.0 asked began) c.in-Failed.ensures.octets).0

pub returns-in-Failed-clause-whole : goal.returns-in-Failed-clause-whole
returns-in-Failed-clause-whole g c = λ asked began.
    (runs_failed _ asked _ (g.T.Teller.has_told c.loop-count.teller) _ _ _ _ _ (c.loop-count.invariant.0 asked began) c.in-Failed.ensures.octets).1

pub returns-in-Failed-clause-no_further : goal.returns-in-Failed-clause-no_further
returns-in-Failed-clause-no_further g c = λ asked began.
    reads_no_further g.T.Teller.answer asked _ (SomeStands g.T.Teller.stands) _ _ _ _ _ _ _ (λ seen printed stood. (c.loop-count.teller, stood))
    (c.loop-count.invariant.0 asked began) (consumes_nothing g.T.Teller.answer asked _ _ c.in-Failed.ensures.octets) (omega arith)

pub returns-in-Failed-clause-prints_taken : goal.returns-in-Failed-clause-prints_taken
returns-in-Failed-clause-prints_taken g c = λ asked began fault.
    prints_taken g.T.Teller.answer asked _ (SomeStands g.T.Teller.stands) _ _ _ _ _ (λ seen printed stood. (c.loop-count.teller, stood))
    (c.loop-count.invariant.0 asked began) c.in-Failed.ensures.octets
