use Rattle.std.proofs.Common.{◌∙◌, ◌∷◌, ◌++◌, []}
use Rattle.std.proofs.lemmas.Result.{err_from_is_err_and}
use Rattle.jt_layout.specs.Layout.{read_times}
use Rattle.jt_layout.proofs.Loops.{times_step, times_fails, times_done}
use Rattle.jt_layout.proofs.reader.Reader.pass.Goals as goal

pub returns-in_err-read-clause-value : goal.returns-in_err-read-clause-value
returns-in_err-read-clause-value g c =
    let p = err_from_is_err_and c.from_residual.result c.from_residual.ensures.1 in
    let so_far = c.loop.invariant.1 in
    let failed = rw c.loop.invariant.0 at c.in_err-read.ensures.value in
    rw (p.1, p.2) (times_fails (g.T.Element.layout).read c.args.self.now.octets c.in_err-read.field-0.0 so_far.0 c.args.count c.loop.counter c.loop.self.place (read_times (g.T.Element.layout).read c.args.count c.args.self.now.octets c.args.self.now.place) c.loop-test.true failed so_far.1)

pub loop-preserved : goal.loop-preserved
loop-preserved g c =
    let so_far = c.loop.invariant.1 in
    let read = rw c.loop.invariant.0 at c.in_ok-read.ensures.value in (
      c.in_ok-read.ensures.octets ∙ c.loop.invariant.0,
      (so_far.0 ++ c.in_ok-read.field-0 ∷ [], times_step (g.T.Element.layout).read c.args.self.now.octets so_far.0 c.args.count c.loop.counter c.loop.self.place c.in_ok-read.field-0 c.read.new.reader.place (read_times (g.T.Element.layout).read c.args.count c.args.self.now.octets c.args.self.now.place) c.loop-test.true read so_far.1),
    )

pub returns-clause-value : goal.returns-clause-value
returns-clause-value g c =
    let so_far = c.loop.invariant.1 in
    (so_far.0, times_done (g.T.Element.layout).read c.args.self.now.octets so_far.0 c.args.count c.loop.counter c.loop.self.place (read_times (g.T.Element.layout).read c.args.count c.args.self.now.octets c.args.self.now.place) c.loop-test.false so_far.1)
