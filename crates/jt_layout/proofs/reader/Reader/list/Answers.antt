use Rattle.std.proofs.Common.{◌∙◌}
use Rattle.std.proofs.lemmas.Result.{err_from_is_err_and}
use Rattle.jt_layout.specs.Layout.{read_times}
use Rattle.jt_layout.proofs.Loops.{times_step, times_fails, times_done}
use Rattle.jt_layout.proofs.reader.Reader.list.Goals as goal

pub returns-in_err-element-clause-value : goal.returns-in_err-element-clause-value
returns-in_err-element-clause-value g c =
    let p = err_from_is_err_and c.from_residual-in_err-element.result c.from_residual-in_err-element.ensures.1 in
    let failed = rw c.loop.invariant.octets at c.in_err-element.ensures.value in
    rw (p.1, p.2) (times_fails (g.T.Element.layout).read c.args.self.now.octets c.in_err-element.field-0.0 c.loop.list c.args.count c.loop.counter c.loop.self.place (read_times (g.T.Element.layout).read c.args.count c.args.self.now.octets c.args.self.now.place) c.loop-test.true failed c.loop.invariant.so_far)

pub loop-preserved : goal.loop-preserved
loop-preserved g c =
    let read = rw c.loop.invariant.octets at c.in_ok-element.ensures.value in
    record {
      octets = c.in_ok-element.ensures.octets ∙ c.loop.invariant.octets;
      so_far = rw c.in_ok-push.ensures.ok (times_step (g.T.Element.layout).read c.args.self.now.octets c.loop.list c.args.count c.loop.counter c.loop.self.place c.in_ok-element.element c.read.new.reader.place (read_times (g.T.Element.layout).read c.args.count c.args.self.now.octets c.args.self.now.place) c.loop-test.true read c.loop.invariant.so_far);
    }

pub returns-clause-value : goal.returns-clause-value
returns-clause-value g c = times_done (g.T.Element.layout).read c.args.self.now.octets c.loop.list c.args.count c.loop.counter c.loop.self.place (read_times (g.T.Element.layout).read c.args.count c.args.self.now.octets c.args.self.now.place) c.loop-test.false c.loop.invariant.so_far
