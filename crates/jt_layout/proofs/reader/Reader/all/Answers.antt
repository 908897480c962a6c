use Rattle.std.proofs.Common.{length, refl, ◌∙◌}
use Rattle.std.proofs.lemmas.Result.{err_from_is_err_and}
use Rattle.jt_layout.specs.Layout.{read_to_the_end}
use Rattle.jt_layout.proofs.Loops.{more_left, all_init, all_step, all_fails, all_done}
use Rattle.jt_layout.proofs.reader.Reader.all.Goals as goal

pub loop-alloc-init : goal.loop-alloc-init
loop-alloc-init g c = record {
  octets = refl;
  so_far = rw c.new-list.ensures (all_init (g.T.Element.layout).read c.args.self.now.octets c.args.self.now.place);
}

pub returns-in_err-element-clause-value : goal.returns-in_err-element-clause-value
returns-in_err-element-clause-value g c =
    let p = err_from_is_err_and c.from_residual.result c.from_residual.ensures.1 in
    let lt = rw c.loop-alloc.invariant.octets at (more_left c.is_at_end.result c.loop-alloc.self.place (length c.loop-alloc.self.octets) c.is_at_end.ensures c.loop-alloc-test.true) in
    let failed = rw c.loop-alloc.invariant.octets at c.in_err-element.ensures.value in
    rw (p.1, p.2) (all_fails (g.T.Element.layout).read c.args.self.now.octets c.in_err-element.field-0.0 c.loop-alloc.list c.loop-alloc.self.place (read_to_the_end (g.T.Element.layout).read c.args.self.now.octets c.args.self.now.place) lt failed c.loop-alloc.invariant.so_far)

pub loop-alloc-preserved : goal.loop-alloc-preserved
loop-alloc-preserved g c =
    let lt = rw c.loop-alloc.invariant.octets at (more_left c.is_at_end.result c.loop-alloc.self.place (length c.loop-alloc.self.octets) c.is_at_end.ensures c.loop-alloc-test.true) in
    let read = rw c.loop-alloc.invariant.octets at c.in_ok-element.ensures.value in
    record {
      octets = c.in_ok-element.ensures.octets ∙ c.loop-alloc.invariant.octets;
      so_far = rw c.in_ok-push.ensures.ok (all_step (g.T.Element.layout).read c.args.self.now.octets c.loop-alloc.list c.loop-alloc.self.place c.in_ok-element.element c.read.new.reader.place (read_to_the_end (g.T.Element.layout).read c.args.self.now.octets c.args.self.now.place) lt c.in_ok-element.ensures.onward read c.loop-alloc.invariant.so_far);
    }

pub returns-clause-value : goal.returns-clause-value
returns-clause-value g c =
    let le = rw c.loop-alloc.invariant.octets at (c.is_at_end.ensures.0 c.loop-alloc-test.false) in
    all_done (g.T.Element.layout).read c.args.self.now.octets c.loop-alloc.list c.loop-alloc.self.place (read_to_the_end (g.T.Element.layout).read c.args.self.now.octets c.args.self.now.place) le c.loop-alloc.invariant.so_far
