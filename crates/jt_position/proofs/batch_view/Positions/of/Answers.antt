use Rattle.std.proofs.Common.{[], ◌++◌, ◌∷◌, refl, ◌∙◌}
use Rattle.std.proofs.lemmas.Result.{err_from_is_err_and}
use Rattle.jt_value.specs.declared.refusal.CodecError.TheVariants as errors
use Rattle.jt_layout.specs.Layout.{read_times, sized, word}
use Rattle.jt_layout.proofs.Loops.{times_init, times_step, times_fails, times_done}
use Rattle.jt_position.specs.BatchViews.{position_in_view}
use Rattle.jt_position.specs.Positions.{position}
use Rattle.jt_position.proofs.batch_view.Positions.of.Goals as goal

pub loop-init : goal.loop-init
loop-init c = record { octets = refl; so_far = ([], times_init (sized word position).read c.args.reader.now.octets c.args.count c.args.reader.now.place) }

pub loop-preserved : goal.loop-preserved
loop-preserved c =
    let read = rw c.loop.invariant.octets at c.in_ok-read_sized.ensures.value in
    let so_far = c.loop.invariant.so_far in
    record {
      octets = c.in_ok-read_sized.ensures.octets ∙ c.loop.invariant.octets;
      so_far = (so_far.0 ++ position_in_view c.in_ok-read_sized.field-0 ∷ [], times_step (sized word position).read c.args.reader.now.octets so_far.0 c.args.count c.loop.counter c.loop.reader.place (position_in_view c.in_ok-read_sized.field-0) c.read_sized.new.reader.place (read_times (sized word position).read c.args.count c.args.reader.now.octets c.args.reader.now.place) c.loop-test.true read so_far.1);
    }

pub returns-in_err-read_sized-clause-value : goal.returns-in_err-read_sized-clause-value
returns-in_err-read_sized-clause-value c =
    let p = err_from_is_err_and c.from_residual.result c.from_residual.ensures.1 in
    let failed = rw c.loop.invariant.octets at c.in_err-read_sized.ensures.value in
    let so_far = c.loop.invariant.so_far in
    rw (p.1, p.2) (times_fails (sized word position).read c.args.reader.now.octets (errors.Refused c.in_err-read_sized.field-0.0) so_far.0 c.args.count c.loop.counter c.loop.reader.place (read_times (sized word position).read c.args.count c.args.reader.now.octets c.args.reader.now.place) c.loop-test.true failed so_far.1)

pub invariant_of-result : goal.invariant_of-result
invariant_of-result c =
    let so_far = c.loop.invariant.so_far in
    let done = times_done (sized word position).read c.args.reader.now.octets so_far.0 c.args.count c.loop.counter c.loop.reader.place (read_times (sized word position).read c.args.count c.args.reader.now.octets c.args.reader.now.place) c.loop-test.false so_far.1 in
    rw (c.ahead-start.ensures, done) (refl, c.requires)

pub returns-clause-value : goal.returns-clause-value
returns-clause-value c =
    let so_far = c.loop.invariant.so_far in
    let done = times_done (sized word position).read c.args.reader.now.octets so_far.0 c.args.count c.loop.counter c.loop.reader.place (read_times (sized word position).read c.args.count c.args.reader.now.octets c.args.reader.now.place) c.loop-test.false so_far.1 in
    rw (c.ahead-start.ensures, done) refl
