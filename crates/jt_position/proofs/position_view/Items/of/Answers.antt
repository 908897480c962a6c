use Rattle.std.proofs.Common.{[], ◌++◌, ◌∷◌, length, refl, ◌∙◌}
use Rattle.std.proofs.lemmas.Result.{err_from_is_err_and}
use Rattle.jt_value.specs.declared.refusal.CodecError.TheVariants as errors
use Rattle.jt_layout.specs.Layout.{read_to_the_end}
use Rattle.jt_layout.proofs.Loops.{more_left, all_init, all_step, all_fails, all_done}
use Rattle.jt_position.specs.Positions.{item}
use Rattle.jt_position.specs.Views.{item_in_view}
use Rattle.jt_position.proofs.position_view.Items.of.Goals as goal

pub loop-ahead-init : goal.loop-ahead-init
loop-ahead-init c = rw c.ahead-ahead.ensures (record {
  octets = refl;
  so_far = ([], all_init item.read c.args.reader.now.octets c.args.reader.now.place);
})

pub loop-ahead-preserved : goal.loop-ahead-preserved
loop-ahead-preserved c =
    let lt = rw c.loop-ahead.invariant.octets at (more_left c.is_at_end.result c.loop-ahead.ahead.place (length c.loop-ahead.ahead.octets) c.is_at_end.ensures c.loop-ahead-test.true) in
    let read = rw c.loop-ahead.invariant.octets at c.in_ok-read.ensures.value in
    let so_far = c.loop-ahead.invariant.so_far in
    record {
      octets = c.in_ok-read.ensures.octets ∙ c.loop-ahead.invariant.octets;
      so_far = (so_far.0 ++ item_in_view c.in_ok-read.field-0 ∷ [], all_step item.read c.args.reader.now.octets so_far.0 c.loop-ahead.ahead.place (item_in_view c.in_ok-read.field-0) c.read.new.reader.place (read_to_the_end item.read c.args.reader.now.octets c.args.reader.now.place) lt c.in_ok-read.ensures.onward read so_far.1);
    }

pub returns-in_err-read : goal.returns-in_err-read
returns-in_err-read c =
    let p = err_from_is_err_and c.from_residual.result c.from_residual.ensures.1 in
    let lt = rw c.loop-ahead.invariant.octets at (more_left c.is_at_end.result c.loop-ahead.ahead.place (length c.loop-ahead.ahead.octets) c.is_at_end.ensures c.loop-ahead-test.true) in
    let failed = rw c.loop-ahead.invariant.octets at c.in_err-read.ensures.value in
    let so_far = c.loop-ahead.invariant.so_far in
    rw (p.1, p.2) (all_fails item.read c.args.reader.now.octets (errors.Refused c.in_err-read.field-0.0) so_far.0 c.loop-ahead.ahead.place (read_to_the_end item.read c.args.reader.now.octets c.args.reader.now.place) lt failed so_far.1)

pub invariant_of-result : goal.invariant_of-result
invariant_of-result c =
    let le = rw c.loop-ahead.invariant.octets at (c.is_at_end.ensures.0 c.loop-ahead-test.false) in
    let so_far = c.loop-ahead.invariant.so_far in
    let done = all_done item.read c.args.reader.now.octets so_far.0 c.loop-ahead.ahead.place (read_to_the_end item.read c.args.reader.now.octets c.args.reader.now.place) le so_far.1 in
    rw (c.ahead.ensures, done) (refl, c.requires)

pub returns : goal.returns
returns c =
    let le = rw c.loop-ahead.invariant.octets at (c.is_at_end.ensures.0 c.loop-ahead-test.false) in
    let so_far = c.loop-ahead.invariant.so_far in
    let done = all_done item.read c.args.reader.now.octets so_far.0 c.loop-ahead.ahead.place (read_to_the_end item.read c.args.reader.now.octets c.args.reader.now.place) le so_far.1 in
    rw (c.ahead.ensures, done) refl
