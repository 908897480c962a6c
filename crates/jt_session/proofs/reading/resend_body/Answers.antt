use Rattle.std.proofs.Common.{◌++◌, take, slice_index, sym, ap, ◌∙◌, arith}
use Rattle.std.specs.List.{flat_map}
use Rattle.std.proofs.lemmas.List.{flat_map_more, take_more}
use Rattle.jt_layout.specs.Layout.{word}
use Rattle.jt_session.proofs.Asking.{resend_whole}
use Rattle.jt_session.proofs.reading.resend_body.Goals as goal

pub loop-number-preserved : goal.loop-number-preserved
loop-number-preserved c = record {
  items =
      c.put_word.ensures.octets ∙ (ap (λ front. front ++ word.spell (slice_index c.args.missing.now c.loop-number.number-index)) c.loop-number.invariant.items
      ∙ (flat_map_more word.spell c.resend_front-body.result.items (take c.loop-number.number-index c.args.missing.now) (slice_index c.args.missing.now c.loop-number.number-index)
      ∙ ap (λ numbers. c.resend_front-body.result.items ++ flat_map word.spell numbers) (sym (take_more c.args.missing.now c.loop-number.number-index 0 c.loop-number-test.true))));
  len = omega (arith, c.put_word.ensures.len, c.loop-number.invariant.len);
}

pub returns-clause-octets : goal.returns-clause-octets
returns-clause-octets c =
    resend_whole c.args.edition c.args.first c.args.missing.now c.resend_front-body.result.items c.loop-number.body.items c.loop-number.number-index (omega arith) c.resend_front-body.ensures.octets c.loop-number.invariant.items
