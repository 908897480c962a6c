use Rattle.std.proofs.Common.{◌++◌, ◌∙◌, refl, ap, arith}
use Rattle.std.proofs.KnownBytes.{Consumes-kept}
use Rattle.jt_input.specs.declared.line_cutter.Cut.TheVariants as cut
use Rattle.jt_input.specs.LineReading.{Reading}
use Rattle.jt_input.proofs.Reading.{after_cut, after_more, after_none, line_within, bad_line, reads_on, at_end}
use Rattle.jt_input.proofs.line_reader.LineReader.next.Goals as goal

pub returns-in-Line-clause-goes : goal.returns-in-Line-clause-goes
returns-in-Line-clause-goes g c = λ text lines told.
    let on = c.loop-self.invariant.0 text lines told in
    record {
      more = on.0;
      consumed = on.1;
      tells = (after_cut cut.Line _ _ (text ++ on.0) lines c.in-Line.ensures on.2, line_within _ _ (text ++ on.0) lines c.in-Line.ensures on.2);
    }

pub returns-in-Bad-clause-goes : goal.returns-in-Bad-clause-goes
returns-in-Bad-clause-goes g c = λ text lines told.
    let on = c.loop-self.invariant.0 text lines told in
    let held = ap (λ (r : Reading). r.held.number) c.self.view_is in
    record {
      more = on.0;
      consumed = on.1;
      tells = (omega (arith, c.number.ensures.number, held, c.in-Bad.ensures.takes.number, on.2.number), bad_line _ (text ++ on.0) lines on.2 (c.in-Bad.ensures.bad refl));
    }

pub loop-self-preserved : goal.loop-self-preserved
loop-self-preserved g c =
    (reads_on c.args.self.now _ _ _ _ _ _ c.loop-self.invariant.0 c.in-More.ensures c.in-Bytes.ensures.held c.in-Bytes.ensures.ahead.1, c.in-Bytes.ensures.cause.still (λ e. cc) ∙ c.loop-self.invariant.1)

pub returns-in-End-clause-goes : goal.returns-in-End-clause-goes
returns-in-End-clause-goes g c = λ text lines told.
    let on = c.loop-self.invariant.0 text lines told in
    let more = after_more _ _ (text ++ on.0) lines c.in-More.ensures on.2 in
    let now = after_none _ _ (text ++ on.0) lines (c.in-More.ensures.more refl) c.in-End.ensures.ahead.0 c.in-End.ensures.held more in
    record {
      more = on.0;
      consumed = Consumes-kept _ _ _ on.0 on.1 c.in-End.ensures.ahead.2;
      tells = at_end c.end.result _ (text ++ on.0) _ lines now c.in-End.ensures.ahead.0 c.end.ensures c.in-End.ensures.ahead.1;
    }

pub returns-in-Failed-clause-goes : goal.returns-in-Failed-clause-goes
returns-in-Failed-clause-goes g c = λ text lines told.
    let on = c.loop-self.invariant.0 text lines told in
    let more = after_more _ _ (text ++ on.0) lines c.in-More.ensures on.2 in
    record {
      more = on.0;
      consumed = Consumes-kept _ _ _ on.0 on.1 c.in-Failed.ensures.ahead.1;
      tells = after_none _ _ (text ++ on.0) lines (c.in-More.ensures.more refl) c.in-Failed.ensures.ahead.0 c.in-Failed.ensures.held more;
    }
