use Rattle.std.proofs.Common.{slice_index, refl}
use Rattle.jt_position.specs.Moments.{IsDecimal}
use Rattle.jt_position.proofs.MomentLaws.{six}
use Rattle.jt_position.proofs.moments.moment.Goals as goal

pub returns-clause-exact : goal.returns-clause-exact
returns-clause-exact c =
    let time = c.args.time.now in
    let exact = rw (c.in_ok-year.ensures.value, c.in_ok-month.ensures.value, c.in_ok-day.ensures.value, c.in_ok-hour.ensures.value, c.in_ok-minute.ensures.value, c.in_ok-second.ensures.value) at c.date_time.ensures.exact in (
      λ some. let named = exact.0 some in record {
        digits = six (λ i. IsDecimal (slice_index time i)) (c.in_ok-year.ensures.exact.0 refl) (c.in_ok-month.ensures.exact.0 refl) (c.in_ok-day.ensures.exact.0 refl) (c.in_ok-hour.ensures.exact.0 refl) (c.in_ok-minute.ensures.exact.0 refl) (c.in_ok-second.ensures.exact.0 refl);
        date = named.0;
        clock = named.1;
      },
      λ named. exact.1 (named.date, named.clock),
    )
