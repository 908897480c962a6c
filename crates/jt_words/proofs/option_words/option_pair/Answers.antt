use Rattle.std.proofs.Common.{[], map, take, drop, string_bytes, subst, arith}
use Rattle.jt_words.specs.OptionWords.{IsOption}
use Rattle.jt_words.proofs.Pairs.{back_is, all_rest, parted, both_lengths}
use Rattle.jt_words.proofs.option_words.option_pair.Goals as goal

pub returns-in_err-one-clause-each : goal.returns-in_err-one-clause-each
returns-in_err-one-clause-each c one two pair = absurd (c.in_err-one.ensures.each one pair.front pair.back pair.whole pair.one)

pub returns-in_err-two-clause-each : goal.returns-in_err-two-clause-each
returns-in_err-two-clause-each c one two pair =
    let first = c.in_ok-one.ensures.each one pair.front pair.back pair.whole pair.one in
    absurd (c.in_err-two.ensures.each two pair.back [] (back_is string_bytes c.args.words.now pair.front pair.back _ pair.whole first.1) pair.other)

pub returns-then-count-rest-clause-some : goal.returns-then-count-rest-clause-some
returns-then-count-rest-clause-some c = record {
  front = map string_bytes (take c.in_ok-one.count c.args.words.now);
  back = map string_bytes (drop c.in_ok-one.count c.args.words.now);
  whole = parted string_bytes c.args.words.now c.in_ok-one.count;
  one = c.in_ok-one.ensures.some.1;
  other = subst (λ words. IsOption c.args.second.now c.in_ok-two.two.now (map string_bytes words))
      (all_rest c.args.words.now c.in_ok-one.count c.in_ok-two.rest c.if-count-rest.true) c.in_ok-two.ensures.some.1;
}

pub returns-then-count-rest-clause-each : goal.returns-then-count-rest-clause-each
returns-then-count-rest-clause-each c one two pair =
    let first = c.in_ok-one.ensures.each one pair.front pair.back pair.whole pair.one in
    let second = c.in_ok-two.ensures.each two pair.back [] (back_is string_bytes c.args.words.now pair.front pair.back _ pair.whole first.1) pair.other in
    (first.0, second.0)

pub returns-else-count-rest-clause-each : goal.returns-else-count-rest-clause-each
returns-else-count-rest-clause-each c one two pair =
    let first = c.in_ok-one.ensures.each one pair.front pair.back pair.whole pair.one in
    let second = c.in_ok-two.ensures.each two pair.back [] (back_is string_bytes c.args.words.now pair.front pair.back _ pair.whole first.1) pair.other in
    let all = both_lengths string_bytes c.args.words.now pair.front pair.back pair.whole in omega (arith, c.if-count-rest.false, first.1, second.1, all)
