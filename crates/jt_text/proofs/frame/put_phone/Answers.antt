use Rattle.std.proofs.Common.{◌≡◌, take, drop, refl, arith, length-drop, take_all}
use Rattle.jt_text.proofs.frame.put_phone.Goals as goal

pub returns-in-E2013-clause-text : goal.returns-in-E2013-clause-text
returns-in-E2013-clause-text c =
    let digits = c.args.phone.now.digits in
    let last : take 6 (drop 4 digits) ≡ drop 4 digits = take_all 6 (drop 4 digits) (omega (arith, length-drop 4 digits)) in
    rw (c.put_named_digits.ensures.text, c.in-E2013.is, last) refl
