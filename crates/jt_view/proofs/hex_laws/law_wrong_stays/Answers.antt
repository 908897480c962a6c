use Rattle.jt_view.proofs.HexDigits.{wrong_stays, digits_stay}
use Rattle.jt_view.proofs.hex_laws.law_wrong_stays.Goals as goal

pub returns-clause-place : goal.returns-clause-place
returns-clause-place c = wrong_stays

pub returns-clause-digits : goal.returns-clause-digits
returns-clause-digits c = digits_stay
