use Rattle.std.proofs.Common.{refl}
use Rattle.dewfelt_settings.proofs.choices.Choices.with_text.Goals as goal

pub returns-in_ok-of-in-HttpName : goal.returns-in_ok-of-in-HttpName
returns-in_ok-of-in-HttpName c =
    let is = rw c.in_ok-of-in-HttpName.was at c.of.ensures in
    rw c.in-HttpName.is (is.0, c.in_ok-of-in-HttpName.field-0, is.1, refl)
