use Rattle.std.proofs.Common.{refl}
use Rattle.dewfelt_settings.proofs.choices.Choices.with_number.Goals as goal

pub returns-in_ok-of-in-Links : goal.returns-in_ok-of-in-Links
returns-in_ok-of-in-Links c =
    rw c.in-Links.is (c.in_ok-of-in-Links.field-0, rw c.in_ok-of-in-Links.was at c.of.ensures, refl)

pub returns-in_ok-of-in-Quiet : goal.returns-in_ok-of-in-Quiet
returns-in_ok-of-in-Quiet c =
    rw c.in-Quiet.is (c.in_ok-of-in-Quiet.field-0, rw c.in_ok-of-in-Quiet.was at c.of-in-Quiet.ensures, refl)

pub returns-in_ok-of-in-Strangers : goal.returns-in_ok-of-in-Strangers
returns-in_ok-of-in-Strangers c =
    rw c.in-Strangers.is (c.in_ok-of-in-Strangers.field-0, rw c.in_ok-of-in-Strangers.was at c.of-in-Strangers.ensures, refl)

pub returns-in_ok-of-in-StrangersOfAddress : goal.returns-in_ok-of-in-StrangersOfAddress
returns-in_ok-of-in-StrangersOfAddress c =
    rw c.in-StrangersOfAddress.is (
      c.in_ok-of-in-StrangersOfAddress.field-0,
      rw c.in_ok-of-in-StrangersOfAddress.was at c.of-in-StrangersOfAddress.ensures,
      refl,
    )
