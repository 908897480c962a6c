use Rattle.jt_view.proofs.Closings.{closed_too_long, closed_hex}
use Rattle.jt_view.proofs.telling.close.Goals as goal

pub returns-in_ok-push_too_long_line-in-TooLong-default-clause-closes : goal.returns-in_ok-push_too_long_line-in-TooLong-default-clause-closes
returns-in_ok-push_too_long_line-in-TooLong-default-clause-closes c =
    rw c.in-TooLong-default.is-0 (closed_too_long _ _ _ _ c.in_ok-push_too_long_line-in-TooLong-default.ensures)

pub returns-in_ok-push_hex_refused_line-in-HexRefused-default-clause-closes : goal.returns-in_ok-push_hex_refused_line-in-HexRefused-default-clause-closes
returns-in_ok-push_hex_refused_line-in-HexRefused-default-clause-closes c =
    rw c.in-HexRefused-default.is-0 (closed_hex _ _ _ _ _ c.in_ok-push_hex_refused_line-in-HexRefused-default.ensures)
