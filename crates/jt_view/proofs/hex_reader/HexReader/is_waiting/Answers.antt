use Rattle.std.proofs.Common.{ap, ◌∙◌}
use Rattle.std.specs.Option.{is_some}
use Rattle.jt_view.specs.HexInput.{digits}
use Rattle.jt_view.proofs.HexDigits.{waits_odd}
use Rattle.jt_view.proofs.hex_reader.HexReader.is_waiting.Goals as goal

pub returns : goal.returns
returns c seen stands = waits_odd c.is_some.result (digits seen) (c.is_some.ensures ∙ ap is_some (c.self.view_is ∙ stands.waits))
