use Rattle.std.proofs.Common.{inl}
use Rattle.dewfelt_log.proofs.time.time_text.Goals as goal

pub returns-in-Some : goal.returns-in-Some
returns-in-Some c = inl (c.in-Some.moment, c.in-Some.ensures, c.text_at.ensures)
