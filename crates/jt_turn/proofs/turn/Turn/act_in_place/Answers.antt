use Rattle.std.proofs.Common.{sym, ◌∙◌, Some}
use Rattle.jt_turn.proofs.Acting.{one_slot}
use Rattle.jt_turn.proofs.turn.Turn.act_in_place.Goals as goal

pub slot_mut-requires : goal.slot_mut-requires
slot_mut-requires g c = let d = c.requires.desk in (c.requires.table ∙ sym c.self.view_is, (Some d.0, one_slot c.args.seat.now.me.1 (Some d.0) d.1))
