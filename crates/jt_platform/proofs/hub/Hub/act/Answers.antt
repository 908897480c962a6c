use Rattle.std.proofs.Common.{sym, refl, ◌∙◌, rules}
use Rattle.jt_platform.proofs.Acting.{legal_acted, room_close, room_entry, at_acted, owed_counts}
use Rattle.jt_platform.proofs.Making.{ready_close}
use Rattle.jt_platform.proofs.hub.Hub.act.Goals as goal

pub make_room-requires-clause-place : goal.make_room-requires-clause-place
make_room-requires-clause-place g c =
    let inside = c.self.inside in
    ready_close inside.log.index c.is_owed_close-is_owed.result inside.log.entries c.args.request.now c.args.session inside.reserved c.self.invariant.3 c.is_owed_close-is_owed.ensures

pub make_room-requires-clause-one : goal.make_room-requires-clause-one
make_room-requires-clause-one g c =
    let inside = c.self.inside in
    owed_counts c.is_owed_close-is_owed.result inside.log.entries inside.log.entries c.args.request.now c.args.session inside.reserved inside.owed inside.log.spare
    c.self.invariant.1 c.is_owed_close-is_owed.ensures refl

pub overflow_sub-self : goal.overflow_sub-self
overflow_sub-self g c =
    let inside = c.self.inside in
    owed_counts c.is_owed_close-is_owed.result inside.log.entries inside.log.entries c.args.request.now c.args.session inside.reserved inside.owed inside.log.spare
    c.self.invariant.1 c.is_owed_close-is_owed.ensures refl c.if-is_owed.true

pub invariant_of-self : goal.invariant_of-self
invariant_of-self g c =
    rw (c.make_room.ensures.entries, c.in_default-make_room.ensures.same)
    (c.self.invariant.0, c.self.invariant.1, c.self.invariant.2, λ s above upto. c.make_room.ensures.kept s (c.self.invariant.3 s above upto))

pub invariant_of-self-then-not-makes_entry : goal.invariant_of-self-then-not-makes_entry
invariant_of-self-then-not-makes_entry g c = (
  search rules,
  search rules,
  rw (c.let_go.ensures.entries, c.make_room.ensures.entries) c.self.invariant.2,
  λ s above upto. c.let_go.ensures.kept s (c.make_room.ensures.kept s (c.self.invariant.3 s above upto)),
)

pub invariant_of-self-then-is_owed : goal.invariant_of-self-then-is_owed
invariant_of-self-then-is_owed g c =
    let inside = c.self.inside in (
      at_acted (g.P.Keeper.tables inside.start.value) (g.P.Keeper.tables inside.keeper) (g.P.Keeper.tables c.answer-reply.new.keeper) (g.P.Keeper.limit inside.start.value) (g.P.Keeper.limit inside.keeper) (g.P.Keeper.limit c.answer-reply.new.keeper)
          inside.log.entries c.make_room.new.log.entries c.push.new.self.entries c.args.session c.args.request.now c.answer-reply.new.copy c.answer-reply.result c.copy_reply.result c.self.invariant.0
          c.answer-reply.ensures.tables c.answer-reply.ensures.limit (c.answer-reply.ensures.copy ∙ c.in-Ok.ensures.copy) c.copy_reply.ensures c.make_room.ensures.entries c.push.ensures.entries,
      room_close c.is_owed_close-is_owed.result inside.log.entries inside.log.entries c.make_room.new.log.entries c.push.new.self.entries c.args.session c.args.request.now c.answer-reply.new.copy c.copy_reply.result
          inside.reserved inside.owed inside.log.spare c.make_room.new.log.spare c.push.new.self.spare c.self.invariant.1
          c.is_owed_close-is_owed.ensures refl c.if-is_owed.true (c.answer-reply.ensures.copy ∙ c.in-Ok.ensures.copy) c.in-Ok-make_room.ensures.owed c.push.ensures.spare c.make_room.ensures.entries c.push.ensures.entries,
      legal_acted (g.P.Keeper.tables inside.start.value) (g.P.Keeper.tables inside.keeper) (g.P.Keeper.limit inside.start.value) (g.P.Keeper.limit inside.keeper) inside.fleet inside.secret inside.log.entries c.make_room.new.log.entries
          c.make_room.new.log.entries c.push.new.self.entries c.args.session c.args.request.now c.answer-reply.new.copy c.answer-reply.result c.copy_reply.result c.self.invariant.2 c.self.invariant.0 c.make_room.ensures.entries
          (sym c.makes_entry.ensures ∙ c.if-not-makes_entry.false) c.answer-reply.ensures.reply (c.answer-reply.ensures.copy ∙ c.in-Ok.ensures.copy) c.copy_reply.ensures c.make_room.ensures.entries c.push.ensures.entries,
      λ s above upto. c.push.ensures.kept s (c.make_room.ensures.kept s (c.self.invariant.3 s above upto)),
    )

pub invariant_of-self-else-is_owed : goal.invariant_of-self-else-is_owed
invariant_of-self-else-is_owed g c =
    let inside = c.self.inside in (
      at_acted (g.P.Keeper.tables inside.start.value) (g.P.Keeper.tables inside.keeper) (g.P.Keeper.tables c.answer-reply.new.keeper) (g.P.Keeper.limit inside.start.value) (g.P.Keeper.limit inside.keeper) (g.P.Keeper.limit c.answer-reply.new.keeper)
          inside.log.entries c.make_room.new.log.entries c.push.new.self.entries c.args.session c.args.request.now c.answer-reply.new.copy c.answer-reply.result c.copy_reply.result c.self.invariant.0
          c.answer-reply.ensures.tables c.answer-reply.ensures.limit (c.answer-reply.ensures.copy ∙ c.in-Ok.ensures.copy) c.copy_reply.ensures c.make_room.ensures.entries c.push.ensures.entries,
      room_entry c.is_owed_close-is_owed.result inside.log.entries c.make_room.new.log.entries c.push.new.self.entries (record { session = c.args.session; request = c.answer-reply.new.copy; reply = c.copy_reply.result })
          inside.reserved inside.owed inside.log.spare c.make_room.new.log.spare c.push.new.self.spare c.self.invariant.1
          c.if-is_owed.false c.in-Ok-make_room.ensures.owed c.push.ensures.spare c.make_room.ensures.entries c.push.ensures.entries,
      legal_acted (g.P.Keeper.tables inside.start.value) (g.P.Keeper.tables inside.keeper) (g.P.Keeper.limit inside.start.value) (g.P.Keeper.limit inside.keeper) inside.fleet inside.secret inside.log.entries c.make_room.new.log.entries
          c.make_room.new.log.entries c.push.new.self.entries c.args.session c.args.request.now c.answer-reply.new.copy c.answer-reply.result c.copy_reply.result c.self.invariant.2 c.self.invariant.0 c.make_room.ensures.entries
          (sym c.makes_entry.ensures ∙ c.if-not-makes_entry.false) c.answer-reply.ensures.reply (c.answer-reply.ensures.copy ∙ c.in-Ok.ensures.copy) c.copy_reply.ensures c.make_room.ensures.entries c.push.ensures.entries,
      λ s above upto. c.push.ensures.kept s (c.make_room.ensures.kept s (c.self.invariant.3 s above upto)),
    )

pub returns-else-is_owed-clause-keeper : goal.returns-else-is_owed-clause-keeper
returns-else-is_owed-clause-keeper g c =
    let inside = c.self.inside in
    at_acted (g.P.Keeper.tables inside.start.value) (g.P.Keeper.tables inside.keeper) (g.P.Keeper.tables c.answer-reply.new.keeper) (g.P.Keeper.limit inside.start.value) (g.P.Keeper.limit inside.keeper) (g.P.Keeper.limit c.answer-reply.new.keeper)
    inside.log.entries c.make_room.new.log.entries c.push.new.self.entries c.args.session c.args.request.now c.answer-reply.new.copy c.answer-reply.result c.copy_reply.result c.self.invariant.0
    c.answer-reply.ensures.tables c.answer-reply.ensures.limit (c.answer-reply.ensures.copy ∙ c.in-Ok.ensures.copy) c.copy_reply.ensures c.make_room.ensures.entries c.push.ensures.entries
