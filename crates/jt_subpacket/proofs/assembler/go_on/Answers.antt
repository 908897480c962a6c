use Rattle.std.proofs.Common.{refl, sym, ap, ◌∙◌, subst}
use Rattle.std.proofs.lemmas.List.{set-get_or}
use Rattle.std.specs.List.{remove}
use Rattle.std.specs.Prelude.{IfSome, slice_set}
use Rattle.jt_subpacket.specs.declared.taken.Fate.TheVariants.{Whole}
use Rattle.std.proofs.lemmas.Option.{slice_get_read}
use Rattle.jt_subpacket.specs.Steps.{AnswersPacket}
use Rattle.jt_subpacket.proofs.Fates.{stays, goes}
use Rattle.jt_subpacket.proofs.assembler.go_on.Goals as goal

pub is_completed_by-requires-clause-kept : goal.is_completed_by-requires-clause-kept
is_completed_by-requires-clause-kept c = (c.requires.kept _ (slice_get_read c.args.partials.now.items _ c.args.place c.index_mut-partial.result.now refl c.requires.place c.index_mut-partial.ensures.value)).0

pub is_completed_by-requires-clause-low : goal.is_completed_by-requires-clause-low
is_completed_by-requires-clause-low c = (c.requires.kept _ (slice_get_read c.args.partials.now.items _ c.args.place c.index_mut-partial.result.now refl c.requires.place c.index_mut-partial.ensures.value)).1

pub is_completed_by-requires-clause-high : goal.is_completed_by-requires-clause-high
is_completed_by-requires-clause-high c = (c.requires.kept _ (slice_get_read c.args.partials.now.items _ c.args.place c.index_mut-partial.result.now refl c.requires.place c.index_mut-partial.ensures.value)).2

pub returns-then-not-is_completed_by-clause-ok : goal.returns-then-not-is_completed_by-clause-ok
returns-then-not-is_completed_by-clause-ok c =
    let ps = c.args.partials.now.items in
    let p = c.index_mut-partial.result.now in
    let at = slice_get_read ps _ c.args.place p refl c.requires.place c.index_mut-partial.ensures.value in
    subst (λ o. IfSome o (AnswersPacket ps c.args.place c.args.number c.args.body.now c.in_ok-fate.fate (slice_set ps c.args.place c.keep.new.self))) (sym at)
    (stays ps c.args.place p c.args.number c.args.body.now c.in_ok-fate.fate c.keep.new.self c.is_completed_by.result c.is_completed_by.ensures c.if-not-is_completed_by.true c.in_ok-fate.ensures.fate c.in_ok-fate.ensures.ok)

pub returns-clause-ok : goal.returns-clause-ok
returns-clause-ok c =
    let ps = c.args.partials.now.items in
    let p = c.index_mut-partial.result.now in
    let at = slice_get_read ps _ c.args.place p refl c.requires.place c.index_mut-partial.ensures.value in
    let key = c.key-id.result in
    subst (λ o. IfSome o (AnswersPacket ps c.args.place c.args.number c.args.body.now (Whole key.id key.first c.in_ok-body.body) c.remove.new.self.items)) (sym at)
    (goes ps c.args.place p c.args.number c.args.body.now c.in_ok-body.body key c.remove.new.self.items c.is_completed_by.result (c.requires.kept p at).0 c.is_completed_by.ensures c.if-not-is_completed_by.false c.key-id.ensures c.in_ok-body.ensures
    (c.remove.ensures.items ∙ ap (λ l. remove l c.args.place) (ap (slice_set ps c.args.place) c.index_mut-partial.ensures.value ∙ set-get_or ps c.args.place p)))
