use Rattle.std.proofs.Common.{◌∙◌, ℕ, List, None, ap, sym, subst}
use Rattle.std.specs.Prelude.{Err, Ok, IfSome, option_copied}
use Rattle.std.specs.Map.Iter.{deref_pair}
use Rattle.std.proofs.lemmas.Map.Iter.{rest_all, rest_more}
use Rattle.std.proofs.lemmas.Result.{err_from_is_err_and}
use Rattle.jt_value.specs.declared.phone.Edition.TheVariants.{E2013, E2019}
use Rattle.jt_store.specs.declared.migrating.OldPhone.{OldPhone}
use Rattle.jt_store.specs.Migrating.{AreAppended}
use Rattle.jt_store.specs.Places.{Moves, places_in, standing}
use Rattle.jt_store.proofs.Migrations.{IsMoving, entry_found, found_has, moving_begins, moving_ends, moving_fails, moving_on, one_found}
use Rattle.jt_store.proofs.migrating.migrate.Goals as goal

pub loop-digits-init : goal.loop-digits-init
loop-digits-init c =
    let gives = c.into_iter-digits-iterator.ensures.into_iter_gives in
    let entries = c.in_ok-places.places.entries in
    let placed = λ (q : List ℕ). c.in_ok-places.ensures q ∙ ap (λ (xs : List OldPhone). places_in xs q) c.as_slice-phones.ensures in
    (tt, tt, (entries, record { places = placed; order = gives.5 }, moving_begins c.args.limit c.args.old.now entries c.into_iter-digits-iterator.result c.new-new.result c.new-new.ensures gives.0 gives.6))

pub move_phone-requires-clause-there : goal.move_phone-requires-clause-there
move_phone-requires-clause-there c =
    let inv = c.loop-digits.invariant.2 in
    let key = c.in-Some.digits.now in
    let p = c.in-Some.places.now in
    let front = rest_more deref_pair c.loop-digits.digits-iterator c.next.new.self c.next.result (c.in-Some.digits, c.in-Some.places) c.in-Some.is c.next.ensures.steps in
    let m = subst (IsMoving c.args.limit c.args.old.now inv.0 c.loop-digits.new) front inv.2 in
    let at = entry_found c.args.old.now inv.0 key p inv.1 m.left.0 in
    let earlier = c.phone_at.ensures ∙ ap (λ xs. standing xs p.earlier) c.as_slice-phones.ensures ∙ at.0 in
    let later = c.phone_at-in-loop-digits.ensures ∙ ap (λ xs. standing xs p.later) c.as_slice-phones.ensures ∙ at.1 in
    λ a b. one_found c.args.old.now inv.0 key p inv.1 m.left.0 (sym earlier ∙ a) (sym later ∙ b)

pub move_phone-requires-clause-earlier : goal.move_phone-requires-clause-earlier
move_phone-requires-clause-earlier c =
    let inv = c.loop-digits.invariant.2 in
    let key = c.in-Some.digits.now in
    let p = c.in-Some.places.now in
    let front = rest_more deref_pair c.loop-digits.digits-iterator c.next.new.self c.next.result (c.in-Some.digits, c.in-Some.places) c.in-Some.is c.next.ensures.steps in
    let m = subst (IsMoving c.args.limit c.args.old.now inv.0 c.loop-digits.new) front inv.2 in
    let at = entry_found c.args.old.now inv.0 key p inv.1 m.left.0 in
    let earlier = c.phone_at.ensures ∙ ap (λ xs. standing xs p.earlier) c.as_slice-phones.ensures ∙ at.0 in
    subst (λ o. IfSome o (λ (x : OldPhone). AreAppended None x.rows)) (sym earlier) (found_has (λ (x : OldPhone). AreAppended None x.rows) E2013 key c.args.old.now c.requires.rows)

pub move_phone-requires-clause-later : goal.move_phone-requires-clause-later
move_phone-requires-clause-later c =
    let inv = c.loop-digits.invariant.2 in
    let key = c.in-Some.digits.now in
    let p = c.in-Some.places.now in
    let front = rest_more deref_pair c.loop-digits.digits-iterator c.next.new.self c.next.result (c.in-Some.digits, c.in-Some.places) c.in-Some.is c.next.ensures.steps in
    let m = subst (IsMoving c.args.limit c.args.old.now inv.0 c.loop-digits.new) front inv.2 in
    let at = entry_found c.args.old.now inv.0 key p inv.1 m.left.0 in
    let later = c.phone_at-in-loop-digits.ensures ∙ ap (λ xs. standing xs p.later) c.as_slice-phones.ensures ∙ at.1 in
    subst (λ o. IfSome o (λ (x : OldPhone). AreAppended None x.rows)) (sym later) (found_has (λ (x : OldPhone). AreAppended None x.rows) E2019 key c.args.old.now c.requires.rows)

pub returns-in_err-moved : goal.returns-in_err-moved
returns-in_err-moved c =
    let inv = c.loop-digits.invariant.2 in
    let key = c.in-Some.digits.now in
    let p = c.in-Some.places.now in
    let front = rest_more deref_pair c.loop-digits.digits-iterator c.next.new.self c.next.result (c.in-Some.digits, c.in-Some.places) c.in-Some.is c.next.ensures.steps in
    let m = subst (IsMoving c.args.limit c.args.old.now inv.0 c.loop-digits.new) front inv.2 in
    let e = c.in_err-moved.field-0.0 in
    let earlier = c.phone_at.ensures ∙ ap (λ xs. standing xs p.earlier) c.as_slice-phones.ensures in
    let later = c.phone_at-in-loop-digits.ensures ∙ ap (λ xs. standing xs p.later) c.as_slice-phones.ensures in
    let moves = subst (λ o. Moves c.args.limit key o (standing c.args.old.now p.later) (Err e)) earlier (subst (λ o. Moves c.args.limit key (option_copied c.phone_at.result) o (Err e)) later c.in_err-moved.ensures.answer) in
    let q = err_from_is_err_and c.from_residual-in_err-moved.result c.from_residual-in_err-moved.ensures.1 in
    record { answer = rw (q.1, q.2) (moving_fails c.args.limit c.args.old.now inv.0 c.next.new.self c.loop-digits.new key p e inv.1 m moves) }

pub loop-digits-preserved : goal.loop-digits-preserved
loop-digits-preserved c =
    let inv = c.loop-digits.invariant.2 in
    let key = c.in-Some.digits.now in
    let p = c.in-Some.places.now in
    let front = rest_more deref_pair c.loop-digits.digits-iterator c.next.new.self c.next.result (c.in-Some.digits, c.in-Some.places) c.in-Some.is c.next.ensures.steps in
    let m = subst (IsMoving c.args.limit c.args.old.now inv.0 c.loop-digits.new) front inv.2 in
    let n = c.in_ok-moved.moved in
    let earlier = c.phone_at.ensures ∙ ap (λ xs. standing xs p.earlier) c.as_slice-phones.ensures in
    let later = c.phone_at-in-loop-digits.ensures ∙ ap (λ xs. standing xs p.later) c.as_slice-phones.ensures in
    let moves = subst (λ o. Moves c.args.limit key o (standing c.args.old.now p.later) (Ok n)) earlier (subst (λ o. Moves c.args.limit key (option_copied c.phone_at.result) o (Ok n)) later c.in_ok-moved.ensures.answer) in
    let more = moving_on c.args.limit c.args.old.now inv.0 c.next.new.self c.loop-digits.new key p n inv.1 m moves in
    (tt, tt, (inv.0, inv.1, subst (λ xs. IsMoving c.args.limit c.args.old.now inv.0 xs c.next.new.self) (sym c.in_ok-push.ensures.ok) more))

pub returns : goal.returns
returns c =
    let inv = c.loop-digits.invariant.2 in
    let none = rest_all deref_pair c.loop-digits.digits-iterator c.next.new.self c.next.result c.in-None.is c.next.ensures.steps in
    record { answer = moving_ends c.args.limit c.args.old.now inv.0 c.loop-digits.new inv.1 (subst (IsMoving c.args.limit c.args.old.now inv.0 c.loop-digits.new) none inv.2) }
