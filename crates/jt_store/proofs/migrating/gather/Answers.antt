use Rattle.std.proofs.Common.{◌≡◌, ◌<◌, ◌+◌, ◌∙◌, ◌++◌, ◌∷◌, [], ap, sym, length, take, arith, Some, cond}
use Rattle.std.proofs.lemmas.List.{take_more, length-take-le}
use Rattle.std.specs.Str.{bytes_eq}
use Rattle.jt_store.specs.declared.migrating.OldPhone.{OldPhone}
use Rattle.jt_store.specs.Places.{with_row_place, places_in}
use Rattle.jt_store.proofs.Placing.{places_push}
use Rattle.jt_store.proofs.migrating.gather.Goals as goal

pub loop-place-preserved : goal.loop-place-preserved
loop-place-preserved c = λ q.
    let i = c.loop-place.place in
    let old = c.args.old.now in
    let o = c.index-old-place.result in
    let lt : i < length old = c.loop-place-test.true in
    let more : take (i + 1) old ≡ take i old ++ o ∷ [] = take_more old i o lt ∙ ap (λ (x : OldPhone). take i old ++ x ∷ []) (sym c.index-old-place.is) in
    let count : length (take i old) ≡ i = length-take-le i old (omega arith) in
    c.in_ok-note.ensures q
    ∙ ap (λ p. cond (bytes_eq o.phone.digits q) (Some (with_row_place p o.phone.edition i)) p) (c.loop-place.invariant q)
    ∙ ap (λ n. cond (bytes_eq o.phone.digits q) (Some (with_row_place (places_in (take i old) q) o.phone.edition n)) (places_in (take i old) q)) (sym count)
    ∙ sym (places_push (take i old) o q)
    ∙ ap (λ xs. places_in xs q) (sym more)
