use Rattle.std.proofs.Common.{◌≡◌, ◌∙◌, ap, Some}
use Rattle.jt_store.specs.Memory.{under}
use Rattle.jt_store.specs.Places.{with_row_place}
use Rattle.jt_store.proofs.Pairs.{found, updated}
use Rattle.jt_store.proofs.Placing.{noted_there}
use Rattle.jt_store.proofs.migrating.note.Goals as goal

pub returns : goal.returns
returns c = λ q.
    let here : c.copied.result ≡ under c.args.places.now.entries c.args.phone.now.digits = c.copied.ensures ∙ c.get.ensures.value ∙ found c.args.places.now.entries c.args.phone.now.digits in
    noted_there c.args.phone.now.digits q (under c.args.places.now.entries) c.args.phone.now.edition c.args.place c.with_place-now.result (c.with_place-now.ensures ∙ ap (λ o. with_row_place o c.args.phone.now.edition c.args.place) here)
    (under c.insert.new.self.entries q) (updated c.args.phone.now.digits c.args.places.now c.insert.new.self (Some c.with_place-now.result) c.in_ok-insert.ensures.updates q)
