use Rattle.std.proofs.Common.{◌≡◌, ◌≤◌, ◌+◌, false, not, nat_eq, filter, length, arith, sym, ◌∙◌, ap, refl}
use Rattle.std.specs.Str.{bytes_eq}
use Rattle.std.proofs.lemmas.Slice.Eq.{bytes_eq-Decides}
use Rattle.dewfelt_board.specs.declared.stranger.Stranger.{Stranger}
use Rattle.dewfelt_board.proofs.Counted.{count_filter, length_filter_first, length_none}
use Rattle.dewfelt_board.proofs.strangers.Strangers.make_room.Goals as goal

pub returns-in-Some-clause-room : goal.returns-in-Some-clause-room
returns-in-Some-clause-room c =
    let dropped : not (bytes_eq c.in-Some.oldest.digits c.in-Some.oldest.digits) ≡ false
    = ap not ((bytes_eq-Decides c.in-Some.oldest.digits c.in-Some.oldest.digits).1 refl) in
    let shorter : length (filter (λ (it : Stranger). not (bytes_eq it.digits c.in-Some.oldest.digits)) c.args.self.now.list.items) + 1 ≤ length c.args.self.now.list.items
    = length_filter_first (λ (it : Stranger). not (bytes_eq it.digits c.in-Some.oldest.digits)) c.in-Some.oldest c.args.self.now.list.items (sym c.in-Some.ensures) dropped in
    let same : length c.forget.new.self.list.items ≡ length (filter (λ (it : Stranger). not (bytes_eq it.digits c.in-Some.oldest.digits)) c.args.self.now.list.items)
    = ap length c.forget.ensures in
    let most : length c.args.self.now.list.items ≤ 100 = c.args.self.now.most in
    omega arith

pub returns-in-Some-clause-fewer : goal.returns-in-Some-clause-fewer
returns-in-Some-clause-fewer c = λ address.
    rw c.forget.ensures (count_filter (λ (it : Stranger). nat_eq it.address address) (λ (it : Stranger). not (bytes_eq it.digits c.in-Some.oldest.digits)) c.args.self.now.list.items)

pub returns-in-None-clause-room : goal.returns-in-None-clause-room
returns-in-None-clause-room c =
    let none : length c.args.self.now.list.items ≡ 0 = length_none c.args.self.now.list.items (sym c.oldest.ensures ∙ c.in-None.is) in
    omega arith
