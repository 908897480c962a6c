use Rattle.std.proofs.Common.{◌≡◌, ◌≤◌, ◌+◌, false, not, nat_eq, filter, arith, sym, ap, refl}
use Rattle.std.specs.Str.{bytes_eq}
use Rattle.std.proofs.lemmas.Slice.Eq.{bytes_eq-Decides}
use Rattle.dewfelt_board.specs.declared.stranger.Stranger.{Stranger}
use Rattle.dewfelt_board.specs.Strangers.{count_from}
use Rattle.dewfelt_board.proofs.Counted.{count_filter_found, count_none}
use Rattle.dewfelt_board.proofs.strangers.Strangers.make_room_of.Goals as goal

pub returns-in-Some-clause-room : goal.returns-in-Some-clause-room
returns-in-Some-clause-room c =
    let dropped : not (bytes_eq c.in-Some.oldest.digits c.in-Some.oldest.digits) ≡ false
    = ap not ((bytes_eq-Decides c.in-Some.oldest.digits c.in-Some.oldest.digits).1 refl) in
    let fewer : count_from c.args.address (filter (λ (it : Stranger). not (bytes_eq it.digits c.in-Some.oldest.digits)) c.args.self.now.list.items) + 1 ≤ count_from c.args.address c.args.self.now.list.items
    = count_filter_found (λ (it : Stranger). nat_eq it.address c.args.address) (λ (it : Stranger). not (bytes_eq it.digits c.in-Some.oldest.digits)) c.in-Some.oldest c.args.self.now.list.items (sym c.in-Some.ensures) dropped in
    let same : count_from c.args.address c.forget.new.self.list.items ≡ count_from c.args.address (filter (λ (it : Stranger). not (bytes_eq it.digits c.in-Some.oldest.digits)) c.args.self.now.list.items)
    = ap (count_from c.args.address) c.forget.ensures in
    let most : count_from c.args.address c.args.self.now.list.items ≤ 5 = c.args.self.now.most_of_address c.args.address in
    omega arith

pub returns-in-None-clause-room : goal.returns-in-None-clause-room
returns-in-None-clause-room c =
    let none : count_from c.args.address c.args.self.now.list.items ≡ 0
    = count_none (λ (it : Stranger). nat_eq it.address c.args.address) c.args.self.now.list.items (sym c.in-None.ensures) in
    omega arith
