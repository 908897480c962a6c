use Rattle.std.proofs.Common.{rules, ◌≡◌, ℕ, ◌≤◌, not, nat_eq, filter, arith}
use Rattle.std.specs.Str.{bytes_eq}
use Rattle.std.proofs.lemmas.Fn.{filter_same}
use Rattle.dewfelt_board.specs.declared.stranger.Stranger.{Stranger}
use Rattle.dewfelt_board.specs.Strangers.{count_from}
use Rattle.dewfelt_board.proofs.Counted.{count_filter}
use Rattle.dewfelt_board.proofs.strangers.Strangers.forget.Goals as goal

pub returns : goal.returns
returns c = filter_same _ _ _ (λ x b f' k. search rules) _ _ c.retain.ensures.filtered

pub invariant_of-self : goal.invariant_of-self
invariant_of-self c =
    let left : c.retain.new.self.items ≡ filter (λ (it : Stranger). not (bytes_eq it.digits c.args.digits.now)) c.args.self.now.list.items
    = filter_same _ _ _ (λ x b f' k. search rules) _ _ c.retain.ensures.filtered in
    record {
      most = omega arith;
      most_of_address = λ (address : ℕ).
          let fewer : count_from address (filter (λ (it : Stranger). not (bytes_eq it.digits c.args.digits.now)) c.args.self.now.list.items) ≤ count_from address c.args.self.now.list.items
          = count_filter (λ (it : Stranger). nat_eq it.address address) (λ (it : Stranger). not (bytes_eq it.digits c.args.digits.now)) c.args.self.now.list.items in
          let before : count_from address c.args.self.now.list.items ≤ 5 = c.args.self.now.most_of_address address in
          rw left (omega arith);
    }
