use Rattle.std.proofs.Common.{Some}
use Rattle.jt_value.specs.Sameness.{key_of}
use Rattle.jt_store.specs.Memory.{tables_of}
use Rattle.store_tests.proofs.Calling.{may_append}
use Rattle.word_tests.proofs.rows.put_row.Goals as goal

pub append-requires : goal.append-requires
append-requires c =
    may_append (Some (tables_of c.args.keeper.now)) (Some (tables_of c.last.new.self)) (key_of c.args.phone.now) c.in_ok-last.last c.args.number
    c.in_ok-last.ensures.answer.0 c.in_ok-last.ensures.answer.1 (c.may_follow.ensures c.if-not-may_follow.false)
