use Rattle.std.proofs.Common.{ap, sym, subst, length, Some, ◌∙◌, ◌<◌}
use Rattle.jt_value.specs.Sameness.{key_of}
use Rattle.jt_store.specs.declared.row.Row.{Row}
use Rattle.jt_store.specs.Memory.{KeeperState, list_under, tables_of, under}
use Rattle.jt_store.specs.Tables.{MayAppend, last_of, row_added}
use Rattle.jt_store.proofs.Rising.{all_rows-push, more_tables, room_left, same_tables}
use Rattle.jt_store.proofs.mem_keeper.MemKeeperKeeper.append.Goals as goal

room : (c : goal.In-Ok) → length (list_under c.self.inside.rows (key_of c.args.phone.now)) < c.self.inside.limit
room c = room_left (length c.rows_of.result.now) c.self.inside.limit (list_under c.self.inside.rows (key_of c.args.phone.now)) (ap length c.rows_of.ensures) (c.self.invariant.1 (key_of c.args.phone.now)) c.if-rows_of-self.false

may : (c : goal.In-Ok) → MayAppend (last_of (list_under c.self.inside.rows (key_of c.args.phone.now))) c.in_ok-copy.copy.number
may c =
    let here = subst (λ (k : KeeperState). MayAppend (last_of (list_under k.rows (key_of c.args.phone.now))) c.args.row.now.number) (sym c.self.view_is) c.requires in
    subst (λ (r : Row). MayAppend (last_of (list_under c.self.inside.rows (key_of c.args.phone.now))) r.number) (sym c.in_ok-copy.ensures) here

pub invariant_of-self-2 : goal.invariant_of-self-2
invariant_of-self-2 c =
    (c.self.invariant.0, all_rows-push c.self.inside.limit c.self.inside.rows c.push.new.self (key_of c.args.phone.now) c.in_ok-copy.copy c.self.invariant.1 (may c) (room c) c.in-Ok.ensures.ok)

pub returns-clause-answer : goal.returns-clause-answer
returns-clause-answer c =
    let key = key_of c.args.phone.now in (
      more_tables c.self.inside.registry c.self.inside.rows c.push.new.self key c.in_ok-copy.copy c.in-Ok.ensures.ok
          ∙ ap (λ (r : Row). row_added key r (Some (record { registered = under c.self.inside.registry; rows = list_under c.self.inside.rows }))) c.in_ok-copy.ensures
          ∙ ap (λ (k : KeeperState). row_added key c.args.row.now (Some (tables_of k))) c.self.view_is,
      subst (λ (k : KeeperState). length (list_under k.rows key) < k.limit) c.self.view_is (room c),
    )

pub returns-in-Err-clause-answer : goal.returns-in-Err-clause-answer
returns-in-Err-clause-answer c =
    same_tables c.self.inside.registry c.self.inside.rows c.push.new.self c.in-Err.ensures.err ∙ ap (λ (k : KeeperState). Some (tables_of k)) c.self.view_is
