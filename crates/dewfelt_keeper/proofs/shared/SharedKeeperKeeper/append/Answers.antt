use Rattle.std.proofs.Common.{length, None, subst}
use Rattle.jt_value.specs.Sameness.{key_of}
use Rattle.jt_store.specs.Tables.{Tables, WritesWithin}
use Rattle.dewfelt_keeper.specs.Shared.{SharedValue}
use Rattle.dewfelt_keeper.proofs.shared.SharedKeeperKeeper.append.Goals as goal

pub returns-clause-answer : goal.returns-clause-answer
returns-clause-answer g c =
    subst (λ (s : SharedValue). WritesWithin s.limit (λ (t : Tables). length (t.rows (key_of c.args.phone.now))) None None None c.added.result) c.self.view_is
    (c.added.ensures.tables (key_of c.args.phone.now))
