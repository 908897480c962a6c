use Rattle.std.proofs.Common.{List, ℕ, string_bytes, subst, sym, ◌∙◌}
use Rattle.jt_world.specs.Made.{made}
use Rattle.jt_world.specs.Making.{HasEnded}
use Rattle.jt_world.proofs.Made.{all_said, makes, no_read_fault, no_write_fault}
use Rattle.jt_world.proofs.making.Making.write_last.Goals as goal

pub returns-in-Ok-clause-makes : goal.returns-in-Ok-clause-makes
returns-in-Ok-clause-makes g c =
    let whole = made c.args.count in
    let ended = c.in-Ok.ensures whole (all_said c.args.self.now c.play.new.self c.args.count c.requires c.play.ensures) in
    makes c.law_world.ensures.whole c.args.count c.finish.new.self.world c.as_bytes.result.now c.in-Ok.ended c.write.result _ _
    (subst (λ (t : List ℕ). HasEnded c.finish.new.self.world t c.in-Ok.ended whole) (sym c.as_bytes.ensures.value) ended) c.write.ensures.writes

pub returns-in-Ok-clause-write_fault : goal.returns-in-Ok-clause-write_fault
returns-in-Ok-clause-write_fault g c = λ is.
    let whole = made c.args.count in
    let ended = c.in-Ok.ensures whole (all_said c.args.self.now c.play.new.self c.args.count c.requires c.play.ensures) in
    c.write.ensures.write_fault (λ same. no_write_fault c.finish.new.self.world (string_bytes c.finish.new.self.text) c.in-Ok.ended whole ended (sym same ∙ is))

pub returns-in-Ok-clause-no_read_fault : goal.returns-in-Ok-clause-no_read_fault
returns-in-Ok-clause-no_read_fault g c =
    let whole = made c.args.count in
    let ended = c.in-Ok.ensures whole (all_said c.args.self.now c.play.new.self c.args.count c.requires c.play.ensures) in
    no_read_fault c.finish.new.self.world (string_bytes c.finish.new.self.text) c.in-Ok.ended c.write.result whole ended c.write.ensures.result
