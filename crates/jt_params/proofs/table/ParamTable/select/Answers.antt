use Rattle.std.proofs.Common.{length, sym, subst, ap, ◌∙◌, arith}
use Rattle.std.proofs.lemmas.List.{take_all}
use Rattle.jt_params.specs.Tables.{HaveOctets, selected}
use Rattle.jt_params.proofs.TableLaws.{selected_fit, selected_short}
use Rattle.jt_params.proofs.table.ParamTable.select.Goals as goal

pub returns-clause-few : goal.returns-clause-few
returns-clause-few c =
    let all = take_all c.loop-id.id-index c.args.ids.now (omega (arith, ap length c.as_slice-id-items.ensures)) in
    rw (c.loop-id.invariant ∙ ap (selected c.args.self.now) all) (selected_short c.args.self.now c.args.ids.now)

pub returns-clause-octets : goal.returns-clause-octets
returns-clause-octets c has =
    let all = take_all c.loop-id.id-index c.args.ids.now (omega (arith, ap length c.as_slice-id-items.ensures)) in
    subst HaveOctets (sym (c.loop-id.invariant ∙ ap (selected c.args.self.now) all)) (selected_fit c.args.self.now c.args.ids.now has)
