use Rattle.std.proofs.Common.{[], ◌∷◌, ◌++◌, take, sym, ap, ◌∙◌, arith}
use Rattle.std.proofs.lemmas.List.{take_more}
use Rattle.std.specs.BTreeMap as tree
use Rattle.std.specs.Option.{is_some}
use Rattle.std.specs.Ordering.{nat_cmp}
use Rattle.jt_params.specs.declared.param.Param.{Param}
use Rattle.jt_value.proofs.FiniteMaps.{size_more}
use Rattle.jt_params.proofs.TableLaws.{set_more}
use Rattle.jt_params.proofs.table.set_in.Goals as goal

pub loop-param-preserved : goal.loop-param-preserved
loop-param-preserved c =
    let front = take c.loop-param.param-index c.args.params.now in
    let more = take_more c.args.params.now c.loop-param.param-index c.param-item.result (omega arith) ∙ ap (λ (p : Param). front ++ p ∷ []) (sym c.param-item.is) in
    record {
      values = λ id. rw more (set_more front c.param-item.result c.in_ok-clone.field-0 id
          (tree.get nat_cmp c.args.values.now id) (tree.get nat_cmp c.loop-param.values id) (tree.get nat_cmp c.insert.new.self id)
          c.in_ok-clone.ensures.cases (c.in_ok-insert.ensures.updates.0 id) (c.loop-param.invariant.values id));
      size = size_more (is_some c.in_ok-insert.field-0) _ _ _ _ c.in_ok-insert.ensures.len c.loop-param.invariant.size;
    }
