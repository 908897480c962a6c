use Rattle.std.proofs.Common.{sym, ◌∙◌, arith}
use Rattle.std.specs.FinMap.{from_entries}
use Rattle.jt_value.proofs.FiniteMaps.{len_is}
use Rattle.jt_params.proofs.TableLaws.{sets_of, sets_fit}
use Rattle.jt_params.proofs.table.ParamTable.set_all.Goals as goal

pub returns-then-count-gt-OCTET_COUNT_LIMIT-clause-too_many : goal.returns-then-count-gt-OCTET_COUNT_LIMIT-clause-too_many
returns-then-count-gt-OCTET_COUNT_LIMIT-clause-too_many c = (
  from_entries c.set_in.new.values.entries,
  sets_of c.as_slice.result.now c.args.params.now c.args.self.now c.self.inside.values.entries c.in_ok-values.values.entries c.set_in.new.values.entries c.as_slice.ensures c.self.view_is c.in_ok-values.ensures.cases c.in_ok-set_in.ensures.values,
  c.len-count.ensures.len ∙ sym (len_is c.set_in.new.values.entries c.len-count.ensures.ordered),
  omega arith,
)

pub returns-clause-ok : goal.returns-clause-ok
returns-clause-ok c = sets_of c.as_slice.result.now c.args.params.now c.args.self.now c.self.inside.values.entries c.in_ok-values.values.entries c.set_in.new.values.entries c.as_slice.ensures c.self.view_is c.in_ok-values.ensures.cases c.in_ok-set_in.ensures.values

pub returns-clause-few : goal.returns-clause-few
returns-clause-few c = omega (arith, len_is c.set_in.new.values.entries c.len-count.ensures.ordered, c.len-count.ensures.len)

pub returns-clause-octets : goal.returns-clause-octets
returns-clause-octets c = sets_fit c.args.params.now c.args.self.now (from_entries c.set_in.new.values.entries) (returns-clause-ok c)
