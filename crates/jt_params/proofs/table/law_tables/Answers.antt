use Rattle.jt_params.proofs.TableLaws.{one_table}
use Rattle.jt_params.proofs.table.law_tables.Goals as goal

pub returns : goal.returns
returns c = one_table
