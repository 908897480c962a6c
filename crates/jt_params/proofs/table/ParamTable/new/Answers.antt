use Rattle.std.proofs.Common.{rules, ◌≡◌, sym, subst}
use Rattle.std.specs.FinMap.{from_entries, empty}
use Rattle.jt_params.specs.Tables.{HasOctets, Table}
use Rattle.jt_params.proofs.TableLaws.{empty_fits}
use Rattle.jt_params.proofs.table.ParamTable.new.Goals as goal

pub returns-clause-octets : goal.returns-clause-octets
returns-clause-octets c =
    let none : ◌≡◌ {A = Table} (from_entries c.new.result.entries) empty = search rules in
    subst HasOctets (sym none) empty_fits
