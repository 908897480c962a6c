use Rattle.std.proofs.Common.{sym}
use Rattle.jt_platform_command.specs.Platform.{some_end, is_memory}
use Rattle.jt_platform_command.proofs.Causes.{still_or_ended, store_when}
use Rattle.jt_platform_command.proofs.command.serve_fleet.Goals as goal

pub returns-clause-store_fault : goal.returns-clause-store_fault
returns-clause-store_fault g c e =
    let faults = c.serve-reports.ensures.faults in
    let parts = c.into_parts-keeper.ensures.parts in
    store_when c.serve-reports.result.end _ _ _ (some_end is_memory c.serve-reports.result.reports) _ (rw (c.as_slice.ensures) at c.tell_served-status.ensures.status) e (rw (sym parts.0) at faults)

pub returns-clause-write_still : goal.returns-clause-write_still
returns-clause-write_still g c = λ other. still_or_ended _ c.serve-reports.result.end _ _ _ _ _ _ _ c.as_slice.ensures (c.tell_served-status.ensures.write_still other) c.serve-reports.ensures.end
