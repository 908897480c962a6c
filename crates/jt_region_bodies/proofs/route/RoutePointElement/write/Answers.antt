use Rattle.std.proofs.Transfers.{starts_with_trans}
use Rattle.jt_region_bodies.proofs.Kept.{after}
use Rattle.jt_region_bodies.proofs.route.RoutePointElement.write.Goals as goal

pub returns-in_err-write_thresholds-clause-kept : goal.returns-in_err-write_thresholds-clause-kept
returns-in_err-write_thresholds-clause-kept c = after _ _ _ _ c.in_ok-dword.ensures.ok (after _ _ _ _ c.in_ok-dword-2.ensures.ok (after _ _ _ _ c.in_ok-dword-3.ensures.ok (after _ _ _ _ c.in_ok-dword-4.ensures.ok (after _ _ _ _ c.in_ok-byte.ensures.ok (after _ _ _ _ c.in_ok-byte-2.ensures.ok c.write_thresholds.ensures.kept)))))

pub returns-clause-kept : goal.returns-clause-kept
returns-clause-kept c = after _ _ _ _ c.in_ok-dword.ensures.ok (after _ _ _ _ c.in_ok-dword-2.ensures.ok (after _ _ _ _ c.in_ok-dword-3.ensures.ok (after _ _ _ _ c.in_ok-dword-4.ensures.ok (after _ _ _ _ c.in_ok-byte.ensures.ok (after _ _ _ _ c.in_ok-byte-2.ensures.ok (starts_with_trans _ _ _ c.write_limit.ensures.kept c.write_thresholds.ensures.kept))))))
