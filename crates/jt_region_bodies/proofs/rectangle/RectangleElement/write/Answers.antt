use Rattle.std.proofs.Common.{append_assoc}
use Rattle.std.proofs.Transfers.{starts_with_trans}
use Rattle.jt_region_bodies.specs.Regions.{rectangle}
use Rattle.jt_region_bodies.proofs.Kept.{after}
use Rattle.jt_region_bodies.proofs.rectangle.RectangleElement.write.Goals as goal

pub returns-clause-octets : goal.returns-clause-octets
unfolding rectangle
returns-clause-octets c =
    rw (c.in_ok-write_limit.ensures.octets, c.in_ok-write_times.ensures.octets, c.in_ok-dword-5.ensures.ok, c.in_ok-dword-4.ensures.ok, c.in_ok-dword-3.ensures.ok, c.in_ok-dword-2.ensures.ok, c.in_ok-word.ensures.ok, c.in_ok-dword.ensures.ok)
    (simp append_assoc)

pub returns-in_err-write_times-clause-kept : goal.returns-in_err-write_times-clause-kept
returns-in_err-write_times-clause-kept c = after _ _ _ _ c.in_ok-dword.ensures.ok (after _ _ _ _ c.in_ok-word.ensures.ok (after _ _ _ _ c.in_ok-dword-2.ensures.ok (after _ _ _ _ c.in_ok-dword-3.ensures.ok (after _ _ _ _ c.in_ok-dword-4.ensures.ok (after _ _ _ _ c.in_ok-dword-5.ensures.ok c.write_times.ensures.kept)))))

pub returns-clause-kept : goal.returns-clause-kept
returns-clause-kept c = after _ _ _ _ c.in_ok-dword.ensures.ok (after _ _ _ _ c.in_ok-word.ensures.ok (after _ _ _ _ c.in_ok-dword-2.ensures.ok (after _ _ _ _ c.in_ok-dword-3.ensures.ok (after _ _ _ _ c.in_ok-dword-4.ensures.ok (after _ _ _ _ c.in_ok-dword-5.ensures.ok (starts_with_trans _ _ _ c.write_limit.ensures.kept c.write_times.ensures.kept))))))

pub returns-in_err-write_limit-clause-kept : goal.returns-in_err-write_limit-clause-kept
returns-in_err-write_limit-clause-kept c = after _ _ _ _ c.in_ok-dword.ensures.ok (after _ _ _ _ c.in_ok-word.ensures.ok (after _ _ _ _ c.in_ok-dword-2.ensures.ok (after _ _ _ _ c.in_ok-dword-3.ensures.ok (after _ _ _ _ c.in_ok-dword-4.ensures.ok (after _ _ _ _ c.in_ok-dword-5.ensures.ok (starts_with_trans _ _ _ c.write_limit.ensures.kept c.write_times.ensures.kept))))))
