use Rattle.std.proofs.Common.{append_assoc}
use Rattle.jt_layout.specs.Layout.{octets_of}
use Rattle.jt_position.specs.Positions.{fixed}
use Rattle.jt_position.proofs.fixed.Fixed.write.Goals as goal

pub returns-clause-octets : goal.returns-clause-octets
unfolding fixed octets_of
returns-clause-octets c =
    rw (c.in_ok-octets.ensures.ok, c.in_ok-word-3.ensures.ok, c.in_ok-word-2.ensures.ok, c.in_ok-word.ensures.ok, c.in_ok-dword-4.ensures.ok, c.in_ok-dword-3.ensures.ok, c.in_ok-dword-2.ensures.ok, c.in_ok-dword.ensures.ok)
    (simp append_assoc)
