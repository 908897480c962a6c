-- Serials of control messages.
use Rattle.std.proofs.Common.{ℕ, ◌≡◌, ◌<◌, ◌≤◌, ◌+◌, Bool, true, false, cond, refl, arith}
use Rattle.std.specs.Prelude.{nat_lt}
use Rattle.std.proofs.lemmas.Bool.{ltb-true}
use Rattle.jt_value.specs.Serials.{gap_of, serial_of}
use Rattle.jt_terminal_rule.specs.Law.{ControlKeepsTheLastPlace, PacketsKeepTheLastPlace}
use Rattle.jt_terminal_rule.proofs.Answering.{one_packet, packets_last_place}

moved_on : (mark next : ℕ) → mark < 65536 → next < 65536 → gap_of mark next < 32766 → gap_of mark (serial_of (next + 1)) ≤ 32766
moved_on mark next a b lt = omega arith

pub last_place : ControlKeepsTheLastPlace
last_place s small fits near = by_test (nat_lt (gap_of s.mark s.next) 32766) refl
  where
    by_test : (b : Bool) → nat_lt (gap_of s.mark s.next) 32766 ≡ b → gap_of s.mark (cond b (serial_of (s.next + 1)) s.next) ≤ 32766
    by_test true e = moved_on s.mark s.next small fits (ltb-true (gap_of s.mark s.next) 32766 e)
    by_test false e = near

pub packets_place : PacketsKeepTheLastPlace
packets_place = record { near = packets_last_place; one = one_packet }
