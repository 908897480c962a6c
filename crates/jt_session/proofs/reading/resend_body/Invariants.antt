use Rattle.std.proofs.Common.{◌≡◌, ◌≤◌, ◌+◌, ◌*◌, ◌++◌, length, take}
use Rattle.std.specs.List.{flat_map}
use Rattle.jt_layout.specs.Layout.{word}
use Rattle.jt_session.proofs.reading.resend_body.Given as goal

abbrev pub invariant-loop-number : goal.invariant-loop-number
invariant-loop-number l = record {
  items : l.body.items ≡ l.initial.body.items ++ flat_map word.spell (take l.number-index l.missing);
  len : length l.body.items ≤ 4 + 2 * l.number-index;
}
