use Rattle.std.proofs.Common.{◌≡◌, ◌++◌, string_bytes, take}
use Rattle.jt_fence_command.specs.AlarmText.{alarm_lines}
use Rattle.jt_fence_command.proofs.alarm_text.push_alarm_lines.Given as goal

abbrev pub invariant-loop-alarm : goal.invariant-loop-alarm
invariant-loop-alarm l = string_bytes l.text ≡ string_bytes l.fn.text ++ alarm_lines l.fn.number (take l.alarm-index l.alarms)
