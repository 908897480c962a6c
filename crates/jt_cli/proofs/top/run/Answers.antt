use Rattle.std.proofs.Common.{map, string_bytes, ap}
use Rattle.jt_cli.proofs.Asking.{links_asked, nothing_along}
use Rattle.jt_cli.proofs.Runs.{did, refused, gave_up}
use Rattle.jt_cli.proofs.top.run.Goals as goal

pub returns-in-Act-clause-ran : goal.returns-in-Act-clause-ran
returns-in-Act-clause-ran g c = did _ _ _ _ _ _ _ (ap (map string_bytes) c.as_slice.ensures.value) c.in-Act.ensures c.run_task.ensures.does

pub returns-in-Report-clause-ran : goal.returns-in-Report-clause-ran
returns-in-Report-clause-ran g c = did _ _ _ _ _ _ _ (ap (map string_bytes) c.as_slice.ensures.value) c.in-Report.ensures c.run_report.ensures.does

pub returns-in-Platform-clause-ran : goal.returns-in-Platform-clause-ran
returns-in-Platform-clause-ran g c = did _ _ _ _ _ _ _ (ap (map string_bytes) c.as_slice.ensures.value) c.in-Platform.ensures c.run_platform.ensures.does

pub returns-in-Relay-clause-ran : goal.returns-in-Relay-clause-ran
returns-in-Relay-clause-ran g c = did _ _ _ _ _ _ _ (ap (map string_bytes) c.as_slice.ensures.value) c.in-Relay.ensures c.run_relay.ensures.does

pub returns-in-Nothing-clause-ran : goal.returns-in-Nothing-clause-ran
returns-in-Nothing-clause-ran g c = refused _ _ _ _ _ _ (ap (map string_bytes) c.as_slice.ensures.value) c.in-Nothing.ensures c.refuse.ensures.does

pub returns-in-Unread-clause-ran : goal.returns-in-Unread-clause-ran
returns-in-Unread-clause-ran g c = gave_up _ _ _ _ _ _ (ap (map string_bytes) c.as_slice.ensures.value) c.give_up.ensures c.in-Unread.ensures c.law_without_memory.ensures

pub returns-in-Nothing-clause-usage : goal.returns-in-Nothing-clause-usage
returns-in-Nothing-clause-usage g c = λ usage. nothing_along _ _ (ap (map string_bytes) c.as_slice.ensures.value) c.in-Nothing.ensures

pub returns-in-Platform-clause-write_still : goal.returns-in-Platform-clause-write_still
returns-in-Platform-clause-write_still g c = λ other. links_asked _ _ _ _ (ap (map string_bytes) c.as_slice.ensures.value) c.in-Platform.ensures (c.run_platform.ensures.write_still other)
