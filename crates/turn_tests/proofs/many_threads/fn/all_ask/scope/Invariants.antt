use Rattle.std.proofs.Common.{◌≡◌, ◌<◌, length, map, []}
use Rattle.std.specs.Prelude.{All}
use Rattle.turn_tests.specs.Reports.{ended_of}
use Rattle.turn_tests.proofs.many_threads.fn.all_ask.scope.Given as goal

abbrev pub invariant-loop-number : goal.invariant-loop-number
invariant-loop-number g l = (l.pass.turn ≡ l.turn.now) × (l.pass.number ≡ 0) × (l.pass.given < l.number) × (l.pass.lent ≡ length l.children.items) × (l.pass.ended ≡ []) × All (λ c. c.promise.turn.value ≡ l.turn.now) l.children.items

abbrev pub invariant-loop-child : goal.invariant-loop-child
invariant-loop-child g l = (l.pass.turn ≡ l.turn.now) × (l.pass.number ≡ 0) × (l.pass.lent ≡ length l.children.items) × (l.pass.ended ≡ map ended_of l.reports.items) × All (λ c. c.promise.turn.value ≡ l.turn.now) l.children.items

abbrev pub decreases-loop-child : goal.decreases-loop-child
decreases-loop-child g l = length l.children.items
