use Rattle.std.proofs.Common.{◌≡◌, ◌≤◌, ◌+◌, ◌-◌, ◌++◌, length, map, reverse}
use Rattle.std.specs.Prelude.{option_map, IfSome}
use Rattle.jt_outside.specs.Link.{wire_of}
use Rattle.jt_outside.specs.Pool.{used_of}
use Rattle.jt_server.proofs.threads.give_back.Given as goal

abbrev pub invariant-loop-back : goal.invariant-loop-back
invariant-loop-back g l = record {
  reports : l.reports.items ++ reverse (map (λ b. b.report) l.links.items) ≡ l.fn.reports.items ++ reverse (map (λ b. b.report) l.fn.links.items);
  few : length l.links.items ≤ length l.fn.links.items;
  room : length l.links.items ≤ l.reports.spare;
  coming : (g.L.Listen.pool l.listen).coming ≡ (g.L.Listen.pool l.fn.listen).coming;
  back :
      option_map (λ back. back ++ map used_of (reverse (map (λ b. wire_of g.L.Link.Sink.inbound g.L.Link.Sink.written g.L.Link.Sink.faults b.link) l.links.items))) (g.L.Listen.pool l.listen).back
      ≡ option_map (λ back. back ++ map used_of (reverse (map (λ b. wire_of g.L.Link.Sink.inbound g.L.Link.Sink.written g.L.Link.Sink.faults b.link) l.fn.links.items))) (g.L.Listen.pool l.fn.listen).back;
  lent : option_map (λ lent. lent - length l.links.items) (g.L.Listen.pool l.listen).lent ≡ option_map (λ lent. lent - length l.fn.links.items) (g.L.Listen.pool l.fn.listen).lent;
  enough : IfSome (g.L.Listen.pool l.listen).lent (λ lent. length l.links.items ≤ lent);
  count : g.L.Listen.faults l.listen ≡ g.L.Listen.faults l.fn.listen;
}

abbrev pub decreases-loop-back : goal.decreases-loop-back
decreases-loop-back g l = length l.links.items
