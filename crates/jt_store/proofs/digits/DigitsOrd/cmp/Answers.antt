use Rattle.std.proofs.Common.{ap, sym, rules, ◌∙◌, ◌++◌}
use Rattle.std.specs.Int.{bytes_high_first}
use Rattle.std.specs.Cmp.Lexicographic.{slice_cmp}
use Rattle.std.specs.Ordering.{nat_cmp, ordering_then}
use Rattle.jt_store.proofs.Numbers.{two_in_order}
use Rattle.jt_store.proofs.digits.DigitsOrd.cmp.Goals as goal

pub returns : goal.returns
returns c =
    c.then.ensures ∙ ap (λ o. ordering_then o c.cmp-2.result) c.cmp.ensures ∙ ap (ordering_then (nat_cmp c.self.inside.front c.other.inside.front)) c.cmp-2.ensures
    ∙ sym (two_in_order c.self.inside.front c.other.inside.front c.self.inside.back c.other.inside.back (search rules) (search rules) (search rules) (search rules))
    ∙ ap (λ x. slice_cmp nat_cmp x (bytes_high_first 8 c.other.inside.front ++ bytes_high_first 2 c.other.inside.back)) c.self.view_is ∙ ap (slice_cmp nat_cmp c.args.self.now) c.other.view_is
