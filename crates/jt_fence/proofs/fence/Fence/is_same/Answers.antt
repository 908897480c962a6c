use Rattle.jt_fence.proofs.SameLaws.{test_of_same}
use Rattle.jt_fence.proofs.fence.Fence.is_same.Goals as goal

pub returns-clause-test : goal.returns-clause-test
returns-clause-test c = test_of_same c.args.self.now c.args.other.now c.is_equal.result c.is_equal.ensures
