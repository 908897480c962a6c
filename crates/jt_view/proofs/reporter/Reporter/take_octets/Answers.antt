use Rattle.std.proofs.Common.{refl}
use Rattle.jt_view.proofs.InputTaken.{takes_last, takes_on}
use Rattle.jt_view.proofs.reporter.Reporter.take_octets.Goals as goal

pub returns-then-branch-clause-takes : goal.returns-then-branch-clause-takes
returns-then-branch-clause-takes c =
    takes_last c.law_all_items.ensures.front c.law_octets_of_front.ensures _ _ c.args.piece.now _ _
    (λ seen stands. rw c.requires.command refl)
    (rw c.if-branch.true at c.in_ok-tell.ensures.tells)

pub returns-else-branch-clause-takes : goal.returns-else-branch-clause-takes
returns-else-branch-clause-takes c =
    takes_on _ _ _ c.args.piece.now _ _
    (λ seen stands. rw c.requires.command refl)
    (rw c.if-branch.false at c.in_ok-tell.ensures.tells)
    refl refl
    (λ seen stands. rw c.requires.command tt)
