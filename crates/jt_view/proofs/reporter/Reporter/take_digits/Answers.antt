use Rattle.std.proofs.Common.{refl}
use Rattle.jt_view.proofs.InputTaken.{takes_last, takes_on, takes_wrong, decodes_digits, reads_digits}
use Rattle.jt_view.proofs.reporter.Reporter.take_digits.Goals as goal

pub returns-then-branch-clause-takes : goal.returns-then-branch-clause-takes
returns-then-branch-clause-takes c =
    let tells = rw c.if-branch.true at c.in_ok-tell.ensures.tells in
    takes_last c.law_all_items.ensures.front c.law_octets_of_front.ensures _ _ c.read.new.octets.items _ _
    (decodes_digits _ _ _ _ c.requires.command c.clear.ensures.items c.in_ok-wrong.ensures.octets)
    (rw c.as_slice.ensures.value at tells)

pub returns-in_ok-status-in-Some-clause-takes : goal.returns-in_ok-status-in-Some-clause-takes
returns-in_ok-status-in-Some-clause-takes c =
    let tells = rw c.if-branch.false at c.in_ok-tell.ensures.tells in
    let wrong = rw c.in-Some.is at c.in_ok-wrong.ensures.wrong in
    takes_wrong c.law_wrong_stays.ensures.place c.law_wrong_stays.ensures.digits _ _ _ c.read.new.octets.items _ _ _ c.in-Some.index _ c.requires.command
    (decodes_digits _ _ _ _ c.requires.command c.clear.ensures.items c.in_ok-wrong.ensures.octets)
    wrong
    (rw c.as_slice.ensures.value at tells)
    c.in_ok-status-in-Some.ensures.closes

pub returns-in-None-clause-takes : goal.returns-in-None-clause-takes
returns-in-None-clause-takes c =
    let tells = rw c.if-branch.false at c.in_ok-tell.ensures.tells in
    takes_on _ _ _ c.read.new.octets.items _ _
    (decodes_digits _ _ _ _ c.requires.command c.clear.ensures.items c.in_ok-wrong.ensures.octets)
    (rw c.as_slice.ensures.value at tells)
    refl refl
    (λ seen stands. rw c.requires.command (c.in_ok-wrong.ensures.right c.in-None.is seen (reads_digits _ seen c.requires.command stands)))
