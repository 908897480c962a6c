use Rattle.std.proofs.Common.{sym, ◌∙◌}
use Rattle.jt_fence_command.proofs.Hearing.{hears_bad, hears_change, hears_fix, hears_passed}
use Rattle.jt_fence_command.proofs.alarm_tally.AlarmTallyHearer.hear.Goals as goal
use Rattle.jt_fence_command.proofs.alarm_tally.AlarmTallyHearer.hear.Goals.{in-Circles-1, in-Rectangles-1, in-Polygon-1, in-Route-1, in-Delete-1}

pub returns-in-Passed-clause-hears : goal.returns-in-Passed-clause-hears
returns-in-Passed-clause-hears c = hears_passed _ _ _ _ c.requires.within (sym c.in-Passed.is ∙ c.in_ok-fence_line.ensures.says)

pub returns-in_ok-take-in-Fix-clause-hears : goal.returns-in_ok-take-in-Fix-clause-hears
returns-in_ok-take-in-Fix-clause-hears c =
    let done = c.in_ok-take-in-Fix.ensures in
    hears_fix _ _ _ _ _ _ c.in-Fix.fixed c.requires.within (sym c.in-Fix.is ∙ c.in_ok-fence_line.ensures.says) done.tally done.text

pub returns-in-Change-clause-hears : goal.returns-in-Change-clause-hears
returns-in-Change-clause-hears c =
    let did = hears_change c.change.result c.args.self.now c.change.new.self c.args._number c.args.line.now _ c.in-Change.change c.requires.within
    (sym c.in-Change.is ∙ c.in_ok-fence_line.ensures.says) c.change.ensures in
    elim c.match-change.branch [
      | in-Circles-1 w ↦ did
      | in-Rectangles-1 w ↦ did
      | in-Polygon-1 w ↦ did
      | in-Route-1 w ↦ did
      | in-Delete-1 w ↦ did
    ]

pub returns-in-Bad-clause-hears : goal.returns-in-Bad-clause-hears
returns-in-Bad-clause-hears c = hears_bad _ _ _ _ c.requires.within (sym c.in-Bad.is ∙ c.in_ok-fence_line.ensures.says)
