use Rattle.std.proofs.Common.{◌∙◌, sym}
use Rattle.jt_terminal_steps.proofs.Keeping.{form_is_good, sound_formed}
use Rattle.jt_terminal_steps.proofs.window.form_unit.Goals as goal

pub say_unit-requires-clause-body : goal.say_unit-requires-clause-body
say_unit-requires-clause-body g c =
    (form_is_good c.law_fixes.ensures (g.V.Vault.holds c.args.vault.now) c.args.state.now c.in_ok-unit.unit c.in_ok-unit.ensures (sym c.has_serial.ensures ∙ c.if-not-has_serial.false) c.requires.sound).0.short

pub commit-requires-clause-unit : goal.commit-requires-clause-unit
commit-requires-clause-unit g c =
    (form_is_good c.law_fixes.ensures (g.V.Vault.holds c.args.vault.now) c.args.state.now c.in_ok-unit.unit c.in_ok-unit.ensures (sym c.has_serial.ensures ∙ c.if-not-has_serial.false) c.requires.sound).0

pub commit-requires-clause-may : goal.commit-requires-clause-may
commit-requires-clause-may g c =
    (form_is_good c.law_fixes.ensures (g.V.Vault.holds c.args.vault.now) c.args.state.now c.in_ok-unit.unit c.in_ok-unit.ensures (sym c.has_serial.ensures ∙ c.if-not-has_serial.false) c.requires.sound).1

pub returns-clause-sound : goal.returns-clause-sound
returns-clause-sound g c =
    rw (c.in_ok-commit.ensures.ok.0, c.one_sent.ensures, c.in_ok-commit.ensures.ok.1, c.drop_front.ensures)
    (sound_formed c.law_fixes.ensures (g.V.Vault.holds c.args.vault.now) c.args.state.now c.in_ok-unit.unit c.in_ok-unit.ensures (sym c.has_serial.ensures ∙ c.if-not-has_serial.false) c.requires.sound)
