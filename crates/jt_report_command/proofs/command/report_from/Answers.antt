use Rattle.std.proofs.Common.{◌≡◌}
use Rattle.jt_report_command.proofs.Runs.{runs_error, runs_noted}
use Rattle.jt_report_command.proofs.command.report_from.Goals as goal

pub returns-in-Ok-clause-runs : goal.returns-in-Ok-clause-runs
returns-in-Ok-clause-runs g c =
    runs_noted c.in-Ok.field-0 c.args.terminal.now.state c.note_fixes.new.terminal.state c.report_noted.new.terminal.state c.args.tries (g.S.Source.left c.args.source.now) (g.S.Source.left c.note_fixes.new.source)
    (g.V.Vault.holds c.args.terminal.now.vault) (g.V.Vault.holds c.note_fixes.new.terminal.vault) (g.V.Vault.holds c.report_noted.new.terminal.vault)
    (g.V.Vault.limit c.args.terminal.now.vault) (g.V.Vault.limit c.report_noted.new.terminal.vault)
    (g.V.Vault.faults c.args.terminal.now.vault) (g.V.Vault.faults c.note_fixes.new.terminal.vault) (g.V.Vault.faults c.report_noted.new.terminal.vault)
    (g.C.Clock.time c.args.clock.now) (g.C.Clock.time c.report_noted.new.clock) (g.D.Dial.pool c.args.dial.now) (g.D.Dial.pool c.report_noted.new.dial)
    (g.D.Dial.faults c.args.dial.now) (g.D.Dial.faults c.report_noted.new.dial) (g.K.Sink.written c.args.sink.now) (g.K.Sink.written c.report_noted.new.sink) c.report_noted.result
    c.in-Ok.ensures.vault c.in-Ok.ensures.notes c.report_noted.ensures.tells c.report_noted.ensures.no_read_fault

pub returns-in-Err-clause-runs : goal.returns-in-Err-clause-runs
returns-in-Err-clause-runs g c =
    runs_error {T = Unit {0}} c.in-Err.error (λ started. started ≡ c.args.terminal.now.state) c.args.tries (g.S.Source.left c.args.source.now) (g.S.Source.left c.note_fixes.new.source)
    c.args.terminal.now.state c.note_fixes.new.terminal.state (g.V.Vault.holds c.args.terminal.now.vault) (g.V.Vault.holds c.note_fixes.new.terminal.vault)
    (g.V.Vault.limit c.args.terminal.now.vault) (g.V.Vault.limit c.note_fixes.new.terminal.vault) (g.V.Vault.faults c.args.terminal.now.vault) (g.V.Vault.faults c.note_fixes.new.terminal.vault)
    (g.C.Clock.time c.args.clock.now) (g.D.Dial.pool c.args.dial.now) (g.D.Dial.faults c.args.dial.now) (g.K.Sink.written c.args.sink.now) (g.K.Sink.written c.tell_error.new.sink) c.tell_error.result
    c.in-Err.ensures.notes c.in-Err.ensures.vault_failed c.tell_error.ensures.answers c.tell_error.ensures.ends

pub returns-in-Err-clause-read_still : goal.returns-in-Err-clause-read_still
returns-in-Err-clause-read_still g c = λ other. c.in-Err.ensures.read_still (λ is. other (c.tell_error.ensures.read_fault (let e = is in cc)))
