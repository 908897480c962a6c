use Rattle.std.proofs.Common.{inr, refl, rules, arith}
use Rattle.jt_input.specs.declared.status.Status.TheVariants as status
use Rattle.jt_report_command.specs.Telling.{values_in_words}
use Rattle.jt_report_command.proofs.Completing.{runs_well}
use Rattle.jt_report_command.proofs.Runs.{from_start, refused_never, runs_none, runs_refused, with_settings}
use Rattle.jt_report_command.proofs.Words.{spoken_phone, spoken_plate, spoken_terminal, spoken_tries}
use Rattle.jt_report_command.proofs.command.report.Goals as goal

pub settings_for-requires-clause-phone : goal.settings_for-requires-clause-phone
settings_for-requires-clause-phone g c = spoken_phone (values_in_words c.args.words) c.requires.words (search rules)

pub settings_for-requires-clause-plate : goal.settings_for-requires-clause-plate
settings_for-requires-clause-plate g c = spoken_plate (values_in_words c.args.words) c.requires.words

pub settings_for-requires-clause-terminal : goal.settings_for-requires-clause-terminal
settings_for-requires-clause-terminal g c = spoken_terminal (values_in_words c.args.words) c.requires.words

pub returns-in-Err-clause-runs : goal.returns-in-Err-clause-runs
returns-in-Err-clause-runs g c = runs_none _ _ _ _ _

pub returns-in-Ok-start-clause-runs : goal.returns-in-Ok-start-clause-runs
returns-in-Ok-start-clause-runs g c =
    let s = c.in-Ok-start.ensures.ok in
    rw (c.into_vault.ensures) (with_settings c.in-Ok.settings _ _ _ _ _ _ _ _ _ _ c.in-Ok.ensures.are
    (from_start c.in-Ok.settings c.in-Ok-start.terminal.state _ _ _ (g.V.Vault.holds c.args.vault) _ (g.V.Vault.limit c.args.vault) _ (g.V.Vault.faults c.args.vault) _ _ _ _ _ _ _ _ s.0 s.1 s.2 (omega (arith, s.3)) c.report_from-status.ensures.runs))

pub returns-clause-runs : goal.returns-clause-runs
returns-clause-runs g c =
    let refused = c.in-Err-start.ensures.err in
    runs_refused c.in-Err-start.error _ _ _ (g.V.Vault.holds c.args.vault) (g.V.Vault.holds c.in-Err-start.vault) _ _ _ _ _ _ _ _ _ _ refused.0 refused.2.failed c.tell_refused.ensures.answers c.tell_refused.ensures.ends

pub returns-in-Err-clause-answered : goal.returns-in-Err-clause-answered
returns-in-Err-clause-answered g c = λ has fine dial vault source sink. inr refl

pub returns-in-Ok-start-clause-answered : goal.returns-in-Ok-start-clause-answered
returns-in-Ok-start-clause-answered g c = λ has fine dial vault source sink.
    runs_well _ _ _ _ _ _ _ _ _ (spoken_tries (values_in_words c.args.words) c.requires.words) has fine dial vault
    (λ e. source (c.report_from-status.ensures.read_fault e)) (λ e. sink (c.report_from-status.ensures.write_fault e)) (returns-in-Ok-start-clause-runs g c)

pub returns-clause-answered : goal.returns-clause-answered
returns-clause-answered g c = λ has fine dial vault source sink.
    runs_well _ _ _ _ _ _ _ _ _ (spoken_tries (values_in_words c.args.words) c.requires.words) has fine dial vault
    (refused_never c.in-Err-start.error _ status.ReadFault c.tell_refused.ensures.status (λ z. absurd (cc z)) (λ z. absurd (cc z)) (λ z. absurd (cc z)))
    (λ e. sink (c.tell_refused.ensures.write_fault e)) (returns-clause-runs g c)
