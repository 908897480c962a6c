use Rattle.jt_terminal_rule.specs.Rule.{on_hearing, response, rule}
use Rattle.jt_terminal_rule.specs.Law.{response_heard}
use Rattle.jt_terminal_rule.proofs.Cutting.{cut_steps}
use Rattle.jt_terminal_rule.proofs.Batches.{unit_carries}
use Rattle.jt_terminal_rule.proofs.Controlling.{last_place, packets_place}
use Rattle.jt_terminal_rule.proofs.Ruling.{heard_steps, rule_steps}
use Rattle.jt_terminal_rule.proofs.Telling.{rule_tells}
use Rattle.jt_terminal_rule.proofs.Starting.{first_start, noted_is_a_step, start_is_a_restart}
use Rattle.jt_terminal_rule.proofs.Keeping.{keeps_settings}
use Rattle.jt_terminal_rule.proofs.laws.law_rule.Goals as goal

pub returns-clause-control : goal.returns-clause-control
returns-clause-control c = last_place

pub returns-clause-packets : goal.returns-clause-packets
returns-clause-packets c = packets_place

pub returns-clause-heard : goal.returns-clause-heard
returns-clause-heard c = heard_steps (unit_carries c.law_fixes.ensures)

pub returns-clause-heard_cut : goal.returns-clause-heard_cut
returns-clause-heard_cut c = λ held s x good o a.
    cut_steps held s (response_heard x) (on_hearing s x).steps (heard_steps (unit_carries c.law_fixes.ensures) held s x good o a).may

pub returns-clause-steps : goal.returns-clause-steps
returns-clause-steps c = rule_steps (unit_carries c.law_fixes.ensures)

pub returns-clause-cut : goal.returns-clause-cut
returns-clause-cut c = λ held s event good o a.
    cut_steps held s (response event) (rule s event).steps (rule_steps (unit_carries c.law_fixes.ensures) held s event good o a).may

pub returns-clause-told : goal.returns-clause-told
returns-clause-told c = rule_tells

pub returns-clause-noted : goal.returns-clause-noted
returns-clause-noted c = noted_is_a_step

pub returns-clause-start : goal.returns-clause-start
returns-clause-start c = start_is_a_restart

pub returns-clause-first : goal.returns-clause-first
returns-clause-first c = first_start

pub returns-clause-settings : goal.returns-clause-settings
returns-clause-settings c = keeps_settings
