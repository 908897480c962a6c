use Rattle.std.proofs.Common.{◌≡◌, [], ◌++◌, None, arith}
use Rattle.std.specs.Prelude.{IsSome}
use Rattle.std.proofs.lemmas.Result.{on_err_weaker}
use Rattle.jt_terminal_rule.specs.Rule.{sends}
use Rattle.jt_terminal_steps.specs.Running.{IsDown, holds_after}
use Rattle.jt_terminal.specs.declared.actions.Actions.{Actions}
use Rattle.jt_terminal.specs.Feeding.{HasFedFront, scene}
use Rattle.jt_terminal.specs.Line.{StandsForLine, rule_at_octets, places_at_octets}
use Rattle.jt_terminal.proofs.Idling.{gave_up, moved_nothing, nothing_said}
use Rattle.jt_terminal.proofs.Items.{fed_cut, fed_lists, fed_ran, fed_tables, ok_fact, ok_map, stands_on, told_is}
use Rattle.jt_terminal.proofs.line.TerminalLine.feed.Goals as goal

pub returns-clause-state : goal.returns-clause-state
returns-clause-state g c = rw (← c.self.view_is) (λ seen stands. ok_fact (λ (actions : Actions). HasFedFront (scene c.self.inside.stream.splitter c.self.inside.assembler c.args.terminal.now.state (g.V.Vault.holds c.args.terminal.now.vault) [] []) (scene c.hear.new.stream.splitter c.hear.new.assembler c.hear.new.self.state (g.V.Vault.holds c.hear.new.self.vault) actions.frames actions.told) c.args.octets.now actions.end) (c.hear.new.self.state ≡ (rule_at_octets c.args.terminal.now.state seen c.args.octets.now).state) c.hear.result (λ actions f. (fed_ran (scene c.self.inside.stream.splitter c.self.inside.assembler c.args.terminal.now.state (g.V.Vault.holds c.args.terminal.now.vault) [] []) (scene c.hear.new.stream.splitter c.hear.new.assembler c.hear.new.self.state (g.V.Vault.holds c.hear.new.self.vault) actions.frames actions.told) c.args.octets.now actions.end f c.law_front.ensures.unplaced seen stands).is_state) c.hear.ensures.ok)

pub returns-clause-vault : goal.returns-clause-vault
returns-clause-vault g c = rw (← c.self.view_is) (λ seen stands. ok_fact (λ (actions : Actions). HasFedFront (scene c.self.inside.stream.splitter c.self.inside.assembler c.args.terminal.now.state (g.V.Vault.holds c.args.terminal.now.vault) [] []) (scene c.hear.new.stream.splitter c.hear.new.assembler c.hear.new.self.state (g.V.Vault.holds c.hear.new.self.vault) actions.frames actions.told) c.args.octets.now actions.end) (g.V.Vault.holds c.hear.new.self.vault ≡ holds_after (rule_at_octets c.args.terminal.now.state seen c.args.octets.now).steps (g.V.Vault.holds c.args.terminal.now.vault)) c.hear.result (λ actions f. (fed_ran (scene c.self.inside.stream.splitter c.self.inside.assembler c.args.terminal.now.state (g.V.Vault.holds c.args.terminal.now.vault) [] []) (scene c.hear.new.stream.splitter c.hear.new.assembler c.hear.new.self.state (g.V.Vault.holds c.hear.new.self.vault) actions.frames actions.told) c.args.octets.now actions.end f c.law_front.ensures.unplaced seen stands).held) c.hear.ensures.ok)

pub returns-clause-frames : goal.returns-clause-frames
returns-clause-frames g c = rw (← c.self.view_is) (λ seen stands. ok_map (λ (actions : Actions). HasFedFront (scene c.self.inside.stream.splitter c.self.inside.assembler c.args.terminal.now.state (g.V.Vault.holds c.args.terminal.now.vault) [] []) (scene c.hear.new.stream.splitter c.hear.new.assembler c.hear.new.self.state (g.V.Vault.holds c.hear.new.self.vault) actions.frames actions.told) c.args.octets.now actions.end) (λ (actions : Actions). actions.frames ≡ sends c.args.terminal.now.state.settings (rule_at_octets c.args.terminal.now.state seen c.args.octets.now).steps) c.hear.result (λ actions f. (fed_ran (scene c.self.inside.stream.splitter c.self.inside.assembler c.args.terminal.now.state (g.V.Vault.holds c.args.terminal.now.vault) [] []) (scene c.hear.new.stream.splitter c.hear.new.assembler c.hear.new.self.state (g.V.Vault.holds c.hear.new.self.vault) actions.frames actions.told) c.args.octets.now actions.end f c.law_front.ensures.unplaced seen stands).out) c.hear.ensures.ok)

pub returns-clause-end : goal.returns-clause-end
returns-clause-end g c = rw (← c.self.view_is) (λ seen stands. ok_map (λ (actions : Actions). HasFedFront (scene c.self.inside.stream.splitter c.self.inside.assembler c.args.terminal.now.state (g.V.Vault.holds c.args.terminal.now.vault) [] []) (scene c.hear.new.stream.splitter c.hear.new.assembler c.hear.new.self.state (g.V.Vault.holds c.hear.new.self.vault) actions.frames actions.told) c.args.octets.now actions.end) (λ (actions : Actions). actions.end ≡ (rule_at_octets c.args.terminal.now.state seen c.args.octets.now).end) c.hear.result (λ actions f. (fed_ran (scene c.self.inside.stream.splitter c.self.inside.assembler c.args.terminal.now.state (g.V.Vault.holds c.args.terminal.now.vault) [] []) (scene c.hear.new.stream.splitter c.hear.new.assembler c.hear.new.self.state (g.V.Vault.holds c.hear.new.self.vault) actions.frames actions.told) c.args.octets.now actions.end f c.law_front.ensures.unplaced seen stands).is_end) c.hear.ensures.ok)

pub returns-clause-told : goal.returns-clause-told
returns-clause-told g c = rw (← c.self.view_is) (λ seen stands. ok_map (λ (actions : Actions). HasFedFront (scene c.self.inside.stream.splitter c.self.inside.assembler c.args.terminal.now.state (g.V.Vault.holds c.args.terminal.now.vault) [] []) (scene c.hear.new.stream.splitter c.hear.new.assembler c.hear.new.self.state (g.V.Vault.holds c.hear.new.self.vault) actions.frames actions.told) c.args.octets.now actions.end) (λ (actions : Actions). actions.told ≡ places_at_octets c.args.terminal.now.state seen c.args.octets.now) c.hear.result (λ actions f. told_is (scene c.self.inside.stream.splitter c.self.inside.assembler c.args.terminal.now.state (g.V.Vault.holds c.args.terminal.now.vault) [] []) (scene c.hear.new.stream.splitter c.hear.new.assembler c.hear.new.self.state (g.V.Vault.holds c.hear.new.self.vault) actions.frames actions.told) c.args.octets.now actions.end f c.law_front.ensures.unplaced seen stands) c.hear.ensures.ok)

pub returns-clause-cut : goal.returns-clause-cut
returns-clause-cut g c = rw (← c.self.view_is) (λ seen stands. on_err_weaker c.hear.result (fed_cut (scene c.self.inside.stream.splitter c.self.inside.assembler c.args.terminal.now.state (g.V.Vault.holds c.args.terminal.now.vault) [] []) c.hear.new.stream.splitter c.hear.new.self.state (g.V.Vault.holds c.hear.new.self.vault) c.args.octets.now seen c.law_front.ensures.unplaced stands) c.hear.ensures.err)

pub returns-clause-stands : goal.returns-clause-stands
returns-clause-stands g c = rw (← c.self.view_is) (λ seen stands. ok_map (λ (actions : Actions). HasFedFront (scene c.self.inside.stream.splitter c.self.inside.assembler c.args.terminal.now.state (g.V.Vault.holds c.args.terminal.now.vault) [] []) (scene c.hear.new.stream.splitter c.hear.new.assembler c.hear.new.self.state (g.V.Vault.holds c.hear.new.self.vault) actions.frames actions.told) c.args.octets.now actions.end) (λ (actions : Actions). actions.end ≡ None → StandsForLine (record { stream = c.hear.new.stream.splitter; partial = c.hear.new.assembler }) (seen ++ c.args.octets.now)) c.hear.result (λ actions f. stands_on (scene c.self.inside.stream.splitter c.self.inside.assembler c.args.terminal.now.state (g.V.Vault.holds c.args.terminal.now.vault) [] []) (scene c.hear.new.stream.splitter c.hear.new.assembler c.hear.new.self.state (g.V.Vault.holds c.hear.new.self.vault) actions.frames actions.told) c.args.octets.now actions.end f c.law_front.ensures.unplaced seen stands (λ i. omega (arith, c.type_inv.octets i))) c.hear.ensures.ok)

pub returns-clause-tables : goal.returns-clause-tables
returns-clause-tables g c = rw (← c.self.view_is) (λ seen stands. on_err_weaker c.hear.result (fed_tables (scene c.self.inside.stream.splitter c.self.inside.assembler c.args.terminal.now.state (g.V.Vault.holds c.args.terminal.now.vault) [] []) c.hear.new.stream.splitter c.hear.new.self.state (g.V.Vault.holds c.hear.new.self.vault) c.args.octets.now seen c.law_front.ensures.unplaced stands) c.hear.ensures.err)

pub returns-clause-lists : goal.returns-clause-lists
returns-clause-lists g c = rw (← c.self.view_is) (λ seen stands. on_err_weaker c.hear.result (fed_lists (scene c.self.inside.stream.splitter c.self.inside.assembler c.args.terminal.now.state (g.V.Vault.holds c.args.terminal.now.vault) [] []) c.hear.new.stream.splitter c.hear.new.self.state (g.V.Vault.holds c.hear.new.self.vault) c.args.octets.now seen c.law_front.ensures.unplaced stands) c.hear.ensures.err)

pub returns-clause-gave_up : goal.returns-clause-gave_up
returns-clause-gave_up g c = ok_map (λ (actions : Actions). HasFedFront (scene c.self.inside.stream.splitter c.self.inside.assembler c.args.terminal.now.state (g.V.Vault.holds c.args.terminal.now.vault) [] []) (scene c.hear.new.stream.splitter c.hear.new.assembler c.hear.new.self.state (g.V.Vault.holds c.hear.new.self.vault) actions.frames actions.told) c.args.octets.now actions.end) (λ (actions : Actions). IsSome actions.end → IsDown c.hear.new.self.state) c.hear.result (λ actions f. gave_up (scene c.self.inside.stream.splitter c.self.inside.assembler c.args.terminal.now.state (g.V.Vault.holds c.args.terminal.now.vault) [] []) (scene c.hear.new.stream.splitter c.hear.new.assembler c.hear.new.self.state (g.V.Vault.holds c.hear.new.self.vault) actions.frames actions.told) f.front actions.end f.fed) c.hear.ensures.ok

pub returns-clause-unmoved : goal.returns-clause-unmoved
returns-clause-unmoved g c = moved_nothing (scene c.self.inside.stream.splitter c.self.inside.assembler c.args.terminal.now.state (g.V.Vault.holds c.args.terminal.now.vault) [] []) c.hear.new.stream.splitter c.hear.new.assembler c.hear.new.self.state (g.V.Vault.holds c.hear.new.self.vault) c.args.octets.now c.hear.result (λ (actions : Actions). actions.frames) (λ (actions : Actions). actions.told) (λ (actions : Actions). actions.end) c.hear.ensures.ok c.hear.ensures.err c.hear.ensures.unmoved

pub returns-clause-silent : goal.returns-clause-silent
returns-clause-silent g c = λ is. ok_map (λ (actions : Actions). HasFedFront (scene c.self.inside.stream.splitter c.self.inside.assembler c.args.terminal.now.state (g.V.Vault.holds c.args.terminal.now.vault) [] []) (scene c.hear.new.stream.splitter c.hear.new.assembler c.hear.new.self.state (g.V.Vault.holds c.hear.new.self.vault) actions.frames actions.told) c.args.octets.now actions.end) (λ (actions : Actions). (actions.frames ≡ []) × (actions.end ≡ None) × (actions.told ≡ [])) c.hear.result (λ actions f. nothing_said (scene c.self.inside.stream.splitter c.self.inside.assembler c.args.terminal.now.state (g.V.Vault.holds c.args.terminal.now.vault) [] []) (scene c.hear.new.stream.splitter c.hear.new.assembler c.hear.new.self.state (g.V.Vault.holds c.hear.new.self.vault) actions.frames actions.told) f.front actions.end f.fed is) c.hear.ensures.ok
