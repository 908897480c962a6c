use Rattle.std.proofs.Common.{take, drop, refl, sym}
use Rattle.std.proofs.lemmas.List.{take-append-drop}
use Rattle.jt_terminal.specs.Feeding.{message_at, scene}
use Rattle.jt_terminal_steps.proofs.Chaining.{any_err}
use Rattle.jt_terminal.proofs.Items.{cut_frame, fed_fault, fed_frame, fed_none, frame_brings, more_brings, refused_brings}
use Rattle.jt_terminal.proofs.feeding.hear_item.Goals as goal

pub returns-in_err-end-in-Frame-clause-err : goal.returns-in_err-end-in-Frame-clause-err
returns-in_err-end-in-Frame-clause-err g c =
    any_err _ (cut_frame (scene c.args.stream.now.splitter c.args.assembler.now c.args.state.now (g.V.Vault.holds c.args.vault.now) c.args.out.now c.args.told.now) c.take-count.new.self.splitter c.hear_last.new.state (g.V.Vault.holds c.hear_last.new.vault) c.args.octets.now (take c.take-count.result.0 c.args.octets.now) (drop c.take-count.result.0 c.args.octets.now) (message_at c.take-count.new.self.splitter.content) (sym (take-append-drop c.take-count.result.0 c.args.octets.now)) (frame_brings c.law_one_list.ensures.some c.law_items.ensures c.args.stream.now.splitter c.take-count.new.self.splitter (take c.take-count.result.0 c.args.octets.now) c.take-count.result.1 c.in-Frame.is c.take-count.ensures.items) c.in_err-end-in-Frame.ensures.err c.in_err-end-in-Frame.ensures.tables c.in_err-end-in-Frame.ensures.lists)

pub returns-in_ok-end-in-Frame-clause-ok : goal.returns-in_ok-end-in-Frame-clause-ok
returns-in_ok-end-in-Frame-clause-ok g c =
    fed_frame (scene c.args.stream.now.splitter c.args.assembler.now c.args.state.now (g.V.Vault.holds c.args.vault.now) c.args.out.now c.args.told.now) (scene c.take-count.new.self.splitter c.hear_last.new.assembler c.hear_last.new.state (g.V.Vault.holds c.hear_last.new.vault) c.hear_last.new.out c.hear_last.new.told) (take c.take-count.result.0 c.args.octets.now) (message_at c.take-count.new.self.splitter.content) c.in_ok-end-in-Frame.end (frame_brings c.law_one_list.ensures.some c.law_items.ensures c.args.stream.now.splitter c.take-count.new.self.splitter (take c.take-count.result.0 c.args.octets.now) c.take-count.result.1 c.in-Frame.is c.take-count.ensures.items) c.in_ok-end-in-Frame.ensures.partial c.in_ok-end-in-Frame.ensures.ok c.in_ok-end-in-Frame.ensures.told c.requires.sound.order.mark c.requires.sound.order.next

pub returns-in-Refused-clause-ok : goal.returns-in-Refused-clause-ok
returns-in-Refused-clause-ok g c =
    fed_fault (scene c.args.stream.now.splitter c.args.assembler.now c.args.state.now (g.V.Vault.holds c.args.vault.now) c.args.out.now c.args.told.now) (scene c.take-count.new.self.splitter c.args.assembler.now c.args.state.now (g.V.Vault.holds c.args.vault.now) c.args.out.now c.args.told.now) (take c.take-count.result.0 c.args.octets.now) c.in-Refused.field-0.inside c.in-Refused.field-0.why (refused_brings c.law_one_list.ensures.some c.law_items.ensures c.args.stream.now.splitter c.take-count.new.self.splitter (take c.take-count.result.0 c.args.octets.now) c.take-count.result.1 c.in-Refused.field-0 c.in-Refused.is c.take-count.ensures.items) refl refl refl refl refl

pub returns-in-More-clause-ok : goal.returns-in-More-clause-ok
returns-in-More-clause-ok g c =
    fed_none (scene c.args.stream.now.splitter c.args.assembler.now c.args.state.now (g.V.Vault.holds c.args.vault.now) c.args.out.now c.args.told.now) (scene c.take-count.new.self.splitter c.args.assembler.now c.args.state.now (g.V.Vault.holds c.args.vault.now) c.args.out.now c.args.told.now) (take c.take-count.result.0 c.args.octets.now) (more_brings c.law_one_list.ensures.some c.law_items.ensures c.args.stream.now.splitter c.take-count.new.self.splitter (take c.take-count.result.0 c.args.octets.now) c.take-count.result.1 c.in-More.is c.take-count.ensures.items) refl refl refl refl refl
