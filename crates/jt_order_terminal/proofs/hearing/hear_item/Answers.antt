use Rattle.std.proofs.Common.{take, drop, sym}
use Rattle.std.proofs.lemmas.List.{take-append-drop}
use Rattle.jt_stream.specs.declared.stream.StreamItem.TheVariants as item
use Rattle.jt_terminal.specs.Feeding.{message_at}
use Rattle.jt_terminal_steps.proofs.Chaining.{any_err}
use Rattle.jt_order_terminal.specs.Feeding.{scene}
use Rattle.jt_order_terminal.proofs.Doing.{nothing_done}
use Rattle.jt_order_terminal.proofs.Items.{brings_by, cut_frame, fed_fault, fed_frame, fed_none}
use Rattle.jt_order_terminal.proofs.hearing.hear_item.Goals as goal

pub returns-in_err-end-in-Frame-clause-err : goal.returns-in_err-end-in-Frame-clause-err
returns-in_err-end-in-Frame-clause-err g c =
    let octets = c.args.octets.now in
    let count = c.take-count.result.0 in
    let old = scene c.args.terminal.now.state c.args.ledger.now (g.V.Vault.holds c.args.terminal.now.vault) (g.G.OrderLog.holds c.args.log.now) c.args.said.now in
    any_err _ (cut_frame c.args.stream.now.splitter c.take-count.new.self.splitter old (g.V.Vault.holds c.hear_last.new.terminal.vault) (g.G.OrderLog.holds c.hear_last.new.log) octets (take count octets) (drop count octets) (message_at c.take-count.new.self.splitter.content) (sym (take-append-drop count octets))
    (brings_by c.law_one_list.ensures.some c.law_items.ensures c.args.stream.now.splitter c.take-count.new.self.splitter (take count octets) c.take-count.result.1 item.Frame c.in-Frame.is c.take-count.ensures.items) c.in_err-end-in-Frame.ensures.err)

pub returns-in_ok-end-in-Frame-clause-ok : goal.returns-in_ok-end-in-Frame-clause-ok
returns-in_ok-end-in-Frame-clause-ok g c =
    let octets = c.args.octets.now in
    let count = c.take-count.result.0 in
    let old = scene c.args.terminal.now.state c.args.ledger.now (g.V.Vault.holds c.args.terminal.now.vault) (g.G.OrderLog.holds c.args.log.now) c.args.said.now in
    let now = scene c.hear_last.new.terminal.state c.hear_last.new.ledger (g.V.Vault.holds c.hear_last.new.terminal.vault) (g.G.OrderLog.holds c.hear_last.new.log) c.hear_last.new.said in
    fed_frame c.args.stream.now.splitter c.take-count.new.self.splitter old now (take count octets) (message_at c.take-count.new.self.splitter.content) c.in_ok-end-in-Frame.end
    (brings_by c.law_one_list.ensures.some c.law_items.ensures c.args.stream.now.splitter c.take-count.new.self.splitter (take count octets) c.take-count.result.1 item.Frame c.in-Frame.is c.take-count.ensures.items) c.in_ok-end-in-Frame.ensures.ok

pub returns-in-Refused-clause-ok : goal.returns-in-Refused-clause-ok
returns-in-Refused-clause-ok g c =
    let octets = c.args.octets.now in
    let count = c.take-count.result.0 in
    let old = scene c.args.terminal.now.state c.args.ledger.now (g.V.Vault.holds c.args.terminal.now.vault) (g.G.OrderLog.holds c.args.log.now) c.args.said.now in
    fed_fault c.args.stream.now.splitter c.take-count.new.self.splitter old old (take count octets) c.in-Refused.field-0.inside c.in-Refused.field-0.why
    (brings_by c.law_one_list.ensures.some c.law_items.ensures c.args.stream.now.splitter c.take-count.new.self.splitter (take count octets) c.take-count.result.1 (item.Refused c.in-Refused.field-0) c.in-Refused.is c.take-count.ensures.items)
    (nothing_done old.state old.ledger old.held old.log old.said)

pub returns-in-More-clause-ok : goal.returns-in-More-clause-ok
returns-in-More-clause-ok g c =
    let octets = c.args.octets.now in
    let count = c.take-count.result.0 in
    let old = scene c.args.terminal.now.state c.args.ledger.now (g.V.Vault.holds c.args.terminal.now.vault) (g.G.OrderLog.holds c.args.log.now) c.args.said.now in
    fed_none c.args.stream.now.splitter c.take-count.new.self.splitter old old (take count octets)
    (brings_by c.law_one_list.ensures.some c.law_items.ensures c.args.stream.now.splitter c.take-count.new.self.splitter (take count octets) c.take-count.result.1 item.More c.in-More.is c.take-count.ensures.items)
    (nothing_done old.state old.ledger old.held old.log old.said)
