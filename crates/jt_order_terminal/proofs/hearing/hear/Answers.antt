use Rattle.std.proofs.Common.{◌+◌, ◌-◌, ◌∙◌, None, Ok, length, refl, subst, take, drop, arith, length-drop}
use Rattle.jt_terminal_steps.proofs.Chaining.{any_err}
use Rattle.jt_order_terminal.specs.declared.fault.OrderFault.TheVariants as faults
use Rattle.jt_order_terminal.specs.Feeding.{HasFed, scene}
use Rattle.jt_order_terminal.proofs.Causes.{failed_on, steady_at_first, steady_on}
use Rattle.jt_terminal.proofs.Looping.{same_on}
use Rattle.jt_order_terminal.proofs.Doing.{nothing_done, params_on, same_params, same_state}
use Rattle.jt_order_terminal.proofs.Items.{cut_more, fed_more, fed_nothing, front_given_up, front_whole}
use Rattle.jt_order_terminal.proofs.hearing.hear.Goals as goal

pub loop-taken-init : goal.loop-taken-init
loop-taken-init g c =
    let old = scene c.args.terminal.now.state c.args.ledger.now (g.V.Vault.holds c.args.terminal.now.vault) (g.G.OrderLog.holds c.args.log.now) c.args.said.now in
    record {
      within = omega arith;
      fed = fed_nothing c.args.stream.now.splitter old (nothing_done old.state old.ledger old.held old.log old.said);
      place = omega arith;
      keeps = λ was. was;
      sound = λ was. was;
      same = same_state old.state;
      params = same_params old.state;
      limit = refl;
      vault_steady = steady_at_first (g.V.Vault.faults c.args.terminal.now.vault) (g.V.Vault.may_fail c.args.terminal.now.vault);
      log_steady = steady_at_first (g.G.OrderLog.faults c.args.log.now) (g.G.OrderLog.may_fail c.args.log.now);
    }

pub loop-taken-preserved : goal.loop-taken-preserved
loop-taken-preserved g c =
    let old = scene c.args.terminal.now.state c.args.ledger.now (g.V.Vault.holds c.args.terminal.now.vault) (g.G.OrderLog.holds c.args.log.now) c.args.said.now in
    let mid = scene c.loop-taken.terminal.state c.loop-taken.ledger (g.V.Vault.holds c.loop-taken.terminal.vault) (g.G.OrderLog.holds c.loop-taken.log) c.loop-taken.said in
    let now = scene c.hear_item.new.terminal.state c.hear_item.new.ledger (g.V.Vault.holds c.hear_item.new.terminal.vault) (g.G.OrderLog.holds c.hear_item.new.log) c.hear_item.new.said in
    let kept = c.loop-taken.invariant in
    let did = c.in_ok-count.ensures in
    record {
      within = omega (arith, did.taken.1, length-drop c.loop-taken.taken c.args.octets.now, c.loop-taken-test.true);
      fed = fed_more c.args.stream.now.splitter c.loop-taken.stream.splitter c.hear_item.new.stream.splitter old mid c.args.octets.now c.loop-taken.taken (λ i. omega (arith, c.type_inv.octets i)) kept.fed now c.in_ok-count.count None (subst (HasFed c.loop-taken.stream.splitter c.hear_item.new.stream.splitter mid now (take c.in_ok-count.count (take (length c.args.octets.now - c.loop-taken.taken) (drop c.loop-taken.taken c.args.octets.now)))) c.in-None.is did.ok);
      place = omega (arith, did.place, kept.place);
      keeps = λ was. did.keeps (kept.keeps was);
      sound = λ was. did.sound (kept.sound was);
      same = same_on old.state mid.state now.state kept.same did.same;
      params = params_on old.state mid.state now.state kept.params did.params;
      limit = did.limit ∙ kept.limit;
      vault_steady = steady_on faults.Vault (g.V.Vault.faults c.args.terminal.now.vault) (g.V.Vault.faults c.loop-taken.terminal.vault) (g.V.Vault.faults c.hear_item.new.terminal.vault) (g.V.Vault.may_fail c.args.terminal.now.vault) (g.V.Vault.may_fail c.loop-taken.terminal.vault) (g.V.Vault.may_fail c.hear_item.new.terminal.vault) (Ok (c.in_ok-count.count, c.in_ok-count.end)) kept.vault_steady did.vault_cause (λ e. cc);
      log_steady = steady_on faults.Log (g.G.OrderLog.faults c.args.log.now) (g.G.OrderLog.faults c.loop-taken.log) (g.G.OrderLog.faults c.hear_item.new.log) (g.G.OrderLog.may_fail c.args.log.now) (g.G.OrderLog.may_fail c.loop-taken.log) (g.G.OrderLog.may_fail c.hear_item.new.log) (Ok (c.in_ok-count.count, c.in_ok-count.end)) kept.log_steady did.log_cause (λ e. cc);
    }

pub returns-in_err-count-clause-place : goal.returns-in_err-count-clause-place
returns-in_err-count-clause-place g c = omega (arith, c.in_err-count.ensures.far, c.loop-taken.invariant.place, c.loop-taken.invariant.within, length-drop c.loop-taken.taken c.args.octets.now)

pub returns-in_err-count-clause-err : goal.returns-in_err-count-clause-err
returns-in_err-count-clause-err g c =
    let old = scene c.args.terminal.now.state c.args.ledger.now (g.V.Vault.holds c.args.terminal.now.vault) (g.G.OrderLog.holds c.args.log.now) c.args.said.now in
    let mid = scene c.loop-taken.terminal.state c.loop-taken.ledger (g.V.Vault.holds c.loop-taken.terminal.vault) (g.G.OrderLog.holds c.loop-taken.log) c.loop-taken.said in
    any_err _ (cut_more c.args.stream.now.splitter c.loop-taken.stream.splitter c.hear_item.new.stream.splitter old mid c.args.octets.now c.loop-taken.taken (λ i. omega (arith, c.type_inv.octets i)) c.loop-taken.invariant.fed (g.V.Vault.holds c.hear_item.new.terminal.vault) (g.G.OrderLog.holds c.hear_item.new.log) c.in_err-count.ensures.err)

pub returns-in-Some-clause-ok : goal.returns-in-Some-clause-ok
returns-in-Some-clause-ok g c =
    let old = scene c.args.terminal.now.state c.args.ledger.now (g.V.Vault.holds c.args.terminal.now.vault) (g.G.OrderLog.holds c.args.log.now) c.args.said.now in
    let mid = scene c.loop-taken.terminal.state c.loop-taken.ledger (g.V.Vault.holds c.loop-taken.terminal.vault) (g.G.OrderLog.holds c.loop-taken.log) c.loop-taken.said in
    let now = scene c.hear_item.new.terminal.state c.hear_item.new.ledger (g.V.Vault.holds c.hear_item.new.terminal.vault) (g.G.OrderLog.holds c.hear_item.new.log) c.hear_item.new.said in
    front_given_up c.args.stream.now.splitter c.hear_item.new.stream.splitter old now c.args.octets.now (c.loop-taken.taken + c.in_ok-count.count) c.in_ok-count.end c.in-Some.field-0 c.in-Some.is
    (fed_more c.args.stream.now.splitter c.loop-taken.stream.splitter c.hear_item.new.stream.splitter old mid c.args.octets.now c.loop-taken.taken (λ i. omega (arith, c.type_inv.octets i)) c.loop-taken.invariant.fed now c.in_ok-count.count c.in_ok-count.end c.in_ok-count.ensures.ok)

pub returns-clause-ok : goal.returns-clause-ok
returns-clause-ok g c =
    let old = scene c.args.terminal.now.state c.args.ledger.now (g.V.Vault.holds c.args.terminal.now.vault) (g.G.OrderLog.holds c.args.log.now) c.args.said.now in
    let mid = scene c.loop-taken.terminal.state c.loop-taken.ledger (g.V.Vault.holds c.loop-taken.terminal.vault) (g.G.OrderLog.holds c.loop-taken.log) c.loop-taken.said in
    front_whole c.args.stream.now.splitter c.loop-taken.stream.splitter old mid c.args.octets.now c.loop-taken.taken (omega (arith, c.loop-taken-test.false)) c.loop-taken.invariant.fed

pub returns-in_err-count-clause-vault_cause : goal.returns-in_err-count-clause-vault_cause
returns-in_err-count-clause-vault_cause g c =
    failed_on faults.Vault (g.V.Vault.faults c.args.terminal.now.vault) (g.V.Vault.faults c.loop-taken.terminal.vault) (g.V.Vault.faults c.hear_item.new.terminal.vault) (g.V.Vault.may_fail c.args.terminal.now.vault) (g.V.Vault.may_fail c.loop-taken.terminal.vault) (g.V.Vault.may_fail c.hear_item.new.terminal.vault) c.in_err-count.field-0.0 c.from_residual.result c.from_residual.ensures.1 c.loop-taken.invariant.vault_steady c.in_err-count.ensures.vault_cause

pub returns-in_err-count-clause-log_cause : goal.returns-in_err-count-clause-log_cause
returns-in_err-count-clause-log_cause g c =
    failed_on faults.Log (g.G.OrderLog.faults c.args.log.now) (g.G.OrderLog.faults c.loop-taken.log) (g.G.OrderLog.faults c.hear_item.new.log) (g.G.OrderLog.may_fail c.args.log.now) (g.G.OrderLog.may_fail c.loop-taken.log) (g.G.OrderLog.may_fail c.hear_item.new.log) c.in_err-count.field-0.0 c.from_residual.result c.from_residual.ensures.1 c.loop-taken.invariant.log_steady c.in_err-count.ensures.log_cause
