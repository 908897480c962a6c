use Rattle.std.proofs.Common.{◌≡◌, ◌+◌, ◌∙◌, None, subst, sym, take, arith, length-drop}
use Rattle.jt_terminal_steps.proofs.Chaining.{any_err}
use Rattle.jt_terminal_steps.specs.Running.{IsDown}
use Rattle.jt_terminal.specs.Feeding.{HasFed, scene}
use Rattle.jt_terminal.proofs.Idling.{nothing_moved}
use Rattle.jt_terminal.proofs.Looping.{cut_more_octets, fed_more_octets, fed_nothing, front_given_up, same_on, same_state, steady_at_first, steady_on}
use Rattle.jt_terminal.proofs.feeding.hear.Goals as goal

pub loop-taken-init : goal.loop-taken-init
loop-taken-init g c = record {
  within = omega arith;
  fed = fed_nothing (scene c.args.stream.now.splitter c.args.assembler.now c.args.state.now (g.V.Vault.holds c.args.vault.now) c.args.out.now c.args.told.now);
  place = omega arith;
  sound = c.requires.sound;
  same = same_state c.args.state.now;
  steady = steady_at_first (g.V.Vault.faults c.args.vault.now) (g.V.Vault.limit c.args.vault.now) (g.V.Vault.may_fail c.args.vault.now);
}

pub loop-taken-preserved : goal.loop-taken-preserved
loop-taken-preserved g c =
    let kept = c.loop-taken.invariant in
    let did = c.in_ok-count.ensures in
    record {
      within = omega (arith, did.taken.1, length-drop c.loop-taken.taken c.args.octets.now, c.loop-taken-test.true);
      fed = fed_more_octets (scene c.args.stream.now.splitter c.args.assembler.now c.args.state.now (g.V.Vault.holds c.args.vault.now) c.args.out.now c.args.told.now) (scene c.loop-taken.stream.splitter c.loop-taken.assembler c.loop-taken.state (g.V.Vault.holds c.loop-taken.vault) c.loop-taken.out c.loop-taken.told) (scene c.hear_item.new.stream.splitter c.hear_item.new.assembler c.hear_item.new.state (g.V.Vault.holds c.hear_item.new.vault) c.hear_item.new.out c.hear_item.new.told) c.args.octets.now c.loop-taken.taken c.in_ok-count.count None (λ i. omega (arith, c.type_inv.octets i)) kept.same.settings kept.fed (subst (HasFed (scene c.loop-taken.stream.splitter c.loop-taken.assembler c.loop-taken.state (g.V.Vault.holds c.loop-taken.vault) c.loop-taken.out c.loop-taken.told) (scene c.hear_item.new.stream.splitter c.hear_item.new.assembler c.hear_item.new.state (g.V.Vault.holds c.hear_item.new.vault) c.hear_item.new.out c.hear_item.new.told) _) c.in-None.is did.ok);
      place = omega (arith, did.place, kept.place);
      sound = did.sound;
      same = same_on c.args.state.now c.loop-taken.state c.hear_item.new.state kept.same did.same;
      steady = steady_on (g.V.Vault.faults c.args.vault.now) (g.V.Vault.faults c.loop-taken.vault) (g.V.Vault.faults c.hear_item.new.vault) (g.V.Vault.limit c.args.vault.now) (g.V.Vault.limit c.loop-taken.vault) (g.V.Vault.limit c.hear_item.new.vault) (g.V.Vault.may_fail c.args.vault.now) (g.V.Vault.may_fail c.loop-taken.vault) (g.V.Vault.may_fail c.hear_item.new.vault) _ kept.steady did.outside (λ e. cc);
    }

pub returns-in_err-count-clause-place : goal.returns-in_err-count-clause-place
returns-in_err-count-clause-place g c = omega (arith, c.in_err-count.ensures.far, c.loop-taken.invariant.place, c.loop-taken.invariant.within, length-drop c.loop-taken.taken c.args.octets.now)

pub returns-in_err-count-clause-err : goal.returns-in_err-count-clause-err
returns-in_err-count-clause-err g c =
    any_err _ (cut_more_octets (scene c.args.stream.now.splitter c.args.assembler.now c.args.state.now (g.V.Vault.holds c.args.vault.now) c.args.out.now c.args.told.now) (scene c.loop-taken.stream.splitter c.loop-taken.assembler c.loop-taken.state (g.V.Vault.holds c.loop-taken.vault) c.loop-taken.out c.loop-taken.told) c.hear_item.new.stream.splitter c.hear_item.new.state (g.V.Vault.holds c.hear_item.new.vault) c.args.octets.now c.loop-taken.taken (λ i. omega (arith, c.type_inv.octets i)) c.loop-taken.invariant.fed c.in_err-count.ensures.err)

pub returns-in-Some-clause-ok : goal.returns-in-Some-clause-ok
returns-in-Some-clause-ok g c =
    front_given_up (scene c.args.stream.now.splitter c.args.assembler.now c.args.state.now (g.V.Vault.holds c.args.vault.now) c.args.out.now c.args.told.now) (scene c.hear_item.new.stream.splitter c.hear_item.new.assembler c.hear_item.new.state (g.V.Vault.holds c.hear_item.new.vault) c.hear_item.new.out c.hear_item.new.told) c.args.octets.now (c.loop-taken.taken + c.in_ok-count.count) c.in_ok-count.end c.in-Some.field-0 c.in-Some.is
    (fed_more_octets (scene c.args.stream.now.splitter c.args.assembler.now c.args.state.now (g.V.Vault.holds c.args.vault.now) c.args.out.now c.args.told.now) (scene c.loop-taken.stream.splitter c.loop-taken.assembler c.loop-taken.state (g.V.Vault.holds c.loop-taken.vault) c.loop-taken.out c.loop-taken.told) (scene c.hear_item.new.stream.splitter c.hear_item.new.assembler c.hear_item.new.state (g.V.Vault.holds c.hear_item.new.vault) c.hear_item.new.out c.hear_item.new.told) c.args.octets.now c.loop-taken.taken c.in_ok-count.count c.in_ok-count.end (λ i. omega (arith, c.type_inv.octets i)) c.loop-taken.invariant.same.settings c.loop-taken.invariant.fed c.in_ok-count.ensures.ok)

pub returns-in_err-count-clause-unmoved : goal.returns-in_err-count-clause-unmoved
returns-in_err-count-clause-unmoved g c =
    let kept : IsDown c.args.state.now → c.hear_item.new.state ≡ c.args.state.now = λ is.
    let same = (nothing_moved (scene c.args.stream.now.splitter c.args.assembler.now c.args.state.now (g.V.Vault.holds c.args.vault.now) c.args.out.now c.args.told.now) (scene c.loop-taken.stream.splitter c.loop-taken.assembler c.loop-taken.state (g.V.Vault.holds c.loop-taken.vault) c.loop-taken.out c.loop-taken.told) (take c.loop-taken.taken c.args.octets.now) None c.loop-taken.invariant.fed is).0 in
    c.in_err-count.ensures.unmoved (subst IsDown (sym same) is) ∙ same in
    any_err _ kept
