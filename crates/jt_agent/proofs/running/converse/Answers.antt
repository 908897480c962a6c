use Rattle.std.proofs.Common.{◌+◌, refl, arith, ◌∙◌}
use Rattle.std.proofs.lemmas.Grind.{common_steps}
use Rattle.jt_agent.proofs.Going.{StepLaws, goes_begin, goes_open, goes_read, goes_wait, goes_tick, ends_begin, ends_open, ends_read, ends_tick, ends_end, ends_link, ends_spent, quiet_more, quiet_from, few_quiet, none_run, quiet_kept, goes_count, late_still, vault_then}
use Rattle.jt_agent.proofs.running.converse.Goals as goal

pub returns-in-Some-clause-ends : goal.returns-in-Some-clause-ends
returns-in-Some-clause-ends g c =
    ends_begin record { sends_law = c.law_steps.ensures.sends; holds_law = c.law_steps.ensures.holds } _ _ _ _ _ _ _ c.in-Some.ensures.ticks
    record { inbound = c.in-Some.ensures.inbound; faults = c.in-Some.ensures.count; vault = c.in-Some.ensures.vault.later; settings = c.in-Some.ensures.settings }

pub returns-in-End-clause-ends : goal.returns-in-End-clause-ends
returns-in-End-clause-ends g c =
    ends_end _ _ _ _ _ _ _ _ _ c.loop-taken.invariant.2 c.loop-taken.invariant.0 c.in-End.ensures.octets.1
    record { written = c.in-End.ensures.written; faults = c.in-End.ensures.cause.faults; quiets = c.in-End.ensures.cause.quiets; state = refl; held = refl; vault = refl }
    c.in-End.ensures.octets.0

pub returns-in-Failed-clause-ends : goal.returns-in-Failed-clause-ends
returns-in-Failed-clause-ends g c =
    ends_link _ _ _ _ _ _ _ _ _ c.loop-taken.invariant.2 c.loop-taken.invariant.0 c.in-Failed.ensures.octets.0
    record { written = c.in-Failed.ensures.written; faults = c.in-Failed.ensures.cause.faults; quiets = c.in-Failed.ensures.cause.quiets; state = refl; held = refl; vault = refl }
    (c.in-Failed.ensures.cause.failed refl)

pub returns-clause-ends : goal.returns-clause-ends
returns-clause-ends g c = ends_spent _ _ _ _ _ _ _ _ (omega (arith, c.loop-taken-test.false, c.loop-taken.invariant.2)) c.loop-taken.invariant.0

pub returns-in-Some-tell-clause-ends : goal.returns-in-Some-tell-clause-ends
returns-in-Some-tell-clause-ends g c =
    let laws : StepLaws = record { sends_law = c.law_steps.ensures.sends; holds_law = c.law_steps.ensures.holds } in
    ends_open laws _ _ _ _ _ _ _ _ _ _ (omega arith)
    (goes_begin laws _ _ _ _ _ c.new-line.ensures.stands c.new-line.ensures.place c.in_default.ensures.ticks
    record { inbound = c.in_default.ensures.inbound; faults = c.in_default.ensures.count; vault = c.in_default.ensures.vault.later; settings = c.in_default.ensures.settings } c.in_default.ensures.late)
    c.in-Some-tell.ensures.comes
    record { inbound = c.in-Some-tell.ensures.inbound; faults = c.in-Some-tell.ensures.count; vault = c.in-Some-tell.ensures.vault.later; settings = c.in-Some-tell.ensures.settings }

pub loop-taken-init : goal.loop-taken-init
loop-taken-init g c =
    let laws : StepLaws = record { sends_law = c.law_steps.ensures.sends; holds_law = c.law_steps.ensures.holds } in
    let goes =
    goes_open laws _ _ _ _ _ _ _
    (goes_begin laws _ _ _ _ _ c.new-line.ensures.stands c.new-line.ensures.place c.in_default.ensures.ticks
    record { inbound = c.in_default.ensures.inbound; faults = c.in_default.ensures.count; vault = c.in_default.ensures.vault.later; settings = c.in_default.ensures.settings } c.in_default.ensures.late)
    c.in_default-tell.ensures.comes
    record { inbound = c.in_default-tell.ensures.inbound; faults = c.in_default-tell.ensures.count; vault = c.in_default-tell.ensures.vault.later; settings = c.in_default-tell.ensures.settings }
    (late_still _ _ _ c.in_default-tell.ensures.time c.in_default.ensures.late) in (
      goes,
      quiet_from _ _ _ _ _ _ _ goes (g.K.Sink.inbound c.args.link.now) (c.in_default-tell.ensures.inbound ∙ c.in_default.ensures.inbound) (omega arith),
      omega arith,
      c.requires.quiets.0,
      vault_then _ _ _ _ _ _ _ _ _ _ _ _ c.in_default.ensures.vault c.in_default-tell.ensures.vault (λ z. cc) (λ z. absurd z) (λ z. cc),
      c.in_default-tell.ensures.still (λ z. cc) ∙ c.in_default.ensures.still (λ z. cc),
      c.in_default-tell.ensures.settings ∙ c.in_default.ensures.settings,
    )

pub returns-in-Some-hear-clause-ends : goal.returns-in-Some-hear-clause-ends
returns-in-Some-hear-clause-ends g c =
    let laws : StepLaws = record { sends_law = c.law_steps.ensures.sends; holds_law = c.law_steps.ensures.holds } in
    ends_read laws _ _ _ _ _ _ _ _ _ _ _ _ (grind (arith, common_steps)) c.loop-taken.invariant.0 c.in-Bytes.ensures.octets.2
    record { written = c.in-Bytes.ensures.written; faults = c.in-Bytes.ensures.cause.faults; quiets = c.in-Bytes.ensures.cause.quiets; state = refl; held = refl; vault = refl }
    c.in-Some-hear.ensures.fit (record { some = grind (arith, common_steps); short = grind (arith, common_steps) })
    c.in-Some-hear.ensures.comes
    record { inbound = c.in-Some-hear.ensures.inbound; faults = c.in-Some-hear.ensures.count; vault = c.in-Some-hear.ensures.vault.later; settings = c.in-Some-hear.ensures.settings }

pub returns-in-Some-tick-clause-ends : goal.returns-in-Some-tick-clause-ends
returns-in-Some-tick-clause-ends g c =
    let laws : StepLaws = record { sends_law = c.law_steps.ensures.sends; holds_law = c.law_steps.ensures.holds } in
    ends_tick laws _ _ _ _ _ _ _ _ _ _ _ (grind (arith, common_steps))
    (goes_read laws _ _ _ _ _ _ _ _ _ _ c.loop-taken.invariant.0 c.in-Bytes.ensures.octets.2
    record { written = c.in-Bytes.ensures.written; faults = c.in-Bytes.ensures.cause.faults; quiets = c.in-Bytes.ensures.cause.quiets; state = refl; held = refl; vault = refl }
    c.in_default-hear.ensures.fit (record { some = grind (arith, common_steps); short = grind (arith, common_steps) })
    c.in_default-hear.ensures.comes (λ seen stands. c.in_default-hear.ensures.line seen stands refl) c.in_default-hear.ensures.place
    record { inbound = c.in_default-hear.ensures.inbound; faults = c.in_default-hear.ensures.count; vault = c.in_default-hear.ensures.vault.later; settings = c.in_default-hear.ensures.settings }
    (late_still _ _ _ c.in_default-hear.ensures.time c.loop-taken.invariant.0.late))
    c.in-Some-tick.ensures.ticks
    record { inbound = c.in-Some-tick.ensures.inbound; faults = c.in-Some-tick.ensures.count; vault = c.in-Some-tick.ensures.vault.later; settings = c.in-Some-tick.ensures.settings }

pub returns-in-Some-hear-clause-vault : goal.returns-in-Some-hear-clause-vault
returns-in-Some-hear-clause-vault g c = vault_then _ _ _ _ _ _ _ _ _ _ _ _ c.loop-taken.invariant.4 c.in-Some-hear.ensures.vault (λ z. absurd z) (λ z. cc) (λ z. cc)

pub returns-in-Some-tick-clause-vault : goal.returns-in-Some-tick-clause-vault
returns-in-Some-tick-clause-vault g c =
    vault_then _ _ _ _ _ _ _ _ _ _ _ _ (vault_then _ _ _ _ _ _ _ _ _ _ _ ⊥ c.loop-taken.invariant.4 c.in_default-hear.ensures.vault (λ z. absurd z) (λ z. absurd z) (λ z. cc)) c.in-Some-tick.ensures.vault (λ z. absurd z) (λ z. cc) (λ z. cc)

pub loop-taken-preserved-in_default-tick : goal.loop-taken-preserved-in_default-tick
loop-taken-preserved-in_default-tick g c =
    let laws : StepLaws = record { sends_law = c.law_steps.ensures.sends; holds_law = c.law_steps.ensures.holds } in
    let ticked =
    goes_tick laws _ _ _ _ _ _ _ _
    (goes_read laws _ _ _ _ _ _ _ _ _ _ c.loop-taken.invariant.0 c.in-Bytes.ensures.octets.2
    record { written = c.in-Bytes.ensures.written; faults = c.in-Bytes.ensures.cause.faults; quiets = c.in-Bytes.ensures.cause.quiets; state = refl; held = refl; vault = refl }
    c.in_default-hear.ensures.fit (record { some = grind (arith, common_steps); short = grind (arith, common_steps) })
    c.in_default-hear.ensures.comes (λ seen stands. c.in_default-hear.ensures.line seen stands refl) c.in_default-hear.ensures.place
    record { inbound = c.in_default-hear.ensures.inbound; faults = c.in_default-hear.ensures.count; vault = c.in_default-hear.ensures.vault.later; settings = c.in_default-hear.ensures.settings }
    (late_still _ _ _ c.in_default-hear.ensures.time c.loop-taken.invariant.0.late))
    c.in_default-tick.ensures.ticks
    record { inbound = c.in_default-tick.ensures.inbound; faults = c.in_default-tick.ensures.count; vault = c.in_default-tick.ensures.vault.later; settings = c.in_default-tick.ensures.settings }
    c.in_default-tick.ensures.late in (
      goes_count _ _ _ _ _ _ _ _ ticked (grind (arith, common_steps)),
      quiet_from _ _ _ _ _ _ _ ticked (g.K.Sink.inbound c.read.new.self) (c.in_default-tick.ensures.inbound ∙ c.in_default-hear.ensures.inbound) (none_run _ _ c.in-Bytes.ensures.octets.3),
      grind (arith, common_steps),
      c.requires.quiets.0,
      vault_then _ _ _ _ _ _ _ _ _ _ _ _ (vault_then _ _ _ _ _ _ _ _ _ _ _ ⊥ c.loop-taken.invariant.4 c.in_default-hear.ensures.vault (λ z. absurd z) (λ z. absurd z) (λ z. cc)) c.in_default-tick.ensures.vault (λ z. absurd z) (λ z. absurd z) (λ z. cc),
      c.in_default-tick.ensures.still (λ z. cc) ∙ c.in_default-hear.ensures.still (λ z. cc) ∙ c.in-Bytes.ensures.cause.still (λ z. cc) ∙ c.loop-taken.invariant.5,
      c.in_default-tick.ensures.settings ∙ c.in_default-hear.ensures.settings ∙ c.loop-taken.invariant.6,
    )

pub returns-in-Some-tick-2-clause-ends : goal.returns-in-Some-tick-2-clause-ends
returns-in-Some-tick-2-clause-ends g c =
    let laws : StepLaws = record { sends_law = c.law_steps.ensures.sends; holds_law = c.law_steps.ensures.holds } in
    ends_tick laws _ _ _ _ _ _ _ _ _ _ _ c.loop-taken.invariant.2
    (goes_wait _ _ _ _ _ _ _ c.loop-taken.invariant.0 c.in-Quiet.ensures.octets.0 (c.in-Quiet.ensures.cause.quiet refl)
    record { written = c.in-Quiet.ensures.written; faults = c.in-Quiet.ensures.cause.faults; quiets = c.in-Quiet.ensures.cause.quiets; state = refl; held = refl; vault = refl })
    c.in-Some-tick-2.ensures.ticks
    record { inbound = c.in-Some-tick-2.ensures.inbound; faults = c.in-Some-tick-2.ensures.count; vault = c.in-Some-tick-2.ensures.vault.later; settings = c.in-Some-tick-2.ensures.settings }

pub loop-taken-preserved : goal.loop-taken-preserved
loop-taken-preserved g c =
    let laws : StepLaws = record { sends_law = c.law_steps.ensures.sends; holds_law = c.law_steps.ensures.holds } in
    let ticked =
    goes_tick laws _ _ _ _ _ _ _ _
    (goes_wait _ _ _ _ _ _ _ c.loop-taken.invariant.0 c.in-Quiet.ensures.octets.0 (c.in-Quiet.ensures.cause.quiet refl)
    record { written = c.in-Quiet.ensures.written; faults = c.in-Quiet.ensures.cause.faults; quiets = c.in-Quiet.ensures.cause.quiets; state = refl; held = refl; vault = refl })
    c.in_default-tick-2.ensures.ticks
    record { inbound = c.in_default-tick-2.ensures.inbound; faults = c.in_default-tick-2.ensures.count; vault = c.in_default-tick-2.ensures.vault.later; settings = c.in_default-tick-2.ensures.settings }
    c.in_default-tick-2.ensures.late in
    let quiet = quiet_more _ _ _ _ (omega (arith, c.loop-taken.invariant.3, c.requires.quiets.1)) c.loop-taken.invariant.1 c.in-Quiet.ensures.octets.1 (c.in-Quiet.ensures.cause.quiet refl) in (
      ticked,
      quiet_kept _ _ _ _ quiet c.in_default-tick-2.ensures.inbound,
      c.loop-taken.invariant.2,
      omega (arith, c.loop-taken.invariant.3, c.if-quiet-quiets.false),
      vault_then _ _ _ _ _ _ _ _ _ _ _ _ c.loop-taken.invariant.4 c.in_default-tick-2.ensures.vault (λ z. absurd z) (λ z. absurd z) (λ z. cc),
      c.in_default-tick-2.ensures.still (λ z. cc) ∙ c.in-Quiet.ensures.cause.still (λ z. cc) ∙ c.loop-taken.invariant.5,
      c.in_default-tick-2.ensures.settings ∙ c.loop-taken.invariant.6,
    )

pub returns-in-Some-clause-quiet : goal.returns-in-Some-clause-quiet
returns-in-Some-clause-quiet g c = few_quiet c.args.quiets 0 (g.K.Sink.inbound c.args.link.now) (g.K.Sink.inbound c.args.link.now) _ _ (omega arith) (omega (arith, c.requires.quiets.0)) c.in-Some.ensures.inbound

pub returns-in-Some-tell-clause-quiet : goal.returns-in-Some-tell-clause-quiet
returns-in-Some-tell-clause-quiet g c = few_quiet c.args.quiets 0 (g.K.Sink.inbound c.args.link.now) (g.K.Sink.inbound c.args.link.now) _ _ (omega arith) (omega (arith, c.requires.quiets.0)) (c.in-Some-tell.ensures.inbound ∙ c.in_default.ensures.inbound)

pub returns-in-Some-hear-clause-quiet : goal.returns-in-Some-hear-clause-quiet
returns-in-Some-hear-clause-quiet g c = few_quiet c.args.quiets 0 (g.K.Sink.inbound c.args.link.now) (g.K.Sink.inbound c.read.new.self) _ _ (none_run _ _ c.in-Bytes.ensures.octets.3) (omega (arith, c.requires.quiets.0)) c.in-Some-hear.ensures.inbound

pub returns-in-Some-tick-clause-quiet : goal.returns-in-Some-tick-clause-quiet
returns-in-Some-tick-clause-quiet g c = few_quiet c.args.quiets 0 (g.K.Sink.inbound c.args.link.now) (g.K.Sink.inbound c.read.new.self) _ _ (none_run _ _ c.in-Bytes.ensures.octets.3) (omega (arith, c.requires.quiets.0)) (c.in-Some-tick.ensures.inbound ∙ c.in_default-hear.ensures.inbound)

pub returns-in-Some-tick-2-clause-quiet : goal.returns-in-Some-tick-2-clause-quiet
returns-in-Some-tick-2-clause-quiet g c =
    let quiet = quiet_more c.loop-taken.quiet (g.K.Sink.inbound c.args.link.now) (g.K.Sink.inbound c.loop-taken.link) (g.K.Sink.inbound c.read.new.self) (omega (arith, c.loop-taken.invariant.3, c.requires.quiets.1)) c.loop-taken.invariant.1 c.in-Quiet.ensures.octets.1 (c.in-Quiet.ensures.cause.quiet refl) in
    few_quiet c.args.quiets (c.loop-taken.quiet + 1) (g.K.Sink.inbound c.args.link.now) (g.K.Sink.inbound c.read.new.self) _ _ quiet.most (omega (arith, c.loop-taken.invariant.3, c.if-quiet-quiets.false)) c.in-Some-tick-2.ensures.inbound

pub returns-in-End-clause-quiet : goal.returns-in-End-clause-quiet
returns-in-End-clause-quiet g c =
    let most = c.loop-taken.invariant.1.most in
    omega (arith, most, c.loop-taken.invariant.3, c.in-End.ensures.octets.2)

pub returns-in-Failed-clause-quiet : goal.returns-in-Failed-clause-quiet
returns-in-Failed-clause-quiet g c =
    let most = c.loop-taken.invariant.1.most in
    omega (arith, most, c.loop-taken.invariant.3, c.in-Failed.ensures.octets.1)

pub returns-clause-quiet : goal.returns-clause-quiet
returns-clause-quiet g c =
    let most = c.loop-taken.invariant.1.most in
    omega (arith, most, c.loop-taken.invariant.3)
