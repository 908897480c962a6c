use Rattle.std.proofs.Common.{rules, ◌≡◌, ◌<◌, ◌++◌, ◌∷◌, [], length, inr, ap, sym, subst, refl, ◌∙◌}
use Rattle.jt_agent.specs.Tries.{Tries, between}
use Rattle.jt_agent.specs.declared.ending.Attempted.TheVariants as attempted
use Rattle.jt_agent.proofs.Going.{rose_later, vault_then}
use Rattle.jt_agent.proofs.Trying.{tries_more, dials_told, dials_broken, dials_none, dials_none_broken, not_done, breaks_of, as_short, one_longer}
use Rattle.jt_agent.proofs.reporting.report_all.Goals as goal

pub returns-then-done-clause-dials : goal.returns-then-done-clause-dials
returns-then-done-clause-dials g c =
    dials_told c.loop-alloc.ends.items c.from_vec.result
    (between c.args.terminal.now.state (g.V.Vault.holds c.args.terminal.now.vault) (g.V.Vault.faults c.args.terminal.now.vault) (g.C.Clock.time c.args.clock.now) (g.D.Dial.pool c.args.dial.now) (g.D.Dial.faults c.args.dial.now))
    (between c.loop-alloc.terminal.state (g.V.Vault.holds c.loop-alloc.terminal.vault) (g.V.Vault.faults c.loop-alloc.terminal.vault) (g.C.Clock.time c.loop-alloc.clock) (g.D.Dial.pool c.loop-alloc.dial) (g.D.Dial.faults c.loop-alloc.dial)) c.from_vec.ensures c.loop-alloc.invariant.0

pub returns-in_default-clause-dials : goal.returns-in_default-clause-dials
returns-in_default-clause-dials g c =
    dials_none c.loop-alloc.ends.items
    (between c.args.terminal.now.state (g.V.Vault.holds c.args.terminal.now.vault) (g.V.Vault.faults c.args.terminal.now.vault) (g.C.Clock.time c.args.clock.now) (g.D.Dial.pool c.args.dial.now) (g.D.Dial.faults c.args.dial.now))
    (between c.loop-alloc.terminal.state (g.V.Vault.holds c.loop-alloc.terminal.vault) (g.V.Vault.faults c.loop-alloc.terminal.vault) (g.C.Clock.time c.loop-alloc.clock) (g.D.Dial.pool c.loop-alloc.dial) (g.D.Dial.faults c.loop-alloc.dial)) c.loop-alloc.invariant.0

pub returns-in-Done-clause-reports : goal.returns-in-Done-clause-reports
returns-in-Done-clause-reports g c =
    let same : c.from_vec-in-Done.result ≡ c.loop-alloc.ends.items = (c.from_vec-in-Done.ensures ∙ c.in-Ok.ensures.items) in
    let less : length c.loop-alloc.ends.items < c.args.tries = search rules in
    inr (
      as_short c.loop-alloc.ends.items c.from_vec-in-Done.result c.args.tries same less,
      breaks_of c.loop-alloc.ends.items c.from_vec-in-Done.result
          (between c.args.terminal.now.state (g.V.Vault.holds c.args.terminal.now.vault) (g.V.Vault.faults c.args.terminal.now.vault) (g.C.Clock.time c.args.clock.now) (g.D.Dial.pool c.args.dial.now) (g.D.Dial.faults c.args.dial.now))
          (between c.loop-alloc.terminal.state (g.V.Vault.holds c.loop-alloc.terminal.vault) (g.V.Vault.faults c.loop-alloc.terminal.vault) (g.C.Clock.time c.loop-alloc.clock) (g.D.Dial.pool c.loop-alloc.dial) (g.D.Dial.faults c.loop-alloc.dial))
          (between c.try_once.new.terminal.state (g.V.Vault.holds c.try_once.new.terminal.vault) (g.V.Vault.faults c.try_once.new.terminal.vault) (g.C.Clock.time c.try_once.new.clock) (g.D.Dial.pool c.try_once.new.dial) (g.D.Dial.faults c.try_once.new.dial))
          attempted.Done same c.loop-alloc.invariant.0 (not_done c.loop-alloc.terminal.state c.if-done.ensures.done) c.in-Done.ensures.tried,
    )

pub returns-in-Done-clause-dials : goal.returns-in-Done-clause-dials
returns-in-Done-clause-dials g c =
    dials_broken c.loop-alloc.ends.items c.from_vec-in-Done.result
    (between c.args.terminal.now.state (g.V.Vault.holds c.args.terminal.now.vault) (g.V.Vault.faults c.args.terminal.now.vault) (g.C.Clock.time c.args.clock.now) (g.D.Dial.pool c.args.dial.now) (g.D.Dial.faults c.args.dial.now))
    (between c.loop-alloc.terminal.state (g.V.Vault.holds c.loop-alloc.terminal.vault) (g.V.Vault.faults c.loop-alloc.terminal.vault) (g.C.Clock.time c.loop-alloc.clock) (g.D.Dial.pool c.loop-alloc.dial) (g.D.Dial.faults c.loop-alloc.dial))
    (between c.try_once.new.terminal.state (g.V.Vault.holds c.try_once.new.terminal.vault) (g.V.Vault.faults c.try_once.new.terminal.vault) (g.C.Clock.time c.try_once.new.clock) (g.D.Dial.pool c.try_once.new.dial) (g.D.Dial.faults c.try_once.new.dial))
    attempted.Done (c.from_vec-in-Done.ensures ∙ c.in-Ok.ensures.items) c.loop-alloc.invariant.0 c.in-Done.ensures.tried

pub returns-in-StoreFault-clause-reports : goal.returns-in-StoreFault-clause-reports
returns-in-StoreFault-clause-reports g c =
    let same : c.from_vec-in-StoreFault.result ≡ c.loop-alloc.ends.items = (c.from_vec-in-StoreFault.ensures ∙ c.in-Ok.ensures.items) in
    let less : length c.loop-alloc.ends.items < c.args.tries = search rules in (
      as_short c.loop-alloc.ends.items c.from_vec-in-StoreFault.result c.args.tries same less,
      breaks_of c.loop-alloc.ends.items c.from_vec-in-StoreFault.result
          (between c.args.terminal.now.state (g.V.Vault.holds c.args.terminal.now.vault) (g.V.Vault.faults c.args.terminal.now.vault) (g.C.Clock.time c.args.clock.now) (g.D.Dial.pool c.args.dial.now) (g.D.Dial.faults c.args.dial.now))
          (between c.loop-alloc.terminal.state (g.V.Vault.holds c.loop-alloc.terminal.vault) (g.V.Vault.faults c.loop-alloc.terminal.vault) (g.C.Clock.time c.loop-alloc.clock) (g.D.Dial.pool c.loop-alloc.dial) (g.D.Dial.faults c.loop-alloc.dial))
          (between c.try_once.new.terminal.state (g.V.Vault.holds c.try_once.new.terminal.vault) (g.V.Vault.faults c.try_once.new.terminal.vault) (g.C.Clock.time c.try_once.new.clock) (g.D.Dial.pool c.try_once.new.dial) (g.D.Dial.faults c.try_once.new.dial))
          attempted.StoreFault same c.loop-alloc.invariant.0 (not_done c.loop-alloc.terminal.state c.if-done.ensures.done) c.in-StoreFault.ensures.tried,
    )

pub returns-in-StoreFault-clause-failed : goal.returns-in-StoreFault-clause-failed
returns-in-StoreFault-clause-failed g c = λ fault. rose_later _ _ _ c.loop-alloc.invariant.5.later c.in-StoreFault.ensures.tried.attempt.cause

pub returns-in-StoreFault-clause-dials : goal.returns-in-StoreFault-clause-dials
returns-in-StoreFault-clause-dials g c =
    dials_broken c.loop-alloc.ends.items c.from_vec-in-StoreFault.result
    (between c.args.terminal.now.state (g.V.Vault.holds c.args.terminal.now.vault) (g.V.Vault.faults c.args.terminal.now.vault) (g.C.Clock.time c.args.clock.now) (g.D.Dial.pool c.args.dial.now) (g.D.Dial.faults c.args.dial.now))
    (between c.loop-alloc.terminal.state (g.V.Vault.holds c.loop-alloc.terminal.vault) (g.V.Vault.faults c.loop-alloc.terminal.vault) (g.C.Clock.time c.loop-alloc.clock) (g.D.Dial.pool c.loop-alloc.dial) (g.D.Dial.faults c.loop-alloc.dial))
    (between c.try_once.new.terminal.state (g.V.Vault.holds c.try_once.new.terminal.vault) (g.V.Vault.faults c.try_once.new.terminal.vault) (g.C.Clock.time c.try_once.new.clock) (g.D.Dial.pool c.try_once.new.dial) (g.D.Dial.faults c.try_once.new.dial))
    attempted.StoreFault (c.from_vec-in-StoreFault.ensures ∙ c.in-Ok.ensures.items) c.loop-alloc.invariant.0 c.in-StoreFault.ensures.tried

pub loop-alloc-preserved : goal.loop-alloc-preserved
loop-alloc-preserved g c =
    let is : c.push.new.self.items ≡ c.loop-alloc.ends.items ++ c.in-Ended.end ∷ [] = c.in-Ok-push.ensures.items ∙ ap (λ l. l ++ c.in-Ended.end ∷ []) c.in-Ok.ensures.items in
    let less : length c.loop-alloc.ends.items < c.args.tries = search rules in
    let tries = tries_more c.loop-alloc.ends.items c.in-Ended.end
    (between c.args.terminal.now.state (g.V.Vault.holds c.args.terminal.now.vault) (g.V.Vault.faults c.args.terminal.now.vault) (g.C.Clock.time c.args.clock.now) (g.D.Dial.pool c.args.dial.now) (g.D.Dial.faults c.args.dial.now))
    (between c.loop-alloc.terminal.state (g.V.Vault.holds c.loop-alloc.terminal.vault) (g.V.Vault.faults c.loop-alloc.terminal.vault) (g.C.Clock.time c.loop-alloc.clock) (g.D.Dial.pool c.loop-alloc.dial) (g.D.Dial.faults c.loop-alloc.dial))
    (between c.try_once.new.terminal.state (g.V.Vault.holds c.try_once.new.terminal.vault) (g.V.Vault.faults c.try_once.new.terminal.vault) (g.C.Clock.time c.try_once.new.clock) (g.D.Dial.pool c.try_once.new.dial) (g.D.Dial.faults c.try_once.new.dial)) c.loop-alloc.invariant.0 (not_done c.loop-alloc.terminal.state c.if-done.ensures.done) c.in-Ended.ensures.tried in (
      subst (λ l. Tries l
          (between c.args.terminal.now.state (g.V.Vault.holds c.args.terminal.now.vault) (g.V.Vault.faults c.args.terminal.now.vault) (g.C.Clock.time c.args.clock.now) (g.D.Dial.pool c.args.dial.now) (g.D.Dial.faults c.args.dial.now))
          (between c.try_once.new.terminal.state (g.V.Vault.holds c.try_once.new.terminal.vault) (g.V.Vault.faults c.try_once.new.terminal.vault) (g.C.Clock.time c.try_once.new.clock) (g.D.Dial.pool c.try_once.new.dial) (g.D.Dial.faults c.try_once.new.dial))) (sym is) tries,
      one_longer c.loop-alloc.ends.items c.push.new.self.items c.in-Ended.end c.args.tries is less,
      c.in-Ended.ensures.down,
      c.in-Ended.ensures.late,
      c.in-Ended.ensures.settings ∙ c.loop-alloc.invariant.4,
      vault_then _ _ _ _ _ _ _ _ _ _ _ _ c.loop-alloc.invariant.5 c.in-Ended.ensures.vault (λ z. absurd z) (λ z. absurd z) (λ z. cc),
      λ none. c.in-Ended.ensures.sent (c.loop-alloc.invariant.6 none),
    )

pub returns-in-Memory-clause-reports : goal.returns-in-Memory-clause-reports
returns-in-Memory-clause-reports g c =
    let less : length c.loop-alloc.ends.items < c.args.tries = search rules in (
      c.loop-alloc.ends.items,
      less,
      inr (breaks_of c.loop-alloc.ends.items c.loop-alloc.ends.items
          (between c.args.terminal.now.state (g.V.Vault.holds c.args.terminal.now.vault) (g.V.Vault.faults c.args.terminal.now.vault) (g.C.Clock.time c.args.clock.now) (g.D.Dial.pool c.args.dial.now) (g.D.Dial.faults c.args.dial.now))
          (between c.loop-alloc.terminal.state (g.V.Vault.holds c.loop-alloc.terminal.vault) (g.V.Vault.faults c.loop-alloc.terminal.vault) (g.C.Clock.time c.loop-alloc.clock) (g.D.Dial.pool c.loop-alloc.dial) (g.D.Dial.faults c.loop-alloc.dial))
          (between c.try_once.new.terminal.state (g.V.Vault.holds c.try_once.new.terminal.vault) (g.V.Vault.faults c.try_once.new.terminal.vault) (g.C.Clock.time c.try_once.new.clock) (g.D.Dial.pool c.try_once.new.dial) (g.D.Dial.faults c.try_once.new.dial))
          attempted.Memory refl c.loop-alloc.invariant.0 (not_done c.loop-alloc.terminal.state c.if-done.ensures.done) c.in-Memory.ensures.tried),
    )

pub returns-in-Memory-clause-dials : goal.returns-in-Memory-clause-dials
returns-in-Memory-clause-dials g c =
    dials_none_broken c.loop-alloc.ends.items
    (between c.args.terminal.now.state (g.V.Vault.holds c.args.terminal.now.vault) (g.V.Vault.faults c.args.terminal.now.vault) (g.C.Clock.time c.args.clock.now) (g.D.Dial.pool c.args.dial.now) (g.D.Dial.faults c.args.dial.now))
    (between c.loop-alloc.terminal.state (g.V.Vault.holds c.loop-alloc.terminal.vault) (g.V.Vault.faults c.loop-alloc.terminal.vault) (g.C.Clock.time c.loop-alloc.clock) (g.D.Dial.pool c.loop-alloc.dial) (g.D.Dial.faults c.loop-alloc.dial))
    (between c.try_once.new.terminal.state (g.V.Vault.holds c.try_once.new.terminal.vault) (g.V.Vault.faults c.try_once.new.terminal.vault) (g.C.Clock.time c.try_once.new.clock) (g.D.Dial.pool c.try_once.new.dial) (g.D.Dial.faults c.try_once.new.dial))
    attempted.Memory c.loop-alloc.invariant.0 c.in-Memory.ensures.tried

pub returns-then-done-2-clause-dials : goal.returns-then-done-2-clause-dials
returns-then-done-2-clause-dials g c =
    dials_told c.loop-alloc.ends.items c.from_vec-then-done-2.result
    (between c.args.terminal.now.state (g.V.Vault.holds c.args.terminal.now.vault) (g.V.Vault.faults c.args.terminal.now.vault) (g.C.Clock.time c.args.clock.now) (g.D.Dial.pool c.args.dial.now) (g.D.Dial.faults c.args.dial.now))
    (between c.loop-alloc.terminal.state (g.V.Vault.holds c.loop-alloc.terminal.vault) (g.V.Vault.faults c.loop-alloc.terminal.vault) (g.C.Clock.time c.loop-alloc.clock) (g.D.Dial.pool c.loop-alloc.dial) (g.D.Dial.faults c.loop-alloc.dial)) c.from_vec-then-done-2.ensures c.loop-alloc.invariant.0

pub returns-else-done-2-clause-dials : goal.returns-else-done-2-clause-dials
returns-else-done-2-clause-dials g c =
    dials_told c.loop-alloc.ends.items c.from_vec-else-done-2.result
    (between c.args.terminal.now.state (g.V.Vault.holds c.args.terminal.now.vault) (g.V.Vault.faults c.args.terminal.now.vault) (g.C.Clock.time c.args.clock.now) (g.D.Dial.pool c.args.dial.now) (g.D.Dial.faults c.args.dial.now))
    (between c.loop-alloc.terminal.state (g.V.Vault.holds c.loop-alloc.terminal.vault) (g.V.Vault.faults c.loop-alloc.terminal.vault) (g.C.Clock.time c.loop-alloc.clock) (g.D.Dial.pool c.loop-alloc.dial) (g.D.Dial.faults c.loop-alloc.dial)) c.from_vec-else-done-2.ensures c.loop-alloc.invariant.0
