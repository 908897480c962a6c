use Rattle.std.proofs.Common.{◌≡◌, ap, length, arith, rules, refl, take, drop}
use Rattle.jt_outside.specs.ScriptLink.{NextFails}
use Rattle.jt_outside.proofs.Reading.{left_more, octet_in_order, octet_more, octets_in_order, taken_more}
use Rattle.jt_outside.proofs.script_link.ScriptLinkLink.read.Goals as goal

pub returns-else-count-eq0-clause-octets : goal.returns-else-count-eq0-clause-octets
returns-else-count-eq0-clause-octets c =
    let same = rw c.deref-in-Octets.ensures.value at c.copy_from-count.ensures.octets in
    rw (← c.self.view_is, c.in-Octets.is) (
      omega (arith, c.if-count-eq0.false),
      omega (arith, c.copy_from-count.ensures.count, c.copy_from-count.ensures.length),
      record {
        left = left_more c.self.inside.at c.copy_from-count.result c.self.inside.octets.items c.copy_from-count.new.buf same;
        taken = taken_more c.self.inside.at c.copy_from-count.result c.self.inside.octets.items c.copy_from-count.new.buf same;
      },
      refl,
    )

pub returns-else-count-eq0-clause-in_order : goal.returns-else-count-eq0-clause-in_order
returns-else-count-eq0-clause-in_order c =
    let same = rw c.deref-in-Octets.ensures.value at c.copy_from-count.ensures.octets in
    let count = rw c.deref-in-Octets.ensures.value at c.copy_from-count.ensures.count in
    let never : NextFails c.args.self.now → ⊥ = search rules in
    rw (← c.self.view_is, c.in-Octets.is)
    (octets_in_order _ _ c.self.inside.at c.copy_from-count.result c.self.inside.octets.items c.args.buf.now c.copy_from-count.new.buf (omega (arith, c.self.invariant.0 c.in-Octets.is, c.deref-in-Octets.ensures.len, ap length c.deref-in-Octets.ensures.value)) count same c.copy_from-count.ensures.length (λ e. omega (arith, c.if-count-eq0.false, e))
    (rw (← c.self.view_is) at never) refl refl refl refl (record { quiets = refl; run = refl; written = refl; room = refl; failing = refl; calls = search rules; faults = refl }))

pub returns-else-count-eq0-2-clause-octets : goal.returns-else-count-eq0-2-clause-octets
returns-else-count-eq0-2-clause-octets c =
    rw (← c.self.view_is, c.in-Endless.is) (
      omega (arith, c.if-count-eq0-2.false),
      omega (arith, c.fill_with-count.ensures.count, c.fill_with-count.ensures.length),
      record { left = tt; taken = octet_more c.in-Endless.octet c.self.inside.at c.fill_with-count.result c.fill_with-count.new.buf c.fill_with-count.ensures.octets },
      refl,
    )

pub returns-else-count-eq0-2-clause-in_order : goal.returns-else-count-eq0-2-clause-in_order
returns-else-count-eq0-2-clause-in_order c =
    let never : NextFails c.args.self.now → ⊥ = search rules in
    rw (← c.self.view_is, c.in-Endless.is)
    (octet_in_order _ _ c.in-Endless.octet c.self.inside.at c.fill_with-count.result c.args.buf.now c.fill_with-count.new.buf c.fill_with-count.ensures.count c.fill_with-count.ensures.octets c.fill_with-count.ensures.length (λ e. omega (arith, c.if-count-eq0-2.false, e))
    (rw (← c.self.view_is) at never) refl refl refl refl (record { quiets = refl; run = refl; written = refl; room = refl; failing = refl; calls = search rules; faults = refl }))
