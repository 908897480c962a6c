use Rattle.std.proofs.Common.{sym, ap, ◌∙◌, arith}
use Rattle.std.specs.List.{position}
use Rattle.jt_subpacket.specs.Partials.{same_key}
use Rattle.jt_subpacket.specs.Fates.{Taken}
use Rattle.jt_subpacket.proofs.Places.{goes_on_told, begins_told, place_kept}
use Rattle.jt_subpacket.proofs.assembler.take_in.Goals as goal

pub go_on-requires-clause-kept : goal.go_on-requires-clause-kept
go_on-requires-clause-kept c =
    place_kept c.args.partials.now.items c.args.header.now c.args.packet c.of-key.result c.in-Some.place c.requires.kept c.requires.low c.requires.high c.of-key.ensures
    (ap (position (λ p. same_key p.key c.of-key.result)) (sym c.as_slice.ensures.value) ∙ sym c.place_of.ensures ∙ c.in-Some.is)

pub returns-in_ok-go_on-in-Some-clause-dropped : goal.returns-in_ok-go_on-in-Some-clause-dropped
returns-in_ok-go_on-in-Some-clause-dropped c =
    (goes_on_told c.args.partials.now.items c.args.header.now c.args.body.now c.args.packet c.of-key.result c.in-Some.place c.in_ok-go_on-in-Some.field-0 c.go_on.new.partials.items (omega arith) c.if-packet-eq1.false c.of-key.ensures
    (ap (position (λ p. same_key p.key c.of-key.result)) (sym c.as_slice.ensures.value) ∙ sym c.place_of.ensures ∙ c.in-Some.is)
    c.in_ok-go_on-in-Some.ensures.ok).dropped_is

pub returns-in_ok-go_on-in-Some-clause-fate : goal.returns-in_ok-go_on-in-Some-clause-fate
returns-in_ok-go_on-in-Some-clause-fate c =
    (goes_on_told c.args.partials.now.items c.args.header.now c.args.body.now c.args.packet c.of-key.result c.in-Some.place c.in_ok-go_on-in-Some.field-0 c.go_on.new.partials.items (omega arith) c.if-packet-eq1.false c.of-key.ensures
    (ap (position (λ p. same_key p.key c.of-key.result)) (sym c.as_slice.ensures.value) ∙ sym c.place_of.ensures ∙ c.in-Some.is)
    c.in_ok-go_on-in-Some.ensures.ok).fate_is

pub returns-in_ok-go_on-in-Some-clause-ok : goal.returns-in_ok-go_on-in-Some-clause-ok
returns-in_ok-go_on-in-Some-clause-ok c =
    (goes_on_told c.args.partials.now.items c.args.header.now c.args.body.now c.args.packet c.of-key.result c.in-Some.place c.in_ok-go_on-in-Some.field-0 c.go_on.new.partials.items (omega arith) c.if-packet-eq1.false c.of-key.ensures
    (ap (position (λ p. same_key p.key c.of-key.result)) (sym c.as_slice.ensures.value) ∙ sym c.place_of.ensures ∙ c.in-Some.is)
    c.in_ok-go_on-in-Some.ensures.ok).now_is

pub returns-in_ok-begin-in-None-clause-dropped : goal.returns-in_ok-begin-in-None-clause-dropped
returns-in_ok-begin-in-None-clause-dropped c =
    c.in_ok-begin-in-None.ensures.dropped ∙ ap (λ (answer : Taken). answer.dropped)
    (begins_told c.args.partials.now.items c.args.header.now c.args.body.now c.args.packet c.of-key.result (omega arith) c.if-packet-eq1.false c.of-key.ensures
    (ap (position (λ p. same_key p.key c.of-key.result)) (sym c.as_slice.ensures.value) ∙ sym c.place_of.ensures ∙ c.in-None.is))

pub returns-in_ok-begin-in-None-clause-fate : goal.returns-in_ok-begin-in-None-clause-fate
returns-in_ok-begin-in-None-clause-fate c =
    c.in_ok-begin-in-None.ensures.fate ∙ ap (λ (answer : Taken). answer.fate)
    (begins_told c.args.partials.now.items c.args.header.now c.args.body.now c.args.packet c.of-key.result (omega arith) c.if-packet-eq1.false c.of-key.ensures
    (ap (position (λ p. same_key p.key c.of-key.result)) (sym c.as_slice.ensures.value) ∙ sym c.place_of.ensures ∙ c.in-None.is))

pub returns-in_ok-begin-in-None-clause-ok : goal.returns-in_ok-begin-in-None-clause-ok
returns-in_ok-begin-in-None-clause-ok c =
    c.in_ok-begin-in-None.ensures.ok ∙ ap (λ (answer : Taken). answer.partial)
    (begins_told c.args.partials.now.items c.args.header.now c.args.body.now c.args.packet c.of-key.result (omega arith) c.if-packet-eq1.false c.of-key.ensures
    (ap (position (λ p. same_key p.key c.of-key.result)) (sym c.as_slice.ensures.value) ∙ sym c.place_of.ensures ∙ c.in-None.is))
