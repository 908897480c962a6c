use Rattle.std.proofs.Common.{◌≡◌, List, ℕ, string_bytes, true, false, subst, sym}
use Rattle.jt_input.specs.Text.{is_within}
use Rattle.jt_input.specs.declared.hearer.Heard.{Heard}
use Rattle.jt_play.specs.Scripts.{Scene}
use Rattle.jt_script.specs.EventLines.{says}
use Rattle.jt_world.specs.Hearing.{Does, GoesOn, IsBad, IsFull}
use Rattle.jt_world.specs.Making.{HasEnded}
use Rattle.jt_world.specs.declared.rehearsing.Rehearsed.TheVariants as rehearsed
use Rattle.jt_world.proofs.Made.{at_bad, at_beyond, at_full, at_next, refused}
use Rattle.jt_world.proofs.making.Making.hear.Goals as goal

pub returns-then-not-is_within : goal.returns-then-not-is_within
returns-then-not-is_within c = λ lines whole at.
    let m = c.args.self.now in
    let line = string_bytes m.line in
    let test = c.if-not-is_within.ensures.is in
    let bytes = c.as_bytes.ensures.value in
    let beyond : is_within m.number line ≡ false = cc in
    refused c.refuse.result c.refuse.new.self.world (string_bytes c.refuse.new.self.text) m.number c.refuse.new.self.number lines whole c.refuse.ensures.refused
    (at_beyond m.world c.refuse.new.self.world m.number line lines whole at beyond c.refuse.ensures.same.0)

pub returns-in-Ok-Next : goal.returns-in-Ok-Next
returns-in-Ok-Next c = λ lines whole at.
    let m = c.args.self.now in
    let line = string_bytes m.line in
    let test = c.if-not-is_within.ensures.is in
    let bytes = c.as_bytes.ensures.value in
    let within : is_within m.number line ≡ true = cc in
    let did = subst (λ (h : Heard). Does h m.world c.hear_line.new.self (says c.as_bytes-2.result.now) (string_bytes c.clear.new.self) (string_bytes c.hear_line.new.text)) c.in-Ok-Next.field-0-is (c.in-Ok-Next.ensures.does at.may) in
    at_next m.world c.hear_line.new.self m.number line lines whole at within (c.in-Ok-Next.ensures.may at.may) _ _
    (subst (λ (l : List ℕ). GoesOn m.world c.hear_line.new.self (says l) (string_bytes c.clear.new.self) (string_bytes c.hear_line.new.text)) c.as_bytes-2.ensures.value did)

pub returns-in-Ok-Bad : goal.returns-in-Ok-Bad
returns-in-Ok-Bad c = λ lines whole at.
    let m = c.args.self.now in
    let line = string_bytes m.line in
    let test = c.if-not-is_within.ensures.is in
    let bytes = c.as_bytes.ensures.value in
    let within : is_within m.number line ≡ true = cc in
    let did = subst (λ (h : Heard). Does h m.world c.hear_line.new.self (says c.as_bytes-2.result.now) (string_bytes c.clear.new.self) (string_bytes c.hear_line.new.text)) c.in-Ok-Bad.field-0-is (c.in-Ok-Bad.ensures.does at.may) in
    let r = c.refuse-in-Ok-Bad in
    refused r.result r.new.self.world (string_bytes r.new.self.text) m.number r.new.self.number lines whole r.ensures.refused
    (λ last is. subst (λ (s : Scene). HasEnded s last (rehearsed.BadLine m.number) whole) (sym r.ensures.same.0)
    (at_bad m.world c.hear_line.new.self m.number line lines whole at within _ _
    (subst (λ (l : List ℕ). IsBad m.world c.hear_line.new.self (says l) (string_bytes c.clear.new.self) (string_bytes c.hear_line.new.text)) c.as_bytes-2.ensures.value did) last is))

pub returns-in-Ok-Settled : goal.returns-in-Ok-Settled
returns-in-Ok-Settled c = λ lines whole at.
    let m = c.args.self.now in
    let line = string_bytes m.line in
    let test = c.if-not-is_within.ensures.is in
    let bytes = c.as_bytes.ensures.value in
    let within : is_within m.number line ≡ true = cc in
    let did = subst (λ (h : Heard). Does h m.world c.hear_line.new.self (says c.as_bytes-2.result.now) (string_bytes c.clear.new.self) (string_bytes c.hear_line.new.text)) c.in-Ok-Settled.field-0-is (c.in-Ok-Settled.ensures.does at.may) in
    at_full m.world c.hear_line.new.self m.number line lines whole at within (string_bytes c.clear.new.self) c.clear.ensures.bytes (string_bytes c.hear_line.new.text) c.in-Ok-Settled.field-0-0
    (subst (λ (l : List ℕ). IsFull m.world c.hear_line.new.self (says l) (string_bytes c.clear.new.self) (string_bytes c.hear_line.new.text) c.in-Ok-Settled.field-0-0) c.as_bytes-2.ensures.value did)
