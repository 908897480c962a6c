use Rattle.std.proofs.Common.{◌≡◌, List, ℕ, ◌++◌, sym, subst, refl, arith, ◌∙◌}
use Rattle.std.specs.Prelude.{OnOk, string_bytes}
use Rattle.std.specs.Str.{IsUtf8}
use Rattle.jt_text.proofs.NamedValues.{number_behind, utf8_number, short_number, room_for}
use Rattle.jt_text.proofs.values.push_named_number.Goals as goal

pub write_digits-digits-requires : goal.write_digits-digits-requires
write_digits-digits-requires c = (omega (arith, short_number c.args.number (omega arith)), omega arith)

pub overflow_sub-start : goal.overflow_sub-start
overflow_sub-start c = omega (arith, short_number c.args.number (omega arith), c.write_digits-digits.ensures.start)

pub copy_from_slice-requires : goal.copy_from_slice-requires
copy_from_slice-requires c =
    room_for _ _ _ (omega (arith, short_number c.args.number (omega arith), c.write_digits-digits.ensures.start)) (omega (arith, c.write_digits-digits.ensures.start)) ∙ sym c.as_bytes.ensures.len

pub push_text-requires : goal.push_text-requires
push_text-requires c =
    subst IsUtf8
    (sym (number_behind c.args.name.now c.copy_from_slice.new.self c.write_digits-digits.new.buf _ c.args.number c.write_digits-digits.result 36 (rw c.as_bytes.ensures.value at c.copy_from_slice.ensures.after)
    (omega (arith, short_number c.args.number (omega arith), c.write_digits-digits.ensures.start)) c.write_digits-digits.ensures.start (omega arith) c.write_digits-digits.ensures.written refl))
    (utf8_number c.args.name.now c.args.number c.utf8.name (omega arith))

pub returns-clause-text : goal.returns-clause-text
returns-clause-text c =
    subst (λ (put : List ℕ). OnOk c.push_text.result (string_bytes c.push_text.new.text ≡ string_bytes c.args.text.now ++ put))
    (number_behind c.args.name.now c.copy_from_slice.new.self c.write_digits-digits.new.buf _ c.args.number c.write_digits-digits.result 36 (rw c.as_bytes.ensures.value at c.copy_from_slice.ensures.after)
    (omega (arith, short_number c.args.number (omega arith), c.write_digits-digits.ensures.start)) c.write_digits-digits.ensures.start (omega arith) c.write_digits-digits.ensures.written refl)
    c.push_text.ensures.text
