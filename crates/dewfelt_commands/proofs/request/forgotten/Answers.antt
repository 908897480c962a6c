use Rattle.std.proofs.Common.{◌≡◌, ◌∙◌, ℕ, List, ap, drop, subst, sym, take}
use Rattle.dewfelt_settings.specs.Phones.{IsPhoneText}
use Rattle.dewfelt_commands.proofs.Forgetting.{no_phone}
use Rattle.dewfelt_commands.proofs.request.forgotten.Goals as goal

pub returns-in_default-2 : goal.returns-in_default-2
returns-in_default-2 c =
    let none = rw c.in_default-2.is at c.in_ok-phone.ensures in
    let same : c.in-Some.digits.now ≡ take 20 (drop 7 c.args.text.now) = c.in-Some.ensures ∙ ap (λ (t : List ℕ). take 20 (drop 7 t)) c.as_bytes.ensures.value in
    λ digits written. no_phone c.args.text.now digits (λ it. none (subst IsPhoneText (sym same) it)) written
