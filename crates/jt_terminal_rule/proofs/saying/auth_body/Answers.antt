use Rattle.std.proofs.Common.{subst, sym, ◌∙◌, arith, List, ℕ}
use Rattle.jt_register.specs.Registration.{auth}
use Rattle.jt_terminal_rule.proofs.Speaking.{auth_fits}
use Rattle.jt_terminal_rule.proofs.saying.auth_body.Goals as goal

pub write_auth-requires : goal.write_auth-requires
write_auth-requires c =
    let fits = auth_fits c.args.settings.now.phone.edition c.args.settings.now.tail c.args.code.now c.requires.good.tail (λ i. omega (arith, c.type_inv.code i)) c.requires.short in
    subst (λ (code : List ℕ). (auth c.args.settings.now.phone.edition).Fits (record { code = code; tail = c.args.settings.now.tail })) (sym (c.from_vec.ensures ∙ c.in_ok-from_slice.ensures.items)) fits
