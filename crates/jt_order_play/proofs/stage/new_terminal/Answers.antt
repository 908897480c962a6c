use Rattle.std.proofs.Common.{ap}
use Rattle.jt_store.specs.Memory.{Stock}
use Rattle.jt_play.proofs.Starting.{is_new, is_sound}
use Rattle.jt_order_play.proofs.stage.new_terminal.Goals as goal

pub returns-in-Ok-clause-new : goal.returns-in-Ok-clause-new
returns-in-Ok-clause-new c =
    let vault = c.new-vault.ensures in
    let ok = c.in-Ok.ensures.ok in
    is_new c.args.settings c.new-vault.result c.in-Ok.terminal (ap (λ (v : Stock). v.held) vault) (ap (λ (v : Stock). v.limit) vault) ok.0 ok.1 ok.2

pub returns-in-Ok-clause-sound : goal.returns-in-Ok-clause-sound
returns-in-Ok-clause-sound c =
    let vault = c.new-vault.ensures in
    let ok = c.in-Ok.ensures.ok in
    is_sound c.law_rule.ensures.first c.args.settings c.requires c.in_ok-look_at_params.ensures c.in-Ok.terminal
    (is_new c.args.settings c.new-vault.result c.in-Ok.terminal (ap (λ (v : Stock). v.held) vault) (ap (λ (v : Stock). v.limit) vault) ok.0 ok.1 ok.2)
