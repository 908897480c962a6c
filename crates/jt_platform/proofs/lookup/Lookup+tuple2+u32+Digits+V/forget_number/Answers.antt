use Rattle.std.proofs.Common.{rules, ◌==◌, not, ap, ◌∙◌, filter}
use Rattle.std.proofs.lemmas.Map.Made.{filter_same_pairs}
use Rattle.jt_platform.proofs.lookup.Lookup+tuple2+u32+Digits+V.forget_number.Goals as goal

pub returns : goal.returns
returns g c = filter_same_pairs _ (λ e. not (c.args.number == e.0.0)) _ (λ k v b w f' t. search rules) _ _ c.retain.ensures.filtered ∙ ap (λ es. filter (λ e. not (c.args.number == e.0.0)) es) c.self.view_is
