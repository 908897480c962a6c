-- Events one after another, in any kind of world.
use Rattle.std.proofs.Common.{◌≡◌, List, [], ◌∷◌, ◌++◌, refl, ap, sym, ◌∙◌, subst}
use Rattle.jt_value.specs.Reaching.{MayAll, after_all, Leads}

pub may_append : {W E : Type 0} (May : W → E → Type 0) (after : W → E → W) (w : W) (events more : List E) → MayAll May after w events
    → MayAll May after (after_all after w events) more → MayAll May after w (events ++ more)
may_append May after w [] more may then_may = then_may
may_append May after w (event ∷ events) more may then_may = (may.0, may_append May after (after w event) events more may.1 then_may)

pub after_append : {W E : Type 0} (after : W → E → W) (w : W) (events more : List E) → after_all after w (events ++ more) ≡ after_all after (after_all after w events) more
after_append after w [] more = refl
after_append after w (event ∷ events) more = after_append after (after w event) events more

pub leads_same : {W E : Type 0} (May : W → E → Type 0) (after : W → E → W) (a b : W) → b ≡ a → Leads May after a b
leads_same May after a b e = record { events = []; may = tt; to = sym e }

pub leads_one : {W E : Type 0} (May : W → E → Type 0) (after : W → E → W) (a b : W) (event : E) → May a event → b ≡ after a event → Leads May after a b
leads_one May after a b event may e = record { events = event ∷ []; may = (may, tt); to = sym e }

pub leads_both : {W E : Type 0} (May : W → E → Type 0) (after : W → E → W) (a b c : W) → Leads May after a b → Leads May after b c → Leads May after a c
leads_both {W} May after a b c first second = record {
  events = first.events ++ second.events;
  may = may_append May after a first.events second.events first.may (subst (λ (w : W). MayAll May after w second.events) (sym first.to) second.may);
  to = after_append after a first.events second.events ∙ (ap (λ (w : W). after_all after w second.events) first.to ∙ second.to);
}
