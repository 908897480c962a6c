-- Steps one after another, whose events can be read off.
use Rattle.std.proofs.Common.{◌≡◌, [], ◌∷◌, ◌++◌, ap, sym, ◌∙◌, subst, refl}
use Rattle.jt_value.specs.Reaching.{MayAll, after_all}
use Rattle.jt_value.proofs.Reaching.{after_append, may_append}
use Rattle.jt_order_octets.specs.World.{OrderWorld}
use Rattle.jt_order_octets.specs.Reaching.{Leads}
use Rattle.jt_order_octets.specs.Steps.{Event, MayCome, after}

abbrev pub no_step : (w now : OrderWorld) → now ≡ w → Leads w now
no_step w now e = record { events = []; may = tt; to = sym e }

abbrev pub one_step : (w : OrderWorld) (event : Event) → MayCome w event → Leads w (after w event)
one_step w event may = record { events = event ∷ []; may = (may, tt); to = refl }

abbrev pub steps_to : (w mid now : OrderWorld) → Leads w mid → mid ≡ now → Leads w now
steps_to w mid now l e = record { events = l.events; may = l.may; to = l.to ∙ e }

abbrev pub both_steps : (w mid now : OrderWorld) → Leads w mid → Leads mid now → Leads w now
both_steps w mid now first second = record {
  events = first.events ++ second.events;
  may = may_append MayCome after w first.events second.events first.may (subst (λ (v : OrderWorld). MayAll MayCome after v second.events) (sym first.to) second.may);
  to = after_append after w first.events second.events ∙ (ap (λ (v : OrderWorld). after_all after v second.events) first.to ∙ second.to);
}
