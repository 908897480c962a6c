-- Every order world that is reached keeps the rule, and so is as claimed.
use Rattle.std.proofs.Common.{ℕ, List, [], ◌∷◌, ◌++◌, length, take, drop, arith, refl, ap, ◌∙◌, subst, ◌≡◌}
use Rattle.std.proofs.lemmas.Bool.{false≢true}
use Rattle.std.proofs.lemmas.List.{take-append-drop}
use Rattle.jt_value.specs.declared.phone.Edition.{Edition}
use Rattle.jt_value.specs.Reaching.{MayAll, after_all}
use Rattle.jt_delivery.specs.World.{Setting}
use mathlib.Core.List.{IsPrefix}
use Rattle.jt_obeying.specs.Orders.{Performing, results_in, orders_in}
use Rattle.jt_obeying.specs.World.{OrderWorld}
use Rattle.jt_obeying.specs.Steps.{Event, Issues, Opens, Says, Takes, Offers, Hears, Misses, Passes, Loses, RestartsTerminal, Cuts, RestartsPlatform, May, after}
use Rattle.jt_obeying.specs.Reaching.{empty, Reached}
use Rattle.jt_obeying.specs.Record.{Stands}
use Rattle.jt_obeying.specs.Claim.{Obeyed, EachReachedIsObeyed, EachIssuedIsOrder, NoneIsRefused, EachIsSentInTurn, OneIsUnderWay, EventsKeepIt}
use Rattle.jt_obeying.proofs.Lines.{new_ok, issue_kept, open_kept, say_kept, offer_kept, lose_kept, begin_kept}
use Rattle.jt_obeying.proofs.Hearing.{hear_kept, miss_kept, pass_kept}
use Rattle.jt_obeying.proofs.Turning.{take_kept, cut_kept, restart_kept}

step_kept : (w : OrderWorld) (event : Event) → Stands w → May w event → Stands (after w event)
step_kept w (Issues order) v m = issue_kept w order v m
step_kept w Opens v m = open_kept w v
step_kept w Says v m = say_kept w v
step_kept w (Takes number message rest outcome telling) v m = take_kept w number message rest outcome telling v m.0 m.1 m.2
step_kept w (Offers number) v m = offer_kept w number v m
step_kept w (Hears message rest) v m = hear_kept w message rest v m.0.in_use m.0.first m.1
step_kept w (Passes message rest) v m = pass_kept w message rest v m.0.in_use m.0.first
step_kept w (Misses message rest) v m = miss_kept w message rest v m.in_use m.first
step_kept w Loses v m = lose_kept w v
step_kept w (RestartsTerminal edition) v m = begin_kept w edition v
step_kept w (Cuts number) v m = cut_kept w number v
step_kept w RestartsPlatform v m = restart_kept w v

empty_stands : (key : List ℕ) (setting : Setting) (performing : Performing) (edition : Edition) → Stands (empty key setting performing edition)
empty_stands key setting performing edition = record {
  answered_performed = omega arith;
  one_more = omega arith;
  performed_issued = omega arith;
  orders = λ place lt. absurd (omega (arith, lt));
  performed = refl;
  results = refl;
  by_tables = tt;
  tables = refl;
  lines = λ l. new_ok 0 0 [] key [] l;
  in_use = λ u. absurd (false≢true u);
  none_refused = refl;
}

pub events_keep : EventsKeepIt
events_keep = record { begins = empty_stands; keeps = step_kept }

all_kept : (w : OrderWorld) (events : List Event) → Stands w → MayAll May after w events → Stands (after_all after w events)
all_kept w [] v m = v
all_kept w (event ∷ events) v m = all_kept (after w event) events (step_kept w event v m.0) m.1

pub reached_stands : (w : OrderWorld) → Reached w → Stands w
reached_stands w r = subst Stands r.leads.to
    (all_kept (empty r.key r.setting r.performing r.first_edition) r.leads.events (empty_stands r.key r.setting r.performing r.first_edition) r.leads.may)

front : {A : Type 0} (n : ℕ) (xs ys : List A) → xs ≡ take n ys → IsPrefix xs ys
front {A} n xs ys e = (drop n ys, ap (λ (z : List A). z ++ drop n ys) e ∙ take-append-drop n ys)

pub stands_obeyed : (w : OrderWorld) → Stands w → Obeyed w
stands_obeyed w v = record {
  performed = front (length w.log) (orders_in w.log) w.issued v.performed;
  answered = v.answered_performed;
  results_are = front (length w.results) w.results (results_in w.log) v.results;
  by_tables = v.by_tables;
  tables = v.tables;
}

pub reached_obeyed : EachReachedIsObeyed
reached_obeyed w r = stands_obeyed w (reached_stands w r)

pub each_issued : EachIssuedIsOrder
each_issued w r = (reached_stands w r).orders

pub none_refused : NoneIsRefused
none_refused w r = (reached_stands w r).none_refused

pub each_sent_in_turn : EachIsSentInTurn
each_sent_in_turn w r number place sent = ((reached_stands w r).lines number).sent place sent

pub one_under_way : OneIsUnderWay
one_under_way w r number is_open holds = ((reached_stands w r).lines number).one is_open holds
