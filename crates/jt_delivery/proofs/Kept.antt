-- Every world that is reached keeps the rule, and so is as claimed.
use Rattle.std.proofs.Common.{ℕ, zero, suc, ◌<◌, List, [], ◌∷◌, ◌++◌, length, take, arith, refl, ap, sym, ◌∙◌, subst}
use Rattle.std.proofs.lemmas.Bool.{false≢true}
use Rattle.std.proofs.lemmas.List.{append_assoc}
use Rattle.std.proofs.lemmas.List.Elements.{All-nil}
use Rattle.jt_position.specs.Fixes.{fixes_of}
use Rattle.jt_store.specs.declared.row.Row.{Row}
use Rattle.jt_store.specs.Verdicts.{VerdictsNear}
use Rattle.jt_platform.specs.declared.request.Entry.{Entry}
use Rattle.jt_delivery.specs.World.{World, Setting}
use mathlib.Core.List.{IsPrefix}
use Rattle.jt_store.specs.Units.{carried, fixes_in}
use Rattle.jt_delivery.specs.Steps.{Event, Records, Forms, Opens, Sends, Says, Answers, Hears, Accepts, Loses, Restarts, Cuts, RestartsPlatform, May, after}
use Rattle.jt_delivery.specs.Reaching.{empty, Reached}
use Rattle.jt_value.specs.Reaching.{MayAll, after_all}
use Rattle.jt_delivery.specs.Record.{Stands}
use Rattle.jt_delivery.specs.Claim.{IsKept, EachReachedIsKept, IsRenumbered, NoneReachedRenumbers}
use Rattle.jt_delivery.specs.Parts.{EventsKeepIt}
use Rattle.jt_delivery.proofs.Forming.{record_kept, form_kept, open_kept, lose_kept}
use Rattle.jt_delivery.proofs.Sending.{send_kept, say_kept}
use Rattle.jt_delivery.proofs.Hearing.{hear_kept, accept_kept}
use Rattle.jt_delivery.proofs.Answering.{answer_kept, cut_kept, restart_kept}

step_kept : VerdictsNear → (w : World) (event : Event) → Stands w → May w event → Stands (after w event)
step_kept near w (Records fix) v m = record_kept w fix v
step_kept near w (Forms unit) v m = form_kept w unit v m
step_kept near w Opens v m = open_kept w v
step_kept near w (Sends place) v m = send_kept w place v m
step_kept near w (Says message) v m = say_kept w message v m.0 m.1
step_kept near w (Answers number message rest outcome) v m = answer_kept near w number message rest outcome v m.0 m.1
step_kept near w (Hears answer rest named) v m = hear_kept w answer rest named v m.0 m.1 m.2
step_kept near w Accepts v m = accept_kept w v m.0 m.1
step_kept near w Loses v m = lose_kept w v
step_kept near w Restarts v m = lose_kept w v
step_kept near w (Cuts number) v m = cut_kept w number v m.0
step_kept near w RestartsPlatform v m = restart_kept w v

empty_stands : (key : List ℕ) (setting : Setting) → Stands (empty key setting)
empty_stands key setting = record {
  units = record { rise = λ i k l m. absurd (omega arith); near_before = λ i l. absurd (omega arith); near_first = λ l. absurd (omega arith); near_mark = λ i g l. absurd (omega arith) };
  rows = record { first_units = refl; stored = omega arith; accepted_stored = omega arith };
  lines = λ l lt. absurd (omega (arith, lt.0, lt.1));
  across = λ k l one kl lt. absurd (omega arith);
  takers = record { opened = λ l t. absurd t; unopened = λ l g. (refl, refl); fence = λ l k t. absurd t; holder_last = tt };
  last_row = λ some. absurd (omega arith);
  in_use = λ u. absurd (false≢true u);
  told = All-nil (λ (place : ℕ). place < 0);
  answers = All-nil (λ (e : Entry). IsRenumbered e.reply → ⊥);
  keeper = refl;
  fixes = ([], refl);
  just = tt;
}

pub events_keep : VerdictsNear → EventsKeepIt
events_keep near = record { begins = empty_stands; keeps = step_kept near }

all_kept : VerdictsNear → (w : World) (events : List Event) → Stands w → MayAll May after w events → Stands (after_all after w events)
all_kept near w [] v m = v
all_kept near w (event ∷ events) v m = all_kept near (after w event) events (step_kept near w event v m.0) m.1

pub reached_stands : VerdictsNear → (w : World) → Reached w → Stands w
reached_stands near w r = subst Stands r.leads.to (all_kept near (empty r.key r.setting) r.leads.events (empty_stands r.key r.setting) r.leads.may)

fixes_take : (n : ℕ) (rs : List Row) → IsPrefix (fixes_in (take n rs)) (fixes_in rs)
fixes_take zero rs = (fixes_in rs, refl)
fixes_take (suc n) [] = ([], refl)
fixes_take (suc n) (r ∷ rs) = let p : IsPrefix (fixes_in (take n rs)) (fixes_in rs) = fixes_take n rs in
    (p.0, append_assoc (fixes_of (carried r)) (fixes_in (take n rs)) p.0 ∙ ap (λ (z : List (List ℕ)). fixes_of (carried r) ++ z) p.1)

stands_kept : (w : World) → Stands w → IsKept w.recorded w.units w.accepted w.keeper.rows w.told
stands_kept w v = record { stored = v.rows.stored; first_units = v.rows.first_units; recorded = prefix; told = v.told; accepted = v.rows.accepted_stored }
  where
    prefix : IsPrefix (fixes_in w.keeper.rows) w.recorded
    prefix = let p : IsPrefix (fixes_in (take (length w.keeper.rows) w.units)) (fixes_in w.units) = fixes_take (length w.keeper.rows) w.units in (
      p.0 ++ v.fixes.0,
      ap (λ (rs : List Row). fixes_in rs ++ (p.0 ++ v.fixes.0)) v.rows.first_units ∙ (sym (append_assoc (fixes_in (take (length w.keeper.rows) w.units)) p.0 v.fixes.0) ∙ (ap (λ (z : List (List ℕ)). z ++ v.fixes.0) p.1 ∙ v.fixes.1)),
    )

pub reached_kept : VerdictsNear → EachReachedIsKept
reached_kept near w r = stands_kept w (reached_stands near w r)

pub reached_none : VerdictsNear → NoneReachedRenumbers
reached_none near w r = (reached_stands near w r).answers
