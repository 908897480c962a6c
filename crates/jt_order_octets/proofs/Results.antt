-- Each result of an order is a number of one octet.
use Rattle.std.proofs.Common.{ℕ, zero, suc, ◌-◌, ◌≤◌, ◌≡◌, List, [], ◌∷◌, length, Option, Some, None, Bool, true, false, slice_get, arith, refl, sym, subst, Result, Ok, Err}
use Rattle.std.specs.Prelude.{if◌then◌else◌, ◌==◌}
use Rattle.jt_value.specs.Serials.{serial_of}
use Rattle.jt_value.specs.declared.refusal.Refusal.{Refusal}
use Rattle.jt_params.specs.Tables.{Table}
use Rattle.jt_regions.specs.Tables.{Regions}
use Rattle.jt_regions.specs.declared.change.RegionChange.TheVariants as change
use Rattle.jt_codec.specs.declared.message.Message.{Message}
use Rattle.jt_codec.specs.declared.message.Message.TheVariants as message
use Rattle.jt_regions.specs.Changes.{regions_after}
use Rattle.jt_terminal_rule.specs.Tables.{params_after}
use Rattle.jt_terminal_answers.specs.Performing.{HeldTables, with_params, with_regions, message_outcome}
use Rattle.jt_order.specs.Orders.{OrderOf}
use Rattle.jt_order.specs.Rules.{is_last, kept_result, ruling_by}
use Rattle.jt_order.specs.declared.performed.Performed.{Performed}
use Rattle.jt_order.specs.declared.rules.Ruling.TheVariants.{Again, Performs, Refuses}
use Rattle.jt_obeying.specs.Orders.{last_performed, ruling, tables_behind}
use Rattle.jt_obeying.specs.Performing.{reading, reading_outcome, terminal_performing}
use Rattle.jt_obeying.specs.Record.{AreResults}

params_small : (t : HeldTables) (o : Option Table) → (with_params t o).0 ≤ 3
params_small t None = omega arith
params_small t (Some table) = omega arith

regions_small : (t : HeldTables) (o : Option Regions) → (with_regions t o).0 ≤ 3
regions_small t None = omega arith
regions_small t (Some regions) = omega arith

pub message_small : (t : HeldTables) (m : Message) → (message_outcome t m).0 ≤ 3
message_small t (message.SetParams params) = params_small t (params_after params t.params)
message_small t (message.Text flag kind text) = omega arith
message_small t (message.Circles setting list) = regions_small t (regions_after (change.Circles setting list) t.regions)
message_small t (message.Rectangles setting list) = regions_small t (regions_after (change.Rectangles setting list) t.regions)
message_small t (message.Polygon polygon) = regions_small t (regions_after (change.Polygon polygon) t.regions)
message_small t (message.Route route) = regions_small t (regions_after (change.Route route) t.regions)
message_small t (message.Delete kind ids) = regions_small t (regions_after (change.Delete kind ids) t.regions)
message_small t _ = omega arith

reading_small : (t : HeldTables) (r : Result Message Refusal) → (reading_outcome t r).0 ≤ 3
reading_small t (Ok m) = message_small t m
reading_small t (Err refusal) = omega arith

-- each one of the log
log_small : (t : HeldTables) (log : List Performed) (place : ℕ) (p : Performed) → AreResults terminal_performing t log → slice_get log place ≡ Some p → p.result ≤ 3
log_small t [] place p are e = absurd (none e)
  where
    none : ◌≡◌ {A = Option Performed} None (Some p) → ⊥
    none h = cc
log_small t (q ∷ log) zero p are e = subst (λ (x : Performed). x.result ≤ 3) (some q p e)
    (subst (λ (k : ℕ). k ≤ 3) (sym are.0.2) (reading_small t (reading are.0.0 q.order)))
  where
    some : (a b : Performed) → ◌≡◌ {A = Option Performed} (Some a) (Some b) → a ≡ b
    some a b h = cc
log_small t (q ∷ log) (suc place) p are e = log_small (tables_behind terminal_performing t q) log place p are.1 e

kept_small : (t : HeldTables) (log : List Performed) (place : ℕ) (o : Option Performed) → AreResults terminal_performing t log → slice_get log place ≡ o → kept_result o ≤ 3
kept_small t log place None are e = omega arith
kept_small t log place (Some p) are e = log_small t log place p are e

-- what a ruling responds again is the result of the order that was performed last
again_kept : (count : ℕ) (last : Option Performed) (serial : ℕ) (order : OrderOf) (result : ℕ) → ruling_by count last serial order ≡ Again result → result ≡ kept_result last
again_kept count last serial order result e = by (is_last count last serial order) (serial == serial_of count) e
  where
    by : (a b : Bool) → (if a then Again (kept_result last) else if b then Performs else Refuses) ≡ Again result → result ≡ kept_result last
    by true b e = cc
    by false true e = absurd (none e)
      where
        none : Performs ≡ Again result → ⊥
        none h = cc
    by false false e = absurd (none e)
      where
        none : Refuses ≡ Again result → ⊥
        none h = cc

pub again_small : (t : HeldTables) (log : List Performed) (serial : ℕ) (order : OrderOf) (result : ℕ) → AreResults terminal_performing t log → ruling log serial order ≡ Again result → result ≤ 3
again_small t log serial order result are e =
    subst (λ (k : ℕ). k ≤ 3) (sym (again_kept (length log) (last_performed log) serial order result e)) (kept_small t log (length log - 1) (last_performed log) are refl)
