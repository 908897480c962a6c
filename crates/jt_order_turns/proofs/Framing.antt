-- What the terminal sees of an order's frame is what the world says of it; and a general response of its own names what it answers.
use Rattle.std.proofs.Common.{ℕ, ◌+◌, ◌++◌, length, ◌≡◌, ◌==◌, List, arith, refl, ap, sym, ◌∙◌, subst, Bool, true, false, if◌then◌else◌, Option, Some, None, Result, Ok, Err}
use Rattle.std.specs.Prelude.{nat_le}
use Rattle.std.specs.Result.{is_err}
use Rattle.std.specs.Int.{w16, to_be_bytes}
use Rattle.std.proofs.lemmas.Bool.{eqb-true, eqb-false}
use Rattle.jt_value.specs.declared.limits.TheConstants.{BODY_LIMIT}
use Rattle.jt_value.specs.declared.phone.Edition.{Edition}
use Rattle.jt_value.specs.declared.phone.Edition.TheVariants.{E2013, E2019}
use Rattle.jt_value.specs.declared.refusal.Refusal.{Refusal}
use Rattle.jt_header.specs.declared.header.Header.{Header}
use Rattle.jt_params.specs.declared.param.Param.{Param}
use Rattle.jt_params.specs.Tables.{Table}
use Rattle.jt_regions.specs.declared.change.RegionChange.TheVariants as change
use Rattle.jt_regions.specs.Tables.{Regions}
use Rattle.jt_codec.specs.declared.message.Message.{Message}
use Rattle.jt_codec.specs.declared.message.Message.TheVariants as message
use Rattle.jt_terminal_rule.specs.declared.state.State.{State}
use Rattle.jt_terminal_rule.specs.declared.state.AnswerKind.TheVariants.{Position}
use Rattle.jt_terminal_rule.specs.Answers.{answer_to, answer_to_lack, only_says, responds, takes_params, takes_regions, tells_position}
use Rattle.jt_regions.specs.Changes.{regions_after}
use Rattle.jt_terminal_rule.specs.Tables.{params_after}
use Rattle.jt_order.specs.Orders.{OrderOf, IsOrder}
use Rattle.jt_terminal_answers.specs.Performing.{HeldTables, with_params, with_regions, message_outcome}
use Rattle.jt_obeying.specs.Orders.{Performing, order_at, performed_over, tables_behind}
use Rattle.jt_obeying.specs.World.{OrderWorld}
use Rattle.jt_obeying.specs.Performing.{EditionsLeaveTheSame, reading_outcome, reading, order_outcome, terminal_performing}
use Rattle.jt_order_turns.specs.Headers.{order_header}
use Rattle.jt_order_turns.specs.Frames.{IsSeen, FramesAreSeen, NamesItsMessage, ResponsesName}

-- ---- with another result than 0 the tables stay

params_stay : (t : HeldTables) (after : Option Table) → ((with_params t after).0 ≡ 0 → ⊥) → (with_params t after).1 ≡ t
params_stay t None fails = refl
params_stay t (Some table) fails = absurd (fails refl)

regions_stay : (t : HeldTables) (after : Option Regions) → ((with_regions t after).0 ≡ 0 → ⊥) → (with_regions t after).1 ≡ t
regions_stay t None fails = refl
regions_stay t (Some regions) fails = absurd (fails refl)

tables_stay : (t : HeldTables) (m : Message) → ((message_outcome t m).0 ≡ 0 → ⊥) → (message_outcome t m).1 ≡ t
tables_stay t (message.SetParams params) fails = params_stay t (params_after params t.params) fails
tables_stay t (message.Text flag kind text) fails = refl
tables_stay t (message.Circles setting list) fails = regions_stay t (regions_after (change.Circles setting list) t.regions) fails
tables_stay t (message.Rectangles setting list) fails = regions_stay t (regions_after (change.Rectangles setting list) t.regions) fails
tables_stay t (message.Polygon polygon) fails = regions_stay t (regions_after (change.Polygon polygon) t.regions) fails
tables_stay t (message.Route route) fails = regions_stay t (regions_after (change.Route route) t.regions) fails
tables_stay t (message.Delete kind ids) fails = regions_stay t (regions_after (change.Delete kind ids) t.regions) fails
tables_stay t _ fails = refl

outcome_stays : (t : HeldTables) (r : Result Message Refusal) → ((reading_outcome t r).0 ≡ 0 → ⊥) → (reading_outcome t r).1 ≡ t
outcome_stays t (Ok m) fails = tables_stay t m fails
outcome_stays t (Err refusal) fails = refl

-- ---- an order's frame

module _ (same : EditionsLeaveTheSame) (edition : Edition) (t : HeldTables) (order : OrderOf) (is : IsOrder order) where
  abbrev outcome : ℕ × HeldTables
  outcome = order_outcome edition t order

  leaves_by : (done : Bool) → (outcome.0 == 0) ≡ done → outcome.1 ≡ (if done then terminal_performing.leaves t order else t)
  leaves_by true test = same edition t order is (eqb-true outcome.0 0 test)
  leaves_by false test = outcome_stays t (reading edition order) (eqb-false outcome.0 0 test)

  leaves_so : outcome.1 ≡ tables_behind terminal_performing t (performed_over terminal_performing edition t order)
  leaves_so = leaves_by (outcome.0 == 0) refl

module _ (same : EditionsLeaveTheSame) (w : OrderWorld) (first : Header) (place : ℕ) (by_terminal : w.performing ≡ terminal_performing) (edition : first.edition ≡ w.edition) where
  abbrev order : OrderOf
  order = order_at w.issued place

  seen_so : IsOrder order → IsSeen w place (order_header first place order) order.body
  seen_so is = record {
    whole = refl;
    refused = ap (λ (e : Edition). is_err (reading e order)) edition ∙ ap (λ (p : Performing). p.refuses w.edition order) (sym by_terminal);
    ruling = refl;
    result = ap (λ (e : Edition). (order_outcome e w.tables order).0) edition ∙ ap (λ (p : Performing). p.result w.edition w.tables order) (sym by_terminal);
    tables = ap (λ (e : Edition). (order_outcome e w.tables order).1) edition
        ∙ (leaves_so same w.edition w.tables order is ∙ ap (λ (p : Performing). tables_behind p w.tables (performed_over p w.edition w.tables order)) (sym by_terminal));
  }

pub frames_are_seen : EditionsLeaveTheSame → FramesAreSeen
frames_are_seen same w first place h octets by_terminal is f = subst (λ (g : Header). IsSeen w place g octets) (sym f.header)
    (subst (λ (b : List ℕ). IsSeen w place (order_header first place (order_at w.issued place)) b) (sym f.body) (seen_so same w first place by_terminal f.edition is))

-- ---- general responses of the terminal's own

module _ (s : State) (h : Header) where
  by_params : (params : List Param) (after : Option Table) → NamesItsMessage s h (takes_params s h params after).says
  by_params params None = (1, omega arith, refl)
  by_params params (Some table) = (0, omega arith, refl)

  by_regions : (after : Option Regions) → NamesItsMessage s h (takes_regions s h after).says
  by_regions None = (1, omega arith, refl)
  by_regions (Some regions) = (0, omega arith, refl)

  by_length : (b : Bool) (octets : List ℕ) → NamesItsMessage s h (if b then only_says s (Some (Position, octets)) else responds s h 1).says
  by_length true octets = tt
  by_length false octets = (1, omega arith, refl)

  by_position : (fix : Option (List ℕ)) → NamesItsMessage s h (tells_position s h fix).says
  by_position None = (1, omega arith, refl)
  by_position (Some fix) = by_length (nat_le (2 + length fix) BODY_LIMIT) (to_be_bytes w16 h.serial ++ fix)

  by_message : (m : Message) → NamesItsMessage s h (answer_to s h m).says
  by_message (message.SetParams params) = by_params params (params_after params s.params)
  by_message message.QueryParams = tt
  by_message (message.QuerySome ids) = tt
  by_message message.QueryPosition = by_position s.last
  by_message (message.Text flag kind text) = (0, omega arith, refl)
  by_message (message.Circles setting list) = by_regions (regions_after (change.Circles setting list) s.regions)
  by_message (message.Rectangles setting list) = by_regions (regions_after (change.Rectangles setting list) s.regions)
  by_message (message.Polygon polygon) = by_regions (regions_after (change.Polygon polygon) s.regions)
  by_message (message.Route route) = by_regions (regions_after (change.Route route) s.regions)
  by_message (message.Delete kind ids) = by_regions (regions_after (change.Delete kind ids) s.regions)
  by_message (message.PlatformAck reply id result) = tt
  by_message (message.RegisterReply reply) = tt
  by_message (message.Resend resend) = tt
  by_message _ = (3, omega arith, refl)

  by_lack : (edition : Edition) (first : ℕ) (numbers : List ℕ) → NamesItsMessage s h (answer_to_lack s edition first numbers).says
  by_lack E2013 first numbers = tt
  by_lack E2019 first numbers = tt

pub responses_name : ResponsesName
responses_name = record { message = by_message; refused = λ s h. (2, omega arith, refl); lack = by_lack }
