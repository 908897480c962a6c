-- In each gateway world that is reached fixes are passed on.
use Rattle.std.proofs.Common.{◌≡◌, ℕ, List, [], ◌∷◌, ◌++◌, length, take, refl, sym, ap, ◌∙◌, subst, All}
use Rattle.std.specs.Prelude.{drop}
use Rattle.std.proofs.lemmas.List.Elements.{All-drop, All-take}
use mathlib.Core.List.{IsPrefix}
use Rattle.jt_value.specs.Reaching.{MayAll, after_all}
use Rattle.jt_value.specs.declared.phone.Phone.{Phone}
use Rattle.jt_header.specs.Content.{IsPhone}
use Rattle.jt_position.specs.Fixes.{IsFix}
use Rattle.jt_delivery.specs.World.{Setting}
use Rattle.jt_octets.specs.World.{World, empty}
use Rattle.jt_octets.specs.Steps.{Event, MayCome, after}
use Rattle.jt_octets.specs.Reaching.{Reached}
use Rattle.jt_octets.specs.Claim.{EachReachedIsKept, Kept}
use Rattle.jt_gateway.specs.World.{GatewayWorld, fixes_behind, fixes_stored, gateway_empty}
use Rattle.jt_gateway.specs.Steps.{GatewayStep, InA, InB, Pumps, MayStepOn, ReachedGateway, gateway_after, world_with_fixes}
use Rattle.jt_gateway.specs.Claim.{BothAreReached, EachLedPasses, EachReachedPasses, Passed}
use Rattle.jt_gateway.proofs.Prefixes.{all_in_prefix, prefix_fixes, prefix_more, prefix_trans}
use Rattle.jt_gateway.proofs.Leaving.{reached_after, reached_fixes, reached_with_fixes, recorded_by, recorded_stays, rows_grow}

record Sound (g : GatewayWorld) : Type 0 where
  a : Reached g.a
  b : Reached g.b
  relayed : IsPrefix g.b.terminal.recorded (fixes_stored g.a)

a_sound : (g : GatewayWorld) (event : Event) → Sound g → MayCome g.a event → Sound (record g { a = after g.a event })
a_sound g event s may = record {
  a = reached_after g.a event s.a may;
  b = s.b;
  relayed = prefix_trans g.b.terminal.recorded (fixes_stored g.a) (fixes_stored (after g.a event)) s.relayed (prefix_fixes g.a.keeper.rows (after g.a event).keeper.rows (rows_grow g.a event));
}

module _ (kept : EachReachedIsKept) where
  -- what is to be passed on is fixes, as the rows' are of those recorded
  behind_fixes : (g : GatewayWorld) → Reached g.a → All IsFix (fixes_behind g)
  behind_fixes g r =
      All-drop IsFix (length g.b.terminal.recorded) (fixes_stored g.a)
      (all_in_prefix IsFix (fixes_stored g.a) g.a.terminal.recorded (kept g.a r).delivered.recorded (reached_fixes g.a r))

  pump_sound : (g : GatewayWorld) (n : ℕ) → Sound g → Sound (record g { b = world_with_fixes g.b (take n (fixes_behind g)) })
  pump_sound g n s =
      let some = take n (fixes_behind g) in
      record {
        a = s.a;
        b = reached_with_fixes some g.b s.b (All-take IsFix n (fixes_behind g) (behind_fixes g s.a));
        relayed = subst (λ (l : List (List ℕ)). IsPrefix l (fixes_stored g.a)) (sym (recorded_by some g.b)) (prefix_more g.b.terminal.recorded (fixes_stored g.a) n s.relayed);
      }

  step_sound : (g : GatewayWorld) (s : GatewayStep) → Sound g → MayStepOn g s → Sound (gateway_after g s)
  step_sound g (InA event) sound may = a_sound g event sound may
  step_sound g (InB event) sound may =
      record {
        a = sound.a;
        b = reached_after g.b event sound.b may.0;
        relayed = subst (λ (l : List (List ℕ)). IsPrefix l (fixes_stored g.a)) (sym (recorded_stays g.b event may.1)) sound.relayed;
      }
  step_sound g (Pumps n) sound may = pump_sound g n sound

  all_sound : (g : GatewayWorld) (steps : List GatewayStep) → Sound g → MayAll MayStepOn gateway_after g steps → Sound (after_all gateway_after g steps)
  all_sound g [] sound may = sound
  all_sound g (s ∷ steps) sound may = all_sound (gateway_after g s) steps (step_sound g s sound may.0) may.1

  empty_reached : (phone : Phone) (setting : Setting) → IsPhone phone → Reached (empty phone setting)
  empty_reached phone setting good = record { phone = phone; good = good; setting = setting; leads = record { events = []; may = tt; to = refl } }

  reached_sound : (g : GatewayWorld) → ReachedGateway g → Sound g
  reached_sound g r = subst Sound r.leads.to (all_sound (gateway_empty r.phone_a r.phone_b r.setting_a r.setting_b) r.leads.events begins r.leads.may)
    where
      begins : Sound (gateway_empty r.phone_a r.phone_b r.setting_a r.setting_b)
      begins = record { a = empty_reached r.phone_a r.setting_a r.good_a; b = empty_reached r.phone_b r.setting_b r.good_b; relayed = ([], refl) }

  sound_passes : (g : GatewayWorld) → Sound g → Passed g
  sound_passes g s =
      let a = (kept g.a s.a).delivered in
      let b = (kept g.b s.b).delivered in
      record { upstream = b.recorded; relayed = s.relayed; middle = a.recorded; units = b.first_units; told = b.told }

  pub each_passes : EachReachedPasses
  each_passes g r = sound_passes g (reached_sound g r)

  pub each_led : EachLedPasses
  each_led g h r l = sound_passes h (subst Sound l.to (all_sound g l.events (reached_sound g r) l.may))

  pub both_reached : BothAreReached
  both_reached g r = let s = reached_sound g r in (s.a, s.b)
