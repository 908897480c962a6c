-- A relay of rows is a pump.
use Rattle.std.proofs.Common.{◌≡◌, ℕ, List, [], ◌∷◌, ◌++◌, length, take, Option, Result, refl, sym, ap, ◌∙◌, subst, append_assoc}
use Rattle.std.specs.Prelude.{drop}
use Rattle.std.proofs.Math.Seq.{drop-append_seam, take-append_seam}
use mathlib.Core.List.{IsPrefix}
use Rattle.jt_value.specs.declared.phone.Phone.{Phone}
use Rattle.jt_store.specs.Units.{fixes_in}
use Rattle.jt_store.specs.Vaults.{Held}
use Rattle.jt_terminal_rule.specs.Steps as step
use Rattle.jt_octets.specs.World.{World}
use Rattle.jt_octets.specs.Steps.{Does, after}
use Rattle.jt_relay.specs.Prefixes.{Follows, FollowsAlways}
use Rattle.jt_relay.specs.declared.relayed.Relayed.{Relayed}
use Rattle.jt_relay.specs.declared.relayed.RelayError.{RelayError}
use Rattle.jt_gateway.specs.World.{GatewayWorld, fixes_behind, fixes_stored}
use Rattle.jt_gateway.specs.Steps.{Pumps, ReachedGateway, gateway_after, world_with_fixes}
use Rattle.jt_gateway.specs.Claim.{EachReachedPasses}
use Rattle.jt_gateway.specs.Relay.{EachRelayIsPump, IsPump}
use Rattle.jt_gateway.proofs.Gateways.{pump_leads, reached_on}
use Rattle.jt_gateway.proofs.Leaving.{recorded_by}

phone_stays : (fixes : List (List ℕ)) (w : World) → (world_with_fixes w fixes).terminal.phone ≡ w.terminal.phone
phone_stays [] w = refl
phone_stays (fix ∷ fixes) w = phone_stays fixes (after w (Does (step.Records fix)))

-- the first of what is behind
taken : (recorded more rest all : List (List ℕ)) → (recorded ++ more) ++ rest ≡ all → take (length more) (drop (length recorded) all) ≡ more
taken recorded more rest all is =
    ap (λ (l : List (List ℕ)). take (length more) (drop (length recorded) l)) (sym is ∙ append_assoc recorded more rest)
    ∙ (ap (take (length more)) (drop-append_seam recorded (more ++ rest)) ∙ take-append_seam more rest)

module _ (g : GatewayWorld) (old new : Held) (result : Result Relayed RelayError) (same : old.recorded ≡ g.b.terminal.recorded) (follows : Follows g.a.keeper.rows old new result) where
  abbrev more : List (List ℕ)
  more = follows.kept.0

  abbrev count : ℕ
  count = length more

  recorded_is : g.b.terminal.recorded ++ more ≡ new.recorded
  recorded_is = ap (λ (l : List (List ℕ)). l ++ more) (sym same) ∙ follows.kept.1

  taken_is : take count (fixes_behind g) ≡ more
  taken_is = taken g.b.terminal.recorded more follows.passed.0 (fixes_stored g.a) (ap (λ (l : List (List ℕ)). l ++ follows.passed.0) recorded_is ∙ follows.passed.1)

  pumps : ReachedGateway g → IsPump g old new result
  pumps r = record {
    count = count;
    reached = reached_on g (gateway_after g (Pumps count)) r (pump_leads g count) (ap (λ (phone : Phone). phone.edition) (phone_stays (take count (fixes_behind g)) g.b) ∙ r.edition);
    recorded = sym recorded_is ∙ (ap (λ (l : List (List ℕ)). g.b.terminal.recorded ++ l) (sym taken_is) ∙ sym (recorded_by (take count (fixes_behind g)) g.b));
    all = follows.all;
    follows = follows;
  }

pub each_relay : FollowsAlways → EachReachedPasses → EachRelayIsPump
each_relay always passes g r limit old now result same relays =
    let first : IsPrefix old.recorded (fixes_in g.a.keeper.rows) = subst (λ (l : List (List ℕ)). IsPrefix l (fixes_stored g.a)) (sym same) (passes g r).relayed in
    let f = always g.a.keeper.rows limit old now result relays first in
    (f.0, f.1, pumps g old f.0 result same f.2 r)
