-- Gateways: to which gateway worlds their lines lead.
use Rattle.std.proofs.Common.{◌≡◌, ℕ, zero, suc, ◌-◌, inl, inr, List, [], ◌∷◌, ◌++◌, map, length, take, drop, refl, sym, ap, ◌∙◌, subst}
use Rattle.std.specs.Prelude.{◌⊎◌}
use Rattle.std.proofs.lemmas.List.{append-nil, append_assoc, append_cancel_left}
use mathlib.Core.List.{IsPrefix}
use Rattle.jt_value.specs.Reaching.{MayAll, after_all, Leads as LeadsBy}
use Rattle.jt_value.proofs.Reaching.{leads_both, leads_one}
use Rattle.jt_value.specs.declared.phone.Edition.TheVariants.{E2019}
use Rattle.jt_terminal_rule.specs.Steps as step
use Rattle.jt_terminal_rule.specs.Steps.{TerminalStep}
use Rattle.jt_octets.specs.World.{World}
use Rattle.jt_octets.specs.Steps.{Event, Does, Up, Down, Cut, RestartPlatform, MayCome, after}
use Rattle.jt_octets.specs.Reaching.{Leads}
use Rattle.jt_play.specs.Playing.{Play, records}
use Rattle.jt_gateway.specs.World.{GatewayWorld, fixes_behind, fixes_stored, gateway_empty}
use Rattle.jt_gateway.specs.Steps.{GatewayLeads, GatewayStep, InA, InB, Pumps, IsNoRecord, MayStepOn, ReachedGateway, RecordsNothing, gateway_after, world_with_fixes}
use Rattle.jt_gateway.specs.Gateway.{play_with_fixes}
use Rattle.jt_gateway.specs.Pumping.{RecordsFirst}
use Rattle.jt_gateway.proofs.Leaving.{recorded_stays}
use Rattle.jt_gateway.proofs.Prefixes.{prefix_same, prefix_trans}

-- ---- steps of one world are steps of the gateway

a_may : (g : GatewayWorld) (events : List Event) → MayAll MayCome after g.a events → MayAll MayStepOn gateway_after g (map InA events)
a_may g [] may = tt
a_may g (event ∷ events) may = (may.0, a_may (record g { a = after g.a event }) events may.1)

a_to : (g : GatewayWorld) (events : List Event) → after_all gateway_after g (map InA events) ≡ record g { a = after_all after g.a events }
a_to g [] = refl
a_to g (event ∷ events) = a_to (record g { a = after g.a event }) events

pub a_leads : (g : GatewayWorld) (a : World) → Leads g.a a → GatewayLeads g (record g { a = a })
a_leads g a l = record { events = map InA l.events; may = a_may g l.events l.may; to = a_to g l.events ∙ ap (λ (w : World). record g { a = w }) l.to }

-- a step records nothing, or a fix
abbrev Recording : Event → Type 0
Recording event = RecordsNothing event ⊎ ((fix : List ℕ) × (event ≡ Does (step.Records fix)))

recording : (event : Event) → Recording event
recording (Does (step.Records fix)) = inr (fix, refl)
recording (Does (step.Forms unit)) = inl tt
recording (Does step.Opens) = inl tt
recording (Does (step.Sends place)) = inl tt
recording (Does (step.Says h body)) = inl tt
recording (Does step.Accepts) = inl tt
recording (Does step.Loses) = inl tt
recording (Does (step.Restarts phone)) = inl tt
recording (Does (step.Codes code)) = inl tt
recording (Up place way) = inl tt
recording (Down takes) = inl tt
recording (Cut place) = inl tt
recording RestartPlatform = inl tt

-- the fixes of before are the first ones
one_grows : (w : World) (event : Event) → IsPrefix w.terminal.recorded (after w event).terminal.recorded
one_grows w event = by (recording event)
  where
    by : Recording event → IsPrefix w.terminal.recorded (after w event).terminal.recorded
    by (inl none) = ([], append-nil w.terminal.recorded ∙ sym (recorded_stays w event none))
    by (inr one) = (one.0 ∷ [], ap (λ (e : Event). (after w e).terminal.recorded) (sym one.1))

all_grow : (w : World) (events : List Event) → IsPrefix w.terminal.recorded (after_all after w events).terminal.recorded
all_grow w [] = prefix_same w.terminal.recorded
all_grow w (event ∷ events) =
    let v = after w event in
    prefix_trans w.terminal.recorded v.terminal.recorded (after_all after v events).terminal.recorded (one_grows w event) (all_grow v events)

abbrev head_or : List ℕ → List (List ℕ) → List ℕ
head_or other [] = other
head_or other (fix ∷ fixes) = fix

-- one fix, and then more, are the first of others: it is the first one, and they are the first of the rest
record Taken (fix : List ℕ) (more fixes : List (List ℕ)) : Type 0 where
  one : take 1 fixes ≡ fix ∷ []
  count : ℕ
  rest : more ≡ take count (drop 1 fixes)

first_taken : (fix : List ℕ) (more : List (List ℕ)) (n : ℕ) (fixes : List (List ℕ)) → fix ∷ more ≡ take n fixes → Taken fix more fixes
first_taken fix more zero fixes is = absurd cc
first_taken fix more (suc n) [] is = absurd cc
first_taken fix more (suc n) (x ∷ fixes) is = record { one = ap (λ (y : List ℕ). y ∷ []) (sym (ap (head_or fix) is)); count = n; rest = ap (drop 1) is }

drop_one : (recorded : List (List ℕ)) (fix : List ℕ) (all : List (List ℕ)) → drop (length (recorded ++ fix ∷ [])) all ≡ drop 1 (drop (length recorded) all)
drop_one [] fix all = refl
drop_one (x ∷ recorded) fix [] = refl
drop_one (x ∷ recorded) fix (y ∷ all) = drop_one recorded fix all

module _ (g : GatewayWorld) (event : Event) (events : List Event) where
  abbrev next : GatewayWorld
  next = record g { b = after g.b event }

  abbrev recorded_last : List (List ℕ)
  recorded_last = (after_all after g.b (event ∷ events)).terminal.recorded

  -- so many of the fixes that are to be passed on are recorded in the end
  abbrev Ends : GatewayWorld → Type 0
  Ends h = RecordsFirst h.b.terminal.recorded recorded_last (fixes_behind h)

  quiet_ends : RecordsNothing event → Ends g → Ends next
  quiet_ends none ends =
      let same = recorded_stays g.b event none in
      record {
        count = ends.count;
        is = ends.is ∙ ap (λ (l : List (List ℕ)). l ++ take ends.count (drop (length l) (fixes_stored g.a))) (sym same);
      }

  module _ (fix : List ℕ) (is : event ≡ Does (step.Records fix)) (ends : Ends g) where
    recorded_is : (after g.b event).terminal.recorded ≡ g.b.terminal.recorded ++ fix ∷ []
    recorded_is = ap (λ (e : Event). (after g.b e).terminal.recorded) is

    grown : IsPrefix (after g.b event).terminal.recorded recorded_last
    grown = all_grow (after g.b event) events

    first : Taken fix grown.0 (fixes_behind g)
    first = first_taken fix grown.0 ends.count (fixes_behind g)
        (append_cancel_left g.b.terminal.recorded (fix ∷ grown.0) (take ends.count (fixes_behind g))
        (sym (append_assoc g.b.terminal.recorded (fix ∷ []) grown.0) ∙ (ap (λ (l : List (List ℕ)). l ++ grown.0) (sym recorded_is) ∙ (grown.1 ∙ ends.is))))

    behind_is : fixes_behind next ≡ drop 1 (fixes_behind g)
    behind_is = ap (λ (l : List (List ℕ)). drop (length l) (fixes_stored g.a)) recorded_is ∙ drop_one g.b.terminal.recorded fix (fixes_stored g.a)

    pumped_ends : Ends next
    pumped_ends = record {
      count = first.count;
      is = sym grown.1 ∙ ap (λ (l : List (List ℕ)). (after g.b event).terminal.recorded ++ l) (first.rest ∙ ap (take first.count) (sym behind_is));
    }

    pumped_is : next ≡ gateway_after g (Pumps 1)
    pumped_is = ap (λ (e : Event). record g { b = after g.b e }) is ∙ ap (λ (fixes : List (List ℕ)). record g { b = world_with_fixes g.b fixes }) (sym first.one)

  abbrev last : GatewayWorld
  last = record g { b = after_all after g.b (event ∷ events) }

  -- a step of world b, or a pump of one fix, and then the others
  b_first : MayCome g.b event → Ends g → (Ends next → GatewayLeads next last) → GatewayLeads g last
  b_first may ends others = by (recording event)
    where
      on : GatewayLeads g next → Ends next → GatewayLeads g last
      on leads then_ends = leads_both MayStepOn gateway_after g next last leads (others then_ends)

      by : Recording event → GatewayLeads g last
      by (inl none) = on (leads_one MayStepOn gateway_after g next (InB event) (may, none) refl) (quiet_ends none ends)
      by (inr one) = on (leads_one MayStepOn gateway_after g next (Pumps 1) tt (pumped_is one.0 one.1 ends)) (pumped_ends one.0 one.1 ends)

-- where some first of the fixes that are to be passed on were recorded in world b, steps of the gateway's world lead there
b_along : (g : GatewayWorld) (events : List Event) → MayAll MayCome after g.b events → RecordsFirst g.b.terminal.recorded (after_all after g.b events).terminal.recorded (fixes_behind g)
    → GatewayLeads g (record g { b = after_all after g.b events })
b_along g [] may ends = record { events = []; may = tt; to = refl }
b_along g (event ∷ events) may ends = b_first g event events may.0 ends (b_along (record g { b = after g.b event }) events may.1)

pub b_passes : (g : GatewayWorld) (b : World) → Leads g.b b → RecordsFirst g.b.terminal.recorded b.terminal.recorded (fixes_behind g) → GatewayLeads g (record g { b = b })
b_passes g b l first =
    subst (λ (w : World). GatewayLeads g (record g { b = w })) l.to
    (b_along g l.events l.may (subst (λ (w : World). RecordsFirst g.b.terminal.recorded w.terminal.recorded (fixes_behind g)) (sym l.to) first))

pub b_leads : (g : GatewayWorld) (b : World) → Leads g.b b → b.terminal.recorded ≡ g.b.terminal.recorded → GatewayLeads g (record g { b = b })
b_leads g b l same = b_passes g b l (record { count = 0; is = same ∙ sym (append-nil g.b.terminal.recorded) })

-- ---- a pump

pub records_world : (p : Play) (fixes : List (List ℕ)) → (play_with_fixes p fixes).world ≡ world_with_fixes p.world fixes
records_world p [] = refl
records_world p (fix ∷ fixes) = records_world (records p fix) fixes

pub pump_leads : (g : GatewayWorld) (n : ℕ) → GatewayLeads g (record g { b = world_with_fixes g.b (take n (fixes_behind g)) })
pump_leads g n = leads_one MayStepOn gateway_after g (record g { b = world_with_fixes g.b (take n (fixes_behind g)) }) (Pumps n) tt refl

-- ---- gateway worlds that are reached

pub reached_on : (g h : GatewayWorld) → ReachedGateway g → GatewayLeads g h → h.b.terminal.phone.edition ≡ E2019 → ReachedGateway h
reached_on g h r l edition = record {
  phone_a = r.phone_a;
  phone_b = r.phone_b;
  setting_a = r.setting_a;
  setting_b = r.setting_b;
  good_a = r.good_a;
  good_b = r.good_b;
  leads = leads_both MayStepOn gateway_after (gateway_empty r.phone_a r.phone_b r.setting_a r.setting_b) g h r.leads l;
  edition = edition;
}
