-- What the lines of a gateway's script do.
use Rattle.std.proofs.Common.{◌≡◌, ℕ, List, [], ◌∷◌, ◌++◌, take, length, Result, Ok, Err, IfOk, OnOk, true, false, inl, inr, refl, sym, ap, ◌∙◌, subst}
use Rattle.std.specs.Prelude.{◌↔◌}
use Rattle.std.proofs.lemmas.List.{append-nil}
use Rattle.jt_value.specs.Reaching.{Leads as LeadsBy}
use Rattle.jt_value.proofs.Reaching.{leads_both}
use Rattle.jt_value.specs.declared.limits.TheConstants.{FIX_LIMIT}
use Rattle.jt_value.specs.declared.phone.Edition.{Edition}
use Rattle.jt_value.specs.declared.phone.Edition.TheVariants.{E2013, E2019}
use Rattle.jt_value.specs.declared.phone.Phone.{Phone}
use Rattle.jt_platform.specs.declared.request.Entry.{Entry}
use Rattle.jt_terminal_rule.specs.Law.{RuleKeepsSettings}
use Rattle.jt_octets.specs.World.{World, empty}
use Rattle.jt_octets.specs.Reaching.{Leads, Reached}
use Rattle.jt_octets.specs.Steps.{MayCome, after}
use Rattle.jt_script.specs.declared.world_event.WorldEvent.{WorldEvent}
use Rattle.jt_script.specs.declared.world_event.WorldEvent.TheVariants as line
use Rattle.jt_play.specs.Playing.{Play, entries_between, finds_full, is_opened, play_after, records, starts_again}
use Rattle.jt_play.specs.Laws.{RecordsAtMost, recorded_by}
use Rattle.jt_play.specs.Scripts.{IsScripted, Names, Scene, edition_by, settings_in}
use Rattle.jt_play.specs.declared.error.WorldError.{WorldError}
use Rattle.jt_play.specs.declared.error.WorldError.TheVariants as refused
use Rattle.jt_play.proofs.Scenes.{named_not_full}
use Rattle.jt_world.specs.Rehearsal.{first, the_identity}
use Rattle.jt_gateway.specs.World.{GatewayWorld, fixes_behind, gateway_empty}
use Rattle.jt_gateway.specs.Steps.{GatewayLeads, MayStepOn, ReachedGateway, gateway_after, world_with_fixes}
use Rattle.jt_gateway.specs.Gateway.{GatewayScene, HasNoLine, IsGateway, IsLed, IsOf2019, entries_of, first_scene, gateway_after_line, gateway_full, is_line_of_b, play_with_fixes, room_for, scene_after, worlds_of}
use Rattle.jt_gateway.specs.Pumping.{EndsAlike, GoesOn, IsBegun, IsUpstream, PumpsMost, RestartsMiddle, Stepped}
use Rattle.jt_gateway.specs.declared.event.GatewayEvent.{GatewayEvent}
use Rattle.jt_gateway.specs.declared.event.GatewayEvent.TheVariants as asked
use Rattle.jt_gateway.proofs.Gateways.{a_leads, b_leads, reached_on}
use Rattle.jt_gateway.proofs.Playing.{Started, line_quiet, own_scripted, same_scene, started}

-- what holds of a scene holds after a step that was done, or that was refused and left it
still : (P : Scene → Type 0) {T : Type 0} (old now : Scene) (r : Result T WorldError) → P old → OnOk r (P now)
    → ((error : WorldError) → r ≡ Err error → (error ≡ refused.Memory → ⊥) → now ≡ old) → (r ≡ Err refused.Memory → ⊥) → P now
still P old now (Ok x) was ok same other = ok
still P old now (Err e) was ok same other = subst P (sym (same e refl (λ m. other (ap (λ (x : WorldError). Err x) m)))) was

on_ok : {T : Type 0} {A B : Type 0} (r : Result T WorldError) → (A → B) → OnOk r A → OnOk r B
on_ok (Ok x) f a = f a
on_ok (Err e) f a = a

on_two : {T : Type 0} {A B C : Type 0} (r : Result T WorldError) → (A → B → C) → OnOk r A → OnOk r B → OnOk r C
on_two (Ok x) f a b = f a b
on_two (Err e) f a b = a

full_not_memory : (limit : ℕ) → refused.Full limit ≡ refused.Memory → ⊥
full_not_memory limit e = absurd cc

no_line_not_memory : (number : ℕ) → refused.NoLine number ≡ refused.Memory → ⊥
no_line_not_memory number e = absurd cc

-- a line that names a line of communication finds nothing full
pub no_line_not_full : (g : GatewayScene) (e : GatewayEvent) (number : ℕ) → HasNoLine g e number → gateway_full g e ≡ false
no_line_not_full g (asked.A event) number has = named_not_full FIX_LIMIT g.a.play event number has.0
no_line_not_full g (asked.B event) number has = named_not_full FIX_LIMIT g.b.play event number has.0
no_line_not_full g asked.Pump number has = absurd has
no_line_not_full g asked.RestartMiddle number has = absurd has

-- what a step of one of the worlds promises
pub record Steps {T : Type 0} (old now : Scene) (event : WorldEvent) (next : Play) (r : Result T WorldError) : Type 0 where
  pub leads : Leads old.play.world now.play.world
  pub recorded : RecordsAtMost event old.play.world.terminal.recorded now.play.world.terminal.recorded
  pub identity : now.identity ≡ old.identity
  pub edition : OnOk r (now.edition ≡ edition_by old.edition event)
  pub ok : IsScripted old → OnOk r (now.play ≡ next)
  pub scripted : IsScripted old → OnOk r (IsScripted now)
  pub no_line : (number : ℕ) → (r ≡ Err (refused.NoLine number)) ↔ (Names event number × (is_opened old.play.world number ≡ false))
  pub full : (limit : ℕ) → r ≡ Err (refused.Full limit) → (limit ≡ FIX_LIMIT) × (finds_full FIX_LIMIT old.play event ≡ true)
  pub room : OnOk r (finds_full FIX_LIMIT old.play event ≡ false)
  pub same : (error : WorldError) → r ≡ Err error → (error ≡ refused.Memory → ⊥) → now ≡ old

-- ---- parts of a restart of the middle

pub on_alike : {A : Type 0} (r : Result (List Entry) WorldError) (u : Unit {0}) → EndsAlike r (Ok u) → OnOk r A → A
on_alike (Ok x) u alike a = a
on_alike (Err e) u alike a = absurd alike

pub not_restarted : (old new : GatewayScene) (r : Result (List Entry) WorldError) (error : WorldError) → EndsAlike {U = Unit {0}} r (Err error) → ((number : ℕ) → r ≡ Err (refused.NoLine number) → ⊥)
    → ((limit : ℕ) → r ≡ Err (refused.Full limit) → ⊥) → RestartsMiddle old new (Err error)
not_restarted old new (Err e) (refused.Full limit) alike no_line full = full limit (ap (λ (x : WorldError). Err x) (sym alike))
not_restarted old new (Err e) (refused.NoLine number) alike no_line full = no_line number (ap (λ (x : WorldError). Err x) (sym alike))
not_restarted old new (Err e) refused.Memory alike no_line full = tt
not_restarted old new (Ok x) error alike no_line full = absurd alike

pub went_on : (old now : Scene) (event : WorldEvent) (r : Result (List Entry) WorldError) (u : Unit {0}) → EndsAlike r (Ok u) → OnOk r (IsScripted now) → OnOk r (now.play ≡ (scene_after old event).play)
    → now.identity ≡ old.identity → OnOk r (now.edition ≡ edition_by old.edition event) → GoesOn old now event
went_on old now event r u alike scripted play identity edition = record {
  scripted = on_alike r u alike scripted;
  is = same_scene now (scene_after old event) (on_alike r u alike play) identity (on_alike r u alike edition);
}

pub restarted : (old new : GatewayScene) (u : Unit {0}) (ra rb : Result (List Entry) WorldError) (out : Result (Unit {0}) WorldError) → EndsAlike ra (Ok u) → EndsAlike rb out
    → (IsScripted old.a → OnOk ra (IsScripted new.a)) → (IsScripted old.a → OnOk ra (new.a.play ≡ (scene_after old.a line.RestartPlatform).play)) → new.a.identity ≡ old.a.identity → OnOk ra (new.a.edition ≡ old.a.edition)
    → (IsScripted old.b → OnOk rb (IsScripted new.b)) → (IsScripted old.b → OnOk rb (new.b.play ≡ (scene_after old.b line.RestartTerminal).play)) → new.b.identity ≡ old.b.identity → OnOk rb (new.b.edition ≡ old.b.edition)
    → ((number : ℕ) → rb ≡ Err (refused.NoLine number) → ⊥) → ((limit : ℕ) → rb ≡ Err (refused.Full limit) → ⊥) → RestartsMiddle old new out
restarted old new u ra rb (Ok v) a b sa pa ia ea sb pb ib eb no_line full = λ in_a in_b. (
  went_on old.a new.a line.RestartPlatform ra u a (sa in_a) (pa in_a) ia ea,
  went_on old.b new.b line.RestartTerminal rb v b (sb in_b) (pb in_b) ib eb,
)
restarted old new u ra rb (Err error) a b sa pa ia ea sb pb ib eb no_line full = not_restarted old new rb error b no_line full

-- what a step promises that was cut short, of a line that names no line of communication
for_memory : (old : GatewayScene) (event : GatewayEvent) (new : GatewayScene) → ((number : ℕ) → HasNoLine old event number → ⊥) → GatewayLeads (worlds_of old) (worlds_of new)
    → new.b.play.world.terminal.phone.edition ≡ E2019 → Leads old.a.play.world new.a.play.world → Leads old.b.play.world new.b.play.world → Stepped old event new (Err refused.Memory)
for_memory old event new names_none leads edition leads_a leads_b = record {
  leads = leads;
  gateway = λ g other. absurd (other refl);
  ok = λ g. tt;
  full = λ limit is. absurd cc;
  room = tt;
  no_line = λ number. (λ is. absurd cc, λ no_one. absurd (names_none number no_one));
  same = λ number is. absurd cc;
  entries = tt;
  edition = edition;
  a = leads_a;
  b = leads_b;
}

-- nothing more was recorded
pub none_more : (event : WorldEvent) (old now : List (List ℕ)) → recorded_by event ≡ [] → RecordsAtMost event old now → now ≡ old
none_more event old now none (inl same) = same
none_more event old now none (inr more) = more ∙ (ap (λ (l : List (List ℕ)). old ++ l) none ∙ append-nil old)

-- a line of world b has no fix
b_has_none : (event : WorldEvent) → is_line_of_b event ≡ true → recorded_by event ≡ []
b_has_none (line.Fix latitude) of_b = absurd cc
b_has_none (line.Raw fix) of_b = absurd cc
b_has_none (line.RestartAs edition) of_b = refl
b_has_none line.Open of_b = refl
b_has_none (line.Up number count) of_b = refl
b_has_none (line.Down count) of_b = refl
b_has_none (line.Tick by) of_b = refl
b_has_none (line.Beat n) of_b = refl
b_has_none line.Run of_b = refl
b_has_none (line.Cut number) of_b = refl
b_has_none line.Lost of_b = refl
b_has_none line.RestartTerminal of_b = refl
b_has_none line.RestartPlatform of_b = refl

-- the operator starts anew, also where that is cut short
pub middle_leads : (old : GatewayScene) (a b : Scene) → Leads old.a.play.world a.play.world → Leads old.b.play.world b.play.world → b.play.world.terminal.recorded ≡ old.b.play.world.terminal.recorded
    → GatewayLeads (worlds_of old) (worlds_of (record { a = a; b = b }))
middle_leads old a b in_a in_b same =
    let mid : GatewayWorld = worlds_of (record old { a = a }) in
    leads_both MayStepOn gateway_after (worlds_of old) mid (worlds_of (record { a = a; b = b })) (a_leads (worlds_of old) a.play.world in_a) (b_leads mid b.play.world in_b same)

module _ (keeps : RuleKeepsSettings) where
  -- lines led to the world behind one that was done
  led_on : {T : Type 0} (old now : Scene) (event : WorldEvent) (next : Play) (r : Result T WorldError) → Steps old now event next r → IsLed old → OnOk r (IsLed now)
  led_on old now event next r s led = on_ok r (λ scripted. record { scripted = scripted; identity = s.identity ∙ led.identity }) (s.scripted led.scripted)

  scene_is : {T : Type 0} (old now : Scene) (event : WorldEvent) (r : Result T WorldError) → Steps old now event (scene_after old event).play r → IsLed old → OnOk r (now ≡ scene_after old event)
  scene_is old now event r s led = on_two r (λ play edition. same_scene now (scene_after old event) play s.identity edition) (s.ok led.scripted) s.edition

  -- ---- a line of world a

  pub a_stepped : (old : GatewayScene) (a : Scene) (event : WorldEvent) (r : Result (List Entry) WorldError) → old.b.play.world.terminal.phone.edition ≡ E2019
      → Steps old.a a event (scene_after old.a event).play r
      → IfOk r (λ (entries : List Entry). entries ≡ entries_between old.a.play.world a.play.world) → Stepped old (asked.A event) (record old { a = a }) r
  a_stepped old a event r edition s entries = record {
    leads = a_leads (worlds_of old) a.play.world s.leads;
    gateway = λ g other. record {
      a = still IsLed old.a a r g.a (led_on old.a a event (scene_after old.a event).play r s g.a) s.same other;
      b = g.b;
      reached = reached_on (worlds_of old) (worlds_of (record old { a = a })) g.reached (a_leads (worlds_of old) a.play.world s.leads) g.reached.edition;
    };
    ok = λ g. on_ok r (λ is. ap (λ (x : Scene). record old { a = x }) is) (scene_is old.a a event r s g.a);
    full = λ limit is. let f = s.full limit is in (f.0, f.1, ap (λ (x : Scene). record old { a = x }) (s.same (refused.Full limit) is (full_not_memory limit)));
    room = s.room;
    no_line = s.no_line;
    same = λ number is. ap (λ (x : Scene). record old { a = x }) (s.same (refused.NoLine number) is (no_line_not_memory number));
    entries = entries;
    edition = edition;
    a = s.leads;
    b = record { events = []; may = tt; to = refl };
  }

  -- ---- a line of world b

  b_reached : (old : GatewayScene) (b : Scene) (event : WorldEvent) → is_line_of_b event ≡ true → IsGateway old → b.play ≡ (scene_after old.b event).play
      → GatewayLeads (worlds_of old) (worlds_of (record old { b = b })) → ReachedGateway (worlds_of (record old { b = b }))
  b_reached old b event of_b g is leads =
      let quiet = line_quiet keeps (settings_in old.b.identity) old.b.play event of_b (own_scripted keeps old.b g.b.scripted) in
      reached_on (worlds_of old) (worlds_of (record old { b = b })) g.reached leads
      (ap (λ (p : Play). p.world.terminal.phone.edition) is ∙ (ap (λ (phone : Phone). phone.edition) quiet.0.1 ∙ g.reached.edition))

  pub b_stepped : (old : GatewayScene) (b : Scene) (event : WorldEvent) (r : Result (List Entry) WorldError) → is_line_of_b event ≡ true → IsOf2019 b
      → Steps old.b b event (scene_after old.b event).play r
      → IfOk r (λ (entries : List Entry). entries ≡ entries_between old.b.play.world b.play.world) → Stepped old (asked.B event) (record old { b = b }) r
  b_stepped old b event r of_b is s entries = record {
    leads = led;
    gateway = λ g other. record {
      a = g.a;
      b = still IsLed old.b b r g.b (led_on old.b b event (scene_after old.b event).play r s g.b) s.same other;
      reached = still (λ (x : Scene). ReachedGateway (worlds_of (record old { b = x }))) old.b b r g.reached (on_ok r (λ is. b_reached old b event of_b g is led) (s.ok g.b.scripted)) s.same other;
    };
    ok = λ g. on_ok r (λ is. ap (λ (x : Scene). record old { b = x }) is) (scene_is old.b b event r s g.b);
    full = λ limit is. let f = s.full limit is in (f.0, f.1, ap (λ (x : Scene). record old { b = x }) (s.same (refused.Full limit) is (full_not_memory limit)));
    room = s.room;
    no_line = s.no_line;
    same = λ number is. ap (λ (x : Scene). record old { b = x }) (s.same (refused.NoLine number) is (no_line_not_memory number));
    entries = entries;
    edition = is.phone;
    a = record { events = []; may = tt; to = refl };
    b = s.leads;
  }
    where
      led : GatewayLeads (worlds_of old) (worlds_of (record old { b = b }))
      led = b_leads (worlds_of old) b.play.world s.leads (none_more event old.b.play.world.terminal.recorded b.play.world.terminal.recorded (b_has_none event of_b) s.recorded)

  -- ---- a restart of the middle

  led_by : (old now : Scene) (event : WorldEvent) → IsLed old → GoesOn old now event → IsLed now
  led_by old now event led on = record { scripted = on.scripted; identity = ap (λ (s : Scene). s.identity) on.is ∙ led.identity }

  middle_done : (old : GatewayScene) (a b : Scene) → IsGateway old → GoesOn old.a a line.RestartPlatform → GoesOn old.b b line.RestartTerminal
      → GatewayLeads (worlds_of old) (worlds_of (record { a = a; b = b })) → IsGateway (record { a = a; b = b })
  middle_done old a b g on_a on_b leads =
      let quiet = line_quiet keeps (settings_in old.b.identity) old.b.play line.RestartTerminal refl (own_scripted keeps old.b g.b.scripted) in
      record {
        a = led_by old.a a line.RestartPlatform g.a on_a;
        b = led_by old.b b line.RestartTerminal g.b on_b;
        reached = reached_on (worlds_of old) (worlds_of (record { a = a; b = b })) g.reached leads
            (ap (λ (s : Scene). s.play.world.terminal.phone.edition) on_b.is ∙ (ap (λ (phone : Phone). phone.edition) quiet.0.1 ∙ g.reached.edition));
      }

  pub middle_stepped : (old : GatewayScene) (a b : Scene) (r : Result (Unit {0}) WorldError) (out : Result (List Entry) WorldError) → EndsAlike r out
      → IfOk out (λ (entries : List Entry). entries ≡ []) → RestartsMiddle old (record { a = a; b = b }) r → GatewayLeads (worlds_of old) (worlds_of (record { a = a; b = b }))
      → b.play.world.terminal.phone.edition ≡ E2019 → Leads old.a.play.world a.play.world → Leads old.b.play.world b.play.world → Stepped old asked.RestartMiddle (record { a = a; b = b }) out
  middle_stepped old a b (Ok u) (Ok x) alike none does leads edition leads_a leads_b = record {
    leads = leads;
    gateway = λ g other. let d = does g.a.scripted g.b.scripted in middle_done old a b g d.0 d.1 leads;
    ok = λ g. let d = does g.a.scripted g.b.scripted in λ i. record { a = d.0.is i; b = d.1.is i };
    full = λ limit is. absurd cc;
    room = refl;
    no_line = λ number. (λ is. absurd cc, λ no_one. absurd no_one);
    same = λ number is. absurd cc;
    entries = none;
    edition = edition;
    a = leads_a;
    b = leads_b;
  }
  middle_stepped old a b (Err refused.Memory) (Err f) alike none does leads edition leads_a leads_b =
      subst (λ (e : WorldError). Stepped old asked.RestartMiddle (record { a = a; b = b }) (Err e)) (sym alike) (for_memory old asked.RestartMiddle (record { a = a; b = b }) (λ number no_one. no_one) leads edition leads_a leads_b)
  middle_stepped old a b (Err (refused.Full limit)) (Err f) alike none does leads edition leads_a leads_b = absurd does
  middle_stepped old a b (Err (refused.NoLine number)) (Err f) alike none does leads edition leads_a leads_b = absurd does
  middle_stepped old a b (Ok u) (Err f) alike none does leads edition leads_a leads_b = absurd alike
  middle_stepped old a b (Err e) (Ok x) alike none does leads edition leads_a leads_b = absurd alike

  -- ---- the beginning

  pub upstream : (old now : Scene) → IsBegun old → old ≡ first_scene → IsScripted now → now ≡ scene_after old (line.RestartAs E2019) → Leads old.play.world now.play.world → IsUpstream now
  upstream old now begun is_first scripted is leads = record {
    begun = record {
      led = record { scripted = scripted; identity = ap (λ (s : Scene). s.identity) is ∙ begun.led.identity };
      reached = record {
        phone = begun.reached.phone;
        good = begun.reached.good;
        setting = begun.reached.setting;
        leads = leads_both MayCome after (empty begun.reached.phone begun.reached.setting) old.play.world now.play.world begun.reached.leads leads;
      };
    };
    nothing = ap (λ (s : Scene). s.play.world.terminal.recorded) is ∙ (again.world ∙ ap (λ (s : Scene). s.play.world.terminal.recorded) is_first);
    of_2019 = record {
      phone = ap (λ (s : Scene). s.play.world.terminal.phone.edition) is ∙ (ap (λ (phone : Phone). phone.edition) again.phone ∙ ap (λ (s : Scene). s.identity.e2019.phone.edition) is_first);
      edition = ap (λ (s : Scene). s.edition) is;
      identity = ap (λ (s : Scene). s.identity.e2019.phone.edition) is ∙ ap (λ (s : Scene). s.identity.e2019.phone.edition) is_first;
    };
  }
    where
      again : Started old.play (starts_again old.play old.identity.e2019) old.identity.e2019
      again = started keeps old.play old.identity.e2019

pub first_of : {E : Type 0} (r : Result Scene E) → IfOk r (λ (w : Scene). w.play ≡ first) → IfOk r (λ (w : Scene). w.identity ≡ the_identity) → IfOk r (λ (w : Scene). w.edition ≡ E2013) → IfOk r (λ (w : Scene). w ≡ first_scene)
first_of (Ok w) play identity edition = same_scene w first_scene play identity edition
first_of (Err e) play identity edition = tt

pub begins : (a b : Scene) → IsBegun a → IsUpstream b → IsGateway (record { a = a; b = b })
begins a b in_a in_b = record { a = in_a.led; b = in_b.begun.led; reached = reached }
  where
    both_empty : GatewayWorld
    both_empty = gateway_empty in_a.reached.phone in_b.begun.reached.phone in_a.reached.setting in_b.begun.reached.setting

    second : GatewayWorld
    second = record both_empty { a = a.play.world }

    reached : ReachedGateway (worlds_of (record { a = a; b = b }))
    reached = record {
      phone_a = in_a.reached.phone;
      phone_b = in_b.begun.reached.phone;
      setting_a = in_a.reached.setting;
      setting_b = in_b.begun.reached.setting;
      good_a = in_a.reached.good;
      good_b = in_b.begun.reached.good;
      leads = leads_both MayStepOn gateway_after both_empty second (record second { b = b.play.world }) (a_leads both_empty a.play.world in_a.reached.leads)
          (b_leads second b.play.world in_b.begun.reached.leads in_b.nothing);
      edition = in_b.of_2019.phone;
    }

-- ---- a pump

phone_all : (p : Play) (fixes : List (List ℕ)) → (play_with_fixes p fixes).world.terminal.phone ≡ p.world.terminal.phone
phone_all p [] = refl
phone_all p (fix ∷ fixes) = phone_all (records p fix) fixes

pump_done : (old new : GatewayScene) → IsGateway old → (IsScripted old.b → IsScripted new.b) → new ≡ gateway_after_line old asked.Pump → GatewayLeads (worlds_of old) (worlds_of new) → IsGateway new
pump_done old new g scripted is leads = record {
  a = subst IsLed (sym (ap (λ (n : GatewayScene). n.a) is)) g.a;
  b = record { scripted = scripted g.b.scripted; identity = ap (λ (n : GatewayScene). n.b.identity) is ∙ g.b.identity };
  reached = reached_on (worlds_of old) (worlds_of new) g.reached leads
      (ap (λ (n : GatewayScene). n.b.play.world.terminal.phone.edition) is
      ∙ (ap (λ (phone : Phone). phone.edition) (phone_all old.b.play (take (room_for old.b.play) (fixes_behind (worlds_of old)))) ∙ g.reached.edition));
}

pub pump_stepped : (old new : GatewayScene) (r : Result (Unit {0}) WorldError) (out : Result (List Entry) WorldError) → EndsAlike r out
    → IfOk out (λ (entries : List Entry). entries ≡ []) → PumpsMost old new r → GatewayLeads (worlds_of old) (worlds_of new) → new.b.play.world.terminal.phone.edition ≡ E2019 → new.a ≡ old.a → Leads old.b.play.world new.b.play.world → Stepped old asked.Pump new out
pump_stepped old new r out alike none does leads edition same leads_b = by r out alike none does
  where
    leads_a : Leads old.a.play.world new.a.play.world
    leads_a = record { events = []; may = tt; to = ap (λ (s : Scene). s.play.world) (sym same) }

    by : (r : Result (Unit {0}) WorldError) (out : Result (List Entry) WorldError) → EndsAlike r out → IfOk out (λ (entries : List Entry). entries ≡ []) → PumpsMost old new r → Stepped old asked.Pump new out
    by (Ok u) (Ok x) alike none does = record {
      leads = leads;
      gateway = λ g other. pump_done old new g does.0 does.1 leads;
      ok = λ g. does.1;
      full = λ limit is. absurd cc;
      room = does.2;
      no_line = λ number. (λ is. absurd cc, λ no_one. absurd no_one);
      same = λ number is. absurd cc;
      entries = none;
      edition = edition;
      a = leads_a;
      b = leads_b;
    }
    by (Err (refused.Full limit)) (Err f) alike none does = subst (λ (e : WorldError). Stepped old asked.Pump new (Err e)) (sym alike) (record {
      leads = leads;
      gateway = λ g other. pump_done old new g does.1 does.2 leads;
      ok = λ g. tt;
      full = λ other is. (same_limit other is ∙ does.0, does.3, does.2);
      room = tt;
      no_line = λ number. (λ is. absurd cc, λ no_one. absurd no_one);
      same = λ number is. absurd cc;
      entries = tt;
      edition = edition;
      a = leads_a;
      b = leads_b;
    })
      where
        same_limit : (other : ℕ) → ◌≡◌ {A = Result (List Entry) WorldError} (Err (refused.Full limit)) (Err (refused.Full other)) → other ≡ limit
        same_limit other is = cc
    by (Err refused.Memory) (Err f) alike none does = subst (λ (e : WorldError). Stepped old asked.Pump new (Err e)) (sym alike) (for_memory old asked.Pump new (λ number no_one. no_one) leads edition leads_a leads_b)
    by (Err (refused.NoLine number)) (Err f) alike none does = absurd does
    by (Ok u) (Err f) alike none does = absurd alike
    by (Err e) (Ok x) alike none does = absurd alike
