-- A world of orders that a script plays: what stays true of it, and what its lines answer.
use Rattle.std.proofs.Common.{ℕ, ◌≡◌, ◌↔◌, List, [], ◌∷◌, Some, None, Bool, true, false, ◌⊎◌, inl, inr, refl, ap, sym, ◌∙◌, subst}
use Rattle.std.specs.Prelude.{Result, Ok, Err, IfErr, not}
use Rattle.std.proofs.lemmas.Bool.{false≢true}
use Rattle.jt_value.specs.Sameness.{key_of}
use Rattle.jt_value.specs.Reaching.{MayAll, after_all}
use Rattle.jt_delivery.specs.World.{Setting}
use Rattle.jt_platform.specs.Laws.{AreOf}
use Rattle.jt_terminal_rule.specs.Messages.{AreSettings}
use Rattle.jt_terminal_rule.specs.Steps.{Machine}
use Rattle.jt_order_turns.specs.Heard.{Heard, Ordered, Other, Nothing}
use Rattle.jt_octets.specs.World.{World}
use Rattle.jt_octets.specs.Steps as plain
use Rattle.jt_play.proofs.Scenes as scenes
use Rattle.jt_play.specs.declared.identity.Identity.{Identity}
use Rattle.jt_order_octets.specs.World.{OrderWorld}
use Rattle.jt_order_octets.specs.Steps.{Event, Issues, Does, Up, Offers, Down, Cut, RestartPlatform, MayCome, after, after_read, heard_next, with_one_read, with_response}
use Rattle.jt_order_octets.specs.Claim.{EachReachedIsOfThePhone}
use Rattle.jt_order_octets.specs.Reaching.{Leads, Reached}
use Rattle.jt_order_play.specs.declared.error.OrderWorldError.{OrderWorldError}
use Rattle.jt_order_play.specs.declared.error.OrderWorldError.TheVariants as refused
use Rattle.jt_order_play.specs.declared.event.OrderEvent.{OrderEvent}
use Rattle.jt_order_play.specs.declared.event.OrderEvent.TheVariants as line
use Rattle.jt_order_play.specs.Holding.{is_no_line}
use Rattle.jt_order_play.specs.Playing.{OrderPlay, finds_full, is_opened, names_no_line}
use Rattle.jt_order_play.specs.Scripts.{IsOrderScene, Names, first_play}
use Rattle.jt_order_play.proofs.Composing.{still_reached}
use Rattle.jt_order_play.proofs.Owning.{own_reached}

-- ---- the phone has the same digits for ever

response_phone : (responds : Bool) (w : World) (octets : List ℕ) → (with_response responds w octets).terminal ≡ w.terminal
response_phone true w octets = refl
response_phone false w octets = refl

read_phone : (w : OrderWorld) (heard : Heard) (takes responds : Bool) → (after_read w heard takes responds).base.terminal.phone ≡ w.base.terminal.phone
read_phone w (Ordered h octets m) takes responds = ap (λ (m : Machine). m.phone) (response_phone responds (with_one_read w.base None false) _)
read_phone w (Other h m) takes responds = scenes.heard_phone w.base.terminal _ takes
read_phone w Nothing takes responds = scenes.heard_phone w.base.terminal None takes

event_key : (w : OrderWorld) (event : Event) → MayCome w event → key_of (after w event).base.terminal.phone ≡ key_of w.base.terminal.phone
event_key w (Issues order) may = refl
event_key w (Does s) may = scenes.event_key w.base (plain.Does s) may.0
event_key w (Up place way telling) may = scenes.event_key w.base (plain.Up place way) may.0
event_key w (Offers place) may = refl
event_key w (Down takes responds) may = ap key_of (read_phone w (heard_next w) takes responds)
event_key w (Cut place) may = refl
event_key w RestartPlatform may = refl

all_key : (w : OrderWorld) (events : List Event) → MayAll MayCome after w events → key_of (after_all after w events).base.terminal.phone ≡ key_of w.base.terminal.phone
all_key w [] may = refl
all_key w (event ∷ events) may = all_key (after w event) events may.1 ∙ event_key w event may.0

leads_key : (old new : OrderWorld) → Leads old new → key_of new.base.terminal.phone ≡ key_of old.base.terminal.phone
leads_key old new l = ap (λ (w : OrderWorld). key_of w.base.terminal.phone) (sym l.to) ∙ all_key old l.events l.may

-- ---- what stays true

pub scene_on : (old new : OrderPlay) (identity : Identity) → IsOrderScene old identity → Leads old.world new.world → IsOrderScene new identity
scene_on old new identity s l = record {
  reached = still_reached old.world new.world s.reached l;
  good = s.good;
  same = s.same ∙ sym (leads_key old.world new.world l);
}

pub first_scene : (identity : Identity) (setting : Setting) (p : OrderPlay) → p ≡ first_play identity.e2013 setting → AreSettings identity.e2013 → Reached p.world → IsOrderScene p identity
first_scene identity setting p is good reached = record { reached = ∣ reached ∣₁; good = good; same = ap (λ (q : OrderPlay). key_of q.world.base.terminal.phone) (sym is) }

-- what the present hub was asked is of the terminal's phone
pub own_history : EachReachedIsOfThePhone → (p : OrderPlay) (identity : Identity) → IsOrderScene p identity → AreOf (key_of p.world.base.terminal.phone) p.world.base.history
own_history law p identity s = own_reached law p.world s.reached

-- ---- lines that were not opened

shut : (b : Bool) → not b ≡ true → b ≡ false
shut false e = refl
shut true e = absurd (false≢true e)

unopened : (w : OrderWorld) (e : OrderEvent) (l : ℕ) → Names e l → names_no_line w e ≡ true → is_opened w l ≡ false
unopened w (line.Up number count) l named e = ap (is_opened w) (sym named) ∙ shut (is_opened w number) e
unopened w (line.Cut number) l named e = ap (is_opened w) (sym named) ∙ shut (is_opened w number) e
unopened w (line.Issue order) l named e = absurd named
unopened w line.Open l named e = absurd named
unopened w (line.Down count) l named e = absurd named
unopened w (line.Tick by) l named e = absurd named
unopened w line.Run l named e = absurd named
unopened w line.Lost l named e = absurd named
unopened w line.RestartTerminal l named e = absurd named
unopened w line.RestartPlatform l named e = absurd named

pub names_it : (w : OrderWorld) (e : OrderEvent) (l : ℕ) → Names e l → is_opened w l ≡ false → names_no_line w e ≡ true
names_it w (line.Up number count) l named e = ap not (ap (is_opened w) named ∙ e)
names_it w (line.Cut number) l named e = ap not (ap (is_opened w) named ∙ e)
names_it w (line.Issue order) l named e = absurd named
names_it w line.Open l named e = absurd named
names_it w (line.Down count) l named e = absurd named
names_it w (line.Tick by) l named e = absurd named
names_it w line.Run l named e = absurd named
names_it w line.Lost l named e = absurd named
names_it w line.RestartTerminal l named e = absurd named
names_it w line.RestartPlatform l named e = absurd named

one_name : (e : OrderEvent) (k l : ℕ) → Names e k → Names e l → k ≡ l
one_name (line.Up number count) k l a b = sym a ∙ b
one_name (line.Cut number) k l a b = sym a ∙ b
one_name (line.Issue order) k l a b = absurd a
one_name line.Open k l a b = absurd a
one_name (line.Down count) k l a b = absurd a
one_name (line.Tick by) k l a b = absurd a
one_name line.Run k l a b = absurd a
one_name line.Lost k l a b = absurd a
one_name line.RestartTerminal k l a b = absurd a
one_name line.RestartPlatform k l a b = absurd a

pub no_line_is : {T : Type 0} (w : OrderWorld) (e : OrderEvent) (r : Result T OrderWorldError) → is_no_line r ≡ names_no_line w e → ((l : ℕ) → r ≡ Err (refused.NoLine l) → Names e l) → (l : ℕ) → (r ≡ Err (refused.NoLine l)) ↔ (Names e l × (is_opened w l ≡ false))
no_line_is {T} w e r test number l = (forth, back)
  where
    forth : r ≡ Err (refused.NoLine l) → Names e l × (is_opened w l ≡ false)
    forth is = let named = number l is in (named, unopened w e l named (sym test ∙ ap is_no_line is))

    by : (x : Result T OrderWorldError) → r ≡ x → is_no_line x ≡ true → Names e l → r ≡ Err (refused.NoLine l)
    by (Ok x) is t named = absurd (false≢true t)
    by (Err (refused.NoLine k)) is t named = is ∙ ap (λ (n : ℕ). Err (refused.NoLine n)) (one_name e k l (number k is) named)
    by (Err (refused.Full limit)) is t named = absurd (false≢true t)
    by (Err refused.Memory) is t named = absurd (false≢true t)

    back : Names e l × (is_opened w l ≡ false) → r ≡ Err (refused.NoLine l)
    back both = by r refl (test ∙ names_it w e l both.0 both.1) both.0

-- what is the same where the answer is a refusal
pub same_refused : {T U : Type 0} (r : Result T OrderWorldError) (done : Result U OrderWorldError) (A : Type 0) → ((l : ℕ) → (r ≡ Err (refused.NoLine l)) ↔ (done ≡ Err (refused.NoLine l))) → ((l : ℕ) → (r ≡ Err (refused.Full l)) ↔ (done ≡ Err (refused.Full l)))
    → IfErr done (λ (e : OrderWorldError). A) → (e : OrderWorldError) → r ≡ Err e → (e ≡ refused.Memory → ⊥) → A
same_refused r done A no_line full same (refused.NoLine l) is other = subst (λ x. IfErr x (λ (e : OrderWorldError). A)) ((no_line l).0 is) same
same_refused r done A no_line full same (refused.Full l) is other = subst (λ x. IfErr x (λ (e : OrderWorldError). A)) ((full l).0 is) same
same_refused r done A no_line full same refused.Memory is other = absurd (other refl)

-- ---- where full is found

pub refusals : (e : OrderWorldError) → ((l : ℕ) × (e ≡ refused.NoLine l)) ⊎ (((l : ℕ) × (e ≡ refused.Full l)) ⊎ (e ≡ refused.Memory))
refusals (refused.NoLine l) = inl (l, refl)
refusals (refused.Full l) = inr (inl (l, refl))
refusals refused.Memory = inr (inr refl)

-- an event that names a line of communication issues nothing
pub named_not_full : (w : OrderWorld) (e : OrderEvent) (l : ℕ) → Names e l → finds_full w e ≡ false
named_not_full w (line.Up number count) l named = refl
named_not_full w (line.Cut number) l named = refl
named_not_full w (line.Issue order) l named = absurd named
named_not_full w line.Open l named = refl
named_not_full w (line.Down count) l named = refl
named_not_full w (line.Tick by) l named = refl
named_not_full w line.Run l named = refl
named_not_full w line.Lost l named = refl
named_not_full w line.RestartTerminal l named = refl
named_not_full w line.RestartPlatform l named = refl
