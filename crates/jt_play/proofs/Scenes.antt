-- A world that a script plays: what stays true of it, and what its lines answer.
use Rattle.std.proofs.Common.{ℕ, zero, suc, ◌+◌, ◌-◌, ◌<◌, ◌≤◌, ◌≡◌, ◌↔◌, List, [], ◌∷◌, ◌++◌, length, take, drop, Option, Some, None, Bool, true, false, ◌⊎◌, inl, inr, arith, refl, ap, sym, ◌∙◌, subst, length-drop, take_all}
use Rattle.std.specs.Prelude.{Result, Ok, Err, IfErr, IfOk, OnOk, reverse, not}
use Rattle.std.specs.Coded.{codes, ×_prop, Unit-prop}
use Rattle.std.proofs.Math.Seq.{take-append_seam}
use Rattle.std.proofs.Math.Logic.{∥∥₁_elim, ∥∥₁_map}
use Rattle.std.proofs.lemmas.Bool.{false≢true}
use Rattle.std.proofs.lemmas.List.{length-reverse, reverse-append, reverse-reverse, take-append-drop}
use Rattle.jt_value.specs.Sameness.{key_of}
use Rattle.jt_value.specs.Reaching.{MayAll, after_all}
use Rattle.jt_value.specs.declared.phone.Edition.{Edition}
use Rattle.jt_value.specs.declared.phone.Edition.TheVariants.{E2013, E2019}
use Rattle.jt_delivery.specs.World.{Setting}
use Rattle.jt_platform.specs.declared.request.Entry.{Entry}
use Rattle.jt_platform.specs.declared.request.Request.{Request}
use Rattle.jt_platform.specs.declared.request.Request.TheVariants as ask
use Rattle.jt_platform.specs.History.{newest}
use Rattle.jt_platform.specs.Laws.{AreOf, IsOf}
use Rattle.jt_session.specs.Talk.{State, Way}
use Rattle.jt_stream.specs.Unplaced.{Unplaced}
use Rattle.jt_terminal_rule.specs.declared.state.Acknowledgement.{Acknowledgement}
use Rattle.jt_terminal_rule.specs.Messages.{AreSettings}
use Rattle.jt_terminal_rule.specs.Steps.{Machine, MayStep, TerminalStep}
use Rattle.jt_terminal_rule.specs.Steps as step
use Rattle.jt_octets.specs.World.{World, Line, completed_item, empty, line_at, newest_place}
use Rattle.jt_octets.specs.World as octets
use Rattle.jt_octets.specs.Steps.{Event, Does, Up, Down, Cut, RestartPlatform, MayCome, accepting, after, after_take, just_read}
use Rattle.jt_octets.specs.Claim.{EachReachedIsOfThePhone}
use Rattle.jt_octets.specs.Reaching.{Leads, Reached}
use Rattle.jt_play.specs.declared.identity.Identity.{Identity}
use Rattle.jt_script.specs.declared.world_event.WorldEvent.{WorldEvent}
use Rattle.jt_script.specs.declared.world_event.WorldEvent.TheVariants as line
use Rattle.jt_play.specs.declared.error.WorldError.{WorldError}
use Rattle.jt_play.specs.declared.error.WorldError.TheVariants as refused
use Rattle.jt_play.specs.Holding.{is_no_line}
use Rattle.jt_play.specs.Scripts.{IsScene, Names, settings_in}
use Rattle.jt_play.specs.Laws.{first_play}
use Rattle.jt_play.specs.Playing.{Play, behind, finds_full, is_opened, names_no_line}
use Rattle.jt_play.proofs.Downward.{leads_both}

-- ---- entries

pub behind_is : (h : List Entry) (mark : ℕ) → behind mark (newest h) ≡ drop mark h
behind_is h mark =
    ap (λ (l : List Entry). reverse (take (length l - mark) l)) parts
    ∙ (ap (λ (n : ℕ). reverse (take n (newest b ++ newest a))) count
    ∙ (ap reverse (take-append_seam (newest b) (newest a)) ∙ reverse-reverse b))
  where
    a : List Entry
    a = take mark h

    b : List Entry
    b = drop mark h

    parts : newest h ≡ newest (drop mark h) ++ newest (take mark h)
    parts = ap newest (sym (take-append-drop mark h)) ∙ reverse-append (take mark h) (drop mark h)

    count : length (newest (drop mark h) ++ newest (take mark h)) - mark ≡ length (newest (drop mark h))
    count =
        let all : length (newest (drop mark h) ++ newest (take mark h)) ≡ length h = ap (λ (l : List Entry). length l) (sym parts) ∙ length-reverse h in
        let some : length (newest (drop mark h)) ≡ length (drop mark h) = length-reverse (drop mark h) in
        let fewer : length (drop mark h) ≡ length h - mark = length-drop mark h in
        omega (arith, all, some, fewer)

pub rest_is : (l : List Entry) (n : ℕ) → take (length l - n) (drop n l) ≡ drop n l
rest_is l n = ap (λ (k : ℕ). take k (drop n l)) (sym (length-drop n l)) ∙ take_all (length (drop n l)) (drop n l) (omega arith)

pub copied_is : {A E : Type 0} (r : Result A E) (a b : A) → IfOk r (λ (x : A). x ≡ a) → a ≡ b → IfOk r (λ (x : A). x ≡ b)
copied_is (Ok x) a b is e = is ∙ e
copied_is (Err error) a b is e = is

-- ---- the phone has the same digits for ever

pub heard_phone : (m : Machine) (just : Option Acknowledgement) (takes : Bool) → (accepting (step.hears m just) takes).phone ≡ m.phone
heard_phone m None true = refl
heard_phone m None false = refl
heard_phone m (Some ack) true = refl
heard_phone m (Some ack) false = refl

pub taken_terminal : (w : World) (place : ℕ) (s : Option State) (item : Option Unplaced) (way : Way) → (after_take w place s item way).terminal ≡ w.terminal
taken_terminal w place None item way = refl
taken_terminal w place (Some s) item way = refl

step_key : (m : Machine) (s : TerminalStep) → MayStep m None s → key_of (step.machine_after m s).phone ≡ key_of m.phone
step_key m (step.Records fix) may = refl
step_key m (step.Forms unit) may = refl
step_key m (step.Sends place) may = refl
step_key m (step.Says h body) may = refl
step_key m step.Accepts may = refl
step_key m step.Opens may = refl
step_key m step.Loses may = refl
step_key m (step.Restarts phone) may = may.1
step_key m (step.Codes code) may = refl

pub event_key : (w : World) (event : Event) → MayCome w event → key_of (after w event).terminal.phone ≡ key_of w.terminal.phone
event_key w (Does s) may = step_key w.terminal s may
event_key w (Up place way) may = ap (λ (m : Machine). key_of m.phone) (taken_terminal w place (line_at w.lines place).session (completed_item (line_at w.lines place).up) way)
event_key w (Down takes) may = ap key_of (heard_phone w.terminal (just_read w.partial (completed_item (octets.newest w).down)) takes)
event_key w (Cut place) may = refl
event_key w RestartPlatform may = refl

all_key : (w : World) (events : List Event) → MayAll MayCome after w events → key_of (after_all after w events).terminal.phone ≡ key_of w.terminal.phone
all_key w [] may = refl
all_key w (event ∷ events) may = all_key (after w event) events may.1 ∙ event_key w event may.0

pub leads_key : (old new : World) → Leads old new → key_of new.terminal.phone ≡ key_of old.terminal.phone
leads_key old new l = ap (λ (w : World). key_of w.terminal.phone) (sym l.to) ∙ all_key old l.events l.may

-- ---- what stays true

pub reached_on : (old new : World) → Leads old new → Reached old → Reached new
reached_on old new l r = record { phone = r.phone; good = r.good; setting = r.setting; leads = leads_both (empty r.phone r.setting) old new r.leads l }

pub still_reached : (old new : World) → ∥ Reached old ∥₁ → Leads old new → ∥ Reached new ∥₁
still_reached old new reached l = ∥∥₁_map reached (reached_on old new l)

pub scene_on : (old new : Play) (identity : Identity) → IsScene old identity → Leads old.world new.world → IsScene new identity
scene_on old new identity s l = record {
  reached = ∥∥₁_map s.reached (reached_on old.world new.world l);
  good = s.good;
  same = λ e. s.same e ∙ sym (leads_key old.world new.world l);
}

first_same : (identity : Identity) (setting : Setting) (p : Play) → p ≡ first_play identity.e2013 setting → key_of identity.e2019.phone ≡ key_of identity.e2013.phone → (e : Edition) → key_of (settings_in identity e).phone ≡ key_of p.world.terminal.phone
first_same identity setting p is same E2013 = ap (λ (q : Play). key_of q.world.terminal.phone) (sym is)
first_same identity setting p is same E2019 = same ∙ ap (λ (q : Play). key_of q.world.terminal.phone) (sym is)

both_good : (identity : Identity) → AreSettings identity.e2013 → AreSettings identity.e2019 → (e : Edition) → AreSettings (settings_in identity e)
both_good identity first second E2013 = first
both_good identity first second E2019 = second

pub first_scene : (identity : Identity) (setting : Setting) (p : Play) → p ≡ first_play identity.e2013 setting → key_of identity.e2019.phone ≡ key_of identity.e2013.phone → AreSettings identity.e2013 → AreSettings identity.e2019 → Reached p.world → IsScene p identity
first_scene identity setting p is same first second reached = record { reached = ∣ reached ∣₁; good = both_good identity first second; same = first_same identity setting p is same }

pub of_prop : (key : List ℕ) (q : Request) → IsProp (IsOf key q)
of_prop key (ask.Register phone register) = Prim.hlevel codes
of_prop key (ask.Auth phone code) = Prim.hlevel codes
of_prop key (ask.Unit phone serial id body) = Prim.hlevel codes
of_prop key (ask.Deregister phone) = Prim.hlevel codes
of_prop key (ask.Other phone id) = Prim.hlevel codes
of_prop key ask.Close = Unit-prop

pub own_prop : (key : List ℕ) (h : List Entry) → IsProp (AreOf key h)
own_prop key [] = Unit-prop
own_prop key (e ∷ h) = ×_prop (of_prop key e.request) (own_prop key h)

-- the present hub's history is of the terminal's phone
pub own_reached : EachReachedIsOfThePhone → (w : World) → ∥ Reached w ∥₁ → AreOf (key_of w.terminal.phone) w.history
own_reached law w reached = ∥∥₁_elim reached (own_prop (key_of w.terminal.phone) w.history) (λ (r : Reached w). law w r)

pub own_history : EachReachedIsOfThePhone → (p : Play) (identity : Identity) → IsScene p identity → AreOf (key_of p.world.terminal.phone) p.world.history
own_history law p identity s = own_reached law p.world s.reached

-- ---- lines that were not opened

unopened : (w : World) (e : WorldEvent) (l : ℕ) → Names e l → names_no_line w e ≡ true → is_opened w l ≡ false
unopened w (line.Up number count) l named e = ap (is_opened w) (sym named) ∙ shut (is_opened w number) e
  where
    shut : (b : Bool) → not b ≡ true → b ≡ false
    shut false e = refl
    shut true e = absurd (false≢true e)
unopened w (line.Cut number) l named e = ap (is_opened w) (sym named) ∙ shut (is_opened w number) e
  where
    shut : (b : Bool) → not b ≡ true → b ≡ false
    shut false e = refl
    shut true e = absurd (false≢true e)
unopened w (line.Fix latitude) l named e = absurd named
unopened w (line.Raw fix) l named e = absurd named
unopened w line.Open l named e = absurd named
unopened w (line.Down count) l named e = absurd named
unopened w (line.Tick by) l named e = absurd named
unopened w (line.Beat n) l named e = absurd named
unopened w line.Run l named e = absurd named
unopened w line.Lost l named e = absurd named
unopened w line.RestartTerminal l named e = absurd named
unopened w line.RestartPlatform l named e = absurd named
unopened w (line.RestartAs edition) l named e = absurd named

pub names_it : (w : World) (e : WorldEvent) (l : ℕ) → Names e l → is_opened w l ≡ false → names_no_line w e ≡ true
names_it w (line.Up number count) l named e = ap not (ap (is_opened w) named ∙ e)
names_it w (line.Cut number) l named e = ap not (ap (is_opened w) named ∙ e)
names_it w (line.Fix latitude) l named e = absurd named
names_it w (line.Raw fix) l named e = absurd named
names_it w line.Open l named e = absurd named
names_it w (line.Down count) l named e = absurd named
names_it w (line.Tick by) l named e = absurd named
names_it w (line.Beat n) l named e = absurd named
names_it w line.Run l named e = absurd named
names_it w line.Lost l named e = absurd named
names_it w line.RestartTerminal l named e = absurd named
names_it w line.RestartPlatform l named e = absurd named
names_it w (line.RestartAs edition) l named e = absurd named

one_name : (e : WorldEvent) (k l : ℕ) → Names e k → Names e l → k ≡ l
one_name (line.Up number count) k l a b = sym a ∙ b
one_name (line.Cut number) k l a b = sym a ∙ b
one_name (line.Fix latitude) k l a b = absurd a
one_name (line.Raw fix) k l a b = absurd a
one_name line.Open k l a b = absurd a
one_name (line.Down count) k l a b = absurd a
one_name (line.Tick by) k l a b = absurd a
one_name (line.Beat n) k l a b = absurd a
one_name line.Run k l a b = absurd a
one_name line.Lost k l a b = absurd a
one_name line.RestartTerminal k l a b = absurd a
one_name line.RestartPlatform k l a b = absurd a
one_name (line.RestartAs edition) k l a b = absurd a

pub no_line_is : {T : Type 0} (w : World) (e : WorldEvent) (r : Result T WorldError) → is_no_line r ≡ names_no_line w e → ((l : ℕ) → r ≡ Err (refused.NoLine l) → Names e l) → (l : ℕ) → (r ≡ Err (refused.NoLine l)) ↔ (Names e l × (is_opened w l ≡ false))
no_line_is {T} w e r test number l = (forth, back)
  where
    forth : r ≡ Err (refused.NoLine l) → Names e l × (is_opened w l ≡ false)
    forth is = let named = number l is in (named, unopened w e l named (sym test ∙ ap is_no_line is))

    by : (x : Result T WorldError) → r ≡ x → is_no_line x ≡ true → Names e l → r ≡ Err (refused.NoLine l)
    by (Ok x) is t named = absurd (false≢true t)
    by (Err (refused.NoLine k)) is t named = is ∙ ap (λ (n : ℕ). Err (refused.NoLine n)) (one_name e k l (number k is) named)
    by (Err (refused.Full limit)) is t named = absurd (false≢true t)
    by (Err refused.Memory) is t named = absurd (false≢true t)

    back : Names e l × (is_opened w l ≡ false) → r ≡ Err (refused.NoLine l)
    back both = by r refl (test ∙ names_it w e l both.0 both.1) both.0

-- what is the same where the answer is a refusal
pub same_refused : {T U : Type 0} (r : Result T WorldError) (done : Result U WorldError) (A : Type 0) → ((l : ℕ) → (r ≡ Err (refused.NoLine l)) ↔ (done ≡ Err (refused.NoLine l))) → ((l : ℕ) → (r ≡ Err (refused.Full l)) ↔ (done ≡ Err (refused.Full l)))
    → IfErr done (λ (e : WorldError). A) → (e : WorldError) → r ≡ Err e → (e ≡ refused.Memory → ⊥) → A
same_refused r done A no_line full same (refused.NoLine l) is other = subst (λ x. IfErr x (λ (e : WorldError). A)) ((no_line l).0 is) same
same_refused r done A no_line full same (refused.Full l) is other = subst (λ x. IfErr x (λ (e : WorldError). A)) ((full l).0 is) same
same_refused r done A no_line full same refused.Memory is other = absurd (other refl)

-- ---- where full is found

-- An answer that is neither a value nor the refusal of a line of communication is then Full of the limit, or want of memory.
pub at_full_is : {T E : Type 0} (no_line full : ℕ → E) (memory : E) (limit : ℕ) (found : Bool) (r : Result T E) → ((e : E) → ((l : ℕ) × (e ≡ no_line l)) ⊎ (((l : ℕ) × (e ≡ full l)) ⊎ (e ≡ memory)))
    → OnOk r (found ≡ false) → ((l : ℕ) → r ≡ Err (no_line l) → found ≡ false) → ((l : ℕ) → r ≡ Err (full l) → l ≡ limit) → found ≡ true → (r ≡ Err (full limit)) ⊎ (r ≡ Err memory)
at_full_is no_line full memory limit found (Ok x) parts room named limited at = absurd (false≢true (sym room ∙ at))
at_full_is {T} {E} no_line full memory limit found (Err e) parts room named limited at = by (parts e)
  where
    by : ((l : ℕ) × (e ≡ no_line l)) ⊎ (((l : ℕ) × (e ≡ full l)) ⊎ (e ≡ memory)) → (◌≡◌ {A = Result T E} (Err e) (Err (full limit))) ⊎ (◌≡◌ {A = Result T E} (Err e) (Err memory))
    by (inl (l, is)) = absurd (false≢true (sym (named l (ap (λ (x : E). Err x) is)) ∙ at))
    by (inr (inl (l, is))) = inl (ap (λ (x : E). Err x) (is ∙ ap full (limited l (ap (λ (x : E). Err x) is))))
    by (inr (inr is)) = inr (ap (λ (x : E). Err x) is)

pub refusals : (e : WorldError) → ((l : ℕ) × (e ≡ refused.NoLine l)) ⊎ (((l : ℕ) × (e ≡ refused.Full l)) ⊎ (e ≡ refused.Memory))
refusals (refused.NoLine l) = inl (l, refl)
refusals (refused.Full l) = inr (inl (l, refl))
refusals refused.Memory = inr (inr refl)

-- an event that names a line of communication records nothing
pub named_not_full : (limit : ℕ) (p : Play) (e : WorldEvent) (l : ℕ) → Names e l → finds_full limit p e ≡ false
named_not_full limit p (line.Up number count) l named = refl
named_not_full limit p (line.Cut number) l named = refl
named_not_full limit p (line.Fix latitude) l named = absurd named
named_not_full limit p (line.Raw fix) l named = absurd named
named_not_full limit p line.Open l named = refl
named_not_full limit p (line.Down count) l named = refl
named_not_full limit p (line.Tick by) l named = refl
named_not_full limit p (line.Beat n) l named = refl
named_not_full limit p line.Run l named = refl
named_not_full limit p line.Lost l named = refl
named_not_full limit p line.RestartTerminal l named = refl
named_not_full limit p line.RestartPlatform l named = refl
named_not_full limit p (line.RestartAs edition) l named = refl
