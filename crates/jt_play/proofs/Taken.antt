-- An octet up, as it is played: the reply is the one that the history allows.
use Rattle.std.proofs.Common.{ℕ, zero, suc, ◌+◌, ◌-◌, ◌<◌, ◌≤◌, ◌≡◌, ◌≢◌, ◌⊎◌, List, [], ◌∷◌, length, set, Option, Some, None, IsSome, Bool, true, false, arith, refl, ap, sym, ◌∙◌, subst, inl, inr, get_or}
use Rattle.std.specs.Prelude.{if◌then◌else◌, IsSomeAnd, ◌&&◌, is_none, not, min, IfSome, Ok}
use Rattle.std.specs.Coded.{codes, le_prop, ×_prop, Unit-prop, Π_prop}
use Rattle.std.proofs.Math.Logic.{∥∥₁_elim}
use Rattle.std.proofs.Math.Nat.{min-eq_left, min-eq_right}
use Rattle.std.proofs.lemmas.Bool.{false≢true, and_parts, ltb-true}
use Rattle.std.proofs.lemmas.List.{get_or-set_same}
use Rattle.std.proofs.lemmas.Slice.Eq.{bytes_eq-Decides}
use Rattle.jt_value.specs.Sameness.{key_of, same_key}
use Rattle.jt_stream.specs.Unplaced.{Unplaced}
use Rattle.jt_store.specs.Memory.{KeeperState, Stock, tables_of}
use Rattle.jt_store.specs.Tables.{Tables, HasName, plates, terminals}
use Rattle.jt_store.specs.Verdicts.{Shelf, alone}
use Rattle.jt_store.specs.declared.row.Registered.{Registered}
use Rattle.jt_platform.specs.Allowed.{Allowed, IsAnothers, is_trouble}
use Rattle.jt_platform.specs.Answer.{IsAsked}
use Rattle.jt_platform.specs.History.{newest, tables_after}
use Rattle.jt_platform.specs.Hub.{HubValue, opening_of as hub_opening}
use Rattle.jt_platform.specs.Laws.{AnswersTell, AreOf, HistoriesTell, IsOf, shelf_of}
use Rattle.jt_platform.specs.declared.request.Entry.{Entry}
use Rattle.jt_platform.specs.declared.request.Reply.{Reply}
use Rattle.jt_platform.specs.declared.request.Reply.TheVariants as say
use Rattle.jt_platform.specs.declared.request.Request.{Request}
use Rattle.jt_platform.specs.declared.request.Request.TheVariants as ask
use Rattle.jt_session.specs.Sessions.{end_by, feed_end}
use Rattle.jt_session.specs.Talk.{State as Session, Way, Goes, Stops}
use Rattle.jt_session.specs.declared.end.Fed.{Fed}
use Rattle.jt_terminal_steps.specs.Running.{TerminalValue}
use Rattle.jt_octets.specs.Reaching.{Reached}
use Rattle.jt_octets.specs.Steps.{Cut, MayGoOn, MayTake, MayTalk, Up, after}
use Rattle.jt_octets.specs.World.{World, Line, completed_item, line_at, new_line, opening_of}
use Rattle.jt_play.specs.Holding.{AsksFine, EachReachedAsks, HasSerial, IsRunning, Numbered, TakesOne, TakesNext, asked_at, is_short, lines_in, play_of}
use Rattle.jt_play.specs.Playing.{Play, closes, cuts, goes_on, has_left, left_of, reply_to, takes, takes_by, takes_octet, takes_one, takes_up, way_at}
use Rattle.jt_play.proofs.Scenes.{of_prop, own_history, own_prop}
use Rattle.jt_play.proofs.Upward.{IsPlain, plain_way}
use Rattle.jt_play.proofs.Rounds.{GoesUp, HasSession, none_left, one_taken}
use Rattle.jt_play.proofs.Wholes.{either_way}
use Rattle.jt_play.proofs.Worlds.{set_in, up_is, up_step}

-- ---- what is asked is fine

serial_prop : (q : Request) → IsProp (HasSerial q)
serial_prop (ask.Register phone register) = Unit-prop
serial_prop (ask.Auth phone code) = Unit-prop
serial_prop (ask.Unit phone serial id body) = le_prop
serial_prop (ask.Deregister phone) = Unit-prop
serial_prop (ask.Other phone id) = Unit-prop
serial_prop ask.Close = Unit-prop

pub fine_prop : (w : World) (place : ℕ) → IsProp (AsksFine w place)
fine_prop w place = Π_prop (λ s. Π_prop (λ q. Π_prop (λ e. ×_prop (of_prop (key_of w.terminal.phone) q) (serial_prop q))))

pub asks_fine : EachReachedAsks → (w : World) → ∥ Reached w ∥₁ → (place : ℕ) → place < length w.lines → (line_at w.lines place).up.taken < length (line_at w.lines place).up.octets → AsksFine w place
asks_fine law w reached place within left = ∥∥₁_elim reached (fine_prop w place) (λ (r : Reached w). law w r place within left)

-- ---- the reply is the one that is played

no_name : (name_of : Registered → List ℕ) (key other name : List ℕ) (shelf : Shelf) → other ≢ key → HasName name_of (alone key shelf).registered other name → ⊥
no_name name_of key other name shelf apart has = by (same_key key other) refl
  where
    by : (b : Bool) → same_key key other ≡ b → ⊥
    by true e = apart (sym ((bytes_eq-Decides key other).0 e))
    by false e = subst (λ (b : Bool). IsSomeAnd (if b then shelf.registered else None) (λ (r : Registered). name_of r ≡ name)) e has

no_other : (name_of : Registered → List ℕ) (key k name : List ℕ) (shelf : Shelf) → k ≡ key → IsAnothers name_of (alone key shelf) k name → ⊥
no_other name_of key k name shelf same a = no_name name_of key a.0 name shelf (λ e. a.2 (e ∙ sym same)) a.1

asked_is : (key : List ℕ) (shelf : Shelf) (q : Request) → IsOf key q → HasSerial q → IsAsked (alone key shelf) false false q
asked_is key shelf (ask.Register phone register) of short = (
  (λ e. absurd (false≢true e), λ a. absurd (no_other plates key (key_of phone) _ shelf of a)),
  (λ e. absurd (false≢true e), λ a. absurd (no_other terminals key (key_of phone) _ shelf of a)),
)
asked_is key shelf (ask.Auth phone code) of short = tt
asked_is key shelf (ask.Unit phone serial id body) of short = short
asked_is key shelf (ask.Deregister phone) of short = tt
asked_is key shelf (ask.Other phone id) of short = tt
asked_is key shelf ask.Close of short = tt

pub reply_is : AnswersTell → HistoriesTell → (w : World) (place : ℕ) → w.keeper ≡ shelf_of (key_of w.terminal.phone) w.began w.history → AreOf (key_of w.terminal.phone) w.history → (q : Request) (r : Reply) → IsOf (key_of w.terminal.phone) q × HasSerial q
    → Allowed (opening_of w) w.history (suc place) q r → r ≡ reply_to w place q
reply_is answers histories w place kept own q r fine allowed =
    let key = key_of w.terminal.phone in
    answers (opening_of w) w.history (suc place) q r (alone key w.keeper) false false
    (histories.alone key w.began w.history own ∙ ap (λ (shelf : Shelf). Some (alone key shelf)) (sym kept)) (asked_is key w.keeper q fine.0 fine.1) allowed

plain_end : (r : Reply) → is_short (feed_end r) ≡ false → is_trouble r ≡ false
plain_end (say.Registered code) e = refl
plain_end (say.Denied n) e = refl
plain_end say.Accepted e = refl
plain_end (say.Stored n) e = refl
plain_end (say.Repeat n) e = refl
plain_end (say.Renumbered n) e = refl
plain_end say.NotLive e = refl
plain_end (say.Fenced other) e = refl
plain_end (say.ListFull l) e = refl
plain_end say.StoreFault e = absurd (false≢true (sym e))
plain_end say.Memory e = absurd (false≢true (sym e))

pub plain_of : (way : Way) → is_short (end_by way) ≡ false → IsPlain way
plain_of (Goes None) e = tt
plain_of (Goes (Some r)) e = plain_end r e
plain_of (Stops None) e = absurd (false≢true (sym e))
plain_of (Stops (Some r)) e = plain_end r e

-- ---- the call

module _ (answers : AnswersTell) (histories : HistoriesTell) (t : TerminalValue Stock) (hub now : HubValue KeeperState) (lines : List Numbered) (past : List Entry) (told : List ℕ) (clock place : ℕ) (old x : Numbered) (fed : Fed)
    (running : IsRunning t hub lines) (within : place < length (lines_in lines)) (at : old ≡ get_or lines place old)
    (takes : (w : World) (place : ℕ) → place < length w.lines → line_at w.lines place ≡ old.line → old.number ≡ suc place → hub_opening (Some (tables_of hub.start)) hub.start.limit hub.fleet hub.secret ≡ opening_of w → newest hub.history ≡ w.history
    → TakesOne w place x.line (newest now.history) fed)
    (start : now.start ≡ hub.start) (fleet : now.fleet ≡ hub.fleet) (secret : now.secret ≡ hub.secret) where
  abbrev p : Play
  p = play_of t hub lines past told clock

  abbrev r : TakesOne p.world place x.line (newest now.history) fed
  r = up_step t hub now lines past told clock place old x fed running within at takes start fleet secret

  pub up_whole : AreOf (key_of p.world.terminal.phone) p.world.history → AsksFine p.world place → is_short fed ≡ false → play_of t now (set lines place x) past told clock ≡ record p { world = takes_octet p.world place (line_at p.world.lines place).session }
  up_whole own fine short = by (line_at p.world.lines place).session refl
    where
      by : (o : Option Session) → (line_at p.world.lines place).session ≡ o → play_of t now (set lines place x) past told clock ≡ record p { world = takes_octet p.world place (line_at p.world.lines place).session }
      by None e = absurd (subst (λ (o : Option Session). MayGoOn p.world place o (completed_item (line_at p.world.lines place).up) r.way) e r.may.goes)
      by (Some s) e =
          let item = completed_item (line_at p.world.lines place).up in
          let goes = subst (λ (o : Option Session). MayGoOn p.world place o item r.way) e r.may.goes in
          let way : r.way ≡ way_at p.world place s item = plain_way p.world place s item r.way (λ q reply asked allowed. reply_is answers histories p.world place refl own q reply (fine s q asked) allowed) goes (plain_of r.way (ap is_short (sym r.ended) ∙ short)) in
          ap (λ (z : World). record p { world = z }) (sym (up_is t hub now lines past told clock place old x fed running within at takes start fleet secret) ∙ (ap (λ (z : Way). after p.world (Up place z)) way ∙ sym (ap (takes_octet p.world place) e)))

-- where the octet went: the end is open still
pub opened_on : (lines : List Numbered) (place : ℕ) (x : Numbered) → place < length (lines_in lines) → x.line.is_open ≡ true → (line_at (lines_in (set lines place x)) place).is_open ≡ true
opened_on lines place x lt opened = ap (λ (ls : List Line). (line_at ls place).is_open) (set_in lines place x) ∙ (ap (λ (l : Line). l.is_open) (get_or-set_same (lines_in lines) place x.line new_line lt) ∙ opened)

-- ---- whether the session goes on

pub record GoesParts (line : Line) : Type 0 where
  pub is_open : line.is_open ≡ true
  pub some : IsSome line.session
  pub left : line.up.taken < length line.up.octets
  pub has : has_left line.up ≡ true

pub some_of : (o : Option Session) → not (is_none o) ≡ true → IsSome o
some_of None e = absurd (false≢true e)
some_of (Some s) e = refl

pub goes_parts : (line : Line) → goes_on line ≡ true → GoesParts line
goes_parts line e =
    let outer = and_parts (line.is_open && not (is_none line.session)) (has_left line.up) e in
    let inner = and_parts line.is_open (not (is_none line.session)) outer.0 in
    record { is_open = inner.0; some = some_of line.session inner.1; left = ltb-true line.up.taken (length line.up.octets) outer.1; has = outer.1 }

pub closes_over : (p : Play) (place : ℕ) → (line_at p.world.lines place).is_open ≡ true → is_none (line_at p.world.lines place).session ≡ true → record p { world = cuts p.world place } ≡ record p { world = closes place p.world }
closes_over p place opened over = ap (λ (z : World). record p { world = z })
    (ap (λ (b : Bool). if b then after p.world (Cut place) else p.world) opened ∙ sym (ap (λ (b : Bool). if b then after p.world (Cut place) else p.world) over))

pub closes_on : (p : Play) (place : ℕ) → is_none (line_at p.world.lines place).session ≡ false → p ≡ record p { world = closes place p.world }
closes_on p place on = ap (λ (z : World). record p { world = z }) (sym (ap (λ (b : Bool). if b then after p.world (Cut place) else p.world) on))

closes_takes : (w : World) (place : ℕ) (o : Option Session) → IsSome o → closes place (takes_octet w place o) ≡ takes_by w place o
closes_takes w place None some = absurd (false≢true some)
closes_takes w place (Some s) some = refl

pub took_one : (p mid now : Play) (place : ℕ) → IsSome (line_at p.world.lines place).session → mid ≡ record p { world = takes_octet p.world place (line_at p.world.lines place).session } → now ≡ record mid { world = closes place mid.world } → now ≡ record p { world = takes_one p.world place }
took_one p mid now place some first second =
    second ∙ (ap (λ (q : Play). record q { world = closes place q.world }) first ∙ ap (λ (z : World). record p { world = z }) (closes_takes p.world place (line_at p.world.lines place).session some))

-- ---- octets one after another

abbrev goes_at : World → ℕ → Bool
goes_at w place = goes_on (line_at w.lines place)

abbrev may_at : World → ℕ → Bool
may_at w place = (line_at w.lines place).is_open && has_left (line_at w.lines place).up

may_of : (w : World) (place : ℕ) → goes_at w place ≡ true → may_at w place ≡ true
may_of w place e = let g = goes_parts (line_at w.lines place) e in ap (λ (b : Bool). b && has_left (line_at w.lines place).up) g.is_open ∙ g.has

pub takes_go : (n : ℕ) (w : World) (place : ℕ) → goes_at w place ≡ true → takes (suc n) w place ≡ takes n (takes_one w place) place
takes_go n w place e = ap (λ (b : Bool). if b then takes n (takes_one w place) place else w) (may_of w place e)

ended_one : (w : World) (place : ℕ) → (line_at w.lines place).is_open ≡ true → has_left (line_at w.lines place).up ≡ true → goes_at w place ≡ false → takes_one w place ≡ w
ended_one w place opened left e = by (line_at w.lines place).session refl
  where
    by : (o : Option Session) → (line_at w.lines place).session ≡ o → takes_one w place ≡ w
    by None f = ap (takes_by w place) f
    by (Some s) f = absurd (false≢true (sym e ∙ (ap (λ (b : Bool). (b && not (is_none (line_at w.lines place).session)) && has_left (line_at w.lines place).up) opened
        ∙ (ap (λ (o : Option Session). not (is_none o) && has_left (line_at w.lines place).up) f ∙ left))))

pub takes_stop : (n : ℕ) (w : World) (place : ℕ) → goes_at w place ≡ false → takes n w place ≡ w
takes_stop zero w place e = refl
takes_stop (suc n) w place e = by (may_at w place) refl (takes_stop n w place e)
  where
    by : (b : Bool) → may_at w place ≡ b → takes n w place ≡ w → takes (suc n) w place ≡ w
    by false f more = ap (λ (b : Bool). if b then takes n (takes_one w place) place else w) f
    by true f more =
        let both = and_parts (line_at w.lines place).is_open (has_left (line_at w.lines place).up) f in
        ap (λ (b : Bool). if b then takes n (takes_one w place) place else w) f ∙ (ap (λ (z : World). takes n z place) (ended_one w place both.0 both.1 e) ∙ more)

less : (n : ℕ) → suc n - 1 ≡ n
less n = omega arith

pub takes_next : (n : ℕ) (p now : Play) (place : ℕ) → 0 < n → (goes_at p.world place ≡ true) × (now ≡ record p { world = takes_one p.world place }) → takes (n - 1) now.world place ≡ takes n p.world place
takes_next zero p now place lt e = absurd (omega (arith, lt))
takes_next (suc n) p now place lt e = ap (λ (k : ℕ). takes k now.world place) (less n) ∙ (ap (λ (q : Play). takes n q.world place) e.1 ∙ sym (takes_go n p.world place e.0))

has_of : (w : World) (place : ℕ) → goes_at w place ≡ true → HasSession (line_at w.lines place)
has_of w place e o = by (line_at w.lines place).session (goes_parts (line_at w.lines place) e).some
  where
    by : (s : Option Session) → IsSome s → is_none s ≡ false
    by None some = absurd (false≢true some)
    by (Some s) some = refl

one_less : (w : World) (place n : ℕ) → goes_at w place ≡ true → GoesUp (line_at w.lines place) (suc n) → GoesUp (line_at (takes_one w place).lines place) n
one_less w place n e most = (one_taken w place n (may_of w place e) (has_of w place e) most).most

takes_stuck : (n m : ℕ) (w : World) (place : ℕ) → goes_at (takes n w place) place ≡ false → GoesUp (line_at w.lines place) m → takes m w place ≡ takes n w place
takes_stuck zero m w place stuck most = takes_stop m w place stuck
takes_stuck (suc n) m w place stuck most = by (goes_at w place) refl m (λ (k : ℕ) s h. takes_stuck n k (takes_one w place) place s h) most
  where
    by : (b : Bool) → goes_at w place ≡ b → (m : ℕ) → ((k : ℕ) → goes_at (takes n (takes_one w place) place) place ≡ false → GoesUp (line_at (takes_one w place).lines place) k → takes k (takes_one w place) place ≡ takes n (takes_one w place) place) → GoesUp (line_at w.lines place) m → takes m w place ≡ takes (suc n) w place
    by false e m more most = takes_stop m w place e ∙ sym (takes_stop (suc n) w place e)
    by true e zero more most = let g = goes_parts (line_at w.lines place) e in absurd (false≢true (sym (none_left (line_at w.lines place).up (most g.is_open)) ∙ g.has))
    by true e (suc m) more most = takes_go m w place e ∙ (more m (ap (λ (z : World). goes_at z place) (sym (takes_go n w place e)) ∙ stuck) (one_less w place m e most) ∙ sym (takes_go n w place e))

all_taken : (n : ℕ) (w : World) (place : ℕ) → GoesUp (line_at w.lines place) n → goes_at (takes n w place) place ≡ false
all_taken zero w place most = by (goes_at w place) refl
  where
    by : (b : Bool) → goes_at w place ≡ b → goes_at w place ≡ false
    by false e = e
    by true e = let g = goes_parts (line_at w.lines place) e in absurd (false≢true (sym (none_left (line_at w.lines place).up (most g.is_open)) ∙ g.has))
all_taken (suc n) w place most = by (goes_at w place) refl (λ (h : GoesUp (line_at (takes_one w place).lines place) n). all_taken n (takes_one w place) place h)
  where
    by : (b : Bool) → goes_at w place ≡ b → (GoesUp (line_at (takes_one w place).lines place) n → goes_at (takes n (takes_one w place) place) place ≡ false) → goes_at (takes (suc n) w place) place ≡ false
    by true e more = ap (λ (z : World). goes_at z place) (takes_go n w place e) ∙ more (one_less w place n e most)
    by false e more = ap (λ (z : World). goes_at z place) (takes_stop (suc n) w place e) ∙ e

takes_min : (n : ℕ) (w : World) (place : ℕ) → takes (min n (left_of (line_at w.lines place).up)) w place ≡ takes n w place
takes_min n w place = by (either_way n (left_of (line_at w.lines place).up))
  where
    by : (n ≤ left_of (line_at w.lines place).up) ⊎ (left_of (line_at w.lines place).up ≤ n) → takes (min n (left_of (line_at w.lines place).up)) w place ≡ takes n w place
    by (inl le) = ap (λ (k : ℕ). takes k w place) (min-eq_left le)
    by (inr le) = ap (λ (k : ℕ). takes k w place) (min-eq_right le) ∙ sym (takes_stuck (left_of (line_at w.lines place).up) n w place (all_taken (left_of (line_at w.lines place).up) w place (λ o. omega arith)) (λ o. le))

pub up_some : (p now : Play) (place : ℕ) (count : Option ℕ) (n most : ℕ) → count ≡ Some n → IfSome count (λ (some : ℕ). most ≡ some) → now ≡ record p { world = takes most p.world place } → now ≡ takes_up p place count
up_some p now place count n most is e done =
    done ∙ (ap (λ (k : ℕ). record p { world = takes k p.world place }) (subst (λ (o : Option ℕ). IfSome o (λ (some : ℕ). most ≡ some)) is e)
    ∙ (ap (λ (z : World). record p { world = z }) (sym (takes_min n p.world place)) ∙ ap (takes_up p place) (sym is)))

pub up_all : (p now : Play) (place : ℕ) (count : Option ℕ) (most : ℕ) → count ≡ None → now ≡ record p { world = takes most p.world place } → goes_at now.world place ≡ false → now ≡ takes_up p place count
up_all p now place count most none done stuck =
    done ∙ (ap (λ (z : World). record p { world = z }) (sym (takes_stuck most (left_of (line_at p.world.lines place).up) p.world place (ap (λ (q : Play). goes_at q.world place) (sym done) ∙ stuck) (λ o. omega arith)))
    ∙ ap (takes_up p place) (sym none))

-- the loop's end
pub took_many : (n : ℕ) (most : ℕ) (p now : Play) (place : ℕ) → now ≡ record p { world = now.world } → takes n now.world place ≡ takes most p.world place → (n ≡ 0) ⊎ (goes_at now.world place ≡ false) → now ≡ record p { world = takes most p.world place }
took_many n most p now place same rest (inl none) = same ∙ ap (λ (z : World). record p { world = z }) (ap (λ (k : ℕ). takes k now.world place) (sym none) ∙ rest)
took_many n most p now place same rest (inr stop) = same ∙ ap (λ (z : World). record p { world = z }) (sym (takes_stop n now.world place stop) ∙ rest)

pub same_on : (p mid now : Play) (place : ℕ) → mid ≡ record p { world = mid.world } → now ≡ record mid { world = takes_one mid.world place } → now ≡ record p { world = now.world }
same_on p mid now place a b = b ∙ (ap (λ (q : Play). record q { world = takes_one mid.world place }) a ∙ ap (λ (z : World). record p { world = z }) (sym (ap (λ (q : Play). q.world) b)))

pub takes_true : (E : Type 0) (old new : Play) (place : ℕ) (b : Bool) → b ≡ true → TakesNext {E = E} old new place (Ok b) → (goes_on (line_at old.world.lines place) ≡ true) × (new ≡ record old { world = takes_one old.world place })
takes_true E old new place b is r = subst (λ (x : Bool). TakesNext {E = E} old new place (Ok x)) is r

pub takes_false : (E : Type 0) (old new : Play) (place : ℕ) (b : Bool) → b ≡ false → TakesNext {E = E} old new place (Ok b) → (goes_on (line_at old.world.lines place) ≡ false) × (new ≡ old)
takes_false E old new place b is r = subst (λ (x : Bool). TakesNext {E = E} old new place (Ok x)) is r
