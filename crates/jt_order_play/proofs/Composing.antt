-- Calls one behind the other.
use Rattle.std.proofs.Common.{ℕ, zero, suc, ◌+◌, ◌-◌, ◌<◌, ◌≤◌, ◌^◌, ◌≡◌, ◌≢◌, ◌⊎◌, [], ◌∷◌, length, Some, None, IsSome, Bool, true, false, arith, refl, ap, sym, ◌∙◌, subst, inl, inr}
use Rattle.std.specs.Prelude.{if◌then◌else◌, ◌&&◌, ◌||◌, is_none, not, Ok, Err}
use Rattle.std.proofs.Math.Logic.{∥∥₁_map}
use Rattle.std.proofs.lemmas.Bool.{false≢true, and_parts, ltb-true}
use Rattle.jt_terminal_rule.specs.declared.state.Event.TheVariants as event
use Rattle.jt_octets.specs.World.{Line, line_at, newest}
use Rattle.jt_play.specs.Playing.{has_left}
use Rattle.jt_play.proofs.Taken.{some_of}
use Rattle.jt_play.proofs.Reading.{newest_at}
use Rattle.jt_order_octets.specs.World.{OrderWorld, empty}
use Rattle.jt_order_octets.specs.Reaching.{Leads, Reached}
use Rattle.jt_order_octets.specs.Steps.{Cut, after}
use Rattle.jt_order_play.specs.Playing.{OrderPlay, RunsTo, closes, cuts, goes_on, meets, moves, offers_at, offers_upto, reads, reads_more, reads_one, round, rounds, takes, takes_octet, takes_one, with_world}
use Rattle.jt_order_play.specs.Holding.{ReadsNext, TakesNext}
use Rattle.jt_order_play.proofs.Standing.{leads_both}

-- ---- worlds that are reached

pub reached_on : (old new : OrderWorld) → Leads old new → Reached old → Reached new
reached_on old new l r = record { phone = r.phone; good = r.good; setting = r.setting; leads = leads_both (empty r.phone r.setting) old new r.leads l }

pub still_reached : (old new : OrderWorld) → ∥ Reached old ∥₁ → Leads old new → ∥ Reached new ∥₁
still_reached old new reached l = ∥∥₁_map reached (reached_on old new l)

less : (n : ℕ) → suc n - 1 ≡ n
less n = omega arith

-- ---- octets up

pub record GoesParts (line : Line) : Type 0 where
  pub is_open : line.is_open ≡ true
  pub some : IsSome line.session
  pub left : line.up.taken < length line.up.octets

pub goes_parts : (line : Line) → goes_on line ≡ true → GoesParts line
goes_parts line e =
    let outer = and_parts (line.is_open && not (is_none line.session)) (has_left line.up) e in
    let inner = and_parts line.is_open (not (is_none line.session)) outer.0 in
    record { is_open = inner.0; some = some_of line.session inner.1; left = ltb-true line.up.taken (length line.up.octets) outer.1 }

-- a line whose end is open, and whose session goes on
pub goes_open : (line : Line) → (line.is_open && not (is_none line.session)) ≡ true → (line.is_open ≡ true) × IsSome line.session
goes_open line e = let both = and_parts line.is_open (not (is_none line.session)) e in (both.0, some_of line.session both.1)

pub closes_over : (p : OrderPlay) (place : ℕ) → (line_at p.world.base.lines place).is_open ≡ true → is_none (line_at p.world.base.lines place).session ≡ true → with_world p (cuts p.world place) ≡ with_world p (closes place p.world)
closes_over p place opened over = ap (with_world p)
    (ap (λ (b : Bool). if b then after p.world (Cut place) else p.world) opened ∙ sym (ap (λ (b : Bool). if b then after p.world (Cut place) else p.world) over))

pub closes_on : (p : OrderPlay) (place : ℕ) → is_none (line_at p.world.base.lines place).session ≡ false → p ≡ with_world p (closes place p.world)
closes_on p place on = ap (with_world p) (sym (ap (λ (b : Bool). if b then after p.world (Cut place) else p.world) on))

pub cuts_shut : (p : OrderPlay) (place : ℕ) → (line_at p.world.base.lines place).is_open ≡ false → p ≡ with_world p (cuts p.world place)
cuts_shut p place e = ap (with_world p) (sym (ap (λ (b : Bool). if b then after p.world (Cut place) else p.world) e))

pub took_one : (p mid now : OrderPlay) (place : ℕ) → mid ≡ with_world p (takes_octet p.world place (line_at p.world.base.lines place).session) → now ≡ with_world mid (closes place mid.world) → now ≡ with_world p (takes_one p.world place)
took_one p mid now place first second = second ∙ ap (λ (q : OrderPlay). with_world q (closes place q.world)) first

abbrev pub goes_at : OrderWorld → ℕ → Bool
goes_at w place = goes_on (line_at w.base.lines place)

pub takes_go : (n : ℕ) (w : OrderWorld) (place : ℕ) → goes_at w place ≡ true → takes (suc n) w place ≡ takes n (takes_one w place) place
takes_go n w place e = ap (λ (b : Bool). if b then takes n (takes_one w place) place else w) e

pub takes_stop : (n : ℕ) (w : OrderWorld) (place : ℕ) → goes_at w place ≡ false → takes n w place ≡ w
takes_stop zero w place e = refl
takes_stop (suc n) w place e = ap (λ (b : Bool). if b then takes n (takes_one w place) place else w) e

pub takes_next : (n : ℕ) (p now : OrderPlay) (place : ℕ) → 0 < n → (goes_at p.world place ≡ true) × (now ≡ with_world p (takes_one p.world place)) → takes (n - 1) now.world place ≡ takes n p.world place
takes_next zero p now place lt e = absurd (omega (arith, lt))
takes_next (suc n) p now place lt e = ap (λ (k : ℕ). takes k now.world place) (less n) ∙ (ap (λ (q : OrderPlay). takes n q.world place) e.1 ∙ sym (takes_go n p.world place e.0))

pub took_many : (n most : ℕ) (p now : OrderPlay) (place : ℕ) → now ≡ with_world p now.world → takes n now.world place ≡ takes most p.world place → (n ≡ 0) ⊎ (goes_at now.world place ≡ false) → now ≡ with_world p (takes most p.world place)
took_many n most p now place same rest (inl none) = same ∙ ap (with_world p) (ap (λ (k : ℕ). takes k now.world place) (sym none) ∙ rest)
took_many n most p now place same rest (inr stop) = same ∙ ap (with_world p) (sym (takes_stop n now.world place stop) ∙ rest)

pub same_on : (p mid now : OrderPlay) (place : ℕ) → mid ≡ with_world p mid.world → now ≡ with_world mid (takes_one mid.world place) → now ≡ with_world p now.world
same_on p mid now place a b = b ∙ (ap (λ (q : OrderPlay). with_world q (takes_one mid.world place)) a ∙ ap (with_world p) (sym (ap (λ (q : OrderPlay). q.world) b)))

pub takes_true : (E : Type 0) (old new : OrderPlay) (place : ℕ) (b : Bool) → b ≡ true → TakesNext {E = E} old new place (Ok b) → (goes_on (line_at old.world.base.lines place) ≡ true) × (new ≡ with_world old (takes_one old.world place))
takes_true E old new place b is r = subst (λ (x : Bool). TakesNext {E = E} old new place (Ok x)) is r

pub takes_false : (E : Type 0) (old new : OrderPlay) (place : ℕ) (b : Bool) → b ≡ false → TakesNext {E = E} old new place (Ok b) → (goes_on (line_at old.world.base.lines place) ≡ false) × (new ≡ old)
takes_false E old new place b is r = subst (λ (x : Bool). TakesNext {E = E} old new place (Ok x)) is r

-- ---- offers

pub offers_next : (p mid now : OrderPlay) (place : ℕ) → mid ≡ with_world p (offers_upto place p.world) → now ≡ with_world mid (offers_at place mid.world) → now ≡ with_world p (offers_upto (place + 1) p.world)
offers_next p mid now place first second =
    let e : suc place ≡ place + 1 = omega arith in
    second ∙ (ap (λ (q : OrderPlay). with_world q (offers_at place q.world)) first ∙ ap (λ (n : ℕ). with_world p (offers_upto n p.world)) e)

-- ---- octets down

pub goes : (n : ℕ) (p : OrderPlay) → reads_more p ≡ true → reads (suc n) p ≡ reads n (reads_one p)
goes n p e = ap (λ (b : Bool). if b then reads n (reads_one p) else p) e

pub still : (n : ℕ) (p : OrderPlay) → reads_more p ≡ false → reads n p ≡ p
still zero p e = refl
still (suc n) p e = ap (λ (b : Bool). if b then reads n (reads_one p) else p) e

pub reads_next : (n : ℕ) (p now : OrderPlay) → 0 < n → (reads_more p ≡ true) × (now ≡ reads_one p) → reads (n - 1) now ≡ reads n p
reads_next zero p now lt e = absurd (omega (arith, lt))
reads_next (suc n) p now lt e = ap (λ (k : ℕ). reads k now) (less n) ∙ (ap (reads n) e.1 ∙ sym (goes n p e.0))

pub reads_true : (E : Type 0) (old new : OrderPlay) (b : Bool) → b ≡ true → ReadsNext {E = E} old new (Ok b) → (reads_more old ≡ true) × (new ≡ reads_one old)
reads_true E old new b is r = subst (λ (x : Bool). ReadsNext {E = E} old new (Ok x)) is r

pub reads_false : (E : Type 0) (old new : OrderPlay) (b : Bool) → b ≡ false → ReadsNext {E = E} old new (Ok b) → (reads_more old ≡ false) × (new ≡ old)
reads_false E old new b is r = subst (λ (x : Bool). ReadsNext {E = E} old new (Ok x)) is r

pub reads_end : (n : ℕ) (p q : OrderPlay) → n ≡ 0 → reads n p ≡ q → p ≡ q
reads_end n p q none e = ap (λ (k : ℕ). reads k p) (sym none) ∙ e

-- ---- rounds

-- some rounds of 2^64 - 1, of which so many are left
pub record WentRounds (q now : OrderPlay) (left : ℕ) : Type 0 where
  pub count : ℕ
  pub sum : count + left ≡ 2 ^ 64 - 1
  pub is : now ≡ rounds count q

stays : (n : ℕ) (q : OrderPlay) → moves q ≡ false → rounds n q ≡ q
stays zero q e = refl
stays (suc n) q e = ap (λ (b : Bool). if b then rounds n (round q) else q) e

goes_round : (n : ℕ) (q : OrderPlay) → moves q ≡ true → rounds (suc n) q ≡ rounds n (round q)
goes_round n q e = ap (λ (b : Bool). if b then rounds n (round q) else q) e

-- where no octet moves behind some rounds, more rounds come to the same
rounds_both : (n d : ℕ) (q : OrderPlay) → moves (rounds n q) ≡ false → rounds (n + d) q ≡ rounds n q
rounds_both zero d q e = let same : 0 + d ≡ d = omega arith in ap (λ (k : ℕ). rounds k q) same ∙ stays d q e
rounds_both (suc n) d q e = let same : suc n + d ≡ suc (n + d) = omega arith in ap (λ (k : ℕ). rounds k q) same ∙ by (moves q) refl (rounds_both n d (round q))
  where
    by : (b : Bool) → moves q ≡ b → (moves (rounds n (round q)) ≡ false → rounds (n + d) (round q) ≡ rounds n (round q)) → rounds (suc (n + d)) q ≡ rounds (suc n) q
    by false f more = stays (suc (n + d)) q f ∙ sym (stays (suc n) q f)
    by true f more = goes_round (n + d) q f ∙ (more (ap moves (sym (goes_round n q f)) ∙ e) ∙ sym (goes_round n q f))

pub rounds_past : (n most : ℕ) (q now : OrderPlay) → n ≤ most → now ≡ rounds n q → moves now ≡ false → now ≡ rounds most q
rounds_past n most q now few is still =
    let all : n + (most - n) ≡ most = omega (arith, few) in
    is ∙ (sym (rounds_both n (most - n) q (ap moves (sym is) ∙ still)) ∙ ap (λ (k : ℕ). rounds k q) all)

rounds_more : (n : ℕ) (q : OrderPlay) → moves (rounds n q) ≡ true → rounds (suc n) q ≡ round (rounds n q)
rounds_more zero q e = goes_round 0 q e
rounds_more (suc n) q e = by (moves q) refl (rounds_more n (round q))
  where
    by : (b : Bool) → moves q ≡ b → (moves (rounds n (round q)) ≡ true → rounds (suc n) (round q) ≡ round (rounds n (round q))) → rounds (suc (suc n)) q ≡ round (rounds (suc n) q)
    by false f more = absurd (false≢true (sym f ∙ (ap moves (sym (stays (suc n) q f)) ∙ e)))
    by true f more = goes_round (suc n) q f ∙ (more (ap moves (sym (goes_round n q f)) ∙ e) ∙ ap round (sym (goes_round n q f)))

pub went_none : (q now : OrderPlay) → now ≡ q → WentRounds q now (2 ^ 64 - 1)
went_none q now e = record { count = 0; sum = omega arith; is = e }

pub went_more : (q mid now : OrderPlay) (left : ℕ) → WentRounds q mid left → left ≢ 0 → moves mid ≡ true → now ≡ round mid → WentRounds q now (left - 1)
went_more q mid now left w some moving e = record {
  count = suc w.count;
  sum = omega (arith, w.sum, some);
  is = e ∙ (ap round w.is ∙ sym (rounds_more w.count q (ap moves (sym w.is) ∙ moving)));
}

pub ran : (p q now : OrderPlay) (left : ℕ) → q ≡ meets p (event.Tick p.clock) → WentRounds q now left → moves now ≡ false → RunsTo p now
ran p q now left e w stuck = record { count = w.count; few = omega (arith, w.sum); is = w.is ∙ ap (rounds w.count) e; still = stuck }

-- ---- the newest line

newest_is : (p : OrderPlay) (place : ℕ) (line : Line) → length p.world.base.lines ≡ place + 1 → line_at p.world.base.lines place ≡ line → newest p.world.base ≡ line
newest_is p place line last here = ap (line_at p.world.base.lines) (newest_at p.world.base.lines place last) ∙ here

pub more_line : (p : OrderPlay) (place : ℕ) (line : Line) → length p.world.base.lines ≡ place + 1 → line_at p.world.base.lines place ≡ line → p.world.base.terminal.using ≡ true → reads_more p ≡ has_left line.down
more_line p place line last here using = ap (λ (b : Bool). b && has_left (newest p.world.base).down) using ∙ ap (λ (l : Line). has_left l.down) (newest_is p place line last here)

pub moves_line : (p : OrderPlay) (place : ℕ) (line : Line) → length p.world.base.lines ≡ place + 1 → line_at p.world.base.lines place ≡ line → p.world.base.terminal.using ≡ true → moves p ≡ ((line.is_open && has_left line.up) || has_left line.down)
moves_line p place line last here using = ap (λ (b : Bool). b && (((newest p.world.base).is_open && has_left (newest p.world.base).up) || has_left (newest p.world.base).down)) using
    ∙ ap (λ (l : Line). (l.is_open && has_left l.up) || has_left l.down) (newest_is p place line last here)

-- without a line in use, and without a line, nothing moves
pub more_idle : (p : OrderPlay) → p.world.base.terminal.using ≡ false → reads_more p ≡ false
more_idle p idle = ap (λ (b : Bool). b && has_left (newest p.world.base).down) idle

pub moves_idle : (p : OrderPlay) → p.world.base.terminal.using ≡ false → moves p ≡ false
moves_idle p idle = ap (λ (b : Bool). b && (((newest p.world.base).is_open && has_left (newest p.world.base).up) || has_left (newest p.world.base).down)) idle
