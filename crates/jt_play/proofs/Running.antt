-- Rounds until no octet moves.
use Rattle.std.proofs.Common.{ℕ, zero, suc, ◌+◌, ◌-◌, ◌<◌, ◌≤◌, ◌≡◌, List, [], ◌∷◌, length, Option, Some, None, Bool, true, false, arith, refl, ap, sym, ◌∙◌, subst}
use Rattle.std.specs.Prelude.{if◌then◌else◌, ◌&&◌, Result, Ok, Err}
use Rattle.std.proofs.lemmas.Bool.{false≢true}
use Rattle.jt_terminal_rule.specs.declared.state.Event.TheVariants as event
use Rattle.jt_terminal_rule.specs.Unsaid.{unsaid}
use Rattle.jt_octets.specs.World.{World, Line, line_at, newest, newest_place}
use Rattle.jt_play.specs.Playing.{Play, RunsTo, comes_down, goes_up, has_left, left_of, meets, moves, reads, reads_down, round, rounds, runs, takes, takes_up}
use Rattle.jt_play.proofs.Reading.{newest_at}
use Rattle.jt_play.proofs.Wholes.{still}

pub ok_true : {E : Type 0} (b : Bool) → ◌≡◌ {A = Result Bool E} (Ok b) (Ok true) → b ≡ true
ok_true {E} b e = ap value e
  where
    value : Result Bool E → Bool
    value (Ok x) = x
    value (Err error) = b

-- ---- one round

pub down_comes : (q : Play) → reads_down q None ≡ comes_down q
down_comes q = by q.world.terminal.using refl
  where
    by : (b : Bool) → q.world.terminal.using ≡ b → reads_down q None ≡ comes_down q
    by true u = ap (λ (b : Bool). if b then reads (left_of (newest q.world).down) q else q) u
    by false u = ap (λ (b : Bool). if b then reads (left_of (newest q.world).down) q else q) u ∙ sym (still (left_of (newest q.world).down) q (ap (λ (b : Bool). b && has_left (newest q.world).down) u))

-- the newest line is in this place
pub up_goes : (p : Play) (place : ℕ) → length p.world.lines ≡ place + 1 → takes_up p place None ≡ goes_up p
up_goes p place last = ap (λ (k : ℕ). takes_up p k None) (sym (newest_at p.world.lines place last))

no_lines : (lines : List Line) → length lines ≡ 0 → lines ≡ []
no_lines [] e = refl
no_lines (line ∷ lines) e = absurd (omega (arith, e))

pub up_none : (p : Play) → length p.world.lines ≡ 0 → p ≡ goes_up p
up_none p none = sym (ap (λ (lines : List Line). record p { world = takes (left_of (line_at lines (newest_place lines)).up) p.world (newest_place lines) }) (no_lines p.world.lines none))

-- ---- round after round

pub record WentRounds (q now : Play) : Type 0 where
  pub count : ℕ
  pub is : now ≡ rounds count q

pub went_none : (q now : Play) → now ≡ q → WentRounds q now
went_none q now e = record { count = 0; is = e }

stays : (n : ℕ) (q : Play) → moves q ≡ false → rounds n q ≡ q
stays zero q e = refl
stays (suc n) q e = ap (λ (b : Bool). if b then rounds n (round q) else q) e

goes : (n : ℕ) (q : Play) → moves q ≡ true → rounds (suc n) q ≡ rounds n (round q)
goes n q e = ap (λ (b : Bool). if b then rounds n (round q) else q) e

rounds_more : (n : ℕ) (q : Play) → moves (rounds n q) ≡ true → rounds (suc n) q ≡ round (rounds n q)
rounds_more zero q e = goes 0 q e
rounds_more (suc n) q e = by (moves q) refl (rounds_more n (round q))
  where
    by : (b : Bool) → moves q ≡ b → (moves (rounds n (round q)) ≡ true → rounds (suc n) (round q) ≡ round (rounds n (round q))) → rounds (suc (suc n)) q ≡ round (rounds (suc n) q)
    by false f more = absurd (false≢true (sym f ∙ (ap moves (sym (stays (suc n) q f)) ∙ e)))
    by true f more = goes (suc n) q f ∙ (more (ap moves (sym (goes n q f)) ∙ e) ∙ ap round (sym (goes n q f)))

pub went_more : (q mid now : Play) → WentRounds q mid → moves mid ≡ true → now ≡ round mid → WentRounds q now
went_more q mid now w moving e = record { count = suc w.count; is = e ∙ (ap round w.is ∙ sym (rounds_more w.count q (ap moves (sym w.is) ∙ moving))) }

pub ran : (p q now : Play) → q ≡ meets p (event.Tick p.clock) → WentRounds q now → moves now ≡ false → RunsTo p now
ran p q now e w stuck = record { count = w.count; is = w.is ∙ ap (rounds w.count) e; still = stuck }

-- where enough rounds are made their number says nothing
rounds_same : (n m : ℕ) (q : Play) → moves (rounds n q) ≡ false → moves (rounds m q) ≡ false → rounds n q ≡ rounds m q
rounds_same zero m q a b = sym (stays m q a)
rounds_same (suc n) m q a b = by (moves q) refl m b (λ (k : ℕ) x y. rounds_same n k (round q) x y)
  where
    by : (c : Bool) → moves q ≡ c → (m : ℕ) → moves (rounds m q) ≡ false → ((k : ℕ) → moves (rounds n (round q)) ≡ false → moves (rounds k (round q)) ≡ false → rounds n (round q) ≡ rounds k (round q)) → rounds (suc n) q ≡ rounds m q
    by false f m b more = stays (suc n) q f ∙ sym (stays m q f)
    by true f zero b more = absurd (false≢true (sym b ∙ f))
    by true f (suc m) b more = goes n q f ∙ (more m (ap moves (sym (goes n q f)) ∙ a) (ap moves (sym (goes m q f)) ∙ b) ∙ sym (goes m q f))

pub runs_is : (p now : Play) → RunsTo p now → moves (runs p) ≡ false → now ≡ runs p
runs_is p now r enough =
    let q = meets p (event.Tick p.clock) in
    r.is ∙ rounds_same r.count (unsaid q.state + 1) q (ap moves (sym r.is) ∙ r.still) enough
