-- What was done whole is what is played.
use Rattle.std.proofs.Common.{ℕ, zero, suc, ◌+◌, ◌-◌, ◌<◌, ◌≤◌, ◌≡◌, ◌⊎◌, List, [], ◌∷◌, ◌++◌, length, Option, Some, None, Bool, true, false, arith, refl, ap, sym, ◌∙◌, subst, inl, inr}
use Rattle.std.specs.Prelude.{if◌then◌else◌, ◌&&◌, not, min, nat_le, IfSome, Ok}
use Rattle.std.proofs.Math.Nat.{min-eq_left, min-eq_right}
use Rattle.std.proofs.lemmas.Bool.{false≢true, and_parts, le-leb}
use Rattle.jt_store.specs.Vaults.{Held, accepted_count, pending_count}
use Rattle.jt_terminal_rule.specs.declared.state.Event.TheVariants as event
use Rattle.jt_octets.specs.World.{World, Line, line_at, newest}
use Rattle.jt_octets.specs.Steps.{Cut, after}
use Rattle.jt_play.specs.Holding.{ReadsNext}
use Rattle.jt_play.specs.Playing.{Play, beats, cuts, has_left, left_of, meets, octets_moving, reads, reads_down, reads_more, reads_one}
use Rattle.jt_play.proofs.Rounds.{HasAtMost, and_none, none_left, one_most}

less : (n : ℕ) → suc n - 1 ≡ n
less n = omega arith

-- ---- beats

pub beats_next : (n : ℕ) (p now : Play) → 0 < n → now ≡ meets p event.Beat → beats (n - 1) now ≡ beats n p
beats_next zero p now lt e = absurd (omega (arith, lt))
beats_next (suc n) p now lt e = ap (λ (k : ℕ). beats k now) (less n) ∙ ap (beats n) e

pub beats_end : (n : ℕ) (p q : Play) → n ≡ 0 → beats n p ≡ q → p ≡ q
beats_end n p q none e = ap (λ (k : ℕ). beats k p) (sym none) ∙ e

-- ---- an end that is closed

pub cuts_shut : (p : Play) (place : ℕ) → (line_at p.world.lines place).is_open ≡ false → p ≡ record p { world = cuts p.world place }
cuts_shut p place e = ap (λ (w : World). record p { world = w }) (sym (ap (λ (b : Bool). if b then after p.world (Cut place) else p.world) e))

-- ---- octets down

goes : (n : ℕ) (p : Play) → reads_more p ≡ true → reads (suc n) p ≡ reads n (reads_one p)
goes n p e = ap (λ (b : Bool). if b then reads n (reads_one p) else p) e

pub still : (n : ℕ) (p : Play) → reads_more p ≡ false → reads n p ≡ p
still zero p e = refl
still (suc n) p e = ap (λ (b : Bool). if b then reads n (reads_one p) else p) e

pub reads_next : (n : ℕ) (p now : Play) → 0 < n → (reads_more p ≡ true) × (now ≡ reads_one p) → reads (n - 1) now ≡ reads n p
reads_next zero p now lt e = absurd (omega (arith, lt))
reads_next (suc n) p now lt e = ap (λ (k : ℕ). reads k now) (less n) ∙ (ap (reads n) e.1 ∙ sym (goes n p e.0))

pub reads_true : (E : Type 0) (old new : Play) (b : Bool) → b ≡ true → ReadsNext {E = E} old new (Ok b) → (reads_more old ≡ true) × (new ≡ reads_one old)
reads_true E old new b is r = subst (λ (x : Bool). ReadsNext {E = E} old new (Ok x)) is r

pub reads_false : (E : Type 0) (old new : Play) (b : Bool) → b ≡ false → ReadsNext {E = E} old new (Ok b) → (reads_more old ≡ false) × (new ≡ old)
reads_false E old new b is r = subst (λ (x : Bool). ReadsNext {E = E} old new (Ok x)) is r

pub reads_end : (n : ℕ) (p q : Play) → n ≡ 0 → reads n p ≡ q → p ≡ q
reads_end n p q none e = ap (λ (k : ℕ). reads k p) (sym none) ∙ e

-- where nothing is left to be read, so many octets, or more, are as many as there are
reads_stuck : (n m : ℕ) (p : Play) → reads_more (reads n p) ≡ false → HasAtMost p.world m → reads m p ≡ reads n p
reads_stuck zero m p stuck most = still m p stuck
reads_stuck (suc n) m p stuck most = by (reads_more p) refl m (λ (k : ℕ) s h. reads_stuck n k (reads_one p) s h) most
  where
    by : (b : Bool) → reads_more p ≡ b → (m : ℕ) → ((k : ℕ) → reads_more (reads n (reads_one p)) ≡ false → HasAtMost (reads_one p).world k → reads k (reads_one p) ≡ reads n (reads_one p)) → HasAtMost p.world m → reads m p ≡ reads (suc n) p
    by false e m more most = still m p e ∙ sym (still (suc n) p e)
    by true e zero more most = absurd (false≢true (sym (none_left (newest p.world).down most) ∙ (and_parts p.world.terminal.using (has_left (newest p.world).down) e).1))
    by true e (suc m) more most = goes m p e ∙ (more m (ap reads_more (sym (goes n p e)) ∙ stuck) (one_most p m e most) ∙ sym (goes n p e))

-- after as many as are left none is
all_read : (n : ℕ) (p : Play) → HasAtMost p.world n → reads_more (reads n p) ≡ false
all_read zero p most = and_none p.world.terminal.using (has_left (newest p.world).down) (λ u. none_left (newest p.world).down most)
all_read (suc n) p most = by (reads_more p) refl (λ (more : HasAtMost (reads_one p).world n). all_read n (reads_one p) more)
  where
    by : (b : Bool) → reads_more p ≡ b → (HasAtMost (reads_one p).world n → reads_more (reads n (reads_one p)) ≡ false) → reads_more (reads (suc n) p) ≡ false
    by true e more = ap reads_more (goes n p e) ∙ more (one_most p n e most)
    by false e more = ap reads_more (still (suc n) p e) ∙ e

pub either_way : (a b : ℕ) → (a ≤ b) ⊎ (b ≤ a)
either_way zero b = inl (omega arith)
either_way (suc a) zero = inr (omega arith)
either_way (suc a) (suc b) = by (either_way a b)
  where
    by : (a ≤ b) ⊎ (b ≤ a) → (suc a ≤ suc b) ⊎ (suc b ≤ suc a)
    by (inl le) = inl (omega (arith, le))
    by (inr le) = inr (omega (arith, le))

reads_min : (n : ℕ) (p : Play) → reads (min n (left_of (newest p.world).down)) p ≡ reads n p
reads_min n p = by (either_way n (left_of (newest p.world).down))
  where
    left : ℕ
    left = left_of (newest p.world).down

    by : (n ≤ left_of (newest p.world).down) ⊎ (left_of (newest p.world).down ≤ n) → reads (min n (left_of (newest p.world).down)) p ≡ reads n p
    by (inl le) = ap (λ (k : ℕ). reads k p) (min-eq_left le)
    by (inr le) = ap (λ (k : ℕ). reads k p) (min-eq_right le) ∙ sym (reads_stuck (left_of (newest p.world).down) n p (all_read (left_of (newest p.world).down) p (omega arith)) le)

-- without a line in use nothing is read
reads_using : (p : Play) (count : Option ℕ) (n : ℕ) → reads n p ≡ reads (octets_moving count (newest p.world).down) p → reads n p ≡ reads_down p count
reads_using p count n e = by p.world.terminal.using refl
  where
    by : (b : Bool) → p.world.terminal.using ≡ b → reads n p ≡ reads_down p count
    by true u = e ∙ sym (ap (λ (b : Bool). if b then reads (octets_moving count (newest p.world).down) p else p) u)
    by false u = still n p (ap (λ (b : Bool). b && has_left (newest p.world).down) u) ∙ sym (ap (λ (b : Bool). if b then reads (octets_moving count (newest p.world).down) p else p) u)

pub down_some : (p : Play) (count : Option ℕ) (n most : ℕ) → count ≡ Some n → IfSome count (λ (some : ℕ). most ≡ some) → reads most p ≡ reads_down p count
down_some p count n most is e =
    ap (λ (k : ℕ). reads k p) (subst (λ (o : Option ℕ). IfSome o (λ (some : ℕ). most ≡ some)) is e)
    ∙ (reads_using p (Some n) n (sym (reads_min n p)) ∙ ap (reads_down p) (sym is))

pub not_true : (b : Bool) → not b ≡ true → b ≡ false
not_true false e = refl
not_true true e = absurd (false≢true e)

all_of : (p now : Play) (most : ℕ) → now ≡ reads most p → reads_more now ≡ false → reads most p ≡ reads_down p None
all_of p now most is stuck = reads_using p None most (sym (reads_stuck most (left_of (newest p.world).down) p (ap reads_more (sym is) ∙ stuck) (omega arith)))

pub down_all : (p now : Play) (count : Option ℕ) (most : ℕ) → count ≡ None → now ≡ reads most p → reads_more now ≡ false → now ≡ reads_down p count
down_all p now count most none is stuck = is ∙ (all_of p now most is stuck ∙ ap (reads_down p) (sym none))

-- ---- fixes

pub full_is : (held : Held) → pending_count held ≡ 100000 → nat_le 100000 (length held.recorded - accepted_count held) ≡ true
full_is held e = le-leb 100000 (length held.recorded - accepted_count held) (omega (arith, e))
