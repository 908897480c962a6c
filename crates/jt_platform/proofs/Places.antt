-- Places of a hub's tables, and what an entry makes of what stands there.
use Rattle.std.proofs.Common.{◌≡◌, ℕ, Bool, true, false, List, ◌==◌, ◌&&◌, not, if◌then◌else◌, Option, None, Some, refl, sym, ap, ◌∙◌}
use native.Mathlib.Omega.{arith}
use Rattle.std.specs.Cmp.Lexicographic.{slice_cmp}
use Rattle.std.specs.BTreeMap.{is_at}
use Rattle.std.specs.List.{filter}
use Rattle.std.specs.Map.{lookup}
use Rattle.std.proofs.lemmas.Map.Entries.{lookup-filter-keys}
use Rattle.std.specs.Ordering.{is_eq, nat_cmp, ordering_then}
use Rattle.std.proofs.Common.{Ordering, Less, Equal, Greater}
use Rattle.std.specs.Option.{unwrap_or}
use Rattle.std.specs.Str.{bytes_eq}
use Rattle.std.proofs.lemmas.Bool.Decides.{nat_tests}
use Rattle.std.proofs.lemmas.Bool.{eqb-true, false≢true}
use Rattle.std.proofs.lemmas.Slice.Eq.{bytes_eq-Decides}
use Rattle.std.proofs.lemmas.Map.Text.{is_eq-slice_cmp}
use Rattle.jt_value.specs.Sameness.{same_key}
use Rattle.jt_platform.specs.Index.{Indexed, Keeps, holder_place, live_place, holder_in, live_in, LetsIn, LetsOut, Marks, Closes}

-- ---- when keys are equal

pub same_number : (a b : ℕ) → is_eq (nat_cmp a b) ≡ (a == b)
same_number a b = grind (arith, nat_tests)

pub same_then : (a b : Ordering) → is_eq (ordering_then a b) ≡ (is_eq a && is_eq b)
same_then Less b = refl
same_then Equal b = refl
same_then Greater b = refl

pub same_pair : (s t : ℕ) (key other : List ℕ) → is_eq (ordering_then (nat_cmp s t) (slice_cmp nat_cmp key other)) ≡ ((s == t) && bytes_eq key other)
same_pair s t key other = same_then (nat_cmp s t) (slice_cmp nat_cmp key other) ∙ ap (λ b. b && is_eq (slice_cmp nat_cmp key other)) (same_number s t) ∙ ap (λ b. (s == t) && b) (is_eq-slice_cmp key other)

-- ---- what is told after a place was set

-- the place of a session and a phone says this now, and all others what they said
abbrev pub SetsLive : (old new : Indexed) → ℕ → Bool → List ℕ → Type 0
SetsLive old new session v key = (other : List ℕ) (s : ℕ) → live_place new other s ≡ (if is_eq (ordering_then (nat_cmp session s) (slice_cmp nat_cmp key other)) then Some v else live_place old other s)

-- the place of a phone has this session now, and all others what they had
abbrev pub SetsHolder : (old new : Indexed) → ℕ → List ℕ → Type 0
SetsHolder old new session key = (other : List ℕ) → holder_place new other ≡ (if is_eq (slice_cmp nat_cmp key other) then Some (Some session) else holder_place old other)

read : {V : Type 0} (b : Bool) (v none : V) (found now : Option V) → now ≡ (if b then Some v else found) → unwrap_or now none ≡ (if b then v else unwrap_or found none)
read true v none found now is = ap (λ o. unwrap_or o none) is
read false v none found now is = ap (λ o. unwrap_or o none) is

lives_set : (old new : Indexed) (session : ℕ) (key : List ℕ) (v : Bool)
    → SetsLive old new session v key
    → (other : List ℕ) (s : ℕ) → live_in new other s ≡ (if (session == s) && same_key key other then v else live_in old other s)
lives_set old new session key v set other s =
    read (is_eq (ordering_then (nat_cmp session s) (slice_cmp nat_cmp key other))) v false (live_place old other s) (live_place new other s) (set other s)
    ∙ ap (λ b. if b then v else live_in old other s) (same_pair session s key other)

holders_set : (old new : Indexed) (session : ℕ) (key : List ℕ)
    → SetsHolder old new session key
    → (other : List ℕ) → holder_in new other ≡ (if same_key key other then Some session else holder_in old other)
holders_set old new session key set other =
    read (is_eq (slice_cmp nat_cmp key other)) (Some session) None (holder_place old other) (holder_place new other) (set other)
    ∙ ap (λ b. if b then Some session else holder_in old other) (is_eq-slice_cmp key other)

taken : (b w : Bool) (x y : Option ℕ) → w ≡ false → (if b then x else y) ≡ (if b && not w then x else y)
taken true w x y is = ap (λ (v : Bool). if not v then x else y) (sym is)
taken false w x y is = refl

left : (b w : Bool) (x y : Option ℕ) → w ≡ true → y ≡ (if b && not w then x else y)
left true w x y is = ap (λ (v : Bool). if not v then x else y) (sym is)
left false w x y is = refl

-- a session that was not live for the phone takes it
pub lets_in : (old new : Indexed) (session : ℕ) (key : List ℕ) → live_in old key session ≡ false → new.closes ≡ old.closes
    → SetsLive old new session true key
    → SetsHolder old new session key → LetsIn old new session key
lets_in old new session key was closes lives holders =
    record {
      closes = closes;
      lives = lives_set old new session key true lives;
      holders = λ other. holders_set old new session key holders other ∙ taken (same_key key other) (live_in old key session) (Some session) (holder_in old other) was;
    }

-- one that was live for it takes nothing
pub lets_in_again : (old new : Indexed) (session : ℕ) (key : List ℕ) → live_in old key session ≡ true → new.closes ≡ old.closes
    → SetsLive old new session true key
    → new.holders ≡ old.holders → LetsIn old new session key
lets_in_again old new session key was closes lives holders =
    record {
      closes = closes;
      lives = lives_set old new session key true lives;
      holders = λ other. ap (λ x. holder_in (record { holders = x; lives = new.lives; closes = new.closes }) other) holders
          ∙ left (same_key key other) (live_in old key session) (Some session) (holder_in old other) was;
    }

-- the place of a session and a phone is gone, and all others say what they said
abbrev pub ForgetsLive : (old new : Indexed) → ℕ → List ℕ → Type 0
ForgetsLive old new session key = (other : List ℕ) (s : ℕ) → live_place new other s ≡ (if is_eq (ordering_then (nat_cmp session s) (slice_cmp nat_cmp key other)) then None else live_place old other s)

-- the place of a phone is gone
abbrev pub ForgetsHolder : (old new : Indexed) → List ℕ → Type 0
ForgetsHolder old new key = (other : List ℕ) → holder_place new other ≡ (if is_eq (slice_cmp nat_cmp key other) then None else holder_place old other)

unread : {V : Type 0} (b : Bool) (none : V) (found now : Option V) → now ≡ (if b then None else found) → unwrap_or now none ≡ (if b then none else unwrap_or found none)
unread true none found now is = ap (λ o. unwrap_or o none) is
unread false none found now is = ap (λ o. unwrap_or o none) is

lives_forgotten : (old new : Indexed) (session : ℕ) (key : List ℕ) → ForgetsLive old new session key
    → (other : List ℕ) (s : ℕ) → live_in new other s ≡ (if (session == s) && same_key key other then false else live_in old other s)
lives_forgotten old new session key gone other s =
    unread (is_eq (ordering_then (nat_cmp session s) (slice_cmp nat_cmp key other))) false (live_place old other s) (live_place new other s) (gone other s)
    ∙ ap (λ b. if b then false else live_in old other s) (same_pair session s key other)

holders_forgotten : (old new : Indexed) (key : List ℕ) → ForgetsHolder old new key
    → (other : List ℕ) → holder_in new other ≡ (if same_key key other then None else holder_in old other)
holders_forgotten old new key gone other =
    unread (is_eq (slice_cmp nat_cmp key other)) None (holder_place old other) (holder_place new other) (gone other)
    ∙ ap (λ b. if b then None else holder_in old other) (is_eq-slice_cmp key other)

pub lets_out : (old new : Indexed) (session : ℕ) (key : List ℕ) → new.closes ≡ old.closes
    → ForgetsLive old new session key
    → new.holders ≡ old.holders → LetsOut old new session key
lets_out old new session key closes lives holders =
    record { closes = closes; lives = lives_forgotten old new session key lives; holders = holders }

-- ---- a place that tells nothing may go

both_are : (a b : Bool) → (a && b) ≡ true → (a ≡ true) × (b ≡ true)
both_are true true is = (refl, is)
both_are true false is = (refl, is)
both_are false b is = absurd (false≢true is)

same_still : {V : Type 0} (b : Bool) (none was now : V) → now ≡ (if b then none else was) → (b ≡ true → was ≡ none) → now ≡ was
same_still true none was now is none_was = is ∙ sym (none_was refl)
same_still false none was now is none_was = is

pub forgets_live : (x : Indexed) (lives : List ((ℕ × List ℕ) × Bool)) (session : ℕ) (key : List ℕ) → live_in x key session ≡ false
    → ForgetsLive x (record { holders = x.holders; lives = lives; closes = x.closes }) session key → Keeps x (record { holders = x.holders; lives = lives; closes = x.closes })
forgets_live x lives session key none gone = record {
  closes = λ s. refl;
  lives = λ other s. same_still ((session == s) && same_key key other) false (live_in x other s) (live_in (record { holders = x.holders; lives = lives; closes = x.closes }) other s)
      (lives_forgotten x (record { holders = x.holders; lives = lives; closes = x.closes }) session key gone other s)
      (λ is. let both = both_are (session == s) (same_key key other) is in
      ap (λ (n : ℕ). live_in x other n) (sym (eqb-true session s both.0)) ∙ ap (λ (k : List ℕ). live_in x k session) (sym ((bytes_eq-Decides key other).0 both.1)) ∙ none);
  holders = λ other. refl;
  places = λ s there. there;
}

pub forgets_holder : (x : Indexed) (holders : List (List ℕ × Option ℕ)) (key : List ℕ) → holder_in x key ≡ None
    → ForgetsHolder x (record { holders = holders; lives = x.lives; closes = x.closes }) key → Keeps x (record { holders = holders; lives = x.lives; closes = x.closes })
forgets_holder x holders key none gone = record {
  closes = λ s. refl;
  lives = λ other s. refl;
  holders = λ other. same_still (same_key key other) None (holder_in x other) (holder_in (record { holders = holders; lives = x.lives; closes = x.closes }) other)
      (holders_forgotten x (record { holders = holders; lives = x.lives; closes = x.closes }) key gone other)
      (λ is. ap (λ (k : List ℕ). holder_in x k) (sym ((bytes_eq-Decides key other).0 is)) ∙ none);
  places = λ s there. there;
}

pub keeps_both : (x y z : Indexed) → Keeps x y → Keeps y z → Keeps x z
keeps_both x y z a b = record {
  closes = λ s. b.closes s ∙ a.closes s;
  lives = λ key s. b.lives key s ∙ a.lives key s;
  holders = λ key. b.holders key ∙ a.holders key;
  places = λ s there. b.places s (a.places s there);
}

-- ---- of a session that is closed nothing is kept

not_this : (session s n : ℕ) → (session == s) ≡ false → s ≡ n → not (session == n) ≡ true
not_this session s n other is = ap (λ (m : ℕ). not (session == m)) (sym is) ∙ ap not other

pub lives_of_others : (old new : Indexed) (session : ℕ) → new.lives ≡ filter (λ e. not (session == e.0.0)) old.lives
    → (key : List ℕ) (s : ℕ) → (session == s) ≡ false → live_in new key s ≡ live_in old key s
lives_of_others old new session is key s other =
    ap (λ (l : List ((ℕ × List ℕ) × Bool)). unwrap_or (lookup (is_at (λ (q : ℕ × List ℕ). ordering_then (nat_cmp s q.0) (slice_cmp nat_cmp key q.1))) l) false) is
    ∙ ap (λ (o : Option Bool). unwrap_or o false)
    (lookup-filter-keys (is_at (λ (q : ℕ × List ℕ). ordering_then (nat_cmp s q.0) (slice_cmp nat_cmp key q.1))) (λ (q : ℕ × List ℕ). not (session == q.0)) true
    (λ q at. not_this session s q.0 other (eqb-true s q.0 (both_are (s == q.0) (bytes_eq key q.1) (sym (same_pair s q.0 key q.1) ∙ at)).0)) old.lives)

pub closes_by : (old mid : Indexed) (lives : List ((ℕ × List ℕ) × Bool)) (session : ℕ) → Marks old mid session → lives ≡ filter (λ e. not (session == e.0.0)) mid.lives
    → Closes old (record { holders = mid.holders; lives = lives; closes = mid.closes }) session
closes_by old mid lives session marks is = record {
  closes = marks.closes;
  places = marks.places;
  lives = λ key s other. lives_of_others mid (record { holders = mid.holders; lives = lives; closes = mid.closes }) session is key s other
      ∙ ap (λ (l : List ((ℕ × List ℕ) × Bool)). live_in (record { holders = mid.holders; lives = l; closes = mid.closes }) key s) marks.lives;
  holders = marks.holders;
}
