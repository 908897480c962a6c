-- Attempts one after another.
use Rattle.std.proofs.Common.{◌≡◌, ◌≤◌, ◌<◌, ◌+◌, ℕ, List, [], ◌∷◌, ◌++◌, false, refl, sym, ap, subst, ◌∙◌, length, length-append, arith}
use Rattle.std.specs.Prelude.{◌↔◌, IsTrue}
use Rattle.jt_value.specs.Counts.{Rose, RoseBy}
use Rattle.jt_terminal_rule.specs.declared.state.State.{State}
use Rattle.jt_terminal_steps.specs.Running.{IsDone}
use Rattle.jt_agent.specs.Tries.{Between, OverLink, OneTry, Tries, Breaks, dials_in}
use Rattle.jt_agent.specs.Course.{is_done}
use Rattle.jt_agent.specs.declared.ending.AttemptEnd.{AttemptEnd}
use Rattle.jt_agent.specs.declared.ending.AttemptEnd.TheVariants as how
use Rattle.jt_agent.specs.declared.ending.Attempted.{Attempted}
use Rattle.jt_agent.proofs.Concluding.{done_is}
use Rattle.jt_agent.proofs.Going.{still_rose, weaker_rise}

-- one more try that ended
pub tries_more : (ends : List AttemptEnd) (end : AttemptEnd) (old mid now : Between) → Tries ends old mid → is_done mid.state ≡ false → OneTry end mid now → Tries (ends ++ end ∷ []) old now
tries_more [] end old mid now tries left one =
    (subst (λ (s : Between). is_done s.state ≡ false) tries left, now, subst (λ s. OneTry end s now) tries one, refl)
tries_more (first ∷ ends) end old mid now tries left one =
    (tries.0, tries.1, tries.2, tries_more ends end tries.1 mid now tries.3 left one)

-- ---- the dial's count

one_more : (n before mid now : ℕ) → Rose before mid → RoseBy n mid now → RoseBy (n + 1) before now
one_more n before mid now once rose = omega arith

as_many : (n before mid now : ℕ) → before ≤ mid → RoseBy n mid now → RoseBy n before now
as_many n before mid now later rose = omega arith

none : (before now : ℕ) → before ≤ now → RoseBy 0 before now
none before now later = omega arith

-- the count rose for each dial that failed
dials_rose : (ends : List AttemptEnd) (old now : Between) → Tries ends old now → RoseBy (dials_in ends) old.dial now.dial
dials_rose [] old now tries = none old.dial now.dial (subst (λ (s : Between). old.dial ≤ s.dial) (sym tries) (omega arith))
dials_rose (how.Dial ∷ ends) old now tries = one_more (dials_in ends) old.dial tries.1.dial now.dial tries.2.dial (dials_rose ends tries.1 now tries.3)
dials_rose (how.Link ∷ ends) old now tries = as_many (dials_in ends) old.dial tries.1.dial now.dial tries.2.dial.later (dials_rose ends tries.1 now tries.3)
dials_rose (how.End ∷ ends) old now tries = as_many (dials_in ends) old.dial tries.1.dial now.dial tries.2.dial.later (dials_rose ends tries.1 now tries.3)
dials_rose (how.Denied reply ∷ ends) old now tries = as_many (dials_in ends) old.dial tries.1.dial now.dial tries.2.dial.later (dials_rose ends tries.1 now tries.3)
dials_rose (how.TimedOut since moment ∷ ends) old now tries = as_many (dials_in ends) old.dial tries.1.dial now.dial tries.2.dial.later (dials_rose ends tries.1 now tries.3)
dials_rose (how.Idle ∷ ends) old now tries = as_many (dials_in ends) old.dial tries.1.dial now.dial tries.2.dial.later (dials_rose ends tries.1 now tries.3)
dials_rose (how.Spent ∷ ends) old now tries = as_many (dials_in ends) old.dial tries.1.dial now.dial tries.2.dial.later (dials_rose ends tries.1 now tries.3)

-- so it did for the ends that are told
pub dials_told : (ends told : List AttemptEnd) (old now : Between) → told ≡ ends → Tries ends old now → RoseBy (dials_in told) old.dial now.dial
dials_told ends told old now same tries = subst (λ l. RoseBy (dials_in l) old.dial now.dial) (sym same) (dials_rose ends old now tries)

pub dials_broken : (ends told : List AttemptEnd) (old mid now : Between) (end : Attempted) → told ≡ ends → Tries ends old mid → OverLink mid now end → RoseBy (dials_in told) old.dial now.dial
dials_broken ends told old mid now end same tries last =
    still_rose (dials_in told) old.dial mid.dial now.dial (dials_told ends told old mid same tries) last.dial.later

pub dials_none : (ends : List AttemptEnd) (old now : Between) → Tries ends old now → RoseBy 0 old.dial now.dial
dials_none ends old now tries = weaker_rise (dials_in ends) old.dial now.dial (dials_rose ends old now tries)

pub dials_none_broken : (ends : List AttemptEnd) (old mid now : Between) (end : Attempted) → Tries ends old mid → OverLink mid now end → RoseBy 0 old.dial now.dial
dials_none_broken ends old mid now end tries last = still_rose 0 old.dial mid.dial now.dial (dials_none ends old mid tries) last.dial.later

-- ---- the last attempt

pub not_done : (s : State) → (IsTrue false ↔ IsDone s) → is_done s ≡ false
not_done s iff = sym (done_is false s iff)

pub breaks_of : (ends told : List AttemptEnd) (old mid now : Between) (end : Attempted) → told ≡ ends → Tries ends old mid → is_done mid.state ≡ false → OverLink mid now end
    → Breaks told old now end
breaks_of ends told old mid now end same tries left last =
    subst (λ l. Breaks l old now end) (sym same) (record { mid = mid; tries = tries; left = left; last = last })

pub as_short : (ends told : List AttemptEnd) (tries : ℕ) → told ≡ ends → length ends < tries → length told < tries
as_short ends told tries same less = subst (λ (l : List AttemptEnd). length l < tries) (sym same) less

pub one_longer : (ends more : List AttemptEnd) (end : AttemptEnd) (tries : ℕ) → more ≡ ends ++ end ∷ [] → length ends < tries → length more ≤ tries
one_longer ends more end tries is less =
    let size = ap (λ (l : List AttemptEnd). length l) is ∙ length-append ends (end ∷ []) in
    omega (arith, size)
