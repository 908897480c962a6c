-- Attempts over a link that answers all.
use Rattle.std.proofs.Common.{◌≡◌, ◌≤◌, ◌<◌, ◌++◌, ◌⊎◌, ℕ, List, [], ◌∷◌, Option, Some, None, IfSome, length, inl, inr, refl, sym, ap, ◌∙◌, subst, arith, append_assoc, length-append}
use Rattle.std.proofs.lemmas.List.{append-nil}
use Rattle.std.specs.Prelude.{option_map}
use Rattle.std.specs.Io.KnownBytes.{Consumes, IsAtEnd}
use lib.ListN.{get_elem?}
use mathlib.Core.Option.{some}
use Rattle.jt_value.specs.declared.limits.TheConstants.{INPUT_LIMIT}
use Rattle.jt_value.specs.Counts.{Rose}
use Rattle.jt_outside.specs.Link.{Wire}
use Rattle.jt_outside.specs.Pool.{IsFirst, Pool, Script, Used, used_of}
use Rattle.jt_outside.specs.Time.{Time}
use Rattle.jt_agent.specs.declared.ending.AttemptEnd.{AttemptEnd}
use Rattle.jt_agent.specs.declared.ending.AttemptEnd.TheVariants as how
use Rattle.jt_agent.specs.declared.ending.Attempted.{Attempted}
use Rattle.jt_agent.specs.declared.ending.Attempted.TheVariants as attempted
use Rattle.jt_agent.specs.declared.reporting.Outcome.{Outcome}
use Rattle.jt_agent.specs.declared.reporting.Outcome.TheVariants.{Done, Unsent, StoreFault, Memory}
use Rattle.jt_terminal_rule.specs.declared.state.GiveUp.TheVariants as give_up
use Rattle.jt_agent.specs.Attempt.{AtLink, Attempt}
use Rattle.jt_agent.specs.Course.{course}
use Rattle.jt_agent.specs.Tries.{Between, NoLink, OneTry, OverLink, Reports, Tries, with_link}
use Rattle.jt_report_command.specs.Answered.{AnswersAll, HasAnswers, HearsFront, WereFine}

-- ---- what was read of octets that are known

pub front : (octets read : List ℕ) (left left_now : Option (List ℕ)) → left ≡ Some octets → Consumes left left_now read → (rest : List ℕ) × (octets ≡ read ++ rest)
front octets read None left_now is took = absurd (cc is)
front octets read (Some xs) None is took = absurd took
front octets read (Some xs) (Some ys) is took = let same : xs ≡ octets = cc is in (ys, sym same ∙ took)

pub whole : (octets read : List ℕ) (left left_now : Option (List ℕ)) → left ≡ Some octets → Consumes left left_now read → IsAtEnd left_now → octets ≡ read
whole octets read None left_now is took end = absurd (cc is)
whole octets read (Some xs) None is took end = absurd took
whole octets read (Some xs) (Some ys) is took end = let same : xs ≡ octets = cc is in sym same ∙ (took ∙ (ap (λ l. read ++ l) end ∙ append-nil read))

too_many : (octets read rest : List ℕ) → octets ≡ read ++ rest → length octets < INPUT_LIMIT → length read ≡ INPUT_LIMIT → ⊥
too_many octets read rest is short all = absurd (omega (arith, ap length is, length-append read rest, short, all))

-- ---- an attempt over such a link does not end by itself

module _ (old now : AtLink) (time time_now : Time) (octets : List ℕ) (gives : old.link.inbound.left ≡ Some octets) (short : length octets < INPUT_LIMIT) (answers : AnswersAll old.state octets time) (link : ¬ Rose old.link.faults now.link.faults) (quiets : ℕ) (least : 1 ≤ quiets) (none : now.link.inbound.quiets ≡ 0) where
  read_so_far : (ended : Attempted) (a : Attempt INPUT_LIMIT quiets old now time time_now ended) → (rest : List ℕ) × (octets ≡ (course old.state a.moves).read ++ rest)
  read_so_far ended a = front octets (course old.state a.moves).read old.link.inbound.left now.link.inbound.left gives a.given.gives.left

  hears : (ended : Attempted) (a : Attempt INPUT_LIMIT quiets old now time time_now ended) → HearsFront old.state octets time a.moves
  hears ended a = record {
    fits = a.given.fits;
    none_quiet = omega (arith, a.given.waits, none);
    time_now = time_now;
    moments = a.given.moments;
    rest = (read_so_far ended a).0;
    front = (read_so_far ended a).1;
  }

  pub never_ends : (end : AttemptEnd) → ¬ Attempt INPUT_LIMIT quiets old now time time_now (attempted.Ended end)
  never_ends how.Dial a = a.cause
  never_ends how.Link a = link a.cause
  never_ends how.End a =
      answers.ends a.moves (hears (attempted.Ended how.End) a) (whole octets (course old.state a.moves).read old.link.inbound.left now.link.inbound.left gives a.given.gives.left a.cause.1) a.cause.0
  never_ends (how.Denied reply) a = answers.goes_on a.moves (give_up.Denied reply) (hears (attempted.Ended (how.Denied reply)) a) a.cause
  never_ends (how.TimedOut since moment) a = answers.goes_on a.moves (give_up.TimedOut since moment) (hears (attempted.Ended (how.TimedOut since moment)) a) a.cause
  never_ends how.Idle a = absurd (omega (arith, a.cause.1, least, none))
  never_ends how.Spent a =
      let f = read_so_far (attempted.Ended how.Spent) a in
      too_many octets (course old.state a.moves).read f.0 f.1 short a.cause.1

-- ---- what later attempts leave of the dial's count and of the links that came back

record Later (old now : Between) : Type 0 where
  dial : (a : ℕ) → Rose a old.dial → Rose a now.dial
  back : (b : List Used) → old.pool.back ≡ Some b → (more : List Used) × (now.pool.back ≡ Some (b ++ more))

later_same : (old now : Between) → now ≡ old → Later old now
later_same old now is = record {
  dial = λ a rose. subst (λ (s : Between). Rose a s.dial) (sym is) rose;
  back = λ b told. ([], ap (λ (s : Between). s.pool.back) is ∙ (told ∙ ap Some (sym (append-nil b))));
}

later_then : (old mid now : Between) → Later old mid → Later mid now → Later old now
later_then old mid now first second = record {
  dial = λ a rose. second.dial a (first.dial a rose);
  back = λ b told.
      let one = first.back b told in
      let two = second.back (b ++ one.0) one.1 in
      (one.0 ++ two.0, two.1 ∙ ap Some (append_assoc b one.0 two.0));
}

still_rose : (a b c : ℕ) → Rose a b → b ≤ c → Rose a c
still_rose a b c rose more = omega (arith, rose, more)

rose_again : (a b c : ℕ) → Rose a b → Rose b c → Rose a c
rose_again a b c first second = omega (arith, first, second)

-- the link that was lent, and came back
came_back : (old now : Between) (end : Attempted) (o : OverLink old now end) (b : List Used) → old.pool.back ≡ Some b → now.pool.back ≡ Some (b ++ used_of o.used ∷ [])
came_back old now end o b told =
    ap (λ (p : Pool). p.back) o.back ∙ ap (option_map (λ links. links ++ used_of o.used ∷ [])) (ap (λ (p : Pool). p.back) o.gives.1 ∙ told)

later_over : (old now : Between) (end : Attempted) → OverLink old now end → Later old now
later_over old now end o = record {
  dial = λ a rose. still_rose a old.dial now.dial rose o.dial.later;
  back = λ b told. (used_of o.used ∷ [], came_back old now end o b told);
}

later_none : (old now : Between) → NoLink old now → Later old now
later_none old now none = record {
  dial = λ a rose. rose_again a old.dial now.dial rose none.dial;
  back = λ b told. ([], ap (λ (s : Between). s.pool.back) none.same ∙ (told ∙ ap Some (sym (append-nil b))));
}

later_one : (end : AttemptEnd) (old now : Between) → OneTry end old now → Later old now
later_one how.Dial old now one = later_none old now one
later_one how.Link old now one = later_over old now (attempted.Ended how.Link) one
later_one how.End old now one = later_over old now (attempted.Ended how.End) one
later_one (how.Denied reply) old now one = later_over old now (attempted.Ended (how.Denied reply)) one
later_one (how.TimedOut since moment) old now one = later_over old now (attempted.Ended (how.TimedOut since moment)) one
later_one how.Idle old now one = later_over old now (attempted.Ended how.Idle) one
later_one how.Spent old now one = later_over old now (attempted.Ended how.Spent) one

later_tries : (ends : List AttemptEnd) (old now : Between) → Tries ends old now → Later old now
later_tries [] old now is = later_same old now is
later_tries (end ∷ ends) old now tries = later_then old tries.1 now (later_one end old tries.1 tries.2) (later_tries ends tries.1 now tries.3)

-- ---- the first attempt does not end by itself

at_seam : (b : List Used) (used : Used) (more : List Used) → get_elem? ((b ++ used ∷ []) ++ more) (length b) ≡ some used
at_seam [] used more = refl
at_seam (x ∷ b) used more = at_seam b used more

all_at : (links : Option (List Used)) (list : List Used) (used : Used) (least k : ℕ) → least ≤ k → IfSome links (λ links. (k : ℕ) (used : Used) → least ≤ k → get_elem? links k ≡ some used → (used.faults ≡ 0) × (used.quiets ≡ 0)) → links ≡ Some list → get_elem? list k ≡ some used → (used.faults ≡ 0) × (used.quiets ≡ 0)
all_at None list used least k from all is at = absurd (cc is)
all_at (Some links) list used least k from all is at = let same : links ≡ list = cc is in all k used from (subst (λ l. get_elem? l k ≡ some used) (sym same) at)

first_gives : (coming : Option (List Script)) (wire : Wire) (script : Script) (scripts : List Script) (octets : List ℕ) → IfSome coming (λ s. IsFirst s wire) → coming ≡ Some (script ∷ scripts) → script.octets ≡ Some octets → wire.inbound.left ≡ Some octets
first_gives None wire script scripts octets first is gives = absurd (cc is)
first_gives (Some []) wire script scripts octets first is gives = absurd first
first_gives (Some (s ∷ more)) wire script scripts octets first is gives = let same : s ≡ script = cc is in first.0 ∙ (ap (λ (s : Script). s.octets) same ∙ gives)

module _ (old mid now : Between) (has : HasAnswers old.state old.pool old.time) (fine : WereFine old.pool now.pool) (dial : ¬ Rose old.dial now.dial) (later : Later mid now) where
  not_over : (end : AttemptEnd) → ¬ OverLink old mid (attempted.Ended end)
  not_over end o =
      let back = came_back old mid (attempted.Ended end) o fine.back fine.told in
      let after = later.back (fine.back ++ used_of o.used ∷ []) back in
      let at = all_at now.pool.back ((fine.back ++ used_of o.used ∷ []) ++ after.0) (used_of o.used) (length fine.back) (length fine.back) (omega arith) fine.links after.1 (at_seam fine.back (used_of o.used) after.0) in
      never_ends (with_link old o.link) (with_link mid o.used) old.time mid.time has.octets
      (first_gives old.pool.coming o.link has.script has.scripts has.octets o.gives.0.first has.coming has.gives)
      has.short has.answers (λ rose. absurd (omega (arith, rose, o.gives.0.faults, at.0))) _ (omega arith) at.1 end o.attempt

  first_not : (end : AttemptEnd) → ¬ OneTry end old mid
  first_not how.Dial one = dial (later.dial old.dial one.dial)
  first_not how.Link one = not_over how.Link one
  first_not how.End one = not_over how.End one
  first_not (how.Denied reply) one = not_over (how.Denied reply) one
  first_not (how.TimedOut since moment) one = not_over (how.TimedOut since moment) one
  first_not how.Idle one = not_over how.Idle one
  first_not how.Spent one = not_over how.Spent one

-- ---- so attempts come to Done by the first one, or to want of memory

module _ (old now : Between) (has : HasAnswers old.state old.pool old.time) (fine : WereFine old.pool now.pool) (dial : ¬ Rose old.dial now.dial) (vault : ¬ Rose old.faults now.faults) where
  not_tried : (end : AttemptEnd) (ends : List AttemptEnd) (mid : Between) → Tries (end ∷ ends) old mid → Later mid now → ⊥
  not_tried end ends mid tries later = first_not old tries.1 now has fine dial (later_then tries.1 mid now (later_tries ends tries.1 mid tries.3) later) end tries.2

  pub all_answered : (tries : ℕ) (outcome : Outcome) → 1 ≤ tries → Reports tries outcome old now → (outcome ≡ Done []) ⊎ (outcome ≡ Memory)
  all_answered tries (Done []) least reports = inl refl
  all_answered tries (Done (end ∷ ends)) least (inl reports) = absurd (not_tried end ends now reports.1 (later_same now now refl))
  all_answered tries (Done (end ∷ ends)) least (inr reports) = absurd (not_tried end ends reports.1.mid reports.1.tries (later_over reports.1.mid now attempted.Done reports.1.last))
  all_answered tries (Unsent []) least reports = absurd (omega (arith, least, reports.0))
  all_answered tries (Unsent (end ∷ ends)) least reports = absurd (not_tried end ends now reports.1 (later_same now now refl))
  all_answered tries (StoreFault []) least reports = absurd (vault (subst (λ (s : Between). Rose s.faults now.faults) reports.1.tries reports.1.last.attempt.cause))
  all_answered tries (StoreFault (end ∷ ends)) least reports = absurd (not_tried end ends reports.1.mid reports.1.tries (later_over reports.1.mid now attempted.StoreFault reports.1.last))
  all_answered tries Memory least reports = inr refl
