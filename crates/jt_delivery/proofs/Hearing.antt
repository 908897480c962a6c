-- What the terminal reads, and takes as an acceptance, keeps the rule.
use Rattle.std.proofs.Common.{ℕ, suc, ◌<◌, ◌≤◌, ◌≡◌, List, [], ◌∷◌, ◌++◌, length, arith, refl, sym, ◌∙◌, subst, Bool, true, inl, inr, Option, Some, None, All}
use Rattle.std.specs.Prelude.{◌⊎◌}
use Rattle.std.proofs.lemmas.List.Elements.{All-cons, All-head, All-tail}
use Rattle.jt_store.specs.declared.row.Row.{Row}
use Rattle.jt_platform.specs.declared.request.Entry.{Entry}
use Rattle.jt_delivery.specs.World.{Down, Admission, Acceptance, OtherAnswer, Line, World, HasAdmission, put}
use Rattle.jt_delivery.specs.Steps.{reads, Names, IsNamed, IsTakenBy, Hears, Accepts, after}
use Rattle.jt_delivery.specs.Record.{seen, Below, Chain, UnitsOk, LineOk, InUseOk, JustOk, Stands}
use Rattle.jt_delivery.specs.Parts.{OneIsNamed}
use Rattle.jt_delivery.proofs.Lists.{put_same, past_at, Chain_lower, was_sent_top, HasAdmission_cons, HasAdmission_split}
use Rattle.jt_delivery.proofs.Forming.{past_below, same_unit}
use Rattle.jt_delivery.proofs.Sending.{newest, in_use_kept}

-- ---- an answer is read

reads_ok : (w : World) (l : ℕ) (x : Line) (d : Down) (q : List Down) → LineOk w.key w.units w.accepted (length w.keeper.rows) w.takers w.history l x → x.unread ≡ d ∷ q
    → LineOk w.key w.units w.accepted (length w.keeper.rows) w.takers w.history l (reads x d q)
reads_ok w l x d q h e = record {
  first_formed = h.first_formed;
  formed_units = h.formed_units;
  first_accepted = h.first_accepted;
  gone = h.gone;
  waiting = h.waiting;
  admitted = λ c. HasAdmission_cons d x.read (h.admitted c);
  took = λ o. h.took (oks o);
  live_took = h.live_took;
  took_live = h.took_live;
  not_closed = h.not_closed;
  taken = h.taken;
  below = belows d (rw e at h.below.1);
  order = rw e at h.order;
}
  where
    oks : HasAdmission (d ∷ x.read) ⊎ HasAdmission q → HasAdmission x.read ⊎ HasAdmission x.unread
    oks (inl a) = elim (HasAdmission_split d q x.read a) [ inl b ↦ inl b | inr b ↦ inr (rw e b) ]
    oks (inr b) = inr (rw e (HasAdmission_cons d q b))

    belows : (d : Down) → Below (length w.keeper.rows) (d ∷ q) → Below (length w.keeper.rows) (d ∷ x.read) × Below (length w.keeper.rows) q
    belows Admission b = (h.below.0, b)
    belows OtherAnswer b = (h.below.0, b)
    belows (Acceptance i f) b = ((b.0, h.below.0), b.1)

chain_tail : (units : List Row) (lo hi : ℕ) (d : Down) (q : List Down) → Chain units lo hi (d ∷ q) → Chain units lo hi q
chain_tail units lo hi Admission q c = c
chain_tail units lo hi OtherAnswer q c = c
chain_tail units lo hi (Acceptance i f) q c = Chain_lower units f lo hi q c.2 c.1

just_read : (units : List Row) (a j : ℕ) (using : Bool) (x : Line) (d : Down) (q : List Down) → using ≡ true → Below j (d ∷ q) → Chain units a (seen x.formed x.gone) (d ∷ q) → JustOk units a j using (reads x d q) (Some d)
just_read units a j using x Admission q u b c = tt
just_read units a j using x OtherAnswer q u b c = tt
just_read units a j using x (Acceptance i f) q u b c = (c.0, b.0, c.1, u, c.2)

-- what an acceptance names is stored
named_stored : (w : World) (d : Down) (x : Line) (using : Bool) (k : ℕ) → UnitsOk w.units w.accepted → w.accepted ≤ length w.units → JustOk w.units w.accepted (length w.keeper.rows) using x (Some d)
    → Names w.units d k → w.accepted ≤ k → k < length w.units → k < length w.keeper.rows
named_stored w Admission x using k h le b n ge lt = absurd n
named_stored w OtherAnswer x using k h le b n ge lt = absurd n
named_stored w (Acceptance i f) x using k h le b n ge lt = let e : i ≡ k = same_unit w.units w.accepted i f k h le b.0 b.2 ge lt n.0 in omega (arith, b.1)

pub hear_kept : (w : World) (d : Down) (q : List Down) (ts : List ℕ) → Stands w → w.using ≡ true → (w.lines w.count).unread ≡ d ∷ q → All (λ (place : ℕ). IsNamed w d place) ts → Stands (after w (Hears d q ts))
hear_kept w d q ts v using first named = record {
  units = i.units;
  rows = i.rows;
  lines = i.lines;
  across = i.across;
  takers = i.takers;
  last_row = i.last_row;
  in_use = i.in_use;
  told = tells ts named;
  answers = v.answers;
  keeper = v.keeper;
  fixes = v.fixes;
  just = subst (λ y. JustOk w.units w.accepted (length w.keeper.rows) w.using y (Some d)) (sym (put_same w.lines w.count (reads (newest w) d q))) now;
}
  where
    used : InUseOk w.units w.accepted w.count (newest w)
    used = v.in_use using

    old : LineOk w.key w.units w.accepted (length w.keeper.rows) w.takers w.history w.count (newest w)
    old = v.lines w.count (used.some_line, omega arith)

    chain : Chain w.units w.accepted (seen (newest w).formed (newest w).gone) (d ∷ q)
    chain = rw first at used.chain

    below : Below (length w.keeper.rows) (d ∷ q)
    below = rw first at old.below.1

    now : JustOk w.units w.accepted (length w.keeper.rows) w.using (reads (newest w) d q) (Some d)
    now = just_read w.units w.accepted (length w.keeper.rows) w.using (newest w) d q using below chain

    i : Stands (record w { lines = put w.lines w.count (reads (newest w) d q); just = None })
    i = in_use_kept w (reads (newest w) d q) v used.some_line (reads_ok w w.count (newest w) d q old first) refl refl
        (λ e. record { some_line = used.some_line; accepted_sent = used.accepted_sent; chain = chain_tail w.units w.accepted (seen (newest w).formed (newest w).gone) d q chain })

    stored : (t : ℕ) → IsNamed w d t → t < length w.keeper.rows
    stored t n = named_stored w d (reads (newest w) d q) w.using t v.units (omega (arith, v.rows.accepted_stored, v.rows.stored)) now n.names n.waits n.formed

    tells : (ts : List ℕ) → All (λ (place : ℕ). IsNamed w d place) ts → All (λ (place : ℕ). place < length w.keeper.rows) (ts ++ w.told)
    tells [] h = v.told
    tells (t ∷ ts) h = All-cons (λ (place : ℕ). place < length w.keeper.rows) t (ts ++ w.told) (stored t (All-head (λ (place : ℕ). IsNamed w d place) t ts h)) (tells ts (All-tail (λ (place : ℕ). IsNamed w d place) t ts h))

-- an answer names one unit at most
named_one : (w : World) (d : Down) (x : Line) (j k : ℕ) → Stands w → JustOk w.units w.accepted (length w.keeper.rows) w.using x (Some d) → IsNamed w d j → IsNamed w d k → j ≡ k
named_one w Admission x j k v b n m = absurd n.names
named_one w OtherAnswer x j k v b n m = absurd n.names
named_one w (Acceptance i f) x j k v b n m = sym (is j n) ∙ is k m
  where
    is : (t : ℕ) → IsNamed w (Acceptance i f) t → i ≡ t
    is t n = same_unit w.units w.accepted i f t v.units (omega (arith, v.rows.accepted_stored, v.rows.stored)) b.0 b.2 n.waits n.formed n.names.0

pub one_is_named : OneIsNamed
one_is_named w v using d q first j k n m = named_one w d (reads (newest w) d q) j k v (just_read w.units w.accepted (length w.keeper.rows) w.using (newest w) d q using (rw first at old.below.1) (rw first at used.chain)) n m
  where
    used : InUseOk w.units w.accepted w.count (newest w)
    used = v.in_use using

    old : LineOk w.key w.units w.accepted (length w.keeper.rows) w.takers w.history w.count (newest w)
    old = v.lines w.count (used.some_line, omega arith)

-- ---- the acceptance is taken

units_accept : (units : List Row) (a : ℕ) → UnitsOk units a → a < length units → UnitsOk units (suc a)
units_accept units a h lt = record {
  rise = h.rise;
  near_before = h.near_before;
  near_first = h.near_first;
  near_mark = λ i ge l. omega (arith, past_at units a lt, h.near_mark i (omega arith) l, past_below units a a h (omega arith) lt);
}

line_accept : (key : List ℕ) (units : List Row) (a j : ℕ) (takers : List ℕ) (hist : List Entry) (l : ℕ) (x : Line) → LineOk key units a j takers hist l x → LineOk key units (suc a) j takers hist l x
line_accept key units a j takers hist l x h = record {
  first_formed = h.first_formed;
  formed_units = h.formed_units;
  first_accepted = omega (arith, h.first_accepted);
  gone = h.gone;
  waiting = h.waiting;
  admitted = h.admitted;
  took = h.took;
  live_took = h.live_took;
  took_live = h.took_live;
  not_closed = h.not_closed;
  taken = h.taken;
  below = h.below;
  order = h.order;
}

accept_chain : (w : World) (x : Line) (d : Down) → UnitsOk w.units w.accepted → w.accepted ≤ length w.units → w.accepted < length w.units → JustOk w.units w.accepted (length w.keeper.rows) w.using x (Some d) → Names w.units d w.accepted
    → Chain w.units (suc w.accepted) (seen x.formed x.gone) x.unread
accept_chain w x Admission h le lt b n = absurd n
accept_chain w x OtherAnswer h le lt b n = absurd n
accept_chain w x (Acceptance i f) h le lt b n = let e : i ≡ w.accepted = same_unit w.units w.accepted i f w.accepted h le b.0 b.2 (omega arith) lt n.0 in
    Chain_lower w.units f (suc w.accepted) (seen x.formed x.gone) x.unread b.4 (omega (arith, b.0.before))

pub accept_kept : (w : World) → Stands w → w.using ≡ true → IsTakenBy w w.just → Stands (after w Accepts)
accept_kept w v using taken = go w.just v.just taken
  where
    le : w.accepted ≤ length w.units
    le = omega (arith, v.rows.accepted_stored, v.rows.stored)

    go : (just : Option Down) → JustOk w.units w.accepted (length w.keeper.rows) w.using (w.lines w.count) just → IsTakenBy w just → Stands (after w Accepts)
    go None now n = absurd n
    go (Some d) now n = record {
      units = units_accept w.units w.accepted v.units n.formed;
      rows = record { first_units = v.rows.first_units; stored = v.rows.stored; accepted_stored = named_stored w d (w.lines w.count) w.using w.accepted v.units le now n.names (omega arith) n.formed };
      lines = λ l lt. line_accept w.key w.units w.accepted (length w.keeper.rows) w.takers w.history l (w.lines l) (v.lines l lt);
      across = v.across;
      takers = v.takers;
      last_row = v.last_row;
      in_use = λ e. record { some_line = (v.in_use e).some_line; accepted_sent = was_sent_top (w.lines w.count) w.accepted n.sent; chain = accept_chain w (w.lines w.count) d v.units le n.formed now n.names };
      told = v.told;
      answers = v.answers;
      keeper = v.keeper;
      fixes = v.fixes;
      just = tt;
    }
