-- What the terminal sends keeps the rule.
use Rattle.std.proofs.Common.{ℕ, zero, suc, ◌-◌, ◌<◌, ◌≤◌, ◌≡◌, [], ◌∷◌, ◌++◌, length, arith, refl, sym, subst, true, inl, inr, None}
use Rattle.std.specs.Prelude.{◌⊎◌}
use Rattle.std.proofs.lemmas.Bool.{cases_lt}
use Rattle.jt_delivery.specs.World.{Up, Sending, Line, World, WasSent, HasAdmission, IsOpened, put}
use Rattle.jt_delivery.specs.Steps.{says, IsNoUnit, Sends, Says, MaySend, after}
use Rattle.jt_delivery.specs.Record.{top, seen, line_top, SendOk, Waiting, Carries, LineOk, InUseOk, Stands}
use Rattle.jt_delivery.proofs.Lists.{put_elim, put_same, end_top_push, waiting_push, end_seen_known, seen_known, waiting_say, end_top_say, sent_say, was_sent_top, Took_after}
use Rattle.jt_delivery.proofs.Forming.{past_below, across_put, last_put, fence_put}

-- units formed by now are near each one that is not accepted
send_good : (w : World) (i : ℕ) → Stands w → w.accepted ≤ i → i < length w.units → SendOk w.units i (length w.units)
send_good w i v le lt = record {
  before = lt;
  known = omega arith;
  near = omega (arith, v.units.near_mark (length w.units - 1) (omega arith) (omega arith), past_below w.units w.accepted i v.units le lt);
}

-- a unit is sent in its order
send_order : (w : World) (i : ℕ) (x : Line) → InUseOk w.units w.accepted w.count x → w.accepted ≤ i → ((k : ℕ) → w.accepted ≤ k → k < i → WasSent x k) → i ≤ line_top x
send_order w zero x u le h = omega arith
send_order w (suc k) x u le h = go (cases_lt k w.accepted)
  where
    go : (k < w.accepted) ⊎ (w.accepted ≤ k) → suc k ≤ line_top x
    go (inl l) = omega (arith, u.accepted_sent)
    go (inr g) = was_sent_top x k (h k g (omega arith))

says_ok : (w : World) (l : ℕ) (x : Line) (m : Up) → LineOk w.key w.units w.accepted (length w.keeper.rows) w.takers w.history l x
    → HasAdmission x.read ⊎ IsNoUnit m
    → Waiting w.units x.first (top x.first x.gone) (seen x.formed x.gone) (x.waiting ++ m ∷ [])
    → LineOk w.key w.units w.accepted (length w.keeper.rows) w.takers w.history l (says x m)
says_ok w l x m h ready waits = record {
  first_formed = h.first_formed;
  formed_units = h.formed_units;
  first_accepted = h.first_accepted;
  gone = h.gone;
  waiting = waits;
  admitted = λ c. carries ready c;
  took = h.took;
  live_took = h.live_took;
  took_live = h.took_live;
  not_closed = h.not_closed;
  taken = h.taken;
  below = h.below;
  order = h.order;
}
  where
    carries : HasAdmission x.read ⊎ IsNoUnit m → Carries (says x m) → HasAdmission x.read
    carries (inl ok) c = ok
    carries (inr n) c = h.admitted (c.0, elim c.1 [ inl a ↦ inl a | inr b ↦ inr (sent_say x.waiting m c.0 n b) ])

-- the rule with the line in use put anew
pub in_use_kept : (w : World) (x : Line) → Stands w → 1 ≤ w.count
    → LineOk w.key w.units w.accepted (length w.keeper.rows) w.takers w.history w.count x
    → x.formed ≡ (w.lines w.count).formed
    → top x.first x.gone ≡ top (w.lines w.count).first (w.lines w.count).gone
    → (w.using ≡ true → InUseOk w.units w.accepted w.count x)
    → Stands (record w { lines = put w.lines w.count x; just = None })
in_use_kept w x i some ok formed tops used = record {
  units = i.units;
  rows = i.rows;
  lines = λ l. put_elim (λ k y. IsOpened w.count k → LineOk w.key w.units w.accepted (length w.keeper.rows) w.takers w.history k y) w.lines w.count x (λ lt. ok) l (λ n. i.lines l);
  across = across_put w.count w.lines w.count x
      (λ k m nk nm. i.across k m)
      (λ k one kl lc. rw formed (i.across k w.count one kl lc))
      (λ m one lm mc. absurd (omega arith));
  takers = record {
    opened = i.takers.opened;
    unopened = i.takers.unopened;
    fence = fence_put w.lines w.takers w.count x i.takers.fence (λ k t lt c. absurd (omega (arith, (i.takers.opened k (Took_after w.takers w.count k t).1).1)));
    holder_last = i.takers.holder_last;
  };
  last_row = λ some. last_put w.lines w.takers (length w.keeper.rows) w.row_line w.count x (i.last_row some) (λ e. rw tops (subst (λ r. length w.keeper.rows ≤ top (w.lines r).first (w.lines r).gone) e (i.last_row some).there));
  in_use = λ e. subst (λ y. InUseOk w.units w.accepted w.count y) (sym (put_same w.lines w.count x)) (used e);
  told = i.told;
  answers = i.answers;
  keeper = i.keeper;
  fixes = i.fixes;
  just = tt;
}

-- the line in use, or the last one that was
abbrev pub newest : World → Line
newest w = w.lines w.count

pub send_kept : (w : World) (i : ℕ) → Stands w → MaySend w i → Stands (after w (Sends i))
send_kept w i v m = in_use_kept w (says (newest w) (Sending i (length w.units))) v used.some_line
    (says_ok w w.count (newest w) (Sending i (length w.units)) old (inl m.admitted)
    (waiting_push w.units (newest w).first (top (newest w).first (newest w).gone) (seen (newest w).formed (newest w).gone) (newest w).waiting i (length w.units) old.waiting
    (record {
      good = send_good w i v m.waits m.formed;
      from_first = omega (arith, old.first_accepted, m.waits);
      in_order = send_order w i (newest w) used m.waits m.in_order;
      later = end_seen_known w.units (newest w).first (top (newest w).first (newest w).gone) (seen (newest w).formed (newest w).gone) (newest w).waiting old.waiting (seen_known w.units (newest w).first (newest w).formed (newest w).gone old.gone old.formed_units);
    })))
    refl refl
    (λ e. record {
      some_line = used.some_line;
      accepted_sent = omega (arith, used.accepted_sent, end_top_push (top (newest w).first (newest w).gone) (newest w).waiting i (length w.units));
      chain = used.chain;
    })
  where
    used : InUseOk w.units w.accepted w.count (newest w)
    used = v.in_use m.in_use

    old : LineOk w.key w.units w.accepted (length w.keeper.rows) w.takers w.history w.count (newest w)
    old = v.lines w.count (used.some_line, omega arith)

pub say_kept : (w : World) (d : Up) → Stands w → w.using ≡ true → IsNoUnit d → Stands (after w (Says d))
say_kept w d v using no_unit = in_use_kept w (says (newest w) d) v used.some_line
    (says_ok w w.count (newest w) d old (inr no_unit)
    (waiting_say w.units (newest w).first (top (newest w).first (newest w).gone) (seen (newest w).formed (newest w).gone) (newest w).waiting d no_unit old.waiting))
    refl refl
    (λ e. record {
      some_line = used.some_line;
      accepted_sent = omega (arith, used.accepted_sent, end_top_say (top (newest w).first (newest w).gone) (newest w).waiting d no_unit);
      chain = used.chain;
    })
  where
    used : InUseOk w.units w.accepted w.count (newest w)
    used = v.in_use using

    old : LineOk w.key w.units w.accepted (length w.keeper.rows) w.takers w.history w.count (newest w)
    old = v.lines w.count (used.some_line, omega arith)
