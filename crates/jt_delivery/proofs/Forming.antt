-- Recording, forming, opening and losing keep the rule.
use Rattle.std.proofs.Common.{ℕ, zero, suc, ◌+◌, ◌-◌, ◌<◌, ◌≤◌, ◌≡◌, ◌≢◌, List, [], ◌∷◌, ◌++◌, length, arith, refl, ap, sym, ◌∙◌, subst, inl, inr}
use Rattle.std.specs.Prelude.{◌⊎◌}
use Rattle.std.proofs.lemmas.Bool.{cases_eq, cases_lt, cases_order, false≢true}
use Rattle.std.proofs.lemmas.List.{length_push, take-append-le, append-nil, append_assoc}
use Rattle.jt_value.specs.Serials.{serial_of}
use Rattle.jt_position.specs.Fixes.{fixes_of}
use Rattle.jt_store.specs.declared.row.Row.{Row}
use Rattle.jt_platform.specs.declared.request.Entry.{Entry}
use Rattle.jt_delivery.specs.World.{Line, new_line, World, number_at, put, IsOpened}
use Rattle.jt_store.specs.Units.{past_accepted, carried, fixes_in, MayForm}
use Rattle.jt_delivery.specs.Steps.{Records, Forms, Opens, without_line, after}
use Rattle.jt_delivery.specs.Record.{top, seen, line_top, SendOk, Carries, TookAfter, UnitsOk, RowsOk, LineOk, Across, LastRowOk, InUseOk, Stands}
use Rattle.jt_delivery.proofs.Lists.{put_elim, put_same, seen_known, top_seen, end_top_known, number_push, number_new, row_at_all, Gone_form, Waiting_form, Chain_form, past_at, past_form}

-- two numbers with one serial that are less than 65,536 apart are one
serial_apart : (a b : ℕ) → serial_of a ≡ serial_of b → a < b + 65536 → b < a + 65536 → a ≡ b
serial_apart a b e l r = omega arith

-- within the window round the last accepted number, one past which is `past`, one serial is one number
serial_window : (past a b : ℕ) → past ≤ a + 32766 → a + 1 ≤ past + 32766 → past ≤ b → b + 1 ≤ past + 32766 → serial_of a ≡ serial_of b → a ≡ b
serial_window past a b al au bl bu e = serial_apart a b e (omega arith) (omega arith)

-- what the units' numbers say

-- one past the last accepted number is at most each unit's that is not accepted
pub past_below : (units : List Row) (a i : ℕ) → UnitsOk units a → a ≤ i → i < length units → past_accepted units a ≤ number_at units i
past_below units zero i h le lt = omega arith
past_below units (suc a) i h le lt = omega (arith, past_at units a (omega arith), h.rise a i le lt)

-- and at most what was formed by then allows
pub past_near : (units : List Row) (a i f : ℕ) → UnitsOk units a → a ≤ f → SendOk units i f → past_accepted units a ≤ number_at units i + 32766
past_near units zero i f h le good = omega arith
past_near units (suc a) i f h le good = go (cases_lt a (f - 1))
  where
    at : past_accepted units (suc a) ≡ number_at units a + 1
    at = past_at units a (omega (arith, good.known))

    go : (a < f - 1) ⊎ (f - 1 ≤ a) → past_accepted units (suc a) ≤ number_at units i + 32766
    go (inl lt) = omega (arith, at, good.near, h.rise a (f - 1) lt (omega (arith, good.known, good.before)))
    go (inr ge) = let e : a ≡ f - 1 = omega arith in omega (arith, at, ap (λ (n : ℕ). number_at units n) e, good.near)

pub number_up : (units : List Row) (a i : ℕ) → UnitsOk units a → a ≤ length units → i < length units → number_at units i + 1 ≤ past_accepted units a + 32766
number_up units a i h le lt = go a h le (cases_lt i a)
  where
    go : (b : ℕ) → UnitsOk units b → b ≤ length units → (i < b) ⊎ (b ≤ i) → number_at units i + 1 ≤ past_accepted units b + 32766
    go zero h le (inl l) = absurd (omega arith)
    go (suc b) h le (inl l) = elim (cases_eq i b) [ inl e ↦ omega (arith, past_at units b le, ap (λ (n : ℕ). number_at units n) e) | inr n ↦ omega (arith, past_at units b le, h.rise i b (omega arith) le) ]
    go b h le (inr ge) = omega (arith, h.near_mark i ge lt)

pub past_last : (units : List Row) (a i : ℕ) → UnitsOk units a → a ≤ suc i → i < length units → past_accepted units a ≤ number_at units i + 1
past_last units zero i h le lt = omega arith
past_last units (suc a) i h le lt = elim (cases_eq a i) [ inl e ↦ omega (arith, past_at units a (omega arith), ap (λ (n : ℕ). number_at units n) e) | inr n ↦ omega (arith, past_at units a (omega arith), h.rise a i (omega arith) lt) ]

past_zero : (units : List Row) (a : ℕ) → a ≤ 0 → past_accepted units a ≡ 0
past_zero units zero le = refl
past_zero units (suc a) le = absurd (omega arith)

pub same_place : (units : List Row) (a i k : ℕ) → UnitsOk units a → i < length units → k < length units → number_at units i ≡ number_at units k → i ≡ k
same_place units a i k h il kl e = elim (cases_order i k) [ inl s ↦ s | inr o ↦ elim o [ inl l ↦ absurd (omega (arith, h.rise i k l kl)) | inr l ↦ absurd (omega (arith, h.rise k i l il)) ] ]

-- the unit that an acceptance names is the one that it is of
pub same_unit : (units : List Row) (a i f k : ℕ) → UnitsOk units a → a ≤ length units → SendOk units i f → a ≤ f → a ≤ k → k < length units
    → serial_of (number_at units i) ≡ serial_of (number_at units k) → i ≡ k
same_unit units a i f k h le good af ak kl e = same_place units a i k h (omega (arith, good.before, good.known)) kl
    (serial_window (past_accepted units a) (number_at units i) (number_at units k) (past_near units a i f h af good) (number_up units a i h le (omega (arith, good.before, good.known))) (past_below units a k h ak kl) (number_up units a k h le kl) e)

-- a unit is formed
units_form : (units : List Row) (a : ℕ) (u : Row) → UnitsOk units a → a ≤ length units
    → past_accepted units a ≤ u.number → u.number ≤ past_accepted units a + 32765 → ((i : ℕ) → i < length units → number_at units i < u.number)
    → UnitsOk (units ++ u ∷ []) a
units_form units a u h le low high above = record {
  rise = λ i k l m. rises i k l m (cases_lt k (length units));
  near_before = λ i l. nears i l (cases_lt (suc i) (length units));
  near_first = λ l. firsts l (cases_lt 0 (length units));
  near_mark = λ i ge l. marks i ge l (cases_lt i (length units));
}
  where
    len : length (units ++ u ∷ []) ≡ length units + 1
    len = length_push units u

    rises : (i k : ℕ) → i < k → k < length (units ++ u ∷ []) → (k < length units) ⊎ (length units ≤ k) → number_at (units ++ u ∷ []) i < number_at (units ++ u ∷ []) k
    rises i k l m (inl c) = omega (arith, number_push units u i (omega arith), number_push units u k c, h.rise i k l c)
    rises i k l m (inr c) = let e : k ≡ length units = omega (arith, len) in rw e (omega (arith, number_push units u i (omega arith), number_new units u, above i (omega arith)))

    nears : (i : ℕ) → suc i < length (units ++ u ∷ []) → (suc i < length units) ⊎ (length units ≤ suc i) → number_at (units ++ u ∷ []) (suc i) ≤ number_at (units ++ u ∷ []) i + 32766
    nears i l (inl c) = omega (arith, number_push units u i (omega arith), number_push units u (suc i) c, h.near_before i c)
    nears i l (inr c) = let e : suc i ≡ length units = omega (arith, len) in
        let f : number_at (units ++ u ∷ []) (suc i) ≡ u.number = rw e (number_new units u) in
        omega (arith, number_push units u i (omega arith), f, high, past_last units a i h (omega arith) (omega arith))

    firsts : 0 < length (units ++ u ∷ []) → (0 < length units) ⊎ (length units ≤ 0) → number_at (units ++ u ∷ []) 0 ≤ 32765
    firsts l (inl c) = omega (arith, number_push units u 0 c, h.near_first c)
    firsts l (inr c) = let e : 0 ≡ length units = omega arith in
        let f : number_at (units ++ u ∷ []) 0 ≡ u.number = rw e (number_new units u) in
        omega (arith, f, high, past_zero units a (omega arith))

    marks : (i : ℕ) → a ≤ i → i < length (units ++ u ∷ []) → (i < length units) ⊎ (length units ≤ i) → number_at (units ++ u ∷ []) i ≤ past_accepted (units ++ u ∷ []) a + 32765
    marks i ge l (inl c) = omega (arith, number_push units u i c, h.near_mark i ge c, past_form units u a le)
    marks i ge l (inr c) = let e : i ≡ length units = omega (arith, len) in
        let f : number_at (units ++ u ∷ []) i ≡ u.number = rw e (number_new units u) in
        omega (arith, f, high, past_form units u a le)

rows_form : (units : List Row) (a : ℕ) (rows : List Row) (u : Row) → RowsOk units a rows → RowsOk (units ++ u ∷ []) a rows
rows_form units a rows u h = record {
  first_units = h.first_units ∙ sym (take-append-le (length rows) units (u ∷ []) h.stored);
  stored = omega (arith, h.stored, length_push units u);
  accepted_stored = h.accepted_stored;
}

line_form : (key : List ℕ) (units : List Row) (a j : ℕ) (takers : List ℕ) (hist : List Entry) (l : ℕ) (x : Line) (u : Row) → LineOk key units a j takers hist l x → LineOk key (units ++ u ∷ []) a j takers hist l x
line_form key units a j takers hist l x u h = record {
  first_formed = h.first_formed;
  formed_units = omega (arith, h.formed_units, length_push units u);
  first_accepted = h.first_accepted;
  gone = Gone_form units u x.first x.formed x.gone h.gone;
  waiting = Waiting_form units u x.first (top x.first x.gone) (seen x.formed x.gone) x.waiting h.waiting;
  admitted = h.admitted;
  took = h.took;
  live_took = h.live_took;
  took_live = h.took_live;
  not_closed = h.not_closed;
  taken = h.taken;
  below = h.below;
  order = h.order;
}

fixes_push : (units : List Row) (u : Row) → fixes_in (units ++ u ∷ []) ≡ fixes_in units ++ fixes_of (carried u)
fixes_push [] u = append-nil (fixes_of (carried u))
fixes_push (x ∷ xs) u = ap (λ (z : List (List ℕ)). fixes_of (carried x) ++ z) (fixes_push xs u) ∙ sym (append_assoc (fixes_of (carried x)) (fixes_in xs) (fixes_of (carried u)))

pub form_kept : (w : World) (u : Row) → Stands w → MayForm w.units w.accepted w.recorded u → Stands (after w (Forms u))
form_kept w u i m = record {
  units = units_form w.units w.accepted u i.units (omega (arith, i.rows.accepted_stored, i.rows.stored)) m.after_accepted (omega (arith, m.near)) (λ k lt. row_at_all (λ (older : Row). older.number < u.number) w.units k m.above lt);
  rows = rows_form w.units w.accepted w.keeper.rows u i.rows;
  lines = λ l lt. line_form w.key w.units w.accepted (length w.keeper.rows) w.takers w.history l (w.lines l) u (i.lines l lt);
  across = i.across;
  takers = i.takers;
  last_row = i.last_row;
  in_use = λ e. let c : InUseOk w.units w.accepted w.count (w.lines w.count) = i.in_use e in
      record { some_line = c.some_line; accepted_sent = c.accepted_sent; chain = Chain_form w.units u w.accepted (seen (w.lines w.count).formed (w.lines w.count).gone) (w.lines w.count).unread c.chain };
  told = i.told;
  answers = i.answers;
  keeper = i.keeper;
  fixes = (m.next.0, ap (λ (z : List (List ℕ)). z ++ m.next.0) (fixes_push w.units u) ∙ m.next.1);
  just = tt;
}

-- a line is opened
pub across_put : (count : ℕ) (lines : ℕ → Line) (l : ℕ) (x : Line)
    → ((k m : ℕ) → k ≢ l → m ≢ l → 1 ≤ k → k < m → m ≤ count → line_top (lines k) ≤ (lines m).formed)
    → ((k : ℕ) → 1 ≤ k → k < l → l ≤ count → line_top (lines k) ≤ x.formed)
    → ((m : ℕ) → 1 ≤ l → l < m → m ≤ count → line_top x ≤ (lines m).formed)
    → Across count (put lines l x)
across_put count lines l x h lo hi k m one km mc =
    put_elim (λ n y. k < n → n ≤ count → line_top (put lines l x k) ≤ y.formed) lines l x
    (λ kl lc. put_elim (λ n z. 1 ≤ n → n < l → line_top z ≤ x.formed) lines l x (λ o ll. absurd (omega arith)) k (λ n o kl. lo k o kl lc) one kl)
    m
    (λ ne km mc. put_elim (λ n z. 1 ≤ n → n < m → line_top z ≤ (lines m).formed) lines l x (λ o lm. hi m o lm mc) k (λ nk o km. h k m nk ne o km mc) one km)
    km mc

new_ok : (w : World) → Stands w → LineOk w.key w.units w.accepted (length w.keeper.rows) w.takers w.history (suc w.count) (new_line w.accepted (length w.units))
new_ok w i = record {
  first_formed = omega (arith, i.rows.accepted_stored, i.rows.stored);
  formed_units = omega arith;
  first_accepted = omega arith;
  gone = tt;
  waiting = tt;
  admitted = λ c. elim c.1 [ inl h ↦ absurd h | inr h ↦ absurd h ];
  took = λ c. elim c [ inl h ↦ absurd h | inr h ↦ absurd h ];
  live_took = λ o e. absurd (false≢true (sym (i.takers.unopened (suc w.count) (omega arith)).0 ∙ e));
  took_live = λ o t. absurd (omega (arith, (i.takers.opened (suc w.count) t).1));
  not_closed = λ o. (i.takers.unopened (suc w.count) (omega arith)).1;
  taken = λ o e. i.rows.accepted_stored;
  below = (tt, tt);
  order = inl refl;
}

pub last_put : (lines : ℕ → Line) (takers : List ℕ) (stored r l : ℕ) (x : Line) → LastRowOk lines takers stored r → (r ≡ l → stored ≤ top x.first x.gone) → LastRowOk (put lines l x) takers stored r
last_put lines takers stored r l x h here = record {
  by = h.by;
  there = put_elim (λ k y. k ≡ r → stored ≤ top y.first y.gone) lines l x (λ e. here (sym e)) r (λ n e. h.there) refl;
}

pub fence_put : (lines : ℕ → Line) (takers : List ℕ) (l : ℕ) (x : Line)
    → ((j k : ℕ) → TookAfter takers j k → j < k → Carries (lines j) → ⊥)
    → ((k : ℕ) → TookAfter takers l k → l < k → Carries x → ⊥)
    → (j k : ℕ) → TookAfter takers j k → j < k → Carries (put lines l x j) → ⊥
fence_put lines takers l x h here j k = put_elim (λ n y. TookAfter takers n k → n < k → Carries y → ⊥) lines l x (here k) j (λ n. h j k)

-- all that a line carries was formed by now
known_top : (units : List Row) (key : List ℕ) (a j : ℕ) (takers : List ℕ) (hist : List Entry) (l : ℕ) (x : Line) → LineOk key units a j takers hist l x → line_top x ≤ length units
known_top units key a j takers hist l x h = end_top_known units x.first (top x.first x.gone) (seen x.formed x.gone) x.waiting h.waiting
    (omega (arith, top_seen units x.first x.formed x.gone h.first_formed h.gone, seen_known units x.first x.formed x.gone h.gone h.formed_units))

pub open_kept : (w : World) → Stands w → Stands (after w Opens)
open_kept w i = record {
  units = i.units;
  rows = i.rows;
  lines = λ l. put_elim (λ k y. IsOpened (suc w.count) k → LineOk w.key w.units w.accepted (length w.keeper.rows) w.takers w.history k y) w.lines (suc w.count) (new_line w.accepted (length w.units)) (λ lt. new_ok w i) l (λ n lt. i.lines l (lt.0, omega (arith, lt.1)));
  across = across_put (suc w.count) w.lines (suc w.count) (new_line w.accepted (length w.units))
      (λ k m nk nm one km mc. i.across k m one km (omega arith))
      (λ k one kl lc. known_top w.units w.key w.accepted (length w.keeper.rows) w.takers w.history k (w.lines k) (i.lines k (one, omega arith)))
      (λ m one lm mc. absurd (omega arith));
  takers = record {
    opened = λ l t. ((i.takers.opened l t).0, omega (arith, (i.takers.opened l t).1));
    unopened = λ l le. i.takers.unopened l (omega arith);
    fence = fence_put w.lines w.takers (suc w.count) (new_line w.accepted (length w.units)) i.takers.fence (λ k t lt c. elim c.1 [ inl h ↦ absurd h | inr h ↦ absurd h ]);
    holder_last = i.takers.holder_last;
  };
  last_row = λ some. last_put w.lines w.takers (length w.keeper.rows) w.row_line (suc w.count) (new_line w.accepted (length w.units)) (i.last_row some) (λ e. absurd (omega (arith, (i.takers.opened w.row_line (i.last_row some).by).1)));
  in_use = λ e. subst (λ y. InUseOk w.units w.accepted (suc w.count) y) (sym (put_same w.lines (suc w.count) (new_line w.accepted (length w.units)))) (record { some_line = omega arith; accepted_sent = omega arith; chain = omega (arith, i.rows.accepted_stored, i.rows.stored) });
  told = i.told;
  answers = i.answers;
  keeper = i.keeper;
  fixes = i.fixes;
  just = tt;
}

pub record_kept : (w : World) (x : List ℕ) → Stands w → Stands (after w (Records x))
record_kept w x i = record {
  units = i.units;
  rows = i.rows;
  lines = i.lines;
  across = i.across;
  takers = i.takers;
  last_row = i.last_row;
  in_use = i.in_use;
  told = i.told;
  answers = i.answers;
  keeper = i.keeper;
  fixes = (i.fixes.0 ++ x ∷ [], sym (append_assoc (fixes_in w.units) i.fixes.0 (x ∷ [])) ∙ ap (λ (z : List (List ℕ)). z ++ x ∷ []) i.fixes.1);
  just = tt;
}

pub lose_kept : (w : World) → Stands w → Stands (without_line w)
lose_kept w i = record {
  units = i.units;
  rows = i.rows;
  lines = i.lines;
  across = i.across;
  takers = i.takers;
  last_row = i.last_row;
  in_use = λ e. absurd (false≢true e);
  told = i.told;
  answers = i.answers;
  keeper = i.keeper;
  fixes = i.fixes;
  just = tt;
}
