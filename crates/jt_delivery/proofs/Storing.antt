-- What a unit of the holder is answered, and that the rule is kept by it.
use Rattle.std.proofs.Common.{ℕ, suc, ◌+◌, ◌-◌, ◌<◌, ◌≤◌, ◌≡◌, List, [], ◌∷◌, ◌++◌, length, take, arith, refl, ap, sym, ◌∙◌, subst, Bool, true, false, if◌then◌else◌, inl, inr, Option, Some, None}
use Rattle.std.specs.Prelude.{◌⊎◌}
use Rattle.std.proofs.lemmas.Bool.{cases_eq, cases_lt, cases_order, false≢true}
use Rattle.std.proofs.lemmas.List.{length_push, append-nil}
use Rattle.std.proofs.lemmas.List.Elements.{All-cons}
use Rattle.jt_value.specs.Sameness.{key_of}
use Rattle.jt_value.specs.Serials.{serial_of, Verdict, New, Repeat, Anew}
use Rattle.jt_value.specs.declared.phone.Phone.{Phone}
use Rattle.jt_store.specs.declared.row.Row.{Row}
use Rattle.jt_store.specs.Tables.{Tables, IsRow, last_of}
use Rattle.jt_store.specs.Verdicts.{Shelf, alone, IsVerdictOn, VerdictsNear}
use Rattle.jt_platform.specs.declared.request.Request.{Request}
use Rattle.jt_platform.specs.declared.request.Request.TheVariants as ask
use Rattle.jt_platform.specs.declared.request.Reply.{Reply}
use Rattle.jt_platform.specs.declared.request.Reply.TheVariants as say
use Rattle.jt_platform.specs.declared.request.Entry.{Entry}
use Rattle.jt_platform.specs.History.{live, closed, holder, says_live, registration_after, rows_after}
use Rattle.jt_platform.specs.Allowed.{makes_entry, StoreReply, FencedReply, IsHolder, GuardedReply}
use Rattle.jt_platform.specs.Laws.{shelf_of}
use Rattle.jt_delivery.specs.World.{Up, Authentication, OtherMessage, Sending, Down, Admission, Acceptance, OtherAnswer, Line, World, row_at, number_at, IsSentIn, put}
use Rattle.jt_delivery.specs.Steps.{AreOthers, Answered, Answers, MayTake, IsWritten, entry, after}
use Rattle.jt_delivery.specs.Record.{top, seen, SendOk, Follows, Waiting, Carries, Took, TookAfter, HolderIs, UnitsOk, RowsOk, LineOk, LastRowOk, Stands, units_in, accepted_in, onto, AnswersInOrder}
use Rattle.jt_delivery.specs.Claim.{IsRenumbered, NoneRenumbered}
use Rattle.jt_delivery.proofs.Lists.{row_at_take, take_row, row_is_row, last_of_rows, none_last, put_same, end_top_up, formed_seen, top_seen, Chain_push, Chain_raise, Chain_else, Below_else, HasAdmission_else}
use Rattle.jt_delivery.proofs.Forming.{last_put}
use Rattle.jt_delivery.proofs.Turning.{same_of, entry_live, entry_closed, move_top, move_seen, line_moved, past_line, turned, turned_kept}

-- ---- the verdict

rows_are : (units : List Row) (a : ℕ) (rows : List Row) (k : ℕ) → RowsOk units a rows → k < length rows → row_at rows k ≡ row_at units k
rows_are units a rows k h lt = ap (λ (rs : List Row). row_at rs k) h.first_units ∙ row_at_take (length rows) units k lt

-- a unit is the next row, or a row again
module _ (near : VerdictsNear) (units : List Row) (a : ℕ) (rows : List Row) (i f : ℕ) (uo : UnitsOk units a) (ro : RowsOk units a rows) (good : SendOk units i f) (le : i ≤ length rows) (by : i < length rows → length rows ≤ f) where
  abbrev Is_one : Verdict → Type 0
  Is_one v = ((i ≡ length rows) × (v ≡ New (number_at units i))) ⊎ ((i < length rows) × (v ≡ Repeat (number_at units i)))

  same : (k : ℕ) → k < length rows → number_at rows k ≡ number_at units k
  same k lt = ap (λ (r : Row). r.number) (rows_are units a rows k ro lt)

  abbrev last : ℕ
  last = number_at units (length rows - 1)

  last_is : 0 < length rows → last_of rows ≡ Some last
  last_is some = last_of_rows rows some ∙ ap Some (same (length rows - 1) (omega arith))

  there : i < length rows → IsRow rows (row_at units i)
  there lt = subst (λ r. IsRow rows r) (rows_are units a rows i ro lt) (row_is_row rows i lt)

  last_up : i < length rows → number_at units i ≤ last
  last_up lt = elim (cases_eq i (length rows - 1)) [ inl e ↦ rw e (omega arith) | inr n ↦ omega (arith, uo.rise i (length rows - 1) (omega arith) (omega (arith, ro.stored))) ]

  last_near : i < length rows → last ≤ number_at units i + 32765
  last_near lt = elim (cases_lt (length rows - 1) (f - 1)) [ inl l ↦ omega (arith, good.near, uo.rise (length rows - 1) (f - 1) l (omega (arith, good.known, good.before))) | inr g ↦ (let e : length rows - 1 ≡ f - 1 = omega (arith, by lt) in rw e good.near) ]

  next_up : length rows ≤ i → 0 < length rows → last < number_at units i
  next_up ge some = omega (arith, uo.rise (length rows - 1) i (omega arith) (omega (arith, good.known, good.before)))

  next_near : length rows ≤ i → 0 < length rows → number_at units i ≤ last + 32766
  next_near ge some = let s : suc (length rows - 1) ≡ i = omega arith in subst (λ n. number_at units n ≤ last + 32766) s (uo.near_before (length rows - 1) (omega (arith, good.known, good.before)))

  first_low : length rows ≤ i → length rows ≤ 0 → number_at units i ≤ 32765
  first_low ge none = let z : i ≡ 0 = omega arith in rw z (uo.near_first (omega (arith, good.known, good.before)))

  low_serial : (n : ℕ) → n ≤ 32765 → serial_of n ≡ n
  low_serial n lt = omega arith

  verdict_is : (v : Verdict) → IsVerdictOn rows (serial_of (number_at units i)) (row_at units i).id (row_at units i).body v → Is_one v
  verdict_is v h = go (cases_lt i (length rows)) (cases_lt 0 (length rows))
    where
      go : (i < length rows) ⊎ (length rows ≤ i) → (0 < length rows) ⊎ (length rows ≤ 0) → Is_one v
      go (inl lt) some = inr (lt, near.again rows last (number_at units i) (row_at units i).id (row_at units i).body v (last_is (omega arith)) (last_up lt) (last_near lt) (there lt) h)
      go (inr ge) (inl some) = inl (omega arith, near.new rows last (number_at units i) (row_at units i).id (row_at units i).body v (last_is some) (next_up ge some) (next_near ge some) h)
      go (inr ge) (inr none) = inl (omega arith, near.first (serial_of (number_at units i)) (row_at units i).id (row_at units i).body v (subst (λ rs. IsVerdictOn rs (serial_of (number_at units i)) (row_at units i).id (row_at units i).body v) (none_last rows none) h) ∙ ap New (low_serial (number_at units i) (first_low ge none)))

  -- so its reply is Stored or Repeat
  store_is : (t : Tables) (key : List ℕ) (limit : ℕ) (r : Reply) → t.rows key ≡ rows → makes_entry r ≡ true
      → StoreReply limit (Some t) key (serial_of (number_at units i)) (row_at units i).id (row_at units i).body r
      → ((i ≡ length rows) × (r ≡ say.Stored (number_at units i))) ⊎ ((i < length rows) × (r ≡ say.Repeat (number_at units i)))
  store_is t key limit (say.Stored n) e makes h = elim (verdict_is (New n) (subst (λ rs. IsVerdictOn rs (serial_of (number_at units i)) (row_at units i).id (row_at units i).body (New n)) e h.0)) [ inl p ↦ inl (p.0, same_new n (number_at units i) p.1) | inr p ↦ absurd (new_again n (number_at units i) p.1) ]
    where
      same_new : (n m : ℕ) → New n ≡ New m → say.Stored n ≡ say.Stored m
      same_new n m e = cc

      new_again : (n m : ℕ) → New n ≡ Repeat m → ⊥
      new_again n m e = cc
  store_is t key limit (say.Repeat n) e makes h = elim (verdict_is (Repeat n) (subst (λ rs. IsVerdictOn rs (serial_of (number_at units i)) (row_at units i).id (row_at units i).body (Repeat n)) e h)) [ inr p ↦ inr (p.0, same_again n (number_at units i) p.1) | inl p ↦ absurd (again_new n (number_at units i) p.1) ]
    where
      same_again : (n m : ℕ) → Repeat n ≡ Repeat m → say.Repeat n ≡ say.Repeat m
      same_again n m e = cc

      again_new : (n m : ℕ) → Repeat n ≡ New m → ⊥
      again_new n m e = cc
  store_is t key limit (say.Renumbered n) e makes h = elim (verdict_is (Anew n) (subst (λ rs. IsVerdictOn rs (serial_of (number_at units i)) (row_at units i).id (row_at units i).body (Anew n)) e h.0)) [ inl p ↦ absurd (anew_new n (number_at units i) p.1) | inr p ↦ absurd (anew_again n (number_at units i) p.1) ]
    where
      anew_new : (n m : ℕ) → Anew n ≡ New m → ⊥
      anew_new n m e = cc

      anew_again : (n m : ℕ) → Anew n ≡ Repeat m → ⊥
      anew_again n m e = cc
  store_is t key limit (say.ListFull l) e makes h = absurd (false≢true makes)
  store_is t key limit say.StoreFault e makes h = absurd h
  store_is t key limit say.Memory e makes h = absurd h
  store_is t key limit say.Accepted e makes h = absurd h
  store_is t key limit (say.Registered code) e makes h = absurd h
  store_is t key limit (say.Denied n) e makes h = absurd h
  store_is t key limit say.NotLive e makes h = absurd h
  store_is t key limit (say.Fenced other) e makes h = absurd h

-- ---- what the step is known to stand on

pub record Coming (w : World) (l : ℕ) (m : Up) (q : List Up) : Type 0 where
  pub inv : Stands w
  pub may : MayTake w l m q

-- the last row's unit was formed when this one was sent
rows_seen : (w : World) (l i f : ℕ) (q : List Up) → Coming w l (Sending i f) q → Follows w.units (w.lines l).first (top (w.lines l).first (w.lines l).gone) (seen (w.lines l).formed (w.lines l).gone) i f
    → IsHolder l (holder w.key w.history) → 0 < length w.keeper.rows → length w.keeper.rows ≤ f
rows_seen w l i f q c fo hold some = go (cases_order w.row_line l)
  where
    here : LineOk w.key w.units w.accepted (length w.keeper.rows) w.takers w.history l (w.lines l)
    here = c.inv.lines l c.may.opened

    last : LastRowOk w.lines w.takers (length w.keeper.rows) w.row_line
    last = c.inv.last_row some

    carries : Carries (w.lines l)
    carries = (i, inr (subst (λ z. IsSentIn z i) (sym c.may.first) (inl refl)))

    after_it : (o : Option ℕ) (takers : List ℕ) → HolderIs o takers → IsHolder l o → Took takers w.row_line → l < w.row_line → TookAfter takers l w.row_line
    after_it None takers h i t lt = absurd i
    after_it (Some t) [] h i b lt = absurd h
    after_it (Some t) (s ∷ ts) h i (inl b) lt = absurd (omega arith)
    after_it (Some t) (s ∷ ts) h i (inr b) lt = inl (sym h ∙ i, b)

    go : (w.row_line ≡ l) ⊎ ((w.row_line < l) ⊎ (l < w.row_line)) → length w.keeper.rows ≤ f
    go (inl s) = let b : length w.keeper.rows ≤ top (w.lines l).first (w.lines l).gone = subst (λ r. length w.keeper.rows ≤ top (w.lines r).first (w.lines r).gone) s last.there in
        omega (arith, fo.later, top_seen w.units (w.lines l).first (w.lines l).formed (w.lines l).gone here.first_formed here.gone)
    go (inr (inl lt)) = omega (arith, last.there, end_top_up (top (w.lines w.row_line).first (w.lines w.row_line).gone) (w.lines w.row_line).waiting, c.inv.across w.row_line l (c.inv.takers.opened w.row_line last.by).0 lt c.may.opened.1, formed_seen w.units (w.lines l).first (w.lines l).formed (w.lines l).gone here.gone, fo.later)
    go (inr (inr gt)) = absurd (c.inv.takers.fence l w.row_line (after_it (holder w.key w.history) w.takers c.inv.takers.holder_last hold last.by gt) gt carries)

-- ---- acceptances in their order

pub onto_append : (q ms : List Down) (g : List Down) → onto (q ++ ms) g ≡ onto ms (onto q g)
onto_append [] ms g = refl
onto_append (d ∷ q) ms g = onto_append q ms (d ∷ g)

accepted_others : (ms g : List Down) → AreOthers ms → accepted_in (onto ms g) ≡ accepted_in g
accepted_others [] g h = refl
accepted_others (OtherAnswer ∷ ms) g h = accepted_others ms (OtherAnswer ∷ g) h
accepted_others (Admission ∷ ms) g h = absurd h
accepted_others (Acceptance i f ∷ ms) g h = absurd h

pub order_now : (x : Line) → AnswersInOrder x → x.is_open ≡ true → x.ended ≡ false → units_in x.gone ≡ accepted_in (onto x.unread x.read)
order_now x (inl e) o n = e
order_now x (inr b) o n = absurd (false≢true (sym n ∙ b.2 o))

accepted_same : (x : Line) (out : List Down) → AreOthers out → accepted_in (onto (x.unread ++ out) x.read) ≡ accepted_in (onto x.unread x.read)
accepted_same x out h = ap accepted_in (onto_append x.unread out x.read) ∙ accepted_others out (onto x.unread x.read) h

plain_order : (x : Line) (m : Up) (q : List Up) (out : List Down) (over : Bool) → AnswersInOrder x → x.is_open ≡ true → x.ended ≡ false → AreOthers out
    → (over ≡ true) ⊎ (units_in (m ∷ x.gone) ≡ units_in x.gone)
    → AnswersInOrder (past_line x m q out over)
plain_order x m q out over h o n e (inr s) = inl (s ∙ (order_now x h o n ∙ sym (accepted_same x out e)))
plain_order x Authentication q out over h o n e (inl s) = inl (order_now x h o n ∙ sym (accepted_same x out e))
plain_order x OtherMessage q out over h o n e (inl s) = inl (order_now x h o n ∙ sym (accepted_same x out e))
plain_order x (Sending i f) q out over h o n e (inl s) = inr (i, ap (λ (z : List ℕ). i ∷ z) (order_now x h o n ∙ sym (accepted_same x out e)), λ p. s)

-- ---- a message that stores nothing and takes nothing

pub plain_kept : (w : World) (l : ℕ) (m : Up) (q : List Up) (out : List Down) (over : Bool) (h : List Entry) (keeper : Shelf)
    → Coming w l m q → AreOthers out
    → ((k : ℕ) → live w.key h k ≡ live w.key w.history k) → ((k : ℕ) → closed h k ≡ closed w.history k) → holder w.key h ≡ holder w.key w.history
    → (over ≡ false → top (w.lines l).first (m ∷ (w.lines l).gone) ≤ length w.keeper.rows) → NoneRenumbered h
    → keeper.rows ≡ w.keeper.rows → keeper ≡ shelf_of w.key w.began h → (over ≡ true) ⊎ (units_in (m ∷ (w.lines l).gone) ≡ units_in (w.lines l).gone)
    → Stands (turned w l (past_line (w.lines l) m q out over) h keeper w.takers w.row_line)
plain_kept w l m q out over h keeper c elses lv cl hd tk none rows keeps counts = turned_kept w l m q out over h keeper w.takers w.row_line c.inv c.may.opened c.may.first
    (subst (λ rs. RowsOk w.units w.accepted rs) (sym rows) c.inv.rows) (omega (arith, len))
    (line_moved w.key w.units w.accepted (length w.keeper.rows) (length keeper.rows) w.takers w.takers w.history h l (w.lines l) m q out over ok c.may.first (omega (arith, len))
    (λ t. t) (Below_else (length keeper.rows) out elses) (λ o. absurd (HasAdmission_else out elses o))
    (λ a. ok.live_took c.may.is_open (sym (lv l) ∙ a)) (λ t. lv l ∙ ok.took_live c.may.is_open t) (cl l ∙ ok.not_closed c.may.is_open) (λ o. omega (arith, len, tk o)) (plain_order (w.lines l) m q out over ok.order c.may.is_open c.may.going elses counts))
    (λ k n. lv k) (λ k n. cl k) (λ k n t. t) (λ k n t. t) (λ k j t. inl t)
    (subst (λ o. HolderIs o w.takers) (sym hd) c.inv.takers.holder_last)
    (λ some. last_put w.lines w.takers (length keeper.rows) w.row_line l (past_line (w.lines l) m q out over) (last some)
    (λ s. omega (arith, move_top (w.lines l).first (w.lines l).gone m, subst (λ r. length keeper.rows ≤ top (w.lines r).first (w.lines r).gone) s (last some).there)))
    (λ lo ch. Chain_raise w.units lo (seen (w.lines l).formed (w.lines l).gone) (seen (w.lines l).formed (m ∷ (w.lines l).gone)) ((w.lines l).unread ++ out) (Chain_else w.units lo (seen (w.lines l).formed (w.lines l).gone) (w.lines l).unread out ch elses) (move_seen w.units (w.lines l).first (w.lines l).formed (w.lines l).gone m q (rw c.may.first at ok.waiting)))
    none keeps
  where
    ok : LineOk w.key w.units w.accepted (length w.keeper.rows) w.takers w.history l (w.lines l)
    ok = c.inv.lines l c.may.opened

    len : length keeper.rows ≡ length w.keeper.rows
    len = ap (λ (rs : List Row). length rs) rows

    last : 0 < length keeper.rows → LastRowOk w.lines w.takers (length keeper.rows) w.row_line
    last some = subst (λ n. LastRowOk w.lines w.takers n w.row_line) (sym len) (c.inv.last_row (omega (arith, len)))

-- the keeper behind one more entry
pub keeps_on : (w : World) (e : Entry) → Stands w → shelf_of w.key w.keeper (e ∷ []) ≡ shelf_of w.key w.began (e ∷ w.history)
keeps_on w e v = ap (λ s. shelf_of w.key s (e ∷ [])) v.keeper

-- one more entry that does not say Renumbered
pub none_on : (w : World) (e : Entry) → Stands w → (IsRenumbered e.reply → ⊥) → NoneRenumbered (e ∷ w.history)
none_on w e v n = All-cons (λ (d : Entry). IsRenumbered d.reply → ⊥) e w.history n v.answers

-- ---- a unit

-- a reply of another holder is Fenced
pub fenced_is : (l : ℕ) (o : Option ℕ) (r : Reply) → FencedReply l o r → (t : ℕ) × (r ≡ say.Fenced t)
fenced_is l None r h = absurd h
fenced_is l (Some t) r h = (t, h.1)

module _ (near : VerdictsNear) (w : World) (l i f : ℕ) (q : List Up) (c : Coming w l (Sending i f) q) (phone : Phone) (own : key_of phone ≡ w.key) where
  unit_ok : LineOk w.key w.units w.accepted (length w.keeper.rows) w.takers w.history l (w.lines l)
  unit_ok = c.inv.lines l c.may.opened

  unit_follows : Follows w.units (w.lines l).first (top (w.lines l).first (w.lines l).gone) (seen (w.lines l).formed (w.lines l).gone) i f
  unit_follows = let ws : Waiting w.units (w.lines l).first (top (w.lines l).first (w.lines l).gone) (seen (w.lines l).formed (w.lines l).gone) (Sending i f ∷ q) = rw c.may.first at unit_ok.waiting in ws.0

  unit_took : Took w.takers l
  unit_took = unit_ok.took (inl (unit_ok.admitted (i, inr (subst (λ z. IsSentIn z i) (sym c.may.first) (inl refl)))))

  unit_live : live w.key w.history l ≡ true
  unit_live = unit_ok.took_live c.may.is_open unit_took

  abbrev the_request : Request
  the_request = ask.Unit phone (serial_of (number_at w.units i)) (row_at w.units i).id (row_at w.units i).body

  abbrev kept : Reply → Shelf
  kept r = shelf_of w.key w.keeper (entry l the_request r ∷ [])

  abbrev answered_line : Line
  answered_line = past_line (w.lines l) (Sending i f) q (Acceptance i f ∷ []) false

  unit_fenced : (t : ℕ) (out : List Down) → AreOthers out → Stands (after w (Answers l (Sending i f) q (Answered the_request (say.Fenced t) out)))
  unit_fenced t out elses = plain_kept w l (Sending i f) q out true (entry l the_request (say.Fenced t) ∷ w.history) (kept (say.Fenced t)) c elses
      (entry_live w.key l the_request (say.Fenced t) w.history refl) (entry_closed l the_request (say.Fenced t) w.history refl) refl (λ o. absurd (false≢true (sym o)))
      (none_on w (entry l the_request (say.Fenced t)) c.inv (λ x. x)) (append-nil w.keeper.rows) (keeps_on w (entry l the_request (say.Fenced t)) c.inv) (inl refl)

  unit_answered : (r : Reply) (row_line : ℕ) → says_live w.key the_request r ≡ None → (IsRenumbered r → ⊥)
      → RowsOk w.units w.accepted (kept r).rows → length w.keeper.rows ≤ length (kept r).rows → i < length (kept r).rows
      → (0 < length (kept r).rows → LastRowOk (put w.lines l answered_line) w.takers (length (kept r).rows) row_line)
      → Stands (turned w l answered_line (entry l the_request r ∷ w.history) (kept r) w.takers row_line)
  unit_answered r row_line sl nr ro le lt last = turned_kept w l (Sending i f) q (Acceptance i f ∷ []) false (entry l the_request r ∷ w.history) (kept r) w.takers row_line c.inv c.may.opened c.may.first ro le
      (line_moved w.key w.units w.accepted (length w.keeper.rows) (length (kept r).rows) w.takers w.takers w.history (entry l the_request r ∷ w.history) l (w.lines l) (Sending i f) q (Acceptance i f ∷ []) false unit_ok c.may.first le
      (λ t. t) (lt, tt) (λ o. absurd o)
      (λ a. unit_took) (λ t. entry_live w.key l the_request r w.history sl l ∙ unit_live) (entry_closed l the_request r w.history refl l ∙ unit_ok.not_closed c.may.is_open)
      (λ o. let k : top (w.lines l).first (w.lines l).gone ≤ length w.keeper.rows = unit_ok.taken c.may.is_open c.may.going in omega arith)
      (inl (ap (λ (z : List ℕ). i ∷ z) (order_now (w.lines l) unit_ok.order c.may.is_open c.may.going) ∙ sym (ap accepted_in (onto_append (w.lines l).unread (Acceptance i f ∷ []) (w.lines l).read)))))
      (λ k n. entry_live w.key l the_request r w.history sl k) (λ k n. entry_closed l the_request r w.history refl k) (λ k n t. t) (λ k n t. t) (λ k j t. inl t)
      c.inv.takers.holder_last last
      (λ lo ch. Chain_push w.units lo (seen (w.lines l).formed (w.lines l).gone) (w.lines l).unread i f ch unit_follows.good unit_follows.later)
      (none_on w (entry l the_request r) c.inv nr) (keeps_on w (entry l the_request r) c.inv)

  unit_repeated : (n : ℕ) → i < length w.keeper.rows → Stands (after w (Answers l (Sending i f) q (Answered the_request (say.Repeat n) (Acceptance i f ∷ []))))
  unit_repeated n lt = unit_answered (say.Repeat n) w.row_line refl (λ x. x) (subst (λ rs. RowsOk w.units w.accepted rs) (sym rows) c.inv.rows) (omega (arith, len)) (omega (arith, len))
      (λ some. last_put w.lines w.takers (length (kept (say.Repeat n)).rows) w.row_line l answered_line (last some)
      (λ s. omega (arith, subst (λ r. length (kept (say.Repeat n)).rows ≤ top (w.lines r).first (w.lines r).gone) s (last some).there)))
    where
      rows : (kept (say.Repeat n)).rows ≡ w.keeper.rows
      rows = append-nil w.keeper.rows

      len : length (kept (say.Repeat n)).rows ≡ length w.keeper.rows
      len = ap (λ (rs : List Row). length rs) rows

      last : 0 < length (kept (say.Repeat n)).rows → LastRowOk w.lines w.takers (length (kept (say.Repeat n)).rows) w.row_line
      last some = subst (λ m. LastRowOk w.lines w.takers m w.row_line) (sym len) (c.inv.last_row (omega (arith, len)))

  unit_stored : i ≡ length w.keeper.rows → Stands (after w (Answers l (Sending i f) q (Answered the_request (say.Stored (number_at w.units i)) (Acceptance i f ∷ []))))
  unit_stored e = unit_answered (say.Stored (number_at w.units i)) l refl (λ x. x)
      (record { first_units = more; stored = omega (arith, len, unit_follows.good.before, unit_follows.good.known); accepted_stored = omega (arith, len, c.inv.rows.accepted_stored) })
      (omega (arith, len)) (omega (arith, len))
      (λ some. record { by = unit_took; there = subst (λ y. length (kept (say.Stored (number_at w.units i))).rows ≤ top y.first y.gone) (sym (put_same w.lines l answered_line)) (omega (arith, len)) })
    where
      rows : (kept (say.Stored (number_at w.units i))).rows ≡ w.keeper.rows ++ row_at w.units i ∷ []
      rows = ap (λ (b : Bool). w.keeper.rows ++ (if b then row_at w.units i ∷ [] else [])) (same_of (key_of phone) w.key own)

      len : length (kept (say.Stored (number_at w.units i))).rows ≡ suc (length w.keeper.rows)
      len = ap (λ (rs : List Row). length rs) rows ∙ (let k : length (w.keeper.rows ++ row_at w.units i ∷ []) ≡ length w.keeper.rows + 1 = length_push w.keeper.rows (row_at w.units i) in omega (arith, k))

      more : (kept (say.Stored (number_at w.units i))).rows ≡ take (length (kept (say.Stored (number_at w.units i))).rows) w.units
      more = rows ∙ (ap (λ (z : List Row). z ++ row_at w.units i ∷ []) c.inv.rows.first_units
          ∙ (ap (λ (n : ℕ). take (length w.keeper.rows) w.units ++ row_at w.units n ∷ []) e
          ∙ (sym (take_row (length w.keeper.rows) w.units (omega (arith, unit_follows.good.before, unit_follows.good.known)))
          ∙ ap (λ (n : ℕ). take n w.units) (sym len))))

  in_order : i ≤ length w.keeper.rows
  in_order = omega (arith, unit_follows.in_order, unit_ok.taken c.may.is_open c.may.going)

  -- the tables that the history left have the keeper's rows
  abbrev told_tables : Tables
  told_tables = record { registered = λ key. registration_after key ((alone w.key w.began).registered key) w.history; rows = λ key. rows_after key ((alone w.key w.began).rows key) w.history }

  told_rows : told_tables.rows w.key ≡ w.keeper.rows
  told_rows = ap (λ (b : Bool). rows_after w.key (if b then w.began.rows else []) w.history) (same_of w.key w.key refl) ∙ sym (ap (λ (s : Shelf). s.rows) c.inv.keeper)

  pub unit_kept : (r : Reply) (out : List Down) → makes_entry r ≡ true
      → GuardedReply w.key w.history l r (StoreReply w.setting.limit (Some told_tables) w.key (serial_of (number_at w.units i)) (row_at w.units i).id (row_at w.units i).body r)
      → IsWritten (Sending i f) r out → Stands (after w (Answers l (Sending i f) q (Answered the_request r out)))
  unit_kept r out makes (inl a) wr = absurd (false≢true (sym a.0 ∙ unit_live))
  unit_kept r out makes (inr (lv, inl a)) wr = let t : (t : ℕ) × (r ≡ say.Fenced t) = fenced_is l (holder w.key w.history) r a in
      subst (λ r. IsWritten (Sending i f) r out → Stands (after w (Answers l (Sending i f) q (Answered the_request r out)))) (sym t.1) (unit_fenced t.0 out) wr
  unit_kept r out makes (inr (lv, inr a)) wr =
      elim (store_is near w.units w.accepted w.keeper.rows i f c.inv.units c.inv.rows unit_follows.good in_order (λ lt. rows_seen w l i f q c unit_follows a.0 (omega arith)) told_tables w.key w.setting.limit r told_rows makes a.1) [
        | inl p ↦ subst (λ r. IsWritten (Sending i f) r out → Stands (after w (Answers l (Sending i f) q (Answered the_request r out)))) (sym p.1) (λ e. subst (λ z. Stands (after w (Answers l (Sending i f) q (Answered the_request (say.Stored (number_at w.units i)) z)))) (sym e) (unit_stored p.0)) wr
        | inr p ↦ subst (λ r. IsWritten (Sending i f) r out → Stands (after w (Answers l (Sending i f) q (Answered the_request r out)))) (sym p.1) (λ e. subst (λ z. Stands (after w (Answers l (Sending i f) q (Answered the_request (say.Repeat (number_at w.units i)) z)))) (sym e) (unit_repeated (number_at w.units i) p.0)) wr
      ]
