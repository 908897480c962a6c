-- What the platform does keeps the rule.
use Rattle.std.proofs.Common.{ℕ, ◌<◌, ◌≤◌, ◌≡◌, ◌≢◌, List, [], ◌∷◌, length, arith, refl, ap, sym, ◌∙◌, subst, Bool, true, false, ◌&&◌, if◌then◌else◌, inl, inr, Option, Some, None}
use Rattle.std.specs.Prelude.{◌⊎◌, not}
use Rattle.std.proofs.lemmas.Bool.{cases_eq, false≢true}
use Rattle.std.proofs.lemmas.List.{append-nil}
use Rattle.std.proofs.lemmas.List.Elements.{All-nil}
use Rattle.jt_value.specs.Sameness.{key_of, same_key}
use Rattle.jt_value.specs.Serials.{serial_of}
use Rattle.jt_value.specs.declared.phone.Phone.{Phone}
use Rattle.jt_register.specs.declared.register.Register.{Register}
use Rattle.jt_store.specs.declared.row.Row.{Row}
use Rattle.jt_store.specs.declared.row.Registered.{Registered}
use Rattle.jt_store.specs.Tables.{Tables}
use Rattle.jt_store.specs.Verdicts.{Shelf, VerdictsNear}
use Rattle.jt_platform.specs.declared.request.Fleet.{Fleet}
use Rattle.jt_platform.specs.declared.request.Request.TheVariants as ask
use Rattle.jt_platform.specs.declared.request.Reply.{Reply}
use Rattle.jt_platform.specs.declared.request.Reply.TheVariants as say
use Rattle.jt_platform.specs.declared.request.Entry.{Entry}
use Rattle.jt_platform.specs.Codes.{code_for}
use Rattle.jt_platform.specs.History.{live, closed, holder, or_else, takes, registration, tables_after}
use Rattle.jt_platform.specs.Allowed.{makes_entry, RegisterReply, AuthReply, StoreReply, GuardedReply}
use Rattle.jt_platform.specs.Laws.{shelf_of}
use Rattle.jt_delivery.specs.World.{Up, Authentication, OtherMessage, Sending, Down, Admission, Line, World, IsOpened, opening, row_at, number_at}
use Rattle.jt_delivery.specs.Steps.{closed_line, AreOthers, Outcome, Answered, Quiet, Stopped, Answers, Cuts, RestartsPlatform, MayTake, MayAnswer, IsWritten, is_fenced, entry, after}
use Rattle.jt_delivery.specs.Record.{top, seen, Carries, Took, TookAfter, HolderIs, RowsOk, LineOk, LastRowOk, InUseOk, Stands, units_in, accepted_in, AnswersInOrder}
use Rattle.jt_delivery.specs.Claim.{IsRenumbered}
use Rattle.jt_delivery.proofs.Lists.{put_elim, Chain_ok}
use Rattle.jt_delivery.proofs.Forming.{across_put, last_put, fence_put}
use Rattle.jt_delivery.proofs.Turning.{same_of, live_same, live_other, closed_same, closed_other, entry_live, entry_closed, taken_last, line_other, line_moved, past_line, turned, turned_kept}
use Rattle.jt_delivery.proofs.Storing.{Coming, onto_append, order_now, plain_kept, keeps_on, none_on, fenced_is, unit_kept}

-- ---- where nothing is asked

quiet_kept : (w : World) (l : ℕ) (m : Up) (q : List Up) (out : List Down) → Coming w l m q → top (w.lines l).first (m ∷ (w.lines l).gone) ≡ top (w.lines l).first (w.lines l).gone → units_in (m ∷ (w.lines l).gone) ≡ units_in (w.lines l).gone → AreOthers out
    → Stands (turned w l (past_line (w.lines l) m q out false) w.history w.keeper w.takers w.row_line)
quiet_kept w l m q out c tops counts elses = plain_kept w l m q out false w.history w.keeper c elses (λ k. refl) (λ k. refl) refl (λ o. rw tops ((c.inv.lines l c.may.opened).taken c.may.is_open c.may.going)) c.inv.answers refl c.inv.keeper (inr counts)

stopped_kept : (w : World) (l : ℕ) (m : Up) (q : List Up) → Coming w l m q → Stands (turned w l (past_line (w.lines l) m q [] true) w.history w.keeper w.takers w.row_line)
stopped_kept w l m q c = plain_kept w l m q [] true w.history w.keeper c tt (λ k. refl) (λ k. refl) refl (λ o. absurd (false≢true (sym o))) c.inv.answers refl c.inv.keeper (inl refl)

-- ---- a registration, or another message

register_not : (fleet : Fleet) (now : Option Tables) (key : List ℕ) (r : Registered) (code : List ℕ) (reply : Reply) → RegisterReply fleet now key r code reply → IsRenumbered reply → ⊥
register_not fleet now key r code (say.Renumbered n) h is = h
register_not fleet now key r code (say.Registered c) h is = is
register_not fleet now key r code (say.Denied n) h is = is
register_not fleet now key r code say.Accepted h is = is
register_not fleet now key r code (say.Stored n) h is = is
register_not fleet now key r code (say.Repeat n) h is = is
register_not fleet now key r code say.NotLive h is = is
register_not fleet now key r code (say.Fenced t) h is = is
register_not fleet now key r code (say.ListFull l) h is = is
register_not fleet now key r code say.StoreFault h is = is
register_not fleet now key r code say.Memory h is = is

guarded_not : (key : List ℕ) (h : List Entry) (l : ℕ) (r : Reply) → GuardedReply key h l r (r ≡ say.Accepted) → IsRenumbered r → ⊥
guarded_not key h l r (inl a) n = subst IsRenumbered a.1 n
guarded_not key h l r (inr (lv, inr a)) n = subst IsRenumbered a.1 n
guarded_not key h l r (inr (lv, inl a)) n = let f : (t : ℕ) × (r ≡ say.Fenced t) = fenced_is l (holder key h) r a in subst IsRenumbered f.1 n

register_kept : (w : World) (l : ℕ) (q : List Up) (phone : Phone) (register : Register) (r : Reply) → Coming w l OtherMessage q → (IsRenumbered r → ⊥) → (out : List Down) → AreOthers out → Stands (after w (Answers l OtherMessage q (Answered (ask.Register phone register) r out)))
register_kept w l q phone register r c n out elses = plain_kept w l OtherMessage q out (is_fenced r) (entry l (ask.Register phone register) r ∷ w.history) (shelf_of w.key w.keeper (entry l (ask.Register phone register) r ∷ [])) c elses
    (entry_live w.key l (ask.Register phone register) r w.history refl) (entry_closed l (ask.Register phone register) r w.history refl) refl (λ o. (c.inv.lines l c.may.opened).taken c.may.is_open c.may.going)
    (none_on w (entry l (ask.Register phone register) r) c.inv n) (append-nil w.keeper.rows) (keeps_on w (entry l (ask.Register phone register) r) c.inv) (inr refl)

other_kept : (w : World) (l : ℕ) (q : List Up) (phone : Phone) (id : ℕ) (r : Reply) → Coming w l OtherMessage q → (IsRenumbered r → ⊥) → (out : List Down) → AreOthers out → Stands (after w (Answers l OtherMessage q (Answered (ask.Other phone id) r out)))
other_kept w l q phone id r c n out elses = plain_kept w l OtherMessage q out (is_fenced r) (entry l (ask.Other phone id) r ∷ w.history) (shelf_of w.key w.keeper (entry l (ask.Other phone id) r ∷ [])) c elses
    (entry_live w.key l (ask.Other phone id) r w.history refl) (entry_closed l (ask.Other phone id) r w.history refl) refl (λ o. (c.inv.lines l c.may.opened).taken c.may.is_open c.may.going)
    (none_on w (entry l (ask.Other phone id) r) c.inv n) (append-nil w.keeper.rows) (keeps_on w (entry l (ask.Other phone id) r) c.inv) (inr refl)

-- ---- an authentication

denied_kept : (w : World) (l : ℕ) (phone : Phone) (code : List ℕ) (n : ℕ) (q : List Up) → Coming w l Authentication q → (out : List Down) → AreOthers out → Stands (after w (Answers l Authentication q (Answered (ask.Auth phone code) (say.Denied n) out)))
denied_kept w l phone code n q c out elses = plain_kept w l Authentication q out false (entry l (ask.Auth phone code) (say.Denied n) ∷ w.history) (shelf_of w.key w.keeper (entry l (ask.Auth phone code) (say.Denied n) ∷ [])) c elses
    (entry_live w.key l (ask.Auth phone code) (say.Denied n) w.history refl) (entry_closed l (ask.Auth phone code) (say.Denied n) w.history refl) refl (λ o. (c.inv.lines l c.may.opened).taken c.may.is_open c.may.going)
    (none_on w (entry l (ask.Auth phone code) (say.Denied n)) c.inv (λ x. x)) (append-nil w.keeper.rows) (keeps_on w (entry l (ask.Auth phone code) (say.Denied n)) c.inv) (inr refl)

not_live : (a l : Bool) → (a && not l) ≡ true → l ≡ false
not_live true true e = absurd (false≢true e)
not_live true false e = refl
not_live false l e = absurd (false≢true e)

was_live : (a l : Bool) → a ≡ true → (a && not l) ≡ false → l ≡ true
was_live true true own e = refl
was_live true false own e = absurd (false≢true (sym e))
was_live false l own e = absurd (false≢true own)

module _ (w : World) (l : ℕ) (q : List Up) (c : Coming w l Authentication q) (phone : Phone) (code : List ℕ) (own : key_of phone ≡ w.key) where
  abbrev the_entry : Entry
  the_entry = entry l (ask.Auth phone code) say.Accepted

  abbrev kept : Shelf
  kept = shelf_of w.key w.keeper (the_entry ∷ [])

  abbrev admitted_line : Line
  admitted_line = past_line (w.lines l) Authentication q (Admission ∷ []) false

  ok : LineOk w.key w.units w.accepted (length w.keeper.rows) w.takers w.history l (w.lines l)
  ok = c.inv.lines l c.may.opened

  accepted_live : live w.key (the_entry ∷ w.history) l ≡ true
  accepted_live = live_same w.key l (ask.Auth phone code) say.Accepted w.history ∙ ap (λ (b : Bool). or_else (if b then Some true else None) (live w.key w.history l)) (same_of (key_of phone) w.key own)

  rows : kept.rows ≡ w.keeper.rows
  rows = append-nil w.keeper.rows

  len : length kept.rows ≡ length w.keeper.rows
  len = ap (λ (rs : List Row). length rs) rows

  accepted_kept : (takers : List ℕ)
      → (Took w.takers l → Took takers l) → Took takers l
      → ((k : ℕ) → k ≢ l → Took w.takers k → Took takers k) → ((k : ℕ) → k ≢ l → Took takers k → Took w.takers k)
      → ((k j : ℕ) → TookAfter takers k j → TookAfter w.takers k j ⊎ ((k ≡ l) × (Carries (w.lines l) → ⊥)))
      → HolderIs (holder w.key (the_entry ∷ w.history)) takers
      → Stands (turned w l admitted_line (the_entry ∷ w.history) kept takers w.row_line)
  accepted_kept takers t0 took t1 t2 ta hd = turned_kept w l Authentication q (Admission ∷ []) false (the_entry ∷ w.history) kept takers w.row_line c.inv c.may.opened c.may.first
      (subst (λ rs. RowsOk w.units w.accepted rs) (sym rows) c.inv.rows) (omega (arith, len))
      (line_moved w.key w.units w.accepted (length w.keeper.rows) (length kept.rows) w.takers takers w.history (the_entry ∷ w.history) l (w.lines l) Authentication q (Admission ∷ []) false ok c.may.first (omega (arith, len))
      t0 tt (λ o. took) (λ a. took) (λ t. accepted_live) (closed_same l (ask.Auth phone code) say.Accepted w.history refl ∙ ok.not_closed c.may.is_open) (λ o. omega (arith, len, ok.taken c.may.is_open c.may.going))
      (inl (order_now (w.lines l) ok.order c.may.is_open c.may.going ∙ sym (ap accepted_in (onto_append (w.lines l).unread (Admission ∷ []) (w.lines l).read)))))
      (λ k n. live_other w.key l k (ask.Auth phone code) say.Accepted w.history n) (λ k n. closed_other l k (ask.Auth phone code) say.Accepted w.history n) t1 t2 ta
      hd
      (λ some. record {
        by = elim (cases_eq w.row_line l) [ inl s ↦ subst (λ n. Took takers n) (sym s) took | inr n ↦ t1 w.row_line n (c.inv.last_row (omega (arith, len))).by ];
        there = (last_put w.lines w.takers (length kept.rows) w.row_line l admitted_line (last some)
            (λ s. subst (λ r. length kept.rows ≤ top (w.lines r).first (w.lines r).gone) s (last some).there)).there;
      })
      (λ lo ch. Chain_ok w.units lo (seen (w.lines l).formed (w.lines l).gone) (w.lines l).unread ch)
      (none_on w the_entry c.inv (λ x. x)) (keeps_on w the_entry c.inv)
    where
      last : 0 < length kept.rows → LastRowOk w.lines w.takers (length kept.rows) w.row_line
      last some = subst (λ n. LastRowOk w.lines w.takers n w.row_line) (sym len) (c.inv.last_row (omega (arith, len)))

  holds : (b : Bool) → takes w.key the_entry w.history ≡ b → HolderIs (holder w.key (the_entry ∷ w.history)) (if b then l ∷ w.takers else w.takers)
  holds b e = subst (λ b. HolderIs (holder w.key (the_entry ∷ w.history)) (if b then l ∷ w.takers else w.takers)) e
      (taken_last (holder w.key w.history) l w.takers (takes w.key the_entry w.history) c.inv.takers.holder_last)

  auth_by : (b : Bool) → takes w.key the_entry w.history ≡ b → Stands (turned w l admitted_line (the_entry ∷ w.history) kept (if b then l ∷ w.takers else w.takers) w.row_line)
  auth_by false e = accepted_kept w.takers (λ t. t) (ok.live_took c.may.is_open (was_live (same_key (key_of phone) w.key) (live w.key w.history l) (same_of (key_of phone) w.key own) e)) (λ k n t. t) (λ k n t. t) (λ k j t. inl t) (holds false e)
  auth_by true e = accepted_kept (l ∷ w.takers) (λ t. inr t) (inl refl) (λ k n t. inr t) (λ k n t. others k n t) (λ k j t. afters k j t) (holds true e)
    where
      others : (k : ℕ) → k ≢ l → Took (l ∷ w.takers) k → Took w.takers k
      others k n (inl s) = absurd (n (sym s))
      others k n (inr t) = t

      bare : Carries (w.lines l) → ⊥
      bare x = false≢true (sym (not_live (same_key (key_of phone) w.key) (live w.key w.history l) e) ∙ ok.took_live c.may.is_open (ok.took (inl (ok.admitted x))))

      afters : (k j : ℕ) → TookAfter (l ∷ w.takers) k j → TookAfter w.takers k j ⊎ ((k ≡ l) × (Carries (w.lines l) → ⊥))
      afters k j (inl t) = inr (sym t.0, bare)
      afters k j (inr t) = inl t

  auth_kept : Stands (after w (Answers l Authentication q (Answered (ask.Auth phone code) say.Accepted (Admission ∷ []))))
  auth_kept = auth_by (takes w.key the_entry w.history) refl

  auth_replied : (now : Option Tables) (r : Reply) (out : List Down) → AuthReply w.setting.secret now phone code r → IsWritten Authentication r out → Stands (after w (Answers l Authentication q (Answered (ask.Auth phone code) r out)))
  auth_replied now say.Accepted out h wr = subst (λ z. Stands (after w (Answers l Authentication q (Answered (ask.Auth phone code) say.Accepted z)))) (sym wr) auth_kept
  auth_replied now (say.Denied n) out h wr = denied_kept w l phone code n q c out wr
  auth_replied now (say.Registered _) out h wr = absurd h
  auth_replied now (say.Stored _) out h wr = absurd h
  auth_replied now (say.Repeat _) out h wr = absurd h
  auth_replied now (say.Renumbered _) out h wr = absurd h
  auth_replied now say.NotLive out h wr = absurd h
  auth_replied now (say.Fenced _) out h wr = absurd h
  auth_replied now (say.ListFull _) out h wr = absurd h
  auth_replied now say.StoreFault out h wr = absurd h
  auth_replied now say.Memory out h wr = absurd h

-- ---- each message, each request

-- an open session is answered by the table
open_reply : (b : Bool) (Closed Open : Type 0) → b ≡ false → ((b ≡ true) × Closed) ⊎ ((b ≡ false) × Open) → Open
open_reply b Closed Open n (inl a) = absurd (false≢true (sym n ∙ a.0))
open_reply b Closed Open n (inr a) = a.1

module _ (near : VerdictsNear) (w : World) (l : ℕ) (q : List Up) where
  abbrev now : Option Tables
  now = tables_after (opening w).tables w.history

  opened : (m : Up) → Coming w l m q → closed w.history l ≡ false
  opened m c = (c.inv.lines l c.may.opened).not_closed c.may.is_open

  unit_asked : (i f : ℕ) (phone : Phone) (serial id : ℕ) (body : List ℕ) (r : Reply) (out : List Down) → Coming w l (Sending i f) q
      → key_of phone ≡ w.key → serial ≡ serial_of (number_at w.units i) → id ≡ (row_at w.units i).id → body ≡ (row_at w.units i).body
      → makes_entry r ≡ true → IsWritten (Sending i f) r out
      → GuardedReply (key_of phone) w.history l r (StoreReply w.setting.limit now (key_of phone) serial id body r)
      → Stands (after w (Answers l (Sending i f) q (Answered (ask.Unit phone serial id body) r out)))
  unit_asked i f phone serial id body r out c own is_serial is_id is_body makes wr =
      let G : ℕ → ℕ → List ℕ → Type 0 = λ s d b. GuardedReply (key_of phone) w.history l r (StoreReply w.setting.limit now (key_of phone) s d b r) → Stands (after w (Answers l (Sending i f) q (Answered (ask.Unit phone s d b) r out))) in
      subst (λ s. G s id body) (sym is_serial) (subst (λ d. G (serial_of (number_at w.units i)) d body) (sym is_id) (subst (λ b. G (serial_of (number_at w.units i)) (row_at w.units i).id b) (sym is_body)
      (λ g. unit_kept near w l i f q c phone own r out makes (subst (λ k. GuardedReply k w.history l r (StoreReply w.setting.limit now k (serial_of (number_at w.units i)) (row_at w.units i).id (row_at w.units i).body r)) own g) wr)))

  goes : (m : Up) (o : Outcome) → Coming w l m q → MayAnswer w l m o → Stands (after w (Answers l m q o))
  goes Authentication (Answered (ask.Auth phone code) r out) c a = auth_replied w l q c phone code a.0 now r out (open_reply (closed w.history l) (r ≡ say.NotLive) (AuthReply w.setting.secret now phone code r) (opened Authentication c) a.2) a.3
  goes Authentication (Answered (ask.Register phone register) r out) c a = absurd a.0
  goes Authentication (Answered (ask.Unit phone serial id body) r out) c a = absurd a.0
  goes Authentication (Answered (ask.Deregister phone) r out) c a = absurd a.0
  goes Authentication (Answered (ask.Other phone id) r out) c a = absurd a.0
  goes Authentication (Answered ask.Close r out) c a = absurd a.0
  goes OtherMessage (Answered (ask.Register phone register) r out) c a = register_kept w l q phone register r c
      (register_not w.setting.fleet now (key_of phone) (registration register) (code_for w.setting.secret phone) r
      (open_reply (closed w.history l) (r ≡ say.NotLive) (RegisterReply w.setting.fleet now (key_of phone) (registration register) (code_for w.setting.secret phone) r) (opened OtherMessage c) a.2)) out a.3
  goes OtherMessage (Answered (ask.Other phone id) r out) c a = other_kept w l q phone id r c
      (guarded_not (key_of phone) w.history l r (open_reply (closed w.history l) (r ≡ say.NotLive) (GuardedReply (key_of phone) w.history l r (r ≡ say.Accepted)) (opened OtherMessage c) a.2)) out a.3
  goes OtherMessage (Answered (ask.Auth phone code) r out) c a = absurd a.0
  goes OtherMessage (Answered (ask.Unit phone serial id body) r out) c a = absurd a.0
  goes OtherMessage (Answered (ask.Deregister phone) r out) c a = absurd a.0
  goes OtherMessage (Answered ask.Close r out) c a = absurd a.0
  goes (Sending i f) (Answered (ask.Unit phone serial id body) r out) c a = unit_asked i f phone serial id body r out c a.0.0 a.0.1 a.0.2 a.0.3 a.1 a.3
      (open_reply (closed w.history l) (r ≡ say.NotLive) (GuardedReply (key_of phone) w.history l r (StoreReply w.setting.limit now (key_of phone) serial id body r)) (opened (Sending i f) c) a.2)
  goes (Sending i f) (Answered (ask.Auth phone code) r out) c a = absurd a.0
  goes (Sending i f) (Answered (ask.Register phone register) r out) c a = absurd a.0
  goes (Sending i f) (Answered (ask.Deregister phone) r out) c a = absurd a.0
  goes (Sending i f) (Answered (ask.Other phone id) r out) c a = absurd a.0
  goes (Sending i f) (Answered ask.Close r out) c a = absurd a.0
  goes Authentication (Quiet ms) c a = quiet_kept w l Authentication q ms c refl refl a
  goes OtherMessage (Quiet ms) c a = quiet_kept w l OtherMessage q ms c refl refl a
  goes (Sending i f) (Quiet ms) c a = absurd a
  goes Authentication Stopped c a = stopped_kept w l Authentication q c
  goes OtherMessage Stopped c a = stopped_kept w l OtherMessage q c
  goes (Sending i f) Stopped c a = stopped_kept w l (Sending i f) q c

pub answer_kept : VerdictsNear → (w : World) (l : ℕ) (m : Up) (q : List Up) (o : Outcome) → Stands w → MayTake w l m q → MayAnswer w l m o → Stands (after w (Answers l m q o))
answer_kept near w l m q o v take may = goes near w l q m o (record { inv = v; may = take }) may

-- ---- the platform's end is closed

line_shut : (key : List ℕ) (units : List Row) (a j : ℕ) (takers : List ℕ) (h h2 : List Entry) (l : ℕ) (x : Line) → LineOk key units a j takers h l x → LineOk key units a j takers h2 l (closed_line x)
line_shut key units a j takers h h2 l x o = record {
  first_formed = o.first_formed;
  formed_units = o.formed_units;
  first_accepted = o.first_accepted;
  gone = o.gone;
  waiting = o.waiting;
  admitted = o.admitted;
  took = o.took;
  live_took = λ p. absurd (false≢true p);
  took_live = λ p. absurd (false≢true p);
  not_closed = λ p. absurd (false≢true p);
  taken = λ p. absurd (false≢true p);
  below = o.below;
  order = shut_order o.order;
}
  where
    shut_order : AnswersInOrder x → AnswersInOrder (closed_line x)
    shut_order (inl e) = inl e
    shut_order (inr b) = inr (b.0, b.1, λ p. absurd (false≢true p))

pub cut_kept : (w : World) (l : ℕ) → Stands w → IsOpened w.count l → Stands (after w (Cuts l))
cut_kept w l v m = record {
  units = v.units;
  rows = v.rows;
  lines = λ k. put_elim (λ n y. IsOpened w.count n → LineOk w.key w.units w.accepted (length w.keeper.rows) w.takers h n y) w.lines l (closed_line (w.lines l)) (λ lt. line_shut w.key w.units w.accepted (length w.keeper.rows) w.takers w.history h l (w.lines l) (v.lines l lt)) k
      (λ n lt. line_other w.key w.units w.accepted (length w.keeper.rows) (length w.keeper.rows) w.takers w.takers w.history h k (w.lines k) (v.lines k lt) (omega arith) (λ t. t) (λ t. t) (live_other w.key l k ask.Close say.Accepted w.history n) (closed_other l k ask.Close say.Accepted w.history n));
  across = across_put w.count w.lines l (closed_line (w.lines l)) (λ k n nk nn. v.across k n) (λ k one kl lc. v.across k l one kl lc) (λ n one ln nc. v.across l n one ln nc);
  takers = record {
    opened = v.takers.opened;
    unopened = λ k ge. let n : k ≢ l = λ s. absurd (omega (arith, m.1)) in (live_other w.key l k ask.Close say.Accepted w.history n ∙ (v.takers.unopened k ge).0, closed_other l k ask.Close say.Accepted w.history n ∙ (v.takers.unopened k ge).1);
    fence = fence_put w.lines w.takers l (closed_line (w.lines l)) v.takers.fence (λ k t lt c. v.takers.fence l k t lt c);
    holder_last = v.takers.holder_last;
  };
  last_row = λ some. last_put w.lines w.takers (length w.keeper.rows) w.row_line l (closed_line (w.lines l)) (v.last_row some) (λ s. subst (λ r. length w.keeper.rows ≤ top (w.lines r).first (w.lines r).gone) s (v.last_row some).there);
  in_use = λ u. put_elim (λ n y. n ≡ w.count → InUseOk w.units w.accepted w.count y) w.lines l (closed_line (w.lines l))
      (λ s. let i : InUseOk w.units w.accepted w.count (w.lines l) = rw s (v.in_use u) in record { some_line = i.some_line; accepted_sent = i.accepted_sent; chain = i.chain })
      w.count (λ n s. v.in_use u) refl;
  told = v.told;
  answers = none_on w (entry l ask.Close say.Accepted) v (λ x. x);
  keeper = v.keeper ∙ ap (λ (rs : List Row). record { registered = (shelf_of w.key w.began w.history).registered; rows = rs }) (sym (append-nil (shelf_of w.key w.began w.history).rows));
  fixes = v.fixes;
  just = tt;
}
  where
    h : List Entry
    h = entry l ask.Close say.Accepted ∷ w.history

-- ---- a new hub begins over what the keeper has

pub restart_kept : (w : World) → Stands w → Stands (after w RestartsPlatform)
restart_kept w v = record {
  units = v.units;
  rows = v.rows;
  lines = λ k lt. line_shut w.key w.units w.accepted (length w.keeper.rows) w.takers w.history [] k (w.lines k) (v.lines k lt);
  across = v.across;
  takers = record { opened = v.takers.opened; unopened = λ k ge. (refl, refl); fence = v.takers.fence; holder_last = tt };
  last_row = λ some. record { by = (v.last_row some).by; there = (v.last_row some).there };
  in_use = λ u. record { some_line = (v.in_use u).some_line; accepted_sent = (v.in_use u).accepted_sent; chain = (v.in_use u).chain };
  told = v.told;
  answers = All-nil (λ (e : Entry). IsRenumbered e.reply → ⊥);
  keeper = refl;
  fixes = v.fixes;
  just = tt;
}
