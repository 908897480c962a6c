-- What the platform does keeps the rule.
use Rattle.std.proofs.Common.{ℕ, ◌+◌, ◌-◌, ◌≤◌, ◌≡◌, ◌≢◌, List, [], ◌∷◌, ◌++◌, length, take, arith, refl, ap, sym, ◌∙◌, subst, Bool, true, false, ◌&&◌, if◌then◌else◌, inl, inr, Option, Some, None}
use Rattle.std.specs.Prelude.{not, Contains}
use Rattle.std.proofs.lemmas.Bool.{false≢true}
use Rattle.std.proofs.lemmas.List.{length_push, take_more}
use Rattle.std.proofs.lemmas.List.Elements.{Contains-append_cases, Contains-append_left, Contains-append_right}
use Rattle.jt_value.specs.Sameness.{key_of, same_key}
use Rattle.jt_value.specs.declared.phone.Phone.{Phone}
use Rattle.jt_store.specs.Verdicts.{Shelf}
use Rattle.jt_platform.specs.declared.request.Request.{Request}
use Rattle.jt_platform.specs.declared.request.Request.TheVariants as ask
use Rattle.jt_platform.specs.declared.request.Reply.{Reply}
use Rattle.jt_platform.specs.declared.request.Reply.TheVariants as say
use Rattle.jt_platform.specs.declared.request.Entry.{Entry}
use Rattle.jt_platform.specs.History.{live, holder, or_else, says_live, is_accepted_auth, takes}
use Rattle.jt_platform.specs.Allowed.{Allowed, FencedReply, IsHolder, GuardedReply}
use Rattle.jt_platform.specs.Laws.{shelf_of}
use Rattle.jt_order.specs.declared.performed.Performed.{Performed}
use Rattle.jt_delivery.specs.Steps.{entry, is_fenced}
use Rattle.jt_delivery.proofs.Turning.{same_of, live_same, live_other, entry_live}
use Rattle.jt_obeying.specs.Orders.{results_in, result_at}
use Rattle.jt_obeying.specs.World.{Up, Answer, OtherMessage, Down, Line, OrderWorld, opening, put}
use Rattle.jt_obeying.specs.Steps.{Outcome, Answered, Quiet, Stopped, Telling, TellsResult, TellsNothing, BookFails, Takes, Cuts, RestartsPlatform, AtMostOneOther, MayTake, IsWritten, MayAnswer, MayTell, closed_line, after}
use Rattle.jt_obeying.specs.Record.{orders_among, answers_among, under_way, IsOne, Rise, AgreeWithLog, LineOk, Stands}
use Rattle.jt_obeying.proofs.Lists.{put_elim, length_results, is_empty, one_taken, orders_among_others}

-- ---- the rule where the platform did something on one line

line_other : (issued a b : ℕ) (log : List Performed) (key : List ℕ) (h h2 : List Entry) (k : ℕ) (x : Line) → LineOk issued a log key h k x → a ≤ b → live key h2 k ≡ live key h k
    → (holder key h2 ≡ Some k → (holder key h ≡ Some k) × (a ≡ b)) → LineOk issued b log key h2 k x
line_other issued a b log key h h2 k x o le lv hold = record {
  sent = λ i s. ((o.sent i s).0, omega (arith, (o.sent i s).1, le));
  way = o.way;
  agree = o.agree;
  lives = λ p e. o.lives p (sym lv ∙ e);
  one = λ p e. subst (λ n. IsOne n (under_way x)) (hold e).1 (o.one p (hold e).0);
}

abbrev turned : OrderWorld → ℕ → Line → List Entry → Shelf → List ℕ → OrderWorld
turned w l x h keeper results = record w { results = results; keeper = keeper; history = h; lines = put w.lines l x }

turned_kept : (w : OrderWorld) (l : ℕ) (x : Line) (h : List Entry) (keeper : Shelf) (results : List ℕ) → Stands w
    → length w.results ≤ length results → length results ≤ length w.log → results ≡ take (length results) (results_in w.log)
    → LineOk (length w.issued) (length results) w.log w.key h l x
    → ((k : ℕ) → k ≢ l → live w.key h k ≡ live w.key w.history k)
    → ((k : ℕ) → k ≢ l → holder w.key h ≡ Some k → (holder w.key w.history ≡ Some k) × (length w.results ≡ length results))
    → orders_among x.unread ≡ orders_among (w.lines l).unread
    → Stands (turned w l x h keeper results)
turned_kept w l x h keeper results v more le are ok lv hold same = record {
  answered_performed = le;
  one_more = omega (arith, v.one_more, more);
  performed_issued = v.performed_issued;
  orders = v.orders;
  performed = v.performed;
  results = are;
  by_tables = v.by_tables;
  tables = v.tables;
  lines = λ k. put_elim (λ n y. LineOk (length w.issued) (length results) w.log w.key h n y) w.lines l x ok k
      (λ n. line_other (length w.issued) (length w.results) (length results) w.log w.key w.history h k (w.lines k) (v.lines k) more (lv k n) (hold k n));
  in_use = λ u. put_elim (λ n y. n ≡ w.count → Rise (length w.log - 1) (orders_among y.unread)) w.lines l x
      (λ e. subst (λ z. Rise (length w.log - 1) z) (sym same) (subst (λ n. Rise (length w.log - 1) (orders_among (w.lines n).unread)) (sym e) (v.in_use u)))
      w.count (λ n e. v.in_use u) refl;
  none_refused = v.none_refused;
}

-- ---- a message is taken

-- the line behind one more message
abbrev past_line : Line → Up → List Up → List Down → Bool → Line
past_line x m q out over = record x { gone = m ∷ x.gone; waiting = q; unread = x.unread ++ out; ended = over }

taken_among : (m : Up) (q : List Up) (os : List ℕ) (i : ℕ) → Contains (os ++ answers_among q) i → Contains (os ++ answers_among (m ∷ q)) i
taken_among OtherMessage q os i h = h
taken_among (Answer k r) q os i h = elim (Contains-append_cases os (answers_among q) i h) [
  | inl a ↦ Contains-append_left os (k ∷ answers_among q) i a
  | inr b ↦ Contains-append_right os (k ∷ answers_among q) i (Contains-append_right (k ∷ []) (answers_among q) i b)
]

taken_one : (a : ℕ) (m : Up) (q : List Up) (os : List ℕ) → IsOne a (os ++ answers_among (m ∷ q)) → IsOne a (os ++ answers_among q)
taken_one a OtherMessage q os h = h
taken_one a (Answer k r) q os h = subst (λ z. IsOne a z) (sym (one_taken a k os (answers_among q) h).1) tt

taken_agree : (log : List Performed) (m : Up) (q : List Up) → AgreeWithLog log (m ∷ q) → AgreeWithLog log q
taken_agree log OtherMessage q h = h
taken_agree log (Answer k r) q h = h.2

-- the line behind a message, with what is asked of its session put in
past_ok : (issued a b : ℕ) (log : List Performed) (key : List ℕ) (h h2 : List Entry) (l : ℕ) (x : Line) (m : Up) (q : List Up) (out : List Down) (over : Bool)
    → LineOk issued a log key h l x → x.waiting ≡ m ∷ q → AtMostOneOther out → a ≤ b
    → (x.is_open ≡ true → live key h2 l ≡ false → x.sent ≡ [])
    → (x.is_open ≡ true → holder key h2 ≡ Some l → IsOne b (orders_among x.unread ++ answers_among q))
    → LineOk issued b log key h2 l (past_line x m q out over)
past_ok issued a b log key h h2 l x m q out over o e others le lives one = record {
  sent = λ i s. ((o.sent i s).0, omega (arith, (o.sent i s).1, le));
  way = λ i s. o.way i (subst (λ z. Contains (orders_among x.unread ++ answers_among z) i) (sym e) (taken_among m q (orders_among x.unread) i (subst (λ z. Contains (z ++ answers_among q) i) same s)));
  agree = taken_agree log m q (subst (λ z. AgreeWithLog log z) e o.agree);
  lives = lives;
  one = λ p c. subst (λ z. IsOne b (z ++ answers_among q)) (sym same) (one p c);
}
  where
    same : orders_among (x.unread ++ out) ≡ orders_among x.unread
    same = orders_among_others x.unread out others

-- by an entry, or none, that says nothing of who is live and who holds the phone
plain_kept : (w : OrderWorld) (l : ℕ) (m : Up) (q : List Up) (out : List Down) (over : Bool) (h : List Entry) (keeper : Shelf) → Stands w → MayTake w l m q → AtMostOneOther out
    → ((k : ℕ) → live w.key h k ≡ live w.key w.history k) → holder w.key h ≡ holder w.key w.history
    → Stands (turned w l (past_line (w.lines l) m q out over) h keeper w.results)
plain_kept w l m q out over h keeper v may others lv hold = turned_kept w l (past_line (w.lines l) m q out over) h keeper w.results v (omega arith) v.answered_performed v.results
    (past_ok (length w.issued) (length w.results) (length w.results) w.log w.key w.history h l (w.lines l) m q out over (v.lines l) may.first others (omega arith)
    (λ p e. (v.lines l).lives p (sym (lv l) ∙ e))
    (λ p e. taken_one (length w.results) m q (orders_among (w.lines l).unread) (subst (λ z. IsOne (length w.results) (orders_among (w.lines l).unread ++ answers_among z)) may.first ((v.lines l).one p (sym hold ∙ e)))))
    (λ k n. lv k) (λ k n e. (sym hold ∙ e, refl)) (orders_among_others (w.lines l).unread out others)

-- ---- an accepted authentication

holder_by : (key : List ℕ) (e : Entry) (h : List Entry) (b : Bool) → takes key e h ≡ b → holder key (e ∷ h) ≡ (if b then Some e.session else holder key h)
holder_by key e h b is = rw is refl

same_some : (a b : ℕ) → Some a ≡ Some b → a ≡ b
same_some a b e = cc

module _ (w : OrderWorld) (l : ℕ) (m : Up) (q : List Up) (out : List Down) (v : Stands w) (may : MayTake w l m q) (others : AtMostOneOther out) (phone : Phone) (code : List ℕ) (own : key_of phone ≡ w.key) (keeper : Shelf) where
  abbrev the_entry : Entry
  the_entry = entry l (ask.Auth phone code) say.Accepted

  abbrev x : Line
  x = w.lines l

  abbrev a : ℕ
  a = length w.results

  own_is : same_key (key_of phone) w.key ≡ true
  own_is = same_of (key_of phone) w.key own

  live_now : live w.key (the_entry ∷ w.history) l ≡ true
  live_now = live_same w.key l (ask.Auth phone code) say.Accepted w.history ∙ ap (λ (b : Bool). or_else (if b then Some true else None) (live w.key w.history l)) own_is

  holds_now : (b : Bool) → live w.key w.history l ≡ b → holder w.key (the_entry ∷ w.history) ≡ (if not b then Some l else holder w.key w.history)
  holds_now b e = holder_by w.key the_entry w.history (not b) (ap (λ (c : Bool). c && not (live w.key w.history l)) own_is ∙ ap (λ (c : Bool). not c) e)

  taken : (b : Bool) → live w.key w.history l ≡ b → x.is_open ≡ true → holder w.key (the_entry ∷ w.history) ≡ Some l → IsOne a (orders_among x.unread ++ answers_among q)
  taken true e p hold = taken_one a m q (orders_among x.unread) (subst (λ z. IsOne a (orders_among x.unread ++ answers_among z)) may.first ((v.lines l).one p (sym (holds_now true e) ∙ hold)))
  taken false e p hold = subst (λ z. IsOne a z) (sym nothing) tt
    where
      nothing_sent : (i : ℕ) → Contains (w.lines l).sent i → Contains [] i
      nothing_sent i s = subst (λ z. Contains z i) ((v.lines l).lives p e) s

      nothing : orders_among x.unread ++ answers_among q ≡ []
      nothing = is_empty (orders_among x.unread ++ answers_among q) (λ i s. absurd (omega (
        arith,
        (nothing_sent i
            ((v.lines l).way i (subst (λ z. Contains (orders_among x.unread ++ answers_among z) i) (sym may.first) (taken_among m q (orders_among x.unread) i s)))).1,
      )))

  others_hold : (b : Bool) → live w.key w.history l ≡ b → (k : ℕ) → k ≢ l → holder w.key (the_entry ∷ w.history) ≡ Some k → holder w.key w.history ≡ Some k
  others_hold true e k n hold = sym (holds_now true e) ∙ hold
  others_hold false e k n hold = absurd (n (sym (same_some l k (sym (holds_now false e) ∙ hold))))

  auth_kept : Stands (turned w l (past_line x m q out false) (the_entry ∷ w.history) keeper w.results)
  auth_kept = turned_kept w l (past_line x m q out false) (the_entry ∷ w.history) keeper w.results v (omega arith) v.answered_performed v.results
      (past_ok (length w.issued) a a w.log w.key w.history (the_entry ∷ w.history) l x m q out false (v.lines l) may.first others (omega arith)
      (λ p e. absurd (false≢true (sym e ∙ live_now))) (λ p e. taken (live w.key w.history l) refl p e))
      (λ k n. live_other w.key l k (ask.Auth phone code) say.Accepted w.history n) (λ k n e. (others_hold (live w.key w.history l) refl k n e, refl)) (orders_among_others x.unread out others)

-- ---- an answer of which the book is told

holder_is : (l : ℕ) (o : Option ℕ) → IsHolder l o → o ≡ Some l
holder_is l None h = absurd h
holder_is l (Some k) h = ap Some h

not_fenced : (l : ℕ) (o : Option ℕ) → FencedReply l o say.Accepted → ⊥
not_fenced l None h = h
not_fenced l (Some k) h = absurd cc h.1

guarded_holds : (key : List ℕ) (h : List Entry) (l : ℕ) → GuardedReply key h l say.Accepted (say.Accepted ≡ say.Accepted) → holder key h ≡ Some l
guarded_holds key h l (inl a) = absurd cc a.1
guarded_holds key h l (inr (lv, inl f)) = absurd (not_fenced l (holder key h) f)
guarded_holds key h l (inr (lv, inr a)) = holder_is l (holder key h) a.0

accepted_holds : (w : OrderWorld) (l : ℕ) (phone : Phone) (id : ℕ) → key_of phone ≡ w.key → Allowed (opening w) w.history l (ask.Other phone id) say.Accepted → holder w.key w.history ≡ Some l
accepted_holds w l phone id own (inl a) = absurd cc a.1
accepted_holds w l phone id own (inr a) = subst (λ k. holder k w.history ≡ Some l) own (guarded_holds (key_of phone) w.history l a.1)

module _ (w : OrderWorld) (l i r : ℕ) (q : List Up) (out : List Down) (v : Stands w) (may : MayTake w l (Answer i r) q) (others : AtMostOneOther out) (h : List Entry) (keeper : Shelf)
    (lv : (k : ℕ) → live w.key h k ≡ live w.key w.history k) (same : holder w.key h ≡ holder w.key w.history) (holds : holder w.key w.history ≡ Some l) where
  abbrev the_line : Line
  the_line = w.lines l

  abbrev so_far : ℕ
  so_far = length w.results

  only : (i ≡ so_far) × (orders_among the_line.unread ++ answers_among q ≡ [])
  only = one_taken so_far i (orders_among the_line.unread) (answers_among q) (subst (λ z. IsOne so_far (orders_among the_line.unread ++ answers_among z)) may.first ((v.lines l).one may.is_open holds))

  agree : AgreeWithLog w.log (Answer i r ∷ q)
  agree = subst (λ z. AgreeWithLog w.log z) may.first (v.lines l).agree

  len : length (w.results ++ r ∷ []) ≡ so_far + 1
  len = length_push w.results r

  with_result : w.results ++ r ∷ [] ≡ take (length (w.results ++ r ∷ [])) (results_in w.log)
  with_result = ap (λ (z : List ℕ). z ++ r ∷ []) v.results
      ∙ (ap (λ (n : ℕ). take so_far (results_in w.log) ++ n ∷ []) (agree.1 ∙ ap (λ (k : ℕ). result_at w.log k) only.0)
      ∙ (sym (take_more (results_in w.log) so_far 0 (omega (arith, agree.0, only.0, length_results w.log)))
      ∙ ap (λ (n : ℕ). take n (results_in w.log)) (sym len)))

  result_kept : Stands (turned w l (past_line the_line (Answer i r) q out false) h keeper (w.results ++ r ∷ []))
  result_kept = turned_kept w l (past_line the_line (Answer i r) q out false) h keeper (w.results ++ r ∷ []) v (omega (arith, len)) (omega (arith, len, agree.0, only.0)) with_result
      (past_ok (length w.issued) so_far (length (w.results ++ r ∷ [])) w.log w.key w.history h l the_line (Answer i r) q out false (v.lines l) may.first others (omega (arith, len))
      (λ p e. (v.lines l).lives p (sym (lv l) ∙ e)) (λ p e. subst (λ z. IsOne (length (w.results ++ r ∷ [])) z) (sym only.1) tt))
      (λ k n. lv k) (λ k n e. absurd (n (sym (same_some l k (sym holds ∙ (sym same ∙ e)))))) (orders_among_others the_line.unread out others)

-- ---- each message, each request

-- whatever a session writes itself is no order, and one message at most
answer_others : (i r : ℕ) (reply : Reply) (out : List Down) → IsWritten (Answer i r) reply out → AtMostOneOther out
answer_others i r say.Accepted out wr = subst AtMostOneOther (sym wr) tt
answer_others i r say.NotLive out wr = subst AtMostOneOther (sym wr) tt
answer_others i r (say.Registered c) out wr = wr
answer_others i r (say.Denied n) out wr = wr
answer_others i r (say.Stored n) out wr = wr
answer_others i r (say.Repeat n) out wr = wr
answer_others i r (say.Renumbered n) out wr = wr
answer_others i r (say.Fenced t) out wr = wr
answer_others i r (say.ListFull n) out wr = wr
answer_others i r say.StoreFault out wr = wr
answer_others i r say.Memory out wr = wr

module _ (w : OrderWorld) (l : ℕ) (q : List Up) (v : Stands w) where
  -- a request that says nothing of who is live
  asked : (m : Up) (request : Request) (reply : Reply) (out : List Down) → MayTake w l m q → AtMostOneOther out → says_live w.key request reply ≡ None → is_accepted_auth w.key request reply ≡ false
      → Stands (turned w l (past_line (w.lines l) m q out (is_fenced reply)) (entry l request reply ∷ w.history) (shelf_of w.key w.keeper (entry l request reply ∷ [])) w.results)
  asked m request reply out may others none never = plain_kept w l m q out (is_fenced reply) (entry l request reply ∷ w.history) (shelf_of w.key w.keeper (entry l request reply ∷ [])) v may others
      (entry_live w.key l request reply w.history none) (holder_by w.key (entry l request reply) w.history false (ap (λ (b : Bool). b && not (live w.key w.history l)) never))

  auth_asked : (phone : Phone) (code : List ℕ) (reply : Reply) (out : List Down) → MayTake w l OtherMessage q → AtMostOneOther out → key_of phone ≡ w.key
      → Stands (turned w l (past_line (w.lines l) OtherMessage q out (is_fenced reply)) (entry l (ask.Auth phone code) reply ∷ w.history) (shelf_of w.key w.keeper (entry l (ask.Auth phone code) reply ∷ [])) w.results)
  auth_asked phone code say.Accepted out may others own = auth_kept w l OtherMessage q out v may others phone code own (shelf_of w.key w.keeper (entry l (ask.Auth phone code) say.Accepted ∷ []))
  auth_asked phone code (say.Denied n) out may others own = asked OtherMessage (ask.Auth phone code) (say.Denied n) out may others refl refl
  auth_asked phone code (say.Registered c) out may others own = asked OtherMessage (ask.Auth phone code) (say.Registered c) out may others refl refl
  auth_asked phone code (say.Stored n) out may others own = asked OtherMessage (ask.Auth phone code) (say.Stored n) out may others refl refl
  auth_asked phone code (say.Repeat n) out may others own = asked OtherMessage (ask.Auth phone code) (say.Repeat n) out may others refl refl
  auth_asked phone code (say.Renumbered n) out may others own = asked OtherMessage (ask.Auth phone code) (say.Renumbered n) out may others refl refl
  auth_asked phone code say.NotLive out may others own = asked OtherMessage (ask.Auth phone code) say.NotLive out may others refl refl
  auth_asked phone code (say.Fenced t) out may others own = asked OtherMessage (ask.Auth phone code) (say.Fenced t) out may others refl refl
  auth_asked phone code (say.ListFull n) out may others own = asked OtherMessage (ask.Auth phone code) (say.ListFull n) out may others refl refl
  auth_asked phone code say.StoreFault out may others own = asked OtherMessage (ask.Auth phone code) say.StoreFault out may others refl refl
  auth_asked phone code say.Memory out may others own = asked OtherMessage (ask.Auth phone code) say.Memory out may others refl refl

  quiet : (m : Up) (out : List Down) (over : Bool) → MayTake w l m q → AtMostOneOther out → Stands (turned w l (past_line (w.lines l) m q out over) w.history w.keeper w.results)
  quiet m out over may others = plain_kept w l m q out over w.history w.keeper v may others (λ k. refl) refl

  answer_told : (i r : ℕ) (phone : Phone) (id : ℕ) (reply : Reply) (out : List Down) → MayTake w l (Answer i r) q → AtMostOneOther out → key_of phone ≡ w.key
      → Allowed (opening w) w.history l (ask.Other phone id) reply → reply ≡ say.Accepted → Stands (after w (Takes l (Answer i r) q (Answered (ask.Other phone id) reply out) TellsResult))
  answer_told i r phone id reply out may others own allowed is = subst (λ z. Stands (after w (Takes l (Answer i r) q (Answered (ask.Other phone id) z out) TellsResult))) (sym is)
      (result_kept w l i r q out v may others (entry l (ask.Other phone id) say.Accepted ∷ w.history) (shelf_of w.key w.keeper (entry l (ask.Other phone id) say.Accepted ∷ []))
      (entry_live w.key l (ask.Other phone id) say.Accepted w.history refl) refl
      (accepted_holds w l phone id own (subst (λ z. Allowed (opening w) w.history l (ask.Other phone id) z) is allowed)))

  goes : (m : Up) (o : Outcome) (telling : Telling) → MayTake w l m q → MayAnswer w l m o → MayTell w l m o telling → Stands (after w (Takes l m q o telling))
  goes OtherMessage (Answered (ask.Register phone register) r out) telling may a t = asked OtherMessage (ask.Register phone register) r out may a.3 refl refl
  goes OtherMessage (Answered (ask.Auth phone code) r out) telling may a t = auth_asked phone code r out may a.3 a.0
  goes OtherMessage (Answered (ask.Unit phone serial id body) r out) telling may a t = asked OtherMessage (ask.Unit phone serial id body) r out may a.3 refl refl
  goes OtherMessage (Answered (ask.Other phone id) r out) telling may a t = asked OtherMessage (ask.Other phone id) r out may a.3 refl refl
  goes OtherMessage (Answered (ask.Deregister phone) r out) telling may a t = absurd a.0
  goes OtherMessage (Answered ask.Close r out) telling may a t = absurd a.0
  goes OtherMessage (Quiet out) telling may a t = quiet OtherMessage out false may a
  goes OtherMessage Stopped telling may a t = quiet OtherMessage [] true may tt
  goes (Answer i r) (Answered (ask.Other phone id) reply out) TellsResult may a t = answer_told i r phone id reply out may (answer_others i r reply out a.3) a.0.0 a.2 t.0
  goes (Answer i r) (Answered (ask.Other phone id) reply out) TellsNothing may a t = asked (Answer i r) (ask.Other phone id) reply out may (answer_others i r reply out a.3) refl refl
  goes (Answer i r) (Answered (ask.Other phone id) reply out) BookFails may a t = asked (Answer i r) (ask.Other phone id) reply out may (answer_others i r reply out a.3) refl refl
  goes (Answer i r) (Answered (ask.Register phone register) reply out) telling may a t = absurd a.0
  goes (Answer i r) (Answered (ask.Auth phone code) reply out) telling may a t = absurd a.0
  goes (Answer i r) (Answered (ask.Unit phone serial id body) reply out) telling may a t = absurd a.0
  goes (Answer i r) (Answered (ask.Deregister phone) reply out) telling may a t = absurd a.0
  goes (Answer i r) (Answered ask.Close reply out) telling may a t = absurd a.0
  goes (Answer i r) (Quiet out) telling may a t = absurd a
  goes (Answer i r) Stopped TellsResult may a t = absurd t
  goes (Answer i r) Stopped TellsNothing may a t = quiet (Answer i r) [] true may tt
  goes (Answer i r) Stopped BookFails may a t = absurd t

pub take_kept : (w : OrderWorld) (l : ℕ) (m : Up) (q : List Up) (o : Outcome) (telling : Telling) → Stands w → MayTake w l m q → MayAnswer w l m o → MayTell w l m o telling
    → Stands (after w (Takes l m q o telling))
take_kept w l m q o telling v may a t = goes w l q v m o telling may a t

-- ---- the platform's end is closed; a new hub begins over what the keeper has

line_closed : (issued a : ℕ) (log : List Performed) (key : List ℕ) (h h2 : List Entry) (l : ℕ) (x : Line) → LineOk issued a log key h l x → LineOk issued a log key h2 l (closed_line x)
line_closed issued a log key h h2 l x o = record { sent = o.sent; way = o.way; agree = o.agree; lives = λ p. absurd (false≢true p); one = λ p. absurd (false≢true p) }

pub cut_kept : (w : OrderWorld) (l : ℕ) → Stands w → Stands (after w (Cuts l))
cut_kept w l v = turned_kept w l (closed_line (w.lines l)) (entry l ask.Close say.Accepted ∷ w.history) w.keeper w.results v (omega arith) v.answered_performed v.results
    (line_closed (length w.issued) (length w.results) w.log w.key w.history (entry l ask.Close say.Accepted ∷ w.history) l (w.lines l) (v.lines l))
    (λ k n. live_other w.key l k ask.Close say.Accepted w.history n) (λ k n e. (e, refl)) refl

pub restart_kept : (w : OrderWorld) → Stands w → Stands (after w RestartsPlatform)
restart_kept w v = record {
  answered_performed = v.answered_performed;
  one_more = v.one_more;
  performed_issued = v.performed_issued;
  orders = v.orders;
  performed = v.performed;
  results = v.results;
  by_tables = v.by_tables;
  tables = v.tables;
  lines = λ k. line_closed (length w.issued) (length w.results) w.log w.key w.history [] k (w.lines k) (v.lines k);
  in_use = v.in_use;
  none_refused = v.none_refused;
}
