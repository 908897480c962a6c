-- What one message more changes on its line and in the history.
use Rattle.std.proofs.Common.{ℕ, ◌<◌, ◌≤◌, ◌≡◌, ◌≢◌, List, ◌∷◌, ◌++◌, length, arith, refl, ap, sym, ◌∙◌, subst, Bool, true, false, if◌then◌else◌, inl, inr, Option, Some, None}
use Rattle.std.specs.Prelude.{◌⊎◌}
use Rattle.std.proofs.lemmas.Bool.{cases_eq, eq-eqb, ne_eqb}
use Rattle.std.proofs.lemmas.Slice.Eq.{bytes_eq-Decides}
use Rattle.jt_value.specs.Sameness.{same_key}
use Rattle.jt_store.specs.declared.row.Row.{Row}
use Rattle.jt_store.specs.Verdicts.{Shelf}
use Rattle.jt_platform.specs.declared.request.Request.{Request}
use Rattle.jt_platform.specs.declared.request.Reply.{Reply}
use Rattle.jt_platform.specs.declared.request.Entry.{Entry}
use Rattle.jt_platform.specs.History.{live, closed, holder, says_live, or_else, is_close}
use Rattle.jt_platform.specs.Laws.{shelf_of}
use Rattle.jt_delivery.specs.World.{Up, Authentication, OtherMessage, Sending, Down, Line, World, IsOpened, IsSentIn, HasAdmission, put}
use Rattle.jt_delivery.specs.Steps.{entry}
use Rattle.jt_delivery.specs.Record.{top, seen, end_top, line_top, Gone, Waiting, Below, Chain, Carries, Took, TookAfter, HolderIs, RowsOk, LineOk, LastRowOk, InUseOk, Stands, AnswersInOrder}
use Rattle.jt_delivery.specs.Claim.{NoneRenumbered}
use Rattle.jt_delivery.proofs.Lists.{all_below, put_elim, Below_append, Below_more, HasAdmission_append}
use Rattle.jt_delivery.proofs.Forming.{across_put}

-- ---- one more entry, for the session of the entry and for another one

pub same_of : (a b : List ℕ) → a ≡ b → same_key a b ≡ true
same_of a b e = (bytes_eq-Decides a b).1 e

pub live_same : (key : List ℕ) (l : ℕ) (q : Request) (r : Reply) (h : List Entry) → live key (entry l q r ∷ h) l ≡ or_else (says_live key q r) (live key h l)
live_same key l q r h = rw (eq-eqb l l refl) refl

pub live_other : (key : List ℕ) (l k : ℕ) (q : Request) (r : Reply) (h : List Entry) → k ≢ l → live key (entry l q r ∷ h) k ≡ live key h k
live_other key l k q r h n = rw (ne_eqb l k (λ e. n (sym e))) refl

pub closed_same : (l : ℕ) (q : Request) (r : Reply) (h : List Entry) → is_close q ≡ false → closed (entry l q r ∷ h) l ≡ closed h l
closed_same l q r h n = rw (eq-eqb l l refl) (rw n refl)

pub closed_other : (l k : ℕ) (q : Request) (r : Reply) (h : List Entry) → k ≢ l → closed (entry l q r ∷ h) k ≡ closed h k
closed_other l k q r h n = rw (ne_eqb l k (λ e. n (sym e))) refl

-- an entry that says nothing of who is live or closed
pub entry_live : (key : List ℕ) (l : ℕ) (q : Request) (r : Reply) (h : List Entry) → says_live key q r ≡ None → (k : ℕ) → live key (entry l q r ∷ h) k ≡ live key h k
entry_live key l q r h n k = elim (cases_eq k l) [ inl e ↦ rw e (live_same key l q r h ∙ ap (λ (o : Option Bool). or_else o (live key h l)) n) | inr d ↦ live_other key l k q r h d ]

pub entry_closed : (l : ℕ) (q : Request) (r : Reply) (h : List Entry) → is_close q ≡ false → (k : ℕ) → closed (entry l q r ∷ h) k ≡ closed h k
entry_closed l q r h n k = elim (cases_eq k l) [ inl e ↦ rw e (closed_same l q r h n) | inr d ↦ closed_other l k q r h d ]

-- who holds the phone after an entry took it last
pub taken_last : (o : Option ℕ) (l : ℕ) (takers : List ℕ) (b : Bool) → HolderIs o takers → HolderIs (if b then Some l else o) (if b then l ∷ takers else takers)
taken_last o l takers true h = refl
taken_last o l takers false h = h

-- ---- a message goes from what waits to what is gone

pub move_gone : (units : List Row) (first formed : ℕ) (g : List Up) (m : Up) (q : List Up) → Gone units first formed g → Waiting units first (top first g) (seen formed g) (m ∷ q)
    → Gone units first formed (m ∷ g) × Waiting units first (top first (m ∷ g)) (seen formed (m ∷ g)) q
move_gone units first formed g Authentication q a b = (a, b)
move_gone units first formed g OtherMessage q a b = (a, b)
move_gone units first formed g (Sending i f) q a b = ((b.0, a), b.1)

pub move_sent : (g : List Up) (m : Up) (q : List Up) (i : ℕ) → IsSentIn (m ∷ g) i ⊎ IsSentIn q i → IsSentIn g i ⊎ IsSentIn (m ∷ q) i
move_sent g Authentication q i h = h
move_sent g OtherMessage q i h = h
move_sent g (Sending k f) q i (inl (inl e)) = inr (inl e)
move_sent g (Sending k f) q i (inl (inr h)) = inl h
move_sent g (Sending k f) q i (inr h) = inr (inr h)

pub move_end : (first : ℕ) (g : List Up) (m : Up) (q : List Up) → end_top (top first (m ∷ g)) q ≡ end_top (top first g) (m ∷ q)
move_end first g Authentication q = refl
move_end first g OtherMessage q = refl
move_end first g (Sending i f) q = refl

pub move_top : (first : ℕ) (g : List Up) (m : Up) → top first g ≤ top first (m ∷ g)
move_top first g Authentication = omega arith
move_top first g OtherMessage = omega arith
move_top first g (Sending i f) = omega arith

pub move_seen : (units : List Row) (first formed : ℕ) (g : List Up) (m : Up) (q : List Up) → Waiting units first (top first g) (seen formed g) (m ∷ q) → seen formed g ≤ seen formed (m ∷ g)
move_seen units first formed g Authentication q w = omega arith
move_seen units first formed g OtherMessage q w = omega arith
move_seen units first formed g (Sending i f) q w = w.0.later

-- another line sees that the platform did something
pub line_other : (key : List ℕ) (units : List Row) (a j j2 : ℕ) (takers takers2 : List ℕ) (h h2 : List Entry) (k : ℕ) (x : Line) → LineOk key units a j takers h k x → j ≤ j2
    → (Took takers k → Took takers2 k) → (Took takers2 k → Took takers k) → live key h2 k ≡ live key h k → closed h2 k ≡ closed h k → LineOk key units a j2 takers2 h2 k x
line_other key units a j j2 takers takers2 h h2 k x o le t1 t2 lv cl = record {
  first_formed = o.first_formed;
  formed_units = o.formed_units;
  first_accepted = o.first_accepted;
  gone = o.gone;
  waiting = o.waiting;
  admitted = o.admitted;
  took = λ c. t1 (o.took c);
  live_took = λ p e. t1 (o.live_took p (sym lv ∙ e));
  took_live = λ p t. lv ∙ o.took_live p (t2 t);
  not_closed = λ p. cl ∙ o.not_closed p;
  taken = λ p e. omega (arith, o.taken p e);
  order = o.order;
  below = (Below_more j j2 x.read le o.below.0, Below_more j j2 x.unread le o.below.1);
}

-- the line behind one more message
abbrev pub past_line : Line → Up → List Up → List Down → Bool → Line
past_line x m q out over = record x { gone = m ∷ x.gone; waiting = q; unread = x.unread ++ out; ended = over }

pub line_moved : (key : List ℕ) (units : List Row) (a j j2 : ℕ) (takers takers2 : List ℕ) (h h2 : List Entry) (l : ℕ) (x : Line) (m : Up) (q : List Up) (out : List Down) (over : Bool)
    → LineOk key units a j takers h l x → x.waiting ≡ m ∷ q → j ≤ j2
    → (Took takers l → Took takers2 l) → Below j2 out → (HasAdmission out → Took takers2 l)
    → (live key h2 l ≡ true → Took takers2 l) → (Took takers2 l → live key h2 l ≡ true) → closed h2 l ≡ false
    → (over ≡ false → top x.first (m ∷ x.gone) ≤ j2)
    → AnswersInOrder (past_line x m q out over)
    → LineOk key units a j2 takers2 h2 l (past_line x m q out over)
line_moved key units a j j2 takers takers2 h h2 l x m q out over o e le t1 below oks lt tl nc tk ord = record {
  order = ord;
  first_formed = o.first_formed;
  formed_units = o.formed_units;
  first_accepted = o.first_accepted;
  gone = (move_gone units x.first x.formed x.gone m q o.gone waits).0;
  waiting = (move_gone units x.first x.formed x.gone m q o.gone waits).1;
  admitted = λ c. o.admitted (c.0, subst (λ z. IsSentIn x.gone c.0 ⊎ IsSentIn z c.0) (sym e) (move_sent x.gone m q c.0 c.1));
  took = λ c. tooks c;
  live_took = λ p. lt;
  took_live = λ p. tl;
  not_closed = λ p. nc;
  taken = λ p. tk;
  below = (Below_more j j2 x.read le o.below.0, Below_append j2 x.unread out (Below_more j j2 x.unread le o.below.1) below);
}
  where
    waits : Waiting units x.first (top x.first x.gone) (seen x.formed x.gone) (m ∷ q)
    waits = rw e at o.waiting

    tooks : HasAdmission x.read ⊎ HasAdmission (x.unread ++ out) → Took takers2 l
    tooks (inl a) = t1 (o.took (inl a))
    tooks (inr b) = elim (HasAdmission_append x.unread out b) [ inl c ↦ t1 (o.took (inr c)) | inr c ↦ oks c ]

-- the world in which a line, the history, the keeper and the record of the platform are put anew
abbrev pub turned : World → ℕ → Line → List Entry → Shelf → List ℕ → ℕ → World
turned w l x h keeper takers r = record w { history = h; keeper = keeper; takers = takers; row_line = r; lines = put w.lines l x; just = None }

-- The rule is kept where one line changes only so far as a message is gone and answers are written.
pub turned_kept : (w : World) (l : ℕ) (m : Up) (q : List Up) (out : List Down) (over : Bool) (h : List Entry) (keeper : Shelf) (takers : List ℕ) (r : ℕ)
    → Stands w → IsOpened w.count l → (w.lines l).waiting ≡ m ∷ q
    → RowsOk w.units w.accepted keeper.rows → length w.keeper.rows ≤ length keeper.rows
    → LineOk w.key w.units w.accepted (length keeper.rows) takers h l (past_line (w.lines l) m q out over)
    → ((k : ℕ) → k ≢ l → live w.key h k ≡ live w.key w.history k) → ((k : ℕ) → k ≢ l → closed h k ≡ closed w.history k)
    → ((k : ℕ) → k ≢ l → Took w.takers k → Took takers k) → ((k : ℕ) → k ≢ l → Took takers k → Took w.takers k)
    → ((k j : ℕ) → TookAfter takers k j → TookAfter w.takers k j ⊎ ((k ≡ l) × (Carries (w.lines l) → ⊥)))
    → HolderIs (holder w.key h) takers
    → (0 < length keeper.rows → LastRowOk (put w.lines l (past_line (w.lines l) m q out over)) takers (length keeper.rows) r)
    → ((lo : ℕ) → Chain w.units lo (seen (w.lines l).formed (w.lines l).gone) (w.lines l).unread → Chain w.units lo (seen (w.lines l).formed (m ∷ (w.lines l).gone)) ((w.lines l).unread ++ out))
    → NoneRenumbered h
    → keeper ≡ shelf_of w.key w.began h
    → Stands (turned w l (past_line (w.lines l) m q out over) h keeper takers r)
turned_kept w l m q out over h keeper takers r v lc e ro le ok lv cl t1 t2 later hold last chains none keeps = record {
  units = v.units;
  rows = ro;
  lines = λ k. put_elim (λ n y. IsOpened w.count n → LineOk w.key w.units w.accepted (length keeper.rows) takers h n y) w.lines l x (λ lt. ok) k
      (λ n lt. line_other w.key w.units w.accepted (length w.keeper.rows) (length keeper.rows) w.takers takers w.history h k (w.lines k) (v.lines k lt) le (t1 k n) (t2 k n) (lv k n) (cl k n));
  across = across_put w.count w.lines l x (λ k n nk nn. v.across k n) (λ k one kl lc. v.across k l one kl lc)
      (λ n one ln nc. subst (λ z. z ≤ (w.lines n).formed) (sym same_top) (v.across l n one ln nc));
  takers = record {
    opened = λ k t. elim (cases_eq k l) [ inl s ↦ rw s lc | inr n ↦ v.takers.opened k (t2 k n t) ];
    unopened = λ k ge. let n : k ≢ l = λ s. absurd (omega (arith, lc.1)) in (lv k n ∙ (v.takers.unopened k ge).0, cl k n ∙ (v.takers.unopened k ge).1);
    fence = λ k j t lt c. fenced k j (later k j t) lt (carried k c);
    holder_last = hold;
  };
  last_row = last;
  in_use = λ u. put_elim (λ n y. n ≡ w.count → InUseOk w.units w.accepted w.count y) w.lines l x
      (λ s. let i : InUseOk w.units w.accepted w.count (w.lines l) = rw s (v.in_use u) in record {
        some_line = i.some_line;
        accepted_sent = subst (λ z. w.accepted ≤ z) (sym same_top) i.accepted_sent;
        chain = chains w.accepted i.chain;
      })
      w.count (λ n s. v.in_use u) refl;
  told = all_below (length w.keeper.rows) (length keeper.rows) w.told le v.told;
  answers = none;
  keeper = keeps;
  fixes = v.fixes;
  just = tt;
}
  where
    x : Line
    x = past_line (w.lines l) m q out over

    same_top : end_top (top (w.lines l).first (m ∷ (w.lines l).gone)) q ≡ line_top (w.lines l)
    same_top = move_end (w.lines l).first (w.lines l).gone m q ∙ ap (end_top (top (w.lines l).first (w.lines l).gone)) (sym e)

    carried : (k : ℕ) → Carries (put w.lines l x k) → Carries (w.lines k)
    carried k = put_elim (λ n y. Carries y → Carries (w.lines n)) w.lines l x (λ c. (c.0, subst (λ z. IsSentIn (w.lines l).gone c.0 ⊎ IsSentIn z c.0) (sym e) (move_sent (w.lines l).gone m q c.0 c.1))) k (λ n c. c)

    fenced : (k j : ℕ) → TookAfter w.takers k j ⊎ ((k ≡ l) × (Carries (w.lines l) → ⊥)) → k < j → Carries (w.lines k) → ⊥
    fenced k j (inl t) lt c = v.takers.fence k j t lt c
    fenced k j (inr t) lt c = t.1 (subst (λ n. Carries (w.lines n)) t.0 c)
