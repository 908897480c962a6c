-- The seven parts follow from the rule.
use Rattle.std.proofs.Common.{ℕ, ◌+◌, ◌-◌, ◌<◌, ◌≤◌, ◌≡◌, List, [], ◌∷◌, ◌++◌, length, arith, refl, ap, sym, ◌∙◌, subst, inl, inr, Bool, true, false, ◌==◌, ◌&&◌, if◌then◌else◌, Option, Some, None}
use Rattle.std.specs.Prelude.{◌⊎◌, not}
use Rattle.std.proofs.lemmas.Bool.{cases_eq, cases_lt, eqb-true, false≢true}
use Rattle.jt_value.specs.Sameness.{key_of, same_key}
use Rattle.jt_store.specs.declared.row.Row.{Row}
use Rattle.jt_store.specs.Verdicts.{VerdictsNear}
use Rattle.jt_platform.specs.declared.request.Request.{Request}
use Rattle.jt_platform.specs.declared.request.Request.TheVariants as ask
use Rattle.jt_platform.specs.declared.request.Reply.{Reply}
use Rattle.jt_platform.specs.declared.request.Reply.TheVariants as say
use Rattle.jt_platform.specs.declared.request.Entry.{Entry}
use Rattle.jt_platform.specs.History.{live, says_live, or_else, is_accepted_auth}
use Rattle.jt_delivery.specs.World.{World, Up, Authentication, OtherMessage, Sending, Down, Admission, Acceptance, OtherAnswer, Line, IsOpened, IsSentIn, HasAdmission, number_at}
use Rattle.jt_store.specs.Units.{past_accepted}
use Rattle.jt_delivery.specs.Record.{Stands, top, seen, SendOk, Follows, Gone, Waiting, Below, Chain, units_in, accepted_in, onto, AnswersInOrder}
use Rattle.jt_delivery.specs.Parts.{IsSending, TookIn, PartsFollow, EachReachedHasParts}
use Rattle.jt_delivery.proofs.Lists.{sent_top, top_seen}
use Rattle.jt_delivery.proofs.Forming.{past_near, number_up}
use Rattle.jt_delivery.proofs.Turning.{move_gone}
use Rattle.jt_delivery.proofs.Kept.{reached_stands}

-- ---- order and closeness

-- what waits is in the same order as what is gone
gone_onto : (units : List Row) (first formed : ℕ) (g q : List Up) → Gone units first formed g → Waiting units first (top first g) (seen formed g) q → Gone units first formed (onto q g)
gone_onto units first formed g [] a b = a
gone_onto units first formed g (m ∷ q) a b = let p : Gone units first formed (m ∷ g) × Waiting units first (top first (m ∷ g)) (seen formed (m ∷ g)) q = move_gone units first formed g m q a b in
    gone_onto units first formed (m ∷ g) q p.0 p.1

gone_older : (units : List Row) (first formed : ℕ) (newer older : List Up) → Gone units first formed (newer ++ older) → Gone units first formed older
gone_older units first formed [] older h = h
gone_older units first formed (Authentication ∷ newer) older h = gone_older units first formed newer older h
gone_older units first formed (OtherMessage ∷ newer) older h = gone_older units first formed newer older h
gone_older units first formed (Sending i f ∷ newer) older h = gone_older units first formed newer older h.1

-- all from the first place to the top was sent
sent_below : (units : List Row) (first formed : ℕ) (g : List Up) → Gone units first formed g → (k : ℕ) → first ≤ k → k < top first g → IsSentIn g k
sent_below units first formed [] h k ge lt = absurd (omega arith)
sent_below units first formed (Authentication ∷ g) h k ge lt = sent_below units first formed g h k ge lt
sent_below units first formed (OtherMessage ∷ g) h k ge lt = sent_below units first formed g h k ge lt
sent_below units first formed (Sending i f ∷ g) h k ge lt = go (cases_lt k (top first g)) (sent_below units first formed g h.1 k ge)
  where
    go : (k < top first g) ⊎ (top first g ≤ k) → (k < top first g → IsSentIn g k) → (i ≡ k) ⊎ IsSentIn g k
    go (inl l) rec = inr (rec l)
    go (inr g) rec = inl (omega (arith, h.0.in_order))

-- what a sending on a line follows
module _ (w : World) (v : Stands w) (l : ℕ) (lt : IsOpened w.count l) (older : List Up) (i f : ℕ) (s : IsSending (w.lines l) older i f) where
  sending : Follows w.units (w.lines l).first (top (w.lines l).first older) (seen (w.lines l).formed older) i f × Gone w.units (w.lines l).first (w.lines l).formed older
  sending = gone_older w.units (w.lines l).first (w.lines l).formed s.0 (Sending i f ∷ older) (subst (λ z. Gone w.units (w.lines l).first (w.lines l).formed z) s.1 (gone_onto w.units (w.lines l).first (w.lines l).formed (w.lines l).gone (w.lines l).waiting (v.lines l lt).gone (v.lines l lt).waiting))

  sending_order : (k : ℕ) → (w.lines l).first ≤ k → k < i → IsSentIn older k
  sending_order k ge lk = sent_below w.units (w.lines l).first (w.lines l).formed older sending.1 k ge (omega (arith, sending.0.in_order))

  sending_near : (k : ℕ) → k < f → number_at w.units k ≤ number_at w.units i + 32765
  sending_near k lk = elim (cases_eq k (f - 1)) [ inl e ↦ rw e sending.0.good.near | inr n ↦ omega (arith, sending.0.good.near, v.units.rise k (f - 1) (omega arith) (omega (arith, sending.0.good.known, sending.0.good.before))) ]

  sending_later : (k : ℕ) → f ≤ k → IsSentIn older k → ⊥
  sending_later k ge h = absurd (omega (arith, sent_top (w.lines l).first older k h, top_seen w.units (w.lines l).first (w.lines l).formed older (v.lines l lt).first_formed sending.1, sending.0.later))

-- ---- the fence: where a session is live, an entry of it took the phone

said_true : (b : Bool) → (if b then Some true else None) ≡ Some true → b ≡ true
said_true true e = refl
said_true false e = absurd cc

said_false : (b : Bool) → (if b then Some false else None) ≡ Some true → ⊥
said_false true e = cc
said_false false e = cc

accepted_says : (key : List ℕ) (q : Request) (r : Reply) → says_live key q r ≡ Some true → is_accepted_auth key q r ≡ true
accepted_says key (ask.Auth phone code) say.Accepted e = said_true (same_key (key_of phone) key) e
accepted_says key (ask.Deregister phone) say.Accepted e = absurd (said_false (same_key (key_of phone) key) e)
accepted_says key q r e = absurd cc

both_true : (a l : Bool) → a ≡ true → l ≡ false → (a && not l) ≡ true
both_true true false is was = refl
both_true true true is was = absurd (false≢true (sym was))
both_true false l is was = absurd (false≢true is)

module _ (key : List ℕ) (e : Entry) (older : List Entry) (l : ℕ) (rec : live key older l ≡ true → TookIn key older l) where
  by_life : e.session ≡ l → says_live key e.request e.reply ≡ Some true → (b : Bool) → live key older l ≡ b → TookIn key (e ∷ older) l
  by_life same s true k = inr (rec k)
  by_life same s false k = inl (same, both_true (is_accepted_auth key e.request e.reply) (live key older e.session) (accepted_says key e.request e.reply s) (ap (live key older) same ∙ k))

  by_word : e.session ≡ l → (o : Option Bool) → says_live key e.request e.reply ≡ o → or_else o (live key older l) ≡ true → TookIn key (e ∷ older) l
  by_word same None s is = inr (rec is)
  by_word same (Some false) s is = absurd (false≢true is)
  by_word same (Some true) s is = by_life same s (live key older l) refl

  by_session : (b : Bool) → (e.session == l) ≡ b → (if b then or_else (says_live key e.request e.reply) (live key older l) else live key older l) ≡ true → TookIn key (e ∷ older) l
  by_session false n is = inr (rec is)
  by_session true n is = by_word (eqb-true e.session l n) (says_live key e.request e.reply) refl is

took_in : (key : List ℕ) (h : List Entry) (l : ℕ) → live key h l ≡ true → TookIn key h l
took_in key [] l is = absurd (false≢true is)
took_in key (e ∷ older) l is = by_session key e older l (took_in key older l) (e.session == l) refl is

fence_took : (w : World) → Stands w → (l : ℕ) → IsOpened w.count l → HasAdmission (w.lines l).read ⊎ HasAdmission (w.lines l).unread → (b : Bool) → (w.lines l).is_open ≡ b
    → (TookIn w.key w.history l × (live w.key w.history l ≡ true)) ⊎ ((w.lines l).is_open ≡ false)
fence_took w v l lt has false e = inr e
fence_took w v l lt has true e = let lives : live w.key w.history l ≡ true = (v.lines l lt).took_live e ((v.lines l lt).took has) in inl (took_in w.key w.history l lives, lives)

-- ---- acceptances and their window

below_onto : (j : ℕ) (q g : List Down) → Below j q → Below j g → Below j (onto q g)
below_onto j [] g a b = b
below_onto j (Admission ∷ q) g a b = below_onto j q (Admission ∷ g) a b
below_onto j (OtherAnswer ∷ q) g a b = below_onto j q (OtherAnswer ∷ g) a b
below_onto j (Acceptance i f ∷ q) g a b = below_onto j q (Acceptance i f ∷ g) a.1 (a.0, b)

below_at : (j : ℕ) (newer older : List Down) (i f : ℕ) → Below j (newer ++ Acceptance i f ∷ older) → i < j
below_at j [] older i f h = h.0
below_at j (Admission ∷ newer) older i f h = below_at j newer older i f h
below_at j (OtherAnswer ∷ newer) older i f h = below_at j newer older i f h
below_at j (Acceptance k g ∷ newer) older i f h = below_at j newer older i f h.1

chain_at : (units : List Row) (lo hi : ℕ) (before behind : List Down) (i f : ℕ) → Chain units lo hi (before ++ Acceptance i f ∷ behind) → SendOk units i f × (lo ≤ f)
chain_at units lo hi [] behind i f h = (h.0, h.1)
chain_at units lo hi (Admission ∷ before) behind i f h = chain_at units lo hi before behind i f h
chain_at units lo hi (OtherAnswer ∷ before) behind i f h = chain_at units lo hi before behind i f h
chain_at units lo hi (Acceptance k g ∷ before) behind i f h = let p : SendOk units i f × (g ≤ f) = chain_at units g hi before behind i f h.2 in (p.0, omega (arith, h.1, p.1))

in_order_prefix : (x : Line) → AnswersInOrder x → (rest : List ℕ) × (rest ++ accepted_in (onto x.unread x.read) ≡ units_in x.gone)
in_order_prefix x (inl e) = ([], sym e)
in_order_prefix x (inr b) = (b.0 ∷ [], sym b.1)

pub parts_follow : PartsFollow
parts_follow w v = record {
  counts = record { accepted = v.rows.accepted_stored; stored = v.rows.stored; first_units = v.rows.first_units };
  numbers = record { near_before = v.units.near_before; near_mark = λ i ge lt. omega (arith, v.units.near_mark i ge lt); first = v.units.near_first };
  order = λ l lt older i f s. sending_order w v l lt older i f s;
  closeness = record { near = λ l lt older i f s. sending_near w v l lt older i f s; later = λ l lt older i f s. sending_later w v l lt older i f s };
  fence = record {
    admitted = λ l lt. (v.lines l lt).admitted;
    took = λ l lt has. fence_took w v l lt has (w.lines l).is_open refl;
    fence = v.takers.fence;
  };
  acceptances = record {
    stored = λ l lt older newer i f e. below_at (length w.keeper.rows) newer older i f (subst (λ z. Below (length w.keeper.rows) z) e (below_onto (length w.keeper.rows) (w.lines l).unread (w.lines l).read (v.lines l lt).below.1 (v.lines l lt).below.0));
    in_order = λ l lt. in_order_prefix (w.lines l) (v.lines l lt).order;
  };
  window = record {
    above = λ u before behind i f e. let p : SendOk w.units i f × (w.accepted ≤ f) = chain_at w.units w.accepted (seen (w.lines w.count).formed (w.lines w.count).gone) before behind i f (rw e at (v.in_use u).chain) in
        past_near w.units w.accepted i f v.units p.1 p.0;
    below = λ u before behind i f e. let p : SendOk w.units i f × (w.accepted ≤ f) = chain_at w.units w.accepted (seen (w.lines w.count).formed (w.lines w.count).gone) before behind i f (rw e at (v.in_use u).chain) in
        let n : number_at w.units i + 1 ≤ past_accepted w.units w.accepted + 32766 = number_up w.units w.accepted i v.units (omega (arith, v.rows.accepted_stored, v.rows.stored)) (omega (arith, p.0.before, p.0.known)) in omega (arith, n);
  };
}

pub reached_parts : VerdictsNear → EachReachedHasParts
reached_parts near w r = parts_follow w (reached_stands near w r)
