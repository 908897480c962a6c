-- Laws of histories and of the holder's units.
use Rattle.std.proofs.Common.{◌≡◌, ◌≢◌, ◌⊎◌, inl, inr, ℕ, List, ◌∷◌, ◌==◌, ◌&&◌, not, if◌then◌else◌, length, Bool, true, false, Option, Some, None, IsSome, subst, refl, sym, ◌∙◌}
use Rattle.std.proofs.lemmas.Bool.{false≢true, eqb-true}
use Rattle.jt_value.specs.Sameness.{key_of}
use Rattle.jt_value.specs.Serials.{Verdict, New, Repeat, Anew, serial_of}
use Rattle.jt_value.specs.declared.phone.Phone.{Phone}
use Rattle.jt_store.specs.Tables.{Tables}
use Rattle.jt_store.specs.Verdicts.{IsVerdictOn, VerdictsNear}
use Rattle.jt_store.specs.declared.row.Row.{Row}
use Rattle.jt_platform.specs.declared.request.Request.TheVariants as ask
use Rattle.jt_platform.specs.declared.request.Reply.{Reply}
use Rattle.jt_platform.specs.declared.request.Reply.TheVariants as say
use Rattle.jt_platform.specs.declared.request.Entry.{Entry}
use Rattle.jt_platform.specs.History.{live, closed, holder, tables_after, is_accepted_auth, says_live, or_else}
use Rattle.jt_platform.specs.Allowed.{Opening, Allowed, StoreReply, FencedReply, GuardedReply, IsMore}
use Rattle.jt_platform.specs.Laws.{HistoriesTell, UnitsTell, Holds, IsStored}
use Rattle.jt_platform.proofs.Alone.{stays_alone}
use Rattle.jt_platform.proofs.Holding.{some_holder}

some : (o : Option ℕ) → (o ≡ None → ⊥) → IsSome o
some None not = absurd (not refl)
some (Some x) not = refl

stored : (limit : ℕ) (t : Tables) (key : List ℕ) (serial id : ℕ) (body : List ℕ) (reply : Reply) → length (t.rows key) ≢ limit → StoreReply limit (Some t) key serial id body reply → IsStored reply
stored limit t key serial id body (say.Stored n) free is = tt
stored limit t key serial id body (say.Repeat n) free is = tt
stored limit t key serial id body (say.Renumbered n) free is = tt
stored limit t key serial id body (say.ListFull l) free is = absurd (free is.1.0)
stored limit t key serial id body (say.Registered _) free is = elim is [ ]
stored limit t key serial id body (say.Denied _) free is = elim is [ ]
stored limit t key serial id body say.Accepted free is = elim is [ ]
stored limit t key serial id body say.NotLive free is = elim is [ ]
stored limit t key serial id body (say.Fenced _) free is = elim is [ ]
stored limit t key serial id body say.StoreFault free is = elim is [ ]
stored limit t key serial id body say.Memory free is = elim is [ ]

own : (session : ℕ) (held : Option ℕ) (reply : Reply) → held ≡ Some session → FencedReply session held reply → ⊥
own session None reply is fenced = fenced
own session (Some other) reply is fenced = fenced.0 cc

guarded : (key : List ℕ) (h : List Entry) (session : ℕ) (reply : Reply) (Otherwise : Type 0) → live key h session ≡ true → holder key h ≡ Some session → GuardedReply key h session reply Otherwise → Otherwise
guarded key h session reply Otherwise alive held (inl dead) = absurd (false≢true (sym dead.0 ∙ alive))
guarded key h session reply Otherwise alive held (inr (lives, inl fenced)) = absurd (own session (holder key h) reply held fenced)
guarded key h session reply Otherwise alive held (inr (lives, inr free)) = free.1

-- what is not said of a closed session
open_part : (b : Bool) (Closed Open : Type 0) → b ≡ false → ((b ≡ true) × Closed) ⊎ ((b ≡ false) × Open) → Open
open_part b Closed Open is (inl shut) = absurd (false≢true (sym is ∙ shut.0))
open_part b Closed Open is (inr kept) = kept.1

-- ---- who holds after one more entry

taken : (key : List ℕ) (e : Entry) (h : List Entry) (a l : Bool) → a ≡ true → l ≡ false → (if a && not l then Some e.session else holder key h) ≡ Some e.session
taken key e h a l is was = rw (is, was) refl

again : (key : List ℕ) (e : Entry) (h : List Entry) (a l : Bool) → l ≡ true → (if a && not l then Some e.session else holder key h) ≡ holder key h
again key e h true l was = rw (was) refl
again key e h false l was = refl

other : (key : List ℕ) (e : Entry) (h : List Entry) (a l : Bool) → a ≡ false → (if a && not l then Some e.session else holder key h) ≡ holder key h
other key e h a l is = rw (is) refl

apart : (key : List ℕ) (e : Entry) (h : List Entry) (session : ℕ) → e.session ≢ session → live key (e ∷ h) session ≡ live key h session
apart key e h session differ = by_test (e.session == session) refl
  where
    by_test : (b : Bool) → (e.session == session) ≡ b → (if b then or_else (says_live key e.request e.reply) (live key h session) else live key h session) ≡ live key h session
    by_test true is = absurd (differ (eqb-true e.session session is))
    by_test false is = refl

pub histories_tell : HistoriesTell
histories_tell = record {
  held = λ key h session alive. some (holder key h) (some_holder key h session alive);
  taken = λ key e h is was. taken key e h (is_accepted_auth key e.request e.reply) (live key h e.session) is was;
  again = λ key e h was. again key e h (is_accepted_auth key e.request e.reply) (live key h e.session) was;
  other = λ key e h is. other key e h (is_accepted_auth key e.request e.reply) (live key h e.session) is;
  apart = apart;
  alone = stays_alone;
}

-- ---- units

-- what a unit of the holder's live session is answered
pub unit_reply : (o : Opening) (h : List Entry) (session : ℕ) (phone : Phone) (t : Tables) (serial id : ℕ) (body : List ℕ) (reply : Reply) → Holds o h session phone t
    → Allowed o h session (ask.Unit phone serial id body) reply → StoreReply o.limit (Some t) (key_of phone) serial id body reply
unit_reply o h session phone t serial id body reply holds allowed =
    let Kind : Option Tables → Type 0 = λ now. StoreReply o.limit now (key_of phone) serial id body reply in
    subst Kind holds.tables
    (guarded (key_of phone) h session reply (Kind (tables_after o.tables h)) holds.live holds.holder
    (open_part (closed h session) (reply ≡ say.NotLive) (GuardedReply (key_of phone) h session reply (Kind (tables_after o.tables h))) holds.unclosed allowed))

module _ (limit : ℕ) (t : Tables) (key : List ℕ) (serial id : ℕ) (body : List ℕ) where
  abbrev rows : List Row
  rows = t.rows key

  -- a unit with one verdict alone, which is new
  new_reply : (n : ℕ) (reply : Reply) → length rows ≢ limit → ((v : Verdict) → IsVerdictOn rows serial id body v → v ≡ New n) → StoreReply limit (Some t) key serial id body reply → reply ≡ say.Stored n
  new_reply n (say.Stored m) free one is = cc (one (New m) is.0)
  new_reply n (say.Repeat m) free one is = absurd cc (one (Repeat m) is)
  new_reply n (say.Renumbered m) free one is = absurd cc (one (Anew m) is.0)
  new_reply n (say.ListFull l) free one is = absurd (free is.1.0)
  new_reply n (say.Registered _) free one is = elim is [ ]
  new_reply n (say.Denied _) free one is = elim is [ ]
  new_reply n say.Accepted free one is = elim is [ ]
  new_reply n say.NotLive free one is = elim is [ ]
  new_reply n (say.Fenced _) free one is = elim is [ ]
  new_reply n say.StoreFault free one is = elim is [ ]
  new_reply n say.Memory free one is = elim is [ ]

  -- one with one verdict alone, which is a repeat
  repeat_reply : (n : ℕ) (reply : Reply) → ((v : Verdict) → IsVerdictOn rows serial id body v → v ≡ Repeat n) → StoreReply limit (Some t) key serial id body reply → reply ≡ say.Repeat n
  repeat_reply n (say.Repeat m) one is = cc (one (Repeat m) is)
  repeat_reply n (say.Stored m) one is = absurd cc (one (New m) is.0)
  repeat_reply n (say.Renumbered m) one is = absurd cc (one (Anew m) is.0)
  repeat_reply n (say.ListFull l) one is = by_more is.1.1
    where
      by_more : IsMore rows serial id body → say.ListFull l ≡ say.Repeat n
      by_more (m, inl verdict) = absurd cc (one (New m) verdict)
      by_more (m, inr verdict) = absurd cc (one (Anew m) verdict)
  repeat_reply n (say.Registered _) one is = elim is [ ]
  repeat_reply n (say.Denied _) one is = elim is [ ]
  repeat_reply n say.Accepted one is = elim is [ ]
  repeat_reply n say.NotLive one is = elim is [ ]
  repeat_reply n (say.Fenced _) one is = elim is [ ]
  repeat_reply n say.StoreFault one is = elim is [ ]
  repeat_reply n say.Memory one is = elim is [ ]

pub units_tell : VerdictsNear → UnitsTell
units_tell near = record {
  stored = λ o h session phone t serial id body reply holds free allowed.
      stored o.limit t (key_of phone) serial id body reply free (unit_reply o h session phone t serial id body reply holds allowed);
  first = λ o h session phone t serial id body reply holds free empty allowed.
      new_reply o.limit t (key_of phone) serial id body serial reply free
      (λ v verdict. near.first serial id body v (subst (λ rows. IsVerdictOn rows serial id body v) empty verdict)) (unit_reply o h session phone t serial id body reply holds allowed);
  new = λ o h session phone t last n id body reply holds free last_is above within allowed.
      new_reply o.limit t (key_of phone) (serial_of n) id body n reply free
      (λ v verdict. near.new (t.rows (key_of phone)) last n id body v last_is above within verdict) (unit_reply o h session phone t (serial_of n) id body reply holds allowed);
  again = λ o h session phone t last n id body reply holds last_is below within row allowed.
      repeat_reply o.limit t (key_of phone) (serial_of n) id body n reply
      (λ v verdict. near.again (t.rows (key_of phone)) last n id body v last_is below within row verdict) (unit_reply o h session phone t (serial_of n) id body reply holds allowed);
}
