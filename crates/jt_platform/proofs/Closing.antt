-- A closed session is live for no phone.
use Rattle.std.proofs.Common.{◌≡◌, ℕ, List, [], ◌∷◌, None, Option, Bool, true, false, ◌==◌, ◌&&◌, ◌||◌, if◌then◌else◌, inl, inr, refl, sym, ap, subst, ◌∙◌}
use Rattle.std.proofs.lemmas.Bool.{eqb-true, false≢true}
use Rattle.jt_store.specs.Tables.{Tables}
use Rattle.jt_platform.specs.declared.request.Request.{Request}
use Rattle.jt_platform.specs.declared.request.Request.TheVariants as ask
use Rattle.jt_platform.specs.declared.request.Reply.{Reply}
use Rattle.jt_platform.specs.declared.request.Entry.{Entry}
use Rattle.jt_platform.specs.History.{live, closed, is_close, says_live, or_else, tables_after}
use Rattle.jt_platform.specs.Allowed.{Opening, AnyReply, Legal}

-- what a closed session asks changes nothing of whether it is live
says_none : (o : Opening) (now : Option Tables) (key : List ℕ) (h : List Entry) (session : ℕ) (q : Request) (r : Reply)
    → is_close q ≡ false → closed h session ≡ true → AnyReply o now h session q r → says_live key q r ≡ None
says_none o now key h session ask.Close r is shut allowed = absurd (false≢true (sym is))
says_none o now key h session (ask.Auth p code) r is shut (inl x) = subst (λ (r : Reply). says_live key (ask.Auth p code) r ≡ None) (sym x.1) refl
says_none o now key h session (ask.Deregister p) r is shut (inl x) = subst (λ (r : Reply). says_live key (ask.Deregister p) r ≡ None) (sym x.1) refl
says_none o now key h session (ask.Register p register) r is shut (inl x) = refl
says_none o now key h session (ask.Unit p serial id body) r is shut (inl x) = refl
says_none o now key h session (ask.Other p id) r is shut (inl x) = refl
says_none o now key h session (ask.Auth p code) r is shut (inr x) = absurd (false≢true (sym x.0 ∙ shut))
says_none o now key h session (ask.Deregister p) r is shut (inr x) = absurd (false≢true (sym x.0 ∙ shut))
says_none o now key h session (ask.Register p register) r is shut (inr x) = refl
says_none o now key h session (ask.Unit p serial id body) r is shut (inr x) = refl
says_none o now key h session (ask.Other p id) r is shut (inr x) = refl

by_close : (key : List ℕ) (q : Request) (r : Reply) (was : Bool) → is_close q ≡ true → or_else (says_live key q r) was ≡ false
by_close key ask.Close r was it = refl
by_close key (ask.Auth p code) r was it = absurd (false≢true it)
by_close key (ask.Deregister p) r was it = absurd (false≢true it)
by_close key (ask.Register p register) r was it = absurd (false≢true it)
by_close key (ask.Unit p serial id body) r was it = absurd (false≢true it)
by_close key (ask.Other p id) r was it = absurd (false≢true it)

-- an entry of a session, over whether the session was closed and live before
by_entry : (key : List ℕ) (e : Entry) (same close was_closed was : Bool) → is_close e.request ≡ close
    → (close ≡ false → was_closed ≡ true → same ≡ true → says_live key e.request e.reply ≡ None) → (was_closed ≡ true → was ≡ false)
    → ((same && close) || was_closed) ≡ true → (if same then or_else (says_live key e.request e.reply) was else was) ≡ false
by_entry key e false close was_closed was it says dead shut = dead shut
by_entry key e true true was_closed was it says dead shut = by_close key e.request e.reply was it
by_entry key e true false was_closed was it says dead shut = rw (says refl shut refl) (dead shut)

-- over a history whose replies are all allowed a closed session is not live
pub closed_is_dead : (o : Opening) (key : List ℕ) (h : List Entry) (session : ℕ) → Legal o h → closed h session ≡ true → live key h session ≡ false
closed_is_dead o key [] session legal shut = absurd (false≢true shut)
closed_is_dead o key (e ∷ older) session legal shut =
    by_entry key e (e.session == session) (is_close e.request) (closed older session) (live key older session) refl
    (λ going was same. says_none o (tables_after o.tables older) key older e.session e.request e.reply going (ap (λ s. closed older s) (eqb-true e.session session same) ∙ was) legal.0)
    (closed_is_dead o key older session legal.1) shut
