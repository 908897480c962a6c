-- What is stored where no row is repeated.
use Rattle.std.proofs.Common.{◌≡◌, inr, ◌<◌, length, ℕ, List, Option, Some, None, true, ap, subst, ◌∙◌}
use native.Mathlib.Omega.{arith}
use Rattle.jt_value.specs.Serials.{IsPlace, IsCandidate, GreatestUpTo, Anew}
use Rattle.jt_value.specs.declared.placing.Place.TheVariants as places
use Rattle.jt_store.specs.Tables.{Tables, WhereKnown, IsRow, last_of}
use Rattle.jt_store.specs.declared.row.Row.{Row}
use Rattle.jt_platform.specs.declared.request.Reply.{Reply}
use Rattle.jt_platform.specs.declared.request.Reply.TheVariants as say
use Rattle.jt_platform.specs.Allowed.{VerdictOn, IsMore}
use Rattle.jt_platform.specs.Calls.{StoreDone, UnitDone, IsThere}

same_number : (last serial m k : ℕ) → GreatestUpTo last serial m → GreatestUpTo last serial k → k ≡ m
same_number last serial m k a b =
    let up = a.greatest k b.within b.named in
    let down = b.greatest m a.within a.named in
    omega (arith, up, down)

none_there : (rows : List Row) (last serial id : ℕ) (body : List ℕ) (at : Option ℕ) → IsCandidate last serial at → IsThere rows at id body None
    → (m : ℕ) → GreatestUpTo last serial m → IsRow rows (record { number = m; id = id; body = body }) → ⊥
none_there rows last serial id body None nowhere there m greatest row = nowhere m greatest.within greatest.named
none_there rows last serial id body (Some k) candidate there m greatest row = there m (ap Some (same_number last serial m k greatest candidate)) row

pub verdict_anew : (rows : List Row) (last at : Option ℕ) (serial id anew : ℕ) (body : List ℕ) → last ≡ last_of rows → IsPlace last serial (places.Back at anew) → IsThere rows at id body None
    → VerdictOn rows serial id body (Anew anew)
verdict_anew rows None at serial id anew body is place there = elim place [ ]
verdict_anew rows (Some last) at serial id anew body is place there =
    rw (← is) (place.0, none_there rows last serial id body at place.1 there, place.2)

told_anew : (old : Option Tables) (key : List ℕ) (last at : Option ℕ) (serial id anew : ℕ) (body : List ℕ) → WhereKnown old (λ t. last ≡ last_of (t.rows key)) → WhereKnown old (λ t. IsThere (t.rows key) at id body None)
    → IsPlace last serial (places.Back at anew) → WhereKnown old (λ t. VerdictOn (t.rows key) serial id body (Anew anew))
told_anew None key last at serial id anew body is there place = tt
told_anew (Some t) key last at serial id anew body is there place = verdict_anew (t.rows key) last at serial id anew body is place there

both : (old : Option Tables) (P Q : Tables → Type 0) → WhereKnown old P → WhereKnown old Q → WhereKnown old (λ t. P t × Q t)
both None P Q p q = tt
both (Some t) P Q p q = (p, q)

more_there : (t : Tables) (key : List ℕ) (serial id anew : ℕ) (body : List ℕ) → VerdictOn (t.rows key) serial id body (Anew anew) → IsMore (t.rows key) serial id body
more_there t key serial id anew body verdict = (anew, inr verdict)

told_more : (old : Option Tables) (key : List ℕ) (serial id anew : ℕ) (body : List ℕ) → WhereKnown old (λ t. VerdictOn (t.rows key) serial id body (Anew anew)) → WhereKnown old (λ t. IsMore (t.rows key) serial id body)
told_more None key serial id anew body verdict = tt
told_more (Some t) key serial id anew body verdict = more_there t key serial id anew body verdict

by_reply : (old now : Option Tables) (limit : ℕ) (key : List ℕ) (serial id anew : ℕ) (body : List ℕ) (r : Reply) → WhereKnown old (λ t. VerdictOn (t.rows key) serial id body (Anew anew))
    → StoreDone old now limit key (record { number = anew; id = id; body = body }) true r → UnitDone old now limit key serial id body r
by_reply old now limit key serial id anew body (say.Renumbered n) verdict done =
    rw (done.0) (both old (λ t. VerdictOn (t.rows key) serial id body (Anew anew)) (λ t. length (t.rows key) < limit) verdict done.2, done.1)
by_reply old now limit key serial id anew body (say.ListFull l) verdict done =
    ((done.1, both old (λ t. length (t.rows key) ≡ limit) (λ t. IsMore (t.rows key) serial id body) done.2 (told_more old key serial id anew body verdict)), done.0)
by_reply old now limit key serial id anew body say.StoreFault verdict done = done
by_reply old now limit key serial id anew body say.Memory verdict done = done
by_reply old now limit key serial id anew body (say.Registered _) verdict done = elim done [ ]
by_reply old now limit key serial id anew body (say.Denied _) verdict done = elim done [ ]
by_reply old now limit key serial id anew body say.Accepted verdict done = elim done [ ]
by_reply old now limit key serial id anew body (say.Stored _) verdict done = elim done [ ]
by_reply old now limit key serial id anew body (say.Repeat _) verdict done = elim done [ ]
by_reply old now limit key serial id anew body say.NotLive verdict done = elim done [ ]
by_reply old now limit key serial id anew body (say.Fenced _) verdict done = elim done [ ]

-- a unit for which no row stands where it would be repeated is renumbered, or the list is full
pub anew_done : (old mid same now : Option Tables) (limit limit_there : ℕ) (key : List ℕ) (serial id anew : ℕ) (body lent copy : List ℕ) (last at found : Option ℕ) (r : Reply)
    → mid ≡ old → WhereKnown old (λ t. last ≡ last_of (t.rows key)) → same ≡ mid → WhereKnown mid (λ t. IsThere (t.rows key) at id lent found) → found ≡ None → lent ≡ body → limit_there ≡ limit → copy ≡ body
    → IsPlace last serial (places.Back at anew) → StoreDone same now limit_there key (record { number = anew; id = id; body = copy }) true r → UnitDone old now limit key serial id body r
anew_done old mid same now limit limit_there key serial id anew body lent copy last at found r kept is stays there none lends limits copied place done =
    by_reply old now limit key serial id anew body r
    (told_anew old key last at serial id anew body is
    (subst (λ o. WhereKnown o (λ t. IsThere (t.rows key) at id body None)) kept
    (subst (λ b. WhereKnown mid (λ t. IsThere (t.rows key) at id b None)) lends
    (subst (λ f. WhereKnown mid (λ t. IsThere (t.rows key) at id lent f)) none there))) place)
    (subst (λ o. StoreDone o now limit key (record { number = anew; id = id; body = body }) true r) (stays ∙ kept)
    (subst (λ n. StoreDone same now n key (record { number = anew; id = id; body = body }) true r) limits
    (subst (λ b. StoreDone same now limit_there key (record { number = anew; id = id; body = b }) true r) copied done)))
