use Rattle.std.proofs.Common.{◌≡◌, ◌≢◌, ℕ, List, [], ◌∷◌, ◌++◌, map, Bool, true, false, if◌then◌else◌, subst, refl, sym, ap}
use Rattle.std.proofs.lemmas.List.{append-nil, map-append}
use Rattle.jt_turn.specs.Histories.{entry_if}
use Rattle.jt_value.specs.Counts.{Rose}
use Rattle.jt_platform.specs.declared.request.Request.{Request}
use Rattle.jt_platform.specs.declared.request.Request.TheVariants as ask
use Rattle.jt_platform.specs.declared.request.Reply.{Reply}
use Rattle.jt_platform.specs.declared.request.Reply.TheVariants as say
use Rattle.jt_platform.specs.declared.request.Entry.{Entry}
use Rattle.jt_platform.specs.History.{newest}
use Rattle.jt_platform.specs.Allowed.{Opening, Allowed, is_trouble, makes_entry}
use Rattle.jt_platform.specs.Hub.{IsOwed, history_by}
use Rattle.jt_platform.specs.Desks.{as_ask, as_entry, Gives}

-- there and back
back : (h : List Entry) → map as_entry (map as_ask h) ≡ h
back [] = refl
back (e ∷ h) = ap (λ t. e ∷ t) (back h)

pub gives_from : (o : Opening) (reserved : ℕ) (h : List Entry) (before now session : ℕ) (q : Request) (r : Reply)
    → (is_trouble r ≡ false → Allowed o (newest h) session q r) → (q ≡ ask.Close → IsOwed h reserved session → r ≡ say.Accepted) → (r ≡ say.StoreFault → Rose before now) → (r ≢ say.StoreFault → now ≡ before)
    → Gives o reserved (map as_ask h) before now session q r
gives_from o reserved h before now session q r allowed close fault still =
    record {
      allowed = λ calm. subst (λ x. Allowed o (newest x) session q r) (sym (back h)) (allowed calm);
      close = λ is owed. close is (subst (λ x. IsOwed x reserved session) (back h) owed);
      fault = fault;
      still = still;
    }

-- one entry more, or none
pub asked_by : (h : List Entry) (session : ℕ) (q : Request) (r : Reply) → map as_ask (history_by session q r h) ≡ map as_ask h ++ entry_if (makes_entry r) session q r
asked_by h session q r = by_entry (makes_entry r)
  where
    by_entry : (b : Bool) → map as_ask (if b then h ++ record { session = session; request = q; reply = r } ∷ [] else h) ≡ map as_ask h ++ entry_if b session q r
    by_entry true = map-append as_ask h (record { session = session; request = q; reply = r } ∷ [])
    by_entry false = sym (append-nil (map as_ask h))
