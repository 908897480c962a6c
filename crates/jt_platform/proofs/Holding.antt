use Rattle.std.proofs.Common.{◌≡◌, ℕ, List, [], ◌∷◌, Some, None, Bool, true, false, ◌==◌, ◌&&◌, not, if◌then◌else◌, ◌⊎◌, inl, inr, refl}
use Rattle.std.proofs.lemmas.Bool.{false≢true}
use Rattle.jt_value.specs.Sameness.{key_of, same_key}
use Rattle.jt_platform.specs.declared.request.Request.{Request}
use Rattle.jt_platform.specs.declared.request.Request.TheVariants as ask
use Rattle.jt_platform.specs.declared.request.Reply.{Reply}
use Rattle.jt_platform.specs.declared.request.Reply.TheVariants as say
use Rattle.jt_platform.specs.declared.request.Entry.{Entry}
use Rattle.jt_platform.specs.History.{live, holder, says_live, or_else, is_accepted_auth}

-- an entry that leaves its session live is an accepted Auth, or it was live before
says_true : (p : List ℕ) (q : Request) (r : Reply) (b : Bool) → or_else (says_live p q r) b ≡ true → (is_accepted_auth p q r ≡ true) ⊎ (b ≡ true)
says_true p (ask.Auth q code) say.Accepted b =
    elim (same_key (key_of q) p) as (λ s. or_else (if s then Some true else None) b ≡ true → (s ≡ true) ⊎ (b ≡ true)) [ true ↦ λ h. inl refl | false ↦ λ h. inr h ]
says_true p (ask.Deregister q) say.Accepted b =
    elim (same_key (key_of q) p) as (λ s. or_else (if s then Some false else None) b ≡ true → (false ≡ true) ⊎ (b ≡ true)) [ true ↦ λ h. inl h | false ↦ λ h. inr h ]
says_true p (ask.Auth q code) r b = λ h. inr h
says_true p (ask.Deregister q) r b = λ h. inr h
says_true p (ask.Register q register) r b = λ h. inr h
says_true p (ask.Unit q serial id body) r b = λ h. inr h
says_true p (ask.Other q id) r b = λ h. inr h
says_true p ask.Close r b = λ h. absurd (false≢true h)

live_by : (p : List ℕ) (e : Entry) (older : List Entry) (l : ℕ) → live p (e ∷ older) l ≡ true → (is_accepted_auth p e.request e.reply ≡ true) ⊎ (live p older l ≡ true)
live_by p e older l =
    elim (e.session == l) as (λ s. (if s then or_else (says_live p e.request e.reply) (live p older l) else live p older l) ≡ true → (is_accepted_auth p e.request e.reply ≡ true) ⊎ (live p older l ≡ true)) [
      | true ↦ says_true p e.request e.reply (live p older l)
      | false ↦ λ h. inr h
    ]

-- where a session is live for a phone, some session holds it
pub some_holder : (p : List ℕ) (h : List Entry) (l : ℕ) → live p h l ≡ true → holder p h ≡ None → ⊥
some_holder p [] l alive = λ none. false≢true alive
some_holder p (e ∷ older) l alive =
    by_entry (is_accepted_auth p e.request e.reply) (live p older e.session) refl (live_by p e older l alive) (some_holder p older l) (some_holder p older e.session)
  where
    by_entry : (a m : Bool) → live p older e.session ≡ m → (a ≡ true) ⊎ (live p older l ≡ true)
        → (live p older l ≡ true → holder p older ≡ None → ⊥) → (live p older e.session ≡ true → holder p older ≡ None → ⊥)
        → (if a && not m then Some e.session else holder p older) ≡ None → ⊥
    by_entry true false is (inl taken) one other none = cc
    by_entry true false is (inr was) one other none = cc
    by_entry true true is (inl taken) one other none = other is none
    by_entry true true is (inr was) one other none = other is none
    by_entry false m is (inl taken) one other none = absurd (false≢true taken)
    by_entry false m is (inr was) one other none = one was none
