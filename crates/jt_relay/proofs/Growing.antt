-- What a relay leaves of its vault, whether or not the keeper tells.
use Rattle.std.proofs.Common.{◌≡◌, ℕ, List, [], ◌∷◌, ◌++◌, drop, Option, None, Some, Result, Ok, Err, IfErr, sym, ap, ◌∙◌, subst, append-nil, append_assoc}
use Rattle.std.specs.Prelude.{◌-◌}
use Rattle.jt_store.specs.Vaults.{Held}
use Rattle.jt_relay.specs.declared.relayed.RelayError.{RelayError}
use Rattle.jt_relay.specs.declared.relayed.RelayError.TheVariants as errors
use Rattle.jt_relay.specs.Relays.{Placed, Grows, TellsLimit, vault_with_fixes}
use Rattle.jt_relay.specs.Relaying.{NotesRow, IsKeeperError, IsVaultError}

-- ---- what is recorded grows

grown_from : (xs : List Placed) (held : Held) → (more : List (List ℕ)) × (vault_with_fixes xs (Some held) ≡ Some (record held { recorded = held.recorded ++ more }))
grown_from [] held = ([], ap (λ (r : List (List ℕ)). Some (record held { recorded = r })) (sym (append-nil held.recorded)))
grown_from (x ∷ xs) held =
    let rest = grown_from xs (record held { recorded = held.recorded ++ x.1 ∷ [] }) in
    (x.1 ∷ rest.0, rest.1 ∙ ap (λ (r : List (List ℕ)). Some (record held { recorded = r })) (append_assoc held.recorded (x.1 ∷ []) rest.0))

pub grown : (xs : List Placed) (old now : Option Held) → now ≡ vault_with_fixes xs old → Grows old now
grown xs None now is = tt
grown xs (Some held) now is = let g = grown_from xs held in (g.0, is ∙ g.1)

pub grows_row : (fixes : List Placed) (passed recorded limit : ℕ) (old now : Option Held) (r : Result ℕ RelayError)
    → NotesRow fixes passed recorded limit old now r → Grows old now
grows_row fixes passed recorded limit old now (Ok p) h = grown (drop (recorded - passed) fixes) old now h.1
grows_row fixes passed recorded limit old now (Err e) h = grown h.front old now h.now_is

pub grows_on : (old held now : Option Held) → Grows old held → Grows held now → Grows old now
grows_on None held now one other = tt
grows_on (Some h) held now one other =
    let next = subst (λ (o : Option Held). Grows o now) one.1 other in
    (one.0 ++ next.0, next.1 ∙ ap (λ (r : List (List ℕ)). Some (record h { recorded = r })) (append_assoc h.recorded one.0 next.0))

pub same_grows : (old now : Option Held) → now ≡ old → Grows old now
same_grows old now is = grown [] old now is

-- ---- what Full tells

pub limit_row : (fixes : List Placed) (passed recorded limit : ℕ) (old now : Option Held) (e : RelayError)
    → NotesRow fixes passed recorded limit old now (Err e) → TellsLimit limit now e
limit_row fixes passed recorded limit old now (errors.Full l) h = (h.stops.1, h.stops.2)
limit_row fixes passed recorded limit old now (errors.Long n) h = tt
limit_row fixes passed recorded limit old now (errors.Behind r f) h = tt
limit_row fixes passed recorded limit old now errors.Keeper h = tt
limit_row fixes passed recorded limit old now errors.Vault h = tt
limit_row fixes passed recorded limit old now errors.Memory h = tt

pub limit_keeper : (limit : ℕ) (now : Option Held) (e : RelayError) → IsKeeperError e → TellsLimit limit now e
limit_keeper limit now (errors.Full l) is = absurd is
limit_keeper limit now (errors.Long n) is = tt
limit_keeper limit now (errors.Behind r f) is = tt
limit_keeper limit now errors.Keeper is = tt
limit_keeper limit now errors.Vault is = tt
limit_keeper limit now errors.Memory is = tt

pub limit_vault : (limit : ℕ) (now : Option Held) (e : RelayError) → IsVaultError e → TellsLimit limit now e
limit_vault limit now (errors.Full l) is = absurd is
limit_vault limit now (errors.Long n) is = tt
limit_vault limit now (errors.Behind r f) is = tt
limit_vault limit now errors.Keeper is = tt
limit_vault limit now errors.Vault is = tt
limit_vault limit now errors.Memory is = tt

pub at_limit : {T : Type 0} (limit : ℕ) (now : Option Held) (r : Result T RelayError) (e : RelayError) → r ≡ Err e → TellsLimit limit now e → IfErr r (TellsLimit limit now)
at_limit {T = T} limit now r e is tells = subst (λ (q : Result T RelayError). IfErr q (TellsLimit limit now)) (sym is) tells
