-- Why a run of `relay` ends with a store's fault.
use Rattle.std.proofs.Common.{◌≡◌, ◌⊎◌, ℕ, Option, Result, Ok, Err, IfErr, IsErrOf, ap, inl, inr, refl}
use Rattle.jt_value.specs.Counts.{Rose}
use Rattle.jt_input.specs.Answer.{CutsShort}
use Rattle.jt_input.specs.declared.status.Status.{Status}
use Rattle.jt_input.specs.declared.status.Status.TheVariants as status
use Rattle.jt_store.specs.Vaults.{Held}
use Rattle.jt_relay.specs.Relays.{TellsLimit}
use Rattle.jt_relay.specs.declared.relayed.Relayed.{Relayed}
use Rattle.jt_relay.specs.declared.relayed.RelayError.{RelayError}
use Rattle.jt_relay.specs.declared.relayed.RelayError.TheVariants as errors
use Rattle.jt_relay_command.specs.Replies.{relay_reply}

not_cut : (s : Status) → CutsShort s → s ≡ status.StoreFault → ⊥
not_cut s (inl memory) e = absurd (cc (memory, e))
not_cut s (inr write) e = absurd (cc (write, e))

pub store_fault : (outcome : Result Relayed RelayError) (s : Status) (keeper keeper_now vault vault_now limit : ℕ) (held : Option Held)
    → (s ≡ (relay_reply outcome).status) ⊎ CutsShort s
    → (IsErrOf outcome errors.Keeper → Rose keeper keeper_now) → (IsErrOf outcome errors.Vault → Rose vault vault_now)
    → IfErr outcome (TellsLimit limit held)
    → s ≡ status.StoreFault → Rose keeper keeper_now ⊎ Rose vault vault_now ⊎ (outcome ≡ Err (errors.Full limit))
store_fault outcome s keeper keeper_now vault vault_now limit held (inr cut) k v f e = absurd (not_cut s cut e)
store_fault (Ok relayed) s keeper keeper_now vault vault_now limit held (inl is) k v f e = absurd (cc (is, e))
store_fault (Err (errors.Behind recorded fixes)) s keeper keeper_now vault vault_now limit held (inl is) k v f e = absurd (cc (is, e))
store_fault (Err (errors.Long number)) s keeper keeper_now vault vault_now limit held (inl is) k v f e = absurd (cc (is, e))
store_fault (Err (errors.Full l)) s keeper keeper_now vault vault_now limit held (inl is) k v f e = inr (inr (ap (λ (n : ℕ). Err (errors.Full n)) f.0))
store_fault (Err errors.Keeper) s keeper keeper_now vault vault_now limit held (inl is) k v f e = inl (k refl)
store_fault (Err errors.Vault) s keeper keeper_now vault vault_now limit held (inl is) k v f e = inr (inl (v refl))
store_fault (Err errors.Memory) s keeper keeper_now vault vault_now limit held (inl is) k v f e = absurd (cc (is, e))
