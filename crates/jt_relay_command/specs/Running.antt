-- What a run of `relay` does. To be believed.
use Rattle.std.specs.Prelude.{◌≡◌, ◌≤◌, ◌⊎◌, ℕ, List, length, Option, Result, Err, IfErr, IsErrOf}
use Rattle.jt_value.specs.Counts.{Rose}
use Rattle.jt_value.specs.Sameness.{key_of}
use Rattle.jt_value.specs.declared.phone.Phone.{Phone}
use Rattle.jt_store.specs.Tables.{Tables, WhereKnown}
use Rattle.jt_store.specs.Vaults.{Held}
use Rattle.jt_relay.specs.Relays.{Grows, Relays, TellsLimit, placed_fixes}
use Rattle.jt_relay.specs.declared.relayed.Relayed.{Relayed}
use Rattle.jt_relay.specs.declared.relayed.RelayError.{RelayError}
use Rattle.jt_relay.specs.declared.relayed.RelayError.TheVariants as errors
use Rattle.jt_input.specs.Answer.{AnswersReply}
use Rattle.jt_input.specs.declared.status.Status.{Status}
use Rattle.jt_input.specs.declared.status.Status.TheVariants.{StoreFault}
use Rattle.jt_relay_command.specs.Replies.{relay_reply}

-- what is seen of the keeper and the vault, before a run or after it
pub record Scene : Type 0 where
  pub tables : Option Tables
  pub row_limit : ℕ
  pub keeper_faults : ℕ
  pub held : Option Held
  pub fix_limit : ℕ
  pub vault_faults : ℕ

abbrev pub scene_of : Option Tables → ℕ → ℕ → Option Held → ℕ → ℕ → Scene
scene_of tables row_limit keeper_faults held fix_limit vault_faults = record {
  tables = tables;
  row_limit = row_limit;
  keeper_faults = keeper_faults;
  held = held;
  fix_limit = fix_limit;
  vault_faults = vault_faults;
}

-- A run of `relay`: it came to this outcome, whose text was written, or a prefix of it at a fault.
pub record RunsRelay (phone : Phone) (old now : Scene) (written written_now : Option (List ℕ))
    (status : Status) : Type 0 where
  pub outcome : Result Relayed RelayError
  -- where both stores tell, the vault recorded the first of the fixes of the phone's rows that it
  -- had not, in order: all of them, or as many as the outcome says
  pub relays : WhereKnown old.tables (λ tables. WhereKnown old.held (λ held.
      Relays (placed_fixes (tables.rows (key_of phone))) (length held.recorded) old.fix_limit
      old.held now.held outcome))
  pub answers : AnswersReply status (relay_reply outcome) written written_now
  -- the keeper is as before, and both limits stay
  pub tables : now.tables ≡ old.tables
  pub limits : (now.row_limit ≡ old.row_limit) × (now.fix_limit ≡ old.fix_limit)
  -- the counts of faults never fall, and a store failed only where its count rose
  pub later : (old.keeper_faults ≤ now.keeper_faults) × (old.vault_faults ≤ now.vault_faults)
  pub keeper : IsErrOf outcome errors.Keeper → Rose old.keeper_faults now.keeper_faults
  pub vault : IsErrOf outcome errors.Vault → Rose old.vault_faults now.vault_faults
  -- whether or not the keeper tells, the vault recorded some fixes more and else is as before, and a
  -- full one is told with its limit
  pub grows : Grows old.held now.held
  pub full : IfErr outcome (TellsLimit old.fix_limit now.held)
  -- a store failed, or the vault was full
  pub store_fault : status ≡ StoreFault → Rose old.keeper_faults now.keeper_faults
      ⊎ Rose old.vault_faults now.vault_faults ⊎ (outcome ≡ Err (errors.Full old.fix_limit))
