-- What a run does to the seven objects that it is handed, by what its words ask. To be believed.
use Rattle.std.specs.Prelude.{◌≡◌, ◌≢◌, ◌⊎◌, ℕ, Bool, List, [], length, Option, None}
use Rattle.std.specs.Io.KnownBytes.{IsAtEnd}
use Rattle.jt_value.specs.Counts.{Rose}
use Rattle.jt_value.specs.declared.phone.Phone.{Phone}
use Rattle.jt_outside.specs.Pool.{Pool}
use Rattle.jt_outside.specs.Time.{Time}
use Rattle.jt_store.specs.Tables.{Tables, WhereKnown}
use Rattle.jt_store.specs.Vaults.{Held, accepted_count, pending_count}
use Rattle.jt_platform.specs.History.{newest, tables_after}
use Rattle.jt_platform_command.specs.Platform.{first_limit}
use Rattle.jt_platform_command.specs.Running as platform
use Rattle.jt_platform_command.specs.Running.{RunsPlatform}
use Rattle.jt_relay_command.specs.Running as relay
use Rattle.jt_relay_command.specs.Running.{RunsRelay}
use Rattle.jt_report_command.specs.ReportWords as words
use Rattle.jt_report_command.specs.Running as report
use Rattle.jt_report_command.specs.Running.{RunsReport}
use Rattle.jt_terminal_rule.specs.PlainSettings.{settings_of}
use Rattle.jt_report_command.specs.Steps.{VaultKeeps}
use Rattle.jt_terminal_steps.specs.Running.{IsStarted}
use Rattle.jt_input.specs.Answer.{AnswersReply}
use Rattle.jt_input.specs.declared.status.Status.TheVariants.{Done, Unsent, ReadFault, StoreFault, NetFault}
use Rattle.jt_cli.specs.Acting.{Acts}
use Rattle.jt_cli.specs.Ask.{Ask, Act, ReportFixes, ServeLinks, PassRowsOn, Asks}
use Rattle.jt_cli.specs.Usage.{usage}
use Rattle.jt_cli.specs.declared.task.Task.{Task}
use Rattle.jt_cli.specs.declared.outside.Outside.{Outside}
use Rattle.jt_cli.specs.declared.outside.Ended.{Ended}

-- what the objects tell of themselves, by the members of their traits
pub record Eyes (S K D C P V : Type 0) : Type 0 where
  pub left : S → Option (List ℕ)
  pub written : K → Option (List ℕ)
  pub dialled : D → Pool
  pub dial_faults : D → ℕ
  pub time : C → Time
  pub tables : P → Option Tables
  pub row_limit : P → ℕ
  pub keeper_faults : P → ℕ
  pub held : V → Option Held
  pub fix_limit : V → ℕ
  pub vault_faults : V → ℕ
  pub may_fail : V → Bool

abbrev pub eyes_of : {S K D C P V : Type 0} → (S → Option (List ℕ)) → (K → Option (List ℕ))
    → (D → Pool) → (D → ℕ) → (C → Time) → (P → Option Tables) → (P → ℕ) → (P → ℕ)
    → (V → Option Held) → (V → ℕ) → (V → ℕ) → (V → Bool) → Eyes S K D C P V
eyes_of left written dialled dial_faults time tables row_limit keeper_faults held fix_limit
    vault_faults may_fail = record {
      left = left;
      written = written;
      dialled = dialled;
      dial_faults = dial_faults;
      time = time;
      tables = tables;
      row_limit = row_limit;
      keeper_faults = keeper_faults;
      held = held;
      fix_limit = fix_limit;
      vault_faults = vault_faults;
      may_fail = may_fail;
    }

module _ {S K D L C P V : Type 0} (eyes : Eyes S K D C P V) where
  -- ---- words that ask nothing: the usage line; all but the sink comes back as it was handed in

  pub record Refuses (old : Outside S K D L C P V) (ended : Ended S K D L C P V) : Type 0 where
    pub rest : ended.outside ≡ record old { sink = ended.outside.sink }
    pub no_link : (ended.reports ≡ []) × (ended.history ≡ [])
    pub answers : AnswersReply ended.status usage
        (eyes.written old.sink) (eyes.written ended.outside.sink)
    pub not_read : ended.status ≢ ReadFault

  -- ---- a task: all but the source and the sink comes back as it was handed in

  pub record Streams (task : Task) (old : Outside S K D L C P V) (ended : Ended S K D L C P V)
      : Type 0 where
    pub rest : ended.outside
        ≡ record old { source = ended.outside.source; sink = ended.outside.sink }
    pub no_link : (ended.reports ≡ []) × (ended.history ≡ [])
    pub acts : Acts task (eyes.left old.source) (eyes.left ended.outside.source)
        (eyes.written old.sink) (eyes.written ended.outside.sink) ended.status

  -- ---- `report`: the listener and the keeper come back as they were handed in

  -- what is seen of the vault, the clock and the dial
  abbrev pub report_scene : Outside S K D L C P V → report.Scene
  report_scene o = report.scene_of (eyes.held o.vault) (eyes.fix_limit o.vault)
      (eyes.vault_faults o.vault) (eyes.time o.clock)
      (eyes.dialled o.dial) (eyes.dial_faults o.dial)

  pub record Reports (told : words.ReportValues) (old : Outside S K D L C P V) (ended : Ended S K D L C P V)
      : Type 0 where
    pub rest : ended.outside ≡ record old {
      source = ended.outside.source;
      sink = ended.outside.sink;
      dial = ended.outside.dial;
      clock = ended.outside.clock;
      vault = ended.outside.vault;
    }
    pub no_link : (ended.reports ≡ []) × (ended.history ≡ [])
    pub runs : RunsReport
        (IsStarted (settings_of told.phone told.plate told.terminal) (eyes.held old.vault))
        told.tries
        (eyes.left old.source) (eyes.left ended.outside.source)
        (report_scene old) (report_scene ended.outside)
        (eyes.written old.sink) (eyes.written ended.outside.sink) ended.status
    pub vault : VaultKeeps (eyes.vault_faults old.vault) (eyes.vault_faults ended.outside.vault)
        (eyes.fix_limit old.vault) (eyes.fix_limit ended.outside.vault)
        (eyes.may_fail old.vault) (eyes.may_fail ended.outside.vault)
    -- every recorded fix is accepted, or some fix is not; on both the source was read to its end
    pub done : ended.status ≡ Done
        → WhereKnown (eyes.held ended.outside.vault) (λ held. accepted_count held ≡ length held.recorded)
        × IsAtEnd (eyes.left ended.outside.source)
    pub unsent : ended.status ≡ Unsent
        → WhereKnown (eyes.held ended.outside.vault) (λ held. accepted_count held ≢ length held.recorded)
        × IsAtEnd (eyes.left ended.outside.source)
    pub store_fault : ended.status ≡ StoreFault
        → Rose (eyes.vault_faults old.vault) (eyes.vault_faults ended.outside.vault)
        ⊎ WhereKnown (eyes.held ended.outside.vault) (λ held. pending_count held ≡ eyes.fix_limit old.vault)
    pub no_net_fault : ended.status ≢ NetFault

  -- ---- `platform`: the dial, the clock and the vault come back as they were handed in

  -- what is seen of the listener and the keeper
  abbrev pub platform_scene : (L → Pool) → (L → ℕ) → Outside S K D L C P V → platform.Scene
  platform_scene pool net_faults o = platform.scene_of (pool o.listen) (net_faults o.listen)
      (eyes.tables o.keeper) (eyes.row_limit o.keeper) (eyes.keeper_faults o.keeper)

  pub record Serves (O : Type 0) (pool : L → Pool) (net_faults : L → ℕ) (sessions : ℕ)
      (old : Outside S K D L C P V) (ended : Ended S K D L C P V) : Type 0 where
    pub rest : ended.outside ≡ record old {
      source = ended.outside.source;
      sink = ended.outside.sink;
      listen = ended.outside.listen;
      keeper = ended.outside.keeper;
    }
    pub runs : RunsPlatform O sessions (eyes.left old.source) (eyes.left ended.outside.source)
        (platform_scene pool net_faults old) (platform_scene pool net_faults ended.outside)
        (eyes.written old.sink) (eyes.written ended.outside.sink)
        ended.reports ended.history ended.status
    pub keeper : (eyes.tables ended.outside.keeper
        ≡ tables_after (eyes.tables old.keeper) (newest ended.history))
        × (eyes.row_limit ended.outside.keeper ≡ eyes.row_limit old.keeper)
    pub to_the_end : ended.status ≡ Done → IsAtEnd (eyes.left ended.outside.source)
    -- the keeper failed, or a session's list was full
    pub store_fault : ended.status ≡ StoreFault
        → Rose (eyes.keeper_faults old.keeper) (eyes.keeper_faults ended.outside.keeper)
        ⊎ (first_limit ended.reports ≢ None)
    pub net_fault : ended.status ≡ NetFault
        → Rose (net_faults old.listen) (net_faults ended.outside.listen)

  -- ---- `relay`: all but the sink, the keeper and the vault comes back as it was handed in; of the
  -- keeper the tables and the limit are as before

  -- what is seen of the keeper and the vault
  abbrev pub relay_scene : Outside S K D L C P V → relay.Scene
  relay_scene o = relay.scene_of (eyes.tables o.keeper) (eyes.row_limit o.keeper)
      (eyes.keeper_faults o.keeper)
      (eyes.held o.vault) (eyes.fix_limit o.vault) (eyes.vault_faults o.vault)

  pub record PassesOn (phone : Phone) (old : Outside S K D L C P V) (ended : Ended S K D L C P V)
      : Type 0 where
    pub rest : ended.outside ≡ record old {
      sink = ended.outside.sink;
      keeper = ended.outside.keeper;
      vault = ended.outside.vault;
    }
    pub no_link : (ended.reports ≡ []) × (ended.history ≡ [])
    pub runs : RunsRelay phone (relay_scene old) (relay_scene ended.outside)
        (eyes.written old.sink) (eyes.written ended.outside.sink) ended.status
    pub vault : VaultKeeps (eyes.vault_faults old.vault) (eyes.vault_faults ended.outside.vault)
        (eyes.fix_limit old.vault) (eyes.fix_limit ended.outside.vault)
        (eyes.may_fail old.vault) (eyes.may_fail ended.outside.vault)
    pub not_read : ended.status ≢ ReadFault
    pub no_net_fault : ended.status ≢ NetFault

  -- ---- the table of commands. A run that waits for nobody serves no links, so what words of
  -- `platform` come to is handed in.

  abbrev pub Does : (ℕ → Outside S K D L C P V → Ended S K D L C P V → Type 0) → Ask
      → Outside S K D L C P V → Ended S K D L C P V → Type 0
  Does Serving (Act task) old ended = Streams task old ended
  Does Serving (ReportFixes told) old ended = Reports told old ended
  Does Serving (ServeLinks port sessions) old ended = Serving sessions old ended
  Does Serving (PassRowsOn phone) old ended = PassesOn phone old ended

  -- What the words ask was done. Of any words either something that they ask was done, or they
  -- were answered the usage line.
  pub record Ran (Serving : ℕ → Outside S K D L C P V → Ended S K D L C P V → Type 0)
      (words : List (List ℕ)) (old : Outside S K D L C P V) (ended : Ended S K D L C P V)
      : Type 0 where
    pub asked : (ask : Ask) → Asks ask words → Does Serving ask old ended
    pub one : ((ask : Ask) × Asks ask words × Does Serving ask old ended) ⊎ Refuses old ended
