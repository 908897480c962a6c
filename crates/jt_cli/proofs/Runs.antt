-- What a run did, by what was found in its words.
use Rattle.std.proofs.Common.{◌≡◌, ℕ, List, [], Option, refl, sym, subst, inl, inr, arith}
use Rattle.std.proofs.KnownBytes.{Appends-nil}
use Rattle.jt_report_command.specs.ReportWords.{ReportValues}
use Rattle.jt_report_command.specs.Running.{RunsReport, Scene}
use Rattle.jt_terminal_rule.specs.PlainSettings.{settings_of}
use Rattle.jt_terminal_steps.specs.Running.{IsStarted}
use Rattle.jt_value.specs.declared.phone.Phone.{Phone}
use Rattle.jt_input.specs.declared.status.Status.TheVariants as status
use Rattle.jt_cli.specs.Ask.{Ask, Act, ReportFixes, ServeLinks, PassRowsOn, Asks, AskOnly, AskNothing, TakesMemory}
use Rattle.jt_cli.specs.Running.{Eyes, Does, Ran, Refuses, Reports}
use Rattle.jt_cli.specs.Usage.{usage, usage_line}
use Rattle.jt_cli.specs.declared.outside.Outside.{Outside}
use Rattle.jt_cli.specs.declared.outside.Ended.{Ended}

module _ {S K D L C P V : Type 0} (eyes : Eyes S K D C P V) (Serving : ℕ → Outside S K D L C P V → Ended S K D L C P V → Type 0) where
  -- what was found in the words was done
  pub did : (ask : Ask) (read words : List (List ℕ)) (old : Outside S K D L C P V) (ended : Ended S K D L C P V)
      → read ≡ words → AskOnly ask read → Does eyes Serving ask old ended → Ran eyes Serving words old ended
  did ask read words old ended is only does = subst (λ (w : List (List ℕ)). Ran eyes Serving w old ended) is (record {
    asked = λ other asks. subst (λ (a : Ask). Does eyes Serving a old ended) (sym (only.only other asks)) does;
    one = inl (ask, only.asks, does);
  })

  -- nothing was found
  pub refused : (read words : List (List ℕ)) (old : Outside S K D L C P V) (ended : Ended S K D L C P V)
      → read ≡ words → AskNothing read → Refuses eyes old ended → Ran eyes Serving words old ended
  refused read words old ended is nothing refuses = subst (λ (w : List (List ℕ)). Ran eyes Serving w old ended) is (record {
    asked = λ ask asks. absurd (nothing ask asks);
    one = inr refuses;
  })

  by_memory : (ask : Ask) (old : Outside S K D L C P V) (ended : Ended S K D L C P V)
      → TakesMemory ask → ((told : ReportValues) → Reports eyes told old ended) → Does eyes Serving ask old ended
  by_memory (Act task) old ended takes reports = absurd takes
  by_memory (ReportFixes told) old ended takes reports = reports told
  by_memory (ServeLinks port sessions) old ended takes reports = absurd takes
  by_memory (PassRowsOn phone) old ended takes reports = absurd takes

  -- memory was wanted to read the words, and nothing was done
  given_up : (read : List (List ℕ)) (old : Outside S K D L C P V)
      → ((ask : Ask) → Asks ask read → TakesMemory ask)
      → ((phone : Phone) (plate terminal : List ℕ) (tries : ℕ) (left written : Option (List ℕ)) (scene : Scene)
      → RunsReport (IsStarted (settings_of phone plate terminal) scene.held) tries left left scene scene written written status.Memory)
      → Ran eyes Serving read old (record { status = status.Memory; outside = old; reports = []; history = [] })
  unfolding usage
  given_up read old takes law = record {
    asked = λ ask asks. by_memory ask old _ (takes ask asks) (λ told. record {
      rest = refl;
      no_link = (refl, refl);
      runs = law told.phone told.plate told.terminal told.tries (eyes.left old.source) (eyes.written old.sink) _;
      vault = record { limit = refl; later = omega arith; steady = λ e. e };
      done = λ e. absurd cc;
      unsent = λ e. absurd cc;
      store_fault = λ e. absurd cc;
      no_net_fault = λ e. cc e;
    });
    one = inr (record {
      rest = refl;
      no_link = (refl, refl);
      answers = inr (tt, ([], usage_line, refl, Appends-nil _));
      not_read = λ e. cc e;
    });
  }

  pub gave_up : (read words : List (List ℕ)) (old : Outside S K D L C P V) (ended : Ended S K D L C P V)
      → read ≡ words → ended ≡ record { status = status.Memory; outside = old; reports = []; history = [] }
      → ((ask : Ask) → Asks ask read → TakesMemory ask)
      → ((phone : Phone) (plate terminal : List ℕ) (tries : ℕ) (left written : Option (List ℕ)) (scene : Scene)
      → RunsReport (IsStarted (settings_of phone plate terminal) scene.held) tries left left scene scene written written status.Memory)
      → Ran eyes Serving words old ended
  gave_up read words old ended is end takes law =
      subst (λ (w : List (List ℕ)). Ran eyes Serving w old ended) is
      (subst (λ (e : Ended S K D L C P V). Ran eyes Serving read old e) (sym end) (given_up read old takes law))
