-- What `feed` says where a line is in use.
use Rattle.std.proofs.Common.{◌≡◌, ℕ, List, [], ◌++◌, Bool, true, Option, sym, ap, ◌∙◌, subst}
use Rattle.jt_escape.specs.Scan.{State as Splitting}
use Rattle.jt_store.specs.Vaults.{Held}
use Rattle.jt_terminal_rule.specs.declared.state.State.{State}
use Rattle.jt_terminal_rule.specs.declared.state.GiveUp.{GiveUp}
use Rattle.jt_terminal_steps.specs.Running.{CutShort, holds_after}
use Rattle.jt_order.specs.declared.performed.Performed.{Performed}
use Rattle.jt_order_terminal.specs.Ledgers.{Ledger}
use Rattle.jt_order_terminal.specs.Terminals.{CommitsFirst, Done, FailsAt, StandsForLine, does_at_octets, items_behind, log_with}
use Rattle.jt_order_terminal.specs.Feeding.{HasBegun, HasDone, HasFedFront, Sayings, Scene, WasCut}
use Rattle.jt_order_terminal.proofs.Items.{HasFront, fed_begun, fed_done, fed_fails}

-- what is known of a terminal once all of this was done
abbrev pub IsAt : Done → State → Ledger → Option Held → Option Held → Option (List Performed) → Option (List Performed) → Type 0
IsAt d state ledger held held_now log log_now = (state ≡ d.state) × (ledger ≡ d.ledger) × (held_now ≡ holds_after d.steps held) × (log_now ≡ log_with d.performed log)

-- and what is said
abbrev pub Says : Done → List (List ℕ) → List ℕ → Option GiveUp → Type 0
Says d frames told end = (frames ≡ d.frames) × (told ≡ d.told) × (end ≡ d.end)

module _ (up : Bool) (stream now : Splitting) (a b : Scene) (octets : List ℕ) (end : Option GiveUp) (is_up : up ≡ true) (f : HasFedFront stream now a b octets end) (has_front : HasFront) (seen : List ℕ) (stands : StandsForLine stream seen) where
  did : HasDone (does_at_octets up a.state a.ledger seen octets) a b end
  did = subst (λ (u : Bool). HasDone (does_at_octets u a.state a.ledger seen octets) a b end) (sym is_up) (fed_done stream now a b octets end f has_front seen stands)

  pub fed_at : IsAt (does_at_octets up a.state a.ledger seen octets) b.state b.ledger a.held b.held a.log b.log
  fed_at = (did.state, did.ledger, did.held, did.log)

  pub fed_says : a.said ≡ record { frames = []; told = [] } → Says (does_at_octets up a.state a.ledger seen octets) b.said.frames b.said.told end
  fed_says none =
      let d = does_at_octets up a.state a.ledger seen octets in
      (did.frames ∙ ap (λ (s : Sayings). s.frames ++ d.frames) none, did.told ∙ ap (λ (s : Sayings). s.told ++ d.told) none, did.end_is)

module _ (up : Bool) (stream now : Splitting) (a : Scene) (held : Option Held) (log : Option (List Performed)) (octets : List ℕ) (is_up : up ≡ true) (cut : WasCut stream now a held log octets) (has_front : HasFront) (seen : List ℕ) (stands : StandsForLine stream seen) where
  begun : HasBegun (does_at_octets up a.state a.ledger seen octets) a.held held a.log log
  begun = subst (λ (u : Bool). HasBegun (does_at_octets u a.state a.ledger seen octets) a.held held a.log log) (sym is_up) (fed_begun stream now a held log octets cut has_front seen stands)

  pub fails_at : (held_now : Option Held) → held_now ≡ held → FailsAt a.state a.ledger (items_behind seen octets) a.held held_now a.log log
  fails_at held_now same = subst (λ (h : Option Held). FailsAt a.state a.ledger (items_behind seen octets) a.held h a.log log) (sym same) (fed_fails stream now a held log octets cut has_front seen stands)

  pub cut_commits : CommitsFirst (does_at_octets up a.state a.ledger seen octets).performed a.log log
  cut_commits = begun.commits

  pub cut_steps : (held_now : Option Held) → held_now ≡ held → CutShort (does_at_octets up a.state a.ledger seen octets).steps a.held held_now
  cut_steps held_now same = subst (λ (h : Option Held). CutShort (does_at_octets up a.state a.ledger seen octets).steps a.held h) (sym same) begun.cut
