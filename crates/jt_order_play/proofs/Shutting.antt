-- All ends at the platform are gone, and a new hub begins over what the keeper has.
use Rattle.std.proofs.Common.{ℕ, zero, suc, ◌+◌, ◌<◌, ◌≡◌, List, [], ◌∷◌, ◌++◌, length, take, drop, set, get_or, Option, Some, Bool, true, arith, refl, ap, sym, ◌∙◌, subst}
use Rattle.jt_value.specs.Sameness.{key_of, same_key}
use Rattle.jt_store.specs.Memory.{KeeperState, Stock, tables_of}
use Rattle.jt_platform.specs.declared.request.Entry.{Entry}
use Rattle.jt_platform.specs.History.{newest, tables_after}
use Rattle.jt_platform.specs.Hub.{HubValue}
use Rattle.jt_platform.specs.Laws.{AreOf, HistoriesTell}
use Rattle.jt_order.specs.Books.{Book}
use Rattle.jt_order.specs.Memory.{LogStock}
use Rattle.jt_order_terminal.specs.Terminals.{OrderTerminalValue}
use Rattle.jt_octets.specs.World.{World}
use Rattle.jt_octets.specs.Steps.{shut}
use Rattle.jt_play.specs.Holding.{IsRunning, Numbered, lines_in, past_of, play_of, shut_lines, taken_on}
use Rattle.jt_play.proofs.Shutting.{anew_is, anew_running, taken_shut}
use Rattle.jt_order_octets.specs.Reaching.{Leads}
use Rattle.jt_order_octets.specs.Steps.{RestartPlatform, after}
use Rattle.jt_order_octets.specs.World.{OrderWorld}
use Rattle.jt_order_play.specs.Playing.{with_world}
use Rattle.jt_order_play.specs.Holding.{Hears, IsStage, LineOfOrders, order_play_of, plain_lines, sent_on, shut_order_lines}
use Rattle.jt_order_play.proofs.Standing.{leads_one}

-- ---- lines

abbrev pub shut_one : LineOfOrders → LineOfOrders
shut_one l = record l { plain = record l.plain { line = shut l.plain.line } }

-- so many ends from the first on are gone
abbrev pub shut_front : ℕ → List LineOfOrders → List LineOfOrders
shut_front n lines = shut_order_lines (take n lines) ++ drop n lines

pub front_length : (n : ℕ) (lines : List LineOfOrders) → length (shut_front n lines) ≡ length lines
front_length zero lines = refl
front_length (suc n) [] = refl
front_length (suc n) (x ∷ lines) = let e = front_length n lines in omega (arith, e)

next : (n : ℕ) (lines : List LineOfOrders) (old x : LineOfOrders) → n < length lines → old ≡ get_or (shut_front n lines) n old → x ≡ shut_one old → set (shut_front n lines) n x ≡ shut_front (suc n) lines
next zero [] old x lt at is = absurd (omega (arith, lt))
next zero (m ∷ lines) old x lt at is = ap (λ (y : LineOfOrders). y ∷ lines) (is ∙ ap shut_one at)
next (suc n) [] old x lt at is = absurd (omega (arith, lt))
next (suc n) (m ∷ lines) old x lt at is = ap (λ (rest : List LineOfOrders). shut_one m ∷ rest) (next n lines old x (omega (arith, lt)) at is)

pub front_next : (n : ℕ) (lines : List LineOfOrders) (old x : LineOfOrders) → n < length lines → old ≡ get_or (shut_front n lines) n old → x ≡ shut_one old → set (shut_front n lines) n x ≡ shut_front (n + 1) lines
front_next n lines old x lt at is = let e : suc n ≡ n + 1 = omega arith in next n lines old x lt at is ∙ ap (λ (k : ℕ). shut_front k lines) e

plain_shut : (lines : List LineOfOrders) → plain_lines (shut_order_lines lines) ≡ shut_lines (plain_lines lines)
plain_shut [] = refl
plain_shut (l ∷ lines) = ap (λ (rest : List Numbered). record l.plain { line = shut l.plain.line } ∷ rest) (plain_shut lines)

sent_shut : (lines : List LineOfOrders) → sent_on (shut_order_lines lines) ≡ sent_on lines
sent_shut [] = refl
sent_shut (l ∷ lines) = ap (λ (rest : List (Option ℕ)). l.sent ∷ rest) (sent_shut lines)

-- ---- a new hub

module _ (law : HistoriesTell) (same : (key : List ℕ) → same_key key key ≡ true) (t : OrderTerminalValue Stock LogStock) (hears : Bool) (hub : HubValue KeeperState) (book : Book) (issued : ℕ) (lines : List LineOfOrders) (past : List (List Entry)) (told : List ℕ) (clock : ℕ)
    (stage : IsStage t hears hub book issued lines clock) (own : AreOf (key_of t.terminal.state.settings.phone) (newest hub.history)) (at : Some (tables_of hub.keeper) ≡ tables_after (Some (tables_of hub.start)) (newest hub.history)) (limit : hub.keeper.limit ≡ hub.start.limit) where
  -- the hub begins anew
  abbrev anew : HubValue KeeperState
  anew = record { keeper = hub.keeper; start = hub.keeper; fleet = hub.fleet; secret = hub.secret; history = []; reserved = 0 }

  pub anew_stage : IsStage t hears anew book issued (shut_order_lines lines) clock
  anew_stage = record {
    running = subst (λ (ls : List Numbered). IsRunning t.terminal anew ls) (sym (plain_shut lines)) (anew_running law same t.terminal hub (plain_lines lines) past told clock stage.running own at limit);
    ledger = stage.ledger;
    hearing = subst (Hears hears t.stream) (sym (ap (λ (ls : List Numbered). taken_on (lines_in ls)) (plain_shut lines) ∙ taken_shut (plain_lines lines))) stage.hearing;
    clock_is = stage.clock_is;
    issued_is = stage.issued_is;
  }

  abbrev w : OrderWorld
  w = (order_play_of t hub book lines (past_of past) told clock).world

  -- the histories of the hubs before the new one
  abbrev older : ℕ → List Entry
  older last = past_of (set (past ++ [] ∷ []) last hub.history)

  abbrev with : World → List (Option ℕ) → OrderWorld
  with base sent = record w { base = record base { partial = [] }; sent = sent }

  anew_world : (last : ℕ) → last ≡ length past → after w RestartPlatform ≡ (order_play_of t anew book (shut_order_lines lines) (older last) told clock).world
  anew_world last e =
      ap (λ (z : World). with z (sent_on lines)) (anew_is law same t.terminal hub (plain_lines lines) past told clock stage.running own at limit last e)
      ∙ (ap (λ (ls : List Numbered). with (play_of t.terminal anew ls (older last) told clock).world (sent_on lines)) (sym (plain_shut lines))
      ∙ ap (λ (z : List (Option ℕ)). with (play_of t.terminal anew (plain_lines (shut_order_lines lines)) (older last) told clock).world z) (sym (sent_shut lines)))

  pub anew_leads : (last : ℕ) → last ≡ length past → Leads w (order_play_of t anew book (shut_order_lines lines) (older last) told clock).world
  anew_leads last e = subst (Leads w) (anew_world last e) (leads_one w RestartPlatform tt)

  pub anew_whole : (last : ℕ) → last ≡ length past → order_play_of t anew book (shut_order_lines lines) (older last) told clock ≡ with_world (order_play_of t hub book lines (past_of past) told clock) (after w RestartPlatform)
  anew_whole last e = ap (with_world (order_play_of t hub book lines (past_of past) told clock)) (sym (anew_world last e))
