-- All ends at the platform are gone, one after another; and what a new hub then begins over.
use Rattle.std.proofs.Common.{ℕ, zero, suc, ◌+◌, ◌-◌, ◌<◌, ◌≤◌, ◌≡◌, List, [], ◌∷◌, ◌++◌, length, take, drop, set, map, get_or, Some, None, true, false, arith, refl, ap, sym, ◌∙◌, subst}
use Rattle.std.specs.List.{flat_map}
use Rattle.std.proofs.lemmas.Bool.{false≢true}
use Rattle.std.proofs.lemmas.Grind.{flat_map-append}
use Rattle.std.proofs.lemmas.List.{append-nil, reverse-append, length-map}
use Rattle.jt_value.specs.Sameness.{key_of, same_key}
use Rattle.jt_store.specs.Memory.{KeeperState, Stock, tables_of}
use Rattle.jt_store.specs.Verdicts.{Shelf}
use Rattle.jt_subpacket.specs.Partials.{Partial}
use Rattle.jt_platform.specs.declared.request.Entry.{Entry}
use Rattle.jt_platform.specs.History.{newest, tables_after}
use Rattle.jt_platform.specs.Hub.{HubValue}
use Rattle.jt_platform.specs.Laws.{AreOf, HistoriesTell, shelf_of}
use Rattle.jt_terminal.specs.Line.{partial_of}
use Rattle.jt_terminal_steps.specs.Running.{TerminalValue}
use Rattle.jt_octets.specs.World.{World, Line, line_at, newest_place, taken_of}
use Rattle.jt_octets.specs.Steps.{RestartPlatform, after, shut}
use Rattle.jt_octets.specs.Reaching.{Leads}
use Rattle.jt_play.specs.Holding.{IsRunning, Numbered, blank, heard_on, lines_in, past_of, play_of, shelf_in, shut_lines, taken_on}
use Rattle.jt_play.proofs.Downward.{leads_one}
use Rattle.jt_play.proofs.Platforms.{alone_again, shelf_is}
use Rattle.jt_play.proofs.Fair.{shut_place}

-- ---- lines

abbrev pub shut_one : Numbered → Numbered
shut_one n = record n { line = shut n.line }

-- so many ends from the first on are gone
abbrev pub shut_front : ℕ → List Numbered → List Numbered
shut_front n lines = shut_lines (take n lines) ++ drop n lines

pub front_length : (n : ℕ) (lines : List Numbered) → length (shut_front n lines) ≡ length lines
front_length zero lines = refl
front_length (suc n) [] = refl
front_length (suc n) (x ∷ lines) = let e = front_length n lines in omega (arith, e)

next : (n : ℕ) (lines : List Numbered) (old x : Numbered) → n < length lines → old ≡ get_or (shut_front n lines) n old → x ≡ shut_one old → set (shut_front n lines) n x ≡ shut_front (suc n) lines
next zero [] old x lt at is = absurd (omega (arith, lt))
next zero (m ∷ lines) old x lt at is = ap (λ (y : Numbered). y ∷ lines) (is ∙ ap shut_one at)
next (suc n) [] old x lt at is = absurd (omega (arith, lt))
next (suc n) (m ∷ lines) old x lt at is = ap (λ (rest : List Numbered). shut_one m ∷ rest) (next n lines old x (omega (arith, lt)) at is)

pub front_next : (n : ℕ) (lines : List Numbered) (old x : Numbered) → n < length lines → old ≡ get_or (shut_front n lines) n old → x ≡ shut_one old → set (shut_front n lines) n x ≡ shut_front (n + 1) lines
front_next n lines old x lt at is = let e : suc n ≡ n + 1 = omega arith in next n lines old x lt at is ∙ ap (λ (k : ℕ). shut_front k lines) e

pub shut_at : (lines : List Numbered) (place : ℕ) → place < length lines → get_or (shut_lines lines) place blank ≡ shut_one (get_or lines place blank)
shut_at [] place lt = absurd (omega (arith, lt))
shut_at (x ∷ lines) zero lt = refl
shut_at (x ∷ lines) (suc place) lt = shut_at lines place (omega (arith, lt))

shut_in : (lines : List Numbered) → lines_in (shut_lines lines) ≡ map shut (lines_in lines)
shut_in [] = refl
shut_in (x ∷ lines) = ap (λ (rest : List Line). shut x.line ∷ rest) (shut_in lines)

pub shut_down : (lines : List Line) (place : ℕ) → (line_at (map shut lines) place).down ≡ (line_at lines place).down
shut_down [] zero = refl
shut_down [] (suc place) = refl
shut_down (line ∷ lines) zero = refl
shut_down (line ∷ lines) (suc place) = shut_down lines place

-- what the terminal read stays
pub taken_shut : (lines : List Numbered) → taken_on (lines_in (shut_lines lines)) ≡ taken_on (lines_in lines)
taken_shut lines = ap taken_on (shut_in lines)
    ∙ (ap (λ (n : ℕ). taken_of (line_at (map shut (lines_in lines)) n).down) (shut_place (lines_in lines))
    ∙ ap taken_of (shut_down (lines_in lines) (newest_place (lines_in lines))))

-- ---- histories

at_last : (past : List (List Entry)) (h : List Entry) → set (past ++ [] ∷ []) (length past) h ≡ past ++ h ∷ []
at_last [] h = refl
at_last (x ∷ past) h = ap (λ (rest : List (List Entry)). x ∷ rest) (at_last past h)

pub past_put : (past : List (List Entry)) (h : List Entry) (last : ℕ) → last ≡ length past → past_of (set (past ++ [] ∷ []) last h) ≡ newest h ++ past_of past
past_put past h last e =
    ap (λ (n : ℕ). past_of (set (past ++ [] ∷ []) n h)) e
    ∙ (ap past_of (at_last past h)
    ∙ (ap newest (flat_map-append (λ (x : List Entry). x) past (h ∷ []) ∙ ap (λ (z : List Entry). flat_map (λ (x : List Entry). x) past ++ z) (append-nil h))
    ∙ reverse-append (flat_map (λ (x : List Entry). x) past) h))

-- ---- a new hub

module _ (law : HistoriesTell) (same : (key : List ℕ) → same_key key key ≡ true) (t : TerminalValue Stock) (hub : HubValue KeeperState) (lines : List Numbered) (past : List (List Entry)) (told : List ℕ) (clock : ℕ) (running : IsRunning t hub lines)
    (own : AreOf (key_of t.state.settings.phone) (newest hub.history)) (at : Some (tables_of hub.keeper) ≡ tables_after (Some (tables_of hub.start)) (newest hub.history)) (limit : hub.keeper.limit ≡ hub.start.limit) where
  abbrev key : List ℕ
  key = key_of t.state.settings.phone

  -- the hub begins anew
  abbrev anew : HubValue KeeperState
  anew = record { keeper = hub.keeper; start = hub.keeper; fleet = hub.fleet; secret = hub.secret; history = []; reserved = 0 }

  kept : shelf_in hub.keeper key ≡ shelf_of key (shelf_in hub.start key) (newest hub.history)
  kept = shelf_is law same t hub lines running own hub.keeper at

  shut_length : length (shut_lines lines) ≡ length lines
  shut_length = length-map lines shut_one

  within : (place : ℕ) → place < length (shut_lines lines) → place < length lines
  within place lt = subst (λ (n : ℕ). place < n) shut_length lt

  gone : (place : ℕ) → place < length (shut_lines lines) → (get_or (shut_lines lines) place blank).line.is_open ≡ true → ⊥
  gone place lt is_open = false≢true (sym (ap (λ (n : Numbered). n.line.is_open) (shut_at lines place (within place lt))) ∙ is_open)

  pub anew_running : IsRunning t anew (shut_lines lines)
  anew_running = record {
    sound = running.sound;
    numbers = λ place lt. ap (λ (n : Numbered). n.number) (shut_at lines place (within place lt)) ∙ running.numbers place (within place lt);
    alone_is = alone_again law same t hub lines running own hub.keeper at;
    unclosed = λ place lt is_open. absurd (gone place lt is_open);
    unopened = λ session lt. refl;
    reserved = λ place lt is_open. absurd (gone place lt is_open);
    limit = running.limit;
  }

  abbrev w : World
  w = (play_of t hub lines (past_of past) told clock).world

  abbrev with : List Partial → List Line → ℕ → Shelf → List Entry → World
  with partial ls most shelf older = record w { partial = partial; lines = ls; setting = record { fleet = hub.fleet; secret = hub.secret; limit = most }; keeper = shelf; began = shelf; history = []; past = older }

  pub anew_is : (last : ℕ) → last ≡ length past → after w RestartPlatform ≡ (play_of t anew (shut_lines lines) (past_of (set (past ++ [] ∷ []) last hub.history)) told clock).world
  anew_is last e =
      ap (λ (z : List Partial). with z (map shut w.lines) hub.start.limit w.keeper (w.history ++ w.past)) (sym (ap partial_of (taken_shut lines)))
      ∙ (ap (λ (z : List Line). with (heard_on (lines_in (shut_lines lines))) z hub.start.limit w.keeper (w.history ++ w.past)) (sym (shut_in lines))
      ∙ (ap (λ (z : ℕ). with (heard_on (lines_in (shut_lines lines))) (lines_in (shut_lines lines)) z w.keeper (w.history ++ w.past)) (sym limit)
      ∙ (ap (λ (z : Shelf). with (heard_on (lines_in (shut_lines lines))) (lines_in (shut_lines lines)) hub.keeper.limit z (w.history ++ w.past)) (sym kept)
      ∙ ap (λ (z : List Entry). with (heard_on (lines_in (shut_lines lines))) (lines_in (shut_lines lines)) hub.keeper.limit (shelf_in hub.keeper key) z) (sym (past_put past hub.history last e)))))

  pub anew_leads : (last : ℕ) → last ≡ length past → Leads w (play_of t anew (shut_lines lines) (past_of (set (past ++ [] ∷ []) last hub.history)) told clock).world
  anew_leads last e = subst (Leads w) (anew_is last e) (leads_one w RestartPlatform tt)

  pub anew_whole : (last : ℕ) → last ≡ length past → play_of t anew (shut_lines lines) (past_of (set (past ++ [] ∷ []) last hub.history)) told clock ≡ record (play_of t hub lines (past_of past) told clock) { world = after w RestartPlatform }
  anew_whole last e = ap (λ (z : World). record (play_of t hub lines (past_of past) told clock) { world = z }) (sym (anew_is last e))
