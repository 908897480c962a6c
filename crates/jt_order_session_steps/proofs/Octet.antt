-- One octet that a session takes, as a step of the world: and the world behind so many octets.
use Rattle.std.proofs.Common.{ℕ, zero, suc, ◌+◌, ◌<◌, ◌≡◌, List, [], ◌∷◌, ◌++◌, length, set, Option, Some, None, Bool, true, false, arith, refl, ap, sym, ◌∙◌, subst, append_assoc}
use Rattle.std.specs.Prelude.{if◌then◌else◌}
use Rattle.std.proofs.lemmas.List.{append-nil, get_or-set_same, length-set, map-append, set-set}
use Rattle.jt_value.specs.Sameness.{key_of}
use Rattle.jt_stream.specs.Unplaced.{Unplaced}
use Rattle.jt_store.specs.Verdicts.{Shelf}
use Rattle.jt_platform.specs.Laws.{shelf_of}
use Rattle.jt_platform.specs.declared.request.Entry.{Entry}
use Rattle.jt_platform.specs.declared.request.Request.{Request}
use Rattle.jt_platform.specs.declared.request.Reply.{Reply}
use Rattle.jt_session.specs.Talk.{State, Turned, Way, Goes, Stops, Talked, asks, at_state, frame_said, is_fenced, talk_after_turn, turn_at_reply, turn_on, turn_without_request}
use Rattle.jt_session.specs.Sessions.{entries_on}
use Rattle.jt_session.proofs.Joining.{onto}
use Rattle.jt_octets.specs.World.{World, Line, Wire, completed_item, line_at, new_line}
use Rattle.jt_octets.specs.Steps.{MayGoOn, MayTake, MayTalk, after_take, after_talk, kept_of, line_behind, talk_after_item}
use Rattle.jt_octets.specs.Steps as plain
use Rattle.jt_play.proofs.Worlds.{shelf_append}
use Rattle.jt_order_octets.specs.World.{OrderWorld}
use Rattle.jt_order_octets.specs.Reaching.{Leads}
use Rattle.jt_order_octets.specs.Steps.{MayTell, Telling, Up, after, results_after}
use Rattle.jt_order_session_steps.specs.Steps.{IsOpen}
use Rattle.jt_order_session_steps.proofs.Leading.{one_step, steps_to}

-- ---- a talk, and one turn more on top of it

turned_onto : (k j : Talked) (t : Turned) (gained : List (Request × Reply)) (over : Bool) → talk_after_turn (onto k j) t gained over ≡ onto k (talk_after_turn j t gained over)
turned_onto k j t gained over =
    ap (λ (w : List ℕ). record { state = t.state; entries = gained ++ (j.entries ++ k.entries); written = w; over = over }) (append_assoc k.written j.written (frame_said t.says))
    ∙ ap (λ (e : List (Request × Reply)). record { state = t.state; entries = e; written = k.written ++ (j.written ++ frame_said t.says); over = over }) (sym (append_assoc gained j.entries k.entries))

turn_onto : (k j : Talked) (item : Unplaced) (asked : Option Request) (way : Way) → turn_on (onto k j) item asked way ≡ onto k (turn_on j item asked way)
turn_onto k j item None (Goes None) = turned_onto k j (turn_without_request j.state item) [] false
turn_onto k j item None (Goes (Some r)) = refl
turn_onto k j item None (Stops None) = refl
turn_onto k j item None (Stops (Some r)) = refl
turn_onto k j item (Some q) (Goes None) = refl
turn_onto k j item (Some q) (Goes (Some r)) = turned_onto k j (turn_at_reply j.state item r) ((q, r) ∷ []) (is_fenced r)
turn_onto k j item (Some q) (Stops None) = refl
turn_onto k j item (Some q) (Stops (Some r)) = turned_onto k j (turn_at_reply j.state item r) [] true

-- a talk that goes on is itself on top of nothing
pub at_own : (c : Talked) → c.over ≡ false → onto c (at_state c.state) ≡ c
at_own c going =
    ap (λ (d : List ℕ). record { state = c.state; entries = c.entries; written = d; over = false }) (append-nil c.written)
    ∙ ap (λ (b : Bool). record { state = c.state; entries = c.entries; written = c.written; over = b }) (sym going)

pub turn_next : (c : Talked) → c.over ≡ false → (item : Unplaced) (way : Way) → onto c (talk_after_item c.state (Some item) way) ≡ turn_on c item (asks c.state item) way
turn_next c going item way = sym (turn_onto c (at_state c.state) item (asks c.state item) way) ∙ ap (λ (x : Talked). turn_on x item (asks c.state item) way) (at_own c going)

-- ---- numbers

pub next_taken : (a n : ℕ) → a + n + 1 ≡ a + suc n
next_taken a n = omega arith

pub add_zero : (a : ℕ) → a + zero ≡ a
add_zero a = omega arith

-- ---- the world behind so many octets

abbrev pub wire_at : Wire → ℕ → Wire
wire_at wire n = record { octets = wire.octets; taken = wire.taken + n }

-- so many octets were taken, and the session's talk is this
abbrev pub line_walked : Line → ℕ → Talked → Line
line_walked line n c = record { up = wire_at line.up n; down = record { octets = line.down.octets ++ c.written; taken = line.down.taken }; session = kept_of c; is_open = line.is_open }

abbrev pub base_of : World → List Line → List Entry → Shelf → World
base_of base lines h kept = record base { lines = lines; history = h; keeper = kept }

abbrev pub base_walked : World → (place : ℕ) → (n : ℕ) → Talked → World
base_walked base place n c =
    base_of base (set base.lines place (line_walked (line_at base.lines place) n c)) (entries_on (suc place) c.entries ++ base.history) (shelf_of (key_of base.terminal.phone) base.keeper (entries_on (suc place) c.entries))

abbrev pub walked : OrderWorld → (place : ℕ) → (n : ℕ) → Talked → List ℕ → OrderWorld
walked w place n c results = record w { base = base_walked w.base place n c; results = results }

pub line_there : (w : OrderWorld) (place n : ℕ) (c : Talked) (results : List ℕ) → place < length w.base.lines → line_at (walked w place n c results).base.lines place ≡ line_walked (line_at w.base.lines place) n c
line_there w place n c results within = get_or-set_same w.base.lines place (line_walked (line_at w.base.lines place) n c) new_line within

-- ---- one octet

module _ (w : OrderWorld) (place : ℕ) (within : place < length w.base.lines) (opened : IsOpen w place) (n : ℕ) (c : Talked) (item : Option Unplaced) (way : Way) (results : List ℕ) (telling : Telling) (going : c.over ≡ false)
    (left : (line_at w.base.lines place).up.taken + n < length (line_at w.base.lines place).up.octets) (completes : completed_item (wire_at (line_at w.base.lines place).up n) ≡ item) where
  abbrev line : Line
  line = line_at w.base.lines place

  abbrev here : Line
  here = line_walked line n c

  abbrev v : OrderWorld
  v = walked w place n c results

  abbrev j : Talked
  j = talk_after_item c.state item way

  abbrev entries : Talked → List Entry
  entries x = entries_on (suc place) x.entries

  abbrev key : List ℕ
  key = key_of w.base.terminal.phone

  there : line_at v.base.lines place ≡ here
  there = line_there w place n c results within

  session_there : kept_of c ≡ Some c.state
  session_there = ap (λ (b : Bool). if b then None else Some c.state) going

  took : plain.after v.base (plain.Up place way) ≡ after_talk v.base place j
  took = ap (λ (l : Line). after_take v.base place l.session (completed_item l.up) way) there
      ∙ (ap (λ (o : Option State). after_take v.base place o (completed_item (wire_at line.up n)) way) session_there ∙ ap (λ (i : Option Unplaced). after_take v.base place (Some c.state) i way) completes)

  line_next : line_behind here j ≡ line_walked line (suc n) (onto c j)
  line_next = ap (λ (m : ℕ). record { up = record { octets = line.up.octets; taken = m }; down = record { octets = (line.down.octets ++ c.written) ++ j.written; taken = line.down.taken }; session = kept_of j; is_open = line.is_open }) (next_taken line.up.taken n)
      ∙ ap (λ (d : List ℕ). record { up = wire_at line.up (suc n); down = record { octets = d; taken = line.down.taken }; session = kept_of j; is_open = line.is_open }) (append_assoc line.down.octets c.written j.written)

  joined : entries_on (suc place) (j.entries ++ c.entries) ≡ entries j ++ entries c
  joined = map-append (λ (pair : Request × Reply). record { session = suc place; request = pair.0; reply = pair.1 }) j.entries c.entries

  history_next : entries j ++ (entries c ++ w.base.history) ≡ entries (onto c j) ++ w.base.history
  history_next = sym (append_assoc (entries j) (entries c) w.base.history) ∙ ap (λ (es : List Entry). es ++ w.base.history) (sym joined)

  keeper_next : shelf_of key (shelf_of key w.base.keeper (entries c)) (entries j) ≡ shelf_of key w.base.keeper (entries (onto c j))
  keeper_next = sym (shelf_append key w.base.keeper (entries j) (entries c)) ∙ ap (λ (es : List Entry). shelf_of key w.base.keeper es) (sym joined)

  abbrev lines_of : Line → List Line
  lines_of l = set w.base.lines place l

  base_next : after_talk v.base place j ≡ base_walked w.base place (suc n) (onto c j)
  base_next = ap (λ (l : Line). base_of w.base (set (lines_of here) place (line_behind l j)) (entries j ++ (entries c ++ w.base.history)) (shelf_of key (shelf_of key w.base.keeper (entries c)) (entries j))) there
      ∙ (ap (λ (ls : List Line). base_of w.base ls (entries j ++ (entries c ++ w.base.history)) (shelf_of key (shelf_of key w.base.keeper (entries c)) (entries j))) (set-set w.base.lines place here (line_behind here j))
      ∙ (ap (λ (l : Line). base_of w.base (lines_of l) (entries j ++ (entries c ++ w.base.history)) (shelf_of key (shelf_of key w.base.keeper (entries c)) (entries j))) line_next
      ∙ (ap (λ (h : List Entry). base_of w.base (lines_of (line_walked line (suc n) (onto c j))) h (shelf_of key (shelf_of key w.base.keeper (entries c)) (entries j))) history_next
      ∙ ap (λ (z : Shelf). base_of w.base (lines_of (line_walked line (suc n) (onto c j))) (entries (onto c j) ++ w.base.history) z) keeper_next)))

  pub is : after v (Up place way telling) ≡ walked w place (suc n) (onto c j) (results_after results telling)
  is = ap (λ (z : World). record w { base = z; results = results_after results telling }) (took ∙ base_next)

  pub may_take : MayTalk v.base place c.state item way → MayTake v.base place way
  may_take goes = record {
    opened = subst (λ (m : ℕ). place < m) (sym (length-set w.base.lines place here)) within;
    is_open = ap (λ (l : Line). l.is_open) there ∙ opened;
    left = subst (λ (l : Line). l.up.taken < length l.up.octets) (sym there) left;
    goes = subst (λ (l : Line). MayGoOn v.base place l.session (completed_item l.up) way) (sym there) (subst (λ (o : Option State). MayGoOn v.base place o (completed_item (wire_at line.up n)) way) (sym session_there)
        (subst (λ (i : Option Unplaced). MayTalk v.base place c.state i way) (sym completes) goes));
  }

  pub tells_there : MayTell v place item way telling → MayTell v place (completed_item (line_at v.base.lines place).up) way telling
  tells_there tells = subst (λ (i : Option Unplaced). MayTell v place i way telling) (sym (ap (λ (l : Line). completed_item l.up) there ∙ completes)) tells

  abbrev pub step : MayTalk v.base place c.state item way → MayTell v place item way telling → Leads v (walked w place (suc n) (onto c j) (results_after results telling))
  step goes tells =
      steps_to v (after v (Up place way telling)) (walked w place (suc n) (onto c j) (results_after results telling)) (one_step v (Up place way telling) (may_take goes, tells_there tells)) is
