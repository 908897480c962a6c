-- A session stands behind steps that are none of its own.
use Rattle.std.proofs.Common.{ℕ, ◌<◌, ◌≤◌, ◌≡◌, ◌≢◌, List, [], ◌∷◌, ◌++◌, length, set, Option, Some, None, Bool, true, false, arith, refl, ap, sym, ◌∙◌, subst}
use Rattle.std.specs.Prelude.{◌==◌}
use Rattle.std.proofs.lemmas.Bool.{eqb-false, eqb-true}
use Rattle.std.proofs.lemmas.List.{get_or-set_other, get_or-set_same, get_or_append_left, length-append, length-set, take-append-le}
use Rattle.jt_value.specs.Sameness.{key_of}
use Rattle.jt_stream.specs.Unplaced.{items}
use Rattle.jt_store.specs.Verdicts.{alone}
use Rattle.jt_platform.specs.Allowed.{Opening}
use Rattle.jt_platform.specs.declared.request.Entry.{Entry}
use Rattle.jt_session.specs.Talk.{State}
use Rattle.jt_terminal_rule.specs.Steps.{Machine, MayStep, TerminalStep, hears, writes}
use Rattle.jt_terminal_rule.specs.Steps as step
use Rattle.jt_terminal_rule.specs.declared.state.Acknowledgement.{Acknowledgement}
use Rattle.jt_order.specs.Books.{Book}
use Rattle.jt_order_turns.specs.Headers.{answer_frame, first_header}
use Rattle.jt_order_turns.specs.Heard.{Heard, Ordered, Other, Nothing}
use Rattle.jt_obeying.specs.Orders.{ruling}
use Rattle.jt_order_turns.specs.Frames.{order_in}
use Rattle.jt_terminal_rule.specs.Law.{response_heard}
use Rattle.jt_terminal_rule.specs.Rule.{Whole}
use Rattle.jt_order_session.specs.Sessions.{OrderSeen, StandsForOrders}
use Rattle.jt_octets.specs.World.{Line, World, completed_item, line_at, new_line, newest, newest_place, opening_of, taken_of, with_one_taken, written}
use Rattle.jt_octets.specs.Steps.{accepting, shut, writing}
use Rattle.jt_octets.specs.Steps as plain
use Rattle.jt_order_octets.specs.World.{OrderWorld, sent_at}
use Rattle.jt_order_octets.specs.Steps.{Cut, Does, Down, Event, Issues, MayCome, Offers, RestartPlatform, Up, after, after_read, heard_next, result_by_ruling, with_one_read}
use Rattle.jt_order_play.specs.Playing.{book_of}
use Rattle.jt_order_session_steps.specs.Steps.{IsOfOthers, IsOpen, SessionsStandOn, SessionStandsIn}

-- ---- a line that a session finds as it was

abbrev Most : Line → Type 0
Most l = l.up.taken ≤ length l.up.octets

-- the session is kept so, and took the same octets, and the end is open as before
record Alike (old new : Line) : Type 0 where
  session : new.session ≡ old.session
  taken : taken_of new.up ≡ taken_of old.up
  most : Most new
  is_open : new.is_open ≡ old.is_open

alike_same : (old new : Line) → Most old → new ≡ old → Alike old new
alike_same old new most e = record {
  session = ap (λ (l : Line). l.session) e;
  taken = ap (λ (l : Line). taken_of l.up) e;
  most = subst Most (sym e) most;
  is_open = ap (λ (l : Line). l.is_open) e;
}

alike_both : (old mid new : Line) → Alike old mid → Alike mid new → Alike old new
alike_both old mid new first second = record { session = second.session ∙ first.session; taken = second.taken ∙ first.taken; most = second.most; is_open = second.is_open ∙ first.is_open }

-- more octets up
alike_written : (l : Line) (octets : List ℕ) → Most l → Alike l (record l { up = written l.up octets })
alike_written l octets most = record { session = refl; taken = take-append-le l.up.taken l.up.octets octets most; most = omega (arith, most, length-append l.up.octets octets); is_open = refl }

-- one octet that was read
alike_read : (l : Line) → Most l → Alike l (record l { down = with_one_taken l.down })
alike_read l most = record { session = refl; taken = refl; most = most; is_open = refl }

-- among lines of which one changed, and where it is this one it is alike
alike_set : (lines : List Line) (i place : ℕ) (new : Line) → place < length lines → Most (line_at lines place) → (i ≡ place → Alike (line_at lines place) new) → Alike (line_at lines place) (line_at (set lines i new) place)
alike_set lines i place new lt most same = by (i == place) refl
  where
    by : (b : Bool) → (i == place) ≡ b → Alike (line_at lines place) (line_at (set lines i new) place)
    by true e =
        let is = eqb-true i place e in
        subst (λ (n : ℕ). Alike (line_at lines place) (line_at (set lines n new) place)) (sym is) (subst (λ (l : Line). Alike (line_at lines place) l) (sym (get_or-set_same lines place new new_line lt)) (same is))
    by false e = alike_same (line_at lines place) (line_at (set lines i new) place) most (get_or-set_other lines i place new new_line (λ f. eqb-false i place e (sym f)))

-- the newest line is written on
alike_writing : (lines : List Line) (octets : List ℕ) (place : ℕ) → place < length lines → Most (line_at lines place) → Alike (line_at lines place) (line_at (writing lines octets) place)
alike_writing lines octets place lt most = alike_set lines (newest_place lines) place (record (line_at lines (newest_place lines)) { up = written (line_at lines (newest_place lines)).up octets }) lt most
    (λ e. subst (λ (n : ℕ). Alike (line_at lines place) (record (line_at lines n) { up = written (line_at lines n).up octets })) (sym e) (alike_written (line_at lines place) octets most))

alike_reading : (lines : List Line) (place : ℕ) → place < length lines → Most (line_at lines place)
    → Alike (line_at lines place) (line_at (set lines (newest_place lines) (record (line_at lines (newest_place lines)) { down = with_one_taken (line_at lines (newest_place lines)).down })) place)
alike_reading lines place lt most = alike_set lines (newest_place lines) place (record (line_at lines (newest_place lines)) { down = with_one_taken (line_at lines (newest_place lines)).down }) lt most
    (λ e. subst (λ (n : ℕ). Alike (line_at lines place) (record (line_at lines n) { down = with_one_taken (line_at lines n).down })) (sym e) (alike_read (line_at lines place) most))

-- ---- a world in which a session finds its line

module _ (w : OrderWorld) (place : ℕ) (s : OrderSeen) (o : Opening) (h : List Entry) (book : Option Book) (st : SessionStandsIn w place s o h book) where
  -- it stands where its line is there and alike, and its end is open as before
  stands_there : (v : OrderWorld) → place < length v.base.lines → place < length v.sent → Alike (line_at w.base.lines place) (line_at v.base.lines place) → sent_at v place ≡ sent_at w place → opening_of v.base ≡ opening_of w.base
      → SessionStandsIn v place s o v.base.history (Some (book_of v)) × (IsOpen w place → IsOpen v place)
  stands_there v within noted line sent opening = (
    record {
      within = within;
      noted = noted;
      number = st.number;
      most = line.most;
      keeps = line.session ∙ st.keeps;
      given = λ going. subst (λ (z : List ℕ). StandsForOrders s z) (sym line.taken) (st.given going);
      first = st.first ∙ ap (λ (z : List ℕ). first_header (items z)) (sym line.taken);
      sent = st.sent ∙ sym sent;
      opening = st.opening ∙ sym opening;
      history = refl;
      book_is = refl;
    },
    λ opened. line.is_open ∙ opened,
  )

  abbrev line : Line
  line = line_at w.base.lines place

  abbrev Stands : OrderWorld → Type 0
  Stands v = SessionStandsIn v place s o v.base.history (Some (book_of v)) × (IsOpen w place → IsOpen v place)

  self : Alike line line
  self = alike_same line line st.most refl

  -- of lines that are set the same are there
  set_within : (i : ℕ) (l : Line) → place < length (set w.base.lines i l)
  set_within i l = subst (λ (n : ℕ). place < n) (sym (length-set w.base.lines i l)) st.within

  wrote : (octets : List ℕ) → place < length (writing w.base.lines octets)
  wrote octets = set_within (newest_place w.base.lines) (record (line_at w.base.lines (newest_place w.base.lines)) { up = written (line_at w.base.lines (newest_place w.base.lines)).up octets })

  apart : (i : ℕ) (l : Line) → i ≢ place → Alike line (line_at (set w.base.lines i l) place)
  apart i l other = alike_set w.base.lines i place l st.within st.most (λ e. absurd (other e))

  -- ---- the terminal

  does : (t : TerminalStep) → MayStep w.base.terminal None t → Stands (after w (Does t))
  does step.Opens may = stands_there (after w (Does step.Opens)) (omega (arith, st.within, length-append w.base.lines (new_line ∷ []))) (omega (arith, st.noted, length-append w.sent (None ∷ [])))
      (alike_same line (line_at (w.base.lines ++ new_line ∷ []) place) st.most (get_or_append_left w.base.lines (new_line ∷ []) new_line place st.within)) (get_or_append_left w.sent (None ∷ []) None place st.noted) refl
  does (step.Sends unit) may = stands_there (after w (Does (step.Sends unit))) (wrote (writes w.base.terminal (step.Sends unit))) st.noted (alike_writing w.base.lines (writes w.base.terminal (step.Sends unit)) place st.within st.most) refl refl
  does (step.Says m body) may = stands_there (after w (Does (step.Says m body))) (wrote (writes w.base.terminal (step.Says m body))) st.noted (alike_writing w.base.lines (writes w.base.terminal (step.Says m body)) place st.within st.most) refl refl
  does (step.Records fix) may = stands_there (after w (Does (step.Records fix))) st.within st.noted self refl refl
  does (step.Forms unit) may = stands_there (after w (Does (step.Forms unit))) st.within st.noted self refl refl
  does step.Accepts may = stands_there (after w (Does step.Accepts)) st.within st.noted self refl refl
  does step.Loses may = stands_there (after w (Does step.Loses)) st.within st.noted self refl refl
  does (step.Restarts phone) may = stands_there (after w (Does (step.Restarts phone))) st.within st.noted self refl
      (ap (λ (key : List ℕ). record { tables = Some (alone key w.base.began); limit = w.base.setting.limit; fleet = w.base.setting.fleet; secret = w.base.setting.secret }) may.1)
  does (step.Codes code) may = stands_there (after w (Does (step.Codes code))) st.within st.noted self refl refl

  -- ---- what it reads

  heard_phone : (m : Machine) (just : Option Acknowledgement) (takes : Bool) → (accepting (hears m just) takes).phone ≡ m.phone
  heard_phone m None true = refl
  heard_phone m None false = refl
  heard_phone m (Some ack) true = refl
  heard_phone m (Some ack) false = refl

  read_opening : (just : Option Acknowledgement) (takes : Bool) → opening_of (with_one_read w.base just takes) ≡ opening_of w.base
  read_opening just takes = ap (λ phone. record { tables = Some (alone (key_of phone) w.base.began); limit = w.base.setting.limit; fleet = w.base.setting.fleet; secret = w.base.setting.secret }) (heard_phone w.base.terminal just takes)

  -- the lines behind an octet that the terminal read
  abbrev lines_read : List Line
  lines_read = set w.base.lines (newest_place w.base.lines) (record (newest w.base) { down = with_one_taken (newest w.base).down })

  read_within : place < length lines_read
  read_within = set_within (newest_place w.base.lines) (record (newest w.base) { down = with_one_taken (newest w.base).down })

  read_alike : Alike line (line_at lines_read place)
  read_alike = alike_reading w.base.lines place st.within st.most

  reads : (heard : Heard) (takes responds : Bool) → Stands (after_read w heard takes responds)
  reads (Ordered m octets message) takes true =
      let frame = answer_frame m (result_by_ruling w message (ruling w.log m.serial (order_in m octets))) in
      stands_there (after_read w (Ordered m octets message) takes true) (subst (λ (n : ℕ). place < n) (sym (length-set lines_read (newest_place lines_read) _)) read_within) st.noted
      (alike_both line (line_at lines_read place) (line_at (writing lines_read frame) place) read_alike (alike_writing lines_read frame place read_within read_alike.most)) refl (read_opening None false)
  reads (Ordered m octets message) takes false = stands_there (after_read w (Ordered m octets message) takes false) read_within st.noted read_alike refl (read_opening None false)
  reads (Other m message) takes responds = stands_there (after_read w (Other m message) takes responds) read_within st.noted read_alike refl (read_opening (response_heard (Whole m message)) takes)
  reads Nothing takes responds = stands_there (after_read w Nothing takes responds) read_within st.noted read_alike refl (read_opening None takes)

  -- ---- sessions of other lines

  ups : (i : ℕ) (way : _) (telling : _) (kept : Option State) → (line_at w.base.lines i).session ≡ kept → i ≢ place → Stands (after w (Up i way telling))
  ups i way telling None e other =
      let same = ap (λ (x : Option State). plain.after_take w.base i x (completed_item (line_at w.base.lines i).up) way) e in
      stands_there (after w (Up i way telling)) (subst (λ (z : World). place < length z.lines) (sym same) st.within) st.noted (subst (λ (z : World). Alike line (line_at z.lines place)) (sym same) self) refl (ap opening_of same)
  ups i way telling (Some state) e other =
      let same = ap (λ (x : Option State). plain.after_take w.base i x (completed_item (line_at w.base.lines i).up) way) e in
      stands_there (after w (Up i way telling)) (subst (λ (z : World). place < length z.lines) (sym same) (set_within i _)) st.noted (subst (λ (z : World). Alike line (line_at z.lines place)) (sym same) (apart i _ other)) refl (ap opening_of same)

  stands_on : (event : Event) → MayCome w event → IsOfOthers place event → Stands (after w event)
  stands_on (Issues order) may other = stands_there (after w (Issues order)) st.within st.noted self refl refl
  stands_on (Does t) may other = does t may.0
  stands_on (Up i way telling) may other = ups i way telling (line_at w.base.lines i).session refl other
  stands_on (Offers i) may other = stands_there (after w (Offers i)) (set_within i _) (subst (λ (n : ℕ). place < n) (sym (length-set w.sent i _)) st.noted) (apart i _ other) (get_or-set_other w.sent i place _ None (λ e. other (sym e))) refl
  stands_on (Down takes responds) may other = reads (heard_next w) takes responds
  stands_on (Cut i) may other = stands_there (after w (Cut i)) (set_within i _) st.noted (apart i _ other) refl refl
  stands_on RestartPlatform may other = absurd other

pub sessions_stand_on : SessionsStandOn
sessions_stand_on w event place s o h book may other st = stands_on w place s o h book st event may other
