-- On each line the terminal heard what the octets are that it took there.
use Rattle.std.proofs.Common.{ℕ, zero, suc, ◌<◌, ◌≡◌, ◌≢◌, ◌⊎◌, List, [], ◌∷◌, ◌++◌, length, set, map, Option, Some, None, Bool, refl, ap, sym, ◌∙◌, subst, inl, inr}
use Rattle.std.specs.Prelude.{if◌then◌else◌, ◌==◌}
use Rattle.std.specs.List.{filter}
use Rattle.std.specs.Option.{option_to_list}
use Rattle.std.proofs.lemmas.Bool.{cases_eq, eq-eqb, ne_eqb}
use Rattle.std.proofs.lemmas.List.{append-nil, append_assoc, get_or-set_same, get_or-set_other, map-append}
use Rattle.std.proofs.lemmas.List.Elements.{filter-append}
use Rattle.jt_value.specs.declared.phone.Phone.{Phone}
use Rattle.jt_stream.specs.Unplaced.{Unplaced, items}
use Rattle.jt_subpacket.specs.Partials.{Partial}
use Rattle.jt_session.specs.Talk.{State, Way}
use Rattle.jt_terminal.specs.Line.{kept_behind, kept_by, of_item, partial_of}
use Rattle.jt_terminal_rule.specs.Rule.{Heard}
use Rattle.jt_terminal_rule.specs.Steps.{TerminalStep, writes}
use Rattle.jt_terminal_rule.specs.Steps as step
use Rattle.jt_delivery.specs.World.{Setting}
use Rattle.jt_octets.specs.World.{World, Line, completed_item, empty, line_at, with_one_taken, new_line, newest, newest_place, taken_of, written}
use Rattle.jt_octets.specs.Steps.{Event, Does, Up, Down, Cut, RestartPlatform, MayCome, MayGoOn, MayRead, after, after_read, after_step, after_take, line_behind, shut, talk_after_item, writing}
use Rattle.jt_value.specs.Reaching.{MayAll, after_all}
use Rattle.jt_octets.specs.Reaching.{Reached}
use Rattle.jt_octets.specs.Claim.{EachReachedHears, heard_along, heard_at, heard_by, heard_of, heard_on}
use Rattle.jt_octets.proofs.Views.{StreamLaws}
use Rattle.jt_octets.proofs.Exact.{Behind, one_behind}
use Rattle.jt_octets.proofs.Exactly.{IsExact, empty_exact, newest_within, stays_exact, taken_same}

-- ---- lists

heard_both : (partial : List Partial) (xs ys : List Unplaced) → heard_of partial (xs ++ ys) ≡ heard_of partial xs ++ heard_of (kept_behind partial xs) ys
heard_both partial [] ys = refl
heard_both partial (x ∷ xs) ys = ap (λ (z : List Heard). option_to_list (of_item partial x) ++ z) (heard_both (kept_by partial x) xs ys)
    ∙ sym (append_assoc (option_to_list (of_item partial x)) (heard_of (kept_by partial x) xs) (heard_of (kept_behind (kept_by partial x) xs) ys))

on_both : (a b : List (ℕ × Heard)) (place : ℕ) → heard_on (a ++ b) place ≡ heard_on a place ++ heard_on b place
on_both a b place =
    ap (map (λ (h : ℕ × Heard). h.1)) (filter-append (λ (h : ℕ × Heard). h.0 == place) a b)
    ∙ map-append (λ (h : ℕ × Heard). h.1) (filter (λ (h : ℕ × Heard). h.0 == place) a) (filter (λ (h : ℕ × Heard). h.0 == place) b)

on_own : (p : ℕ) (xs : List Heard) → heard_on (map (λ (x : Heard). (p, x)) xs) p ≡ xs
on_own p [] = refl
on_own p (x ∷ xs) =
    let rest = filter (λ (h : ℕ × Heard). h.0 == p) (map (λ (x : Heard). (p, x)) xs) in
    ap (λ (b : Bool). map (λ (h : ℕ × Heard). h.1) (if b then (p, x) ∷ rest else rest)) (eq-eqb p p refl) ∙ ap (λ (z : List Heard). x ∷ z) (on_own p xs)

on_other : (p place : ℕ) (xs : List Heard) → p ≢ place → heard_on (map (λ (x : Heard). (p, x)) xs) place ≡ []
on_other p place [] apart = refl
on_other p place (x ∷ xs) apart =
    let rest = filter (λ (h : ℕ × Heard). h.0 == place) (map (λ (x : Heard). (p, x)) xs) in
    ap (λ (b : Bool). map (λ (h : ℕ × Heard). h.1) (if b then (p, x) ∷ rest else rest)) (ne_eqb p place apart) ∙ on_other p place xs apart

-- ---- lines of which nothing was read

put_taken : (lines : List Line) (place : ℕ) (x : Line) → taken_of x.down ≡ taken_of (line_at lines place).down → (q : ℕ) → taken_of (line_at (set lines place x) q).down ≡ taken_of (line_at lines q).down
put_taken [] zero x same q = refl
put_taken [] (suc place) x same q = refl
put_taken (line ∷ lines) zero x same zero = same
put_taken (line ∷ lines) zero x same (suc q) = refl
put_taken (line ∷ lines) (suc place) x same zero = refl
put_taken (line ∷ lines) (suc place) x same (suc q) = put_taken lines place x same q

opened_taken : (lines : List Line) (q : ℕ) → taken_of (line_at (lines ++ new_line ∷ []) q).down ≡ taken_of (line_at lines q).down
opened_taken [] zero = refl
opened_taken [] (suc q) = refl
opened_taken (line ∷ lines) zero = refl
opened_taken (line ∷ lines) (suc q) = opened_taken lines q

shut_taken : (lines : List Line) (q : ℕ) → taken_of (line_at (map shut lines) q).down ≡ taken_of (line_at lines q).down
shut_taken [] q = refl
shut_taken (line ∷ lines) zero = refl
shut_taken (line ∷ lines) (suc q) = shut_taken lines q

writing_taken : (lines : List Line) (octets : List ℕ) (q : ℕ) → taken_of (line_at (writing lines octets) q).down ≡ taken_of (line_at lines q).down
writing_taken lines octets q = put_taken lines (newest_place lines) (let line = line_at lines (newest_place lines) in record line { up = written line.up octets }) refl q

does_taken : (w : World) (s : TerminalStep) (q : ℕ) → taken_of (line_at (after_step w s).lines q).down ≡ taken_of (line_at w.lines q).down
does_taken w (step.Sends place) q = writing_taken w.lines (writes w.terminal (step.Sends place)) q
does_taken w (step.Says h body) q = writing_taken w.lines (writes w.terminal (step.Says h body)) q
does_taken w step.Opens q = opened_taken w.lines q
does_taken w (step.Records fix) q = refl
does_taken w (step.Forms unit) q = refl
does_taken w step.Accepts q = refl
does_taken w step.Loses q = refl
does_taken w (step.Restarts phone) q = refl
does_taken w (step.Codes code) q = refl

-- ---- one event

abbrev line_heard : World → ℕ → List Heard
line_heard w place = heard_of [] (items (taken_of (line_at w.lines place).down))

unheard : (old now : World) (place : ℕ) → taken_of (line_at now.lines place).down ≡ taken_of (line_at old.lines place).down → line_heard old place ++ [] ≡ line_heard now place
unheard old now place same = append-nil (line_heard old place) ∙ ap (λ (octets : List ℕ). heard_of [] (items octets)) (sym same)

take_heard : (w : World) (place : ℕ) (way : Way) → IsExact w → place < length w.lines → (o : Option State) → MayGoOn w place o (completed_item (line_at w.lines place).up) way → (q : ℕ)
    → line_heard w q ++ [] ≡ line_heard (after_take w place o (completed_item (line_at w.lines place).up) way) q
take_heard w place way e lt None goes q = absurd goes
take_heard w place way e lt (Some s) goes q =
    let k = talk_after_item s (completed_item (line_at w.lines place).up) way in
    unheard w (after_take w place (Some s) (completed_item (line_at w.lines place).up) way) q
    (put_taken w.lines place (line_behind (line_at w.lines place) k) (taken_same (line_at w.lines place).down k.written (e.each place lt).down_within) q)

module _ (w : World) (takes : Bool) (e : IsExact w) (may : MayRead w takes) where
  abbrev n : ℕ
  n = newest_place w.lines

  abbrev x : Line
  x = record (newest w) { down = with_one_taken (newest w).down }

  read_own : (item : Option Unplaced) → Behind (newest w).down item → line_heard w n ++ heard_on (heard_by w item) n ≡ heard_of [] (items (taken_of x.down))
  read_own None behind = append-nil (line_heard w n) ∙ ap (heard_of []) (sym behind)
  read_own (Some item) behind =
      ap (λ (z : List Heard). line_heard w n ++ z) (on_own n (option_to_list (of_item w.partial item)) ∙ (sym (append-nil (option_to_list (of_item w.partial item)))
      ∙ ap (λ (p : List Partial). heard_of p (item ∷ [])) (e.hears may.some)))
      ∙ (sym (heard_both [] (items (taken_of (newest w).down)) (item ∷ [])) ∙ ap (heard_of []) (sym behind))

  read_other : (item : Option Unplaced) (place : ℕ) → place ≢ n → heard_on (heard_by w item) place ≡ []
  read_other None place apart = refl
  read_other (Some item) place apart = on_other n place (option_to_list (of_item w.partial item)) (λ f. apart (sym f))

  read_heard : (item : Option Unplaced) → Behind (newest w).down item → (place : ℕ) → (place ≡ n) ⊎ (place ≢ n) → line_heard w place ++ heard_on (heard_by w item) place ≡ line_heard (after_read w item takes) place
  read_heard item behind place (inl same) = subst (λ (q : ℕ). line_heard w q ++ heard_on (heard_by w item) q ≡ line_heard (after_read w item takes) q) (sym same)
      (read_own item behind ∙ ap (λ (line : Line). heard_of [] (items (taken_of line.down))) (sym (get_or-set_same w.lines n x new_line (newest_within w.lines may.some))))
  read_heard item behind place (inr apart) =
      ap (λ (z : List Heard). line_heard w place ++ z) (read_other item place apart)
      ∙ (append-nil (line_heard w place) ∙ ap (λ (line : Line). heard_of [] (items (taken_of line.down))) (sym (get_or-set_other w.lines n place x new_line apart)))

-- what was heard on a line, and at an event, is what was heard on it behind the event
one_heard : StreamLaws → (w : World) (event : Event) → IsExact w → MayCome w event → (place : ℕ) → line_heard w place ++ heard_on (heard_at w event) place ≡ line_heard (after w event) place
one_heard laws w (Does s) e may place = unheard w (after_step w s) place (does_taken w s place)
one_heard laws w (Up at way) e may place = take_heard w at way e may.opened (line_at w.lines at).session may.goes place
one_heard laws w (Down takes) e may place = read_heard w takes e may (completed_item (newest w).down) (one_behind laws (newest w).down may.left) place (cases_eq place (newest_place w.lines))
one_heard laws w (Cut at) e may place = unheard w (after w (Cut at)) place (put_taken w.lines at (shut (line_at w.lines at)) refl place)
one_heard laws w RestartPlatform e may place = unheard w (after w RestartPlatform) place (shut_taken w.lines place)

-- ---- all events

all_heard : StreamLaws → (w : World) (events : List Event) → IsExact w → MayAll MayCome after w events → (place : ℕ) → line_heard w place ++ heard_on (heard_along w events) place ≡ line_heard (after_all after w events) place
all_heard laws w [] e may place = append-nil (line_heard w place)
all_heard laws w (event ∷ events) e may place =
    let at = heard_on (heard_at w event) place in
    let more = heard_on (heard_along (after w event) events) place in
    ap (λ (z : List Heard). line_heard w place ++ z) (on_both (heard_at w event) (heard_along (after w event) events) place)
    ∙ (sym (append_assoc (line_heard w place) at more)
    ∙ (ap (λ (z : List Heard). z ++ more) (one_heard laws w event e may.0 place)
    ∙ all_heard laws (after w event) events (stays_exact laws w event e may.0) may.1 place))

nothing : (phone : Phone) (setting : Setting) (place : ℕ) → line_heard (empty phone setting) place ≡ []
nothing phone setting zero = refl
nothing phone setting (suc place) = refl

pub each_hears : StreamLaws → EachReachedHears
each_hears laws w r place lt =
    let all = heard_on (heard_along (empty r.phone r.setting) r.leads.events) place in
    ap (λ (z : List Heard). z ++ all) (sym (nothing r.phone r.setting place))
    ∙ (all_heard laws (empty r.phone r.setting) r.leads.events (empty_exact laws r.phone r.setting) r.leads.may place ∙ ap (λ (v : World). line_heard v place) r.leads.to)
