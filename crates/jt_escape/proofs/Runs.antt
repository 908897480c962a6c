-- Octets that are taken at once lead to where they lead one by one.
use Rattle.std.proofs.Common.{◌≡◌, ◌≢◌, ℕ, zero, suc, ◌+◌, ◌-◌, ◌<◌, ◌≤◌, eqb, Bool, true, false, ◌⊎◌, Option, Some, None, List, [], ◌∷◌, ◌++◌, length, take, drop, get_or, refl, sym, ap, subst, ◌∙◌, append_assoc, arith, inl, inr, take_all, take-add, length-append, length-take-le, length-drop}
use Rattle.std.proofs.Math.Seq.{take-append-add}
use Rattle.std.proofs.lemmas.Bool.{cases_lt, ne_eqb, eq-eqb, false≢true}
use Rattle.std.specs.Prelude.{unwrap_or, slice_range}
use Rattle.memchr.specs.Find.{IsFirstByte, is_byte, is_byte2}
use Rattle.std.proofs.lemmas.List.{append-nil, take-append-le, take-append-drop, take-take, take_more}
use Rattle.jt_escape.specs.declared.splitter.Mode.{Mode}
use Rattle.jt_escape.specs.declared.splitter.Mode.TheVariants as modes
use Rattle.jt_escape.specs.Span.{Event, HasNoFlag, Events}
use Rattle.jt_escape.specs.Scan.{State, start, after, events_of, run, scan, IsPlain, keeping, passing, gathering, standing, StandsAtFront, keeping_all, passing_all, opening, lasting, Runs, RunsInPlace}
use Rattle.jt_escape.specs.Splitter.{Takes, TakesInPlace, IsSilent, IsSilentInPlace}
use Rattle.jt_escape.proofs.Scanning.{at}
use Rattle.jt_escape.proofs.Reading.{scan-append, run-append, events_held, events_only}
use Rattle.jt_escape.proofs.Lasting.{run_like, scan_like}

-- ---- runs of octets, one after another

nothing_before : {A : Type 0} (xs ys : List A) → xs ++ ys ≡ [] → xs ≡ []
nothing_before [] ys e = refl
nothing_before (x ∷ xs) ys e = absurd cc

-- octets without an event have none on the way
quiet_front : (state : State) (octets : List ℕ) (count : ℕ) → scan state octets ≡ [] → scan state (take count octets) ≡ []
quiet_front state octets count none =
    let apart : scan state (take count octets ++ drop count octets) ≡ [] = ap (scan state) (take-append-drop count octets) ∙ none in
    nothing_before (scan state (take count octets)) (scan (run state (take count octets)) (drop count octets))
    (sym (scan-append (take count octets) (drop count octets) state) ∙ apart)

pub Runs-quiet : (old new : State) (octets : List ℕ) → new ≡ run old octets → scan old octets ≡ [] → Runs old new octets []
Runs-quiet old new octets e none = record { reached = e; read = sym none; quiet = λ count lt. quiet_front old octets count none }

-- no octets
pub Runs-none : (state : State) → Runs state state [] []
Runs-none state = Runs-quiet state state [] refl refl

quiet_one : (state : State) (octet count : ℕ) → count < 1 → scan state (take count (octet ∷ [])) ≡ []
quiet_one state octet zero lt = refl
quiet_one state octet (suc count) lt = absurd (omega (arith, lt))

-- one octet
pub Runs-one : (old new : State) (octet : ℕ) (events : List Event) → new ≡ after old octet → events ≡ events_of old octet → Runs old new (octet ∷ []) events
Runs-one old new octet events e f =
    record { reached = e; read = f ∙ sym (append-nil (events_of old octet)); quiet = λ count lt. quiet_one old octet count lt }

-- a state is like itself
pub Runs-kept : (old new : State) (octets : List ℕ) (events : List Event) → Runs old new octets events → RunsInPlace old new octets events
Runs-kept old new octets events runs = record { kept = new; runs = runs; alike = refl }

quiet_then : (a b : State) (x y : List ℕ) (count : ℕ) → Runs a b x [] → ((count : ℕ) → count < length y → scan b (take count y) ≡ [])
    → count < length (x ++ y) → scan a (take count (x ++ y)) ≡ []
quiet_then a b x y count first second lt =
    elim (cases_lt count (length x)) [
      | inl within ↦ ap (scan a) (take-append-le count x y (omega (arith, within))) ∙ first.quiet count within
      | inr past ↦
          let more : ℕ = count - length x in
          let total : length x + more ≡ count = omega (arith, past) in
          ap (λ (n : ℕ). scan a (take n (x ++ y))) (sym total) ∙ ap (scan a) (take-append-add x y more) ∙ scan-append x (take more y) a
          ∙ ap (λ (xs : List Event). xs ++ scan (run a x) (take more y)) (sym first.read) ∙ ap (λ (s : State). scan s (take more y)) (sym first.reached)
          ∙ second more (omega (arith, lt, past, length-append x y))
    ]

-- octets without an event, and then others
pub Runs-then : (a b c : State) (x y : List ℕ) (g : List Event) → Runs a b x [] → Runs b c y g → Runs a c (x ++ y) g
Runs-then a b c x y g first second =
    record {
      reached = second.reached ∙ ap (λ (s : State). run s y) first.reached ∙ sym (run-append x y a);
      read = second.read ∙ ap (λ (s : State). scan s y) first.reached ∙ ap (λ (xs : List Event). xs ++ scan (run a x) y) first.read ∙ sym (scan-append x y a);
      quiet = λ count lt. quiet_then a b x y count first second.quiet lt;
    }

-- the front of a piece, and then the front of what is left of it
pub Runs-onward : (a b c : State) (piece : List ℕ) (i n : ℕ) (g : List Event) → Runs a b (take i piece) [] → Runs b c (take n (slice_range piece i (length piece))) g
    → Runs a c (take (i + n) piece) g
Runs-onward a b c piece i n g first second =
    let left : slice_range piece i (length piece) ≡ drop i piece = take_all (length piece - i) (drop i piece) (omega (arith, length-drop i piece)) in
    subst (λ (octets : List ℕ). Runs a c octets g) (sym (take-add i n piece))
    (Runs-then a b c _ _ g first (subst (λ (octets : List ℕ). Runs b c (take n octets) g) left second))

-- the front of a piece, and then the octet behind it
pub Runs-next : (a b c : State) (piece : List ℕ) (i : ℕ) (g : List Event) → i < length piece → Runs a b (take i piece) [] → c ≡ after b (get_or piece i 0)
    → g ≡ events_of b (get_or piece i 0) → Runs a c (take (i + 1) piece) g
Runs-next a b c piece i g within first reached read =
    subst (λ (octets : List ℕ). Runs a c octets g) (sym (take_more piece i 0 within)) (Runs-then a b c _ _ g first (Runs-one b c (get_or piece i 0) g reached read))

-- the first octet, and then the front of what is left
pub Runs-first : (a b c : State) (piece : List ℕ) (n : ℕ) (g : List Event) → 0 < length piece → b ≡ after a (get_or piece 0 0) → events_of a (get_or piece 0 0) ≡ []
    → Runs b c (take n (slice_range piece 1 (length piece))) g → Runs a c (take (1 + n) piece) g
Runs-first a b c piece n g some reached quiet second = Runs-onward a b c piece 1 n g (Runs-next a a b piece 0 [] some (Runs-none a) reached (sym quiet)) second

-- a flag outside opens a frame
pub opens_frame : (old : State) (octet : ℕ) → (old.mode ≡ modes.Outside) ⊎ (old.mode ≡ modes.Straying) → octet ≡ 0x7E
    → (after old octet ≡ opening old) × (events_of old octet ≡ [])
unfolding after events_of
opens_frame old octet (inl is) flag = (rw (is, flag) refl, rw (is, flag) refl)
opens_frame old octet (inr is) flag = (rw (is, flag) refl, rw is refl)

-- ---- one octet that is kept

mode_is : (state : State) (mode : Mode) → state.mode ≡ mode → state ≡ at mode state.content state.place state.opened
mode_is state mode e = ap (λ (m : Mode). at m state.content state.place state.opened) e

moved : (mode : Mode) (kept content : List ℕ) (place q opened : ℕ) → kept ≡ content → place ≡ q → at mode kept place opened ≡ at mode content q opened
moved mode kept content place q opened e f = cc

keeps_one : (octet : ℕ) (kept : List ℕ) (place opened : ℕ) → octet ≢ 0x7E → octet ≢ 0x7D → length kept < 1045
    → (after (at modes.Inside kept place opened) octet ≡ at modes.Inside (kept ++ octet ∷ []) (place + 1) opened) × (events_of (at modes.Inside kept place opened) octet ≡ [])
unfolding after events_of
keeps_one octet kept place opened flag escape lt =
    let short : eqb (length kept) 1045 ≡ false = ne_eqb _ _ (λ e. omega (arith, e)) in
    (simp (ne_eqb octet 0x7E flag, ne_eqb octet 0x7D escape, short), simp (ne_eqb octet 0x7E flag, ne_eqb octet 0x7D escape, short))

-- an escape begins, and it is the octet that its code says
escape_begins : (old : State) → old.mode ≡ modes.Inside → length old.content < 1045 → (after old 0x7D ≡ passing old modes.Escaping) × (events_of old 0x7D ≡ [])
unfolding after events_of
escape_begins old is room = let short : eqb (length old.content) 1045 ≡ false = ne_eqb _ _ (λ e. omega (arith, e)) in (rw (is, short) refl, rw (is, short) refl)

escape_stands : (state : State) (code octet : ℕ) → state.mode ≡ modes.Escaping → ((code ≡ 0x01) × (octet ≡ 0x7D)) ⊎ ((code ≡ 0x02) × (octet ≡ 0x7E))
    → (after state code ≡ keeping state octet) × (events_of state code ≡ [])
unfolding after events_of
escape_stands state code octet is (inl both) = (rw (is, both.0, both.1) refl, rw (is, both.0) refl)
escape_stands state code octet is (inr both) = (rw (is, both.0, both.1) refl, rw (is, both.0) refl)

-- what is gathered is kept at any place
gathered_there : (old new : State) (octet p q : ℕ) → old.mode ≡ modes.Inside → new ≡ gathering old octet → q ≡ p + 1 → standing new q ≡ keeping (standing old p) octet
gathered_there old new octet p q is e f = rw (e, f, is) refl

-- an escape, behind others
escape_behind : (start old new : State) (piece : List ℕ) (i octet : ℕ) → old.mode ≡ modes.Inside → length old.content < 1045 → i + 1 < length piece → get_or piece i 0 ≡ 0x7D
    → ((get_or piece (i + 1) 0 ≡ 0x01) × (octet ≡ 0x7D)) ⊎ ((get_or piece (i + 1) 0 ≡ 0x02) × (octet ≡ 0x7E)) → new ≡ gathering old octet
    → Runs start (standing old (start.place + i)) (take i piece) [] → Runs start (standing new (start.place + (i + 2))) (take (i + 2) piece) []
escape_behind start old new piece i octet is room two escape code e before =
    let here = standing old (start.place + i) in
    let mid = passing here modes.Escaping in
    let begins = rw (sym escape) at escape_begins here is room in
    let stands = escape_stands mid (get_or piece (i + 1) 0) octet refl code in
    let kept : standing new (start.place + (i + 2)) ≡ keeping mid octet =
    rw (e, is) (moved modes.Inside (old.content ++ octet ∷ []) (old.content ++ octet ∷ []) (start.place + (i + 2)) (start.place + i + 1 + 1) old.opened refl (omega arith)) in
    let both : i + 1 + 1 ≡ i + 2 = omega arith in
    subst (λ (n : ℕ). Runs start (standing new (start.place + (i + 2))) (take n piece) []) both
    (Runs-next start mid (standing new (start.place + (i + 2))) piece (i + 1) [] two (Runs-next start here mid piece i [] (omega (arith, two)) before (sym begins.0) (sym begins.1)) (kept ∙ sym stands.0) (sym stands.1))

pub escape_runs : (old new : State) (piece : List ℕ) (octet : ℕ) → old.mode ≡ modes.Inside → length old.content < 1045 → 1 < length piece → get_or piece 0 0 ≡ 0x7D
    → ((get_or piece 1 0 ≡ 0x01) × (octet ≡ 0x7D)) ⊎ ((get_or piece 1 0 ≡ 0x02) × (octet ≡ 0x7E)) → new ≡ gathering old octet
    → (place : ℕ) → Runs (standing old place) (standing new (place + 2)) (take 2 piece) []
escape_runs old new piece octet is room two escape code e place =
    let here = standing old place in
    let zeroth : place + 0 ≡ place = omega arith in
    escape_behind here old new piece 0 octet is room two escape code e (subst (λ (n : ℕ). Runs here (standing old n) [] []) (sym zeroth) (Runs-none here))

-- an octet that stands for itself, behind others
plain_behind : (start old new : State) (piece : List ℕ) (i : ℕ) → old.mode ≡ modes.Inside → length old.content < 1045 → i < length piece → get_or piece i 0 ≢ 0x7E → get_or piece i 0 ≢ 0x7D
    → new ≡ gathering old (get_or piece i 0) → Runs start (standing old (start.place + i)) (take i piece) [] → Runs start (standing new (start.place + (i + 1))) (take (i + 1) piece) []
plain_behind start old new piece i is room some flag escape e before =
    let place : ℕ = start.place + i in
    let at_here : standing old place ≡ at modes.Inside old.content place old.opened = mode_is (standing old place) modes.Inside is in
    let kept = keeps_one (get_or piece i 0) old.content place old.opened flag escape room in
    Runs-next start (standing old place) (standing new (start.place + (i + 1))) piece i [] some before
    (gathered_there old new (get_or piece i 0) place (start.place + (i + 1)) is e (omega arith) ∙ sym kept.0 ∙ ap (λ (state : State). after state (get_or piece i 0)) (sym at_here))
    (sym (ap (λ (state : State). events_of state (get_or piece i 0)) at_here ∙ kept.1))

-- an octet of content that stands behind others
pub front_behind : (start old new : State) (piece : List ℕ) (i count octet : ℕ) → old.mode ≡ modes.Inside → length old.content < 1045 → i + 1 < length piece
    → StandsAtFront (get_or piece i 0) (get_or piece (i + 1) 0) count octet → new ≡ gathering old octet → Runs start (standing old (start.place + i)) (take i piece) []
    → Runs start (standing new (start.place + (i + count))) (take (i + count) piece) []
front_behind start old new piece i count octet is room two (inl h) e before =
    subst (λ (n : ℕ). Runs start (standing new (start.place + (i + n))) (take (i + n) piece) []) (sym h.0) (escape_behind start old new piece i octet is room two h.1 h.2 e before)
front_behind start old new piece i count octet is room two (inr h) e before =
    subst (λ (n : ℕ). Runs start (standing new (start.place + (i + n))) (take (i + n) piece) []) (sym h.0)
    (plain_behind start old new piece i is room (omega (arith, two)) h.1 h.2 (e ∙ ap (gathering old) h.3) before)

-- ---- what a run is to the streams

-- what is scanned behind a stream is what its events gain
gains_scanned : (stream octets : List ℕ) (before events : List Event) → scan (run start stream) octets ≡ events → Events stream before → Events (stream ++ octets) (before ++ events)
gains_scanned stream octets before events same held =
    let whole : scan start (stream ++ octets) ≡ before ++ events =
    scan-append stream octets start ∙ ap (λ (xs : List Event). scan start stream ++ xs) same ∙ ap (λ (xs : List Event). xs ++ events) (sym (events_only stream before held)) in
    subst (Events (stream ++ octets)) whole (events_held (stream ++ octets))

pub takes_run : (old new : State) (octets : List ℕ) (events : List Event) → Runs old new octets events → Takes old new octets events
takes_run old new octets events runs =
    record {
      stands = λ stream h. record { taken = runs.reached ∙ ap (λ (state : State). run state octets) h.taken ∙ sym (run-append stream octets start) };
      events = λ stream before h held. gains_scanned stream octets before events (ap (λ (state : State). scan state octets) (sym h.taken) ∙ sym runs.read) held;
    }

pub takes_in_place : (old new : State) (octets : List ℕ) (events : List Event) → RunsInPlace old new octets events → TakesInPlace old new octets events
takes_in_place old new octets events in_place =
    let runs = in_place.runs in
    record {
      stands = λ stream h. record {
        taken = in_place.alike ∙ ap lasting runs.reached ∙ run_like octets old (run start stream) h.taken ∙ sym (ap lasting (run-append stream octets start));
      };
      events = λ stream before h held. gains_scanned stream octets before events (sym (scan_like octets old (run start stream) h.taken) ∙ sym runs.read) held;
    }

-- the octets of a run before its last bring no event
quiet_before : (old new : State) (piece : List ℕ) (count : ℕ) (events : List Event) → Runs old new (take count piece) events → count ≤ length piece
    → (fewer : ℕ) → fewer < count → scan old (take fewer piece) ≡ []
quiet_before old new piece count events runs within fewer below =
    ap (scan old) (sym (take-take fewer count piece (omega (arith, below)))) ∙ runs.quiet fewer (omega (arith, below, length-take-le count piece within))

-- and so no front of the octets that were taken
pub silent_before : (old new : State) (piece : List ℕ) (count : ℕ) (events : List Event) → Runs old new (take count piece) events → count ≤ length piece
    → (fewer : ℕ) → fewer < count → IsSilent old (take fewer piece)
silent_before old new piece count events runs within fewer below = λ stream before h held.
    let none : scan old (take fewer piece) ≡ [] = quiet_before old new piece count events runs within fewer below in
    subst (Events (stream ++ take fewer piece)) (append-nil before)
    (gains_scanned stream (take fewer piece) before [] (ap (λ (state : State). scan state (take fewer piece)) (sym h.taken) ∙ none) held)

pub silent_in_place : (old new : State) (piece : List ℕ) (count : ℕ) (events : List Event) → RunsInPlace old new (take count piece) events → count ≤ length piece
    → (fewer : ℕ) → fewer < count → IsSilentInPlace old (take fewer piece)
silent_in_place old new piece count events in_place within fewer below = λ stream before h held.
    let none : scan old (take fewer piece) ≡ [] = quiet_before old in_place.kept piece count events in_place.runs within fewer below in
    subst (Events (stream ++ take fewer piece)) (append-nil before)
    (gains_scanned stream (take fewer piece) before [] (sym (scan_like (take fewer piece) old (run start stream) h.taken) ∙ none) held)

-- ---- runs of octets that are kept, or passed over

keeps_run : (octets kept : List ℕ) (place opened : ℕ) → IsPlain octets → length kept + length octets ≤ 1045
    → (run (at modes.Inside kept place opened) octets ≡ at modes.Inside (kept ++ octets) (place + length octets) opened) × (scan (at modes.Inside kept place opened) octets ≡ [])
keeps_run [] kept place opened plain le = (moved modes.Inside kept (kept ++ []) place (place + 0) opened (sym (append-nil kept)) (omega arith), refl)
keeps_run (octet ∷ octets) kept place opened plain le =
    let first = keeps_one octet kept place opened plain.0 plain.1 (omega (arith, le)) in
    let others = keeps_run octets (kept ++ octet ∷ []) (place + 1) opened plain.2 (omega (arith, le, length-append kept (octet ∷ []))) in (
      ap (λ (state : State). run state octets) first.0 ∙ others.0
          ∙ moved modes.Inside ((kept ++ octet ∷ []) ++ octets) (kept ++ octet ∷ octets) _ _ opened (append_assoc kept (octet ∷ []) octets) (omega arith),
      ap (λ (xs : List Event). xs ++ scan (after (at modes.Inside kept place opened) octet) octets) first.1
          ∙ ap (λ (state : State). scan state octets) first.0 ∙ others.1,
    )

pub keeps_all_plain : (old : State) (octets : List ℕ) → old.mode ≡ modes.Inside → IsPlain octets → length old.content + length octets ≤ 1045 → Runs old (keeping_all old octets) octets []
keeps_all_plain old octets inside plain le =
    let here : old ≡ at modes.Inside old.content old.place old.opened = mode_is old modes.Inside inside in
    let there = keeps_run octets old.content old.place old.opened plain le in
    Runs-quiet old (keeping_all old octets) octets
    (sym there.0 ∙ ap (λ (state : State). run state octets) (sym here))
    (ap (λ (state : State). scan state octets) here ∙ there.1)

pub kept_runs : (old new : State) (octets : List ℕ) (count room : ℕ) → old.mode ≡ modes.Inside → IsPlain (take count (take room octets)) → count ≤ length (take room octets)
    → room ≤ length octets → length old.content + room ≤ 1045 → new ≡ keeping_all old (take count octets) → Runs old new (take count octets) []
kept_runs old new octets count room inside plain within least fits e =
    let short : count ≤ room = omega (arith, within, length-take-le room octets least) in
    subst (λ (state : State). Runs old state (take count octets) []) (sym e)
    (keeps_all_plain old (take count octets) inside (subst IsPlain (take-take count room octets short) plain) (omega (arith, short, fits, length-take-le count octets (omega (arith, short, least)))))

-- an opening flag, and content octets behind it that stand for themselves
pub begins : (old opened kept : State) (piece : List ℕ) (count : ℕ) → (old.mode ≡ modes.Outside) ⊎ (old.mode ≡ modes.Straying) → count ≤ 1045 → count + 1 ≤ length piece
    → get_or piece 0 0 ≡ 0x7E → IsPlain (slice_range piece 1 (count + 1)) → opened ≡ opening old → kept ≡ keeping_all opened (slice_range piece 1 (count + 1))
    → Runs old kept (take (count + 1) piece) []
begins old opened kept piece count mode short within flag plain e f =
    let begun = opens_frame old (get_or piece 0 0) mode flag in
    let rest : List ℕ = drop 1 piece in
    let content : List ℕ = slice_range piece 1 (count + 1) in
    let len : length content ≡ count = length-take-le (count + 1 - 1) rest (omega (arith, within, length-drop 1 piece)) ∙ omega arith in
    let fewer : count + 1 - 1 ≡ count = omega arith in
    let whole : slice_range piece 1 (length piece) ≡ rest = take_all (length piece - 1) rest (omega (arith, length-drop 1 piece)) in
    let front : content ≡ take count (slice_range piece 1 (length piece)) = ap (λ (n : ℕ). take n rest) fewer ∙ ap (take count) (sym whole) in
    let none : length opened.content ≡ 0 = ap (λ (state : State). length state.content) e in
    let runs : Runs opened kept content [] =
    subst (λ (state : State). Runs opened state content []) (sym f) (keeps_all_plain opened content (ap (λ (state : State). state.mode) e) plain (omega (arith, none, len, short))) in
    let total : 1 + count ≡ count + 1 = omega arith in
    subst (λ (n : ℕ). Runs old kept (take n piece) []) total
    (Runs-first old opened kept piece count [] (omega (arith, within)) (e ∙ sym begun.0) begun.1 (subst (λ (octets : List ℕ). Runs opened kept octets []) front runs))

-- in this mode an octet other than a flag is passed over
abbrev Passes : Mode → Type 0
Passes mode =
    (octet : ℕ) (kept : List ℕ) (place opened : ℕ) → octet ≢ 0x7E
    → (after (at mode kept place opened) octet ≡ at mode kept (place + 1) opened) × (events_of (at mode kept place opened) octet ≡ [])

strays_one : Passes modes.Straying
unfolding after events_of
strays_one octet kept place opened flag = (simp (ne_eqb octet 0x7E flag), refl)

skips_one : Passes modes.Skipping
unfolding after events_of
skips_one octet kept place opened flag = (simp (ne_eqb octet 0x7E flag), refl)

passes_run : (mode : Mode) → Passes mode → (octets kept : List ℕ) (place opened : ℕ) → HasNoFlag octets
    → (run (at mode kept place opened) octets ≡ at mode kept (place + length octets) opened) × (scan (at mode kept place opened) octets ≡ [])
passes_run mode passes [] kept place opened none = (moved mode kept kept place (place + 0) opened refl (omega arith), refl)
passes_run mode passes (octet ∷ octets) kept place opened none =
    let first = passes octet kept place opened none.0 in
    let others = passes_run mode passes octets kept (place + 1) opened none.1 in (
      ap (λ (state : State). run state octets) first.0 ∙ others.0 ∙ moved mode kept kept _ _ opened refl (omega arith),
      ap (λ (xs : List Event). xs ++ scan (after (at mode kept place opened) octet) octets) first.1
          ∙ ap (λ (state : State). scan state octets) first.0 ∙ others.1,
    )

passes_all : (mode : Mode) → Passes mode → (old : State) (octets : List ℕ) → old.mode ≡ mode → HasNoFlag octets → Runs old (passing_all old octets) octets []
passes_all mode passes old octets is none =
    let here : old ≡ at mode old.content old.place old.opened = mode_is old mode is in
    let there = passes_run mode passes octets old.content old.place old.opened none in
    Runs-quiet old (passing_all old octets) octets
    (mode_is (passing_all old octets) mode is ∙ sym there.0 ∙ ap (λ (state : State). run state octets) (sym here))
    (ap (λ (state : State). scan state octets) here ∙ there.1)

passes_straying : (old : State) (octets : List ℕ) → old.mode ≡ modes.Straying → HasNoFlag octets → Runs old (passing_all old octets) octets []
passes_straying old octets is none = passes_all modes.Straying strays_one old octets is none

passes_skipping : (old : State) (octets : List ℕ) → old.mode ≡ modes.Skipping → HasNoFlag octets → Runs old (passing_all old octets) octets []
passes_skipping old octets is none = passes_all modes.Skipping skips_one old octets is none

pub passed_runs : (old new : State) (octets : List ℕ) → (old.mode ≡ modes.Straying) ⊎ (old.mode ≡ modes.Skipping) → HasNoFlag octets → new ≡ passing_all old octets → Runs old new octets []
passed_runs old new octets mode none e =
    subst (λ (state : State). Runs old state octets []) (sym e) (elim mode [ inl is ↦ passes_straying old octets is none | inr is ↦ passes_skipping old octets is none ])

-- ---- what a search finds

-- up to here no octet is a flag
no_flag : (octets : List ℕ) (count : ℕ) → ((place : ℕ) → place < count → get_or octets place 0 ≢ 0x7E) → count ≤ length octets → HasNoFlag (take count octets)
no_flag octets zero none within = tt
no_flag [] (suc count) none within = tt
no_flag (octet ∷ octets) (suc count) none within =
    (none 0 (omega arith), no_flag octets count (λ place below. none (suc place) (omega (arith, below))) (omega (arith, within)))

-- up to here each octet stands for itself
all_plain : (octets : List ℕ) (count : ℕ) → ((place : ℕ) → place < count → (get_or octets place 0 ≢ 0x7E) × (get_or octets place 0 ≢ 0x7D)) → count ≤ length octets
    → IsPlain (take count octets)
all_plain octets zero none within = tt
all_plain [] (suc count) none within = tt
all_plain (octet ∷ octets) (suc count) none within =
    let here = none 0 (omega arith) in
    (here.0, here.1, all_plain octets count (λ place below. none (suc place) (omega (arith, below))) (omega (arith, within)))

pub no_flag_found : (octets : List ℕ) (found : Option ℕ) → IsFirstByte (is_byte 0x7E) octets found → HasNoFlag (take (unwrap_or found (length octets)) octets)
no_flag_found octets None first = no_flag octets (length octets) (λ place below e. first place (omega arith) below (eq-eqb _ _ e)) (omega arith)
no_flag_found octets (Some count) first =
    no_flag octets count (λ place below e. first.0.before place (omega arith) below (eq-eqb _ _ e)) (omega (arith, first.0.high))

marked : (octet : ℕ) → is_byte2 0x7E 0x7D octet ≡ false → (octet ≢ 0x7E) × (octet ≢ 0x7D)
marked octet other = (λ e. absurd (false≢true (sym other ∙ rw e refl)), λ e. absurd (false≢true (sym other ∙ rw e refl)))

unmarked : (b : Bool) → (b ≡ true → ⊥) → b ≡ false
unmarked true never = absurd (never refl)
unmarked false never = refl

pub plain_found : (octets : List ℕ) (found : Option ℕ) → IsFirstByte (is_byte2 0x7E 0x7D) octets found → IsPlain (take (unwrap_or found (length octets)) octets)
plain_found octets None first = all_plain octets (length octets) (λ place below. marked _ (unmarked _ (first place (omega arith) below))) (omega arith)
plain_found octets (Some count) first =
    all_plain octets count (λ place below. marked _ (unmarked _ (first.0.before place (omega arith) below))) (omega (arith, first.0.high))
