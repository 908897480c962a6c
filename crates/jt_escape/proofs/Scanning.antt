-- Scanning the stream of some spans gives the events of the spans.
use Rattle.std.proofs.Common.{◌≡◌, ◌≢◌, ℕ, ◌+◌, ◌<◌, ◌≤◌, Bool, false, cond, eqb, List, [], ◌∷◌, ◌++◌, length, refl, sym, ap, ◌∙◌, append_assoc, arith, inl, inr, ◌⊎◌, length-append, add-zero}
use Rattle.std.proofs.lemmas.Bool.{cases_eq, ne_eqb}
use Rattle.std.proofs.lemmas.List.{append-nil}
use Rattle.jt_value.specs.declared.refusal.Why.{Why}
use Rattle.jt_value.specs.declared.refusal.Why.TheVariants as why
use Rattle.jt_escape.specs.declared.splitter.Mode.{Mode}
use Rattle.jt_escape.specs.declared.splitter.Mode.TheVariants as modes
use Rattle.jt_escape.specs.Frame.{escaped_octet, escaped}
use Rattle.jt_escape.specs.Span.{Event, Whole, refused_at, HasNoFlag, IsUpToFlag, IsAtFlagOrEnd, Span, Frame, Stray, Empty, BadEscape, TooLong, Unfinished, Escaping, span_octets, IsSpan, stream_of, AreSpans, events_at}
use Rattle.jt_escape.specs.Scan.{State, after, events_of}

-- a state by its parts
abbrev pub at : Mode → List ℕ → ℕ → ℕ → State
at mode kept place opened = record { mode = mode; content = kept; place = place; opened = opened }

-- the event of the end, if it is to be told
abbrev pub last_in : Bool → Mode → ℕ → List Event
last_in ending modes.Outside place = []
last_in ending modes.Straying place = []
last_in ending modes.Inside place = cond ending (refused_at why.Truncated place ∷ []) []
last_in ending modes.Escaping place = cond ending (refused_at why.Truncated place ∷ []) []
last_in ending modes.Skipping place = []

-- The scan, which tells the end too where ending is true.
module _ (ending : Bool) where
  -- the events that come on the way
  abbrev pub scanned : State → List ℕ → List Event
  scanned state [] = last_in ending state.mode state.place
  scanned state (octet ∷ more) = events_of state octet ++ scanned (after state octet) more

  -- the event of the end after this span
  abbrev pub end_events : ℕ → Span → List Event
  end_events place (Unfinished content) = cond ending (refused_at why.Truncated place ∷ []) []
  end_events place (Escaping content) = cond ending (refused_at why.Truncated place ∷ []) []
  end_events place (Frame content) = []
  end_events place (Stray front) = []
  end_events place Empty = []
  end_events place (BadEscape content octet skipped) = []
  end_events place (TooLong content octet skipped) = []

  -- the events of spans, with those of the end after each
  abbrev pub all_from : ℕ → List Span → List Event
  all_from place [] = []
  all_from place (span ∷ spans) = (events_at place span ++ end_events (place + length (span_octets span)) span) ++ all_from (place + length (span_octets span)) spans

  -- ---- inside a frame

  -- a content octet as it is on the line is kept
  keeps : (octet : ℕ) (kept rest : List ℕ) (place opened : ℕ) → length kept < 1045
      → scanned (at modes.Inside kept place opened) (escaped_octet octet ++ rest) ≡ scanned (at modes.Inside (kept ++ octet ∷ []) (place + length (escaped_octet octet)) opened) rest
  unfolding after events_of
  keeps octet kept rest place opened lt =
      let short : eqb (length kept) 1045 ≡ false = ne_eqb _ _ (λ e. omega (arith, e)) in
      let two : (place + 1) + 1 ≡ place + 2 = omega arith in
      elim (cases_eq octet 0x7E) [
        | inl e ↦ rw (e, short) (ap (λ (q : ℕ). scanned (at modes.Inside (kept ++ 0x7E ∷ []) q opened) rest) two)
        | inr flag ↦ elim (cases_eq octet 0x7D) [
          | inl e ↦ rw (e, short) (ap (λ (q : ℕ). scanned (at modes.Inside (kept ++ 0x7D ∷ []) q opened) rest) two)
          | inr escape ↦ simp (ne_eqb octet 0x7E flag, ne_eqb octet 0x7D escape, short)
        ]
      ]

  -- an escaped content is kept
  pub keeps_all : (content kept rest : List ℕ) (place opened : ℕ) → length kept + length content ≤ 1045
      → scanned (at modes.Inside kept place opened) (escaped content ++ rest) ≡ scanned (at modes.Inside (kept ++ content) (place + length (escaped content)) opened) rest
  keeps_all [] kept rest place opened le = rw (append-nil kept, add-zero) refl
  keeps_all (octet ∷ content) kept rest place opened le =
      let apart : escaped (octet ∷ content) ++ rest ≡ escaped_octet octet ++ (escaped content ++ rest) = append_assoc (escaped_octet octet) (escaped content) rest in
      let joined : (kept ++ octet ∷ []) ++ content ≡ kept ++ octet ∷ content = append_assoc kept (octet ∷ []) content in
      let moves : (place + length (escaped_octet octet)) + length (escaped content) ≡ place + length (escaped (octet ∷ content)) = omega (arith, length-append (escaped_octet octet) (escaped content)) in
      let short : length (kept ++ octet ∷ []) + length content ≤ 1045 = omega (arith, le, length-append kept (octet ∷ [])) in
      ap (scanned (at modes.Inside kept place opened)) apart
      ∙ keeps octet kept (escaped content ++ rest) place opened (omega arith)
      ∙ keeps_all content (kept ++ octet ∷ []) rest (place + length (escaped_octet octet)) opened short
      ∙ ap (λ (k : List ℕ). scanned (at modes.Inside k ((place + length (escaped_octet octet)) + length (escaped content)) opened) rest) joined
      ∙ ap (λ (q : ℕ). scanned (at modes.Inside (kept ++ octet ∷ content) q opened) rest) moves

  -- ---- outside a frame

  -- octets up to the flag are skipped
  skips : (skipped rest kept : List ℕ) (place opened : ℕ) → IsUpToFlag skipped rest
      → scanned (at modes.Skipping kept place opened) (skipped ++ rest) ≡ scanned (at modes.Outside kept (place + length skipped) opened) rest
  unfolding after events_of
  skips [] rest kept place opened none = rw none refl
  skips (octet ∷ skipped) rest kept place opened up =
      elim up [
        | inl (flag, none) ↦ rw (flag, none) refl
        | inr (other, more) ↦
            let moves : (place + 1) + length skipped ≡ place + length (octet ∷ skipped) = omega arith in
            rw (ne_eqb octet 0x7E other) (skips skipped rest kept (place + 1) opened more ∙ ap (λ (q : ℕ). scanned (at modes.Outside kept q opened) rest) moves)
      ]

  -- a run of strays goes on up to a flag or the end
  strays : (more rest kept : List ℕ) (place opened : ℕ) → HasNoFlag more → IsAtFlagOrEnd rest
      → scanned (at modes.Straying kept place opened) (more ++ rest) ≡ scanned (at modes.Outside kept (place + length more) opened) rest
  unfolding after events_of
  strays [] [] kept place opened none end = refl
  strays [] (octet ∷ rest) kept place opened none flag = rw (flag, add-zero) refl
  strays (octet ∷ more) rest kept place opened (other, none) end =
      let moves : (place + 1) + length more ≡ place + length (octet ∷ more) = omega arith in
      rw (ne_eqb octet 0x7E other) (strays more rest kept (place + 1) opened none end ∙ ap (λ (q : ℕ). scanned (at modes.Outside kept q opened) rest) moves)

  -- ---- a span, and then the rest

  -- a flag after a content closes the frame
  closes : (content rest : List ℕ) (place opened : ℕ) → 0 < length content
      → scanned (at modes.Inside content place opened) (0x7E ∷ rest) ≡ Whole opened content ∷ scanned (at modes.Outside content (place + 1) opened) rest
  unfolding after events_of
  closes content rest place opened some =
      let more : eqb (length content) 0 ≡ false = ne_eqb _ _ (λ e. omega (arith, e)) in
      simp more

  -- a wrong octet after an escape
  fails : (content skipped rest : List ℕ) (octet place opened : ℕ) → length content ≤ 1044 → octet ≢ 1 → octet ≢ 2
      → ((octet ≡ 0x7E) × (skipped ≡ [])) ⊎ ((octet ≢ 0x7E) × IsUpToFlag skipped rest)
      → scanned (at modes.Inside content place opened) (0x7D ∷ octet ∷ (skipped ++ rest))
      ≡ refused_at why.BadEscape (place + 1) ∷ scanned (at modes.Outside content (((place + 1) + 1) + length skipped) opened) rest
  unfolding after events_of
  fails content skipped rest octet place opened le not1 not2 up =
      let short : eqb (length content) 1045 ≡ false = ne_eqb _ _ (λ e. omega (arith, e)) in
      elim up [
        | inl (flag, none) ↦ rw (flag, none) (simp (short, add-zero))
        | inr (other, more) ↦
            simp (short, ne_eqb octet 1 not1, ne_eqb octet 2 not2, ne_eqb octet 0x7E other)
            (ap (λ (xs : List Event). refused_at why.BadEscape (place + 1) ∷ xs) (skips skipped rest content ((place + 1) + 1) opened more))
      ]

  -- an octet past a full content
  overflows : (content skipped rest : List ℕ) (octet place opened : ℕ) → length content ≡ 1045 → octet ≢ 0x7E → IsUpToFlag skipped rest
      → scanned (at modes.Inside content place opened) (octet ∷ (skipped ++ rest))
      ≡ refused_at why.TooLong place ∷ scanned (at modes.Outside content ((place + 1) + length skipped) opened) rest
  unfolding after events_of
  overflows content skipped rest octet place opened full other more =
      simp (full, ne_eqb octet 0x7E other) (ap (λ (xs : List Event). refused_at why.TooLong place ∷ xs) (skips skipped rest content (place + 1) opened more))

  -- after these octets the scan is outside again, whatever it keeps, and these events have come
  abbrev Passes : List ℕ → List ℕ → ℕ → ℕ → List ℕ → List Event → Type 0
  Passes kept rest place opened front events =
      (k : List ℕ) × (q : ℕ) × (scanned (at modes.Outside kept place opened) (front ++ rest) ≡ events ++ scanned (at modes.Outside k (place + length front) q) rest)

  -- a frame that has begun
  opens : (content front kept rest : List ℕ) (place opened : ℕ) → length content ≤ 1045
      → scanned (at modes.Outside kept place opened) ((0x7E ∷ (escaped content ++ front)) ++ rest) ≡ scanned (at modes.Inside content ((place + 1) + length (escaped content)) place) (front ++ rest)
  unfolding after events_of
  opens content front kept rest place opened short =
      ap (scanned (at modes.Inside [] (place + 1) place)) (append_assoc (escaped content) front rest) ∙ keeps_all content [] (front ++ rest) (place + 1) place (omega arith)

  -- the same place in another spelling
  moved : (event : Event) (content rest : List ℕ) (place q opened : ℕ) → place ≡ q → event ∷ scanned (at modes.Outside content place opened) rest ≡ event ∷ scanned (at modes.Outside content q opened) rest
  moved event content rest place q opened e = ap (λ (n : ℕ). event ∷ scanned (at modes.Outside content n opened) rest) e

  placed : (reason : Why) (content rest : List ℕ) (a b place q opened : ℕ) → a ≡ b → place ≡ q
      → refused_at reason a ∷ scanned (at modes.Outside content place opened) rest ≡ refused_at reason b ∷ scanned (at modes.Outside content q opened) rest
  placed reason content rest a b place q opened e f = cc

  -- the stream ends after an escape
  escapes : (content : List ℕ) (place opened : ℕ) → length content ≤ 1044 → scanned (at modes.Inside content place opened) (0x7D ∷ []) ≡ last_in ending modes.Escaping (place + 1)
  unfolding after events_of
  escapes content place opened le =
      let short : eqb (length content) 1045 ≡ false = ne_eqb _ _ (λ e. omega (arith, e)) in
      simp short

  -- the end of the stream, named by another spelling of its place
  end_moved : (place other : ℕ) → place ≡ other → cond ending (refused_at why.Truncated place ∷ []) [] ≡ cond ending (refused_at why.Truncated other ∷ []) [] ++ []
  end_moved place other e = ap (λ (n : ℕ). cond ending (refused_at why.Truncated n ∷ []) []) e ∙ sym (append-nil (cond ending (refused_at why.Truncated other ∷ []) []))

  -- each span brings its events
  passes : (span : Span) (kept rest : List ℕ) (place opened : ℕ) → IsSpan span rest → Passes kept rest place opened (span_octets span) (events_at place span ++ end_events (place + length (span_octets span)) span)
  unfolding after events_of
  passes (Frame content) kept rest place opened is = (
    content,
    place,
    opens content (0x7E ∷ []) kept rest place opened is.1 ∙ closes content rest ((place + 1) + length (escaped content)) place is.0
        ∙ moved (Whole place content) content rest _ _ place (omega (arith, length-append (escaped content) (0x7E ∷ []))),
  )
  passes (Stray []) kept rest place opened is = absurd (omega (arith, is.0))
  passes (Stray (octet ∷ more)) kept rest place opened is =
      (kept, opened, rw (ne_eqb octet 0x7E is.1.0) (ap (λ (xs : List Event). refused_at why.Stray place ∷ xs) (strays more rest kept (place + 1) opened is.1.1 is.2) ∙ moved (refused_at why.Stray place) kept rest _ _ opened (omega arith)))
  passes Empty kept [] place opened is = absurd is
  passes Empty kept (octet ∷ rest) place opened is = ([], place, rw is refl)
  passes (BadEscape content octet skipped) kept rest place opened is = (
    content,
    place,
    opens content (0x7D ∷ octet ∷ skipped) kept rest place opened (omega (arith, is.0)) ∙ fails content skipped rest octet ((place + 1) + length (escaped content)) place is.0 is.1 is.2 is.3
        ∙ placed why.BadEscape content rest _ _ _ _ place (omega arith) (omega (arith, length-append (escaped content) (0x7D ∷ octet ∷ skipped))),
  )
  passes (TooLong content octet skipped) kept rest place opened is = (
    content,
    place,
    opens content (octet ∷ skipped) kept rest place opened (omega (arith, is.0)) ∙ overflows content skipped rest octet ((place + 1) + length (escaped content)) place is.0 is.1 is.2
        ∙ placed why.TooLong content rest _ _ _ _ place (omega arith) (omega (arith, length-append (escaped content) (octet ∷ skipped))),
  )
  passes (Unfinished content) kept rest place opened is =
      (content, place, rw is.1 (keeps_all content [] [] (place + 1) place (omega arith) ∙ end_moved _ _ (omega arith)))
  passes (Escaping content) kept rest place opened is = (
    content,
    place,
    rw is.1 (ap (scanned (at modes.Inside [] (place + 1) place)) (append_assoc (escaped content) (0x7D ∷ []) [])
        ∙ keeps_all content [] (0x7D ∷ []) (place + 1) place (omega arith) ∙ escapes content ((place + 1) + length (escaped content)) place is.0
        ∙ end_moved _ _ (omega (arith, length-append (escaped content) (0x7D ∷ [])))),
  )

  -- scanning the stream of these spans gives their events
  pub scans : (spans : List Span) (kept : List ℕ) (place opened : ℕ) → AreSpans spans → scanned (at modes.Outside kept place opened) (stream_of spans) ≡ all_from place spans
  scans [] kept place opened each = refl
  scans (span ∷ spans) kept place opened each =
      let first = passes span kept (stream_of spans) place opened each.0 in
      first.2 ∙ ap (λ (xs : List Event). (events_at place span ++ end_events (place + length (span_octets span)) span) ++ xs) (scans spans first.0 (place + length (span_octets span)) first.1 each.1)
