-- A frame whose content stays where it stands leads to where it leads octet by octet.
use Rattle.std.proofs.Common.{◌≡◌, ℕ, suc, ◌+◌, ◌-◌, ◌<◌, ◌≤◌, eqb, false, List, [], ◌∷◌, ◌++◌, length, take, drop, get_or, ◌⊎◌, refl, sym, ap, subst, ◌∙◌, arith, length-append, length-take-le, length-drop}
use Rattle.std.proofs.Math.Seq.{take-append_seam}
use Rattle.std.proofs.lemmas.Bool.{ne_eqb}
use Rattle.std.proofs.lemmas.List.{take_more}
use Rattle.std.specs.Prelude.{slice_range}
use Rattle.jt_escape.specs.declared.splitter.Mode.TheVariants as modes
use Rattle.jt_escape.specs.declared.splitter.Split.{Split}
use Rattle.jt_escape.specs.declared.splitter.Split.TheVariants as split
use Rattle.jt_escape.specs.Span.{Whole, IsContent}
use Rattle.jt_escape.specs.Scan.{State, after, events_of, opening, keeping_all, lending, lasting, IsPlain, AreAlike, RunsInPlace}
use Rattle.jt_escape.specs.Splitter.{split_events, split_events_in_place, lent}
use Rattle.jt_escape.proofs.Scanning.{at}
use Rattle.jt_escape.proofs.Runs.{Runs-one, Runs-then, keeps_all_plain, opens_frame}

-- ---- contents that are kept

lent_kept : (state : State) (taken : List ℕ) → 0 < length state.content → lent state taken ≡ state.content
lent_kept state taken some =
    let more : eqb (length state.content) 0 ≡ false = ne_eqb _ _ (λ e. omega (arith, e)) in
    rw more refl

pub told_kept : (answer : Split) (state : State) (taken : List ℕ) → (answer ≡ split.Content → 0 < length state.content) → split_events_in_place answer state taken ≡ split_events answer state
told_kept split.More state taken some = refl
told_kept split.Content state taken some = ap (λ (content : List ℕ). Whole state.opened content ∷ []) (lent_kept state taken (some refl))
told_kept (split.Refused refusal) state taken some = refl

pub is_kept : (state : State) (taken : List ℕ) → 0 < length state.content → length state.content ≤ 1045 → IsContent (lent state taken)
is_kept state taken some short = subst IsContent (sym (lent_kept state taken some)) (some, short)

-- ---- contents that are not kept

-- a flag after a content closes the frame
closes : (content : List ℕ) (place opened q : ℕ) → 0 < length content → q ≡ place + 1
    → AreAlike (at modes.Outside [] q opened) (after (at modes.Inside content place opened) 0x7E) × (Whole opened content ∷ [] ≡ events_of (at modes.Inside content place opened) 0x7E)
unfolding after events_of lasting
closes content place opened q some e =
    let more : eqb (length content) 0 ≡ false = ne_eqb _ _ (λ e. omega (arith, e)) in (
      rw (more, e) refl,
      rw more refl,
    )

-- a frame without escapes
lends : (old : State) (content : List ℕ) (count : ℕ) → (old.mode ≡ modes.Outside) ⊎ (old.mode ≡ modes.Straying) → IsPlain content → IsContent content → length content ≡ count
    → RunsInPlace old (lending old count) (0x7E ∷ (content ++ 0x7E ∷ [])) (Whole old.place content ∷ [])
lends old content count mode plain is len =
    let opened = opens_frame old 0x7E mode refl in
    let inside : State = keeping_all (opening old) content in
    let closed = closes content ((old.place + 1) + length content) old.place (old.place + (count + 2)) is.0 (omega (arith, len)) in
    record {
      kept = after inside 0x7E;
      runs = Runs-then old (opening old) (after inside 0x7E) (0x7E ∷ []) (content ++ 0x7E ∷ []) _
          (Runs-one old (opening old) 0x7E [] (sym opened.0) (sym opened.1))
          (Runs-then (opening old) inside (after inside 0x7E) content (0x7E ∷ []) _ (keeps_all_plain (opening old) content refl plain (omega (arith, is.1)))
          (Runs-one inside (after inside 0x7E) 0x7E _ refl closed.1));
      alike = closed.0;
    }

-- octets between two flags
front_is : (piece : List ℕ) (count : ℕ) → count + 2 ≤ length piece → get_or piece 0 0 ≡ 0x7E → get_or piece (count + 1) 0 ≡ 0x7E
    → take (count + 2) piece ≡ 0x7E ∷ (take count (drop 1 piece) ++ 0x7E ∷ [])
front_is [] count within first last = absurd (omega (arith, within))
front_is (octet ∷ rest) count within first last =
    let total : count + 2 ≡ suc (count + 1) = omega arith in
    let behind : count + 1 ≡ suc count = omega arith in
    let end : get_or rest count 0 ≡ 0x7E = ap (λ (n : ℕ). get_or (octet ∷ rest) n 0) (sym behind) ∙ last in
    ap (λ (n : ℕ). take n (octet ∷ rest)) total
    ∙ ap (λ (xs : List ℕ). octet ∷ xs) (take_more rest count 0 (omega (arith, within)))
    ∙ ap (λ (n : ℕ). n ∷ (take count rest ++ get_or rest count 0 ∷ [])) first
    ∙ ap (λ (n : ℕ). 0x7E ∷ (take count rest ++ n ∷ [])) end

-- what stands between the first octet and the last
middle : (content : List ℕ) → slice_range (0x7E ∷ (content ++ 0x7E ∷ [])) 1 (length (0x7E ∷ (content ++ 0x7E ∷ [])) - 1) ≡ content
middle content =
    ap (λ (n : ℕ). take n (content ++ 0x7E ∷ [])) (omega (arith, length-append content (0x7E ∷ []))) ∙ take-append_seam content (0x7E ∷ [])

-- such a frame at the front of a piece
pub record InPlace (old new : State) (taken : List ℕ) : Type 0 where
  pub runs : RunsInPlace old new taken (Whole new.opened (lent new taken) ∷ [])
  pub content : IsContent (lent new taken)

pub in_place : (old new : State) (piece : List ℕ) (count : ℕ) → (old.mode ≡ modes.Outside) ⊎ (old.mode ≡ modes.Straying) → new ≡ lending old count → 0 < count → count ≤ 1045 → count + 2 ≤ length piece
    → get_or piece 0 0 ≡ 0x7E → get_or piece (count + 1) 0 ≡ 0x7E → IsPlain (slice_range piece 1 (count + 1)) → InPlace old new (take (count + 2) piece)
in_place old new piece count mode e some short within first last plain =
    let content : List ℕ = take count (drop 1 piece) in
    let frame : List ℕ = 0x7E ∷ (content ++ 0x7E ∷ []) in
    let len : length content ≡ count = length-take-le count (drop 1 piece) (omega (arith, within, length-drop 1 piece)) in
    let simple : IsPlain content = subst (λ (n : ℕ). IsPlain (take n (drop 1 piece))) (omega arith) plain in
    let is : IsContent content = (omega (arith, len, some), omega (arith, len, short)) in
    let whole : frame ≡ take (count + 2) piece = sym (front_is piece count within first last) in
    let between : content ≡ slice_range frame 1 (length frame - 1) = sym (middle content) in
    let lent_so : InPlace old (lending old count) frame = record {
      runs = subst (λ (octets : List ℕ). RunsInPlace old (lending old count) frame (Whole old.place octets ∷ [])) between (lends old content count mode simple is len);
      content = subst IsContent between is;
    } in
    subst (λ (state : State). InPlace old state (take (count + 2) piece)) (sym e) (subst (InPlace old (lending old count)) whole lent_so)
