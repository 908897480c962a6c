-- What a reader has told, through cuts and reads.
use Rattle.std.proofs.lemmas.List.{take-append-drop, length-take, length-drop}
use Rattle.std.proofs.Common.{◌≤◌, take, drop, arith, ◌≡◌, ◌++◌, ◌+◌, ℕ, false, List, [], ◌∷◌, length, Option, IsTrue, refl, sym, ap, subst, ◌∙◌, append_assoc, append-nil, length-append}
use Rattle.std.specs.Io.KnownBytes.{Consumes, IsAtEnd}
use Rattle.std.proofs.KnownBytes.{Consumes-trans}
use Rattle.jt_input.specs.Text.{Cuts, lines_of, is_within}
use Rattle.jt_input.specs.Cutter.{Held, CutsOctets, begun_of, room_of, cut_lines, IsBeyond as IsBeyondHeld}
use Rattle.jt_input.specs.declared.line_cutter.Cut.{Cut}
use Rattle.jt_input.specs.declared.line_cutter.Cut.TheVariants as cut
use Rattle.jt_input.specs.LineReading.{Reading, HasTold, IsBeyond}
use Rattle.jt_input.specs.LineReading.{TellsLine}
use Rattle.jt_input.specs.declared.line_reader.NextLine.{NextLine}
use Rattle.jt_input.specs.declared.line_reader.NextLine.TheVariants as next
use Rattle.jt_input.specs.Cutting.{CutsOn, Ends, ReadsOn}

-- a cut
pub after_cut : (answer : Cut) (old now : Reading) (text : List ℕ) (lines : List (List ℕ)) → CutsOn answer old now → HasTold old text lines
    → HasTold now text (lines ++ cut_lines answer now.held)
after_cut answer old now text lines took h = record {
  front = h.front ++ took.octets;
  whole = h.whole ∙ ap (λ (t : List ℕ). h.front ++ t) took.split ∙ sym (append_assoc h.front took.octets now.ahead);
  cuts = took.takes.cuts h.front lines h.cuts;
  number = took.takes.number ∙ ap (λ (n : ℕ). n + length (cut_lines answer now.held)) h.number ∙ sym (length-append lines (cut_lines answer now.held));
}

-- a cut that completes nothing
pub after_more : (old now : Reading) (text : List ℕ) (lines : List (List ℕ)) → CutsOn cut.More old now → HasTold old text lines → HasTold now text lines
after_more old now text lines took h = subst (λ (ls : List (List ℕ)). HasTold now text ls) (append-nil lines) (after_cut cut.More old now text lines took h)

-- a line is within the limits by its number among the lines
pub line_within : (old now : Reading) (text : List ℕ) (lines : List (List ℕ)) → CutsOn cut.Line old now → HasTold old text lines
    → IsTrue (is_within (length lines + 1) now.held.line)
line_within old now text lines took h =
    subst (λ (n : ℕ). IsTrue (is_within n now.held.line)) (took.takes.number ∙ ap (λ (n : ℕ). n + 1) h.number) (took.line refl)

-- a line beyond the limits
pub bad_line : (old : Reading) (text : List ℕ) (lines : List (List ℕ)) → HasTold old text lines → IsBeyondHeld old.held old.ahead → IsBeyond text lines
bad_line old text lines h beyond rest =
    let b = beyond h.front rest lines h.cuts in
    (b.0, b.1, ap (λ (t : List ℕ). lines_of (t ++ rest)) h.whole ∙ b.2, subst (λ (n : ℕ). is_within (n + 1) b.0 ≡ false) h.number b.3)

-- what stands in front, where nothing is ahead
pub all_cut : (old : Reading) (text : List ℕ) (lines : List (List ℕ)) → old.ahead ≡ [] → (h : HasTold old text lines) → text ≡ h.front
all_cut old text lines none h = h.whole ∙ ap (λ (t : List ℕ). h.front ++ t) none ∙ append-nil h.front

-- a read
pub after_read : (old now : Reading) (text : List ℕ) (lines : List (List ℕ)) → old.ahead ≡ [] → now.held ≡ old.held → HasTold old text lines
    → HasTold now (text ++ now.ahead) lines
after_read old now text lines none held h = record {
  front = h.front;
  whole = ap (λ (t : List ℕ). t ++ now.ahead) (all_cut old text lines none h);
  cuts = subst (λ (k : Held). Cuts h.front lines (begun_of k)) (sym held) h.cuts;
  number = ap (λ (k : Held). k.number) held ∙ h.number;
}

none_left : (xs : List ℕ) → length xs ≡ 0 → xs ≡ []
none_left [] h = refl
none_left (x ∷ xs) h = absurd (omega arith)

-- what a cutter took of what is ahead
pub cuts_on : (answer : Cut) (old now : Held) (ahead ahead_now : List ℕ) (count : ℕ) → ahead_now ≡ drop count ahead → count ≤ length ahead
    → CutsOctets old now (take count ahead) (cut_lines answer now) → (answer ≡ cut.More → count ≡ length ahead) → room_of now + count ≤ room_of old
    → (answer ≡ cut.Line → IsTrue (is_within now.number now.line)) → (answer ≡ cut.Bad → IsBeyondHeld old ahead)
    → CutsOn answer (record { held = old; ahead = ahead }) (record { held = now; ahead = ahead_now })
cuts_on answer old now ahead ahead_now count is few takes more room line bad = record {
  octets = take count ahead;
  split = sym (take-append-drop count ahead) ∙ ap (λ (t : List ℕ). take count ahead ++ t) (sym is);
  takes = takes;
  more = λ all. is ∙ none_left (drop count ahead) (omega (arith, more all, length-drop count ahead));
  room = omega (arith, room, few, length-take count ahead);
  line = line;
  bad = bad;
}

-- nothing more was read
pub after_none : (old now : Reading) (text : List ℕ) (lines : List (List ℕ)) → old.ahead ≡ [] → now.ahead ≡ [] → now.held ≡ old.held → HasTold old text lines
    → HasTold now text lines
after_none old now text lines none none_now held h = record {
  front = h.front;
  whole = h.whole ∙ ap (λ (t : List ℕ). h.front ++ t) (none ∙ sym none_now);
  cuts = subst (λ (k : Held). Cuts h.front lines (begun_of k)) (sym held) h.cuts;
  number = ap (λ (k : Held). k.number) held ∙ h.number;
}

-- what is told where the text ends
pub at_end : (answer : NextLine) (now : Reading) (text : List ℕ) (left : Option (List ℕ)) (lines : List (List ℕ)) → HasTold now text lines → now.ahead ≡ []
    → Ends answer now → IsAtEnd left → TellsLine answer now text left lines
at_end next.Line now text left lines h none ends end = absurd ends
at_end next.Last now text left lines h none ends end =
    (ap lines_of (all_cut now text lines none h) ∙ ends.0 h.front lines h.cuts, subst (λ (n : ℕ). IsTrue (is_within (n + 1) now.held.line)) h.number ends.1, end)
at_end next.End now text left lines h none ends end = (ap lines_of (all_cut now text lines none h) ∙ ends h.front lines h.cuts, end)
at_end (next.Bad number) now text left lines h none ends end = absurd ends
at_end next.Failed now text left lines h none ends end = absurd ends

-- a piece that was read
pub reads_on : (entry old mid now : Reading) (left left_mid left_now : Option (List ℕ)) → ReadsOn entry old left left_mid → CutsOn cut.More old mid → now.held ≡ mid.held
    → Consumes left_mid left_now now.ahead → ReadsOn entry now left left_now
reads_on entry old mid now left left_mid left_now on took held consumed = λ text lines cut_lines.
    let h = on text lines cut_lines in
    let more = after_more old mid (text ++ h.0) lines took h.2 in (
      h.0 ++ now.ahead,
      Consumes-trans left left_mid left_now h.0 now.ahead h.1 consumed,
      subst (λ (t : List ℕ). HasTold now t lines) (append_assoc text h.0 now.ahead) (after_read mid now (text ++ h.0) lines (took.more refl) held more),
    )
