-- How the recording of lines goes on, and how it ends.
use Rattle.std.proofs.Common.{◌≤◌, inl, inr, Bool, ◌≡◌, ◌++◌, ◌+◌, ℕ, true, false, List, [], ◌∷◌, length, Option, Result, Ok, Err, IsTrue, refl, sym, ap, subst, ◌∙◌, append_assoc, append-nil, length-append, arith}
use Rattle.std.specs.Io.KnownBytes.{Consumes}
use Rattle.std.proofs.KnownBytes.{Consumes-trans}
use Rattle.jt_value.specs.Counts.{Rose}
use Rattle.jt_input.specs.Answer.{HoldsOf}
use Rattle.jt_input.specs.Text.{lines_of, is_within}
use Rattle.jt_input.specs.Cutter.{begun_of}
use Rattle.jt_input.proofs.Fronts.{FrontLaw, lines_on}
use Rattle.jt_input.specs.LineReading.{Reading, HasTold, Goes}
use Rattle.jt_input.specs.declared.line_reader.NextLine.TheVariants as next
use Rattle.jt_store.specs.Vaults.{Held, Notes, changed}
use Rattle.jt_terminal_rule.specs.declared.state.State.{State}
use Rattle.jt_terminal_rule.specs.Rule.{with_fix}
use Rattle.jt_report_command.specs.declared.line.FixLine.{FixLine}
use Rattle.jt_report_command.specs.declared.line.FixLine.TheVariants.{Fix}
use Rattle.jt_report_command.specs.FixesText.{AreFirst, EndsAt, HaveFixes, IsBeyond, SaysAt, fixes_in, is_good}
use Rattle.jt_report_command.specs.Noting.{Noting, held_with, noted_all, with_fixes}
use Rattle.jt_report_command.specs.Reading.{AnswersFixes, NotesFixes}
use Rattle.jt_report_command.specs.NotingSteps.{Beside, GoesOn, NotesLine}
use Rattle.jt_report_command.specs.declared.noting.FixesError.{FixesError}
use Rattle.jt_report_command.specs.declared.noting.FixesError.TheVariants.{BadLine, BeyondLimits, VaultFull, VaultFailed, ReadFailed, Memory}

-- ---- fixes behind others

state_behind : (s : State) (fixes more : List (List ℕ)) → noted_all (noted_all s fixes) more ≡ noted_all s (fixes ++ more)
state_behind s [] more = refl
state_behind s (fix ∷ fixes) more = state_behind (with_fix s fix) fixes more

held_behind : (held : Option Held) (fixes more : List (List ℕ)) → held_with (held_with held fixes) more ≡ held_with held (fixes ++ more)
held_behind held [] more = refl
held_behind held (fix ∷ fixes) more = held_behind (changed (Notes fix) held) fixes more

behind_is : (old : Noting) (fixes more : List (List ℕ)) → with_fixes (with_fixes old fixes) more ≡ with_fixes old (fixes ++ more)
behind_is old fixes more = λ i. record { state = state_behind old.state fixes more i; held = held_behind old.held fixes more i }

-- one good line more
one_more : (number at : ℕ) (lines : List (List ℕ)) (fixes : List (List ℕ)) (line : List ℕ) (said : FixLine) → HaveFixes number lines fixes → at ≡ number + length lines
    → SaysAt at said line → is_good said ≡ true → HaveFixes number (lines ++ line ∷ []) (fixes ++ fixes_in said)
one_more number at [] fixes line said have same says good = (
  said,
  [],
  subst (λ (n : ℕ). SaysAt n said line) (omega (arith, same)) says,
  good,
  refl,
  ap (λ (l : List (List ℕ)). l ++ fixes_in said) have ∙ sym (append-nil (fixes_in said)),
)
one_more number at (first ∷ lines) fixes line said have same says good = (
  have.0,
  have.1 ++ fixes_in said,
  have.2,
  have.3,
  one_more (number + 1) at lines have.1 line said have.4 (omega (arith, same)) says good,
  ap (λ (l : List (List ℕ)). l ++ fixes_in said) have.5 ∙ append_assoc (fixes_in have.0) have.1 (fixes_in said),
)

-- ---- beside the fixes

pub beside_none : (s : State) (faults limit : ℕ) (may : Bool) → Beside {T = Unit {0}} s s faults faults limit limit may may (Ok (tt {0}))
beside_none s faults limit may = record { phase = refl; time = refl; sent = refl; limit = refl; later = omega arith; failed = λ z. absurd (cc z); still = λ z. refl; steady = λ none. (none, λ z. absurd (cc z)) }

rose_then : (before mid now : ℕ) → before ≤ mid → Rose mid now → Rose before now
rose_then before mid now later rose = omega (arith, later, rose)

pub beside_then : {A B : Type 0} (old mid now : State) (f f_mid f_now l l_mid l_now : ℕ) (m m_mid m_now : Bool) (done : A) (result : Result B FixesError)
    → Beside old mid f f_mid l l_mid m m_mid (Ok done) → Beside mid now f_mid f_now l_mid l_now m_mid m_now result → Beside old now f f_now l l_now m m_now result
beside_then old mid now f f_mid f_now l l_mid l_now m m_mid m_now done result a b = record {
  phase = b.phase ∙ a.phase;
  time = b.time ∙ a.time;
  sent = b.sent ∙ a.sent;
  limit = b.limit ∙ a.limit;
  later = omega (arith, a.later, b.later);
  failed = λ z. rose_then f f_mid f_now a.later (b.failed z);
  still = λ z. b.still z ∙ a.still (λ e. absurd (cc e));
  steady = λ none. b.steady ((a.steady none).0);
}

-- ---- lines

pub begins : (reading : Reading) (left : Option (List ℕ)) (old : Noting) → HasTold reading [] [] → Consumes left left [] → GoesOn reading 1 left left old old
begins reading left old told none =
    record { text = []; lines = []; consumed = none; told = told; count = refl; fixes = []; good = refl; recorded = refl }

-- the line that was told, by its number
here : (old : Reading) (number : ℕ) (left mid : Option (List ℕ)) (a b : Noting) (h : GoesOn old number left mid a b) (line : List ℕ) → IsTrue (is_within (length h.lines + 1) line)
    → IsTrue (is_within number line)
here old number left mid a b h line within = subst (λ (n : ℕ). IsTrue (is_within n line)) (sym h.count) within

-- a good line
pub goes_on : (old now : Reading) (number : ℕ) (left mid left_now : Option (List ℕ)) (a b c : Noting) (limit : ℕ) (h : GoesOn old number left mid a b)
    → (goes : Goes next.Line now mid left_now h.text h.lines) → NotesLine {T = Unit {0}} (Ok (tt {0})) limit number now.held.line b c → GoesOn now (number + 1) left left_now a c
goes_on old now number left mid left_now a b c limit h goes notes = record {
  text = h.text ++ goes.more;
  lines = h.lines ++ now.held.line ∷ [];
  consumed = Consumes-trans left mid left_now h.text goes.more h.consumed goes.consumed;
  told = goes.tells.0;
  count = omega (arith, h.count, length-append h.lines (now.held.line ∷ []));
  fixes = h.fixes ++ fixes_in notes.0;
  good = one_more 1 number h.lines h.fixes now.held.line notes.0 h.good (omega (arith, h.count))
      (record { within = here old number left mid a b h now.held.line goes.tells.1; says = notes.1 }) notes.2;
  recorded = notes.3 ∙ ap (λ (n : Noting). with_fixes n (fixes_in notes.0)) h.recorded ∙ behind_is a h.fixes (fixes_in notes.0);
}

-- what was done with a line that is lent
pub at_line : {T : Type 0} (answer : Result T FixesError) (most number : ℕ) (line held : List ℕ) (b c : Noting) → line ≡ held → NotesLine answer most number line b c
    → NotesLine answer most number held b c
at_line answer most number line held b c same notes = subst (λ (l : List ℕ). NotesLine answer most number l b c) same notes

-- what holds whatever follows
whatever : (Holds : List ℕ → Type 0) (left : Option (List ℕ)) (text : List ℕ) → ((rest : List ℕ) → Holds (text ++ rest)) → HoldsOf Holds left text
whatever Holds left text stays = (subst Holds (append-nil text) (stays []), inr stays)

-- the line that was told is so, whatever follows
stops : FrontLaw → (old now : Reading) (number : ℕ) (left mid left_now : Option (List ℕ)) (a b : Noting) (h : GoesOn old number left mid a b)
    → (goes : Goes next.Line now mid left_now h.text h.lines) → (Holds : List ℕ → Type 0) → Holds now.held.line
    → HoldsOf (EndsAt number Holds h.fixes) left_now (h.text ++ goes.more)
stops law old now number left mid left_now a b h goes Holds so = whatever (EndsAt number Holds h.fixes) left_now (h.text ++ goes.more) (λ rest.
    let behind = lines_of (begun_of now.held ++ (now.ahead ++ rest)) in
    record {
      before = h.lines;
      line = now.held.line;
      behind = behind;
      lines = lines_on law now (h.text ++ goes.more) (h.lines ++ now.held.line ∷ []) goes.tells.0 rest ∙ append_assoc h.lines (now.held.line ∷ []) behind;
      good = h.good;
      count = h.count;
      holds = so;
    })

-- the same of the last line, at the end of the text
stops_last : (old now : Reading) (number : ℕ) (left mid left_now : Option (List ℕ)) (a b : Noting) (h : GoesOn old number left mid a b)
    → (goes : Goes next.Last now mid left_now h.text h.lines) → (Holds : List ℕ → Type 0) → Holds now.held.line
    → HoldsOf (EndsAt number Holds h.fixes) left_now (h.text ++ goes.more)
stops_last old now number left mid left_now a b h goes Holds so = (
  record { before = h.lines; line = now.held.line; behind = []; lines = goes.tells.0; good = h.good; count = h.count; holds = so },
  inl goes.tells.2,
)

-- the lines before the one that was told
first_lines : FrontLaw → (old now : Reading) (number : ℕ) (left mid left_now : Option (List ℕ)) (a b : Noting) (h : GoesOn old number left mid a b)
    → (goes : Goes next.Line now mid left_now h.text h.lines) → HoldsOf (AreFirst h.fixes) left_now (h.text ++ goes.more)
first_lines law old now number left mid left_now a b h goes = whatever (AreFirst h.fixes) left_now (h.text ++ goes.more) (λ rest.
    let behind = lines_of (begun_of now.held ++ (now.ahead ++ rest)) in
    record {
      before = h.lines;
      behind = now.held.line ∷ behind;
      lines = lines_on law now (h.text ++ goes.more) (h.lines ++ now.held.line ∷ []) goes.tells.0 rest ∙ append_assoc h.lines (now.held.line ∷ []) behind;
      good = h.good;
    })

-- the octets that were taken, with an answer to them
ends : {T : Type 0} (answer : Result T FixesError) (limit : ℕ) (old : Reading) (number : ℕ) (left mid left_now : Option (List ℕ)) (a b c : Noting) (h : GoesOn old number left mid a b)
    → (more : List ℕ) → Consumes mid left_now more → c ≡ b → AnswersFixes answer limit c.held h.fixes left_now (h.text ++ more) → NotesFixes answer limit left left_now a c
ends answer limit old number left mid left_now a b c h more consumed same answers = record {
  taken = h.text ++ more;
  consumed = Consumes-trans left mid left_now h.text more h.consumed consumed;
  fixes = h.fixes;
  recorded = same ∙ h.recorded;
  answers = answers;
}

-- a line that was told and not recorded
pub ends_line : FrontLaw → {T : Type 0} (error : FixesError) (limit most : ℕ) (old now : Reading) (number : ℕ) (left mid left_now : Option (List ℕ)) (a b c : Noting)
    → (h : GoesOn old number left mid a b) → (goes : Goes next.Line now mid left_now h.text h.lines) → most ≡ limit
    → NotesLine {T = T} (Err error) most number now.held.line b c → NotesFixes {T = T} (Err error) limit left left_now a c
ends_line law {T = T} (BadLine at said) limit most old now number left mid left_now a b c h goes same notes =
    let says : SaysAt number said now.held.line = record { within = here old number left mid a b h now.held.line goes.tells.1; says = notes.1 } in
    subst (λ (n : ℕ). NotesFixes {T = T} (Err (BadLine n said)) limit left left_now a c) (sym notes.0) (
    ends (Err (BadLine number said)) limit old number left mid left_now a b c h goes.more goes.consumed notes.3
    (notes.2, stops law old now number left mid left_now a b h goes (SaysAt number said) says))
ends_line law (BeyondLimits at) limit most old now number left mid left_now a b c h goes same notes = absurd notes
ends_line law (VaultFull full) limit most old now number left mid left_now a b c h goes same notes =
    let says : SaysAt number (Fix notes.2) now.held.line = record { within = here old number left mid a b h now.held.line goes.tells.1; says = notes.3 } in
    ends (Err (VaultFull full)) limit old number left mid left_now a b c h goes.more goes.consumed notes.4
    (notes.0 ∙ same, rw (← same) notes.1, (number, notes.2, stops law old now number left mid left_now a b h goes (SaysAt number (Fix notes.2)) says))
ends_line law VaultFailed limit most old now number left mid left_now a b c h goes same notes =
    let says : SaysAt number (Fix notes.0) now.held.line = record { within = here old number left mid a b h now.held.line goes.tells.1; says = notes.1 } in
    ends (Err VaultFailed) limit old number left mid left_now a b c h goes.more goes.consumed notes.2
    (number, notes.0, stops law old now number left mid left_now a b h goes (SaysAt number (Fix notes.0)) says)
ends_line law ReadFailed limit most old now number left mid left_now a b c h goes same notes = absurd notes
ends_line law Memory limit most old now number left mid left_now a b c h goes same notes =
    ends (Err Memory) limit old number left mid left_now a b c h goes.more goes.consumed notes (first_lines law old now number left mid left_now a b h goes)

-- the last line, which has no line feed
pub ends_last : {T : Type 0} (answer : Result T FixesError) (limit most : ℕ) (old now : Reading) (number : ℕ) (left mid left_now : Option (List ℕ)) (a b c : Noting)
    → (h : GoesOn old number left mid a b) → (goes : Goes next.Last now mid left_now h.text h.lines) → most ≡ limit
    → NotesLine answer most number now.held.line b c → NotesFixes answer limit left left_now a c
ends_last (Ok done) limit most old now number left mid left_now a b c h goes same notes = record {
  taken = h.text ++ goes.more;
  consumed = Consumes-trans left mid left_now h.text goes.more h.consumed goes.consumed;
  fixes = h.fixes ++ fixes_in notes.0;
  recorded = notes.3 ∙ ap (λ (n : Noting). with_fixes n (fixes_in notes.0)) h.recorded ∙ behind_is a h.fixes (fixes_in notes.0);
  answers = (
    subst (λ (ls : List (List ℕ)). HaveFixes 1 ls (h.fixes ++ fixes_in notes.0)) (sym goes.tells.0)
        (one_more 1 number h.lines h.fixes now.held.line notes.0 h.good (omega (arith, h.count))
        (record { within = here old number left mid a b h now.held.line goes.tells.1; says = notes.1 }) notes.2),
    goes.tells.2,
  );
}
ends_last {T = T} (Err (BadLine at said)) limit most old now number left mid left_now a b c h goes same notes =
    let says : SaysAt number said now.held.line = record { within = here old number left mid a b h now.held.line goes.tells.1; says = notes.1 } in
    subst (λ (n : ℕ). NotesFixes {T = T} (Err (BadLine n said)) limit left left_now a c) (sym notes.0) (
    ends (Err (BadLine number said)) limit old number left mid left_now a b c h goes.more goes.consumed notes.3
    (notes.2, stops_last old now number left mid left_now a b h goes (SaysAt number said) says))
ends_last (Err (BeyondLimits at)) limit most old now number left mid left_now a b c h goes same notes = absurd notes
ends_last (Err (VaultFull full)) limit most old now number left mid left_now a b c h goes same notes =
    let says : SaysAt number (Fix notes.2) now.held.line = record { within = here old number left mid a b h now.held.line goes.tells.1; says = notes.3 } in
    ends (Err (VaultFull full)) limit old number left mid left_now a b c h goes.more goes.consumed notes.4
    (notes.0 ∙ same, rw (← same) notes.1, (number, notes.2, stops_last old now number left mid left_now a b h goes (SaysAt number (Fix notes.2)) says))
ends_last (Err VaultFailed) limit most old now number left mid left_now a b c h goes same notes =
    let says : SaysAt number (Fix notes.0) now.held.line = record { within = here old number left mid a b h now.held.line goes.tells.1; says = notes.1 } in
    ends (Err VaultFailed) limit old number left mid left_now a b c h goes.more goes.consumed notes.2
    (number, notes.0, stops_last old now number left mid left_now a b h goes (SaysAt number (Fix notes.0)) says)
ends_last (Err ReadFailed) limit most old now number left mid left_now a b c h goes same notes = absurd notes
ends_last (Err Memory) limit most old now number left mid left_now a b c h goes same notes =
    ends (Err Memory) limit old number left mid left_now a b c h goes.more goes.consumed notes (record { before = h.lines; behind = now.held.line ∷ []; lines = goes.tells.0; good = h.good }, inl goes.tells.2)

-- where a line would begin
pub ends_here : {T : Type 0} (done : T) (limit : ℕ) (old now : Reading) (number : ℕ) (left mid left_now : Option (List ℕ)) (a b : Noting)
    → (h : GoesOn old number left mid a b) → (goes : Goes next.End now mid left_now h.text h.lines) → NotesFixes (Ok done) limit left left_now a b
ends_here done limit old now number left mid left_now a b h goes =
    ends (Ok done) limit old number left mid left_now a b b h goes.more goes.consumed refl (subst (λ (ls : List (List ℕ)). HaveFixes 1 ls h.fixes) (sym goes.tells.0) h.good, goes.tells.1)

-- the next line is beyond the limits
pub ends_beyond : {T : Type 0} (limit : ℕ) (old now : Reading) (number found : ℕ) (left mid left_now : Option (List ℕ)) (a b : Noting)
    → (h : GoesOn old number left mid a b) → (goes : Goes (next.Bad found) now mid left_now h.text h.lines) → NotesFixes {T = T} (Err (BeyondLimits found)) limit left left_now a b
ends_beyond limit old now number found left mid left_now a b h goes =
    ends (Err (BeyondLimits found)) limit old number left mid left_now a b b h goes.more goes.consumed refl
    (whatever (EndsAt found (IsBeyond found) h.fixes) left_now (h.text ++ goes.more) (λ rest.
    let beyond = goes.tells.1 rest in
    record {
      before = h.lines;
      line = beyond.0;
      behind = beyond.1;
      lines = beyond.2;
      good = h.good;
      count = goes.tells.0;
      holds = subst (λ (n : ℕ). is_within n beyond.0 ≡ false) (sym goes.tells.0) beyond.3;
    }))

-- a failed read
pub ends_failed : FrontLaw → {T : Type 0} (limit : ℕ) (old now : Reading) (number : ℕ) (left mid left_now : Option (List ℕ)) (a b : Noting)
    → (h : GoesOn old number left mid a b) → (goes : Goes next.Failed now mid left_now h.text h.lines) → NotesFixes {T = T} (Err ReadFailed) limit left left_now a b
ends_failed law limit old now number left mid left_now a b h goes =
    ends (Err ReadFailed) limit old number left mid left_now a b b h goes.more goes.consumed refl
    (whatever (AreFirst h.fixes) left_now (h.text ++ goes.more) (λ rest. record {
      before = h.lines;
      behind = lines_of (begun_of now.held ++ (now.ahead ++ rest));
      lines = lines_on law now (h.text ++ goes.more) h.lines goes.tells rest;
      good = h.good;
    }))
