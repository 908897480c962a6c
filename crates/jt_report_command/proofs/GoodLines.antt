-- A text has the fixes of its good lines, and no other.
use Rattle.std.proofs.Common.{◌≡◌, ◌<◌, ◌+◌, ◌++◌, Bool, true, false, ℕ, List, [], ◌∷◌, Result, Ok, Err, length, length-append, sym, ap, subst, ◌∙◌, arith, append_assoc}
use Rattle.hex.specs.Hex.{decode_of}
use Rattle.hex.specs.declared.error.FromHexError.{FromHexError}
use Rattle.jt_value.specs.declared.refusal.Refusal.{Refusal}
use Rattle.jt_layout.specs.Layout.{Fills}
use Rattle.jt_position.specs.declared.position.Position.{Position}
use Rattle.jt_position.specs.Positions.{position}
use Rattle.jt_position.proofs.ItemLaws.{position_law}
use Rattle.jt_input.specs.Spelling.{is_passed}
use Rattle.jt_input.specs.Text.{lines_of}
use Rattle.jt_report_command.specs.FixLines.{Says, SaysIf, SaysOfDigits, SaysOfOctets}
use Rattle.jt_report_command.specs.FixesText.{EndsAt, HaveFixes, IsBeyond, SaysAt, fixes_in, is_good}
use Rattle.jt_report_command.specs.declared.line.FixLine.{FixLine}
use Rattle.jt_report_command.specs.declared.line.FixLine.TheVariants.{Passed, Fix, BadHex, Long, Refused}

-- ---- a good line says one thing

not_both : (octets : List ℕ) (m : Position) (r : Refusal) → Fills position octets 0 m → ¬ position.Refuses octets 0 r
not_both octets m r fills refuses =
    let e : ◌≡◌ {A = Result Position Refusal} (Ok m) (Err r) = sym (position_law.again octets 0 m (omega arith) fills) ∙ position_law.refuses octets 0 r (omega arith) refuses in
    absurd (cc e)

octets_say : (octets : List ℕ) (a b : FixLine) → is_good a ≡ true → SaysOfOctets octets a → SaysOfOctets octets b → b ≡ a
octets_say octets (Fix fix) (Fix other) good one two = ap Fix (two.0 ∙ sym one.0)
octets_say octets (Fix fix) Passed good one two = absurd two
octets_say octets (Fix fix) BadHex good one two = absurd two
octets_say octets (Fix fix) Long good one two = absurd (omega (arith, one.1.short, two))
octets_say octets (Fix fix) (Refused r) good one two = absurd (not_both octets one.1.position.0 r one.1.position.1 two.1)
octets_say octets Passed b good one two = absurd one
octets_say octets BadHex b good one two = absurd one
octets_say octets Long b good one two = absurd (cc good)
octets_say octets (Refused r) b good one two = absurd (cc good)

digits_say : (decoded : Result (List ℕ) FromHexError) (a b : FixLine) → is_good a ≡ true → SaysOfDigits decoded a → SaysOfDigits decoded b → b ≡ a
digits_say (Ok octets) a b good one two = octets_say octets a b good one two
digits_say (Err error) a b good one two = two ∙ sym one

line_says : (passed : Bool) (line : List ℕ) (a b : FixLine) → is_good a ≡ true → SaysIf passed line a → SaysIf passed line b → b ≡ a
line_says true line a b good one two = two ∙ sym one
line_says false line a b good one two = digits_say (decode_of line) a b good one two

says_one : (line : List ℕ) (a b : FixLine) → is_good a ≡ true → Says line a → Says line b → b ≡ a
says_one line a b good one two = line_says (is_passed line) line a b good one two

-- ---- so good lines have one list of fixes

pub same_fixes : (number : ℕ) (lines : List (List ℕ)) (a b : List (List ℕ)) → HaveFixes number lines a → HaveFixes number lines b → b ≡ a
same_fixes number [] a b one two = two ∙ sym one
same_fixes number (line ∷ lines) a b one two =
    let same = says_one line one.0 two.0 one.3 one.2.says two.2.says in
    let more = same_fixes (number + 1) lines one.1 two.1 one.4 two.4 in
    two.5 ∙ ap (λ (said : FixLine). fixes_in said ++ two.1) same ∙ ap (λ (l : List (List ℕ)). fixes_in one.0 ++ l) more ∙ sym one.5

-- one of the good lines: what it says, and the fixes behind it
record GoodAt (number : ℕ) (line : List ℕ) (front fixes : List (List ℕ)) : Type 0 where
  said : FixLine
  behind : List (List ℕ)
  says : SaysAt number said line
  good : is_good said ≡ true
  parts : fixes ≡ front ++ (fixes_in said ++ behind)

good_at : (number : ℕ) (before : List (List ℕ)) (line : List ℕ) (behind : List (List ℕ)) (fixes front : List (List ℕ)) → HaveFixes number (before ++ line ∷ behind) fixes → HaveFixes number before front
    → GoodAt (number + length before) line front fixes
good_at number [] line behind fixes front all first = record {
  said = all.0;
  behind = all.1;
  says = subst (λ (n : ℕ). SaysAt n all.0 line) (omega arith) all.2;
  good = all.3;
  parts = all.5 ∙ ap (λ (l : List (List ℕ)). l ++ (fixes_in all.0 ++ all.1)) (sym first);
}
good_at number (other ∷ before) line behind fixes front all first =
    let g = good_at (number + 1) before line behind all.1 first.1 all.4 first.4 in
    let same : first.0 ≡ all.0 = says_one other all.0 first.0 all.3 all.2.says first.2.says in
    let whole : front ≡ fixes_in all.0 ++ first.1 = first.5 ∙ ap (λ (said : FixLine). fixes_in said ++ first.1) same in
    record {
      said = g.said;
      behind = g.behind;
      says = subst (λ (n : ℕ). SaysAt n g.said line) (omega arith) g.says;
      good = g.good;
      parts = all.5 ∙ ap (λ (l : List (List ℕ)). fixes_in all.0 ++ l) g.parts ∙ sym (append_assoc (fixes_in all.0) first.1 (fixes_in g.said ++ g.behind))
          ∙ ap (λ (l : List (List ℕ)). l ++ (fixes_in g.said ++ g.behind)) (sym whole);
    }

-- the line at which these fixes end
at_end : (number : ℕ) (Holds : List ℕ → Type 0) (front fixes : List (List ℕ)) (text : List ℕ) → (e : EndsAt number Holds front text) → HaveFixes 1 (lines_of text) fixes → GoodAt number e.line front fixes
at_end number Holds front fixes text e all =
    let g = good_at 1 e.before e.line e.behind fixes front (subst (λ (ls : List (List ℕ)). HaveFixes 1 ls fixes) e.lines all) e.good in
    subst (λ (n : ℕ). GoodAt n e.line front fixes) (omega (arith, e.count)) g

-- where all lines are good none is bad, and none is beyond the limits
pub none_bad : (number : ℕ) (said : FixLine) (front fixes : List (List ℕ)) (text : List ℕ) → HaveFixes 1 (lines_of text) fixes → is_good said ≡ false → ¬ EndsAt number (SaysAt number said) front text
none_bad number said front fixes text all bad e =
    let g = at_end number (SaysAt number said) front fixes text e all in
    let same : said ≡ g.said = says_one e.line g.said said g.good g.says.says e.holds.says in
    let good : is_good said ≡ true = ap is_good same ∙ g.good in
    absurd (cc (good, bad))

pub none_beyond : (number : ℕ) (front fixes : List (List ℕ)) (text : List ℕ) → HaveFixes 1 (lines_of text) fixes → ¬ EndsAt number (IsBeyond number) front text
none_beyond number front fixes text all e =
    let g = at_end number (IsBeyond number) front fixes text e all in
    let within = g.says.within in
    let beyond = e.holds in
    absurd (cc (within, beyond))

-- and behind a line that says a fix there is one more
pub one_fix_more : (number : ℕ) (fix : List ℕ) (front fixes : List (List ℕ)) (text : List ℕ) → HaveFixes 1 (lines_of text) fixes → EndsAt number (SaysAt number (Fix fix)) front text → length front < length fixes
one_fix_more number fix front fixes text all e =
    let g = at_end number (SaysAt number (Fix fix)) front fixes text e all in
    let same : Fix fix ≡ g.said = says_one e.line g.said (Fix fix) g.good g.says.says e.holds.says in
    let parts : fixes ≡ front ++ (fix ∷ g.behind) = g.parts ∙ ap (λ (said : FixLine). front ++ (fixes_in said ++ g.behind)) (sym same) in
    omega (arith, ap length parts, length-append front (fix ∷ g.behind))
