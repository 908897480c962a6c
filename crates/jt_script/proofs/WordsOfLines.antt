-- How a line is cut into words, and what words write.
use Rattle.std.proofs.Common.{◌≡◌, ◌<◌, ◌≤◌, ◌+◌, ◌-◌, length-drop, ◌^◌, ℕ, true, false, Bool, ◌&&◌, eqb, leb, Option, Some, None, Err, List, [], ◌∷◌, ◌++◌, length, take, drop, refl, sym, ap, subst, ◌∙◌, inl, inr, arith, append_assoc}
use Rattle.std.proofs.lemmas.Bool.{cases_Bool, ne_eqb, and_parts, leb-true, le-leb}
use Rattle.std.proofs.lemmas.List.{take-append-drop, take_all}
use Rattle.std.proofs.lemmas.List.Splits.{slice_split-cons_yes, slice_split-cons_no}
use Rattle.std.proofs.lemmas.Fmt.{decimal_is_IsNumeral}
use Rattle.std.proofs.lemmas.Slice.Eq.{bytes_eq-Decides}
use Rattle.std.specs.Fmt.{decimal}
use Rattle.std.specs.List.{position, slice_split, onto_first}
use Rattle.std.specs.Str.{bytes_eq}
use Rattle.std.specs.Str.Parse.{digits_value}
use Rattle.jt_value.specs.Octets.{AreOctets}
use Rattle.jt_value.specs.declared.refusal.Refusal.{Refusal}
use Rattle.jt_layout.specs.Answer.{IsOneToOne}
use Rattle.jt_position.specs.Positions.{position as position_body}
use Rattle.jt_position.specs.Fixes.{FixAnswer}
use Rattle.jt_position.specs.declared.fix.FixError.{FixError}
use Rattle.jt_position.specs.declared.fix.FixError.TheVariants as errors
use Rattle.jt_input.specs.Spelling.{Reads}
use Rattle.jt_input.specs.Text.{Lacks}
use Rattle.jt_input.proofs.Lacking.{front_before, lacks_all}
use Rattle.jt_script.specs.declared.world_event.WorldEvent.{WorldEvent}
use Rattle.jt_script.specs.EventLines.{words, written, number_in, fix_if, event_of}

-- a line is what stands before its first space, the space, and the rest
parted : (line : List ℕ) (space : ℕ) → position (λ x. eqb x 32) line ≡ Some space → line ≡ take space line ++ 32 ∷ drop (space + 1) line
parted line space found =
    sym (take-append-drop (space + 1) line) ∙ ap (λ (front : List ℕ). front ++ drop (space + 1) line) (front_before 32 line space found).2
    ∙ append_assoc (take space line) (32 ∷ []) (drop (space + 1) line)

-- what a slice to the end holds
pub rest_is : (line : List ℕ) (at : ℕ) → take (length line - at) (drop at line) ≡ drop at line
rest_is line at = take_all (length line - at) (drop at line) (omega (arith, length-drop at line))

-- a line without a space is one word
pub one_word : (line : List ℕ) → Lacks 32 line → words line ≡ line ∷ []
one_word [] h = refl
one_word (x ∷ xs) h = slice_split-cons_no (λ octet. eqb octet 32) x xs (ne_eqb x 32 h.0) ∙ ap (onto_first x) (one_word xs h.1)

-- a word ends at the first space
pub word_and_rest : (word rest : List ℕ) → Lacks 32 word → words (word ++ 32 ∷ rest) ≡ word ∷ words rest
word_and_rest [] rest h = slice_split-cons_yes (λ octet. eqb octet 32) 32 rest refl
word_and_rest (x ∷ xs) rest h =
    slice_split-cons_no (λ octet. eqb octet 32) x (xs ++ 32 ∷ rest) (ne_eqb x 32 h.0) ∙ ap (onto_first x) (word_and_rest xs rest h.1)

pub no_space : (line : List ℕ) → position (λ x. eqb x 32) line ≡ None → words line ≡ line ∷ []
no_space line none = one_word line (lacks_all 32 line none)

pub at_space : (line : List ℕ) (space : ℕ) → position (λ x. eqb x 32) line ≡ Some space → words line ≡ take space line ∷ words (drop (space + 1) line)
at_space line space found =
    ap words (parted line space found) ∙ word_and_rest (take space line) (drop (space + 1) line) (front_before 32 line space found).1

-- four words are no event
behind_first : (x : ℕ) (words : List (List ℕ)) (word second third : List ℕ) → event_of (word ∷ second ∷ third ∷ onto_first x words) ≡ None
behind_first x [] word second third = refl
behind_first x (w ∷ ws) word second third = refl

pub four_words : (rest word second third : List ℕ) → event_of (word ∷ second ∷ third ∷ words rest) ≡ None
four_words [] word second third = refl
four_words (x ∷ xs) word second third =
    elim (cases_Bool (eqb x 32)) [
      | inl t ↦ ap (λ (ws : List (List ℕ)). event_of (word ∷ second ∷ third ∷ ws)) (slice_split-cons_yes (λ octet. eqb octet 32) x xs t)
      | inr f ↦ ap (λ (ws : List (List ℕ)). event_of (word ∷ second ∷ third ∷ ws)) (slice_split-cons_no (λ octet. eqb octet 32) x xs f)
          ∙ behind_first x (words xs) word second third
    ]

-- what the reader of numbers answers, as a function
pub number_is : (word : List ℕ) (most : ℕ) (result : Option ℕ) → most < 2 ^ 32 → Reads decimal (λ n. n ≤ most) word result → result ≡ number_in most word
unfolding number_in
number_is word most None small reads =
    elim (cases_Bool (bytes_eq word (decimal (digits_value 10 word)) && leb (digits_value 10 word) most)) [
      | inl t ↦
          let both = and_parts (bytes_eq word (decimal (digits_value 10 word))) (leb (digits_value 10 word) most) t in
          let e = reads.each (digits_value 10 word) (leb-true (digits_value 10 word) most both.1) ((bytes_eq-Decides word (decimal (digits_value 10 word))).0 both.0) in absurd cc
      | inr f ↦ rw f refl
    ]
number_is word most (Some n) small reads =
    let within : n ≤ most = reads.some.1 in
    let value : digits_value 10 word ≡ n = ap (digits_value 10) reads.some.0 ∙ (decimal_is_IsNumeral n (omega (arith, within, small))).1 in
    let same : bytes_eq word (decimal n) ≡ true = (bytes_eq-Decides word (decimal n)).1 reads.some.0 in rw (value, same, le-leb n most within) refl

-- octets that are refused as a position are no fix
refused_is_none : IsOneToOne position_body → (octets : List ℕ) (refusal : Refusal) → AreOctets octets → length octets ≤ 1023 → position_body.Refuses octets 0 refusal
    → None ≡ fix_if octets
unfolding fix_if
refused_is_none law octets refusal are few refuses = rw ((law.reads_reason octets refusal are).1 refuses, le-leb (length octets) 1023 few) refl

-- so says the reader of fixes
pub refused_fix : IsOneToOne position_body → (octets : List ℕ) (error : FixError) (refusal : Refusal) → AreOctets octets → error ≡ errors.Refused refusal
    → FixAnswer octets (Err error) → None ≡ fix_if octets
refused_fix law octets error refusal are is answer =
    let refused : FixAnswer octets (Err (errors.Refused refusal)) = subst (λ (e : FixError). FixAnswer octets (Err e)) is answer in
    refused_is_none law octets refusal are refused.0 refused.1
