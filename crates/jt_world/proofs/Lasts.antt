-- What is printed last of a script, and the lines of the one that is made.
use Rattle.std.proofs.Common.{◌≡◌, ℕ, zero, suc, ◌+◌, ◌*◌, ◌%◌, ◌^◌, ◌<◌, ◌≤◌, Bool, true, false, if◌then◌else◌, List, [], ◌∷◌, ◌++◌, codes, refl, sym, ap, ◌∙◌, append_assoc, append-nil, arith}
use Rattle.std.specs.Fmt.{decimal}
use Rattle.std.specs.Str.Parse.{AllDigits}
use Rattle.std.proofs.lemmas.Fmt.{decimal_is_IsNumeral}
use Rattle.std.proofs.lemmas.Str.Parse.{digit_from_value}
use Rattle.jt_input.proofs.Lacking.{Lacks-append, lacks_all}
use Rattle.jt_value.specs.declared.limits.TheConstants.{FIX_LIMIT}
use Rattle.jt_input.specs.Text.{AreLines, Cuts, IsLine, Lacks, lines_of}
use Rattle.jt_input.proofs.Lines.{AreLines-append}
use Rattle.jt_play.specs.Playing.{Play, finds_full, names_no_line, play_after}
use Rattle.jt_play.specs.Scripts.{settings_in}
use Rattle.jt_script.specs.EventLines.{meaning}
use Rattle.jt_script.specs.declared.reading.EventLine.{EventLine}
use Rattle.jt_script.specs.declared.reading.EventLine.TheVariants.{Passed, Event, Bad}
use Rattle.jt_world.specs.declared.making.RoundEnd.{RoundEnd}
use Rattle.jt_world.specs.declared.making.RoundEnd.TheVariants.{Same, Open, RestartTerminal, RestartPlatform}
use Rattle.jt_world.specs.Made.{down_line, end_lines, fix_line, last_line, made, made_reply, make_lines, make_script, newest_after, open_line, restart_platform_line, restart_terminal_line, round_end, round_lines, rounds_from, run_line, tick_line, up_line}
use Rattle.jt_world.specs.Rehearsal.{Rehearsal, after_line, bad_at, entry_lines, first, full_at, goes_to, printing, rehearsal, rehearsal_from, the_identity}

-- ---- the last line

abbrev EndsSo : Rehearsal → Type 0
EndsSo r = (before : List ℕ) × (r.text ≡ before ++ last_line r.play r.end)

ends_if : (b : Bool) (x y : Rehearsal) → EndsSo x → EndsSo y → EndsSo (if b then x else y)
ends_if true x y one other = one
ends_if false x y one other = other

ends_behind : (text : List ℕ) (r : Rehearsal) → EndsSo r → EndsSo (printing text r)
ends_behind text r e = (text ++ e.0, ap (λ (t : List ℕ). text ++ t) e.1 ∙ sym (append_assoc text e.0 (last_line r.play r.end)))

ends_after : (p : Play) (number : ℕ) (next : Play → Rehearsal) → ((q : Play) → EndsSo (next q)) → (said : EventLine) → EndsSo (after_line p number next said)
ends_after p number next ends Passed = ends p
ends_after p number next ends Bad = ([], refl)
ends_after p number next ends (Event event) =
    let q = play_after (settings_in the_identity) p event in
    ends_if (names_no_line p.world event) (bad_at number p) (if finds_full FIX_LIMIT p event then full_at p else goes_to p q next) ([], refl)
    (ends_if (finds_full FIX_LIMIT p event) (full_at p) (goes_to p q next) ([], refl) (ends_behind (entry_lines p.world q.world) (next q) (ends q)))

ends_from : (p : Play) (number : ℕ) (lines : List (List ℕ)) → EndsSo (rehearsal_from p number lines)
ends_from p number [] = ([], refl)
ends_from p number (line ∷ more) = ends_after p number (λ next. rehearsal_from next (number + 1) more) (λ q. ends_from q (number + 1) more) (meaning number line)

pub made_last : (count : ℕ) → (before : List ℕ) × ((made count).text ≡ before ++ (made_reply count).text)
unfolding made made_reply
made_last count = ends_from first 1 (make_lines count)

-- ---- the lines of the script that is made

digits_lack : (ds : List ℕ) → AllDigits 10 ds → Lacks 10 ds
digits_lack [] d = tt
digits_lack (c ∷ cs) d = ((λ e. absurd (omega (arith, digit_from_value c d.0, e))), digits_lack cs d.1)

decimal_lacks : (n : ℕ) → n < 2 ^ 64 → Lacks 10 (decimal n)
decimal_lacks n small = digits_lack (decimal n) (decimal_is_IsNumeral n small).0.1

fix_lacks : (k : ℕ) → k < 2 ^ 64 → IsLine (fix_line k)
fix_lacks k small = Lacks-append 10 (codes "fix ") (decimal k) (lacks_all 10 (codes "fix ") refl) (decimal_lacks k small)

up_with : (a b : List ℕ) → Lacks 10 a → Lacks 10 b → Lacks 10 (codes "up " ++ a ++ codes " " ++ b)
up_with a b one other =
    Lacks-append 10 (codes "up " ++ a ++ codes " ") b
    (Lacks-append 10 (codes "up " ++ a) (codes " ") (Lacks-append 10 (codes "up ") a (lacks_all 10 (codes "up ") refl) one) (lacks_all 10 (codes " ") refl)) other

up_lacks : (newest k : ℕ) → newest < 2 ^ 64 → IsLine (up_line newest k)
up_lacks newest k small = up_with (decimal newest) (decimal ((7 * k) % 61)) (decimal_lacks newest small) (decimal_lacks ((7 * k) % 61) (omega arith))

down_lacks : (k : ℕ) → IsLine (down_line k)
down_lacks k = Lacks-append 10 (codes "down ") (decimal ((5 * k) % 43)) (lacks_all 10 (codes "down ") refl) (decimal_lacks ((5 * k) % 43) (omega arith))

open_lacks : IsLine open_line
open_lacks = lacks_all 10 open_line refl

ends_lack : (e : RoundEnd) → AreLines (end_lines e)
ends_lack Same = tt
ends_lack Open = (open_lacks, tt)
ends_lack RestartTerminal = (lacks_all 10 restart_terminal_line refl, (open_lacks, tt))
ends_lack RestartPlatform = (lacks_all 10 restart_platform_line refl, (open_lacks, tt))

newest_small : (e : RoundEnd) (newest k : ℕ) → newest ≤ k + 1 → newest_after e newest ≤ k + 1 + 1
newest_small Same newest k small = omega (arith, small)
newest_small Open newest k small = omega (arith, small)
newest_small RestartTerminal newest k small = omega (arith, small)
newest_small RestartPlatform newest k small = omega (arith, small)

rounds_lack : (k left newest : ℕ) → k + left ≤ 2 ^ 32 → newest ≤ k + 1 → AreLines (rounds_from k left newest)
rounds_lack k zero newest few small = tt
rounds_lack k (suc left) newest few small =
    AreLines-append (round_lines k newest) (rounds_from (k + 1) left (newest_after (round_end k) newest))
    (fix_lacks k (omega (arith, few)), (lacks_all 10 tick_line refl, (up_lacks newest k (omega (arith, few, small)), (down_lacks k, ends_lack (round_end k)))))
    (rounds_lack (k + 1) left (newest_after (round_end k) newest) (omega (arith, few)) (newest_small (round_end k) newest k small))

lines_made : (count : ℕ) → count < 2 ^ 32 → AreLines (make_lines count)
lines_made count few =
    (open_lacks, AreLines-append (rounds_from 0 count 1) (open_line ∷ run_line ∷ []) (rounds_lack 0 count 1 (omega (arith, few)) (omega arith)) (open_lacks, (lacks_all 10 run_line refl, tt)))

pub script_lines : ((text rest begun : List ℕ) (lines : List (List ℕ)) → Cuts text lines begun → lines_of (text ++ rest) ≡ lines ++ lines_of (begun ++ rest))
    → (count : ℕ) → count < 2 ^ 32 → lines_of (make_script count) ≡ make_lines count
script_lines front count few =
    ap lines_of (sym (append-nil (make_script count)))
    ∙ (front (make_script count) [] [] (make_lines count) (record { whole = sym (append-nil (make_script count)); each = lines_made count few; unfinished = tt })
    ∙ append-nil (make_lines count))

pub made_is : (count : ℕ) → lines_of (make_script count) ≡ make_lines count → rehearsal (make_script count) ≡ made count
unfolding rehearsal made
made_is count is = ap (rehearsal_from first 1) is
