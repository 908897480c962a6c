-- The script that is made is read whole: each of its lines says an event, names a line of communication that was opened, and finds room.
use Rattle.std.proofs.Common.{◌≡◌, ℕ, zero, suc, ◌+◌, ◌-◌, ◌*◌, ◌%◌, ◌^◌, ◌<◌, ◌≤◌, Bool, true, false, not, ◌&&◌, if◌then◌else◌, leb, IsTrue, List, [], ◌∷◌, ◌++◌, codes, length, Option, Some, None, refl, sym, ap, subst, ◌∙◌, arith, append_assoc, zero-add, inl, inr}
use Rattle.std.specs.Prelude.{nat_le, nat_lt}
use Rattle.std.specs.Fmt.{decimal, digits}
use Rattle.std.specs.Option.{option_map, option_and_then}
use Rattle.std.specs.Str.{bytes_eq}
use Rattle.std.specs.Str.Parse.{AllDigits, digits_value}
use Rattle.std.proofs.lemmas.Bool.{cases_Bool, le-leb, lt-leb}
use Rattle.std.proofs.lemmas.Fmt.{decimal_is_IsNumeral, length-decimal-le}
use Rattle.std.proofs.lemmas.List.{length-append}
use Rattle.std.proofs.lemmas.Slice.Eq.{bytes_eq-Decides}
use Rattle.std.proofs.lemmas.Str.Parse.{digit_from_value}
use Rattle.jt_value.specs.declared.limits.TheConstants.{FIX_LIMIT}
use Rattle.jt_store.specs.Vaults.{accepted_count}
use Rattle.jt_input.proofs.Lacking.{lacks_all}
use Rattle.jt_input.specs.Spelling.{is_passed}
use Rattle.jt_input.specs.Text.{Lacks, is_within}
use Rattle.jt_play.specs.Laws.{EachLineOpens, EachLineRecords, opened_by, recorded_by}
use Rattle.jt_play.specs.Playing.{Play, finds_full, is_opened, names_no_line, play_after}
use Rattle.jt_play.specs.Scripts.{settings_in}
use Rattle.jt_script.specs.EventLines.{amount_in, event_of, event_of_one, event_of_three, event_of_two, event_of_valued, event_or_bad, meaning, number_in, restart_of, says, up_of, words}
use Rattle.jt_script.specs.declared.reading.EventLine.{EventLine}
use Rattle.jt_script.specs.declared.reading.EventLine.TheVariants.{Passed, Event, Bad}
use Rattle.jt_script.specs.declared.world_event.WorldEvent.{WorldEvent}
use Rattle.jt_script.specs.declared.world_event.WorldEvent.TheVariants as line
use Rattle.jt_script.proofs.WordsOfLines.{one_word, word_and_rest}
use Rattle.jt_world.specs.declared.making.RoundEnd.{RoundEnd}
use Rattle.jt_world.specs.declared.making.RoundEnd.TheVariants.{Same, Open, RestartTerminal, RestartPlatform}
use Rattle.jt_world.specs.Made.{down_line, end_lines, fix_line, made, make_lines, newest_after, open_line, restart_platform_line, restart_terminal_line, round_end, round_lines, rounds_from, run_line, tick_line, up_line}
use Rattle.jt_world.specs.Rehearsal.{Rehearsal, End, Whole, after_line, bad_at, first, full_at, goes_to, rehearsal_from, the_identity}
use Rattle.jt_world.proofs.Heard.{meaning_is}

-- ---- numbers in lines

digits_lack : (o : ℕ) → ((c : ℕ) → 48 ≤ c → c ≤ 57 → c ≡ o → ⊥) → (ds : List ℕ) → AllDigits 10 ds → Lacks o ds
digits_lack o other [] d = tt
digits_lack o other (c ∷ cs) d = let digit = digit_from_value c d.0 in (other c (omega (arith, digit)) (omega (arith, digit)), digits_lack o other cs d.1)

decimal_lacks : (o : ℕ) → ((c : ℕ) → 48 ≤ c → c ≤ 57 → c ≡ o → ⊥) → (n : ℕ) → n < 2 ^ 64 → Lacks o (decimal n)
decimal_lacks o other n small = digits_lack o other (decimal n) (decimal_is_IsNumeral n small).0.1

no_space : (n : ℕ) → n < 2 ^ 64 → Lacks 32 (decimal n)
no_space n small = decimal_lacks 32 (λ c low high is. absurd (omega (arith, low, is))) n small

number_is : (most n : ℕ) → n ≤ most → n < 2 ^ 64 → number_in most (decimal n) ≡ Some n
unfolding number_in
number_is most n within small =
    let value : digits_value 10 (decimal n) ≡ n = (decimal_is_IsNumeral n small).1 in
    let same : bytes_eq (decimal n) (decimal n) ≡ true = (bytes_eq-Decides (decimal n) (decimal n)).1 refl in rw (value, same, le-leb n most within) refl

not_all : (n : ℕ) → n < 2 ^ 64 → bytes_eq (decimal n) (codes "all") ≡ false
not_all n small =
    elim (cases_Bool (bytes_eq (decimal n) (codes "all"))) [
      | inl t ↦
          let is : decimal n ≡ codes "all" = (bytes_eq-Decides (decimal n) (codes "all")).0 t in
          let lacks : Lacks 97 (codes "all") = subst (Lacks 97) is (decimal_lacks 97 (λ c low high same. absurd (omega (arith, high, same))) n small) in absurd (lacks.0 refl)
      | inr f ↦ f
    ]

amount_is : (n : ℕ) → n ≤ 1000000000 → amount_in (decimal n) ≡ Some (Some n)
unfolding amount_in
amount_is n few =
    ap (λ (b : Bool). if b then Some None else option_map (λ (count : ℕ). Some count) (number_in 1000000000 (decimal n))) (not_all n (omega (arith, few)))
    ∙ ap (option_map (λ (count : ℕ). Some count)) (number_is 1000000000 n few (omega (arith, few)))

short : (n : ℕ) → n < 10 ^ 10 → length (decimal n) ≤ 10
short n small = length-decimal-le 10 n (omega arith) small (omega (arith, small))

-- ---- what lines say

said : (line : List ℕ) (ws : List (List ℕ)) (e : WorldEvent) → is_passed line ≡ false → words line ≡ ws → event_of ws ≡ Some e → says line ≡ Event e
unfolding says
said line ws e passed are is =
    ap (λ (b : Bool). if b then Passed else event_or_bad (event_of (words line))) passed ∙ (ap (λ (w : List (List ℕ)). event_or_bad (event_of w)) are ∙ ap event_or_bad is)

means : (number : ℕ) (line : List ℕ) (e : WorldEvent) → number ≤ 10000000 → length line ≤ 4096 → says line ≡ Event e → meaning number line ≡ Event e
means number line e few short is =
    let within : is_within number line ≡ true = rw (le-leb number 10000000 few, le-leb (length line) 4096 short) refl in
    meaning_is number line within ∙ is

fix_event : (n : ℕ) → n ≤ 89999999 → event_of (codes "fix" ∷ decimal n ∷ []) ≡ Some (line.Fix n)
unfolding event_of_two event_of_valued
fix_event n few = ap (option_map line.Fix) (number_is 89999999 n few (omega (arith, few)))

fix_says : (n : ℕ) → n ≤ 89999999 → says (fix_line n) ≡ Event (line.Fix n)
fix_says n few =
    let small : n < 2 ^ 64 = omega (arith, few) in
    said (fix_line n) (codes "fix" ∷ decimal n ∷ []) (line.Fix n) refl
    (word_and_rest (codes "fix") (decimal n) (lacks_all 32 (codes "fix") refl) ∙ ap (λ (ws : List (List ℕ)). codes "fix" ∷ ws) (one_word (decimal n) (no_space n small))) (fix_event n few)

down_event : (n : ℕ) → n ≤ 1000000000 → event_of (codes "down" ∷ decimal n ∷ []) ≡ Some (line.Down (Some n))
unfolding event_of_two event_of_valued
down_event n few = ap (option_map line.Down) (amount_is n few)

down_says : (n : ℕ) → n ≤ 1000000000 → says (codes "down " ++ decimal n) ≡ Event (line.Down (Some n))
down_says n few =
    let small : n < 2 ^ 64 = omega (arith, few) in
    said (codes "down " ++ decimal n) (codes "down" ∷ decimal n ∷ []) (line.Down (Some n)) refl
    (word_and_rest (codes "down") (decimal n) (lacks_all 32 (codes "down") refl) ∙ ap (λ (ws : List (List ℕ)). codes "down" ∷ ws) (one_word (decimal n) (no_space n small))) (down_event n few)

up_event : (number n : ℕ) → number ≤ 4294967295 → n ≤ 1000000000 → event_of (codes "up" ∷ decimal number ∷ decimal n ∷ []) ≡ Some (line.Up number (Some n))
unfolding event_of_three up_of
up_event number n low few =
    ap (option_and_then (λ (l : ℕ). option_map (λ (octets : Option ℕ). line.Up l octets) (amount_in (decimal n)))) (number_is 4294967295 number low (omega (arith, low)))
    ∙ ap (option_map (λ (octets : Option ℕ). line.Up number octets)) (amount_is n few)

up_says : (number n : ℕ) → number ≤ 4294967295 → n ≤ 1000000000 → says (codes "up " ++ decimal number ++ codes " " ++ decimal n) ≡ Event (line.Up number (Some n))
up_says number n low few =
    let front = decimal number in
    let back = decimal n in
    said (codes "up " ++ front ++ codes " " ++ back) (codes "up" ∷ front ∷ back ∷ []) (line.Up number (Some n)) refl
    (ap words (append_assoc (codes "up " ++ front) (codes " ") back ∙ append_assoc (codes "up ") front (32 ∷ back))
    ∙ (word_and_rest (codes "up") (front ++ 32 ∷ back) (lacks_all 32 (codes "up") refl)
    ∙ ap (λ (ws : List (List ℕ)). codes "up" ∷ ws)
    (word_and_rest front back (no_space number (omega (arith, low))) ∙ ap (λ (ws : List (List ℕ)). front ∷ ws) (one_word back (no_space n (omega (arith, few)))))))
    (up_event number n low few)

tick_says : says tick_line ≡ Event (line.Tick 1000)
unfolding says event_of_two event_of_valued number_in digits
tick_says = refl

open_says : says open_line ≡ Event line.Open
unfolding says event_of_one
open_says = refl

run_says : says run_line ≡ Event line.Run
unfolding says event_of_one
run_says = refl

restart_terminal_says : says restart_terminal_line ≡ Event line.RestartTerminal
unfolding says event_of_two event_of_valued restart_of
restart_terminal_says = refl

restart_platform_says : says restart_platform_line ≡ Event line.RestartPlatform
unfolding says event_of_two event_of_valued restart_of
restart_platform_says = refl

-- ---- lines that are done

-- it ended so, and so many fixes were recorded
abbrev Ends : ℕ → Rehearsal → Type 0
Ends total r = (r.end ≡ Whole) × (length r.play.held.recorded ≡ total)

-- where so many fixes are recorded and so many lines of communication are opened at least, these lines end so, if the first is not behind
-- this number
abbrev From : ℕ → ℕ → ℕ → ℕ → List (List ℕ) → Type 0
From total count newest most lines = (p : Play) (number : ℕ) → number ≤ most → length p.held.recorded ≡ count → newest ≤ length p.world.lines → Ends total (rehearsal_from p number lines)

abbrev next_play : Play → WorldEvent → Play
next_play p e = play_after (settings_in the_identity) p e

ends_done : (total : ℕ) (p : Play) (number : ℕ) (next : Play → Rehearsal) (s : EventLine) (e : WorldEvent) → s ≡ Event e → names_no_line p.world e ≡ false → finds_full FIX_LIMIT p e ≡ false
    → Ends total (next (next_play p e)) → Ends total (after_line p number next s)
ends_done total p number next s e is opened room ends =
    subst (λ (x : EventLine). Ends total (after_line p number next x)) (sym is)
    (subst (λ (b : Bool). Ends total (if b then bad_at number p else if finds_full FIX_LIMIT p e then full_at p else goes_to p (next_play p e) next)) (sym opened)
    (subst (λ (b : Bool). Ends total (if b then full_at p else goes_to p (next_play p e) next)) (sym room) ends))

less : (a b count limit : ℕ) → a ≡ count → count < limit → a - b < limit
less a b count limit is few = omega (arith, is, few)

room : (p : Play) (n count : ℕ) → length p.held.recorded ≡ count → count < FIX_LIMIT → finds_full FIX_LIMIT p (line.Fix n) ≡ false
room p n count is few = lt-leb FIX_LIMIT (length p.held.recorded - accepted_count p.held) (less (length p.held.recorded) (accepted_count p.held) count FIX_LIMIT is few)

opened : (p : Play) (number : ℕ) (count : Option ℕ) → 0 < number → number ≤ length p.world.lines → names_no_line p.world (line.Up number count) ≡ false
opened p number count some low = ap not (ap (λ (b : Bool). b && nat_le number (length p.world.lines)) (le-leb 1 number some) ∙ le-leb number (length p.world.lines) low)

module _ (records : EachLineRecords) (opens : EachLineOpens) where
  count_after : (p : Play) (e : WorldEvent) (count : ℕ) → length p.held.recorded ≡ count → length (next_play p e).held.recorded ≡ count + length (recorded_by e)
  count_after p e count is =
      ap (λ (l : List (List ℕ)). length l) (records (settings_in the_identity) p e) ∙ (length-append p.held.recorded (recorded_by e) ∙ ap (λ (n : ℕ). n + length (recorded_by e)) is)

  lines_after : (p : Play) (e : WorldEvent) (newest : ℕ) → newest ≤ length p.world.lines → newest + opened_by e ≤ length (next_play p e).world.lines
  lines_after p e newest low = let more = opens (settings_in the_identity) p e in omega (arith, low, more)

  -- one line is done, where it says this event
  from_line : (total count newest count_now newest_now most : ℕ) (line : List ℕ) (more : List (List ℕ)) (e : WorldEvent) → count + length (recorded_by e) ≡ count_now → newest_now ≤ newest + opened_by e
      → most ≤ 10000000 → length line ≤ 4096 → says line ≡ Event e
      → ((p : Play) → newest ≤ length p.world.lines → names_no_line p.world e ≡ false) → ((p : Play) → length p.held.recorded ≡ count → finds_full FIX_LIMIT p e ≡ false)
      → From total count_now newest_now (most + 1) more → From total count newest most (line ∷ more)
  from_line total count newest count_now newest_now most line more e count_is newest_is few short is names full rest p number low counted lines =
      let q = next_play p e in
      let opened = lines_after p e newest lines in
      ends_done total p number (λ next. rehearsal_from next (number + 1) more) (meaning number line) e (means number line e (omega (arith, low, few)) short is) (names p lines) (full p counted)
      (rest q (number + 1) (omega (arith, low)) (count_after p e count counted ∙ count_is) (omega (arith, opened, newest_is)))

  -- where it records and opens nothing
  from_plain : (total count newest most : ℕ) (line : List ℕ) (more : List (List ℕ)) (e : WorldEvent) → length (recorded_by e) ≡ 0 → most ≤ 10000000 → length line ≤ 4096 → says line ≡ Event e
      → ((p : Play) → newest ≤ length p.world.lines → names_no_line p.world e ≡ false) → ((p : Play) → finds_full FIX_LIMIT p e ≡ false)
      → From total count newest (most + 1) more → From total count newest most (line ∷ more)
  from_plain total count newest most line more e none few short is names full rest =
      from_line total count newest count newest most line more e (omega (arith, none)) (omega arith) few short is names (λ p counted. full p) rest

  from_open : (total count newest most : ℕ) (more : List (List ℕ)) → most ≤ 10000000 → From total count (newest + 1) (most + 1) more → From total count newest most (open_line ∷ more)
  from_open total count newest most more few rest =
      from_line total count newest count (newest + 1) most open_line more line.Open (none_more count) (omega arith) few (omega arith) open_says (λ p low. refl) (λ p counted. refl) rest
    where
      none_more : (n : ℕ) → n + 0 ≡ n
      none_more n = omega arith

  from_fix : (total count newest most : ℕ) (more : List (List ℕ)) → count < FIX_LIMIT → count ≤ 89999999 → most ≤ 10000000 → From total (count + 1) newest (most + 1) more
      → From total count newest most (fix_line count ∷ more)
  from_fix total count newest most more room_for small few rest =
      from_line total count newest (count + 1) newest most (fix_line count) more (line.Fix count) refl (omega arith) few fits (fix_says count small) (λ p low. refl) (λ p counted. room p count count counted room_for) rest
    where
      fits : length (fix_line count) ≤ 4096
      fits = let parts = length-append (codes "fix ") (decimal count) in let digits = short count (omega (arith, small)) in omega (arith, parts, digits)

  from_up : (total count newest most k : ℕ) (more : List (List ℕ)) → 0 < newest → newest ≤ 4294967295 → most ≤ 10000000 → From total count newest (most + 1) more → From total count newest most (up_line newest k ∷ more)
  from_up total count newest most k more some low few rest =
      from_plain total count newest most (up_line newest k) more (line.Up newest (Some n)) refl few fits (up_says newest n low (omega (arith, amount)))
      (λ p lines. opened p newest (Some n) some lines) (λ p. refl) rest
    where
      n : ℕ
      n = (7 * k) % 61

      amount : n ≤ 60
      amount = omega arith

      fits : length (up_line newest k) ≤ 4096
      fits =
          let first = length-append (codes "up ") (decimal newest) in
          let second = length-append (codes "up " ++ decimal newest) (codes " ") in
          let third = length-append (codes "up " ++ decimal newest ++ codes " ") (decimal n) in
          let front = short newest (omega (arith, low)) in
          let back = short n (omega (arith, amount)) in
          omega (arith, first, second, third, front, back)

  from_down : (total count newest most k : ℕ) (more : List (List ℕ)) → most ≤ 10000000 → From total count newest (most + 1) more → From total count newest most (down_line k ∷ more)
  from_down total count newest most k more few rest =
      from_plain total count newest most (down_line k) more (line.Down (Some n)) refl few fits (down_says n (omega (arith, amount))) (λ p lines. refl) (λ p. refl) rest
    where
      n : ℕ
      n = (5 * k) % 43

      amount : n ≤ 42
      amount = omega arith

      fits : length (down_line k) ≤ 4096
      fits = let parts = length-append (codes "down ") (decimal n) in let digits = short n (omega (arith, amount)) in omega (arith, parts, digits)

  -- ---- rounds

  later : (total count newest most bound : ℕ) (lines : List (List ℕ)) → most ≤ bound → From total count newest bound lines → From total count newest most lines
  later total count newest most bound lines le from p number low = from p number (omega (arith, low, le))

  -- the last lines of a round, of which there are two at most
  from_end : (total count newest most : ℕ) (end : RoundEnd) (more : List (List ℕ)) → most + 1 ≤ 10000000 → From total count (newest_after end newest) (most + 2) more → From total count newest most (end_lines end ++ more)
  from_end total count newest most Same more few rest = later total count newest most (most + 2) more (omega arith) rest
  from_end total count newest most Open more few rest =
      from_open total count newest most more (omega (arith, few)) (later total count (newest + 1) (most + 1) (most + 2) more (omega arith) rest)
  from_end total count newest most RestartTerminal more few rest =
      from_plain total count newest most restart_terminal_line (open_line ∷ more) line.RestartTerminal refl (omega (arith, few)) (omega arith) restart_terminal_says (λ p lines. refl) (λ p. refl)
      (from_open total count newest (most + 1) more few (later total count (newest + 1) (most + 1 + 1) (most + 2) more (omega arith) rest))
  from_end total count newest most RestartPlatform more few rest =
      from_plain total count newest most restart_platform_line (open_line ∷ more) line.RestartPlatform refl (omega (arith, few)) (omega arith) restart_platform_says (λ p lines. refl) (λ p. refl)
      (from_open total count newest (most + 1) more few (later total count (newest + 1) (most + 1 + 1) (most + 2) more (omega arith) rest))

  from_round : (total count newest most : ℕ) (more : List (List ℕ)) → count < FIX_LIMIT → count ≤ 89999999 → 0 < newest → newest ≤ 4294967295 → most + 6 ≤ 10000000
      → From total (count + 1) (newest_after (round_end count) newest) (most + 6) more → From total count newest most (round_lines count newest ++ more)
  from_round total count newest most more room_for small some low few rest =
      let behind = end_lines (round_end count) ++ more in
      from_fix total count newest most (tick_line ∷ up_line newest count ∷ down_line count ∷ behind) room_for small (omega (arith, few))
      (from_plain total (count + 1) newest (most + 1) tick_line (up_line newest count ∷ down_line count ∷ behind) (line.Tick 1000) refl (omega (arith, few)) (omega arith) tick_says (λ p lines. refl) (λ p. refl)
      (from_up total (count + 1) newest (most + 1 + 1) count (down_line count ∷ behind) some low (omega (arith, few))
      (from_down total (count + 1) newest (most + 1 + 1 + 1) count behind (omega (arith, few))
      (from_end total (count + 1) newest (most + 1 + 1 + 1 + 1) (round_end count) more (omega (arith, few))
      (later total (count + 1) (newest_after (round_end count) newest) (most + 1 + 1 + 1 + 1 + 2) (most + 6) more (omega arith) rest)))))

  newest_low : (end : RoundEnd) (newest k : ℕ) → newest ≤ k + 1 → newest_after end newest ≤ k + 1 + 1
  newest_low Same newest k low = omega (arith, low)
  newest_low Open newest k low = omega (arith, low)
  newest_low RestartTerminal newest k low = omega (arith, low)
  newest_low RestartPlatform newest k low = omega (arith, low)

  newest_some : (end : RoundEnd) (newest : ℕ) → 0 < newest → 0 < newest_after end newest
  newest_some Same newest some = some
  newest_some Open newest some = omega arith
  newest_some RestartTerminal newest some = omega arith
  newest_some RestartPlatform newest some = omega arith

  from_rounds : (total count left newest most : ℕ) (more : List (List ℕ)) → count + left ≡ total → total ≤ FIX_LIMIT → total ≤ 89999999 → 0 < newest → newest ≤ count + 1 → most + 6 * left ≤ 10000000
      → ((last : ℕ) → From total total last (most + 6 * left) more) → From total count newest most (rounds_from count left newest ++ more)
  from_rounds total count zero newest most more all limit small some low few rest =
      let same : count ≡ total = omega (arith, all) in
      subst (λ (n : ℕ). From total n newest most more) (sym same) (later total total newest most (most + 6 * 0) more (omega arith) (rest newest))
  from_rounds total count (suc left) newest most more all limit small some low few rest =
      let next = newest_after (round_end count) newest in
      let tail = rounds_from (count + 1) left next in
      subst (From total count newest most) (sym (append_assoc (round_lines count newest) tail more))
      (from_round total count newest most (tail ++ more) (omega (arith, all, limit)) (omega (arith, all, small)) some (omega (arith, low, all, small)) (omega (arith, few))
      (from_rounds total (count + 1) left next (most + 6) more (omega (arith, all)) limit small (newest_some (round_end count) newest some) (newest_low (round_end count) newest count low) (omega (arith, few))
      (λ last. later total total last (most + 6 + 6 * left) (most + 6 * suc left) more (omega arith) (rest last))))

  -- ---- the whole script

  from_last : (total most : ℕ) → most + 1 ≤ 10000000 → (last : ℕ) → From total total last most (open_line ∷ run_line ∷ [])
  from_last total most few last =
      from_open total total last most (run_line ∷ []) (omega (arith, few))
      (from_plain total total (last + 1) (most + 1) run_line [] line.Run refl few (omega arith) run_says (λ p lines. refl) (λ p. refl) (λ p number low counted lines. (refl, counted)))

  pub made_whole : (count : ℕ) → count ≤ FIX_LIMIT → Ends count (made count)
  unfolding made
  made_whole count limit =
      let most : FIX_LIMIT ≡ 100000 = refl in
      from_open count 0 0 1 (rounds_from 0 count 1 ++ open_line ∷ run_line ∷ []) (omega arith)
      (from_rounds count 0 count (0 + 1) (1 + 1) (open_line ∷ run_line ∷ []) (zero-add count) limit (omega (arith, limit, most)) (omega arith) (omega arith) (omega (arith, limit, most))
      (λ last. from_last count (1 + 1 + 6 * count) (omega (arith, limit, most)) last)) first 1 (omega arith) refl (omega arith)
