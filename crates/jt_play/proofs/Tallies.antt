-- How many rows the entries of hubs added, and the fixes in them.
use Rattle.std.proofs.Common.{ℕ, suc, ◌+◌, ◌-◌, ◌^◌, ◌≤◌, ◌<◌, ◌≡◌, List, [], ◌∷◌, ◌++◌, length, length-append, zero-add, Option, Some, None, Bool, true, false, arith, refl, ap, sym, ◌∙◌, subst}
use Rattle.std.specs.Prelude.{if◌then◌else◌, min}
use Rattle.std.specs.List.{flat_map}
use Rattle.std.specs.Coded.{codes}
use Rattle.std.proofs.Math.Logic.{∥∥₁_elim}
use Rattle.std.proofs.Math.Nat.{min-eq_left}
use Rattle.std.proofs.lemmas.Bool.{false≢true}
use Rattle.std.proofs.lemmas.Grind.{flat_map-append}
use Rattle.std.proofs.lemmas.List.{append-nil, append_assoc, reverse-append}
use Rattle.jt_value.specs.Sameness.{key_of, same_key}
use Rattle.jt_value.specs.Reaching.{MayAll, after_all}
use Rattle.jt_position.specs.Fixes.{fixes_of}
use Rattle.jt_store.specs.Units.{carried, fixes_in}
use Rattle.jt_store.specs.declared.row.Row.{Row}
use Rattle.jt_platform.specs.History.{newest, row_of, rows_after}
use Rattle.jt_platform.specs.declared.request.Entry.{Entry}
use Rattle.jt_platform.specs.declared.request.Reply.{Reply}
use Rattle.jt_platform.specs.declared.request.Reply.TheVariants as say
use Rattle.jt_platform.specs.declared.request.Request.{Request}
use Rattle.jt_platform.specs.declared.request.Request.TheVariants as ask
use Rattle.jt_session.specs.Sessions.{entries_on}
use Rattle.jt_session.specs.Talk.{State, Way}
use Rattle.jt_stream.specs.Unplaced.{Unplaced}
use Rattle.jt_octets.specs.World.{World, completed_item, empty, line_at}
use Rattle.jt_octets.specs.Steps.{Event, Does, Up, Down, Cut, RestartPlatform, MayCome, after, after_take, talk_after_item}
use Rattle.jt_octets.specs.Reaching.{Reached}
use Rattle.jt_play.specs.declared.tally.Tally.{Tally}
use Rattle.jt_play.specs.Holding.{row_by, rows_in, tally_of, tally_sum}
use Rattle.jt_event_lines.specs.declared.totals.WorldTotals.{WorldTotals}
use Rattle.jt_store.specs.Vaults.{accepted_count}
use Rattle.jt_play.specs.Playing.{Play}
use Rattle.jt_play.specs.Scripts.{at_most_u64, totals_of}
use Rattle.jt_play.proofs.KeeperRows.{rows_both, rows_come, rows_of_all}

-- ---- sums that stay at their end

sum_capped : (x y a b : ℕ) → x ≡ min a (2 ^ 64 - 1) → y ≡ min b (2 ^ 64 - 1) → min (x + y) (2 ^ 64 - 1) ≡ min (a + b) (2 ^ 64 - 1)
sum_capped x y a b p q = grind arith

sum_at_end : (a b : ℕ) → at_most_u64 (at_most_u64 a + at_most_u64 b) ≡ at_most_u64 (a + b)
sum_at_end a b = sum_capped (at_most_u64 a) (at_most_u64 b) a b refl refl

three : (x a b : ℕ) → x + (a + b) ≡ (x + a) + b
three x a b = omega arith

fixes_append : (a b : List Row) → length (fixes_in (a ++ b)) ≡ length (fixes_in a) + length (fixes_in b)
fixes_append [] b = sym (zero-add (length (fixes_in b)))
fixes_append (row ∷ a) b =
    let own = fixes_of (carried row) in
    length-append own (fixes_in (a ++ b))
    ∙ (ap (λ (n : ℕ). length own + n) (fixes_append a b)
    ∙ (three (length own) (length (fixes_in a)) (length (fixes_in b)) ∙ sym (ap (λ (n : ℕ). n + length (fixes_in b)) (length-append own (fixes_in a)))))

pub tally_append : (a b : List Row) → tally_of (a ++ b) ≡ tally_sum (tally_of a) (tally_of b)
tally_append a b =
    let rows : length (a ++ b) ≡ length a + length b = length-append a b in
    ap (λ (n : ℕ). record { rows = at_most_u64 n; fixes = at_most_u64 (length (fixes_in (a ++ b))) }) rows
    ∙ (ap (λ (n : ℕ). record { rows = at_most_u64 (length a + length b); fixes = at_most_u64 n }) (fixes_append a b)
    ∙ (ap (λ (n : ℕ). record { rows = n; fixes = at_most_u64 (length (fixes_in a) + length (fixes_in b)) }) (sym (sum_at_end (length a) (length b)))
    ∙ ap (λ (n : ℕ). record { rows = at_most_u64 (at_most_u64 (length a) + at_most_u64 (length b)); fixes = n }) (sym (sum_at_end (length (fixes_in a)) (length (fixes_in b))))))

fits : (n m : ℕ) → n ≡ m → n < 2 ^ 16 → m ≤ 2 ^ 64 - 1
fits n m is few = omega (arith, is, few)

pub tally_one : (number id : ℕ) (body : List ℕ) (n : ℕ) → n ≡ length (fixes_of (id, body)) → n < 2 ^ 16 → ◌≡◌ {A = Tally} (record { rows = 1; fixes = n }) (tally_of (record { number = number; id = id; body = body } ∷ []))
tally_one number id body n is few =
    ap (λ (m : ℕ). record { rows = 1; fixes = m })
    (is ∙ (sym (min-eq_left (fits n (length (fixes_of (id, body))) is few)) ∙ ap at_most_u64 (ap (λ (l : List (List ℕ)). length l) (sym (append-nil (fixes_of (id, body)))))))

-- ---- the entries of hubs, oldest first

pub tally_both : (key : List ℕ) (a b : List Entry) → tally_of (rows_in key (a ++ b)) ≡ tally_sum (tally_of (rows_in key a)) (tally_of (rows_in key b))
tally_both key a b = ap tally_of (rows_both key a b) ∙ tally_append (rows_in key a) (rows_in key b)

pub tally_push : (key : List ℕ) (a : List Entry) (e : Entry) → tally_of (rows_in key (a ++ e ∷ [])) ≡ tally_sum (tally_of (rows_in key a)) (tally_of (row_by key e))
tally_push key a e = tally_both key a (e ∷ []) ∙ ap (λ (l : List Row). tally_sum (tally_of (rows_in key a)) (tally_of l)) (append-nil (row_by key e))

pub tally_history : (key : List ℕ) (a : List (List Entry)) (h : List Entry)
    → tally_of (rows_in key (flat_map (λ (x : List Entry). x) (a ++ h ∷ []))) ≡ tally_sum (tally_of (rows_in key (flat_map (λ (x : List Entry). x) a))) (tally_of (rows_in key h))
tally_history key a h =
    ap (λ (entries : List Entry). tally_of (rows_in key entries)) (flat_map-append (λ (x : List Entry). x) a (h ∷ []) ∙ ap (λ (l : List Entry). flat_map (λ (x : List Entry). x) a ++ l) (append-nil h))
    ∙ tally_both key (flat_map (λ (x : List Entry). x) a) h

pub tally_of_all : (key : List ℕ) (past present : List Entry) → tally_sum (tally_of (rows_in key past)) (tally_of (rows_in key present)) ≡ tally_of (rows_after key [] (newest present ++ newest past))
tally_of_all key past present = sym (ap tally_of (rows_of_all key past present) ∙ tally_append (rows_in key past) (rows_in key present))

-- ---- the totals

pub totals_are : (p : Play) (key : List ℕ) (recorded accepted : ℕ) (t : Tally) → key ≡ key_of p.world.terminal.phone → ∥ Reached p.world ∥₁ → recorded ≡ at_most_u64 (length p.held.recorded) → accepted ≡ at_most_u64 (accepted_count p.held)
    → t ≡ tally_of (rows_after key [] (p.world.history ++ p.world.past)) → ◌≡◌ {A = WorldTotals} (record { recorded = recorded; accepted = accepted; rows = t.rows; stored = t.fixes }) (totals_of p)
totals_are p key recorded accepted t same reached r a is =
    let all : t ≡ tally_of p.world.keeper.rows = is ∙ ap tally_of (ap (λ (k : List ℕ). rows_after k [] (p.world.history ++ p.world.past)) same ∙ sym (rows_come p.world reached)) in
    ap (λ (n : ℕ). record { recorded = n; accepted = accepted; rows = t.rows; stored = t.fixes }) r
    ∙ (ap (λ (n : ℕ). record { recorded = at_most_u64 (length p.held.recorded); accepted = n; rows = t.rows; stored = t.fixes }) a
    ∙ ap (λ (u : Tally). record { recorded = at_most_u64 (length p.held.recorded); accepted = at_most_u64 (accepted_count p.held); rows = u.rows; stored = u.fixes }) all)
