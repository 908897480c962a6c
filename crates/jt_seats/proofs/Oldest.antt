-- The oldest link that goes on, of the first ones so far.
use Rattle.std.proofs.Common.{◌≡◌, ℕ, ◌+◌, ◌≤◌, ◌<◌, List, Bool, true, false, cond, Option, None, Some, length, take, get_or, nat_le, arith, refl, sym, ◌∙◌, ap, All}
use Rattle.std.specs.Option.{option_map}
use Rattle.std.proofs.lemmas.Bool.{leb-false, leb-true}
use Rattle.std.proofs.lemmas.List.{take_all}
use Rattle.std.proofs.lemmas.List.Elements.{All-nil, All-more, All-weaker, All-same}
use Rattle.jt_seats.specs.declared.seat.Seat.{Seat}
use Rattle.jt_seats.specs.Seats.{IsOldest, goes_on, older, seat_at, free}

abbrev pub OldestSoFar : List Seat → ℕ → Option (ℕ × ℕ) → Type 0
OldestSoFar seats i None = All (λ seat. goes_on seat ≡ false) (take i seats)
OldestSoFar seats i (Some x) = (goes_on (seat_at x.0 seats) ≡ true)
    × ((x.1 ≡ (seat_at x.0 seats).since) × All (λ seat. goes_on seat ≡ true → x.1 ≤ seat.since) (take i seats))

pub oldest_begins : (seats : List Seat) → OldestSoFar seats 0 None
oldest_begins seats = All-nil (λ seat. goes_on seat ≡ false)

-- one that does not go on
keeps : (seats : List Seat) (i : ℕ) (o : Option (ℕ × ℕ)) → i < length seats → goes_on (seat_at i seats) ≡ false → OldestSoFar seats i o → OldestSoFar seats (i + 1) o
keeps seats i None inside off so_far = All-more (λ seat. goes_on seat ≡ false) seats i free inside so_far off
keeps seats i (Some x) inside off so_far = (
  so_far.0,
  (so_far.1.0, All-more (λ seat. goes_on seat ≡ true → x.1 ≤ seat.since) seats i free inside so_far.1.1 (λ on. absurd cc)),
)

-- one that goes on and came later
passes : (seats : List Seat) (i : ℕ) (x : ℕ × ℕ) → i < length seats → x.1 ≤ (seat_at i seats).since → OldestSoFar seats i (Some x) → OldestSoFar seats (i + 1) (Some x)
passes seats i x inside later so_far = (
  so_far.0,
  (so_far.1.0, All-more (λ seat. goes_on seat ≡ true → x.1 ≤ seat.since) seats i free inside so_far.1.1 (λ on. later)),
)

-- the first one that goes on
begins : (seats : List Seat) (i : ℕ) → i < length seats → goes_on (seat_at i seats) ≡ true → OldestSoFar seats i None → OldestSoFar seats (i + 1) (Some (i, (seat_at i seats).since))
begins seats i inside on so_far = (
  on,
  (
    refl,
    All-more (λ seat. goes_on seat ≡ true → (seat_at i seats).since ≤ seat.since) seats i free inside
        (All-weaker (λ seat. goes_on seat ≡ false) (λ seat. goes_on seat ≡ true → (seat_at i seats).since ≤ seat.since) (λ seat off yes. absurd cc) (take i seats) so_far)
        (λ _. omega arith),
  ),
)

-- one that goes on and came before
takes : (seats : List Seat) (i : ℕ) (x : ℕ × ℕ) → i < length seats → goes_on (seat_at i seats) ≡ true → (seat_at i seats).since < x.1 → OldestSoFar seats i (Some x) → OldestSoFar seats (i + 1) (Some (i, (seat_at i seats).since))
takes seats i x inside on sooner so_far = (
  on,
  (
    refl,
    All-more (λ seat. goes_on seat ≡ true → (seat_at i seats).since ≤ seat.since) seats i free inside
        (All-weaker (λ seat. goes_on seat ≡ true → x.1 ≤ seat.since) (λ seat. goes_on seat ≡ true → (seat_at i seats).since ≤ seat.since)
        (λ seat later yes. let first : x.1 ≤ seat.since = later yes in omega arith) (take i seats) so_far.1.1)
        (λ _. omega arith),
  ),
)

pub oldest_more : (seats : List Seat) (i : ℕ) (o : Option (ℕ × ℕ)) → i < length seats → OldestSoFar seats i o → OldestSoFar seats (i + 1) (older o i (seat_at i seats))
oldest_more seats i None inside so_far =
    elim (goes_on (seat_at i seats)) as (λ b. goes_on (seat_at i seats) ≡ b → OldestSoFar seats (i + 1) (cond b (Some (i, (seat_at i seats).since)) None)) [
      | true ↦ λ on. begins seats i inside on so_far
      | false ↦ λ off. keeps seats i None inside off so_far
    ] refl
oldest_more seats i (Some x) inside so_far =
    elim (goes_on (seat_at i seats)) as (λ b. goes_on (seat_at i seats) ≡ b → OldestSoFar seats (i + 1) (cond b (cond (nat_le x.1 (seat_at i seats).since) (Some x) (Some (i, (seat_at i seats).since))) (Some x))) [
      | true ↦ λ on. elim (nat_le x.1 (seat_at i seats).since) as (λ b. nat_le x.1 (seat_at i seats).since ≡ b → OldestSoFar seats (i + 1) (cond b (Some x) (Some (i, (seat_at i seats).since)))) [
        | true ↦ λ e. passes seats i x inside (leb-true x.1 (seat_at i seats).since e) so_far
        | false ↦ λ e. takes seats i x inside on (leb-false x.1 (seat_at i seats).since e) so_far
      ] refl
      | false ↦ λ off. keeps seats i (Some x) inside off so_far
    ] refl

pub oldest_ends : (seats : List Seat) (i : ℕ) (o : Option (ℕ × ℕ)) → length seats ≤ i → OldestSoFar seats i o → IsOldest seats (option_map (λ (x : ℕ × ℕ). x.0) o)
oldest_ends seats i None whole so_far = All-same (λ seat. goes_on seat ≡ false) seats (take i seats) (sym (take_all i seats whole)) so_far
oldest_ends seats i (Some x) whole so_far = (
  so_far.0,
  rw (sym so_far.1.0) (All-same (λ seat. goes_on seat ≡ true → x.1 ≤ seat.since) seats (take i seats) (sym (take_all i seats whole)) so_far.1.1),
)
