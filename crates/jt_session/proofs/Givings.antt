-- What the hub of a turn gave to an ask.
use Rattle.std.proofs.Common.{◌≡◌, ◌≤◌, ◌+◌, ◌==◌, ℕ, List, ◌++◌, length, map, Bool, true, false, if◌then◌else◌, Option, Some, None, IfSome, inl, inr, refl, sym, ◌∙◌, subst, arith, ne_eqb}
use Rattle.std.specs.Prelude.{IsSome}
use Rattle.std.specs.Option.{option_map}
use Rattle.std.proofs.lemmas.Bool.{false≢true}
use mathlib.Core.List.{IsPrefix}
use mathlib.Core.Logic.{dite}
use native.Mathlib.Decide.{ℕ_discrete}
use Rattle.jt_value.specs.Sameness.{key_of}
use Rattle.jt_value.specs.declared.phone.Phone.{Phone}
use Rattle.jt_store.specs.Tables.{Tables, WhereKnown}
use Rattle.jt_value.specs.Counts.{Rose}
use Rattle.jt_turn.specs.declared.entry.Entry.{Entry as Turned}
use Rattle.jt_turn.specs.Histories.{entry_if}
use Rattle.jt_turn.specs.Passes.{PassState}
use Rattle.jt_platform.specs.Allowed.{Opening, Allowed, FencedReply, GuardedReply, IsMore, StoreReply, makes_entry}
use Rattle.jt_platform.specs.Desks.{Gives, as_entry}
use Rattle.jt_platform.specs.History.{holder, newest, tables_after}
use Rattle.jt_platform.specs.declared.request.Entry.{Entry}
use Rattle.jt_platform.specs.declared.request.Request.{Request}
use Rattle.jt_platform.specs.declared.request.Request.TheVariants as ask
use Rattle.jt_platform.specs.declared.request.Reply.{Reply}
use Rattle.jt_platform.specs.declared.request.Reply.TheVariants as say
use Rattle.jt_session.specs.Replies.{HasRoomFor}
use Rattle.jt_session.specs.Hearing.{FailedMore, IsFilled}
use Rattle.jt_session.proofs.Hubs.{reply_room}

-- ---- a unit at which the phone had as many rows as it may have

told_map : (now : Option Tables) (P Q : Tables → Type 0) → ((t : Tables) → P t → Q t) → WhereKnown now P → WhereKnown now Q
told_map None P Q f told = tt
told_map (Some t) P Q f told = f t told

never_fenced : (session : ℕ) (holds : Option ℕ) (l : ℕ) → FencedReply session holds (say.ListFull l) → ⊥
never_fenced session None l e = e
never_fenced session (Some other) l e = let same = e.1 in cc

never_guarded : (key : List ℕ) (h : List Entry) (session l : ℕ) (Otherwise : Type 0) → (Otherwise → ⊥) → GuardedReply key h session (say.ListFull l) Otherwise → ⊥
never_guarded key h session l Otherwise never (inl e) = let same = e.1 in cc
never_guarded key h session l Otherwise never (inr (live, inl e)) = never_fenced session (holder key h) l e
never_guarded key h session l Otherwise never (inr (live, inr e)) = never e.1

filled_unit : (o : Opening) (seen found : List (Turned Request Reply)) (session : ℕ) (phone : Phone) (serial id : ℕ) (octets : List ℕ) (l : ℕ) → IsPrefix found seen
    → GuardedReply (key_of phone) (newest (map as_entry found)) session (say.ListFull l) (StoreReply o.limit (tables_after o.tables (newest (map as_entry found))) (key_of phone) serial id octets (say.ListFull l))
    → IsFilled o seen (Some (ask.Unit phone serial id octets)) l
filled_unit o seen found session phone serial id octets l front (inl e) = absurd (let same = e.1 in cc)
filled_unit o seen found session phone serial id octets l front (inr (live, inl e)) = absurd (never_fenced session (holder (key_of phone) (newest (map as_entry found))) l e)
filled_unit o seen found session phone serial id octets l front (inr (live, inr e)) = record {
  found = found;
  front = front;
  phone = phone;
  serial = serial;
  id = id;
  octets = octets;
  asked = refl;
  limit = e.1.0;
  rows = told_map (tables_after o.tables (newest (map as_entry found))) (λ t. (length (t.rows (key_of phone)) ≡ o.limit) × IsMore (t.rows (key_of phone)) serial id octets) (λ t. length (t.rows (key_of phone)) ≡ l)
      (λ t full. full.0 ∙ sym e.1.0) e.1.1;
}

filled : (o : Opening) (seen found : List (Turned Request Reply)) (session : ℕ) (q : Request) (l : ℕ) → IsPrefix found seen → Allowed o (newest (map as_entry found)) session q (say.ListFull l) → IsFilled o seen (Some q) l
filled o seen found session (ask.Register phone register) l front (inl e) = absurd (let same = e.1 in cc)
filled o seen found session (ask.Register phone register) l front (inr e) = absurd e.1
filled o seen found session (ask.Auth phone code) l front (inl e) = absurd (let same = e.1 in cc)
filled o seen found session (ask.Auth phone code) l front (inr e) = absurd e.1
filled o seen found session (ask.Unit phone serial id octets) l front (inl e) = absurd (let same = e.1 in cc)
filled o seen found session (ask.Unit phone serial id octets) l front (inr e) = filled_unit o seen found session phone serial id octets l front e.1
filled o seen found session (ask.Deregister phone) l front (inl e) = absurd (let same = e.1 in cc)
filled o seen found session (ask.Deregister phone) l front (inr e) = absurd (never_guarded (key_of phone) (newest (map as_entry found)) session l (say.ListFull l ≡ say.Accepted) (λ x. cc) e.1)
filled o seen found session (ask.Other phone id) l front (inl e) = absurd (let same = e.1 in cc)
filled o seen found session (ask.Other phone id) l front (inr e) = absurd (never_guarded (key_of phone) (newest (map as_entry found)) session l (say.ListFull l ≡ say.Accepted) (λ x. cc) e.1)
filled o seen found session ask.Close l front e = absurd cc

front_of : {X : Type 0} (found seen rest : List X) → seen ≡ found ++ rest → IsPrefix found seen
front_of found seen rest e = (rest, λ i. sym e i)

module _ {X : Type 0} (opening : Option X) (os : X → Opening) (reserved : X → ℕ) (found : List (Turned Request Reply)) (before now session : ℕ) (q : Request) (r : Reply) where
  pub given_room : IsSome opening → IfSome opening (λ o. Gives (os o) (reserved o) found before now session q r) → HasRoomFor r
  given_room some given = by opening some given where
    by : (w : Option X) → IsSome w → IfSome w (λ o. Gives (os o) (reserved o) found before now session q r) → HasRoomFor r
    by None some given = absurd (false≢true some)
    by (Some o) some given = reply_room (os o) (newest (map as_entry found)) session q r given.allowed

  pub given_fault : IsSome opening → IfSome opening (λ o. Gives (os o) (reserved o) found before now session q r) → r ≡ say.StoreFault → Rose before now
  given_fault some given is = by opening some given where
    by : (w : Option X) → IsSome w → IfSome w (λ o. Gives (os o) (reserved o) found before now session q r) → Rose before now
    by None some given = absurd (false≢true some)
    by (Some o) some given = given.fault is

  pub given_full : (seen : List (Turned Request Reply)) → seen ≡ found ++ entry_if (makes_entry r) session q r → (l : ℕ) → IfSome opening (λ o. Gives (os o) (reserved o) found before now session q r) → r ≡ say.ListFull l
      → IfSome (option_map os opening) (λ o. IsFilled o seen (Some q) l)
  given_full seen went l given is = by opening given where
    by : (w : Option X) → IfSome w (λ o. Gives (os o) (reserved o) found before now session q r) → IfSome (option_map os w) (λ o. IsFilled o seen (Some q) l)
    by None given = tt
    by (Some o) given =
        filled (os o) seen found session q l (front_of found seen (entry_if (makes_entry r) session q r) went)
        (subst (λ s. Allowed (os o) (newest (map as_entry found)) session q s) is (given.allowed (rw is refl)))

-- ---- the count of faults

pub failed_more : {O : Type 0} (pass pass_now : PassState Request Reply O) (found : ℕ) → Rose found pass_now.faults → pass_now.failed ≡ pass.failed + (if pass_now.faults == found then 0 else 1) → FailedMore pass pass_now
failed_more pass pass_now found rose failed =
    dite (ℕ_discrete pass_now.faults found)
    (λ e. inr (omega (arith, rose, e)))
    (λ ne. inl (let more : pass_now.failed ≡ pass.failed + 1 = subst (λ b. pass_now.failed ≡ pass.failed + (if b then 0 else 1)) (ne_eqb pass_now.faults found ne) failed in omega (arith, more)))

pub failed_later : {O : Type 0} (pass pass_now : PassState Request Reply O) (b : Bool) → pass_now.failed ≡ pass.failed + (if b then 0 else 1) → pass.failed ≤ pass_now.failed
failed_later pass pass_now true failed = omega (arith, failed)
failed_later pass pass_now false failed = omega (arith, failed)
