-- A reply that is allowed is the one that the function gives.
use Rattle.std.proofs.Common.{◌≡◌, ◌≢◌, ◌<◌, ◌↔◌, ◌⊎◌, inl, inr, IsTrue, ◌==◌, ◌&&◌, ℕ, List, length, Bool, true, false, if◌then◌else◌, Option, Some, None, refl, sym, ap, subst, ◌∙◌}
use native.Mathlib.Omega.{arith}
use Rattle.std.specs.Prelude.{IsSome}
use Rattle.std.specs.Str.{bytes_eq}
use Rattle.std.proofs.lemmas.Bool.{false≢true, eqb-true}
use Rattle.std.proofs.lemmas.Bool.Decides.{nat_tests}
use Rattle.std.proofs.lemmas.Slice.Eq.{bytes_eq-Decides}
use Rattle.jt_value.specs.Sameness.{key_of}
use Rattle.jt_value.specs.Serials.{SerialsTell, Verdict, New, Repeat, Anew}
use Rattle.jt_value.specs.declared.phone.Phone.{Phone}
use Rattle.jt_store.specs.Tables.{Tables, plates, terminals}
use Rattle.jt_store.specs.declared.row.Registered.{Registered}
use Rattle.jt_store.specs.declared.row.Row.{Row}
use Rattle.jt_platform.specs.declared.request.Fleet.{Fleet}
use Rattle.jt_platform.specs.declared.request.Request.{Request}
use Rattle.jt_platform.specs.declared.request.Request.TheVariants as ask
use Rattle.jt_platform.specs.declared.request.Reply.{Reply}
use Rattle.jt_platform.specs.declared.request.Reply.TheVariants as say
use Rattle.jt_platform.specs.declared.request.Entry.{Entry}
use Rattle.jt_platform.specs.Codes.{code_for}
use Rattle.jt_platform.specs.History.{closed, holder, registration}
use Rattle.jt_platform.specs.Allowed.{Opening, IsAnothers, RegisterReply, AuthReply, StoreReply, VerdictOn, FencedReply, IsHolder, GuardedReply, OpenReply, AnyReply}
use Rattle.jt_platform.specs.Answer.{IsAsked, if_room, verdict_answer, unit_answer, is_so, register_answer, auth_answer, holder_answer, guarded_answer, open_answer, answer}
use Rattle.jt_platform.specs.Laws.{AnswersTell}
use Rattle.jt_platform.proofs.Verdicts.{one_verdict, both_true}

-- ---- units

room : (limit count : ℕ) (reply : Reply) → count < limit → reply ≡ if_room limit count reply
room limit count reply few = by_test (count == limit) refl
  where
    by_test : (b : Bool) → (count == limit) ≡ b → reply ≡ (if b then say.ListFull limit else reply)
    by_test true is = let same = eqb-true count limit is in absurd (omega (arith, same, few))
    by_test false is = refl

full : (limit count : ℕ) (reply : Reply) → count ≡ limit → say.ListFull limit ≡ if_room limit count reply
full limit count reply is =
    let test : (count == limit) ≡ true = grind (arith, nat_tests) in
    rw (test) refl

module _ (tells : SerialsTell) (limit : ℕ) (t : Tables) (key : List ℕ) (serial : ℕ) (small : serial < 65536) (id : ℕ) (body : List ℕ) where
  abbrev rows : List Row
  rows = t.rows key

  by_verdict : (v : Verdict) (reply : Reply) → VerdictOn rows serial id body v → reply ≡ verdict_answer limit (length rows) v → reply ≡ unit_answer limit rows serial id body
  by_verdict v reply verdict is = is ∙ ap (verdict_answer limit (length rows)) (one_verdict tells serial small rows id body v verdict)

  unit_is : (reply : Reply) → StoreReply limit (Some t) key serial id body reply → reply ≡ unit_answer limit rows serial id body
  unit_is (say.Stored n) is = by_verdict (New n) (say.Stored n) is.0 (room limit (length rows) (say.Stored n) is.1)
  unit_is (say.Repeat n) is = by_verdict (Repeat n) (say.Repeat n) is refl
  unit_is (say.Renumbered n) is = by_verdict (Anew n) (say.Renumbered n) is.0 (room limit (length rows) (say.Renumbered n) is.1)
  unit_is (say.ListFull l) is = ap say.ListFull is.0 ∙ by_more is.1.1
    where
      by_more : (n : ℕ) × (VerdictOn rows serial id body (New n) ⊎ VerdictOn rows serial id body (Anew n)) → say.ListFull limit ≡ unit_answer limit rows serial id body
      by_more (n, inl verdict) = by_verdict (New n) (say.ListFull limit) verdict (full limit (length rows) (say.Stored n) is.1.0)
      by_more (n, inr verdict) = by_verdict (Anew n) (say.ListFull limit) verdict (full limit (length rows) (say.Renumbered n) is.1.0)
  unit_is (say.Registered _) is = elim is [ ]
  unit_is (say.Denied _) is = elim is [ ]
  unit_is say.Accepted is = elim is [ ]
  unit_is say.NotLive is = elim is [ ]
  unit_is (say.Fenced _) is = elim is [ ]
  unit_is say.StoreFault is = elim is [ ]
  unit_is say.Memory is = elim is [ ]

-- ---- registrations

so : (was : Option Registered) (wanted : Registered) → was ≡ Some wanted → is_so was wanted ≡ true
so was wanted is =
    subst (λ (w : Option Registered). is_so w wanted ≡ true) (sym is) (rw ((bytes_eq-Decides wanted.plate wanted.plate).1 refl, (bytes_eq-Decides wanted.terminal wanted.terminal).1 refl) refl)

not_so : (was : Option Registered) (wanted : Registered) → (was ≡ Some wanted → ⊥) → is_so was wanted ≡ false
not_so None wanted differs = refl
not_so (Some r) wanted differs = by_test (bytes_eq r.plate wanted.plate && bytes_eq r.terminal wanted.terminal) refl
  where
    by_test : (b : Bool) → (bytes_eq r.plate wanted.plate && bytes_eq r.terminal wanted.terminal) ≡ b → b ≡ false
    by_test true is =
        let parts = both_true (bytes_eq r.plate wanted.plate) (bytes_eq r.terminal wanted.terminal) is in
        absurd (differs (λ i. Some (record { plate = (bytes_eq-Decides r.plate wanted.plate).0 parts.0 i; terminal = (bytes_eq-Decides r.terminal wanted.terminal).0 parts.1 i })))
    by_test false is = refl

untrue : (b : Bool) (P : Type 0) → (IsTrue b ↔ P) → (P → ⊥) → b ≡ false
untrue true P tests none = absurd (none (tests.0 refl))
untrue false P tests none = refl

module _ (fleet : Fleet) (t : Tables) (key : List ℕ) (r : Registered) (code : List ℕ) (plate terminal : Bool)
    (plate_tests : IsTrue plate ↔ IsAnothers plates t key r.plate) (terminal_tests : IsTrue terminal ↔ IsAnothers terminals t key r.terminal) where
  register_is : (reply : Reply) → RegisterReply fleet (Some t) key r code reply → reply ≡ register_answer fleet (t.registered key) plate terminal r code
  register_is (say.Registered c) (is, inl already) = rw (so (t.registered key) r already) (ap say.Registered is)
  register_is (say.Registered c) (is, inr (fleets, free)) =
      rw (not_so (t.registered key) r free.0, fleets.0, fleets.1, untrue plate (IsAnothers plates t key r.plate) plate_tests free.1.0, untrue terminal (IsAnothers terminals t key r.terminal) terminal_tests free.1.1) (ap say.Registered is)
  register_is (say.Denied n) (differs, inl no_plate) = rw (not_so (t.registered key) r differs, no_plate.1) (ap say.Denied no_plate.0)
  register_is (say.Denied n) (differs, inr (inl no_terminal)) = rw (not_so (t.registered key) r differs, no_terminal.1, no_terminal.2) (ap say.Denied no_terminal.0)
  register_is (say.Denied n) (differs, inr (inr (inl (is, fleets, taken)))) =
      rw (not_so (t.registered key) r differs, fleets.0, fleets.1, plate_tests.1 taken) (ap say.Denied is)
  register_is (say.Denied n) (differs, inr (inr (inr (is, fleets, taken)))) =
      rw (not_so (t.registered key) r differs, fleets.0, fleets.1, untrue plate (IsAnothers plates t key r.plate) plate_tests taken.0, terminal_tests.1 taken.1) (ap say.Denied is)
  register_is say.Accepted is = elim is [ ]
  register_is (say.Stored _) is = elim is [ ]
  register_is (say.Repeat _) is = elim is [ ]
  register_is (say.Renumbered _) is = elim is [ ]
  register_is say.NotLive is = elim is [ ]
  register_is (say.Fenced _) is = elim is [ ]
  register_is (say.ListFull _) is = elim is [ ]
  register_is say.StoreFault is = elim is [ ]
  register_is say.Memory is = elim is [ ]

-- ---- authentications

let_in : (was : Option Registered) (b : Bool) → IsSome was → b ≡ true → say.Accepted ≡ auth_answer was b
let_in None b some is = absurd (false≢true some)
let_in (Some r) b some is = rw (is) refl

kept_out : (was : Option Registered) (b : Bool) → (was ≡ None) ⊎ (b ≡ false) → say.Denied 1 ≡ auth_answer was b
kept_out None b why = refl
kept_out (Some r) b (inl none) = absurd cc
kept_out (Some r) b (inr is) = rw (is) refl

differ : (a b : List ℕ) → a ≢ b → bytes_eq a b ≡ false
differ a b differs = by_test (bytes_eq a b) refl
  where
    by_test : (x : Bool) → bytes_eq a b ≡ x → x ≡ false
    by_test true is = absurd (differs ((bytes_eq-Decides a b).0 is))
    by_test false is = refl

auth_is : (secret : List ℕ) (t : Tables) (phone : Phone) (code : List ℕ) (reply : Reply) → AuthReply secret (Some t) phone code reply
    → reply ≡ auth_answer (t.registered (key_of phone)) (bytes_eq code (code_for secret phone))
auth_is secret t phone code say.Accepted is = let_in (t.registered (key_of phone)) (bytes_eq code (code_for secret phone)) is.1 ((bytes_eq-Decides code (code_for secret phone)).1 is.0)
auth_is secret t phone code (say.Denied n) (is, inl none) = ap say.Denied is ∙ kept_out (t.registered (key_of phone)) (bytes_eq code (code_for secret phone)) (inl none)
auth_is secret t phone code (say.Denied n) (is, inr differs) = ap say.Denied is ∙ kept_out (t.registered (key_of phone)) (bytes_eq code (code_for secret phone)) (inr (differ code (code_for secret phone) differs))
auth_is secret t phone code (say.Registered _) is = elim is [ ]
auth_is secret t phone code (say.Stored _) is = elim is [ ]
auth_is secret t phone code (say.Repeat _) is = elim is [ ]
auth_is secret t phone code (say.Renumbered _) is = elim is [ ]
auth_is secret t phone code say.NotLive is = elim is [ ]
auth_is secret t phone code (say.Fenced _) is = elim is [ ]
auth_is secret t phone code (say.ListFull _) is = elim is [ ]
auth_is secret t phone code say.StoreFault is = elim is [ ]
auth_is secret t phone code say.Memory is = elim is [ ]

-- ---- the session's right

fenced_is : (session : ℕ) (held : Option ℕ) (reply other : Reply) → FencedReply session held reply → reply ≡ holder_answer session held other
fenced_is session None reply other is = absurd is
fenced_is session (Some n) reply other is = by_test (n == session) refl
  where
    by_test : (b : Bool) → (n == session) ≡ b → reply ≡ (if b then other else say.Fenced n)
    by_test true same = absurd (is.0 (eqb-true n session same))
    by_test false same = is.1

held_is : (session : ℕ) (held : Option ℕ) (reply : Reply) → IsHolder session held → reply ≡ holder_answer session held reply
held_is session None reply is = absurd is
held_is session (Some n) reply is =
    let test : (n == session) ≡ true = grind (arith, nat_tests) in
    rw (test) refl

guarded_is : (key : List ℕ) (h : List Entry) (session : ℕ) (reply other : Reply) (Otherwise : Type 0) → (Otherwise → reply ≡ other) → GuardedReply key h session reply Otherwise
    → reply ≡ guarded_answer key h session other
guarded_is key h session reply other Otherwise goes (inl (dead, is)) = rw (dead) is
guarded_is key h session reply other Otherwise goes (inr (alive, inl fenced)) = rw (alive) (fenced_is session (holder key h) reply other fenced)
guarded_is key h session reply other Otherwise goes (inr (alive, inr (held, otherwise))) =
    rw (alive) (subst (λ (r : Reply). reply ≡ holder_answer session (holder key h) r) (goes otherwise) (held_is session (holder key h) reply held))

-- ---- the reply

module _ (tells : SerialsTell) (o : Opening) (t : Tables) (plate terminal : Bool) (h : List Entry) (session : ℕ) (reply : Reply) where
  open_is : (q : Request) → IsAsked t plate terminal q → OpenReply o (Some t) h session q reply → reply ≡ open_answer o t plate terminal h session q
  open_is (ask.Register p register) asked is =
      register_is o.fleet t (key_of p) (registration register) (code_for o.secret p) plate terminal asked.0 asked.1 reply is
  open_is (ask.Auth p code) asked is = auth_is o.secret t p code reply is
  open_is (ask.Unit p serial id body) asked is =
      guarded_is (key_of p) h session reply (unit_answer o.limit (t.rows (key_of p)) serial id body) (StoreReply o.limit (Some t) (key_of p) serial id body reply)
      (unit_is tells o.limit t (key_of p) serial asked id body reply) is
  open_is (ask.Deregister p) asked is = guarded_is (key_of p) h session reply say.Accepted (reply ≡ say.Accepted) (λ same. same) is
  open_is (ask.Other p id) asked is = guarded_is (key_of p) h session reply say.Accepted (reply ≡ say.Accepted) (λ same. same) is
  open_is ask.Close asked is = is

  by_closed : (q : Request) → IsAsked t plate terminal q → ((closed h session ≡ true) × (reply ≡ say.NotLive)) ⊎ ((closed h session ≡ false) × OpenReply o (Some t) h session q reply)
      → reply ≡ (if closed h session then say.NotLive else open_answer o t plate terminal h session q)
  by_closed q asked (inl (shut, is)) = rw (shut) is
  by_closed q asked (inr (unclosed, is)) = rw (unclosed) (open_is q asked is)

  any_is : (q : Request) → IsAsked t plate terminal q → AnyReply o (Some t) h session q reply → reply ≡ answer o t plate terminal h session q
  any_is ask.Close asked is = is
  any_is (ask.Register p register) asked is = by_closed (ask.Register p register) asked is
  any_is (ask.Auth p code) asked is = by_closed (ask.Auth p code) asked is
  any_is (ask.Unit p serial id body) asked is = by_closed (ask.Unit p serial id body) asked is
  any_is (ask.Deregister p) asked is = by_closed (ask.Deregister p) asked is
  any_is (ask.Other p id) asked is = by_closed (ask.Other p id) asked is

pub answers_tell : SerialsTell → AnswersTell
answers_tell tells o h session q reply t plate terminal tables asked allowed =
    any_is tells o t plate terminal h session reply q asked (subst (λ (now : Option Tables). AnyReply o now h session q reply) tables allowed)
