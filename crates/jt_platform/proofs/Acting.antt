use Rattle.std.proofs.Common.{◌≡◌, ◌≤◌, ◌+◌, ◌-◌, ◌<◌, ◌↔◌, IsTrue, ℕ, List, [], ◌∷◌, ◌++◌, Option, Some, None, Bool, true, false, if◌then◌else◌, subst, refl, sym, ap, ◌∙◌}
use Rattle.std.proofs.lemmas.List.{append-nil, reverse-append}
use Rattle.std.proofs.lemmas.Slice.Eq.{bytes_eq-Decides}
use native.Mathlib.Omega.{arith}
use Rattle.jt_value.specs.Sameness.{same_key}
use Rattle.jt_store.specs.Tables.{Tables, WhereKnown, registered_set}
use Rattle.jt_store.specs.declared.row.Registered.{Registered}
use Rattle.jt_store.specs.declared.row.Row.{Row}
use Rattle.jt_platform.specs.declared.request.Request.{Request}
use Rattle.jt_platform.specs.declared.request.Request.TheVariants as ask
use Rattle.jt_platform.specs.declared.request.Reply.{Reply}
use Rattle.jt_platform.specs.declared.request.Reply.TheVariants as say
use Rattle.jt_platform.specs.declared.request.Entry.{Entry}
use Rattle.jt_platform.specs.History.{newest, is_close, rows_after, row_of, registration_after, registered_by, tables_after}
use Rattle.jt_platform.specs.Calls.{tables_by, open_upto, HasRoom}
use Rattle.jt_platform.specs.declared.request.Fleet.{Fleet}
use Rattle.jt_platform.specs.Allowed.{AnyReply, Allowed, Legal, is_trouble, makes_entry}
use Rattle.jt_platform.specs.Hub.{IsAt, IsOwed, opening_of}
use Rattle.jt_platform.proofs.Rooms.{open_entry, open_close, open_more}

pub newest_push : (h : List Entry) (e : Entry) → newest (h ++ e ∷ []) ≡ e ∷ newest h
newest_push h e = reverse-append h (e ∷ [])

-- an entry that changes nothing
stays : (s : Option Tables) (h : List Entry) (e : Entry) → ((p : List ℕ) → row_of p e.request e.reply ≡ [])
    → ((p : List ℕ) (before : Option Registered) → registered_by p e.request e.reply before ≡ before) → tables_after s (e ∷ h) ≡ tables_after s h
stays None h e none same = refl
stays (Some t) h e none same = λ i. Some (record { registered = λ p. same p (registration_after p (t.registered p) h) i; rows = λ p. rows p i })
  where
    rows : (p : List ℕ) → rows_after p (t.rows p) h ++ row_of p e.request e.reply ≡ rows_after p (t.rows p) h
    rows p = rw (none p) (append-nil (rows_after p (t.rows p) h))

abbrev entry : ℕ → Request → Reply → Entry
entry l q r = record { session = l; request = q; reply = r }

no_row : (rows : List Row) → rows ≡ rows ++ []
no_row rows = sym (append-nil rows)

-- the tables after one more entry are what the reply made of them
pub tables_by_entry : (s : Option Tables) (h : List Entry) (l : ℕ) (q : Request) (r : Reply) → tables_by q r (tables_after s h) ≡ tables_after s (record { session = l; request = q; reply = r } ∷ h)
tables_by_entry None h l (ask.Unit p serial id body) (say.Stored n) = refl
tables_by_entry (Some t) h l (ask.Unit p serial id body) (say.Stored n) = refl
tables_by_entry None h l (ask.Unit p serial id body) (say.Renumbered n) = refl
tables_by_entry (Some t) h l (ask.Unit p serial id body) (say.Renumbered n) = refl
tables_by_entry None h l (ask.Register p register) (say.Registered code) = refl
tables_by_entry (Some t) h l (ask.Register p register) (say.Registered code) =
    λ i. Some (record { registered = λ k. registration_after k (t.registered k) (entry l (ask.Register p register) (say.Registered code) ∷ h); rows = λ k. no_row (rows_after k (t.rows k) h) i })
tables_by_entry None h l (ask.Deregister p) say.Accepted = refl
tables_by_entry (Some t) h l (ask.Deregister p) say.Accepted =
    λ i. Some (record { registered = λ k. registration_after k (t.registered k) (entry l (ask.Deregister p) say.Accepted ∷ h); rows = λ k. no_row (rows_after k (t.rows k) h) i })
tables_by_entry s h l (ask.Unit p serial id body) r = sym (stays s h (entry l (ask.Unit p serial id body) r) (λ k. refl) (λ k b. refl))
tables_by_entry s h l (ask.Register p register) r = sym (stays s h (entry l (ask.Register p register) r) (λ k. refl) (λ k b. refl))
tables_by_entry s h l (ask.Deregister p) r = sym (stays s h (entry l (ask.Deregister p) r) (λ k. refl) (λ k b. refl))
tables_by_entry s h l (ask.Auth p code) r = sym (stays s h (entry l (ask.Auth p code) r) (λ k. refl) (λ k b. refl))
tables_by_entry s h l (ask.Other p id) r = sym (stays s h (entry l (ask.Other p id) r) (λ k. refl) (λ k b. refl))
tables_by_entry s h l ask.Close r = sym (stays s h (entry l ask.Close r) (λ k. refl) (λ k b. refl))

-- the keeper after an entry
pub at_entry : (start now after : Option Tables) (first limit limit_then : ℕ) (h : List Entry) (l : ℕ) (q : Request) (r : Reply)
    → IsAt start now first limit h → after ≡ tables_by q r now → limit_then ≡ limit → IsAt start after first limit_then (h ++ record { session = l; request = q; reply = r } ∷ [])
at_entry start now after first limit limit_then h l q r at tables limits =
    record {
      tables = rw (newest_push h (entry l q r)) (tables ∙ ap (tables_by q r) at.tables ∙ tables_by_entry start (newest h) l q r);
      limit = limits ∙ at.limit;
    }

-- registered so already
pub set_again : (old : Option Tables) (key : List ℕ) (r : Registered) → WhereKnown old (λ t. t.registered key ≡ Some r) → registered_set key (Some r) old ≡ old
set_again None key r told = refl
set_again (Some t) key r told = λ i. Some (record { registered = λ q. same q (same_key key q) refl i; rows = t.rows })
  where
    same : (q : List ℕ) (b : Bool) → same_key key q ≡ b → (if b then Some r else t.registered q) ≡ t.registered q
    same q true is = sym told ∙ ap t.registered ((bytes_eq-Decides key q).0 is)
    same q false is = refl

-- an owed Close is counted
pub owed_counts : (b : Bool) (h scanned : List Entry) (q : Request) (l reserved owed spare : ℕ) → HasRoom h reserved owed spare
    → (IsTrue b ↔ ((q ≡ ask.Close) × IsOwed scanned reserved l)) → scanned ≡ h → b ≡ true → 0 < owed
owed_counts b h scanned q l reserved owed spare room owes same is =
    let owed_now = subst (λ x. IsOwed x reserved l) same ((owes.0 is).1) in
    let before = open_close (entry l ask.Close say.Accepted) (newest h) reserved refl owed_now.from owed_now.upto owed_now.unclosed in
    let closes = room.closes in
    omega (arith, before, closes)

grown : (h roomy after : List Entry) (e : Entry) → roomy ≡ h → after ≡ roomy ++ e ∷ [] → newest after ≡ e ∷ newest h
grown h roomy after e same push = ap newest push ∙ newest_push roomy e ∙ ap (λ x. e ∷ newest x) same

-- an entry leaves room for the Closes that are owed
pub room_entry : (b : Bool) (h roomy after : List Entry) (e : Entry) (reserved owed first spare left : ℕ) → HasRoom h reserved owed first → b ≡ false
    → (if b then owed else owed + 1) ≤ spare → left ≡ spare - 1 → roomy ≡ h → after ≡ roomy ++ e ∷ [] → HasRoom after reserved owed left
room_entry b h roomy after e reserved owed first spare left room is enough takes same push =
    let before = open_entry e (newest h) reserved in
    let closes = room.closes in
    let more : owed + 1 ≤ spare = subst (λ x. (if x then owed else owed + 1) ≤ spare) is enough in
    record {
      closes = rw (grown h roomy after e same push) (omega (arith, before, closes));
      kept = omega (arith, more, takes);
      few = room.few;
    }

-- so does a Close that was owed, for one less
pub room_close : (b : Bool) (h scanned roomy after : List Entry) (l : ℕ) (q copy : Request) (said : Reply) (reserved owed first spare left : ℕ) → HasRoom h reserved owed first
    → (IsTrue b ↔ ((q ≡ ask.Close) × IsOwed scanned reserved l)) → scanned ≡ h → b ≡ true → copy ≡ q
    → (if b then owed else owed + 1) ≤ spare → left ≡ spare - 1 → roomy ≡ h → after ≡ roomy ++ record { session = l; request = copy; reply = said } ∷ [] → HasRoom after reserved (owed - 1) left
room_close b h scanned roomy after l q copy said reserved owed first spare left room owes scan is copied enough takes same push =
    let told = owes.0 is in
    let owed_now = subst (λ x. IsOwed x reserved l) scan told.1 in
    let close : is_close copy ≡ true = rw (copied, told.0) refl in
    let before = open_close (entry l copy said) (newest h) reserved close owed_now.from owed_now.upto owed_now.unclosed in
    let closes = room.closes in
    let few = room.few in
    let more : owed ≤ spare = subst (λ x. (if x then owed else owed + 1) ≤ spare) is enough in
    record {
      closes = rw (grown h roomy after (entry l copy said) same push) (omega (arith, before, closes));
      kept = omega (arith, more, takes);
      few = omega (arith, few);
    }

-- the keeper after an entry
pub at_acted : (start now next : Option Tables) (first limit limit_next : ℕ) (h roomy after : List Entry) (l : ℕ) (q copy : Request) (r said : Reply) → IsAt start now first limit h
    → next ≡ tables_by q r now → limit_next ≡ limit → copy ≡ q → said ≡ r → roomy ≡ h → after ≡ roomy ++ record { session = l; request = copy; reply = said } ∷ [] → IsAt start next first limit_next after
at_acted start now next first limit limit_next h roomy after l q copy r said at tables limits copied replied same push =
    subst (λ x. IsAt start next first limit_next x) (sym (push ∙ whole)) (at_entry start now next first limit limit_next h l q r at tables limits)
  where
    whole : roomy ++ record { session = l; request = copy; reply = said } ∷ [] ≡ h ++ record { session = l; request = q; reply = r } ∷ []
    whole = rw (same, copied, replied) refl

-- more sessions are reserved
pub room_more : (h : List Entry) (reserved owed spare upto left : ℕ) → HasRoom h reserved owed spare → reserved ≤ upto → owed + (upto - reserved) ≤ left → HasRoom h upto (owed + (upto - reserved)) left
room_more h reserved owed spare upto left room above enough =
    let more = open_more (newest h) reserved (upto - reserved) in
    let whole : reserved + (upto - reserved) ≡ upto = omega (arith, above) in
    let closes = room.closes in
    let few = room.few in
    let at : open_upto (newest h) upto ≤ open_upto (newest h) reserved + (upto - reserved) = subst (λ n. open_upto (newest h) n ≤ open_upto (newest h) reserved + (upto - reserved)) whole more in
    record {
      closes = omega (arith, at, closes);
      kept = enough;
      few = omega (arith, above, few);
    }

-- the table speaks of the opening's tables by what the history leaves of them alone
any_same : (a b : Option Tables) (limit : ℕ) (fleet : Fleet) (secret : List ℕ) (now : Option Tables) (h : List Entry) (l : ℕ) (q : Request) (r : Reply)
    → AnyReply (opening_of a limit fleet secret) now h l q r → AnyReply (opening_of b limit fleet secret) now h l q r
any_same a b limit fleet secret now h l (ask.Register p register) r is = is
any_same a b limit fleet secret now h l (ask.Auth p code) r is = is
any_same a b limit fleet secret now h l (ask.Unit p serial id body) r is = is
any_same a b limit fleet secret now h l (ask.Deregister p) r is = is
any_same a b limit fleet secret now h l (ask.Other p id) r is = is
any_same a b limit fleet secret now h l ask.Close r is = is

allowed_now : (start now : Option Tables) (first limit : ℕ) (fleet : Fleet) (secret : List ℕ) (h scanned : List Entry) (l : ℕ) (q : Request) (r : Reply) → IsAt start now first limit h → scanned ≡ h
    → AnyReply (opening_of now limit fleet secret) now (newest scanned) l q r → Allowed (opening_of start first fleet secret) (newest h) l q r
allowed_now start now first limit fleet secret h scanned l q r at scan is =
    subst (λ t. AnyReply (opening_of start first fleet secret) t (newest h) l q r) at.tables
    (subst (λ n. AnyReply (opening_of start n fleet secret) now (newest h) l q r) at.limit
    (subst (λ x. AnyReply (opening_of start limit fleet secret) now (newest x) l q r) scan (any_same now start limit fleet secret now (newest scanned) l q r is)))

calm : (r : Reply) → makes_entry r ≡ true → is_trouble r ≡ false
calm (say.Registered c) makes = refl
calm (say.Denied n) makes = refl
calm say.Accepted makes = refl
calm (say.Stored n) makes = refl
calm (say.Repeat n) makes = refl
calm (say.Renumbered n) makes = refl
calm say.NotLive makes = refl
calm (say.Fenced n) makes = refl
calm (say.ListFull n) makes = cc
calm say.StoreFault makes = cc
calm say.Memory makes = cc

-- the history after an entry is legal
pub legal_acted : (start now : Option Tables) (first limit : ℕ) (fleet : Fleet) (secret : List ℕ) (h scanned roomy after : List Entry) (l : ℕ) (q copy : Request) (r said : Reply)
    → Legal (opening_of start first fleet secret) (newest h) → IsAt start now first limit h → scanned ≡ h → makes_entry r ≡ true
    → (is_trouble r ≡ false → AnyReply (opening_of now limit fleet secret) now (newest scanned) l q r)
    → copy ≡ q → said ≡ r → roomy ≡ h → after ≡ roomy ++ record { session = l; request = copy; reply = said } ∷ [] → Legal (opening_of start first fleet secret) (newest after)
legal_acted start now first limit fleet secret h scanned roomy after l q copy r said legal at scan makes reply copied replied same push =
    subst (λ x. Legal (opening_of start first fleet secret) x) (sym (grown h roomy after (entry l copy said) same push ∙ whole))
    (allowed_now start now first limit fleet secret h scanned l q r at scan (reply (calm r makes)), legal)
  where
    whole : entry l copy said ∷ newest h ≡ entry l q r ∷ newest h
    whole = rw (copied, replied) refl
