-- A phone that has as many rows as it may have keeps them.
use Rattle.std.proofs.Common.{◌≡◌, ◌<◌, ℕ, List, [], ◌∷◌, ◌++◌, length, map, reverse, Bool, true, false, if◌then◌else◌, Option, Some, None, inl, inr, refl, sym, ap, ◌∙◌, subst, arith, length-append}
use Rattle.std.proofs.lemmas.List.{append-nil, map-append, reverse-append}
use Rattle.std.proofs.lemmas.Slice.Eq.{bytes_eq-Decides}
use mathlib.Core.List.{IsPrefix}
use Rattle.jt_value.specs.Sameness.{key_of, same_key}
use Rattle.jt_value.specs.declared.phone.Phone.{Phone}
use Rattle.jt_store.specs.Tables.{Tables, WhereKnown}
use Rattle.jt_store.specs.declared.row.Row.{Row}
use Rattle.jt_turn.specs.declared.entry.Entry.{Entry as Turned}
use Rattle.jt_platform.specs.Allowed.{Opening, Allowed, FencedReply, GuardedReply, IsHolder, Legal, StoreReply}
use Rattle.jt_platform.specs.Desks.{as_ask, as_entry}
use Rattle.jt_platform.specs.History.{holder, newest, row_of, rows_after, tables_after}
use Rattle.jt_platform.specs.declared.request.Entry.{Entry}
use Rattle.jt_platform.specs.declared.request.Request.{Request}
use Rattle.jt_platform.specs.declared.request.Request.TheVariants as ask
use Rattle.jt_platform.specs.declared.request.Reply.{Reply}
use Rattle.jt_platform.specs.declared.request.Reply.TheVariants as say

-- a row that is added has room
abbrev HasRoom : Opening → Tables → List Entry → Phone → Type 0
HasRoom o t h phone = length (rows_after (key_of phone) (t.rows (key_of phone)) h) < o.limit

fenced_stored : (session : ℕ) (holds : Option ℕ) (n : ℕ) → FencedReply session holds (say.Stored n) → ⊥
fenced_stored session None n e = e
fenced_stored session (Some other) n e = let same = e.1 in cc

fenced_anew : (session : ℕ) (holds : Option ℕ) (n : ℕ) → FencedReply session holds (say.Renumbered n) → ⊥
fenced_anew session None n e = e
fenced_anew session (Some other) n e = let same = e.1 in cc

stored_room : (o : Opening) (t : Tables) (h : List Entry) (session : ℕ) (phone : Phone) (serial id : ℕ) (octets : List ℕ) (n : ℕ)
    → GuardedReply (key_of phone) h session (say.Stored n) (StoreReply o.limit (tables_after (Some t) h) (key_of phone) serial id octets (say.Stored n)) → HasRoom o t h phone
stored_room o t h session phone serial id octets n (inl e) = absurd (let same = e.1 in cc)
stored_room o t h session phone serial id octets n (inr (live, inl e)) = absurd (fenced_stored session (holder (key_of phone) h) n e)
stored_room o t h session phone serial id octets n (inr (live, inr e)) = e.1.1

anew_room : (o : Opening) (t : Tables) (h : List Entry) (session : ℕ) (phone : Phone) (serial id : ℕ) (octets : List ℕ) (n : ℕ)
    → GuardedReply (key_of phone) h session (say.Renumbered n) (StoreReply o.limit (tables_after (Some t) h) (key_of phone) serial id octets (say.Renumbered n)) → HasRoom o t h phone
anew_room o t h session phone serial id octets n (inl e) = absurd (let same = e.1 in cc)
anew_room o t h session phone serial id octets n (inr (live, inl e)) = absurd (fenced_anew session (holder (key_of phone) h) n e)
anew_room o t h session phone serial id octets n (inr (live, inr e)) = e.1.1

unit_stored : (o : Opening) (t : Tables) (h : List Entry) (session : ℕ) (phone : Phone) (serial id : ℕ) (octets : List ℕ) (n : ℕ) → o.tables ≡ Some t → Allowed o h session (ask.Unit phone serial id octets) (say.Stored n) → HasRoom o t h phone
unit_stored o t h session phone serial id octets n told (inl e) = absurd (let same = e.1 in cc)
unit_stored o t h session phone serial id octets n told (inr e) =
    stored_room o t h session phone serial id octets n
    (subst (λ w. GuardedReply (key_of phone) h session (say.Stored n) (StoreReply o.limit (tables_after w h) (key_of phone) serial id octets (say.Stored n))) told e.1)

unit_anew : (o : Opening) (t : Tables) (h : List Entry) (session : ℕ) (phone : Phone) (serial id : ℕ) (octets : List ℕ) (n : ℕ) → o.tables ≡ Some t → Allowed o h session (ask.Unit phone serial id octets) (say.Renumbered n) → HasRoom o t h phone
unit_anew o t h session phone serial id octets n told (inl e) = absurd (let same = e.1 in cc)
unit_anew o t h session phone serial id octets n told (inr e) =
    anew_room o t h session phone serial id octets n
    (subst (λ w. GuardedReply (key_of phone) h session (say.Renumbered n) (StoreReply o.limit (tables_after w h) (key_of phone) serial id octets (say.Renumbered n))) told e.1)

no_row : (b : Bool) (key : List ℕ) (phone : Phone) (o : Opening) (t : Tables) (h : List Entry) (row : Row) → same_key (key_of phone) key ≡ b → length (rows_after key (t.rows key) h) ≡ o.limit → HasRoom o t h phone → (if b then row ∷ [] else []) ≡ []
no_row false key phone o t h row is full room = refl
no_row true key phone o t h row is full room =
    let same : key_of phone ≡ key = (bytes_eq-Decides (key_of phone) key).0 is in
    let less : length (rows_after key (t.rows key) h) < o.limit = subst (λ k. length (rows_after k (t.rows k) h) < o.limit) same room in
    absurd (omega (arith, less, full))

adds_none : (o : Opening) (t : Tables) (h : List Entry) (session : ℕ) (q : Request) (r : Reply) (key : List ℕ) → o.tables ≡ Some t → length (rows_after key (t.rows key) h) ≡ o.limit → Allowed o h session q r → row_of key q r ≡ []
adds_none o t h session (ask.Unit phone serial id octets) (say.Stored n) key told full allowed =
    no_row (same_key (key_of phone) key) key phone o t h (record { number = n; id = id; body = octets }) refl full (unit_stored o t h session phone serial id octets n told allowed)
adds_none o t h session (ask.Unit phone serial id octets) (say.Renumbered n) key told full allowed =
    no_row (same_key (key_of phone) key) key phone o t h (record { number = n; id = id; body = octets }) refl full (unit_anew o t h session phone serial id octets n told allowed)
adds_none o t h session q r key told full allowed = refl

rows_stay : (o : Opening) (t : Tables) (more h : List Entry) (key : List ℕ) → o.tables ≡ Some t → Legal o (more ++ h) → length (rows_after key (t.rows key) h) ≡ o.limit → length (rows_after key (t.rows key) (more ++ h)) ≡ o.limit
rows_stay o t [] h key told legal full = full
rows_stay o t (e ∷ more) h key told legal full =
    let before = rows_stay o t more h key told legal.1 full in
    ap length (ap (λ l. rows_after key (t.rows key) (more ++ h) ++ l) (adds_none o t (more ++ h) e.session e.request e.reply key told before legal.0) ∙ append-nil (rows_after key (t.rows key) (more ++ h))) ∙ before

told_full : (o : Opening) (now : Option Tables) (more h : List Entry) (key : List ℕ) (l : ℕ) → o.tables ≡ now → l ≡ o.limit → Legal o (more ++ h) → WhereKnown (tables_after now h) (λ t. length (t.rows key) ≡ l) → WhereKnown (tables_after now (more ++ h)) (λ t. length (t.rows key) ≡ l)
told_full o None more h key l told limit legal full = tt
told_full o (Some t) more h key l told limit legal full = rows_stay o t more h key told legal (full ∙ limit) ∙ sym limit

there_and_back : (h : List Entry) → map as_entry (map as_ask h) ≡ h
there_and_back [] = refl
there_and_back (e ∷ h) = ap (λ l. e ∷ l) (there_and_back h)

pub full_after : (o : Opening) (h : List Entry) (found : List (Turned Request Reply)) (key : List ℕ) (l : ℕ) → IsPrefix found (map as_ask h) → l ≡ o.limit → Legal o (newest h)
    → WhereKnown (tables_after o.tables (newest (map as_entry found))) (λ t. length (t.rows key) ≡ l) → WhereKnown (tables_after o.tables (newest h)) (λ t. length (t.rows key) ≡ l)
full_after o h found key l front limit legal full =
    let whole : h ≡ map as_entry found ++ map as_entry front.0 = sym (there_and_back h) ∙ (ap (λ x. map as_entry x) (sym (λ i. front.1 i)) ∙ map-append as_entry found front.0) in
    let turned : newest h ≡ newest (map as_entry front.0) ++ newest (map as_entry found) = ap newest whole ∙ reverse-append (map as_entry found) (map as_entry front.0) in
    subst (λ x. WhereKnown (tables_after o.tables x) (λ t. length (t.rows key) ≡ l)) (sym turned)
    (told_full o o.tables (newest (map as_entry front.0)) (newest (map as_entry found)) key l refl limit (subst (λ x. Legal o x) turned legal) full)
