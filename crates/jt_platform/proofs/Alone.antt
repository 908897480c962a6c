-- A keeper that has something for one phone alone.
use Rattle.std.proofs.Common.{◌≡◌, ℕ, List, [], ◌∷◌, Bool, true, false, Option, Some, None, if◌then◌else◌, refl, sym, ap, ◌∙◌}
use Rattle.std.proofs.lemmas.Slice.Eq.{bytes_eq-Decides}
use Rattle.jt_value.specs.Sameness.{key_of, same_key}
use Rattle.jt_store.specs.Verdicts.{Shelf, alone}
use Rattle.jt_store.specs.declared.row.Registered.{Registered}
use Rattle.jt_store.specs.declared.row.Row.{Row}
use Rattle.jt_platform.specs.declared.request.Request.{Request}
use Rattle.jt_platform.specs.declared.request.Request.TheVariants as ask
use Rattle.jt_platform.specs.declared.request.Reply.{Reply}
use Rattle.jt_platform.specs.declared.request.Reply.TheVariants as say
use Rattle.jt_platform.specs.declared.request.Entry.{Entry}
use Rattle.jt_platform.specs.History.{registered_by, row_of, registration_after, rows_after, tables_after}
use Rattle.jt_platform.specs.Laws.{IsOf, AreOf, shelf_of}

module _ (key q : List ℕ) (other : same_key key q ≡ false) where
  apart : (k : List ℕ) → k ≡ key → same_key k q ≡ false
  apart k is = ap (λ x. same_key x q) is ∙ other

  -- what is asked of the phone changes nothing of another one
  registered_stays : (r : Request) (a : Reply) (before : Option Registered) → IsOf key r → registered_by q r a before ≡ before
  registered_stays (ask.Register p register) (say.Registered code) before is = rw (apart (key_of p) is) refl
  registered_stays (ask.Deregister p) say.Accepted before is = rw (apart (key_of p) is) refl
  registered_stays (ask.Register p register) a before is = refl
  registered_stays (ask.Deregister p) a before is = refl
  registered_stays (ask.Auth p code) a before is = refl
  registered_stays (ask.Unit p serial id body) a before is = refl
  registered_stays (ask.Other p id) a before is = refl
  registered_stays ask.Close a before is = refl

  no_row : (r : Request) (a : Reply) → IsOf key r → row_of q r a ≡ []
  no_row (ask.Unit p serial id body) (say.Stored n) is = rw (apart (key_of p) is) refl
  no_row (ask.Unit p serial id body) (say.Renumbered n) is = rw (apart (key_of p) is) refl
  no_row (ask.Unit p serial id body) a is = refl
  no_row (ask.Register p register) a is = refl
  no_row (ask.Deregister p) a is = refl
  no_row (ask.Auth p code) a is = refl
  no_row (ask.Other p id) a is = refl
  no_row ask.Close a is = refl

  none_registered : (h : List Entry) → AreOf key h → registration_after q None h ≡ None
  none_registered [] is = refl
  none_registered (e ∷ h) is = registered_stays e.request e.reply (registration_after q None h) is.0 ∙ none_registered h is.1

  no_rows : (h : List Entry) → AreOf key h → rows_after q [] h ≡ []
  no_rows [] is = refl
  no_rows (e ∷ h) is = rw (no_row e.request e.reply is.0, no_rows h is.1) refl

registered_alone : (key : List ℕ) (was : Option Registered) (h : List Entry) → AreOf key h → (q : List ℕ) (b : Bool) → same_key key q ≡ b
    → registration_after q (if b then was else None) h ≡ (if b then registration_after key was h else None)
registered_alone key was h are q true is = ap (λ k. registration_after k was h) (sym ((bytes_eq-Decides key q).0 is))
registered_alone key was h are q false is = none_registered key q is h are

rows_alone : (key : List ℕ) (was : List Row) (h : List Entry) → AreOf key h → (q : List ℕ) (b : Bool) → same_key key q ≡ b
    → rows_after q (if b then was else []) h ≡ (if b then rows_after key was h else [])
rows_alone key was h are q true is = ap (λ k. rows_after k was h) (sym ((bytes_eq-Decides key q).0 is))
rows_alone key was h are q false is = no_rows key q is h are

pub stays_alone : (key : List ℕ) (shelf : Shelf) (h : List Entry) → AreOf key h → tables_after (Some (alone key shelf)) h ≡ Some (alone key (shelf_of key shelf h))
stays_alone key shelf h are =
    λ i. Some (record { registered = λ q. registered_alone key shelf.registered h are q (same_key key q) refl i; rows = λ q. rows_alone key shelf.rows h are q (same_key key q) refl i })
