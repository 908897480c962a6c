-- The rows of the table of reasons: the table has none exactly where no row holds.
use Rattle.std.proofs.Common.{◌≡◌, ℕ, Bool, true, false, not, List, [], ◌∷◌, Option, Some, None, refl, sym, ap, ◌∙◌}
use Rattle.std.specs.Prelude.{option_map}
use Rattle.jt_value.specs.declared.phone.Edition.{Edition}
use Rattle.jt_value.specs.declared.refusal.Refusal.{Refusal}
use Rattle.jt_header.specs.Fields.{attributes_at, edition_in, body_len_at, phone_at, packet_at}
use Rattle.jt_header.specs.Reason.{when, first_of, too_short, check_mismatch, encrypted, length_mismatch, phone_digit, bad_packet_number, reason}

-- no row of the table holds
pub record AllNone (a b c d e f : Option Refusal) : Type 0 where
  pub short : a ≡ None
  pub check : b ≡ None
  pub encrypted : c ≡ None
  pub len : d ≡ None
  pub digit : e ≡ None
  pub packet : f ≡ None

table : Option Refusal → Option Refusal → Option Refusal → Option Refusal → Option Refusal → Option Refusal → Option Refusal
table a b c d e f = first_of (a ∷ b ∷ c ∷ d ∷ e ∷ f ∷ [])

all_none : (a b c d e f : Option Refusal) → table a b c d e f ≡ None → AllNone a b c d e f
unfolding table
all_none None None None None None None h = record { short = refl; check = refl; encrypted = refl; len = refl; digit = refl; packet = refl }
all_none (Some r) b c d e f h = absurd cc
all_none None (Some r) c d e f h = absurd cc
all_none None None (Some r) d e f h = absurd cc
all_none None None None (Some r) e f h = absurd cc
all_none None None None None (Some r) f h = absurd cc
all_none None None None None None (Some r) h = absurd cc

none_all : (a b c d e f : Option Refusal) → AllNone a b c d e f → table a b c d e f ≡ None
unfolding table
none_all a b c d e f h = rw (h.short, h.check, h.encrypted, h.len, h.digit, h.packet) refl

-- the rows for octets with these attributes in this edition
abbrev pub NoRow : Edition → List ℕ → ℕ → Type 0
NoRow edition c bits =
    AllNone (too_short c) (check_mismatch c) (encrypted bits) (length_mismatch bits (body_len_at c)) (phone_digit edition (phone_at edition c)) (bad_packet_number edition (packet_at edition c))

abbrev rows : Edition → List ℕ → ℕ → Option Refusal
rows edition c bits =
    table (too_short c) (check_mismatch c) (encrypted bits) (length_mismatch bits (body_len_at c)) (phone_digit edition (phone_at edition c)) (bad_packet_number edition (packet_at edition c))

reason_is : (c : List ℕ) (edition : Edition) → edition_in (attributes_at c) ≡ edition → reason c ≡ rows edition c (attributes_at c)
unfolding reason table
reason_is c edition e = ap (λ (x : Edition). rows x c (attributes_at c)) e

pub no_row : (c : List ℕ) (edition : Edition) → edition_in (attributes_at c) ≡ edition → reason c ≡ None → NoRow edition c (attributes_at c)
no_row c edition is e = all_none _ _ _ _ _ _ (sym (reason_is c edition is) ∙ e)

pub no_reason : (c : List ℕ) (edition : Edition) → edition_in (attributes_at c) ≡ edition → NoRow edition c (attributes_at c) → reason c ≡ None
no_reason c edition is none = reason_is c edition is ∙ none_all _ _ _ _ _ _ none

pub when_none : (test : Bool) (r : Refusal) → when test r ≡ None → test ≡ false
when_none true r e = absurd cc
when_none false r e = refl

pub none_when : (test : Bool) (r : Refusal) → test ≡ false → when test r ≡ None
none_when test r e = rw e refl

pub map_none : {A B : Type 0} (f : A → B) (o : Option A) → option_map f o ≡ None → o ≡ None
map_none f None e = refl
map_none f (Some x) e = absurd cc

pub not_false : (b : Bool) → not b ≡ false → b ≡ true
not_false true e = refl
not_false false e = absurd cc
