-- The law of contents: octets are one header and one body, or have one reason. To be believed.
use Rattle.std.specs.Prelude.{◌≡◌, ◌↔◌, ◌+◌, ◌≤◌, ◌⊎◌, ℕ, List, ◌∷◌, ◌++◌, length, Option, None, Some, is_some}
use Rattle.std.specs.List.{AllByRecursion}
use Rattle.jt_value.specs.declared.limits.TheConstants.{CONTENT_LIMIT}
use Rattle.jt_value.specs.Octets.{AreOctets}
use Rattle.jt_value.specs.declared.refusal.Refusal.{Refusal}
use Rattle.jt_header.specs.Content.{Content, header_len}
use Rattle.jt_header.specs.Fields.{body_at, header_at}
use Rattle.jt_header.specs.Reason.{Reads, first_of, reason}
use Rattle.jt_header.specs.declared.header.Header.{Header}

-- the octets are a content
abbrev pub HasContent : List ℕ → Type 0
HasContent octets = (h : Header) × (body : List ℕ) × Content h body octets

-- the octets are refused
abbrev pub HasReason : List ℕ → Type 0
HasReason octets = (refusal : Refusal) × (reason octets ≡ Some refusal)

abbrev pub IsOneOrTheOther : Type 0
IsOneOrTheOther = (octets : List ℕ) → AreOctets octets → HasContent octets ⊎ HasReason octets

abbrev pub IsNeverBoth : Type 0
IsNeverBoth = (octets : List ℕ) → HasContent octets → HasReason octets → ⊥

-- a content has no reason, and its header and body are what stands in it
abbrev pub IsReadBack : Type 0
IsReadBack = (h : Header) (body octets : List ℕ) → Content h body octets → Reads octets h body

-- octets with no reason are the content of what stands in them
abbrev pub IsContentOfItsFields : Type 0
IsContentOfItsFields = (octets : List ℕ) → AreOctets octets → reason octets ≡ None → Content (header_at octets) (body_at octets) octets

-- one header and one body
abbrev pub IsOneContent : Type 0
IsOneContent = (h g : Header) (body other octets : List ℕ) → Content h body octets → Content g other octets → (h ≡ g) × (body ≡ other)

-- a row that holds, with this refusal, and none before it does
pub record IsFirstRow (rows : List (Option Refusal)) (refusal : Refusal) : Type 0 where
  pub before : List (Option Refusal)
  pub after : List (Option Refusal)
  pub is_rows : rows ≡ before ++ (Some refusal ∷ after)
  pub none_before : AllByRecursion (λ row. row ≡ None) before

-- of rows, as the table of reasons has them, exactly the first that holds is told, and none exactly where none holds
pub record IsFirstReason : Type 0 where
  pub first : (rows : List (Option Refusal)) (refusal : Refusal) → (first_of rows ≡ Some refusal) ↔ IsFirstRow rows refusal
  pub none : (rows : List (Option Refusal)) → (first_of rows ≡ None) ↔ AllByRecursion (λ row. row ≡ None) rows

abbrev pub IsLengthOfContent : Type 0
IsLengthOfContent =
    (h : Header) (body octets : List ℕ) → Content h body octets
    → (length octets ≡ header_len h.edition (is_some h.packet) + length body + 1) × (length octets ≤ CONTENT_LIMIT)
