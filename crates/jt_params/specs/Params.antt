-- Parameters: the standard's items, and which of them this project types. To be believed.
use Rattle.std.specs.Prelude.{◌≡◌, ℕ, ◌^◌, ◌<◌, Bool, ◌==◌, if◌then◌else◌, List, [], ◌∷◌, length, slice_index}
use Rattle.std.specs.Int.{w16, w32, from_be_bytes, to_be_bytes}
use Rattle.std.specs.List.{list_any}
use Rattle.jt_value.specs.Octets.{AreOctets}
use Rattle.jt_layout.specs.Layout.{Part, Body, byte, word, dword, block, ◌▹◌, ended, part_typed, counted}
use Rattle.jt_params.specs.declared.param.Kind.{Kind}
use Rattle.jt_params.specs.declared.param.Kind.TheVariants as kinds
use Rattle.jt_params.specs.declared.param.ParamValue.{ParamValue}
use Rattle.jt_params.specs.declared.param.ParamValue.TheVariants.{Byte, Word, Dword, Text, Raw}
use Rattle.jt_params.specs.declared.param.Param.{Param}

-- the id is one of these
abbrev pub is_among : List ℕ → ℕ → Bool
is_among ids id = list_any (λ own. id == own) ids

-- The kind of an id: the standard's of 2013 for the ids that this project types. Every other id is raw.
unfoldable pub kind : ℕ → Kind
kind id =
    if is_among (0x0001 ∷ 0x0002 ∷ 0x0003 ∷ 0x0018 ∷ 0x0029 ∷ 0x0055 ∷ 0x0080 ∷ []) id then kinds.Dword else (
    if is_among (0x0081 ∷ 0x0082 ∷ []) id then kinds.Word else (
    if id == 0x0084 then kinds.Byte else (
    if is_among (0x0013 ∷ 0x0083 ∷ []) id then kinds.Text else
    kinds.Raw)))

-- the value of some octets under an id of a kind: typed where their length is the kind's, and else raw
unfoldable pub valued : Kind → List ℕ → ParamValue
valued kinds.Byte octets = if length octets == 1 then Byte (slice_index octets 0) else Raw octets
valued kinds.Word octets = if length octets == 2 then Word (from_be_bytes w16 octets) else Raw octets
valued kinds.Dword octets = if length octets == 4 then Dword (from_be_bytes w32 octets) else Raw octets
valued kinds.Text octets = Text octets
valued kinds.Raw octets = Raw octets

-- the octets of a value
unfoldable pub value_octets : ParamValue → List ℕ
value_octets (Byte n) = n ∷ []
value_octets (Word n) = to_be_bytes w16 n
value_octets (Dword n) = to_be_bytes w32 n
value_octets (Text octets) = octets
value_octets (Raw octets) = octets

-- at most 255 octets
abbrev pub IsShort : List ℕ → Type 0
IsShort octets = (length octets < 2 ^ 8) × AreOctets octets

-- the values that an id of a kind may have: a number or a text of that kind, or raw octets that are of no type under it
unfoldable pub ValueFits : Kind → ParamValue → Type 0
ValueFits kind (Byte n) = (kind ≡ kinds.Byte) × (n < 2 ^ 8)
ValueFits kind (Word n) = (kind ≡ kinds.Word) × (n < 2 ^ 16)
ValueFits kind (Dword n) = (kind ≡ kinds.Dword) × (n < 2 ^ 32)
ValueFits kind (Text octets) = (kind ≡ kinds.Text) × IsShort octets
ValueFits kind (Raw octets) = IsShort octets × (valued kind octets ≡ Raw octets)

-- ---- layouts

-- id Dx, length B, value of that length
abbrev pub plain_param : Part (ℕ × List ℕ)
plain_param = dword ▹ λ _. block byte

-- the parameter of an id and the octets of its value
abbrev pub typed : ℕ × List ℕ → Param
typed x = record { id = x.0; value = valued (kind x.0) x.1 }

-- the id of a parameter and the octets of its value
abbrev pub untyped : Param → ℕ × List ℕ
untyped p = (p.id, value_octets p.value)

-- the parameter has an id of four octets, and a value that such an id may have
unfoldable pub ParamFits : Param → Type 0
ParamFits p = (p.id < 2 ^ 32) × ValueFits (kind p.id) p.value

-- a parameter, typed where its kind and its length allow it
unfoldable pub param : Part Param
param = part_typed plain_param typed untyped ParamFits

-- count B, then that many parameters
unfoldable pub params : Body (List Param)
params = ended (counted byte param)

-- reply W, count B, then that many parameters
unfoldable pub params_reply : Body (ℕ × List Param)
params_reply = ended (word ▹ λ _. counted byte param)

-- count B, then that many id Dx
unfoldable pub query_some : Body (List ℕ)
query_some = ended (counted byte dword)
