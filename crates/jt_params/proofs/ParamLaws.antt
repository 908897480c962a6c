-- The laws of parameters: each layout's octets have exactly one value or exactly one reason.
use Rattle.std.proofs.Common.{◌≡◌, ℕ, ◌^◌, ◌<◌, eqb, List, [], length, refl, ap, lit<}
use Rattle.std.proofs.lemmas.Bool.{eqb-true}
use Rattle.std.proofs.lemmas.Nat.{from_be_bytes-to_be_bytes_2, from_be_bytes-to_be_bytes_4}
use Rattle.jt_value.specs.Octets.{AreOctets}
use Rattle.jt_value.proofs.OctetLists.{AreOctets-nil, AreOctets-cons, AreOctets-word, AreOctets-dword, byte_back, word_back, dword_back}
use Rattle.jt_layout.specs.Layout.{octets_of, number}
use Rattle.jt_layout.proofs.Laws.{IsPart, IsBody, choice, byte_law, word_law, dword_law, then_law, ended_law, typed_law}
use Rattle.jt_layout.proofs.Repeats.{block_law, counted_law}
use Rattle.jt_params.specs.declared.param.Kind.{Kind}
use Rattle.jt_params.specs.declared.param.Kind.TheVariants as kinds
use Rattle.jt_params.specs.declared.param.ParamValue.{ParamValue}
use Rattle.jt_params.specs.declared.param.ParamValue.TheVariants.{Byte, Word, Dword, Text, Raw}
use Rattle.jt_params.specs.declared.param.Param.{Param}
use Rattle.jt_params.specs.Params.{kind, valued, value_octets, ValueFits, ParamFits, plain_param, typed, untyped, param, params, params_reply, query_some}

-- the value has octets under the kind, and they are these
abbrev Back : Kind → List ℕ → ParamValue → Type 0
Back k v value = ValueFits k value × (value_octets value ≡ v)

back : (k : Kind) (v : List ℕ) → length v < 2 ^ 8 → AreOctets v → Back k v (valued k v)
unfolding valued value_octets ValueFits
back kinds.Byte v short are =
    choice (Back kinds.Byte v) (eqb (length v) 1) _ _
    (λ yes. ((refl, are 0), byte_back v (eqb-true _ _ yes)))
    (λ no. (((short, are), rw no refl), refl))
back kinds.Word v short are =
    choice (Back kinds.Word v) (eqb (length v) 2) _ _
    (λ yes. let number = word_back v (eqb-true _ _ yes) are in ((refl, number.0), number.1))
    (λ no. (((short, are), rw no refl), refl))
back kinds.Dword v short are =
    choice (Back kinds.Dword v) (eqb (length v) 4) _ _
    (λ yes. let number = dword_back v (eqb-true _ _ yes) are in ((refl, number.0), number.1))
    (λ no. (((short, are), rw no refl), refl))
back kinds.Text v short are = ((refl, (short, are)), refl)
back kinds.Raw v short are = (((short, are), refl), refl)

plain_fits : (id : ℕ) (v : List ℕ) → id < 2 ^ 32 → length v < 2 ^ 8 → AreOctets v → plain_param.Fits (id, v)
unfolding number octets_of
plain_fits id v lt short are = (lt, (short, (refl, are)))

-- the octets of a value that has them, and the value of these octets
forth : (k : Kind) (value : ParamValue) → ValueFits k value → (length (value_octets value) < 2 ^ 8) × AreOctets (value_octets value) × (valued k (value_octets value) ≡ value)
unfolding valued value_octets ValueFits
forth k (Byte n) fits = (lit< tt, AreOctets-cons n [] fits.1 AreOctets-nil, rw fits.0 refl)
forth k (Word n) fits = (lit< tt, AreOctets-word n, rw fits.0 (ap Word (from_be_bytes-to_be_bytes_2 n fits.1)))
forth k (Dword n) fits = (lit< tt, AreOctets-dword n, rw fits.0 (ap Dword (from_be_bytes-to_be_bytes_4 n fits.1)))
forth k (Text octets) fits = (fits.1.0, fits.1.1, rw fits.0 refl)
forth k (Raw octets) fits = (fits.0.0, fits.0.1, fits.1)

param_back : (x : ℕ × List ℕ) → plain_param.Fits x → ParamFits (typed x) × (untyped (typed x) ≡ x)
unfolding ParamFits number octets_of
param_back x fits = let value = back (kind x.0) x.1 fits.1.0 fits.1.1.1 in ((fits.0, value.0), ap (λ (v : List ℕ). (x.0, v)) value.1)

param_forth : (p : Param) → ParamFits p → plain_param.Fits (untyped p) × (typed (untyped p) ≡ p)
unfolding ParamFits
param_forth p fits =
    let value = forth (kind p.id) p.value fits.1 in
    (plain_fits p.id (value_octets p.value) fits.0 value.0 value.1, ap (λ (v : ParamValue). record { id = p.id; value = v }) value.2)

pub param_law : IsPart param
unfolding param
param_law = typed_law plain_param typed untyped ParamFits (then_law _ _ dword_law (λ _. block_law _ byte_law)) param_back param_forth

pub params_law : IsBody params
unfolding params
params_law = ended_law _ (counted_law _ _ byte_law param_law)

pub params_reply_law : IsBody params_reply
unfolding params_reply
params_reply_law = ended_law _ (then_law _ _ word_law (λ _. counted_law _ _ byte_law param_law))

pub query_some_law : IsBody query_some
unfolding query_some
query_some_law = ended_law _ (counted_law _ _ byte_law dword_law)
