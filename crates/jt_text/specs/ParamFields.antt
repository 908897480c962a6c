-- The fields of bodies that carry parameters, or ask for them: this project's texts. To be believed.
use Rattle.std.specs.Prelude.{ℕ, List, ◌++◌, length, codes}
use Rattle.std.specs.List.{flat_map}
use Rattle.std.specs.Fmt.{decimal}
use Rattle.jt_params.specs.declared.param.Param.{Param}
use Rattle.jt_params.specs.declared.param.ParamValue.{ParamValue}
use Rattle.jt_params.specs.declared.param.ParamValue.TheVariants.{Byte, Word, Dword, Text, Raw}
use Rattle.jt_text.specs.Values.{octets_text, dword_digits}

-- a number in decimal, or the octets
abbrev pub value_text : ParamValue → List ℕ
value_text (Byte n) = decimal n
value_text (Word n) = decimal n
value_text (Dword n) = decimal n
value_text (Text octets) = octets_text octets
value_text (Raw octets) = octets_text octets

unfoldable pub param_text : Param → List ℕ
param_text m = codes " param=0x" ++ dword_digits m.id ++ codes ":" ++ value_text m.value

unfoldable pub params_fields : List Param → List ℕ
params_fields params = codes " count=" ++ decimal (length params) ++ flat_map param_text params

unfoldable pub id_text : ℕ → List ℕ
id_text id = codes " id=0x" ++ dword_digits id

unfoldable pub query_some_fields : List ℕ → List ℕ
query_some_fields ids = codes " count=" ++ decimal (length ids) ++ flat_map id_text ids
