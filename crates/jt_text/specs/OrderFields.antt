-- The fields of tracks, texts and orders: this project's texts. To be believed.
use Rattle.std.specs.Prelude.{ℕ, List, [], ◌++◌, Option, Some, None, codes}
use Rattle.std.specs.Fmt.{decimal}
use Rattle.jt_text.specs.Values.{octets_text}

-- a number, and `-` where it is missing
abbrev pub number_text : Option ℕ → List ℕ
number_text None = codes "-"
number_text (Some n) = decimal n

unfoldable pub track_fields : ℕ → Option ℕ → List ℕ
track_fields interval validity = codes " interval=" ++ decimal interval ++ codes " validity=" ++ number_text validity

-- the kind, which 2013 has not
abbrev pub kind_text : Option ℕ → List ℕ
kind_text None = []
kind_text (Some kind) = codes " kind=" ++ decimal kind

unfoldable pub text_fields : ℕ → Option ℕ → List ℕ → List ℕ
text_fields flag kind text = codes " flag=" ++ decimal flag ++ kind_text kind ++ codes " text=" ++ octets_text text

unfoldable pub control_fields : ℕ → List ℕ → List ℕ
control_fields command text = codes " command=" ++ decimal command ++ codes " text=" ++ octets_text text
