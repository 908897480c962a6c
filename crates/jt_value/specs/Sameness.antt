-- Which phones are the same (this project's own). To be believed.
use Rattle.std.specs.Prelude.{ℕ, Bool, List}
use Rattle.std.specs.Str.{bytes_eq}
use Rattle.jt_value.specs.declared.phone.Phone.{Phone}

-- what a phone is kept under: its twenty digits, two an octet
abbrev pub key_of : Phone → List ℕ
key_of phone = phone.digits

-- whether two keys have the same digits
abbrev pub same_key : List ℕ → List ℕ → Bool
same_key a b = bytes_eq a b
