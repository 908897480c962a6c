-- The code that lets a phone in (this project's own). To be believed.
use Rattle.std.specs.Prelude.{ℕ, List, ◌++◌, take}
use Rattle.jt_value.specs.declared.phone.Phone.{Phone}
use Rattle.jt_value.specs.Phone.{field_of}
use Rattle.hex.specs.Hex.{encode_lower}
use Rattle.sha2.specs.Sha256.{sha256}

-- the first sixteen lower-case hexadecimal digits of SHA-256 over the secret and the phone's octets in a header
unfoldable pub code_for : List ℕ → Phone → List ℕ
code_for secret phone = take 16 (encode_lower (sha256 (secret ++ field_of phone.edition phone.digits)))
