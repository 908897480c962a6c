-- The fields of requests to send packets again: this project's texts. To be believed.
use Rattle.std.specs.Prelude.{ℕ, List, ◌++◌, length, codes}
use Rattle.std.specs.List.{flat_map}
use Rattle.std.specs.Fmt.{decimal}
use Rattle.jt_codec.specs.declared.resend.Resend.{Resend}

-- the number of a packet that is asked for
unfoldable pub number_text : ℕ → List ℕ
number_text number = codes " number=" ++ decimal number

unfoldable pub resend_fields : Resend → List ℕ
resend_fields m = codes " first=" ++ decimal m.first ++ codes " count=" ++ decimal (length m.numbers) ++ flat_map number_text m.numbers
