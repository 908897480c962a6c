-- The texts of requests: this project's own form. To be believed.
use Rattle.std.specs.Prelude.{ℕ, List, codes}
use Rattle.dewfelt_commands.specs.Written.{IsWritten, forget_text_of}
use Rattle.dewfelt_commands.specs.declared.request.Request.{Request}
use Rattle.dewfelt_commands.specs.declared.request.Request.TheVariants.{Registrations, Forget, Copy, Stop}

-- the text of a request, one line
abbrev pub text_of : Request → List ℕ
text_of Registrations = codes "registrations\n"
text_of (Forget phone) = forget_text_of phone.digits
text_of Copy = codes "copy\n"
text_of Stop = codes "stop\n"

-- a request that can be read again: its phone, if it has one, is of decimal digits
abbrev pub IsSendable : Request → Type 0
IsSendable Registrations = Unit {0}
IsSendable (Forget phone) = IsWritten phone.digits
IsSendable Copy = Unit {0}
IsSendable Stop = Unit {0}
