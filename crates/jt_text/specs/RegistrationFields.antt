-- The fields of registrations, their replies and authentications: this project's texts. To be believed.
use Rattle.std.specs.Prelude.{ℕ, ◌==◌, if◌then◌else◌, List, [], ◌++◌, length, Option, Some, None, codes}
use Rattle.std.specs.Fmt.{decimal}
use Rattle.jt_register.specs.declared.register.Register.{Register}
use Rattle.jt_register.specs.declared.reply.RegisterReply.{RegisterReply}
use Rattle.jt_register.specs.declared.auth.Auth.{Auth}
use Rattle.jt_register.specs.declared.auth.AuthTail.{AuthTail}
use Rattle.jt_text.specs.Values.{octets_text}

unfoldable pub register_fields : Register → List ℕ
register_fields m =
    codes " province=" ++ decimal m.province ++ codes " city=" ++ decimal m.city ++ codes " maker=" ++ octets_text m.maker
    ++ codes " model=" ++ octets_text m.model ++ codes " terminal=" ++ octets_text m.terminal ++ codes " colour=" ++ decimal m.colour
    ++ codes " plate=" ++ octets_text m.plate

-- the code, which only a result of 0 has
abbrev pub code_text : ℕ → List ℕ → List ℕ
code_text result code = if result == 0 then codes " code=" ++ octets_text code else []

unfoldable pub register_reply_fields : RegisterReply → List ℕ
register_reply_fields m = codes " reply=" ++ decimal m.reply ++ codes " result=" ++ decimal m.result ++ code_text m.result m.code

-- a code alone, and one with a length before it and a tail behind it
abbrev pub auth_text : Option AuthTail → List ℕ → List ℕ
auth_text None code = codes " code=" ++ octets_text code
auth_text (Some tail) code =
    codes " length=" ++ decimal (length code) ++ codes " code=" ++ octets_text code ++ codes " imei=" ++ octets_text tail.imei
    ++ codes " software=" ++ octets_text tail.software

unfoldable pub auth_fields : Auth → List ℕ
auth_fields m = auth_text m.tail m.code
