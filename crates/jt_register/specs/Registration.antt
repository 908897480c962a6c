-- Registrations, their replies and authentications. Those of 2013 are as the standard's message bodies have them, those of 2019
-- as this project's profile has them. To be believed.
use Rattle.std.specs.Prelude.{ℕ, ◌==◌, List, Option, Some, None}
use Rattle.jt_value.specs.declared.phone.Edition.{Edition}
use Rattle.jt_value.specs.declared.phone.Edition.TheVariants.{E2013, E2019}
use Rattle.jt_layout.specs.Layout.{Part, Body, byte, word, octets_of, block, rest, rest_if, ◌▹◌, ◌▸◌, ended, part_as, body_as, body_case}
use Rattle.jt_register.specs.declared.register.Register.{Register}
use Rattle.jt_register.specs.declared.reply.RegisterReply.{RegisterReply}
use Rattle.jt_register.specs.declared.auth.Auth.{Auth}
use Rattle.jt_register.specs.declared.auth.AuthTail.{AuthTail}

-- how many octets the maker, the model and the terminal have
abbrev pub maker_len : Edition → ℕ
maker_len E2013 = 5
maker_len E2019 = 11

abbrev pub model_len : Edition → ℕ
model_len E2013 = 20
model_len E2019 = 30

abbrev pub terminal_len : Edition → ℕ
terminal_len E2013 = 7
terminal_len E2019 = 30

-- province W, city W, maker, model and terminal of the edition's lengths, colour B, plate rest
unfoldable pub register : Edition → Body Register
register edition = body_as (word ▸ λ _. word ▸ λ _. octets_of (maker_len edition) ▸ λ _. octets_of (model_len edition) ▸ λ _. octets_of (terminal_len edition) ▸ λ _. byte ▸ λ _. rest)
    (λ x. record { province = x.0; city = x.1.0; maker = x.1.1.0; model = x.1.1.1.0; terminal = x.1.1.1.1.0; colour = x.1.1.1.1.1.0; plate = x.1.1.1.1.1.1 })
    (λ m. (m.province, (m.city, (m.maker, (m.model, (m.terminal, (m.colour, m.plate)))))))

-- reply W, result B, and code rest only if result is 0
unfoldable pub register_reply : Body RegisterReply
register_reply = body_as (word ▸ λ _. byte ▸ λ result. rest_if (result == 0))
    (λ x. record { reply = x.0; result = x.1.0; code = x.1.1 })
    (λ m. (m.reply, (m.result, m.code)))

-- the code of an authentication without a tail
abbrev pub code_without : Option AuthTail → List ℕ → Option (List ℕ)
code_without None code = Some code
code_without (Some tail) code = None

-- code rest; an authentication with a tail has no octets in 2013
unfoldable pub auth_2013 : Body Auth
auth_2013 = body_case rest (λ code. record { code = code; tail = None }) (λ m. code_without m.tail m.code)

-- imei B15, software B20
unfoldable pub auth_tail : Part AuthTail
auth_tail = part_as (octets_of 15 ▹ λ _. octets_of 20) (λ x. record { imei = x.0; software = x.1 }) (λ m. (m.imei, m.software))

-- the code and the tail of an authentication with a tail
abbrev pub code_with : Option AuthTail → List ℕ → Option (List ℕ × AuthTail)
code_with None code = None
code_with (Some tail) code = Some (code, tail)

-- length B, code of that length, and the tail; an authentication without a tail has no octets in 2019
unfoldable pub auth_2019 : Body Auth
auth_2019 = body_case (ended (block byte ▹ λ _. auth_tail)) (λ x. record { code = x.0; tail = Some x.1 }) (λ m. code_with m.tail m.code)

abbrev pub auth : Edition → Body Auth
auth E2013 = auth_2013
auth E2019 = auth_2019
