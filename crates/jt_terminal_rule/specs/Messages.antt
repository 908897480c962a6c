-- The messages of a terminal, and the platform's responses. To be believed. Headers and bodies are the standard's.
use Rattle.std.specs.Prelude.{ℕ, ◌≡◌, ◌==◌, ◌||◌, ◌≤◌, Bool, false, List, length, take, None}
use Rattle.jt_value.specs.declared.limits.TheConstants.{PLATE_LIMIT}
use Rattle.jt_value.specs.declared.results.TheConstants.{ALARM_HANDLED, SUCCESS}
use Rattle.jt_value.specs.declared.phone.Edition.{Edition}
use Rattle.jt_value.specs.declared.phone.Edition.TheVariants.{E2013, E2019}
use Rattle.jt_value.specs.declared.phone.Phone.{Phone}
use Rattle.jt_header.specs.declared.header.Header.{Header}
use Rattle.jt_escape.specs.Frame.{framed}
use Rattle.jt_header.specs.Content.{content_of, IsPhone}
use Rattle.jt_register.specs.Registration.{register, auth}
use Rattle.jt_terminal_rule.specs.Tails.{IsTail}
use Rattle.jt_terminal_rule.specs.declared.settings.Settings.{Settings}
use Rattle.jt_terminal_rule.specs.declared.state.Acknowledgement.{Acknowledgement}

-- the protocol version of a terminal's headers, which those of 2013 have not
abbrev pub version_of : Edition → ℕ
version_of E2013 = 0
version_of E2019 = 1

-- the header of a message in one packet, of this phone, id and serial
abbrev pub header_of : Phone → ℕ → ℕ → Header
header_of phone id serial = record { edition = phone.edition; id = id; bit15 = false; version = version_of phone.edition; phone = phone; serial = serial; packet = None }

-- the frame of a header and a body
unfoldable pub frame_of : Header → List ℕ → List ℕ
frame_of h body = framed (content_of h body)

-- the body of the registration 0x0100
abbrev pub register_octets : Settings → List ℕ
register_octets settings = (register settings.phone.edition).spell settings.register

-- the body of the authentication 0x0102 with this code
abbrev pub auth_octets : Settings → List ℕ → List ℕ
auth_octets settings code = (auth settings.phone.edition).spell (record { code = code; tail = settings.tail })

-- a good phone, a registration that its edition has octets for, with a plate of at most 255 octets, and a tail in 2019 alone
pub record AreSettings (settings : Settings) : Type 0 where
  pub phone : IsPhone settings.phone
  pub register : (register settings.phone.edition).Fits settings.register
  pub plate : length settings.register.plate ≤ PLATE_LIMIT
  pub tail : IsTail settings.phone.edition settings.tail

-- success, or an alarm that is handled
abbrev pub is_acceptance : Acknowledgement → Bool
is_acceptance ack = (ack.result == SUCCESS) || (ack.result == ALARM_HANDLED)

-- the list now begins with what it was
abbrev pub BeginsWith : {A : Type 0} → List A → List A → Type 0
BeginsWith now was = take (length was) now ≡ was
