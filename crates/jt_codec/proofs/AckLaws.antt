-- The octets of general responses.
use Rattle.std.proofs.Common.{◌≡◌, ℕ, ◌^◌, ◌<◌, refl}
use Rattle.jt_value.specs.declared.phone.Edition.{Edition}
use Rattle.jt_layout.specs.Layout.{number}
use Rattle.jt_codec.specs.Bodies.{Fits, body, body_octets}
use Rattle.jt_codec.specs.Law.{ack_octets}
use Rattle.jt_codec.specs.Layouts.{ack}
use Rattle.jt_codec.specs.declared.message.Message.TheVariants.{TerminalAck, PlatformAck}

pub terminal_octets : (edition : Edition) (reply id result : ℕ) → body_octets edition (TerminalAck reply id result) ≡ ack_octets reply id result
unfolding body ack number
terminal_octets edition reply id result = refl

pub platform_octets : (edition : Edition) (reply id result : ℕ) → body_octets edition (PlatformAck reply id result) ≡ ack_octets reply id result
unfolding body ack number
platform_octets edition reply id result = refl

pub terminal_fits : (edition : Edition) (reply id result : ℕ) → reply < 2 ^ 16 → id < 2 ^ 16 → result < 2 ^ 8 → Fits edition (TerminalAck reply id result)
unfolding body ack number
terminal_fits edition reply id result r i x = (r, (i, x))

pub platform_fits : (edition : Edition) (reply id result : ℕ) → reply < 2 ^ 16 → id < 2 ^ 16 → result < 2 ^ 8 → Fits edition (PlatformAck reply id result)
unfolding body ack number
platform_fits edition reply id result r i x = (r, (i, x))
