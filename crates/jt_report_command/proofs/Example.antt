-- The example of a script is one: each of its frames is heard, and accepts what the terminal waits for.
use Rattle.std.proofs.Common.{◌≡◌, ◌<◌, ◌+◌, ◌*◌, ℕ, List, [], ◌∷◌, All, Option, Some, inr, refl, sym, ap, ◌∙◌, subst, arith}
use Rattle.std.proofs.lemmas.List.Elements.{All-cons, All-nil}
use Rattle.jt_header.specs.Fields.{body_at, header_at, header_in, packet_at}
use Rattle.jt_header.specs.Reason.{bad_packet_number, check_mismatch, encrypted, length_mismatch, phone_digit, reason, too_short}
use Rattle.jt_layout.specs.Layout.{at_end, number, rest}
use Rattle.jt_register.specs.Registration.{register_reply}
use Rattle.jt_codec.specs.Bodies.{body}
use Rattle.jt_codec.specs.Layouts.{ack}
use Rattle.jt_codec.specs.declared.message.Message.TheVariants as message
use Rattle.jt_register.specs.declared.reply.RegisterReply.{RegisterReply}
use Rattle.jt_outside.specs.Time.{Time, TellsAll, TellsTime, first_moment}
use Rattle.jt_report_command.specs.Example.{a_script, a_terminal, accepted, authenticated, registered, still_clock}
use Rattle.jt_report_command.specs.Scripted.{HoldsAcceptances, IsHeardAs, IsSoon}

abbrev a_reply : RegisterReply
a_reply = record { reply = 0; result = 0; code = 0x31 ∷ 0x32 ∷ [] }

registered_heard : IsHeardAs registered (header_at registered) (message.RegisterReply a_reply)
unfolding reason too_short check_mismatch encrypted length_mismatch phone_digit bad_packet_number packet_at header_in body register_reply number rest at_end
registered_heard = record { good = (omega arith, omega arith); body = body_at registered; frame = refl; whole = refl; message = refl }

authenticated_heard : IsHeardAs authenticated (header_at authenticated) (message.PlatformAck 1 0x0102 0)
unfolding reason too_short check_mismatch encrypted length_mismatch phone_digit bad_packet_number packet_at header_in body ack number rest at_end
authenticated_heard = record { good = (omega arith, omega arith); body = body_at authenticated; frame = refl; whole = refl; message = refl }

accepted_heard : IsHeardAs accepted (header_at accepted) (message.PlatformAck 2 0x0200 0)
unfolding reason too_short check_mismatch encrypted length_mismatch phone_digit bad_packet_number packet_at header_in body ack number rest at_end
accepted_heard = record { good = (omega arith, omega arith); body = body_at accepted; frame = refl; whole = refl; message = refl }

pub holds_acceptances : HoldsAcceptances a_terminal a_script
unfolding header_in packet_at
holds_acceptances = record {
  contents = registered ∷ authenticated ∷ accepted ∷ [];
  frames = refl;
  accepts = (
    header_at registered,
    message.RegisterReply a_reply,
    registered_heard,
    (a_reply, refl, refl, refl),
    (
      header_at authenticated,
      message.PlatformAck 1 0x0102 0,
      authenticated_heard,
      refl,
      (header_at accepted, message.PlatformAck 2 0x0200 0, accepted_heard, (omega arith, 0, refl, refl), refl),
    ),
  );
}

same_clock : (next : Time) (moment : ℕ) → TellsTime still_clock next moment → next ≡ still_clock
same_clock next moment tells =
    ap (λ (c : Option (List ℕ)). record { coming = c; last = next.last }) tells.coming ∙ ap (λ (n : ℕ). record { coming = Some (0 ∷ []); last = n }) (tells.last ∙ tells.first)

stands_still : (bound : ℕ) (now : Time) (moments : List ℕ) → 0 < bound → TellsAll still_clock now moments → All (λ (moment : ℕ). moment < bound) moments
stands_still bound now [] some all = All-nil (λ (moment : ℕ). moment < bound)
stands_still bound now (moment ∷ moments) some all =
    All-cons (λ (m : ℕ). m < bound) moment moments (subst (λ (n : ℕ). n < bound) (sym all.1.first) some)
    (stands_still bound now moments some (subst (λ (t : Time). TellsAll t now moments) (same_clock all.0 moment all.1) all.2))

pub is_soon : IsSoon a_terminal.timing still_clock
is_soon = record { wait = λ now moments all. stands_still (first_moment moments + 1000 * 10) now moments (omega arith) all; heartbeat = inr (omega arith) }
