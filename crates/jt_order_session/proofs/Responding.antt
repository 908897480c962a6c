-- The two definitions of a general response say the same.
use Rattle.std.proofs.Common.{◌≡◌, ◌==◌, ◌&&◌, List, ℕ, Bool, true, false, if◌then◌else◌, Option, Some, None, Result, Ok, Err, refl, ap, ◌∙◌}
use Rattle.std.specs.Prelude.{◌↔◌, is_none}
use Rattle.std.proofs.lemmas.Bool.{and_parts, eq-eqb, eqb-true, false≢true}
use Rattle.jt_value.specs.declared.ids.TheConstants.{TERMINAL_ACK}
use Rattle.jt_value.specs.declared.refusal.Refusal.{Refusal}
use Rattle.jt_header.specs.declared.header.Header.{Header}
use Rattle.jt_header.specs.declared.header.Packet.{Packet}
use Rattle.jt_codec.specs.Bodies.{body}
use Rattle.jt_codec.specs.declared.message.Message.{Message}
use Rattle.jt_codec.specs.declared.message.Message.TheVariants.{TerminalAck}
use Rattle.jt_order_turns.specs.Turns.{IsResponse}
use Rattle.jt_order_session.specs.Responses.{response_in, response_read}
use Rattle.jt_order_session.specs.declared.response.Response.{Response}

read_is : (read : Result Message Refusal) (r : Response) → response_read read ≡ Some r → read ≡ Ok (TerminalAck r.reply r.id r.result)
read_is (Ok (TerminalAck reply id result)) r is = let same : record { reply = reply; id = id; result = result } ≡ r = cc in ap (λ (x : Response). Ok (TerminalAck x.reply x.id x.result)) same
read_is (Ok other) r is = absurd cc
read_is (Err refusal) r is = absurd cc

read_if : (b : Bool) (read : Result Message Refusal) (r : Response) → (if b then response_read read else None) ≡ Some r → (b ≡ true) × (read ≡ Ok (TerminalAck r.reply r.id r.result))
read_if true read r is = (refl, read_is read r is)
read_if false read r is = absurd cc

none_is : (packet : Option Packet) → is_none packet ≡ true → packet ≡ None
none_is None is = refl
none_is (Some packet) is = absurd (false≢true is)

is_response : (h : Header) (octets : List ℕ) (r : Response) → response_in h octets ≡ Some r → IsResponse h octets r.reply r.id r.result
is_response h octets r is =
    let found = read_if (is_none h.packet && (h.id == TERMINAL_ACK)) ((body h.edition h.id).read octets 0) r is in
    let both = and_parts (is_none h.packet) (h.id == TERMINAL_ACK) found.0 in
    record { whole = none_is h.packet both.0; response = eqb-true h.id TERMINAL_ACK both.1; read = found.1 }

response_is : (h : Header) (octets : List ℕ) (r : Response) → IsResponse h octets r.reply r.id r.result → response_in h octets ≡ Some r
response_is h octets r is =
    let both : (is_none h.packet && (h.id == TERMINAL_ACK)) ≡ true = ap (λ packet. is_none packet && (h.id == TERMINAL_ACK)) is.whole ∙ eq-eqb h.id TERMINAL_ACK is.response in
    ap (λ b. if b then response_read ((body h.edition h.id).read octets 0) else None) both ∙ ap response_read is.read

pub responses_agree : (h : Header) (octets : List ℕ) (r : Response) → (response_in h octets ≡ Some r) ↔ IsResponse h octets r.reply r.id r.result
responses_agree h octets r = (is_response h octets r, response_is h octets r)
