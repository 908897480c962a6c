-- Where the body of a message stands in its content.
use Rattle.std.proofs.Common.{◌≡◌, ℕ, ◌+◌, ◌-◌, List, [], ◌∷◌, ◌++◌, length, take, sym, ap, subst, ◌∙◌, append_assoc, arith, length-append}
use Rattle.std.proofs.Math.Seq.{take-append_seam, drop-append_seam}
use Rattle.std.specs.Prelude.{Result, Ok, slice_range}
use Rattle.jt_value.specs.declared.refusal.Refusal.{Refusal}
use Rattle.jt_escape.specs.Frame.{check_of}
use Rattle.jt_header.specs.declared.header.Header.{Header}
use Rattle.jt_header.specs.Content.{Content, header_octets, checked}
use Rattle.jt_header.specs.Reason.{Reads}
use Rattle.jt_stream.specs.declared.stream.Message.{Message}
use Rattle.jt_stream.specs.Message.{IsMessage, body_from}

-- what stands between a head and a last octet
middle : (head body octets : List ℕ) (last start end : ℕ) → octets ≡ (head ++ body) ++ last ∷ [] → start ≡ length head → end ≡ start + length body
    → slice_range octets start end ≡ body
middle head body octets last start end whole begins ends =
    ap (λ (xs : List ℕ). slice_range xs start end) (whole ∙ append_assoc head body (last ∷ []))
    ∙ ap (λ (n : ℕ). slice_range (head ++ (body ++ last ∷ [])) n end) begins
    ∙ ap (take (end - length head)) (drop-append_seam head (body ++ last ∷ []))
    ∙ ap (λ (n : ℕ). take n (body ++ last ∷ [])) (omega arith)
    ∙ take-append_seam body (last ∷ [])

-- what is read of a content is its message
stands : (header : Header) (body content : List ℕ) → Content header body content → Reads content header body
    → IsMessage header (length content - 1 - length body) content
stands header body content is reads =
    let head : List ℕ = header_octets header (length body) in
    let last : ℕ = check_of (checked header body) in
    let len : length content ≡ (length head + length body) + 1 =
    ap length is.octets ∙ length-append (head ++ body) (last ∷ []) ∙ ap (λ (n : ℕ). n + 1) (length-append head body) in
    let start : ℕ = length content - 1 - length body in
    let found : body_from start content ≡ body =
    middle head body content last start (length content - 1) is.octets (omega (arith, len)) (omega (arith, len)) in
    record {
      within = omega (arith, len);
      message = subst (λ (octets : List ℕ). Content header octets content) (sym found) is;
      fields = subst (Reads content header) (sym found) reads;
    }

-- the same of the content by another name, and of the message as an answer
pub message_stands : (header : Header) (body octets content : List ℕ) (message : Message) → octets ≡ content → Content header body octets → Reads octets header body
    → message ≡ record { header = header; start = length octets - 1 - length body }
    → IsMessage message.header message.start content
message_stands header body octets content message same is reads made =
    subst (λ (m : Message). IsMessage m.header m.start content) (sym made)
    (subst (IsMessage header (length octets - 1 - length body)) same (stands header body octets is reads))

pub ok_is : (a b : Message) → ◌≡◌ {A = Result Message Refusal} (Ok a) (Ok b) → b ≡ a
ok_is a b e = cc
