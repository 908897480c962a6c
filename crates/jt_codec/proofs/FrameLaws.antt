-- The law of frames.
use Rattle.std.proofs.Common.{◌≡◌, ◌↔◌, ℕ, ◌-◌, ◌<◌, false, ◌⊎◌, inl, inr, List, length, get_or, drop, Option, Some, None, Result, Ok, Err, refl, sym, ap, subst, ◌∙◌, arith}
use Rattle.std.specs.Prelude.{IsNone, is_some}
use Rattle.jt_value.specs.declared.phone.Edition.{Edition}
use Rattle.jt_value.specs.declared.refusal.Refusal.{Refusal}
use Rattle.jt_value.specs.declared.refusal.CodecError.{CodecError}
use Rattle.jt_value.specs.declared.refusal.CodecError.TheVariants as errors
use Rattle.jt_header.specs.Content.{Content, header_len}
use Rattle.jt_header.specs.Fields.{attributes_at, header_len_in, header_at, body_at}
use Rattle.jt_value.specs.Octets.{AreOctets}
use Rattle.jt_header.specs.Law.{IsContentOfItsFields, IsReadBack}
use Rattle.jt_header.specs.Reason.{reason}
use Rattle.jt_header.specs.declared.header.Header.{Header}
use Rattle.jt_header.specs.declared.header.Packet.{Packet}
use Rattle.jt_value.proofs.OctetLists.{AreOctets-drop, AreOctets-take}
use Rattle.jt_layout.proofs.Laws.{ok_is, err_is}
use Rattle.jt_layout.proofs.Answering.{one_to_one}
use Rattle.jt_codec.specs.Answer.{IsUnlessMemory}
use Rattle.jt_codec.specs.Bodies.{body, HasBody}
use Rattle.jt_codec.specs.Frames.{Frame, FrameAnswers, HasMessage, IsRefused, RefusesMessage, in_content}
use Rattle.jt_codec.specs.Law.{HasFrame, HasRefusal}
use Rattle.jt_codec.specs.Parsing.{beside, message_read, parse_of, body_answer}
use Rattle.jt_codec.specs.declared.message.Message.{Message}
use Rattle.jt_codec.specs.declared.message.Message.TheVariants.{Part}
use Rattle.jt_codec.proofs.BodyLaws.{body_law}

-- ---- the message behind a header

message_is : (p : Option Packet) (edition : Edition) (id : ℕ) (v : List ℕ) (m : Message) → HasMessage p edition id v m → message_read p edition id v ≡ Ok m
message_is None edition id v m h = ap (body_answer (header_len edition false)) ((body_law edition id).again v 0 m (omega arith) h)
message_is (Some packet) edition id v m h = rw h refl

placed_ok : (n : ℕ) (r : Result Message Refusal) (m : Message) → body_answer n r ≡ Ok m → r ≡ Ok m
placed_ok n (Ok a) m e = e
placed_ok n (Err d) m e = absurd cc

placed_err : (n : ℕ) (r : Result Message Refusal) (d : Refusal) → body_answer n r ≡ Err d → (c : Refusal) × (r ≡ Err c) × (d ≡ in_content n c)
placed_err n (Ok a) d e = absurd cc
placed_err n (Err c) d e = (c, refl, sym (err_is {A = Message} (in_content n c) d e))

apart : {A : Type 0} (x : A) (d : Refusal) (r : Result A Refusal) → r ≡ Ok x → r ≡ Err d → ⊥
apart x d r a b = let e = sym a ∙ b in cc

-- what is read behind a header, in both directions
pub message_read_is : (p : Option Packet) (edition : Edition) (id : ℕ) (v : List ℕ) (m : Message) → AreOctets v → (message_read p edition id v ≡ Ok m) ↔ HasMessage p edition id v m
message_read_is None edition id v m bytes = (λ e. (body_law edition id).takes v 0 m bytes (omega arith) (placed_ok (header_len edition false) ((body edition id).read v 0) m e), message_is None edition id v m)
message_read_is (Some packet) edition id v m bytes = (λ e. sym (ok_is (Part v) m e), message_is (Some packet) edition id v m)

refusal_found : (edition : Edition) (id : ℕ) (v : List ℕ) (r : Refusal) → AreOctets v → message_read None edition id v ≡ Err r → RefusesMessage None edition id v r
refusal_found edition id v r bytes e =
    let found = placed_err (header_len edition false) ((body edition id).read v 0) r e in
    (found.0, (body_law edition id).refused v 0 found.0 bytes (omega arith) found.1, found.2)

refusal_is : (edition : Edition) (id : ℕ) (v : List ℕ) (r : Refusal) → RefusesMessage None edition id v r → message_read None edition id v ≡ Err r
refusal_is edition id v r h = rw ((body_law edition id).refuses v 0 h.0 (omega arith) h.1, h.2) refl

pub refusal_read_is : (p : Option Packet) (edition : Edition) (id : ℕ) (v : List ℕ) (r : Refusal) → AreOctets v → (message_read p edition id v ≡ Err r) ↔ RefusesMessage p edition id v r
refusal_read_is None edition id v r bytes = (refusal_found edition id v r bytes, refusal_is edition id v r)
refusal_read_is (Some packet) edition id v r bytes = (λ e. apart (Part v) r (Ok (Part v)) refl e, λ never. absurd never)

-- what a reader of the body answers, with a refusal's place counted in the content
pub refused_at : (p : Option Packet) (edition : Edition) (id start : ℕ) (v : List ℕ) (r : Refusal) → false ≡ is_some p → (IsNone p → start ≡ header_len edition false) → (body edition id).Refuses v 0 r
    → message_read p edition id v ≡ Err (in_content start r)
refused_at None edition id start v r none is h = rw (is refl, (body_law edition id).refuses v 0 r (omega arith) h) refl
refused_at (Some packet) edition id start v r none is h = absurd cc

pub read_at : (p : Option Packet) (edition : Edition) (id : ℕ) (v : List ℕ) (m : Message) → false ≡ is_some p → HasBody edition id m v → message_read p edition id v ≡ Ok m
read_at None edition id v m none h = message_is None edition id v m h
read_at (Some packet) edition id v m none h = absurd cc

-- ---- contents, by the law of contents: only one header and one body stand in each, and what is found there is its content

module _ (only : IsReadBack) (found : IsContentOfItsFields) where
  -- what a content with this header and this body is parsed as
  behind : (h : Header) (v c : List ℕ) → Content h v c → parse_of c ≡ beside h (message_read h.packet h.edition h.id v)
  unfolding parse_of
  behind h v c is =
      let r = only h v c is in
      rw (r.no_reason, ← r.header, ← r.body_is) refl

  pub parsed_frame : (c v : List ℕ) (h : Header) (m : Message) → Frame h v m c → parse_of c ≡ Ok (h, m)
  parsed_frame c v h m f = behind h v c f.is_content ∙ ap (beside h) (message_is h.packet h.edition h.id v m f.has_message)

  pub parsed_refusal : (c : List ℕ) (r : Refusal) → IsRefused c r → parse_of c ≡ Err r
  unfolding parse_of
  parsed_refusal c r (inl e) = rw e refl
  parsed_refusal c r (inr b) =
      let read = (body_law b.h.edition b.h.id).refuses b.octets 0 b.found (omega arith) b.refuses in
      behind b.h b.octets c b.is_content ∙ rw (b.packet, read, b.is) refl

  -- ---- what follows for the answers

  -- a content's body is of octets
  body_bytes : (c : List ℕ) → AreOctets c → (i : ℕ) → get_or (body_at c) i 0 < 256
  body_bytes c are = AreOctets-take (length c - 1 - header_len_in (attributes_at c)) (drop (header_len_in (attributes_at c)) c) (AreOctets-drop (header_len_in (attributes_at c)) c are)

  of_content : (h : Header) (v c : List ℕ) (p : Option Packet) → Content h v c → ((i : ℕ) → get_or v i 0 < 256) → h.packet ≡ p → HasFrame c ⊎ HasRefusal c
  of_content h v c (Some packet) is bytes e = inl (h, v, Part v, record { is_content = is; has_message = subst (λ (q : Option Packet). HasMessage q h.edition h.id v (Part v)) (sym e) refl })
  of_content h v c None is bytes e =
      elim ((one_to_one (body h.edition h.id) (body_law h.edition h.id)).one_answer v bytes).has [
        | inl m ↦ inl (h, v, m.0, record { is_content = is; has_message = subst (λ (q : Option Packet). HasMessage q h.edition h.id v m.0) (sym e) m.1 })
        | inr r ↦ inr (in_content (header_len h.edition false) r.0, inr (record { h = h; octets = v; is_content = is; packet = e; found = r.0; refuses = r.1; is = refl }))
      ]

  either : (c : List ℕ) (o : Option Refusal) → AreOctets c → reason c ≡ o → HasFrame c ⊎ HasRefusal c
  either c None are e = of_content (header_at c) (body_at c) c (header_at c).packet (found c are e) (body_bytes c are) refl
  either c (Some r) are e = inr (r, inl e)

  pub one_or_the_other : (c : List ℕ) → AreOctets c → HasFrame c ⊎ HasRefusal c
  one_or_the_other c are = either c (reason c) are refl

  pub never_both : (c : List ℕ) → HasFrame c → HasRefusal c → ⊥
  never_both c f r = apart (f.0, f.2) r.0 (parse_of c) (parsed_frame c f.1 f.0 f.2 f.3) (parsed_refusal c r.0 r.1)

  pub one_frame : (c : List ℕ) (h g : Header) (v w : List ℕ) (m n : Message) → Frame h v m c → Frame g w n c → (h ≡ g) × (v ≡ w) × (m ≡ n)
  one_frame c h g v w m n x y =
      let e : (h, m) ≡ (g, n) = ok_is (h, m) (g, n) (sym (parsed_frame c v h m x) ∙ parsed_frame c w g n y) in
      (ap (λ (z : Header × Message). z.0) e, (only h v c x.is_content).body_is ∙ sym (only g w c y.is_content).body_is, ap (λ (z : Header × Message). z.1) e)

  pub one_refusal : (c : List ℕ) (r s : Refusal) → IsRefused c r → IsRefused c s → r ≡ s
  one_refusal c r s x y = err_is {A = Header × Message} r s (sym (parsed_refusal c r x) ∙ parsed_refusal c s y)

  -- what gives what parsing gives answers by the definition of frames
  answered : (c : List ℕ) (r : Result (Header × Message) CodecError) → HasFrame c ⊎ HasRefusal c → IsUnlessMemory r (parse_of c) → FrameAnswers c r
  answered c (Err errors.Memory) is e = tt
  answered c (Ok x) (inl f) e =
      let one : (f.0, f.2) ≡ x = ok_is (f.0, f.2) x (sym (parsed_frame c f.1 f.0 f.2 f.3) ∙ e) in
      subst (λ (z : Header × Message). Frame z.0 (body_at c) z.1 c) one (subst (λ (v : List ℕ). Frame f.0 v f.2 c) (only f.0 f.1 c f.3.is_content).body_is f.3)
  answered c (Ok x) (inr r) e = absurd (apart x r.0 (parse_of c) e (parsed_refusal c r.0 r.1))
  answered c (Err (errors.Refused d)) (inl f) e = absurd (apart (f.0, f.2) d (parse_of c) (parsed_frame c f.1 f.0 f.2 f.3) e)
  answered c (Err (errors.Refused d)) (inr r) e = subst (IsRefused c) (err_is {A = Header × Message} r.0 d (sym (parsed_refusal c r.0 r.1) ∙ e)) r.1

  pub answers : (c : List ℕ) (r : Result (Header × Message) CodecError) → AreOctets c → IsUnlessMemory r (parse_of c) → FrameAnswers c r
  answers c r are e = answered c r (one_or_the_other c are) e
