-- What one end wrote on a wire, as messages of one phone; and the header of the first frame that the other end read.
use Rattle.std.proofs.Common.{ℕ, ◌≡◌, List, [], ◌∷◌, ◌++◌, take, drop, map, Option, Some, None, arith, refl, ap, sym, ◌∙◌, subst}
use Rattle.std.specs.Prelude.{All}
use Rattle.std.specs.List.{flat_map, AllByRecursion}
use Rattle.std.proofs.lemmas.List.{take-append-drop, append_assoc, append-nil}
use Rattle.std.proofs.lemmas.List.Elements.{All-nil, All-cons}
use Rattle.jt_value.specs.declared.phone.Phone.{Phone}
use Rattle.jt_escape.specs.Frame.{framed}
use Rattle.jt_escape.specs.Span.{IsContent}
use Rattle.jt_header.specs.Content.{Content, IsHeader, content_of}
use Rattle.jt_header.specs.declared.header.Header.{Header}
use Rattle.jt_stream.specs.Unplaced.{Unplaced, Message as Frame, Fault, items, of_content}
use Rattle.jt_order_turns.specs.Headers.{first_header}
use Rattle.jt_octets.proofs.Views.{Msg, IsMessage, StreamLaws, frame_of_msg, item_of_msg, by_push}

-- a message of this phone that a frame can have
pub record IsFrom (p : Phone) (m : Msg) : Type 0 where
  pub is : IsMessage m
  pub of_phone : m.0.phone ≡ p

-- The octets are the frames of messages of this phone.
pub record Written (p : Phone) (octets : List ℕ) : Type 0 where
  pub messages : List Msg
  pub are : octets ≡ flat_map (λ (m : Msg). frame_of_msg m) messages
  pub each : AllByRecursion (IsFrom p) messages

pub written_none : (p : Phone) → Written p []
written_none p = record { messages = []; are = refl; each = tt }

flat_push : (ms : List Msg) (m : Msg) → flat_map (λ (x : Msg). frame_of_msg x) (ms ++ m ∷ []) ≡ flat_map (λ (x : Msg). frame_of_msg x) ms ++ frame_of_msg m
flat_push [] m = append-nil (frame_of_msg m)
flat_push (x ∷ ms) m = ap (λ (z : List ℕ). frame_of_msg x ++ z) (flat_push ms m) ∙ sym (append_assoc (frame_of_msg x) (flat_map (λ (x : Msg). frame_of_msg x) ms) (frame_of_msg m))

-- one more frame
pub written_push : (p : Phone) (octets : List ℕ) (m : Msg) → Written p octets → IsFrom p m → Written p (octets ++ frame_of_msg m)
written_push p octets m w is = record {
  messages = w.messages ++ m ∷ [];
  are = ap (λ (z : List ℕ). z ++ frame_of_msg m) w.are ∙ sym (flat_push w.messages m);
  each = by_push (IsFrom p) w.messages m w.each is;
}

-- ---- what is read

abbrev contents : List Msg → List (List ℕ)
contents ms = map (λ (m : Msg). content_of m.0 m.1) ms

contents_framed : (ms : List Msg) → flat_map framed (contents ms) ≡ flat_map (λ (m : Msg). frame_of_msg m) ms
contents_framed [] = refl
contents_framed (m ∷ ms) = ap (λ (z : List ℕ). frame_of_msg m ++ z) (contents_framed ms)

content_is : (m : Msg) → IsMessage m → Content m.0 m.1 (content_of m.0 m.1)
content_is m is = record { header = is.header; short = is.short; octets = refl }

all_contents : StreamLaws → (p : Phone) (ms : List Msg) → AllByRecursion (IsFrom p) ms → All IsContent (contents ms)
all_contents laws p [] each = All-nil IsContent
all_contents laws p (m ∷ ms) each =
    let sized = laws.long m.0 m.1 (content_of m.0 m.1) (content_is m each.0.is) in
    All-cons IsContent (content_of m.0 m.1) (contents ms) (omega (arith, sized.0), sized.1) (all_contents laws p ms each.1)

contents_read : StreamLaws → (p : Phone) (ms : List Msg) → AllByRecursion (IsFrom p) ms → map of_content (contents ms) ≡ map (λ (m : Msg). item_of_msg m) ms
contents_read laws p [] each = refl
contents_read laws p (m ∷ ms) each =
    ap (λ (z : Unplaced). z ∷ map of_content (contents ms)) (laws.message m.0 m.1 (content_of m.0 m.1) (content_is m each.0.is))
    ∙ ap (λ (z : List Unplaced). item_of_msg m ∷ z) (contents_read laws p ms each.1)

items_are : StreamLaws → (p : Phone) (octets : List ℕ) (w : Written p octets) → items octets ≡ map (λ (m : Msg). item_of_msg m) w.messages
items_are laws p octets w =
    ap items (w.are ∙ sym (contents_framed w.messages)) ∙ (laws.frames (contents w.messages) (all_contents laws p w.messages w.each) ∙ contents_read laws p w.messages w.each)

-- a header of this phone, as a frame has it
pub record IsFirst (p : Phone) (h : Header) : Type 0 where
  pub header : IsHeader h
  pub of_phone : h.phone ≡ p

-- the first frame that was read is the first that was written
first_of : (p : Phone) (ms : List Msg) (front more : List Unplaced) (h : Header) → AllByRecursion (IsFrom p) ms → map (λ (m : Msg). item_of_msg m) ms ≡ front ++ more → first_header front ≡ Some h → IsFirst p h
first_of p ms [] more h each e is = absurd (let none : ◌≡◌ {A = Option Header} None (Some h) = is in cc)
first_of p [] (item ∷ front) more h each e is = absurd (let none : ◌≡◌ {A = List Unplaced} [] (item ∷ (front ++ more)) = e in cc)
first_of p (m ∷ ms) (Fault place why ∷ front) more h each e is =
    absurd (let none : ◌≡◌ {A = List Unplaced} (Frame m.0 m.1 ∷ map (λ (m : Msg). item_of_msg m) ms) (Fault place why ∷ (front ++ more)) = e in cc)
first_of p (m ∷ ms) (Frame g octets ∷ front) more h each e is = record { header = subst IsHeader same each.0.is.header; of_phone = ap (λ (x : Header). x.phone) (sym same) ∙ each.0.of_phone }
  where
    heads : (a b : Header) (x y : List ℕ) (us vs : List Unplaced) → ◌≡◌ {A = List Unplaced} (Frame a x ∷ us) (Frame b y ∷ vs) → a ≡ b
    heads a b x y us vs e = cc

    some : (a b : Header) → ◌≡◌ {A = Option Header} (Some a) (Some b) → a ≡ b
    some a b e = cc

    same : m.0 ≡ h
    same = heads m.0 g m.1 octets (map (λ (m : Msg). item_of_msg m) ms) (front ++ more) e ∙ some g h is

pub first_is : StreamLaws → (p : Phone) (octets : List ℕ) (n : ℕ) (h : Header) → Written p octets → first_header (items (take n octets)) ≡ Some h → IsFirst p h
first_is laws p octets n h w is =
    let rest = laws.front (take n octets) (drop n octets) in
    first_of p w.messages (items (take n octets)) rest.0 h w.each (sym (items_are laws p octets w) ∙ (ap items (sym (take-append-drop n octets)) ∙ rest.1)) is
