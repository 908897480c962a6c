-- The packets of an answer, one after the other.
use Rattle.std.proofs.Common.{ℕ, ◌≡◌, ◌<◌, ◌≤◌, ◌+◌, List, [], ◌∷◌, ◌++◌, length, map, take, slice_get, Option, Some, None, Bool, true, false, cond, refl, ap, sym, ◌∙◌, arith, append_assoc}
use Rattle.std.proofs.lemmas.List.{map-append}
use Rattle.jt_subpacket.specs.Parts.{Message as Packet}
use Rattle.jt_terminal_rule.specs.Messages.{frame_of}
use Rattle.jt_terminal_rule.proofs.Measuring.{take_at}

abbrev pub framed : Packet → List ℕ
framed packet = frame_of packet.0 packet.1

pub one_more : (first now later : List (List ℕ)) (packets : List Packet) (place : ℕ) (packet : Packet) → slice_get packets place ≡ Some packet
    → now ≡ first ++ map framed (take place packets) → later ≡ now ++ framed packet ∷ [] → later ≡ first ++ map framed (take (place + 1) packets)
one_more first now later packets place packet there was is =
    is ∙ (ap (λ (fs : List (List ℕ)). fs ++ framed packet ∷ []) was
    ∙ (append_assoc first (map framed (take place packets)) (framed packet ∷ [])
    ∙ ap (λ (fs : List (List ℕ)). first ++ fs) (sym (map-append framed (take place packets) (packet ∷ [])) ∙ ap (map framed) (sym (take_at packets place packet there)))))
