-- Layouts of message bodies that stand on no crate of their own, as the standard's message bodies have them; the text with
-- a kind is of this project's profile of 2019. To be believed.
use Rattle.std.specs.Prelude.{ℕ, ◌==◌, true, List, Option}
use Rattle.jt_layout.specs.Layout.{Body, byte, word, dword, rest, ◌▹◌, ◌▸◌, ended, body_as, if_body, only_if, may_end}
use Rattle.jt_position.specs.declared.position.Position.{Position}
use Rattle.jt_position.specs.Positions.{position}

-- reply W, id Wx, result B
unfoldable pub ack : Body (ℕ × ℕ × ℕ)
ack = body_as (ended (word ▹ λ _. word ▹ λ _. byte)) (λ x. (x.0, x.1.0, x.1.1)) (λ m. (m.0, (m.1, m.2)))

-- reply W, position
unfoldable pub position_reply : Body (ℕ × Position)
position_reply = word ▸ λ _. position

-- interval W, validity D; with interval 0 the validity may be missing
unfoldable pub track : Body (ℕ × Option ℕ)
track = word ▸ λ interval. if_body (interval == 0) (may_end dword) (ended (only_if true dword))

-- flag B or command B, and text rest
unfoldable pub octet_and_text : Body (ℕ × List ℕ)
octet_and_text = byte ▸ λ _. rest

-- flag B, kind B, and text rest
unfoldable pub flag_kind_and_text : Body (ℕ × ℕ × List ℕ)
flag_kind_and_text = body_as (byte ▸ λ _. byte ▸ λ _. rest) (λ x. (x.0, x.1.0, x.1.1)) (λ m. (m.0, (m.1, m.2)))
