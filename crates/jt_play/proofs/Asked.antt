-- What sessions ask in a world that is reached.
use Rattle.std.proofs.Common.{ℕ, suc, ◌+◌, ◌<◌, ◌≤◌, ◌≡◌, ◌⊎◌, List, [], ◌∷◌, length, Option, Some, None, arith, refl, ap, sym, ◌∙◌, subst, inl, inr}
use Rattle.jt_value.specs.Sameness.{key_of}
use Rattle.jt_header.specs.Content.{IsHeader}
use Rattle.jt_header.specs.declared.header.Header.{Header}
use Rattle.jt_stream.specs.Unplaced.{Unplaced, Message as Frame}
use Rattle.jt_store.specs.declared.row.Row.{Row}
use Rattle.jt_subpacket.specs.Joining.{IsNamedByItsPackets}
use Rattle.jt_codec.specs.declared.message.Message.{Message}
use Rattle.jt_codec.specs.declared.message.Message.TheVariants as message
use Rattle.jt_platform.specs.declared.request.Request.{Request}
use Rattle.jt_platform.specs.Laws.{IsOf}
use Rattle.jt_session.specs.Talk.{State, asks, request_of}
use Rattle.jt_delivery.specs.World.{Up, Authentication, OtherMessage, Sending}
use Rattle.jt_octets.specs.World.{World, completed_item, line_at, with_one_taken}
use Rattle.jt_octets.proofs.Asking.{IsAsked, IsNamed, asked_of, named_by}
use Rattle.jt_octets.proofs.Following.{Follows}
use Rattle.jt_octets.proofs.Kept.{Below, reached_follows}
use Rattle.jt_octets.proofs.Meanings.{UpTag}
use Rattle.jt_octets.proofs.Views.{Brings, Direction, Msg, direction_moved}
use Rattle.jt_play.specs.Holding.{EachReachedAsks, HasSerial, asked_at}

request_fine : (key : List ℕ) (m : Header × List ℕ) (read : Message) → key_of m.0.phone ≡ key → m.0.serial < 65536 → IsOf key (request_of m.0 m.1 read) × HasSerial (request_of m.0 m.1 read)
request_fine key m (message.Register x) same short = (same, tt)
request_fine key m (message.Auth x) same short = (same, tt)
request_fine key m message.Deregister same short = (same, tt)
request_fine key m (message.Position x) same short = (same, short)
request_fine key m (message.Batch x) same short = (same, short)
request_fine key m other same short = (same, tt)

pub asked_fine : IsNamedByItsPackets → (key : List ℕ) (s : State) (h : Header) (octets : List ℕ) (q : Request) → IsHeader h → key_of h.phone ≡ key → asks s (Frame h octets) ≡ Some q → IsOf key q × HasSerial q
asked_fine law key s h octets q good same e =
    let a = asked_of s h octets q e in
    let n = named_by law s h octets h.packet a.m good refl a.brought in
    subst (λ (x : Request). IsOf key x × HasSerial x) a.request (request_fine key a.m a.read (ap key_of n.phone ∙ same) n.serial)

tag_key : (key : List ℕ) (units : List Row) (m : Msg) (t : Up) → UpTag key units m t → key_of m.0.phone ≡ key
tag_key key units m Authentication tag = tag.0
tag_key key units m OtherMessage tag = tag.0
tag_key key units m (Sending place formed) tag = tag.0

no_request : (q : Request) → ◌≡◌ {A = Option Request} None (Some q) → ⊥
no_request q e = cc

pub each_asks : Below → EachReachedAsks
each_asks below w r place within left s q e =
    by (direction_moved (UpTag f.key w.terminal.units) below.streams (line_at w.lines place).up (f.lines_are (suc place)).gone (f.lines_are (suc place)).waiting (f.lines place (omega (arith, within, f.count_is))).up left)
  where
    f : Follows w
    f = reached_follows below w r

    by : ((completed_item (line_at w.lines place).up ≡ None) × Direction (UpTag f.key w.terminal.units) (with_one_taken (line_at w.lines place).up) (f.lines_are (suc place)).gone (f.lines_are (suc place)).waiting)
        ⊎ Brings (UpTag f.key w.terminal.units) (line_at w.lines place).up (f.lines_are (suc place)).gone (f.lines_are (suc place)).waiting
        → IsOf (key_of w.terminal.phone) q × HasSerial q
    by (inl none) = absurd (no_request q (sym (ap (asked_at s) none.0) ∙ e))
    by (inr b) = asked_fine below.sessions.named (key_of w.terminal.phone) s b.m.0 b.m.1 q b.is.header (tag_key f.key w.terminal.units b.m b.t b.tag ∙ sym f.key_is) (sym (ap (asked_at s) b.item) ∙ e)
