-- What contracts see of a link that a service may end (this project's own). To be believed.
use Rattle.std.specs.Prelude.{◌<◌, ◌≤◌, ℕ, List, Option, None, length, take}
use Rattle.std.specs.Io.KnownBytes.{IsAtEnd}
use Rattle.jt_outside.specs.Inbound.{Inbound}
use Rattle.jt_outside.specs.Link.{Wire, Gives, GivesNone}
use Rattle.jt_seats.specs.declared.cut.Cut.{Cut}
use Rattle.jt_service.specs.declared.watched_link.Heard.{Heard}
use Rattle.jt_service.specs.declared.watched_link.Heard.TheVariants as heard

-- what is seen of a link, and why the service ended it, if it did
pub record Watched : Type 0 where
  pub inbound : Inbound
  pub written : Option (List ℕ)
  pub faults : ℕ
  pub cut : Option Cut

-- a link's octets as they are, with counts of its own, and no end so far
abbrev pub watched : Wire → Watched
watched link = record {
  inbound = record { left = link.inbound.left; taken = link.inbound.taken; quiets = 0; run = 0 };
  written = link.written;
  faults = 0;
  cut = None;
}

-- the same, as a link is seen
abbrev pub watched_wire : Wire → Wire
watched_wire link = record {
  inbound = record { left = link.inbound.left; taken = link.inbound.taken; quiets = 0; run = 0 };
  written = link.written;
  faults = 0;
}

-- what was heard of a link: the next octets, or none; and the end only where nothing is left
abbrev pub HeardSo : Inbound → Inbound → Heard → List ℕ → Type 0
HeardSo old now (heard.Bytes count) buf =
    (0 < count) × (count ≤ length buf) × Gives old now (take count buf)
HeardSo old now heard.Quiet buf = GivesNone old now
HeardSo old now heard.End buf = IsAtEnd now.left × GivesNone old now
HeardSo old now heard.Failed buf = GivesNone old now
HeardSo old now (heard.Over cut) buf = GivesNone old now
