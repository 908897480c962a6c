-- What contracts see of the adapters over std: their counts alone. To be believed.
use Rattle.std.specs.Prelude.{ℕ, List, Option, None}
use Rattle.jt_value.specs.Counts.{counted}
use Rattle.jt_outside.specs.Inbound.{Inbound}
use Rattle.jt_outside.specs.declared.sink.Put.{Put}
use Rattle.jt_outside.specs.declared.sink.Put.TheVariants as puts
use Rattle.jt_outside.specs.Link.{Wire}
use Rattle.jt_outside.specs.Pool.{Pool}
use Rattle.jt_outside.specs.declared.link.LinkGot.{LinkGot}
use Rattle.jt_outside.specs.declared.link.LinkGot.TheVariants.{Bytes, Quiet, End, Failed}

-- how often a link failed, and how often it was quiet
pub record Counted : Type 0 where
  pub faults : ℕ
  pub quiets : ℕ
  pub run : ℕ

-- a link that tells nothing but its counts
abbrev pub inbound_of : Counted → Inbound
inbound_of link = record { left = None; taken = None; quiets = link.quiets; run = link.run }

abbrev pub wire : Counted → Wire
wire link = record { inbound = inbound_of link; written = None; faults = link.faults }

-- a dial or a listener that tells nothing of its links
abbrev pub untold : Pool
untold = record { coming = None; back = None; lent = None }

abbrev pub after_read : Counted → LinkGot → Counted
after_read link (Bytes count) = record link { run = 0 }
after_read link Quiet = record link { quiets = counted link.quiets; run = counted link.run }
after_read link End = link
after_read link Failed = record link { faults = counted link.faults }

abbrev pub after_write : Counted → Put → Counted
after_write link (puts.Count count) = link
after_write link puts.Failed = record link { faults = counted link.faults }
