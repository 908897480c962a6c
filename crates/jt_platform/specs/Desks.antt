-- A hub's history as that of a desk, and which replies it may give there (this project's own). To be believed.
use Rattle.std.specs.Prelude.{◌≡◌, ◌≢◌, ℕ, List, map, false}
use Rattle.jt_turn.specs.declared.entry.Entry.{Entry as Turned}
use Rattle.jt_value.specs.Counts.{Rose}
use Rattle.jt_platform.specs.declared.request.Request.{Request}
use Rattle.jt_platform.specs.declared.request.Request.TheVariants as ask
use Rattle.jt_platform.specs.declared.request.Reply.{Reply}
use Rattle.jt_platform.specs.declared.request.Reply.TheVariants as say
use Rattle.jt_platform.specs.declared.request.Entry.{Entry}
use Rattle.jt_platform.specs.History.{newest}
use Rattle.jt_platform.specs.Allowed.{Opening, Allowed, is_trouble}
use Rattle.jt_platform.specs.Hub.{IsOwed}

-- an entry of a hub's history as one of a desk's, and back
abbrev pub as_ask : Entry → Turned Request Reply
as_ask e = record { number = e.session; ask = e.request; answer = e.reply }

abbrev pub as_entry : Turned Request Reply → Entry
as_entry e = record { session = e.number; request = e.ask; reply = e.answer }

-- Where the desk's history is `found`: the reply is one that the history allows, or a fault for which the count of faults rose, or
-- want of memory; at every reply but StoreFault that count stood still; and a Close whose memory is there is Accepted.
pub record Gives (o : Opening) (reserved : ℕ) (found : List (Turned Request Reply)) (before now session : ℕ) (request : Request) (reply : Reply) : Type 0 where
  pub allowed : is_trouble reply ≡ false → Allowed o (newest (map as_entry found)) session request reply
  pub close : request ≡ ask.Close → IsOwed (map as_entry found) reserved session → reply ≡ say.Accepted
  pub fault : reply ≡ say.StoreFault → Rose before now
  pub still : reply ≢ say.StoreFault → now ≡ before
