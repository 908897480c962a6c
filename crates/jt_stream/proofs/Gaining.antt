-- What a splitter takes, its stream gains as items.
use Rattle.std.proofs.Common.{ℕ, List, [], ◌∷◌, ◌++◌, refl}
use Rattle.jt_value.specs.declared.refusal.Refusal.{Refusal}
use Rattle.jt_escape.specs.Span.{Event}
use Rattle.jt_escape.specs.Span as event
use Rattle.jt_escape.specs.Scan.{State}
use Rattle.jt_escape.specs.Splitter as splitter
use Rattle.jt_stream.specs.Item.{Item, Refused, AreItemsOf}
use Rattle.jt_stream.specs.Stream.{Adds}

AreItemsOf-append : (events more : List Event) (items gained : List Item) → AreItemsOf events items → AreItemsOf more gained → AreItemsOf (events ++ more) (items ++ gained)
AreItemsOf-append [] more [] gained each also = also
AreItemsOf-append [] more (item ∷ items) gained each also = absurd each
AreItemsOf-append (event ∷ events) more [] gained each also = absurd each
AreItemsOf-append (event ∷ events) more (item ∷ items) gained each also = (each.0, AreItemsOf-append events more items gained each.1 also)

pub gains : (Belongs : State → List ℕ → Type 0) (old new : State) (octets : List ℕ) (events : List Event) (items : List Item)
    → splitter.Adds Belongs old new octets events → AreItemsOf events items → Adds Belongs old new octets items
gains Belongs old new octets events items takes each =
    record {
      stands = takes.stands;
      items = λ stream before stands held.
          record { events = held.events ++ events; held = takes.events stream held.events stands held.held; each = AreItemsOf-append held.events events before items held.each each };
    }

pub refusal_stays : (refusal : Refusal) → AreItemsOf (event.Refused refusal ∷ []) (Refused refusal ∷ [])
refusal_stays refusal = (refl, tt)
