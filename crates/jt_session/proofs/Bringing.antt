-- What octets bring.
use Rattle.std.proofs.Common.{◌≡◌, ℕ, List, [], ◌++◌, ◌+◌, map, inl, inr, refl, sym, ap, ◌∙◌, subst}
use Rattle.std.proofs.lemmas.List.{append-nil, map-append}
use Rattle.jt_value.specs.Octets.{AreOctets}
use Rattle.jt_value.specs.declared.refusal.Refusal.{Refusal}
use Rattle.jt_escape.specs.Scan.{State as Splitting}
use Rattle.jt_header.specs.Fields.{header_at, body_at}
use Rattle.jt_stream.specs.Item.{Item, Items}
use Rattle.jt_stream.specs.Stream.{Gains, stream_items}
use Rattle.jt_stream.specs.Unplaced.{items, unplaced, fault}
use Rattle.jt_stream.specs.declared.stream.StreamItem.{StreamItem}
use Rattle.jt_stream.specs.declared.stream.StreamItem.TheVariants as answer
use Rattle.jt_session.specs.declared.step.Came.{Came}
use Rattle.jt_session.specs.declared.step.Came.TheVariants.{Quiet, Asks, Memory}
use Rattle.jt_session.specs.Talk.{State}
use Rattle.jt_session.specs.Steps.{Brings}
use Rattle.jt_session.specs.Waiting.{message_at}
use Rattle.jt_session.specs.Reading.{FrameCame, OctetsCame}

-- each stream has items, and without their places they are a function of it
abbrev pub HasItems : Type 0
HasItems = (stream : List ℕ) → AreOctets stream → (list : List Item) × Items stream list

abbrev pub AreItems : Type 0
AreItems = (stream : List ℕ) (list : List Item) → Items stream list → map unplaced list ≡ items stream

pub brings : HasItems → AreItems → (old new : Splitting) (octets : List ℕ) (gained : List Item) → Gains old new octets gained → Brings old new octets (map unplaced gained)
brings some unplaced_are old new octets gained gains read are stands =
    let before = some read are in (
      sym (unplaced_are (read ++ octets) (before.0 ++ gained) (gains.items read before.0 stands before.1)) ∙ (map-append unplaced before.0 gained ∙ ap (λ list. list ++ map unplaced gained) (unplaced_are read before.0 before.1)),
      gains.stands read stands,
    )

pub came_nothing : HasItems → AreItems → (old new : Splitting) (octets : List ℕ) (item : StreamItem) (kept : State) (out : List ℕ) (spare : ℕ) → item ≡ answer.More → Gains old new octets (stream_items item new) → OctetsCame old new octets kept kept out out spare Quiet
came_nothing some unplaced_are old new octets item kept out spare is gains =
    inl (record { brings = brings some unplaced_are old new octets [] (subst (λ i. Gains old new octets (stream_items i new)) is gains); state = refl; wrote = refl })

pub came_refused : HasItems → AreItems → (old new : Splitting) (octets : List ℕ) (item : StreamItem) (refusal : Refusal) (kept kept_now : State) (out : List ℕ) (spare : ℕ) → item ≡ answer.Refused refusal → Gains old new octets (stream_items item new)
    → kept_now ≡ record kept { refused = kept.refused + 1 } → OctetsCame old new octets kept kept_now out out spare Quiet
came_refused some unplaced_are old new octets item refusal kept kept_now out spare is gains state =
    inr (
      fault refusal,
      record {
        brings = brings some unplaced_are old new octets (stream_items (answer.Refused refusal) new) (subst (λ i. Gains old new octets (stream_items i new)) is gains);
        answered = record { none = refl; state = state; wrote = sym (append-nil out) };
      },
    )

pub came_frame : HasItems → AreItems → (old new : Splitting) (octets : List ℕ) (item : StreamItem) (kept kept_now : State) (out out_now : List ℕ) (spare : ℕ) (came : Came) → item ≡ answer.Frame → Gains old new octets (stream_items item new)
    → FrameCame kept kept_now (header_at new.content) (body_at new.content) out out_now spare came → OctetsCame old new octets kept kept_now out out_now spare came
came_frame some unplaced_are old new octets item kept kept_now out out_now spare Quiet is gains came =
    inr (message_at new.content, record { brings = brings some unplaced_are old new octets (stream_items answer.Frame new) (subst (λ i. Gains old new octets (stream_items i new)) is gains); answered = came })
came_frame some unplaced_are old new octets item kept kept_now out out_now spare (Asks header q) is gains came =
    (brings some unplaced_are old new octets (stream_items answer.Frame new) (subst (λ i. Gains old new octets (stream_items i new)) is gains), came)
came_frame some unplaced_are old new octets item kept kept_now out out_now spare Memory is gains came =
    (brings some unplaced_are old new octets (stream_items answer.Frame new) (subst (λ i. Gains old new octets (stream_items i new)) is gains), came)
