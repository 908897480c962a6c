-- Items of events: one item an event, the same without its place as the function's.
use Rattle.std.proofs.Common.{◌≡◌, ℕ, ◌+◌, ◌≤◌, List, [], ◌∷◌, ◌++◌, Some, length, map, refl, sym, ap, subst, ◌∙◌, arith, inl, inr}
use Rattle.std.proofs.lemmas.List.{map-append, length-map}
use Rattle.std.proofs.lemmas.List.Elements.{All-head, All-tail}
use Rattle.std.specs.Prelude.{All}
use Rattle.jt_value.specs.declared.refusal.Refusal.{Refusal}
use Rattle.jt_escape.specs.Span.{Event, Whole, HasOctets, Events, contents_from}
use Rattle.jt_escape.specs.Span as event
use Rattle.jt_escape.specs.Frame.{framed}
use Rattle.jt_escape.specs.Scan.{all_events}
use Rattle.jt_header.specs.declared.header.Header.{Header}
use Rattle.jt_header.specs.Content.{Content}
use Rattle.jt_header.specs.Fields.{header_at, body_at}
use Rattle.jt_header.specs.Law.{IsOneOrTheOther, IsNeverBoth, IsOneContent, IsReadBack}
use Rattle.jt_header.specs.Reason.{reason}
use Rattle.jt_stream.specs.Item.{Item, Frame, Refused, refusal_in_frame, IsItemOf, AreItemsOf, Items, item_of, item_at, all_items}
use Rattle.jt_stream.specs.Unplaced.{Unplaced, Message, fault, content_item, unplaced, of_content, of_event, items}

-- ---- one item an event

some_same : (content : List ℕ) (a b : Refusal) → reason content ≡ Some a → reason content ≡ Some b → a ≡ b
some_same content a b x y = cc

item_same : IsNeverBoth → IsOneContent → (event : Event) (a b : Item) → IsItemOf event a → IsItemOf event b → a ≡ b
item_same never one (Whole opened content) (Frame p h body) (Frame q g other) x y =
    let same = one h g body other content x.1 y.1 in
    let headers : h ≡ g = same.0 in
    let bodies : body ≡ other = same.1 in
    let places : p ≡ q = x.0 ∙ sym y.0 in
    cc
item_same never one (Whole opened content) (Frame p h body) (Refused r) x y = absurd (never content (h, body, x.1) (y.0, y.1))
item_same never one (Whole opened content) (Refused r) (Frame p h body) x y = absurd (never content (h, body, y.1) (x.0, x.1))
item_same never one (Whole opened content) (Refused r) (Refused s) x y =
    ap Refused (x.2 ∙ ap (refusal_in_frame opened) (some_same content x.0 y.0 x.1 y.1) ∙ sym y.2)
item_same never one (event.Refused refusal) (Frame p h body) b x y = absurd x
item_same never one (event.Refused refusal) (Refused r) (Frame p h body) x y = absurd y
item_same never one (event.Refused refusal) (Refused r) (Refused s) x y = ap Refused (x ∙ sym y)

items_same : IsNeverBoth → IsOneContent → (events : List Event) (a b : List Item) → AreItemsOf events a → AreItemsOf events b → a ≡ b
items_same never one [] [] [] x y = refl
items_same never one [] [] (item ∷ b) x y = absurd y
items_same never one [] (item ∷ a) b x y = absurd x
items_same never one (event ∷ events) [] b x y = absurd x
items_same never one (event ∷ events) (item ∷ a) [] x y = absurd y
items_same never one (event ∷ events) (item ∷ a) (other ∷ b) x y =
    let first : item ≡ other = item_same never one event item other x.0 y.0 in
    let more : a ≡ b = items_same never one events a b x.1 y.1 in
    cc

pub one_list : IsNeverBoth → IsOneContent → ((stream : List ℕ) (events others : List Event) → Events stream events → Events stream others → events ≡ others)
    → (stream : List ℕ) (a b : List Item) → Items stream a → Items stream b → a ≡ b
one_list never one same stream a b x y =
    items_same never one y.events a b (subst (λ (events : List Event). AreItemsOf events a) (same stream x.events y.events x.held y.held) x.each) y.each

-- ---- an item for each event

item_for : IsOneOrTheOther → (event : Event) → HasOctets event → (item : Item) × IsItemOf event item
item_for either (Whole opened content) has =
    elim (either content has) [
      | inl is ↦ (Frame opened is.0 is.1, (refl, is.2))
      | inr why ↦ (Refused (refusal_in_frame opened why.0), (why.0, why.1, refl))
    ]
item_for either (event.Refused refusal) has = (Refused refusal, refl)

pub items_for : IsOneOrTheOther → (events : List Event) → All HasOctets events → (items : List Item) × AreItemsOf events items
items_for either [] all = ([], tt)
items_for either (event ∷ events) all =
    let first = item_for either event (All-head HasOctets event events all) in
    let more = items_for either events (All-tail HasOctets event events all) in
    (first.0 ∷ more.0, (first.1, more.1))

-- ---- without places

pub message : IsReadBack → (h : Header) (body content : List ℕ) → Content h body content → of_content content ≡ Message h body
message back h body content is =
    let read = back h body content is in
    ap (content_item content) read.no_reason ∙ cc (read.header, read.body_is)

item-unplaced : IsReadBack → (event : Event) (item : Item) → IsItemOf event item → unplaced item ≡ of_event event
item-unplaced back (Whole opened content) (Frame place h body) is = sym (message back h body content is.1)
item-unplaced back (Whole opened content) (Refused refusal) is = ap fault is.2 ∙ sym (ap (content_item content) is.1)
item-unplaced back (event.Refused refusal) (Frame place h body) is = absurd is
item-unplaced back (event.Refused refusal) (Refused same) is = ap fault is

items-unplaced : IsReadBack → (events : List Event) (list : List Item) → AreItemsOf events list → map unplaced list ≡ map of_event events
items-unplaced back [] [] each = refl
items-unplaced back [] (item ∷ list) each = absurd each
items-unplaced back (event ∷ events) [] each = absurd each
items-unplaced back (event ∷ events) (item ∷ list) each =
    let first : unplaced item ≡ of_event event = item-unplaced back event item each.0 in
    let more : map unplaced list ≡ map of_event events = items-unplaced back events list each.1 in
    ap (λ (x : Unplaced). x ∷ map unplaced list) first ∙ ap (λ (xs : List Unplaced). of_event event ∷ xs) more

pub unplaced_are : IsReadBack → ((stream : List ℕ) → Events stream (all_events stream))
    → ((stream : List ℕ) (events others : List Event) → Events stream events → Events stream others → events ≡ others)
    → (stream : List ℕ) (list : List Item) → Items stream list → map unplaced list ≡ items stream
unplaced_are back some same stream list held =
    items-unplaced back held.events list held.each ∙ ap (map of_event) (same stream held.events (all_events stream) held.held (some stream))

-- ---- fronts

-- the items of some events and then others
split : (events more : List Event) (list : List Item) → AreItemsOf (events ++ more) list → (first : List Item) × (rest : List Item) × (list ≡ first ++ rest) × AreItemsOf events first
split [] more list each = ([], list, refl, tt)
split (event ∷ events) more [] each = absurd each
split (event ∷ events) more (item ∷ list) each =
    let parts = split events more list each.1 in
    (item ∷ parts.0, parts.1, ap (λ (xs : List Item). item ∷ xs) parts.2, (each.0, parts.3))

pub front_first : IsNeverBoth → IsOneContent
    → ((front rest : List ℕ) (events all : List Event) → Events front events → Events (front ++ rest) all → (more : List Event) × (all ≡ events ++ more))
    → (front rest : List ℕ) (list all : List Item) → Items front list → Items (front ++ rest) all → (more : List Item) × (all ≡ list ++ more)
front_first never one longer front rest list all x y =
    let more = longer front rest x.events y.events x.held y.held in
    let parts = split x.events more.0 all (subst (λ (events : List Event). AreItemsOf events all) more.1 y.each) in
    (parts.1, parts.2 ∙ ap (λ (xs : List Item). xs ++ parts.1) (items_same never one x.events parts.0 list parts.3 x.each))

pub front_unplaced : ((stream : List ℕ) → Events stream (all_events stream))
    → ((front rest : List ℕ) (events all : List Event) → Events front events → Events (front ++ rest) all → (more : List Event) × (all ≡ events ++ more))
    → (front rest : List ℕ) → (more : List Unplaced) × (items (front ++ rest) ≡ items front ++ more)
front_unplaced some longer front rest =
    let more = longer front rest (all_events front) (all_events (front ++ rest)) (some front) (some (front ++ rest)) in
    (map of_event more.0, ap (map of_event) more.1 ∙ map-append of_event (all_events front) more.0)

pub one_octet : ((stream : List ℕ) → Events stream (all_events stream))
    → ((stream : List ℕ) (octet : ℕ) (events all : List Event) → Events stream events → Events (stream ++ octet ∷ []) all → length all ≤ length events + 1)
    → (stream : List ℕ) (octet : ℕ) → length (items (stream ++ octet ∷ [])) ≤ length (items stream) + 1
one_octet some one stream octet =
    omega (
      arith,
      one stream octet (all_events stream) (all_events (stream ++ octet ∷ [])) (some stream) (some (stream ++ octet ∷ [])),
      length-map (all_events stream) of_event,
      length-map (all_events (stream ++ octet ∷ [])) of_event,
    )

-- ---- frames

contents-unplaced : (contents : List (List ℕ)) (place : ℕ) → map of_event (contents_from place contents) ≡ map of_content contents
contents-unplaced [] place = refl
contents-unplaced (content ∷ contents) place =
    ap (λ (xs : List Unplaced). of_content content ∷ xs) (contents-unplaced contents (place + length (framed content)))

pub frames_are : (stream : List ℕ) (contents : List (List ℕ)) → all_events stream ≡ contents_from 0 contents → items stream ≡ map of_content contents
frames_are stream contents same = ap (map of_event) same ∙ contents-unplaced contents 0

-- ---- as a function

item-of : IsReadBack → (event : Event) (item : Item) → IsItemOf event item → item ≡ item_of event
item-of back (Whole opened content) (Frame place h body) is =
    let read = back h body content is.1 in
    let at : place ≡ opened = is.0 in
    let header : h ≡ header_at content = read.header in
    let body_is : body ≡ body_at content = read.body_is in
    rw read.no_reason (cc)
item-of back (Whole opened content) (Refused refusal) is = ap Refused is.2 ∙ sym (ap (item_at opened content) is.1)
item-of back (event.Refused refusal) (Frame place h body) is = absurd is
item-of back (event.Refused refusal) (Refused same) is = ap Refused is

items-of : IsReadBack → (events : List Event) (list : List Item) → AreItemsOf events list → list ≡ map item_of events
items-of back [] [] each = refl
items-of back [] (item ∷ list) each = absurd each
items-of back (event ∷ events) [] each = absurd each
items-of back (event ∷ events) (item ∷ list) each =
    let first : item ≡ item_of event = item-of back event item each.0 in
    let more : list ≡ map item_of events = items-of back events list each.1 in
    cc

pub items_only : IsReadBack → ((stream : List ℕ) → Events stream (all_events stream))
    → ((stream : List ℕ) (events others : List Event) → Events stream events → Events stream others → events ≡ others)
    → (stream : List ℕ) (list : List Item) → Items stream list → list ≡ all_items stream
unfolding all_items
items_only back some same stream list held =
    items-of back held.events list held.each ∙ ap (map item_of) (same stream held.events (all_events stream) held.held (some stream))

pub items_front : ((stream : List ℕ) → Events stream (all_events stream))
    → ((front rest : List ℕ) (events all : List Event) → Events front events → Events (front ++ rest) all → (more : List Event) × (all ≡ events ++ more))
    → (front rest : List ℕ) → (more : List Item) × (all_items (front ++ rest) ≡ all_items front ++ more)
unfolding all_items
items_front some longer front rest =
    let more = longer front rest (all_events front) (all_events (front ++ rest)) (some front) (some (front ++ rest)) in
    (map item_of more.0, ap (map item_of) more.1 ∙ map-append item_of (all_events front) more.0)
