-- Items one after another: what the terminal does at them, and what is left of them.
use Rattle.std.proofs.Common.{◌≡◌, ◌<◌, ℕ, List, [], ◌∷◌, ◌++◌, length, drop, map, Option, Some, None, Result, Ok, Err, OnOk, refl, sym, ap, ◌∙◌, subst, append_assoc}
use Rattle.std.specs.Prelude.{IfOk}
use Rattle.std.specs.Option.{option_to_list}
use Rattle.std.proofs.lemmas.List.{append-nil, map-append}
use Rattle.jt_value.specs.Octets.{AreOctets}
use Rattle.jt_value.specs.declared.refusal.Why.{Why}
use Rattle.jt_value.proofs.OctetLists.{AreOctets-append}
use Rattle.jt_escape.specs.Scan.{State as Splitting}
use Rattle.jt_escape.specs.Splitter.{StandsFor}
use Rattle.jt_stream.specs.Item.{Item, Items}
use Rattle.jt_value.specs.declared.refusal.Refusal.{Refusal}
use Rattle.jt_stream.specs.Stream.{Gains, stream_items}
use Rattle.jt_stream.specs.declared.stream.StreamItem.{StreamItem}
use Rattle.jt_stream.specs.declared.stream.StreamItem.TheVariants as answer
use Rattle.jt_stream.specs.Unplaced.{Unplaced, Fault, items, unplaced}
use Rattle.jt_store.specs.Vaults.{Held}
use Rattle.jt_subpacket.specs.Partials.{Partial}
use Rattle.jt_terminal_rule.specs.declared.state.State.{State}
use Rattle.jt_terminal_rule.specs.declared.state.GiveUp.{GiveUp}
use Rattle.jt_terminal_rule.specs.Rule.{Heard, Step, Ruled, and_then, stays}
use Rattle.jt_terminal_steps.specs.AfterError.{AreSameTables, CutLists, Lists, lists_of}
use Rattle.jt_terminal_steps.specs.Running.{CutShort, Ran}
use Rattle.jt_terminal.specs.Line.{StandsForLine, TablesOfFirst, rule_at_octets, rule_at_items, then_unless_over, then_unless, rule_at, kept_behind, kept_by, more_unless, new_items, of_item, partial_of, places_at_octets, places_at_items, place_at}
use Rattle.jt_terminal.specs.Feeding.{Brings, HasFed, HasFedFront, Scene, WasCut, message_at, scene}
use Rattle.jt_terminal_steps.proofs.Chaining.{cut_then, ran_then}
use Rattle.jt_terminal_steps.proofs.Leaving.{HasItsLists, lists_then, tables_on}
use Rattle.jt_terminal_steps.proofs.Listing.{lists_both, lists_heard}

-- ---- items behind items

pub kept_append : (partial : List Partial) (xs ys : List Unplaced) → kept_behind partial (xs ++ ys) ≡ kept_behind (kept_behind partial xs) ys
kept_append partial [] ys = refl
kept_append partial (x ∷ xs) ys = kept_append (kept_by partial x) xs ys

then_assoc : (r : Ruled) (f g : State → Ruled) → and_then r (λ t. and_then (f t) g) ≡ and_then (and_then r f) g
then_assoc r f g =
    let mid = f r.state in
    ap (λ (steps : List Step). record { state = (g mid.state).state; steps = steps; end = (g mid.state).end }) (sym (append_assoc r.steps mid.steps (g mid.state).steps))

-- goes on, by the end of what came before
on_end : (r : Ruled) (e : Option GiveUp) (more : State → Ruled) → r.end ≡ e → then_unless_over r more ≡ then_unless e r more
on_end r e more is = ap (λ (x : Option GiveUp). then_unless x r more) is

inner : (r mid : Ruled) (g : State → Ruled) (e : Option GiveUp) → mid.end ≡ e
    → (record { state = (then_unless e mid g).state; steps = r.steps ++ (then_unless e mid g).steps; end = (then_unless e mid g).end })
    ≡ then_unless e (record { state = mid.state; steps = r.steps ++ mid.steps; end = mid.end }) g
inner r mid g None is = ap (λ (steps : List Step). record { state = (g mid.state).state; steps = steps; end = (g mid.state).end }) (sym (append_assoc r.steps mid.steps (g mid.state).steps))
inner r mid g (Some cause) is = refl

outer : (r : Ruled) (f g : State → Ruled) (e : Option GiveUp) → r.end ≡ e
    → then_unless e r (λ t. then_unless_over (f t) g) ≡ then_unless_over (then_unless e r f) g
outer r f g None is = inner r (f r.state) g (f r.state).end refl
outer r f g (Some cause) is = sym (on_end r (Some cause) g is)

pub fed_append : (s : State) (partial : List Partial) (xs ys : List Unplaced) → rule_at_items s partial (xs ++ ys) ≡ then_unless_over (rule_at_items s partial xs) (λ t. rule_at_items t (kept_behind partial xs) ys)
fed_append s partial [] ys = refl
fed_append s partial (x ∷ xs) ys =
    let r = rule_at s (of_item partial x) in
    let f = λ (t : State). rule_at_items t (kept_by partial x) xs in
    let g = λ (t : State). rule_at_items t (kept_behind (kept_by partial x) xs) ys in
    ap (λ (h : State → Ruled). then_unless_over r h) (λ i t. fed_append t (kept_by partial x) xs ys i) ∙ outer r f g r.end refl

told_outer : (s : State) (partial : List Partial) (xs ys : List Unplaced) (r : Ruled) (e : Option GiveUp) → r.end ≡ e
    → more_unless e (places_at_items r.state partial xs ++ more_unless (rule_at_items r.state partial xs).end (places_at_items (rule_at_items r.state partial xs).state (kept_behind partial xs) ys))
    ≡ more_unless e (places_at_items r.state partial xs) ++ more_unless (then_unless e r (λ t. rule_at_items t partial xs)).end (places_at_items (then_unless e r (λ t. rule_at_items t partial xs)).state (kept_behind partial xs) ys)
told_outer s partial xs ys r None is = refl
told_outer s partial xs ys r (Some cause) is = ap (λ (e : Option GiveUp). more_unless e (places_at_items r.state (kept_behind partial xs) ys)) (sym is)

pub told_append : (s : State) (partial : List Partial) (xs ys : List Unplaced)
    → places_at_items s partial (xs ++ ys) ≡ places_at_items s partial xs ++ more_unless (rule_at_items s partial xs).end (places_at_items (rule_at_items s partial xs).state (kept_behind partial xs) ys)
told_append s partial [] ys = refl
told_append s partial (x ∷ xs) ys =
    let r = rule_at s (of_item partial x) in
    let one = option_to_list (place_at s (of_item partial x)) in
    let next = kept_by partial x in
    ap (λ (more : List ℕ). one ++ more_unless r.end more) (told_append r.state next xs ys)
    ∙ (ap (λ (more : List ℕ). one ++ more) (told_outer s next xs ys r r.end refl)
    ∙ sym (append_assoc one (more_unless r.end (places_at_items r.state next xs)) (more_unless (then_unless_over r (λ t. rule_at_items t next xs)).end (places_at_items (then_unless_over r (λ t. rule_at_items t next xs)).state (kept_behind next xs) ys))))

-- ---- a front at which the terminal gave up, or did not

-- nothing more is done behind the item at which it gave up
pub fed_ended : (s : State) (partial : List Partial) (xs ys : List Unplaced) (cause : GiveUp) → (rule_at_items s partial xs).end ≡ Some cause → rule_at_items s partial (xs ++ ys) ≡ rule_at_items s partial xs
fed_ended s partial xs ys cause is = fed_append s partial xs ys ∙ on_end (rule_at_items s partial xs) (Some cause) (λ t. rule_at_items t (kept_behind partial xs) ys) is

pub fed_more : (s : State) (partial : List Partial) (xs ys : List Unplaced) → (rule_at_items s partial xs).end ≡ None → rule_at_items s partial (xs ++ ys) ≡ and_then (rule_at_items s partial xs) (λ t. rule_at_items t (kept_behind partial xs) ys)
fed_more s partial xs ys is = fed_append s partial xs ys ∙ on_end (rule_at_items s partial xs) None (λ t. rule_at_items t (kept_behind partial xs) ys) is

told_ended : (s : State) (partial : List Partial) (xs ys : List Unplaced) (cause : GiveUp) → (rule_at_items s partial xs).end ≡ Some cause → places_at_items s partial (xs ++ ys) ≡ places_at_items s partial xs
told_ended s partial xs ys cause is =
    let more = places_at_items (rule_at_items s partial xs).state (kept_behind partial xs) ys in
    told_append s partial xs ys ∙ (ap (λ (e : Option GiveUp). places_at_items s partial xs ++ more_unless e more) is ∙ append-nil (places_at_items s partial xs))

told_more : (s : State) (partial : List Partial) (xs ys : List Unplaced) → (rule_at_items s partial xs).end ≡ None
    → places_at_items s partial (xs ++ ys) ≡ places_at_items s partial xs ++ places_at_items (rule_at_items s partial xs).state (kept_behind partial xs) ys
told_more s partial xs ys is =
    let more = places_at_items (rule_at_items s partial xs).state (kept_behind partial xs) ys in
    told_append s partial xs ys ∙ ap (λ (e : Option GiveUp). places_at_items s partial xs ++ more_unless e more) is

-- steps of a front that were cut short are steps of the whole that were
first_steps : (s : State) (partial : List Partial) (xs ys : List Unplaced) (e : Option GiveUp) → (rule_at_items s partial xs).end ≡ e → (rest : List Step) × (rule_at_items s partial (xs ++ ys)).steps ≡ (rule_at_items s partial xs).steps ++ rest
first_steps s partial xs ys None is =
    let more = rule_at_items (rule_at_items s partial xs).state (kept_behind partial xs) ys in
    (more.steps, ap (λ (r : Ruled). r.steps) (fed_more s partial xs ys is))
first_steps s partial xs ys (Some cause) is = ([], ap (λ (r : Ruled). r.steps) (fed_ended s partial xs ys cause is) ∙ sym (append-nil (rule_at_items s partial xs).steps))

cut_on : (steps all rest : List Step) (old now : Option Held) → all ≡ steps ++ rest → CutShort steps old now → CutShort all old now
cut_on steps all rest old now is cut = record {
  done = cut.done;
  left = cut.left ++ rest;
  parts = is ∙ (ap (λ (m : List Step). m ++ rest) cut.parts ∙ append_assoc cut.done cut.left rest);
  held = cut.held;
}

pub cut_of_front : (s : State) (partial : List Partial) (xs ys : List Unplaced) (old now : Option Held) → CutShort (rule_at_items s partial xs).steps old now → CutShort (rule_at_items s partial (xs ++ ys)).steps old now
cut_of_front s partial xs ys old now cut =
    let more = first_steps s partial xs ys (rule_at_items s partial xs).end refl in
    cut_on (rule_at_items s partial xs).steps (rule_at_items s partial (xs ++ ys)).steps more.0 old now more.1 cut

pub lists_of_front : (s : State) (partial : List Partial) (xs ys : List Unplaced) (old now : Lists) → CutLists (rule_at_items s partial xs).steps old now → CutLists (rule_at_items s partial (xs ++ ys)).steps old now
lists_of_front s partial xs ys old now cut =
    let more = first_steps s partial xs ys (rule_at_items s partial xs).end refl in
    record {
      done = cut.done;
      left = cut.left ++ more.0;
      parts = more.1 ∙ (ap (λ (m : List Step). m ++ more.0) cut.parts ∙ append_assoc cut.done cut.left more.0);
      lists = cut.lists;
    }

-- ---- what octets bring

-- each stream has items, and without their places they are a function of it
abbrev pub HasItems : Type 0
HasItems = (stream : List ℕ) → AreOctets stream → (list : List Item) × Items stream list

abbrev pub AreItems : Type 0
AreItems = (stream : List ℕ) (list : List Item) → Items stream list → map unplaced list ≡ items stream

-- the items of a front come first
abbrev pub HasFront : Type 0
HasFront = (front rest : List ℕ) → (more : List Unplaced) × (items (front ++ rest) ≡ items front ++ more)

pub brings_gained : HasItems → AreItems → (old new : Splitting) (octets : List ℕ) (gained : List Item) → Gains old new octets gained → Brings old new octets (map unplaced gained)
brings_gained some unplaced_are old new octets gained gains seen are stands =
    let before = some seen are in (
      sym (unplaced_are (seen ++ octets) (before.0 ++ gained) (gains.items seen before.0 stands before.1)) ∙ (map-append unplaced before.0 gained ∙ ap (λ list. list ++ map unplaced gained) (unplaced_are seen before.0 before.1)),
      gains.stands seen stands,
    )

pub frame_brings : HasItems → AreItems → (old new : Splitting) (octets : List ℕ) (item : StreamItem) → item ≡ answer.Frame → Gains old new octets (stream_items item new) → Brings old new octets (message_at new.content ∷ [])
frame_brings some unplaced_are old new octets item is gains = brings_gained some unplaced_are old new octets (stream_items answer.Frame new) (subst (λ i. Gains old new octets (stream_items i new)) is gains)

pub refused_brings : HasItems → AreItems → (old new : Splitting) (octets : List ℕ) (item : StreamItem) (refusal : Refusal) → item ≡ answer.Refused refusal → Gains old new octets (stream_items item new) → Brings old new octets (Fault refusal.inside refusal.why ∷ [])
refused_brings some unplaced_are old new octets item refusal is gains = brings_gained some unplaced_are old new octets (stream_items (answer.Refused refusal) new) (subst (λ i. Gains old new octets (stream_items i new)) is gains)

pub more_brings : HasItems → AreItems → (old new : Splitting) (octets : List ℕ) (item : StreamItem) → item ≡ answer.More → Gains old new octets (stream_items item new) → Brings old new octets []
more_brings some unplaced_are old new octets item is gains = brings_gained some unplaced_are old new octets [] (subst (λ i. Gains old new octets (stream_items i new)) is gains)

pub drop_front : {A : Type 0} (xs ys : List A) → drop (length xs) (xs ++ ys) ≡ ys
drop_front [] ys = refl
drop_front (x ∷ xs) ys = drop_front xs ys

pub none_left : {A : Type 0} (xs ys : List A) → xs ++ ys ≡ xs → ys ≡ []
none_left [] ys e = e
none_left (x ∷ xs) ys e = none_left xs ys (let rest : xs ++ ys ≡ xs = cc in rest)

-- the items behind what the line stood for
pub new_are : HasFront → (old stream : Splitting) (seen octets front back : List ℕ) (gone : List Unplaced) → octets ≡ front ++ back → AreOctets seen → StandsFor old seen → Brings old stream front gone
    → (more : List Unplaced) × (new_items seen octets ≡ gone ++ more)
new_are has_front old stream seen octets front back gone parts are stands brings =
    let more = has_front (seen ++ front) back in
    let whole : items (seen ++ octets) ≡ items seen ++ (gone ++ more.0) =
    ap (λ (o : List ℕ). items (seen ++ o)) parts ∙ (ap items (sym (append_assoc seen front back)) ∙ (more.1
    ∙ (ap (λ (l : List Unplaced). l ++ more.0) (brings seen are stands).0 ∙ append_assoc (items seen) gone more.0))) in
    (more.0, ap (drop (length (items seen))) whole ∙ drop_front (items seen) (gone ++ more.0))

-- ---- one item

single_by : (r : Ruled) (e : Option GiveUp) → r.end ≡ e → then_unless e r stays ≡ r
single_by r None is = λ i. record { state = r.state; steps = append-nil r.steps i; end = sym is i }
single_by r (Some cause) is = refl

single : (r : Ruled) → then_unless_over r stays ≡ r
single r = single_by r r.end refl

none_more : (e : Option GiveUp) → more_unless e [] ≡ []
none_more None = refl
none_more (Some cause) = refl

lists_hears : (s : State) (x : Option Heard) → s.mark < 65536 → s.next < 65536 → HasItsLists s (rule_at s x)
lists_hears s None small fits = refl
lists_hears s (Some x) small fits = lists_heard s small fits x

pub fed_none : (old now : Scene) (octets : List ℕ) → Brings old.stream now.stream octets [] → now.partial ≡ old.partial → now.state ≡ old.state → now.held ≡ old.held → now.out ≡ old.out → now.told ≡ old.told → HasFed old now octets None
fed_none old now octets brings partial state held out stream_items = record {
  gone = [];
  brings = brings;
  partial = partial;
  ran = record { is_state = state; held = held; out = out ∙ sym (append-nil old.out); is_end = refl };
  told = stream_items ∙ sym (append-nil old.told);
  lists = refl;
}

pub fed_fault : (old now : Scene) (octets : List ℕ) (place : ℕ) (why : Why) → Brings old.stream now.stream octets (Fault place why ∷ []) → now.partial ≡ old.partial → now.state ≡ old.state → now.held ≡ old.held → now.out ≡ old.out → now.told ≡ old.told → HasFed old now octets None
fed_fault old now octets place why brings partial state held out stream_items = record {
  gone = Fault place why ∷ [];
  brings = brings;
  partial = partial;
  ran = record { is_state = state; held = held; out = out ∙ sym (append-nil old.out); is_end = refl };
  told = stream_items ∙ sym (append-nil old.told);
  lists = refl;
}

pub fed_frame : (old now : Scene) (octets : List ℕ) (item : Unplaced) (end : Option GiveUp) → Brings old.stream now.stream octets (item ∷ []) → now.partial ≡ kept_by old.partial item
    → Ran old.state.settings (rule_at old.state (of_item old.partial item)) now.state old.held now.held old.out now.out end → now.told ≡ old.told ++ option_to_list (place_at old.state (of_item old.partial item)) → old.state.mark < 65536 → old.state.next < 65536
    → HasFed old now octets end
fed_frame old now octets item end brings partial ran stream_items small fits =
    let r = rule_at old.state (of_item old.partial item) in
    record {
      gone = item ∷ [];
      brings = brings;
      partial = partial;
      ran = subst (λ (x : Ruled). Ran old.state.settings x now.state old.held now.held old.out now.out end) (sym (single r)) ran;
      told = stream_items ∙ ap (λ (more : List ℕ). old.told ++ more) (sym (append-nil (option_to_list (place_at old.state (of_item old.partial item)))) ∙ ap (λ (more : List ℕ). option_to_list (place_at old.state (of_item old.partial item)) ++ more) (sym (none_more r.end)));
      lists = subst (HasItsLists old.state) (sym (single r)) (lists_hears old.state (of_item old.partial item) small fits);
    }

tables_of_one : (s : State) (partial : List Partial) (item : Unplaced) (now : State) → AreSameTables s now → TablesOfFirst s partial (item ∷ []) now
tables_of_one s partial item now same = record { front = []; failed = item; back = []; parts = refl; tables = same }

pub cut_frame : (old : Scene) (stream : Splitting) (state : State) (held : Option Held) (octets front back : List ℕ) (item : Unplaced) → octets ≡ front ++ back → Brings old.stream stream front (item ∷ [])
    → CutShort (rule_at old.state (of_item old.partial item)).steps old.held held → AreSameTables old.state state
    → CutLists (rule_at old.state (of_item old.partial item)).steps (lists_of old.state) (lists_of state) → WasCut old stream state held octets
cut_frame old stream state held octets front back item parts brings cut tables lists = record {
  front = front;
  back = back;
  parts = parts;
  gone = item ∷ [];
  brings = brings;
  cut = subst (λ (x : Ruled). CutShort x.steps old.held held) (sym (single (rule_at old.state (of_item old.partial item)))) cut;
  tables = tables_of_one old.state old.partial item state tables;
  lists = subst (λ (x : Ruled). CutLists x.steps (lists_of old.state) (lists_of state)) (sym (single (rule_at old.state (of_item old.partial item)))) lists;
}

-- ---- octets behind octets

pub brings_then : (old mid now : Splitting) (a b : List ℕ) (xs ys : List Unplaced) → AreOctets a → Brings old mid a xs → Brings mid now b ys → Brings old now (a ++ b) (xs ++ ys)
brings_then old mid now a b xs ys are one two seen octets stands =
    let first = one seen octets stands in
    let next = two (seen ++ a) (AreOctets-append seen a octets are) first.1 in
    let same : seen ++ (a ++ b) ≡ (seen ++ a) ++ b = sym (append_assoc seen a b) in (
      ap items same ∙ (next.0 ∙ (ap (λ (l : List Unplaced). l ++ ys) first.0 ∙ append_assoc (items seen) xs ys)),
      subst (StandsFor now) (sym same) next.1,
    )

pub fed_then : (old mid now : Scene) (a b : List ℕ) (end : Option GiveUp) → AreOctets a → mid.state.settings ≡ old.state.settings → HasFed old mid a None → HasFed mid now b end → HasFed old now (a ++ b) end
fed_then old mid now a b end are same one two =
    let r = rule_at_items old.state old.partial one.gone in
    let open_end = sym one.ran.is_end in
    let next = λ (t : State). rule_at_items t (kept_behind old.partial one.gone) two.gone in
    let partials = one.partial in
    let ran = subst (λ (ps : List Partial). Ran mid.state.settings (rule_at_items mid.state ps two.gone) now.state mid.held now.held mid.out now.out end) partials two.ran in
    record {
      gone = one.gone ++ two.gone;
      brings = brings_then old.stream mid.stream now.stream a b one.gone two.gone are one.brings two.brings;
      partial = two.partial ∙ (ap (λ (ps : List Partial). kept_behind ps two.gone) partials ∙ sym (kept_append old.partial one.gone two.gone));
      ran = subst (λ (x : Ruled). Ran old.state.settings x now.state old.held now.held old.out now.out end) (sym (fed_more old.state old.partial one.gone two.gone open_end))
          (ran_then old.state.settings r next mid.state now.state old.held mid.held now.held old.out mid.out now.out end one.ran.is_state one.ran.held one.ran.out same ran);
      told = two.told ∙ (ap (λ (l : List ℕ). l ++ places_at_items mid.state mid.partial two.gone) one.told
          ∙ (append_assoc old.told (places_at_items old.state old.partial one.gone) (places_at_items mid.state mid.partial two.gone)
          ∙ ap (λ (l : List ℕ). old.told ++ l) (ap (λ (l : List ℕ). places_at_items old.state old.partial one.gone ++ l) (λ i. places_at_items (one.ran.is_state i) (partials i) two.gone)
          ∙ sym (told_more old.state old.partial one.gone two.gone open_end))));
      lists = subst (HasItsLists old.state) (sym (fed_more old.state old.partial one.gone two.gone open_end))
          (lists_both r next old.state one.lists (subst (λ (m : State). HasItsLists m (next m)) one.ran.is_state (subst (λ (ps : List Partial). HasItsLists mid.state (rule_at_items mid.state ps two.gone)) partials two.lists)));
    }

tables_then : (s : State) (partial : List Partial) (xs ys : List Unplaced) (now : State) → (rule_at_items s partial xs).end ≡ None → TablesOfFirst (rule_at_items s partial xs).state (kept_behind partial xs) ys now → TablesOfFirst s partial (xs ++ ys) now
tables_then s partial xs ys now is t = record {
  front = xs ++ t.front;
  failed = t.failed;
  back = t.back;
  parts = ap (λ (l : List Unplaced). xs ++ l) t.parts ∙ sym (append_assoc xs t.front (t.failed ∷ t.back));
  tables = subst (λ (r : Ruled). AreSameTables r.state now) (sym (fed_more s partial xs t.front is)) t.tables;
}

pub cut_then_fed : (old mid : Scene) (stream : Splitting) (state : State) (held : Option Held) (octets a b : List ℕ) → octets ≡ a ++ b → AreOctets a → HasFed old mid a None → WasCut mid stream state held b → WasCut old stream state held octets
cut_then_fed old mid stream state held octets a b parts are one cut =
    let r = rule_at_items old.state old.partial one.gone in
    let open_end = sym one.ran.is_end in
    let next = λ (t : State). rule_at_items t (kept_behind old.partial one.gone) cut.gone in
    let more = subst (λ (ps : List Partial). CutShort (rule_at_items mid.state ps cut.gone).steps mid.held held) one.partial cut.cut in
    record {
      front = a ++ cut.front;
      back = cut.back;
      parts = parts ∙ (ap (λ (o : List ℕ). a ++ o) cut.parts ∙ sym (append_assoc a cut.front cut.back));
      gone = one.gone ++ cut.gone;
      brings = brings_then old.stream mid.stream stream a cut.front one.gone cut.gone are one.brings cut.brings;
      cut = subst (λ (x : Ruled). CutShort x.steps old.held held) (sym (fed_more old.state old.partial one.gone cut.gone open_end))
          (cut_then r next mid.state old.held mid.held held one.ran.is_state one.ran.held more);
      tables = tables_then old.state old.partial one.gone cut.gone state open_end
          (subst (λ (ps : List Partial). TablesOfFirst r.state ps cut.gone state) one.partial (subst (λ (m : State). TablesOfFirst m mid.partial cut.gone state) one.ran.is_state cut.tables));
      lists = subst (λ (x : Ruled). CutLists x.steps (lists_of old.state) (lists_of state)) (sym (fed_more old.state old.partial one.gone cut.gone open_end))
          (lists_then r next old.state mid.state (lists_of state) one.ran.is_state one.lists
          (subst (λ (ps : List Partial). CutLists (rule_at_items mid.state ps cut.gone).steps (lists_of mid.state) (lists_of state)) one.partial cut.lists));
    }

-- ---- what a line that stood for octets was fed

ended_or_whole : (old now : Scene) (octets seen : List ℕ) (end e : Option GiveUp) (f : HasFedFront old now octets end) (more : List Unplaced) → end ≡ e → (e ≡ None → more ≡ [])
    → rule_at_items old.state old.partial (f.fed.gone ++ more) ≡ rule_at_items old.state old.partial f.fed.gone
ended_or_whole old now octets seen end None f more is none = ap (λ (l : List Unplaced). rule_at_items old.state old.partial (f.fed.gone ++ l)) (none refl) ∙ ap (rule_at_items old.state old.partial) (append-nil f.fed.gone)
ended_or_whole old now octets seen end (Some cause) f more is none = fed_ended old.state old.partial f.fed.gone more cause (sym f.fed.ran.is_end ∙ is)

told_or_whole : (old now : Scene) (octets seen : List ℕ) (end e : Option GiveUp) (f : HasFedFront old now octets end) (more : List Unplaced) → end ≡ e → (e ≡ None → more ≡ [])
    → places_at_items old.state old.partial (f.fed.gone ++ more) ≡ places_at_items old.state old.partial f.fed.gone
told_or_whole old now octets seen end None f more is none = ap (λ (l : List Unplaced). places_at_items old.state old.partial (f.fed.gone ++ l)) (none refl) ∙ ap (places_at_items old.state old.partial) (append-nil f.fed.gone)
told_or_whole old now octets seen end (Some cause) f more is none = told_ended old.state old.partial f.fed.gone more cause (sym f.fed.ran.is_end ∙ is)

-- ---- what `feed` says

module _ (old now : Scene) (octets : List ℕ) (end : Option GiveUp) (f : HasFedFront old now octets end) (has_front : HasFront) (seen : List ℕ) (stands : StandsForLine (record { stream = old.stream; partial = old.partial }) seen) where
  behind : (more : List Unplaced) × (new_items seen octets ≡ f.fed.gone ++ more)
  behind = new_are has_front old.stream now.stream seen octets f.front f.back f.fed.gone f.parts stands.octets stands.stream f.fed.brings

  nothing_behind : f.back ≡ [] → behind.0 ≡ []
  nothing_behind none =
      let same : octets ≡ f.front = f.parts ∙ (ap (λ (o : List ℕ). f.front ++ o) none ∙ append-nil f.front) in
      let whole : new_items seen octets ≡ f.fed.gone =
      ap (new_items seen) same ∙ (ap (drop (length (items seen))) (f.fed.brings seen stands.octets stands.stream).0 ∙ drop_front (items seen) f.fed.gone) in
      none_left f.fed.gone behind.0 (sym behind.1 ∙ whole)

  abbrev pub Fed : Ruled
  Fed = rule_at_octets old.state seen octets

  fed_is : Fed ≡ rule_at_items old.state old.partial f.fed.gone
  fed_is =
      ap (λ (ps : List Partial). rule_at_items old.state ps (new_items seen octets)) (sym stands.partial)
      ∙ (ap (rule_at_items old.state old.partial) behind.1 ∙ ended_or_whole old now octets seen end end f behind.0 refl (λ e. nothing_behind (f.whole e)))

  pub told_is : now.told ≡ old.told ++ places_at_octets old.state seen octets
  told_is =
      f.fed.told ∙ ap (λ (l : List ℕ). old.told ++ l) (sym (ap (λ (ps : List Partial). places_at_items old.state ps (new_items seen octets)) (sym stands.partial)
      ∙ (ap (places_at_items old.state old.partial) behind.1 ∙ told_or_whole old now octets seen end end f behind.0 refl (λ e. nothing_behind (f.whole e)))))

  pub fed_ran : Ran old.state.settings (rule_at_octets old.state seen octets) now.state old.held now.held old.out now.out end
  fed_ran = subst (λ (r : Ruled). Ran old.state.settings r now.state old.held now.held old.out now.out end) (sym fed_is) f.fed.ran

  pub stands_on : AreOctets octets → end ≡ None → StandsForLine (record { stream = now.stream; partial = now.partial }) (seen ++ octets)
  stands_on are e =
      let none = f.whole e in
      let same : octets ≡ f.front = f.parts ∙ (ap (λ (o : List ℕ). f.front ++ o) none ∙ append-nil f.front) in
      let brought = f.fed.brings seen stands.octets stands.stream in
      record {
        octets = AreOctets-append seen octets stands.octets are;
        stream = subst (λ (o : List ℕ). StandsFor now.stream (seen ++ o)) (sym same) brought.1;
        partial = f.fed.partial ∙ (ap (λ (ps : List Partial). kept_behind ps f.fed.gone) stands.partial
            ∙ (sym (kept_append [] (items seen) f.fed.gone) ∙ ap (kept_behind []) (sym brought.0 ∙ ap (λ (o : List ℕ). items (seen ++ o)) (sym same))));
      }

pub fed_cut : (old : Scene) (stream : Splitting) (state : State) (held : Option Held) (octets seen : List ℕ) → HasFront → StandsForLine (record { stream = old.stream; partial = old.partial }) seen → WasCut old stream state held octets
    → CutShort (rule_at_octets old.state seen octets).steps old.held held
fed_cut old stream state held octets seen has_front stands cut =
    let more = new_are has_front old.stream stream seen octets cut.front cut.back cut.gone cut.parts stands.octets stands.stream cut.brings in
    let is : rule_at_octets old.state seen octets ≡ rule_at_items old.state old.partial (cut.gone ++ more.0) =
    ap (λ (ps : List Partial). rule_at_items old.state ps (new_items seen octets)) (sym stands.partial) ∙ ap (rule_at_items old.state old.partial) more.1 in
    subst (λ (r : Ruled). CutShort r.steps old.held held) (sym is) (cut_of_front old.state old.partial cut.gone more.0 old.held held cut.cut)

pub fed_lists : (old : Scene) (stream : Splitting) (state : State) (held : Option Held) (octets seen : List ℕ) → HasFront → StandsForLine (record { stream = old.stream; partial = old.partial }) seen → WasCut old stream state held octets
    → CutLists (rule_at_octets old.state seen octets).steps (lists_of old.state) (lists_of state)
fed_lists old stream state held octets seen has_front stands cut =
    let more = new_are has_front old.stream stream seen octets cut.front cut.back cut.gone cut.parts stands.octets stands.stream cut.brings in
    let is : rule_at_octets old.state seen octets ≡ rule_at_items old.state old.partial (cut.gone ++ more.0) =
    ap (λ (ps : List Partial). rule_at_items old.state ps (new_items seen octets)) (sym stands.partial) ∙ ap (rule_at_items old.state old.partial) more.1 in
    subst (λ (r : Ruled). CutLists r.steps (lists_of old.state) (lists_of state)) (sym is) (lists_of_front old.state old.partial cut.gone more.0 (lists_of old.state) (lists_of state) cut.lists)

pub fed_tables : (old : Scene) (stream : Splitting) (state : State) (held : Option Held) (octets seen : List ℕ) → HasFront → StandsForLine (record { stream = old.stream; partial = old.partial }) seen → WasCut old stream state held octets
    → TablesOfFirst old.state (partial_of seen) (new_items seen octets) state
fed_tables old stream state held octets seen has_front stands cut =
    let more = new_are has_front old.stream stream seen octets cut.front cut.back cut.gone cut.parts stands.octets stands.stream cut.brings in
    let first = cut.tables in
    let here : TablesOfFirst old.state old.partial (new_items seen octets) state = record {
      front = first.front;
      failed = first.failed;
      back = first.back ++ more.0;
      parts = more.1 ∙ (ap (λ (l : List Unplaced). l ++ more.0) first.parts ∙ append_assoc first.front (first.failed ∷ first.back) more.0);
      tables = first.tables;
    } in
    subst (λ (ps : List Partial). TablesOfFirst old.state ps (new_items seen octets) state) stands.partial here

-- a state with the same times, tables and lists, as one without a line; what was written and told before does not count
pub cut_alike : (old : Scene) (stream : Splitting) (s given now : State) (held : Option Held) (octets : List ℕ) → now ≡ given → AreSameTables s given → lists_of given ≡ lists_of s → WasCut old stream s held octets
    → WasCut (scene old.stream old.partial old.state old.held [] []) stream now held octets
cut_alike old stream s given now held octets is tables lists cut =
    let first = cut.tables in
    let still = tables_on (rule_at_items old.state old.partial first.front).state s given first.tables tables in
    record {
      front = cut.front;
      back = cut.back;
      parts = cut.parts;
      gone = cut.gone;
      brings = cut.brings;
      cut = cut.cut;
      tables = record { front = first.front; failed = first.failed; back = first.back; parts = first.parts; tables = subst (AreSameTables (rule_at_items old.state old.partial first.front).state) (sym is) still };
      lists = record { done = cut.lists.done; left = cut.lists.left; parts = cut.lists.parts; lists = ap lists_of is ∙ (lists ∙ cut.lists.lists) };
    }

-- ---- results

pub ok_map : {T E : Type 0} (P Q : T → Type 0) (r : Result T E) → ((x : T) → P x → Q x) → IfOk r P → IfOk r Q
ok_map P Q (Ok x) f p = f x p
ok_map P Q (Err e) f p = tt

pub ok_fact : {T E : Type 0} (P : T → Type 0) (Q : Type 0) (r : Result T E) → ((x : T) → P x → Q) → IfOk r P → OnOk r Q
ok_fact P Q (Ok x) f p = f x p
ok_fact P Q (Err e) f p = tt
