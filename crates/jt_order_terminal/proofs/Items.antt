-- Octets that bring items, one item after another, and what is done at them.
use Rattle.std.proofs.Common.{◌≡◌, ◌≤◌, ◌+◌, ◌-◌, ℕ, List, [], ◌∷◌, ◌++◌, length, take, drop, map, Option, None, Some, true, refl, sym, ap, ◌∙◌, subst, arith, append_assoc, take_all, length-drop}
use Rattle.std.proofs.Math.Seq.{take-add}
use Rattle.std.proofs.lemmas.List.{append-nil, map-append, take-append-drop}
use Rattle.jt_value.specs.Octets.{AreOctets}
use Rattle.jt_value.specs.declared.refusal.Why.{Why}
use Rattle.jt_value.proofs.OctetLists.{AreOctets-append, AreOctets-take}
use Rattle.jt_escape.specs.Scan.{State as Splitting}
use Rattle.jt_escape.specs.Splitter.{StandsFor}
use Rattle.jt_stream.specs.Item.{Item, Items}
use Rattle.jt_stream.specs.Stream.{Gains, stream_items}
use Rattle.jt_stream.specs.declared.stream.StreamItem.{StreamItem}
use Rattle.jt_stream.specs.Unplaced.{Unplaced, Fault, items, unplaced}
use Rattle.jt_store.specs.Vaults.{Held}
use Rattle.jt_terminal_rule.specs.declared.state.GiveUp.{GiveUp}
use Rattle.jt_terminal.specs.Feeding.{Brings}
use Rattle.jt_terminal.proofs.Items.{brings_then, drop_front, none_left}
use Rattle.jt_order.specs.declared.performed.Performed.{Performed}
use Rattle.jt_order_turns.specs.Heard.{heard_at}
use Rattle.jt_order_terminal.specs.Terminals.{Done, FailsAt, StandsForLine, does_at, does_at_items, does_at_octets, items_behind}
use Rattle.jt_order_terminal.specs.Feeding.{HasBegun, HasDone, HasFed, HasFedFront, Scene, WasCut}
use Rattle.jt_order_terminal.proofs.Committing.{log_same}
use Rattle.jt_order_terminal.proofs.Doing.{begun_at_last, begun_of_front, does_ended, does_one, items_begun, items_end, items_then}

-- ---- what octets bring

-- each stream has items, and without their places they are a function of it
abbrev pub HasItems : Type 0
HasItems = (stream : List ℕ) → AreOctets stream → (list : List Item) × Items stream list

abbrev pub AreItems : Type 0
AreItems = (stream : List ℕ) (list : List Item) → Items stream list → map unplaced list ≡ items stream

-- the items of a front come first
abbrev pub HasFront : Type 0
HasFront = (front rest : List ℕ) → (more : List Unplaced) × (items (front ++ rest) ≡ items front ++ more)

brings_gained : HasItems → AreItems → (old new : Splitting) (octets : List ℕ) (gained : List Item) → Gains old new octets gained → Brings old new octets (map unplaced gained)
brings_gained some unplaced_are old new octets gained gains seen are stands =
    let before = some seen are in (
      sym (unplaced_are (seen ++ octets) (before.0 ++ gained) (gains.items seen before.0 stands before.1)) ∙ (map-append unplaced before.0 gained ∙ ap (λ list. list ++ map unplaced gained) (unplaced_are seen before.0 before.1)),
      gains.stands seen stands,
    )

pub brings_by : HasItems → AreItems → (old new : Splitting) (octets : List ℕ) (told item : StreamItem) → told ≡ item → Gains old new octets (stream_items told new) → Brings old new octets (map unplaced (stream_items item new))
brings_by some unplaced_are old new octets told item is gains =
    brings_gained some unplaced_are old new octets (stream_items item new) (subst (λ i. Gains old new octets (stream_items i new)) is gains)

brings_none : (s : Splitting) → Brings s s [] []
brings_none s seen are stands = (ap items (append-nil seen) ∙ sym (append-nil (items seen)), subst (StandsFor s) (sym (append-nil seen)) stands)

-- ---- one piece of octets

-- nothing is done at no item, and at one that was refused
pub fed_none : (s now : Splitting) (a b : Scene) (octets : List ℕ) → Brings s now octets [] → HasDone (does_at_items a.state a.ledger []) a b None → HasFed s now a b octets None
fed_none s now a b octets brings did = record { gone = []; brings = brings; did = did }

pub fed_fault : (s now : Splitting) (a b : Scene) (octets : List ℕ) (place : ℕ) (why : Why) → Brings s now octets (Fault place why ∷ []) → HasDone (does_at_items a.state a.ledger []) a b None → HasFed s now a b octets None
fed_fault s now a b octets place why brings did = record {
  gone = Fault place why ∷ [];
  brings = brings;
  did = did;
}

pub fed_frame : (s now : Splitting) (a b : Scene) (octets : List ℕ) (item : Unplaced) (end : Option GiveUp) → Brings s now octets (item ∷ []) → HasDone (does_at a.state a.ledger (heard_at item)) a b end → HasFed s now a b octets end
fed_frame s now a b octets item end brings did = record {
  gone = item ∷ [];
  brings = brings;
  did = subst (λ (d : Done). HasDone d a b end) (sym (does_one a.state a.ledger item)) did;
}

pub cut_frame : (s now : Splitting) (a : Scene) (held : Option Held) (log : Option (List Performed)) (octets front back : List ℕ) (item : Unplaced) → octets ≡ front ++ back → Brings s now front (item ∷ [])
    → HasBegun (does_at a.state a.ledger (heard_at item)) a.held held a.log log → WasCut s now a held log octets
cut_frame s now a held log octets front back item parts brings begun = record {
  front = front;
  back = back;
  parts = parts;
  gone = [];
  last = item;
  brings = brings;
  goes_on = refl;
  begun = subst (λ (l : Option (List Performed)). HasBegun (does_at a.state a.ledger (heard_at item)) a.held held l log) (sym (log_same a.log)) begun;
}

-- ---- octets behind octets

fed_then : (s mid now : Splitting) (a b c : Scene) (front rest : List ℕ) (end : Option GiveUp) → AreOctets front → HasFed s mid a b front None → HasFed mid now b c rest end → HasFed s now a c (front ++ rest) end
fed_then s mid now a b c front rest end are one two = record {
  gone = one.gone ++ two.gone;
  brings = brings_then s mid now front rest one.gone two.gone are one.brings two.brings;
  did = items_then a b one.gone two.gone one.did c end two.did;
}

cut_then : (s mid now : Splitting) (a b : Scene) (held : Option Held) (log : Option (List Performed)) (octets front rest : List ℕ) → octets ≡ front ++ rest → AreOctets front → HasFed s mid a b front None → WasCut mid now b held log rest
    → WasCut s now a held log octets
cut_then s mid now a b held log octets front rest parts are one cut = record {
  front = front ++ cut.front;
  back = cut.back;
  parts = parts ∙ (ap (λ (o : List ℕ). front ++ o) cut.parts ∙ sym (append_assoc front cut.front cut.back));
  gone = one.gone ++ cut.gone;
  last = cut.last;
  brings =
      subst (Brings s now (front ++ cut.front)) (sym (append_assoc one.gone cut.gone (cut.last ∷ [])))
      (brings_then s mid now front cut.front one.gone (cut.gone ++ cut.last ∷ []) are one.brings cut.brings);
  goes_on = items_end a b one.gone cut.gone one.did ∙ cut.goes_on;
  begun = items_begun a b one.gone cut.gone one.did cut.last held log cut.begun;
}

pub fed_nothing : (s : Splitting) (a : Scene) → HasDone (does_at_items a.state a.ledger []) a a None → HasFed s s a a [] None
fed_nothing s a did = record { gone = []; brings = brings_none s; did = did }

rest_is : (octets : List ℕ) (taken : ℕ) → take (length octets - taken) (drop taken octets) ≡ drop taken octets
rest_is octets taken = take_all (length octets - taken) (drop taken octets) (omega (arith, length-drop taken octets))

module _ (s mid now : Splitting) (a b : Scene) (octets : List ℕ) (taken : ℕ) (are : AreOctets octets) (one : HasFed s mid a b (take taken octets) None) where
  pub fed_more : (c : Scene) (count : ℕ) (end : Option GiveUp) → HasFed mid now b c (take count (take (length octets - taken) (drop taken octets))) end → HasFed s now a c (take (taken + count) octets) end
  fed_more c count end two =
      subst (λ some. HasFed s now a c some end) (ap (λ rest. take taken octets ++ take count rest) (rest_is octets taken) ∙ sym (take-add taken count octets))
      (fed_then s mid now a b c (take taken octets) (take count (take (length octets - taken) (drop taken octets))) end (AreOctets-take taken octets are) one two)

  pub cut_more : (held : Option Held) (log : Option (List Performed)) → WasCut mid now b held log (take (length octets - taken) (drop taken octets)) → WasCut s now a held log octets
  cut_more held log cut =
      cut_then s mid now a b held log octets (take taken octets) (take (length octets - taken) (drop taken octets)) (sym (take-append-drop taken octets) ∙ ap (λ rest. take taken octets ++ rest) (sym (rest_is octets taken)))
      (AreOctets-take taken octets are) one cut

-- the terminal gave up, or all octets were fed
front_ended : (s now : Splitting) (a b : Scene) (octets : List ℕ) (count : ℕ) (cause : GiveUp) → HasFed s now a b (take count octets) (Some cause) → HasFedFront s now a b octets (Some cause)
front_ended s now a b octets count cause fed = record { front = take count octets; back = drop count octets; parts = sym (take-append-drop count octets); whole = λ e. absurd cc; fed = fed }

pub front_given_up : (s now : Splitting) (a b : Scene) (octets : List ℕ) (count : ℕ) (end : Option GiveUp) (cause : GiveUp) → end ≡ Some cause → HasFed s now a b (take count octets) end → HasFedFront s now a b octets end
front_given_up s now a b octets count end cause is fed =
    subst (HasFedFront s now a b octets) (sym is) (front_ended s now a b octets count cause (subst (HasFed s now a b (take count octets)) is fed))

pub front_whole : (s now : Splitting) (a b : Scene) (octets : List ℕ) (count : ℕ) → length octets ≤ count → HasFed s now a b (take count octets) None → HasFedFront s now a b octets None
front_whole s now a b octets count all fed =
    record { front = octets; back = []; parts = sym (append-nil octets); whole = λ e. refl; fed = subst (λ some. HasFed s now a b some None) (take_all count octets all) fed }

-- ---- what a stream that stood for octets was fed

new_are : HasFront → (s now : Splitting) (seen octets front back : List ℕ) (gone : List Unplaced) → octets ≡ front ++ back → StandsForLine s seen → Brings s now front gone
    → (more : List Unplaced) × (items_behind seen octets ≡ gone ++ more)
new_are has_front s now seen octets front back gone parts stands brings =
    let more = has_front (seen ++ front) back in
    let whole : items (seen ++ octets) ≡ items seen ++ (gone ++ more.0) =
    ap (λ (o : List ℕ). items (seen ++ o)) parts ∙ (ap items (sym (append_assoc seen front back)) ∙ (more.1
    ∙ (ap (λ (l : List Unplaced). l ++ more.0) (brings seen stands.octets stands.stream_is).0 ∙ append_assoc (items seen) gone more.0))) in
    (more.0, ap (drop (length (items seen))) whole ∙ drop_front (items seen) (gone ++ more.0))

ended_or_whole : (a b : Scene) (gone more : List Unplaced) (end e : Option GiveUp) → HasDone (does_at_items a.state a.ledger gone) a b end → end ≡ e → (e ≡ None → more ≡ [])
    → does_at_items a.state a.ledger (gone ++ more) ≡ does_at_items a.state a.ledger gone
ended_or_whole a b gone more end None did is none = ap (λ (l : List Unplaced). does_at_items a.state a.ledger (gone ++ l)) (none refl) ∙ ap (does_at_items a.state a.ledger) (append-nil gone)
ended_or_whole a b gone more end (Some cause) did is none = does_ended a.state a.ledger gone more cause (sym did.end_is ∙ is)

module _ (s now : Splitting) (a b : Scene) (octets : List ℕ) (end : Option GiveUp) (f : HasFedFront s now a b octets end) (has_front : HasFront) (seen : List ℕ) (stands : StandsForLine s seen) where
  behind : (more : List Unplaced) × (items_behind seen octets ≡ f.fed.gone ++ more)
  behind = new_are has_front s now seen octets f.front f.back f.fed.gone f.parts stands f.fed.brings

  same_octets : f.back ≡ [] → octets ≡ f.front
  same_octets none = f.parts ∙ (ap (λ (o : List ℕ). f.front ++ o) none ∙ append-nil f.front)

  nothing_behind : f.back ≡ [] → behind.0 ≡ []
  nothing_behind none =
      let whole : items_behind seen octets ≡ f.fed.gone =
      ap (items_behind seen) (same_octets none) ∙ (ap (drop (length (items seen))) (f.fed.brings seen stands.octets stands.stream_is).0 ∙ drop_front (items seen) f.fed.gone) in
      none_left f.fed.gone behind.0 (sym behind.1 ∙ whole)

  pub fed_done : HasDone (does_at_octets true a.state a.ledger seen octets) a b end
  fed_done =
      subst (λ (d : Done). HasDone d a b end) (sym (ap (does_at_items a.state a.ledger) behind.1 ∙ ended_or_whole a b f.fed.gone behind.0 end end f.fed.did refl (λ e. nothing_behind (f.whole e)))) f.fed.did

  pub stands_on : AreOctets octets → end ≡ None → StandsForLine now (seen ++ octets)
  stands_on are e = record {
    octets = AreOctets-append seen octets stands.octets are;
    stream_is = subst (λ (o : List ℕ). StandsFor now (seen ++ o)) (sym (same_octets (f.whole e))) (f.fed.brings seen stands.octets stands.stream_is).1;
  }

pub fed_begun : (s now : Splitting) (a : Scene) (held : Option Held) (log : Option (List Performed)) (octets : List ℕ) → WasCut s now a held log octets → HasFront → (seen : List ℕ) → StandsForLine s seen
    → HasBegun (does_at_octets true a.state a.ledger seen octets) a.held held a.log log
fed_begun s now a held log octets cut has_front seen stands =
    let items : List Unplaced = cut.gone ++ cut.last ∷ [] in
    let more = new_are has_front s now seen octets cut.front cut.back items cut.parts stands cut.brings in
    subst (λ (d : Done). HasBegun d a.held held a.log log) (sym (ap (does_at_items a.state a.ledger) more.1))
    (begun_of_front a.state a.ledger items more.0 a.held held a.log log (begun_at_last a cut.gone cut.last held log cut.goes_on cut.begun))

pub fed_fails : (s now : Splitting) (a : Scene) (held : Option Held) (log : Option (List Performed)) (octets : List ℕ) → WasCut s now a held log octets → HasFront → (seen : List ℕ) → StandsForLine s seen
    → FailsAt a.state a.ledger (items_behind seen octets) a.held held a.log log
fed_fails s now a held log octets cut has_front seen stands =
    let more = new_are has_front s now seen octets cut.front cut.back (cut.gone ++ cut.last ∷ []) cut.parts stands cut.brings in
    record {
      before = cut.gone;
      item = cut.last;
      behind = more.0;
      parts = more.1 ∙ append_assoc cut.gone (cut.last ∷ []) more.0;
      goes_on = cut.goes_on;
      cut = cut.begun.cut;
      commits = cut.begun.commits;
    }
