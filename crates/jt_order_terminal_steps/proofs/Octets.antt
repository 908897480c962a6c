-- Octets down, any number of them, done whole or cut short at an item.
use Rattle.std.proofs.Common.{ℕ, zero, suc, ◌+◌, ◌<◌, ◌≤◌, ◌≡◌, ◌⊎◌, inl, inr, List, [], ◌∷◌, ◌++◌, length, take, Option, Some, None, true, arith, refl, ap, sym, ◌∙◌, subst, append_assoc}
use Rattle.std.specs.Option.{option_to_list}
use Rattle.std.specs.Prelude.{drop, get_or, is_none}
use Rattle.std.proofs.lemmas.Bool.{lt-ltb}
use Rattle.std.proofs.lemmas.List.{append-nil, drop_all, drop_at}
use Rattle.std.proofs.lemmas.Option.{same_Some}
use Rattle.jt_value.specs.Octets.{AreOctets}
use Rattle.jt_value.proofs.OctetLists.{AreOctets-front}
use Rattle.jt_escape.specs.Scan.{State as Splitting}
use Rattle.jt_stream.specs.Unplaced.{Unplaced, items}
use Rattle.jt_store.specs.Vaults.{Held}
use Rattle.jt_terminal_rule.specs.declared.state.GiveUp.{GiveUp}
use Rattle.jt_terminal_rule.specs.declared.state.State.{State}
use Rattle.jt_terminal_rule.specs.Law.{RuleKeepsSettings}
use Rattle.jt_terminal_rule.specs.Machines.{held_after, is_up, machine_of}
use Rattle.jt_terminal_rule.proofs.Composing.{held_after-append}
use Rattle.jt_terminal_steps.specs.Running.{CutShort, IsDown, holds_after}
use Rattle.jt_terminal_steps.proofs.Chaining.{holds_after-append, holds_after-told}
use Rattle.jt_order.specs.declared.performed.Performed.{Performed}
use Rattle.jt_order_turns.specs.Heard.{heard_at}
use Rattle.jt_order_terminal.specs.Ledgers.{IsLedgerOf, Ledger}
use Rattle.jt_order_terminal.specs.Terminals.{CommitsFirst, Done, does_at, does_at_items, does_nothing, items_behind, then_done}
use Rattle.jt_octets.specs.World.{Line, Wire, completed_item, newest, taken_of}
use Rattle.jt_octets.proofs.Views.{StreamLaws}
use Rattle.jt_play.proofs.Downward.{Brought}
use Rattle.jt_play.proofs.Rounds.{some_left, newest_set}
use Rattle.jt_play.proofs.Upward.{grown, octet_of}
use Rattle.jt_order_octets.specs.World.{OrderWorld}
use Rattle.jt_order_octets.specs.Reaching.{Reached}
use Rattle.jt_order_octets.specs.Steps.{heard_if, heard_next}
use Rattle.jt_order_play.specs.Holding.{ReadingLaws}
use Rattle.jt_order_play.proofs.Composing.{still_reached}
use Rattle.jt_order_terminal_steps.specs.Standing.{AreNext, TerminalParts, after_call, line_after_call, told_at, told_at_items, told_then}
use Rattle.jt_order_terminal_steps.specs.Claim.{EndsAtGiveUp, items_read}
use Rattle.jt_order_terminal_steps.proofs.Events.{behind_nothing}
use Rattle.jt_order_terminal_steps.proofs.Owning.{OwnLeads, leads_of, own_both, own_none}
use Rattle.jt_order_terminal_steps.proofs.Lines.{behind_both}
use Rattle.jt_order_terminal_steps.proofs.Octet.{CutAt, IsAt, brought, cut_either, does_settings, does_up, parts_of, whole_at, whole_leads}

-- ---- lists

heads : {A : Type 0} (a b : A) (us vs : List A) → a ∷ us ≡ b ∷ vs → a ≡ b
heads a b us vs e = cc

tails : {A : Type 0} (a b : A) (us vs : List A) → a ∷ us ≡ b ∷ vs → us ≡ vs
tails a b us vs e = cc

no_list : {A : Type 0} (a : A) (us : List A) → [] ≡ a ∷ us → ⊥
no_list a us e = cc

no_end : (cause : GiveUp) → ◌≡◌ {A = Option GiveUp} (Some cause) None → ⊥
no_end cause e = cc

-- the first of what is left stands in the place of what was taken
drop_next : (n : ℕ) (xs : List ℕ) (o : ℕ) (ys : List ℕ) → drop n xs ≡ o ∷ ys → (n < length xs) × (get_or xs n 0 ≡ o) × (drop (n + 1) xs ≡ ys)
drop_next zero [] o ys e = absurd (no_list o ys e)
drop_next zero (x ∷ xs) o ys e = (omega arith, heads x o xs ys e, tails x o xs ys e)
drop_next (suc n) [] o ys e = absurd (no_list o ys e)
drop_next (suc n) (x ∷ xs) o ys e =
    let rest = drop_next n xs o ys e in
    let lt = rest.0 in
    (omega (arith, lt), rest.1, ap (λ (k : ℕ). drop k (x ∷ xs)) (let same : suc n + 1 ≡ suc (n + 1) = omega arith in same) ∙ rest.2)

-- ---- the items that octets complete

abbrev HasFront : Type 0
HasFront = (front rest : List ℕ) → (more : List Unplaced) × (items (front ++ rest) ≡ items front ++ more)

items_none : (seen : List ℕ) → items_behind seen [] ≡ []
items_none seen = ap (λ (octets : List ℕ). drop (length (items seen)) (items octets)) (append-nil seen) ∙ drop_all (length (items seen)) (items seen) (omega arith)

one_item : (seen octets : List ℕ) (item : Option Unplaced) → Brought seen octets item → items (seen ++ octets) ≡ items seen ++ option_to_list item
one_item seen octets None e = e ∙ sym (append-nil (items seen))
one_item seen octets (Some item) e = e

-- those of one octet and of more behind it
items_next : HasFront → (seen : List ℕ) (octet : ℕ) (more : List ℕ) (item : Option Unplaced) → Brought seen (octet ∷ []) item → items_behind seen (octet ∷ more) ≡ option_to_list item ++ items_behind (seen ++ octet ∷ []) more
items_next front seen octet more item e =
    let here = seen ++ octet ∷ [] in
    let g = front here more in
    let all : items (seen ++ octet ∷ more) ≡ items seen ++ (option_to_list item ++ g.0) =
    ap items (sym (append_assoc seen (octet ∷ []) more)) ∙ (g.1 ∙ (ap (λ (xs : List Unplaced). xs ++ g.0) (one_item seen (octet ∷ []) item e) ∙ append_assoc (items seen) (option_to_list item) g.0)) in
    ap (drop (length (items seen))) all ∙ (drop_at (items seen) (option_to_list item ++ g.0) (length (items seen)) refl
    ∙ ap (λ (xs : List Unplaced). option_to_list item ++ xs) (sym (ap (drop (length (items here))) g.1 ∙ drop_at (items here) g.0 (length (items here)) refl)))

read_next : (k octet : ℕ) (more : List ℕ) → take (1 + k) (octet ∷ more) ≡ octet ∷ take k more
read_next k octet more = ap (λ (n : ℕ). take n (octet ∷ more)) (let same : 1 + k ≡ suc k = omega arith in same)

-- those of one octet and of some behind it
read_more : HasFront → (seen : List ℕ) (octet : ℕ) (more : List ℕ) (item : Option Unplaced) → Brought seen (octet ∷ []) item → (k : ℕ)
    → items_behind seen (take (1 + k) (octet ∷ more)) ≡ option_to_list item ++ items_behind (seen ++ octet ∷ []) (take k more)
read_more front seen octet more item e k = ap (items_behind seen) (read_next k octet more) ∙ items_next front seen octet (take k more) item e

-- those of one octet alone
read_one : HasFront → (seen : List ℕ) (octet : ℕ) (more : List ℕ) (item : Option Unplaced) → Brought seen (octet ∷ []) item → items_behind seen (take 1 (octet ∷ more)) ≡ option_to_list item
read_one front seen octet more item e = read_more front seen octet more item e 0 ∙ (ap (λ (xs : List Unplaced). option_to_list item ++ xs) (items_none (seen ++ octet ∷ [])) ∙ append-nil (option_to_list item))

-- what is done at them
does_next : (s : State) (l : Ledger) (item : Option Unplaced) (rest : List Unplaced)
    → let d = does_at s l (heard_if item) in does_at_items s l (option_to_list item ++ rest) ≡ then_done d.end d (does_at_items d.state d.ledger rest)
does_next s l None rest = refl
does_next s l (Some item) rest = refl

-- and what is told
told_next : (s : State) (l : Ledger) (held : Held) (item : Option Unplaced) (rest : List Unplaced)
    → let d = does_at s l (heard_if item) in told_at_items s l held (option_to_list item ++ rest) ≡ told_then d.end (told_at s held (heard_if item)) (told_at_items d.state d.ledger (held_after d.steps held) rest)
told_next s l held None rest = sym (append-nil (told_at_items s l held rest))
told_next s l held (Some item) rest = refl

told_one : (s : State) (l : Ledger) (held : Held) (item : Unplaced) → told_at_items s l held (item ∷ []) ≡ told_at s held (heard_at item)
told_one s l held item = by (does_at s l (heard_at item)).end
  where
    by : (end : Option GiveUp) → told_then end (told_at s held (heard_at item)) [] ≡ told_at s held (heard_at item)
    by None = refl
    by (Some cause) = refl

-- where the line is given up
ends_here : (s : State) (l : Ledger) (item : Option Unplaced) (cause : GiveUp) → (does_at s l (heard_if item)).end ≡ Some cause → EndsAtGiveUp s l (option_to_list item) cause
ends_here s l None cause e = absurd (no_end cause (sym e))
ends_here s l (Some item) cause e =
    let d = does_at s l (heard_at item) in
    record {
      before = [];
      last = item;
      parts = refl;
      goes_on = refl;
      ends = ap (λ (end : Option GiveUp). (then_done end d (does_nothing d.state d.ledger)).end) e ∙ e;
    }

ends_next : (s : State) (l : Ledger) (item : Option Unplaced) (read : List Unplaced) (cause : GiveUp) → (let d = does_at s l (heard_if item) in (d.end ≡ None) → EndsAtGiveUp d.state d.ledger read cause → EndsAtGiveUp s l (option_to_list item ++ read) cause)
ends_next s l None read cause e x = x
ends_next s l (Some item) read cause e x =
    let d = does_at s l (heard_at item) in
    record {
      before = item ∷ x.before;
      last = x.last;
      parts = ap (λ (xs : List Unplaced). item ∷ xs) x.parts;
      goes_on = ap (λ (end : Option GiveUp). (then_done end d (does_at_items d.state d.ledger x.before)).end) e ∙ x.goes_on;
      ends = ap (λ (end : Option GiveUp). (then_done end d (does_at_items d.state d.ledger (x.before ++ x.last ∷ []))).end) e ∙ x.ends;
    }

-- ---- the world behind one octet

abbrev pub seen_in : OrderWorld → List ℕ
seen_in w = taken_of (newest w.base).down

-- one octet was read, at which this was done, and these are the next
pub record Stepped (z : Splitting) (w : OrderWorld) (held : Held) (octet : ℕ) (more : List ℕ) (d : Done) (told : List ℕ) : Type 0 where
  pub leads : OwnLeads w (after_call w (parts_of z held w.log d) 1 d.frames told)
  pub reached : ∥ Reached (after_call w (parts_of z held w.log d) 1 d.frames told) ∥₁
  pub at : IsAt (after_call w (parts_of z held w.log d) 1 d.frames told) d.state (held_after d.steps held) d.ledger
  pub next : AreNext more (after_call w (parts_of z held w.log d) 1 d.frames told)
  pub seen : seen_in (after_call w (parts_of z held w.log d) 1 d.frames told) ≡ seen_in w ++ octet ∷ []
  pub are : AreOctets (seen_in (after_call w (parts_of z held w.log d) 1 d.frames told) ++ more)

-- the same world, by the terminal in it
abbrev by_parts : OrderWorld → State → Held → Ledger → OrderWorld
by_parts w s held l = record w { base = record w.base { terminal = machine_of held s }; tables = l.tables }

by_parts_is : (w : OrderWorld) (s : State) (held : Held) (l : Ledger) → IsAt w s held l → w ≡ by_parts w s held l
by_parts_is w s held l is = λ i. record w { base = record w.base { terminal = is.terminal i }; tables = is.tables i }

module _ (laws : ReadingLaws) (keeps : RuleKeepsSettings) (z : Splitting) where
  streams : StreamLaws
  streams = record { front = laws.front; one = laws.one; frames = laws.frames; message = laws.message; long = laws.long }

  -- the next octet, and what is known there
  module _ (w : OrderWorld) (s : State) (held : Held) (l : Ledger) (octet : ℕ) (more : List ℕ) (is : IsAt w s held l) (reached : ∥ Reached w ∥₁) (up : is_up s.phase ≡ true) (next : AreNext (octet ∷ more) w) (are : AreOctets (seen_in w ++ octet ∷ more)) where
    abbrev wire : Wire
    wire = (newest w.base).down

    abbrev v : OrderWorld
    v = by_parts w s held l

    there : (wire.taken < length wire.octets) × (octet_of wire ≡ octet) × (drop (wire.taken + 1) wire.octets ≡ more ++ next.rest)
    there = drop_next wire.taken wire.octets octet (more ++ next.rest) next.left

    lines : 0 < length w.base.lines
    lines = some_left w.base.lines (lt-ltb wire.taken (length wire.octets) there.0)

    one_more : AreOctets (seen_in w ++ octet ∷ [])
    one_more = AreOctets-front (seen_in w ++ octet ∷ []) more (subst AreOctets (sym (append_assoc (seen_in w) (octet ∷ []) more)) are)

    one_there : AreOctets (seen_in w ++ octet_of wire ∷ [])
    one_there = subst (λ (o : ℕ). AreOctets (seen_in w ++ o ∷ [])) (sym there.1) one_more

    reached_there : ∥ Reached v ∥₁
    reached_there = subst (λ (u : OrderWorld). ∥ Reached u ∥₁) (by_parts_is w s held l is) reached

    pub came : Brought (seen_in w) (octet ∷ []) (completed_item wire)
    came = subst (λ (o : ℕ). Brought (seen_in w) (o ∷ []) (completed_item wire)) there.1 (brought streams wire there.0)

    abbrev d : Done
    d = does_at s l (heard_next w)

    abbrev parts : TerminalParts
    parts = parts_of z held w.log d

    abbrev tells : List ℕ
    tells = told_at s held (heard_next w)

    newest_now : (told : List ℕ) → newest (after_call w parts 1 d.frames told).base ≡ line_after_call (newest w.base) 1 d.frames
    newest_now told = newest_set w.base.lines (line_after_call (newest w.base) 1 d.frames) lines

    seen_now : (told : List ℕ) → seen_in (after_call w parts 1 d.frames told) ≡ seen_in w ++ octet ∷ []
    seen_now told = ap (λ (line : Line). taken_of line.down) (newest_now told) ∙ (grown wire there.0 ∙ ap (λ (o : ℕ). seen_in w ++ o ∷ []) there.1)

    stepped_by : (told : List ℕ) → OwnLeads w (after_call w parts 1 d.frames told) → IsAt (after_call w parts 1 d.frames told) d.state (held_after d.steps held) d.ledger → Stepped z w held octet more d told
    stepped_by told leads at = record {
      leads = leads;
      reached = still_reached w (after_call w parts 1 d.frames told) reached (leads_of w (after_call w parts 1 d.frames told) leads);
      at = at;
      next = record { rest = next.rest; left = ap (λ (line : Line). drop line.down.taken line.down.octets) (newest_now told) ∙ there.2 };
      seen = seen_now told;
      are = subst AreOctets (sym (ap (λ (xs : List ℕ). xs ++ more) (seen_now told) ∙ append_assoc (seen_in w) (octet ∷ []) more)) are;
    }

    stepped : Stepped z w held octet more d tells
    stepped = stepped_by tells
        (subst (λ (u : OrderWorld). OwnLeads u (after_call w parts 1 d.frames tells)) (sym (by_parts_is w s held l is)) (whole_leads laws w s held l reached_there is.ledger is.good is.order is.agrees up there.0 one_there z))
        (whole_at laws w s held l reached_there is.ledger is.good is.order is.agrees up there.0 one_there keeps z)

    pub stepped_at : (item : Option Unplaced) → completed_item wire ≡ item → Stepped z w held octet more (does_at s l (heard_if item)) (told_at s held (heard_if item))
    stepped_at item e = subst (λ (x : Option Unplaced). Stepped z w held octet more (does_at s l (heard_if x)) (told_at s held (heard_if x))) e stepped

    -- it was cut short there
    cut_here : (now : TerminalParts) → now.state.settings ≡ s.settings → IsLedgerOf now.log now.ledger → IsDown now.state → CutShort d.steps (Some held) (Some now.held) → CommitsFirst d.performed (Some w.log) (Some now.log) → CutAt w now tells
    cut_here now same ledger down cut commits = subst (λ (u : OrderWorld). CutAt u now tells) (sym (by_parts_is w s held l is))
        (cut_either laws w s held l reached_there is.ledger is.good is.order is.agrees up there.0 one_there now same ledger cut.done cut.left cut.parts cut.held down commits.gained commits.left commits.parts (same_Some now.log (w.log ++ commits.gained) commits.held))

    pub cut_at : (item : Option Unplaced) → completed_item wire ≡ item → (now : TerminalParts) → now.state.settings ≡ s.settings → IsLedgerOf now.log now.ledger → IsDown now.state
        → CutShort (does_at s l (heard_if item)).steps (Some held) (Some now.held) → CommitsFirst (does_at s l (heard_if item)).performed (Some w.log) (Some now.log) → CutAt w now (told_at s held (heard_if item))
    cut_at item e now same ledger down cut commits = subst (λ (x : Option Unplaced). CutAt w now (told_at s held (heard_if x))) e
        (cut_here now same ledger down (subst (λ (x : Option Unplaced). CutShort (does_at s l (heard_if x)).steps (Some held) (Some now.held)) (sym e) cut)
        (subst (λ (x : Option Unplaced). CommitsFirst (does_at s l (heard_if x)).performed (Some w.log) (Some now.log)) (sym e) commits))

  -- ---- many octets, whole

  -- steps lead to the world in which this was done at these octets
  pub record Went (w : OrderWorld) (s : State) (held : Held) (l : Ledger) (octets : List ℕ) (d : Done) (told : List ℕ) : Type 0 where
    pub count : ℕ
    pub few : count ≤ length octets
    pub whole : d.end ≡ None → count ≡ length octets
    pub upto : (cause : GiveUp) → d.end ≡ Some cause → EndsAtGiveUp s l (items_read w octets count) cause
    pub leads : OwnLeads w (after_call w (parts_of z held w.log d) count d.frames told)

  abbrev Goes : List ℕ → Type 0
  Goes octets = (w : OrderWorld) (s : State) (held : Held) (l : Ledger) → IsAt w s held l → ∥ Reached w ∥₁ → is_up s.phase ≡ true → AreNext octets w → AreOctets (seen_in w ++ octets)
      → Went w s held l octets (does_at_items s l (items_behind (seen_in w) octets)) (told_at_items s l held (items_behind (seen_in w) octets))

  goes_none : Goes []
  goes_none w s held l is reached up next are =
      subst (λ (xs : List Unplaced). Went w s held l [] (does_at_items s l xs) (told_at_items s l held xs)) (sym (items_none (seen_in w)))
      (record {
        count = 0;
        few = omega arith;
        whole = λ none. refl;
        upto = λ cause e. absurd (no_end cause (sym e));
        leads = subst (OwnLeads w) ((λ i. record w { base = record w.base { terminal = is.terminal i }; log = sym (append-nil w.log) i; tables = is.tables i }) ∙ sym (behind_nothing w (parts_of z held w.log (does_nothing s l)))) (own_none w);
      })

  -- what was done at one octet, and then at more
  both_parts : (held : Held) (log : List Performed) (d f : Done) → parts_of z (held_after d.steps held) (log ++ d.performed) f ≡ parts_of z held log (then_done None d f)
  both_parts held log d f = λ i. record { state = f.state; held = sym (held_after-append d.steps f.steps held) i; stream = z; ledger = f.ledger; log = append_assoc log d.performed f.performed i }

  goes_by : (w : OrderWorld) (s : State) (held : Held) (l : Ledger) (octet : ℕ) (more : List ℕ) (item : Option Unplaced) → Brought (seen_in w) (octet ∷ []) item → (f : Done) (told later : List ℕ) (end : Option GiveUp) → (let d = does_at s l (heard_if item) in
      d.end ≡ end → (one : Stepped z w held octet more d told) → (end ≡ None → Went (after_call w (parts_of z held w.log d) 1 d.frames told) d.state (held_after d.steps held) d.ledger more f later) → Went w s held l (octet ∷ more) (then_done end d f) (told_then end told later))
  goes_by w s held l octet more item came f told later None e one rest =
      let d = does_at s l (heard_if item) in
      let k = rest refl in
      let mid = after_call w (parts_of z held w.log d) 1 d.frames told in
      let few = k.few in
      record {
        count = 1 + k.count;
        few = omega (arith, few);
        whole = λ none. let n = k.whole none in omega (arith, n);
        upto = λ cause given. subst (λ (read : List Unplaced). EndsAtGiveUp s l read cause) (sym (read_more laws.front (seen_in w) octet more item came k.count))
            (ends_next s l item (items_behind (seen_in w ++ octet ∷ []) (take k.count more)) cause e (subst (λ (seen : List ℕ). EndsAtGiveUp d.state d.ledger (items_behind seen (take k.count more)) cause) one.seen (k.upto cause given)));
        leads = subst (OwnLeads w)
            (behind_both w (parts_of z held w.log d) (parts_of z (held_after d.steps held) (w.log ++ d.performed) f) 1 k.count d.frames f.frames told later
            ∙ ap (λ (t : TerminalParts). after_call w t (1 + k.count) (d.frames ++ f.frames) (later ++ told)) (both_parts held w.log d f))
            (own_both w mid (after_call mid (parts_of z (held_after d.steps held) (w.log ++ d.performed) f) k.count f.frames later) one.leads k.leads);
      }
  goes_by w s held l octet more item came f told later (Some cause) e one rest = record {
    count = 1;
    few = omega arith;
    whole = λ none. absurd (no_end cause (sym e ∙ none));
    upto = λ given_for given. subst (λ (read : List Unplaced). EndsAtGiveUp s l read given_for) (sym (read_one laws.front (seen_in w) octet more item came)) (ends_here s l item given_for given);
    leads = one.leads;
  }

  goes_more : (octet : ℕ) (more : List ℕ) → Goes more → Goes (octet ∷ more)
  goes_more octet more ih w s held l is reached up next are =
      let item = completed_item (newest w.base).down in
      let d = does_at s l (heard_if item) in
      let told = told_at s held (heard_if item) in
      let one = stepped_at w s held l octet more is reached up next are item refl in
      let mid = after_call w (parts_of z held w.log d) 1 d.frames told in
      let rest = items_behind (seen_in w ++ octet ∷ []) more in
      subst (λ (xs : List Unplaced). Went w s held l (octet ∷ more) (does_at_items s l xs) (told_at_items s l held xs)) (sym (items_next laws.front (seen_in w) octet more item (came w s held l octet more is reached up next are)))
      (subst (λ (all : Done). Went w s held l (octet ∷ more) all (told_at_items s l held (option_to_list item ++ rest))) (sym (does_next s l item rest))
      (subst (Went w s held l (octet ∷ more) (then_done d.end d (does_at_items d.state d.ledger rest))) (sym (told_next s l held item rest))
      (goes_by w s held l octet more item (came w s held l octet more is reached up next are) (does_at_items d.state d.ledger rest) told (told_at_items d.state d.ledger (held_after d.steps held) rest) d.end refl one
      (λ e. subst (λ (seen : List ℕ). Went mid d.state (held_after d.steps held) d.ledger more (does_at_items d.state d.ledger (items_behind seen more)) (told_at_items d.state d.ledger (held_after d.steps held) (items_behind seen more))) one.seen
      (ih mid d.state (held_after d.steps held) d.ledger one.at one.reached (does_up s l (heard_if item) up ∙ ap (λ (x : Option GiveUp). is_none x) e) one.next one.are)))))

  pub goes : (octets : List ℕ) → Goes octets
  goes [] = goes_none
  goes (octet ∷ more) = goes_more octet more (goes more)

  -- ---- many octets, cut short at an item

  -- some first octets were read, and this told, at which all was done before the last item; and then these frames stand on the line
  pub record Fell (w : OrderWorld) (s : State) (held : Held) (l : Ledger) (octets : List ℕ) (before : List Unplaced) (item : Unplaced) (now : TerminalParts) (frames : List (List ℕ)) : Type 0 where
    pub count : ℕ
    pub told : List ℕ
    pub few : count ≤ length octets
    pub reads : (items_read w octets count ≡ before) ⊎ (items_read w octets count ≡ before ++ item ∷ [])
    pub told_is : told ≡ told_at_items s l held (items_read w octets count)
    pub leads : OwnLeads w (after_call w now count frames told)

  abbrev Fails : List ℕ → Type 0
  Fails octets = (w : OrderWorld) (s : State) (held : Held) (l : Ledger) → IsAt w s held l → ∥ Reached w ∥₁ → is_up s.phase ≡ true → AreNext octets w → AreOctets (seen_in w ++ octets)
      → (now : TerminalParts) → now.state.settings ≡ s.settings → IsLedgerOf now.log now.ledger → IsDown now.state
      → (before : List Unplaced) (item : Unplaced) (last : List Unplaced) → items_behind (seen_in w) octets ≡ before ++ item ∷ last → (does_at_items s l before).end ≡ None
      → (let d = does_at_items s l before in CutShort (does_at d.state d.ledger (heard_at item)).steps (holds_after d.steps (Some held)) (Some now.held))
      → (let d = does_at_items s l before in CommitsFirst (does_at d.state d.ledger (heard_at item)).performed (Some (w.log ++ d.performed)) (Some now.log))
      → Fell w s held l octets before item now (does_at_items s l before).frames

  fails_none : Fails []
  fails_none w s held l is reached up next are now same ledger down [] item last parts goes_on cut commits = absurd (no_list item last (sym (items_none (seen_in w)) ∙ parts))
  fails_none w s held l is reached up next are now same ledger down (x ∷ before) item last parts goes_on cut commits = absurd (no_list x (before ++ item ∷ last) (sym (items_none (seen_in w)) ∙ parts))

  -- of one octet more
  reads_next : (item : Option Unplaced) (read more before : List Unplaced) (last : Unplaced) → read ≡ option_to_list item ++ more → (more ≡ before) ⊎ (more ≡ before ++ last ∷ []) → (read ≡ option_to_list item ++ before) ⊎ (read ≡ (option_to_list item ++ before) ++ last ∷ [])
  reads_next item read more before last e (inl is) = inl (e ∙ ap (λ (xs : List Unplaced). option_to_list item ++ xs) is)
  reads_next item read more before last e (inr is) = inr (e ∙ (ap (λ (xs : List Unplaced). option_to_list item ++ xs) is ∙ sym (append_assoc (option_to_list item) before (last ∷ []))))

  -- one octet whole, and then more cut short
  fails_behind : (w : OrderWorld) (s : State) (held : Held) (l : Ledger) (octet : ℕ) (more : List ℕ) (item : Option Unplaced) → Brought (seen_in w) (octet ∷ []) item → (let d = does_at s l (heard_if item) in let told = told_at s held (heard_if item) in
      d.end ≡ None → (one : Stepped z w held octet more d told) (before : List Unplaced) (last : Unplaced) (now : TerminalParts) (frames : List (List ℕ))
      → Fell (after_call w (parts_of z held w.log d) 1 d.frames told) d.state (held_after d.steps held) d.ledger more before last now frames → Fell w s held l (octet ∷ more) (option_to_list item ++ before) last now (d.frames ++ frames))
  fails_behind w s held l octet more item came e one before last now frames c =
      let d = does_at s l (heard_if item) in
      let told = told_at s held (heard_if item) in
      let few = c.few in
      let mid = after_call w (parts_of z held w.log d) 1 d.frames told in
      let behind = items_read mid more c.count in
      let read : items_read w (octet ∷ more) (1 + c.count) ≡ option_to_list item ++ behind =
      read_more laws.front (seen_in w) octet more item came c.count ∙ ap (λ (seen : List ℕ). option_to_list item ++ items_behind seen (take c.count more)) (sym one.seen) in
      record {
        count = 1 + c.count;
        told = c.told ++ told;
        few = omega (arith, few);
        reads = reads_next item (items_read w (octet ∷ more) (1 + c.count)) behind before last read c.reads;
        told_is = ap (λ (later : List ℕ). later ++ told) c.told_is
            ∙ sym (ap (told_at_items s l held) read ∙ (told_next s l held item behind ∙ ap (λ (end : Option GiveUp). told_then end told (told_at_items d.state d.ledger (held_after d.steps held) behind)) e));
        leads = subst (OwnLeads w) (behind_both w (parts_of z held w.log d) now 1 c.count d.frames frames told c.told) (own_both w mid (after_call mid now c.count frames c.told) one.leads c.leads);
      }

  fails_more : (octet : ℕ) (more : List ℕ) → Fails more → Fails (octet ∷ more)
  fails_more octet more ih w s held l is reached up next are now same ledger down before item last parts goes_on cut commits =
      by (completed_item (newest w.base).down) refl before (sym (items_next laws.front (seen_in w) octet more (completed_item (newest w.base).down) (came w s held l octet more is reached up next are)) ∙ parts) goes_on cut commits
    where
      rest : List Unplaced
      rest = items_behind (seen_in w ++ octet ∷ []) more

      brought_by : (c : Option Unplaced) → completed_item (newest w.base).down ≡ c → Brought (seen_in w) (octet ∷ []) c
      brought_by c e = subst (Brought (seen_in w) (octet ∷ [])) e (came w s held l octet more is reached up next are)

      first_by : Brought (seen_in w) (octet ∷ []) (Some item) → CutAt w now (told_at s held (heard_at item)) → Fell w s held l (octet ∷ more) [] item now []
      first_by e (inl leads) = record {
        count = 1;
        told = told_at s held (heard_at item);
        few = omega arith;
        reads = inr (read_one laws.front (seen_in w) octet more (Some item) e);
        told_is = sym (ap (told_at_items s l held) (read_one laws.front (seen_in w) octet more (Some item) e) ∙ told_one s l held item);
        leads = leads;
      }
      first_by e (inr leads) = record {
        count = 0;
        told = [];
        few = omega arith;
        reads = inl (items_none (seen_in w));
        told_is = sym (ap (told_at_items s l held) (items_none (seen_in w)));
        leads = leads;
      }

      at_first : (x : Unplaced) → completed_item (newest w.base).down ≡ Some x → x ≡ item → CutShort (does_at s l (heard_at item)).steps (Some held) (Some now.held) → CommitsFirst (does_at s l (heard_at item)).performed (Some (w.log ++ [])) (Some now.log)
          → Fell w s held l (octet ∷ more) [] item now []
      at_first x e same_item cut commits = first_by (brought_by (Some item) (e ∙ ap Some same_item))
          (cut_at w s held l octet more is reached up next are (Some item) (e ∙ ap Some same_item) now same ledger down cut (subst (λ (log : List Performed). CommitsFirst (does_at s l (heard_at item)).performed (Some log) (Some now.log)) (append-nil w.log) commits))

      -- nothing was completed
      at_none : completed_item (newest w.base).down ≡ None → (before : List Unplaced) → rest ≡ before ++ item ∷ last → (does_at_items s l before).end ≡ None
          → (let d = does_at_items s l before in CutShort (does_at d.state d.ledger (heard_at item)).steps (holds_after d.steps (Some held)) (Some now.held))
          → (let d = does_at_items s l before in CommitsFirst (does_at d.state d.ledger (heard_at item)).performed (Some (w.log ++ d.performed)) (Some now.log))
          → Fell w s held l (octet ∷ more) before item now (does_at_items s l before).frames
      at_none e before parts goes_on cut commits =
          let one = stepped_at w s held l octet more is reached up next are None e in
          let d = does_nothing s l in
          let f = does_at_items s l before in
          fails_behind w s held l octet more None (brought_by None e) refl one before item now f.frames
          (ih (after_call w (parts_of z held w.log d) 1 d.frames []) s held l one.at one.reached up one.next one.are now same ledger down before item last
          (ap (λ (seen : List ℕ). items_behind seen more) one.seen ∙ parts) goes_on cut
          (subst (λ (log : List Performed). CommitsFirst (does_at f.state f.ledger (heard_at item)).performed (Some (log ++ f.performed)) (Some now.log)) (sym (append-nil w.log)) commits))

      -- an item was completed, at which all was done
      at_item : (x : Unplaced) → completed_item (newest w.base).down ≡ Some x → (ys : List Unplaced) → rest ≡ ys ++ item ∷ last → (end : Option GiveUp) → (does_at s l (heard_at x)).end ≡ end
          → (let d = does_at s l (heard_at x) in let f = then_done end d (does_at_items d.state d.ledger ys) in (f.end ≡ None)
          → CutShort (does_at f.state f.ledger (heard_at item)).steps (holds_after f.steps (Some held)) (Some now.held)
          → CommitsFirst (does_at f.state f.ledger (heard_at item)).performed (Some (w.log ++ f.performed)) (Some now.log)
          → Fell w s held l (octet ∷ more) (x ∷ ys) item now f.frames)
      at_item x e ys parts None ends goes_on cut commits =
          let one = stepped_at w s held l octet more is reached up next are (Some x) e in
          let d = does_at s l (heard_at x) in
          let f = does_at_items d.state d.ledger ys in
          let told = told_at s held (heard_at x) in
          fails_behind w s held l octet more (Some x) (brought_by (Some x) e) ends one ys item now f.frames
          (ih (after_call w (parts_of z held w.log d) 1 d.frames told) d.state (held_after d.steps held) d.ledger one.at one.reached (does_up s l (heard_at x) up ∙ ap (λ (o : Option GiveUp). is_none o) ends) one.next one.are
          now (same ∙ sym (does_settings keeps s l (heard_at x))) ledger down ys item last (ap (λ (seen : List ℕ). items_behind seen more) one.seen ∙ parts) goes_on
          (subst (λ (h : Option Held). CutShort (does_at f.state f.ledger (heard_at item)).steps h (Some now.held)) (holds_after-append d.steps f.steps (Some held) ∙ ap (holds_after f.steps) (holds_after-told d.steps held)) cut)
          (subst (λ (log : List Performed). CommitsFirst (does_at f.state f.ledger (heard_at item)).performed (Some log) (Some now.log)) (sym (append_assoc w.log d.performed f.performed)) commits))
      at_item x e ys parts (Some cause) ends goes_on cut commits = absurd (no_end cause (sym ends ∙ goes_on))

      by : (c : Option Unplaced) → completed_item (newest w.base).down ≡ c → (before : List Unplaced) → option_to_list c ++ rest ≡ before ++ item ∷ last → (does_at_items s l before).end ≡ None
          → (let d = does_at_items s l before in CutShort (does_at d.state d.ledger (heard_at item)).steps (holds_after d.steps (Some held)) (Some now.held))
          → (let d = does_at_items s l before in CommitsFirst (does_at d.state d.ledger (heard_at item)).performed (Some (w.log ++ d.performed)) (Some now.log))
          → Fell w s held l (octet ∷ more) before item now (does_at_items s l before).frames
      by None e before parts goes_on cut commits = at_none e before parts goes_on cut commits
      by (Some x) e [] parts goes_on cut commits = at_first x e (heads x item rest last parts) cut commits
      by (Some x) e (y ∷ ys) parts goes_on cut commits = at_item y (e ∙ ap Some (heads x y rest (ys ++ item ∷ last) parts)) ys (tails x y rest (ys ++ item ∷ last) parts) (does_at s l (heard_at y)).end refl goes_on cut commits

  pub fails : (octets : List ℕ) → Fails octets
  fails [] = fails_none
  fails (octet ∷ more) = fails_more octet more (fails more)
