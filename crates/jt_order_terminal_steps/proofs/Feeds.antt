-- What a call of feed did, by its clauses: steps of the world of orders.
use Rattle.std.proofs.Common.{ℕ, zero, suc, ◌+◌, ◌≤◌, ◌≡◌, List, [], ◌∷◌, ◌++◌, length, take, set, Option, Some, None, Bool, true, arith, refl, ap, sym, ◌∙◌, subst}
use Rattle.std.specs.Prelude.{drop, is_none}
use Rattle.std.proofs.lemmas.Bool.{false≢true}
use Rattle.std.proofs.lemmas.List.{length-append, length-drop}
use Rattle.std.proofs.lemmas.Option.{same_Some}
use Rattle.std.proofs.Math.Seq.{take-append_seam}
use Rattle.jt_value.specs.Octets.{AreOctets}
use Rattle.jt_value.proofs.OctetLists.{AreOctets-append}
use Rattle.jt_terminal_rule.specs.declared.state.GiveUp.{GiveUp}
use Rattle.jt_terminal_rule.specs.declared.state.State.{State}
use Rattle.jt_terminal_rule.specs.Law.{RuleKeepsSettings}
use Rattle.jt_terminal_rule.specs.Machines.{is_up}
use Rattle.jt_terminal_steps.specs.Running.{holds_after}
use Rattle.jt_order.specs.declared.performed.Performed.{Performed}
use Rattle.jt_order_turns.specs.Heard.{heard_at}
use Rattle.jt_order_terminal.specs.Ledgers.{IsLedgerOf}
use Rattle.jt_order_terminal.specs.Terminals.{CommitsFirst, Done, StandsForLine, does_at, does_at_items, does_at_octets, items_behind}
use Rattle.jt_octets.specs.World.{Line, line_at, newest, newest_place, taken_of}
use Rattle.jt_play.proofs.Acting.{held_is}
use Rattle.jt_order_octets.specs.World.{OrderWorld}
use Rattle.jt_order_octets.specs.Reaching.{Reached}
use Rattle.jt_order_play.specs.Holding.{ReadingLaws}
use Rattle.jt_order_terminal_steps.specs.Standing.{AreNext, TerminalParts, TerminalStandsIn, after_call, line_after_call}
use Rattle.jt_order_terminal_steps.specs.Calls.{FeedFails, FeedIsDone, FeedLeaves}
use Rattle.jt_order_terminal_steps.specs.Claim.{FailedFeedIsRead, FailedFeedIsSteps, FeedIsRead, FeedIsSteps, units_told}
use Rattle.jt_order_terminal_steps.proofs.Owning.{OwnLeads, leads_to}
use Rattle.jt_play.proofs.Rounds.{newest_set}
use Rattle.jt_order_terminal_steps.proofs.Lines.{Most, most_after_call}
use Rattle.jt_order_terminal_steps.proofs.Octet.{IsAt, items_up, parts_of}
use Rattle.jt_order_terminal_steps.proofs.Octets.{Fell, Went, fails, goes, seen_in}

-- ---- what was read then

no_front : (ys rest : List ℕ) → [] ≡ ys ++ rest → [] ≡ ys
no_front [] rest e = refl
no_front (y ∷ ys) rest e = absurd cc

take_none : (n : ℕ) → take {A = ℕ} n [] ≡ []
take_none zero = refl
take_none (suc n) = refl

take_both : (n : ℕ) (xs ys rest : List ℕ) → drop n xs ≡ ys ++ rest → take (n + length ys) xs ≡ take n xs ++ ys
take_both zero xs ys rest e = ap (λ (k : ℕ). take k xs) (let same : 0 + length ys ≡ length ys = omega arith in same) ∙ (ap (take (length ys)) e ∙ take-append_seam ys rest)
take_both (suc n) [] ys rest e = take_none (suc n + length ys) ∙ no_front ys rest e
take_both (suc n) (x ∷ xs) ys rest e = ap (λ (k : ℕ). take k (x ∷ xs)) (let same : suc n + length ys ≡ suc (n + length ys) = omega arith in same) ∙ ap (λ (more : List ℕ). x ∷ more) (take_both n xs ys rest e)

-- all of the octets that are next
read_all : (lines : List Line) (count : ℕ) (frames : List (List ℕ)) (octets rest : List ℕ) → (let x = line_at lines (newest_place lines) in drop x.down.taken x.down.octets ≡ octets ++ rest) → count ≡ length octets
    → (let x = line_at lines (newest_place lines) in let now = set lines (newest_place lines) (line_after_call x count frames) in taken_of (line_at now (newest_place now)).down ≡ taken_of x.down ++ octets)
read_all [] count frames octets rest left all = no_front octets rest left
read_all (line ∷ lines) count frames octets rest left all =
    let x = line_at (line ∷ lines) (newest_place (line ∷ lines)) in
    ap (λ (l : Line). taken_of l.down) (newest_set (line ∷ lines) (line_after_call x count frames) (omega arith))
    ∙ (ap (λ (n : ℕ). take (x.down.taken + n) x.down.octets) all ∙ take_both x.down.taken x.down.octets octets rest left)

none_of : (end : Option GiveUp) → is_none end ≡ true → end ≡ None
none_of None e = refl
none_of (Some cause) e = absurd (false≢true e)

-- ---- the claims

stands_at : (w : OrderWorld) (t : TerminalParts) → TerminalStandsIn w t → IsAt w t.state t.held t.ledger
stands_at w t stands = record {
  terminal = stands.terminal;
  tables = stands.tables;
  ledger = subst (λ (log : List Performed). IsLedgerOf log t.ledger) (sym stands.log) stands.ledger;
  good = stands.sound.good;
  order = stands.sound.order;
  agrees = stands.sound.agrees.0;
}

-- so many octets that are next are there
some_there : (w : OrderWorld) (octets : List ℕ) (count : ℕ) → Most w.base.lines → AreNext octets w → count ≤ length octets → (newest w.base).down.taken + count ≤ length (newest w.base).down.octets
some_there w octets count most next few =
    let down = (newest w.base).down in
    let left = ap length next.left in
    let dropped = length-drop down.taken down.octets in
    let both = length-append octets next.rest in
    omega (arith, most, few, left, dropped, both)

stands_behind : (w : OrderWorld) (old now : TerminalParts) (count : ℕ) (frames : List (List ℕ)) (told : List ℕ) → TerminalStandsIn w old → FeedLeaves old now
    → (newest w.base).down.taken + count ≤ length (newest w.base).down.octets → (is_up now.state.phase ≡ true → StandsForLine now.stream (taken_of (newest (after_call w now count frames told).base).down)) → TerminalStandsIn (after_call w now count frames told) now
stands_behind w old now count frames told stands fed few hears = record {
  terminal = refl;
  sound = fed.sound;
  log = refl;
  tables = refl;
  ledger = fed.ledger;
  partial = stands.partial;
  most = most_after_call w.base.lines count frames few;
  hears = hears;
}

module _ (laws : ReadingLaws) (keeps : RuleKeepsSettings) (w : OrderWorld) (reached : ∥ Reached w ∥₁) (octets : List ℕ) (old now : TerminalParts) (stands : TerminalStandsIn w old) (up : is_up old.state.phase ≡ true) (are : AreOctets octets) (next : AreNext octets w) where
  abbrev seen : List ℕ
  seen = seen_in w

  abbrev d : Done
  d = does_at_items old.state old.ledger (items_behind seen octets)

  all_are : AreOctets (seen ++ octets)
  all_are = AreOctets-append seen octets (stands.hears up).octets are

  -- whole
  fed_whole : (frames : List (List ℕ)) (end : Option GiveUp) → FeedIsDone seen octets old now frames end → FeedIsRead w octets old now frames (units_told w old octets) end
  fed_whole frames end fed = record {
    count = went.count;
    few = went.few;
    whole = λ none. went.whole (ended ∙ none);
    upto = λ cause given. went.upto cause (ended ∙ given);
    to = leads_to w (after_call w now went.count frames (units_told w old octets)) now
        (subst (λ (fs : List (List ℕ)). OwnLeads w (after_call w now went.count fs (units_told w old octets))) (sym frames_are) (subst (λ (t : TerminalParts). OwnLeads w (after_call w t went.count d.frames (units_told w old octets))) parts_are went.leads))
        (stands_behind w old now went.count frames (units_told w old octets) stands fed.fed (some_there w octets went.count stands.most next went.few) hears);
  }
    where
      does : does_at_octets (is_up old.state.phase) old.state old.ledger seen octets ≡ d
      does = ap (λ (b : Bool). does_at_octets b old.state old.ledger seen octets) up

      ended : d.end ≡ end
      ended = sym (fed.end_is ∙ ap (λ (x : Done). x.end) does)

      went : Went laws keeps now.stream w old.state old.held old.ledger octets d (units_told w old octets)
      went = goes laws keeps now.stream octets w old.state old.held old.ledger (stands_at w old stands) reached up next all_are

      parts_are : parts_of now.stream old.held w.log d ≡ now
      parts_are = λ i. record {
        state = sym (fed.state ∙ ap (λ (x : Done). x.state) does) i;
        held = sym (held_is d.steps old.held now.held (fed.vault ∙ ap (λ (x : Done). holds_after x.steps (Some old.held)) does)) i;
        stream = now.stream;
        ledger = sym (fed.kept ∙ ap (λ (x : Done). x.ledger) does) i;
        log = (ap (λ (log : List Performed). log ++ d.performed) stands.log ∙ sym (same_Some now.log (old.log ++ d.performed) (fed.log ∙ ap (λ (x : Done). Some (old.log ++ x.performed)) does))) i;
      }

      frames_are : frames ≡ d.frames
      frames_are = fed.sends ∙ ap (λ (x : Done). x.frames) does

      ends : is_up now.state.phase ≡ true → d.end ≡ None
      ends on = none_of d.end (sym (items_up old.state old.ledger (items_behind seen octets) up) ∙ (ap (λ (s : State). is_up s.phase) (sym (fed.state ∙ ap (λ (x : Done). x.state) does)) ∙ on))

      hears : is_up now.state.phase ≡ true → StandsForLine now.stream (taken_of (newest (after_call w now went.count frames (units_told w old octets)).base).down)
      hears on = subst (StandsForLine now.stream) (sym (read_all w.base.lines went.count frames octets next.rest next.left (went.whole (ends on))))
          (fed.stands (fed.end_is ∙ (ap (λ (x : Done). x.end) does ∙ ends on)))

  -- cut short
  fed_in_part : FeedFails seen octets old now → FailedFeedIsRead w octets old now
  fed_in_part part = part_by (fails laws keeps now.stream octets w old.state old.held old.ledger (stands_at w old stands) reached up next all_are now part.fed.same.settings part.fed.ledger part.down
      part.fails.before part.fails.item part.fails.behind part.fails.parts part.fails.goes_on part.fails.cut
      (subst (λ (log : List Performed). CommitsFirst (does_at f.state f.ledger (heard_at part.fails.item)).performed (Some (log ++ f.performed)) (Some now.log)) (sym stands.log) part.fails.commits))
    where
      f : Done
      f = does_at_items old.state old.ledger part.fails.before

      part_by : Fell laws keeps now.stream w old.state old.held old.ledger octets part.fails.before part.fails.item now f.frames → FailedFeedIsRead w octets old now
      part_by c = record {
        before = part.fails.before;
        last = part.fails.item;
        rest = part.fails.behind;
        parts = part.fails.parts;
        goes_on = part.fails.goes_on;
        count = c.count;
        told = c.told;
        few = c.few;
        reads = c.reads;
        told_is = c.told_is;
        to = leads_to w (after_call w now c.count f.frames c.told) now c.leads (stands_behind w old now c.count f.frames c.told stands part.fed (some_there w octets c.count stands.most next c.few) (λ on. absurd (false≢true (sym (ap is_up part.down.phase) ∙ on))));
      }

pub feed_whole : ReadingLaws → RuleKeepsSettings → FeedIsSteps
feed_whole laws keeps w reached octets old now frames end stands up are next fed = fed_whole laws keeps w reached octets old now stands up are next frames end fed

pub feed_in_part : ReadingLaws → RuleKeepsSettings → FailedFeedIsSteps
feed_in_part laws keeps w reached octets old now stands up are next part = fed_in_part laws keeps w reached octets old now stands up are next part
