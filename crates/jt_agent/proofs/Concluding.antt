-- What comes of one move.
use Rattle.std.proofs.Common.{◌≡◌, inl, ◌<◌, ◌+◌, ℕ, List, [], ◌∷◌, ◌++◌, Option, Some, None, length, take, drop, get_or, Bool, true, false, refl, sym, ap, subst, ◌∙◌, append-nil, take-append-drop}
use Rattle.std.specs.Prelude.{◌↔◌, ◌&&◌, IsTrue}
use Rattle.std.specs.Io.KnownBytes.{Appends}
use Rattle.std.specs.List.{flat_map}
use Rattle.std.proofs.lemmas.Grind.{flat_map-append}
use Rattle.std.proofs.lemmas.List.{take_more}
use Rattle.jt_outside.specs.Sink.{AppendsPrefix}
use Rattle.jt_outside.proofs.Prefixes.{AppendsPrefix-more, AppendsPrefix-after}
use Rattle.jt_outside.specs.Link.{Wire}
use Rattle.jt_store.specs.declared.unit.Unit.{Unit as OneUnit}
use Rattle.jt_terminal_rule.specs.declared.state.State.{State}
use Rattle.jt_terminal_rule.specs.declared.state.GiveUp.{GiveUp}
use Rattle.jt_terminal_rule.specs.declared.state.GiveUp.TheVariants as give_up
use Rattle.jt_terminal_rule.specs.Rule.{Ruled, sends}
use Rattle.jt_terminal_steps.specs.Running.{IsDone, holds_after}
use Rattle.jt_agent.specs.Course.{GaveUp, stop_of, is_done, has_none, octets_of}
use Rattle.jt_agent.specs.Attempt.{AtLink}
use Rattle.jt_agent.specs.Moving.{DidRule, Concludes, Comes}
use Rattle.jt_agent.specs.declared.ending.AttemptEnd.TheVariants as how
use Rattle.jt_agent.specs.declared.ending.Attempted.{Attempted}
use Rattle.jt_agent.specs.declared.ending.Attempted.TheVariants.{Ended}

-- frames up to one, of which a part was written
pub frames_part : (frames : List (List ℕ)) (i : ℕ) (frame : List ℕ) (old mid now : Option (List ℕ)) → i < length frames → frame ≡ get_or frames i frame
    → Appends old mid (flat_map (λ f. f) (take i frames)) → AppendsPrefix mid now frame → AppendsPrefix old now (flat_map (λ f. f) frames)
frames_part frames i frame old mid now less is wrote part =
    let front = flat_map (λ (f : List ℕ). f) (take i frames) in
    let rest = flat_map (λ (f : List ℕ). f) (drop (i + 1) frames) in
    let first : flat_map (λ f. f) (take (i + 1) frames) ≡ front ++ frame =
    ap (flat_map (λ f. f)) (take_more frames i frame less) ∙ flat_map-append (λ f. f) (take i frames) (get_or frames i frame ∷ []) ∙ ap (λ l. front ++ l) (append-nil (get_or frames i frame) ∙ sym is) in
    let whole : flat_map (λ f. f) frames ≡ (front ++ frame) ++ rest =
    ap (flat_map (λ f. f)) (sym (take-append-drop (i + 1) frames)) ∙ flat_map-append (λ f. f) (take (i + 1) frames) (drop (i + 1) frames) ∙ ap (λ l. l ++ rest) first in
    subst (AppendsPrefix old now) (sym whole) (AppendsPrefix-more old now (front ++ frame) rest (AppendsPrefix-after old mid now front frame wrote part))

pub concluded_denied : (end : Option GiveUp) (done : Bool) (reply octets : List ℕ) (link now : Wire) → end ≡ Some (give_up.Denied reply) → Appends link.written now.written octets
    → Concludes (Some (Ended (how.Denied reply))) end done octets link now
concluded_denied end done reply octets link now is wrote =
    inl (wrote, GaveUp (give_up.Denied reply), ap (λ e. stop_of e done) is, refl)

pub concluded_late : (end : Option GiveUp) (done : Bool) (since moment : ℕ) (octets : List ℕ) (link now : Wire) → end ≡ Some (give_up.TimedOut since moment) → Appends link.written now.written octets
    → Concludes (Some (Ended (how.TimedOut since moment))) end done octets link now
concluded_late end done since moment octets link now is wrote =
    inl (wrote, GaveUp (give_up.TimedOut since moment), ap (λ e. stop_of e done) is, refl)

-- nothing is left where the terminal says that it is done
pub done_is : (done : Bool) (s : State) → (IsTrue done ↔ IsDone s) → done ≡ is_done s
done_is done s iff = by_lists done s.units s.waiting iff
  where
    by_lists : (done : Bool) (units : List OneUnit) (waiting : List (List ℕ)) → (IsTrue done ↔ ((units ≡ []) × (waiting ≡ []))) → done ≡ (has_none units && has_none waiting)
    by_lists done [] [] iff = iff.1 (refl, refl)
    by_lists true [] (fix ∷ waiting) iff = let left = (iff.0 refl).1 in absurd cc
    by_lists true (unit ∷ units) waiting iff = let left = (iff.0 refl).0 in absurd cc
    by_lists false [] (fix ∷ waiting) iff = refl
    by_lists false (unit ∷ units) waiting iff = refl

-- a rule was run, its frames were written, and its end was looked at
comes_by : (result : Option Attempted) (r : Ruled) (Left : State → Type 0) (old now : AtLink) → DidRule r now.state old.held now.held
    → Concludes result r.end (is_done r.state) (octets_of old.state.settings r.steps) old.link now.link → Comes result r Left old now
comes_by None r Left old now did concludes = (did, concludes)
comes_by (Some ended) r Left old now did concludes = inl (did, concludes)

pub came : (result : Option Attempted) (r : Ruled) (Left : State → Type 0) (old now : AtLink) (frames : List (List ℕ)) (end : Option GiveUp) (done : Bool)
    → now.state ≡ r.state → now.held ≡ holds_after r.steps old.held → frames ≡ sends old.state.settings r.steps → end ≡ r.end
    → (IsTrue done ↔ IsDone now.state) → Concludes result end done (flat_map (λ frame. frame) frames) old.link now.link → Comes result r Left old now
came result r Left old now frames end done is_state held is_frames is_end iff concludes =
    let by_end = subst (λ e. Concludes result e done (flat_map (λ frame. frame) frames) old.link now.link) is_end concludes in
    let by_done = subst (λ d. Concludes result r.end d (flat_map (λ frame. frame) frames) old.link now.link) (done_is done now.state iff ∙ ap is_done is_state) by_end in
    let by_frames = subst (λ f. Concludes result r.end (is_done r.state) (flat_map (λ frame. frame) f) old.link now.link) is_frames by_done in
    comes_by result r Left old now (record { is_state = is_state; held = held }) by_frames
