-- Entries of turns, and how they end.
use Rattle.std.proofs.Common.{◌≡◌, ◌↔◌, ℕ, List, [], ◌∷◌, ◌++◌, Bool, true, false, if◌then◌else◌, Option, Some, None, refl, sym, ap, ◌∙◌}
use Rattle.std.proofs.lemmas.Bool.{false≢true}
use Rattle.jt_stream.specs.Unplaced.{Unplaced}
use Rattle.jt_platform.specs.Allowed.{makes_entry}
use Rattle.jt_platform.specs.declared.request.Entry.{Entry}
use Rattle.jt_platform.specs.declared.request.Request.{Request}
use Rattle.jt_platform.specs.declared.request.Reply.{Reply}
use Rattle.jt_platform.specs.declared.request.Reply.TheVariants as say
use Rattle.jt_session.specs.declared.end.End.TheVariants as ends
use Rattle.jt_session.specs.declared.end.Fed.TheVariants.{On, Stop}
use Rattle.jt_session.specs.Law.{ran_short}
use Rattle.jt_session.specs.Talk.{Way, Goes, Stops, Turn, Talked, FitsFrom, IsReplied, asks, is_fenced, talk_from, turn_on}
use Rattle.jt_session.specs.Sessions.{AreUnasked, Seen, before, end_by, end_of, ended_short, entries_on, feed_end, is_unasked, turn_by}
use Rattle.jt_session.specs.Waiting.{ends_by}

-- turns without replies make no entries
way_entries : (k : Talked) (item : Unplaced) (asked : Option Request) (way : Way) → is_unasked way ≡ true → (turn_on k item asked way).entries ≡ k.entries
way_entries k item None (Goes None) e = refl
way_entries k item None (Goes (Some r)) e = refl
way_entries k item None (Stops None) e = refl
way_entries k item None (Stops (Some r)) e = refl
way_entries k item (Some q) (Goes None) e = refl
way_entries k item (Some q) (Goes (Some r)) e = absurd (false≢true e)
way_entries k item (Some q) (Stops None) e = refl
way_entries k item (Some q) (Stops (Some r)) e = absurd (false≢true e)

pub unasked_entries : (k : Talked) (turns : List Turn) → AreUnasked turns → (talk_from k turns).entries ≡ k.entries
unasked_entries k [] are = refl
unasked_entries k (t ∷ older) are = way_entries (talk_from k older) t.item (asks (talk_from k older).state t.item) t.way are.0 ∙ unasked_entries k older are.1

-- the entry of a reply, if it makes one
gained_by : (b : Bool) (k : Talked) (item : Unplaced) (q : Request) (r : Reply) → k.entries ≡ [] → (turn_on k item (Some q) (if b then Goes (Some r) else Stops (Some r))).entries ≡ (if b then (q, r) ∷ [] else [])
gained_by true k item q r none = ap (λ e. (q, r) ∷ e) none
gained_by false k item q r none = none

pub reply_gains : (s : Seen) (item : Unplaced) (q : Request) (r : Reply) → asks s.state item ≡ Some q → (talk_from (before s) (turn_by r item ∷ [])).entries ≡ (if makes_entry r then (q, r) ∷ [] else [])
reply_gains s item q r asked = rw asked (gained_by (makes_entry r) (before s) item q r refl)

pub entry_by : (b : Bool) (k : Talked) (item : Unplaced) (q : Request) (r : Reply) (n : ℕ) (h : List Entry) → k.entries ≡ []
    → (if b then record { session = n; request = q; reply = r } ∷ h else h) ≡ entries_on n (turn_on k item (Some q) (if b then Goes (Some r) else Stops (Some r))).entries ++ h
entry_by true k item q r n h none = ap (λ e. record { session = n; request = q; reply = r } ∷ (entries_on n e ++ h)) (sym none)
entry_by false k item q r n h none = ap (λ e. entries_on n e ++ h) (sym none)

-- the session goes on by a reply exactly where it is not over by it
pub on_by : (r : Reply) → (feed_end r ≡ On) ↔ (ends_by r ≡ false)
on_by (say.Registered code) = (λ e. refl, λ e. refl)
on_by (say.Denied n) = (λ e. refl, λ e. refl)
on_by say.Accepted = (λ e. refl, λ e. refl)
on_by (say.Stored n) = (λ e. refl, λ e. refl)
on_by (say.Repeat n) = (λ e. refl, λ e. refl)
on_by (say.Renumbered n) = (λ e. refl, λ e. refl)
on_by say.NotLive = (λ e. refl, λ e. refl)
on_by (say.Fenced other) = (λ e. absurd cc, λ e. absurd (false≢true (sym e)))
on_by (say.ListFull l) = (λ e. absurd cc, λ e. absurd (false≢true (sym e)))
on_by say.StoreFault = (λ e. absurd cc, λ e. absurd (false≢true (sym e)))
on_by say.Memory = (λ e. absurd cc, λ e. absurd (false≢true (sym e)))

fenced_on : (r : Reply) → makes_entry r ≡ true → (is_fenced r ≡ false) ↔ (feed_end r ≡ On)
fenced_on r entry =
    let same : ends_by r ≡ is_fenced r = ap (λ b. if b then is_fenced r else true) entry in
    (λ e. (on_by r).1 (same ∙ e), λ e. sym same ∙ (on_by r).0 e)

lost_on : (r : Reply) → makes_entry r ≡ false → (true ≡ false) ↔ (feed_end r ≡ On)
lost_on r none =
    let same : ends_by r ≡ true = ap (λ b. if b then is_fenced r else true) none in
    (λ e. absurd (false≢true (sym e)), λ e. sym same ∙ (on_by r).0 e)

short_on : (true ≡ false) ↔ (Stop ends.Memory ≡ On)
short_on = (λ e. absurd (false≢true (sym e)), λ e. absurd cc)

-- a turn goes on exactly where it ends the session by nothing
way_ends : (k : Talked) (item : Unplaced) (asked : Option Request) (way : Way) → IsReplied item asked way → ((turn_on k item asked way).over ≡ false) ↔ (end_by way ≡ On)
way_ends k item None (Goes None) fits = (λ e. refl, λ e. refl)
way_ends k item None (Goes (Some r)) fits = absurd fits
way_ends k item None (Stops None) fits = short_on
way_ends k item None (Stops (Some r)) fits = absurd fits
way_ends k item (Some q) (Goes None) fits = absurd fits
way_ends k item (Some q) (Goes (Some r)) fits = fenced_on r fits
way_ends k item (Some q) (Stops None) fits = short_on
way_ends k item (Some q) (Stops (Some r)) fits = lost_on r fits

-- a reply is no want of memory before the item asked
way_told : (b : Bool) (r : Reply) → ran_short (if b then Goes (Some r) else Stops (Some r)) ≡ false
way_told true r = refl
way_told false r = refl

pub reply_not_short : (r : Reply) (item : Unplaced) (older : List Turn) → ended_short (turn_by r item ∷ older) ≡ false
reply_not_short r item older = way_told (makes_entry r) r

pub turns_end : (k : Talked) (turns : List Turn) → FitsFrom k turns → k.over ≡ false → ((talk_from k turns).over ≡ false) ↔ (end_of turns ≡ On)
turns_end k [] fits on = (λ e. refl, λ e. on)
turns_end k (t ∷ older) fits on = way_ends (talk_from k older) t.item (asks (talk_from k older).state t.item) t.way fits.1
