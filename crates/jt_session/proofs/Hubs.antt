-- A session over a hub.
use Rattle.std.proofs.Common.{◌≡◌, ◌↔◌, ◌≤◌, ◌+◌, ◌-◌, ◌==◌, ◌&&◌, ◌||◌, ℕ, List, [], ◌∷◌, ◌++◌, length, take, drop, Bool, true, false, if◌then◌else◌, Option, Some, None, IfSome, IsSomeAnd, inl, inr, refl, sym, ap, ◌∙◌, subst, arith, length-drop}
use Rattle.std.proofs.lemmas.List.{append-nil, length-take, reverse-append, take_all}
use Rattle.std.proofs.Math.Seq.{take-add}
use Rattle.std.proofs.lemmas.List.{take-append-drop}
use Rattle.std.proofs.lemmas.Bool.{false≢true}
use Rattle.jt_value.specs.Octets.{AreOctets}
use Rattle.jt_value.specs.Sameness.{key_of}
use Rattle.jt_header.specs.declared.header.Header.{Header}
use Rattle.jt_stream.specs.Unplaced.{Unplaced, Message as Frame, Fault}
use Rattle.jt_codec.specs.Bodies.{body}
use Rattle.jt_codec.specs.declared.message.Message.{Message}
use Rattle.jt_codec.specs.declared.message.Message.TheVariants as message
use Rattle.jt_value.specs.declared.refusal.Refusal.{Refusal}
use Rattle.std.proofs.Common.{Result, Ok, Err}
use Rattle.jt_platform.specs.Codes.{code_for}
use Rattle.jt_platform.specs.History.{newest, closed, holder, is_close}
use Rattle.jt_platform.specs.Hub.{history_by}
use Rattle.jt_platform.specs.Allowed.{Opening, Allowed, FencedReply, GuardedReply, makes_entry, is_trouble}
use Rattle.jt_platform.specs.declared.request.Entry.{Entry}
use Rattle.jt_platform.specs.declared.request.Request.{Request}
use Rattle.jt_platform.specs.declared.request.Request.TheVariants as ask
use Rattle.jt_platform.specs.declared.request.Reply.{Reply}
use Rattle.jt_platform.specs.declared.request.Reply.TheVariants as say
use Rattle.jt_value.specs.declared.phone.Phone.{Phone}
use Rattle.jt_value.proofs.OctetLists.{AreOctets-take}
use Rattle.jt_session.specs.declared.step.Step.{Step}
use Rattle.jt_session.specs.declared.step.Step.TheVariants.{Ask, Memory}
use Rattle.jt_session.specs.declared.end.End.{End}
use Rattle.jt_session.specs.declared.end.End.TheVariants as ends
use Rattle.jt_session.specs.declared.end.Fed.{Fed}
use Rattle.jt_session.specs.declared.end.Fed.TheVariants.{On, Stop}
use Rattle.jt_session.specs.Replies.{HasRoomFor}
use Rattle.jt_session.specs.Talk.{State, Way, Goes, Stops, Turn, Talked, turn_on, talk_from, asks, asked_by, is_own, message_of, request_of, request_read, FitsFrom}
use Rattle.jt_session.specs.Sessions.{Seen, LedTo, TakesUnasked, Feeds, HasFedReason, IsRepliedTo, AreUnasked, is_unasked, before, end_by, end_of, entries_on, feed_end, turn_by, MayGo, MayTurn}
use Rattle.jt_session.proofs.Ending.{entry_by, unasked_entries}
use Rattle.jt_session.proofs.Joining.{feeds_both, stops_over}
use Rattle.jt_session.proofs.Onward.{FrontFirst, turns_beyond}

-- ---- turns without replies make no entries

way_may : (o : Opening) (h : List Entry) (n : ℕ) (asked : Option Request) (way : Way) → is_unasked way ≡ true → MayGo o h n asked way
way_may o h n None (Goes None) e = tt
way_may o h n None (Goes (Some r)) e = tt
way_may o h n None (Stops None) e = tt
way_may o h n None (Stops (Some r)) e = tt
way_may o h n (Some q) (Goes None) e = tt
way_may o h n (Some q) (Goes (Some r)) e = absurd (false≢true e)
way_may o h n (Some q) (Stops None) e = tt
way_may o h n (Some q) (Stops (Some r)) e = absurd (false≢true e)

unasked_may : (o : Opening) (h : List Entry) (n : ℕ) (k : Talked) (turns : List Turn) → AreUnasked turns → MayTurn o h n k turns
unasked_may o h n k [] are = tt
unasked_may o h n k (t ∷ older) are = (way_may o (entries_on n (talk_from k older).entries ++ h) n (asks (talk_from k older).state t.item) t.way are.0, unasked_may o h n k older are.1)

-- ---- how turns without replies ended

goes_on : (k : Talked) (item : Unplaced) (asked : Option Request) → k.over ≡ false → (turn_on k item asked (Goes None)).over ≡ false
goes_on k item None on = refl
goes_on k item (Some q) on = on

way_on : (k : Talked) (item : Unplaced) (asked : Option Request) (way : Way) → is_unasked way ≡ true → (turn_on k item asked way).over ≡ false → On ≡ end_by way
way_on k item asked (Goes None) e on = refl
way_on k item asked (Goes (Some r)) e on = absurd (false≢true e)
way_on k item asked (Stops None) e on = absurd (false≢true (sym on ∙ stops_over k item asked))
way_on k item asked (Stops (Some r)) e on = absurd (false≢true e)

pub on_end : (k : Talked) (turns : List Turn) → AreUnasked turns → (talk_from k turns).over ≡ false → On ≡ end_of turns
on_end k [] are on = refl
on_end k (t ∷ older) are on = way_on (talk_from k older) t.item (asks (talk_from k older).state t.item) t.way are.0 on

way_short : (k : Talked) (item : Unplaced) (asked : Option Request) (way : Way) → is_unasked way ≡ true → k.over ≡ false → (turn_on k item asked way).over ≡ true → Stop ends.Memory ≡ end_by way
way_short k item asked (Goes None) e on over = absurd (false≢true (sym (goes_on k item asked on) ∙ over))
way_short k item asked (Goes (Some r)) e on over = absurd (false≢true e)
way_short k item asked (Stops None) e on over = refl
way_short k item asked (Stops (Some r)) e on over = absurd (false≢true e)

pub short_end : (k : Talked) (turns : List Turn) → FitsFrom k turns → AreUnasked turns → k.over ≡ false → (talk_from k turns).over ≡ true → Stop ends.Memory ≡ end_of turns
short_end k [] fits are on over = absurd (false≢true (sym on ∙ over))
short_end k (t ∷ older) fits are on over = way_short (talk_from k older) t.item (asks (talk_from k older).state t.item) t.way are.0 fits.0 over

pub feeds_on : (s now : Seen) (octets : List ℕ) (o : Opening) (h : List Entry) (out out_now : List ℕ) → TakesUnasked s now octets out out_now → now.over ≡ false → Feeds s now octets o h h out out_now On
feeds_on s now octets o h out out_now took on = record {
  turns = took.turns;
  went = took.went;
  allowed = unasked_may o h s.number (before s) took.turns took.unasked;
  entries = ap (λ e. entries_on s.number e ++ h) (sym (unasked_entries (before s) took.turns took.unasked));
  wrote = took.wrote;
  ended = on_end (before s) took.turns took.unasked (sym took.went.over ∙ on);
}

pub feeds_short : (s now : Seen) (octets : List ℕ) (o : Opening) (h : List Entry) (out out_now : List ℕ) → TakesUnasked s now octets out out_now → s.over ≡ false → now.over ≡ true → Feeds s now octets o h h out out_now (Stop ends.Memory)
feeds_short s now octets o h out out_now took on over = record {
  turns = took.turns;
  went = took.went;
  allowed = unasked_may o h s.number (before s) took.turns took.unasked;
  entries = ap (λ e. entries_on s.number e ++ h) (sym (unasked_entries (before s) took.turns took.unasked));
  wrote = took.wrote;
  ended = short_end (before s) took.turns took.went.fits took.unasked on (sym took.went.over ∙ over);
}

-- ---- one request and its reply

not_trouble : (r : Reply) → makes_entry r ≡ true → is_trouble r ≡ false
not_trouble (say.ListFull l) e = refl
not_trouble say.StoreFault e = absurd (false≢true e)
not_trouble say.Memory e = absurd (false≢true e)
not_trouble (say.Registered code) e = refl
not_trouble (say.Denied n) e = refl
not_trouble say.Accepted e = refl
not_trouble (say.Stored n) e = refl
not_trouble (say.Repeat n) e = refl
not_trouble (say.Renumbered n) e = refl
not_trouble say.NotLive e = refl
not_trouble (say.Fenced other) e = refl

may_by : (b : Bool) (o : Opening) (h : List Entry) (n : ℕ) (q : Request) (r : Reply) → makes_entry r ≡ b → (is_trouble r ≡ false → Allowed o h n q r) → MayGo o h n (Some q) (if b then Goes (Some r) else Stops (Some r))
may_by true o h n q r e allowed = allowed (not_trouble r e)
may_by false o h n q r e allowed = allowed

pub end_way : (b : Bool) (r : Reply) → feed_end r ≡ end_by (if b then Goes (Some r) else Stops (Some r))
end_way true r = refl
end_way false r = refl

newest_by : (b : Bool) (h : List Entry) (e : Entry) → newest (if b then h ++ e ∷ [] else h) ≡ (if b then e ∷ newest h else newest h)
newest_by true h e = reverse-append h (e ∷ [])
newest_by false h e = refl

pub feeds_reply : (s now : Seen) (o : Opening) (h h_now : List Entry) (out out_now : List ℕ) (item : Unplaced) (q : Request) (r : Reply) → IsRepliedTo s now r out out_now item → asks s.state item ≡ Some q → (is_trouble r ≡ false → Allowed o (newest h) s.number q r) → h_now ≡ history_by s.number q r h
    → Feeds s now [] o (newest h) (newest h_now) out out_now (feed_end r)
feeds_reply s now o h h_now out out_now item q r did asked allowed history = record {
  turns = turn_by r item ∷ [];
  went = did.turn;
  allowed = (rw asked (may_by (makes_entry r) o (newest h) s.number q r refl allowed), tt);
  entries = ap newest history ∙ (newest_by (makes_entry r) h (record { session = s.number; request = q; reply = r }) ∙ rw asked (entry_by (makes_entry r) (before s) item q r s.number (newest h) refl));
  wrote = did.wrote;
  ended = end_way (makes_entry r) r;
}

-- ---- octets behind the end

pub feeds_beyond : FrontFirst → (s now : Seen) (a b : List ℕ) (o : Opening) (h h_now : List Entry) (out out_now : List ℕ) (fed : Fed) (fd : Feeds s now a o h h_now out out_now fed) → now.over ≡ true
    → (all : Feeds s now (a ++ b) o h h_now out out_now fed) × (all.turns ≡ fd.turns)
feeds_beyond front s now a b o h h_now out out_now fed fd over = (
  record {
    turns = fd.turns;
    went = turns_beyond front s now a b fd.turns over fd.went;
    allowed = fd.allowed;
    entries = fd.entries;
    wrote = fd.wrote;
    ended = fd.ended;
  },
  refl,
)

pub beyond : FrontFirst → (s now : Seen) (a b : List ℕ) (o : Opening) (h h_now : List Entry) (out out_now : List ℕ) (fed : Fed) → Feeds s now a o h h_now out out_now fed → now.over ≡ true → Feeds s now (a ++ b) o h h_now out out_now fed
beyond front s now a b o h h_now out out_now fed fd over = (feeds_beyond front s now a b o h h_now out out_now fed fd over).0

-- ---- no session asks for a Close

never_close : (h : Header) (octets : List ℕ) (m : Message) → is_close (request_of h octets m) ≡ false
never_close h octets (message.Register register) = refl
never_close h octets (message.Auth auth) = refl
never_close h octets (message.Position position) = refl
never_close h octets (message.Batch batch) = refl
never_close h octets message.Deregister = refl
never_close h octets other = refl

read_close : (m : Header × List ℕ) (r : Result Message Refusal) (q : Request) → request_read m r ≡ Some q → is_close q ≡ false
read_close m (Ok read) q e =
    let same : request_of m.0 m.1 read ≡ q = cc in
    ap is_close (sym same) ∙ never_close m.0 m.1 read
read_close m (Err refusal) q e = absurd cc

message_close : (m : Option (Header × List ℕ)) (q : Request) → asked_by m ≡ Some q → is_close q ≡ false
message_close None q e = absurd cc
message_close (Some m) q e = read_close m ((body m.0.edition m.0.id).read m.1 0) q e

own_close : (own : Bool) (m : Option (Header × List ℕ)) (q : Request) → (if own then asked_by m else None) ≡ Some q → is_close q ≡ false
own_close true m q e = message_close m q e
own_close false m q e = absurd cc

pub asks_no_close : (s : State) (item : Unplaced) (q : Request) → asks s item ≡ Some q → is_close q ≡ false
asks_no_close s (Fault place why) q e = absurd cc
asks_no_close s (Frame h octets) q e = own_close (is_own s.phone h.phone) (message_of s h octets h.packet) q e

none_and : (b : Bool) → (b && false) ≡ false
none_and true = refl
none_and false = refl

closed_by : (b : Bool) (h : List Entry) (n : ℕ) (q : Request) (r : Reply) (session : ℕ) → is_close q ≡ false → closed (if b then record { session = n; request = q; reply = r } ∷ h else h) session ≡ closed h session
closed_by true h n q r session e = ap (λ x. ((n == session) && x) || closed h session) e ∙ ap (λ x. x || closed h session) (none_and (n == session))
closed_by false h n q r session e = refl

pub closed_same : (h h_now : List Entry) (n : ℕ) (q : Request) (r : Reply) (session : ℕ) → is_close q ≡ false → h_now ≡ history_by n q r h → closed (newest h_now) session ≡ closed (newest h) session
closed_same h h_now n q r session e history =
    ap (λ x. closed (newest x) session) history ∙ (ap (λ x. closed x session) (newest_by (makes_entry r) h (record { session = n; request = q; reply = r })) ∙ closed_by (makes_entry r) (newest h) n q r session e)

-- ---- a reply's code is short

code_short : (secret code : List ℕ) (phone : Phone) → code ≡ code_for secret phone → length code ≤ 1020
unfolding code_for
code_short secret code phone is = omega (arith, ap length is, length-take {A = ℕ})

fenced_room : (session : ℕ) (holds : Option ℕ) (code : List ℕ) → FencedReply session holds (say.Registered code) → length code ≤ 1020
fenced_room session None code e = absurd e
fenced_room session (Some other) code e = absurd (let same = e.1 in cc)

guarded_room : (key : List ℕ) (h : List Entry) (session : ℕ) (code : List ℕ) (Otherwise : Type 0) → (Otherwise → ⊥) → GuardedReply key h session (say.Registered code) Otherwise → length code ≤ 1020
guarded_room key h session code Otherwise never (inl e) = absurd (let same = e.1 in cc)
guarded_room key h session code Otherwise never (inr (live, inl e)) = fenced_room session (holder key h) code e
guarded_room key h session code Otherwise never (inr (live, inr e)) = absurd (never e.1)

registered_room : (o : Opening) (h : List Entry) (session : ℕ) (q : Request) (code : List ℕ) → Allowed o h session q (say.Registered code) → length code ≤ 1020
registered_room o h session (ask.Register phone register) code (inl e) = absurd (let same = e.1 in cc)
registered_room o h session (ask.Register phone register) code (inr e) = code_short o.secret code phone e.1.0
registered_room o h session (ask.Auth phone other) code (inl e) = absurd (let same = e.1 in cc)
registered_room o h session (ask.Auth phone other) code (inr e) = absurd e.1
registered_room o h session (ask.Unit phone serial id octets) code (inl e) = absurd (let same = e.1 in cc)
registered_room o h session (ask.Unit phone serial id octets) code (inr e) = guarded_room (key_of phone) h session code ⊥ (λ x. x) e.1
registered_room o h session (ask.Deregister phone) code (inl e) = absurd (let same = e.1 in cc)
registered_room o h session (ask.Deregister phone) code (inr e) = guarded_room (key_of phone) h session code (say.Registered code ≡ say.Accepted) (λ x. cc) e.1
registered_room o h session (ask.Other phone id) code (inl e) = absurd (let same = e.1 in cc)
registered_room o h session (ask.Other phone id) code (inr e) = guarded_room (key_of phone) h session code (say.Registered code ≡ say.Accepted) (λ x. cc) e.1
registered_room o h session ask.Close code e = absurd cc

pub reply_room : (o : Opening) (h : List Entry) (session : ℕ) (q : Request) (r : Reply) → (is_trouble r ≡ false → Allowed o h session q r) → HasRoomFor r
reply_room o h session q (say.Registered code) allowed = registered_room o h session q code (allowed refl)
reply_room o h session q (say.Denied n) allowed = tt
reply_room o h session q say.Accepted allowed = tt
reply_room o h session q (say.Stored n) allowed = tt
reply_room o h session q (say.Repeat n) allowed = tt
reply_room o h session q (say.Renumbered n) allowed = tt
reply_room o h session q say.NotLive allowed = tt
reply_room o h session q (say.Fenced other) allowed = tt
reply_room o h session q (say.ListFull l) allowed = tt
reply_room o h session q say.StoreFault allowed = tt
reply_room o h session q say.Memory allowed = tt

-- ---- the request that waits

pub waits_for : (w : Option Unplaced) (P : Unplaced → Type 0) → IsSomeAnd w P → (item : Unplaced) × (w ≡ Some item) × P item
waits_for None P waits = absurd waits
waits_for (Some item) P waits = (item, refl, waits)

pub ask_feeds : (s now : Seen) (o : Opening) (h h_now : List Entry) (out out_now : List ℕ) (n : ℕ) (q : Request) (r : Reply) (fed : Fed) → IsSomeAnd s.waiting (λ item. asks s.state item ≡ Some q) → IfSome s.waiting (IsRepliedTo s now r out out_now) → n ≡ s.number
    → (is_trouble r ≡ false → Allowed o (newest h) n q r) → h_now ≡ history_by n q r h → fed ≡ feed_end r → Feeds s now [] o (newest h) (newest h_now) out out_now fed
ask_feeds s now o h h_now out out_now n q r fed waits did same allowed history is =
    let item = waits_for s.waiting (λ item. asks s.state item ≡ Some q) waits in
    subst (λ f. Feeds s now [] o (newest h) (newest h_now) out out_now f) (sym is)
    (feeds_reply s now o h h_now out out_now item.0 q r (subst (λ w. IfSome w (IsRepliedTo s now r out out_now)) item.1 did) item.2
    (λ calm. subst (λ m. Allowed o (newest h) m q r) same (allowed calm)) (history ∙ ap (λ m. history_by m q r h) same))

pub ask_closed : (s : Seen) (h h_now : List Entry) (n : ℕ) (q : Request) (r : Reply) (session : ℕ) → IsSomeAnd s.waiting (λ item. asks s.state item ≡ Some q) → h_now ≡ history_by n q r h → closed (newest h_now) session ≡ closed (newest h) session
ask_closed s h h_now n q r session waits history =
    let item = waits_for s.waiting (λ item. asks s.state item ≡ Some q) waits in
    closed_same h h_now n q r session (asks_no_close s.state item.0 q item.2) history

-- ---- pieces

pub feeds_more : (first mid now : Seen) (octets : List ℕ) (taken count : ℕ) (o : Opening) (h h_mid h_now : List Entry) (front out out_now : List ℕ) (fed : Fed) → AreOctets octets → Feeds first mid (take taken octets) o h h_mid front out On → mid.over ≡ false
    → Feeds mid now (take count (take (length octets - taken) (drop taken octets))) o h_mid h_now out out_now fed → Feeds first now (take (taken + count) octets) o h h_now front out_now fed
feeds_more first mid now octets taken count o h h_mid h_now front out out_now fed are so_far on more =
    let piece : take (length octets - taken) (drop taken octets) ≡ drop taken octets = take_all (length octets - taken) (drop taken octets) (omega (arith, length-drop taken octets)) in
    subst (λ some. Feeds first now some o h h_now front out_now fed) (ap (λ rest. take taken octets ++ take count rest) piece ∙ sym (take-add taken count octets))
    (feeds_both first mid now (take taken octets) (take count (take (length octets - taken) (drop taken octets))) o h h_mid h_now front out out_now fed so_far more on (AreOctets-take taken octets are))

pub feeds_then : (first mid now : Seen) (octets : List ℕ) (o : Opening) (h h_mid h_now : List Entry) (front out out_now : List ℕ) (fed : Fed) → AreOctets octets → Feeds first mid octets o h h_mid front out On → mid.over ≡ false
    → Feeds mid now [] o h_mid h_now out out_now fed → Feeds first now octets o h h_now front out_now fed
feeds_then first mid now octets o h h_mid h_now front out out_now fed are so_far on more =
    subst (λ some. Feeds first now some o h h_now front out_now fed) (append-nil octets) (feeds_both first mid now octets [] o h h_mid h_now front out out_now fed so_far more on are)

pub feeds_ended : FrontFirst → (first now : Seen) (octets : List ℕ) (taken : ℕ) (o : Opening) (h h_now : List Entry) (front out_now : List ℕ) (fed : Fed)
    → Feeds first now (take taken octets) o h h_now front out_now fed → now.over ≡ true → Feeds first now octets o h h_now front out_now fed
feeds_ended law first now octets taken o h h_now front out_now fed so_far over =
    subst (λ some. Feeds first now some o h h_now front out_now fed) (take-append-drop taken octets) (beyond law first now (take taken octets) (drop taken octets) o h h_now front out_now fed so_far over)

-- ---- the keeper's faults

pub never_stops : On ≡ Stop ends.StoreFault → ⊥
never_stops e = cc

pub reason_none : (faults : ℕ) (may : Bool) (fed : Fed) → (fed ≡ Stop ends.StoreFault → ⊥) → HasFedReason faults faults may may fed
reason_none faults may fed never = record { later = omega arith; fault = λ e. absurd (never e); still = λ e. refl; steady = λ e. (e, never) }

pub reason_both : (a b c : ℕ) (m m_mid m_now : Bool) (fed : Fed) → HasFedReason a b m m_mid On → HasFedReason b c m_mid m_now fed → HasFedReason a c m m_now fed
reason_both a b c m m_mid m_now fed first second = record {
  later = omega (arith, first.later, second.later);
  fault = λ e. let rose = second.fault e in omega (arith, rose, first.later);
  still = λ e. second.still e ∙ first.still never_stops;
  steady = λ e. second.steady (first.steady e).0;
}

-- what is not false is true
pub ended : (b : Bool) (fed : Fed) (end : End) → (fed ≡ On) ↔ (b ≡ false) → fed ≡ Stop end → b ≡ true
ended true fed end iff is = refl
ended false fed end iff is = absurd (let on = iff.1 refl in cc)

pub led_ask : (now : Seen) (step : Step) (q : Request) → step ≡ Ask q → LedTo now step → IsSomeAnd now.waiting (λ item. asks now.state item ≡ Some q) × (now.over ≡ false)
led_ask now step q is led = subst (LedTo now) is led

pub led_short : (now : Seen) (step : Step) → step ≡ Memory → LedTo now step → (now.waiting ≡ None) × (now.over ≡ true)
led_short now step is led = subst (LedTo now) is led

-- over the same opening, with the answer that was found
pub fed_on : (s now : Seen) (octets : List ℕ) (o other : Opening) (h h_now : List Entry) (out out_now : List ℕ) (fed found : Fed) → o ≡ other → fed ≡ found → Feeds s now octets o h h_now out out_now fed → Feeds s now octets other h h_now out out_now found
fed_on s now octets o other h h_now out out_now fed found same is did =
    subst (λ x. Feeds s now octets x h h_now out out_now found) same (subst (λ f. Feeds s now octets o h h_now out out_now f) is did)

pub reason_on : (a b : ℕ) (m m_now : Bool) (fed found : Fed) → fed ≡ found → HasFedReason a b m m_now fed → HasFedReason a b m m_now found
reason_on a b m m_now fed found is reason = subst (λ f. HasFedReason a b m m_now f) is reason
