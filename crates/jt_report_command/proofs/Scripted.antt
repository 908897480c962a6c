-- A terminal that is told a script with the acceptances of all that it sends, in time, goes on, and is done at the script's end.
use Rattle.std.proofs.Common.{◌≡◌, ◌≢◌, ◌≤◌, ◌<◌, ◌+◌, ◌*◌, ◌++◌, ℕ, List, [], ◌∷◌, Bool, true, false, Option, Some, None, All, length, drop, map, refl, sym, ap, ◌∙◌, subst, arith, append_assoc}
use Rattle.std.specs.Prelude.{◌&&◌, nat_le, if◌then◌else◌}
use Rattle.std.specs.List.{flat_map}
use Rattle.std.proofs.Math.Seq.{drop-append_seam}
use Rattle.std.proofs.lemmas.List.Elements.{All-cons, All-head, All-nil, All-tail}
use Rattle.std.proofs.lemmas.List.{append_cancel_left, map-append}
use Rattle.jt_escape.specs.Frame.{framed}
use Rattle.jt_escape.specs.Span.{IsContent}
use Rattle.jt_header.specs.declared.header.Header.{Header}
use Rattle.jt_header.specs.declared.header.Packet.{Packet}
use Rattle.jt_stream.specs.Unplaced.{Unplaced, items, of_content}
use Rattle.jt_subpacket.specs.Partials.{Partial}
use Rattle.jt_codec.specs.declared.message.Message.{Message}
use Rattle.jt_outside.specs.Time.{Time, TellsAll}
use Rattle.jt_terminal_rule.specs.Rule.{Heard, Ruled, Whole, fill, fill_window, gives_up, has_passed, is_silent, is_waiting, on_message, on_tick, or_stays, repeat_sending, rule, say_heartbeat, send_next, stays, and_then, watch_and_fill}
use Rattle.jt_terminal_rule.specs.declared.state.Event.TheVariants.{Opened}
use Rattle.jt_terminal_rule.specs.declared.state.GiveUp.{GiveUp}
use Rattle.jt_terminal_rule.specs.declared.state.GiveUp.TheVariants.{TimedOut}
use Rattle.jt_terminal_rule.specs.declared.state.Phase.{Phase}
use Rattle.jt_terminal_rule.specs.declared.state.Phase.TheVariants.{Down, Registering, Authenticating, Live}
use Rattle.jt_terminal_rule.specs.declared.state.State.{State}
use Rattle.jt_terminal_rule.specs.declared.state.Timing.{Timing}
use Rattle.jt_terminal.specs.Line.{kept_by, new_items, of_body, of_frame, of_item, partial_of, rule_at, rule_at_items, rule_at_octets, then_unless, then_unless_over}
use Rattle.jt_agent.specs.Course.{ARead, GaveUp, Move, Opens, Reads, Stop, Ticks, Waits, course, due, is_done, moments_of, stop_of, waits_of}
use Rattle.jt_report_command.specs.Answered.{AnswersAll, HearsFront}
use Rattle.jt_report_command.specs.Scripted.{AcceptsAll, HoldsAcceptances, IsHeardAs, IsInTime, IsSoon, is_due}
use Rattle.jt_report_command.proofs.Accepting.{IsFull, accepts_alike, goes, opened_alike, opened_full, opened_on, still_full}
use Rattle.jt_report_command.proofs.Timing.{Kept, due_in_time, first_least, later_kept, opened_kept}

-- ---- frames that are heard

-- the terminal goes on, full, waits for no answer a second time, and what is left accepts all
record GoesOver (timing : Timing) (first : ℕ) (r : Ruled) (left : List (List ℕ)) : Type 0 where
  on : r.end ≡ None
  full : IsFull r.state
  kept : Kept timing first r.state
  accepts : AcceptsAll r.state left

over : (timing : Timing) (first : ℕ) (r : Ruled) (f : State → Ruled) (left : List (List ℕ)) → r.end ≡ None → GoesOver timing first (f r.state) left → GoesOver timing first (then_unless_over r f) left
over timing first r f left on rest = by r.end on
  where
    by : (e : Option GiveUp) → e ≡ None → GoesOver timing first (then_unless e r f) left
    by None is = record { on = rest.on; full = rest.full; kept = rest.kept; accepts = rest.accepts }
    by (Some cause) is = absurd (cc is)

whole_frame : (partial : List Partial) (h : Header) (octets : List ℕ) (p : Option Packet) → p ≡ None → of_frame partial h octets p ≡ Some (of_body h octets)
whole_frame partial h octets None is = refl
whole_frame partial h octets (Some packet) is = absurd (cc is)

heard_item : (partial : List Partial) (content : List ℕ) (h : Header) (m : Message) → IsHeardAs content h m → of_item partial (of_content content) ≡ Some (Whole h m)
heard_item partial content h m heard =
    ap (of_item partial) heard.frame ∙ (whole_frame partial h heard.body h.packet heard.whole ∙ ap Some heard.message)

hears_all : (timing : Timing) (first : ℕ) (new left : List (List ℕ)) (s : State) (partial : List Partial) → IsFull s → Kept timing first s → AcceptsAll s (new ++ left)
    → GoesOver timing first (rule_at_items s partial (map of_content new)) left
hears_all timing first [] left s partial full kept acc = record { on = refl; full = full; kept = kept; accepts = acc }
hears_all timing first (content ∷ new) left s partial full kept acc =
    let h = acc.0 in
    let m = acc.1 in
    let g = goes s h m acc.3 in
    let more = kept_by partial (of_content content) in
    subst (λ (x : Option Heard). GoesOver timing first (then_unless_over (rule_at s x) (λ t. rule_at_items t more (map of_content new))) left) (sym (heard_item partial content h m acc.2))
    (over timing first (on_message s h m) (λ t. rule_at_items t more (map of_content new)) left g.on (hears_all timing first new left (on_message s h m).state more g.full (g.kept timing first kept) acc.4))

all_good : (contents : List (List ℕ)) (s : State) → AcceptsAll s contents → All IsContent contents
all_good [] s acc = All-nil IsContent
all_good (content ∷ contents) s acc = All-cons IsContent content contents acc.2.good (all_good contents (on_message s acc.0 acc.1).state acc.4)

-- ---- a moment

ticked : (p : Phase) (s : State) → is_due p s ≡ false → IsFull s → s.phase ≡ p → watch_and_fill p s ≡ stays s
ticked Down s quiet full is = refl
ticked (Registering serial) s quiet full is = refl
ticked (Authenticating serial) s quiet full is = refl
ticked (Live serial) s quiet full is = by (is_silent s) quiet
  where
    filled : (o : Option Ruled) → o ≡ None → or_stays s o (fill 15) ≡ stays s
    filled None e = refl
    filled (Some r) e = absurd (cc e)

    by : (x : Bool) → x ≡ false → and_then (if x then say_heartbeat s else stays s) fill_window ≡ stays s
    by true e = absurd (cc e)
    by false e = filled (send_next s) (full serial is)

-- nothing happens where no wait has passed, no heartbeat is due, and the window is full
quiet_tick : (s : State) → has_passed s ≡ false → is_due s.phase s ≡ false → IsFull s → on_tick s ≡ stays s
quiet_tick s in_time quiet full = by (has_passed s) in_time
  where
    by : (x : Bool) → x ≡ false
        → (if x then (if nat_le s.wait.sendings s.wait.repeats then and_then (repeat_sending s) (watch_and_fill s.phase) else gives_up s [] (TimedOut s.wait.since s.time)) else watch_and_fill s.phase s) ≡ stays s
    by true e = absurd (cc e)
    by false e = ticked s.phase s quiet full refl

down_waits : (p : Phase) (sent : ℕ) → p ≡ Down → is_waiting p sent ≡ false
down_waits Down sent e = refl
down_waits (Registering serial) sent e = absurd (cc e)
down_waits (Authenticating serial) sent e = absurd (cc e)
down_waits (Live serial) sent e = absurd (cc e)

down_due : (p : Phase) (s : State) → p ≡ Down → is_due p s ≡ false
down_due Down s e = refl
down_due (Registering serial) s e = absurd (cc e)
down_due (Authenticating serial) s e = absurd (cc e)
down_due (Live serial) s e = absurd (cc e)

down_tick : (s : State) → s.phase ≡ Down → on_tick s ≡ stays s
down_tick s is = quiet_tick s (by (is_waiting s.phase s.sent) (down_waits s.phase s.sent is) (nat_le _ s.time)) (down_due s.phase s is) (λ serial live. let no = sym is ∙ live in absurd (cc no))
  where
    by : (x : Bool) → x ≡ false → (y : Bool) → (x && y) ≡ false
    by true e y = absurd (cc e)
    by false e y = refl

-- ---- items of a front

split_map : {A B : Type 0} (f : A → B) (xs : List A) (ys zs : List B) → map f xs ≡ ys ++ zs → (a : List A) × (b : List A) × (xs ≡ a ++ b) × (ys ≡ map f a)
split_map f xs [] zs e = ([], xs, refl, refl)
split_map f [] (y ∷ ys) zs e = absurd (cc e)
split_map f (x ∷ xs) (y ∷ ys) zs e =
    let first : f x ≡ y = cc e in
    let rest : map f xs ≡ ys ++ zs = cc e in
    let s = split_map f xs ys zs rest in
    (x ∷ s.0, s.1, ap (λ l. x ∷ l) s.2, cc (first, s.3))

none_left : {A B : Type 0} (f : A → B) (front left : List A) → map f (front ++ left) ≡ map f front → left ≡ []
none_left f [] [] e = refl
none_left f [] (x ∷ left) e = absurd (cc e)
none_left f (y ∷ front) left e = let rest : map f (front ++ left) ≡ map f front = cc e in none_left f front left rest

-- ---- a course

not_given_up : (stop : Option Stop) (end : Option GiveUp) (done : Bool) → stop ≡ stop_of end done → end ≡ None → (cause : GiveUp) → stop ≢ Some (GaveUp cause)
not_given_up stop None true is none cause e = let no = sym is ∙ e in absurd (cc no)
not_given_up stop None false is none cause e = let no = sym is ∙ e in absurd (cc no)
not_given_up stop (Some c) done is none cause e = absurd (cc none)

is_open : (end : Option GiveUp) (done : Bool) → stop_of end done ≡ None → done ≡ false
is_open None true e = absurd (cc e)
is_open None false e = refl
is_open (Some cause) done e = absurd (cc e)

tells_front : (moments : List ℕ) (last : ℕ) (old now : Time) → TellsAll old now (moments ++ last ∷ []) → (mid : Time) × TellsAll old mid moments
tells_front [] last old now all = (old, refl)
tells_front (moment ∷ moments) last old now all = let rest = tells_front moments last all.0 now all.2 in (rest.0, (all.0, all.1, rest.1))

-- no wait has passed at a moment, and no heartbeat is due
abbrev NoneIsDue : State → ℕ → Type 0
NoneIsDue s now = (has_passed (record s { time = now }) ≡ false) × (is_due s.phase (record s { time = now }) ≡ false)

module _ (t : State) (down : t.phase ≡ Down) (octets : List ℕ) (time : Time) (has : HoldsAcceptances t octets)
    (in_time : (moves : List Move) (now first : ℕ) (later : List ℕ) → HearsFront t octets time (Ticks now ∷ moves) → moments_of moves ≡ first ∷ later → Kept t.timing first (course t moves).state
    → NoneIsDue (course t moves).state now)
    (of_frames : (contents : List (List ℕ)) → All IsContent contents → items (flat_map framed contents) ≡ map of_content contents)
    (of_front : (front rest : List ℕ) → (more : List Unplaced) × (items (front ++ rest) ≡ items front ++ more)) where
  script : items octets ≡ map of_content has.contents
  script = ap items has.frames ∙ of_frames has.contents (all_good has.contents (rule t Opened).state has.accepts)

  -- a terminal that heard some of the frames, and perhaps a part of the next one
  record Stands (moves : List Move) : Type 0 where
    first : ℕ
    later : List ℕ
    moments : moments_of moves ≡ first ∷ later
    kept : Kept t.timing first (course t moves).state
    front : List (List ℕ)
    left : List (List ℕ)
    parts : has.contents ≡ front ++ left
    read : items (course t moves).read ≡ map of_content front
    full : IsFull (course t moves).state
    accepts : AcceptsAll (course t moves).state left
    waits : is_done (course t moves).state ≡ false

  -- what is so of a terminal that was told this and did not end the attempt
  abbrev Holds : List Move → Type 0
  Holds [] = Unit {0}
  Holds (Ticks now ∷ []) = (course t (Ticks now ∷ [])).state ≡ record t { time = now }
  Holds (Ticks now ∷ move ∷ older) = Stands (Ticks now ∷ move ∷ older)
  Holds (Opens ∷ older) = Stands (Opens ∷ older)
  Holds (Reads piece ∷ older) = Stands (Reads piece ∷ older)
  Holds (Waits ∷ older) = Unit {0}

  abbrev Well : List Move → Type 0
  Well moves = ((cause : GiveUp) → (course t moves).stop ≢ Some (GaveUp cause)) × ((course t moves).stop ≡ None → Holds moves)

  at_read : (moves : List Move) → due moves ≡ ARead → Holds moves → Stands moves
  at_read [] e holds = absurd (cc e)
  at_read (Ticks now ∷ []) e holds = absurd (cc e)
  at_read (Ticks now ∷ move ∷ older) e holds = holds
  at_read (Opens ∷ older) e holds = holds
  at_read (Reads piece ∷ older) e holds = absurd (cc e)
  at_read (Waits ∷ older) e holds = absurd (cc e)

  -- the same, told less
  before_tick : (now : ℕ) (older : List Move) → HearsFront t octets time (Ticks now ∷ older) → HearsFront t octets time older
  before_tick now older h =
      let m = tells_front (moments_of older) now time h.time_now h.moments in
      record { fits = h.fits.3; none_quiet = h.none_quiet; time_now = m.0; moments = m.1; rest = h.rest; front = h.front }

  before_opening : (older : List Move) → HearsFront t octets time (Opens ∷ older) → HearsFront t octets time older
  before_opening older h = record { fits = h.fits.3; none_quiet = h.none_quiet; time_now = h.time_now; moments = h.moments; rest = h.rest; front = h.front }

  before_read : (piece : List ℕ) (older : List Move) → HearsFront t octets time (Reads piece ∷ older) → HearsFront t octets time older
  before_read piece older h = record {
    fits = h.fits.3;
    none_quiet = h.none_quiet;
    time_now = h.time_now;
    moments = h.moments;
    rest = piece ++ h.rest;
    front = h.front ∙ append_assoc (course t older).read piece h.rest;
  }

  -- ---- the first moment

  first_tick : (now : ℕ) → Well (Ticks now ∷ [])
  first_tick now =
      let is = down_tick (record t { time = now }) down in
      (not_given_up _ (on_tick (record t { time = now })).end _ refl (ap (λ (r : Ruled). r.end) is), λ e. ap (λ (r : Ruled). r.state) is)

  -- ---- a line that is opened

  opens_from : (now : ℕ) (s : State) → s ≡ record t { time = now } → AcceptsAll (rule s Opened).state has.contents
  opens_from now s is =
      subst (λ (s : State). AcceptsAll (rule s Opened).state has.contents) (sym is) (accepts_alike has.contents (rule t Opened).state (rule (record t { time = now }) Opened).state (opened_alike t now) has.accepts)

  opens : (now : ℕ) → (course t (Ticks now ∷ [])).stop ≡ None → Well (Ticks now ∷ []) → Well (Opens ∷ Ticks now ∷ [])
  opens now on well =
      let s = (course t (Ticks now ∷ [])).state in (
        not_given_up _ (rule s Opened).end _ refl (opened_on s),
        λ e. record {
          first = now;
          later = [];
          moments = refl;
          kept = subst (λ (s : State). Kept t.timing now (rule s Opened).state) (sym (well.1 on)) (opened_kept (record t { time = now }));
          front = [];
          left = has.contents;
          parts = refl;
          read = refl;
          full = opened_full s;
          accepts = opens_from now s (well.1 on);
          waits = is_open (rule s Opened).end _ e;
        },
      )

  -- ---- a piece

  reads : (piece : List ℕ) (older : List Move) → Stands older → (rest : List ℕ) → octets ≡ ((course t older).read ++ piece) ++ rest → Well (Reads piece ∷ older)
  reads piece older stands rest is =
      let c = course t older in
      let more = of_front c.read piece in
      let behind = of_front (c.read ++ piece) rest in
      let all : map of_content (stands.front ++ stands.left) ≡ map of_content stands.front ++ (more.0 ++ behind.0) =
      ap (map of_content) (sym stands.parts) ∙ (sym script ∙ (ap items is ∙ (behind.1 ∙ (ap (λ l. l ++ behind.0) (more.1 ∙ ap (λ l. l ++ more.0) stands.read) ∙ append_assoc (map of_content stands.front) more.0 behind.0)))) in
      let rest_all : map of_content stands.left ≡ more.0 ++ behind.0 = append_cancel_left (map of_content stands.front) _ _ (sym (map-append of_content stands.front stands.left) ∙ all) in
      let split = split_map of_content stands.left more.0 behind.0 rest_all in
      let new : new_items c.read piece ≡ map of_content split.0 = ap (drop (length (items c.read))) more.1 ∙ (drop-append_seam (items c.read) more.0 ∙ split.3) in
      let goes = hears_all t.timing stands.first split.0 split.1 c.state (partial_of c.read) stands.full stands.kept (subst (AcceptsAll c.state) split.2 stands.accepts) in
      let over : GoesOver t.timing stands.first (rule_at_octets c.state c.read piece) split.1 = subst (λ l. GoesOver t.timing stands.first (rule_at_items c.state (partial_of c.read) l) split.1) (sym new) goes in (
        not_given_up _ (rule_at_octets c.state c.read piece).end _ refl over.on,
        λ e. record {
          first = stands.first;
          later = stands.later;
          moments = stands.moments;
          kept = over.kept;
          front = stands.front ++ split.0;
          left = split.1;
          parts = stands.parts ∙ (ap (λ l. stands.front ++ l) split.2 ∙ sym (append_assoc stands.front split.0 split.1));
          read = more.1 ∙ (ap (λ l. l ++ more.0) stands.read ∙ (ap (λ l. map of_content stands.front ++ l) split.3 ∙ sym (map-append of_content stands.front split.0)));
          full = over.full;
          accepts = over.accepts;
          waits = is_open (rule_at_octets c.state c.read piece).end _ e;
        },
      )

  -- ---- a later moment

  ticks : (now : ℕ) (move : Move) (older : List Move) → Stands (move ∷ older) → HearsFront t octets time (Ticks now ∷ move ∷ older) → Well (Ticks now ∷ move ∷ older)
  ticks now move older stands h =
      let c = course t (move ∷ older) in
      let s = record c.state { time = now } in
      let none = in_time (move ∷ older) now stands.first stands.later h stands.moments stands.kept in
      let told : moments_of (Ticks now ∷ move ∷ older) ≡ stands.first ∷ (stands.later ++ now ∷ []) = ap (λ l. l ++ now ∷ []) stands.moments in
      let least : stands.first ≤ now = first_least stands.first stands.later now time h.time_now (subst (TellsAll time h.time_now) told h.moments) in
      let full : IsFull s = λ serial live. still_full c.state now (stands.full serial live) in
      let is : on_tick s ≡ stays s = quiet_tick s none.0 none.1 full in (
        not_given_up _ (on_tick s).end _ refl (ap (λ (r : Ruled). r.end) is),
        λ e. record {
          first = stands.first;
          later = stands.later ++ now ∷ [];
          moments = told;
          kept = subst (λ (r : Ruled). Kept t.timing stands.first r.state) (sym is) (later_kept t.timing stands.first c.state now least stands.kept);
          front = stands.front;
          left = stands.left;
          parts = stands.parts;
          read = stands.read;
          full = subst (λ (r : Ruled). IsFull r.state) (sym is) full;
          accepts = subst (λ (r : Ruled). AcceptsAll r.state stands.left) (sym is) (accepts_alike stands.left c.state s (now, c.state.wait, c.state.said, refl) stands.accepts);
          waits = is_open (on_tick s).end _ e;
        },
      )

  -- ---- all moves

  goes_well : (moves : List Move) → HearsFront t octets time moves → Well moves
  goes_well [] h = (λ cause e. absurd (cc e), λ e. tt)
  goes_well (Ticks now ∷ []) h = first_tick now
  goes_well (Ticks now ∷ Reads piece ∷ older) h =
      ticks now (Reads piece) older ((goes_well (Reads piece ∷ older) (before_tick now (Reads piece ∷ older) h)).1 h.fits.0) h
  goes_well (Ticks now ∷ Ticks earlier ∷ []) h = let no = h.fits.1 in absurd (cc no)
  goes_well (Ticks now ∷ Ticks earlier ∷ move ∷ older) h = let no = h.fits.1 in absurd (cc no)
  goes_well (Ticks now ∷ Opens ∷ older) h = let no = h.fits.1 in absurd (cc no)
  goes_well (Ticks now ∷ Waits ∷ older) h = let none : waits_of older + 1 ≡ 0 = h.none_quiet in absurd (omega (arith, none))
  goes_well (Opens ∷ Ticks now ∷ []) h = opens now h.fits.0 (goes_well (Ticks now ∷ []) (before_opening (Ticks now ∷ []) h))
  goes_well (Opens ∷ []) h = let no = h.fits.1 in absurd (cc no)
  goes_well (Opens ∷ Ticks now ∷ move ∷ older) h = let no = h.fits.1 in absurd (cc no)
  goes_well (Opens ∷ Opens ∷ older) h = let no = h.fits.1 in absurd (cc no)
  goes_well (Opens ∷ Reads piece ∷ older) h = let no = h.fits.1 in absurd (cc no)
  goes_well (Opens ∷ Waits ∷ older) h = let no = h.fits.1 in absurd (cc no)
  goes_well (Reads piece ∷ older) h =
      reads piece older (at_read older (sym h.fits.1) ((goes_well older (before_read piece older h)).1 h.fits.0)) h.rest h.front
  goes_well (Waits ∷ older) h = let none : waits_of older + 1 ≡ 0 = h.none_quiet in absurd (omega (arith, none))

  all_read : (moves : List Move) → octets ≡ (course t moves).read → Stands moves → ⊥
  all_read moves is stands =
      let same : map of_content (stands.front ++ stands.left) ≡ map of_content stands.front = ap (map of_content) (sym stands.parts) ∙ (sym script ∙ (ap items is ∙ stands.read)) in
      let done : is_done (course t moves).state ≡ true = subst (AcceptsAll (course t moves).state) (none_left of_content stands.front stands.left same) stands.accepts in
      let no = sym stands.waits ∙ done in absurd (cc no)

  all_answered : AnswersAll t octets time
  all_answered = record {
    goes_on = λ moves cause h. (goes_well moves h).0 cause;
    ends = λ moves h is at. all_read moves is (at_read moves at.next ((goes_well moves h).1 at.on));
  }

-- ---- the clock

all_last : (P : ℕ → Type 0) (xs : List ℕ) (x : ℕ) → All P (xs ++ x ∷ []) → P x
all_last P [] x all = All-head P x [] all
all_last P (y ∷ ys) x all = all_last P ys x (All-tail P y (ys ++ x ∷ []) all)

soon : (t : State) (octets : List ℕ) (time : Time) → IsSoon t.timing time → (moves : List Move) (now first : ℕ) (later : List ℕ) → HearsFront t octets time (Ticks now ∷ moves)
    → moments_of moves ≡ first ∷ later → Kept t.timing first (course t moves).state → NoneIsDue (course t moves).state now
soon t octets time is moves now first later h moments kept =
    let told : moments_of (Ticks now ∷ moves) ≡ first ∷ (later ++ now ∷ []) = ap (λ l. l ++ now ∷ []) moments in
    let all = is.wait h.time_now (first ∷ (later ++ now ∷ [])) (subst (TellsAll time h.time_now) told h.moments) in
    due_in_time t.timing first (course t moves).state now kept is.heartbeat (all_last (λ (m : ℕ). m < first + 1000 * t.timing.answer) (first ∷ later) now all)

-- ---- what the laws say

module _ (t : State) (octets : List ℕ) (time : Time) (down : t.phase ≡ Down) (has : HoldsAcceptances t octets)
    (of_frames : (contents : List (List ℕ)) → All IsContent contents → items (flat_map framed contents) ≡ map of_content contents)
    (of_front : (front rest : List ℕ) → (more : List Unplaced) × (items (front ++ rest) ≡ items front ++ more)) where
  pub answers_in_time : IsInTime t octets time → AnswersAll t octets time
  answers_in_time is = all_answered t down octets time has (λ moves now first later h moments kept. is moves now h) of_frames of_front

  pub answers_soon : IsSoon t.timing time → AnswersAll t octets time
  answers_soon is = all_answered t down octets time has (soon t octets time is) of_frames of_front
