-- How an attempt comes on, and how it ends.
use Rattle.std.proofs.Common.{◌≡◌, inl, inr, ◌≤◌, ◌<◌, ◌+◌, ◌-◌, ℕ, List, [], ◌∷◌, ◌++◌, Option, Some, None, length, Bool, refl, sym, ap, subst, ◌∙◌, length-append, append_assoc, arith}
use Rattle.std.proofs.KnownBytes.{Appends-nil, Appends-trans, Appends-kept, Consumes-nil, Consumes-trans, Consumes-kept}
use Rattle.std.specs.Io.KnownBytes.{Appends, IsAtEnd}
use Rattle.std.specs.List.{flat_map}
use Rattle.std.proofs.lemmas.Grind.{flat_map-append}
use Rattle.jt_value.specs.Counts.{Rose, RoseBy, Counts, counted}
use Rattle.jt_outside.specs.Inbound.{Inbound}
use Rattle.jt_outside.specs.Sink.{AppendsPrefix}
use Rattle.jt_value.specs.Octets.{AreOctets}
use Rattle.jt_value.proofs.OctetLists.{AreOctets-nil, AreOctets-append}
use Rattle.jt_outside.specs.Link.{Wire, Gives, GivesNone}
use Rattle.jt_outside.specs.Time.{Time, TellsTime, TellsAll}
use Rattle.jt_store.specs.Vaults.{Held}
use Rattle.jt_terminal_rule.specs.declared.settings.Settings.{Settings}
use Rattle.jt_terminal_rule.specs.declared.state.State.{State}
use Rattle.jt_terminal_rule.specs.declared.state.Event.TheVariants.{Opened, Tick, Lost}
use Rattle.jt_terminal_rule.specs.declared.state.GiveUp.TheVariants as give_up
use Rattle.jt_terminal_rule.specs.Rule.{Step, Ruled, rule, sends}
use Rattle.jt_terminal_steps.specs.AfterError.{AreSameTables, CutLists, lists_of}
use Rattle.jt_terminal_steps.specs.Running.{holds_after, CutShort, IsDown}
use Rattle.jt_terminal.specs.Line.{LineValue, StandsForLine, rule_at_octets}
use Rattle.jt_agent.specs.Course.{Move, Ticks, Opens, Reads, Waits, Course, course, made, goes_on, due, kind, Due, ATick, AnOpening, ARead, IsPiece, IsAtRead, IsTold, moments_of, waits_of, octets_of, said_octets, Stop, Finished, GaveUp}
use Rattle.jt_agent.specs.Attempt.{AtLink, at_link, Given, LinkCounts, LeavesAt, WasCut, CutLast, Does, HasCause, Attempt, VaultStays, most_quiet}
use Rattle.jt_agent.specs.Moving.{ended_by, IsTrouble, DidRule, LeavesEvent, CutRule, Comes, TicksOnce, Later, ReadsLink, TakesMove, Stands, GoesOn, Did, Exit, Ends, IsQuiet}
use Rattle.jt_agent.specs.declared.ending.AttemptEnd.TheVariants as how
use Rattle.jt_agent.specs.declared.ending.Attempted.{Attempted}
use Rattle.jt_agent.specs.declared.ending.Attempted.TheVariants.{Done, Ended, StoreFault, Memory}

-- ---- laws of the terminal's steps

pub record StepLaws : Type 0 where
  pub sends_law : (settings : Settings) (first more : List Step) → sends settings (first ++ more) ≡ sends settings first ++ sends settings more
  pub holds_law : (first more : List Step) (held : Option Held) → holds_after (first ++ more) held ≡ holds_after more (holds_after first held)

octets_of-append : StepLaws → (settings : Settings) (first more : List Step) → octets_of settings (first ++ more) ≡ octets_of settings first ++ octets_of settings more
octets_of-append laws settings first more =
    ap (flat_map (λ frame. frame)) (laws.sends_law settings first more) ∙ flat_map-append (λ frame. frame) (sends settings first) (sends settings more)

-- ---- counts

more_rise : (times before mid now : ℕ) → RoseBy times before mid → Rose mid now → RoseBy (times + 1) before now
more_rise times before mid now rose once = omega arith

pub still_rose : (times before mid now : ℕ) → RoseBy times before mid → mid ≤ now → RoseBy times before now
still_rose times before mid now rose later = omega arith

pub rose_later : (before mid now : ℕ) → before ≤ mid → Rose mid now → Rose before now
rose_later before mid now later rose = omega arith

rose_none : (count : ℕ) → RoseBy 0 count count
rose_none count = omega arith

trans_le : (a b c : ℕ) → a ≤ b → b ≤ c → a ≤ c
trans_le a b c p q = omega arith

counts_trans : (a b c : ℕ) → Counts a b → Counts b c → Counts a c
counts_trans a b c first second =
    record { later = trans_le a b c first.later second.later; stays = λ e. second.stays (first.stays e ∙ e) ∙ first.stays e }

counts_same : (a b : ℕ) → b ≡ a → Counts a b
counts_same a b same = record { later = omega arith; stays = λ e. same }

link_counts_trans : (old mid now : Wire) → LinkCounts old mid → LinkCounts mid now → LinkCounts old now
link_counts_trans old mid now first second = record {
  faults = counts_trans old.faults mid.faults now.faults first.faults second.faults;
  quiets = counts_trans old.inbound.quiets mid.inbound.quiets now.inbound.quiets first.quiets second.quiets;
}

counts_later : (old now : AtLink) → Later old now → LinkCounts old.link now.link
counts_later old now later =
    record { faults = later.faults; quiets = counts_same old.link.inbound.quiets now.link.inbound.quiets (ap (λ (i : Inbound). i.quiets) later.inbound) }

-- ---- what is given

tells_more : (old mid now : Time) (moments : List ℕ) (moment : ℕ) → TellsAll old mid moments → TellsTime mid now moment → TellsAll old now (moments ++ moment ∷ [])
tells_more old mid now [] moment all one = (now, subst (λ t. TellsTime t now moment) all one, refl)
tells_more old mid now (first ∷ moments) moment all one = (all.0, all.1, tells_more all.0 mid now moments moment all.2 one)

given_first : (t : State) (old : Inbound) (time : Time) → Given t [] old old time time
given_first t old time = record {
  fits = tt;
  gives = record { left = Consumes-nil old.left; taken = Appends-nil old.taken };
  octets = AreOctets-nil;
  moments = refl;
  waits = rose_none old.quiets;
}

given_more : (t : State) (moves : List Move) (old now next : Inbound) (time time_now time_next : Time) (move : Move)
    → Given t moves old now time time_now → (course t moves).stop ≡ None → kind move ≡ due moves → TakesMove move now next time_now time_next
    → Given t (move ∷ moves) old next time time_next
given_more t moves old now next time time_now time_next (Ticks moment) given on is_due takes = record {
  fits = (on, is_due, tt, given.fits);
  gives = subst (λ i. Gives old i (course t moves).read) (sym takes.0) given.gives;
  octets = given.octets;
  moments = tells_more time time_now time_next (moments_of moves) moment given.moments takes.1;
  waits = subst (λ (i : Inbound). RoseBy (waits_of moves) old.quiets i.quiets) (sym takes.0) given.waits;
}
given_more t moves old now next time time_now time_next Opens given on is_due takes = record {
  fits = (on, is_due, tt, given.fits);
  gives = subst (λ i. Gives old i (course t moves).read) (sym takes.0) given.gives;
  octets = given.octets;
  moments = subst (λ i. TellsAll time i (moments_of moves)) (sym takes.1) given.moments;
  waits = subst (λ (i : Inbound). RoseBy (waits_of moves) old.quiets i.quiets) (sym takes.0) given.waits;
}
given_more t moves old now next time time_now time_next (Reads octets) given on is_due takes = record {
  fits = (on, is_due, takes.4, given.fits);
  gives = record {
    left = Consumes-trans old.left now.left next.left (course t moves).read octets given.gives.left takes.0.left;
    taken = Appends-trans old.taken now.taken next.taken (course t moves).read octets given.gives.taken takes.0.taken;
  };
  octets = AreOctets-append (course t moves).read octets given.octets takes.3;
  moments = subst (λ i. TellsAll time i (moments_of moves)) (sym takes.2) given.moments;
  waits = still_rose (waits_of moves) old.quiets now.quiets next.quiets given.waits takes.1;
}
given_more t moves old now next time time_now time_next Waits given on is_due takes = record {
  fits = (on, is_due, tt, given.fits);
  gives = record {
    left = Consumes-kept old.left now.left next.left (course t moves).read given.gives.left takes.0.left;
    taken = Appends-kept old.taken now.taken next.taken (course t moves).read given.gives.taken takes.0.taken;
  };
  octets = given.octets;
  moments = subst (λ i. TellsAll time i (moments_of moves)) (sym takes.2) given.moments;
  waits = more_rise (waits_of moves) old.quiets now.quiets next.quiets given.waits takes.1;
}

-- a read that gave nothing changes nothing
given_kept : (t : State) (moves : List Move) (old now next : Inbound) (time time_now : Time) → Given t moves old now time time_now → GivesNone now next → now.quiets ≤ next.quiets
    → Given t moves old next time time_now
given_kept t moves old now next time time_now given none later = record {
  fits = given.fits;
  gives = record {
    left = Consumes-kept old.left now.left next.left (course t moves).read given.gives.left none.left;
    taken = Appends-kept old.taken now.taken next.taken (course t moves).read given.gives.taken none.taken;
  };
  octets = given.octets;
  moments = given.moments;
  waits = still_rose (waits_of moves) old.quiets now.quiets next.quiets given.waits later;
}

-- ---- what is done

stands_first : (old : AtLink) → Stands (course old.state []) old old
stands_first old = record {
  on = refl;
  is_state = refl;
  settings = refl;
  held = refl;
  writes = Appends-nil old.link.written;
  counts = record { faults = counts_same old.link.faults old.link.faults refl; quiets = counts_same old.link.inbound.quiets old.link.inbound.quiets refl };
  vault = omega arith;
}

-- the link was read
stands_read : (c : Course) (old now next : AtLink) → Stands c old now → ReadsLink now next → Stands c old next
stands_read c old now next stands reads = record {
  on = stands.on;
  is_state = reads.state ∙ stands.is_state;
  settings = ap (λ (s : State). s.settings) reads.state ∙ stands.settings;
  held = reads.held ∙ stands.held;
  writes = subst (λ w. Appends old.link.written w (octets_of old.state.settings c.steps)) (sym reads.written) stands.writes;
  counts = link_counts_trans old.link now.link next.link stands.counts (record { faults = reads.faults; quiets = reads.quiets });
  vault = subst (λ n. old.faults ≤ n) (sym reads.vault) stands.vault;
}

-- the octets of a course and one rule more
wrote_more : StepLaws → (settings settings_now : Settings) (steps more : List Step) (old now next : Option (List ℕ)) → settings_now ≡ settings → Appends old now (octets_of settings steps)
    → Appends now next (octets_of settings_now more) → Appends old next (octets_of settings (steps ++ more))
wrote_more laws settings settings_now steps more old now next same first second =
    subst (Appends old next) (sym (octets_of-append laws settings steps more))
    (Appends-trans old now next (octets_of settings steps) (octets_of settings more) first (subst (λ s. Appends now next (octets_of s more)) same second))

held_more : StepLaws → (steps more : List Step) (old now next : Option Held) → now ≡ holds_after steps old → next ≡ holds_after more now → next ≡ holds_after (steps ++ more) old
held_more laws steps more old now next first second = second ∙ ap (holds_after more) first ∙ sym (laws.holds_law steps more old)

stands_more : StepLaws → (c : Course) (read : List ℕ) (r : Ruled) (Left : State → Type 0) (old now next : AtLink) → Stands c old now → Comes None r Left now next → Later now next → Stands (goes_on c read r) old next
stands_more laws c read r Left old now next stands comes later = record {
  on = comes.1.1;
  is_state = comes.0.is_state;
  settings = later.settings ∙ stands.settings;
  held = held_more laws c.steps r.steps old.held now.held next.held stands.held comes.0.held;
  writes = wrote_more laws old.state.settings now.state.settings c.steps r.steps old.link.written now.link.written next.link.written stands.settings stands.writes comes.1.0;
  counts = link_counts_trans old.link now.link next.link stands.counts (counts_later now next later);
  vault = trans_le old.faults now.faults next.faults stands.vault later.vault;
}

-- ---- how a move ends an attempt

-- what is written and done at the end of a course
record Written (c : Course) (old now : AtLink) : Type 0 where
  wrote : Appends old.link.written now.link.written (octets_of old.state.settings c.steps)
  held : now.held ≡ holds_after c.steps old.held
  is_state : now.state ≡ c.state
  counts : LinkCounts old.link now.link
  faults : old.faults ≤ now.faults

exit_stopped : (moves : List Move) (octets quiets : ℕ) (old now : AtLink) (stop : Stop) → (course old.state moves).stop ≡ Some stop → Written (course old.state moves) old now
    → Exit moves octets quiets old now (ended_by stop)
exit_stopped moves octets quiets old now Finished is w =
    record { writes = w.wrote; did = (w.held, w.is_state); cause = is; counts = w.counts; faults = w.faults }
exit_stopped moves octets quiets old now (GaveUp (give_up.Denied reply)) is w =
    record { writes = w.wrote; did = (w.held, w.is_state); cause = is; counts = w.counts; faults = w.faults }
exit_stopped moves octets quiets old now (GaveUp (give_up.TimedOut since moment)) is w =
    record { writes = w.wrote; did = (w.held, w.is_state); cause = is; counts = w.counts; faults = w.faults }

exit_failed : (moves : List Move) (move : Move) (octets quiets : ℕ) (old now : AtLink) (ended : Attempted)
    → Appends old.link.written now.link.written (said_octets old.state moves) → WasCut old.state move moves old.held now.held now.state → LinkCounts old.link now.link → old.faults ≤ now.faults
    → IsTrouble ended old.faults now.faults → Exit (move ∷ moves) octets quiets old now ended
exit_failed moves move octets quiets old now Done wrote cut counts later trouble = absurd trouble
exit_failed moves move octets quiets old now (Ended end) wrote cut counts later trouble = absurd trouble
exit_failed moves move octets quiets old now StoreFault wrote cut counts later trouble =
    record { writes = wrote; did = cut; cause = trouble; counts = counts; faults = later }
exit_failed moves move octets quiets old now Memory wrote cut counts later trouble =
    record { writes = wrote; did = cut; cause = tt; counts = counts; faults = later }

trouble_later : (ended : Attempted) (before mid faults : ℕ) → before ≤ mid → IsTrouble ended mid faults → IsTrouble ended before faults
trouble_later Done before mid faults later trouble = trouble
trouble_later (Ended end) before mid faults later trouble = trouble
trouble_later StoreFault before mid faults later trouble = rose_later before mid faults later trouble
trouble_later Memory before mid faults later trouble = trouble

-- the move was cut short
was_cut : (moves : List Move) (move : Move) (old now next : AtLink) → Stands (course old.state moves) old now
    → CutRule (made (course old.state moves).state (course old.state moves).read move) (LeavesAt (course old.state moves).state (course old.state moves).read move) now next → WasCut old.state move moves old.held next.held next.state
was_cut moves move old now next stands cut =
    let c = course old.state moves in
    record {
      vault = subst (λ h. CutShort (made c.state c.read move).steps h next.held) stands.held cut.vault;
      lists = subst (λ (s : State). CutLists (made c.state c.read move).steps (lists_of s) (lists_of next.state)) stands.is_state cut.lists;
      left = cut.left;
      down = cut.down;
    }

-- a part of the move's frames was written
part_written : StepLaws → (settings settings_now : Settings) (steps more : List Step) (old now next : Option (List ℕ)) → settings_now ≡ settings → Appends old now (octets_of settings steps)
    → AppendsPrefix now next (octets_of settings_now more)
    → (front : List ℕ) × (rest : List ℕ) × (octets_of settings (steps ++ more) ≡ octets_of settings steps ++ front ++ rest) × Appends old next (octets_of settings steps ++ front)
part_written laws settings settings_now steps more old now next same first second =
    let part = subst (λ s. AppendsPrefix now next (octets_of s more)) same second in (
      part.0,
      part.1,
      octets_of-append laws settings steps more ∙ ap (λ l. octets_of settings steps ++ l) part.2 ∙ sym (append_assoc (octets_of settings steps) part.0 part.1),
      Appends-trans old now next (octets_of settings steps) part.0 first part.3,
    )

exit_moved : StepLaws → (moves : List Move) (move : Move) (read : List ℕ) (octets quiets : ℕ) (old now next : AtLink) (ended : Attempted) → IsTold move
    → course old.state (move ∷ moves) ≡ goes_on (course old.state moves) read (made (course old.state moves).state (course old.state moves).read move)
    → Stands (course old.state moves) old now → Later now next
    → Comes (Some ended) (made (course old.state moves).state (course old.state moves).read move) (LeavesAt (course old.state moves).state (course old.state moves).read move) now next
    → Exit (move ∷ moves) octets quiets old next ended
exit_moved laws moves move read octets quiets old now next ended told is stands later (inl (did, inl (wrote, stop, is_stop, is_ended))) =
    let c = course old.state moves in
    let r = made c.state c.read move in
    let written : Written (goes_on c read r) old next = record {
      wrote = wrote_more laws old.state.settings now.state.settings c.steps r.steps old.link.written now.link.written next.link.written stands.settings stands.writes wrote;
      held = held_more laws c.steps r.steps old.held now.held next.held stands.held did.held;
      is_state = did.is_state;
      counts = link_counts_trans old.link now.link next.link stands.counts (counts_later now next later);
      faults = trans_le old.faults now.faults next.faults stands.vault later.vault;
    } in
    subst (Exit (move ∷ moves) octets quiets old next) (sym is_ended)
    (exit_stopped (move ∷ moves) octets quiets old next stop (ap (λ (c' : Course). c'.stop) is ∙ is_stop) (subst (λ (c' : Course). Written c' old next) (sym is) written))
exit_moved laws moves move read octets quiets old now next ended told is stands later (inl (did, inr (wrote, is_ended, rose))) =
    let c = course old.state moves in
    let r = made c.state c.read move in
    let part = part_written laws old.state.settings now.state.settings c.steps r.steps old.link.written now.link.written next.link.written stands.settings stands.writes wrote in
    let held : next.held ≡ holds_after (goes_on c read r).steps old.held = held_more laws c.steps r.steps old.held now.held next.held stands.held did.held in
    subst (Exit (move ∷ moves) octets quiets old next) (sym is_ended) record {
      writes = inr (record { told = told; front = part.0; rest = part.1; parts = ap (λ (c' : Course). octets_of old.state.settings c'.steps) is ∙ part.2; writes = part.3 });
      did = (subst (λ (c' : Course). next.held ≡ holds_after c'.steps old.held) (sym is) held, subst (λ (c' : Course). next.state ≡ c'.state) (sym is) did.is_state);
      cause = rose_later old.link.faults now.link.faults next.link.faults stands.counts.faults.later rose;
      counts = link_counts_trans old.link now.link next.link stands.counts (counts_later now next later);
      faults = trans_le old.faults now.faults next.faults stands.vault later.vault;
    }
exit_moved laws moves move read octets quiets old now next ended told is stands later (inr (cut, trouble)) =
    exit_failed moves move octets quiets old next ended
    (subst (λ w. Appends old.link.written w (said_octets old.state moves)) (sym cut.written) stands.writes)
    (was_cut moves move old now next stands cut)
    (link_counts_trans old.link now.link next.link stands.counts (counts_later now next later))
    (trans_le old.faults now.faults next.faults stands.vault later.vault)
    (trouble_later ended old.faults now.faults next.faults stands.vault trouble)

-- ---- the attempt, step by step

-- the first tick
pub goes_begin : StepLaws → (old now : AtLink) (time time_now : Time) (line : LineValue) → StandsForLine line [] → line.stream.place ≡ 0 → TicksOnce None old now time time_now → Later old now
    → now.state.time ≤ time_now.last → GoesOn AnOpening old now time time_now line 0
goes_begin laws old now time time_now line fresh place ticks later late =
    let c = course old.state [] in
    record {
      moves = Ticks ticks.moment ∷ [];
      is_due = refl;
      behind = λ moment. refl;
      given = given_more old.state [] old.link.inbound old.link.inbound now.link.inbound time time time_now (Ticks ticks.moment)
          (given_first old.state old.link.inbound time) refl refl (later.inbound, ticks.tells);
      stands = stands_more laws c [] (rule old.state (Tick ticks.moment)) (LeavesEvent old.state (Tick ticks.moment)) old old now (stands_first old) ticks.comes later;
      heard = fresh;
      place = omega arith;
      count = refl;
      late = late;
    }

pub ends_begin : StepLaws → (octets quiets : ℕ) (old now : AtLink) (time time_now : Time) (ended : Attempted) → TicksOnce (Some ended) old now time time_now → Later old now
    → Ends octets quiets old now time time_now ended
ends_begin laws octets quiets old now time time_now ended ticks later = record {
  moves = Ticks ticks.moment ∷ [];
  given = given_more old.state [] old.link.inbound old.link.inbound now.link.inbound time time time_now (Ticks ticks.moment)
      (given_first old.state old.link.inbound time) refl refl (later.inbound, ticks.tells);
  within = omega arith;
  exit = exit_moved laws [] (Ticks ticks.moment) [] octets quiets old old now ended tt refl (stands_first old) later ticks.comes;
}

-- the line opens
pub goes_open : StepLaws → (old now next : AtLink) (time time_now : Time) (line : LineValue) (taken : ℕ) → GoesOn AnOpening old now time time_now line taken
    → Comes None (rule now.state Opened) (LeavesEvent now.state Opened) now next → Later now next → next.state.time ≤ time_now.last → GoesOn ARead old next time time_now line taken
goes_open laws old now next time time_now line taken goes comes later late =
    let c = course old.state goes.moves in
    let comes' : Comes None (rule c.state Opened) (LeavesEvent c.state Opened) now next = subst (λ s. Comes None (rule s Opened) (LeavesEvent s Opened) now next) goes.stands.is_state comes in
    record {
      moves = Opens ∷ goes.moves;
      is_due = refl;
      behind = λ moment. refl;
      given = given_more old.state goes.moves old.link.inbound now.link.inbound next.link.inbound time time_now time_now Opens goes.given goes.stands.on (sym goes.is_due) (later.inbound, refl);
      stands = stands_more laws c c.read (rule c.state Opened) (LeavesEvent c.state Opened) old now next goes.stands comes' later;
      heard = goes.heard;
      place = goes.place;
      count = goes.count;
      late = late;
    }

pub ends_open : StepLaws → (octets quiets : ℕ) (old now next : AtLink) (time time_now : Time) (line : LineValue) (taken : ℕ) (ended : Attempted) → taken ≤ octets
    → GoesOn AnOpening old now time time_now line taken → Comes (Some ended) (rule now.state Opened) (LeavesEvent now.state Opened) now next → Later now next → Ends octets quiets old next time time_now ended
ends_open laws octets quiets old now next time time_now line taken ended few goes comes later =
    let c = course old.state goes.moves in
    let comes' : Comes (Some ended) (rule c.state Opened) (LeavesEvent c.state Opened) now next = subst (λ s. Comes (Some ended) (rule s Opened) (LeavesEvent s Opened) now next) goes.stands.is_state comes in
    record {
      moves = Opens ∷ goes.moves;
      given = given_more old.state goes.moves old.link.inbound now.link.inbound next.link.inbound time time_now time_now Opens goes.given goes.stands.on (sym goes.is_due) (later.inbound, refl);
      within = subst (λ n. n ≤ octets) goes.count few;
      exit = exit_moved laws goes.moves Opens c.read octets quiets old now next ended tt refl goes.stands later comes';
    }

-- octets came; what is heard of them is told by the line
pub goes_read : StepLaws → (old now mid next : AtLink) (time time_now : Time) (line line_next : LineValue) (taken : ℕ) (octets : List ℕ)
    → GoesOn ARead old now time time_now line taken → Gives now.link.inbound mid.link.inbound octets → ReadsLink now mid → AreOctets octets → IsPiece octets
    → ((seen : List ℕ) → StandsForLine line seen → Comes None (rule_at_octets mid.state seen octets) (LeavesAt mid.state seen (Reads octets)) mid next)
    → ((seen : List ℕ) → StandsForLine line seen → StandsForLine line_next (seen ++ octets)) → line_next.stream.place ≤ line.stream.place + length octets
    → Later mid next → next.state.time ≤ time_now.last
    → GoesOn ATick old next time time_now line_next (taken + length octets)
goes_read laws old now mid next time time_now line line_next taken octets goes gave reads are piece hears lines place later late =
    let c = course old.state goes.moves in
    let stands : Stands c old mid = stands_read c old now mid goes.stands reads in
    let comes : Comes None (rule_at_octets c.state c.read octets) (LeavesAt c.state c.read (Reads octets)) mid next = subst (λ s. Comes None (rule_at_octets s c.read octets) (LeavesAt s c.read (Reads octets)) mid next) stands.is_state (hears c.read goes.heard) in
    let gives : Gives now.link.inbound next.link.inbound octets = subst (λ i. Gives now.link.inbound i octets) (sym later.inbound) gave in
    let quiets : now.link.inbound.quiets ≤ next.link.inbound.quiets = subst (λ (i : Inbound). now.link.inbound.quiets ≤ i.quiets) (sym later.inbound) reads.quiets.later in
    record {
      moves = Reads octets ∷ goes.moves;
      is_due = refl;
      behind = λ moment. refl;
      given = given_more old.state goes.moves old.link.inbound now.link.inbound next.link.inbound time time_now time_now (Reads octets) goes.given goes.stands.on (sym goes.is_due) (gives, quiets, refl, are, piece);
      stands = stands_more laws c (c.read ++ octets) (rule_at_octets c.state c.read octets) (LeavesAt c.state c.read (Reads octets)) old mid next stands comes later;
      heard = lines c.read goes.heard;
      place = omega (arith, place, goes.place);
      count = ap (λ n. n + length octets) goes.count ∙ sym (length-append c.read octets);
      late = late;
    }

pub ends_read : StepLaws → (most quiets : ℕ) (old now mid next : AtLink) (time time_now : Time) (line : LineValue) (taken : ℕ) (octets : List ℕ) (ended : Attempted)
    → taken + length octets ≤ most → GoesOn ARead old now time time_now line taken → Gives now.link.inbound mid.link.inbound octets → ReadsLink now mid
    → AreOctets octets → IsPiece octets → ((seen : List ℕ) → StandsForLine line seen → Comes (Some ended) (rule_at_octets mid.state seen octets) (LeavesAt mid.state seen (Reads octets)) mid next) → Later mid next
    → Ends most quiets old next time time_now ended
ends_read laws most quiets old now mid next time time_now line taken octets ended few goes gave reads are piece hears later =
    let c = course old.state goes.moves in
    let stands : Stands c old mid = stands_read c old now mid goes.stands reads in
    let comes : Comes (Some ended) (rule_at_octets c.state c.read octets) (LeavesAt c.state c.read (Reads octets)) mid next = subst (λ s. Comes (Some ended) (rule_at_octets s c.read octets) (LeavesAt s c.read (Reads octets)) mid next) stands.is_state (hears c.read goes.heard) in
    let gives : Gives now.link.inbound next.link.inbound octets = subst (λ i. Gives now.link.inbound i octets) (sym later.inbound) gave in
    let rose : now.link.inbound.quiets ≤ next.link.inbound.quiets = subst (λ (i : Inbound). now.link.inbound.quiets ≤ i.quiets) (sym later.inbound) reads.quiets.later in
    record {
      moves = Reads octets ∷ goes.moves;
      given = given_more old.state goes.moves old.link.inbound now.link.inbound next.link.inbound time time_now time_now (Reads octets) goes.given goes.stands.on (sym goes.is_due) (gives, rose, refl, are, piece);
      within = subst (λ n. n ≤ most) (ap (λ n. n + length octets) goes.count ∙ sym (length-append c.read octets)) few;
      exit = exit_moved laws goes.moves (Reads octets) (c.read ++ octets) most quiets old mid next ended tt refl stands later comes;
    }

-- nothing came
pub goes_wait : (old now next : AtLink) (time time_now : Time) (line : LineValue) (taken : ℕ) → GoesOn ARead old now time time_now line taken
    → GivesNone now.link.inbound next.link.inbound → Rose now.link.inbound.quiets next.link.inbound.quiets → ReadsLink now next → GoesOn ATick old next time time_now line taken
goes_wait old now next time time_now line taken goes none rose reads = record {
  moves = Waits ∷ goes.moves;
  is_due = refl;
  behind = λ moment. refl;
  given = given_more old.state goes.moves old.link.inbound now.link.inbound next.link.inbound time time_now time_now Waits goes.given goes.stands.on (sym goes.is_due) (none, rose, refl);
  stands = stands_read (course old.state goes.moves) old now next goes.stands reads;
  heard = goes.heard;
  place = goes.place;
  count = goes.count;
  late = subst (λ (s : State). s.time ≤ time_now.last) (sym reads.state) goes.late;
}

-- the tick of a turn
pub goes_tick : StepLaws → (old now next : AtLink) (time time_now time_next : Time) (line : LineValue) (taken : ℕ) → GoesOn ATick old now time time_now line taken
    → TicksOnce None now next time_now time_next → Later now next → next.state.time ≤ time_next.last → GoesOn ARead old next time time_next line taken
goes_tick laws old now next time time_now time_next line taken goes ticks later late =
    let c = course old.state goes.moves in
    let comes : Comes None (rule c.state (Tick ticks.moment)) (LeavesEvent c.state (Tick ticks.moment)) now next = subst (λ s. Comes None (rule s (Tick ticks.moment)) (LeavesEvent s (Tick ticks.moment)) now next) goes.stands.is_state ticks.comes in
    record {
      moves = Ticks ticks.moment ∷ goes.moves;
      is_due = goes.behind ticks.moment;
      behind = λ moment. refl;
      given = given_more old.state goes.moves old.link.inbound now.link.inbound next.link.inbound time time_now time_next (Ticks ticks.moment) goes.given goes.stands.on (sym goes.is_due) (later.inbound, ticks.tells);
      stands = stands_more laws c c.read (rule c.state (Tick ticks.moment)) (LeavesEvent c.state (Tick ticks.moment)) old now next goes.stands comes later;
      heard = goes.heard;
      place = goes.place;
      count = goes.count;
      late = late;
    }

pub ends_tick : StepLaws → (octets quiets : ℕ) (old now next : AtLink) (time time_now time_next : Time) (line : LineValue) (taken : ℕ) (ended : Attempted) → taken ≤ octets
    → GoesOn ATick old now time time_now line taken → TicksOnce (Some ended) now next time_now time_next → Later now next → Ends octets quiets old next time time_next ended
ends_tick laws octets quiets old now next time time_now time_next line taken ended few goes ticks later =
    let c = course old.state goes.moves in
    let comes : Comes (Some ended) (rule c.state (Tick ticks.moment)) (LeavesEvent c.state (Tick ticks.moment)) now next = subst (λ s. Comes (Some ended) (rule s (Tick ticks.moment)) (LeavesEvent s (Tick ticks.moment)) now next) goes.stands.is_state ticks.comes in
    record {
      moves = Ticks ticks.moment ∷ goes.moves;
      given = given_more old.state goes.moves old.link.inbound now.link.inbound next.link.inbound time time_now time_next (Ticks ticks.moment) goes.given goes.stands.on (sym goes.is_due) (later.inbound, ticks.tells);
      within = subst (λ n. n ≤ octets) goes.count few;
      exit = exit_moved laws goes.moves (Ticks ticks.moment) c.read octets quiets old now next ended tt refl goes.stands later comes;
    }

-- ---- ends by the link, and for budgets

written_still : (c : Course) (old now next : AtLink) → Stands c old now → ReadsLink now next → Written c old next
written_still c old now next stands reads =
    let next_stands = stands_read c old now next stands reads in
    record { wrote = next_stands.writes; held = next_stands.held; is_state = next_stands.is_state; counts = next_stands.counts; faults = next_stands.vault }

at_read : (old now : AtLink) (time time_now : Time) (line : LineValue) (taken : ℕ) → (goes : GoesOn ARead old now time time_now line taken) → IsAtRead old.state goes.moves
at_read old now time time_now line taken goes = record { on = goes.stands.on; next = goes.is_due }

pub ends_end : (octets quiets : ℕ) (old now next : AtLink) (time time_now : Time) (line : LineValue) (taken : ℕ) → taken ≤ octets
    → GoesOn ARead old now time time_now line taken → GivesNone now.link.inbound next.link.inbound → ReadsLink now next → IsAtEnd next.link.inbound.left
    → Ends octets quiets old next time time_now (Ended how.End)
ends_end octets quiets old now next time time_now line taken few goes none reads at_end =
    let w = written_still (course old.state goes.moves) old now next goes.stands reads in
    record {
      moves = goes.moves;
      given = given_kept old.state goes.moves old.link.inbound now.link.inbound next.link.inbound time time_now goes.given none reads.quiets.later;
      within = subst (λ n. n ≤ octets) goes.count few;
      exit = record { writes = w.wrote; did = (w.held, w.is_state); cause = (at_read old now time time_now line taken goes, at_end); counts = w.counts; faults = w.faults };
    }

pub ends_link : (octets quiets : ℕ) (old now next : AtLink) (time time_now : Time) (line : LineValue) (taken : ℕ) → taken ≤ octets
    → GoesOn ARead old now time time_now line taken → GivesNone now.link.inbound next.link.inbound → ReadsLink now next → Rose now.link.faults next.link.faults
    → Ends octets quiets old next time time_now (Ended how.Link)
ends_link octets quiets old now next time time_now line taken few goes none reads rose =
    let w = written_still (course old.state goes.moves) old now next goes.stands reads in
    record {
      moves = goes.moves;
      given = given_kept old.state goes.moves old.link.inbound now.link.inbound next.link.inbound time time_now goes.given none reads.quiets.later;
      within = subst (λ n. n ≤ octets) goes.count few;
      exit = record {
        writes = inl (at_read old now time time_now line taken goes, w.wrote);
        did = (w.held, w.is_state);
        cause = rose_later old.link.faults now.link.faults next.link.faults goes.stands.counts.faults.later rose;
        counts = w.counts;
        faults = w.faults;
      };
    }

pub ends_idle : (octets quiets : ℕ) (old now next : AtLink) (time time_now : Time) (line : LineValue) (taken : ℕ) → taken ≤ octets
    → GoesOn ARead old now time time_now line taken → GivesNone now.link.inbound next.link.inbound → ReadsLink now next → IsQuiet quiets old.link.inbound next.link.inbound
    → Ends octets quiets old next time time_now (Ended how.Idle)
ends_idle octets quiets old now next time time_now line taken few goes none reads quiet =
    let w = written_still (course old.state goes.moves) old now next goes.stands reads in
    record {
      moves = goes.moves;
      given = given_kept old.state goes.moves old.link.inbound now.link.inbound next.link.inbound time time_now goes.given none reads.quiets.later;
      within = subst (λ n. n ≤ octets) goes.count few;
      exit = record { writes = w.wrote; did = (w.held, w.is_state); cause = (at_read old now time time_now line taken goes, quiet.rose, quiet.run); counts = w.counts; faults = w.faults };
    }

pub ends_spent : (octets quiets : ℕ) (old now : AtLink) (time time_now : Time) (line : LineValue) (taken : ℕ) → taken ≡ octets
    → GoesOn ARead old now time time_now line taken → Ends octets quiets old now time time_now (Ended how.Spent)
ends_spent octets quiets old now time time_now line taken all goes = record {
  moves = goes.moves;
  given = goes.given;
  within = subst (λ n. n ≤ octets) (sym all ∙ goes.count) (omega arith);
  exit = record { writes = goes.stands.writes; did = (goes.stands.held, goes.stands.is_state); cause = (at_read old now time time_now line taken goes, sym goes.count ∙ all); counts = goes.stands.counts; faults = goes.stands.vault };
}

-- ---- the loop

pub quiet_more : (quiet : ℕ) (old now next : Inbound) → quiet < 1000000 → IsQuiet quiet old now → next.run ≡ counted now.run → Rose now.quiets next.quiets → IsQuiet (quiet + 1) old next
quiet_more quiet old now next few is run rose =
    let r = is.run in
    let q = is.rose in
    let m = is.most in
    record { run = omega (arith, r, run, few); most = omega (arith, m, run); rose = omega (arith, q, rose) }

pub none_run : (run old : ℕ) → run ≡ 0 → run ≤ old + 0
none_run run old is = omega (arith, is)

pub weaker_rise : (times before now : ℕ) → RoseBy times before now → RoseBy 0 before now
weaker_rise times before now rose = omega arith

pub quiet_from : (next : Due) (old now : AtLink) (time time_now : Time) (line : LineValue) (taken : ℕ) → GoesOn next old now time time_now line taken
    → (mid : Inbound) → now.link.inbound ≡ mid → mid.run ≤ old.link.inbound.run + 0 → IsQuiet 0 old.link.inbound now.link.inbound
quiet_from next old now time time_now line taken goes mid same le = record {
  run = omega arith;
  most = subst (λ (x : Inbound). x.run ≤ old.link.inbound.run + 0) (sym same) (omega (arith, le));
  rose = weaker_rise (waits_of goes.moves) old.link.inbound.quiets now.link.inbound.quiets goes.given.waits;
}

pub quiet_kept : (quiet : ℕ) (old mid next : Inbound) → IsQuiet quiet old mid → next ≡ mid → IsQuiet quiet old next
quiet_kept quiet old mid next is same = subst (IsQuiet quiet old) (sym same) is

least_quiet : (quiets : ℕ) (ended : Attempted) → quiets - 1 ≤ most_quiet quiets ended
least_quiet quiets Done = omega arith
least_quiet quiets (Ended (how.Denied reply)) = omega arith
least_quiet quiets (Ended (how.TimedOut since moment)) = omega arith
least_quiet quiets (Ended how.End) = omega arith
least_quiet quiets (Ended how.Link) = omega arith
least_quiet quiets (Ended how.Idle) = omega arith
least_quiet quiets (Ended how.Spent) = omega arith
least_quiet quiets (Ended how.Dial) = omega arith
least_quiet quiets StoreFault = omega arith
least_quiet quiets Memory = omega arith

-- it ended with fewer quiet reads in a row than may be
pub few_quiet : (quiets quiet : ℕ) (old mid now : Inbound) (ended : Attempted) → mid.run ≤ old.run + quiet → quiet < quiets → now ≡ mid → now.run ≤ old.run + most_quiet quiets ended
few_quiet quiets quiet old mid now ended le few same =
    let least = least_quiet quiets ended in
    subst (λ (x : Inbound). x.run ≤ old.run + most_quiet quiets ended) (sym same) (omega (arith, le, few, least))

pub goes_count : (next : Due) (old now : AtLink) (time time_now : Time) (line : LineValue) (n m : ℕ) → GoesOn next old now time time_now line n → n ≡ m → GoesOn next old now time time_now line m
goes_count next old now time time_now line n m goes same = subst (GoesOn next old now time time_now line) same goes

pub late_still : (before after last : ℕ) → after ≡ before → before ≤ last → after ≤ last
late_still before after last same late = subst (λ n. n ≤ last) (sym same) late

-- ---- the vault

-- one call after another, of which the first did not fail so
pub vault_then : (faults mid faults_now most most_mid most_now : ℕ) (may may_mid may_now : Bool) (one two both : Type 0) → VaultStays faults mid most most_mid may may_mid one
    → VaultStays mid faults_now most_mid most_now may_mid may_now two → ¬ one → (both → two) → (two → both) → VaultStays faults faults_now most most_now may may_now both
vault_then faults mid faults_now most most_mid most_now may may_mid may_now one two both first second fine to from = record {
  later = trans_le faults mid faults_now first.later second.later;
  still = λ z. second.still (λ e. z (from e)) ∙ first.still fine;
  limit = second.limit ∙ first.limit;
  steady = λ e. let steady = second.steady (first.steady e).0 in (steady.0, λ z. steady.1 (to z));
}

-- ---- the end, when the line is lost

cause_after : (octets quiets : ℕ) (moves : List Move) (old now : AtLink) (state : State) (held : Option Held) (faults : ℕ) (ended : Attempted) → now.faults ≤ faults
    → HasCause ended octets quiets moves old now → HasCause ended octets quiets moves old (at_link state held faults now.link)
cause_after octets quiets moves old now state held faults Done later cause = cause
cause_after octets quiets moves old now state held faults (Ended how.Dial) later cause = cause
cause_after octets quiets moves old now state held faults (Ended how.Link) later cause = cause
cause_after octets quiets moves old now state held faults (Ended how.End) later cause = cause
cause_after octets quiets moves old now state held faults (Ended (how.Denied reply)) later cause = cause
cause_after octets quiets moves old now state held faults (Ended (how.TimedOut since moment)) later cause = cause
cause_after octets quiets moves old now state held faults (Ended how.Idle) later cause = cause
cause_after octets quiets moves old now state held faults (Ended how.Spent) later cause = cause
cause_after octets quiets moves old now state held faults StoreFault later cause = still_rose 1 old.faults now.faults faults cause later
cause_after octets quiets moves old now state held faults Memory later cause = cause

-- the line is lost: time, last fix and tables stay
same_tables : (old state : State) → AreSameTables old state → AreSameTables old (rule state Lost).state
same_tables old state same = record { timing = same.timing; params = same.params; regions = same.regions }

left_after : (s : State) (read : List ℕ) (move : Move) (state : State) → LeavesAt s read move state → LeavesAt s read move (rule state Lost).state
left_after s read (Ticks moment) state left = record { time = left.time; last = left.last; tables = same_tables s state left.tables }
left_after s read Opens state left = record { time = left.time; last = left.last; tables = same_tables s state left.tables }
left_after s read (Reads octets) state left = record {
  time = left.time;
  last = left.last;
  tables = record { front = left.tables.front; failed = left.tables.failed; back = left.tables.back; parts = left.tables.parts; tables = same_tables _ state left.tables.tables };
}
left_after s read Waits state left = left

cut_after : (t : State) (moves : List Move) (old mid now : Option Held) (state after : State) → CutLast t moves old mid state → DidRule (rule state Lost) after mid now
    → CutLast t moves old now after
cut_after t [] old mid now state after cut lost = cut
cut_after t (last ∷ older) old mid now state after cut lost =
    let c = course t older in
    let r = made c.state c.read last in
    record {
      vault = subst (CutShort r.steps (holds_after c.steps old)) (sym lost.held) cut.vault;
      lists = subst (λ (s : State). CutLists r.steps (lists_of c.state) (lists_of s)) (sym lost.is_state) cut.lists;
      left = subst (LeavesAt c.state c.read last) (sym lost.is_state) (left_after c.state c.read last state cut.left);
      down = subst IsDown (sym lost.is_state) (record { phase = refl; sent = refl });
    }

does_after : (ended : Attempted) (t : State) (moves : List Move) (old mid now : Option Held) (state after : State) → Did ended t moves old mid state
    → DidRule (rule state Lost) after mid now → Does ended t moves old now after
does_after Done t moves old mid now state after did lost = (lost.held ∙ did.0, lost.is_state ∙ ap (λ (s : State). (rule s Lost).state) did.1)
does_after (Ended end) t moves old mid now state after did lost = (lost.held ∙ did.0, lost.is_state ∙ ap (λ (s : State). (rule s Lost).state) did.1)
does_after StoreFault t moves old mid now state after did lost = cut_after t moves old mid now state after did lost
does_after Memory t moves old mid now state after did lost = cut_after t moves old mid now state after did lost

pub attempt_of : (octets quiets : ℕ) (old now : AtLink) (time time_now : Time) (state : State) (held : Option Held) (faults : ℕ) (ended : Attempted)
    → Ends octets quiets old now time time_now ended → DidRule (rule now.state Lost) state now.held held → now.faults ≤ faults
    → Attempt octets quiets old (at_link state held faults now.link) time time_now ended
attempt_of octets quiets old now time time_now state held faults ended ends lost later = record {
  moves = ends.moves;
  given = ends.given;
  within = ends.within;
  writes = ends.exit.writes;
  does = does_after ended old.state ends.moves old.held now.held held now.state state ends.exit.did lost;
  cause = cause_after octets quiets ends.moves old now state held faults ended later ends.exit.cause;
  counts = ends.exit.counts;
  faults = trans_le old.faults now.faults faults ends.exit.faults later;
}
