-- A session over a link: what is read, and how it ends.
use Rattle.std.proofs.Common.{◌≡◌, ◌≤◌, ◌<◌, ◌+◌, ◌*◌, ℕ, List, [], ◌∷◌, ◌++◌, length, take, drop, Bool, true, false, Option, Some, None, inl, inr, refl, sym, ap, ◌∙◌, subst, arith, append_assoc, length-append}
use Rattle.std.proofs.lemmas.Bool.{false≢true}
use Rattle.std.proofs.lemmas.List.{append-nil, length-take, take_all, take-append-drop}
use Rattle.std.proofs.KnownBytes.{Appends-nil, Appends-trans, Appends-kept, Consumes-nil, Consumes-trans, Consumes-kept}
use Rattle.std.specs.Io.KnownBytes.{Appends}
use mathlib.Core.List.{IsPrefix}
use Rattle.jt_value.specs.Octets.{AreOctets}
use Rattle.jt_value.specs.Counts.{Counts, Rose, RoseBy, counted}
use Rattle.jt_outside.specs.Inbound.{Inbound}
use Rattle.jt_outside.specs.Link.{Gives, GivesNone, ReadHasCause, Reads, Wire}
use Rattle.jt_outside.specs.declared.link.LinkGot.TheVariants.{Bytes, Quiet, End, Failed}
use Rattle.jt_turn.specs.Passes.{PassState}
use Rattle.jt_platform.specs.Allowed.{Opening}
use Rattle.jt_platform.specs.declared.request.Request.{Request}
use Rattle.jt_platform.specs.declared.request.Reply.{Reply}
use Rattle.jt_platform.specs.declared.request.Reply.TheVariants as say
use Rattle.jt_value.proofs.OctetLists.{AreOctets-append}
use Rattle.jt_session.specs.declared.end.End.{End as Ending}
use Rattle.jt_session.specs.declared.end.End.TheVariants as ends
use Rattle.jt_session.specs.declared.end.Fed.{Fed}
use Rattle.jt_session.specs.declared.end.Fed.TheVariants.{On, Stop}
use Rattle.jt_session.specs.Talk.{Way, Goes, Stops, Turn}
use Rattle.jt_session.specs.Sessions.{Seen, end_by, end_of, feed_end}
use Rattle.jt_session.specs.TurnLaw.{IsNew}
use Rattle.jt_session.specs.Hearing.{Hears, FailedMore, IsSamePass}
use Rattle.jt_session.specs.Serving.{AnswersRead, AnswersEnd, Converses, Course, HasCause, Names}
use Rattle.jt_session.proofs.Turning.{takes_none}
use Rattle.jt_session.proofs.Hearings.{hears_as, hears_both, hears_on, same_both}

-- ---- what an answer ends a session as

abbrev by_answer : Fed → Bool
by_answer On = true
by_answer (Stop ends.Ended) = false
by_answer (Stop ends.LinkFault) = false
by_answer (Stop ends.Idle) = false
by_answer (Stop ends.Spent) = false
by_answer (Stop (ends.Fenced other)) = true
by_answer (Stop ends.StoreFault) = true
by_answer (Stop (ends.ListFull l)) = true
by_answer (Stop ends.Memory) = true

reply_ends : (r : Reply) → by_answer (feed_end r) ≡ true
reply_ends (say.Registered code) = refl
reply_ends (say.Denied n) = refl
reply_ends say.Accepted = refl
reply_ends (say.Stored n) = refl
reply_ends (say.Repeat n) = refl
reply_ends (say.Renumbered n) = refl
reply_ends say.NotLive = refl
reply_ends (say.Fenced other) = refl
reply_ends (say.ListFull l) = refl
reply_ends say.StoreFault = refl
reply_ends say.Memory = refl

way_ends : (way : Way) → by_answer (end_by way) ≡ true
way_ends (Goes None) = refl
way_ends (Goes (Some r)) = reply_ends r
way_ends (Stops None) = refl
way_ends (Stops (Some r)) = reply_ends r

turns_answer : (turns : List Turn) → by_answer (end_of turns) ≡ true
turns_answer [] = refl
turns_answer (t ∷ older) = way_ends t.way

stop_names : (end : Ending) → by_answer (Stop end) ≡ true → Names end (Stop end)
stop_names ends.Ended e = absurd (false≢true e)
stop_names ends.LinkFault e = tt
stop_names ends.Idle e = absurd (false≢true e)
stop_names ends.Spent e = absurd (false≢true e)
stop_names (ends.Fenced other) e = refl
stop_names ends.StoreFault e = refl
stop_names (ends.ListFull l) e = refl
stop_names ends.Memory e = inr refl

stop_cause : {O : Type 0} (end : Ending) (octets read : ℕ) (link link_now : Wire) (pass pass_now : PassState Request Reply O) → by_answer (Stop end) ≡ true → (Stop end ≡ Stop ends.StoreFault → FailedMore pass pass_now) → HasCause end octets read link link_now pass pass_now
stop_cause ends.Ended octets read link link_now pass pass_now e fault = absurd (false≢true e)
stop_cause ends.LinkFault octets read link link_now pass pass_now e fault = absurd (false≢true e)
stop_cause ends.Idle octets read link link_now pass pass_now e fault = absurd (false≢true e)
stop_cause ends.Spent octets read link link_now pass pass_now e fault = absurd (false≢true e)
stop_cause (ends.Fenced other) octets read link link_now pass pass_now e fault = tt
stop_cause ends.StoreFault octets read link link_now pass pass_now e fault = fault refl
stop_cause (ends.ListFull l) octets read link link_now pass pass_now e fault = tt
stop_cause ends.Memory octets read link link_now pass pass_now e fault = tt

-- ---- counts

counts_both : (a b c : ℕ) → Counts a b → Counts b c → Counts a c
counts_both a b c first second = record { later = omega (arith, first.later, second.later); stays = λ e. second.stays (first.stays e ∙ e) ∙ first.stays e }

counts_same : (a : ℕ) → Counts a a
counts_same a = record { later = omega arith; stays = λ e. refl }

front_all : {X : Type 0} (xs ys : List X) → xs ≡ ys → IsPrefix xs ys
front_all xs ys e = ([], λ i. (append-nil xs ∙ e) i)

abbrev drop_of : {X : Type 0} → ℕ → List X → List X
drop_of n xs = drop n xs

front_and_rest : {X : Type 0} (n : ℕ) (xs : List X) → take n xs ++ drop_of n xs ≡ xs
front_and_rest n xs = take-append-drop n xs

length_front : (n : ℕ) (xs : List ℕ) → n ≤ length xs → length (take n xs) ≡ n
length_front n xs le = omega (arith, length-take n xs, le)

pub gives_both : (a b c : Inbound) (first second : List ℕ) → Gives a b first → Gives b c second → Gives a c (first ++ second)
gives_both a b c first second one two = record {
  left = Consumes-trans a.left b.left c.left first second one.left two.left;
  taken = Appends-trans a.taken b.taken c.taken first second one.taken two.taken;
}

pub gives_kept : (a b c : Inbound) (first : List ℕ) → Gives a b first → GivesNone b c → Gives a c first
gives_kept a b c first one none = record {
  left = Consumes-kept a.left b.left c.left first one.left none.left;
  taken = Appends-kept a.taken b.taken c.taken first one.taken none.taken;
}

-- on top of what was said
hears_behind : {O : Type 0} (o : Option Opening) (s now : Seen) (octets : List ℕ) (pass pass_now : PassState Request Reply O) (said more : List ℕ) (fed : Fed) → Hears o s now octets pass pass_now [] more fed → Hears o s now octets pass pass_now said (said ++ more) fed
hears_behind o s now octets pass pass_now said more fed did = record {
  turns = did.turns;
  went = did.went;
  entries = did.entries;
  wrote = ap (λ w. said ++ w) did.wrote;
  ended = did.ended;
  failed = did.failed;
  faults = did.faults;
  fault = did.fault;
  full = did.full;
}

-- behind octets nothing was quiet
pub none_quiet : (old : ℕ) (mid now : Inbound) (most : ℕ) → now ≡ mid → mid.run ≡ 0 → now.run ≤ old + most
none_quiet old mid now most same zero_run = subst (λ (x : Inbound). x.run ≤ old + most) (sym same) (omega (arith, zero_run))

module _ {O : Type 0} (o : Option Opening) (s : Seen) (pass : PassState Request Reply O) (link : Wire) where
  pub course_begun : IsNew s → s.stream.place ≡ 0 → Course o s s pass pass link link 0 0 0
  course_begun new place = record {
    taken = [];
    said = [];
    hears = hears_on o s s [] [] [] pass (takes_none s [] new.waiting) new.over;
    are = λ i. omega arith;
    gives = record { left = Consumes-nil link.inbound.left; taken = Appends-nil link.inbound.taken };
    read = refl;
    writes = Appends-nil link.written;
    written = refl;
    short = omega arith;
    place = omega (arith, place);
    waits = new.waiting;
    on = new.over;
    same = record { turn = refl; number = refl; opening = refl };
    faults = counts_same link.faults;
    counts = counts_same link.inbound.quiets;
    rose = omega arith;
    run = omega arith;
    most = omega arith;
  }

  -- it ended without a further read
  pub course_over : (now : Seen) (pass_now : PassState Request Reply O) (w : Wire) (so_far answered quiets octets : ℕ) (end : Ending) → Course o s now pass pass_now link w so_far answered quiets → so_far ≤ octets → HasCause end octets so_far link w pass pass_now → Names end On
      → Converses o octets s now pass pass_now link w so_far answered end
  course_over now pass_now w so_far answered quiets octets end c within cause named = record {
    taken = c.taken;
    said = c.said;
    fed = On;
    hears = c.hears;
    gives = c.gives;
    read_is = c.read;
    within = omega (arith, c.read, within);
    wrote = c.said;
    writes = c.writes;
    written_is = c.written;
    front = front_all c.said c.said refl;
    whole = λ ne. refl;
    cause = cause;
    named = named;
  }

  module _ (now : Seen) (pass_now : PassState Request Reply O) (w mid : Wire) (so_far answered quiets : ℕ) (c : Course o s now pass pass_now link w so_far answered quiets) (written_mid : mid.written ≡ w.written) where
    -- a quiet read
    pub course_waits : Reads w.inbound mid.inbound Quiet [] → ReadHasCause w.faults mid.faults w.inbound mid.inbound Quiet → quiets < 3 → Course o s now pass pass_now link mid so_far answered (quiets + 1)
    course_waits reads cause few =
        let rose = cause.quiet refl in
        let run : mid.inbound.run ≡ counted w.inbound.run = reads.1 in record {
          taken = c.taken;
          said = c.said;
          hears = c.hears;
          are = c.are;
          gives = gives_kept link.inbound w.inbound mid.inbound c.taken c.gives reads.0;
          read = c.read;
          writes = subst (λ x. Appends link.written x c.said) (sym written_mid) c.writes;
          written = c.written;
          short = c.short;
          place = c.place;
          waits = c.waits;
          on = c.on;
          same = c.same;
          faults = counts_both link.faults w.faults mid.faults c.faults cause.faults;
          counts = counts_both link.inbound.quiets w.inbound.quiets mid.inbound.quiets c.counts cause.quiets;
          rose = omega (arith, rose, c.rose);
          run = omega (arith, run, c.run, few);
          most = omega (arith, run, c.most);
        }

    -- octets were read and heard
    module _ (piece : List ℕ) (count : ℕ) (gave : Gives w.inbound mid.inbound piece) (cause : ReadHasCause w.faults mid.faults w.inbound mid.inbound (Bytes count)) (are : AreOctets piece) (other : Option Opening) (same_o : other ≡ o) (next : Seen) (pass_next : PassState Request Reply O) (w_next : Wire) (done : ℕ) (end : Option Ending)
        (did : AnswersRead other now next piece pass_now pass_next mid w_next done end) (same : IsSamePass pass_now pass_next) where
      abbrev taken_now : List ℕ
      taken_now = c.taken ++ piece

      gave_now : Gives link.inbound w_next.inbound taken_now
      gave_now = subst (λ x. Gives link.inbound x taken_now) (sym did.inbound) (gives_both link.inbound w.inbound mid.inbound c.taken piece c.gives gave)

      heard_now : Hears o s next taken_now pass pass_next [] (c.said ++ did.said) did.fed
      heard_now =
          hears_both o s now next c.taken piece pass pass_now pass_next [] c.said (c.said ++ did.said) did.fed c.hears
          (hears_behind o now next piece pass_now pass_next c.said did.said did.fed (hears_as other o now next piece pass_now pass_next [] did.said did.fed did.fed same_o refl did.hears)) c.on c.same c.are

      wrote_now : Appends link.written w_next.written (c.said ++ take done did.said)
      wrote_now = Appends-trans link.written w.written w_next.written c.said (take done did.said) c.writes (subst (λ x. Appends x w_next.written (take done did.said)) written_mid did.writes)

      faults_now : Counts link.faults w_next.faults
      faults_now = counts_both link.faults w.faults w_next.faults c.faults (counts_both w.faults mid.faults w_next.faults cause.faults did.faults)

      pub course_reads : end ≡ None → next.waiting ≡ None → next.over ≡ false → next.stream.place ≤ now.stream.place + length piece → done ≤ 4184 * length piece → count ≡ length piece → mid.inbound.run ≡ 0 → Course o s next pass pass_next link w_next (so_far + count) (answered + done) 0
      course_reads none waits on place short is zero_run =
          let on_all = subst (λ e. AnswersEnd done did.said did.fed mid.faults w_next.faults e) none did.ended in
          let all : take done did.said ≡ did.said = take_all done did.said (omega (arith, on_all.1)) in record {
            taken = taken_now;
            said = c.said ++ did.said;
            hears = subst (λ f. Hears o s next taken_now pass pass_next [] (c.said ++ did.said) f) on_all.0 heard_now;
            are = AreOctets-append c.taken piece c.are are;
            gives = gave_now;
            read = omega (arith, c.read, is, length-append c.taken piece);
            writes = subst (λ l. Appends link.written w_next.written (c.said ++ l)) all wrote_now;
            written = omega (arith, c.written, on_all.1, length-append c.said did.said);
            short = omega (arith, c.short, short, is);
            place = omega (arith, c.place, place, is);
            waits = waits;
            on = on;
            same = same_both pass pass_now pass_next c.same same;
            faults = faults_now;
            counts = subst (λ (x : Inbound). Counts link.inbound.quiets x.quiets) (sym did.inbound) (counts_both link.inbound.quiets w.inbound.quiets mid.inbound.quiets c.counts cause.quiets);
            rose = let later = (counts_both link.inbound.quiets w.inbound.quiets mid.inbound.quiets c.counts cause.quiets).later in subst (λ (x : Inbound). RoseBy 0 link.inbound.quiets x.quiets) (sym did.inbound) (omega (arith, later));
            run = omega arith;
            most = subst (λ (x : Inbound). x.run ≤ link.inbound.run + 0) (sym did.inbound) (omega (arith, zero_run));
          }

      ended_by : (found : Ending) (octets : ℕ) → so_far + count ≤ octets → count ≡ length piece → AnswersEnd done did.said did.fed mid.faults w_next.faults (Some found) → Converses o octets s next pass pass_next link w_next (so_far + count) (answered + done) found
      ended_by found octets within is (inl fault) =
          let rose : Rose link.faults w_next.faults = let one = fault.1 in let two = c.faults.later in let three = cause.faults.later in omega (arith, one, two, three) in record {
            taken = taken_now;
            said = c.said ++ did.said;
            fed = did.fed;
            hears = heard_now;
            gives = gave_now;
            read_is = omega (arith, c.read, is, length-append c.taken piece);
            within = omega (arith, c.read, is, length-append c.taken piece, within);
            wrote = c.said ++ take done did.said;
            writes = wrote_now;
            written_is = omega (arith, c.written, length-append c.said (take done did.said), length_front done did.said did.within);
            front = (drop_of done did.said, λ i. (append_assoc c.said (take done did.said) (drop_of done did.said) ∙ ap (λ l. c.said ++ l) (front_and_rest done did.said)) i);
            whole = λ ne. absurd (ne fault.0);
            cause = subst (λ e. HasCause e octets (so_far + count) link w_next pass pass_next) (sym fault.0) rose;
            named = subst (λ e. Names e did.fed) (sym fault.0) tt;
          }
      ended_by found octets within is (inr stop) =
          let all : take done did.said ≡ did.said = take_all done did.said (omega (arith, stop.1)) in
          let answered_end : by_answer (Stop found) ≡ true = subst (λ f. by_answer f ≡ true) (sym heard_now.ended ∙ stop.0) (turns_answer heard_now.turns) in record {
            taken = taken_now;
            said = c.said ++ did.said;
            fed = did.fed;
            hears = heard_now;
            gives = gave_now;
            read_is = omega (arith, c.read, is, length-append c.taken piece);
            within = omega (arith, c.read, is, length-append c.taken piece, within);
            wrote = c.said ++ did.said;
            writes = subst (λ l. Appends link.written w_next.written (c.said ++ l)) all wrote_now;
            written_is = omega (arith, c.written, stop.1, length-append c.said did.said);
            front = front_all (c.said ++ did.said) (c.said ++ did.said) refl;
            whole = λ ne. refl;
            cause = stop_cause found octets (so_far + count) link w_next pass pass_next answered_end (λ e. heard_now.fault (stop.0 ∙ e));
            named = subst (λ f. Names found f) (sym stop.0) (stop_names found answered_end);
          }

      pub course_ends : (found : Ending) (octets : ℕ) → end ≡ Some found → so_far + count ≤ octets → count ≡ length piece → Converses o octets s next pass pass_next link w_next (so_far + count) (answered + done) found
      course_ends found octets some within is = ended_by found octets within is (subst (λ e. AnswersEnd done did.said did.fed mid.faults w_next.faults e) some did.ended)

    -- nothing was read, and it ended
    pub course_stops : (octets : ℕ) (end : Ending) → so_far ≤ octets → GivesNone w.inbound mid.inbound → HasCause end octets so_far link mid pass pass_now → Names end On → Converses o octets s now pass pass_now link mid so_far answered end
    course_stops octets end within none cause named = record {
      taken = c.taken;
      said = c.said;
      fed = On;
      hears = c.hears;
      gives = gives_kept link.inbound w.inbound mid.inbound c.taken c.gives none;
      read_is = c.read;
      within = omega (arith, c.read, within);
      wrote = c.said;
      writes = subst (λ x. Appends link.written x c.said) (sym written_mid) c.writes;
      written_is = c.written;
      front = front_all c.said c.said refl;
      whole = λ ne. refl;
      cause = cause;
      named = named;
    }

    pub course_faults : (octets : ℕ) → so_far ≤ octets → Reads w.inbound mid.inbound Failed [] → ReadHasCause w.faults mid.faults w.inbound mid.inbound Failed → Converses o octets s now pass pass_now link mid so_far answered ends.LinkFault
    course_faults octets within reads cause =
        let rose = cause.failed refl in
        let later = c.faults.later in
        course_stops octets ends.LinkFault within reads.0 (omega (arith, rose, later)) tt

    pub course_closes : (octets : ℕ) → so_far ≤ octets → Reads w.inbound mid.inbound End [] → Converses o octets s now pass pass_now link mid so_far answered ends.Ended
    course_closes octets within reads = course_stops octets ends.Ended within reads.1 reads.0 refl
