-- A session over a pass of a turn.
use Rattle.std.proofs.Common.{◌≡◌, ◌≤◌, ◌+◌, ◌-◌, ℕ, List, [], ◌∷◌, ◌++◌, length, take, drop, Bool, true, false, if◌then◌else◌, Option, Some, IfSome, IsSomeAnd, inl, inr, refl, sym, ap, ◌∙◌, subst, arith, append_assoc, length-drop}
use Rattle.std.proofs.lemmas.List.{append-nil, take_all, take-append-drop}
use Rattle.std.proofs.Math.Seq.{take-add}
use Rattle.jt_value.specs.Octets.{AreOctets}
use Rattle.jt_stream.specs.Unplaced.{Unplaced}
use Rattle.jt_turn.specs.Histories.{entry_if}
use Rattle.jt_turn.specs.Passes.{PassState}
use Rattle.jt_platform.specs.Allowed.{Opening, makes_entry}
use Rattle.jt_platform.specs.declared.request.Request.{Request}
use Rattle.jt_platform.specs.declared.request.Reply.{Reply}
use Rattle.jt_platform.specs.declared.request.Reply.TheVariants as say
use Rattle.jt_value.proofs.OctetLists.{AreOctets-take}
use Rattle.jt_session.specs.declared.end.End.{End}
use Rattle.jt_session.specs.declared.end.End.TheVariants as ends
use Rattle.jt_session.specs.declared.end.Fed.{Fed}
use Rattle.jt_session.specs.declared.end.Fed.TheVariants.{On, Stop}
use Rattle.jt_session.specs.Talk.{Turn, Talked, asks, talk_from}
use Rattle.jt_session.specs.Sessions.{Seen, TakesUnasked, IsRepliedTo, before, end_of, feed_end, turn_by}
use Rattle.jt_session.specs.Hearing.{Hears, FailedMore, IsFilled, IsSamePass, acts_on, last_asked}
use Rattle.jt_session.proofs.Ending.{reply_gains, unasked_entries}
use Rattle.jt_session.proofs.Hubs.{on_end, short_end, end_way, waits_for}
use Rattle.jt_session.proofs.Joining.{both_talk, both_turns, end_append, state_behind, onto}
use Rattle.jt_session.proofs.Onward.{FrontFirst, turns_beyond}

pub acts_append : (n : ℕ) (a b : List (Request × Reply)) → acts_on n (a ++ b) ≡ acts_on n b ++ acts_on n a
acts_append n [] b = sym (append-nil (acts_on n b))
acts_append n (pair ∷ a) b = ap (λ l. l ++ record { number = n; ask = pair.0; answer = pair.1 } ∷ []) (acts_append n a b) ∙ append_assoc (acts_on n b) (acts_on n a) (record { number = n; ask = pair.0; answer = pair.1 } ∷ [])

acts_by : (b : Bool) (n : ℕ) (q : Request) (r : Reply) → acts_on n (if b then (q, r) ∷ [] else []) ≡ entry_if b n q r
acts_by true n q r = refl
acts_by false n q r = refl

-- ---- how a reply ends a session

fed_store : (r : Reply) → feed_end r ≡ Stop ends.StoreFault → r ≡ say.StoreFault
fed_store (say.Registered code) e = absurd cc
fed_store (say.Denied n) e = absurd cc
fed_store say.Accepted e = absurd cc
fed_store (say.Stored n) e = absurd cc
fed_store (say.Repeat n) e = absurd cc
fed_store (say.Renumbered n) e = absurd cc
fed_store say.NotLive e = absurd cc
fed_store (say.Fenced other) e = absurd cc
fed_store (say.ListFull l) e = absurd cc
fed_store say.StoreFault e = refl
fed_store say.Memory e = absurd cc

limit_of : End → ℕ
limit_of (ends.ListFull l) = l
limit_of end = 0

end_in : Fed → End
end_in On = ends.Ended
end_in (Stop end) = end

fed_full : (r : Reply) (l : ℕ) → feed_end r ≡ Stop (ends.ListFull l) → r ≡ say.ListFull l
fed_full (say.Registered code) l e = absurd cc
fed_full (say.Denied n) l e = absurd cc
fed_full say.Accepted l e = absurd cc
fed_full (say.Stored n) l e = absurd cc
fed_full (say.Repeat n) l e = absurd cc
fed_full (say.Renumbered n) l e = absurd cc
fed_full say.NotLive l e = absurd cc
fed_full (say.Fenced other) l e = absurd cc
fed_full (say.ListFull m) l e = cc
fed_full say.StoreFault l e = absurd cc
fed_full say.Memory l e = absurd cc

no_fault : (O : Type 0) (pass : PassState Request Reply O) → On ≡ Stop ends.StoreFault → FailedMore pass pass
no_fault O pass e = absurd cc

no_full : (l : ℕ) (P : Type 0) → On ≡ Stop (ends.ListFull l) → P
no_full l P e = absurd cc

no_fault_short : (O : Type 0) (pass : PassState Request Reply O) → Stop ends.Memory ≡ Stop ends.StoreFault → FailedMore pass pass
no_fault_short O pass e = absurd cc

no_full_short : (l : ℕ) (P : Type 0) → Stop ends.Memory ≡ Stop (ends.ListFull l) → P
no_full_short l P e = absurd cc

module _ {O : Type 0} where
  pub hears_on : (o : Option Opening) (s now : Seen) (octets out out_now : List ℕ) (pass : PassState Request Reply O) → TakesUnasked s now octets out out_now → now.over ≡ false → Hears o s now octets pass pass out out_now On
  hears_on o s now octets out out_now pass took on = record {
    turns = took.turns;
    went = took.went;
    entries = sym (ap (λ e. pass.mine ++ acts_on pass.number e) (unasked_entries (before s) took.turns took.unasked) ∙ append-nil pass.mine);
    wrote = took.wrote;
    ended = on_end (before s) took.turns took.unasked (sym took.went.over ∙ on);
    failed = omega arith;
    faults = omega arith;
    fault = λ e. no_fault O pass e;
    full = λ l e. no_full l (IfSome o (λ o. IsFilled o pass.seen (last_asked (before s) took.turns) l)) e;
  }

  pub hears_short : (o : Option Opening) (s now : Seen) (octets out out_now : List ℕ) (pass : PassState Request Reply O) → TakesUnasked s now octets out out_now → s.over ≡ false → now.over ≡ true → Hears o s now octets pass pass out out_now (Stop ends.Memory)
  hears_short o s now octets out out_now pass took on over = record {
    turns = took.turns;
    went = took.went;
    entries = sym (ap (λ e. pass.mine ++ acts_on pass.number e) (unasked_entries (before s) took.turns took.unasked) ∙ append-nil pass.mine);
    wrote = took.wrote;
    ended = short_end (before s) took.turns took.went.fits took.unasked on (sym took.went.over ∙ over);
    failed = omega arith;
    faults = omega arith;
    fault = λ e. no_fault_short O pass e;
    full = λ l e. no_full_short l (IfSome o (λ o. IsFilled o pass.seen (last_asked (before s) took.turns) l)) e;
  }

  -- a request was replied to
  pub hears_reply : (o : Option Opening) (s now : Seen) (out out_now : List ℕ) (item : Unplaced) (q : Request) (r : Reply) (pass pass_now : PassState Request Reply O) → IsRepliedTo s now r out out_now item → asks s.state item ≡ Some q
      → pass_now.mine ≡ pass.mine ++ entry_if (makes_entry r) pass.number q r → pass.failed ≤ pass_now.failed → pass.faults ≤ pass_now.faults → (r ≡ say.StoreFault → FailedMore pass pass_now)
      → ((l : ℕ) → r ≡ say.ListFull l → IfSome o (λ o. IsFilled o pass_now.seen (Some q) l)) → Hears o s now [] pass pass_now out out_now (feed_end r)
  hears_reply o s now out out_now item q r pass pass_now did asked mine failed faults fault full = record {
    turns = turn_by r item ∷ [];
    went = did.turn;
    entries = mine ∙ ap (λ e. pass.mine ++ e) (sym (ap (λ e. acts_on pass.number e) (reply_gains s item q r asked) ∙ acts_by (makes_entry r) pass.number q r));
    wrote = did.wrote;
    ended = end_way (makes_entry r) r;
    failed = failed;
    faults = faults;
    fault = λ e. fault (fed_store r e);
    full = λ l e. subst (λ w. IfSome o (λ o. IsFilled o pass_now.seen w l)) (sym asked) (full l (fed_full r l e));
  }

  -- the request that waits was
  pub hears_asked : (o : Option Opening) (s now : Seen) (out out_now : List ℕ) (q : Request) (r : Reply) (fed : Fed) (pass pass_now : PassState Request Reply O) → IsSomeAnd s.waiting (λ item. asks s.state item ≡ Some q) → IfSome s.waiting (IsRepliedTo s now r out out_now)
      → pass_now.mine ≡ pass.mine ++ entry_if (makes_entry r) pass.number q r → pass.failed ≤ pass_now.failed → pass.faults ≤ pass_now.faults → (r ≡ say.StoreFault → FailedMore pass pass_now)
      → ((l : ℕ) → r ≡ say.ListFull l → IfSome o (λ o. IsFilled o pass_now.seen (Some q) l)) → fed ≡ feed_end r → Hears o s now [] pass pass_now out out_now fed
  hears_asked o s now out out_now q r fed pass pass_now waits did mine failed faults fault full is =
      let item = waits_for s.waiting (λ item. asks s.state item ≡ Some q) waits in
      subst (λ f. Hears o s now [] pass pass_now out out_now f) (sym is)
      (hears_reply o s now out out_now item.0 q r pass pass_now (subst (λ w. IfSome w (IsRepliedTo s now r out out_now)) item.1 did) item.2 mine failed faults fault full)

  more_failed : (pass mid now : PassState Request Reply O) → pass.failed ≤ mid.failed → FailedMore mid now → FailedMore pass now
  more_failed pass mid now le (inl less) = inl (omega (arith, le, less))
  more_failed pass mid now le (inr at_end) = inr at_end

  module _ (o : Option Opening) (s mid now : Seen) (a b : List ℕ) (pass pass_mid pass_now : PassState Request Reply O) (out out_mid out_now : List ℕ) (fed : Fed) (first : Hears o s mid a pass pass_mid out out_mid On) (second : Hears o mid now b pass_mid pass_now out_mid out_now fed) (on : mid.over ≡ false) (same : IsSamePass pass pass_mid) where
    abbrev older : List Turn
    older = first.turns

    abbrev newer : List Turn
    newer = second.turns

    abbrev k' : Talked
    k' = talk_from (before s) older

    abbrev j' : Talked
    j' = talk_from (before mid) newer

    same_talk : talk_from (before s) (newer ++ older) ≡ onto k' j'
    same_talk = both_talk s mid now a b older newer first.went second.went on

    acts : pass_now.mine ≡ pass.mine ++ acts_on pass.number (talk_from (before s) (newer ++ older)).entries
    acts =
        second.entries ∙ (ap (λ n. pass_mid.mine ++ acts_on n j'.entries) same.number ∙ (ap (λ m. m ++ acts_on pass.number j'.entries) first.entries
        ∙ (append_assoc pass.mine (acts_on pass.number k'.entries) (acts_on pass.number j'.entries)
        ∙ (ap (λ l. pass.mine ++ l) (sym (acts_append pass.number j'.entries k'.entries)) ∙ ap (λ (x : Talked). pass.mine ++ acts_on pass.number x.entries) (sym same_talk)))))

    last_behind : (newest : List Turn) (l : ℕ) → Stop (ends.ListFull l) ≡ end_of newest → last_asked (before s) (newest ++ older) ≡ last_asked (before mid) newest
    last_behind [] l e = no_full l (last_asked (before s) ([] ++ older) ≡ last_asked (before mid) []) (sym e)
    last_behind (t ∷ rest) l e = ap (λ state. asks state t.item) (state_behind s mid now a b older newer first.went second.went on rest)

    pub hears_both : AreOctets a → Hears o s now (a ++ b) pass pass_now out out_now fed
    hears_both are_a = record {
      turns = newer ++ older;
      went = both_turns s mid now a b older newer first.went second.went on are_a;
      entries = acts;
      wrote = second.wrote ∙ (ap (λ w. w ++ j'.written) first.wrote ∙ (append_assoc out k'.written j'.written ∙ ap (λ (x : Talked). out ++ x.written) (sym same_talk)));
      ended = second.ended ∙ sym (end_append newer older (sym first.ended));
      failed = omega (arith, first.failed, second.failed);
      faults = omega (arith, first.faults, second.faults);
      fault = λ e. more_failed pass pass_mid pass_now first.failed (second.fault e);
      full = λ l e. subst (λ w. IfSome o (λ o. IsFilled o pass_now.seen w l)) (sym (last_behind newer l (sym e ∙ second.ended))) (second.full l e);
    }

  -- ---- pieces

  pub hears_more : (o : Option Opening) (first mid now : Seen) (octets : List ℕ) (taken count : ℕ) (pass pass_mid pass_now : PassState Request Reply O) (front out out_now : List ℕ) (fed : Fed) → AreOctets octets → Hears o first mid (take taken octets) pass pass_mid front out On → mid.over ≡ false → IsSamePass pass pass_mid
      → Hears o mid now (take count (take (length octets - taken) (drop taken octets))) pass_mid pass_now out out_now fed → Hears o first now (take (taken + count) octets) pass pass_now front out_now fed
  hears_more o first mid now octets taken count pass pass_mid pass_now front out out_now fed are so_far on same more =
      let piece : take (length octets - taken) (drop taken octets) ≡ drop taken octets = take_all (length octets - taken) (drop taken octets) (omega (arith, length-drop taken octets)) in
      subst (λ some. Hears o first now some pass pass_now front out_now fed) (ap (λ rest. take taken octets ++ take count rest) piece ∙ sym (take-add taken count octets))
      (hears_both o first mid now (take taken octets) (take count (take (length octets - taken) (drop taken octets))) pass pass_mid pass_now front out out_now fed so_far more on same (AreOctets-take taken octets are))

  pub hears_then : (o : Option Opening) (first mid now : Seen) (octets : List ℕ) (pass pass_now : PassState Request Reply O) (front out out_now : List ℕ) (fed : Fed) → AreOctets octets → Hears o first mid octets pass pass front out On → mid.over ≡ false
      → Hears o mid now [] pass pass_now out out_now fed → Hears o first now octets pass pass_now front out_now fed
  hears_then o first mid now octets pass pass_now front out out_now fed are so_far on more =
      subst (λ some. Hears o first now some pass pass_now front out_now fed) (append-nil octets) (hears_both o first mid now octets [] pass pass pass_now front out out_now fed so_far more on (record { turn = refl; number = refl; opening = refl }) are)

  pub hears_all : (o : Option Opening) (first now : Seen) (octets : List ℕ) (taken : ℕ) (pass pass_now : PassState Request Reply O) (front out_now : List ℕ) (fed : Fed) → Hears o first now (take taken octets) pass pass_now front out_now fed → length octets ≤ taken → Hears o first now octets pass pass_now front out_now fed
  hears_all o first now octets taken pass pass_now front out_now fed so_far all = subst (λ some. Hears o first now some pass pass_now front out_now fed) (take_all taken octets all) so_far

  pub hears_ended : FrontFirst → (o : Option Opening) (first now : Seen) (octets : List ℕ) (taken : ℕ) (pass pass_now : PassState Request Reply O) (front out_now : List ℕ) (fed : Fed)
      → Hears o first now (take taken octets) pass pass_now front out_now fed → now.over ≡ true → Hears o first now octets pass pass_now front out_now fed
  hears_ended law o first now octets taken pass pass_now front out_now fed so_far over =
      subst (λ some. Hears o first now some pass pass_now front out_now fed) (take-append-drop taken octets) (record {
        turns = so_far.turns;
        went = turns_beyond law first now (take taken octets) (drop taken octets) so_far.turns over so_far.went;
        entries = so_far.entries;
        wrote = so_far.wrote;
        ended = so_far.ended;
        failed = so_far.failed;
        faults = so_far.faults;
        fault = so_far.fault;
        full = so_far.full;
      })

  -- over the same opening, with the answer that was found
  pub hears_as : (o other : Option Opening) (s now : Seen) (octets : List ℕ) (pass pass_now : PassState Request Reply O) (out out_now : List ℕ) (fed found : Fed) → o ≡ other → fed ≡ found → Hears o s now octets pass pass_now out out_now fed → Hears other s now octets pass pass_now out out_now found
  hears_as o other s now octets pass pass_now out out_now fed found same is did =
      subst (λ x. Hears x s now octets pass pass_now out out_now found) same (subst (λ f. Hears o s now octets pass pass_now out out_now f) is did)

  pub same_both : (pass pass_mid pass_now : PassState Request Reply O) → IsSamePass pass pass_mid → IsSamePass pass_mid pass_now → IsSamePass pass pass_now
  same_both pass pass_mid pass_now first second = record { turn = second.turn ∙ first.turn; number = second.number ∙ first.number; opening = second.opening ∙ first.opening }
