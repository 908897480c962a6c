use Rattle.std.proofs.Common.{◌≡◌, ℕ, List, [], ◌∷◌, ◌++◌, true, false, Option, Some, None, refl, sym, ap, ◌∙◌, subst, append_assoc}
use Rattle.std.proofs.lemmas.Bool.{false≢true}
use Rattle.std.proofs.lemmas.List.{append-nil}
use Rattle.std.specs.Option.{option_to_list}
use Rattle.jt_value.specs.Octets.{AreOctets}
use Rattle.jt_escape.specs.Splitter.{StandsFor}
use Rattle.jt_stream.specs.Unplaced.{Unplaced, items}
use Rattle.jt_platform.specs.declared.request.Request.{Request}
use Rattle.jt_value.proofs.OctetLists.{AreOctets-append}
use Rattle.jt_session.specs.Talk.{Goes, Stops, Talked, turn_on, talk_after_turn, talk_from, turn_without_request, asks, state_at_want, frame_said, is_frame, IsReplied, items_of}
use Rattle.jt_session.specs.Sessions.{Seen, TakesUnasked, before, counts}
use Rattle.jt_session.proofs.Joining.{not_short}
use Rattle.jt_session.specs.Steps.{Brings, WasSilent, WasQuiet, HasAsked, RanShort, GoesOn}

quiet_on : (k : Talked) (item : Unplaced) → asks k.state item ≡ None → turn_on k item (asks k.state item) (Goes None) ≡ talk_after_turn k (turn_without_request k.state item) [] false
quiet_on k item e = rw e refl

quiet_fits : (asked : Option Request) (item : Unplaced) → asked ≡ None → IsReplied item asked (Goes None)
quiet_fits asked item e = rw e tt

short_on : (k : Talked) (item : Unplaced) (asked : Option Request) → turn_on k item asked (Stops None) ≡ record k { state = state_at_want k.state item; over = true }
short_on k item None = refl
short_on k item (Some q) = refl

short_fits : (item : Unplaced) (asked : Option Request) → is_frame item ≡ true → IsReplied item asked (Stops None)
short_fits item None e = e
short_fits item (Some q) e = e

module _ (s now : Seen) (octets out out_now : List ℕ) (free : s.waiting ≡ None) (on : s.over ≡ false) (first : Seen) (so_far front : List ℕ) (are_so_far : AreOctets so_far) (tk : TakesUnasked first s so_far front out) where
  abbrev k : Talked
  k = talk_from (before first) tk.turns

  over_then : k.over ≡ false
  over_then = sym tk.went.over ∙ on

  state_then : s.state ≡ k.state
  state_then = tk.went.state (not_short (before first) tk.turns over_then)

  -- what the stream has now
  grown : (gained : List Unplaced) → Brings s.stream now.stream octets gained → (read : List ℕ) (gone : List Unplaced) → AreOctets read → StandsFor first.stream read
      → items read ≡ gone ++ option_to_list first.waiting
      → (items (read ++ (so_far ++ octets)) ≡ gone ++ (items_of tk.turns ++ gained)) × StandsFor now.stream (read ++ (so_far ++ octets))
  grown gained brings read gone are stands e =
      let old = tk.went.items read gone are stands e in
      let open_then = old.2 on in
      let here : items (read ++ so_far) ≡ gone ++ items_of tk.turns =
      old.1 ∙ (ap (λ w. gone ++ (items_of tk.turns ++ (option_to_list w ++ old.0))) free ∙ (ap (λ r. gone ++ (items_of tk.turns ++ r)) open_then.0 ∙ ap (λ l. gone ++ l) (append-nil (items_of tk.turns)))) in
      let brought = brings (read ++ so_far) (AreOctets-append read so_far are are_so_far) open_then.1 in (
        ap items (sym (append_assoc read so_far octets)) ∙ (brought.0 ∙ (ap (λ l. l ++ gained) here ∙ append_assoc gone (items_of tk.turns) gained)),
        subst (λ o. StandsFor now.stream o) (append_assoc read so_far octets) brought.1,
      )

  silent_on : WasSilent s now octets out out_now → TakesUnasked first now (so_far ++ octets) front out_now
  silent_on did = record {
    turns = tk.turns;
    went = record {
      fits = tk.went.fits;
      state = λ none. did.state ∙ state_then;
      counted = ap counts (did.state ∙ state_then);
      over = did.over ∙ sym over_then;
      number = did.number ∙ tk.went.number;
      items = λ read gone are stands e.
          let more = grown [] did.brings read gone are stands e in
          ([], more.0 ∙ ap (λ w. gone ++ (items_of tk.turns ++ (option_to_list w ++ []))) (sym did.waiting), λ open_now. (refl, more.1));
    };
    unasked = tk.unasked;
    wrote = did.wrote ∙ tk.wrote;
  }

  quiet_turned : (item : Unplaced) → WasQuiet s now octets out out_now item → TakesUnasked first now (so_far ++ octets) front out_now
  quiet_turned item did =
      let none : asks k.state item ≡ None = subst (λ state. asks state item ≡ None) state_then did.asked in
      let turn : turn_on k item (asks k.state item) (Goes None) ≡ talk_after_turn k (turn_without_request k.state item) [] false = quiet_on k item none in
      let state_now : now.state ≡ (turn_on k item (asks k.state item) (Goes None)).state =
      did.state ∙ (ap (λ state. (turn_without_request state item).state) state_then ∙ sym (ap (λ (j : Talked). j.state) turn)) in
      record {
        turns = record { item = item; way = Goes None } ∷ tk.turns;
        went = record {
          fits = (over_then, quiet_fits (asks k.state item) item none, tk.went.fits);
          state = λ none. state_now;
          counted = ap counts state_now;
          over = did.over ∙ sym (ap (λ (j : Talked). j.over) turn);
          number = did.number ∙ tk.went.number;
          items = λ read gone are stands e.
              let more = grown (item ∷ []) did.brings read gone are stands e in
              ([], more.0 ∙ (ap (λ l. gone ++ l) (sym (append-nil (items_of tk.turns ++ item ∷ []))) ∙ ap (λ w. gone ++ ((items_of tk.turns ++ item ∷ []) ++ (option_to_list w ++ []))) (sym did.waiting)), λ open_now. (refl, more.1));
        };
        unasked = (refl, tk.unasked);
        wrote = did.wrote ∙ (ap (λ o. o ++ frame_said (turn_without_request s.state item).says) tk.wrote ∙ (append_assoc front k.written (frame_said (turn_without_request s.state item).says)
            ∙ (ap (λ state. front ++ (k.written ++ frame_said (turn_without_request state item).says)) state_then ∙ ap (λ (j : Talked). front ++ j.written) (sym turn))));
      }

  asked_now : (item : Unplaced) → HasAsked s now octets out out_now item → TakesUnasked first now (so_far ++ octets) front out_now
  asked_now item did = record {
    turns = tk.turns;
    went = record {
      fits = tk.went.fits;
      state = λ none. did.state ∙ state_then;
      counted = ap counts (did.state ∙ state_then);
      over = did.over ∙ sym over_then;
      number = did.number ∙ tk.went.number;
      items = λ read gone are stands e.
          let more = grown (item ∷ []) did.brings read gone are stands e in
          ([], more.0 ∙ ap (λ w. gone ++ (items_of tk.turns ++ (option_to_list w ++ []))) (sym did.waiting), λ open_now. (refl, more.1));
    };
    unasked = tk.unasked;
    wrote = did.wrote ∙ tk.wrote;
  }

  short_turned : (item : Unplaced) → RanShort s now octets out out_now item → TakesUnasked first now (so_far ++ octets) front out_now
  short_turned item did =
      let turn : turn_on k item (asks k.state item) (Stops None) ≡ record k { state = state_at_want k.state item; over = true } = short_on k item (asks k.state item) in
      record {
        turns = record { item = item; way = Stops None } ∷ tk.turns;
        went = record {
          fits = (over_then, short_fits item (asks k.state item) did.frame, tk.went.fits);
          state = λ none. absurd (false≢true (sym none));
          counted = did.counted ∙ (ap (λ state. counts (state_at_want state item)) state_then ∙ sym (ap (λ (j : Talked). counts j.state) turn));
          over = did.over ∙ sym (ap (λ (j : Talked). j.over) turn);
          number = did.number ∙ tk.went.number;
          items = λ read gone are stands e.
              let more = grown (item ∷ []) did.brings read gone are stands e in
              ([], more.0 ∙ (ap (λ l. gone ++ l) (sym (append-nil (items_of tk.turns ++ item ∷ []))) ∙ ap (λ w. gone ++ ((items_of tk.turns ++ item ∷ []) ++ (option_to_list w ++ []))) (sym did.waiting)), λ open_now. (refl, more.1));
        };
        unasked = (refl, tk.unasked);
        wrote = did.wrote ∙ (tk.wrote ∙ ap (λ (j : Talked). front ++ j.written) (sym turn));
      }

pub silent_goes : (s now : Seen) (octets out out_now : List ℕ) → s.waiting ≡ None → s.over ≡ false → WasSilent s now octets out out_now → GoesOn s now octets out out_now
silent_goes s now octets out out_now free on did first so_far front are tk = silent_on s now octets out out_now free on first so_far front are tk did

pub quiet_goes : (s now : Seen) (octets out out_now : List ℕ) (item : Unplaced) → s.waiting ≡ None → s.over ≡ false → WasQuiet s now octets out out_now item → GoesOn s now octets out out_now
quiet_goes s now octets out out_now item free on did first so_far front are tk = quiet_turned s now octets out out_now free on first so_far front are tk item did

pub asked_goes : (s now : Seen) (octets out out_now : List ℕ) (item : Unplaced) → s.waiting ≡ None → s.over ≡ false → HasAsked s now octets out out_now item → GoesOn s now octets out out_now
asked_goes s now octets out out_now item free on did first so_far front are tk = asked_now s now octets out out_now free on first so_far front are tk item did

pub short_goes : (s now : Seen) (octets out out_now : List ℕ) (item : Unplaced) → s.waiting ≡ None → s.over ≡ false → RanShort s now octets out out_now item → GoesOn s now octets out out_now
short_goes s now octets out out_now item free on did first so_far front are tk = short_turned s now octets out out_now free on first so_far front are tk item did

-- nothing was taken yet
pub takes_none : (s : Seen) (out : List ℕ) → s.waiting ≡ None → TakesUnasked s s [] out out
takes_none s out free = record {
  turns = [];
  went = record {
    fits = tt;
    state = λ none. refl;
    counted = refl;
    over = refl;
    number = refl;
    items = λ read gone are stands e.
        ([], ap items (append-nil read) ∙ (e ∙ ap (λ l. gone ++ l) (sym (append-nil (option_to_list s.waiting)))), λ open_now. (refl, subst (λ o. StandsFor s.stream o) (sym (append-nil read)) stands));
  };
  unasked = tt;
  wrote = sym (append-nil out);
}
