-- Runs in which orders are obeyed.
use Rattle.std.proofs.Common.{ℕ, suc, ◌≡◌, List, [], ◌∷◌, ◌++◌, arith, refl, ap, sym, ◌∙◌, subst, Bool, true, false, ◌&&◌, if◌then◌else◌, inl, inr, Some, None, IsSome, IsSomeAnd}
use Rattle.std.specs.Prelude.{◌⊎◌, Contains}
use Rattle.std.proofs.lemmas.Slice.Eq.{bytes_eq-Decides}
use Rattle.jt_value.specs.Sameness.{key_of, same_key}
use Rattle.jt_value.specs.declared.ids.TheConstants.{TERMINAL_ACK}
use Rattle.jt_value.specs.declared.phone.Edition.{Edition}
use Rattle.jt_value.specs.declared.phone.Phone.{Phone}
use Rattle.jt_register.specs.declared.register.Register.{Register}
use Rattle.jt_store.specs.declared.row.Registered.{Registered}
use Rattle.jt_store.specs.Tables.{plates, terminals}
use Rattle.jt_platform.specs.declared.request.Request.TheVariants as ask
use Rattle.jt_platform.specs.declared.request.Reply.TheVariants as say
use Rattle.jt_platform.specs.Codes.{code_for}
use Rattle.jt_platform.specs.History.{live, holder, or_else, registration}
use Rattle.jt_platform.specs.Allowed.{IsHolder, IsOfFleet}
use Rattle.jt_value.specs.Reaching.{MayAll, after_all, Leads}
use Rattle.jt_value.proofs.Reaching.{may_append, after_append, leads_one, leads_both}
use Rattle.jt_order.specs.Orders.{OrderOf, IsOrder}
use Rattle.jt_order.specs.declared.rules.Ruling.{Ruling}
use Rattle.jt_order.specs.declared.rules.Ruling.TheVariants.{Again}
use Rattle.jt_delivery.specs.World.{Setting}
use Rattle.jt_obeying.specs.Orders.{Performing, no_tables, performed_over, tables_behind}
use Rattle.jt_obeying.specs.World.{OrderWorld, Answer, OtherMessage, OrderMessage, OtherAnswer}
use Rattle.jt_obeying.specs.Steps.{Event, Issues, Opens, Says, Takes, Offers, Hears, Misses, Loses, RestartsTerminal, Cuts, RestartsPlatform, Answered, TellsResult, TellsNothing, May, ruling_on, log_by, result_by, without_line, after_passing, after_ruling, after}
use Rattle.jt_obeying.specs.Reaching.{empty}
use Rattle.jt_obeying.specs.Claim.{IsReachedWith, OrderIsObeyed, SomeOrderIsObeyed, SomeOrderIsSentAgain, SomeOrderOutlastsAFault, SomeOrderComesAgain, TwoOrdersAreObeyed}
use Rattle.jt_obeying.proofs.Hearing.{again}
use Rattle.jt_obeying.proofs.Lists.{none_among, first_among, among_cases}

-- of nothing there is nothing
none_so : (b : Bool) (r : Registered) → (if b then None else None) ≡ Some r → ⊥
none_so true r e = absurd cc
none_so false r e = absurd cc

none_and : (b : Bool) (P : Registered → Type 0) → IsSomeAnd (if b then None else None) P → ⊥
none_and true P h = h
none_and false P h = h

module _ (phone : Phone) (register : Register) (setting : Setting) (performing : Performing) (first_edition : Edition) (order : OrderOf) (fleet : IsOfFleet setting.fleet (registration register))
    (is : IsOrder order) (readable : performing.refuses first_edition order ≡ false) where
  abbrev key : List ℕ
  key = key_of phone

  same : same_key key key ≡ true
  same = (bytes_eq-Decides key key).1 refl

  abbrev code : List ℕ
  code = code_for setting.secret phone

  abbrev result : ℕ
  result = performing.result first_edition no_tables order

  abbrev start : OrderWorld
  start = empty key setting performing first_edition

  -- the phone is registered and let in
  abbrev first_events : List Event
  first_events =
      Issues order ∷ Opens ∷ Says ∷ Takes 1 OtherMessage [] (Answered (ask.Register phone register) (say.Registered code) (OtherAnswer ∷ [])) TellsNothing
      ∷ Says ∷ Takes 1 OtherMessage [] (Answered (ask.Auth phone code) say.Accepted (OtherAnswer ∷ [])) TellsNothing ∷ []

  abbrev first_world : OrderWorld
  first_world = after_all after start first_events

  may_first : MayAll May after start first_events
  may_first = (
    is,
    (
      tt,
      (
        refl,
        (
          (
            record { opened = (omega arith, omega arith); is_open = refl; going = refl; first = refl },
            (
              refl,
              refl,
              inr (
                refl,
                (
                  refl,
                  inr (
                    fleet,
                    (
                      (λ e. none_so (same_key key key) (registration register) e),
                      ((λ h. none_and (same_key key h.0) (λ r. plates r ≡ (registration register).plate) h.1), (λ h. none_and (same_key key h.0) (λ r. terminals r ≡ (registration register).terminal) h.1)),
                    ),
                  ),
                ),
              ),
              tt,
            ),
            λ t. t,
          ),
          (
            refl,
            (
              (
                record { opened = (omega arith, omega arith); is_open = refl; going = refl; first = refl },
                (refl, refl, inr (refl, (refl, subst (λ b. IsSome (if b then Some (registration register) else (if b then None else None))) (sym same) refl)), tt),
                λ t. t,
              ),
              tt,
            ),
          ),
        ),
      ),
    ),
  )

  lives : live key first_world.history 1 ≡ true
  lives = ap (λ (b : Bool). or_else (if b then Some true else None) false) same

  holds : holder key first_world.history ≡ Some 1
  holds = ap (λ (b : Bool). if b && true then Some 1 else None) same

  registered_so : first_world.keeper.registered ≡ Some (registration register)
  registered_so = ap (λ (b : Bool). if b then Some (registration register) else None) same

  -- the order is sent and performed
  abbrev next_events : List Event
  next_events = Offers 1 ∷ Hears OtherAnswer (OtherAnswer ∷ OrderMessage 0 ∷ []) ∷ Hears OtherAnswer (OrderMessage 0 ∷ []) ∷ Hears (OrderMessage 0) [] ∷ []

  abbrev next_world : OrderWorld
  next_world = after_all after first_world next_events

  may_next : MayAll May after first_world next_events
  may_next = (
    record { opened = (omega arith, omega arith); is_open = refl; waits = omega arith; live = lives; holds = holds; new = λ s. none_among 0 s },
    (
      (record { in_use = refl; first = refl }, refl),
      ((record { in_use = refl; first = refl }, refl), ((record { in_use = refl; first = refl }, readable), tt)),
    ),
  )

  -- its answer is taken
  abbrev last_events : List Event
  last_events = Takes 1 (Answer 0 result) [] (Answered (ask.Other phone TERMINAL_ACK) say.Accepted []) TellsResult ∷ []

  abbrev last_world : OrderWorld
  last_world = after_all after next_world last_events

  may_last : MayAll May after next_world last_events
  may_last = (
    (
      record { opened = (omega arith, omega arith); is_open = refl; going = refl; first = refl },
      ((refl, refl), refl, inr (refl, inr (lives, inr (subst (IsHolder 1) (sym holds) refl, refl))), refl),
      (refl, record { waits = omega arith; serial = refl; id = refl; sent = first_among 0 [] }),
    ),
    tt,
  )

  abbrev all_events : List Event
  all_events = first_events ++ (next_events ++ last_events)

  leads : Leads May after start last_world
  leads = record {
    events = all_events;
    may = may_append May after start first_events (next_events ++ last_events) may_first (may_append May after first_world next_events last_events may_next may_last);
    to = after_append after start first_events (next_events ++ last_events) ∙ after_append after first_world next_events last_events;
  }

  obeyed : OrderIsObeyed performing first_edition order last_world
  obeyed = record { issued = refl; performed = refl; answered = refl }

  reached_obeyed : IsReachedWith phone register setting performing last_world
  reached_obeyed = record {
    reached = record { key = key; setting = setting; performing = performing; first_edition = first_edition; leads = leads };
    of_phone = refl;
    of_setting = refl;
    of_performing = refl;
    registered = registered_so;
  }

  -- a second order on the same line
  module _ (second : OrderOf) (is_second : IsOrder second) (readable_second : performing.refuses first_edition second ≡ false) where
    abbrev result_second : ℕ
    result_second = performing.result first_edition (tables_behind performing no_tables (performed_over performing first_edition no_tables order)) second

    abbrev more_events : List Event
    more_events =
        Issues second ∷ Offers 1 ∷ Hears (OrderMessage 1) []
        ∷ Takes 1 (Answer 1 result_second) [] (Answered (ask.Other phone TERMINAL_ACK) say.Accepted []) TellsResult ∷ []

    abbrev more_world : OrderWorld
    more_world = after_all after last_world more_events

    other_of : (x i : ℕ) → suc x ≡ i → (x ≡ i) ⊎ Contains [] i → ⊥
    other_of x i next (inl e) = absurd (omega (arith, e, next))
    other_of x i next (inr s) = none_among i s

    other_place : (x i : ℕ) → suc x ≡ i → Contains (x ∷ []) i → ⊥
    other_place x i next s = other_of x i next (among_cases x i [] s)

    may_more : MayAll May after last_world more_events
    may_more = (
      is_second,
      (
        record { opened = (omega arith, omega arith); is_open = refl; waits = omega arith; live = lives; holds = holds; new = λ s. other_place 0 1 refl s },
        (
          (record { in_use = refl; first = refl }, readable_second),
          (
            (
              record { opened = (omega arith, omega arith); is_open = refl; going = refl; first = refl },
              ((refl, refl), refl, inr (refl, inr (lives, inr (subst (IsHolder 1) (sym holds) refl, refl))), refl),
              (refl, record { waits = omega arith; serial = refl; id = refl; sent = first_among 1 (0 ∷ []) }),
            ),
            tt,
          ),
        ),
      ),
    )

    leads_more : Leads May after start more_world
    unfolding leads
    leads_more = record {
      events = all_events ++ more_events;
      may = may_append May after start all_events more_events leads.may (subst (λ w. MayAll May after w more_events) (sym leads.to) may_more);
      to = after_append after start all_events more_events ∙ ap (λ w. after_all after w more_events) leads.to;
    }

    reached_more : IsReachedWith phone register setting performing more_world
    reached_more = record {
      reached = record { key = key; setting = setting; performing = performing; first_edition = first_edition; leads = leads_more };
      of_phone = refl;
      of_setting = refl;
      of_performing = refl;
      registered = registered_so;
    }

  -- the order is sent and lost with its line, the platform starts again, and the phone is let in on a second one
  abbrev lost_events : List Event
  lost_events = Offers 1 ∷ Loses ∷ RestartsPlatform ∷ Opens ∷ Says ∷ Takes 2 OtherMessage [] (Answered (ask.Auth phone code) say.Accepted (OtherAnswer ∷ [])) TellsNothing ∷ []

  abbrev lost_world : OrderWorld
  lost_world = after_all after first_world lost_events

  may_lose : MayAll May after first_world lost_events
  may_lose = (
    record { opened = (omega arith, omega arith); is_open = refl; waits = omega arith; live = lives; holds = holds; new = λ s. none_among 0 s },
    (
      tt,
      (
        tt,
        (
          tt,
          (
            refl,
            (
              (
                record { opened = (omega arith, omega arith); is_open = refl; going = refl; first = refl },
                (refl, refl, inr (refl, (refl, subst (λ b. IsSome (if b then (if b then Some (registration register) else None) else None)) (sym same) refl)), tt),
                λ t. t,
              ),
              tt,
            ),
          ),
        ),
      ),
    ),
  )

  lives_anew : live key lost_world.history 2 ≡ true
  lives_anew = ap (λ (b : Bool). or_else (if b then Some true else None) false) same

  holds_anew : holder key lost_world.history ≡ Some 2
  holds_anew = ap (λ (b : Bool). if b && true then Some 2 else None) same

  -- it is sent again, performed, and its answer is taken
  abbrev found_events : List Event
  found_events =
      Offers 2 ∷ Hears OtherAnswer (OrderMessage 0 ∷ []) ∷ Hears (OrderMessage 0) []
      ∷ Takes 2 (Answer 0 result) [] (Answered (ask.Other phone TERMINAL_ACK) say.Accepted []) TellsResult ∷ []

  abbrev found_world : OrderWorld
  found_world = after_all after lost_world found_events

  may_find : MayAll May after lost_world found_events
  may_find = (
    record { opened = (omega arith, omega arith); is_open = refl; waits = omega arith; live = lives_anew; holds = holds_anew; new = λ s. none_among 0 s },
    (
      (record { in_use = refl; first = refl }, refl),
      (
        (record { in_use = refl; first = refl }, readable),
        (
          (
            record { opened = (omega arith, omega arith); is_open = refl; going = refl; first = refl },
            ((refl, refl), refl, inr (refl, inr (lives_anew, inr (subst (IsHolder 2) (sym holds_anew) refl, refl))), refl),
            (refl, record { waits = omega arith; serial = refl; id = refl; sent = first_among 0 [] }),
          ),
          tt,
        ),
      ),
    ),
  )

  leads_found : Leads May after start found_world
  leads_found = record {
    events = first_events ++ (lost_events ++ found_events);
    may = may_append May after start first_events (lost_events ++ found_events) may_first (may_append May after first_world lost_events found_events may_lose may_find);
    to = after_append after start first_events (lost_events ++ found_events) ∙ after_append after first_world lost_events found_events;
  }

  obeyed_found : OrderIsObeyed performing first_edition order found_world
  obeyed_found = record { issued = refl; performed = refl; answered = refl }

  reached_found : IsReachedWith phone register setting performing found_world
  reached_found = record {
    reached = record { key = key; setting = setting; performing = performing; first_edition = first_edition; leads = leads_found };
    of_phone = refl;
    of_setting = refl;
    of_performing = refl;
    registered = registered_so;
  }

  restarted : found_world.began.registered ≡ Some (registration register)
  restarted = registered_so

  -- the order is performed, and not responded to
  abbrev sent_events : List Event
  sent_events = Offers 1 ∷ Hears OtherAnswer (OtherAnswer ∷ OrderMessage 0 ∷ []) ∷ Hears OtherAnswer (OrderMessage 0 ∷ []) ∷ []

  abbrev sent_world : OrderWorld
  sent_world = after_all after first_world sent_events

  may_send : MayAll May after first_world sent_events
  may_send = (
    record { opened = (omega arith, omega arith); is_open = refl; waits = omega arith; live = lives; holds = holds; new = λ s. none_among 0 s },
    ((record { in_use = refl; first = refl }, refl), ((record { in_use = refl; first = refl }, refl), tt)),
  )

  abbrev missed_world : OrderWorld
  missed_world = after_ruling sent_world (OrderMessage 0) []

  misses : missed_world ≡ after sent_world (Misses (OrderMessage 0) [])
  misses = ap (λ (b : Bool). if b then after_passing sent_world (OrderMessage 0) [] else missed_world) (sym readable)

  abbrev faulty_world : OrderWorld
  faulty_world = without_line missed_world

  -- the phone is let in on a second line, and the order is sent again
  abbrev anew_events : List Event
  anew_events =
      Opens ∷ Says ∷ Takes 2 OtherMessage [] (Answered (ask.Auth phone code) say.Accepted (OtherAnswer ∷ [])) TellsNothing
      ∷ Offers 2 ∷ Hears OtherAnswer (OrderMessage 0 ∷ []) ∷ []

  abbrev anew_world : OrderWorld
  anew_world = after_all after faulty_world anew_events

  lives_second : live key anew_world.history 2 ≡ true
  lives_second = ap (λ (b : Bool). or_else (if b then Some true else None) false) same

  holds_second : holder key anew_world.history ≡ Some 2
  holds_second = ap (λ (b : Bool). if b && true then Some 2 else (if b && true then Some 1 else None)) same

  may_anew : MayAll May after faulty_world anew_events
  may_anew = (
    tt,
    (
      refl,
      (
        (
          record { opened = (omega arith, omega arith); is_open = refl; going = refl; first = refl },
          (refl, refl, inr (refl, (refl, subst (λ b. IsSome (if b then Some (registration register) else (if b then None else None))) (sym same) refl)), tt),
          λ t. t,
        ),
        (
          record { opened = (omega arith, omega arith); is_open = refl; waits = omega arith; live = lives_second; holds = holds_second; new = λ s. none_among 0 s },
          ((record { in_use = refl; first = refl }, refl), tt),
        ),
      ),
    ),
  )

  -- the response has the result that was kept
  abbrev kept_ruling : Ruling
  kept_ruling = ruling_on anew_world 0

  is_kept : kept_ruling ≡ Again result
  is_kept = again anew_world.log 0 order (omega arith) refl refl

  abbrev kept_events : List Event
  kept_events = Hears (OrderMessage 0) [] ∷ Takes 2 (Answer 0 (result_by anew_world 0 kept_ruling)) [] (Answered (ask.Other phone TERMINAL_ACK) say.Accepted []) TellsResult ∷ []

  abbrev kept_world : OrderWorld
  kept_world = after_all after anew_world kept_events

  may_keep : MayAll May after anew_world kept_events
  may_keep = (
    (record { in_use = refl; first = refl }, readable),
    (
      (
        record { opened = (omega arith, omega arith); is_open = refl; going = refl; first = refl },
        ((refl, refl), refl, inr (refl, inr (lives_second, inr (subst (IsHolder 2) (sym holds_second) refl, refl))), refl),
        (refl, record { waits = omega arith; serial = refl; id = refl; sent = first_among 0 [] }),
      ),
      tt,
    ),
  )

  leads_sent : Leads May after start sent_world
  leads_sent = record {
    events = first_events ++ sent_events;
    may = may_append May after start first_events sent_events may_first may_send;
    to = after_append after start first_events sent_events;
  }

  leads_kept : Leads May after missed_world kept_world
  leads_kept = record {
    events = Loses ∷ (anew_events ++ kept_events);
    may = (tt, may_append May after faulty_world anew_events kept_events may_anew may_keep);
    to = after_append after faulty_world anew_events kept_events;
  }

  leads_over : Leads May after start kept_world
  leads_over = leads_both May after start sent_world kept_world leads_sent
      (leads_both May after sent_world missed_world kept_world
      (leads_one May after sent_world missed_world (Misses (OrderMessage 0) []) (record { in_use = refl; first = refl }) misses) leads_kept)

  obeyed_over : OrderIsObeyed performing first_edition order kept_world
  obeyed_over = record {
    issued = refl;
    performed = ap (λ (r : Ruling). log_by anew_world 0 r) is_kept;
    answered = ap (λ (r : Ruling). result_by anew_world 0 r ∷ []) is_kept;
  }

  reached_over : IsReachedWith phone register setting performing kept_world
  reached_over = record {
    reached = record { key = key; setting = setting; performing = performing; first_edition = first_edition; leads = leads_over };
    of_phone = refl;
    of_setting = refl;
    of_performing = refl;
    registered = registered_so;
  }

  -- the terminal starts again, maybe in the other edition, the line is cut, and the order is sent on a second one
  module _ (later : Edition) (readable_later : performing.refuses later order ≡ false) where
    abbrev second_events : List Event
    second_events =
        RestartsTerminal later ∷ Cuts 1 ∷ Opens ∷ Says ∷ Takes 2 OtherMessage [] (Answered (ask.Auth phone code) say.Accepted (OtherAnswer ∷ [])) TellsNothing
        ∷ Offers 2 ∷ Hears OtherAnswer (OrderMessage 0 ∷ []) ∷ []

    abbrev second_world : OrderWorld
    second_world = after_all after next_world second_events

    lives_then : live key second_world.history 2 ≡ true
    lives_then = ap (λ (b : Bool). or_else (if b then Some true else None) false) same

    holds_then : holder key second_world.history ≡ Some 2
    holds_then = ap (λ (b : Bool). if b && true then Some 2 else (if b && true then Some 1 else None)) same

    may_second : MayAll May after next_world second_events
    may_second = (
      tt,
      (
        ((omega arith, omega arith), refl),
        (
          tt,
          (
            refl,
            (
              (
                record { opened = (omega arith, omega arith); is_open = refl; going = refl; first = refl },
                (refl, refl, inr (refl, (refl, subst (λ b. IsSome (if b then Some (registration register) else (if b then None else None))) (sym same) refl)), tt),
                λ t. t,
              ),
              (
                record { opened = (omega arith, omega arith); is_open = refl; waits = omega arith; live = lives_then; holds = holds_then; new = λ s. none_among 0 s },
                ((record { in_use = refl; first = refl }, refl), tt),
              ),
            ),
          ),
        ),
      ),
    )

    -- it is responded to again
    abbrev heard_ruling : Ruling
    heard_ruling = ruling_on second_world 0

    is_again : heard_ruling ≡ Again result
    is_again = again second_world.log 0 order (omega arith) refl refl

    abbrev third_events : List Event
    third_events = Hears (OrderMessage 0) [] ∷ Takes 2 (Answer 0 (result_by second_world 0 heard_ruling)) [] (Answered (ask.Other phone TERMINAL_ACK) say.Accepted []) TellsResult ∷ []

    abbrev third_world : OrderWorld
    third_world = after_all after second_world third_events

    may_third : MayAll May after second_world third_events
    may_third = (
      (record { in_use = refl; first = refl }, readable_later),
      (
        (
          record { opened = (omega arith, omega arith); is_open = refl; going = refl; first = refl },
          ((refl, refl), refl, inr (refl, inr (lives_then, inr (subst (IsHolder 2) (sym holds_then) refl, refl))), refl),
          (refl, record { waits = omega arith; serial = refl; id = refl; sent = first_among 0 [] }),
        ),
        tt,
      ),
    )

    abbrev events_again : List Event
    events_again = first_events ++ (next_events ++ (second_events ++ third_events))

    leads_again : Leads May after start third_world
    leads_again = record {
      events = events_again;
      may = may_append May after start first_events (next_events ++ (second_events ++ third_events)) may_first
          (may_append May after first_world next_events (second_events ++ third_events) may_next (may_append May after next_world second_events third_events may_second may_third));
      to = after_append after start first_events (next_events ++ (second_events ++ third_events))
          ∙ (after_append after first_world next_events (second_events ++ third_events) ∙ after_append after next_world second_events third_events);
    }

    obeyed_again : OrderIsObeyed performing first_edition order third_world
    obeyed_again = record {
      issued = refl;
      performed = ap (λ (r : Ruling). log_by second_world 0 r) is_again;
      answered = ap (λ (r : Ruling). result_by second_world 0 r ∷ []) is_again;
    }

    reached_again : IsReachedWith phone register setting performing third_world
    reached_again = record {
      reached = record { key = key; setting = setting; performing = performing; first_edition = first_edition; leads = leads_again };
      of_phone = refl;
      of_setting = refl;
      of_performing = refl;
      registered = registered_so;
    }

pub some_order : SomeOrderIsObeyed
some_order phone register setting performing edition order fleet is readable = (
  last_world phone register setting performing edition order fleet is readable,
  reached_obeyed phone register setting performing edition order fleet is readable,
  obeyed phone register setting performing edition order fleet is readable,
  refl,
)

pub some_sent_again : SomeOrderIsSentAgain
some_sent_again phone register setting performing edition order fleet is readable = (
  found_world phone register setting performing edition order fleet is readable,
  reached_found phone register setting performing edition order fleet is readable,
  obeyed_found phone register setting performing edition order fleet is readable,
  record { two_lines = refl; first_sent = refl; lost = refl; restarted = restarted phone register setting performing edition order fleet is readable; second_sent = refl; second_read = (0, omega arith, refl) },
)

pub some_over : SomeOrderOutlastsAFault
some_over phone register setting performing edition order fleet is readable = (
  kept_world phone register setting performing edition order fleet is readable,
  reached_over phone register setting performing edition order fleet is readable,
  obeyed_over phone register setting performing edition order fleet is readable,
  record { two_lines = refl; read = refl; gone = refl; waiting = refl; second_sent = refl },
)

pub some_again : SomeOrderComesAgain
some_again phone register setting performing edition later order fleet is readable readable_later = (
  third_world phone register setting performing edition order fleet is readable later readable_later,
  reached_again phone register setting performing edition order fleet is readable later readable_later,
  obeyed_again phone register setting performing edition order fleet is readable later readable_later,
  refl,
  record { two_lines = refl; first_read = (0, omega arith, refl); first_cut = refl; lost = refl; second_read = (0, omega arith, refl) },
)

pub two_orders : TwoOrdersAreObeyed
two_orders phone register setting performing edition first second fleet is is_second readable readable_second = (
  more_world phone register setting performing edition first fleet is readable second is_second readable_second,
  reached_more phone register setting performing edition first fleet is readable second is_second readable_second,
  refl,
  refl,
  refl,
  refl,
)
