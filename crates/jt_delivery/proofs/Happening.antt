-- A run in which one fix is delivered.
use Rattle.std.proofs.Common.{ℕ, ◌<◌, ◌≡◌, ◌≢◌, List, [], ◌∷◌, ◌++◌, length, arith, refl, ap, sym, ◌∙◌, subst, Bool, true, false, ◌&&◌, if◌then◌else◌, inl, inr, Some, None, IsSome, IsSomeAnd}
use Rattle.std.proofs.lemmas.List.{append-nil}
use Rattle.std.proofs.lemmas.List.Elements.{All-nil, All-cons}
use Rattle.std.proofs.lemmas.Slice.Eq.{bytes_eq-Decides}
use Rattle.jt_value.specs.Sameness.{key_of, same_key}
use Rattle.jt_value.specs.Serials.{New}
use Rattle.jt_value.specs.declared.phone.Phone.{Phone}
use Rattle.jt_position.specs.Fixes.{IsFix, FixesAre, fixes_of}
use Rattle.jt_register.specs.declared.register.Register.{Register}
use Rattle.jt_store.specs.declared.row.Row.{Row}
use Rattle.jt_store.specs.declared.row.Registered.{Registered}
use Rattle.jt_store.specs.Tables.{plates, terminals}
use Rattle.jt_platform.specs.declared.request.Request.TheVariants as ask
use Rattle.jt_platform.specs.declared.request.Reply.TheVariants as say
use Rattle.jt_platform.specs.Codes.{code_for}
use Rattle.jt_platform.specs.History.{live, holder, or_else, registration}
use Rattle.jt_platform.specs.Allowed.{IsHolder, IsOfFleet, VerdictOn}
use Rattle.jt_delivery.specs.World.{World, Setting, Authentication, OtherMessage, Sending, Admission, Acceptance, OtherAnswer}
use Rattle.jt_store.specs.Units.{carried, fixes_in}
use Rattle.jt_delivery.specs.Steps.{Event, Records, Forms, Opens, Sends, Says, Answers, Hears, Accepts, Answered, IsNamed, May, after}
use Rattle.jt_delivery.specs.Reaching.{empty}
use Rattle.jt_value.specs.Reaching.{MayAll, after_all, Leads}
use Rattle.jt_value.proofs.Reaching.{may_append, after_append}
use Rattle.jt_delivery.specs.Claim.{SomeFixIsDelivered}

-- of nothing there is nothing
none_so : (b : Bool) (r : Registered) → (if b then None else None) ≡ Some r → ⊥
none_so true r e = absurd cc
none_so false r e = absurd cc

none_and : (b : Bool) (P : Registered → Type 0) → IsSomeAnd (if b then None else None) P → ⊥
none_and true P h = h
none_and false P h = h

module _ (told : FixesAre) (phone : Phone) (register : Register) (setting : Setting) (fix : List ℕ) (fleet : IsOfFleet setting.fleet (registration register)) (room : 0 < setting.limit) (is_fix : IsFix fix) where
  abbrev key : List ℕ
  key = key_of phone

  same : same_key key key ≡ true
  same = (bytes_eq-Decides key key).1 refl

  abbrev code : List ℕ
  code = code_for setting.secret phone

  abbrev unit : Row
  unit = record { number = 0; id = 0x0200; body = fix }

  carries : fixes_of (carried unit) ≡ fix ∷ []
  carries = told.of_a_position fix is_fix.position.0 is_fix.position.1

  carries_some : fixes_of (carried unit) ≢ []
  carries_some e = absurd cc (sym carries ∙ e)

  -- the phone is registered
  abbrev first_events : List Event
  first_events = Records fix ∷ Opens ∷ Says OtherMessage ∷ Answers 1 OtherMessage [] (Answered (ask.Register phone register) (say.Registered code) (OtherAnswer ∷ [])) ∷ []

  abbrev first_world : World
  first_world = after_all after (empty key setting) first_events

  may_first : MayAll May after (empty key setting) first_events
  may_first = (
    is_fix,
    (
      tt,
      (
        (refl, tt),
        (
          (
            record { opened = (omega arith, omega arith); is_open = refl; going = refl; first = refl },
            (
              refl,
              refl,
              inr (
                refl,
                (
                  refl,
                  inr (
                    fleet,
                    (
                      (λ e. none_so (same_key key key) (registration register) e),
                      ((λ h. none_and (same_key key h.0) (λ r. plates r ≡ (registration register).plate) h.1), (λ h. none_and (same_key key h.0) (λ r. terminals r ≡ (registration register).terminal) h.1)),
                    ),
                  ),
                ),
              ),
              tt,
            ),
          ),
          tt,
        ),
      ),
    ),
  )

  -- it is let in, and a unit is formed and sent
  abbrev next_events : List Event
  next_events = Says Authentication ∷ Answers 1 Authentication [] (Answered (ask.Auth phone code) say.Accepted (Admission ∷ [])) ∷ Hears OtherAnswer (Admission ∷ []) [] ∷ Hears Admission [] [] ∷ Forms unit ∷ Sends 0 ∷ []

  abbrev next_world : World
  next_world = after_all after first_world next_events

  may_next : MayAll May after first_world next_events
  may_next = (
    (refl, tt),
    (
      (record { opened = (omega arith, omega arith); is_open = refl; going = refl; first = refl }, (refl, refl, inr (refl, (refl, subst (λ b. IsSome (if b then Some (registration register) else (if b then None else None))) (sym same) refl)), refl)),
      (
        (refl, refl, λ k d lt. absurd (omega arith)),
        (
          (refl, refl, λ k d lt. absurd (omega arith)),
          (
            record { above = λ k d lt. absurd (omega arith); after_accepted = omega arith; near = omega arith; short = is_fix.short; some = carries_some; next = ([], append-nil (fixes_of (carried unit)) ∙ carries) },
            (
              record { in_use = refl; admitted = tt; waits = omega arith; formed = omega arith; in_order = λ older from to. absurd (omega arith) },
              tt,
            ),
          ),
        ),
      ),
    ),
  )

  -- it is stored, and its acceptance is read and taken
  abbrev stores : Event
  stores = Answers 1 (Sending 0 1) [] (Answered (ask.Unit phone 0 0x0200 fix) (say.Stored 0) (Acceptance 0 1 ∷ []))

  abbrev last_events : List Event
  last_events = stores ∷ Hears (Acceptance 0 1) [] (0 ∷ []) ∷ Accepts ∷ []

  abbrev last_world : World
  last_world = after_all after next_world last_events

  lives : live key next_world.history 1 ≡ true
  lives = ap (λ (b : Bool). or_else (if b then Some true else None) false) same

  holds : holder key next_world.history ≡ Some 1
  holds = ap (λ (b : Bool). if b && true then Some 1 else None) same

  abbrev rows_by : Bool → List Row
  rows_by b = ((if b then [] else []) ++ []) ++ []

  no_rows : rows_by (same_key key key) ≡ []
  no_rows = ap rows_by same

  named : IsNamed (after next_world stores) (Acceptance 0 1) 0
  named = record { names = (refl, refl); waits = omega arith; formed = omega arith; sent = inl (inl refl) }

  may_last : MayAll May after next_world last_events
  may_last = (
    (
      record { opened = (omega arith, omega arith); is_open = refl; going = refl; first = refl },
      ((refl, refl, refl, refl), refl, inr (refl, inr (lives, inr (subst (IsHolder 1) (sym holds) refl, (subst (λ rows. VerdictOn rows 0 0x0200 fix (New 0)) (sym no_rows) refl, subst (λ (rows : List Row). length rows < setting.limit) (sym no_rows) room)))), refl),
    ),
    (
      (refl, refl, All-cons (λ (place : ℕ). IsNamed (after next_world stores) (Acceptance 0 1) place) 0 [] named (All-nil (λ (place : ℕ). IsNamed (after next_world stores) (Acceptance 0 1) place))),
      ((refl, record { names = (refl, refl); waits = omega arith; formed = omega arith; sent = inl (inl refl) }), tt),
    ),
  )

  abbrev all_events : List Event
  all_events = first_events ++ (next_events ++ last_events)

  leads : Leads May after (empty key setting) last_world
  leads = record {
    events = all_events;
    may = may_append May after (empty key setting) first_events (next_events ++ last_events) may_first (may_append May after first_world next_events last_events may_next may_last);
    to = after_append after (empty key setting) first_events (next_events ++ last_events) ∙ after_append after first_world next_events last_events;
  }

  abbrev stored_by : Bool → List Row
  stored_by b = (([] ++ []) ++ []) ++ (if b then unit ∷ [] else [])

  stored : fixes_in last_world.keeper.rows ≡ fix ∷ []
  stored = ap (λ (b : Bool). fixes_in (stored_by b)) same ∙ (append-nil (fixes_of (carried unit)) ∙ carries)

pub some_delivery : FixesAre → SomeFixIsDelivered
some_delivery told phone register setting fix fleet room is_fix =
    (last_world told phone register setting fix fleet room is_fix, record { key = key_of phone; setting = setting; leads = leads told phone register setting fix fleet room is_fix }, refl, refl, stored told phone register setting fix fleet room is_fix)
