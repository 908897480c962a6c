-- Octets that a line takes, one after another, as steps of the world.
use Rattle.std.proofs.Common.{ℕ, zero, suc, ◌+◌, ◌-◌, ◌<◌, ◌≤◌, ◌≡◌, ◌≢◌, ◌⊎◌, ◌↔◌, IsOk, List, [], ◌∷◌, ◌++◌, length, take, drop, set, Option, Some, None, Result, Bool, true, false, arith, refl, ap, sym, ◌∙◌, subst, append_assoc, inl, inr}
use Rattle.std.proofs.lemmas.Bool.{false≢true}
use Rattle.std.proofs.lemmas.Option.{same_Some}
use Rattle.std.proofs.lemmas.List.{append-nil, append_cancel_left, length-append, map-append, set-get_or}
use Rattle.std.proofs.Math.Seq.{take-add}
use Rattle.jt_header.specs.declared.header.Header.{Header}
use Rattle.jt_stream.specs.Unplaced.{Unplaced, items}
use Rattle.jt_store.specs.declared.error.StoreError.{StoreError}
use Rattle.jt_session.specs.Talk.{State, Turn, Way, Goes, Talked, FitsFrom, at_state, items_of, talk_from}
use Rattle.jt_session.specs.Sessions.{MayTurn}
use Rattle.jt_session.proofs.Joining.{onto}
use Rattle.jt_order.specs.Books.{Book}
use Rattle.jt_order.specs.Orders.{OrderOf}
use Rattle.jt_order_turns.specs.Turns.{IsResponse}
use Rattle.jt_order_session.specs.Responses.{response_in}
use Rattle.jt_order_session.specs.Sessions.{Tells as TellsBook}
use Rattle.jt_octets.specs.World.{Line, Wire, completed_item, line_at, new_line, opening_of, taken_of}
use Rattle.jt_octets.specs.Steps.{talk_after_item}
use Rattle.jt_play.proofs.Upward.{completed_none, completed_some, grown, octet_of}
use Rattle.jt_order_octets.specs.World.{OrderWorld, sent_at}
use Rattle.jt_order_octets.specs.Reaching.{Leads}
use Rattle.jt_order_octets.specs.Steps.{BookFails, Event, Telling, TellsNothing, Up, results_after}
use Rattle.jt_order_play.specs.Playing.{book_of, told_by}
use Rattle.jt_order_play.proofs.Telling.{ToldSo, told_so}
use Rattle.jt_order_session_steps.specs.Steps.{IsOpen, NoneFails, ups}
use Rattle.jt_order_session_steps.proofs.Leading.{both_steps, no_step, steps_to}
use Rattle.jt_order_session_steps.proofs.Lists.{last_view, same_ends}
use Rattle.jt_order_session_steps.proofs.Telling.{Between, between, told_none}
use Rattle.jt_order_session_steps.proofs.Octet.{add_zero, at_own, next_taken, step, turn_next, walked, wire_at}

-- ---- laws of streams and responses that the steps rest on

abbrev pub Ones : Type 0
Ones = (stream : List ℕ) (octet : ℕ) → length (items (stream ++ octet ∷ [])) ≤ length (items stream) + 1

abbrev pub Fronts : Type 0
Fronts = (front rest : List ℕ) → (more : List Unplaced) × (items (front ++ rest) ≡ items front ++ more)

abbrev pub Responses : Type 0
Responses = (h : Header) (octets : List ℕ) (r : _) → (response_in h octets ≡ Some r) ↔ IsResponse h octets r.reply r.id r.result

-- ---- lists of items

no_turns : (turns : List Turn) → items_of turns ≡ [] → turns ≡ []
no_turns [] e = refl
no_turns (t ∷ older) e = let same = ap length e in absurd (omega (arith, same, length-append (items_of older) (t.item ∷ [])))

-- ---- tellings of octets

length_more : (course : List (Way × Telling)) (x : Way × Telling) (n : ℕ) → length course ≡ n → length (course ++ x ∷ []) ≡ suc n
length_more course x n e = omega (arith, e, length-append course (x ∷ []))

ups_more : (place : ℕ) (course : List (Way × Telling)) (x : Way × Telling) (events : List Event) → events ≡ ups place course → events ++ Up place x.0 x.1 ∷ [] ≡ ups place (course ++ x ∷ [])
ups_more place course x events e = ap (λ (es : List Event). es ++ Up place x.0 x.1 ∷ []) e ∙ sym (map-append (λ (y : Way × Telling). Up place y.0 y.1) course (x ∷ []))

fails_more : (course : List (Way × Telling)) (x : Way × Telling) → NoneFails course → x.1 ≢ BookFails → NoneFails (course ++ x ∷ [])
fails_more [] x none holds = (holds, tt)
fails_more (y ∷ course) x none holds = (none.0, fails_more course x none.1 holds)

nothing_holds : TellsNothing ≢ BookFails
nothing_holds e = cc

told_by_holds : (o : Option ℕ) → told_by o ≢ BookFails
told_by_holds None e = cc
told_by_holds (Some result) e = cc

told_holds : (telling : Telling) (o : Option ℕ) → telling ≡ told_by o → telling ≢ BookFails
told_holds telling o is e = told_by_holds o (sym is ∙ e)

-- ---- octets, one after another

module _ (one : Ones) (front : Fronts) (law : Responses) (w : OrderWorld) (place : ℕ) (state : State) (within : place < length w.base.lines) (opened : IsOpen w place) (keeps : (line_at w.base.lines place).session ≡ Some state) where
  abbrev line : Line
  line = line_at w.base.lines place

  abbrev up : Wire
  up = line.up

  abbrev read : ℕ → List ℕ
  read n = take (up.taken + n) up.octets

  abbrev k : List Turn → Talked
  k turns = talk_from (at_state state) turns

  -- the last of so many octets completed an item
  abbrev pub Completes : ℕ → Type 0
  Completes zero = ⊥
  Completes (suc n) = length (items (read n)) < length (items (read (suc n)))

  -- steps lead to the world behind so many octets, which brought these turns, with this book: one for each octet
  pub record Walked (n : ℕ) (turns : List Turn) (b : Book) (told : Result (Unit {0}) StoreError) : Type 0 where
    pub leads : Leads w (walked w place n (k turns) b.results)
    pub issued : b.issued ≡ w.issued
    pub course : List (Way × Telling)
    pub each : length course ≡ n
    pub events : leads.events ≡ ups place course
    pub none_fails : IsOk told → NoneFails course

  -- so many octets that brought these turns, the book having been told so
  record Brings (n : ℕ) (turns : List Turn) (b : Book) (told : Result (Unit {0}) StoreError) : Type 0 where
    brought : items (read n) ≡ items (taken_of up) ++ items_of turns
    fits : FitsFrom (at_state state) turns
    may : MayTurn (opening_of w.base) w.base.history (suc place) (at_state state) turns
    last : (k turns).over ≡ true → Completes n
    tells : TellsBook (sent_at w place) (Some (book_of w)) (Some b) turns told

  read_more : (n : ℕ) → up.taken + n < length up.octets → read (suc n) ≡ read n ++ octet_of (wire_at up n) ∷ []
  read_more n left = ap (λ (m : ℕ). take m up.octets) (sym (next_taken up.taken n)) ∙ grown (wire_at up n) left

  walk_none : (turns : List Turn) (b : Book) (told : Result (Unit {0}) StoreError) → Brings zero turns b told → Walked zero turns b told
  walk_none turns b told g = record {
    leads = no_step w (walked w place zero (k turns) b.results) (ap (λ (ts : List Turn). walked w place zero (k ts) b.results) none ∙ is);
    issued = ap (λ (x : Book). x.issued) same;
    course = [];
    each = refl;
    events = refl;
    none_fails = λ ok. tt;
  }
    where
      none : turns ≡ []
      none = no_turns turns (append_cancel_left (items (taken_of up)) (items_of turns) [] (sym g.brought ∙ (ap (λ (m : ℕ). items (take m up.octets)) (add_zero up.taken) ∙ sym (append-nil (items (taken_of up))))))

      same : b ≡ book_of w
      same = same_Some b (book_of w) (told_none (sent_at w place) (book_of w) b told (subst (λ (ts : List Turn). TellsBook (sent_at w place) (Some (book_of w)) (Some b) ts told) none g.tells))

      is : walked w place zero (at_state state) b.results ≡ w
      is = ap (λ (m : ℕ). record w { base = record w.base { lines = set w.base.lines place (record { up = record { octets = up.octets; taken = m }; down = record { octets = line.down.octets ++ []; taken = line.down.taken }; session = Some state; is_open = line.is_open }) }; results = b.results }) (add_zero up.taken)
          ∙ (ap (λ (d : List ℕ). record w { base = record w.base { lines = set w.base.lines place (record { up = up; down = record { octets = d; taken = line.down.taken }; session = Some state; is_open = line.is_open }) }; results = b.results }) (append-nil line.down.octets)
          ∙ (ap (λ (o : Option State). record w { base = record w.base { lines = set w.base.lines place (record { up = up; down = line.down; session = o; is_open = line.is_open }) }; results = b.results }) (sym keeps)
          ∙ (ap (λ (ls : List Line). record w { base = record w.base { lines = ls }; results = b.results }) (set-get_or w.base.lines place new_line) ∙ ap (λ (x : Book). record w { results = x.results }) same)))

  module _ (n : ℕ) (turns : List Turn) (b : Book) (told : Result (Unit {0}) StoreError) (left : up.taken + n < length up.octets) (g : Brings (suc n) turns b told) (walk_before : (ts : List Turn) (b-2 : Book) → Brings n ts b-2 told → Walked n ts b-2 told) where
    abbrev octet : ℕ
    octet = octet_of (wire_at up n)

    abbrev v : OrderWorld
    v = walked w place n (k turns) b.results

    -- an octet that completes nothing
    quiet : items (read n ++ octet ∷ []) ≡ items (read n) → Walked (suc n) turns b told
    quiet none = record {
      leads = both_steps w v (walked w place (suc n) (k turns) b.results) before.leads
          (steps_to v (walked w place (suc n) (onto (k turns) (at_state (k turns).state)) b.results) (walked w place (suc n) (k turns) b.results)
          (step w place within opened n (k turns) None (Goes None) b.results TellsNothing going left (completed_none (wire_at up n) left none) refl (λ m a. a))
          (ap (λ (x : Talked). walked w place (suc n) x b.results) (at_own (k turns) going)));
      issued = before.issued;
      course = before.course ++ (Goes None, TellsNothing) ∷ [];
      each = length_more before.course (Goes None, TellsNothing) n before.each;
      events = ups_more place before.course (Goes None, TellsNothing) before.leads.events before.events;
      none_fails = λ ok. fails_more before.course (Goes None, TellsNothing) (before.none_fails ok) nothing_holds;
    }
      where
        same : items (read (suc n)) ≡ items (read n)
        same = ap items (read_more n left) ∙ none

        by : (o : Bool) → (k turns).over ≡ o → (k turns).over ≡ false
        by false e = e
        by true e = let more = g.last e in let e-2 = ap length same in absurd (omega (arith, more, e-2))

        going : (k turns).over ≡ false
        going = by (k turns).over refl

        before : Walked n turns b told
        before = walk_before turns b (record { brought = sym same ∙ g.brought; fits = g.fits; may = g.may; last = λ e. absurd (false≢true (sym going ∙ e)); tells = g.tells })

    -- the world behind the octets before
    abbrev mid : Book → List Turn → OrderWorld
    mid b-2 ts = walked w place n (k ts) b-2.results

    -- one that completes an item, which is that of the newest turn
    loud : (t : Turn) (older : List Turn) → turns ≡ t ∷ older → (y : Unplaced) → items (read n ++ octet ∷ []) ≡ items (read n) ++ y ∷ [] → Walked (suc n) turns b told
    loud t older newest y some = subst (λ (ts : List Turn). Walked (suc n) ts b told) (sym newest) (record {
      leads = both_steps w (mid parts.mid older) (walked w place (suc n) (k (t ∷ older)) b.results) before.leads
          (steps_to (mid parts.mid older) (walked w place (suc n) (onto (k older) (talk_after_item (k older).state (Some t.item) t.way)) (results_after parts.mid.results now.telling)) (walked w place (suc n) (k (t ∷ older)) b.results)
          (step w place within opened n (k older) (Some t.item) t.way parts.mid.results now.telling fits.0 left completes (fits.1, may.0) now.may)
          (ap (λ (x : Talked). walked w place (suc n) x (results_after parts.mid.results now.telling)) (turn_next (k older) fits.0 t.item t.way) ∙ ap (λ (r : List ℕ). walked w place (suc n) (k (t ∷ older)) r) (sym now.results)));
      issued = now.issued;
      course = before.course ++ (t.way, now.telling) ∷ [];
      each = length_more before.course (t.way, now.telling) n before.each;
      events = ups_more place before.course (t.way, now.telling) before.leads.events before.events;
      none_fails = λ ok. fails_more before.course (t.way, now.telling) (before.none_fails ok) (told_holds now.telling _ (now.whole ok));
    })
      where
        fits : FitsFrom (at_state state) (t ∷ older)
        fits = subst (FitsFrom (at_state state)) newest g.fits

        may : MayTurn (opening_of w.base) w.base.history (suc place) (at_state state) (t ∷ older)
        may = subst (MayTurn (opening_of w.base) w.base.history (suc place) (at_state state)) newest g.may

        ends : (items (read n) ≡ items (taken_of up) ++ items_of older) × (y ≡ t.item)
        ends = same_ends (items (read n)) (items (taken_of up) ++ items_of older) y t.item
            (sym some ∙ (ap items (sym (read_more n left)) ∙ (g.brought ∙ (ap (λ (ts : List Turn). items (taken_of up) ++ items_of ts) newest ∙ sym (append_assoc (items (taken_of up)) (items_of older) (t.item ∷ []))))))

        completes : completed_item (wire_at up n) ≡ Some t.item
        completes = completed_some (wire_at up n) t.item left (some ∙ ap (λ (x : Unplaced). items (read n) ++ x ∷ []) ends.1)

        parts : Between (sent_at w place) (book_of w) b t older told
        parts = between (sent_at w place) (book_of w) b t older told (subst (λ (ts : List Turn). TellsBook (sent_at w place) (Some (book_of w)) (Some b) ts told) newest g.tells)

        before : Walked n older parts.mid told
        before = walk_before older parts.mid (record { brought = ends.0; fits = fits.2; may = may.1; last = λ e. absurd (false≢true (sym fits.0 ∙ e)); tells = parts.first })

        now : ToldSo (mid parts.mid older) place (Some t.item) t.way b told
        now = told_so law (mid parts.mid older) place (Some t.item) t.way (t ∷ []) b told (inr (t, refl, refl, refl))
            (subst (λ (x : Book). TellsBook (sent_at w place) (Some x) (Some b) (t ∷ []) told) (ap (λ (i : List OrderOf). record { issued = i; results = parts.mid.results }) before.issued) parts.second)

    -- the octets so far brought no item less
    front_grows : length (items (taken_of up)) ≤ length (items (read n))
    front_grows =
        let more = front (taken_of up) (take n (drop up.taken up.octets)) in
        let e = ap length (ap items (take-add up.taken n up.octets) ∙ more.1) in
        omega (arith, e, length-append (items (taken_of up)) more.0)

    some_turn : (y : Unplaced) → items (read n ++ octet ∷ []) ≡ items (read n) ++ y ∷ [] → (ts : List Turn) → turns ≡ ts → Walked (suc n) turns b told
    some_turn y some [] none =
        let e = ap length (sym some ∙ (ap items (sym (read_more n left)) ∙ (g.brought ∙ (ap (λ (ts : List Turn). items (taken_of up) ++ items_of ts) none ∙ append-nil (items (taken_of up)))))) in
        absurd (omega (arith, e, front_grows, length-append (items (read n)) (y ∷ [])))
    some_turn y some (t ∷ older) newest = loud t older newest y some

    by_items : (more : List Unplaced) → items (read n ++ octet ∷ []) ≡ items (read n) ++ more → Walked (suc n) turns b told
    by_items [] e = quiet (e ∙ append-nil (items (read n)))
    by_items (y ∷ []) e = some_turn y e turns refl
    by_items (y ∷ z ∷ more) e = let e-2 = ap length e in absurd (omega (arith, e-2, one (read n) octet, length-append (items (read n)) (y ∷ z ∷ more)))

    walk_more : Walked (suc n) turns b told
    walk_more = let more = front (read n) (octet ∷ []) in by_items more.0 more.1

  walk_all : (n : ℕ) (turns : List Turn) (b : Book) (told : Result (Unit {0}) StoreError) → n ≤ length up.octets - up.taken → Brings n turns b told → Walked n turns b told
  walk_all zero turns b told left g = walk_none turns b told g
  walk_all (suc n) turns b told left g = walk_more n turns b told (omega (arith, left)) g (λ ts b-2 g-2. walk_all n ts b-2 told (omega (arith, left)) g-2)

  pub walk : (n : ℕ) (turns : List Turn) (b : Book) (told : Result (Unit {0}) StoreError) → n ≤ length up.octets - up.taken → items (read n) ≡ items (taken_of up) ++ items_of turns → FitsFrom (at_state state) turns
      → MayTurn (opening_of w.base) w.base.history (suc place) (at_state state) turns → ((k turns).over ≡ true → Completes n) → TellsBook (sent_at w place) (Some (book_of w)) (Some b) turns told
      → Walked n turns b told
  walk n turns b told left brought fits may last tells = walk_all n turns b told left (record { brought = brought; fits = fits; may = may; last = last; tells = tells })

  -- ---- where a session ends

  -- the first so many octets brought these items, the last of them with the last octet
  pub record Cut (turns : List Turn) (n : ℕ) : Type 0 where
    pub count : ℕ
    pub most : count ≤ n
    pub brought : items (read count) ≡ items (taken_of up) ++ items_of turns
    pub last : Completes count

  cut_here : (n : ℕ) (turns : List Turn) → up.taken + n < length up.octets → (more : List Unplaced) (y : Unplaced) → items (read n ++ octet_of (wire_at up n) ∷ []) ≡ items (read n) ++ y ∷ more → items (read (suc n)) ≡ items (taken_of up) ++ items_of turns → Cut turns (suc n)
  cut_here n turns left more y e brought = record {
    count = suc n;
    most = omega arith;
    brought = brought;
    last = let e-2 = ap length (ap items (read_more n left) ∙ e) in omega (arith, e-2, length-append (items (read n)) (y ∷ more));
  }

  cut_before : (n : ℕ) (turns : List Turn) → Cut turns n → Cut turns (suc n)
  cut_before n turns c = record { count = c.count; most = let le = c.most in omega (arith, le); brought = c.brought; last = c.last }

  cut_more : (n : ℕ) (turns : List Turn) (rest : List Unplaced) → up.taken + n < length up.octets → items (read (suc n)) ≡ items (taken_of up) ++ (items_of turns ++ rest)
      → ((rest-2 : List Unplaced) → items (read n) ≡ items (taken_of up) ++ (items_of turns ++ rest-2) → Cut turns n) → Cut turns (suc n)
  cut_more n turns rest left brought cut = by (front (read n) (octet_of (wire_at up n) ∷ [])).0 (front (read n) (octet_of (wire_at up n) ∷ [])).1
    where
      by : (more : List Unplaced) → items (read n ++ octet_of (wire_at up n) ∷ []) ≡ items (read n) ++ more → Cut turns (suc n)
      by [] e = cut_before n turns (cut rest (sym (ap items (read_more n left) ∙ (e ∙ append-nil (items (read n)))) ∙ brought))
      by (y ∷ z ∷ more) e = let e-2 = ap length e in absurd (omega (arith, e-2, one (read n) (octet_of (wire_at up n)), length-append (items (read n)) (y ∷ z ∷ more)))
      by (y ∷ []) e = ends (last_view rest)
        where
          ends : (rest ≡ []) ⊎ ((before : List Unplaced) × (x : Unplaced) × (rest ≡ before ++ x ∷ [])) → Cut turns (suc n)
          ends (inl none) = cut_here n turns left [] y e (brought ∙ ap (λ (l : List Unplaced). items (taken_of up) ++ l) (ap (λ (l : List Unplaced). items_of turns ++ l) none ∙ append-nil (items_of turns)))
          ends (inr (before, x, some)) =
              cut_before n turns (cut before (same_ends (items (read n)) (items (taken_of up) ++ (items_of turns ++ before)) y x (sym e ∙ (ap items (sym (read_more n left)) ∙ (brought
              ∙ (ap (λ (l : List Unplaced). items (taken_of up) ++ (items_of turns ++ l)) some ∙ (ap (λ (l : List Unplaced). items (taken_of up) ++ l) (sym (append_assoc (items_of turns) before (x ∷ [])))
              ∙ sym (append_assoc (items (taken_of up)) (items_of turns ++ before) (x ∷ [])))))))).0)

  pub cut_at : (n : ℕ) (turns : List Turn) (rest : List Unplaced) → n ≤ length up.octets - up.taken → 0 < length (items_of turns) → items (read n) ≡ items (taken_of up) ++ (items_of turns ++ rest) → Cut turns n
  cut_at zero turns rest left some brought =
      let e = ap length (sym (ap (λ (m : ℕ). items (take m up.octets)) (add_zero up.taken)) ∙ brought) in
      absurd (omega (arith, e, some, length-append (items (taken_of up)) (items_of turns ++ rest), length-append (items_of turns) rest))
  cut_at (suc n) turns rest left some brought = cut_more n turns rest (omega (arith, left)) brought (λ rest-2 brought-2. cut_at n turns rest-2 (omega (arith, left)) some brought-2)
