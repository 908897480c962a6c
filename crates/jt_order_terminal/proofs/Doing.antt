-- What is done at items, one behind another.
use Rattle.std.proofs.Common.{◌≡◌, ℕ, List, [], ◌∷◌, ◌++◌, Bool, true, false, if◌then◌else◌, Option, Some, None, Ok, refl, sym, ap, ◌∙◌, subst, append_assoc}
use Rattle.std.specs.Prelude.{is_some}
use Rattle.std.proofs.lemmas.Bool.{false≢true}
use Rattle.std.proofs.lemmas.List.{append-nil}
use Rattle.jt_value.specs.Octets.{AreOctets}
use Rattle.jt_value.specs.declared.ids.TheConstants.{SET_PARAMS}
use Rattle.jt_header.specs.declared.header.Header.{Header}
use Rattle.jt_header.specs.declared.header.Packet.{Packet}
use Rattle.jt_layout.specs.Answer.{Answers}
use Rattle.jt_codec.specs.Bodies.{body, id_of}
use Rattle.jt_codec.specs.Law.{AreOneToOne}
use Rattle.jt_codec.specs.declared.message.Message.{Message}
use Rattle.jt_codec.specs.declared.message.Message.TheVariants as message
use Rattle.jt_stream.specs.Unplaced.{Unplaced}
use Rattle.jt_store.specs.Vaults.{Held}
use Rattle.jt_terminal_rule.specs.declared.state.State.{State}
use Rattle.jt_terminal_rule.specs.declared.state.GiveUp.{GiveUp}
use Rattle.jt_terminal_rule.specs.Rule.{Step}
use Rattle.jt_terminal_steps.specs.AfterError.{AreSameParams, sets_params_in}
use Rattle.jt_terminal_steps.specs.Running.{CutShort, IsSame, holds_after}
use Rattle.jt_terminal_steps.proofs.Chaining.{cut_behind, cut_none, holds_after-append}
use Rattle.jt_order.specs.Orders.{is_order_id}
use Rattle.jt_order.specs.Rules.{ruling_by}
use Rattle.jt_order.specs.declared.performed.Performed.{Performed}
use Rattle.jt_order.specs.declared.rules.Ruling.{Ruling}
use Rattle.jt_order.specs.declared.rules.Ruling.TheVariants.{Again, Performs, Refuses}
use Rattle.jt_order_terminal.specs.Ledgers.{Ledger}
use Rattle.jt_order_turns.specs.Heard.{Heard, Ordered, Other, heard_at, heard_in, heard_read}
use Rattle.jt_order_terminal.specs.Terminals.{CommitsFirst, Done, by_ruling, does_at, does_at_items, does_nothing, log_with, then_done}
use Rattle.jt_order_terminal.specs.Feeding.{HasBegun, HasBegunAt, HasDone, HasResponded, Sayings, Scene, scene}
use Rattle.jt_order_terminal.proofs.Committing.{log_same}

-- ---- the log

log_append : (xs ys : List Performed) (held : Option (List Performed)) → log_with (xs ++ ys) held ≡ log_with ys (log_with xs held)
log_append xs ys None = refl
log_append xs ys (Some log) = ap Some (sym (append_assoc log xs ys))

commits_behind : (done more : List Performed) (old mid now : Option (List Performed)) → mid ≡ log_with done old → CommitsFirst more mid now → CommitsFirst (done ++ more) old now
commits_behind done more old mid now held first = record {
  gained = done ++ first.gained;
  left = first.left;
  parts = ap (λ (m : List Performed). done ++ m) first.parts ∙ sym (append_assoc done first.gained first.left);
  held = first.held ∙ (ap (log_with first.gained) held ∙ sym (log_append done first.gained old));
}

-- ---- one thing behind another

pub done_then : (d f : Done) (a b c : Scene) (end : Option GiveUp) → HasDone d a b None → HasDone f b c end → HasDone (then_done None d f) a c end
done_then d f a b c end one two = record {
  state = two.state;
  ledger = two.ledger;
  held = two.held ∙ (ap (holds_after f.steps) one.held ∙ sym (holds_after-append d.steps f.steps a.held));
  log = two.log ∙ (ap (log_with f.performed) one.log ∙ sym (log_append d.performed f.performed a.log));
  frames = two.frames ∙ (ap (λ (fs : List (List ℕ)). fs ++ f.frames) one.frames ∙ append_assoc a.said.frames d.frames f.frames);
  told = two.told ∙ (ap (λ (ts : List ℕ). ts ++ f.told) one.told ∙ append_assoc a.said.told d.told f.told);
  end_is = two.end_is;
}

begun_then : (d f : Done) (held mid held_now : Option Held) (log log_mid log_now : Option (List Performed)) → mid ≡ holds_after d.steps held → log_mid ≡ log_with d.performed log → HasBegun f mid held_now log_mid log_now
    → HasBegun (then_done None d f) held held_now log log_now
begun_then d f held mid held_now log log_mid log_now held_is log_is two = record {
  cut = cut_behind d.steps f.steps held mid held_now held_is two.cut;
  commits = commits_behind d.performed f.performed log log_mid log_now log_is two.commits;
}

pub nothing_done : (s : State) (l : Ledger) (held : Option Held) (log : Option (List Performed)) (said : Sayings) → HasDone (does_nothing s l) (scene s l held log said) (scene s l held log said) None
nothing_done s l held log said = record {
  state = refl;
  ledger = refl;
  held = refl;
  log = sym (log_same log);
  frames = sym (append-nil said.frames);
  told = sym (append-nil said.told);
  end_is = refl;
}

-- an order was responded to, and nothing else was done
pub ordered_done : (s : State) (l : Ledger) (h : Header) (octets : List ℕ) (m : Message) (r : Ruling) (l_now : Ledger) (held : Option Held) (log log_now : Option (List Performed)) (said : Sayings) (frames_now : List (List ℕ))
    → HasResponded (by_ruling s l h octets m r) l_now log log_now said.frames frames_now
    → HasDone (by_ruling s l h octets m r) (scene s l held log said) (scene s l_now held log_now (record { frames = frames_now; told = said.told })) None
ordered_done s l h octets m (Again result) l_now held log log_now said frames_now did =
    record { state = refl; ledger = did.ledger; held = refl; log = did.commits; frames = did.sends; told = sym (append-nil said.told); end_is = refl }
ordered_done s l h octets m Performs l_now held log log_now said frames_now did =
    record { state = refl; ledger = did.ledger; held = refl; log = did.commits; frames = did.sends; told = sym (append-nil said.told); end_is = refl }
ordered_done s l h octets m Refuses l_now held log log_now said frames_now did =
    record { state = refl; ledger = did.ledger; held = refl; log = did.commits; frames = did.sends; told = sym (append-nil said.told); end_is = refl }

pub ordered_begun : (s : State) (l : Ledger) (h : Header) (octets : List ℕ) (m : Message) (r : Ruling) (held : Option Held) (log log_now : Option (List Performed))
    → CommitsFirst (by_ruling s l h octets m r).performed log log_now → HasBegun (by_ruling s l h octets m r) held held log log_now
ordered_begun s l h octets m r held log log_now commits = record { cut = cut_none (by_ruling s l h octets m r).steps held held refl; commits = commits }

-- ---- items

-- what is done behind another thing, by its end
inner : (d e f : Done) (end : Option GiveUp) → e.end ≡ end → then_done None d (then_done end e f) ≡ then_done end (then_done None d e) f
inner d e f None is = λ i. record {
  state = f.state;
  steps = sym (append_assoc d.steps e.steps f.steps) i;
  ledger = f.ledger;
  performed = sym (append_assoc d.performed e.performed f.performed) i;
  frames = sym (append_assoc d.frames e.frames f.frames) i;
  told = sym (append_assoc d.told e.told f.told) i;
  end = f.end;
}
inner d e f (Some cause) is = refl

outer : (d e : Done) (more : State → Ledger → Done) (end : Option GiveUp) → d.end ≡ end
    → then_done end d (then_done e.end e (more e.state e.ledger)) ≡ then_done (then_done end d e).end (then_done end d e) (more (then_done end d e).state (then_done end d e).ledger)
outer d e more None is = inner d e (more e.state e.ledger) e.end refl
outer d e more (Some cause) is = sym (ap (λ (x : Option GiveUp). then_done x d (more d.state d.ledger)) is)

does_append : (s : State) (l : Ledger) (xs ys : List Unplaced)
    → let d = does_at_items s l xs in does_at_items s l (xs ++ ys) ≡ then_done d.end d (does_at_items d.state d.ledger ys)
does_append s l [] ys = refl
does_append s l (x ∷ xs) ys =
    let d = does_at s l (heard_at x) in
    ap (then_done d.end d) (does_append d.state d.ledger xs ys) ∙ outer d (does_at_items d.state d.ledger xs) (λ t k. does_at_items t k ys) d.end refl

-- nothing more is done behind the item at which it gave up
pub does_ended : (s : State) (l : Ledger) (xs ys : List Unplaced) (cause : GiveUp) → (does_at_items s l xs).end ≡ Some cause → does_at_items s l (xs ++ ys) ≡ does_at_items s l xs
does_ended s l xs ys cause is =
    let d = does_at_items s l xs in
    does_append s l xs ys ∙ ap (λ (x : Option GiveUp). then_done x d (does_at_items d.state d.ledger ys)) is

does_more : (s : State) (l : Ledger) (xs ys : List Unplaced) → (does_at_items s l xs).end ≡ None
    → let d = does_at_items s l xs in does_at_items s l (xs ++ ys) ≡ then_done None d (does_at_items d.state d.ledger ys)
does_more s l xs ys is =
    let d = does_at_items s l xs in
    does_append s l xs ys ∙ ap (λ (x : Option GiveUp). then_done x d (does_at_items d.state d.ledger ys)) is

single_by : (d : Done) (end : Option GiveUp) → d.end ≡ end → then_done end d (does_nothing d.state d.ledger) ≡ d
single_by d None is = λ i. record {
  state = d.state;
  steps = append-nil d.steps i;
  ledger = d.ledger;
  performed = append-nil d.performed i;
  frames = append-nil d.frames i;
  told = append-nil d.told i;
  end = sym is i;
}
single_by d (Some cause) is = refl

-- at one item
pub does_one : (s : State) (l : Ledger) (x : Unplaced) → does_at_items s l (x ∷ []) ≡ does_at s l (heard_at x)
does_one s l x = single_by (does_at s l (heard_at x)) (does_at s l (heard_at x)).end refl

-- ---- items behind items

abbrev Does : Scene → List Unplaced → Done
Does a xs = does_at_items a.state a.ledger xs

module _ (a b : Scene) (xs ys : List Unplaced) (one : HasDone (Does a xs) a b None) where
  -- what is done at both is the one and then the other
  both : Does a (xs ++ ys) ≡ then_done None (Does a xs) (Does b ys)
  both = does_more a.state a.ledger xs ys (sym one.end_is) ∙ (λ i. then_done None (Does a xs) (does_at_items (sym one.state i) (sym one.ledger i) ys))

  pub items_then : (c : Scene) (end : Option GiveUp) → HasDone (Does b ys) b c end → HasDone (Does a (xs ++ ys)) a c end
  items_then c end two = subst (λ (d : Done). HasDone d a c end) (sym both) (done_then (Does a xs) (Does b ys) a b c end one two)

  pub items_end : (Does a (xs ++ ys)).end ≡ (Does b ys).end
  items_end = ap (λ (d : Done). d.end) both

  held_is : holds_after (Does a xs).steps a.held ≡ b.held
  held_is = sym one.held

  pub items_begun : (item : Unplaced) (held : Option Held) (log : Option (List Performed)) → HasBegunAt b ys item held log → HasBegunAt a (xs ++ ys) item held log
  items_begun item held log two =
      let d = Does b ys in
      let steps : holds_after ((Does a xs).steps ++ d.steps) a.held ≡ holds_after d.steps b.held = holds_after-append (Does a xs).steps d.steps a.held ∙ ap (holds_after d.steps) held_is in
      let performed : log_with ((Does a xs).performed ++ d.performed) a.log ≡ log_with d.performed b.log = log_append (Does a xs).performed d.performed a.log ∙ ap (log_with d.performed) (sym one.log) in
      subst (λ (all : Done). HasBegun (does_at all.state all.ledger (heard_at item)) (holds_after all.steps a.held) held (log_with all.performed a.log) log) (sym both)
      (subst (λ (h : Option Held). HasBegun (does_at d.state d.ledger (heard_at item)) h held (log_with ((Does a xs).performed ++ d.performed) a.log) log) (sym steps)
      (subst (λ (l : Option (List Performed)). HasBegun (does_at d.state d.ledger (heard_at item)) (holds_after d.steps b.held) held l log) (sym performed) two))

-- what was begun at the last item was begun of all
pub begun_at_last : (a : Scene) (xs : List Unplaced) (x : Unplaced) (held : Option Held) (log : Option (List Performed)) → (Does a xs).end ≡ None → HasBegunAt a xs x held log
    → HasBegun (Does a (xs ++ x ∷ [])) a.held held a.log log
begun_at_last a xs x held log is begun =
    let d = Does a xs in
    subst (λ (all : Done). HasBegun all a.held held a.log log) (sym (does_more a.state a.ledger xs (x ∷ []) is))
    (begun_then d (does_at_items d.state d.ledger (x ∷ [])) a.held (holds_after d.steps a.held) held a.log (log_with d.performed a.log) log refl refl
    (subst (λ (one : Done). HasBegun one (holds_after d.steps a.held) held (log_with d.performed a.log) log) (sym (does_one d.state d.ledger x)) begun))

-- ---- a front that was begun

-- what is begun of a front is begun of the whole
begun_on : (d all : Done) (steps : List Step) (performed : List Performed) (held held_now : Option Held) (log log_now : Option (List Performed)) → all.steps ≡ d.steps ++ steps → all.performed ≡ d.performed ++ performed
    → HasBegun d held held_now log log_now → HasBegun all held held_now log log_now
begun_on d all steps performed held held_now log log_now steps_are performed_are begun = record {
  cut = record {
    done = begun.cut.done;
    left = begun.cut.left ++ steps;
    parts = steps_are ∙ (ap (λ (m : List Step). m ++ steps) begun.cut.parts ∙ append_assoc begun.cut.done begun.cut.left steps);
    held = begun.cut.held;
  };
  commits = record {
    gained = begun.commits.gained;
    left = begun.commits.left ++ performed;
    parts = performed_are ∙ (ap (λ (m : List Performed). m ++ performed) begun.commits.parts ∙ append_assoc begun.commits.gained begun.commits.left performed);
    held = begun.commits.held;
  };
}

begun_by : (s : State) (l : Ledger) (xs ys : List Unplaced) (end : Option GiveUp) (held held_now : Option Held) (log log_now : Option (List Performed)) → (does_at_items s l xs).end ≡ end
    → HasBegun (does_at_items s l xs) held held_now log log_now → HasBegun (does_at_items s l (xs ++ ys)) held held_now log log_now
begun_by s l xs ys None held held_now log log_now is begun =
    let d = does_at_items s l xs in
    let more = does_at_items d.state d.ledger ys in
    begun_on d (does_at_items s l (xs ++ ys)) more.steps more.performed held held_now log log_now (ap (λ (x : Done). x.steps) (does_more s l xs ys is)) (ap (λ (x : Done). x.performed) (does_more s l xs ys is)) begun
begun_by s l xs ys (Some cause) held held_now log log_now is begun =
    subst (λ (d : Done). HasBegun d held held_now log log_now) (sym (does_ended s l xs ys cause is)) begun

pub begun_of_front : (s : State) (l : Ledger) (xs ys : List Unplaced) (held held_now : Option Held) (log log_now : Option (List Performed))
    → HasBegun (does_at_items s l xs) held held_now log log_now → HasBegun (does_at_items s l (xs ++ ys)) held held_now log log_now
begun_of_front s l xs ys held held_now log log_now begun = begun_by s l xs ys (does_at_items s l xs).end held held_now log log_now refl begun

-- ---- what stays

pub same_state : (s : State) → IsSame s s
same_state s = record { settings = refl; time = refl; last = refl }

pub same_params : (s : State) → AreSameParams s s
same_params s = record { timing = refl; params = refl }

pub params_on : (old mid now : State) → AreSameParams old mid → AreSameParams mid now → AreSameParams old now
params_on old mid now one two = record { timing = two.timing ∙ one.timing; params = two.params ∙ one.params }

-- ---- a message

-- a message that is no order sets no parameters
pub no_params : (m : Message) (id : ℕ) → id_of m ≡ Some id → is_order_id id ≡ false → sets_params_in m ≡ false
no_params (message.SetParams params) id is other = let same : SET_PARAMS ≡ id = cc in absurd (false≢true (sym other ∙ sym (ap is_order_id same)))
no_params _ id is other = refl

-- all of it was done
pub cut_all : (steps : List Step) (held held_now : Option Held) → held_now ≡ holds_after steps held → CutShort steps held held_now
cut_all steps held held_now is = record { done = steps; left = []; parts = sym (append-nil steps); held = is }

heard_by : (h : Header) (octets : List ℕ) (m : Message) (b : Bool) → is_order_id h.id ≡ b → heard_read h octets (Ok m) ≡ (if b then Ordered h octets m else Other h m)
heard_by h octets m b is = ap (λ (x : Bool). if x then Ordered h octets m else Other h m) is

module _ (s : State) (l : Ledger) (h : Header) (octets : List ℕ) (m : Message) where
  abbrev ruled : Ruling
  ruled = ruling_by l.count l.last h.serial (record { id = h.id; body = octets })

  -- what was done at an order
  pub order_done : (l_now : Ledger) (held : Option Held) (log log_now : Option (List Performed)) (said said_now : Sayings) → is_order_id h.id ≡ true → said_now.told ≡ said.told
      → HasResponded (does_at s l (Ordered h octets m)) l_now log log_now said.frames said_now.frames
      → HasDone (does_at s l (heard_read h octets (Ok m))) (scene s l held log said) (scene s l_now held log_now said_now) None
  order_done l_now held log log_now said said_now order told did =
      subst (λ (x : Heard). HasDone (does_at s l x) (scene s l held log said) (scene s l_now held log_now said_now) None) (sym (heard_by h octets m true order))
      (subst (λ (t : List ℕ). HasDone (by_ruling s l h octets m ruled) (scene s l held log said) (scene s l_now held log_now (record { frames = said_now.frames; told = t })) None) (sym told)
      (ordered_done s l h octets m ruled l_now held log log_now said said_now.frames did))

  pub order_begun : (held : Option Held) (log log_now : Option (List Performed)) → is_order_id h.id ≡ true → CommitsFirst (does_at s l (Ordered h octets m)).performed log log_now
      → HasBegun (does_at s l (heard_read h octets (Ok m))) held held log log_now
  order_begun held log log_now order commits =
      subst (λ (x : Heard). HasBegun (does_at s l x) held held log log_now) (sym (heard_by h octets m true order)) (ordered_begun s l h octets m ruled held log log_now commits)

-- ---- a frame

whole_is : (h : Header) (octets : List ℕ) (packet : Option Packet) → is_some packet ≡ false → heard_in h octets packet ≡ heard_read h octets ((body h.edition h.id).read octets 0)
whole_is h octets None none = refl
whole_is h octets (Some packet) none = absurd (false≢true (sym none))

pub read_is : AreOneToOne → (h : Header) (octets : List ℕ) (packet : Option Packet) (m : Message) → AreOctets octets → is_some packet ≡ false → Answers (body h.edition h.id) octets (Ok m) → heard_in h octets packet ≡ heard_read h octets (Ok m)
read_is law h octets packet m are none fills = whole_is h octets packet none ∙ ap (heard_read h octets) (((law h.edition h.id).reads_value octets m are).1 fills)
