use Rattle.std.proofs.Common.{◌≡◌, ℕ, List, [], ◌++◌, Bool, true, false, if◌then◌else◌, Option, Some, None, is_some, IfSome, IsTrue, refl, sym, ap, ◌∙◌, subst}
use Rattle.std.proofs.lemmas.Bool.{false≢true}
use Rattle.std.proofs.lemmas.List.{append-nil}
use Rattle.std.specs.Option.{option_map}
use Rattle.jt_escape.specs.Scan.{State as Splitting}
use Rattle.jt_escape.specs.Splitter.{StandsFor}
use Rattle.jt_header.specs.declared.header.Header.{Header}
use Rattle.jt_stream.specs.Unplaced.{Unplaced, Message, items}
use Rattle.jt_platform.specs.Allowed.{makes_entry}
use Rattle.jt_platform.specs.declared.request.Request.{Request}
use Rattle.jt_platform.specs.declared.request.Reply.{Reply}
use Rattle.jt_session.specs.Talk.{State, Goes, Stops, Talked, turn_on, turn_at_reply, answers, saying, answer_to, asks, message_of, reads_on, frame_said, is_fenced, IsReplied}
use Rattle.jt_session.specs.Sessions.{Seen, IsRepliedTo, turn_by, before}
use Rattle.jt_header.specs.Fields.{header_at, body_at}
use Rattle.jt_session.specs.Waiting.{AsksFor, Waits, ends_by, state_of, waiting_of}

some_of : {A : Type 0} (o : Option A) → IsTrue (is_some o) → (a : A) × (o ≡ Some a)
some_of None held = absurd (false≢true held)
some_of (Some a) held = (a, refl)

-- what is said of the message that was made whole
said_of : (s : State) (o : Option (Header × List ℕ)) (header : Header) (r : Reply) → option_map (λ m. m.0) o ≡ Some header → answers s o r ≡ saying s header (answer_to header r)
said_of s None header r e = absurd cc
said_of s (Some m) header r e =
    let same : m.0 ≡ header = cc in
    ap (λ h. saying s h (answer_to h r)) same

-- a reply's turn, by whether it makes an entry
turn_state : (b : Bool) (k : Talked) (item : Unplaced) (q : Request) (r : Reply) → (turn_on k item (Some q) (if b then Goes (Some r) else Stops (Some r))).state ≡ (turn_at_reply k.state item r).state
turn_state true k item q r = refl
turn_state false k item q r = refl

turn_written : (b : Bool) (k : Talked) (item : Unplaced) (q : Request) (r : Reply) → (turn_on k item (Some q) (if b then Goes (Some r) else Stops (Some r))).written ≡ k.written ++ frame_said (turn_at_reply k.state item r).says
turn_written true k item q r = refl
turn_written false k item q r = refl

turn_over : (b : Bool) (k : Talked) (item : Unplaced) (q : Request) (r : Reply) → (turn_on k item (Some q) (if b then Goes (Some r) else Stops (Some r))).over ≡ (if b then is_fenced r else true)
turn_over true k item q r = refl
turn_over false k item q r = refl

turn_fits : (b : Bool) (item : Unplaced) (q : Request) (r : Reply) → makes_entry r ≡ b → IsReplied item (Some q) (if b then Goes (Some r) else Stops (Some r))
turn_fits true item q r e = e
turn_fits false item q r e = e

-- the request that waited was replied to, of a session with its parts written out
module _ (number : ℕ) (stream : Splitting) (kept was : State) (header h : Header) (octets : List ℕ) (r : Reply) (out out_now : List ℕ) (kept_now : State) (waits : AsksFor header kept was h octets) (state_is : kept_now ≡ (saying kept header (answer_to header r)).state) (out_is : out_now ≡ out ++ frame_said (saying kept header (answer_to header r)).says) where
  abbrev then_seen : Seen
  then_seen = record { number = number; stream = stream; state = was; waiting = Some (Message h octets); over = false }

  abbrev now_seen : Seen
  now_seen = record { number = number; stream = stream; state = kept_now; waiting = None; over = ends_by r }

  told_is : turn_at_reply was (Message h octets) r ≡ saying kept header (answer_to header r)
  told_is = said_of (reads_on was h octets h.packet) (message_of was h octets h.packet) header r waits.message ∙ ap (λ k. saying k header (answer_to header r)) (sym waits.kept_is)

  replied_to : IsRepliedTo then_seen now_seen r out out_now (Message h octets)
  replied_to =
      let asked = some_of (asks was (Message h octets)) waits.asked in
      let same_state : kept_now ≡ (turn_on (before then_seen) (Message h octets) (asks was (Message h octets)) (turn_by r (Message h octets)).way).state =
      state_is ∙ (sym (ap (λ t. t.state) told_is) ∙ rw asked.1 (sym (turn_state (makes_entry r) (before then_seen) (Message h octets) asked.0 r))) in
      record {
        turn = record {
          fits = (refl, rw asked.1 (turn_fits (makes_entry r) (Message h octets) asked.0 r refl), tt);
          state = λ none. same_state;
          counted = ap (λ s. (s.frames, s.refused, s.dropped)) same_state;
          over = rw asked.1 (sym (turn_over (makes_entry r) (before then_seen) (Message h octets) asked.0 r));
          number = refl;
          items = λ read gone are stands e. ([], ap items (append-nil read) ∙ e, λ on. (refl, subst (λ o. StandsFor stream o) (sym (append-nil read)) stands));
        };
        wrote = out_is ∙ ap (λ w. out ++ w) (sym (ap (λ t. frame_said t.says) told_is) ∙ rw asked.1 (sym (turn_written (makes_entry r) (before then_seen) (Message h octets) asked.0 r)));
      }

pub replied : (s now : Seen) (number : ℕ) (stream : Splitting) (kept was : State) (header h : Header) (octets : List ℕ) (r : Reply) (out out_now : List ℕ) (kept_now : State) (waits : AsksFor header kept was h octets)
    → kept_now ≡ (saying kept header (answer_to header r)).state → out_now ≡ out ++ frame_said (saying kept header (answer_to header r)).says
    → s ≡ record { number = number; stream = stream; state = was; waiting = Some (Message h octets); over = false }
    → now ≡ record { number = number; stream = stream; state = kept_now; waiting = None; over = ends_by r }
    → IsRepliedTo s now r out out_now (Message h octets)
replied s now number stream kept was header h octets r out out_now kept_now waits state_is out_is s_is now_is =
    subst (λ x. IsRepliedTo x now r out out_now (Message h octets)) (sym s_is)
    (subst (λ x. IsRepliedTo (record { number = number; stream = stream; state = was; waiting = Some (Message h octets); over = false }) x r out out_now (Message h octets)) (sym now_is)
    (replied_to number stream kept was header h octets r out out_now kept_now waits state_is out_is))

-- the same of a session as its fields have it
pub replied_seen : (s : Seen) (number : ℕ) (stream : Splitting) (waiting : Option Header) (header : Header) (kept was kept_now : State) (over ended : Bool) (r : Reply) (out out_now : List ℕ)
    → record { number = number; stream = stream; state = state_of waiting kept was; waiting = waiting_of waiting stream.content; over = over } ≡ s
    → waiting ≡ Some header → s.over ≡ false → Waits waiting kept was stream.content
    → kept_now ≡ (saying kept header (answer_to header r)).state → out_now ≡ out ++ frame_said (saying kept header (answer_to header r)).says → ended ≡ ends_by r
    → IfSome s.waiting (IsRepliedTo s (record { number = number; stream = stream; state = kept_now; waiting = None; over = ended }) r out out_now)
replied_seen s number stream waiting header kept was kept_now over ended r out out_now view waits on held state_is out_is ended_is =
    let s_is : s ≡ record { number = number; stream = stream; state = was; waiting = Some (Message (header_at stream.content) (body_at stream.content)); over = false } =
    sym view ∙ (ap (λ w. record { number = number; stream = stream; state = state_of w kept was; waiting = waiting_of w stream.content; over = over }) waits
    ∙ ap (λ o. record { number = number; stream = stream; state = was; waiting = Some (Message (header_at stream.content) (body_at stream.content)); over = o }) (ap (λ (x : Seen). x.over) view ∙ on)) in
    subst (λ o. IfSome o (IsRepliedTo s (record { number = number; stream = stream; state = kept_now; waiting = None; over = ended }) r out out_now)) (sym (ap (λ (x : Seen). x.waiting) s_is))
    (replied s (record { number = number; stream = stream; state = kept_now; waiting = None; over = ended }) number stream kept was header (header_at stream.content) (body_at stream.content) r out out_now kept_now
    (subst (λ w. Waits w kept was stream.content) waits held) state_is out_is s_is
    (ap (λ o. record { number = number; stream = stream; state = kept_now; waiting = None; over = o }) ended_is))
