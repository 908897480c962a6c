-- What serving a link is: what was read, asked, answered and written, and why it ended (this project's own). To be believed.
use Rattle.std.specs.Prelude.{◌≡◌, ◌≢◌, ◌≤◌, ◌+◌, ◌*◌, ◌⊎◌, ℕ, List, [], ◌∷◌, ◌++◌, length, take, false, Option, None, Some, IfSome}
use Rattle.jt_value.specs.Octets.{AreOctets}
use Rattle.std.specs.Io.KnownBytes.{Appends, IsAtEnd}
use mathlib.Core.List.{IsPrefix}
use Rattle.jt_value.specs.declared.limits.TheConstants.{ANSWER_LIMIT}
use Rattle.jt_value.specs.Counts.{Counts, Rose, RoseBy}
use Rattle.jt_outside.specs.Link.{Wire, Gives}
use Rattle.jt_turn.specs.declared.entry.Entry.{Entry as Turned}
use Rattle.jt_turn.specs.Passes.{PassState}
use Rattle.jt_platform.specs.Allowed.{Opening}
use Rattle.jt_platform.specs.History.{is_close}
use Rattle.jt_platform.specs.declared.request.Request.{Request}
use Rattle.jt_platform.specs.declared.request.Request.TheVariants as ask
use Rattle.jt_platform.specs.declared.request.Reply.{Reply}
use Rattle.jt_platform.specs.declared.request.Reply.TheVariants as say
use Rattle.jt_session.specs.declared.end.End.{End}
use Rattle.jt_session.specs.declared.end.End.TheVariants as ends
use Rattle.jt_session.specs.declared.end.Fed.{Fed}
use Rattle.jt_session.specs.declared.end.Fed.TheVariants.{On, Stop}
use Rattle.jt_session.specs.declared.report.Report.{Report}
use Rattle.jt_session.specs.Talk.{Talk, at_state, start, talk_from}
use Rattle.jt_session.specs.Sessions.{Seen, end_of}
use Rattle.jt_session.specs.Sessions as sessions
use Rattle.jt_session.specs.Hearing.{Hears, FailedMore, IsFilled, IsSamePass, acts_on, last_asked}

-- Which end is named by how the talk ended, by an answer or not at all. A link's fault may come behind any answer. Where memory was
-- wanted outside the talk, that goes on still.
abbrev pub Names : End → Fed → Type 0
Names ends.Ended fed = fed ≡ On
Names ends.LinkFault fed = Unit {0}
Names ends.Idle fed = fed ≡ On
Names ends.Spent fed = fed ≡ On
Names (ends.Fenced other) fed = fed ≡ Stop (ends.Fenced other)
Names ends.StoreFault fed = fed ≡ Stop ends.StoreFault
Names (ends.ListFull l) fed = fed ≡ Stop (ends.ListFull l)
Names ends.Memory fed = (fed ≡ On) ⊎ (fed ≡ Stop ends.Memory)

-- Why a link is served no longer, beside what the talk says: the link said that it ended; its count of faults rose; three reads in a row
-- were quiet; as many octets as may be were taken; the keeper's count of faults rose.
abbrev pub HasCause : {O : Type 0} → End → ℕ → ℕ → Wire → Wire → PassState Request Reply O → PassState Request Reply O → Type 0
HasCause ends.Ended octets read link link_now pass pass_now = IsAtEnd link_now.inbound.left
HasCause ends.LinkFault octets read link link_now pass pass_now = Rose link.faults link_now.faults
HasCause ends.Idle octets read link link_now pass pass_now = RoseBy 3 link.inbound.quiets link_now.inbound.quiets × (3 ≤ link_now.inbound.run)
HasCause ends.Spent octets read link link_now pass pass_now = read ≡ octets
HasCause (ends.Fenced other) octets read link link_now pass pass_now = Unit {0}
HasCause ends.StoreFault octets read link link_now pass pass_now = FailedMore pass pass_now
HasCause (ends.ListFull l) octets read link link_now pass pass_now = Unit {0}
HasCause ends.Memory octets read link link_now pass pass_now = Unit {0}

-- how many reads in a row may have been quiet, where a session ends so: the third one ends it as Idle
abbrev pub most_quiet : End → ℕ
most_quiet ends.Idle = 3
most_quiet _ = 2

-- why the answers to octets that were read ended a session, if they did: all were written and it goes on; the link failed; or an answer
-- ended it, and all were written
abbrev pub AnswersEnd : ℕ → List ℕ → Fed → ℕ → ℕ → Option End → Type 0
AnswersEnd count said fed before now None = (fed ≡ On) × (count ≡ length said)
AnswersEnd count said fed before now (Some end) = ((end ≡ ends.LinkFault) × Rose before now) ⊎ ((fed ≡ Stop end) × (count ≡ length said))

-- the session heard the octets, and so many octets of the answers were written
pub record AnswersRead {O : Type 0} (o : Option Opening) (s now : Seen) (octets : List ℕ) (pass pass_now : PassState Request Reply O) (link link_now : Wire) (count : ℕ) (end : Option End) : Type 0 where
  pub said : List ℕ
  pub fed : Fed
  pub hears : Hears o s now octets pass pass_now [] said fed
  pub within : count ≤ length said
  pub writes : Appends link.written link_now.written (take count said)
  pub inbound : link_now.inbound ≡ link.inbound
  pub faults : Counts link.faults link_now.faults
  pub ended : AnswersEnd count said fed link.faults link_now.faults end

-- How far a link is served, where it is served on. For the proofs.
pub record Course {O : Type 0} (o : Option Opening) (s now : Seen) (pass pass_now : PassState Request Reply O) (link link_now : Wire) (so_far answered quiets : ℕ) : Type 0 where
  pub taken : List ℕ
  pub said : List ℕ
  pub hears : Hears o s now taken pass pass_now [] said On
  pub are : AreOctets taken
  pub gives : Gives link.inbound link_now.inbound taken
  pub read : so_far ≡ length taken
  pub writes : Appends link.written link_now.written said
  pub written : answered ≡ length said
  pub short : answered ≤ ANSWER_LIMIT * so_far
  pub place : now.stream.place ≤ so_far
  pub waits : now.waiting ≡ None
  pub on : now.over ≡ false
  pub same : IsSamePass pass pass_now
  pub faults : Counts link.faults link_now.faults
  pub counts : Counts link.inbound.quiets link_now.inbound.quiets
  pub rose : RoseBy quiets link.inbound.quiets link_now.inbound.quiets
  pub run : quiets ≤ link_now.inbound.run
  pub most : link_now.inbound.run ≤ link.inbound.run + quiets

-- the session served the link up to its Close
pub record Converses {O : Type 0} (o : Option Opening) (octets : ℕ) (s now : Seen) (pass pass_now : PassState Request Reply O) (link link_now : Wire) (read written : ℕ) (end : End) : Type 0 where
  pub taken : List ℕ
  pub said : List ℕ
  pub fed : Fed
  pub hears : Hears o s now taken pass pass_now [] said fed
  pub gives : Gives link.inbound link_now.inbound taken
  pub read_is : read ≡ length taken
  pub within : length taken ≤ octets
  pub wrote : List ℕ
  pub writes : Appends link.written link_now.written wrote
  pub written_is : written ≡ length wrote
  pub front : IsPrefix wrote said
  pub whole : end ≢ ends.LinkFault → wrote ≡ said
  pub cause : HasCause end octets read link link_now pass pass_now
  pub named : Names end fed

-- the reply of the newest entry
abbrev pub newest_reply : List (Request × Reply) → Option Reply
newest_reply [] = None
newest_reply (pair ∷ older) = Some pair.1

abbrev pub close_of : ℕ → Turned Request Reply
close_of number = record { number = number; ask = ask.Close; answer = say.Accepted }

-- no request is a Close
abbrev pub AreNoCloses : List (Request × Reply) → Type 0
AreNoCloses [] = Unit {0}
AreNoCloses (pair ∷ older) = (is_close pair.0 ≡ false) × AreNoCloses older

-- A link was served up to the Close, whose entry is still to be made. For the proofs.
pub record ServesUpTo {O : Type 0} (o : Option Opening) (octets : ℕ) (pass pass_now : PassState Request Reply O) (link link_now : Wire) (report : Report) : Type 0 where
  pub taken : List ℕ
  pub asked : List (Request × Reply)
  pub said : List ℕ
  pub talk : Talk taken asked said
  pub gives : Gives link.inbound link_now.inbound taken
  pub read : report.read ≡ length taken
  pub within : length taken ≤ octets
  pub wrote : List ℕ
  pub writes : Appends link.written link_now.written wrote
  pub written : report.written ≡ length wrote
  pub front : IsPrefix wrote said
  pub whole : report.end ≢ ends.LinkFault → wrote ≡ said
  pub entries : pass_now.mine ≡ pass.mine ++ acts_on pass.number asked
  pub closes : AreNoCloses asked
  pub session : report.session ≡ pass.number
  pub counted : (report.frames, report.refused, report.dropped) ≡ sessions.counts (talk_from (at_state start) talk.turns).state
  pub cause : HasCause report.end octets report.read link link_now pass pass_now
  pub named : Names report.end (end_of talk.turns)
  pub fenced : (other : ℕ) → (report.end ≡ ends.Fenced other → newest_reply asked ≡ Some (say.Fenced other))
      × (newest_reply asked ≡ Some (say.Fenced other) → (report.end ≡ ends.Fenced other) ⊎ (report.end ≡ ends.LinkFault))
  pub full : (l : ℕ) → report.end ≡ ends.ListFull l → IfSome o (λ o. IsFilled o pass_now.seen (last_asked (at_state start) talk.turns) l)

-- A link was served by a pass: the octets taken from it, the pass's new entries and what was to be written are a talk and its Close, which
-- was written, or its front where the link failed; the report's numbers are those of the talk; and its end has its cause.
pub record Serves {O : Type 0} (o : Option Opening) (octets : ℕ) (pass pass_now : PassState Request Reply O) (link link_now : Wire) (report : Report) : Type 0 where
  -- the octets taken, the requests with their replies before the Close, newest first, and what was to be written
  pub taken : List ℕ
  pub asked : List (Request × Reply)
  pub said : List ℕ
  pub talk : Talk taken asked said
  pub gives : Gives link.inbound link_now.inbound taken
  pub read : report.read ≡ length taken
  pub within : length taken ≤ octets
  -- what was written
  pub wrote : List ℕ
  pub writes : Appends link.written link_now.written wrote
  pub written : report.written ≡ length wrote
  pub front : IsPrefix wrote said
  pub whole : report.end ≢ ends.LinkFault → wrote ≡ said
  pub entries : pass_now.mine ≡ acts_on pass.number asked ++ close_of pass.number ∷ []
  pub session : report.session ≡ pass.number
  pub counted : (report.frames, report.refused, report.dropped) ≡ sessions.counts (talk_from (at_state start) talk.turns).state
  pub cause : HasCause report.end octets report.read link link_now pass pass_now
  pub named : Names report.end (end_of talk.turns)
  -- Fenced exactly where the last entry before the Close is so answered, but for a fault of the link
  pub fenced : (other : ℕ) → (report.end ≡ ends.Fenced other → newest_reply asked ≡ Some (say.Fenced other))
      × (newest_reply asked ≡ Some (say.Fenced other) → (report.end ≡ ends.Fenced other) ⊎ (report.end ≡ ends.LinkFault))
  -- ListFull only at a unit of a phone with as many rows as it may have
  pub full : (l : ℕ) → report.end ≡ ends.ListFull l → IfSome o (λ o. IsFilled o pass_now.seen (last_asked (at_state start) talk.turns) l)
