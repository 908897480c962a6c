-- How the proofs lie, for who changes them.
--
-- Each layer has one clause in plain terms: request_of (what a message asks), take_message, take_packet and
-- take_frame (CameTo, by cases on what a frame led to), read_item (OctetsCame, over the states of splitter and
-- session alone), next (GoesOn), take (Takes), feed (Feeds). Up to take_frame nothing wants an answer; from
-- there each clause has one lemma over plain variables (Bringing, Stepping, Joining, Hubs). read_item takes
-- stream and state as two arguments, so its clause speaks of both and not of the model; the method round it sets
-- the fields (seen in Stepping). Turning adds one turn to what stands so far. Turns behind Turns (Joining) rests
-- on one equation: a talk that goes on from where another stopped is the other with its entries and octets put
-- on top (onto). ask takes the request by value, feed_some gives back only how it went, so the loop of feed has
-- three open goals in place of twelve. The waiting frame is not copied: it is the stream's last frame, so the
-- item of the model is read off the stream's content; a Snapshot has what was kept before it. reply needs only
-- the header of the message that the frame made whole, and its invariant Waits says that this header and what is
-- kept follow from the frame. Order in a frame: room in out and all that may want memory first; a dropped
-- message and a refused body are counted once nothing more can fail. That no more is counted than octets were
-- taken is in the invariant, so that no sum wraps. The state is told also of a session that a reply ended. Only
-- where memory was wanted before the last item asked or wrote (ended_short) the counts alone are told; a session
-- that goes on did not end so (not_short), which is all that turns behind turns need. A talk is one for given
-- replies: turns of one stream that are as many, with the same last replies, are the same (same_turns, newest
-- first). Over a pass (src/hearing.rt) hear is feed over a turn; Hears is that of feed with the pass's new
-- entries, and two facts more: StoreFault comes with a rise of the pass's failed or a count at 2^64 - 1,
-- ListFull at a history that the pass has seen (Hearings, Givings). Over a link (src/serving.rt): answer,
-- converse with one record in its loop (Course) and one lemma for each thing that can happen (Servings), and the
-- Close, which takes no memory (Closing). Each octet taken leads to at most 4,184 written (bound). A value with
-- partial messages in it wants ghost coded = { Prim.hlevel (codes, partial_code) }.
--
-- Open: that what a read gave is written before the next read is no clause of serve_link; taken ≡ front ++ last,
-- last of at most 4,096 octets, all that the talk of front says written and a front of the rest, would say it.
-- The size of the buffer is in no clause and no test. law_of_acceptances says nothing that law_of_answers does
-- not. rt plant was not run since take is there.

pub mod Talking
pub mod Replying
pub mod Turning
pub mod Answering
pub mod Asking
pub mod Bringing
pub mod Joining
pub mod Ending
pub mod Onward
pub mod Requests
pub mod Saying
pub mod Hubs
pub mod Stepping
pub mod Hearings
pub mod Givings
pub mod Servings
pub mod Closing
