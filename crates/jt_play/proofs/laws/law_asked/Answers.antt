use Rattle.jt_octets.proofs.Kept.{Below}
use Rattle.jt_play.proofs.Asked.{each_asks}
use Rattle.jt_play.proofs.laws.law_asked.Goals as goal

pub returns-clause-asks : goal.returns-clause-asks
returns-clause-asks c = each_asks (record {
  keep = c.law_events.ensures;
  streams = record { front = c.law_front.ensures.unplaced; one = c.law_one_octet.ensures; frames = c.law_frames.ensures.frames; message = c.law_frames.ensures.message; long = c.law_of_contents.ensures.len };
  sessions = record { requests = c.law_of_requests.ensures; answers_are = c.law_of_answers.ensures; named = c.law_of_packets.ensures.named; one = c.law_of_bodies.ensures.one_to_one; acks = c.law_of_acks.ensures; fixes = c.law_fixes.ensures };
})
