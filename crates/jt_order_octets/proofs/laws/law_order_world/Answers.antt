use Rattle.jt_order_octets.proofs.Kept.{obeyed, none_refused, each_issued, history_of, in_turn, items_of, at_most_one_ahead}
use Rattle.jt_order_octets.proofs.laws.law_order_world.Goals as goal

pub returns-clause-obeyed : goal.returns-clause-obeyed
returns-clause-obeyed c = obeyed (record {
  keep = c.law_events.ensures;
  streams = record { front = c.law_front.ensures.unplaced; one = c.law_one_octet.ensures; frames = c.law_frames-2.ensures.frames; message = c.law_frames-2.ensures.message; long = c.law_of_contents.ensures.len };
  fixes = c.law_fixes.ensures;
  taking = record { sessions = record { answers_are = c.law_of_answers.ensures; writes = c.law_turns.ensures.writes }; named = c.law_of_packets.ensures.named; steps = c.law_turns.ensures.steps; told = c.law_turns.ensures.told };
  hearing = record { acks = c.law_of_acks.ensures; carried = c.law_turns.ensures.carried; seen = c.law_frames.ensures.seen };
})

pub returns-clause-none_refused : goal.returns-clause-none_refused
returns-clause-none_refused c = none_refused (record {
  keep = c.law_events.ensures;
  streams = record { front = c.law_front.ensures.unplaced; one = c.law_one_octet.ensures; frames = c.law_frames-2.ensures.frames; message = c.law_frames-2.ensures.message; long = c.law_of_contents.ensures.len };
  fixes = c.law_fixes.ensures;
  taking = record { sessions = record { answers_are = c.law_of_answers.ensures; writes = c.law_turns.ensures.writes }; named = c.law_of_packets.ensures.named; steps = c.law_turns.ensures.steps; told = c.law_turns.ensures.told };
  hearing = record { acks = c.law_of_acks.ensures; carried = c.law_turns.ensures.carried; seen = c.law_frames.ensures.seen };
})

pub returns-clause-issued : goal.returns-clause-issued
returns-clause-issued c = each_issued (record {
  keep = c.law_events.ensures;
  streams = record { front = c.law_front.ensures.unplaced; one = c.law_one_octet.ensures; frames = c.law_frames-2.ensures.frames; message = c.law_frames-2.ensures.message; long = c.law_of_contents.ensures.len };
  fixes = c.law_fixes.ensures;
  taking = record { sessions = record { answers_are = c.law_of_answers.ensures; writes = c.law_turns.ensures.writes }; named = c.law_of_packets.ensures.named; steps = c.law_turns.ensures.steps; told = c.law_turns.ensures.told };
  hearing = record { acks = c.law_of_acks.ensures; carried = c.law_turns.ensures.carried; seen = c.law_frames.ensures.seen };
})

pub returns-clause-in_turn : goal.returns-clause-in_turn
returns-clause-in_turn c = in_turn (record {
  keep = c.law_events.ensures;
  streams = record { front = c.law_front.ensures.unplaced; one = c.law_one_octet.ensures; frames = c.law_frames-2.ensures.frames; message = c.law_frames-2.ensures.message; long = c.law_of_contents.ensures.len };
  fixes = c.law_fixes.ensures;
  taking = record { sessions = record { answers_are = c.law_of_answers.ensures; writes = c.law_turns.ensures.writes }; named = c.law_of_packets.ensures.named; steps = c.law_turns.ensures.steps; told = c.law_turns.ensures.told };
  hearing = record { acks = c.law_of_acks.ensures; carried = c.law_turns.ensures.carried; seen = c.law_frames.ensures.seen };
})

pub returns-clause-one : goal.returns-clause-one
returns-clause-one c = at_most_one_ahead (record {
  keep = c.law_events.ensures;
  streams = record { front = c.law_front.ensures.unplaced; one = c.law_one_octet.ensures; frames = c.law_frames-2.ensures.frames; message = c.law_frames-2.ensures.message; long = c.law_of_contents.ensures.len };
  fixes = c.law_fixes.ensures;
  taking = record { sessions = record { answers_are = c.law_of_answers.ensures; writes = c.law_turns.ensures.writes }; named = c.law_of_packets.ensures.named; steps = c.law_turns.ensures.steps; told = c.law_turns.ensures.told };
  hearing = record { acks = c.law_of_acks.ensures; carried = c.law_turns.ensures.carried; seen = c.law_frames.ensures.seen };
})

pub returns-clause-phone : goal.returns-clause-phone
returns-clause-phone c = history_of (record {
  keep = c.law_events.ensures;
  streams = record { front = c.law_front.ensures.unplaced; one = c.law_one_octet.ensures; frames = c.law_frames-2.ensures.frames; message = c.law_frames-2.ensures.message; long = c.law_of_contents.ensures.len };
  fixes = c.law_fixes.ensures;
  taking = record { sessions = record { answers_are = c.law_of_answers.ensures; writes = c.law_turns.ensures.writes }; named = c.law_of_packets.ensures.named; steps = c.law_turns.ensures.steps; told = c.law_turns.ensures.told };
  hearing = record { acks = c.law_of_acks.ensures; carried = c.law_turns.ensures.carried; seen = c.law_frames.ensures.seen };
})

pub returns-clause-items : goal.returns-clause-items
returns-clause-items c = items_of (record {
  keep = c.law_events.ensures;
  streams = record { front = c.law_front.ensures.unplaced; one = c.law_one_octet.ensures; frames = c.law_frames-2.ensures.frames; message = c.law_frames-2.ensures.message; long = c.law_of_contents.ensures.len };
  fixes = c.law_fixes.ensures;
  taking = record { sessions = record { answers_are = c.law_of_answers.ensures; writes = c.law_turns.ensures.writes }; named = c.law_of_packets.ensures.named; steps = c.law_turns.ensures.steps; told = c.law_turns.ensures.told };
  hearing = record { acks = c.law_of_acks.ensures; carried = c.law_turns.ensures.carried; seen = c.law_frames.ensures.seen };
})
