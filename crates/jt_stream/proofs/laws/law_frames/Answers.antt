use Rattle.std.specs.List.{flat_map}
use Rattle.jt_escape.specs.Frame.{framed}
use Rattle.jt_escape.specs.Scan.{all_events}
use Rattle.jt_escape.specs.Span.{contents_from}
use Rattle.jt_stream.proofs.Judging.{frames_are, message}
use Rattle.jt_stream.proofs.laws.law_frames.Goals as goal

pub returns-clause-frames : goal.returns-clause-frames
returns-clause-frames c = λ contents each.
    let octets = flat_map framed contents in
    frames_are octets contents
    (c.law_one_list.ensures.one octets (all_events octets) (contents_from 0 contents) (c.law_one_list.ensures.some octets) (c.law_frames.ensures contents each))

pub returns-clause-message : goal.returns-clause-message
returns-clause-message c = message c.law_of_contents.ensures.read_back
