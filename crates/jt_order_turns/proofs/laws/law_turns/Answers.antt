use Rattle.jt_order_turns.proofs.Turning.{writes_no_order, turns_are_steps, answers_are_told, answers_are_carried, responses_name_no_order}
use Rattle.jt_order_turns.proofs.laws.law_turns.Goals as goal

pub returns : goal.returns
returns c =
    let one = c.law_of_bodies.ensures.one_to_one in
    let acks = c.law_of_acks.ensures in
    record { writes = writes_no_order; steps = turns_are_steps; told = answers_are_told; carried = answers_are_carried one acks; others = responses_name_no_order one acks }
