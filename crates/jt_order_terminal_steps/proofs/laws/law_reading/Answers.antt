use Rattle.jt_order_terminal_steps.proofs.laws.law_reading.Goals as goal

pub returns : goal.returns
returns c = record {
  front = c.law_front.ensures.unplaced;
  one = c.law_one_octet.ensures;
  frames = c.law_frames.ensures.frames;
  message = c.law_frames.ensures.message;
  long = c.law_of_contents.ensures.len;
  some = c.law_one_list.ensures.some;
  are = c.law_items.ensures;
  heard = c.law_rule.ensures.heard;
  cut = c.law_rule.ensures.cut;
  heard_cut = c.law_rule.ensures.heard_cut;
  told = c.law_rule.ensures.told;
  responses = c.law_frames-2.ensures.responses;
  others = c.law_turns.ensures.others;
  obeyed = c.law_order_world.ensures.obeyed;
  none_refused = c.law_order_world.ensures.none_refused;
}
