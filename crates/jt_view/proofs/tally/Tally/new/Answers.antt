use Rattle.jt_value.proofs.OctetLists.{AreOctets-nil}
use Rattle.jt_stream.specs.Item.{all_items}
use Rattle.jt_view.specs.Entry.{entries_of}
use Rattle.std.proofs.Common.{[], refl}
use Rattle.jt_view.proofs.tally.Tally.new.Goals as goal

pub returns : goal.returns
unfolding all_items entries_of
returns c = record {
  continues = c.new.ensures.in_place;
  items = c.law_all_items.ensures.held [] AreOctets-nil;
  place = c.new.ensures.place;
  frames = refl;
  refused = refl;
}
