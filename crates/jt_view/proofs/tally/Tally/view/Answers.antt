use Rattle.std.proofs.Common.{refl, arith}
use Rattle.std.proofs.lemmas.Grind.{common_steps}
use Rattle.jt_view.proofs.Counting.{brings}
use Rattle.jt_view.proofs.tally.Tally.view.Goals as goal

pub returns-clause-views : goal.returns-clause-views
returns-clause-views c =
    let taken = c.take_in_place-count in
    let views = c.in_ok-judgement.ensures in
    rw (← c.self.view_is)
    (record {
      entry = views.entry;
      brings = brings c.law_all_items.ensures.only _ _ _ _ views.told.items views.entry (taken.ensures.items views.told.items views.told.each) views.told.entry_is (grind (arith, common_steps)) refl refl
          (c.count.ensures.counted views.entry views.judgement_is);
      text_is = views.text_is;
    })
