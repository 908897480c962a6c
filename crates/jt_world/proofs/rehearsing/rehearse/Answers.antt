use Rattle.jt_world.proofs.Rehearsals.{reads_nothing, runs_nothing}
use Rattle.jt_world.proofs.rehearsing.rehearse.Goals as goal

pub returns-in_default-clause-no_further : goal.returns-in_default-clause-no_further
returns-in_default-clause-no_further g c =
    reads_nothing _ _

pub returns-in_default-clause-rehearses : goal.returns-in_default-clause-rehearses
returns-in_default-clause-rehearses g c =
    runs_nothing _ _

pub rehearse_by-ended-requires : goal.rehearse_by-ended-requires
rehearse_by-ended-requires g c = record {
  scene = c.in-Ok.world;
  begins = c.in-Ok.ensures.new;
  may = record { scripted = c.in-Ok.ensures.scripted; reached = c.in-Ok.ensures.reached; identity = c.in-Ok.ensures.identity };
  same = c.new-teller.ensures.hearer;
  unheard = c.new-teller.ensures.begins;
}
