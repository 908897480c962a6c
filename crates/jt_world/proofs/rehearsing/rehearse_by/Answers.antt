use Rattle.std.proofs.Common.{refl, subst, sym}
use Rattle.jt_world.specs.Hearing.{MayHear}
use Rattle.jt_world.proofs.Rehearsals.{done, bad_line, full, read_fault, write_fault, memory, rehearses, rehearses_whole, refused_bad, not_net, not_unsent, is_heard, stops_so}
use Rattle.jt_world.proofs.rehearsing.rehearse_by.Goals as goal

pub returns-in-Done-clause-rehearses : goal.returns-in-Done-clause-rehearses
returns-in-Done-clause-rehearses g c =
    rehearses c.requires.scene c.requires.begins c.law_world.ensures.whole c.run_teller.new.teller.hearer c.run_teller.new.teller.bad _ _ _ _ _ _ (done _)
    (c.in-Done.ensures.runs c.requires.scene c.requires.unheard)

pub returns-in-Done-clause-whole : goal.returns-in-Done-clause-whole
returns-in-Done-clause-whole g c =
    rehearses_whole c.requires.scene c.requires.begins c.law_world.ensures.whole c.run_teller.new.teller.hearer c.run_teller.new.teller.bad _ _ _ _ _ (done _)
    (c.in-Done.ensures.whole c.requires.scene c.requires.unheard)

pub returns-in-Done-clause-no_further : goal.returns-in-Done-clause-no_further
returns-in-Done-clause-no_further g c =
    let reads = c.in-Done.ensures.no_further c.requires.scene c.requires.unheard in
    let some = reads.open_before in
    record { front = reads.front; last = reads.last; text = reads.text; consumed = reads.consumed; few = reads.few; open_before = is_heard c.requires.scene c.requires.begins some.0.hearer some.0.cutter some.0.bad reads.front reads.text some.1 }

pub returns-in-Some-clause-rehearses : goal.returns-in-Some-clause-rehearses
returns-in-Some-clause-rehearses g c =
    rehearses c.requires.scene c.requires.begins c.law_world.ensures.whole c.run_teller.new.teller.hearer c.run_teller.new.teller.bad _ _ _ _ _ _ (bad_line _ _ c.in-Some.ensures)
    (c.in-Refused.ensures.runs c.requires.scene c.requires.unheard)

pub returns-in-Some-clause-whole : goal.returns-in-Some-clause-whole
returns-in-Some-clause-whole g c =
    rehearses_whole c.requires.scene c.requires.begins c.law_world.ensures.whole c.run_teller.new.teller.hearer c.run_teller.new.teller.bad _ _ _ _ _ (bad_line _ _ c.in-Some.ensures)
    (c.in-Refused.ensures.whole c.requires.scene c.requires.unheard)

pub returns-in-Some-clause-no_further : goal.returns-in-Some-clause-no_further
returns-in-Some-clause-no_further g c =
    let reads = c.in-Refused.ensures.no_further c.requires.scene c.requires.unheard in
    let some = reads.open_before in
    record { front = reads.front; last = reads.last; text = reads.text; consumed = reads.consumed; few = reads.few; open_before = is_heard c.requires.scene c.requires.begins some.0.hearer some.0.cutter some.0.bad reads.front reads.text some.1 }

pub returns-in-ReadFault-clause-rehearses : goal.returns-in-ReadFault-clause-rehearses
returns-in-ReadFault-clause-rehearses g c =
    rehearses c.requires.scene c.requires.begins c.law_world.ensures.whole c.run_teller.new.teller.hearer c.run_teller.new.teller.bad _ _ _ _ _ _ (read_fault _)
    (c.in-ReadFault.ensures.runs c.requires.scene c.requires.unheard)

pub returns-in-ReadFault-clause-no_further : goal.returns-in-ReadFault-clause-no_further
returns-in-ReadFault-clause-no_further g c =
    let reads = c.in-ReadFault.ensures.no_further c.requires.scene c.requires.unheard in
    let some = reads.open_before in
    record { front = reads.front; last = reads.last; text = reads.text; consumed = reads.consumed; few = reads.few; open_before = is_heard c.requires.scene c.requires.begins some.0.hearer some.0.cutter some.0.bad reads.front reads.text some.1 }

pub returns-in-WriteFault-clause-rehearses : goal.returns-in-WriteFault-clause-rehearses
returns-in-WriteFault-clause-rehearses g c =
    rehearses c.requires.scene c.requires.begins c.law_world.ensures.whole c.run_teller.new.teller.hearer c.run_teller.new.teller.bad _ _ _ _ _ _ (write_fault _)
    (c.in-WriteFault.ensures.runs c.requires.scene c.requires.unheard)

pub returns-in-WriteFault-clause-no_further : goal.returns-in-WriteFault-clause-no_further
returns-in-WriteFault-clause-no_further g c =
    let reads = c.in-WriteFault.ensures.no_further c.requires.scene c.requires.unheard in
    let some = reads.open_before in
    record { front = reads.front; last = reads.last; text = reads.text; consumed = reads.consumed; few = reads.few; open_before = is_heard c.requires.scene c.requires.begins some.0.hearer some.0.cutter some.0.bad reads.front reads.text some.1 }

pub returns-in-Memory-clause-rehearses : goal.returns-in-Memory-clause-rehearses
returns-in-Memory-clause-rehearses g c =
    rehearses c.requires.scene c.requires.begins c.law_world.ensures.whole c.run_teller.new.teller.hearer c.run_teller.new.teller.bad _ _ _ _ _ _ (memory _)
    (c.in-Memory.ensures.runs c.requires.scene c.requires.unheard)

pub returns-in-Memory-clause-no_further : goal.returns-in-Memory-clause-no_further
returns-in-Memory-clause-no_further g c =
    let reads = c.in-Memory.ensures.no_further c.requires.scene c.requires.unheard in
    let some = reads.open_before in
    record { front = reads.front; last = reads.last; text = reads.text; consumed = reads.consumed; few = reads.few; open_before = is_heard c.requires.scene c.requires.begins some.0.hearer some.0.cutter some.0.bad reads.front reads.text some.1 }

pub returns-in-ReadFault-clause-prints_taken : goal.returns-in-ReadFault-clause-prints_taken
returns-in-ReadFault-clause-prints_taken g c = λ fault.
    let prints = c.in-ReadFault.ensures.prints_taken c.requires.scene c.requires.unheard refl in
    let some = prints.open_behind in
    record { taken = prints.taken; text = prints.text; consumed = prints.consumed; writes = prints.writes; open_behind = is_heard c.requires.scene c.requires.begins some.0.hearer some.0.cutter some.0.bad prints.taken prints.text some.1 }

pub returns-in-WriteFault-clause-stops_at_write : goal.returns-in-WriteFault-clause-stops_at_write
returns-in-WriteFault-clause-stops_at_write g c = λ fault.
    let stops = c.in-WriteFault.ensures.stops_at_write c.requires.scene c.requires.unheard refl in
    let some = stops.open_before in
    stops_so c.requires.scene c.requires.begins _ _ _ _ _ (record {
      front = stops.front;
      last = stops.last;
      text = stops.text;
      consumed = stops.consumed;
      few = stops.few;
      open_before = is_heard c.requires.scene c.requires.begins some.0.hearer some.0.cutter some.0.bad stops.front stops.text some.1;
      part = stops.part;
      beyond = stops.beyond;
      of_answer = stops.of_answer;
      writes = stops.writes;
    })

pub unreachable-requires : goal.unreachable-requires
unreachable-requires g c =
    refused_bad c.requires.scene c.requires.begins c.run_teller.new.teller.hearer c.run_teller.new.teller.bad _ _ _ _ c.in-None.ensures (c.in-Refused.ensures.runs c.requires.scene c.requires.unheard)

pub returns-in-StoreFault-clause-rehearses : goal.returns-in-StoreFault-clause-rehearses
returns-in-StoreFault-clause-rehearses g c =
    rehearses c.requires.scene c.requires.begins c.law_world.ensures.whole c.run_teller.new.teller.hearer c.run_teller.new.teller.bad _ _ _ _ _ _ (full _)
    (c.in-StoreFault.ensures.runs c.requires.scene c.requires.unheard)

pub returns-in-StoreFault-clause-whole : goal.returns-in-StoreFault-clause-whole
returns-in-StoreFault-clause-whole g c =
    rehearses_whole c.requires.scene c.requires.begins c.law_world.ensures.whole c.run_teller.new.teller.hearer c.run_teller.new.teller.bad _ _ _ _ _ (full _)
    (c.in-StoreFault.ensures.whole c.requires.scene c.requires.unheard)

pub returns-in-StoreFault-clause-no_further : goal.returns-in-StoreFault-clause-no_further
returns-in-StoreFault-clause-no_further g c =
    let reads = c.in-StoreFault.ensures.no_further c.requires.scene c.requires.unheard in
    let some = reads.open_before in
    record { front = reads.front; last = reads.last; text = reads.text; consumed = reads.consumed; few = reads.few; open_before = is_heard c.requires.scene c.requires.begins some.0.hearer some.0.cutter some.0.bad reads.front reads.text some.1 }

pub unreachable-requires-in-NetFault : goal.unreachable-requires-in-NetFault
unreachable-requires-in-NetFault g c =
    not_net c.requires.scene c.requires.begins c.run_teller.new.teller.hearer c.run_teller.new.teller.bad _ _ _ _ (c.in-NetFault.ensures.runs c.requires.scene c.requires.unheard)

pub unreachable-requires-in-Unsent : goal.unreachable-requires-in-Unsent
unreachable-requires-in-Unsent g c =
    not_unsent c.requires.scene c.requires.begins c.run_teller.new.teller.hearer c.run_teller.new.teller.bad _ _ _ _ (c.in-Unsent.ensures.runs c.requires.scene c.requires.unheard)

pub run_teller-requires : goal.run_teller-requires
run_teller-requires g c =
    subst MayHear (sym c.requires.same) c.requires.may
