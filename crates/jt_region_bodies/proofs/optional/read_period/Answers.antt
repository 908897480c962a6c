use Rattle.jt_region_bodies.proofs.RegionLaws.{read_both}
use Rattle.jt_region_bodies.proofs.optional.read_period.Goals as goal

pub returns-clause-value : goal.returns-clause-value
returns-clause-value c =
    read_both c.args.reader.now.octets c.slice.new.self.octets c.args.reader.now.place c.slice.new.self.place c.slice-2.new.self.place c.in_ok-start.start.now c.in_ok-end.end.now
    c.copy_from_slice.new.self c.copy_from_slice-2.new.self c.in_ok-start.ensures.value c.in_ok-start.ensures.octets c.in_ok-end.ensures.value
    c.copy_from_slice.ensures.after c.copy_from_slice-2.ensures.after c.in_ok-start.ensures.count
