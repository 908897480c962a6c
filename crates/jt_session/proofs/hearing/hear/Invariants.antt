use Rattle.std.proofs.Common.{◌≡◌, ◌≤◌, ◌+◌, ◌-◌, ◌*◌, None, false, length, take}
use Rattle.std.specs.Option.{option_map}
use Rattle.jt_platform.specs.Hub.{opening_of}
use Rattle.jt_session.specs.declared.end.Fed.TheVariants.{On}
use Rattle.jt_session.specs.Hearing.{Hears, IsSamePass}
use Rattle.jt_session.proofs.hearing.hear.Given as goal

abbrev pub invariant-loop-taken : goal.invariant-loop-taken
invariant-loop-taken g l = record {
  within : l.taken ≤ length l.octets;
  waits : l.session.waiting ≡ None;
  on : l.session.over ≡ false;
  place : l.session.stream.place ≡ l.fn.session.stream.place + l.taken;
  hears : Hears (option_map (λ o. opening_of (g.P.Keeper.tables o.start) (g.P.Keeper.limit o.start) o.fleet o.secret) l.fn.pass.opening) l.fn.session l.session (take l.taken l.octets) l.fn.pass l.pass l.fn.out.items l.out.items On;
  same : IsSamePass l.fn.pass l.pass;
  number : l.session.number ≡ l.fn.session.number;
  bound : length l.out.items ≤ length l.fn.out.items + 4184 * l.taken;
}

abbrev pub decreases-loop-taken : goal.decreases-loop-taken
decreases-loop-taken g l = length l.octets - l.taken
