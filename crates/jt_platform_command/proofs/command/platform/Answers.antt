use Rattle.std.proofs.Common.{inl, inr, refl, sym, ap, subst, []}
use Rattle.std.proofs.KnownBytes.{Appends-nil}
use Rattle.jt_input.specs.Answer.{IsFault}
use Rattle.jt_platform_command.specs.Platform.{Unserved, platform_text}
use Rattle.jt_platform_command.proofs.command.platform.Goals as goal

pub returns-in-Err-clause-runs : goal.returns-in-Err-clause-runs
unfolding platform_text
returns-in-Err-clause-runs g c =
    let out = c.without_links-in-Err.ensures in
    record {
      came = Unserved;
      taken = c.read_fleet.ensures.reads.taken;
      consumed = c.read_fleet.ensures.reads.consumed;
      does = record { none = ap (λ r. r.reports) out; no_entry = ap (λ r. r.history) out; pool = refl };
      answers = inr (subst IsFault (sym (ap (λ r. r.status) out)) tt, ([], [], refl, Appends-nil _));
      ends = inl (ap (λ r. r.status) out);
    }
