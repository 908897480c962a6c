use Rattle.std.proofs.Common.{ℕ, List, ◌++◌, ap, subst, take}
use Rattle.jt_escape.specs.Scan.{State}
use Rattle.jt_escape.specs.Splitter.{Continues}
use Rattle.jt_stream.specs.Stream.{Held, GainsInPlace}
use Rattle.jt_stream.proofs.Gaining.{gains}
use Rattle.jt_stream.proofs.stream.Stream.take_in_place.Goals as goal

pub returns-clause-items : goal.returns-clause-items
returns-clause-items c = λ items each.
    subst (λ (old : State). GainsInPlace old c.take_in_place.new.self (take c.take_in_place.result.0 c.args.piece.now) items)
    (ap (λ (held : Held). held.splitter) c.self.view_is) (gains Continues _ _ _ _ items c.take_in_place.ensures.events each)

pub returns-clause-continues : goal.returns-clause-continues
returns-clause-continues c =
    subst (λ (old : State). (stream : List ℕ) → Continues old stream → Continues c.take_in_place.new.self (stream ++ take c.take_in_place.result.0 c.args.piece.now))
    (ap (λ (held : Held). held.splitter) c.self.view_is) c.take_in_place.ensures.events.stands
