use Rattle.std.proofs.Common.{◌+◌, ℕ, List, take, drop, sym, subst}
use Rattle.std.proofs.lemmas.List.{drop-drop}
use Rattle.jt_input.specs.Cutter.{IsBeyond}
use Rattle.jt_input.specs.LineReading.{Reading}
use Rattle.jt_input.specs.Cutting.{CutsOn}
use Rattle.jt_input.proofs.Reading.{cuts_on}
use Rattle.jt_input.proofs.line_reader.LineReader.cut.Goals as goal

pub returns : goal.returns
returns c =
    let part = c.part.ensures in
    let from = c.self.inside.from in
    let read = take c.self.inside.to c.self.inside.piece in
    let count = c.take-count.result.0 in
    let now : Reading = record { held = c.take-count.new.self; ahead = drop (from + count) read } in
    subst (λ (r : Reading). CutsOn c.take-count.result.1 r now) c.self.view_is
    (cuts_on c.take-count.result.1 c.self.inside.cutter c.take-count.new.self (drop from read) (drop (from + count) read) count
    (sym (drop-drop count from read)) (rw part at c.take-count.ensures.taken) (rw part at c.take-count.ensures.takes) (rw part at c.take-count.ensures.more)
    c.take-count.ensures.room (λ e. (c.take-count.ensures.line e).1) (λ e. subst (λ (xs : List ℕ). IsBeyond c.self.inside.cutter xs) part (c.take-count.ensures.bad e).1))
