use Rattle.jt_input.specs.Cutter.{begun_line}
use Rattle.std.proofs.Common.{Bool, ◌+◌, ◌++◌, ℕ, List, take, refl, sym, ap, ◌∙◌, arith}
use Rattle.jt_input.specs.Cutter.{Held}
use Rattle.jt_input.proofs.Cutting.{begun_same, late, takes_line, takes_more, too_long_line, too_long_begun}
use Rattle.jt_input.proofs.line_cutter.LineCutter.take.Goals as goal

pub returns-then-self-eq-LINES_LIMIT-clause-bad : goal.returns-then-self-eq-LINES_LIMIT-clause-bad
returns-then-self-eq-LINES_LIMIT-clause-bad c = λ _. (refl, late c.args.self.now c.args.piece.now (cc) (grind arith))

pub returns-then-keep-clause-takes : goal.returns-then-keep-clause-takes
returns-then-keep-clause-takes c =
    let kept = c.if-keep.ensures.kept refl in
    let line = ap (λ (held : Held). held.line) c.self-in-Some.view_is ∙ ap (λ (held : Held). held.line) kept
    ∙ ap (λ (front : List ℕ). front ++ take c.in-Some.end c.args.piece.now) c.begin.ensures.line in
    let number = ap (λ (held : Held). held.number) c.self-in-Some.view_is ∙ ap (λ (held : Held). held.number) kept ∙ c.begin.ensures.number in
    takes_line _ _ _ _ (sym c.in-Some.ensures) refl line (ap (λ (n : ℕ). n + 1) number)

pub returns-else-keep-clause-bad : goal.returns-else-keep-clause-bad
returns-else-keep-clause-bad c = λ _. (refl, too_long_line c.args.self.now c.args.piece.now c.in-Some.end (sym c.in-Some.ensures) (rw (c.begin.ensures.line) at (c.if-keep.ensures.too_many refl)))

pub returns-then-keep-2-clause-takes : goal.returns-then-keep-2-clause-takes
returns-then-keep-2-clause-takes c =
    let kept = c.if-keep-2.ensures.kept refl in
    takes_more _ _ _ (sym c.in-None.ensures) (ap (λ (held : Held). held.whole) kept ∙ c.begin.ensures.whole)
    (ap (λ (held : Held). held.line) kept ∙ ap (λ (front : List ℕ). front ++ c.args.piece.now) c.begin.ensures.line)
    (ap (λ (held : Held). held.number) kept ∙ c.begin.ensures.number)

pub returns-else-keep-2-clause-bad : goal.returns-else-keep-2-clause-bad
returns-else-keep-2-clause-bad c = λ _. (refl, too_long_begun c.args.self.now c.args.piece.now (sym c.in-None.ensures) (rw (c.begin.ensures.line) at (c.if-keep-2.ensures.too_many refl)))

pub returns-then-is_empty-clause-begun : goal.returns-then-is_empty-clause-begun
returns-then-is_empty-clause-begun c =
    begun_same c.args.self.now c.begin.new.self (ap (λ (b : Bool). begun_line b c.begin.new.self.line) c.begin.ensures.whole ∙ c.begin.ensures.line) c.begin.ensures.number

pub returns-else-keep-clause-begun : goal.returns-else-keep-clause-begun
returns-else-keep-clause-begun c =
    let same = c.if-keep.ensures.same refl in
    rw same (begun_same c.args.self.now c.begin.new.self (ap (λ (b : Bool). begun_line b c.begin.new.self.line) c.begin.ensures.whole ∙ c.begin.ensures.line) c.begin.ensures.number)

pub returns-else-keep-2-clause-begun : goal.returns-else-keep-2-clause-begun
returns-else-keep-2-clause-begun c =
    let same = c.if-keep-2.ensures.same refl in
    rw same (begun_same c.args.self.now c.begin.new.self (ap (λ (b : Bool). begun_line b c.begin.new.self.line) c.begin.ensures.whole ∙ c.begin.ensures.line) c.begin.ensures.number)
