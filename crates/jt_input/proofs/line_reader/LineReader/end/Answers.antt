use Rattle.std.proofs.Common.{◌≡◌, ◌++◌, ◌+◌, [], ◌∷◌, ℕ, List, IsTrue, sym, ap, subst, ◌∙◌, append-nil}
use Rattle.jt_input.specs.Text.{Cuts, is_within}
use Rattle.jt_input.specs.Cutter.{Held, begun_of}
use Rattle.jt_input.specs.LineReading.{Reading}
use Rattle.jt_input.proofs.line_reader.LineReader.end.Goals as goal

pub returns-in-Some : goal.returns-in-Some
returns-in-Some c =
    let held : c.self.inside.cutter ≡ c.args.self.now.held = ap (λ (r : Reading). r.held) c.self.view_is in
    let line = c.in-Some.ensures.line in (
      λ text lines cuts. c.in-Some.ensures.lines text lines (subst (λ (k : Held). Cuts text lines (begun_of k)) (sym held) cuts)
          ∙ ap (λ (l : List ℕ). lines ++ l ∷ []) (line ∙ ap (λ (k : Held). k.line) held),
      subst (λ (k : Held). IsTrue (is_within (k.number + 1) k.line)) held (subst (λ (l : List ℕ). IsTrue (is_within (c.self.inside.cutter.number + 1) l)) line c.in-Some.ensures.within),
    )

pub returns-in-None : goal.returns-in-None
returns-in-None c = λ text lines cuts.
    let held : c.self.inside.cutter ≡ c.args.self.now.held = ap (λ (r : Reading). r.held) c.self.view_is in
    c.in-None.ensures.lines text lines (subst (λ (k : Held). Cuts text lines (begun_of k)) (sym held) cuts) ∙ append-nil lines
