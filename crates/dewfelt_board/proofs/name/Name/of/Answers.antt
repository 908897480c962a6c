use Rattle.std.proofs.Common.{◌≡◌, ℕ, List, ◌++◌, take, length, arith, sym, ◌∙◌, ap}
use Rattle.std.proofs.Math.Seq.{take-append_seam}
use Rattle.std.proofs.lemmas.List.{length-take}
use Rattle.dewfelt_board.proofs.name.Name.of.Goals as goal

-- the first octets are those that were put there
front : (n : ℕ) (xs ys zs : List ℕ) → xs ≡ zs → length zs ≡ n → take n (xs ++ ys) ≡ zs
front n xs ys zs same size =
    let long : length xs ≡ n = ap length same ∙ size in
    ap (λ (m : ℕ). take m (xs ++ ys)) (sym long) ∙ take-append_seam xs ys ∙ same

pub returns-clause-kept : goal.returns-clause-kept
returns-clause-kept c =
    front c.min-count.result c.copy_from_slice.new.self _ (take c.min-count.result c.args.octets.now) c.copy_from_slice.ensures.after
    (omega (arith, length-take c.min-count.result c.args.octets.now))
