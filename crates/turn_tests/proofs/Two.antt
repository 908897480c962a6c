-- Two passes that were joined.
use Rattle.std.proofs.Common.{◌≡◌, ◌≢◌, ℕ, zero, suc, List, [], ◌∷◌, ◌++◌, ap, sym, ◌∙◌, subst}
use mathlib.Core.Option.{some-injective, some-ne-none}
use Rattle.jt_turn.specs.declared.entry.Ended.{Ended}
use Rattle.jt_turn.specs.Histories.{IsNoneOf}

pub two_ended : {X : Type 0} (none first both : List X) (a b : X) → none ≡ [] → first ≡ none ++ a ∷ [] → both ≡ first ++ b ∷ [] → both ≡ a ∷ b ∷ []
two_ended none first both a b e f h = h ∙ ap (λ l. l ++ b ∷ []) (f ∙ ap (λ l. l ++ a ∷ []) e)

in_two : {A B : Type 0} (n : ℕ) (a b : Ended A B) → a.number ≢ n → b.number ≢ n → IsNoneOf n (a ∷ b ∷ [])
in_two n a b na nb zero e at = subst (λ x. x.number ≢ n) (some-injective a e at) na
in_two n a b na nb (suc zero) e at = subst (λ x. x.number ≢ n) (some-injective b e at) nb
in_two n a b na nb (suc (suc m)) e at = absurd (some-ne-none e (sym at))

pub none_but_two : {A B : Type 0} (n : ℕ) (all : List (Ended A B)) (a b : Ended A B) → all ≡ a ∷ b ∷ [] → a.number ≢ n → b.number ≢ n → IsNoneOf n all
none_but_two n all a b e na nb = subst (λ l. IsNoneOf n l) (sym e) (in_two n a b na nb)
