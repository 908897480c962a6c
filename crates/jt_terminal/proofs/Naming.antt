-- The first unit that a response names, found one after the other.
use Rattle.std.proofs.Common.{ℕ, zero, suc, ◌≡◌, ◌<◌, ◌≤◌, ◌+◌, ◌-◌, List, [], ◌∷◌, drop, slice_get, Option, Some, None, Bool, true, false, cond, refl, ap, sym, ◌∙◌, arith}
use Rattle.std.specs.Option.{option_map}
use Rattle.jt_store.specs.declared.unit.Unit.{Unit as OneUnit}
use Rattle.jt_terminal_rule.specs.declared.state.Acknowledgement.{Acknowledgement}
use Rattle.jt_terminal_rule.specs.Rule.{first_named, names}
use Rattle.jt_terminal_rule.proofs.Measuring.{drop_at, drop_none}

-- the first that is named from this place on, as a place of the whole list
abbrev pub named_behind : Acknowledgement → ℕ → List OneUnit → ℕ → Option ℕ
named_behind ack sent units place = option_map (λ k. k + place) (first_named ack (sent - place) (drop place units))

same_place : (found : Option ℕ) → option_map (λ k. k + 0) found ≡ found
same_place None = refl
same_place (Some k) = ap (λ (n : ℕ). Some n) (omega arith)

pub named_first : (ack : Acknowledgement) (sent : ℕ) (units : List OneUnit) → first_named ack sent units ≡ named_behind ack sent units 0
named_first ack sent units = let all : sent ≡ sent - 0 = omega arith in ap (λ (n : ℕ). first_named ack n units) all ∙ sym (same_place (first_named ack (sent - 0) units))

none_named : (ack : Acknowledgement) (n : ℕ) → first_named ack n [] ≡ None
none_named ack zero = refl
none_named ack (suc n) = refl

pub named_none : (ack : Acknowledgement) (sent : ℕ) (units : List OneUnit) (place : ℕ) → slice_get units place ≡ None → named_behind ack sent units place ≡ None
named_none ack sent units place e =
    ap (λ (us : List OneUnit). option_map (λ k. k + place) (first_named ack (sent - place) us)) (drop_none units place e) ∙ ap (option_map (λ k. k + place)) (none_named ack (sent - place))

pub named_last : (ack : Acknowledgement) (sent : ℕ) (units : List OneUnit) (place : ℕ) → sent ≤ place → named_behind ack sent units place ≡ None
named_last ack sent units place le = let left : sent - place ≡ 0 = omega (arith, le) in ap (λ (n : ℕ). option_map (λ k. k + place) (first_named ack n (drop place units))) left

opened : (ack : Acknowledgement) (sent : ℕ) (units : List OneUnit) (place : ℕ) (unit : OneUnit) → slice_get units place ≡ Some unit → place < sent
    → named_behind ack sent units place ≡ option_map (λ k. k + place) (cond (names ack unit) (Some 0) (option_map suc (first_named ack (sent - (place + 1)) (drop (place + 1) units))))
opened ack sent units place unit e lt =
    let left : sent - place ≡ suc (sent - (place + 1)) = omega (arith, lt) in
    ap (λ (us : List OneUnit). option_map (λ k. k + place) (first_named ack (sent - place) us)) (drop_at units place unit e)
    ∙ ap (λ (n : ℕ). option_map (λ k. k + place) (first_named ack n (unit ∷ drop (place + 1) units))) left

pub named_here : (ack : Acknowledgement) (sent : ℕ) (units : List OneUnit) (place : ℕ) (unit : OneUnit) → slice_get units place ≡ Some unit → place < sent → names ack unit ≡ true → named_behind ack sent units place ≡ Some place
named_here ack sent units place unit e lt named =
    opened ack sent units place unit e lt
    ∙ (ap (λ (b : Bool). option_map (λ k. k + place) (cond b (Some 0) (option_map suc (first_named ack (sent - (place + 1)) (drop (place + 1) units))))) named ∙ ap (λ (n : ℕ). Some n) (omega arith))

shifted : (place : ℕ) (found : Option ℕ) → option_map (λ k. k + place) (option_map suc found) ≡ option_map (λ k. k + (place + 1)) found
shifted place None = refl
shifted place (Some k) = ap (λ (n : ℕ). Some n) (omega arith)

pub named_later : (ack : Acknowledgement) (sent : ℕ) (units : List OneUnit) (place : ℕ) (unit : OneUnit) → slice_get units place ≡ Some unit → place < sent → names ack unit ≡ false → named_behind ack sent units place ≡ named_behind ack sent units (place + 1)
named_later ack sent units place unit e lt named =
    opened ack sent units place unit e lt
    ∙ (ap (λ (b : Bool). option_map (λ k. k + place) (cond b (Some 0) (option_map suc (first_named ack (sent - (place + 1)) (drop (place + 1) units))))) named
    ∙ shifted place (first_named ack (sent - (place + 1)) (drop (place + 1) units)))
