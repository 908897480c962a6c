-- A list of units that is tested one by one.
use Rattle.std.proofs.Common.{◌≡◌, ◌≤◌, ◌<◌, ◌+◌, ◌↔◌, ℕ, Bool, false, List, ◌∷◌, [], All, IsTrue, Option, length, get_or, take, drop, sym, ap, subst, ◌∙◌, arith}
use Rattle.std.proofs.lemmas.List.{drop_more, take_all}
use Rattle.std.proofs.lemmas.List.Elements.{All-more}
use Rattle.std.proofs.Math.Seq.{drop-length}
use Rattle.jt_value.specs.Serials.{gap_of}
use Rattle.jt_value.specs.declared.limits.TheConstants.{UNIT_WINDOW}
use Rattle.jt_store.specs.declared.unit.Unit.{Unit as OneUnit}
use Rattle.jt_store.specs.Vaults.{Gaps, gap_after}
use Rattle.jt_store_answers.specs.Counted.{AreCounted, IsBehind, IsCounted, said}

-- a unit counts as many fixes as its body says
abbrev pub Says : OneUnit → Type 0
Says u = u.count ≡ said u

-- what is known before the unit at i, which is to be at this gap or behind it
pub record IsTested (mark low i : ℕ) (units : List OneUnit) : Type 0 where
  pub gaps : Gaps mark low (drop i units) ↔ Gaps mark 1 units
  pub after : gap_after mark low (drop i units) ≡ gap_after mark 1 units
  pub counted : All Says (take i units)

-- what the unit at i has to be
pub record MayStand (mark low : ℕ) (u : OneUnit) : Type 0 where
  pub from : low ≤ gap_of mark u.serial
  pub near : gap_of mark u.serial ≤ UNIT_WINDOW
  pub counted : IsCounted u

cut : (units : List OneUnit) (i : ℕ) (u d : OneUnit) → i < length units → u ≡ get_or units i d → drop i units ≡ u ∷ drop (i + 1) units
cut units i u d lt at = drop_more units i d lt ∙ ap (λ (v : OneUnit). v ∷ drop (i + 1) units) (sym at)

-- it is such where all are in order
stands : (mark next low i : ℕ) (units : List OneUnit) (code : Option (List ℕ)) (u d : OneUnit) → i < length units → u ≡ get_or units i d → IsTested mark low i units → AreCounted mark next units code → MayStand mark low u
stands mark next low i units code u d lt at tested whole =
    let here = subst (Gaps mark low) (cut units i u d lt at) (tested.gaps.1 whole.0.gaps) in
    record { from = here.0; near = here.1; counted = (here.2, subst Says (sym at) (whole.1 i d lt)) }

-- where it is not, they are not all in order
pub refused : (mark next low i : ℕ) (units : List OneUnit) (code : Option (List ℕ)) (u d : OneUnit) → i < length units → u ≡ get_or units i d → IsTested mark low i units → (MayStand mark low u → IsTrue false) → IsTrue false ↔ AreCounted mark next units code
refused mark next low i units code u d lt at tested otherwise = ((λ never. absurd cc), λ whole. otherwise (stands mark next low i units code u d lt at tested whole))

-- one more that is tested
pub more : (mark low i : ℕ) (units : List OneUnit) (u d : OneUnit) → i < length units → u ≡ get_or units i d → MayStand mark low u → IsTested mark low i units → IsTested mark (gap_of mark u.serial + 1) (i + 1) units
more mark low i units u d lt at may tested =
    let there = cut units i u d lt at in
    record {
      gaps = (
        (λ rest. tested.gaps.0 (subst (Gaps mark low) (sym there) (may.from, may.near, may.counted.0, rest))),
        λ whole. (subst (Gaps mark low) there (tested.gaps.1 whole)).3,
      );
      after = sym (ap (gap_after mark low) there) ∙ tested.after;
      counted = All-more Says units i d lt tested.counted (subst Says at may.counted.1);
    }

-- all of them
pub all_tested : (mark next low i : ℕ) (units : List OneUnit) (code : Option (List ℕ)) (r : Bool) → i ≡ length units → IsTested mark low i units → (IsTrue r ↔ IsBehind mark low next code) → IsTrue r ↔ AreCounted mark next units code
all_tested mark next low i units code r end tested behind =
    let none : drop i units ≡ [] = ap (λ n. drop n units) end ∙ drop-length units in
    let whole : take i units ≡ units = take_all i units (omega (arith, end)) in
    let after : low ≡ gap_after mark 1 units = sym (ap (gap_after mark low) none) ∙ tested.after in (
      (λ is. let there = behind.0 is in (
        record { gaps = tested.gaps.0 (subst (Gaps mark low) (sym none) tt); behind = subst (λ n. n ≤ gap_of mark next) after there.0; near = there.1; short = there.2 },
        subst (All Says) whole tested.counted,
      )),
      λ all. behind.1 (subst (λ n. n ≤ gap_of mark next) (sym after) all.0.behind, all.0.near, all.0.short),
    )
