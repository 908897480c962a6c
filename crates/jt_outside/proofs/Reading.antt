-- What a link in memory gives.
use Rattle.std.proofs.Common.{◌≡◌, ◌≢◌, ◌≤◌, ◌<◌, ◌-◌, ◌+◌, ◌^◌, ◌⊎◌, ◌↔◌, ℕ, List, [], ◌∷◌, ◌++◌, length, take, drop, min, replicate, Contains, Some, inl, inr, refl, sym, ap, ◌∙◌, subst, take-add, length-drop, arith}
use Rattle.std.proofs.lemmas.List.{length-take, take-append-drop, drop-drop, length-replicate}
use lib.ListN.{replicate-append-replicate}
use Rattle.jt_value.specs.Counts.{counted}
use Rattle.jt_outside.specs.Link.{Gives}
use Rattle.jt_outside.specs.declared.link.LinkGot.TheVariants.{Bytes, Quiet, End, Failed}
use Rattle.jt_outside.specs.ScriptLink.{LinkState, Giving, Octets, Endless, Nothing, GivesNext, IsSpent, NextFails, ReadsInOrder, most}

-- the octets from a place on are those that were read, and those behind
pub left_more : (at count : ℕ) (octets new : List ℕ) → take count new ≡ take count (drop at octets) → drop at octets ≡ take count new ++ drop (at + count) octets
left_more at count octets new is = sym (take-append-drop count (drop at octets)) ∙ (ap (λ l. take count (drop at octets) ++ l) (drop-drop count at octets) ∙ ap (λ l. l ++ drop (at + count) octets) (sym is))

pub taken_more : (at count : ℕ) (octets new : List ℕ) → take count new ≡ take count (drop at octets) → take (at + count) octets ≡ take at octets ++ take count new
taken_more at count octets new is = take-add at count octets ∙ ap (λ l. take at octets ++ l) (sym is)

pub octet_more : (octet at count : ℕ) (new : List ℕ) → take count new ≡ replicate count octet → replicate (at + count) octet ≡ replicate at octet ++ take count new
octet_more octet at count new is = sym (replicate-append-replicate at count octet) ∙ ap (λ l. replicate at octet ++ l) (sym is)

-- what changes at a read that gave octets
pub record Moved (old now : LinkState) : Type 0 where
  pub quiets : now.quiets ≡ old.quiets
  pub run : now.run ≡ 0
  pub written : now.written ≡ old.written
  pub room : now.room ≡ old.room
  pub failing : now.failing ≡ old.failing
  pub calls : now.calls ≡ counted old.calls
  pub faults : now.faults ≡ old.faults

none_left : (at : ℕ) (octets : List ℕ) → Octets (drop at octets) ≡ Octets [] → length octets ≤ at
none_left at octets e = let none : drop at octets ≡ [] = cc in omega (arith, length-drop at octets, ap length none)

some_given : (old : LinkState) (octets : List ℕ) (P : Type 0) → old.gives ≡ Octets octets → IsSpent old → P
some_given old octets P is spent = absurd (let e : Octets octets ≡ Endless spent.0 = sym is ∙ spent.1 in cc)

unquiet : (old : LinkState) (octets : List ℕ) (P : Type 0) → old.gives ≡ Octets octets → old.gives ≡ Nothing → P
unquiet old octets P is none = absurd (let e : Octets octets ≡ Nothing = sym is ∙ none in cc)

pub octets_in_order : (old now : LinkState) (at count : ℕ) (octets buf new : List ℕ) → at ≤ length octets → count ≡ min (length octets - at) (length buf) → take count new ≡ take count (drop at octets) → length new ≡ length buf → count ≢ 0
    → (NextFails old → ⊥) → old.gives ≡ Octets (drop at octets) → old.taken ≡ take at octets → now.gives ≡ Octets (drop (at + count) octets) → now.taken ≡ take (at + count) octets → Moved old now → ReadsInOrder old now (Bytes count) new
octets_in_order old now at count octets buf new within is same len some never gives taken gives_now taken_now moved = record {
  failed = (λ e. absurd (let f = e in cc), λ f. absurd (no_fail f));
  end = (λ e. absurd (let f = e in cc), λ e. absurd (some (let none = none_left at octets (sym gives ∙ e.0) in omega (arith, is, none))));
  quiet = (λ e. absurd (let f = e in cc), λ e. unquiet old (drop at octets) (Bytes count ≡ Quiet) gives e.0);
  count = λ n e. let same : count ≡ n = cc in sym same ∙ (is ∙ (ap (λ k. min (length octets - at) k) (sym len) ∙ most_is));
  gives = subst (λ g. GivesNext g now.gives (take count new)) (sym gives) (drop (at + count) octets, left_more at count octets new same, gives_now);
  taken = taken_now ∙ (taken_more at count octets new same ∙ ap (λ l. l ++ take count new) (sym taken));
  quiets = moved.quiets;
  run = moved.run;
  written = moved.written;
  room = moved.room;
  failing = moved.failing;
  calls = moved.calls;
  faults = moved.faults;
} where
  no_fail : NextFails old ⊎ IsSpent old → ⊥
  no_fail (inl fails) = never fails
  no_fail (inr spent) = some_given old (drop at octets) ⊥ gives spent

  most_is : min (length octets - at) (length new) ≡ most old.gives (length old.taken) (length new)
  most_is = subst (λ g. min (length octets - at) (length new) ≡ most g (length old.taken) (length new)) (sym gives) (ap (λ k. min k (length new)) (sym (length-drop at octets)))

pub octet_in_order : (old now : LinkState) (octet at count : ℕ) (buf new : List ℕ) → count ≡ min (2 ^ 64 - 1 - at) (length buf) → take count new ≡ replicate count octet → length new ≡ length buf → count ≢ 0
    → (NextFails old → ⊥) → old.gives ≡ Endless octet → old.taken ≡ replicate at octet → now.gives ≡ Endless octet → now.taken ≡ replicate (at + count) octet → Moved old now → ReadsInOrder old now (Bytes count) new
octet_in_order old now octet at count buf new is same len some never gives taken gives_now taken_now moved = record {
  failed = (λ e. absurd (let f = e in cc), λ f. absurd (no_fail f));
  end = (λ e. absurd (let f = e in cc), λ e. absurd (let f = sym gives ∙ e.0 in cc));
  quiet = (λ e. absurd (let f = e in cc), λ e. absurd (let f = sym gives ∙ e.0 in cc));
  count = λ n e. let same_count : count ≡ n = cc in sym same_count ∙ (is ∙ (ap (λ k. min (2 ^ 64 - 1 - at) k) (sym len) ∙ most_is));
  gives = subst (λ g. GivesNext g now.gives (take count new)) (sym gives) (same ∙ ap (λ k. replicate k octet) (sym given_len), gives_now);
  taken = taken_now ∙ (octet_more octet at count new same ∙ ap (λ l. l ++ take count new) (sym taken));
  quiets = moved.quiets;
  run = moved.run;
  written = moved.written;
  room = moved.room;
  failing = moved.failing;
  calls = moved.calls;
  faults = moved.faults;
} where
  taken_len : length old.taken ≡ at
  taken_len = ap length taken ∙ length-replicate at octet

  given_len : length (take count new) ≡ count
  given_len = ap length same ∙ length-replicate count octet

  no_fail : NextFails old ⊎ IsSpent old → ⊥
  no_fail (inl fails) = never fails
  no_fail (inr spent) = some (omega (arith, is, taken_len, spent.2))

  most_is : min (2 ^ 64 - 1 - at) (length new) ≡ most old.gives (length old.taken) (length new)
  most_is = subst (λ g. min (2 ^ 64 - 1 - at) (length new) ≡ most g (length old.taken) (length new)) (sym gives) (ap (λ k. min (2 ^ 64 - 1 - k) (length new)) (sym taken_len))
