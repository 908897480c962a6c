-- The laws of regions: each layout's octets have exactly one value or exactly one reason.
use Rattle.std.proofs.Common.{◌≡◌, ℕ, List, [], ◌∷◌, ◌++◌, length, Ok, ap, take, drop, refl, arith, length-append, length-take, length-drop}
use Rattle.std.proofs.lemmas.List.{append-nil, take_at, drop_at, take-append-drop}
use borrow.Rule.Slice.PartMut.{post_of}
use Rattle.jt_value.specs.Octets.{AreOctets}
use Rattle.jt_value.proofs.OctetLists.{AreOctets-take, AreOctets-drop, AreOctets-append}
use Rattle.jt_layout.specs.Layout.{octets_of}
use Rattle.jt_layout.proofs.Laws.{IsPart, IsBody, byte_law, word_law, dword_law, octets_law, then_law, ended_law, typed_law, part_as_law, body_as_law}
use Rattle.jt_layout.proofs.Repeats.{counted_law, only_if_law}
use Rattle.jt_region_bodies.specs.Regions.{has_times, has_limit, has_thresholds, period, times_of, limit, limit_of, thresholds_of, circle, rectangle, vertex, point, circles, rectangles, polygon, route, deletion}

pair_same : (a b c d : List ℕ) → a ≡ b → c ≡ d → ◌≡◌ {A = List ℕ × List ℕ} (a, c) (b, d)
pair_same a b c d e f = cc

-- two fields of six octets are twelve octets, and twelve are two of six
joined : (a b : List ℕ) → length a ≡ 6 → length b ≡ 6 → AreOctets a → AreOctets b → ((length (a ++ b) ≡ 12) × AreOctets (a ++ b)) × (◌≡◌ {A = List ℕ × List ℕ} (take 6 (a ++ b), drop 6 (a ++ b)) (a, b))
joined a b first second are other =
    ((omega (arith, length-append a b, first, second), AreOctets-append a b are other), pair_same (take 6 (a ++ b)) a (drop 6 (a ++ b)) b (take_at a b 6 first) (drop_at a b 6 first))

parted : (v : List ℕ) → length v ≡ 12 → AreOctets v → (((length (take 6 v) ≡ 6) × AreOctets (take 6 v)) × ((length (drop 6 v) ≡ 6) × AreOctets (drop 6 v))) × (take 6 v ++ drop 6 v ≡ v)
parted v len are =
    (((omega (arith, length-take 6 v, len), AreOctets-take 6 v are), (omega (arith, length-drop 6 v, len), AreOctets-drop 6 v are)), take-append-drop 6 v)

period_law : IsPart period
unfolding period octets_of
period_law = typed_law _ _ _ _ (then_law _ _ (octets_law 6) (λ _. octets_law 6)) (λ x fits. joined x.0 x.1 fits.0.0 fits.1.0 fits.0.1 fits.1.1) (λ y fits. parted y fits.0 fits.1)

-- what is read in two fields of six octets and put one behind the other in a room of twelve
abbrev room : List ℕ
room = 0 ∷ 0 ∷ 0 ∷ 0 ∷ 0 ∷ 0 ∷ []

filled : (a b : List ℕ) → length a ≡ 6 → take 6 (a ++ room) ++ (b ++ post_of 6 6 (a ++ room)) ≡ a ++ b
filled a b len =
    rw (take_at a room 6 len, drop_at a room 6 len) (ap (λ (xs : List ℕ). a ++ xs) (append-nil b))

pub read_both : (s t : List ℕ) (p q r : ℕ) (a b x y : List ℕ) → (octets_of 6).read s p ≡ Ok (a, q) → t ≡ s → (octets_of 6).read t q ≡ Ok (b, r) → x ≡ a → y ≡ b → length a ≡ 6
    → period.read s p ≡ Ok (take 6 (x ++ room) ++ (y ++ post_of 6 6 (x ++ room)), r)
unfolding period
read_both s t p q r a b x y first same second is_a is_b len =
    rw (is_a, is_b, filled a b len, first, ← same, second) refl

-- what is written of times is the times
pub spell_period : (v : List ℕ) → period.spell v ≡ v
unfolding period octets_of
spell_period v = take-append-drop 6 v

times_law : (attribute : ℕ) → IsPart (times_of attribute)
times_law attribute = only_if_law (has_times attribute) _ period_law

limit_law : (attribute : ℕ) → IsPart (limit_of attribute)
unfolding limit
limit_law attribute = only_if_law (has_limit attribute) _ (part_as_law _ _ _ (then_law _ _ word_law (λ _. byte_law)) (λ x fits. refl) (λ m. refl))

thresholds_law : (attribute : ℕ) → IsPart (thresholds_of attribute)
thresholds_law attribute = only_if_law (has_thresholds attribute) _ (then_law _ _ word_law (λ _. word_law))

circle_law : IsPart circle
unfolding circle
circle_law = part_as_law _ _ _ (then_law _ _ dword_law (λ _. then_law _ _ word_law (λ attribute. then_law _ _ dword_law (λ _. then_law _ _ dword_law (λ _. then_law _ _ dword_law (λ _. then_law _ _ (times_law attribute) (λ _. limit_law attribute))))))) (λ x fits. refl) (λ m. refl)

rectangle_law : IsPart rectangle
unfolding rectangle
rectangle_law = part_as_law _ _ _ (then_law _ _ dword_law (λ _. then_law _ _ word_law (λ attribute. then_law _ _ dword_law (λ _. then_law _ _ dword_law (λ _. then_law _ _ dword_law (λ _. then_law _ _ dword_law (λ _. then_law _ _ (times_law attribute) (λ _. limit_law attribute)))))))) (λ x fits. refl) (λ m. refl)

vertex_law : IsPart vertex
unfolding vertex
vertex_law = part_as_law _ _ _ (then_law _ _ dword_law (λ _. dword_law)) (λ x fits. refl) (λ m. refl)

point_law : IsPart point
unfolding point
point_law = part_as_law _ _ _ (then_law _ _ dword_law (λ _. then_law _ _ dword_law (λ _. then_law _ _ dword_law (λ _. then_law _ _ dword_law (λ _. then_law _ _ byte_law (λ _. then_law _ _ byte_law (λ attribute. then_law _ _ (thresholds_law attribute) (λ _. limit_law attribute)))))))) (λ x fits. refl) (λ m. refl)

pub circles_law : IsBody circles
unfolding circles
circles_law = ended_law _ (then_law _ _ byte_law (λ _. counted_law _ _ byte_law circle_law))

pub rectangles_law : IsBody rectangles
unfolding rectangles
rectangles_law = ended_law _ (then_law _ _ byte_law (λ _. counted_law _ _ byte_law rectangle_law))

pub polygon_law : IsBody polygon
unfolding polygon
polygon_law = body_as_law _ _ _ (ended_law _ (then_law _ _ dword_law (λ _. then_law _ _ word_law (λ attribute. then_law _ _ (times_law attribute) (λ _. then_law _ _ (limit_law attribute) (λ _. counted_law _ _ word_law vertex_law)))))) (λ x fits. refl) (λ m. refl)

pub route_law : IsBody route
unfolding route
route_law = body_as_law _ _ _ (ended_law _ (then_law _ _ dword_law (λ _. then_law _ _ word_law (λ attribute. then_law _ _ (times_law attribute) (λ _. counted_law _ _ word_law point_law))))) (λ x fits. refl) (λ m. refl)

pub deletion_law : IsBody deletion
unfolding deletion
deletion_law = body_as_law _ _ _ (ended_law _ (counted_law _ _ byte_law dword_law)) (λ x fits. refl) (λ m. refl)
