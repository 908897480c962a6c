-- What octets are read as is what the functions of lines say of them.
use Rattle.std.proofs.Common.{◌≡◌, ℕ, ◌≤◌, ◌<◌, true, false, List, length, Err, refl, subst, arith}
use Rattle.std.proofs.lemmas.Bool.{le-leb, lt-leb}
use Rattle.jt_value.specs.Octets.{AreOctets}
use Rattle.jt_value.specs.declared.refusal.CodecError.{CodecError}
use Rattle.jt_value.specs.declared.refusal.CodecError.TheVariants as errors
use Rattle.jt_value.specs.declared.refusal.Refusal.{Refusal}
use Rattle.jt_layout.specs.Layout.{Fills, number}
use Rattle.jt_layout.specs.Answer.{Answers, IsOneToOne}
use Rattle.jt_position.specs.declared.position.Position.{Position}
use Rattle.jt_position.specs.Positions.{position}
use Rattle.jt_region_bodies.specs.declared.rectangle.Rectangle.{Rectangle}
use Rattle.jt_region_bodies.specs.declared.polygon.Polygon.{Polygon}
use Rattle.jt_region_bodies.specs.declared.deletion.Deletion.{Deletion}
use Rattle.jt_region_bodies.specs.declared.kind.RegionKind.{RegionKind}
use Rattle.jt_region_bodies.specs.Regions as bodies
use Rattle.jt_region_bodies.specs.Regions.{rectangles, deletion}
use Rattle.jt_regions.specs.declared.change.RegionChange.TheVariants as change
use Rattle.jt_fence_command.specs.declared.line.FenceLine.TheVariants.{Fix, Change, Bad}
use Rattle.jt_fence_command.specs.FenceLines.{fix_say, rectangles_say, polygon_say, deletion_say}

-- ---- fixes

pub fix_is : IsOneToOne position → (s : List ℕ) (m : Position) → AreOctets s → length s ≤ 1023 → Fills position s 0 m → Fix m.fixed ≡ fix_say s
unfolding fix_say
fix_is law s m octets few fills = rw (le-leb (length s) 1023 few, (law.reads_value s m octets).1 fills) refl

pub no_fix : IsOneToOne position → (s : List ℕ) (r : Refusal) → AreOctets s → length s ≤ 1023 → position.Refuses s 0 r → Bad ≡ fix_say s
unfolding fix_say
no_fix law s r octets few refuses = rw (le-leb (length s) 1023 few, (law.reads_reason s r octets).1 refuses) refl

pub long_fix : (s : List ℕ) → 1023 < length s → Bad ≡ fix_say s
unfolding fix_say
long_fix s many = rw (lt-leb (length s) 1023 many) refl

-- ---- regions

pub rectangles_are : IsOneToOne rectangles → (s : List ℕ) (setting : ℕ) (list : List Rectangle) → AreOctets s → Fills rectangles s 0 (setting, list)
    → Change (change.Rectangles setting list) ≡ rectangles_say s
unfolding rectangles_say
rectangles_are law s setting list octets fills = rw ((law.reads_value s (setting, list) octets).1 fills) refl

pub no_rectangles : IsOneToOne rectangles → (s : List ℕ) (e : CodecError) (r : Refusal) → AreOctets s → e ≡ errors.Refused r → Answers rectangles s (Err e)
    → Bad ≡ rectangles_say s
unfolding rectangles_say
no_rectangles law s e r octets is answers = rw ((law.reads_reason s r octets).1 (subst (λ (x : CodecError). Answers rectangles s (Err x)) is answers)) refl

pub few_rectangles : (s : List ℕ) (setting : ℕ) (list : List Rectangle) → Fills rectangles s 0 (setting, list) → length list ≤ 65535
unfolding rectangles number
few_rectangles s setting list fills = let lt = fills.fits.1.0 in omega (arith, lt)

pub polygon_is : IsOneToOne bodies.polygon → (s : List ℕ) (p : Polygon) → AreOctets s → Fills bodies.polygon s 0 p → Change (change.Polygon p) ≡ polygon_say s
unfolding polygon_say
polygon_is law s p octets fills = rw ((law.reads_value s p octets).1 fills) refl

pub no_polygon : IsOneToOne bodies.polygon → (s : List ℕ) (e : CodecError) (r : Refusal) → AreOctets s → e ≡ errors.Refused r → Answers bodies.polygon s (Err e)
    → Bad ≡ polygon_say s
unfolding polygon_say
no_polygon law s e r octets is answers = rw ((law.reads_reason s r octets).1 (subst (λ (x : CodecError). Answers bodies.polygon s (Err x)) is answers)) refl

pub deletion_is : IsOneToOne deletion → (kind : RegionKind) (s : List ℕ) (d : Deletion) → AreOctets s → Fills deletion s 0 d
    → Change (change.Delete kind d.ids) ≡ deletion_say kind s
unfolding deletion_say
deletion_is law kind s d octets fills = rw ((law.reads_value s d octets).1 fills) refl

pub no_deletion : IsOneToOne deletion → (kind : RegionKind) (s : List ℕ) (e : CodecError) (r : Refusal) → AreOctets s → e ≡ errors.Refused r → Answers deletion s (Err e)
    → Bad ≡ deletion_say kind s
unfolding deletion_say
no_deletion law kind s e r octets is answers = rw ((law.reads_reason s r octets).1 (subst (λ (x : CodecError). Answers deletion s (Err x)) is answers)) refl

pub few_ids : (s : List ℕ) (d : Deletion) → Fills deletion s 0 d → length d.ids ≤ 65535
unfolding deletion number
few_ids s d fills = let lt = fills.fits.0 in omega (arith, lt)
