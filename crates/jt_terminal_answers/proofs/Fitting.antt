-- What a message that fits says of its lists.
use Rattle.std.proofs.Common.{◌≡◌, ℕ, ◌≤◌, ◌<◌, ◌^◌, List, [], ◌∷◌, length, zero, suc, Some, refl, true, arith}
use Rattle.std.specs.List.{AllByRecursion}
use Rattle.std.specs.Prelude.{slice_index}
use Rattle.jt_value.specs.declared.phone.Edition.{Edition}
use Rattle.jt_value.specs.declared.phone.Edition.TheVariants.{E2013, E2019}
use Rattle.jt_layout.specs.Layout.{number, word}
use Rattle.jt_params.specs.Params.{param, params, params_reply, query_some}
use Rattle.jt_params.specs.declared.param.Param.{Param}
use Rattle.jt_params.specs.Tables.{HaveOctets}
use Rattle.jt_region_bodies.specs.Regions.{circles, rectangles, deletion}
use Rattle.jt_region_bodies.specs.declared.circle.Circle.{Circle}
use Rattle.jt_region_bodies.specs.declared.rectangle.Rectangle.{Rectangle}
use Rattle.jt_region_bodies.specs.declared.kind.RegionKind.{RegionKind}
use Rattle.jt_region_bodies.specs.declared.kind.RegionKind.TheVariants as kind
use Rattle.jt_codec.specs.Bodies.{Fits, body}
use Rattle.jt_codec.specs.Resend.{resend}
use Rattle.jt_codec.specs.declared.message.Message.TheVariants as message

params_of : (list : List Param) → params.Fits list → (length list ≤ 255) × HaveOctets list
unfolding params number
params_of list fits = (let lt = fits.0 in omega (arith, lt), fits.1.1)

pub fits_params : (edition : Edition) (list : List Param) → Fits edition (message.SetParams list) → (length list ≤ 255) × HaveOctets list
unfolding body
fits_params E2013 list fits = params_of list fits
fits_params E2019 list fits = params_of list fits

ids_of : (ids : List ℕ) → query_some.Fits ids → length ids ≤ 255
unfolding query_some number
ids_of ids fits = let lt = fits.0 in omega (arith, lt)

pub fits_ids : (edition : Edition) (ids : List ℕ) → Fits edition (message.QuerySome ids) → length ids ≤ 255
unfolding body
fits_ids E2013 ids fits = ids_of ids fits
fits_ids E2019 ids fits = ids_of ids fits

pub params_fit : (edition : Edition) (reply : ℕ) (list : List Param) → reply < 2 ^ 16 → length list ≤ 255 → HaveOctets list → Fits edition (message.Params reply list)
unfolding body params_reply number
params_fit E2013 reply list lt few are = (lt, (omega (arith, few), (refl, are)))
params_fit E2019 reply list lt few are = (lt, (omega (arith, few), (refl, are)))

circles_few : (setting : ℕ) (list : List Circle) → circles.Fits (setting, list) → length list ≤ 65535
unfolding circles number
circles_few setting list fits = let lt = fits.1.0 in omega (arith, lt)

pub fits_circles : (edition : Edition) (setting : ℕ) (list : List Circle) → Fits edition (message.Circles setting list) → length list ≤ 65535
unfolding body
fits_circles E2013 setting list fits = circles_few setting list fits
fits_circles E2019 setting list fits = absurd fits

rectangles_few : (setting : ℕ) (list : List Rectangle) → rectangles.Fits (setting, list) → length list ≤ 65535
unfolding rectangles number
rectangles_few setting list fits = let lt = fits.1.0 in omega (arith, lt)

pub fits_rectangles : (edition : Edition) (setting : ℕ) (list : List Rectangle) → Fits edition (message.Rectangles setting list) → length list ≤ 65535
unfolding body
fits_rectangles E2013 setting list fits = rectangles_few setting list fits
fits_rectangles E2019 setting list fits = absurd fits

deletion_few : (ids : List ℕ) → deletion.Fits (record { ids = ids }) → length ids ≤ 65535
unfolding deletion number
deletion_few ids fits = let lt = fits.0 in omega (arith, lt)

pub fits_deletion : (edition : Edition) (k : RegionKind) (ids : List ℕ) → Fits edition (message.Delete k ids) → length ids ≤ 65535
unfolding body
fits_deletion E2013 kind.Circle ids fits = deletion_few ids fits
fits_deletion E2013 kind.Rectangle ids fits = deletion_few ids fits
fits_deletion E2013 kind.Polygon ids fits = deletion_few ids fits
fits_deletion E2013 kind.Route ids fits = deletion_few ids fits
fits_deletion E2019 kind.Circle ids fits = deletion_few ids fits
fits_deletion E2019 kind.Rectangle ids fits = deletion_few ids fits
fits_deletion E2019 kind.Polygon ids fits = deletion_few ids fits
fits_deletion E2019 kind.Route ids fits = deletion_few ids fits

-- numbers of sixteen bits
pub all_words : (numbers : List ℕ) → ((place : ℕ) → slice_index numbers place < 2 ^ 16) → AllByRecursion word.Fits numbers
unfolding number
all_words [] small = tt
all_words (n ∷ numbers) small = (small 0, all_words numbers (λ place. small (suc place)))

pub lack_fits : (first : ℕ) (numbers : List ℕ) → first < 2 ^ 16 → length numbers ≤ 255 → AllByRecursion word.Fits numbers → Fits E2019 (message.TerminalResend (record { first = first; wide = true; numbers = numbers }))
unfolding body resend number
lack_fits first numbers lt few are = (tt, (lt, (omega (arith, few), (refl, are))))
