use Rattle.jt_regions.proofs.ChangeLaws.{told}
use Rattle.jt_regions.proofs.laws.law_changes.Goals as goal

pub returns : goal.returns
returns c = record {
  circles = told (λ circle. circle.id);
  rectangles = told (λ rectangle. rectangle.id);
  polygons = told (λ polygon. polygon.id);
  routes = told (λ route. route.id);
}
