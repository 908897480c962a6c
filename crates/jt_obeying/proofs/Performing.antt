-- An order has the result that the terminal's answer to its message has; and with result 0 it leaves the same tables in both editions.
use Rattle.std.proofs.Common.{ℕ, ◌≡◌, List, arith, refl, sym, ◌∙◌, subst, true, Option, Some, None}
use Rattle.std.specs.Prelude.{Result, Ok, Err}
use Rattle.jt_value.specs.declared.ids.TheConstants.{CIRCLES, CONTROL, DELETE_CIRCLES, DELETE_POLYGONS, DELETE_RECTANGLES, DELETE_ROUTES, POLYGON, RECTANGLES, ROUTE, SET_PARAMS, TEXT}
use Rattle.jt_value.specs.declared.phone.Edition.TheVariants.{E2013, E2019}
use Rattle.jt_value.specs.declared.refusal.Refusal.{Refusal}
use Rattle.jt_layout.specs.Layout.{◌>>=◌, rest}
use Rattle.jt_header.specs.declared.header.Header.{Header}
use Rattle.jt_params.specs.declared.param.Param.{Param}
use Rattle.jt_params.specs.Tables.{Table}
use Rattle.jt_regions.specs.Tables.{Regions}
use Rattle.jt_codec.specs.Bodies.{body}
use Rattle.jt_codec.specs.Layouts.{octet_and_text, flag_kind_and_text}
use Rattle.jt_codec.specs.declared.message.Message.{Message}
use Rattle.jt_codec.specs.declared.message.Message.TheVariants as message
use Rattle.jt_regions.specs.declared.change.RegionChange.{RegionChange}
use Rattle.jt_regions.specs.declared.change.RegionChange.TheVariants as change
use Rattle.jt_terminal_rule.specs.declared.state.State.{State}
use Rattle.jt_terminal_rule.specs.Answers.{answer_to, takes_params, takes_regions, takes_change}
use Rattle.jt_regions.specs.Changes.{regions_after}
use Rattle.jt_terminal_rule.specs.Tables.{params_after}
use Rattle.jt_order.specs.Orders.{is_order_id}
use Rattle.jt_terminal_answers.specs.Performing.{HeldTables, with_params, with_regions, with_change, message_outcome}
use Rattle.jt_obeying.specs.Performing.{reading_outcome, AnswersWith, PerformsAsTheTerminal, EditionsLeaveTheSame}
use Rattle.jt_obeying.proofs.OrderKinds.{IsOrderKind, of_order, reads_as_order}

module _ (s : State) (h : Header) where
  abbrev tables : HeldTables
  tables = record { params = s.params; regions = s.regions }

  by_params : (params : List Param) (after : Option Table) → AnswersWith s h (takes_params s h params after) (with_params tables after)
  by_params params None = record { says = refl; params = refl; regions = refl }
  by_params params (Some table) = record { says = refl; params = refl; regions = refl }

  by_regions : (after : Option Regions) → AnswersWith s h (takes_regions s h after) (with_regions tables after)
  by_regions None = record { says = refl; params = refl; regions = refl }
  by_regions (Some regions) = record { says = refl; params = refl; regions = refl }

  by_change : (c : RegionChange) → AnswersWith s h (takes_change s h c) (with_change tables c)
  by_change c = by_regions (regions_after c s.regions)

answered_so : (s : State) (h : Header) (m : Message) → IsOrderKind m → AnswersWith s h (answer_to s h m) (message_outcome (record { params = s.params; regions = s.regions }) m)
answered_so s h (message.SetParams params) k = by_params s h params (params_after params s.params)
answered_so s h (message.Text flag kind text) k = record { says = refl; params = refl; regions = refl }
answered_so s h (message.Control command text) k = record { says = refl; params = refl; regions = refl }
answered_so s h (message.Circles setting list) k = by_change s h (change.Circles setting list)
answered_so s h (message.Rectangles setting list) k = by_change s h (change.Rectangles setting list)
answered_so s h (message.Polygon polygon) k = by_change s h (change.Polygon polygon)
answered_so s h (message.Route route) k = by_change s h (change.Route route)
answered_so s h (message.Delete kind ids) k = by_change s h (change.Delete kind ids)
answered_so s h (message.Opaque id octets) k = record { says = refl; params = refl; regions = refl }
answered_so s h _ k = absurd k

pub as_the_terminal : PerformsAsTheTerminal
as_the_terminal s h edition order m is reads =
    subst (λ (r : Result Message Refusal). AnswersWith s h (answer_to s h m) (reading_outcome (record { params = s.params; regions = s.regions }) r)) (sym reads)
    (answered_so s h m (reads_as_order order.id is.id edition order.body m reads))

-- ---- with result 0 an order leaves the same tables in both editions

abbrev LeavesTheSame : ℕ → Type 0
LeavesTheSame id = (t : HeldTables) (octets : List ℕ) → (reading_outcome t ((body E2019 id).read octets 0)).0 ≡ 0 → (reading_outcome t ((body E2019 id).read octets 0)).1 ≡ (reading_outcome t ((body E2013 id).read octets 0)).1

module _ {A : Type 0} (make : A → Message) (t : HeldTables) where
  -- what changes no tables
  leaves_all : ((x : A) → (message_outcome t (make x)).1 ≡ t) → (r : Result A Refusal) → (reading_outcome t (r >>= λ x. Ok (make x))).1 ≡ t
  leaves_all same (Ok x) = same x
  leaves_all same (Err refusal) = refl

  -- what has never result 0
  never_done : ((x : A) → (message_outcome t (make x)).0 ≡ 3) → (r : Result A Refusal) → (reading_outcome t (r >>= λ x. Ok (make x))).0 ≡ 0 → ⊥
  never_done fails (Ok x) is = absurd (omega (arith, fails x, is))
  never_done fails (Err refusal) is = absurd (omega (arith, is))

params_same : LeavesTheSame SET_PARAMS
unfolding body
params_same t octets is = refl

control_same : LeavesTheSame CONTROL
unfolding body
control_same t octets is = refl

text_same : LeavesTheSame TEXT
unfolding body
text_same t octets is = leaves_all (λ x. message.Text x.0 (Some x.1) x.2) t (λ x. refl) (flag_kind_and_text.read octets 0)
    ∙ sym (leaves_all (λ x. message.Text x.0 None x.1) t (λ x. refl) (octet_and_text.read octets 0))

circles_same : LeavesTheSame CIRCLES
unfolding body
circles_same t octets is = absurd (never_done (message.Opaque CIRCLES) t (λ x. refl) (rest.read octets 0) is)

rectangles_same : LeavesTheSame RECTANGLES
unfolding body
rectangles_same t octets is = absurd (never_done (message.Opaque RECTANGLES) t (λ x. refl) (rest.read octets 0) is)

polygon_same : LeavesTheSame POLYGON
unfolding body
polygon_same t octets is = absurd (never_done (message.Opaque POLYGON) t (λ x. refl) (rest.read octets 0) is)

route_same : LeavesTheSame ROUTE
unfolding body
route_same t octets is = absurd (never_done (message.Opaque ROUTE) t (λ x. refl) (rest.read octets 0) is)

delete_circles_same : LeavesTheSame DELETE_CIRCLES
unfolding body
delete_circles_same t octets is = refl

delete_rectangles_same : LeavesTheSame DELETE_RECTANGLES
unfolding body
delete_rectangles_same t octets is = refl

delete_polygons_same : LeavesTheSame DELETE_POLYGONS
unfolding body
delete_polygons_same t octets is = refl

delete_routes_same : LeavesTheSame DELETE_ROUTES
unfolding body
delete_routes_same t octets is = refl

order_same : (id : ℕ) → is_order_id id ≡ true → LeavesTheSame id
order_same id = of_order LeavesTheSame (record {
  set_params = params_same;
  control = control_same;
  text = text_same;
  circles = circles_same;
  rectangles = rectangles_same;
  polygon = polygon_same;
  route = route_same;
  delete_circles = delete_circles_same;
  delete_rectangles = delete_rectangles_same;
  delete_polygons = delete_polygons_same;
  delete_routes = delete_routes_same;
}) id

pub editions_leave_the_same : EditionsLeaveTheSame
editions_leave_the_same E2013 t order is done = refl
editions_leave_the_same E2019 t order is done = order_same order.id is.id t order.body done
