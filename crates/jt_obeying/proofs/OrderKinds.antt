-- The ids of orders one by one, and the kinds of messages that orders are.
use Rattle.std.proofs.Common.{ℕ, ◌≤◌, ◌≡◌, List, arith, refl, sym, subst, true, ◌&&◌, inl, inr, Option, Some}
use Rattle.std.specs.Prelude.{◌||◌, ◌==◌, nat_le, Ok}
use Rattle.std.proofs.lemmas.Bool.{and_parts, cases_lt, eqb-true, false≢true, leb-true, or_cases}
use Rattle.jt_value.specs.declared.ids.TheConstants.{CIRCLES, CONTROL, DELETE_CIRCLES, DELETE_POLYGONS, DELETE_RECTANGLES, DELETE_ROUTES, POLYGON, RECTANGLES, ROUTE, SET_PARAMS, TEXT}
use Rattle.jt_value.specs.declared.phone.Edition.{Edition}
use Rattle.jt_codec.specs.Bodies.{body, id_of}
use Rattle.jt_codec.proofs.BodyLaws.{read_under}
use Rattle.jt_codec.specs.declared.message.Message.{Message}
use Rattle.jt_codec.specs.declared.message.Message.TheVariants as message
use Rattle.jt_order.specs.Orders.{is_order_id}

-- ---- the ids

-- what holds of each id of an order
pub record OfEach (P : ℕ → Type 0) : Type 0 where
  pub set_params : P SET_PARAMS
  pub control : P CONTROL
  pub text : P TEXT
  pub circles : P CIRCLES
  pub rectangles : P RECTANGLES
  pub polygon : P POLYGON
  pub route : P ROUTE
  pub delete_circles : P DELETE_CIRCLES
  pub delete_rectangles : P DELETE_RECTANGLES
  pub delete_polygons : P DELETE_POLYGONS
  pub delete_routes : P DELETE_ROUTES

module _ (P : ℕ → Type 0) (each : OfEach P) (id : ℕ) where
  -- the ids of regions stand one after another
  of_region : 0x8600 ≤ id → id ≤ 0x8607 → P id
  of_region from to = elim (cases_lt id 0x8601) [
    | inl lt ↦ subst P (omega (arith, from, lt)) each.circles
    | inr from1 ↦ elim (cases_lt id 0x8602) [
      | inl lt ↦ subst P (omega (arith, from1, lt)) each.delete_circles
      | inr from2 ↦ elim (cases_lt id 0x8603) [
        | inl lt ↦ subst P (omega (arith, from2, lt)) each.rectangles
        | inr from3 ↦ elim (cases_lt id 0x8604) [
          | inl lt ↦ subst P (omega (arith, from3, lt)) each.delete_rectangles
          | inr from4 ↦ elim (cases_lt id 0x8605) [
            | inl lt ↦ subst P (omega (arith, from4, lt)) each.polygon
            | inr from5 ↦ elim (cases_lt id 0x8606) [
              | inl lt ↦ subst P (omega (arith, from5, lt)) each.delete_polygons
              | inr from6 ↦ elim (cases_lt id 0x8607) [
                | inl lt ↦ subst P (omega (arith, from6, lt)) each.route
                | inr from7 ↦ subst P (omega (arith, from7, to)) each.delete_routes
              ]
            ]
          ]
        ]
      ]
    ]
  ]

  pub of_order : is_order_id id ≡ true → P id
  of_order is = elim (or_cases (id == SET_PARAMS) ((id == CONTROL) || ((id == TEXT) || (nat_le 0x8600 id && nat_le id 0x8607))) is) [
    | inl e ↦ subst P (sym (eqb-true id SET_PARAMS e)) each.set_params
    | inr others ↦ elim (or_cases (id == CONTROL) ((id == TEXT) || (nat_le 0x8600 id && nat_le id 0x8607)) others) [
      | inl e ↦ subst P (sym (eqb-true id CONTROL e)) each.control
      | inr more ↦ elim (or_cases (id == TEXT) (nat_le 0x8600 id && nat_le id 0x8607) more) [
        | inl e ↦ subst P (sym (eqb-true id TEXT e)) each.text
        | inr both ↦ of_region (leb-true 0x8600 id (and_parts (nat_le 0x8600 id) (nat_le id 0x8607) both).0) (leb-true id 0x8607 (and_parts (nat_le 0x8600 id) (nat_le id 0x8607) both).1)
      ]
    ]
  ]

-- ---- the kinds

abbrev pub IsOrderKind : Message → Type 0
IsOrderKind (message.SetParams values) = Unit {0}
IsOrderKind (message.Control command octets) = Unit {0}
IsOrderKind (message.Text flag way octets) = Unit {0}
IsOrderKind (message.Circles setting list) = Unit {0}
IsOrderKind (message.Rectangles setting list) = Unit {0}
IsOrderKind (message.Polygon region) = Unit {0}
IsOrderKind (message.Route region) = Unit {0}
IsOrderKind (message.Delete of ids) = Unit {0}
IsOrderKind (message.Opaque id octets) = Unit {0}
IsOrderKind _ = ⊥

own_id : (id own : ℕ) → ◌≡◌ {A = Option ℕ} (Some own) (Some id) → is_order_id id ≡ true → is_order_id own ≡ true
own_id id own under is = subst (λ (n : ℕ). is_order_id n ≡ true) (same_id under) is
  where
    same_id : ◌≡◌ {A = Option ℕ} (Some own) (Some id) → id ≡ own
    same_id e = cc

-- a message of another kind has another id
kind_of : (id : ℕ) (m : Message) → id_of m ≡ Some id → is_order_id id ≡ true → IsOrderKind m
kind_of id (message.SetParams values) under is = tt
kind_of id (message.Control command octets) under is = tt
kind_of id (message.Text flag way octets) under is = tt
kind_of id (message.Circles setting list) under is = tt
kind_of id (message.Rectangles setting list) under is = tt
kind_of id (message.Polygon region) under is = tt
kind_of id (message.Route region) under is = tt
kind_of id (message.Delete of ids) under is = tt
kind_of id (message.Opaque own octets) under is = tt
kind_of id (message.Part part) under is = absurd cc
kind_of id other under is = absurd (false≢true (own_id id _ under is))

-- what reads under the id of an order is of one of these kinds
pub reads_as_order : (id : ℕ) → is_order_id id ≡ true → (edition : Edition) (octets : List ℕ) (m : Message) → (body edition id).read octets 0 ≡ Ok m → IsOrderKind m
reads_as_order id is edition octets m e = kind_of id m (read_under edition id octets m e) is
