-- Orders (the standard's messages; which of them are orders is this project's own). To be believed.
use Rattle.std.specs.Prelude.{◌≡◌, ℕ, ◌≤◌, nat_le, ◌==◌, ◌&&◌, ◌||◌, Bool, true, List, length}
use Rattle.jt_value.specs.Octets.{AreOctets}
use Rattle.jt_value.specs.declared.ids.TheConstants.{CONTROL, SET_PARAMS, TEXT}
use Rattle.jt_value.specs.declared.limits.TheConstants.{BODY_LIMIT}

-- the id and the body of an order's message
pub record OrderOf : Type 0 where
  pub id : ℕ
  pub body : List ℕ

-- whether a message of this id is an order
abbrev pub is_order_id : ℕ → Bool
is_order_id id = (id == SET_PARAMS) || ((id == CONTROL) || ((id == TEXT) || (nat_le 0x8600 id && nat_le id 0x8607)))

-- it is one, and its message fits one packet
pub record IsOrder (order : OrderOf) : Type 0 where
  pub id : is_order_id order.id ≡ true
  pub fits : length order.body ≤ BODY_LIMIT
  pub octets : AreOctets order.body
