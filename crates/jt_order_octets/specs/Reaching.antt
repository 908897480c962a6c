-- Which worlds of orders steps lead to (this project's own). To be believed.
use Rattle.jt_value.specs.declared.phone.Phone.{Phone}
use Rattle.jt_value.specs.Reaching.{Leads as LeadsBy}
use Rattle.jt_header.specs.Content.{IsPhone}
use Rattle.jt_delivery.specs.World.{Setting}
use Rattle.jt_order_octets.specs.World.{OrderWorld, empty}
use Rattle.jt_order_octets.specs.Steps.{MayCome, after}

-- a list of steps leads from one world to another
abbrev pub Leads : OrderWorld → OrderWorld → Type 0
Leads old new = LeadsBy MayCome after old new

-- steps lead to the world from the one in which nothing has happened
pub record Reached (w : OrderWorld) : Type 0 where
  pub phone : Phone
  pub good : IsPhone phone
  pub setting : Setting
  pub leads : Leads (empty phone setting) w
