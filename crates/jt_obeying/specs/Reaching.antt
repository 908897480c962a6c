-- Which worlds steps lead to (this project's own). To be believed.
use Rattle.std.specs.Prelude.{ℕ, List, [], false, None}
use Rattle.jt_value.specs.declared.phone.Edition.{Edition}
use Rattle.jt_value.specs.Reaching.{Leads}
use Rattle.jt_delivery.specs.World.{Setting}
use Rattle.jt_obeying.specs.Orders.{Performing, no_tables}
use Rattle.jt_obeying.specs.World.{OrderWorld, new_line}
use Rattle.jt_obeying.specs.Steps.{May, after}

-- the world of a phone before all events: nothing is issued, performed, kept or opened
abbrev pub empty : List ℕ → Setting → Performing → Edition → OrderWorld
empty key setting performing first_edition = record {
  setting = setting;
  performing = performing;
  key = key;
  edition = first_edition;
  issued = [];
  results = [];
  log = [];
  tables = no_tables;
  using = false;
  count = 0;
  lines = λ number. new_line;
  keeper = record { registered = None; rows = [] };
  began = record { registered = None; rows = [] };
  history = [];
  refused = [];
}

-- events lead to the world from the one in which nothing has happened
pub record Reached (w : OrderWorld) : Type 0 where
  pub key : List ℕ
  pub setting : Setting
  pub performing : Performing
  pub first_edition : Edition
  pub leads : Leads May after (empty key setting performing first_edition) w
