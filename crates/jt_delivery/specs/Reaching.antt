-- Which worlds steps lead to (this project's own). To be believed.
use Rattle.std.specs.Prelude.{ℕ, List, [], false, None}
use Rattle.jt_value.specs.Reaching.{Leads}
use Rattle.jt_delivery.specs.World.{World, Setting, new_line}
use Rattle.jt_delivery.specs.Steps.{May, after}

-- the world of a phone before all events: nothing is recorded, kept or opened
abbrev pub empty : List ℕ → Setting → World
empty key setting = record {
  key = key;
  recorded = [];
  units = [];
  accepted = 0;
  using = false;
  count = 0;
  lines = λ number. new_line 0 0;
  setting = setting;
  keeper = record { registered = None; rows = [] };
  began = record { registered = None; rows = [] };
  history = [];
  told = [];
  just = None;
  takers = [];
  row_line = 0;
}

-- events lead to the world from the one in which nothing has happened
pub record Reached (w : World) : Type 0 where
  pub key : List ℕ
  pub setting : Setting
  pub leads : Leads May after (empty key setting) w
