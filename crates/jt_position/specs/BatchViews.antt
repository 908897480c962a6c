-- What the borrowed positions of a batch stand for. To be believed.
use Rattle.std.specs.Prelude.{ℕ, Bool, List, [], is_ok}
use Rattle.std.specs.Result.{result_unwrap_or}
use Rattle.jt_layout.specs.Layout.{times, sized, word}
use Rattle.jt_position.specs.declared.position.Position.{Position}
use Rattle.jt_position.specs.declared.position_view.PositionView.{PositionView}
use Rattle.jt_position.specs.Positions.{position}

-- the position that a view is of
abbrev pub position_in_view : PositionView → Position
position_in_view view = record { fixed = view.fixed; items = view.items }

-- from p on there are so many positions, each behind its length
abbrev pub reads_positions : ℕ → List ℕ → ℕ → Bool
reads_positions n s p = is_ok ((times n (sized word position)).read s p)

-- so many positions from p on
abbrev pub positions_from : ℕ → List ℕ → ℕ → List Position
positions_from n s p = (result_unwrap_or ((times n (sized word position)).read s p) ([], p)).0
